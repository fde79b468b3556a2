use Rattle.std.proofs.Common.{◌+◌, Some, refl, sym, subst}
use Rattle.km_base.specs.declared.acts.Act.TheVariants as acts
use Rattle.km_base.specs.declared.acts.Answer.TheVariants.{Done, Skipped, Refused}
use Rattle.km_base.specs.declared.acts.Refusal.TheVariants.{Disabled}
use Rattle.km_core.specs.Parts.{Answers, IsReady, Parts}
use Rattle.km_core.proofs.Standing.{refused_now}
use Rattle.km_core.proofs.ScanActs.{automatic_answers, automatic_refused, skip_answers}
use Rattle.km_core.proofs.kernel.Kernel.begin_automatic.Goals as goal

pub returns-then-not-self-clause-answers : goal.returns-then-not-self-clause-answers
returns-then-not-self-clause-answers g c =
    let i = c.self.inside in
    let p : Parts = record { words = i.words; hosts = i.hosts; objects = i.objects; settings = i.settings } in
    let ready = subst IsReady (sym c.self.view_is) c.requires.ready in
    subst (λ x. Answers x x (acts.AutoBegin) (Refused Disabled)) c.self.view_is (refused_now p (acts.AutoBegin) Disabled ready.whole refl (λ s stands reached. automatic_refused p s stands c.if-not-self.true))

pub returns-then-is_some-clause-answers : goal.returns-then-is_some-clause-answers
returns-then-is_some-clause-answers g c =
    let i = c.self.inside in
    let p : Parts = record { words = i.words; hosts = i.hosts; objects = i.objects; settings = i.settings } in
    let ready = subst IsReady (sym c.self.view_is) c.requires.ready in
    subst (λ x. Answers x (record p { settings = record p.settings { due = Some (p.settings.now + p.settings.period) } }) acts.AutoBegin Skipped) c.self.view_is
    (skip_answers p c.running.result ready.whole c.if-not-self.false c.running.ensures.running c.if-is_some.ensures)

pub returns-clause-answers : goal.returns-clause-answers
returns-clause-answers g c =
    let i = c.self.inside in
    let p : Parts = record { words = i.words; hosts = i.hosts; objects = i.objects; settings = i.settings } in
    let ready = subst IsReady (sym c.self.view_is) c.requires.ready in
    let e = c.begin.ensures in
    subst (λ x. Answers x (record p { objects = c.begin.new.self; settings = record p.settings { due = Some (p.settings.now + p.settings.period) } }) acts.AutoBegin Done) c.self.view_is
    (automatic_answers p c.begin.new.self c.running.result ready c.if-not-self.false c.running.ensures.running c.if-is_some.ensures e.state e.agree e.places)
