use Rattle.std.proofs.Common.{refl, sym, subst}
use Rattle.km_base.specs.declared.acts.Act.TheVariants as acts
use Rattle.km_base.specs.declared.acts.FileCmd.TheVariants as file
use Rattle.km_base.specs.declared.acts.Answer.TheVariants.{Done, Refused}
use Rattle.km_base.specs.declared.acts.Refusal.TheVariants.{Busy}
use Rattle.km_core.specs.Parts.{Answers, IsReady, Parts}
use Rattle.km_core.proofs.Standing.{refused_now}
use Rattle.km_core.proofs.ScanActs.{clear_refused, cleared, dropped}
use Rattle.km_core.proofs.kernel.Kernel.clear.Goals as goal

pub returns-in-Some-clause-answers : goal.returns-in-Some-clause-answers
returns-in-Some-clause-answers g c =
    let i = c.self.inside in
    let p : Parts = record { words = i.words; hosts = i.hosts; objects = i.objects; settings = i.settings } in
    let ready = subst IsReady (sym c.self.view_is) c.requires.ready in
    subst (λ x. Answers x x (acts.File file.Clear) (Refused (Busy c.in-Some.scan))) c.self.view_is (refused_now p (acts.File file.Clear) (Busy c.in-Some.scan) ready.whole refl (λ s stands reached. clear_refused c.in-Some.scan s (c.in-Some.ensures.running s stands.objects)))

pub returns-then-self-clause-answers : goal.returns-then-self-clause-answers
returns-then-self-clause-answers g c =
    let i = c.self.inside in
    let p : Parts = record { words = i.words; hosts = i.hosts; objects = i.objects; settings = i.settings } in
    let ready = subst IsReady (sym c.self.view_is) c.requires.ready in
    let e = c.clear.ensures in
    subst (λ x. Answers x (record p { objects = c.clear.new.self }) (acts.File file.Clear) Done) c.self.view_is
    (cleared p c.clear.new.self ready.whole c.if-self.true c.in_default.ensures.running e.state e.agree e.places)

pub returns-else-self-clause-answers : goal.returns-else-self-clause-answers
returns-else-self-clause-answers g c =
    let i = c.self.inside in
    let p : Parts = record { words = i.words; hosts = i.hosts; objects = i.objects; settings = i.settings } in
    let ready = subst IsReady (sym c.self.view_is) c.requires.ready in
    let e = c.drop_all.ensures in
    subst (λ x. Answers x (record p { objects = c.drop_all.new.self }) (acts.File file.Clear) Done) c.self.view_is
    (dropped p c.drop_all.new.self ready.whole c.if-self.false c.in_default.ensures.running e.state e.agree e.places)
