use Rattle.std.proofs.Common.{◌≡◌, ◌∙◌, false, None, refl, sym, ap, subst}
use Rattle.km_base.specs.declared.acts.Act.TheVariants as acts
use Rattle.km_base.specs.declared.acts.FileCmd.TheVariants as file
use Rattle.km_base.specs.declared.acts.Answer.{Answer}
use Rattle.km_base.specs.declared.acts.Answer.TheVariants.{Refused}
use Rattle.km_base.specs.declared.acts.Refusal.TheVariants.{Disabled}
use Rattle.km_core.specs.Parts.{Answers, IsReady, Parts, Touches}
use Rattle.km_core.proofs.Standing.{refused_now}
use Rattle.km_core.proofs.ScanActs.{off_answers, off_refused, stopped, quietly_stopped}
use Rattle.km_core.proofs.kernel.Kernel.off.Goals as goal
use Rattle.km_core.proofs.kernel.Kernel.off.Goals.{in-Some, in-None}

pub returns-then-not-self-clause-answers : goal.returns-then-not-self-clause-answers
returns-then-not-self-clause-answers g c =
    let i = c.self.inside in
    let p : Parts = record { words = i.words; hosts = i.hosts; objects = i.objects; settings = i.settings } in
    let ready = subst IsReady (sym c.self.view_is) c.requires.ready in
    subst (λ x. Answers x x (acts.File file.Off) (Refused Disabled)) c.self.view_is (refused_now p (acts.File file.Off) Disabled ready.whole refl (λ s stands reached. off_refused p s stands c.if-not-self.true))

pub returns-clause-answers : goal.returns-clause-answers
returns-clause-answers g c =
    let i = c.self.inside in
    let p : Parts = record { words = i.words; hosts = i.hosts; objects = i.objects; settings = i.settings } in
    let ready = subst IsReady (sym c.self.view_is) c.requires.ready in
    let q : Parts = record p { objects = c.stop.new.self; settings = record p.settings { enabled = false; due = None } } in
    let is : stopped c.stop.result ≡ c.match-stop.result = elim c.match-stop.branch [ in-Some w ↦ ap stopped w.in-Some.is ∙ sym w.result-is | in-None w ↦ ap stopped w.in-None.is ∙ sym w.result-is ] in
    let e = c.stop.ensures in
    subst (λ x. Answers x q (acts.File file.Off) c.match-stop.result) c.self.view_is (subst (λ (x : Answer). Answers p q (acts.File file.Off) x) is
    (off_answers p c.stop.new.self c.stop.result ready.whole c.if-not-self.false e.answer e.state e.agree e.places))

pub returns-clause-quiet : goal.returns-clause-quiet
returns-clause-quiet g c = λ t.
    let is : stopped c.stop.result ≡ c.match-stop.result = elim c.match-stop.branch [ in-Some w ↦ ap stopped w.in-Some.is ∙ sym w.result-is | in-None w ↦ ap stopped w.in-None.is ∙ sym w.result-is ] in
    subst (λ (x : Answer). Touches (acts.File file.Off) x t t) is (quietly_stopped (acts.File file.Off) c.stop.result (λ _. refl) (λ _ _. refl) t)
