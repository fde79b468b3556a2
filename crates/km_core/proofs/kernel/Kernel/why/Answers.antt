use Rattle.std.proofs.Common.{◌∙◌, refl, sym, subst, ◌≡◌, Result, Err, rules}
use Rattle.km_base.specs.declared.acts.Act.TheVariants as acts
use Rattle.km_base.specs.declared.acts.FileCmd.TheVariants as file
use Rattle.km_base.specs.declared.acts.Answer.{Answer}
use Rattle.km_core.specs.Parts.{Answers, IsReady, Parts, StandsAs, Touches}
use Rattle.km_core.proofs.Standing.{refused_now}
use Rattle.km_core.proofs.ScanActs.{looked, why_answers, why_refused}
use Rattle.km_core.specs.Kernels.{answered}
use Rattle.km_base.specs.declared.acts.Refusal.{Refusal}
use Rattle.km_core.proofs.NoteActs.{quietly_if}
use Rattle.km_core.proofs.kernel.Kernel.why.Goals as goal

pub returns-in_err-heeds_words-clause-answers : goal.returns-in_err-heeds_words-clause-answers
returns-in_err-heeds_words-clause-answers g c =
    let i = c.self.inside in
    let p : Parts = record { words = i.words; hosts = i.hosts; objects = i.objects; settings = i.settings } in
    let ready = subst IsReady (sym c.self.view_is) c.requires.ready in
    let act = acts.File (file.Why c.args.a) in
    let why = c.in_err-heeds_words.field-0.0 in
    let is : c.from_residual.result ≡ Err why = search rules in
    subst (λ x. Answers x x act (answered c.from_residual.result)) c.self.view_is (subst (λ (o : Result Answer Refusal). Answers p p act (answered o)) (sym is)
    (refused_now p act why ready.whole refl (λ s stands reached. why_refused c.args.a why s (sym (c.heeds_words.ensures s (subst (λ x. StandsAs x s) c.self.view_is stands)) ∙ c.in_err-heeds_words.was))))

pub returns-clause-answers : goal.returns-clause-answers
returns-clause-answers g c =
    let i = c.self.inside in
    let p : Parts = record { words = i.words; hosts = i.hosts; objects = i.objects; settings = i.settings } in
    let ready = subst IsReady (sym c.self.view_is) c.requires.ready in
    let act = acts.File (file.Why c.args.a) in
    subst (λ x. Answers x x act (answered c.done_where.result)) c.self.view_is (subst (λ (x : Answer). Answers p p act x) (sym c.done_where.ensures)
    (why_answers p c.args.a c.is_some.result ready.whole (λ s stands. sym (c.heeds_words.ensures s (subst (λ x. StandsAs x s) c.self.view_is stands)) ∙ c.in_ok-heeds_words.was)
    (λ s of. c.is_some.ensures ∙ looked p.objects s c.args.a c.track.result.now c.look.result c.look.ensures c.track.ensures of)))

pub returns-clause-quiet : goal.returns-clause-quiet
returns-clause-quiet g c = λ t. subst (λ (x : Answer). Touches (acts.File (file.Why c.args.a)) x t t) (sym c.done_where.ensures) (quietly_if (acts.File (file.Why c.args.a)) c.is_some.result (λ _. refl) (λ _ _. refl) t)
