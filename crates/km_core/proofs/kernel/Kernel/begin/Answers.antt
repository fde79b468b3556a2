use Rattle.std.proofs.Common.{◌∙◌, refl, sym, subst, ◌≡◌, Result, Err, rules}
use Rattle.km_base.specs.declared.acts.Act.TheVariants as acts
use Rattle.km_base.specs.declared.acts.FileCmd.TheVariants as file
use Rattle.km_base.specs.declared.acts.Answer.TheVariants.{Done}
use Rattle.km_core.specs.Parts.{Answers, IsReady, Parts, StandsAs}
use Rattle.km_core.proofs.Standing.{refused_now}
use Rattle.km_core.proofs.ScanActs.{begin_answers, scan_refused}
use Rattle.km_core.specs.Kernels.{answered}
use Rattle.km_base.specs.declared.acts.Answer.{Answer}
use Rattle.km_base.specs.declared.acts.Refusal.{Refusal}
use Rattle.km_core.proofs.kernel.Kernel.begin.Goals as goal

pub returns-in_err-heeds_words-clause-answers : goal.returns-in_err-heeds_words-clause-answers
returns-in_err-heeds_words-clause-answers g c =
    let i = c.self.inside in
    let p : Parts = record { words = i.words; hosts = i.hosts; objects = i.objects; settings = i.settings } in
    let ready = subst IsReady (sym c.self.view_is) c.requires.ready in
    let why = c.in_err-heeds_words.field-0.0 in
    let is : c.from_residual.result ≡ Err why = search rules in
    subst (λ x. Answers x x (acts.File file.Scan) (answered c.from_residual.result)) c.self.view_is (subst (λ (o : Result Answer Refusal). Answers p p (acts.File file.Scan) (answered o)) (sym is)
    (refused_now p (acts.File file.Scan) why ready.whole refl (λ s stands reached. scan_refused why s (sym (c.heeds_words.ensures s (subst (λ x. StandsAs x s) c.self.view_is stands)) ∙ c.in_err-heeds_words.was))))

pub returns-clause-answers : goal.returns-clause-answers
returns-clause-answers g c =
    let i = c.self.inside in
    let p : Parts = record { words = i.words; hosts = i.hosts; objects = i.objects; settings = i.settings } in
    let ready = subst IsReady (sym c.self.view_is) c.requires.ready in
    let e = c.begin.ensures in
    subst (λ x. Answers x (record p { objects = c.begin.new.self }) (acts.File file.Scan) Done) c.self.view_is
    (begin_answers p c.begin.new.self ready (λ s stands. sym (c.heeds_words.ensures s (subst (λ x. StandsAs x s) c.self.view_is stands)) ∙ c.in_ok-heeds_words.was) e.state e.agree e.places)
