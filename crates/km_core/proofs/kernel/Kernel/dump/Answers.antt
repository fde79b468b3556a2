use Rattle.std.proofs.Common.{◌≡◌, ◌∙◌, refl, sym, ap, subst, Result, Err, rules}
use Rattle.km_base.specs.declared.acts.Act.TheVariants as acts
use Rattle.km_base.specs.declared.acts.FileCmd.TheVariants as file
use Rattle.km_base.specs.declared.acts.Answer.{Answer}
use Rattle.km_core.specs.Parts.{Answers, IsReady, Parts, StandsAs, Touches}
use Rattle.km_core.proofs.Standing.{refused_now}
use Rattle.km_core.proofs.ScanActs.{dump_answers, dump_refused, shown, quietly_shown}
use Rattle.km_core.specs.Kernels.{answered}
use Rattle.km_base.specs.declared.acts.Refusal.{Refusal}
use Rattle.km_core.proofs.kernel.Kernel.dump.Goals as goal
use Rattle.km_core.proofs.kernel.Kernel.dump.Goals.{in-Some, in-None}

pub returns-in_err-heeds_words-clause-answers : goal.returns-in_err-heeds_words-clause-answers
returns-in_err-heeds_words-clause-answers g c =
    let i = c.self.inside in
    let p : Parts = record { words = i.words; hosts = i.hosts; objects = i.objects; settings = i.settings } in
    let ready = subst IsReady (sym c.self.view_is) c.requires.ready in
    let why = c.in_err-heeds_words.field-0.0 in
    let is : c.from_residual.result ≡ Err why = search rules in
    subst (λ x. Answers x x (acts.File (file.Dump c.args.a)) (answered c.from_residual.result)) c.self.view_is (subst (λ (o : Result Answer Refusal). Answers p p (acts.File (file.Dump c.args.a)) (answered o)) (sym is)
    (refused_now p (acts.File (file.Dump c.args.a)) why ready.whole refl (λ s stands reached. dump_refused c.args.a why s (sym (c.heeds_words.ensures s (subst (λ x. StandsAs x s) c.self.view_is stands)) ∙ c.in_err-heeds_words.was))))

pub returns-clause-answers : goal.returns-clause-answers
returns-clause-answers g c =
    let i = c.self.inside in
    let p : Parts = record { words = i.words; hosts = i.hosts; objects = i.objects; settings = i.settings } in
    let ready = subst IsReady (sym c.self.view_is) c.requires.ready in
    let act = acts.File (file.Dump c.args.a) in
    let is : shown c.dump.result ≡ answered c.match-dump.result = elim c.match-dump.branch [ in-Some w ↦ ap shown w.in-Some.is ∙ ap answered (sym w.result-is) | in-None w ↦ ap shown w.in-None.is ∙ ap answered (sym w.result-is) ] in
    subst (λ x. Answers x x act (answered c.match-dump.result)) c.self.view_is (subst (λ (x : Answer). Answers p p act x) is
    (dump_answers p c.args.a c.dump.result ready.whole (λ s stands. sym (c.heeds_words.ensures s (subst (λ x. StandsAs x s) c.self.view_is stands)) ∙ c.in_ok-heeds_words.was) c.dump.ensures))

pub returns-clause-quiet : goal.returns-clause-quiet
returns-clause-quiet g c = λ t.
    let is : shown c.dump.result ≡ answered c.match-dump.result = elim c.match-dump.branch [ in-Some w ↦ ap shown w.in-Some.is ∙ ap answered (sym w.result-is) | in-None w ↦ ap shown w.in-None.is ∙ ap answered (sym w.result-is) ] in
    subst (λ (x : Answer). Touches (acts.File (file.Dump c.args.a)) x t t) is (quietly_shown c.args.a c.dump.result t)
