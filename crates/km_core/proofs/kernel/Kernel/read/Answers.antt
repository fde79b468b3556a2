use Rattle.std.proofs.Common.{◌≡◌, ◌∙◌, sym, ap, subst}
use Rattle.km_base.specs.declared.acts.Act.TheVariants as acts
use Rattle.km_base.specs.declared.acts.Answer.{Answer}
use Rattle.km_core.specs.Parts.{Answers, IsReady, Parts, Touches}
use Rattle.km_core.proofs.ScanActs.{busy_or_done, read_answers, quietly_read}
use Rattle.km_core.specs.Kernels.{answered}
use Rattle.km_core.proofs.kernel.Kernel.read.Goals as goal
use Rattle.km_core.proofs.kernel.Kernel.read.Goals.{in-Some, in-None}

pub returns-clause-answers : goal.returns-clause-answers
returns-clause-answers g c =
    let i = c.self.inside in
    let p : Parts = record { words = i.words; hosts = i.hosts; objects = i.objects; settings = i.settings } in
    let ready = subst IsReady (sym c.self.view_is) c.requires.ready in
    let is : busy_or_done c.running.result ≡ answered c.match-running.result = elim c.match-running.branch [ in-Some w ↦ ap busy_or_done w.in-Some.is ∙ ap answered (sym w.result-is) | in-None w ↦ ap busy_or_done w.in-None.is ∙ ap answered (sym w.result-is) ] in
    subst (λ x. Answers x x acts.Read (answered c.match-running.result)) c.self.view_is (subst (λ (x : Answer). Answers p p acts.Read x) is (read_answers p c.running.result ready.whole c.running.ensures.running))

pub returns-clause-quiet : goal.returns-clause-quiet
returns-clause-quiet g c = λ t.
    let is : busy_or_done c.running.result ≡ answered c.match-running.result = elim c.match-running.branch [ in-Some w ↦ ap busy_or_done w.in-Some.is ∙ ap answered (sym w.result-is) | in-None w ↦ ap busy_or_done w.in-None.is ∙ ap answered (sym w.result-is) ] in
    subst (λ (x : Answer). Touches (acts.Read) x t t) is (quietly_read c.running.result t)
