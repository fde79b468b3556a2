use Rattle.std.proofs.Common.{◌≡◌, ◌∙◌, sym, ap, subst}
use Rattle.km_base.specs.declared.acts.Act.TheVariants as acts
use Rattle.km_base.specs.declared.acts.Answer.{Answer}
use Rattle.km_core.specs.Parts.{Answers, IsReady, Parts, Touches}
use Rattle.km_core.proofs.ScanActs.{halt_answers, halted, quietly_halted}
use Rattle.km_core.specs.Kernels.{answered}
use Rattle.km_core.proofs.kernel.Kernel.halt.Goals as goal
use Rattle.km_core.proofs.kernel.Kernel.halt.Goals.{in-Some, in-None}

pub returns-clause-answers : goal.returns-clause-answers
returns-clause-answers g c =
    let i = c.self.inside in
    let p : Parts = record { words = i.words; hosts = i.hosts; objects = i.objects; settings = i.settings } in
    let ready = subst IsReady (sym c.self.view_is) c.requires.ready in
    let q : Parts = record p { objects = c.stop.new.self } in
    let is : halted c.stop.result ≡ answered c.match-stop.result = elim c.match-stop.branch [ in-Some w ↦ ap halted w.in-Some.is ∙ ap answered (sym w.result-is) | in-None w ↦ ap halted w.in-None.is ∙ ap answered (sym w.result-is) ] in
    let e = c.stop.ensures in
    subst (λ x. Answers x q acts.Halt (answered c.match-stop.result)) c.self.view_is (subst (λ (x : Answer). Answers p q acts.Halt x) is
    (halt_answers p c.stop.new.self c.stop.result ready.whole e.answer e.state e.idle e.agree e.places))

pub returns-clause-quiet : goal.returns-clause-quiet
returns-clause-quiet g c = λ t.
    let is : halted c.stop.result ≡ answered c.match-stop.result = elim c.match-stop.branch [ in-Some w ↦ ap halted w.in-Some.is ∙ ap answered (sym w.result-is) | in-None w ↦ ap halted w.in-None.is ∙ ap answered (sym w.result-is) ] in
    subst (λ (x : Answer). Touches (acts.Halt) x t t) is (quietly_halted c.stop.result t)
