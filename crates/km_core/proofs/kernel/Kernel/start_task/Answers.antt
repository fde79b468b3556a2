use Rattle.std.proofs.Common.{sym, subst, ◌≡◌, Result, Ok, Err, rules}
use Rattle.km_base.specs.declared.acts.Act.TheVariants as acts
use Rattle.km_base.specs.declared.acts.Answer.{Answer}
use Rattle.km_core.specs.Parts.{Answers, IsReady, Parts}
use Rattle.km_core.proofs.HostActs.{start_answers}
use Rattle.km_core.specs.Kernels.{answered}
use Rattle.km_base.specs.declared.acts.Refusal.{Refusal}
use Rattle.km_base.specs.declared.acts.Answer.TheVariants.{Done}
use Rattle.km_core.proofs.kernel.Kernel.start_task.Goals as goal

pub returns-in_err-start_task-clause-answers : goal.returns-in_err-start_task-clause-answers
returns-in_err-start_task-clause-answers g c =
    let i = c.self.inside in
    let p : Parts = record { words = i.words; hosts = i.hosts; objects = i.objects; settings = i.settings } in
    let q : Parts = record p { hosts = c.start_task.new.self } in
    let act = acts.TaskStart c.args.name in
    let e = c.in_err-start_task.ensures in
    let why = c.in_err-start_task.field-0.0 in
    let is : c.from_residual.result ≡ Err why = search rules in
    subst (λ x. Answers x q act (answered c.from_residual.result)) c.self.view_is (subst (λ (o : Result Answer Refusal). Answers p q act (answered o)) (sym is)
    (start_answers p c.start_task.new.self c.args.name (Err why) (subst IsReady (sym c.self.view_is) c.requires.ready) e.answer e.roll e.held e.refused e.pages))

pub returns-clause-answers : goal.returns-clause-answers
returns-clause-answers g c =
    let i = c.self.inside in
    let p : Parts = record { words = i.words; hosts = i.hosts; objects = i.objects; settings = i.settings } in
    let q : Parts = record p { hosts = c.start_task.new.self } in
    let act = acts.TaskStart c.args.name in
    let e = c.in_ok-start_task.ensures in
    subst (λ x. Answers x q act Done) c.self.view_is
    (start_answers p c.start_task.new.self c.args.name (Ok tt) (subst IsReady (sym c.self.view_is) c.requires.ready) e.answer e.roll e.held e.refused e.pages)
