use Rattle.std.proofs.Common.{not, ◌∙◌, refl, sym, ap, subst}
use Rattle.km_base.specs.declared.acts.Act.TheVariants as acts
use Rattle.km_base.specs.declared.acts.Answer.TheVariants.{Loaded, Refused}
use Rattle.km_base.specs.declared.acts.Refusal.TheVariants.{BadAddress, NoTask}
use Rattle.km_core.specs.Parts.{Answers, IsReady, Parts}
use Rattle.km_core.proofs.Standing.{refused_now}
use Rattle.km_core.proofs.TaskActs.{load_outside, load_unnamed, loaded_answers, set_by}
use Rattle.km_core.proofs.BlockActs.{task_known}
use Rattle.km_core.proofs.kernel.Kernel.load.Goals as goal

pub returns-then-is_err-clause-answers : goal.returns-then-is_err-clause-answers
returns-then-is_err-clause-answers g c =
    let i = c.self.inside in
    let p : Parts = record { words = i.words; hosts = i.hosts; objects = i.objects; settings = i.settings } in
    let ready = subst IsReady (sym c.self.view_is) c.requires.ready in
    let act = acts.Load c.args.task c.args.reg c.args.a.0 in
    subst (λ x. Answers x x act (Refused NoTask)) c.self.view_is
    (refused_now p act NoTask ready.whole refl (λ s stands reached. load_unnamed p c.args.task c.args.reg c.args.a.0 s stands
    (task_known c.reg.result c.tasks.result.now i.hosts.roll c.args.task c.args.reg c.tasks.ensures c.reg.ensures ∙ ap not (sym c.if-is_err.ensures.value))))

pub returns-then-not-in_memory-clause-answers : goal.returns-then-not-in_memory-clause-answers
returns-then-not-in_memory-clause-answers g c =
    let i = c.self.inside in
    let p : Parts = record { words = i.words; hosts = i.hosts; objects = i.objects; settings = i.settings } in
    let ready = subst IsReady (sym c.self.view_is) c.requires.ready in
    let act = acts.Load c.args.task c.args.reg c.args.a.0 in
    subst (λ x. Answers x x act (Refused BadAddress)) c.self.view_is
    (refused_now p act BadAddress ready.whole refl (λ s stands reached. load_outside p c.args.task c.args.reg c.args.a.0 s stands
    (task_known c.reg.result c.tasks.result.now i.hosts.roll c.args.task c.args.reg c.tasks.ensures c.reg.ensures ∙ ap not (sym c.if-is_err.ensures.value))
    (sym c.if-not-in_memory.ensures)))

pub returns-clause-answers : goal.returns-clause-answers
returns-clause-answers g c =
    let i = c.self.inside in
    let p : Parts = record { words = i.words; hosts = i.hosts; objects = i.objects; settings = i.settings } in
    let ready = subst IsReady (sym c.self.view_is) c.requires.ready in
    let there = task_known c.reg.result c.tasks.result.now i.hosts.roll c.args.task c.args.reg c.tasks.ensures c.reg.ensures ∙ ap not (sym c.if-is_err.ensures.value) in
    subst (λ x. Answers x (record p { hosts = c.set_reg.new.self }) (acts.Load c.args.task c.args.reg c.args.a.0) (Loaded c.args.a.0 c.load-value.result)) c.self.view_is
    (loaded_answers p c.set_reg.new.self c.args.task c.args.reg c.args.a.0 c.load-value.result ready there (sym c.if-not-in_memory.ensures)
    (set_by p c.set_reg.new.self c.args.task c.args.reg c.load-value.result c.set_reg.result there c.set_reg.ensures.answer c.set_reg.ensures.set))
