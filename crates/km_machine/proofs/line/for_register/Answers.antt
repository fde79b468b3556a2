use Rattle.std.proofs.Common.{◌≡◌, List, [], ◌∷◌, Ok, Err, Result, ap, sym, subst, rules}
use Rattle.km_base.specs.declared.acts.Act.{Act}
use Rattle.km_base.specs.declared.acts.Refusal.{Refusal}
use Rattle.km_model.specs.Operands.{task_or_refusal, then_do}
use Rattle.km_model.specs.Tasks.{Task}
use Rattle.km_model.specs.Expansion.{world_after, for_register}
use Rattle.km_machine.specs.Lines.{acts_of}
use Rattle.km_machine.proofs.line.for_register.Goals as goal

-- who refuses the task refuses the act
refused : (t : Result Task Refusal) (r : Refusal) (acts : List Act) (live : Result (Unit {0}) Refusal) → live ≡ Err r → live ≡ then_do t (λ _. Ok tt) → Err r ≡ then_do {B = List Act} t (λ _. Ok acts)
refused (Ok t) r acts live e f = absurd (let z : ⊥ = cc in z)
refused (Err q) r acts live e f = (let same : q ≡ r = cc in ap Err (sym same))

pub returns-in_err-live-in-Some-clause-acts : goal.returns-in_err-live-in-Some-clause-acts
returns-in_err-live-in-Some-clause-acts c = λ run stands.
    let world = world_after run.history in
    let why = c.in_err-live-in-Some.field-0.0 in
    let live : c.live.result ≡ Err why = search in
    let result : c.from_residual.result ≡ Err why = search rules in
    subst (λ x. acts_of x ≡ for_register world c.args.reg c.args.act) (sym result)
    (subst (λ r. Err why ≡ for_register world r c.args.act) (sym c.in-Some.is)
    (refused (task_or_refusal world c.in-Some.reg.task) why (c.args.act ∷ []) c.live.result live (c.live.ensures run stands)))
