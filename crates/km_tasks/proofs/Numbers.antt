use Rattle.std.proofs.Common.{◌≡◌, ℕ, ◌+◌, ◌≤◌, Bool, true, false, List, [], ◌∷◌, ◌++◌, filter, cond, bytes_eq, slice_set, if◌then◌else◌, arith}
use Rattle.km_base.specs.declared.acts.Reg.{Reg}
use Rattle.km_model.specs.Tasks.{Task, place_of, with_register}
use Rattle.km_tasks.specs.Lives.{AreNumbered}

-- numbers above one are above each that is less
lower : (low least high : ℕ) (tasks : List Task) → low ≤ least → AreNumbered least tasks high → AreNumbered low tasks high
lower low least high [] le n = omega (arith, le, n)
lower low least high (t ∷ tasks) le n = (let h = n.0 in omega (arith, le, h), n.1)

-- a task with the next number comes last
pub numbered_push : (low high : ℕ) (tasks : List Task) (t : Task) → t.number ≡ high + 1 → AreNumbered low tasks high → AreNumbered low (tasks ++ t ∷ []) (high + 1)
numbered_push low high [] t e n = (omega (arith, e, n), omega (arith, e))
numbered_push low high (u ∷ tasks) t e n = (n.0, numbered_push u.number high tasks t e n.1)

-- some tasks are left
pub numbered_filter : (low high : ℕ) (p : Task → Bool) (tasks : List Task) → AreNumbered low tasks high → AreNumbered low (filter p tasks) high
numbered_filter low high p [] n = n
numbered_filter low high p (t ∷ tasks) n =
    elim (p t) as (λ b. AreNumbered low (cond b (t ∷ filter p tasks) (filter p tasks)) high) [
      | true ↦ (n.0, numbered_filter t.number high p tasks n.1)
      | false ↦ lower low t.number high (filter p tasks) (let h = n.0 in omega (arith, h)) (numbered_filter t.number high p tasks n.1)
    ]

-- a register is set
pub numbered_set : (low high : ℕ) (tasks : List Task) (name : List ℕ) (reg : Reg) (value : ℕ) → AreNumbered low tasks high → AreNumbered low (with_register tasks name reg value) high
numbered_set low high [] name reg value n = n
numbered_set low high (t ∷ tasks) name reg value n =
    let Goal = λ (u : Task). AreNumbered low (u ∷ with_register tasks name reg value) high in
    elim (bytes_eq t.name name) as (λ b. Goal (if b then record t { registers = slice_set t.registers (place_of reg) value } else t)) [
      | true ↦ (n.0, numbered_set t.number high tasks name reg value n.1)
      | false ↦ (n.0, numbered_set t.number high tasks name reg value n.1)
    ]
