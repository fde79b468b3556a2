use Rattle.std.proofs.Common.{◌≡◌, ◌<◌, ◌-◌, true, false, length, get_or, subst, sym, ◌∙◌}
use Rattle.km_chunks.specs.declared.load.Load.{Load}
use Rattle.km_model.proofs.Cases.{elim_false}
use Rattle.km_par.specs.Loaders.{Ascending}
use Rattle.km_par.proofs.Loads.{ascends}
use Rattle.km_par.proofs.fetched.Fetched.add.Goals as goal
use Rattle.km_par.proofs.fetched.Fetched.add.Goals.{then-self, else-self}

pub invariant_of-self : goal.invariant_of-self
invariant_of-self c so = subst Ascending (sym c.push.ensures.items) (elim c.if-self.branch [
  | then-self w ↦ ascends c.self.inside.loads.items c.args.load (c.self.invariant w.if-self.true)
      (subst (λ loads. 0 < length loads → (d : Load) → (get_or loads (length loads - 1) d).word.0 < c.args.load.word.0) w.as_slice.ensures.value (w.comes_last-self-inside.ensures (sym w.self-is ∙ so)))
  | else-self w ↦ (let never : false ≡ true = sym w.if-self.false ∙ (sym w.self-is ∙ so) in absurd (elim_false never))
])
