use Rattle.std.proofs.Common.{◌*◌, ◌-◌, inl, inr, arith}
use Rattle.std.proofs.lemmas.Bool.{cases_lt}
use Rattle.km_marks.proofs.Words.{not_set}
use Rattle.km_marks.proofs.marks.lowest_mark.Goals as goal

pub returns-then-words-w-gt0-clause-lowest : goal.returns-then-words-w-gt0-clause-lowest
returns-then-words-w-gt0-clause-lowest c = λ j low high.
    let small = c.lowest_bit.ensures.small in
    elim (cases_lt j (64 * c.loop-w.w)) [
      | inl less ↦ c.loop-w.invariant j low less
      | inr more ↦ not_set c.args.words.now c.loop-w.w j more (omega (arith, high, small)) (c.lowest_bit.ensures.lowest (j - 64 * c.loop-w.w) (omega (arith, high, more)))
    ]
