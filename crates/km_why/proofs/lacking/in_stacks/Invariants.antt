use Rattle.std.proofs.Common.{ℕ, ltb, length, flat_map, filter}
use Rattle.km_model.specs.Tasks.{Task, stack_words}
use Rattle.km_tasks.specs.Lives.{AreNumbered}
use Rattle.km_why.specs.Told.{TellsSame, memory_of}
use Rattle.km_why.proofs.Walks.{IsLacking, stacks_after}
use Rattle.km_why.proofs.lacking.in_stacks.Given as goal

abbrev pub invariant-loop-number : goal.invariant-loop-number
invariant-loop-number g l =
    TellsSame (g.W.Words.told l.fn.words) (g.W.Words.told l.words)
    × ((high : ℕ) → AreNumbered 0 l.tasks.tasks high
    → IsLacking (memory_of (g.W.Words.told l.fn.words)) l.aim.target l.aim.but l.fn.wanted (flat_map stack_words l.tasks.tasks) l.lacking (stacks_after l.tasks.tasks l.last))

abbrev pub decreases-loop-number : goal.decreases-loop-number
decreases-loop-number g l = length (filter (λ (t : Task). ltb l.last t.number) l.tasks.tasks)
