use Rattle.std.proofs.Common.{◌-◌, List, vec_len}
use Rattle.km_model.specs.Tasks.{Task}
use Rattle.km_why.specs.Search.{HasRoots, KeepsPlaces}
use Rattle.km_why.specs.Told.{TellsSame, memory_of}
use Rattle.km_why.proofs.Sought.{IsAtOther}
use Rattle.km_why.proofs.search.list_others.Given as goal

abbrev pub invariant-loop-id : goal.invariant-loop-id
invariant-loop-id g l =
    TellsSame (g.W.Words.told l.fn.words) (g.W.Words.told l.words)
    × KeepsPlaces l.fn.search l.search
    × ((stacks : List Task) → HasRoots l.track stacks (memory_of (g.W.Words.told l.fn.words)) l.fn.search l.sought.generation → IsAtOther l.track stacks (memory_of (g.W.Words.told l.fn.words)) l.sought.generation l.search)

abbrev pub decreases-loop-id : goal.decreases-loop-id
decreases-loop-id g l = (g.W.Words.told l.fn.words).size - vec_len l.search.members
