use Rattle.std.proofs.Common.{List, [], length}
use Rattle.km_model.specs.Tasks.{Task}
use Rattle.km_track.specs.Tracker.{live_from}
use Rattle.km_why.specs.Search.{HasListed, KeepsPlaces}
use Rattle.km_why.specs.Told.{TellsSame, memory_of}
use Rattle.km_why.proofs.Cleared.{IsTour}
use Rattle.km_why.proofs.Sought.{IsAtRoot}
use Rattle.km_why.proofs.search.list_roots.Given as goal

abbrev pub invariant-loop-next : goal.invariant-loop-next
invariant-loop-next g l =
    TellsSame (g.W.Words.told l.fn.words) (g.W.Words.told l.words)
    × KeepsPlaces l.fn.search l.search
    × IsTour l.track.live l.next
    × ((stacks : List Task) → HasListed l.track stacks (memory_of (g.W.Words.told l.fn.words)) l.fn.search [] [] → IsAtRoot l.track stacks (memory_of (g.W.Words.told l.fn.words)) l.sought.generation l.next l.search)

abbrev pub decreases-loop-next : goal.decreases-loop-next
decreases-loop-next g l = length (live_from l.next l.track.live)
