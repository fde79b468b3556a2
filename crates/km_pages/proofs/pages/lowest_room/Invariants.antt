use Rattle.km_pages.proofs.FirstFit.{Searched}
use Rattle.km_pages.proofs.pages.lowest_room.Given as goal

abbrev pub invariant-loop-p : goal.invariant-loop-p
invariant-loop-p l = Searched l.pages l.n l.p l.free
