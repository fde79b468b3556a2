use Rattle.std.proofs.Common.{flat_map}
use Rattle.km_model.specs.Blocks.{scanned_words}
use Rattle.km_why.specs.Told.{TellsSame, blocks_by, memory_of}
use Rattle.km_why.proofs.Walks.{IsLacking}
use Rattle.km_why.proofs.Chosen.{blocks_after}
use Rattle.km_why.proofs.lacking.in_blocks.Given as goal

abbrev pub invariant-loop-id : goal.invariant-loop-id
invariant-loop-id g l =
    TellsSame (g.W.Words.told l.fn.words) (g.W.Words.told l.words)
    × IsLacking (memory_of (g.W.Words.told l.fn.words)) l.aim.target l.aim.but l.fn.wanted (flat_map scanned_words (blocks_by l.track l.before)) l.lacking (blocks_after l.track l.before l.id-index)
