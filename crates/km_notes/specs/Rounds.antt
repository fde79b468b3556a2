-- A round reads nothing, so that its entries list no blocks.
use Rattle.std.specs.Prelude.{ℕ, Bool, List}
use Rattle.km_model.specs.History.{History}
use Rattle.km_rounds.specs.Orders.{Order}
use Rattle.km_rounds.specs.Journals.{Journal}
use Rattle.km_live_model.specs.Courses.{Mutator}
use Rattle.km_live_model.specs.Rounds.{Job, IsRound}
use Rattle.km_notes.specs.Notes.{ReadsNothing}

-- no entry of a round's journal reads the file
abbrev pub RoundsReadNothing : Type 0
RoundsReadNothing =
    (words : ℕ) (h : History) (memory : List ℕ) (jobs : List Job) (scans gap entries : ℕ) (journal : Journal) (order : Order) (ends : List Mutator) (full : Bool)
    → IsRound words h memory jobs scans gap entries journal order ends full → ReadsNothing journal
