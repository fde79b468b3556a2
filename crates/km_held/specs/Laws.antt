-- Laws of what is held at a moment.
use Rattle.std.specs.Prelude.{◌≡◌, ℕ, ◌+◌, ◌↔◌, List, [], None, IsTrue}
use Rattle.km_base.specs.declared.acts.Act.TheVariants.{File}
use Rattle.km_base.specs.declared.acts.FileCmd.TheVariants.{Scan}
use Rattle.km_model.specs.History.{History}
use Rattle.km_model.specs.Members.{Each, In}
use Rattle.km_model.specs.Blocks.{Block, is_among}
use Rattle.km_model.specs.Past.{world, scans}
use Rattle.km_model.specs.Verdict.{listing_ids}
use Rattle.km_model.specs.Follows.{FollowsMemory, Run, happens, past_of, run_of}
use Rattle.km_model.specs.Expansion.{ScansIfBegun, newest_is_done}
use Rattle.km_model.specs.Headline.{IsMemorySize}
use Rattle.km_model.specs.Held.{IsHeld, standing_in}
use Rattle.km_certificates.specs.Certificates.{first_unfit, is_held, list_of, standing_after}

-- the list of a block has it exactly where the block is held
abbrev pub ListsAreComplete : Type 0
ListsAreComplete = (words : ℕ) (h : History) (id : ℕ) → IsTrue (is_held (standing_after words h) id) ↔ IsHeld (standing_after words h) id

-- each member of a list is held
abbrev pub MembersAreHeld : Type 0
MembersAreHeld = (words : ℕ) (h : History) (id : ℕ) → Each (λ (b : Block). IsHeld (standing_after words h) b.id) (list_of (standing_after words h) id)

-- a check of a list finds nothing: each member may stand where it does
abbrev pub ListsAreConfirmed : Type 0
ListsAreConfirmed = (words : ℕ) (h : History) (id : ℕ) → first_unfit (standing_after words h) 1 [] (list_of (standing_after words h) id) ≡ None

-- each block of a list in which each may stand where it does is held
abbrev pub CheckedAreHeld : Type 0
CheckedAreHeld =
    (words : ℕ) (h : History) (bs : List Block) → Each (λ b. In b (world (past_of h)).blocks) bs → first_unfit (standing_after words h) 1 [] bs ≡ None
    → Each (λ (b : Block). IsHeld (standing_after words h) b.id) bs

-- what is held where a whole scan begins is held throughout that scan, and isn't listed after it
abbrev pub HeldThroughTheScan : Type 0
HeldThroughTheScan =
    (words : ℕ) (h : History) (after : Run) (id : ℕ) → IsMemorySize words → FollowsMemory words h
    → IsTrue (newest_is_done (happens (run_of words h) (File Scan)).history) → ScansIfBegun (happens (run_of words h) (File Scan)) after
    → IsHeld (standing_after words h) id
    → IsHeld (standing_in words (past_of after.history) (scans (past_of h) + 1)) id × (IsTrue (is_among id (listing_ids (past_of after.history))) → ⊥)
