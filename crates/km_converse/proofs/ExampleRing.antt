use Rattle.std.proofs.Common.{◌≡◌, ℕ, ◌+◌, false, List, [], ◌∷◌, Some, None, refl}
use Rattle.km_base.specs.declared.acts.Act.{Act}
use Rattle.km_base.specs.declared.acts.Act.TheVariants.{Store, Kmalloc, NoScan, Tick, File}
use Rattle.km_base.specs.declared.acts.FileCmd.TheVariants.{Scan}
use Rattle.km_model.specs.Memory.{base}
use Rattle.km_model.specs.History.{History}
use Rattle.km_model.specs.Blocks.{Block, AtLeast, block_of}
use Rattle.km_model.specs.Past.{world, last_completed, moments_of, end_of}
use Rattle.km_model.specs.Scan.{next}
use Rattle.km_model.specs.Verdict.{listing_ids}
use Rattle.km_model.specs.Follows.{past_of, first_run, happens, all_happen}
use Rattle.km_model.specs.Expansion.{steps}
use Rattle.km_model.specs.Headline.{IsForgotten, is_unmentioned}
use Rattle.km_model.specs.Answers.{answer}
use Rattle.km_model.specs.Changes.{world_after_act}

-- two blocks refer to each other, and nothing else to them
abbrev ring : List Act
ring =
    NoScan base ∷ Kmalloc 8 ∷ Kmalloc 8 ∷ Store (base + 0x1000) (base + 0x1008) ∷ Store (base + 0x1008) (base + 0x1000) ∷ Tick 1000 ∷ File Scan ∷ []

-- through two scans
abbrev scanned : History
scanned = (steps 9 (happens (steps 9 (all_happen (first_run 1024) ring)) (File Scan))).history

completed : last_completed (past_of scanned) ≡ Some 2
unfolding answer next world_after_act
completed = refl

abbrev block : ℕ → ℕ → Block
block id start = record { id = id; start = start; size = 8; born = 0; minimum = AtLeast 1; no_scan = false; areas = []; excess = None }

-- each is forgotten in the set of both
abbrev IsForgottenHere : ℕ → Type 0
IsForgottenHere id = (b : Block) × (block_of (world (end_of 2 (past_of scanned))).blocks id ≡ Some b) × IsForgotten 1024 (past_of scanned) 1 2 (1 ∷ 2 ∷ []) b

first_forgotten : IsForgottenHere 1
unfolding answer next world_after_act
first_forgotten = (block 1 (base + 0x1000), refl, (refl, refl, refl, refl, refl))

second_forgotten : IsForgottenHere 2
unfolding answer next world_after_act
second_forgotten = (block 2 (base + 0x1008), refl, (refl, refl, refl, refl, refl))

-- and both are listed
ring_listed : listing_ids (past_of scanned) ≡ 1 ∷ 2 ∷ []
unfolding answer next world_after_act
ring_listed = refl

-- neither is forgotten alone, since the other mentions it
alone_mentioned : is_unmentioned 1024 (1 ∷ []) (block 1 (base + 0x1000)) (moments_of 2 (past_of scanned)) ≡ false
unfolding answer next world_after_act
alone_mentioned = refl
