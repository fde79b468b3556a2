use Rattle.std.specs.Prelude.{◌≡◌, ℕ, List, ◌∷◌}
use Rattle.km_base.specs.declared.acts.Act.{Act}
use Rattle.km_base.specs.declared.acts.Answer.TheVariants.{Refused}
use Rattle.km_base.specs.declared.acts.Refusal.{Refusal}
use Rattle.km_model.specs.Memory.{memory_after_act}
use Rattle.km_model.specs.Blocks.{Block}
use Rattle.km_model.specs.Past.{Past, world, scans, running_scan, loads}
use Rattle.km_model.specs.Scan.{kept_sum}
use Rattle.km_model.specs.Verdict.{listing_ids}
use Rattle.km_model.specs.Follows.{moment}

-- a refused event leaves what stands, the running scan, its loads, the kept sums, the listing and the memory
pub record LeavesAll (past : Past) (act : Act) (r : Refusal) : Type 0 where
  pub world : world (moment past act (Refused r) ∷ past) ≡ world past
  pub running : running_scan (moment past act (Refused r) ∷ past) ≡ running_scan past
  pub scans : scans (moment past act (Refused r) ∷ past) ≡ scans past
  pub loads : loads (moment past act (Refused r) ∷ past) ≡ loads past
  pub kept : (b : Block) → kept_sum (moment past act (Refused r) ∷ past) b ≡ kept_sum past b
  pub listed : listing_ids (moment past act (Refused r) ∷ past) ≡ listing_ids past
  pub memory : (words : List ℕ) → memory_after_act words act (Refused r) ≡ words

-- a refused event leaves all of these
abbrev pub RefusedLeaveAll : Type 0
RefusedLeaveAll = (past : Past) (act : Act) (r : Refusal) → LeavesAll past act r
