use Rattle.std.specs.Prelude.{◌≡◌, ℕ, ◌+◌, ◌<◌, ◌≤◌, Bool, true, false, ◌&&◌, ◌||◌, not, nat_le, nat_lt, ◌==◌, List, [], ◌∷◌, ◌++◌, Some}
use Rattle.km_model.specs.History.{History}
use Rattle.km_model.specs.Blocks.{Block, block_of, can_be_reported, is_among}
use Rattle.km_model.specs.World.{World}
use Rattle.km_model.specs.Past.{Past, ScanLoad, world, was_completed, last_completed, moments_of, moments_between, at_begin, end_of}
use Rattle.km_model.specs.Verdict.{last_unreferenced, listing_ids, times_new}
use Rattle.km_model.specs.Mention.{is_own_link, names}
use Rattle.km_model.specs.Follows.{Follows, FollowsMemory, past_of}
use Rattle.km_model.specs.Headline.{IsMemorySize, IsForgotten, is_live_unpainted, just_forgot}
use Rattle.km_model.specs.Members.{In}

-- whether a load doesn't mention a block from outside a set: its holder is a block of the set, it is an own link
-- of the block, or its value points neither into the block nor into its head
abbrev pub is_clear : World → List ℕ → Block → ScanLoad → Bool
is_clear w ids b l =
    (nat_lt 1 l.place.phase && is_among l.place.holder ids) || is_own_link w b l.place.word l.value || not (names w b l.value)

-- the phases that find the references to a block before the sums
abbrev pub is_before_sums : ℕ → Bool
is_before_sums phase = nat_le phase 2

-- all phases that find references
abbrev pub is_counting : ℕ → Bool
is_counting phase = not (phase == 3)

-- the load of the newest event, if it is of one of these phases, mentions no block of a set from outside
abbrev pub IsClear : (ℕ → Bool) → List ℕ → Past → Type 0
IsClear phases ids [] = Unit {0}
IsClear phases ids (m ∷ past) =
    (l : ScanLoad) → m.load ≡ Some l → phases l.place.phase ≡ true
    → (b : Block) → In b (world past).blocks → is_among b.id ids ≡ true → is_clear (world past) ids b l ≡ true

-- the load of the newest event, if it sums a block of a set, gave the value of its word
abbrev pub IsUnchanged : (ℕ → ℕ) → List ℕ → Past → Type 0
IsUnchanged value ids [] = Unit {0}
IsUnchanged value ids (m ∷ past) =
    (l : ScanLoad) → m.load ≡ Some l → l.place.phase ≡ 3 → is_among l.place.holder ids ≡ true → l.value ≡ value l.place.word

-- at a moment each block of a set is live and can be reported, and the newest event neither forgets its sum nor finds a changed word
pub record IsKept (value : ℕ → ℕ) (ids : List ℕ) (p : Past) : Type 0 where
  pub live : (id : ℕ) → is_among id ids ≡ true → is_live_unpainted id p ≡ true
  pub remembered : (b : Block) → In b (world p).blocks → is_among b.id ids ≡ true → just_forgot b p ≡ false
  pub unchanged : IsUnchanged value ids p

-- a set of blocks that stay from the begin of scan j to the end of scan k, and that the loads of these two scans don't mention from outside
pub record AreForgotten (past : Past) (j k : ℕ) (ids : List ℕ) (value : ℕ → ℕ) : Type 0 where
  pub kept : (p : Past) → In p (moments_between j k past) → IsKept value ids p
  pub first : (p : Past) → In p (moments_of j past) → IsClear is_before_sums ids p
  pub second : (p : Past) → In p (moments_of k past) → IsClear is_counting ids p

-- each of them that is old enough is unreferenced at scan k, was new once, also at each later moment, and is listed
-- while it is live and can be reported and no later scan is completed, whatever the values of other loads
abbrev pub ForgottenAreListedByLoads : Type 0
ForgottenAreListedByLoads =
    (words : ℕ) (h : History) (j k : ℕ) (ids : List ℕ) (value : ℕ → ℕ) → Follows words h
    → j < k → was_completed j (past_of h) ≡ true → last_completed (past_of h) ≡ Some k
    → AreForgotten (past_of h) j k ids value
    → (id : ℕ) (b : Block) → is_among id ids ≡ true → block_of (world (end_of k (past_of h))).blocks id ≡ Some b
    → b.born + 1000 ≤ (world (at_begin (end_of k (past_of h)))).now
    → (is_among id (last_unreferenced (past_of h)) ≡ true)
    × ((later : History) → times_new (past_of (later ++ h)) id ≡ 1)
    × ((c : Block) → block_of (world (past_of h)).blocks id ≡ Some c → can_be_reported c ≡ true → is_among id (listing_ids (past_of h)) ≡ true)

-- what was unreferenced at the last completed scan is listed while it is live and can be reported,
-- and was new at one completed scan, also at each later moment
abbrev pub UnreferencedAreListed : Type 0
UnreferencedAreListed =
    (h : History) (id : ℕ) → is_among id (last_unreferenced (past_of h)) ≡ true
    → ((later : History) → times_new (past_of (later ++ h)) id ≡ 1)
    × ((c : Block) → block_of (world (past_of h)).blocks id ≡ Some c → can_be_reported c ≡ true → is_among id (listing_ids (past_of h)) ≡ true)

-- a set that is forgotten through two completed scans as `ForgottenAreListedAt` says: each member that is old enough
-- at the second was new once, also where it was freed or painted in what came later, or a later scan was completed
abbrev pub ForgottenAreNewOnceAt : ℕ → History → History → Type 0
ForgottenAreNewOnceAt words later h =
    (j k : ℕ) (ids : List ℕ) → j < k → was_completed j (past_of h) ≡ true → last_completed (past_of h) ≡ Some k
    → ((id : ℕ) → is_among id ids ≡ true → (b : Block) × (block_of (world (end_of k (past_of h))).blocks id ≡ Some b) × IsForgotten words (past_of h) j k ids b)
    → (id : ℕ) (b : Block) → is_among id ids ≡ true → block_of (world (end_of k (past_of h))).blocks id ≡ Some b
    → b.born + 1000 ≤ (world (at_begin (end_of k (past_of h)))).now
    → times_new (past_of (later ++ h)) id ≡ 1

-- so it is over a told memory
abbrev pub ForgottenAreNewOnce : Type 0
ForgottenAreNewOnce = (words : ℕ) (h later : History) → IsMemorySize words → FollowsMemory words h → ForgottenAreNewOnceAt words later h
