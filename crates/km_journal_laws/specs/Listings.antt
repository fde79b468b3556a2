-- What the listings of a journal say of the loads of its scans.
use Rattle.std.specs.Prelude.{◌≡◌, ℕ, ◌+◌, ◌<◌, ◌≤◌, Bool, true, false, List, [], ◌∷◌, ◌++◌, Option, Some, IsTrue}
use Rattle.km_model.specs.History.{History}
use Rattle.km_model.specs.Blocks.{Block, block_of, can_be_reported, contains, is_among}
use Rattle.km_model.specs.Past.{Past, ScanLoad, world, loads, was_completed, last_completed, moments_of, moments_between, at_begin, end_of}
use Rattle.km_model.specs.Verdict.{listing_ids, times_new}
use Rattle.km_model.specs.Held.{IsHeld}
use Rattle.km_model.specs.Mention.{is_own_link, names}
use Rattle.km_model.specs.Follows.{past_of}
use Rattle.km_model.specs.Headline.{is_live_unpainted, just_forgot}
use Rattle.km_model.specs.Members.{In}
use Rattle.km_laws.specs.Soundness.{AreFound, standing_with}
use Rattle.km_converse.specs.Converse.{is_before_sums, is_counting}
use Rattle.km_rounds.specs.declared.entry.Entry.{Entry}
use Rattle.km_entries.specs.File.{history_in}
use Rattle.km_journal_laws.specs.Accepted.{IsAccepted}

-- a moment of a journal: the history of its first events
abbrev pub IsMomentOf : History → List Entry → Type 0
IsMomentOf h ns = (later : History) × (history_in ns ≡ later ++ h)

-- take any values for words, such that the loads of the first two phases of the last completed scan found these at each of the words
-- that has one: no block that a read lists then was held in that scan, where the words with a value are the steady ones
abbrev pub ListsNothingHeld : List Entry → Type 0
ListsNothingHeld ns =
    (h : History) (values : List (Option ℕ)) (k id : ℕ) → IsMomentOf h ns
    → last_completed (past_of h) ≡ Some k → AreFound values (loads (end_of k (past_of h))) → IsTrue (is_among id (listing_ids (past_of h)))
    → ¬ IsHeld (standing_with values (moments_of k (past_of h))) id

-- a file that a check accepts lists no block that was held
abbrev pub ListedInJournalsAreNotHeld : Type 0
ListedInJournalsAreNotHeld = (bytes : List ℕ) (words : ℕ) (ns : List Entry) → IsAccepted bytes words ns → ListsNothingHeld ns

-- the load of the newest event, if it is of one of these phases, lies outside a block and is no own link of it,
-- points neither into the block nor into its head
abbrev pub IsUnnamed : (ℕ → Bool) → ℕ → Past → Type 0
IsUnnamed phases id [] = Unit {0}
IsUnnamed phases id (m ∷ past) =
    (l : ScanLoad) → m.load ≡ Some l → phases l.place.phase ≡ true
    → (b : Block) → In b (world past).blocks → b.id ≡ id
    → contains l.place.word b ≡ false → is_own_link (world past) b l.place.word l.value ≡ false → names (world past) b l.value ≡ false

-- the load of the newest event, if it is of a word of a block, gave the value of that word
abbrev pub IsAgreed : (ℕ → ℕ) → ℕ → Past → Type 0
IsAgreed value id [] = Unit {0}
IsAgreed value id (m ∷ past) =
    (l : ScanLoad) → m.load ≡ Some l
    → (b : Block) → In b (world past).blocks → b.id ≡ id → contains l.place.word b ≡ true → l.value ≡ value l.place.word

-- at a moment a block is live and can be reported, and the newest event neither forgets its sum nor loads another value of one of its words
pub record IsStill (value : ℕ → ℕ) (id : ℕ) (p : Past) : Type 0 where
  pub live : is_live_unpainted id p ≡ true
  pub remembered : (b : Block) → In b (world p).blocks → b.id ≡ id → just_forgot b p ≡ false
  pub agreed : IsAgreed value id p

-- a block that stays so from the begin of scan j to the end of scan k, and that no load of these two scans outside it names;
-- of scan j the loads before the sums are enough
pub record IsLeftAlone (past : Past) (j k id : ℕ) (value : ℕ → ℕ) : Type 0 where
  pub still : (p : Past) → In p (moments_between j k past) → IsStill value id p
  pub first : (p : Past) → In p (moments_of j past) → IsUnnamed is_before_sums id p
  pub second : (p : Past) → In p (moments_of k past) → IsUnnamed is_counting id p

-- at each moment after scan k at which no later scan is completed a read lists it while it is live and can be reported,
-- if it was old enough at scan k, and it was new once in the whole journal
abbrev pub ListsTheForgotten : List Entry → Type 0
ListsTheForgotten ns =
    (h : History) (j k id : ℕ) (value : ℕ → ℕ) → IsMomentOf h ns
    → j < k → was_completed j (past_of h) ≡ true → last_completed (past_of h) ≡ Some k → IsLeftAlone (past_of h) j k id value
    → (b : Block) → block_of (world (end_of k (past_of h))).blocks id ≡ Some b → b.born + 1000 ≤ (world (at_begin (end_of k (past_of h)))).now
    → ((c : Block) → block_of (world (past_of h)).blocks id ≡ Some c → can_be_reported c ≡ true → is_among id (listing_ids (past_of h)) ≡ true)
    × (times_new (past_of (history_in ns)) id ≡ 1)

-- a file that a check accepts lists what two of its scans find forgotten
abbrev pub ForgottenInJournalsAreListed : Type 0
ForgottenInJournalsAreListed = (bytes : List ℕ) (words : ℕ) (ns : List Entry) → IsAccepted bytes words ns → ListsTheForgotten ns
