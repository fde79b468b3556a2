-- What a round lists, by its journal and its order alone.
use Rattle.std.specs.Prelude.{◌≡◌, ℕ, ◌+◌, ◌<◌, ◌≤◌, Bool, true, false, ◌==◌, List, [], ◌∷◌, ◌++◌, map, Option, Some, None, IsTrue, if◌then◌else◌}
use Rattle.std.specs.List.{list_any}
use Rattle.km_model.specs.History.{Event, History}
use Rattle.km_model.specs.Memory.{base}
use Rattle.km_model.specs.Blocks.{Block, block_of, can_be_reported, is_among}
use Rattle.km_model.specs.Past.{Past, world, scans, completes, was_completed, last_completed, moments_of, moments_between, at_begin, end_of}
use Rattle.km_model.specs.Verdict.{last_unreferenced, listing_ids, times_new}
use Rattle.km_model.specs.Held.{IsHeld}
use Rattle.km_model.specs.Mention.{is_in_set, is_mentioned_in, mentions}
use Rattle.km_model.specs.Follows.{past_of}
use Rattle.km_model.specs.Headline.{IsMemorySize, is_live_unpainted, just_forgot}
use Rattle.km_model.specs.Members.{In}
use Rattle.km_words.specs.Told.{WordStep, LoadStep, StoreStep}
use Rattle.km_laws.specs.Soundness.{standing_with}
use Rattle.km_rounds.specs.Orders.{OrderStep, Order, IsLegal, steps_by}
use Rattle.km_rounds.specs.Journals.{Journal, FollowsOn, with_journal, loads_in}
use Rattle.km_live_model.specs.Courses.{Mutator}
use Rattle.km_live_model.specs.Rounds.{Job, IsRound}

-- a journal and an order are of one round: the journal follows the history, the order is legal from the words, and the
-- loads of the journal are the steps of the scanner's hand
pub record AreTied (words : ℕ) (h : History) (memory : List ℕ) (journal : Journal) (order : Order) : Type 0 where
  pub follows : FollowsOn words h journal
  pub legal : IsLegal memory order
  pub scanned : loads_in journal ≡ steps_by order 1

-- the steps of an order, whoever made them
abbrev pub steps_of : Order → List WordStep
steps_of order = map (λ (x : OrderStep). x.step) order

-- whether a step stores to a word
abbrev pub stores_to : ℕ → WordStep → Bool
stores_to a (LoadStep _ _) = false
stores_to a (StoreStep b _) = b == a

-- for each word from an address on: what it opens with, if no step stores to it
abbrev pub unstored_from : ℕ → List WordStep → List ℕ → List (Option ℕ)
unstored_from a steps [] = []
unstored_from a steps (w ∷ memory) = (if list_any (stores_to a) steps then None else Some w) ∷ unstored_from (a + 8) steps memory

-- the words that no step of an order stores to, with the values that they open with
abbrev pub unstored : Order → List ℕ → List (Option ℕ)
unstored order memory = unstored_from base (steps_of order) memory

-- a round's journal and order are
abbrev pub RoundsAreTied : Type 0
RoundsAreTied =
    (words : ℕ) (h : History) (memory : List ℕ) (jobs : List Job) (scans gap entries : ℕ) (journal : Journal) (order : Order) (ends : List Mutator) (full : Bool)
    → IsRound words h memory jobs scans gap entries journal order ends full → AreTied words h memory journal order

-- no listed block was held throughout the last completed scan of a journal, where the steady words are those that no hand stores to
abbrev pub ListedAreNotHeldInJournals : Type 0
ListedAreNotHeldInJournals =
    (words : ℕ) (h : History) (memory : List ℕ) (journal : Journal) (order : Order) (k id : ℕ) → AreTied words h memory journal order
    → scans (past_of h) < k → last_completed (past_of (with_journal h journal)) ≡ Some k
    → IsTrue (is_among id (listing_ids (past_of (with_journal h journal))))
    → ¬ IsHeld (standing_with (unstored order memory) (moments_of k (past_of (with_journal h journal)))) id

-- at a moment the sums of the blocks of a set aren't forgotten
abbrev pub AreRemembered : List ℕ → Past → Type 0
AreRemembered ids p = (b : Block) → In b (world p).blocks → is_among b.id ids ≡ true → just_forgot b p ≡ false

-- at a moment they are live and can be reported, and no hand ever stores to one of them
pub record AreLeft (order : Order) (ids : List ℕ) (p : Past) : Type 0 where
  pub live : (id : ℕ) → is_among id ids ≡ true → is_live_unpainted id p ≡ true
  pub unstored : (a value : ℕ) → In (StoreStep a value) (steps_of order) → is_in_set (world p).blocks ids a ≡ false

-- at a moment neither an opening word nor a store of a hand mentions one of them from outside the set
pub record AreUnmentioned (words : ℕ) (memory : List ℕ) (order : Order) (ids : List ℕ) (p : Past) : Type 0 where
  pub opening : (b : Block) → In b (world p).blocks → is_among b.id ids ≡ true → is_mentioned_in (world p) ids memory words b ≡ false
  pub stored : (b : Block) → In b (world p).blocks → is_among b.id ids ≡ true → (a value : ℕ) → In (StoreStep a value) (steps_of order)
      → mentions (world p) ids b a value ≡ false

-- the blocks of such a set through scans j and k, at the moment after the first entries of a journal at which k is the
-- last completed scan: those that are old enough are listed while they are live and can be reported. Each was new once,
-- whatever comes later
pub record AreListed (g : History) (k : ℕ) (ids : List ℕ) : Type 0 where
  pub unreferenced : (id : ℕ) (b : Block) → is_among id ids ≡ true → block_of (world (end_of k (past_of g))).blocks id ≡ Some b
      → b.born + 1000 ≤ (world (at_begin (end_of k (past_of g)))).now
      → (is_among id (last_unreferenced (past_of g)) ≡ true)
      × ((later : History) → times_new (past_of (later ++ g)) id ≡ 1)
      × ((c : Block) → block_of (world (past_of g)).blocks id ≡ Some c → can_be_reported c ≡ true → is_among id (listing_ids (past_of g)) ≡ true)

-- such a set through two completed scans of a journal, of which a history g is that after the first entries
pub record AreForgottenIn (words : ℕ) (h : History) (memory : List ℕ) (g : History) (order : Order) (j k : ℕ) (ids : List ℕ) : Type 0 where
  pub later : scans (past_of h) < j
  pub ordered : j < k
  pub first : was_completed j (past_of g) ≡ true
  pub second : last_completed (past_of g) ≡ Some k
  pub left : (p : Past) → In p (moments_between j k (past_of g)) → AreLeft order ids p
  pub unmentioned_first : (p : Past) → In p (moments_of j (past_of g)) → AreUnmentioned words memory order ids p
  pub unmentioned_second : (p : Past) → In p (moments_of k (past_of g)) → AreUnmentioned words memory order ids p

-- what is forgotten in a journal, and remembered by all events, is listed
abbrev pub ForgottenAreListedInJournals : Type 0
ForgottenAreListedInJournals =
    (words : ℕ) (h : History) (memory : List ℕ) (first rest : Journal) (order : Order) (j k : ℕ) (ids : List ℕ)
    → IsMemorySize words → AreTied words h memory (first ++ rest) order
    → AreForgottenIn words h memory (with_journal h first) order j k ids
    → ((p : Past) → In p (moments_between j k (past_of (with_journal h first))) → AreRemembered ids p)
    → AreListed (with_journal h first) k ids

-- no act of a round forgets a sum, so in a round what is forgotten is listed
abbrev pub ForgottenAreListedInRounds : Type 0
ForgottenAreListedInRounds =
    (words : ℕ) (h : History) (memory : List ℕ) (jobs : List Job) (scans gap entries : ℕ) (first rest : Journal) (order : Order) (ends : List Mutator) (full : Bool)
    (j k : ℕ) (ids : List ℕ) → IsMemorySize words → IsRound words h memory jobs scans gap entries (first ++ rest) order ends full
    → AreForgottenIn words h memory (with_journal h first) order j k ids
    → AreListed (with_journal h first) k ids

-- where no scan was completed since a moment, each block that is listed was listed then
abbrev pub ListedSinceAreListed : Type 0
ListedSinceAreListed =
    (h later : History) (id : ℕ) → list_any (λ (e : Event). completes e.answer) later ≡ false
    → is_among id (listing_ids (past_of (later ++ h))) ≡ true → is_among id (listing_ids (past_of h)) ≡ true
