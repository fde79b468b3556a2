-- What a round needs, and what it makes.
use Rattle.std.specs.Prelude.{◌≡◌, ℕ, ◌+◌, ◌*◌, ◌<◌, ◌≤◌, ◌^◌, Bool, true, false, List, [], ◌∷◌, ◌++◌, length, map, Option, Some, None, IsTrue, if◌then◌else◌}
use Rattle.std.specs.List.{list_any}
use Rattle.km_model.specs.History.{History}
use Rattle.km_model.specs.Past.{completes, last_completed, moments_of, scans}
use Rattle.km_model.specs.Blocks.{is_among}
use Rattle.km_model.specs.Follows.{past_of}
use Rattle.km_model.specs.Held.{IsHeld}
use Rattle.km_model.specs.Verdict.{listing_ids}
use Rattle.km_laws.specs.Soundness.{standing_with}
use Rattle.km_rounds.specs.declared.entry.Entry.{Entry}
use Rattle.km_rounds.specs.Orders.{Order, words_after}
use Rattle.km_rounds.specs.Journals.{Journal, with_journal}
use Rattle.km_live_model.specs.Courses.{Mutator}
use Rattle.km_live_model.specs.Rounds.{Job, IsRound}
use Rattle.km_round_laws.specs.RoundLaws.{AreForgottenIn, AreListed, unstored}
use Rattle.km_live_map.specs.Books.{Book, IsCoreFor}
use Rattle.km_live_workers.specs.declared.workers.Job.{Job as Task}
use Rattle.km_live_workers.specs.AtBooks.{IsOpening}
use Rattle.km_live_workers.specs.Jobs.{job_of}

-- a round may be run on this book and these words
pub record MayRun (book : Book) (memory : List ℕ) (jobs : List Task) (scans gap : ℕ) : Type 0 where
  -- the journal is empty
  pub empty : book.journal ≡ []
  -- the core stands for a history, of so few events that a full journal has room
  pub begun : IsOpening book.opening book.entries
  -- there are as many words as the core's
  pub words : length memory ≡ book.opening.parts.words
  -- the gaps have room
  pub ticks : book.opening.parts.settings.now + scans * gap ≤ 2 ^ 62
  -- each job gets a thread
  pub few : length jobs ≤ 8

-- the jobs with the registers with which their mutators end
abbrev pub with_ends : List Job → List Mutator → List Job
with_ends [] ends = []
with_ends (job ∷ jobs) [] = []
with_ends (job ∷ jobs) (m ∷ ends) = record job { registers = m.registers } ∷ with_ends jobs ends

-- what the detector promises after a round
pub record IsRightAfter (words : ℕ) (h : History) (memory : List ℕ) (journal : Journal) (order : Order) : Type 0 where
  -- no listed block was held throughout the last scan that the round completed, where the steady words are those that no
  -- step of the order stores to
  pub listed_are_not_held : (k id : ℕ) → scans (past_of h) < k → last_completed (past_of (with_journal h journal)) ≡ Some k
      → IsTrue (is_among id (listing_ids (past_of (with_journal h journal))))
      → ¬ IsHeld (standing_with (unstored order memory) (moments_of k (past_of (with_journal h journal)))) id
  -- what neither the opening words nor a store of the order mentions during two scans that the round completed is listed
  -- after the second, and was new once
  pub forgotten_are_listed : (first rest : Journal) (j k : ℕ) (ids : List ℕ) → journal ≡ first ++ rest
      → AreForgottenIn words h memory (with_journal h first) order j k ids → AreListed (with_journal h first) k ids
  -- where the round completed no scan, what is listed was listed before it
  pub listed_since : list_any (λ (e : Entry). completes e.answer) journal ≡ false
      → (id : ℕ) → is_among id (listing_ids (past_of (with_journal h journal))) ≡ true → is_among id (listing_ids (past_of h)) ≡ true

-- a round was run. All of this speaks of one order of the steps of all hands
pub record HasMade (book : Book) (memory : List ℕ) (tasks : List Task) (scans gap : ℕ) (after : Book) (left : List ℕ) (done : List Task) (told : Option ℕ) : Type 0 where
  pub order : Order
  pub ends : List Mutator
  pub is_cut : Bool
  -- it is the same book
  pub about : (after.opening ≡ book.opening) × (after.entries ≡ book.entries)
  -- for each history for which the core stood, journal and order are the courses of the workers, cut only where the
  -- journal had no room
  pub is_round : (h : History) → IsCoreFor book.opening h → IsRound (length memory) h memory (map job_of tasks) scans gap book.entries after.journal order ends is_cut
  -- the core stands for it with the journal
  pub stands : (h : History) → IsCoreFor book.opening h → IsCoreFor after.core (with_journal h after.journal)
  -- and the detector is right
  pub is_right : (h : History) → IsCoreFor book.opening h → IsRightAfter (length memory) h memory after.journal order
  -- the words are those that the order leaves
  pub words : left ≡ words_after memory order
  -- the jobs have the registers with which their mutators ended
  pub jobs : map job_of done ≡ with_ends (map job_of tasks) ends
  -- it is told where an act was left out, or the scanner's course was cut
  pub full : told ≡ (if is_cut then Some book.entries else None)
