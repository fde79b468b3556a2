-- What a check of a journal file does.
use Rattle.std.specs.Prelude.{◌≡◌, ◌≢◌, ℕ, ◌≤◌, ◌⊎◌, List, [], ◌∷◌, ◌++◌, length, Some}
use Rattle.km_edge.specs.Streams.{SourceState, SinkState, Rose}
use Rattle.km_reader.specs.Causes.{EndsAsTold, EndsFrom, EndsOver}
use Rattle.km_reader.specs.Lines.{IsLeft, IsPrefix}
use Rattle.km_rounds.specs.declared.entry.Entry.{Entry}
use Rattle.km_entries.specs.declared.status.CheckStatus.{CheckStatus}
use Rattle.km_entries.specs.declared.status.CheckStatus.TheVariants as check
use Rattle.km_entries.specs.File.{IsJournal, check_text, journal_text, limit}
use Rattle.km_journal_laws.specs.Listings.{ListsNothingHeld, ListsTheForgotten}
use Rattle.km_journal.specs.Journals.{journals}

-- some bytes are the journal of a history that follows, and its listings are right by its own loads
pub record Proves (bytes : List ℕ) : Type 0 where
  pub words : ℕ
  pub entries : List Entry
  pub journal : IsJournal words entries
  pub text : bytes ≡ journal_text words entries
  -- what a read lists was not held in the last completed scan before it
  pub sound : ListsNothingHeld entries
  -- what two completed scans find forgotten is listed after the second
  pub complete : ListsTheForgotten entries

-- a file is checked
pub record IsChecked (s s' : SourceState) (k k' : SinkState) (ended : CheckStatus) : Type 0 where
  -- no words are good ones
  pub good_words : (n : ℕ) → ended ≢ check.BadWords n
  -- whatever the source tells: a fault of the source or the sink is answered exactly where its count rose, and some bytes
  -- were taken that have this status and this text
  pub causes : EndsFrom journals s s' k k' ended
  -- by the bytes that the source has left, what was taken of them, and what was written; of that, nothing but the first part of their text
  pub ends : (bytes : List ℕ) → s.left ≡ Some bytes → (over : EndsOver journals bytes s s' k k' ended) × IsPrefix over.written (check_text bytes)
  -- where nothing fails, status and text are those of the bytes
  pub exact : (bytes : List ℕ) → s.left ≡ Some bytes → ¬ Rose s.faults s'.faults → ¬ Rose k.faults k'.faults → ended ≢ check.NoMemory
      → EndsAsTold journals bytes k k' ended
  -- a file that is accepted was read to its end, and is a journal of which the laws of listings hold
  pub proves : ended ≡ check.Ok → Proves causes.taken × ((remaining : List ℕ) → IsLeft s'.left remaining → remaining ≡ [])

-- what is done
abbrev pub Checks : {S K : Type 0} → (S → SourceState) → (K → SinkState) → List (List ℕ) → S → S → K → K → CheckStatus → Type 0
Checks source sink [] s s' k k' ended = IsChecked (source s) (source s') (sink k) (sink k') ended
-- no word is of a form: nothing is read or written, and the place is that of the first
Checks source sink (_ ∷ _) s s' k k' ended = (ended ≡ check.BadWords 1) × (s' ≡ s) × (k' ≡ k)
