-- What a check that accepts a file says of it.
use Rattle.std.specs.Prelude.{◌≡◌, ℕ, ◌^◌, ◌<◌, ◌≤◌, List, length}
use Rattle.km_entries.specs.declared.status.CheckStatus.TheVariants as check
use Rattle.km_rounds.specs.declared.entry.Entry.{Entry}
use Rattle.km_entries.specs.File.{IsJournal, Over, journal_text, limit, outcome_of}

-- a check accepts a file, and finds these events in it
abbrev pub IsAccepted : List ℕ → ℕ → List Entry → Type 0
IsAccepted bytes words ns = outcome_of bytes ≡ record { status = check.Ok; after = Over words ns }

-- a file that is accepted is the journal of a history that follows
abbrev pub AcceptedAreJournals : Type 0
AcceptedAreJournals = (bytes : List ℕ) (words : ℕ) (ns : List Entry) → IsAccepted bytes words ns → IsJournal words ns × (bytes ≡ journal_text words ns)

-- the journal of a history that follows is accepted, if it isn't too long
abbrev pub JournalsAreAccepted : Type 0
JournalsAreAccepted = (words : ℕ) (ns : List Entry) → IsJournal words ns → length (journal_text words ns) ≤ limit → IsAccepted (journal_text words ns) words ns

-- the text of a journal fixes its history
abbrev pub TextsFixHistories : Type 0
TextsFixHistories =
    (words other : ℕ) (ns ms : List Entry) → IsJournal words ns → IsJournal other ms → length ns < 2 ^ 64 → length ms < 2 ^ 64
    → journal_text words ns ≡ journal_text other ms → (words ≡ other) × (ns ≡ ms)
