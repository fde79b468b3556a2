-- What the program does, by what the words behind its name ask for.
use Rattle.std.specs.Prelude.{◌≡◌, ◌≢◌, ℕ, List, [], ◌⊎◌, Some, Result, Ok, Err}
use Rattle.km_base.specs.declared.status.Status.{Status}
use Rattle.km_base.specs.declared.status.Status.TheVariants as status
use Rattle.km_edge.specs.Streams.{SourceState, SinkState, Rose}
use Rattle.km_forms.specs.declared.words.Form.{Form}
use Rattle.km_forms.specs.declared.words.Form.TheVariants as form
use Rattle.km_forms.specs.Checks.{checked}
use Rattle.km_reader.specs.Causes.{EndsAsTold, EndsFrom, EndsOver, Language}
use Rattle.km_engine.specs.Bench.{BenchEnds}
use Rattle.km_engine.specs.Headline.{Headline}
use Rattle.km_engine.specs.Outcome.{scripts}

-- how a script ends that is run or checked
pub record IsAnswered (l : Language Status) (s s' : SourceState) (k k' : SinkState) (ended : Status) : Type 0 where
  -- the words of a form are good
  pub good_words : (n : ℕ) → ended ≢ status.BadWords n
  -- whatever the source tells: a fault of the source or the sink is answered exactly where its count rose, and some bytes
  -- were taken that have this status and this output
  pub causes : EndsFrom l s s' k k' ended
  -- by the bytes that the source has left, what was taken of them, and what was written
  pub ends : (bytes : List ℕ) → s.left ≡ Some bytes → EndsOver l bytes s s' k k' ended
  -- where nothing fails, status and output are those of the bytes, however they come in pieces
  pub exact : (bytes : List ℕ) → s.left ≡ Some bytes → ¬ Rose s.faults s'.faults → ¬ Rose k.faults k'.faults → ended ≢ status.NoMemory
      → EndsAsTold l bytes k k' ended
  -- where no line is refused, either, nothing is left
  pub complete : (bytes : List ℕ) → s.left ≡ Some bytes → ¬ Rose s.faults s'.faults → ¬ Rose k.faults k'.faults → l.status_of bytes ≡ status.Ok
      → (ended ≡ status.NoMemory) ⊎ ((ended ≡ status.Ok) × (s'.left ≡ Some []) × EndsAsTold l bytes k k' ended)

-- a script is run
pub record IsRun (s s' : SourceState) (k k' : SinkState) (ended : Status) : Type 0 where
  pub answered : IsAnswered scripts s s' k k' ended
  -- what the lines showed that were run
  pub headline : Headline s s' k k' ended answered.causes

-- a script is checked; that needs no memory
pub record IsChecked (s s' : SourceState) (k k' : SinkState) (ended : Status) : Type 0 where
  pub answered : IsAnswered checked s s' k k' ended
  pub remembers : ended ≢ status.NoMemory

-- what is done
abbrev pub Does : {S K : Type 0} → (S → SourceState) → (K → SinkState) → Result Form ℕ → S → S → K → K → Status → Type 0
-- words of no form: nothing is read or written, and the place is that of the first word that doesn't fit or is missing
Does source sink (Err place) s s' k k' ended = (ended ≡ status.BadWords place) × (s' ≡ s) × (k' ≡ k)
Does source sink (Ok form.Run) s s' k k' ended = IsRun (source s) (source s') (sink k) (sink k') ended
Does source sink (Ok form.Check) s s' k k' ended = IsChecked (source s) (source s') (sink k) (sink k') ended
-- a bench reads nothing, and writes the summary of a generated script
Does source sink (Ok (form.Bench number steps)) s s' k k' ended = BenchEnds number steps (sink k) (sink k') ended × (s' ≡ s)
