-- What the table of causes says of a run, whatever the language.
use Rattle.std.proofs.Common.{◌≡◌, ℕ, List, [], ◌++◌, length, Some, refl, sym, subst}
use Rattle.km_edge.specs.Streams.{SourceState, SinkState, CameOut, Rose, Wrote}
use Rattle.km_reader.specs.Causes.{AtEnd, AtLine, AtLimit, AtMemory, AtNothing, AtRead, AtWrite, Cause, Ends, EndsAsTold, EndsBy, EndsFrom, EndsOver, Language}
use Rattle.km_reader.proofs.Sources.{left_after, some_left}

-- the run as a contract says it, where the source tells its bytes
pub ends_over : {Status : Type 0} (l : Language Status) (s s' : SourceState) (k k' : SinkState) (ended : Status) (bytes : List ℕ) → EndsFrom l s s' k k' ended → s.left ≡ Some bytes
    → EndsOver l bytes s s' k k' ended
ends_over l s s' k k' ended bytes r told =
    let left = left_after s.left s'.left bytes r.taken told r.took in
    record {
      taken = r.taken;
      remaining = left.0;
      written = r.written;
      parts = left.1;
      left = left.2;
      came_out = r.came_out;
      ends = subst (λ b. Ends l b r.taken r.written s s' k k' ended) (sym left.1) (r.ends left.0 left.3);
    }

-- what came out without a fault was written
came_out_whole : (k k' : SinkState) (written : List ℕ) → CameOut k k' written → k'.faults ≡ k.faults → Wrote k k' written
came_out_whole k k' written c kept = record { appended = c.appended; counted = c.counted; faults_kept = kept }

told_by : {Status : Type 0} (l : Language Status) (bytes taken written : List ℕ) (s s' : SourceState) (k k' : SinkState) (ended : Status) (cause : Cause) → EndsBy l bytes taken written s s' k k' ended cause
    → CameOut k k' written → ¬ Rose s.faults s'.faults → ¬ Rose k.faults k'.faults → ¬ (cause ≡ AtMemory) → EndsAsTold l bytes k k' ended
told_by l bytes taken written s s' k k' ended AtEnd e c r w m = record { out = written; status = sym e.1.0; is_out = e.1.1; wrote = came_out_whole k k' written c e.2.1 }
told_by l bytes taken written s s' k k' ended AtLine e c r w m = record { out = written; status = sym e.0.0; is_out = e.0.1; wrote = came_out_whole k k' written c e.1.1 }
told_by l bytes taken written s s' k k' ended AtLimit e c r w m = record { out = written; status = sym e.1.0; is_out = e.1.1; wrote = came_out_whole k k' written c e.2.1 }
told_by l bytes taken written s s' k k' ended AtRead e c r w m = absurd (r e.0)
told_by l bytes taken written s s' k k' ended AtWrite e c r w m = absurd (w e.0)
told_by l bytes taken written s s' k k' ended AtMemory e c r w m = absurd (m refl)
told_by l bytes taken written s s' k k' ended AtNothing e c r w m = absurd e

-- where nothing fails, status and output are those of the bytes
pub ends_as_told : {Status : Type 0} (l : Language Status) (s s' : SourceState) (k k' : SinkState) (ended : Status) (bytes : List ℕ) → EndsOver l bytes s s' k k' ended
    → ¬ Rose s.faults s'.faults → ¬ Rose k.faults k'.faults → ¬ (l.cause ended ≡ AtMemory) → EndsAsTold l bytes k k' ended
ends_as_told l s s' k k' ended bytes e r w m = told_by l bytes e.taken e.written s s' k k' ended (l.cause ended) e.ends e.came_out r w m

never_by : {Status : Type 0} (l : Language Status) (bytes taken written : List ℕ) (s s' : SourceState) (k k' : SinkState) (ended : Status) (cause : Cause) → EndsBy l bytes taken written s s' k k' ended cause
    → cause ≡ AtNothing → ⊥
never_by l bytes taken written s s' k k' ended cause e never = subst (λ c. EndsBy l bytes taken written s s' k k' ended c) never e

-- no run ends without a cause
pub has_cause : {Status : Type 0} (l : Language Status) (s s' : SourceState) (k k' : SinkState) (ended : Status) → EndsFrom l s s' k k' ended → l.cause ended ≡ AtNothing → ⊥
has_cause l s s' k k' ended r never =
    let left = some_left s'.left in
    never_by l (r.taken ++ left.0) r.taken r.written s s' k k' ended (l.cause ended) (r.ends left.0 left.1) never
