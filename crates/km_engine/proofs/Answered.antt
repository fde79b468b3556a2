-- A run and a check, as the contract of the program says them.
use Rattle.std.proofs.Common.{◌≡◌, ℕ, List, [], ◌++◌, ◌⊎◌, inl, inr, Some, Result, refl, sym, ap, subst, ◌∙◌}
use Rattle.std.proofs.lemmas.List.{append-nil, append_cancel_left}
use Rattle.km_base.specs.declared.status.Status.{Status}
use Rattle.km_base.specs.declared.status.Status.TheVariants as status
use Rattle.km_model.specs.Output.{Script, Fresh, Prints, lines_of}
use Rattle.km_edge.specs.Streams.{SourceState, SinkState, Rose}
use Rattle.km_forms.specs.Checks.{cause_of, checked}
use Rattle.km_forms.specs.declared.words.Form.{Form}
use Rattle.km_reader.specs.Causes.{AtMemory, EndsAsTold, EndsBy, EndsFrom, EndsOver, Language}
use Rattle.km_reader.specs.Lines.{IsPrefix}
use Rattle.km_reader.proofs.Caused.{ends_as_told, ends_over, has_cause}
use Rattle.km_reader.proofs.Sources.{some_left}
use Rattle.km_engine.specs.Headline.{AreShown, Headline, lines_run}
use Rattle.km_engine.specs.Outcome.{scripts}
use Rattle.km_engine.specs.Program.{Does, IsAnswered, IsChecked, IsRun}
use Rattle.km_engine.specs.Steps.{RunsScript}
use Rattle.km_engine.proofs.Shown.{shows}
use Rattle.km_engine.proofs.Totals.{has_output}

-- where nothing fails and no line is refused, nothing is left
abbrev IsComplete : Language Status → List ℕ → SourceState → SinkState → SinkState → Status → Type 0
IsComplete l bytes s' k k' ended = (ended ≡ status.NoMemory) ⊎ ((ended ≡ status.Ok) × (s'.left ≡ Some []) × EndsAsTold l bytes k k' ended)

complete_by : (l : Language Status) (bytes taken remaining written : List ℕ) (s s' : SourceState) (k k' : SinkState) (ended : Status)
    → bytes ≡ taken ++ remaining → s'.left ≡ Some remaining → EndsBy l bytes taken written s s' k k' ended (cause_of ended)
    → ((ended ≡ status.NoMemory → ⊥) → EndsAsTold l bytes k k' ended)
    → ¬ Rose s.faults s'.faults → ¬ Rose k.faults k'.faults → l.status_of bytes ≡ status.Ok → IsComplete l bytes s' k k' ended
complete_by l bytes taken remaining written s s' k k' status.Ok parts left e told r w good =
    let none : remaining ≡ [] = append_cancel_left taken remaining [] (sym parts ∙ sym e.0 ∙ sym (append-nil taken)) in
    inr (refl, left ∙ ap Some none, told (λ z. let y : ⊥ = cc in y))
complete_by l bytes taken remaining written s s' k k' (status.NotACommand n c) parts left e told r w good =
    absurd (let same : status.NotACommand n c ≡ status.Ok = sym e.0.0 ∙ good in let z : ⊥ = cc in z)
complete_by l bytes taken remaining written s s' k k' status.TooLong parts left e told r w good =
    absurd (let same : status.TooLong ≡ status.Ok = sym e.1.0 ∙ good in let z : ⊥ = cc in z)
complete_by l bytes taken remaining written s s' k k' status.ReadFault parts left e told r w good = absurd (r e.0)
complete_by l bytes taken remaining written s s' k k' status.WriteFault parts left e told r w good = absurd (w e.0)
complete_by l bytes taken remaining written s s' k k' status.NoMemory parts left e told r w good = inl refl
complete_by l bytes taken remaining written s s' k k' (status.BadWords n) parts left e told r w good = absurd e

short_of_memory : (ended : Status) → cause_of ended ≡ AtMemory → ended ≡ status.NoMemory
short_of_memory status.NoMemory e = refl
short_of_memory status.Ok e = absurd (cc)
short_of_memory (status.NotACommand _ _) e = absurd (cc)
short_of_memory status.ReadFault e = absurd (cc)
short_of_memory status.WriteFault e = absurd (cc)
short_of_memory (status.BadWords _) e = absurd (cc)
short_of_memory status.TooLong e = absurd (cc)

-- a language whose statuses tell the causes of scripts
abbrev pub HasCauses : Language Status → Type 0
HasCauses l = (ended : Status) → l.cause ended ≡ cause_of ended

exact_by : (l : Language Status) → HasCauses l → (bytes : List ℕ) (s s' : SourceState) (k k' : SinkState) (ended : Status) → EndsOver l bytes s s' k k' ended
    → ¬ Rose s.faults s'.faults → ¬ Rose k.faults k'.faults → (ended ≡ status.NoMemory → ⊥) → EndsAsTold l bytes k k' ended
exact_by l same bytes s s' k k' ended over f w m =
    ends_as_told l s s' k k' ended bytes over f w (λ short. m (short_of_memory ended (sym (same ended) ∙ short)))

-- an input is answered that is read to such an end
pub answered : (l : Language Status) → HasCauses l → (s s' : SourceState) (k k' : SinkState) (ended : Status) → EndsFrom l s s' k k' ended → IsAnswered l s s' k k' ended
answered l same s s' k k' ended r = record {
  good_words = λ n bad. has_cause l s s' k k' ended r (same ended ∙ ap cause_of bad);
  causes = r;
  ends = λ bytes told. ends_over l s s' k k' ended bytes r told;
  exact = λ bytes told f w m. exact_by l same bytes s s' k k' ended (ends_over l s s' k k' ended bytes r told) f w m;
  complete = λ bytes told f w good.
      let over = ends_over l s s' k k' ended bytes r told in
      complete_by l bytes over.taken over.remaining over.written s s' k k' ended over.parts over.left
      (subst (λ c. EndsBy l bytes over.taken over.written s s' k k' ended c) (same ended) over.ends)
      (λ m. exact_by l same bytes s s' k k' ended over f w m) f w good;
}

-- what lines show that printed this
shown : (lines : List (List ℕ)) (written : List ℕ) (ended : Status) (end : Script) → Prints Fresh 1 lines end written → AreShown lines written ended
shown lines written ended end prints = record {
  end = end;
  out = written;
  prints = prints;
  front = ([], sym (append-nil written));
  whole = λ _ _. refl;
  shows = λ run begun. shows lines run written (subst (λ x. Prints Fresh 1 lines x written) begun prints);
}

-- and what they show where only the first part of it came out
shown_within : (lines : List (List ℕ)) (written out : List ℕ) (ended : Status) (end : Script) → Prints Fresh 1 lines end out → IsPrefix written out
    → ((ended ≡ status.WriteFault → ⊥) → (ended ≡ status.NoMemory → ⊥) → ⊥) → AreShown lines written ended
shown_within lines written out ended end prints front cut = record {
  end = end;
  out = out;
  prints = prints;
  front = front;
  whole = λ w m. absurd (cut w m);
  shows = λ run begun. shows lines run out (subst (λ x. Prints Fresh 1 lines x out) begun prints);
}

shown_by : (bytes taken written : List ℕ) (s s' : SourceState) (k k' : SinkState) (ended : Status)
    → EndsBy scripts bytes taken written s s' k k' ended (cause_of ended) → AreShown (lines_run bytes taken ended) written ended
shown_by bytes taken written s s' k k' status.Ok e = shown (lines_of bytes) written status.Ok e.1.1.0 e.1.1.1
shown_by bytes taken written s s' k k' (status.NotACommand n c) e = shown (lines_of bytes) written (status.NotACommand n c) e.0.1.0 e.0.1.1
shown_by bytes taken written s s' k k' status.TooLong e = shown (lines_of bytes) written status.TooLong e.1.1.0 e.1.1.1
shown_by bytes taken written s s' k k' status.ReadFault e = shown _ written status.ReadFault e.3.0 e.3.1
shown_by bytes taken written s s' k k' status.WriteFault e =
    let within = e.2 in shown_within (lines_of taken) written within.out status.WriteFault (within.is_out).0 (within.is_out).1 within.front (λ w m. w refl)
shown_by bytes taken written s s' k k' status.NoMemory e =
    let all = has_output taken in
    shown_within (lines_of taken) written all.0 status.NoMemory (all.1).0 (all.1).1 (all.0, ap (λ t. t ++ all.0) (sym (e.0).0)) (λ w m. m refl)
shown_by bytes taken written s s' k k' (status.BadWords n) e = absurd e

headline_of : (s s' : SourceState) (k k' : SinkState) (ended : Status) (run : EndsFrom scripts s s' k k' ended) → Headline s s' k k' ended run
headline_of s s' k k' ended run = λ remaining left. shown_by (run.taken ++ remaining) run.taken run.written s s' k k' ended (run.ends remaining left)

pub is_run : (s s' : SourceState) (k k' : SinkState) (ended : Status) (machine : _) → RunsScript s s' k k' machine ended → IsRun s s' k k' ended
unfolding answered
is_run s s' k k' ended machine r = record {
  answered = answered scripts (λ x. refl) s s' k k' ended r.run;
  headline = headline_of s s' k k' ended r.run;
}

pub is_checked : (s s' : SourceState) (k k' : SinkState) (ended : Status) → EndsFrom checked s s' k k' ended → IsChecked s s' k k' ended
is_checked s s' k k' ended r = record {
  answered = answered checked (λ x. refl) s s' k k' ended r;
  remembers = λ short.
      let left = some_left s'.left in
      (subst (λ (x : Status). EndsBy checked (r.taken ++ left.0) r.taken r.written s s' k k' x (cause_of x)) short (r.ends left.0 left.1)).0;
}

-- what is done by a form is done by the words that have it
pub does_as : {S K : Type 0} (source : S → SourceState) (sink : K → SinkState) (words form : Result Form ℕ) (s s' : S) (k k' : K) (ended : Status) → words ≡ form
    → Does source sink form s s' k k' ended → Does source sink words s s' k k' ended
does_as source sink words form s s' k k' ended same done = subst (λ f. Does source sink f s s' k k' ended) (sym same) done
