-- How a run of a live script ends, from the lines that were run and what ended it.
use Rattle.std.proofs.Common.{◌≡◌, ℕ, ◌+◌, true, List, [], ◌∷◌, ◌++◌, length, take, drop, Option, Some, None, Ok, Err, refl, ap, sym, subst, ◌∙◌, arith, append_assoc, length-append, ◌≤◌}
use Rattle.std.proofs.lemmas.List.{append-nil, take-append-drop}
use Rattle.km_base.specs.declared.status.Status.{Status}
use Rattle.km_base.specs.declared.status.Status.TheVariants as status
use Rattle.km_model.specs.Output.{Script, end_of_script, is_fresh, limit, lines_of, lines_within}
use Rattle.km_model.specs.Text.{not_a_command_text}
use Rattle.km_edge.specs.Streams.{SourceState, SinkState, Rose, Wrote, StoppedAt}
use Rattle.km_edge.proofs.Writing.{came_out_more, rose_later, wrote_more, wrote_out}
use Rattle.km_reader.specs.Lines.{IsPrefix}
use Rattle.km_reader.proofs.Calls.{AllGiven, FewAfter, LimitGiven, NextIs, WholeGiven}
use Rattle.km_forms.specs.Lines.{Refuses}
use Rattle.km_forms.proofs.Limits.{end_beyond, end_within}
use Rattle.km_machine.specs.Machines.{Simulation}
use Rattle.km_live_model.specs.declared.lines.LiveLine.{LiveLine}
use Rattle.km_live_model.specs.LiveGrammar.{LiveReading}
use Rattle.km_live_model.specs.Threads.{Thread, end_at, live_status_from, live_status_of, live_status_then, no_threads}
use Rattle.km_live_model.specs.Lives.{IsLiveRun, LeadsLive, LivePrints, LiveScript, end_text, live_start}
use Rattle.km_engine.specs.Session.{HasLed}
use Rattle.km_engine.proofs.Fronts.{prefix_trans}
use Rattle.km_live_engine.specs.Session.{LivePlace, LiveSession}
use Rattle.km_live_engine.specs.Outcome.{EndsAtNeed, asks_for_memory}
use Rattle.km_live_engine.specs.Steps.{EndsAt, EndsInput, EndsRun, RunsScript, StaysLed, read_at}
use Rattle.km_live_engine.proofs.Fit.{read_is_fit}
use Rattle.km_live_engine.proofs.Running.{Ran, led, prints_all, prints_cons, prints_quiet, prints_refused, status_all}
use Rattle.km_live_engine.proofs.Totals.{IsSound, line_sound, prints}

-- these lines were run up to here, and no fault came
pub record Standing (s0 s' : SourceState) (k0 k : SinkState) (lines : List (List ℕ)) (written : List ℕ) (p : LivePlace) : Type 0 where
  pub ran : Ran lines written p
  pub sound : IsSound p.script.script
  pub wrote : Wrote k0 k written
  pub kept : s'.faults ≡ s0.faults

-- the first part of a text comes first in what has the text first
first_part : (written text rest whole : List ℕ) (n : ℕ) → whole ≡ written ++ (text ++ rest) → IsPrefix (written ++ take n text) whole
first_part written text rest whole n is =
    prefix_trans (written ++ take n text) (written ++ text) whole
    (drop n text, ap (λ t. written ++ t) (sym (take-append-drop n text)) ∙ sym (append_assoc written (take n text) (drop n text)))
    (rest, is ∙ sym (append_assoc written text rest))

-- the rest of what was taken leads on from a line's text
abbrev LeadsOver : List ℕ → List ℕ → List ℕ → Type 0
LeadsOver taken written text = (end : LiveScript) × (rest whole : List ℕ) × IsLiveRun taken end whole × (whole ≡ written ++ (text ++ rest))

line_leads_over : (taken written text : List ℕ) (lines more : List (List ℕ)) (l : List ℕ) (p : LivePlace) (x : LiveLine) (next : Script) → Ran lines written p → IsSound p.script.script
    → lines_of taken ≡ lines ++ l ∷ more → read_at p l ≡ Ok x → LeadsLive p.script.script p.script.threads.standing x next text → LeadsOver taken written text
line_leads_over taken written text lines more l p x next ran sound cut read leads =
    let otherwise = end_of_script taken in
    let fit = read_is_fit (is_fresh p.script.script) p.script.threads l x read in
    let rest = prints otherwise more (led p.script x next) (p.number + 1) (line_sound p.script.script p.script.threads.standing x next text fit leads sound) in (
      rest.0,
      rest.1,
      written ++ (text ++ rest.1),
      subst (λ ls. LivePrints otherwise live_start 1 ls rest.0 (written ++ (text ++ rest.1))) (sym cut)
          (ran.prints_on otherwise (l ∷ more) rest.0 (text ++ rest.1) (prints_cons otherwise p.script next rest.0 p.number l more x text rest.1 read leads rest.2)),
      refl,
    )

-- a line is refused at a column
abbrev pub IsRefused : LivePlace → ℕ → List ℕ → Type 0
IsRefused p column l = read_at p l ≡ Err (record { column = column })

refused_leads_over : (taken written : List ℕ) (lines more : List (List ℕ)) (l : List ℕ) (p : LivePlace) (column : ℕ) → Ran lines written p
    → lines_of taken ≡ lines ++ l ∷ more → IsRefused p column l → LeadsOver taken written (not_a_command_text p.number column)
refused_leads_over taken written lines more l p column ran cut read =
    let otherwise = end_of_script taken in
    let text = not_a_command_text p.number column in (
      p.script,
      [],
      written ++ text,
      subst (λ ls. LivePrints otherwise live_start 1 ls p.script (written ++ text)) (sym cut)
          (ran.prints_on otherwise (l ∷ more) p.script text (prints_refused otherwise p.script p.number l more (record { column = column }) read)),
      ap (λ t. written ++ t) (sym (append-nil text)),
    )

-- a text stopped at a fault
ends_stopped : (s0 s' : SourceState) (k0 k k' : SinkState) (machine : Option Simulation) (lines : List (List ℕ)) (written text : List ℕ) (n : ℕ) (p : LivePlace)
    → Standing s0 s' k0 k lines written p → (P : List ℕ → Type 0) → (next : NextIs P s0 s' limit lines) → LeadsOver next.taken written text → StoppedAt k k' text n
    → RunsScript s0 s' k0 k' machine status.WriteFault
ends_stopped s0 s' k0 k k' machine lines written text n p st P next over stopped = record {
  run = record {
    taken = next.taken;
    written = written ++ take n text;
    took = next.took;
    came_out = came_out_more k0 k k' written (take n text) st.wrote stopped.came_out;
    ends = λ remaining left. (
      rose_later k0.faults k.faults k'.faults (omega (arith, st.wrote.faults_kept)) stopped.came_out.faults_kept stopped.rose,
      st.kept,
      record { out = over.2; is_out = (over.0, over.3); front = first_part written text over.1 over.2 n over.4 },
    );
  };
  led = λ remaining left. tt;
}

-- the status and the output of a script of which a line is refused
refused_status : (bytes written : List ℕ) (lines more : List (List ℕ)) (l : List ℕ) (p : LivePlace) (column : ℕ) → Ran lines written p → lines_within limit bytes ≡ lines ++ l ∷ more
    → IsRefused p column l → live_status_of bytes ≡ status.NotACommand p.number column
refused_status bytes written lines more l p column ran cut read =
    let end = end_of_script bytes in
    ap (live_status_from end true no_threads 1) cut ∙ ran.ends_on end (l ∷ more)
    ∙ ap (λ r. live_status_then (is_fresh p.script.script) p.script.threads p.number r (λ first t. live_status_from end first t (p.number + 1) more)) read

refused_run : (bytes written : List ℕ) (lines more : List (List ℕ)) (l : List ℕ) (p : LivePlace) (column : ℕ) → Ran lines written p → lines_within limit bytes ≡ lines ++ l ∷ more
    → IsRefused p column l → IsLiveRun bytes p.script (written ++ not_a_command_text p.number column)
refused_run bytes written lines more l p column ran cut read =
    let otherwise = end_of_script bytes in
    subst (λ ls. LivePrints otherwise live_start 1 ls p.script (written ++ not_a_command_text p.number column)) (sym cut)
    (ran.prints_on otherwise (l ∷ more) p.script (not_a_command_text p.number column) (prints_refused otherwise p.script p.number l more (record { column = column }) read))

-- a refused line ends the run
pub ends_refused : (s0 s' : SourceState) (k0 k k' : SinkState) (script : LiveSession) (lines : List (List ℕ)) (written : List ℕ) (p : LivePlace) (column : ℕ) (ended : Status)
    → Standing s0 s' k0 k lines written p → NextIs (IsRefused p column) s0 s' limit lines → Refuses p.number column k k' ended → StaysLed script p ended
    → RunsScript s0 s' k0 k' script.machine ended
ends_refused s0 s' k0 k k' script lines written p column (status.NotACommand m d) st next stop stays =
    let text = not_a_command_text p.number column in
    let same : status.NotACommand p.number column ≡ status.NotACommand m d = ap (λ n. status.NotACommand n column) (sym stop.0) ∙ ap (status.NotACommand m) (sym stop.1) in
    let wrote = wrote_more k0 k k' written text st.wrote stop.2 in
    let run_of : (remaining : List ℕ) → (l : List ℕ) × (more : List (List ℕ)) × (lines_within limit (next.taken ++ remaining) ≡ lines ++ l ∷ more) × IsRefused p column l → IsLiveRun (next.taken ++ remaining) p.script (written ++ text) =
    λ remaining all. refused_run (next.taken ++ remaining) written lines all.1 all.0 p column st.ran all.2 all.3 in
    record {
      run = record {
        taken = next.taken;
        written = written ++ text;
        took = next.took;
        came_out = wrote_out k0 k' (written ++ text) wrote;
        ends = λ remaining left.
            let all = next.next remaining left in (
              (refused_status (next.taken ++ remaining) written lines all.1 all.0 p column st.ran all.2 all.3 ∙ same, (p.script, run_of remaining all)),
              (st.kept, wrote.faults_kept),
            );
      };
      led = λ remaining left. (p.script, run_of remaining (next.next remaining left), stays);
    }
ends_refused s0 s' k0 k k' script lines written p column status.WriteFault st next stop stays =
    let first = next.first in
    ends_stopped s0 s' k0 k k' script.machine lines written (not_a_command_text p.number column) stop.0 p st (IsRefused p column) next
    (refused_leads_over next.taken written lines first.1 first.0 p column st.ran first.2 first.3) stop.1
ends_refused s0 s' k0 k k' script lines written p column status.Ok st next stop stays = absurd stop
ends_refused s0 s' k0 k k' script lines written p column status.ReadFault st next stop stays = absurd stop
ends_refused s0 s' k0 k k' script lines written p column status.NoMemory st next stop stays = absurd stop
ends_refused s0 s' k0 k k' script lines written p column (status.BadWords _) st next stop stays = absurd stop
ends_refused s0 s' k0 k k' script lines written p column status.TooLong st next stop stays = absurd stop

-- there was no memory for a line
ends_short : (s0 s' : SourceState) (k0 k k' : SinkState) (machine : Option Simulation) (lines : List (List ℕ)) (written l : List ℕ) (p : LivePlace) (x : LiveLine)
    → Standing s0 s' k0 k lines written p → (next : NextIs (λ y. y ≡ l) s0 s' limit lines) → FewAfter next.taken (lines ++ l ∷ []) → read_at p l ≡ Ok x
    → asks_for_memory x ≡ true → Wrote k k' [] → RunsScript s0 s' k0 k' machine status.NoMemory
ends_short s0 s' k0 k k' machine lines written l p x st next few read asks wrote =
    let first = next.first in
    let none = append-nil written in
    let all = subst (λ w. Wrote k0 k' w) none (wrote_more k0 k k' written [] st.wrote wrote) in
    let short : EndsAtNeed next.taken written =
    record {
      before = lines;
      bytes = l;
      others = first.1;
      lines = first.2 ∙ ap (λ y. lines ++ y ∷ first.1) first.3;
      leads = record {
        script = p.script;
        line = x;
        unrefused = status_all status.NoMemory lines written p st.ran;
        prints = prints_quiet status.NoMemory lines written p st.ran refl;
        reads = read;
        asks = asks;
      };
      prefix = few.front;
      after = few.behind;
      parts = few.parts;
      up_to = few.up_to;
      few = few.few;
    } in
    record {
      run = record {
        taken = next.taken;
        written = written;
        took = next.took;
        came_out = wrote_out k0 k' written all;
        ends = λ remaining left. (short, (st.kept, all.faults_kept));
      };
      led = λ remaining left. tt;
    }

-- a line that was read ends the run
ends_run : (s0 s' : SourceState) (k0 k k' : SinkState) (script : LiveSession) (lines : List (List ℕ)) (written l : List ℕ) (p : LivePlace) (x : LiveLine) (ended : Status)
    → Standing s0 s' k0 k lines written p → (next : NextIs (λ y. y ≡ l) s0 s' limit lines) → FewAfter next.taken (lines ++ l ∷ []) → read_at p l ≡ Ok x
    → EndsRun p.script x k k' ended → RunsScript s0 s' k0 k' script.machine ended
ends_run s0 s' k0 k k' script lines written l p x status.WriteFault st next few read stop =
    let first = next.first in
    ends_stopped s0 s' k0 k k' script.machine lines written stop.1 stop.2 p st (λ y. y ≡ l) next
    (line_leads_over next.taken written stop.1 lines first.1 first.0 p x stop.0 st.ran st.sound first.2 (ap (read_at p) first.3 ∙ read) stop.3) stop.4
ends_run s0 s' k0 k k' script lines written l p x status.NoMemory st next few read stop =
    ends_short s0 s' k0 k k' script.machine lines written l p x st next few read stop.1 stop.0
ends_run s0 s' k0 k k' script lines written l p x status.Ok st next few read stop = absurd stop
ends_run s0 s' k0 k k' script lines written l p x (status.NotACommand _ _) st next few read stop = absurd stop
ends_run s0 s' k0 k k' script lines written l p x status.ReadFault st next few read stop = absurd stop
ends_run s0 s' k0 k k' script lines written l p x (status.BadWords _) st next few read stop = absurd stop
ends_run s0 s' k0 k k' script lines written l p x status.TooLong st next few read stop = absurd stop

-- the next line is refused where this one is
next_refused : (s0 s' : SourceState) (lines : List (List ℕ)) (l : List ℕ) (p : LivePlace) (column : ℕ) → NextIs (λ y. y ≡ l) s0 s' limit lines → IsRefused p column l
    → NextIs (IsRefused p column) s0 s' limit lines
next_refused s0 s' lines l p column next read =
    let first = next.first in
    record {
      taken = next.taken;
      took = next.took;
      first = (first.0, first.1, first.2, ap (read_at p) first.3 ∙ read);
      next = λ remaining left. let all = next.next remaining left in (all.0, all.1, all.2, ap (read_at p) all.3 ∙ read);
    }

ends_read : (s0 s' : SourceState) (k0 k k' : SinkState) (script : LiveSession) (lines : List (List ℕ)) (written l : List ℕ) (p : LivePlace) (r : LiveReading) (ended : Status)
    → Standing s0 s' k0 k lines written p → (next : NextIs (λ y. y ≡ l) s0 s' limit lines) → FewAfter next.taken (lines ++ l ∷ []) → read_at p l ≡ r
    → EndsAt p r k k' ended → StaysLed script p ended → RunsScript s0 s' k0 k' script.machine ended
ends_read s0 s' k0 k k' script lines written l p (Ok x) ended st next few read stop stays = ends_run s0 s' k0 k k' script lines written l p x ended st next few read stop
ends_read s0 s' k0 k k' script lines written l p (Err e) ended st next few read stop stays =
    ends_refused s0 s' k0 k k' script lines written p e.column ended st (next_refused s0 s' lines l p e.column next read) stop stays

-- a line ends the run
pub ends_line : (s0 s' : SourceState) (k0 k k' : SinkState) (script : LiveSession) (lines : List (List ℕ)) (written l : List ℕ) (p : LivePlace) (ended : Status)
    → Standing s0 s' k0 k lines written p → (n : NextIs (λ y. y ≡ l) s0 s' limit lines) × FewAfter n.taken (lines ++ l ∷ [])
    → EndsAt p (read_at p l) k k' ended → StaysLed script p ended → RunsScript s0 s' k0 k' script.machine ended
ends_line s0 s' k0 k k' script lines written l p ended st next stop stays =
    ends_read s0 s' k0 k k' script lines written l p (read_at p l) ended st next.0 next.1 refl stop stays

-- the status and the output of an input that ended
end_status : (taken written : List ℕ) (lines : List (List ℕ)) (p : LivePlace) → Ran lines written p → length taken ≤ limit → lines_within limit taken ≡ lines
    → live_status_of taken ≡ end_at status.Ok p.script.threads p.number
end_status taken written lines p ran short all =
    ap (λ o. live_status_from o true no_threads 1 (lines_of taken)) (end_within taken short) ∙ ap (live_status_from status.Ok true no_threads 1) all
    ∙ status_all status.Ok lines written p ran

end_run : (taken written : List ℕ) (lines : List (List ℕ)) (p : LivePlace) → Ran lines written p → length taken ≤ limit → lines_within limit taken ≡ lines
    → IsLiveRun taken p.script (written ++ end_text (end_at status.Ok p.script.threads p.number))
end_run taken written lines p ran short all =
    subst (λ o. LivePrints o live_start 1 (lines_of taken) p.script (written ++ end_text (end_at status.Ok p.script.threads p.number))) (sym (end_within taken short))
    (subst (λ ls. LivePrints status.Ok live_start 1 ls p.script (written ++ end_text (end_at status.Ok p.script.threads p.number))) (sym all)
    (prints_all status.Ok lines written p ran))

abbrev end_of : Option Thread → ℕ → Status
end_of o n = elim o as (λ _. Status) [ None ↦ status.Ok | Some _ ↦ status.NotACommand n 1 ]

-- the input ended, and all of its lines were run
ends_input : (s0 s' : SourceState) (k0 k k' : SinkState) (machine : Option Simulation) (lines : List (List ℕ)) (written : List ℕ) (p : LivePlace) (ended : Status) (o : Option Thread)
    → Standing s0 s' k0 k lines written p → HasLed machine p.script.script → AllGiven s0 s' limit lines → end_at status.Ok p.script.threads p.number ≡ end_of o p.number
    → EndsInput o p.number k k' ended → RunsScript s0 s' k0 k' machine ended
ends_input s0 s' k0 k k' machine lines written p ended None st stands given at stop =
    let run : IsLiveRun given.taken p.script written =
    subst (IsLiveRun given.taken p.script) (ap (λ e. written ++ end_text e) at ∙ append-nil written) (end_run given.taken written lines p st.ran given.short given.all) in
    let is_status : live_status_of given.taken ≡ status.Ok = end_status given.taken written lines p st.ran given.short given.all ∙ at in
    let same : (remaining : List ℕ) → remaining ≡ [] → given.taken ++ remaining ≡ given.taken = λ remaining none. ap (λ x. given.taken ++ x) none ∙ append-nil given.taken in
    let wrote : Wrote k0 k' written = subst (λ x. Wrote k0 x written) (sym stop.1) st.wrote in
    subst (RunsScript s0 s' k0 k' machine) (sym stop.0) (record {
      run = record {
        taken = given.taken;
        written = written;
        took = given.took;
        came_out = wrote_out k0 k' written wrote;
        ends = λ remaining left.
            let whole = same remaining (given.none remaining left) in (
              sym whole,
              (ap live_status_of whole ∙ is_status, (p.script, subst (λ b. IsLiveRun b p.script written) (sym whole) run)),
              (st.kept, wrote.faults_kept),
            );
      };
      led = λ remaining left. (p.script, subst (λ b. IsLiveRun b p.script written) (sym (same remaining (given.none remaining left))) run, stands);
    })
ends_input s0 s' k0 k k' machine lines written p (status.NotACommand m d) (Some t) st stands given at stop =
    let text = not_a_command_text p.number 1 in
    let run : IsLiveRun given.taken p.script (written ++ text) =
    subst (IsLiveRun given.taken p.script) (ap (λ e. written ++ end_text e) at) (end_run given.taken written lines p st.ran given.short given.all) in
    let named : status.NotACommand p.number 1 ≡ status.NotACommand m d = ap (λ n. status.NotACommand n 1) (sym stop.0) ∙ ap (status.NotACommand m) (sym stop.1) in
    let is_status : live_status_of given.taken ≡ status.NotACommand m d = end_status given.taken written lines p st.ran given.short given.all ∙ at ∙ named in
    let same : (remaining : List ℕ) → remaining ≡ [] → given.taken ++ remaining ≡ given.taken = λ remaining none. ap (λ x. given.taken ++ x) none ∙ append-nil given.taken in
    let wrote = wrote_more k0 k k' written text st.wrote stop.2 in
    record {
      run = record {
        taken = given.taken;
        written = written ++ text;
        took = given.took;
        came_out = wrote_out k0 k' (written ++ text) wrote;
        ends = λ remaining left.
            let whole = same remaining (given.none remaining left) in (
              (ap live_status_of whole ∙ is_status, (p.script, subst (λ b. IsLiveRun b p.script (written ++ text)) (sym whole) run)),
              (st.kept, wrote.faults_kept),
            );
      };
      led = λ remaining left. (p.script, subst (λ b. IsLiveRun b p.script (written ++ text)) (sym (same remaining (given.none remaining left))) run, stands);
    }
ends_input s0 s' k0 k k' machine lines written p status.WriteFault (Some t) st stands given at stop =
    let text = not_a_command_text p.number 1 in
    let stopped = stop.1 in
    let run : IsLiveRun given.taken p.script (written ++ text) =
    subst (IsLiveRun given.taken p.script) (ap (λ e. written ++ end_text e) at) (end_run given.taken written lines p st.ran given.short given.all) in
    record {
      run = record {
        taken = given.taken;
        written = written ++ take stop.0 text;
        took = given.took;
        came_out = came_out_more k0 k k' written (take stop.0 text) st.wrote stopped.came_out;
        ends = λ remaining left. (
          rose_later k0.faults k.faults k'.faults (omega (arith, st.wrote.faults_kept)) stopped.came_out.faults_kept stopped.rose,
          st.kept,
          record { out = written ++ text; is_out = (p.script, run); front = first_part written text [] (written ++ text) stop.0 (ap (λ t. written ++ t) (sym (append-nil text))) },
        );
      };
      led = λ remaining left. tt;
    }
ends_input s0 s' k0 k k' machine lines written p status.Ok (Some t) st stands given at stop = absurd stop
ends_input s0 s' k0 k k' machine lines written p status.ReadFault (Some t) st stands given at stop = absurd stop
ends_input s0 s' k0 k k' machine lines written p status.NoMemory (Some t) st stands given at stop = absurd stop
ends_input s0 s' k0 k k' machine lines written p (status.BadWords _) (Some t) st stands given at stop = absurd stop
ends_input s0 s' k0 k k' machine lines written p status.TooLong (Some t) st stands given at stop = absurd stop

pub ends_all : (s0 s' : SourceState) (k0 k k' : SinkState) (machine : Option Simulation) (lines : List (List ℕ)) (written : List ℕ) (p : LivePlace) (ended : Status)
    → Standing s0 s' k0 k lines written p → HasLed machine p.script.script → AllGiven s0 s' limit lines
    → EndsInput p.script.threads.opened p.number k k' ended → RunsScript s0 s' k0 k' machine ended
ends_all s0 s' k0 k k' machine lines written p ended st stands given stop =
    ends_input s0 s' k0 k k' machine lines written p ended p.script.threads.opened st stands given refl stop

-- a read failed
pub ends_fault : (s0 s s' : SourceState) (k0 k : SinkState) (machine : Option Simulation) (lines : List (List ℕ)) (written : List ℕ) (p : LivePlace)
    → Standing s0 s k0 k lines written p → WholeGiven s0 s' lines → Rose s.faults s'.faults → RunsScript s0 s' k0 k machine status.ReadFault
ends_fault s0 s s' k0 k machine lines written p st given rose = record {
  run = record {
    taken = given.taken;
    written = written;
    took = given.took;
    came_out = wrote_out k0 k written st.wrote;
    ends = λ remaining left. (
      subst (λ n. Rose n s'.faults) st.kept rose,
      st.wrote.faults_kept,
      ap (live_status_from status.ReadFault true no_threads 1) given.whole ∙ status_all status.ReadFault lines written p st.ran,
      (p.script, subst (λ ls. LivePrints status.ReadFault live_start 1 ls p.script written) (sym given.whole) (prints_quiet status.ReadFault lines written p st.ran refl)),
    );
  };
  led = λ remaining left. tt;
}

-- the input is longer than a script may be
pub ends_long : (s0 s' : SourceState) (k0 k : SinkState) (machine : Option Simulation) (lines : List (List ℕ)) (written : List ℕ) (p : LivePlace)
    → Standing s0 s' k0 k lines written p → LimitGiven s0 s' limit lines → RunsScript s0 s' k0 k machine status.TooLong
ends_long s0 s' k0 k machine lines written p st given = record {
  run = record {
    taken = given.taken;
    written = written;
    took = given.took;
    came_out = wrote_out k0 k written st.wrote;
    ends = λ remaining left.
        let bytes = given.taken ++ remaining in
        let ended = end_beyond bytes (omega (arith, given.size, length-append given.taken remaining)) in (
          given.size,
          (
            ap (λ o. live_status_from o true no_threads 1 (lines_of bytes)) ended ∙ ap (live_status_from status.TooLong true no_threads 1) (given.all remaining)
                ∙ status_all status.TooLong lines written p st.ran,
            (
              p.script,
              subst (λ o. LivePrints o live_start 1 (lines_of bytes) p.script written) (sym ended)
                  (subst (λ ls. LivePrints status.TooLong live_start 1 ls p.script written) (sym (given.all remaining)) (prints_quiet status.TooLong lines written p st.ran refl)),
            ),
          ),
          (st.kept, st.wrote.faults_kept),
        );
  };
  led = λ remaining left. tt;
}
