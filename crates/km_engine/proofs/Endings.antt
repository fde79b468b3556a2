-- How a run ends, from the lines that were run and what ended it.
use Rattle.std.proofs.Common.{◌≡◌, ℕ, ◌+◌, true, List, [], ◌∷◌, ◌++◌, length, take, drop, Option, Result, Ok, Err, refl, ap, sym, subst, ◌∙◌, arith, append_assoc, length-append}
use Rattle.std.proofs.lemmas.List.{append-nil, take-append-drop}
use Rattle.km_base.specs.declared.lines.Command.TheVariants.{Memory}
use Rattle.km_base.specs.declared.lines.Line.{Line}
use Rattle.km_base.specs.declared.lines.Line.TheVariants as line
use Rattle.km_base.specs.declared.lines.NotACommand.{NotACommand as Refused}
use Rattle.km_base.specs.declared.status.Status.{Status}
use Rattle.km_base.specs.declared.status.Status.TheVariants as status
use Rattle.km_model.specs.Grammar.{rules, line_of}
use Rattle.km_model.specs.Output.{Script, Fresh, Begun, Prints, IsRun, is_fresh, limit, lines_of, end_of_script, status_from, status_then, status_of, lines_within}
use Rattle.km_model.specs.Text.{not_a_command_text}
use Rattle.km_edge.specs.Streams.{SourceState, SinkState, Rose, Wrote, StoppedAt}
use Rattle.km_edge.proofs.Writing.{came_out_more, rose_later, wrote_more, wrote_out}
use Rattle.km_reader.specs.Causes.{EndsWithin}
use Rattle.km_reader.specs.Lines.{IsPrefix}
use Rattle.km_reader.proofs.Calls.{AllGiven, FewAfter, LimitGiven, NextIs, WholeGiven}
use Rattle.km_forms.specs.Lines.{Refuses}
use Rattle.km_forms.proofs.Limits.{end_beyond, end_within}
use Rattle.km_machine.specs.Machines.{Simulation}
use Rattle.km_engine.specs.Session.{Session, Place, HasLed}
use Rattle.km_engine.specs.Outcome.{EndsBehindMemory, scripts}
use Rattle.km_engine.specs.Steps.{EndsAt, EndsRun, Ran, RunsScript, StaysLed}
use Rattle.km_engine.proofs.Fronts.{prefix_trans, prints_front}
use Rattle.km_engine.proofs.Totals.{has_output}
use Rattle.km_engine.proofs.Running.{prints_all, prints_one, prints_refused, status_all}

-- these lines were run up to here, and no fault came
pub record Standing (s0 s' : SourceState) (k0 k : SinkState) (lines : List (List ℕ)) (written : List ℕ) (p : Place) : Type 0 where
  pub ran : Ran lines written p
  pub wrote : Wrote k0 k written
  pub kept : s'.faults ≡ s0.faults

-- a text that stopped at a fault is the first part of what the lines lead to
stopped_within : (taken written text : List ℕ) (n : ℕ) (lines more : List (List ℕ)) (l : List ℕ) (p : Place) (end : Script) → Ran lines written p → lines_of taken ≡ lines ++ l ∷ more
    → Prints p.script p.number (l ∷ []) end text → EndsWithin scripts taken (written ++ take n text)
stopped_within taken written text n lines more l p end ran cut prints =
    let parts : lines_of taken ≡ (lines ++ l ∷ []) ++ more = cut ∙ sym (append_assoc lines (l ∷ []) more) in
    let first : IsPrefix (written ++ take n text) (written ++ text) =
    (drop n text, ap (λ t. written ++ t) (sym (take-append-drop n text)) ∙ sym (append_assoc written (take n text) (drop n text))) in
    let whole = has_output taken in
    record {
      out = whole.0;
      is_out = whole.1;
      front =
          prefix_trans (written ++ take n text) (written ++ text) whole.0 first
          (prints_front (lines ++ l ∷ []) more Fresh 1 end whole.1.0 (written ++ text) whole.0 (ran.prints_on (l ∷ []) end text prints)
          (subst (λ ls. Prints Fresh 1 ls whole.1.0 whole.0) parts whole.1.1));
    }

-- the text of a line stopped at a fault
ends_stopped : (P : List ℕ → Type 0) (s0 s' : SourceState) (k0 k k' : SinkState) (machine : Option Simulation) (lines : List (List ℕ)) (written text : List ℕ) (n : ℕ) (p : Place) (end : Script)
    → Standing s0 s' k0 k lines written p → NextIs P s0 s' limit lines → ((l : List ℕ) → P l → Prints p.script p.number (l ∷ []) end text) → StoppedAt k k' text n
    → RunsScript s0 s' k0 k' machine status.WriteFault
ends_stopped P s0 s' k0 k k' machine lines written text n p end st next prints stopped =
    let first = next.first in
    let within = stopped_within next.taken written text n lines first.1 first.0 p end st.ran first.2 (prints first.0 first.3) in
    record {
      run = record {
        taken = next.taken;
        written = written ++ take n text;
        took = next.took;
        came_out = came_out_more k0 k k' written (take n text) st.wrote stopped.came_out;
        ends = λ remaining left.
            (rose_later k0.faults k.faults k'.faults (omega (arith, st.wrote.faults_kept)) stopped.came_out.faults_kept stopped.rose, st.kept, within);
      };
      led = λ remaining left. tt;
    }

-- a line is refused at a column
abbrev pub IsRefused : Place → ℕ → List ℕ → Type 0
IsRefused p column l = line_of (is_fresh p.script) l ≡ Err (record { column = column })

-- the status and the output of a script of which a line is refused
refused_status : (bytes written : List ℕ) (lines more : List (List ℕ)) (l : List ℕ) (p : Place) (column : ℕ) → Ran lines written p → lines_within limit bytes ≡ lines ++ l ∷ more
    → IsRefused p column l → status_of bytes ≡ status.NotACommand p.number column
refused_status bytes written lines more l p column ran cut read =
    let end = end_of_script bytes in
    ap (status_from rules end true 1) cut ∙ ran.ends_on end (l ∷ more)
    ∙ ap (λ r. status_then (is_fresh p.script) p.number r (λ first. status_from rules end first (p.number + 1) more)) read

refused_run : (bytes written : List ℕ) (lines more : List (List ℕ)) (l : List ℕ) (p : Place) (column : ℕ) → Ran lines written p → lines_within limit bytes ≡ lines ++ l ∷ more
    → IsRefused p column l → IsRun bytes p.script (written ++ not_a_command_text p.number column)
refused_run bytes written lines more l p column ran cut read =
    subst (λ ls. Prints Fresh 1 ls p.script (written ++ not_a_command_text p.number column)) (sym cut)
    (ran.prints_on (l ∷ more) p.script (not_a_command_text p.number column) (prints_refused p.script p.number l more (record { column = column }) read))

-- a refused line ends the run
pub ends_refused : (s0 s' : SourceState) (k0 k k' : SinkState) (script : Session) (lines : List (List ℕ)) (written : List ℕ) (p : Place) (column : ℕ) (ended : Status)
    → Standing s0 s' k0 k lines written p → NextIs (IsRefused p column) s0 s' limit lines → Refuses p.number column k k' ended → StaysLed script p ended
    → RunsScript s0 s' k0 k' script.machine ended
ends_refused s0 s' k0 k k' script lines written p column (status.NotACommand m d) st next stop led =
    let text = not_a_command_text p.number column in
    let same : status.NotACommand p.number column ≡ status.NotACommand m d = ap (λ n. status.NotACommand n column) (sym stop.0) ∙ ap (status.NotACommand m) (sym stop.1) in
    let wrote = wrote_more k0 k k' written text st.wrote stop.2 in
    let run_of : (remaining : List ℕ) → (l : List ℕ) × (more : List (List ℕ)) × (lines_within limit (next.taken ++ remaining) ≡ lines ++ l ∷ more) × IsRefused p column l → IsRun (next.taken ++ remaining) p.script (written ++ text) =
    λ remaining all. refused_run (next.taken ++ remaining) written lines all.1 all.0 p column st.ran all.2 all.3 in
    record {
      run = record {
        taken = next.taken;
        written = written ++ text;
        took = next.took;
        came_out = wrote_out k0 k' (written ++ text) wrote;
        ends = λ remaining left.
            let all = next.next remaining left in (
              (refused_status (next.taken ++ remaining) written lines all.1 all.0 p column st.ran all.2 all.3 ∙ same, (p.script, run_of remaining all)),
              (st.kept, wrote.faults_kept),
            );
      };
      led = λ remaining left. (p.script, run_of remaining (next.next remaining left), led);
    }
ends_refused s0 s' k0 k k' script lines written p column status.WriteFault st next stop led =
    ends_stopped (IsRefused p column) s0 s' k0 k k' script.machine lines written (not_a_command_text p.number column) stop.0 p p.script st next
    (λ l read. prints_refused p.script p.number l [] (record { column = column }) read) stop.1
ends_refused s0 s' k0 k k' script lines written p column status.Ok st next stop led = absurd stop
ends_refused s0 s' k0 k k' script lines written p column status.ReadFault st next stop led = absurd stop
ends_refused s0 s' k0 k k' script lines written p column status.NoMemory st next stop led = absurd stop
ends_refused s0 s' k0 k k' script lines written p column (status.BadWords _) st next stop led = absurd stop
ends_refused s0 s' k0 k k' script lines written p column status.TooLong st next stop led = absurd stop

fresh_is : (s : Script) → is_fresh s ≡ true → s ≡ Fresh
fresh_is Fresh e = refl
fresh_is (Begun run) e = absurd (cc)

-- no command and no refused line is among lines that leave a script fresh
blank_lines : (lines : List (List ℕ)) (written : List ℕ) (p : Place) → Ran lines written p → is_fresh p.script ≡ true → Prints Fresh 1 lines Fresh []
blank_lines lines written p ran fresh =
    subst (λ s. Prints Fresh 1 lines s []) (fresh_is p.script fresh)
    (subst (λ out. Prints Fresh 1 lines p.script out) (ran.still_fresh fresh) (prints_all lines written p ran))

-- there was no memory for the first command's
ends_short : (s0 s' : SourceState) (k0 k k' : SinkState) (machine : Option Simulation) (lines : List (List ℕ)) (written l : List ℕ) (words : ℕ) (p : Place)
    → Standing s0 s' k0 k lines written p → (next : NextIs (λ x. x ≡ l) s0 s' limit lines) → FewAfter next.taken (lines ++ l ∷ []) → is_fresh p.script ≡ true
    → line_of true l ≡ Ok (line.Command (Memory words)) → Wrote k k' [] → RunsScript s0 s' k0 k' machine status.NoMemory
ends_short s0 s' k0 k k' machine lines written l words p st next few fresh is_memory wrote =
    let first = next.first in
    let all = wrote_more k0 k k' written [] st.wrote wrote in
    let short : EndsBehindMemory next.taken =
    record {
      before = lines;
      memory = l;
      others = first.1;
      words = words;
      lines = first.2 ∙ ap (λ x. lines ++ x ∷ first.1) first.3;
      blank = blank_lines lines written p st.ran fresh;
      is_memory = is_memory;
      front = few.front;
      behind = few.behind;
      parts = few.parts;
      up_to = few.up_to;
      few = few.few;
    } in
    record {
      run = record {
        taken = next.taken;
        written = written ++ [];
        took = next.took;
        came_out = wrote_out k0 k' (written ++ []) all;
        ends = λ remaining left. ((append-nil written ∙ st.ran.still_fresh fresh, short), (st.kept, all.faults_kept));
      };
      led = λ remaining left. tt;
    }

-- a line that was read ends the run
ends_run : (s0 s' : SourceState) (k0 k k' : SinkState) (script : Session) (lines : List (List ℕ)) (written l : List ℕ) (p : Place) (x : Line) (ended : Status)
    → Standing s0 s' k0 k lines written p → (next : NextIs (λ y. y ≡ l) s0 s' limit lines) → FewAfter next.taken (lines ++ l ∷ []) → line_of (is_fresh p.script) l ≡ Ok x
    → EndsRun p.script x k k' ended → RunsScript s0 s' k0 k' script.machine ended
ends_run s0 s' k0 k k' script lines written l p x status.WriteFault st next few read stop =
    ends_stopped (λ y. y ≡ l) s0 s' k0 k k' script.machine lines written stop.1 stop.2 p stop.0 st next
    (λ y same. subst (λ z. Prints p.script p.number (z ∷ []) stop.0 stop.1) (sym same) (prints_one p.script stop.0 p.number l x stop.1 read stop.3)) stop.4
ends_run s0 s' k0 k k' script lines written l p x status.NoMemory st next few read stop =
    ends_short s0 s' k0 k k' script.machine lines written l stop.2.0 p st next few stop.1 (ap (λ b. line_of b l) (sym stop.1) ∙ read ∙ ap Ok stop.2.1) stop.0
ends_run s0 s' k0 k k' script lines written l p x status.Ok st next few read stop = absurd stop
ends_run s0 s' k0 k k' script lines written l p x (status.NotACommand _ _) st next few read stop = absurd stop
ends_run s0 s' k0 k k' script lines written l p x status.ReadFault st next few read stop = absurd stop
ends_run s0 s' k0 k k' script lines written l p x (status.BadWords _) st next few read stop = absurd stop
ends_run s0 s' k0 k k' script lines written l p x status.TooLong st next few read stop = absurd stop

-- the next line is refused where this one is
next_refused : (s0 s' : SourceState) (lines : List (List ℕ)) (l : List ℕ) (p : Place) (column : ℕ) → NextIs (λ y. y ≡ l) s0 s' limit lines → IsRefused p column l
    → NextIs (IsRefused p column) s0 s' limit lines
next_refused s0 s' lines l p column next read =
    let first = next.first in
    record {
      taken = next.taken;
      took = next.took;
      first = (first.0, first.1, first.2, ap (line_of (is_fresh p.script)) first.3 ∙ read);
      next = λ remaining left. let all = next.next remaining left in (all.0, all.1, all.2, ap (line_of (is_fresh p.script)) all.3 ∙ read);
    }

ends_read : (s0 s' : SourceState) (k0 k k' : SinkState) (script : Session) (lines : List (List ℕ)) (written l : List ℕ) (p : Place) (r : Result Line Refused) (ended : Status)
    → Standing s0 s' k0 k lines written p → (next : NextIs (λ y. y ≡ l) s0 s' limit lines) → FewAfter next.taken (lines ++ l ∷ []) → line_of (is_fresh p.script) l ≡ r
    → EndsAt p r k k' ended → StaysLed script p ended → RunsScript s0 s' k0 k' script.machine ended
ends_read s0 s' k0 k k' script lines written l p (Ok x) ended st next few read stop led = ends_run s0 s' k0 k k' script lines written l p x ended st next few read stop
ends_read s0 s' k0 k k' script lines written l p (Err e) ended st next few read stop led =
    ends_refused s0 s' k0 k k' script lines written p e.column ended st (next_refused s0 s' lines l p e.column next read) stop led

-- a line ends the run
pub ends_line : (s0 s' : SourceState) (k0 k k' : SinkState) (script : Session) (lines : List (List ℕ)) (written l : List ℕ) (p : Place) (ended : Status)
    → Standing s0 s' k0 k lines written p → (n : NextIs (λ y. y ≡ l) s0 s' limit lines) × FewAfter n.taken (lines ++ l ∷ [])
    → EndsAt p (line_of (is_fresh p.script) l) k k' ended → StaysLed script p ended → RunsScript s0 s' k0 k' script.machine ended
ends_line s0 s' k0 k k' script lines written l p ended st next stop led =
    ends_read s0 s' k0 k k' script lines written l p (line_of (is_fresh p.script) l) ended st next.0 next.1 refl stop led

-- the input ended, and all of its lines were run
pub ends_all : (s0 s' : SourceState) (k0 k : SinkState) (machine : Option Simulation) (lines : List (List ℕ)) (written : List ℕ) (p : Place)
    → Standing s0 s' k0 k lines written p → HasLed machine p.script → AllGiven s0 s' limit lines → RunsScript s0 s' k0 k machine status.Ok
ends_all s0 s' k0 k machine lines written p st led given =
    let run : IsRun given.taken p.script written = subst (λ ls. Prints Fresh 1 ls p.script written) (sym given.all) (prints_all lines written p st.ran) in
    let is_status : status_of given.taken ≡ status.Ok =
    ap (λ o. status_from rules o true 1 (lines_of given.taken)) (end_within given.taken given.short) ∙ ap (status_from rules status.Ok true 1) given.all ∙ status_all lines written p status.Ok st.ran in
    let same : (remaining : List ℕ) → remaining ≡ [] → given.taken ++ remaining ≡ given.taken = λ remaining none. ap (λ x. given.taken ++ x) none ∙ append-nil given.taken in
    record {
      run = record {
        taken = given.taken;
        written = written;
        took = given.took;
        came_out = wrote_out k0 k written st.wrote;
        ends = λ remaining left.
            let whole = same remaining (given.none remaining left) in (
              sym whole,
              (ap status_of whole ∙ is_status, (p.script, subst (λ b. IsRun b p.script written) (sym whole) run)),
              (st.kept, st.wrote.faults_kept),
            );
      };
      led = λ remaining left. (p.script, subst (λ b. IsRun b p.script written) (sym (same remaining (given.none remaining left))) run, led);
    }

-- a read failed
pub ends_fault : (s0 s s' : SourceState) (k0 k : SinkState) (machine : Option Simulation) (lines : List (List ℕ)) (written : List ℕ) (p : Place)
    → Standing s0 s k0 k lines written p → WholeGiven s0 s' lines → Rose s.faults s'.faults → RunsScript s0 s' k0 k machine status.ReadFault
ends_fault s0 s s' k0 k machine lines written p st given rose = record {
  run = record {
    taken = given.taken;
    written = written;
    took = given.took;
    came_out = wrote_out k0 k written st.wrote;
    ends = λ remaining left. (
      subst (λ n. Rose n s'.faults) st.kept rose,
      st.wrote.faults_kept,
      ap (status_from rules status.Ok true 1) given.whole ∙ status_all lines written p status.Ok st.ran,
      (p.script, subst (λ ls. Prints Fresh 1 ls p.script written) (sym given.whole) (prints_all lines written p st.ran)),
    );
  };
  led = λ remaining left. tt;
}

-- the input is longer than a script may be
pub ends_long : (s0 s' : SourceState) (k0 k : SinkState) (machine : Option Simulation) (lines : List (List ℕ)) (written : List ℕ) (p : Place)
    → Standing s0 s' k0 k lines written p → LimitGiven s0 s' limit lines → RunsScript s0 s' k0 k machine status.TooLong
ends_long s0 s' k0 k machine lines written p st given = record {
  run = record {
    taken = given.taken;
    written = written;
    took = given.took;
    came_out = wrote_out k0 k written st.wrote;
    ends = λ remaining left.
        let bytes = given.taken ++ remaining in
        let ended = end_beyond bytes (omega (arith, given.size, length-append given.taken remaining)) in (
          given.size,
          (
            ap (λ o. status_from rules o true 1 (lines_of bytes)) ended ∙ ap (status_from rules status.TooLong true 1) (given.all remaining) ∙ status_all lines written p status.TooLong st.ran,
            (p.script, subst (λ ls. Prints Fresh 1 ls p.script written) (sym (given.all remaining)) (prints_all lines written p st.ran)),
          ),
          (st.kept, st.wrote.faults_kept),
        );
  };
  led = λ remaining left. tt;
}
