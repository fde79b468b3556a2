-- The summary of a run over a generated script.
use Rattle.std.proofs.Common.{◌≡◌, ℕ, ◌+◌, ◌*◌, ◌≤◌, min, max, List, ◌++◌, length, Option, Some, inl, inr, refl, ap, sym, subst, ◌∙◌, arith, length-append}
use Rattle.std.specs.List.{count_by}
use Rattle.km_edge.specs.Lines.{is_line_feed}
use Rattle.km_edge.specs.Memory.{count_state}
use Rattle.km_edge.specs.Streams.{SourceState, SinkState, Counts, Rose, greatest}
use Rattle.km_gen.specs.Generated.{generated_script}
use Rattle.km_base.specs.declared.status.Status.{Status}
use Rattle.km_base.specs.declared.status.Status.TheVariants as status
use Rattle.km_model.specs.Output.{Script, IsRun, limit}
use Rattle.km_machine.specs.Machines.{Simulation}
use Rattle.km_engine.specs.Bench.{SumsUp, held_state, listed_at}
use Rattle.km_reader.specs.Causes.{Ends}
use Rattle.km_engine.specs.Outcome.{scripts}
use Rattle.km_engine.specs.Session.{HasLed}
use Rattle.km_engine.specs.Steps.{LeadsTo, LedTo, RunsScript}
use Rattle.km_engine.proofs.Feeds.{script_lines}

-- what was counted
counted_is : (before after count size : ℕ) → Counts (Some before) (Some after) size → before ≡ 0 → count ≡ after → count ≡ min size greatest
counted_is before after count size c none told = let same : after ≡ max before (min (before + size) greatest) = cc in omega (arith, same, none, told)

-- a count of faults that stays 0 did not rise
none_rose : Rose 0 0 → ⊥
none_rose (inl less) = omega (arith, less)
none_rose (inr full) = omega (arith, full)

-- where neither side fails and the script is short enough, only want of memory keeps a run from its end
led_at : (machine : Option Simulation) (bytes taken written : List ℕ) (s s' : SourceState) (k k' : SinkState) (ended : Status) → Ends scripts bytes taken written s s' k k' ended
    → ¬ Rose s.faults s'.faults → ¬ Rose k.faults k'.faults → length taken ≤ limit → ¬ (ended ≡ status.NoMemory) → LedTo machine bytes written ended → LeadsTo machine bytes written
led_at machine bytes taken written s s' k k' status.Ok e r w short m led = led
led_at machine bytes taken written s s' k k' (status.NotACommand _ _) e r w short m led = led
led_at machine bytes taken written s s' k k' status.ReadFault e r w short m led = absurd (r e.0)
led_at machine bytes taken written s s' k k' status.WriteFault e r w short m led = absurd (w e.0)
led_at machine bytes taken written s s' k k' status.NoMemory e r w short m led = absurd (m refl)
led_at machine bytes taken written s s' k k' (status.BadWords _) e r w short m led = absurd e
led_at machine bytes taken written s s' k k' status.TooLong e r w short m led = let long = e.0 in absurd (omega (arith, long, short))

-- the summary of such a run
pub sums_up : (number steps feeds listed before after count : ℕ) (script rest : List ℕ) (machine : Option Simulation) (ended : Status)
    → RunsScript (held_state script) (held_state rest) (count_state before) (count_state after) machine ended → ¬ (ended ≡ status.NoMemory) → before ≡ 0 → count ≡ after
    → script ≡ generated_script number steps → steps ≤ 1000000 → length script ≤ 81 + 38 * steps → feeds ≡ count_by is_line_feed script
    → ((end : Script) → HasLed machine end → listed ≡ listed_at end) → SumsUp number steps (record { lines = feeds; bytes = count; listed = listed })
sums_up number steps feeds listed before after count script rest machine ended r some none told same few short fed lists =
    let run = r.run in
    let within : length run.taken ≤ limit = omega (arith, ap length run.took, length-append run.taken rest, few, short) in
    let leads = led_at machine (run.taken ++ rest) run.taken run.written (held_state script) (held_state rest) (count_state before) (count_state after) ended (run.ends rest refl) none_rose none_rose within some (r.led rest refl) in
    record {
      end = leads.0;
      out = run.written;
      run = subst (λ b. IsRun b leads.0 run.written) (sym run.took ∙ same) leads.1;
      lines = fed ∙ script_lines number steps script same few short;
      bytes = counted_is before after count (length run.written) run.came_out.counted none told;
      listed = lists leads.0 leads.2;
    }
