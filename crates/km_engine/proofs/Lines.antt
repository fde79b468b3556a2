-- A line that a machine runs, as the definitions have it.
use Rattle.std.proofs.Common.{ℕ, Bool, List, ◌≡◌, [], is_none, Option, Some, None, Ok, Err, refl, ap, sym, subst, ◌∙◌}
use Rattle.km_edge.specs.declared.errors.Failed.{Failed}
use Rattle.km_edge.specs.Streams.{SinkState}
use Rattle.km_edge.proofs.Writing.{wrote_none}
use Rattle.km_base.specs.declared.lines.Command.{Command}
use Rattle.km_base.specs.declared.lines.Command.TheVariants.{Memory}
use Rattle.km_base.specs.declared.lines.Line.{Line}
use Rattle.km_base.specs.declared.lines.Line.TheVariants as line
use Rattle.km_base.specs.declared.status.Status.{Status}
use Rattle.km_base.specs.declared.status.Status.TheVariants as status
use Rattle.km_model.specs.Follows.{Run, first_run}
use Rattle.km_model.specs.Grammar.{line_by, line_of}
use Rattle.km_model.specs.Output.{Script, Fresh, Begun, LeadsLine, is_fresh, line_text}
use Rattle.km_machine.specs.Machines.{For, Simulation}
use Rattle.km_machine.specs.Machines.{RunsLine as MachineRuns}
use Rattle.km_engine.specs.Session.{HasLed, Place, Session}
use Rattle.km_engine.specs.Steps.{EndsRun, RanOn, StaysLed}

-- there is a machine where a script has begun
pub fresh_as : (machine : Option Simulation) (m : Script) → HasLed machine m → is_none machine ≡ is_fresh m
fresh_as None Fresh led = refl
fresh_as None (Begun run) led = absurd led
fresh_as (Some x) Fresh led = absurd led
fresh_as (Some x) (Begun run) led = refl

-- `memory` makes a machine
pub memory_runs : (machine : Simulation) (old : Option Simulation) (m : Script) (l : Line) (c : Command) (k : SinkState) → HasLed old m → old ≡ None → l ≡ line.Command c
    → c ≡ Memory machine.core.parts.words → For machine (first_run machine.core.parts.words) → RanOn (Some machine) m l k k
memory_runs machine None Fresh l c k led none is asked stands =
    let next : Script = Begun (first_run machine.core.parts.words) in
    record {
      next = next;
      text = [];
      leads = subst (λ x. LeadsLine Fresh x next []) (sym (is ∙ ap line.Command asked)) (refl, refl);
      led = stands;
      wrote = wrote_none k;
    }
memory_runs machine None (Begun run) l c k led none is asked stands = absurd led
memory_runs machine (Some x) m l c k led none is asked stands = absurd (cc)

-- a later line
pub later_runs : (machine next : Simulation) (m : Script) (c : Command) (k k' : SinkState) → HasLed (Some machine) m
    → ((run : Run) → For machine run → MachineRuns next run c k k' (Ok tt))
    → RanOn (Some next) m (line.Command c) k k'
later_runs machine next Fresh c k k' led runs = absurd led
later_runs machine next (Begun run) c k k' led runs =
    let ran = runs run led in
    record {
      next = Begun ran.behind;
      text = line_text run c ran.behind;
      leads = (ran.behind, ran.makes, refl, refl);
      led = ran.stands;
      wrote = ran.wrote;
    }

-- a later line whose text stops at a fault
pub later_ends : (machine next : Simulation) (m : Script) (c : Command) (k k' : SinkState) (failed : Failed) → HasLed (Some machine) m
    → ((run : Run) → For machine run → MachineRuns next run c k k' (Err failed))
    → EndsRun m (line.Command c) k k' status.WriteFault
later_ends machine next Fresh c k k' failed led runs = absurd led
later_ends machine next (Begun run) c k k' failed led runs =
    let ran = runs run led in (Begun ran.behind, line_text run c ran.behind, ran.wrote.0, (ran.behind, ran.makes, refl, refl), ran.wrote.1)

-- a machine that stands for some lines does so whatever ends the run
pub stays_led : (s : Session) (p : Place) (ended : Status) → HasLed s.machine p.script → StaysLed s p ended
stays_led s p (status.NotACommand _ _) led = led
stays_led s p status.Ok led = tt
stays_led s p status.ReadFault led = tt
stays_led s p status.WriteFault led = tt
stays_led s p status.NoMemory led = tt
stays_led s p (status.BadWords _) led = tt
stays_led s p status.TooLong led = tt

-- a line of no byte is blank
empty_is_blank : (first : Bool) → line_of first [] ≡ Ok line.Blank
unfolding line_by
empty_is_blank first = refl

-- it runs where nothing is done and nothing is written
pub empty_runs : (machine : Option Simulation) (p : Place) (bytes : List ℕ) (k : SinkState) → HasLed machine p.script → bytes ≡ []
    → (l : Line) × (line_of (is_fresh p.script) bytes ≡ Ok l) × RanOn machine p.script l k k
empty_runs machine p bytes k led empty = (
  line.Blank,
  ap (line_of (is_fresh p.script)) empty ∙ empty_is_blank (is_fresh p.script),
  record { next = p.script; text = []; leads = (refl, refl); led = led; wrote = wrote_none k },
)
