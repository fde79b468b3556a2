-- A line that is run, as the definitions have it.
use Rattle.std.proofs.Common.{◌≡◌, ℕ, ◌≤◌, ◌^◌, Bool, true, not, is_none, List, [], length, map, Option, Some, None, Result, Ok, Err, refl, ap, sym, subst, ◌∙◌, arith}
use Rattle.km_base.specs.declared.acts.Refusal.{Refusal}
use Rattle.km_base.specs.declared.lines.Command.{Command}
use Rattle.km_base.specs.declared.lines.Command.TheVariants.{Memory}
use Rattle.km_base.specs.declared.lines.Line.TheVariants as line
use Rattle.km_base.specs.declared.lines.NotACommand.{NotACommand as Refused}
use Rattle.km_base.specs.declared.status.Status.{Status}
use Rattle.km_base.specs.declared.status.Status.TheVariants as status
use Rattle.km_edge.specs.declared.errors.Failed.{Failed}
use Rattle.km_edge.specs.Streams.{SinkState, WritesAll}
use Rattle.km_edge.proofs.Writing.{wrote_none}
use Rattle.km_forms.specs.Lines.{Refuses}
use Rattle.km_model.specs.Follows.{past_of}
use Rattle.km_model.specs.History.{History}
use Rattle.km_model.specs.Output.{Script, Fresh, Begun, is_fresh}
use Rattle.km_model.specs.Text.{refusal_text}
use Rattle.km_machine.specs.Machines.{Simulation, Spent}
use Rattle.km_live_map.specs.Books.{IsCoreFor}
use Rattle.km_live_model.specs.declared.lines.LiveLine.{LiveLine}
use Rattle.km_live_model.specs.declared.lines.LiveLine.TheVariants as live
use Rattle.km_live_model.specs.Rounds.{jobs_at}
use Rattle.km_live_model.specs.LiveGrammar.{LiveReading, live_line_of}
use Rattle.km_live_model.specs.Threads.{Thread, Threads, line_at, no_threads, threads_after}
use Rattle.km_live_model.specs.Lives.{LeadsLive, LiveScript}
use Rattle.km_live_workers.specs.declared.workers.Job.{Job as Task}
use Rattle.km_live_workers.specs.Jobs.{job_of}
use Rattle.km_live_threads.specs.Told.{needs_memory}
use Rattle.km_live_machine.specs.RoundRuns.{RunsRound}
use Rattle.km_engine.specs.Session.{HasLed}
use Rattle.km_engine.specs.Steps.{EndsRun as EndsCommand, Runs as RunsCommand, IsMemory}
use Rattle.km_engine.proofs.Lines.{fresh_as}
use Rattle.km_live_engine.specs.Session.{HasCome, LivePlace, LiveSession, StandsAt}
use Rattle.km_live_engine.specs.Outcome.{asks_for_memory}
use Rattle.km_live_engine.specs.Steps.{EndsAt, EndsInput, EndsRound, EndsRun, IsFewInRound, IsQuiet, RanOn, RanRound, Runs, RunsLine, RunsRoundLine, RunsThreads, StaysLed, read_at}
use Rattle.km_live_engine.proofs.Rooms.{few_in_round}
use Rattle.km_live_engine.proofs.Totals.{ByRound}

-- the input ended within a thread
pub ends_open : (o : Option Thread) (n m : ℕ) (k k' : SinkState) (ended : Status) (unclosed : Bool) → unclosed ≡ true → unclosed ≡ not (is_none o) → m ≡ n → Refuses m 1 k k' ended → EndsInput o n k k' ended
ends_open None n m k k' ended unclosed e f same r = absurd (let z : ⊥ = cc in z)
ends_open (Some t) n m k k' ended unclosed e f same r = subst (λ x. Refuses x 1 k k' ended) same r

-- a round of jobs that were told was run
pub round_runs : (m m' : Simulation) (tasks : List Task) (standing : List Thread) (scans gap entries : ℕ) (k k' : SinkState) (result : Result (Unit {0}) Failed)
    → ((h : History) → IsCoreFor m.core h → Ok (map job_of tasks) ≡ jobs_at (past_of h) standing)
    → RunsRound m tasks scans gap entries m' k k' result → RunsThreads m standing scans gap entries m' k k' result
round_runs m m' tasks standing scans gap entries k k' result told ran =
    λ run stands.
    let on = ran.leads run stands in (
      on.0,
      on.1,
      subst (λ x. ByRound run on.0 on.1 scans gap entries x) (told run.history (stands.state, stands.stands)) on.2,
      on.3,
      on.4,
    )

pub round_spends : (m m' : Simulation) (tasks : List Task) (scans gap entries : ℕ) (k k' : SinkState) (result : Result (Unit {0}) Failed) → IsFewInRound scans gap entries → length tasks ≤ 8
    → RunsRound m tasks scans gap entries m' k k' result → Spent m m' (2 ^ 36) 360000000
round_spends m m' tasks scans gap entries k k' result few short ran =
    let most = few_in_round scans gap entries (length tasks) few short in
    let spent = ran.spent in
    record { size = spent.size; words = spent.words; events = omega (arith, spent.events, most.0); moment = omega (arith, spent.moment, most.1) }

-- a round is refused
pub round_refused : (m : Simulation) (standing : List Thread) (scans gap entries : ℕ) (refusal : Refusal) (k k' : SinkState) (result : Result (Unit {0}) Failed)
    → ((h : History) → IsCoreFor m.core h → Err refusal ≡ jobs_at (past_of h) standing)
    → WritesAll k k' (refusal_text refusal) result → RunsThreads m standing scans gap entries m k k' result
round_refused m standing scans gap entries refusal k k' result told wrote =
    λ run stands. (
      run,
      refusal_text refusal,
      subst (λ x. ByRound run run (refusal_text refusal) scans gap entries x) (told run.history (stands.state, stands.stands)) (refl, refl),
      stands,
      wrote,
    )

-- the threads were run on the machine of a session
pub round_ran : (old : Option Simulation) (m m' : Simulation) (threads : List Thread) (scans gap entries : ℕ) (k k' : SinkState) → old ≡ Some m
    → RunsThreads m threads scans gap entries m' k k' (Ok tt) → (s : Script) → HasLed old s → RanRound (Some m') s threads scans gap entries k k'
round_ran old m m' threads scans gap entries k k' is ran Fresh led = absurd (subst (λ o. HasLed o Fresh) is led)
round_ran old m m' threads scans gap entries k k' is ran (Begun run) led =
    let on = ran run (subst (λ o. HasLed o (Begun run)) is led) in
    record { next = Begun on.0; text = on.1; leads = (on.0, on.2, refl); led = on.3; wrote = on.4 }

pub round_stopped : (old : Option Simulation) (m m' : Simulation) (threads : List Thread) (scans gap entries : ℕ) (k k' : SinkState) (failed : Failed) → old ≡ Some m
    → RunsThreads m threads scans gap entries m' k k' (Err failed) → (s : Script) → HasLed old s → EndsRound s threads scans gap entries k k' status.WriteFault
round_stopped old m m' threads scans gap entries k k' failed is ran Fresh led = absurd (subst (λ o. HasLed o Fresh) is led)
round_stopped old m m' threads scans gap entries k k' failed is ran (Begun run) led =
    let on = ran run (subst (λ o. HasLed o (Begun run)) is led) in (Begun on.0, on.1, on.4.0, (on.0, on.2, refl), on.4.1)

-- a `round` line of a script was run: its threads are forgotten
pub round_line_runs : (old new : LiveSession) (l : LiveLine) (scans gap entries : ℕ) (k k' : SinkState) → l ≡ live.Round scans gap entries → new.threads ≡ no_threads
    → RunsRoundLine old.machine new.machine old.threads.standing scans gap entries k k' (Ok tt) → Runs old new l k k' (Ok tt)
round_line_runs old new l scans gap entries k k' is forgot ran = λ s come.
    let on = subst (λ (t : Threads). RanRound new.machine s.script t.standing scans gap entries k k') come.threads (ran s.script come.led) in
    record {
      next = on.next;
      text = on.text;
      leads = subst (λ x. LeadsLive s.script s.threads.standing x on.next on.text) (sym is) on.leads;
      come = record { led = on.led; threads = subst (λ x. new.threads ≡ threads_after s.threads x) (sym is) forgot };
      wrote = on.wrote;
    }

round_line_stops : (s : LiveScript) (l : LiveLine) (scans gap entries : ℕ) (k k' : SinkState) (ended : Status) → l ≡ live.Round scans gap entries
    → EndsRound s.script s.threads.standing scans gap entries k k' ended → EndsRun s l k k' ended
round_line_stops s l scans gap entries k k' status.WriteFault is e =
    (e.0, e.1, e.2, subst (λ x. LeadsLive s.script s.threads.standing x e.0 e.1) (sym is) e.3, e.4)
round_line_stops s l scans gap entries k k' status.NoMemory is e = (e, ap asks_for_memory is)
round_line_stops s l scans gap entries k k' status.Ok is e = absurd e
round_line_stops s l scans gap entries k k' (status.NotACommand _ _) is e = absurd e
round_line_stops s l scans gap entries k k' status.ReadFault is e = absurd e
round_line_stops s l scans gap entries k k' (status.BadWords _) is e = absurd e
round_line_stops s l scans gap entries k k' status.TooLong is e = absurd e

pub round_line_ends : (old new : LiveSession) (l : LiveLine) (scans gap entries : ℕ) (k k' : SinkState) (ended : Status) → l ≡ live.Round scans gap entries
    → RunsRoundLine old.machine new.machine old.threads.standing scans gap entries k k' (Err ended) → Runs old new l k k' (Err ended)
round_line_ends old new l scans gap entries k k' ended is ran = λ s come.
    round_line_stops s l scans gap entries k k' ended is
    (subst (λ (t : Threads). EndsRound s.script t.standing scans gap entries k k' ended) come.threads (ran s.script come.led))

-- a command of a script was run
asks : (c : Command) → IsMemory (line.Command c) → asks_for_memory (live.Command c) ≡ true
asks (Memory words) m = refl
asks c m = absurd (let same = m.1 in let z : ⊥ = cc in z)

command_stops : (s : LiveScript) (l : LiveLine) (c : Command) (k k' : SinkState) (ended : Status) → l ≡ live.Command c → EndsCommand s.script (line.Command c) k k' ended → EndsRun s l k k' ended
command_stops s l c k k' status.WriteFault is e = (e.0, e.1, e.2, subst (λ x. LeadsLive s.script s.threads.standing x e.0 e.1) (sym is) e.3, e.4)
command_stops s l c k k' status.NoMemory is e = (e.0, ap asks_for_memory is ∙ asks c e.2)
command_stops s l c k k' status.Ok is e = absurd e
command_stops s l c k k' (status.NotACommand _ _) is e = absurd e
command_stops s l c k k' status.ReadFault is e = absurd e
command_stops s l c k k' (status.BadWords _) is e = absurd e
command_stops s l c k k' status.TooLong is e = absurd e

pub command_runs : (old new : LiveSession) (l : LiveLine) (c : Command) (k k' : SinkState) (result : Result (Unit {0}) Status) → l ≡ live.Command c → new.threads ≡ old.threads
    → RunsCommand old.machine new.machine (line.Command c) k k' result → Runs old new l k k' result
command_runs old new l c k k' (Ok u) is kept ran = λ s come.
    let on = ran s.script come.led in
    record {
      next = on.next;
      text = on.text;
      leads = subst (λ x. LeadsLive s.script s.threads.standing x on.next on.text) (sym is) on.leads;
      come = record { led = on.led; threads = subst (λ x. new.threads ≡ threads_after s.threads x) (sym is) (kept ∙ come.threads) };
      wrote = on.wrote;
    }
command_runs old new l c k k' (Err ended) is kept ran = λ s come. command_stops s l c k k' ended is (ran s.script come.led)

-- a quiet line leads nowhere
quiet_leads : (s : LiveScript) (l : LiveLine) → IsQuiet l → LeadsLive s.script s.threads.standing l s.script []
quiet_leads s live.Blank quiet = (refl, refl)
quiet_leads s (live.Command _) quiet = absurd quiet
quiet_leads s (live.Round _ _ _) quiet = absurd quiet
quiet_leads s (live.Thread _) quiet = (refl, refl)
quiet_leads s live.End quiet = (refl, refl)
quiet_leads s (live.InThread _) quiet = (refl, refl)

pub quiet_runs : (old new : LiveSession) (l : LiveLine) (k : SinkState) → IsQuiet l → new.machine ≡ old.machine → new.threads ≡ threads_after old.threads l → Runs old new l k k (Ok tt)
quiet_runs old new l k quiet kept taken = λ s come.
    record {
      next = s.script;
      text = [];
      leads = quiet_leads s l quiet;
      come = record {
        led = subst (λ m. HasLed m s.script) (sym kept) come.led;
        threads = taken ∙ ap (λ t. threads_after t l) come.threads;
      };
      wrote = wrote_none k;
    }

quiet_asks : (l : LiveLine) → IsQuiet l → needs_memory l ≡ true → asks_for_memory l ≡ true
quiet_asks live.Blank quiet needs = absurd (let z : ⊥ = cc in z)
quiet_asks (live.Command _) quiet needs = absurd quiet
quiet_asks (live.Round _ _ _) quiet needs = absurd quiet
quiet_asks (live.Thread _) quiet needs = absurd (let z : ⊥ = cc in z)
quiet_asks live.End quiet needs = refl
quiet_asks (live.InThread _) quiet needs = refl

pub quiet_ends : (old new : LiveSession) (l : LiveLine) (k : SinkState) → IsQuiet l → needs_memory l ≡ true → Runs old new l k k (Err status.NoMemory)
quiet_ends old new l k quiet needs = λ s come. (wrote_none k, quiet_asks l quiet needs)

-- a session is fresh where its script is
fresh_of : (session : LiveSession) (s : LiveScript) → HasCome session s → is_none session.machine ≡ is_fresh s.script
fresh_of session s come = fresh_as session.machine s.script come.led

-- a line that was read, by the session
pub here : (s : LiveSession) (threads : Threads) (first : Bool) (bytes : List ℕ) (r r' : LiveReading) → first ≡ is_none s.machine → threads ≡ s.threads
    → r ≡ line_at first threads bytes → r ≡ r' → line_at (is_none s.machine) s.threads bytes ≡ r'
here s threads first bytes r r' fresh same read is =
    ap (λ b. line_at b s.threads bytes) (sym fresh) ∙ ap (λ t. line_at first t bytes) (sym same) ∙ sym read ∙ is

-- and by the place where that stands
pub here_at : (s : LiveSession) (p : LivePlace) (bytes : List ℕ) (r : LiveReading) → StandsAt s p → line_at (is_none s.machine) s.threads bytes ≡ r → read_at p bytes ≡ r
here_at s p bytes r stands read =
    ap (λ b. line_at b p.script.threads bytes) (sym (fresh_of s p.script stands.come)) ∙ ap (λ t. line_at (is_none s.machine) t bytes) (sym stands.come.threads) ∙ read

-- a machine that stands for some lines does so whatever ends the run
pub stays : (s : LiveSession) (p : LivePlace) (ended : Status) → HasLed s.machine p.script.script → StaysLed s p ended
stays s p (status.NotACommand _ _) led = led
stays s p status.Ok led = tt
stays s p status.ReadFault led = tt
stays s p status.WriteFault led = tt
stays s p status.NoMemory led = tt
stays s p (status.BadWords _) led = tt
stays s p status.TooLong led = tt

-- a refused line, wherever the session stands
pub line_refused : (s : LiveSession) (bytes : List ℕ) (e : Refused) (n : ℕ) (k k' : SinkState) (ended : Status) → line_at (is_none s.machine) s.threads bytes ≡ Err e → n ≡ s.number
    → Refuses n e.column k k' ended → RunsLine s s bytes k k' (Err ended)
line_refused s bytes e n k k' ended read number refuses = λ p stands. (
  subst (λ r. EndsAt p r k k' ended) (sym (here_at s p bytes (Err e) stands read)) (subst (λ m. Refuses m e.column k k' ended) (number ∙ stands.number) refuses),
  stays s p ended stands.come.led,
)

-- a line that ran, or ended the run
pub line_runs : (s s' between : LiveSession) (bytes : List ℕ) (l : LiveLine) (k k' : SinkState) → line_at (is_none s.machine) s.threads bytes ≡ Ok l
    → s'.machine ≡ between.machine → s'.threads ≡ between.threads → Runs s between l k k' (Ok tt) → RunsLine s s' bytes k k' (Ok tt)
line_runs s s' between bytes l k k' read machine threads runs = λ p stands.
    let on = runs p.script stands.come in (
      l,
      here_at s p bytes (Ok l) stands read,
      record {
        next = on.next;
        text = on.text;
        leads = on.leads;
        come = record { led = subst (λ m. HasLed m on.next) (sym machine) on.come.led; threads = threads ∙ on.come.threads };
        wrote = on.wrote;
      },
    )

stays_ended : (s' : LiveSession) (p : LivePlace) (l : LiveLine) (k k' : SinkState) (ended : Status) → EndsRun p.script l k k' ended → StaysLed s' p ended
stays_ended s' p l k k' (status.NotACommand _ _) e = absurd e
stays_ended s' p l k k' status.Ok e = tt
stays_ended s' p l k k' status.ReadFault e = tt
stays_ended s' p l k k' status.WriteFault e = tt
stays_ended s' p l k k' status.NoMemory e = tt
stays_ended s' p l k k' (status.BadWords _) e = tt
stays_ended s' p l k k' status.TooLong e = tt

pub line_ends : (s s' between : LiveSession) (bytes : List ℕ) (l : LiveLine) (k k' : SinkState) (ended : Status) → line_at (is_none s.machine) s.threads bytes ≡ Ok l
    → Runs s between l k k' (Err ended) → RunsLine s s' bytes k k' (Err ended)
line_ends s s' between bytes l k k' ended read runs = λ p stands.
    let stop = runs p.script stands.come in (
      subst (λ r. EndsAt p r k k' ended) (sym (here_at s p bytes (Ok l) stands read)) stop,
      stays_ended s' p l k k' ended stop,
    )

-- an empty line is blank wherever it stands
empty_is_blank : (p : LivePlace) → read_at p [] ≡ Ok live.Blank
unfolding live_line_of
empty_is_blank p = refl

-- it runs where nothing is done and nothing is written
pub empty_runs : (s : LiveSession) (p : LivePlace) (bytes : List ℕ) (k : SinkState) → HasCome s p.script → bytes ≡ []
    → (l : LiveLine) × (read_at p bytes ≡ Ok l) × RanOn s p.script l k k
empty_runs s p bytes k come empty = (
  live.Blank,
  ap (read_at p) empty ∙ empty_is_blank p,
  record { next = p.script.script; text = []; leads = (refl, refl); come = come; wrote = wrote_none k },
)
