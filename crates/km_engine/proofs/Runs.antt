-- A run between two lines, and a whole run as its contract says it.
use Rattle.std.proofs.Common.{◌≡◌, ℕ, ◌+◌, ◌-◌, ◌^◌, ◌<◌, ◌≤◌, List, [], ◌∷◌, ◌++◌, length, Option, Some, Ok, refl, ap, sym, subst, ◌∙◌, arith}
use Rattle.km_base.specs.declared.lines.Line.{Line}
use Rattle.km_base.specs.declared.status.Status.{Status}
use Rattle.km_base.specs.declared.status.Status.TheVariants as status
use Rattle.km_model.specs.Grammar.{line_of}
use Rattle.km_model.specs.Output.{is_fresh, limit}
use Rattle.km_edge.specs.Streams.{SourceState, SinkState, Rose, Wrote}
use Rattle.km_edge.proofs.Writing.{wrote_none, wrote_more}
use Rattle.km_reader.specs.declared.reader.Next.TheVariants as next
use Rattle.km_reader.specs.Reading.{Input, Is, Step, line_in, rest_in, unread}
use Rattle.km_reader.proofs.Calls.{Between, all_end, all_rest, between_few, between_line, between_start, limit_given, next_line, next_long, next_rest, room_line, room_rest, shrinks, whole_fault}
use Rattle.km_forms.specs.Lines.{Refuses}
use Rattle.km_forms.proofs.Limits.{long_is_refused}
use Rattle.km_machine.specs.Machines.{Simulation}
use Rattle.km_engine.specs.Session.{Session, Place, StandsAt, HasRoomFor, start, first_place}
use Rattle.km_engine.specs.Steps.{EndsAt, Ran, RanOn, RunsScript, StaysLed, TakesRoom}
use Rattle.km_engine.proofs.Lines.{stays_led}
use Rattle.km_engine.proofs.Rooms.{less_room}
use Rattle.km_engine.proofs.Running.{after, ran_line, ran_none}
use Rattle.km_engine.proofs.Endings.{IsRefused, Standing, ends_all, ends_fault, ends_line, ends_long, ends_refused}

-- how many bytes may still come or are held
abbrev pub bytes_left : Input → ℕ
bytes_left r = (limit - r.taken) + length (rest_in r)

-- a run between two lines: those that were given were run
pub record Running (s0 s : SourceState) (k0 k : SinkState) (script : Session) (reader : Input) : Type 0 where
  pub lines : List (List ℕ)
  pub written : List ℕ
  pub place : Place
  pub between : Between s0 s reader limit lines
  pub ran : Ran lines written place
  pub stands : StandsAt script place
  pub space : HasRoomFor script.machine (bytes_left reader)
  pub wrote : Wrote k0 k written

running_none : (s : SourceState) (k : SinkState) → Running s s k k start (unread limit)
running_none s k = record {
  lines = [];
  written = [];
  place = first_place;
  between = between_start s (unread limit) limit refl;
  ran = ran_none;
  stands = record { number = refl; led = tt };
  space = omega arith;
  wrote = wrote_none k;
}

pub running_start : (s : SourceState) (k : SinkState) (script : Session) (reader : Input) → script ≡ start → reader ≡ unread limit → Running s s k k script reader
running_start s k script reader e f =
    subst (λ (t : Session). Running s s k k t reader) (sym e) (subst (λ (r : Input). Running s s k k start r) (sym f) (running_none s k))

-- the next line can be numbered
pub running_numbered : (s0 s : SourceState) (k0 k : SinkState) (script : Session) (reader : Input) → Running s0 s k0 k script reader → script.number < 2 ^ 64 - 1
running_numbered s0 s k0 k script reader r =
    omega (arith, r.stands.number, r.ran.numbered, between_few s0 s reader limit r.lines r.between)

-- there is room for the line that was given
pub running_space : (s0 s s' : SourceState) (k0 k : SinkState) (script : Session) (reader reader' : Input) (bytes : List ℕ) → Running s0 s k0 k script reader → Step s s' reader reader'
    → bytes ≡ line_in reader' → HasRoomFor script.machine (length bytes)
running_space s0 s s' k0 k script reader reader' bytes r step same =
    less_room script.machine (bytes_left reader) (length bytes) (omega (arith, ap length same, room_rest s0 s s' reader reader' limit r.lines r.between step)) r.space

-- each line leaves less to read
pub running_shrinks : (s0 s s' : SourceState) (k0 k : SinkState) (script : Session) (reader reader' : Input) → Running s0 s k0 k script reader → Step s s' reader reader' → Is s' reader' next.Line
    → (limit + 1 - reader'.taken) + length (rest_in reader') < (limit + 1 - reader.taken) + length (rest_in reader)
running_shrinks s0 s s' k0 k script reader reader' r step is = shrinks s0 s s' reader reader' limit r.lines r.between step is

-- no fault came so far
standing : (s0 s s' : SourceState) (k0 k : SinkState) (script : Session) (reader : Input) (r : Running s0 s k0 k script reader) → s'.faults ≡ s.faults
    → Standing s0 s' k0 k r.lines r.written r.place
standing s0 s s' k0 k script reader r kept = record { ran = r.ran; wrote = r.wrote; kept = kept ∙ r.between.kept }

-- a line is read and run, or ends the run
abbrev ReadsAt : Session → Place → List ℕ → SinkState → SinkState → Type 0
ReadsAt script' p bytes k k' = (l : Line) × (line_of (is_fresh p.script) bytes ≡ Ok l) × RanOn script'.machine p.script l k k'

abbrev EndsLine : Session → Place → List ℕ → SinkState → SinkState → Status → Type 0
EndsLine script' p bytes k k' ended = EndsAt p (line_of (is_fresh p.script) bytes) k k' ended × StaysLed script' p ended

-- one line more was run
pub running_line : (s0 s s' : SourceState) (k0 k k' : SinkState) (script script' : Session) (reader reader' : Input) (bytes : List ℕ) → Running s0 s k0 k script reader → Step s s' reader reader'
    → Is s' reader' next.Line → s'.faults ≡ s.faults → bytes ≡ line_in reader' → ((p : Place) → StandsAt script p → ReadsAt script' p bytes k k')
    → script'.number ≡ script.number + 1 → TakesRoom script script' (length bytes + 1) 0 → Running s0 s' k0 k' script' reader'
running_line s0 s s' k0 k k' script script' reader reader' bytes r step is kept same reads number takes =
    let read = subst (λ b. ReadsAt script' r.place b k k') same (reads r.place r.stands) in
    let on = read.2 in
    let room = room_line s0 s s' reader reader' limit r.lines r.between step is in
    let all = less_room script.machine (bytes_left reader) (length bytes + 1 + bytes_left reader') (omega (arith, room, ap length same)) r.space in
    record {
      lines = r.lines ++ line_in reader' ∷ [];
      written = r.written ++ on.text;
      place = after r.place on.next;
      between = between_line s0 s s' reader reader' limit r.lines r.between step is kept;
      ran = ran_line r.lines r.written r.place (line_in reader') read.0 on.next on.text r.ran read.1 on.leads;
      stands = record { number = number ∙ ap (λ n. n + 1) r.stands.number; led = on.led };
      space = less_room script'.machine (0 + bytes_left reader') (bytes_left reader') (omega arith) (takes (bytes_left reader') all);
      wrote = wrote_more k0 k k' r.written on.text r.wrote on.wrote;
    }

-- a line ends the run
pub running_ended : (s0 s s' : SourceState) (k0 k k' : SinkState) (script script' : Session) (reader reader' : Input) (bytes : List ℕ) (ended : Status) → Running s0 s k0 k script reader
    → Step s s' reader reader' → Is s' reader' next.Line → s'.faults ≡ s.faults → bytes ≡ line_in reader' → ((p : Place) → StandsAt script p → EndsLine script' p bytes k k' ended)
    → RunsScript s0 s' k0 k' script'.machine ended
running_ended s0 s s' k0 k k' script script' reader reader' bytes ended r step is kept same ends =
    let stop = subst (λ b. EndsLine script' r.place b k k' ended) same (ends r.place r.stands) in
    ends_line s0 s' k0 k k' script' r.lines r.written (line_in reader') r.place ended (standing s0 s s' k0 k script reader r kept)
    (next_line (λ y. y ≡ line_in reader') s0 s s' reader reader' limit r.lines r.between step is refl) stop.0 stop.1

-- the last line ends the run
pub running_rest_ended : (s0 s s' : SourceState) (k0 k k' : SinkState) (script script' : Session) (reader reader' : Input) (bytes : List ℕ) (ended : Status) → Running s0 s k0 k script reader
    → Step s s' reader reader' → Is s' reader' next.Rest → s'.faults ≡ s.faults → bytes ≡ line_in reader' → ((p : Place) → StandsAt script p → EndsLine script' p bytes k k' ended)
    → RunsScript s0 s' k0 k' script'.machine ended
running_rest_ended s0 s s' k0 k k' script script' reader reader' bytes ended r step is kept same ends =
    let stop = subst (λ b. EndsLine script' r.place b k k' ended) same (ends r.place r.stands) in
    ends_line s0 s' k0 k k' script' r.lines r.written (line_in reader') r.place ended (standing s0 s s' k0 k script reader r kept)
    (next_rest (λ y. y ≡ line_in reader') s0 s s' reader reader' limit r.lines r.between step is refl) stop.0 stop.1

-- the last line was run
pub running_rest : (s0 s s' : SourceState) (k0 k k' : SinkState) (script script' : Session) (reader reader' : Input) (bytes : List ℕ) → Running s0 s k0 k script reader → Step s s' reader reader'
    → Is s' reader' next.Rest → s'.faults ≡ s.faults → bytes ≡ line_in reader' → ((p : Place) → StandsAt script p → ReadsAt script' p bytes k k')
    → RunsScript s0 s' k0 k' script'.machine status.Ok
running_rest s0 s s' k0 k k' script script' reader reader' bytes r step is kept same reads =
    let read = subst (λ b. ReadsAt script' r.place b k k') same (reads r.place r.stands) in
    let on = read.2 in
    ends_all s0 s' k0 k' script'.machine (r.lines ++ line_in reader' ∷ []) (r.written ++ on.text) (after r.place on.next)
    (record {
      ran = ran_line r.lines r.written r.place (line_in reader') read.0 on.next on.text r.ran read.1 on.leads;
      wrote = wrote_more k0 k k' r.written on.text r.wrote on.wrote;
      kept = kept ∙ r.between.kept;
    })
    on.led (all_rest s0 s s' reader reader' limit r.lines r.between step is)

-- too long a line ends the run
pub running_long : (s0 s s' : SourceState) (k0 k k' : SinkState) (script : Session) (reader reader' : Input) (number : ℕ) (ended : Status) (r : Running s0 s k0 k script reader) → Step s s' reader reader'
    → Is s' reader' next.Long → s'.faults ≡ s.faults → number ≡ script.number → Refuses number 257 k k' ended → RunsScript s0 s' k0 k' script.machine ended
running_long s0 s s' k0 k k' script reader reader' number ended r step is kept same stop =
    ends_refused s0 s' k0 k k' script r.lines r.written r.place 257 ended (standing s0 s s' k0 k script reader r kept)
    (next_long (IsRefused r.place 257) s0 s s' reader reader' limit r.lines r.between step is
    (λ l long. long_is_refused (is_fresh r.place.script) l long))
    (subst (λ (n : ℕ). Refuses n 257 k k' ended) (same ∙ r.stands.number) stop) (stays_led script r.place ended r.stands.led)

-- the input ended
pub running_end : (s0 s s' : SourceState) (k0 k : SinkState) (script : Session) (reader reader' : Input) (r : Running s0 s k0 k script reader) → Step s s' reader reader'
    → Is s' reader' next.End → s'.faults ≡ s.faults → RunsScript s0 s' k0 k script.machine status.Ok
running_end s0 s s' k0 k script reader reader' r step is kept =
    ends_all s0 s' k0 k script.machine r.lines r.written r.place (standing s0 s s' k0 k script reader r kept) r.stands.led
    (all_end s0 s s' reader reader' limit r.lines r.between step is)

-- a read failed
pub running_fault : (s0 s s' : SourceState) (k0 k : SinkState) (script : Session) (reader reader' : Input) (r : Running s0 s k0 k script reader) → Step s s' reader reader'
    → Is s' reader' next.Fault → Rose s.faults s'.faults → RunsScript s0 s' k0 k script.machine status.ReadFault
running_fault s0 s s' k0 k script reader reader' r step is rose =
    ends_fault s0 s s' k0 k script.machine r.lines r.written r.place (standing s0 s s k0 k script reader r refl)
    (whole_fault s0 s s' reader reader' limit r.lines r.between step is) rose

-- the input is longer than a script may be
pub running_beyond : (s0 s s' : SourceState) (k0 k : SinkState) (script : Session) (reader reader' : Input) (r : Running s0 s k0 k script reader) → Step s s' reader reader'
    → Is s' reader' next.TooLong → s'.faults ≡ s.faults → RunsScript s0 s' k0 k script.machine status.TooLong
running_beyond s0 s s' k0 k script reader reader' r step is kept =
    ends_long s0 s' k0 k script.machine r.lines r.written r.place (standing s0 s s' k0 k script reader r kept)
    (limit_given s0 s s' reader reader' limit r.lines r.between step is)
