-- A run of a live script between two lines, and how each step of the reader goes on or ends it.
use Rattle.std.proofs.Common.{◌≡◌, ℕ, ◌+◌, ◌-◌, ◌^◌, ◌<◌, Bool, true, false, nat_lt, List, [], ◌∷◌, ◌++◌, length, Option, Ok, Err, refl, ap, sym, subst, ◌∙◌, arith, if◌then◌else◌}
use Rattle.std.proofs.lemmas.Bool.Decides.{nat_tests}
use Rattle.km_base.specs.declared.status.Status.{Status}
use Rattle.km_base.specs.declared.status.Status.TheVariants as status
use Rattle.km_model.specs.Grammar.{is_comment}
use Rattle.km_model.specs.Output.{is_fresh, limit}
use Rattle.km_model.specs.Pieces.{pieces}
use Rattle.km_edge.specs.Streams.{SourceState, SinkState, Rose, Wrote}
use Rattle.km_edge.proofs.Writing.{wrote_none, wrote_more}
use Rattle.km_reader.specs.declared.reader.Next.TheVariants as next
use Rattle.km_reader.specs.Reading.{Input, Is, Step, line_in, rest_in, unread}
use Rattle.km_reader.proofs.Calls.{Between, all_end, all_rest, between_few, between_line, between_start, limit_given, next_line, next_long, next_rest, room_line, room_rest, shrinks, whole_fault}
use Rattle.km_forms.specs.Lines.{Refuses}
use Rattle.km_engine.proofs.Runs.{bytes_left}
use Rattle.km_live_model.specs.declared.lines.LiveLine.{LiveLine}
use Rattle.km_live_model.specs.declared.lines.LiveLine.TheVariants as live
use Rattle.km_live_model.specs.LiveGrammar.{LiveReading, live_command_line, live_line_of, none_at}
use Rattle.km_live_model.specs.Threads.{Threads, open_name, unless_too_many}
use Rattle.km_live_engine.specs.Session.{HasRoomFor, LivePlace, LiveSession, StandsAt, first_place, start}
use Rattle.km_live_engine.specs.Steps.{EndsAt, EndsInput, RanOn, RunsScript, StaysLed, TakesRoom, read_at}
use Rattle.km_live_engine.proofs.Fit.{read_is_fit}
use Rattle.km_live_engine.proofs.Lines.{stays}
use Rattle.km_live_engine.proofs.Rooms.{less_room}
use Rattle.km_live_engine.proofs.Running.{Ran, after, ran_line, ran_none}
use Rattle.km_live_engine.proofs.Totals.{IsSound, line_sound}
use Rattle.km_live_engine.proofs.Endings.{IsRefused, Standing, ends_all, ends_fault, ends_line, ends_long, ends_refused}

-- a run between two lines: those that were given were run
pub record Running (s0 s : SourceState) (k0 k : SinkState) (script : LiveSession) (reader : Input) : Type 0 where
  pub lines : List (List ℕ)
  pub written : List ℕ
  pub place : LivePlace
  pub between : Between s0 s reader limit lines
  pub ran : Ran lines written place
  pub sound : IsSound place.script.script
  pub stands : StandsAt script place
  pub space : HasRoomFor script.machine (bytes_left reader)
  pub wrote : Wrote k0 k written

running_none : (s : SourceState) (k : SinkState) → Running s s k k start (unread limit)
running_none s k = record {
  lines = [];
  written = [];
  place = first_place;
  between = between_start s (unread limit) limit refl;
  ran = ran_none;
  sound = tt;
  stands = record { number = refl; come = record { led = tt; threads = refl } };
  space = omega arith;
  wrote = wrote_none k;
}

pub running_start : (s : SourceState) (k : SinkState) (script : LiveSession) (reader : Input) → script ≡ start → reader ≡ unread limit → Running s s k k script reader
running_start s k script reader e f =
    subst (λ (t : LiveSession). Running s s k k t reader) (sym e) (subst (λ (r : Input). Running s s k k start r) (sym f) (running_none s k))

-- the script stands somewhere
pub running_stands : (s0 s : SourceState) (k0 k : SinkState) (script : LiveSession) (reader : Input) → Running s0 s k0 k script reader → (p : LivePlace) × StandsAt script p
running_stands s0 s k0 k script reader r = (r.place, r.stands)

-- the next line can be numbered
pub running_numbered : (s0 s : SourceState) (k0 k : SinkState) (script : LiveSession) (reader : Input) → Running s0 s k0 k script reader → script.number < 2 ^ 64 - 1
running_numbered s0 s k0 k script reader r =
    omega (arith, r.stands.number, r.ran.numbered, between_few s0 s reader limit r.lines r.between)

-- there is room for the line that was given
pub running_space : (s0 s s' : SourceState) (k0 k : SinkState) (script : LiveSession) (reader reader' : Input) (bytes : List ℕ) → Running s0 s k0 k script reader → Step s s' reader reader'
    → bytes ≡ line_in reader' → HasRoomFor script.machine (length bytes)
running_space s0 s s' k0 k script reader reader' bytes r step same =
    less_room script.machine (bytes_left reader) (length bytes) (omega (arith, ap length same, room_rest s0 s s' reader reader' limit r.lines r.between step)) r.space

-- each line leaves less to read
pub running_shrinks : (s0 s s' : SourceState) (k0 k : SinkState) (script : LiveSession) (reader reader' : Input) → Running s0 s k0 k script reader → Step s s' reader reader' → Is s' reader' next.Line
    → (limit + 1 - reader'.taken) + length (rest_in reader') < (limit + 1 - reader.taken) + length (rest_in reader)
running_shrinks s0 s s' k0 k script reader reader' r step is = shrinks s0 s s' reader reader' limit r.lines r.between step is

-- no fault came so far
standing : (s0 s s' : SourceState) (k0 k : SinkState) (script : LiveSession) (reader : Input) (r : Running s0 s k0 k script reader) → s'.faults ≡ s.faults
    → Standing s0 s' k0 k r.lines r.written r.place
standing s0 s s' k0 k script reader r kept = record { ran = r.ran; sound = r.sound; wrote = r.wrote; kept = kept ∙ r.between.kept }

-- a line is read and run, or ends the run
abbrev ReadsAt : LiveSession → LivePlace → List ℕ → SinkState → SinkState → Type 0
ReadsAt script' p bytes k k' = (l : LiveLine) × (read_at p bytes ≡ Ok l) × RanOn script' p.script l k k'

abbrev EndsLine : LiveSession → LivePlace → List ℕ → SinkState → SinkState → Status → Type 0
EndsLine script' p bytes k k' ended = EndsAt p (read_at p bytes) k k' ended × StaysLed script' p ended

sound_on : (p : LivePlace) (bytes : List ℕ) (k k' : SinkState) (script' : LiveSession) → IsSound p.script.script → (read : ReadsAt script' p bytes k k') → IsSound (read.2).next
sound_on p bytes k k' script' sound read =
    line_sound p.script.script p.script.threads.standing read.0 (read.2).next (read.2).text (read_is_fit (is_fresh p.script.script) p.script.threads bytes read.0 read.1) (read.2).leads sound

-- one line more was run
pub running_line : (s0 s s' : SourceState) (k0 k k' : SinkState) (script script' : LiveSession) (reader reader' : Input) (bytes : List ℕ) → Running s0 s k0 k script reader → Step s s' reader reader'
    → Is s' reader' next.Line → s'.faults ≡ s.faults → bytes ≡ line_in reader' → ((p : LivePlace) → StandsAt script p → ReadsAt script' p bytes k k')
    → script'.number ≡ script.number + 1 → TakesRoom script script' (length bytes + 1) 0 → Running s0 s' k0 k' script' reader'
running_line s0 s s' k0 k k' script script' reader reader' bytes r step is kept same reads number takes =
    let read = subst (λ b. ReadsAt script' r.place b k k') same (reads r.place r.stands) in
    let on = read.2 in
    let room = room_line s0 s s' reader reader' limit r.lines r.between step is in
    let all = less_room script.machine (bytes_left reader) (length bytes + 1 + bytes_left reader') (omega (arith, room, ap length same)) r.space in
    record {
      lines = r.lines ++ line_in reader' ∷ [];
      written = r.written ++ on.text;
      place = after r.place read.0 on.next;
      between = between_line s0 s s' reader reader' limit r.lines r.between step is kept;
      ran = ran_line r.lines r.written r.place (line_in reader') read.0 on.next on.text r.ran read.1 on.leads;
      sound = sound_on r.place (line_in reader') k k' script' r.sound read;
      stands = record { number = number ∙ ap (λ n. n + 1) r.stands.number; come = on.come };
      space = less_room script'.machine (0 + bytes_left reader') (bytes_left reader') (omega arith) (takes (bytes_left reader') all);
      wrote = wrote_more k0 k k' r.written on.text r.wrote on.wrote;
    }

-- a line ended the run
pub running_ended : (s0 s s' : SourceState) (k0 k k' : SinkState) (script script' : LiveSession) (reader reader' : Input) (bytes : List ℕ) (ended : Status) → Running s0 s k0 k script reader → Step s s' reader reader'
    → Is s' reader' next.Line → s'.faults ≡ s.faults → bytes ≡ line_in reader' → ((p : LivePlace) → StandsAt script p → EndsLine script' p bytes k k' ended)
    → RunsScript s0 s' k0 k' script'.machine ended
running_ended s0 s s' k0 k k' script script' reader reader' bytes ended r step is kept same ends =
    let stop = subst (λ b. EndsLine script' r.place b k k' ended) same (ends r.place r.stands) in
    ends_line s0 s' k0 k k' script' r.lines r.written (line_in reader') r.place ended (standing s0 s s' k0 k script reader r kept)
    (next_line (λ y. y ≡ line_in reader') s0 s s' reader reader' limit r.lines r.between step is refl) stop.0 stop.1

pub running_rest_ended : (s0 s s' : SourceState) (k0 k k' : SinkState) (script script' : LiveSession) (reader reader' : Input) (bytes : List ℕ) (ended : Status) → Running s0 s k0 k script reader → Step s s' reader reader'
    → Is s' reader' next.Rest → s'.faults ≡ s.faults → bytes ≡ line_in reader' → ((p : LivePlace) → StandsAt script p → EndsLine script' p bytes k k' ended)
    → RunsScript s0 s' k0 k' script'.machine ended
running_rest_ended s0 s s' k0 k k' script script' reader reader' bytes ended r step is kept same ends =
    let stop = subst (λ b. EndsLine script' r.place b k k' ended) same (ends r.place r.stands) in
    ends_line s0 s' k0 k k' script' r.lines r.written (line_in reader') r.place ended (standing s0 s s' k0 k script reader r kept)
    (next_rest (λ y. y ≡ line_in reader') s0 s s' reader reader' limit r.lines r.between step is refl) stop.0 stop.1

-- how the input ends, by the place where the script stands
ends_at : (script : LiveSession) (p : LivePlace) (k k' : SinkState) (ended : Status) → StandsAt script p → EndsInput script.threads.opened script.number k k' ended
    → EndsInput p.script.threads.opened p.number k k' ended
ends_at script p k k' ended stands stop =
    subst (λ (t : Threads). EndsInput t.opened p.number k k' ended) stands.come.threads (subst (λ n. EndsInput script.threads.opened n k k' ended) stands.number stop)

-- the last line was run
pub running_rest : (s0 s s' : SourceState) (k0 k k' k'' : SinkState) (script script' : LiveSession) (reader reader' : Input) (bytes : List ℕ) (ended : Status) → Running s0 s k0 k script reader
    → Step s s' reader reader' → Is s' reader' next.Rest → s'.faults ≡ s.faults → bytes ≡ line_in reader' → ((p : LivePlace) → StandsAt script p → ReadsAt script' p bytes k k')
    → script'.number ≡ script.number + 1 → EndsInput script'.threads.opened script'.number k' k'' ended → RunsScript s0 s' k0 k'' script'.machine ended
running_rest s0 s s' k0 k k' k'' script script' reader reader' bytes ended r step is kept same reads number stop =
    let read = subst (λ b. ReadsAt script' r.place b k k') same (reads r.place r.stands) in
    let on = read.2 in
    let place = after r.place read.0 on.next in
    let stands : StandsAt script' place = record { number = number ∙ ap (λ n. n + 1) r.stands.number; come = on.come } in
    ends_all s0 s' k0 k' k'' script'.machine (r.lines ++ line_in reader' ∷ []) (r.written ++ on.text) place ended
    (record {
      ran = ran_line r.lines r.written r.place (line_in reader') read.0 on.next on.text r.ran read.1 on.leads;
      sound = sound_on r.place (line_in reader') k k' script' r.sound read;
      wrote = wrote_more k0 k k' r.written on.text r.wrote on.wrote;
      kept = kept ∙ r.between.kept;
    })
    on.come.led (all_rest s0 s s' reader reader' limit r.lines r.between step is) (ends_at script' place k' k'' ended stands stop)

-- a line that is too long
long_by_itself : (first : Bool) (thread : Option (List ℕ)) (l : List ℕ) → 256 < length l → live_line_of first thread l ≡ Err (record { column = 257 })
unfolding live_line_of
long_by_itself first thread l h = at_test (nat_lt 256 (length l)) (grind (arith, nat_tests))
  where
    at_test : (b : Bool) → b ≡ true
        → (if b then none_at 257
        else (if is_comment (pieces l) then Ok live.Blank else (elim (pieces l) as (λ _. LiveReading) [ [] ↦ Ok live.Blank | _ ∷ _ ↦ live_command_line first thread l ])))
        ≡ Err (record { column = 257 })
    at_test true e = refl
    at_test false e = absurd (let z : ⊥ = cc in z)

long_is_refused : (p : LivePlace) (l : List ℕ) → 256 < length l → IsRefused p 257 l
long_is_refused p l h = ap (unless_too_many p.script.threads (pieces l)) (long_by_itself (is_fresh p.script.script) (open_name p.script.threads) l h)

-- too long a line ends the run
pub running_long : (s0 s s' : SourceState) (k0 k k' : SinkState) (script : LiveSession) (reader reader' : Input) (number : ℕ) (ended : Status) (r : Running s0 s k0 k script reader) → Step s s' reader reader'
    → Is s' reader' next.Long → s'.faults ≡ s.faults → number ≡ script.number → Refuses number 257 k k' ended → RunsScript s0 s' k0 k' script.machine ended
running_long s0 s s' k0 k k' script reader reader' number ended r step is kept same stop =
    ends_refused s0 s' k0 k k' script r.lines r.written r.place 257 ended (standing s0 s s' k0 k script reader r kept)
    (next_long (IsRefused r.place 257) s0 s s' reader reader' limit r.lines r.between step is (λ l long. long_is_refused r.place l long))
    (subst (λ (n : ℕ). Refuses n 257 k k' ended) (same ∙ r.stands.number) stop) (stays script r.place ended r.stands.come.led)

-- the input ended
pub running_end : (s0 s s' : SourceState) (k0 k k' : SinkState) (script : LiveSession) (reader reader' : Input) (ended : Status) (r : Running s0 s k0 k script reader) → Step s s' reader reader'
    → Is s' reader' next.End → s'.faults ≡ s.faults → EndsInput script.threads.opened script.number k k' ended → RunsScript s0 s' k0 k' script.machine ended
running_end s0 s s' k0 k k' script reader reader' ended r step is kept stop =
    ends_all s0 s' k0 k k' script.machine r.lines r.written r.place ended (standing s0 s s' k0 k script reader r kept) r.stands.come.led
    (all_end s0 s s' reader reader' limit r.lines r.between step is) (ends_at script r.place k k' ended r.stands stop)

-- a read failed
pub running_fault : (s0 s s' : SourceState) (k0 k : SinkState) (script : LiveSession) (reader reader' : Input) (r : Running s0 s k0 k script reader) → Step s s' reader reader'
    → Is s' reader' next.Fault → Rose s.faults s'.faults → RunsScript s0 s' k0 k script.machine status.ReadFault
running_fault s0 s s' k0 k script reader reader' r step is rose =
    ends_fault s0 s s' k0 k script.machine r.lines r.written r.place (standing s0 s s k0 k script reader r refl)
    (whole_fault s0 s s' reader reader' limit r.lines r.between step is) rose

-- the input is longer than a script may be
pub running_beyond : (s0 s s' : SourceState) (k0 k : SinkState) (script : LiveSession) (reader reader' : Input) (r : Running s0 s k0 k script reader) → Step s s' reader reader'
    → Is s' reader' next.TooLong → s'.faults ≡ s.faults → RunsScript s0 s' k0 k script.machine status.TooLong
running_beyond s0 s s' k0 k script reader reader' r step is kept =
    ends_long s0 s' k0 k script.machine r.lines r.written r.place (standing s0 s s' k0 k script reader r kept)
    (limit_given s0 s s' reader reader' limit r.lines r.between step is)
