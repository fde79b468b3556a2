-- A check between two lines, and how it ends.
use Rattle.std.proofs.Common.{◌≡◌, ℕ, ◌+◌, ◌-◌, ◌^◌, ◌<◌, ◌≤◌, true, false, List, [], ◌∷◌, ◌++◌, length, Option, Some, None, refl, ap, sym, subst, ◌∙◌, arith, append_assoc, length-append, length-drop}
use Rattle.std.proofs.lemmas.List.{append-nil}
use Rattle.km_edge.specs.Streams.{SourceState, Rose}
use Rattle.km_edge.specs.Lines.{TooLong, next_of}
use Rattle.km_reader.specs.declared.reader.Next.TheVariants as next
use Rattle.km_reader.specs.Lines.{IsLeft}
use Rattle.km_reader.specs.Lists.{Gave}
use Rattle.km_reader.specs.Reading.{Input, Is, Step, line_in, rest_in, unread}
use Rattle.km_reader.proofs.Sources.{at_end as none_at_end}
use Rattle.km_reader.proofs.Calls.{Between, between_few, between_line, between_start, gave_after, ready_on, shrinks}
use Rattle.km_entries.specs.declared.lines.JournalLine.TheVariants as line
use Rattle.km_entries.specs.declared.status.CheckStatus.{CheckStatus}
use Rattle.km_entries.specs.declared.status.CheckStatus.TheVariants as check
use Rattle.km_entries.specs.File.{Checked, Going, Over, Outcome, Unbegun, at_end, limit, outcome_of}
use Rattle.km_entries.proofs.Texts.{line_was}
use Rattle.km_journal.specs.declared.replay.Replay.{Replay}
use Rattle.km_journal.specs.Journals.{ChecksFile, EndsAfterHead, EndsAt, EndsCheck, GoesOn, IsFirst, IsRight, Refuses}
use Rattle.km_journal.specs.Replays.{HasRead, HasRoom}
use Rattle.km_journal.proofs.Lines.{Followed, IsRefusal, followed_line, followed_none, has_room}
use Rattle.km_journal.proofs.Pieces.{end_outcome, fault_goes_on, first_text, limit_status, long_status, refused_status, rest_status, whole_taken}

-- the lines that were given were right, and led here
pub record Checking (s0 s : SourceState) (reader : Input) (number : ℕ) (replay : Option Replay) : Type 0 where
  pub lines : List (List ℕ)
  pub so_far : Checked
  pub between : Between s0 s reader limit lines
  pub followed : Followed lines number so_far
  pub read : HasRead replay so_far

pub checking_start : (s : SourceState) (reader : Input) (number : ℕ) (replay : Option Replay) → reader ≡ unread limit → number ≡ 1 → replay ≡ None → Checking s s reader number replay
checking_start s reader number replay e f n = record {
  lines = [];
  so_far = Unbegun;
  between = between_start s reader limit e;
  followed = subst (λ k. Followed [] k Unbegun) (sym f) followed_none;
  read = subst (λ o. HasRead o Unbegun) (sym n) tt;
}

pub checking_numbered : (s0 s : SourceState) (reader : Input) (number : ℕ) (replay : Option Replay) → Checking s0 s reader number replay → number < 2 ^ 62
checking_numbered s0 s reader number replay r = omega (arith, r.followed.number, between_few s0 s reader limit r.lines r.between)

pub checking_room : (s0 s : SourceState) (reader : Input) (number : ℕ) (replay : Option Replay) → Checking s0 s reader number replay → HasRoom replay
checking_room s0 s reader number replay r = has_room replay r.so_far r.read (omega (arith, r.followed.few, between_few s0 s reader limit r.lines r.between))

-- each line leaves less to read
pub checking_shrinks : (s0 s s' : SourceState) (reader reader' : Input) (number : ℕ) (replay : Option Replay) → Checking s0 s reader number replay → Step s s' reader reader' → Is s' reader' next.Line
    → (limit + 1 - reader'.taken) + length (rest_in reader') < (limit + 1 - reader.taken) + length (rest_in reader)
checking_shrinks s0 s s' reader reader' number replay r step is = shrinks s0 s s' reader reader' limit r.lines r.between step is

-- a line is right
pub checking_line : (s0 s s' : SourceState) (reader reader' : Input) (number number' : ℕ) (replay replay' : Option Replay) (bytes : List ℕ) → Checking s0 s reader number replay → Step s s' reader reader'
    → Is s' reader' next.Line → s'.faults ≡ s.faults → bytes ≡ line_in reader' → ((c : Checked) → HasRead replay c → IsRight c bytes replay') → number' ≡ number + 1
    → Checking s0 s' reader' number' replay'
checking_line s0 s s' reader reader' number number' replay replay' bytes r step is kept same reads counted =
    let right = subst (λ b. IsRight r.so_far b replay') same (reads r.so_far r.read) in
    record {
      lines = r.lines ++ line_in reader' ∷ [];
      so_far = right.0;
      between = between_line s0 s s' reader reader' limit r.lines r.between step is kept;
      followed = subst (λ k. Followed (r.lines ++ line_in reader' ∷ []) k right.0) (sym counted) (followed_line r.lines number r.so_far right.0 (line_in reader') r.followed right.1);
      read = right.2;
    }

-- a line is refused
refused : (s0 s s' : SourceState) (reader reader' : Input) (number : ℕ) (replay replay' : Option Replay) (ended : CheckStatus) (r : Checking s0 s reader number replay) → Step s s' reader reader'
    → Is s' reader' next.Line → s'.faults ≡ s.faults → EndsAt number r.so_far (line_in reader') ended → IsRefusal ended
    → ((bytes taken : List ℕ) → Refuses bytes taken s0 s' ended → EndsCheck bytes taken s0 s' replay' ended) → ChecksFile s0 s' replay' ended
refused s0 s s' reader reader' number replay replay' ended r step is kept stop refuses on =
    let b = between_line s0 s s' reader reader' limit r.lines r.between step is kept in
    let g = b.gave in
    let taken = (g.prefix ++ rest_in reader') ++ g.over in
    let status : (rest : List ℕ) → (outcome_of (g.prefix ++ rest)).status ≡ ended =
    λ rest. refused_status s0 s' (rest_in reader') reader'.taken r.lines (line_in reader') number r.so_far ended g r.followed refuses stop rest in
    let first = append_assoc g.prefix (rest_in reader') g.over in
    record {
      taken = taken;
      took = g.took;
      ends = λ remaining left.
          on (taken ++ remaining) taken (
            ap (λ x. (outcome_of x).status) (ap (λ x. x ++ remaining) first ∙ append_assoc g.prefix (rest_in reader' ++ g.over) remaining) ∙ status ((rest_in reader' ++ g.over) ++ remaining),
            ap (λ x. (outcome_of x).status) first ∙ status (rest_in reader' ++ g.over),
            b.kept,
          );
    }

-- there was no memory at the first line
short : (s0 s s' : SourceState) (reader reader' : Input) (number : ℕ) (replay replay' : Option Replay) (r : Checking s0 s reader number replay) → Step s s' reader reader'
    → Is s' reader' next.Line → s'.faults ≡ s.faults → IsFirst r.so_far (line_in reader') → ChecksFile s0 s' replay' check.NoMemory
short s0 s s' reader reader' number replay replay' r step is kept first =
    let b = between_line s0 s s' reader reader' limit r.lines r.between step is kept in
    let none : r.lines ≡ [] = r.followed.fresh first.0 in
    let g = subst (λ ls. Gave s0 s' (rest_in reader') reader'.taken limit (ls ++ line_in reader' ∷ [])) none b.gave in
    let was = line_was (line_in reader') (line.Head first.1.0) first.1.1 in
    let text = first_text s0 s' (rest_in reader') reader'.taken (line_in reader') g ∙ ap (λ x. x ++ 10 ∷ []) was.0 in
    let after : EndsAfterHead ((g.prefix ++ rest_in reader') ++ g.over) =
    record {
      words = first.1.0;
      size = first.1.2;
      rest = rest_in reader' ++ g.over;
      parts = append_assoc g.prefix (rest_in reader') g.over ∙ ap (λ x. x ++ (rest_in reader' ++ g.over)) text;
      few = omega (arith, b.ready.room, g.beyond, length-append (rest_in reader') g.over, length-drop reader'.skip reader'.lines);
    } in
    record { taken = (g.prefix ++ rest_in reader') ++ g.over; took = g.took; ends = λ remaining left. (after, b.kept) }

ended_by : (s0 s s' : SourceState) (reader reader' : Input) (number : ℕ) (replay replay' : Option Replay) (ended : CheckStatus) (r : Checking s0 s reader number replay) → Step s s' reader reader'
    → Is s' reader' next.Line → s'.faults ≡ s.faults → EndsAt number r.so_far (line_in reader') ended → ChecksFile s0 s' replay' ended
ended_by s0 s s' reader reader' number replay replay' (check.Wrong n) r step is kept stop = refused s0 s s' reader reader' number replay replay' (check.Wrong n) r step is kept stop tt (λ bytes taken h. h)
ended_by s0 s s' reader reader' number replay replay' (check.NotALine n) r step is kept stop = refused s0 s s' reader reader' number replay replay' (check.NotALine n) r step is kept stop tt (λ bytes taken h. h)
ended_by s0 s s' reader reader' number replay replay' check.NoMemory r step is kept stop = short s0 s s' reader reader' number replay replay' r step is kept stop
ended_by s0 s s' reader reader' number replay replay' check.Ok r step is kept stop = absurd stop
ended_by s0 s s' reader reader' number replay replay' check.ReadFault r step is kept stop = absurd stop
ended_by s0 s s' reader reader' number replay replay' check.WriteFault r step is kept stop = absurd stop
ended_by s0 s s' reader reader' number replay replay' (check.BadWords _) r step is kept stop = absurd stop
ended_by s0 s s' reader reader' number replay replay' check.TooLong r step is kept stop = absurd stop
ended_by s0 s s' reader reader' number replay replay' check.Cut r step is kept stop = absurd stop

-- a line ends the check
pub checking_ended : (s0 s s' : SourceState) (reader reader' : Input) (number : ℕ) (replay replay' : Option Replay) (bytes : List ℕ) (ended : CheckStatus) → Checking s0 s reader number replay → Step s s' reader reader'
    → Is s' reader' next.Line → s'.faults ≡ s.faults → bytes ≡ line_in reader' → ((c : Checked) → HasRead replay c → EndsAt number c bytes ended) → ChecksFile s0 s' replay' ended
checking_ended s0 s s' reader reader' number replay replay' bytes ended r step is kept same ends =
    ended_by s0 s s' reader reader' number replay replay' ended r step is kept (subst (λ b. EndsAt number r.so_far b ended) same (ends r.so_far r.read))

-- a last line without a line feed ends it
pub checking_rest : (s0 s s' : SourceState) (reader reader' : Input) (number : ℕ) (replay : Option Replay) (ended : CheckStatus) → Checking s0 s reader number replay → Step s s' reader reader'
    → Is s' reader' next.Rest → s'.faults ≡ s.faults → ended ≡ check.NotALine number → ChecksFile s0 s' replay ended
checking_rest s0 s s' reader reader' number replay ended r step is kept same =
    let g = gave_after s0 s s' reader reader' limit r.lines r.between step in
    let ready = ready_on reader reader' limit r.between.ready.same step.ready in
    let within : reader'.taken ≤ limit = omega (arith, is.3, ready.same) in
    let taken = (g.prefix ++ reader'.lines) ++ g.over in
    let status : (outcome_of taken).status ≡ check.NotALine number =
    ap (λ x. (outcome_of x).status) (whole_taken s0 s' reader'.lines reader'.taken r.lines g within)
    ∙ rest_status s0 s' reader'.lines (line_in reader') reader'.taken r.lines number r.so_far g r.followed within is.0 is.1 in
    subst (λ (x : CheckStatus). ChecksFile s0 s' replay x) (sym same)
    (record {
      taken = taken;
      took = g.took;
      ends = λ remaining left.
          (ap (λ x. (outcome_of (taken ++ x)).status) (none_at_end s'.left remaining is.2 left) ∙ ap (λ x. (outcome_of x).status) (append-nil taken) ∙ status, status, kept ∙ r.between.kept);
    })

-- too long a line ends it
pub checking_long : (s0 s s' : SourceState) (reader reader' : Input) (number : ℕ) (replay : Option Replay) (ended : CheckStatus) → Checking s0 s reader number replay → Step s s' reader reader'
    → Is s' reader' next.Long → s'.faults ≡ s.faults → ended ≡ check.NotALine number → ChecksFile s0 s' replay ended
checking_long s0 s s' reader reader' number replay ended r step is kept same =
    let g = gave_after s0 s s' reader reader' limit r.lines r.between step in
    let front = g.prefix ++ reader'.lines in
    let taken = front ++ g.over in
    let status : (rest : List ℕ) → (outcome_of (front ++ rest)).status ≡ check.NotALine number =
    λ rest. long_status s0 s' reader'.lines reader'.taken r.lines number r.so_far g r.followed is.0 rest in
    subst (λ (x : CheckStatus). ChecksFile s0 s' replay x) (sym same)
    (record {
      taken = taken;
      took = g.took;
      ends = λ remaining left. (ap (λ x. (outcome_of x).status) (append_assoc front g.over remaining) ∙ status (g.over ++ remaining), status g.over, kept ∙ r.between.kept);
    })

-- the input ended after a line feed
by_end : (s0 s' : SourceState) (taken : List ℕ) (n : ℕ) (c : Checked) (replay : Option Replay) → outcome_of taken ≡ record { status = at_end n c []; after = c } → HasRead replay c → s'.faults ≡ s0.faults
    → EndsCheck taken taken s0 s' replay (at_end n c [])
by_end s0 s' taken n Unbegun replay is read kept = (refl, (Unbegun, is, read), kept)
by_end s0 s' taken n (Going words ns owed) replay is read kept = (refl, (Going words ns owed, is, read), kept)
by_end s0 s' taken n (Over words ns) replay is read kept = (refl, (Over words ns, is, read), kept)

pub checking_end : (s0 s s' : SourceState) (reader reader' : Input) (number : ℕ) (replay : Option Replay) (ended : CheckStatus) → Checking s0 s reader number replay → Step s s' reader reader'
    → Is s' reader' next.End → s'.faults ≡ s.faults → ((c : Checked) → HasRead replay c → ended ≡ at_end number c []) → ChecksFile s0 s' replay ended
checking_end s0 s s' reader reader' number replay ended r step is kept ends =
    let g = gave_after s0 s s' reader reader' limit r.lines r.between step in
    let ready = ready_on reader reader' limit r.between.ready.same step.ready in
    let within : reader'.taken ≤ limit = omega (arith, is.3, ready.same) in
    let taken = (g.prefix ++ reader'.lines) ++ g.over in
    let all : outcome_of taken ≡ record { status = at_end number r.so_far []; after = r.so_far } =
    ap outcome_of (whole_taken s0 s' reader'.lines reader'.taken r.lines g within) ∙ end_outcome s0 s' reader'.lines reader'.taken r.lines number r.so_far g r.followed within is.0 in
    let found = by_end s0 s' taken number r.so_far replay all r.read (kept ∙ r.between.kept) in
    subst (λ (x : CheckStatus). ChecksFile s0 s' replay x) (sym (ends r.so_far r.read))
    (record {
      taken = taken;
      took = g.took;
      ends = λ remaining left.
          let same : taken ++ remaining ≡ taken = ap (λ x. taken ++ x) (none_at_end s'.left remaining is.2 left) ∙ append-nil taken in
          subst (λ x. EndsCheck x taken s0 s' replay (at_end number r.so_far [])) (sym same) found;
    })

-- a read failed
pub checking_fault : (s0 s s' : SourceState) (reader reader' : Input) (number : ℕ) (replay : Option Replay) → Checking s0 s reader number replay → Step s s' reader reader'
    → Is s' reader' next.Fault → Rose s.faults s'.faults → ChecksFile s0 s' replay check.ReadFault
checking_fault s0 s s' reader reader' number replay r step is rose =
    let g = gave_after s0 s s' reader reader' limit r.lines r.between step in
    let ready = ready_on reader reader' limit r.between.ready.same step.ready in
    let within : reader'.taken ≤ limit = omega (arith, is.2, ready.same) in
    let whole = whole_taken s0 s' reader'.lines reader'.taken r.lines g within in
    record {
      taken = (g.prefix ++ reader'.lines) ++ g.over;
      took = g.took;
      ends = λ remaining left. (
        subst (λ n. Rose n s'.faults) r.between.kept rose,
        subst GoesOn (sym whole) (fault_goes_on s0 s' reader'.lines reader'.taken r.lines number r.so_far g r.followed is.0),
      );
    }

-- the input is longer than a journal file may be
pub checking_beyond : (s0 s s' : SourceState) (reader reader' : Input) (number : ℕ) (replay : Option Replay) → Checking s0 s reader number replay → Step s s' reader reader'
    → Is s' reader' next.TooLong → s'.faults ≡ s.faults → ChecksFile s0 s' replay check.TooLong
checking_beyond s0 s s' reader reader' number replay r step is kept =
    let g = gave_after s0 s s' reader reader' limit r.lines r.between step in
    let ready = ready_on reader reader' limit r.between.ready.same step.ready in
    let size : reader'.taken ≡ limit + 1 = omega (arith, is.2, ready.same) in
    record {
      taken = (g.prefix ++ reader'.lines) ++ g.over;
      took = g.took;
      ends = λ remaining left. (
        omega (arith, size, g.size, length-append (g.prefix ++ reader'.lines) g.over, length-append g.prefix reader'.lines),
        limit_status s0 s' reader'.lines reader'.taken r.lines number r.so_far g r.followed size is.0 remaining,
        kept ∙ r.between.kept,
      );
    }
