-- A count between two lines, and how it ends.
use Rattle.std.proofs.Common.{◌≡◌, ℕ, ◌+◌, ◌-◌, ◌^◌, ◌<◌, List, [], ◌∷◌, ◌++◌, length, Result, Ok, Err, refl, ap, sym, subst, ◌∙◌, arith}
use Rattle.km_base.specs.declared.lines.Line.{Line}
use Rattle.km_base.specs.declared.lines.NotACommand.{NotACommand as Refused}
use Rattle.km_base.specs.declared.status.Status.{Status}
use Rattle.km_base.specs.declared.status.Status.TheVariants as status
use Rattle.km_model.specs.Grammar.{line_of}
use Rattle.km_model.specs.Output.{limit}
use Rattle.km_edge.specs.Streams.{SourceState, Rose}
use Rattle.km_reader.specs.declared.reader.Next.TheVariants as next
use Rattle.km_reader.specs.Reading.{Input, Is, Step, line_in, rest_in, unread}
use Rattle.km_reader.proofs.Calls.{Between, all_end, all_rest, between_few, between_line, between_start, limit_given, next_line, next_long, next_rest, shrinks, whole_fault}
use Rattle.km_forms.specs.declared.count.Count.{Count}
use Rattle.km_forms.specs.Counts.{CountsScript, IsRefusal, behind, first_count, is_fresh}
use Rattle.km_forms.proofs.Counting.{Counted, IsRefused, counted_line, counted_small, counted_start, counts_all, counts_fault, counts_long, counts_refused}
use Rattle.km_forms.proofs.Limits.{long_is_refused}

-- the lines that were given were counted
pub record Going (s0 s : SourceState) (reader : Input) (c : Count) : Type 0 where
  pub lines : List (List ℕ)
  pub between : Between s0 s reader limit lines
  pub counted : Counted lines c

pub going_start : (s : SourceState) (reader : Input) (c : Count) → reader ≡ unread limit → c ≡ first_count → Going s s reader c
going_start s reader c e f = record { lines = []; between = between_start s reader limit e; counted = counted_start c f }

-- the next line can be counted
pub going_small : (s0 s : SourceState) (reader : Input) (c : Count) → Going s0 s reader c → (c.number < 2 ^ 64 - 1) × (c.commands < 2 ^ 64 - 1)
going_small s0 s reader c r = counted_small r.lines c r.counted (between_few s0 s reader limit r.lines r.between)

-- each line leaves less to read
pub going_shrinks : (s0 s s' : SourceState) (reader reader' : Input) (c : Count) → Going s0 s reader c → Step s s' reader reader' → Is s' reader' next.Line
    → (limit + 1 - reader'.taken) + length (rest_in reader') < (limit + 1 - reader.taken) + length (rest_in reader)
going_shrinks s0 s s' reader reader' c r step is = shrinks s0 s s' reader reader' limit r.lines r.between step is

-- a line was counted
abbrev ReadsAt : Count → Count → List ℕ → Type 0
ReadsAt c c' bytes = (l : Line) × (line_of (is_fresh c) bytes ≡ Ok l) × (c' ≡ behind c l)

-- a line is refused
abbrev EndsAt : Count → List ℕ → Status → Type 0
EndsAt c bytes ended = (e : Refused) × (line_of (is_fresh c) bytes ≡ Err e) × IsRefusal c e.column ended

pub going_line : (s0 s s' : SourceState) (reader reader' : Input) (c c' : Count) (bytes : List ℕ) → Going s0 s reader c → Step s s' reader reader' → Is s' reader' next.Line
    → s'.faults ≡ s.faults → bytes ≡ line_in reader' → ReadsAt c c' bytes → Going s0 s' reader' c'
going_line s0 s s' reader reader' c c' bytes r step is kept same read = record {
  lines = r.lines ++ line_in reader' ∷ [];
  between = between_line s0 s s' reader reader' limit r.lines r.between step is kept;
  counted = counted_line r.lines c c' (line_in reader') read.0 r.counted (ap (line_of (is_fresh c)) (sym same) ∙ read.1) read.2;
}

pub going_refused : (s0 s s' : SourceState) (reader reader' : Input) (c : Count) (bytes : List ℕ) (ended : Status) → Going s0 s reader c → Step s s' reader reader' → Is s' reader' next.Line
    → s'.faults ≡ s.faults → bytes ≡ line_in reader' → EndsAt c bytes ended → CountsScript s0 s' (Err ended)
going_refused s0 s s' reader reader' c bytes ended r step is kept same stop =
    counts_refused s0 s' r.lines c stop.0.column ended r.counted
    (next_line (IsRefused c stop.0.column) s0 s s' reader reader' limit r.lines r.between step is (ap (line_of (is_fresh c)) (sym same) ∙ stop.1)).0 stop.2 (kept ∙ r.between.kept)

-- the last line was counted
pub going_rest : (s0 s s' : SourceState) (reader reader' : Input) (c c' : Count) (bytes : List ℕ) → Going s0 s reader c → Step s s' reader reader' → Is s' reader' next.Rest
    → s'.faults ≡ s.faults → bytes ≡ line_in reader' → ReadsAt c c' bytes → CountsScript s0 s' (Ok c'.commands)
going_rest s0 s s' reader reader' c c' bytes r step is kept same read =
    counts_all s0 s' (r.lines ++ line_in reader' ∷ []) c'
    (counted_line r.lines c c' (line_in reader') read.0 r.counted (ap (line_of (is_fresh c)) (sym same) ∙ read.1) read.2)
    (all_rest s0 s s' reader reader' limit r.lines r.between step is) (kept ∙ r.between.kept)

pub going_rest_refused : (s0 s s' : SourceState) (reader reader' : Input) (c : Count) (bytes : List ℕ) (ended : Status) → Going s0 s reader c → Step s s' reader reader' → Is s' reader' next.Rest
    → s'.faults ≡ s.faults → bytes ≡ line_in reader' → EndsAt c bytes ended → CountsScript s0 s' (Err ended)
going_rest_refused s0 s s' reader reader' c bytes ended r step is kept same stop =
    counts_refused s0 s' r.lines c stop.0.column ended r.counted
    (next_rest (IsRefused c stop.0.column) s0 s s' reader reader' limit r.lines r.between step is (ap (line_of (is_fresh c)) (sym same) ∙ stop.1)).0 stop.2 (kept ∙ r.between.kept)

-- a line is too long
pub going_long : (s0 s s' : SourceState) (reader reader' : Input) (c : Count) (ended : Status) → Going s0 s reader c → Step s s' reader reader' → Is s' reader' next.Long
    → s'.faults ≡ s.faults → IsRefusal c 257 ended → CountsScript s0 s' (Err ended)
going_long s0 s s' reader reader' c ended r step is kept stop =
    counts_refused s0 s' r.lines c 257 ended r.counted
    (next_long (IsRefused c 257) s0 s s' reader reader' limit r.lines r.between step is (λ l long. long_is_refused (is_fresh c) l long)) stop (kept ∙ r.between.kept)

-- the input ended
pub going_end : (s0 s s' : SourceState) (reader reader' : Input) (c : Count) → Going s0 s reader c → Step s s' reader reader' → Is s' reader' next.End
    → s'.faults ≡ s.faults → CountsScript s0 s' (Ok c.commands)
going_end s0 s s' reader reader' c r step is kept =
    counts_all s0 s' r.lines c r.counted (all_end s0 s s' reader reader' limit r.lines r.between step is) (kept ∙ r.between.kept)

-- a read failed
pub going_fault : (s0 s s' : SourceState) (reader reader' : Input) (c : Count) → Going s0 s reader c → Step s s' reader reader' → Is s' reader' next.Fault
    → Rose s.faults s'.faults → CountsScript s0 s' (Err status.ReadFault)
going_fault s0 s s' reader reader' c r step is rose =
    counts_fault s0 s' r.lines c r.counted (whole_fault s0 s s' reader reader' limit r.lines r.between step is) (subst (λ n. Rose n s'.faults) r.between.kept rose)

-- the input is longer than a script may be
pub going_beyond : (s0 s s' : SourceState) (reader reader' : Input) (c : Count) → Going s0 s reader c → Step s s' reader reader' → Is s' reader' next.TooLong
    → s'.faults ≡ s.faults → CountsScript s0 s' (Err status.TooLong)
going_beyond s0 s s' reader reader' c r step is kept =
    counts_long s0 s' r.lines c r.counted (limit_given s0 s s' reader reader' limit r.lines r.between step is) (kept ∙ r.between.kept)
