-- Counting lines one after another.
use Rattle.std.proofs.Common.{◌≡◌, ℕ, ◌+◌, ◌-◌, ◌^◌, ◌<◌, ◌==◌, ◌≤◌, Bool, true, false, List, [], ◌∷◌, ◌++◌, length, Ok, Err, refl, ap, sym, subst, ◌∙◌, arith, append_assoc, length-append}
use Rattle.std.proofs.lemmas.Bool.Decides.{nat_tests}
use Rattle.std.proofs.lemmas.List.{append-nil}
use Rattle.km_base.specs.declared.lines.Line.{Line}
use Rattle.km_base.specs.declared.lines.Line.TheVariants as line
use Rattle.km_base.specs.declared.lines.NotACommand.{NotACommand as Refused}
use Rattle.km_base.specs.declared.status.Status.{Status}
use Rattle.km_base.specs.declared.status.Status.TheVariants as status
use Rattle.km_model.specs.Grammar.{rules, line_of}
use Rattle.km_model.specs.Output.{commands_in, commands_then, end_of_script, limit, lines_of, status_from, status_of, status_then, lines_within}
use Rattle.km_edge.specs.Streams.{SourceState, Rose}
use Rattle.km_reader.specs.Lines.{whole_lines}
use Rattle.km_reader.proofs.Calls.{AllGiven, LimitGiven, NextIs, WholeGiven}
use Rattle.km_forms.specs.declared.count.Count.{Count}
use Rattle.km_forms.specs.Counts.{CountsScript, GoesOn, IsRefusal, behind, commands_at, commands_of, first_count, is_fresh, status_at}
use Rattle.km_forms.proofs.Limits.{end_beyond, end_within}

-- a count that isn't 0 has begun
begun : (n : ℕ) (b : Bool) → ((n + 1) == 0) ≡ b → b ≡ false
begun n true e = absurd (let no : ((n + 1) == 0) ≡ false = grind (arith, nat_tests) in cc)
begun n false e = refl

-- the lines after one that was read
status_behind : (c : Count) (x : Line) (otherwise : Status) (ls : List (List ℕ))
    → status_then (is_fresh c) c.number (Ok x) (λ first. status_from rules otherwise first (c.number + 1) ls) ≡ status_at otherwise (behind c x) ls
status_behind c line.Blank otherwise ls = refl
status_behind c (line.Command _) otherwise ls = ap (λ b. status_from rules otherwise b (c.number + 1) ls) (sym (begun c.commands ((c.commands + 1) == 0) refl))

commands_behind : (c : Count) (x : Line) (ls : List (List ℕ)) → c.commands + commands_then (is_fresh c) (Ok x) (λ first. commands_in rules first ls) ≡ commands_at (behind c x) ls
commands_behind c line.Blank ls = refl
commands_behind c (line.Command _) ls =
    let same : commands_in rules ((c.commands + 1) == 0) ls ≡ commands_in rules false ls = ap (λ b. commands_in rules b ls) (begun c.commands ((c.commands + 1) == 0) refl) in
    omega (arith, same)

status_cons : (c : Count) (l : List ℕ) (x : Line) (otherwise : Status) (ls : List (List ℕ)) → line_of (is_fresh c) l ≡ Ok x → status_at otherwise c (l ∷ ls) ≡ status_at otherwise (behind c x) ls
status_cons c l x otherwise ls read =
    ap (λ r. status_then (is_fresh c) c.number r (λ first. status_from rules otherwise first (c.number + 1) ls)) read ∙ status_behind c x otherwise ls

commands_cons : (c : Count) (l : List ℕ) (x : Line) (ls : List (List ℕ)) → line_of (is_fresh c) l ≡ Ok x → commands_at c (l ∷ ls) ≡ commands_at (behind c x) ls
commands_cons c l x ls read = ap (λ r. c.commands + commands_then (is_fresh c) r (λ first. commands_in rules first ls)) read ∙ commands_behind c x ls

status_refused : (c : Count) (l : List ℕ) (e : Refused) (otherwise : Status) (ls : List (List ℕ)) → line_of (is_fresh c) l ≡ Err e
    → status_at otherwise c (l ∷ ls) ≡ status.NotACommand c.number e.column
status_refused c l e otherwise ls read = ap (λ r. status_then (is_fresh c) c.number r (λ first. status_from rules otherwise first (c.number + 1) ls)) read

pub number_behind : (c : Count) (x : Line) → (behind c x).number ≡ c.number + 1
number_behind c line.Blank = refl
number_behind c (line.Command _) = refl

pub few_behind : (c : Count) (x : Line) → (behind c x).commands ≤ c.commands + 1
few_behind c line.Blank = omega arith
few_behind c (line.Command _) = omega arith

-- these lines were counted, whatever comes after them
pub record Counted (lines : List (List ℕ)) (c : Count) : Type 0 where
  pub status_on : (otherwise : Status) (ls : List (List ℕ)) → status_at otherwise first_count (lines ++ ls) ≡ status_at otherwise c ls
  pub commands_on : (ls : List (List ℕ)) → commands_at first_count (lines ++ ls) ≡ commands_at c ls
  pub numbered : c.number ≤ length lines + 1
  pub few : c.commands ≤ length lines

counted_none : Counted [] first_count
counted_none = record { status_on = λ otherwise ls. refl; commands_on = λ ls. refl; numbered = omega arith; few = omega arith }

pub counted_start : (c : Count) → c ≡ first_count → Counted [] c
counted_start c is = subst (λ d. Counted [] d) (sym is) counted_none

-- one line more was counted
line_counted : (lines : List (List ℕ)) (c : Count) (l : List ℕ) (x : Line) → Counted lines c → line_of (is_fresh c) l ≡ Ok x → Counted (lines ++ l ∷ []) (behind c x)
line_counted lines c l x counted read = record {
  status_on = λ otherwise ls.
      ap (status_at otherwise first_count) (append_assoc lines (l ∷ []) ls) ∙ counted.status_on otherwise (l ∷ ls) ∙ status_cons c l x otherwise ls read;
  commands_on = λ ls. ap (commands_at first_count) (append_assoc lines (l ∷ []) ls) ∙ counted.commands_on (l ∷ ls) ∙ commands_cons c l x ls read;
  numbered = omega (arith, counted.numbered, number_behind c x, length-append lines (l ∷ []));
  few = omega (arith, counted.few, few_behind c x, length-append lines (l ∷ []));
}

pub counted_line : (lines : List (List ℕ)) (c c' : Count) (l : List ℕ) (x : Line) → Counted lines c → line_of (is_fresh c) l ≡ Ok x → c' ≡ behind c x → Counted (lines ++ l ∷ []) c'
counted_line lines c c' l x counted read is = subst (λ d. Counted (lines ++ l ∷ []) d) (sym is) (line_counted lines c l x counted read)

-- the counts stay small
pub counted_small : (lines : List (List ℕ)) (c : Count) → Counted lines c → length lines ≤ limit + 1 → (c.number < 2 ^ 64 - 1) × (c.commands < 2 ^ 64 - 1)
counted_small lines c counted few = (omega (arith, counted.numbered, few), omega (arith, counted.few, few))

-- the status of a script of which a line is refused
refused_status : (bytes : List ℕ) (lines more : List (List ℕ)) (c : Count) (l : List ℕ) (e : Refused) → Counted lines c → lines_within limit bytes ≡ lines ++ l ∷ more
    → line_of (is_fresh c) l ≡ Err e → status_of bytes ≡ status.NotACommand c.number e.column
refused_status bytes lines more c l e counted cut read =
    ap (status_at (end_of_script bytes) first_count) cut ∙ counted.status_on (end_of_script bytes) (l ∷ more) ∙ status_refused c l e (end_of_script bytes) more read

-- a line is refused
abbrev pub IsRefused : Count → ℕ → List ℕ → Type 0
IsRefused c column l = line_of (is_fresh c) l ≡ Err (record { column = column })

pub counts_refused : (s s' : SourceState) (lines : List (List ℕ)) (c : Count) (column : ℕ) (ended : Status) → Counted lines c → NextIs (IsRefused c column) s s' limit lines
    → IsRefusal c column ended → s'.faults ≡ s.faults → CountsScript s s' (Err ended)
counts_refused s s' lines c column ended counted next is kept =
    subst (λ (x : Status). CountsScript s s' (Err x)) (sym is)
    (record {
      taken = next.taken;
      took = next.took;
      counts = λ remaining left.
          let all = next.next remaining left in
          let first = next.first in (
            refused_status (next.taken ++ remaining) lines all.1 c all.0 (record { column = column }) counted all.2 all.3,
            refused_status next.taken lines first.1 c first.0 (record { column = column }) counted first.2 first.3,
            kept,
          );
    })

-- the input ended, and all of its lines were counted
pub counts_all : (s s' : SourceState) (lines : List (List ℕ)) (c : Count) → Counted lines c → AllGiven s s' limit lines → s'.faults ≡ s.faults → CountsScript s s' (Ok c.commands)
counts_all s s' lines c counted given kept =
    let cut : lines_of given.taken ≡ lines ++ [] = given.all ∙ sym (append-nil lines) in
    let ended = end_within given.taken given.short in
    let is_status : status_of given.taken ≡ status.Ok =
    ap (λ o. status_from rules o true 1 (lines_of given.taken)) ended ∙ ap (status_at status.Ok first_count) cut ∙ counted.status_on status.Ok [] in
    let count = ap (commands_at first_count) cut ∙ counted.commands_on [] in
    record {
      taken = given.taken;
      took = given.took;
      counts = λ remaining left.
          let same : given.taken ++ remaining ≡ given.taken = ap (λ x. given.taken ++ x) (given.none remaining left) ∙ append-nil given.taken in
          let number = ap commands_of same in
          (sym same, ap status_of same ∙ is_status, omega (arith, count, number), kept);
    }

-- a read failed
pub counts_fault : (s s' : SourceState) (lines : List (List ℕ)) (c : Count) → Counted lines c → WholeGiven s s' lines → Rose s.faults s'.faults → CountsScript s s' (Err status.ReadFault)
counts_fault s s' lines c counted given rose =
    let on : GoesOn given.taken = ap (status_at status.Ok first_count) (given.whole ∙ sym (append-nil lines)) ∙ counted.status_on status.Ok [] in
    record { taken = given.taken; took = given.took; counts = λ remaining left. (rose, on) }

-- the input is longer than a script may be
pub counts_long : (s s' : SourceState) (lines : List (List ℕ)) (c : Count) → Counted lines c → LimitGiven s s' limit lines → s'.faults ≡ s.faults → CountsScript s s' (Err status.TooLong)
counts_long s s' lines c counted given kept = record {
  taken = given.taken;
  took = given.took;
  counts = λ remaining left.
      let bytes = given.taken ++ remaining in
      let ended = end_beyond bytes (omega (arith, given.size, length-append given.taken remaining)) in (
        given.size,
        ap (λ o. status_from rules o true 1 (lines_of bytes)) ended ∙ ap (status_at status.TooLong first_count) (given.all remaining ∙ sym (append-nil lines)) ∙ counted.status_on status.TooLong [],
        kept,
      );
}
