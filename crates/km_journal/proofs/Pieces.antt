-- The lines of a journal file as a reader gives them, and how the whole file ends then.
use Rattle.std.proofs.Common.{◌≡◌, ℕ, ◌+◌, ◌-◌, ◌<◌, ◌≤◌, Bool, true, false, nat_le, nat_lt, List, [], ◌∷◌, ◌++◌, length, take, drop, Option, Some, None, if◌then◌else◌, refl, ap, sym, subst, ◌∙◌, arith, append_assoc, length-append, length-drop}
use Rattle.std.proofs.lemmas.Bool.Decides.{nat_tests}
use Rattle.std.proofs.lemmas.List.{append-nil, length-take}
use Rattle.std.proofs.Math.Seq.{take-append-add, take-append_seam}
use Rattle.km_model.specs.Output.{all_but_last, between_line_feeds, is_empty, lines_in}
use Rattle.km_edge.specs.Streams.{SourceState}
use Rattle.km_edge.specs.Lines.{TooLong, Unknown, Whole, next_of}
use Rattle.km_reader.specs.Lines.{KeepsLong}
use Rattle.km_reader.specs.Lists.{Gave}
use Rattle.km_reader.proofs.LineLists.{held_long, held_more, one_piece}
use Rattle.km_reader.proofs.Lists.{rest_line}
use Rattle.km_reader.proofs.Ends.{long_line}
use Rattle.km_reader.proofs.Steps.{no_length}
use Rattle.km_entries.specs.declared.lines.JournalLine.{JournalLine}
use Rattle.km_entries.specs.declared.lines.JournalLine.TheVariants as line
use Rattle.km_entries.specs.declared.status.CheckStatus.{CheckStatus}
use Rattle.km_entries.specs.declared.status.CheckStatus.TheVariants as check
use Rattle.km_entries.specs.Lines.{journal_line_text, line_bytes}
use Rattle.km_entries.specs.Reading.{journal_line, line_by_words}
use Rattle.km_entries.specs.Words.{words_in}
use Rattle.km_entries.specs.File.{Checked, IsNoLine, Outcome, Unbegun, Verdict, at_end, at_limit, limit, outcome_from, outcome_of, verdict, verdict_of}
use Rattle.km_entries.proofs.Files.{joined, joined_pieces, some_piece}
use Rattle.km_journal.specs.Journals.{EndsAt, GoesOn, at_fault}
use Rattle.km_journal.proofs.Lines.{Followed, IsRefusal, long_at, refused_at}

-- a test that drops no piece
abbrev keeps : List ℕ → Bool
keeps _ = false

all_kept : (ls : List (List ℕ)) → all_but_last keeps ls ≡ ls
all_kept [] = refl
all_kept (l ∷ []) = refl
all_kept (l ∷ m ∷ ls) = ap (λ x. l ∷ x) (all_kept (m ∷ ls))

-- the pieces of an input are the lines that were given, and then those of the rest
pieces_cut : (s0 s : SourceState) (held : List ℕ) (total : ℕ) (lines : List (List ℕ)) (g : Gave s0 s held total limit lines) (rest : List ℕ)
    → between_line_feeds (g.prefix ++ rest) ≡ lines ++ between_line_feeds rest
pieces_cut s0 s held total lines g rest =
    sym (all_kept (between_line_feeds (g.prefix ++ rest))) ∙ g.cut keeps rest ∙ ap (λ x. lines ++ x) (all_kept (between_line_feeds rest))

-- a line of more than 256 bytes is of no form
long_none : (l : List ℕ) → 256 < length l → journal_line l ≡ None
unfolding journal_line
long_none l h = at_test (nat_lt 256 (length l)) (grind (arith, nat_tests))
  where
    at_test : (b : Bool) → b ≡ true → (if b then None else line_by_words (words_in l)) ≡ None
    at_test true e = refl
    at_test false e = absurd (cc)

long_no_line : (c : Checked) (l : List ℕ) → 256 < length l → verdict c l ≡ IsNoLine
long_no_line c l h = ap (λ (o : Option JournalLine). elim o as (λ _. Verdict) [ None ↦ IsNoLine | Some x ↦ verdict_of c x ]) (long_none l h)

-- how a whole input ends, the first part of which is within the limit
record Ending (bytes front : List ℕ) : Type 0 where
  pub end : ℕ → Checked → List ℕ → CheckStatus
  pub more : List ℕ
  pub is : outcome_of bytes ≡ outcome_from end 1 Unbegun (between_line_feeds (front ++ more))
  pub long : (n : ℕ) (c : Checked) (l : List ℕ) → 256 < length l → end n c l ≡ check.NotALine n

end_long : (n : ℕ) (c : Checked) (l : List ℕ) → 256 < length l → at_end n c l ≡ check.NotALine n
end_long n c [] h = absurd (omega (arith, h))
end_long n c (b ∷ l) h = refl

limit_long : (n : ℕ) (c : Checked) (l : List ℕ) → 256 < length l → at_limit n c l ≡ check.NotALine n
limit_long n c l h = at_test (nat_le (length l) 256) (grind (arith, nat_tests))
  where
    at_test : (b : Bool) → b ≡ false → (if b then check.TooLong else check.NotALine n) ≡ check.NotALine n
    at_test true e = absurd (cc)
    at_test false e = refl

take_past : (most : ℕ) (front rest : List ℕ) → length front ≤ most → take most (front ++ rest) ≡ front ++ take (most - length front) rest
take_past most front rest h =
    let whole : most ≡ length front + (most - length front) = omega (arith, h) in ap (λ k. take k (front ++ rest)) whole ∙ take-append-add front rest (most - length front)

ending : (front rest : List ℕ) → length front ≤ limit → Ending (front ++ rest) front
ending front rest h = by_length (nat_le (length (front ++ rest)) limit) refl
  where
    by_length : (b : Bool) → nat_le (length (front ++ rest)) limit ≡ b → Ending (front ++ rest) front
    by_length true e = record {
      end = at_end;
      more = rest;
      is = ap (λ b. if b then outcome_from at_end 1 Unbegun (between_line_feeds (front ++ rest)) else outcome_from at_limit 1 Unbegun (between_line_feeds (take limit (front ++ rest)))) e;
      long = end_long;
    }
    by_length false e = record {
      end = at_limit;
      more = take (limit - length front) rest;
      is =
          ap (λ b. if b then outcome_from at_end 1 Unbegun (between_line_feeds (front ++ rest)) else outcome_from at_limit 1 Unbegun (between_line_feeds (take limit (front ++ rest)))) e
          ∙ ap (λ x. outcome_from at_limit 1 Unbegun (between_line_feeds x)) (take_past limit front rest h);
      long = limit_long;
    }

-- a line that was given is refused, whatever comes after it
pub refused_status : (s0 s : SourceState) (held : List ℕ) (total : ℕ) (lines : List (List ℕ)) (l : List ℕ) (n : ℕ) (c : Checked) (ended : CheckStatus)
    → (g : Gave s0 s held total limit (lines ++ l ∷ [])) → Followed lines n c → IsRefusal ended → EndsAt n c l ended → (rest : List ℕ) → (outcome_of (g.prefix ++ rest)).status ≡ ended
refused_status s0 s held total lines l n c ended g f is e rest =
    let way = ending g.prefix rest (omega (arith, g.size, g.beyond)) in
    let next = some_piece way.more in
    let pieces : between_line_feeds (g.prefix ++ way.more) ≡ lines ++ l ∷ next.0 ∷ next.1 =
    pieces_cut s0 s held total (lines ++ l ∷ []) g way.more ∙ ap (λ x. (lines ++ l ∷ []) ++ x) next.2 ∙ append_assoc lines (l ∷ []) (next.0 ∷ next.1) in
    ap (λ (o : Outcome). o.status) (way.is ∙ ap (outcome_from way.end 1 Unbegun) pieces) ∙ refused_at way.end lines next.1 n c l next.0 ended f is e

-- a line that is too long is refused, whatever comes after what is held
pub long_status : (s0 s : SourceState) (held : List ℕ) (total : ℕ) (lines : List (List ℕ)) (n : ℕ) (c : Checked)
    → (g : Gave s0 s held total limit lines) → Followed lines n c → TooLong ≡ next_of false held → (rest : List ℕ) → (outcome_of ((g.prefix ++ held) ++ rest)).status ≡ check.NotALine n
long_status s0 s held total lines n c g f w rest =
    let way = ending (g.prefix ++ held) rest (omega (arith, g.size, g.beyond, length-append g.prefix held)) in
    let long = held_long held w in
    let first = long_line keeps held way.more (λ l h. refl) long.0 long.1 in
    let pieces : between_line_feeds ((g.prefix ++ held) ++ way.more) ≡ lines ++ first.0 ∷ first.1 =
    ap between_line_feeds (append_assoc g.prefix held way.more) ∙ pieces_cut s0 s held total lines g (held ++ way.more)
    ∙ ap (λ x. lines ++ x) (sym (all_kept (between_line_feeds (held ++ way.more))) ∙ first.2) in
    ap (λ (o : Outcome). o.status) (way.is ∙ ap (outcome_from way.end 1 Unbegun) pieces)
    ∙ long_at way.end lines first.1 n c first.0 f (long_no_line c first.0 first.3) (way.long n c first.0 first.3)

-- an input of which a piece without a line feed is held after the lines
pieces_held : (s0 s : SourceState) (held : List ℕ) (total : ℕ) (lines : List (List ℕ)) (g : Gave s0 s held total limit lines) → next_of false held ≡ Unknown
    → between_line_feeds (g.prefix ++ held) ≡ lines ++ held ∷ []
pieces_held s0 s held total lines g u = pieces_cut s0 s held total lines g held ∙ ap (λ x. lines ++ x) (one_piece held (held_more held u).0)

within_limit : (bytes : List ℕ) (b : Bool) → b ≡ true → (if b then outcome_from at_end 1 Unbegun (between_line_feeds bytes) else outcome_from at_limit 1 Unbegun (between_line_feeds (take limit bytes)))
    ≡ outcome_from at_end 1 Unbegun (between_line_feeds bytes)
within_limit bytes true e = refl
within_limit bytes false e = absurd (cc)

-- the input ended, and this is held
ended_at : (s0 s : SourceState) (held : List ℕ) (total : ℕ) (lines : List (List ℕ)) (n : ℕ) (c : Checked) (g : Gave s0 s held total limit lines)
    → Followed lines n c → total ≤ limit → between_line_feeds held ≡ held ∷ [] → outcome_of (g.prefix ++ held) ≡ record { status = at_end n c held; after = c }
ended_at s0 s held total lines n c g f short one =
    let bytes = g.prefix ++ held in
    let fits : length bytes ≤ limit = omega (arith, g.size, short, length-append g.prefix held) in
    within_limit bytes (nat_le (length bytes) limit) (grind (arith, nat_tests))
    ∙ ap (outcome_from at_end 1 Unbegun) (pieces_cut s0 s held total lines g held ∙ ap (λ x. lines ++ x) one) ∙ f.on at_end held []

-- nothing is taken over the limit, and nothing is left
pub whole_taken : (s0 s : SourceState) (held : List ℕ) (total : ℕ) (lines : List (List ℕ)) (g : Gave s0 s held total limit lines) → total ≤ limit → (g.prefix ++ held) ++ g.over ≡ g.prefix ++ held
whole_taken s0 s held total lines g short =
    let none = no_length g.over (omega (arith, g.beyond, short)) in ap (λ o. (g.prefix ++ held) ++ o) none ∙ append-nil (g.prefix ++ held)

pub end_outcome : (s0 s : SourceState) (held : List ℕ) (total : ℕ) (lines : List (List ℕ)) (n : ℕ) (c : Checked) (g : Gave s0 s held total limit lines)
    → Followed lines n c → total ≤ limit → held ≡ [] → outcome_of (g.prefix ++ held) ≡ record { status = at_end n c []; after = c }
end_outcome s0 s held total lines n c g f short none =
    let one : between_line_feeds held ≡ held ∷ [] = subst (λ x. between_line_feeds x ≡ x ∷ []) (sym none) refl in
    ended_at s0 s held total lines n c g f short one ∙ ap (λ x. record { status = at_end n c x; after = c }) none

no_rest : (n : ℕ) (c : Checked) (held l : List ℕ) → lines_in is_empty held ≡ l ∷ [] → at_end n c held ≡ check.NotALine n
no_rest n c [] l e = absurd (cc)
no_rest n c (b ∷ held) l e = refl

pub rest_status : (s0 s : SourceState) (held l : List ℕ) (total : ℕ) (lines : List (List ℕ)) (n : ℕ) (c : Checked) (g : Gave s0 s held total limit lines)
    → Followed lines n c → total ≤ limit → next_of false held ≡ Unknown → Whole l ≡ next_of true held → (outcome_of (g.prefix ++ held)).status ≡ check.NotALine n
rest_status s0 s held l total lines n c g f short u w =
    ap (λ (o : Outcome). o.status) (ended_at s0 s held total lines n c g f short (one_piece held (held_more held u).0)) ∙ no_rest n c held l (rest_line held l u w).1

-- a read failed after these lines
pub fault_goes_on : (s0 s : SourceState) (held : List ℕ) (total : ℕ) (lines : List (List ℕ)) (n : ℕ) (c : Checked) (g : Gave s0 s held total limit lines)
    → Followed lines n c → next_of false held ≡ Unknown → GoesOn (g.prefix ++ held)
fault_goes_on s0 s held total lines n c g f u =
    let short : length held ≤ 256 = (held_more held u).1 in
    ap (λ (o : Outcome). o.status) (ap (outcome_from at_fault 1 Unbegun) (pieces_held s0 s held total lines g u) ∙ f.on at_fault held [])
    ∙ at_test (nat_le (length held) 256) (grind (arith, nat_tests))
  where
    at_test : (b : Bool) → b ≡ true → (if b then check.ReadFault else check.NotALine n) ≡ check.ReadFault
    at_test true e = refl
    at_test false e = absurd (cc)

-- the input is longer than its limit
beyond_limit : (bytes front : List ℕ) (b : Bool) → b ≡ false → take limit bytes ≡ front
    → (if b then outcome_from at_end 1 Unbegun (between_line_feeds bytes) else outcome_from at_limit 1 Unbegun (between_line_feeds (take limit bytes))) ≡ outcome_from at_limit 1 Unbegun (between_line_feeds front)
beyond_limit bytes front true e h = absurd (cc)
beyond_limit bytes front false e h = ap (λ x. outcome_from at_limit 1 Unbegun (between_line_feeds x)) h

pub limit_status : (s0 s : SourceState) (held : List ℕ) (total : ℕ) (lines : List (List ℕ)) (n : ℕ) (c : Checked) (g : Gave s0 s held total limit lines)
    → Followed lines n c → total ≡ limit + 1 → next_of false held ≡ Unknown → (remaining : List ℕ) → (outcome_of (((g.prefix ++ held) ++ g.over) ++ remaining)).status ≡ check.TooLong
limit_status s0 s held total lines n c g f size u remaining =
    let front = g.prefix ++ held in
    let bytes = (front ++ g.over) ++ remaining in
    let exact : length front ≡ limit = omega (arith, size, g.size, g.beyond, length-append g.prefix held) in
    let more : limit < length bytes = omega (arith, exact, g.beyond, size, length-append (front ++ g.over) remaining, length-append front g.over) in
    let first : take limit bytes ≡ front = ap (take limit) (append_assoc front g.over remaining) ∙ ap (λ k. take k (front ++ (g.over ++ remaining))) (sym exact) ∙ take-append_seam front (g.over ++ remaining) in
    let short : length held ≤ 256 = (held_more held u).1 in
    ap (λ (o : Outcome). o.status)
    (beyond_limit bytes front (nat_le (length bytes) limit) (grind (arith, nat_tests)) first ∙ ap (outcome_from at_limit 1 Unbegun) (pieces_held s0 s held total lines g u) ∙ f.on at_limit held [])
    ∙ at_test (nat_le (length held) 256) (grind (arith, nat_tests))
  where
    at_test : (b : Bool) → b ≡ true → (if b then check.TooLong else check.NotALine n) ≡ check.TooLong
    at_test true e = refl
    at_test false e = absurd (cc)

-- the first line, with its line feed
pub first_text : (s0 s : SourceState) (held : List ℕ) (total : ℕ) (l : List ℕ) → (g : Gave s0 s held total limit (l ∷ [])) → g.prefix ≡ l ++ 10 ∷ []
first_text s0 s held total l g =
    sym (joined_pieces g.prefix) ∙ ap joined (ap between_line_feeds (sym (append-nil g.prefix)) ∙ pieces_cut s0 s held total (l ∷ []) g [])
