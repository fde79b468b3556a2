-- The lines that a reader gives, one after another, and what they are of the whole input.
use Rattle.std.proofs.Common.{◌≡◌, ℕ, ◌+◌, ◌-◌, ◌≤◌, Bool, true, false, not, nat_le, List, [], ◌∷◌, ◌++◌, length, take, drop, refl, ap, sym, subst, ◌∙◌, arith, append_assoc, length-append, length-drop, if◌then◌else◌, inl, inr}
use Rattle.std.proofs.lemmas.Bool.{cases_lt}
use Rattle.std.proofs.lemmas.Bool.Decides.{nat_tests}
use Rattle.std.proofs.lemmas.List.{append-nil}
use Rattle.std.proofs.Math.Seq.{take-append-add}
use Rattle.std.specs.Io.KnownBytes.{Consumes, IsAtEnd}
use Rattle.km_model.specs.Output.{all_but_last, is_empty, is_unread, lines_in, lines_within}
use Rattle.km_edge.specs.Streams.{SourceState}
use Rattle.km_edge.specs.Lines.{Next, Whole, Unknown, next_of}
use Rattle.km_edge.specs.Lines.{is_empty as holds_none}
use Rattle.km_reader.specs.Lines.{IsLeft, KeepsLong}
use Rattle.km_reader.specs.Reading.{Went}
use Rattle.km_reader.specs.Lists.{Gave}
use Rattle.km_reader.proofs.LineLists.{NoFeed, held_line, held_more, lines_cons, feed_within, one_piece}
use Rattle.km_reader.proofs.Sources.{at_end, consumes_none, consumes_more}
use Rattle.km_reader.proofs.Steps.{no_length}

-- no line was given
pub gave_none : (s : SourceState) (limit : ℕ) → Gave s s [] 0 limit []
gave_none s limit = record {
  prefix = [];
  over = [];
  took = consumes_none s.left;
  cut = λ dropped rest. refl;
  size = refl;
  beyond = omega arith;
  few = omega arith;
}

-- more bytes were taken
pub gave_next : (s0 s s' : SourceState) (held held' : List ℕ) (total total' limit : ℕ) (lines : List (List ℕ)) → Gave s0 s held total limit lines
    → Went s s' held total limit held' total' → total' ≤ limit + 1 → Gave s0 s' held' total' limit lines
gave_next s0 s s' held held' total total' limit lines g w within =
    let bytes : (over : List ℕ) × (((g.prefix ++ held) ++ g.over) ++ w.more ≡ (g.prefix ++ held') ++ over) × (length over ≡ total' - limit) =
    elim (cases_lt limit total) as (λ _. (over : List ℕ) × (((g.prefix ++ held) ++ g.over) ++ w.more ≡ (g.prefix ++ held') ++ over) × (length over ≡ total' - limit)) [
      | inl past ↦
          let none : w.more ≡ [] = no_length w.more (omega (arith, w.size, within, past)) in
          let none' : w.over ≡ [] = no_length w.over (omega (arith, w.beyond, w.size, within, past)) in
          let same : held ≡ held' = sym (append-nil held) ∙ ap (λ m. held ++ m) (sym none) ∙ w.parts ∙ ap (λ o. held' ++ o) none' ∙ append-nil held' in (
            g.over,
            ap (λ m. ((g.prefix ++ held) ++ g.over) ++ m) none ∙ append-nil ((g.prefix ++ held) ++ g.over) ∙ ap (λ h. (g.prefix ++ h) ++ g.over) same,
            omega (arith, g.beyond, w.size, within, past),
          )
      | inr before ↦
          let none : g.over ≡ [] = no_length g.over (omega (arith, g.beyond, before)) in (
            w.over,
            ap (λ o. ((g.prefix ++ held) ++ o) ++ w.more) none ∙ ap (λ h. h ++ w.more) (append-nil (g.prefix ++ held)) ∙ append_assoc g.prefix held w.more
                ∙ ap (λ h. g.prefix ++ h) w.parts ∙ sym (append_assoc g.prefix held' w.over),
            omega (arith, w.beyond, before),
          )
    ] in
    record {
      prefix = g.prefix;
      over = bytes.0;
      took = subst (λ x. Consumes s0.left s'.left x) {y = (g.prefix ++ held') ++ bytes.0} bytes.1 (consumes_more s0.left s.left s'.left ((g.prefix ++ held) ++ g.over) w.more g.took w.took);
      cut = g.cut;
      size =
          omega (arith, g.size, w.size, ap length bytes.1, length-append ((g.prefix ++ held) ++ g.over) w.more, length-append (g.prefix ++ held) g.over, length-append g.prefix held, length-append (g.prefix ++ held') bytes.0, length-append g.prefix held');
      beyond = bytes.2;
      few = g.few;
    }

-- a line was given
pub gave_line : (s0 s : SourceState) (held l : List ℕ) (total limit : ℕ) (lines : List (List ℕ)) → Gave s0 s held total limit lines → Whole l ≡ next_of false held
    → Gave s0 s (drop (length l + 1) held) total limit (lines ++ l ∷ [])
gave_line s0 s held l total limit lines g w =
    let is_line = held_line held l w in
    let rest = drop (length l + 1) held in
    let whole : g.prefix ++ held ≡ (g.prefix ++ (l ++ 10 ∷ [])) ++ rest =
    ap (λ h. g.prefix ++ h) (is_line.parts ∙ sym (append_assoc l (10 ∷ []) rest)) ∙ sym (append_assoc g.prefix (l ++ 10 ∷ []) rest) in
    record {
      prefix = g.prefix ++ (l ++ 10 ∷ []);
      over = g.over;
      took = subst (λ x. Consumes s0.left s.left (x ++ g.over)) whole g.took;
      cut = λ dropped more.
          ap (lines_in dropped) (append_assoc g.prefix (l ++ 10 ∷ []) more) ∙ g.cut dropped ((l ++ 10 ∷ []) ++ more)
          ∙ ap (λ ls. lines ++ ls) (ap (lines_in dropped) (append_assoc l (10 ∷ []) more) ∙ lines_cons dropped l more is_line.no_feed)
          ∙ sym (append_assoc lines (l ∷ []) (lines_in dropped more));
      size = omega (arith, g.size, length-append g.prefix (l ++ 10 ∷ []), length-append l (10 ∷ []), length-drop (length l + 1) held, feed_within l held is_line);
      beyond = g.beyond;
      few = omega (arith, g.few, length-append lines (l ∷ []), length-append g.prefix (l ++ 10 ∷ []), length-append l (10 ∷ []));
    }

-- both tests keep a line that is too long
keeps_empty : KeepsLong is_empty
keeps_empty [] h = absurd (omega (arith, h))
keeps_empty (c ∷ cs) h = refl

keeps_unread : KeepsLong is_unread
keeps_unread l h = grind (arith, nat_tests)

-- the lines of bytes of which a prefix is within the limit
pub split_at : (n : ℕ) (front rest : List ℕ) (b : Bool) → length front ≤ n
    → (dropped : List ℕ → Bool) × (more : List ℕ) × KeepsLong dropped
    × ((if b then lines_in is_empty (front ++ rest) else lines_in is_unread (take n (front ++ rest))) ≡ lines_in dropped (front ++ more))
split_at n front rest true h = (is_empty, rest, keeps_empty, refl)
split_at n front rest false h = (
  is_unread,
  take (n - length front) rest,
  keeps_unread,
  ap (lines_in is_unread) (let whole : n ≡ length front + (n - length front) = omega (arith, h) in ap (λ k. take k (front ++ rest)) whole ∙ take-append-add front rest (n - length front)),
)

-- what was taken, and what is left
pub bytes_of : (s0 s : SourceState) (held : List ℕ) (total limit : ℕ) (lines : List (List ℕ)) → Gave s0 s held total limit lines → List ℕ
bytes_of s0 s held total limit lines g = (g.prefix ++ held) ++ g.over

-- the lines that were given are the first of the input
pub gave_front : (s0 s : SourceState) (held : List ℕ) (total limit : ℕ) (lines : List (List ℕ)) (g : Gave s0 s held total limit lines) (remaining : List ℕ)
    → (more : List (List ℕ)) × (lines_within limit (((g.prefix ++ held) ++ g.over) ++ remaining) ≡ lines ++ more)
gave_front s0 s held total limit lines g remaining =
    let bytes : ((g.prefix ++ held) ++ g.over) ++ remaining ≡ g.prefix ++ (held ++ (g.over ++ remaining)) =
    append_assoc (g.prefix ++ held) g.over remaining ∙ append_assoc g.prefix held (g.over ++ remaining) in
    let rest = held ++ (g.over ++ remaining) in
    let split = split_at limit g.prefix rest (nat_le (length (g.prefix ++ rest)) limit) (omega (arith, g.size, g.beyond)) in
    (lines_in split.0 split.1, ap (lines_within limit) bytes ∙ split.3 ∙ g.cut split.0 split.1)

-- an input that is within its limit
within_at : (bytes : List ℕ) (limit : ℕ) (b : Bool) → b ≡ true → (if b then lines_in is_empty bytes else lines_in is_unread (take limit bytes)) ≡ lines_in is_empty bytes
within_at bytes limit true e = refl
within_at bytes limit false e = absurd (cc)

pub within_limit : (bytes : List ℕ) (limit : ℕ) → length bytes ≤ limit → lines_within limit bytes ≡ lines_in is_empty bytes
within_limit bytes limit h = within_at bytes limit (nat_le (length bytes) limit) (grind (arith, nat_tests))

-- the input ended: these are its lines, but for what is held
pub gave_end : (s0 s : SourceState) (held : List ℕ) (total limit : ℕ) (lines : List (List ℕ)) (g : Gave s0 s held total limit lines) (remaining : List ℕ)
    → IsAtEnd s.left → total ≤ limit → IsLeft s.left remaining
    → lines_within limit (((g.prefix ++ held) ++ g.over) ++ remaining) ≡ lines ++ lines_in is_empty held
gave_end s0 s held total limit lines g remaining is_end within left =
    let none = at_end s.left remaining is_end left in
    let none' : g.over ≡ [] = no_length g.over (omega (arith, g.beyond, within)) in
    let bytes : ((g.prefix ++ held) ++ g.over) ++ remaining ≡ g.prefix ++ held =
    ap (λ r. ((g.prefix ++ held) ++ g.over) ++ r) none ∙ append-nil ((g.prefix ++ held) ++ g.over) ∙ ap (λ o. (g.prefix ++ held) ++ o) none' ∙ append-nil (g.prefix ++ held) in
    ap (lines_within limit) bytes ∙ within_limit (g.prefix ++ held) limit (omega (arith, g.size, within, length-append g.prefix held)) ∙ g.cut is_empty held

-- the rest is one line
rest_at : (held l : List ℕ) (next : Next) → NoFeed held → next ≡ (if not (holds_none held) then Whole held else Unknown) → Whole l ≡ next
    → (l ≡ held) × (lines_in is_empty held ≡ l ∷ [])
rest_at [] l next n e w = absurd (cc)
rest_at (c ∷ cs) l next n e w =
    let same : l ≡ c ∷ cs = cc in
    (same, ap (all_but_last is_empty) (one_piece (c ∷ cs) n) ∙ ap (λ x. x ∷ []) (sym same))

pub rest_line : (held l : List ℕ) → next_of false held ≡ Unknown → Whole l ≡ next_of true held → (l ≡ held) × (lines_in is_empty held ≡ l ∷ [])
rest_line held l u w = let more = held_more held u in rest_at held l (next_of true held) more.0 more.2 w
