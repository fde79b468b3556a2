-- What the lines that were given are of the whole input where it isn't read to its end.
use Rattle.std.proofs.Common.{◌≡◌, ℕ, ◌+◌, ◌-◌, ◌<◌, ◌≤◌, Bool, true, false, nat_le, List, [], ◌∷◌, ◌++◌, length, take, drop, refl, ap, sym, ◌∙◌, arith, append_assoc, length-append, if◌then◌else◌}
use Rattle.std.proofs.lemmas.Bool.Decides.{nat_tests}
use Rattle.std.proofs.lemmas.List.{append-nil, length-take, take-append-drop}
use Rattle.std.proofs.Math.Seq.{take-append_seam}
use Rattle.km_model.specs.Output.{all_but_last, is_empty, is_unread, lines_in, lines_within}
use Rattle.km_edge.specs.Streams.{SourceState}
use Rattle.km_edge.specs.Lines.{TooLong, Unknown, next_of}
use Rattle.km_reader.specs.Lines.{KeepsLong}
use Rattle.km_reader.specs.Lists.{Gave}
use Rattle.km_reader.proofs.LineLists.{NoFeed, held_long, held_more, front_of_piece, one_piece}
use Rattle.km_reader.proofs.Lists.{split_at}
use Rattle.km_reader.proofs.Steps.{no_length}

-- less than a line is no line of its own
no_line_at : (held : List ℕ) (b : Bool) → b ≡ true → (if b then [] else held ∷ []) ≡ []
no_line_at held true e = refl
no_line_at held false e = absurd (cc)

pub no_line : (held : List ℕ) → next_of false held ≡ Unknown → lines_in is_unread held ≡ []
no_line held u =
    let more = held_more held u in
    let short : length held ≤ 256 = more.1 in
    ap (all_but_last is_unread) (one_piece held more.0) ∙ no_line_at held (is_unread held) (grind (arith, nat_tests))

beyond_at : (n : ℕ) (front bytes : List ℕ) (b : Bool) → b ≡ false → take n bytes ≡ front
    → (if b then lines_in is_empty bytes else lines_in is_unread (take n bytes)) ≡ lines_in is_unread front
beyond_at n front bytes true e h = absurd (cc)
beyond_at n front bytes false e h = ap (lines_in is_unread) h

pub beyond_limit : (limit : ℕ) (front rest : List ℕ) → length front ≡ limit → 0 < length rest → lines_within limit (front ++ rest) ≡ lines_in is_unread front
beyond_limit limit front rest size more =
    let long : limit < length (front ++ rest) = omega (arith, size, more, length-append front rest) in
    beyond_at limit front (front ++ rest) (nat_le (length (front ++ rest)) limit) (grind (arith, nat_tests)) (ap (λ n. take n (front ++ rest)) (sym size) ∙ take-append_seam front rest)

-- the input is longer than its limit: these are all of its lines
pub gave_beyond : (s0 s : SourceState) (held : List ℕ) (total limit : ℕ) (lines : List (List ℕ)) (g : Gave s0 s held total limit lines) (remaining : List ℕ)
    → next_of false held ≡ Unknown → total ≡ limit + 1 → lines_within limit (((g.prefix ++ held) ++ g.over) ++ remaining) ≡ lines
gave_beyond s0 s held total limit lines g remaining u size =
    let whole = append_assoc (g.prefix ++ held) g.over remaining in
    let exact : length (g.prefix ++ held) ≡ limit = omega (arith, size, g.size, g.beyond, length-append g.prefix held) in
    let more : 0 < length (g.over ++ remaining) = omega (arith, size, g.beyond, length-append g.over remaining) in
    ap (lines_within limit) whole ∙ beyond_limit limit (g.prefix ++ held) (g.over ++ remaining) exact more ∙ g.cut is_unread held
    ∙ ap (λ ls. lines ++ ls) (no_line held u) ∙ append-nil lines

-- a read failed: these are the whole lines of what was taken
pub gave_fault : (s0 s : SourceState) (held : List ℕ) (total limit : ℕ) (lines : List (List ℕ)) (g : Gave s0 s held total limit lines)
    → next_of false held ≡ Unknown → total ≤ limit → lines_in is_unread ((g.prefix ++ held) ++ g.over) ≡ lines
gave_fault s0 s held total limit lines g u within =
    let none : g.over ≡ [] = no_length g.over (omega (arith, g.beyond, within)) in
    ap (λ o. lines_in is_unread ((g.prefix ++ held) ++ o)) none ∙ ap (lines_in is_unread) (append-nil (g.prefix ++ held)) ∙ g.cut is_unread held
    ∙ ap (λ ls. lines ++ ls) (no_line held u) ∙ append-nil lines

-- a piece that isn't dropped stays, whether it is the last or not
kept_piece : (dropped : List ℕ → Bool) (p : List ℕ) (ls : List (List ℕ)) → dropped p ≡ false → (qs : List (List ℕ)) × (all_but_last dropped (p ∷ ls) ≡ p ∷ qs)
kept_piece dropped p [] e = ([], pick (dropped p) e)
  where
    pick : (b : Bool) → b ≡ false → (if b then [] else p ∷ []) ≡ p ∷ []
    pick true h = absurd (cc)
    pick false h = refl
kept_piece dropped p (l ∷ ls) e = (all_but_last dropped (l ∷ ls), refl)

-- 257 bytes without a line feed begin a line that is too long, whatever comes after them
pub long_line : (dropped : List ℕ → Bool) (held more : List ℕ) → KeepsLong dropped → NoFeed (take 257 held) → 257 ≤ length held
    → (l : List ℕ) × (ls : List (List ℕ)) × (lines_in dropped (held ++ more) ≡ l ∷ ls) × (256 < length l)
long_line dropped held more keep no_feed size =
    let front = take 257 held in
    let piece = front_of_piece front (drop 257 held ++ more) no_feed in
    let whole : held ++ more ≡ front ++ (drop 257 held ++ more) = ap (λ h. h ++ more) (sym (take-append-drop 257 held)) ∙ append_assoc front (drop 257 held) more in
    let long : 256 < length (front ++ piece.0) = omega (arith, length-append front piece.0, length-take 257 held, size) in
    let kept = kept_piece dropped (front ++ piece.0) piece.1 (keep (front ++ piece.0) long) in
    (front ++ piece.0, kept.0, ap (lines_in dropped) whole ∙ ap (all_but_last dropped) piece.2 ∙ kept.1, long)

-- a line is too long: it comes after those that were given
pub gave_long : (s0 s : SourceState) (held : List ℕ) (total limit : ℕ) (lines : List (List ℕ)) (g : Gave s0 s held total limit lines) (remaining : List ℕ)
    → TooLong ≡ next_of false held
    → (l : List ℕ) × (ls : List (List ℕ)) × (lines_within limit (((g.prefix ++ held) ++ g.over) ++ remaining) ≡ lines ++ l ∷ ls) × (256 < length l)
gave_long s0 s held total limit lines g remaining w =
    let whole = append_assoc (g.prefix ++ held) g.over remaining in
    let rest = g.over ++ remaining in
    let size : length (g.prefix ++ held) ≤ limit = omega (arith, g.size, g.beyond, length-append g.prefix held) in
    let split = split_at limit (g.prefix ++ held) rest (nat_le (length ((g.prefix ++ held) ++ rest)) limit) size in
    let long = held_long held w in
    let line = long_line split.0 held split.1 split.2 long.0 long.1 in (
      line.0,
      line.1,
      ap (lines_within limit) whole ∙ split.3 ∙ ap (lines_in split.0) (append_assoc g.prefix held split.1) ∙ g.cut split.0 (held ++ split.1) ∙ ap (λ ls. lines ++ ls) line.2,
      line.3,
    )
