-- How bytes fall into lines, and what the buffer's next piece says of them.
use Rattle.std.proofs.Common.{◌≡◌, ℕ, zero, suc, ◌+◌, ◌<◌, ◌≤◌, ◌==◌, Bool, true, false, not, ◌&&◌, nat_lt, nat_le, cond, List, [], ◌∷◌, ◌++◌, length, take, drop, get_or, position, Option, Some, None, refl, ap, sym, subst, ◌∙◌, arith, length-append, if◌then◌else◌}
use Rattle.std.specs.List.{position_or_len}
use Rattle.std.proofs.lemmas.Bool.Decides.{nat_tests}
use Rattle.std.proofs.lemmas.List.Quantifiers.{position-Some}
use Rattle.std.proofs.lemmas.List.{get_or-take, length-take, take_all}
use Rattle.km_model.specs.Output.{between_line_feeds, put_in_first, all_but_last, lines_in}
use Rattle.km_edge.specs.Lines.{Whole, TooLong, Unknown, is_line_feed, next_at, next_of}
use Rattle.km_edge.specs.Lines.{is_empty as holds_none}

-- no byte is a line feed
pub data NoFeed : List ℕ → Type 0 where
  none : NoFeed []
  more : {c : ℕ} {cs : List ℕ} → (c == 10) ≡ false → NoFeed cs → NoFeed (c ∷ cs)

if_false : {A : Type 0} (b : Bool) (x y : A) → b ≡ false → (if b then x else y) ≡ y
if_false true x y e = absurd (cc)
if_false false x y e = refl

-- a line, and its line feed
pub feed_lines : (l rest : List ℕ) → NoFeed l → between_line_feeds (l ++ 10 ∷ rest) ≡ l ∷ between_line_feeds rest
feed_lines [] rest n = refl
feed_lines (c ∷ cs) rest (more e n) =
    if_false (c == 10) ([] ∷ between_line_feeds (cs ++ 10 ∷ rest)) (put_in_first c (between_line_feeds (cs ++ 10 ∷ rest))) e
    ∙ ap (put_in_first c) (feed_lines cs rest n)

-- bytes without a line feed stand in the first piece
pub front_of_piece : (p rest : List ℕ) → NoFeed p → (m : List ℕ) × (ls : List (List ℕ)) × (between_line_feeds (p ++ rest) ≡ (p ++ m) ∷ ls)
front_of_piece [] rest n = some_piece rest
  where
    some_piece : (rest : List ℕ) → (m : List ℕ) × (ls : List (List ℕ)) × (between_line_feeds rest ≡ m ∷ ls)
    some_piece [] = ([], [], refl)
    some_piece (c ∷ cs) =
        let inner = some_piece cs in
        elim (c == 10) as (λ b. (m : List ℕ) × (ls : List (List ℕ)) × ((if b then [] ∷ between_line_feeds cs else put_in_first c (between_line_feeds cs)) ≡ m ∷ ls)) [
          | true ↦ ([], between_line_feeds cs, refl)
          | false ↦ (c ∷ inner.0, inner.1, ap (put_in_first c) inner.2)
        ]
front_of_piece (c ∷ cs) rest (more e n) =
    let inner = front_of_piece cs rest n in (
      inner.0,
      inner.1,
      if_false (c == 10) ([] ∷ between_line_feeds (cs ++ rest)) (put_in_first c (between_line_feeds (cs ++ rest))) e ∙ ap (put_in_first c) inner.2,
    )

-- the first line feed parts what is held
feed_split : (xs : List ℕ) (i : ℕ) → i < length xs → (get_or xs i 0 == 10) ≡ true → ((k : ℕ) → k < i → (get_or xs k 0 == 10) ≡ false)
    → NoFeed (take i xs) × (xs ≡ take i xs ++ 10 ∷ drop (suc i) xs) × (length (take i xs) ≡ i)
feed_split [] i below is_feed before = absurd (omega (arith, below))
feed_split (x ∷ xs) zero below is_feed before = (none, ap (λ c. c ∷ xs) (grind (arith, nat_tests)), refl)
feed_split (x ∷ xs) (suc i) below is_feed before =
    let inner = feed_split xs i (omega (arith, below)) is_feed (λ k h. before (suc k) (omega (arith, h))) in
    (more (before 0 (omega arith)) inner.0, ap (λ l. x ∷ l) inner.1, ap suc inner.2)

-- where no line feed is found, there is none
no_feed_if : (xs : List ℕ) → length xs ≤ position_or_len is_line_feed xs → NoFeed xs
no_feed_if [] h = none
no_feed_if (x ∷ xs) h = at_byte (x == 10) refl h (no_feed_if xs)
  where
    at_byte : (b : Bool) → (x == 10) ≡ b → suc (length xs) ≤ cond (not b) (1 + position_or_len is_line_feed xs) 0
        → (length xs ≤ position_or_len is_line_feed xs → NoFeed xs) → NoFeed (x ∷ xs)
    at_byte true e g rest = absurd (omega (arith, g))
    at_byte false e g rest = more e (rest (omega (arith, g)))

none_found : (xs : List ℕ) → position is_line_feed xs ≡ None → NoFeed xs
none_found xs e = no_feed_if xs (at_test (nat_lt (position_or_len is_line_feed xs) (length xs)) refl e)
  where
    at_test : (b : Bool) → nat_lt (position_or_len is_line_feed xs) (length xs) ≡ b → cond b (Some (position_or_len is_line_feed xs)) None ≡ None
        → length xs ≤ position_or_len is_line_feed xs
    at_test true e g = absurd (cc)
    at_test false e g = grind (arith, nat_tests)

-- the piece that is a line ends at a line feed
pub record IsLine (l held : List ℕ) : Type 0 where
  pub no_feed : NoFeed l
  pub parts : held ≡ l ++ 10 ∷ drop (length l + 1) held
  pub within : length l ≤ length held

line_at : (held l : List ℕ) (o : Option ℕ) → position is_line_feed (take 257 held) ≡ o → Whole l ≡ next_at o false held → IsLine l held
line_at held l None e w = absurd (no_line (nat_le 257 (length held)) w)
  where
    no_line : (b : Bool) → Whole l ≡ (if b then TooLong else Unknown) → ⊥
    no_line true h = cc
    no_line false h = cc
line_at held l (Some i) e w =
    let found = position-Some is_line_feed (take 257 held) i 0 e in
    let short : i < 257 = omega (arith, found.0, length-take 257 held) in
    let below : i < length held = omega (arith, found.0, length-take 257 held) in
    let split = feed_split held i below (ap is_line_feed (sym (get_or-take 257 held i 0 short)) ∙ found.1)
    (λ k h. ap is_line_feed (sym (get_or-take 257 held k 0 (omega (arith, h, short)))) ∙ found.2 k h) in
    let same : l ≡ take i held = cc in
    let size : length l ≡ i = ap length same ∙ split.2 in
    let next : suc i ≡ length l + 1 = omega (arith, size) in
    record {
      no_feed = subst (λ x. NoFeed x) (sym same) split.0;
      parts = split.1 ∙ ap (λ x. x ++ 10 ∷ drop (suc i) held) (sym same) ∙ ap (λ n. l ++ 10 ∷ drop n held) next;
      within = omega (arith, size, below);
    }

pub held_line : (held l : List ℕ) → Whole l ≡ next_of false held → IsLine l held
held_line held l w = line_at held l (position is_line_feed (take 257 held)) refl w

-- the piece that is too long has no line feed among its first 257 bytes
long_at : (held : List ℕ) (o : Option ℕ) → position is_line_feed (take 257 held) ≡ o → TooLong ≡ next_at o false held → NoFeed (take 257 held) × (257 ≤ length held)
long_at held (Some i) e w = absurd (cc)
long_at held None e w = (none_found (take 257 held) e, at_test (nat_le 257 (length held)) refl w)
  where
    at_test : (b : Bool) → nat_le 257 (length held) ≡ b → TooLong ≡ (if b then TooLong else Unknown) → 257 ≤ length held
    at_test true e h = grind (arith, nat_tests)
    at_test false e h = absurd (cc)

pub held_long : (held : List ℕ) → TooLong ≡ next_of false held → NoFeed (take 257 held) × (257 ≤ length held)
held_long held w = long_at held (position is_line_feed (take 257 held)) refl w

-- less than a line has no line feed
more_at : (held : List ℕ) (o : Option ℕ) → position is_line_feed (take 257 held) ≡ o → next_at o false held ≡ Unknown
    → NoFeed held × (length held ≤ 256) × (next_at o true held ≡ (if not (holds_none held) then Whole held else Unknown))
more_at held (Some i) e w = absurd (cc)
more_at held None e w =
    let short = at_test (nat_le 257 (length held)) refl w in
    (subst (λ x. NoFeed x) (take_all 257 held (omega (arith, short.0))) (none_found (take 257 held) e), short.0, short.1)
  where
    at_test : (b : Bool) → nat_le 257 (length held) ≡ b → (if b then TooLong else Unknown) ≡ Unknown
        → (length held ≤ 256) × ((if b then TooLong else (if true && not (holds_none held) then Whole held else Unknown)) ≡ (if not (holds_none held) then Whole held else Unknown))
    at_test true e h = absurd (cc)
    at_test false e h = (grind (arith, nat_tests), refl)

pub held_more : (held : List ℕ) → next_of false held ≡ Unknown
    → NoFeed held × (length held ≤ 256) × (next_of true held ≡ (if not (holds_none held) then Whole held else Unknown))
held_more held w = more_at held (position is_line_feed (take 257 held)) refl w

-- a line comes before the lines after it
keep_line : (dropped : List ℕ → Bool) (l : List ℕ) (ls : List (List ℕ)) → ((m : List ℕ) × (qs : List (List ℕ)) × (ls ≡ m ∷ qs))
    → all_but_last dropped (l ∷ ls) ≡ l ∷ all_but_last dropped ls
keep_line dropped l ls s = subst (λ x. all_but_last dropped (l ∷ x) ≡ l ∷ all_but_last dropped x) (sym s.2) refl

pub lines_cons : (dropped : List ℕ → Bool) (l rest : List ℕ) → NoFeed l → lines_in dropped (l ++ 10 ∷ rest) ≡ l ∷ lines_in dropped rest
lines_cons dropped l rest n =
    ap (all_but_last dropped) (feed_lines l rest n)
    ∙ keep_line dropped l (between_line_feeds rest) (front_of_piece [] rest none)

-- bytes without a line feed are one piece
pub one_piece : (held : List ℕ) → NoFeed held → between_line_feeds held ≡ held ∷ []
one_piece [] n = refl
one_piece (c ∷ cs) (more e n) = if_false (c == 10) ([] ∷ between_line_feeds cs) (put_in_first c (between_line_feeds cs)) e ∙ ap (put_in_first c) (one_piece cs n)

-- a line and its line feed are among what is held
pub feed_within : (l held : List ℕ) → IsLine l held → length l + 1 ≤ length held
feed_within l held is_line = omega (arith, ap length is_line.parts, length-append l (10 ∷ drop (length l + 1) held))
