-- Bytes that were taken in one read, and in several.
use Rattle.std.proofs.Common.{◌≡◌, ℕ, ◌+◌, ◌-◌, ◌<◌, ◌≤◌, false, List, [], ◌∷◌, ◌++◌, length, take, drop, refl, ap, sym, subst, ◌∙◌, arith, append_assoc, length-append, length-drop}
use Rattle.std.proofs.lemmas.List.{append-nil, take-append-drop}
use Rattle.std.proofs.Math.Seq.{take-append_seam}
use Rattle.std.specs.Io.KnownBytes.{Consumes}
use Rattle.km_edge.specs.Streams.{SourceState}
use Rattle.km_edge.specs.Lines.{Whole, Unknown, next_of}
use Rattle.km_reader.specs.Reading.{IsFound, Went}
use Rattle.km_reader.specs.declared.reader.Next.TheVariants as next
use Rattle.km_reader.proofs.LineLists.{held_line, feed_within}
use Rattle.km_reader.proofs.Sources.{consumes_none, consumes_more, last_byte}

-- a list of no length
pub no_length : (xs : List ℕ) → length xs ≡ 0 → xs ≡ []
no_length [] h = refl
no_length (x ∷ xs) h = absurd (omega (arith, h))

-- what is held after those that were held
behind_held : (held all : List ℕ) → take (length held) all ≡ held → held ++ drop (length held) all ≡ all
behind_held held all front = ap (λ h. h ++ drop (length held) all) (sym front) ∙ take-append-drop (length held) all

-- nothing was taken
pub went_none : (s : SourceState) (held : List ℕ) (total limit : ℕ) → Went s s held total limit held total
went_none s held total limit = record {
  more = [];
  over = [];
  took = consumes_none s.left;
  parts = refl;
  size = omega arith;
  beyond = omega arith;
}

-- the same, by what is held and how many bytes were taken in other words
pub went_as : (s s' : SourceState) (held lines same : List ℕ) (total limit n k : ℕ) → same ≡ lines → k ≡ n
    → Went s s' held total limit lines n → Went s s' held total limit same k
went_as s s' held lines same total limit n k e f w =
    subst (λ x. Went s s' held total limit x k) (sym e) (subst (λ m. Went s s' held total limit lines m) (sym f) w)

-- one read within the limit
pub went_within : (s s' : SourceState) (held all : List ℕ) (total limit n : ℕ) → length all ≡ length held + n → take (length held) all ≡ held
    → Consumes s.left s'.left (drop (length held) all) → total + n ≤ limit → Went s s' held total limit all (total + n)
went_within s s' held all total limit n size front took within = record {
  more = drop (length held) all;
  over = [];
  took = took;
  parts = behind_held held all front ∙ sym (append-nil all);
  size = omega (arith, size, length-drop (length held) all);
  beyond = omega (arith, within);
}

-- one read up to the first byte over the limit, which is taken away
pub went_over : (s s' : SourceState) (held all less : List ℕ) (total limit n : ℕ) → length all ≡ length held + n → take (length held) all ≡ held
    → Consumes s.left s'.left (drop (length held) all) → limit < total + n → total + n ≤ limit + 1 → total ≤ limit
    → less ≡ take (length all - 1) all → Went s s' held total limit less (total + n)
went_over s s' held all less total limit n size front took beyond within before is =
    let last = last_byte all less is (omega (arith, size, beyond, before)) in
    record {
      more = drop (length held) all;
      over = drop (length all - 1) all;
      took = took;
      parts = behind_held held all front ∙ last.0;
      size = omega (arith, size, length-drop (length held) all);
      beyond = omega (arith, last.1, beyond, within, before);
    }

-- some reads, and then others
pub went_on : (a b c : SourceState) (held held' held'' : List ℕ) (total total' total'' limit same : ℕ) → same ≡ limit → total' ≤ limit
    → Went a b held total limit held' total' → Went b c held' total' same held'' total'' → Went a c held total limit held'' total''
went_on a b c held held' held'' total total' total'' limit same is within p q =
    let none : p.over ≡ [] = no_length p.over (omega (arith, p.beyond, within)) in
    let first : held ++ p.more ≡ held' = p.parts ∙ ap (λ o. held' ++ o) none ∙ append-nil held' in
    record {
      more = p.more ++ q.more;
      over = q.over;
      took = consumes_more a.left b.left c.left p.more q.more p.took q.took;
      parts = sym (append_assoc held p.more q.more) ∙ ap (λ h. h ++ q.more) first ∙ q.parts;
      size = omega (arith, p.size, q.size, length-append p.more q.more);
      beyond = omega (arith, is, p.size, q.beyond, within);
    }

-- the line at the prefix of what is held
pub given_line : (lines l : List ℕ) → Whole l ≡ next_of false lines
    → (Whole (take (length l + 1 - 1) lines) ≡ next_of false lines) × (1 ≤ length l + 1) × (length l + 1 ≤ length lines)
given_line lines l w =
    let is_line = held_line lines l w in
    let front : take (length l + 1 - 1) lines ≡ l =
    ap (λ k. take k lines) (omega arith) ∙ ap (take (length l)) is_line.parts ∙ take-append_seam l (10 ∷ drop (length l + 1) lines) in
    (ap Whole front ∙ w, omega arith, feed_within l lines is_line)

-- a line that is found among these bytes is one whatever the source has left
pub found_line : (held lines l : List ℕ) (taken limit : ℕ) → lines ≡ held → Whole l ≡ next_of false lines
    → IsFound held (record { lines = lines; skip = length l + 1; taken = taken; limit = limit }) next.Line
found_line held lines l taken limit same w =
    let given = given_line lines l w in
    record {
      known = λ unknown. absurd (is_whole (w ∙ ap (next_of false) same ∙ unknown));
      is = λ s. given;
      faults = λ s s' kept. kept;
    }
  where
    is_whole : Whole l ≡ Unknown → ⊥
    is_whole e = absurd (cc)
