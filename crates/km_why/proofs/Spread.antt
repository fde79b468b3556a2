-- Live blocks that lie in a memory and never meet, and how few they are.
use Rattle.std.proofs.Common.{◌≡◌, ℕ, zero, suc, ◌+◌, ◌*◌, ◌/◌, ◌<◌, ◌≤◌, Bool, true, false, ◌&&◌, ◌||◌, cond, leb, ltb, List, [], ◌∷◌, ◌++◌, length, map, filter, flat_map, refl, sym, ◌∙◌, ap, subst, arith, le-leb, leb-true, lt-ltb, ltb-true, not, length-append}
use Rattle.std.specs.List.{list_any}
use Rattle.std.proofs.lemmas.Bool.{and_from, and_parts}
use Rattle.km_base.specs.Spans.{untagged}
use Rattle.km_base.specs.declared.spans.Span.{Span}
use Rattle.km_model.proofs.Cases.{elim_false}
use Rattle.km_model.proofs.Lists.{Each, Pairs, In, each_in, each_map, each_weaker, in_each, pairs_map}
use Rattle.km_model.specs.Blocks.{Block, AtLeast, is_scanned, is_within, scanned_words}
use Rattle.km_model.specs.Held.{Standing}
use Rattle.km_model.specs.Memory.{base, index_of, words_from}
use Rattle.km_model.specs.Tasks.{Task, in_stack}
use Rattle.km_state.specs.State.{blocks_in}
use Rattle.km_track.specs.Tracker.{AreRising, Live, NeverMeet, Tracker}
use Rattle.km_why.specs.declared.counts.Count.{Count}
use Rattle.km_why.specs.Counts.{AreSpread}
use Rattle.km_why.specs.References.{has, refers_to, sources, span_of}
use Rattle.km_why.specs.Told.{AreApart, AreLaidOut, IsInMemory, IsOfWords, blocks_of}
use Rattle.km_why.proofs.Laid.{ids_rise}
use Rattle.km_why.proofs.Passed.{placed}
use Rattle.km_why.proofs.Sources.{IsSource, count, loaded, of_blocks}

-- each live block has bytes
all_some : (ls : List Live) → NeverMeet ls → Each (λ (b : Block). 0 < b.size) (blocks_in (map (λ (l : Live). l.tracked) ls))
all_some [] n = tt
all_some (l ∷ ls) n = (n.0, all_some ls n.2)

pub in_table : (t : Tracker) (cs : List Count) → NeverMeet t.live → Each (λ (b : Block). IsInMemory (length cs) b.start b.size) (blocks_of t) → (b : Block) → In b (blocks_of t) → index_of b.start < length cs
in_table t cs apart within b i =
    let w = each_in (λ (x : Block). IsInMemory (length cs) x.start x.size) (blocks_of t) b within i in
    placed base b.start b.size (length cs) w.0 w.1 (each_in (λ (x : Block). 0 < x.size) (blocks_of t) b (all_some t.live apart) i)

-- what lies in a memory has places in a table that is as long
pub all_in : (words places : ℕ) (bs : List Block) → words ≤ places → Each (λ (b : Block). IsInMemory words b.start b.size × IsOfWords b.start b.size) bs → Each (λ (b : Block). IsInMemory places b.start b.size) bs
all_in words places bs le each =
    each_weaker (λ (b : Block). IsInMemory words b.start b.size × IsOfWords b.start b.size) (λ (b : Block). IsInMemory places b.start b.size) (λ b w. (w.0.0, (let e = w.0.1 in omega (arith, e, le)))) bs each

pub spread_laid : (words : ℕ) (t : Tracker) (tasks : List Task) → AreLaidOut words (blocks_of t) tasks → AreRising 0 t.live t.registered → NeverMeet t.live → AreSpread words t
spread_laid words t tasks laid rising apart = record {
  rise = (ids_rise 0 t.registered t.live rising).0;
  apart = laid.blocks_apart;
  within = laid.blocks_in;
  some = all_some t.live apart;
}

-- as many as all
count_true : (ws : List ℕ) → count (λ _. true) ws ≡ length ws
count_true [] = refl
count_true (w ∷ ws) = let rest = count_true ws in omega (arith, rest)

count_most : (p : ℕ → Bool) (ws : List ℕ) → count p ws ≤ length ws
count_most p [] = omega arith
count_most p (w ∷ ws) = let rest = count_most p ws in elim (p w) as (λ q. cond q 1 0 + count p ws ≤ suc (length ws)) [ true ↦ omega (arith, rest) | false ↦ omega (arith, rest) ]

words_long : (n start : ℕ) → length (words_from n start) ≡ n
words_long zero start = refl
words_long (suc n) start = ap suc (words_long n (start + 8))

-- the words that are loaded are no more than those of the memory
pub few_sources : (memory : List ℕ) (s : Standing) (before : List Block) → IsSource (length memory) s.stacks before → length (sources s.stacks before) ≤ length memory
few_sources memory s before src =
    let all = loaded memory (λ _. true) s before src in
    let most = count_most (λ a. true && (list_any (λ x. is_scanned x a) before || list_any (in_stack a) s.stacks)) (words_from (length memory) base) in
    let long = words_long (length memory) base in
    let is = count_true (sources s.stacks before) in
    few _ _ _ _ _ all most long is
  where
    few : (a b c d e : ℕ) → a ≡ b → a ≤ c → c ≡ d → b ≡ e → e ≤ d
    few a b c d e f g h i = omega (arith, f, g, h, i)

-- a block with each of its words scanned
abbrev whole : Block → Block
whole b = record b { minimum = AtLeast 0; no_scan = false; areas = [] }

has_word : (b : Block) → IsOfWords b.start b.size → 0 < b.size → 1 ≤ length (scanned_words (whole b))
has_word b w pos = go w.1.0 w.1.1
  where
    here : is_scanned (whole b) b.start ≡ true
    here = and_from (true && (leb b.start b.start && ltb b.start (b.start + b.size))) true
        (and_from (leb b.start b.start) (ltb b.start (b.start + b.size)) (le-leb b.start b.start (omega arith)) (lt-ltb b.start (b.start + b.size) (omega (arith, pos)))) refl

    go : (n : ℕ) → b.size ≡ 8 * n → 1 ≤ length (scanned_words (whole b))
    go zero e = absurd (omega (arith, e, pos))
    go (suc n) e =
        subst (λ k. 1 ≤ length (filter (is_scanned (whole b)) (words_from k b.start))) (let f : suc n ≡ b.size / 8 = omega (arith, e) in f)
        (subst (λ q. 1 ≤ length (cond q (b.start ∷ filter (is_scanned (whole b)) (words_from n (b.start + 8))) (filter (is_scanned (whole b)) (words_from n (b.start + 8))))) (sym here) (omega arith))

many_words : (bs : List Block) → Each (λ (b : Block). IsOfWords b.start b.size × (0 < b.size)) bs → length bs ≤ length (flat_map scanned_words (map whole bs))
many_words [] each = omega arith
many_words (b ∷ bs) each =
    let one = has_word b each.0.0 each.0.1 in let rest = many_words bs each.1 in
    let both : length (scanned_words (whole b) ++ flat_map scanned_words (map whole bs)) ≡ length (scanned_words (whole b)) + length (flat_map scanned_words (map whole bs)) = length-append (scanned_words (whole b)) (flat_map scanned_words (map whole bs)) in
    omega (arith, one, rest, both)

-- blocks that never meet are no more than the words of the memory in which they lie
pub few_blocks : (words : ℕ) (bs : List Block) → Each (λ (b : Block). IsInMemory words b.start b.size × IsOfWords b.start b.size) bs → Each (λ (b : Block). 0 < b.size) bs → Pairs (λ (b c : Block). AreApart b.start b.size c.start c.size) bs → length bs ≤ words
few_blocks words bs within some apart =
    let all = of_blocks words (λ _. true) (map whole bs)
    (each_map (λ (b : Block). IsInMemory words b.start b.size × IsOfWords b.start b.size) (λ (b : Block). IsInMemory words b.start b.size × IsOfWords b.start b.size) whole (λ b w. w) bs within)
    (pairs_map (λ (b c : Block). AreApart b.start b.size c.start c.size) (λ (b c : Block). AreApart b.start b.size c.start c.size) whole (λ b c r. r) bs apart) in
    let most = count_most (λ a. true && list_any (λ x. is_scanned x a) (map whole bs)) (words_from words base) in
    let long = words_long words base in
    let is = count_true (flat_map scanned_words (map whole bs)) in
    let many = many_words bs (in_each (λ (b : Block). IsOfWords b.start b.size × (0 < b.size)) bs (λ b i.
    ((each_in (λ (x : Block). IsInMemory words x.start x.size × IsOfWords x.start x.size) bs b within i).1, each_in (λ (x : Block). 0 < x.size) bs b some i))) in
    few _ _ _ _ _ _ all most long is many
  where
    few : (a b c d e f : ℕ) → a ≡ b → a ≤ c → c ≡ d → b ≡ e → f ≤ e → f ≤ d
    few a b c d e f g h i j k = omega (arith, g, h, i, j, k)

-- what points out of the memory points into no block
pub points_out : (words : ℕ) (t : Tracker) (a value target : ℕ) → AreSpread words t → target ≡ untagged value → is_within base (8 * words) target ≡ false
    → (b : Block) (but : Span) → In b (blocks_of t) → refers_to (span_of b) but a value ≡ false
points_out words t a value target s same out b but i =
    elim (is_within b.start b.size (untagged value)) as (λ q. is_within b.start b.size (untagged value) ≡ q → ((q && not (has (span_of b) a)) && not (has but a)) ≡ false) [
      | true ↦ λ e.
          let low : b.start ≤ untagged value = leb-true b.start (untagged value) (and_parts (leb b.start (untagged value)) (ltb (untagged value) (b.start + b.size)) e).0 in
          let high : untagged value < b.start + b.size = ltb-true (untagged value) (b.start + b.size) (and_parts (leb b.start (untagged value)) (ltb (untagged value) (b.start + b.size)) e).1 in
          let within = each_in (λ (x : Block). IsInMemory words x.start x.size × IsOfWords x.start x.size) (blocks_of t) b s.within i in
          let from : base ≤ b.start = within.0.0 in
          let to : b.start + b.size ≤ base + 8 * words = within.0.1 in
          absurd (elim_false (sym out ∙ ap (is_within base (8 * words)) same
          ∙ and_from (leb base (untagged value)) (ltb (untagged value) (base + 8 * words)) (le-leb base (untagged value) (le_trans _ _ _ from low)) (lt-ltb (untagged value) (base + 8 * words) (lt_trans _ _ _ high to))))
      | false ↦ λ _. refl
    ] refl
  where
    le_trans : (l m n : ℕ) → l ≤ m → m ≤ n → l ≤ n
    le_trans l m n e f = omega (arith, e, f)

    lt_trans : (l m n : ℕ) → l < m → m ≤ n → l < n
    lt_trans l m n e f = omega (arith, e, f)
