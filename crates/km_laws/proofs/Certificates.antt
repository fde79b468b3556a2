use Rattle.std.proofs.Common.{◌≡◌, ℕ, zero, suc, ◌+◌, ◌-◌, ◌*◌, ◌/◌, ◌≤◌, ◌<◌, ◌==◌, inl, inr, Bool, true, false, ◌&&◌, ◌||◌, not, cond, leb, ltb, List, [], ◌∷◌, length, Option, Some, None, filter, sum_by, refl, sym, ◌∙◌, ap, subst, arith, eqb-true, ltb-true, eq-eqb, ne_eqb, le-leb, leb-true, if◌then◌else◌}
use Rattle.std.specs.Prelude.{filter_map}
use Rattle.std.specs.List.{list_any, cons_option}
use Rattle.std.proofs.lemmas.Bool.{and_parts, and_from, not-true, lt-leb, or_cases, and_right}
use Rattle.km_laws.proofs.Lists.{In, each_in, find_in, count, count_le, count_more, total_le_in, sum_by-total, in_filter, any_in}
use Rattle.km_laws.specs.Left.{total}
use Rattle.km_model.proofs.Cases.{elim_false, some_same}
use Rattle.km_laws.proofs.Hits.{is_early, early, hits}
use Rattle.km_laws.proofs.Counts.{IdsRise, into, into_head, passes_on, passed}
use Rattle.km_laws.proofs.Invariants.{Inv, WasLoaded, queue, init_of}
use Rattle.km_laws.specs.Placed.{WholeWords}
use Rattle.km_laws.specs.Soundness.{IsValueAt}
use Rattle.km_model.specs.Memory.{base, words_from}
use Rattle.km_model.specs.Blocks.{Block, Minimum, Black, AtLeast, block_of, needs, option_is, scanned_words, is_scanned, is_black, is_within, points_into, references_of, words_of, is_among}
use Rattle.km_model.specs.Tasks.{Task, in_stack}
use Rattle.km_model.specs.Past.{Past, ScanLoad, loads}
use Rattle.km_model.specs.Scan.{is_holder}
use Rattle.km_model.specs.Held.{Standing, steady_where, refers, direct_words, surplus, is_supported, members, is_certificate}

-- the words of words_from
pub in_words_from : (n k start : ℕ) → k < n → In (start + 8 * k) (words_from n start)
in_words_from zero k start lt = absurd (omega (arith, lt))
in_words_from (suc n) zero start lt = inl (omega arith)
in_words_from (suc n) (suc k) start lt =
    inr (let same : (start + 8) + 8 * k ≡ start + 8 * suc k = omega arith in subst (λ a. In a (words_from n (start + 8))) same (in_words_from n k (start + 8) (omega (arith, lt))))

value_word : (z : ℕ) (os : List (Option ℕ)) (w v : ℕ) → IsValueAt z os w v → (i : ℕ) × (w ≡ z + 8 * i)
value_word z [] w v i = absurd i
value_word z (o ∷ os) w v (inl here) = (0, omega (arith, here.0))
value_word z (o ∷ os) w v (inr later) = let rest = value_word (z + 8) os w v later in (suc rest.0, omega (arith, rest.1))

-- the loads that pass, of words from an address on
abbrev from_word : (ScanLoad → Bool) → ℕ → ScanLoad → Bool
from_word p a l = p l && leb a l.place.word

-- as many loads pass as there are steady words that pass, where each of these was loaded so
count_words : (test : ℕ → ℕ → Bool) (p : ScanLoad → Bool) (ls : List ScanLoad) (a : ℕ) (os : List (Option ℕ))
    → ((w v : ℕ) → IsValueAt a os w v → test w v ≡ true → (l : ScanLoad) × In l ls × (p l ≡ true) × (l.place.word ≡ w))
    → length (steady_where test a os) ≤ count (from_word p a) ls
count_words test p ls a [] each = omega arith
count_words test p ls a (o ∷ os) each = go (count_words test p ls (a + 8) os (λ w v i. each w v (inr i))) o (λ v e. each a v (inl (refl, e)))
  where
    fewer : count (from_word p (a + 8)) ls ≤ count (from_word p a) ls
    fewer = count_le (from_word p (a + 8)) (from_word p a) ls (λ l i e.
        let parts = and_parts (p l) (leb (a + 8) l.place.word) e in
        let above : a + 8 ≤ l.place.word = leb-true (a + 8) l.place.word parts.1 in
        and_from (p l) (leb a l.place.word) parts.0 (le-leb a l.place.word (omega (arith, above))))

    go : length (steady_where test (a + 8) os) ≤ count (from_word p (a + 8)) ls
        → (q : Option ℕ) → ((v : ℕ) → q ≡ Some v → test a v ≡ true → (l : ScanLoad) × In l ls × (p l ≡ true) × (l.place.word ≡ a))
        → length (steady_where test a (q ∷ os)) ≤ count (from_word p a) ls
    go rest None here = omega (arith, fewer, rest)
    go rest (Some v) here =
        elim (test a v) as (λ r. test a v ≡ r → length (if r then a ∷ steady_where test (a + 8) os else steady_where test (a + 8) os) ≤ count (from_word p a) ls) [
          | true ↦ λ e.
              let found = here v refl e in
              let more : count (from_word p (a + 8)) ls + 1 ≤ count (from_word p a) ls =
              count_more (from_word p a) (from_word p (a + 8)) ls found.0 (λ l i f.
              let parts = and_parts (p l) (leb (a + 8) l.place.word) f in
              let above : a + 8 ≤ l.place.word = leb-true (a + 8) l.place.word parts.1 in
              and_from (p l) (leb a l.place.word) parts.0 (le-leb a l.place.word (omega (arith, above)))) found.1
              (and_from (p found.0) (leb a (found.0).place.word) found.2 (le-leb a (found.0).place.word (omega (arith, found.3))))
              (and_right (p found.0) (leb (a + 8) (found.0).place.word) (lt-leb (a + 8) (found.0).place.word (omega (arith, found.3)))) in
              omega (arith, more, rest)
          | false ↦ λ _. omega (arith, fewer, rest)
        ] refl

words_le : (test : ℕ → ℕ → Bool) (p : ScanLoad → Bool) (ls : List ScanLoad) (a : ℕ) (os : List (Option ℕ))
    → ((w v : ℕ) → IsValueAt a os w v → test w v ≡ true → (l : ScanLoad) × In l ls × (p l ≡ true) × (l.place.word ≡ w))
    → length (steady_where test a os) ≤ count p ls
words_le test p ls a os each =
    let some : length (steady_where test a os) ≤ count (from_word p a) ls = count_words test p ls a os each in
    let fewer : count (from_word p a) ls ≤ count p ls = count_le (from_word p a) p ls (λ l i e. (and_parts (p l) (leb a l.place.word) e).0) in
    omega (arith, some, fewer)

filter_steady : (r : ℕ → Bool) (test : ℕ → ℕ → Bool) (a : ℕ) (os : List (Option ℕ))
    → filter r (steady_where test a os) ≡ steady_where (λ w v. test w v && r w) a os
filter_steady r test a [] = refl
filter_steady r test a (None ∷ os) = filter_steady r test (a + 8) os
filter_steady r test a (Some v ∷ os) = go (filter_steady r test (a + 8) os) (test a v) (r a) refl
  where
    go : filter r (steady_where test (a + 8) os) ≡ steady_where (λ w u. test w u && r w) (a + 8) os
        → (x y : Bool) → r a ≡ y
        → filter r (if x then a ∷ steady_where test (a + 8) os else steady_where test (a + 8) os)
        ≡ (if x && y then a ∷ steady_where (λ w u. test w u && r w) (a + 8) os else steady_where (λ w u. test w u && r w) (a + 8) os)
    go rest true true e = rw e (ap (λ ws. a ∷ ws) rest)
    go rest true false e = rw e rest
    go rest false y e = rest

within_words : (z start size n w : ℕ) → (i : ℕ) × (start ≡ z + 8 * i) → size ≡ 8 * n → (i : ℕ) × (w ≡ z + 8 * i) → is_within start size w ≡ true → In w (words_from n start)
within_words z start size n w aligned e word within =
    let parts = and_parts (leb start w) (ltb w (start + size)) within in
    let above : start ≤ w = leb-true start w parts.0 in
    let below : w < start + size = ltb-true w (start + size) parts.1 in
    let a : start ≡ z + 8 * aligned.0 = aligned.1 in
    let b : w ≡ z + 8 * word.0 = word.1 in
    let same : start + 8 * (word.0 - aligned.0) ≡ w = omega (arith, a, b, above) in
    let less : word.0 - aligned.0 < n = omega (arith, a, b, above, below, e) in
    subst (λ x. In x (words_from n start)) same (in_words_from n (word.0 - aligned.0) start less)

scanned_within : (b : Block) (w : ℕ) → is_scanned b w ≡ true → is_within b.start b.size w ≡ true
scanned_within b w e = (and_parts (not (is_black b || b.no_scan)) (is_within b.start b.size w) (and_parts (not (is_black b || b.no_scan) && is_within b.start b.size w) _ e).0).1

scanned_word : (b : Block) (w : ℕ) → WholeWords b.start b.size → (i : ℕ) × (w ≡ base + 8 * i) → is_scanned b w ≡ true → In w (scanned_words b)
scanned_word b w whole word e =
    in_filter (is_scanned b) (words_of b) w
    (within_words base b.start b.size (b.size / 8) w whole.0 (let size : b.size ≡ 8 * suc whole.1.0 = whole.1.1 in omega (arith, size)) word (scanned_within b w e)) e

-- what is among the blocks that are found is found
member_of : (find_one : ℕ → Option Block) (ids : List ℕ) (x : Block) → In x (filter_map find_one ids) → (id : ℕ) × In id ids × (find_one id ≡ Some x)
member_of find_one [] x i = absurd i
member_of find_one (id ∷ ids) x i = go (member_of find_one ids x) (find_one id) refl i
  where
    go : (In x (filter_map find_one ids) → (k : ℕ) × In k ids × (find_one k ≡ Some x))
        → (o : Option Block) → find_one id ≡ o → In x (cons_option o (filter_map find_one ids)) → (k : ℕ) × In k (id ∷ ids) × (find_one k ≡ Some x)
    go rest None e j = let found = rest j in (found.0, inr found.1, found.2)
    go rest (Some b) e (inl same) = (id, inl refl, e ∙ ap Some (sym same))
    go rest (Some b) e (inr j) = let found = rest j in (found.0, inr found.1, found.2)

pub id_found : (bs : List Block) (b : Block) → IdsRise bs → In b bs → block_of bs b.id ≡ Some b
id_found [] b d i = absurd i
id_found (c ∷ bs) b d (inl same) = rw (eq-eqb c.id b.id (ap (λ (x : Block). x.id) (sym same))) (ap Some (sym same))
id_found (c ∷ bs) b d (inr i) = rw (ne_eqb c.id b.id (λ e. let lt = each_in (λ (x : Block). c.id < x.id) bs b d.0 i in omega (arith, lt, e))) (id_found bs b d.1 i)

-- a block that is found often enough
abbrev pub IsEnough : List ScanLoad → Block → Type 0
IsEnough ls b = (m : ℕ) × (b.minimum ≡ AtLeast m) × (m ≤ hits b.id ls)

not_black : (b : Block) → is_black b ≡ false → (m : ℕ) × (b.minimum ≡ AtLeast m)
not_black b e = go b.minimum refl e
  where
    go : (q : Minimum) → b.minimum ≡ q → (elim q as (λ _. Bool) [ Black ↦ true | AtLeast _ ↦ false ]) ≡ false → (m : ℕ) × (b.minimum ≡ AtLeast m)
    go Black f g = absurd (elim_false (sym g))
    go (AtLeast m) f g = (m, f)

-- the loads of a scan that is over its first two phases, and what stood through it
module _ (past : Past) (s : Standing) (Stands : Block → Type 0) (Lives : ℕ → ℕ → Type 0)
    (v : Inv Stands Lives (init_of past) (loads past))
    (content : (b : Block) (a : ℕ) → Stands b → In b.id (queue (init_of past) (loads past)) → In a (scanned_words b) → WasLoaded 2 b.id a (loads past))
    (stacks : (n start a : ℕ) → Lives n start → In a (words_from 512 start) → WasLoaded 1 n a (loads past))
    (stand : (b : Block) → In b s.blocks → Stands b) (rise : IdsRise s.blocks)
    (live : (t : Task) → In t s.stacks → Lives t.number t.stack)
    (blocks_whole : (b : Block) → In b s.blocks → WholeWords b.start b.size)
    (stacks_whole : (t : Task) → In t s.stacks → WholeWords t.stack 4096)
    (steady : (w u : ℕ) → IsValueAt base s.steady w u → (l : ScanLoad) → In l (early (loads past)) → l.place.word ≡ w → l.value ≡ u) where
  abbrev E : List ScanLoad
  E = early (loads past)

  same_id : (x b : Block) → In x s.blocks → In b s.blocks → x.id ≡ b.id → x ≡ b
  same_id x b i j e = some_same x b (sym (id_found s.blocks x rise i) ∙ (ap (block_of s.blocks) e ∙ id_found s.blocks b rise j))

  -- the holder of a word outside a block is another
  other_holder : (x b : Block) (w : ℕ) (l : ScanLoad) → In x s.blocks → In b s.blocks → is_scanned x w ≡ true → is_within b.start b.size w ≡ false
      → l.place.holder ≡ x.id → is_holder l.place b ≡ false
  other_holder x b w l i j scanned out holder =
      and_right (ltb 1 l.place.phase) (l.place.holder == b.id)
      (ne_eqb l.place.holder b.id (λ e.
      let same : x ≡ b = same_id x b i j (sym holder ∙ e) in
      elim_false (sym out ∙ subst (λ (c : Block). is_within c.start c.size w ≡ true) same (scanned_within x w scanned))))

  in_early : (l : ScanLoad) → In l (loads past) → l.place.phase ≤ 2 → In l E
  in_early l i le = in_filter is_early (loads past) l i (le-leb l.place.phase 2 le)

  -- a direct word was loaded from outside
  direct_load : (holders : List Block) (a b : Block) (w u : ℕ) → In a s.blocks → In b s.blocks
      → ((x : Block) → In x holders → In x s.blocks × IsEnough E x)
      → IsValueAt base s.steady w u → refers s holders a w u ≡ true → is_within b.start b.size w ≡ false
      → (l : ScanLoad) × In l E × (into_head b a l ≡ true) × (l.place.word ≡ w)
  direct_load holders a b w u i j enough value e out =
      let both = and_parts (points_into u a && not (is_within a.start a.size w)) (list_any (λ x. is_scanned x w) holders || list_any (in_stack w) s.stacks) e in
      let points = and_parts (points_into u a) (not (is_within a.start a.size w)) both.0 in
      let out_a : is_within a.start a.size w ≡ false = not-true (is_within a.start a.size w) points.1 in
      elim (or_cases (list_any (λ x. is_scanned x w) holders) (list_any (in_stack w) s.stacks) both.1) [
        | inl held ↦
            let x = any_in (λ (y : Block). is_scanned y w) holders held in
            let good = enough x.0 x.1 in
            let queued : In (x.0).id (queue (init_of past) (loads past)) = v.ripe x.0 good.1.0 (stand x.0 good.0) good.1.1 good.1.2 in
            let word : In w (scanned_words x.0) = scanned_word x.0 w (blocks_whole x.0 good.0) (value_word base s.steady w u value) x.2 in
            let l = content x.0 w (stand x.0 good.0) queued word in
            let inside : In l.0 E = in_early l.0 l.1 (omega (arith, l.2)) in
            (l.0, inside, shown l.0 (steady w u value l.0 inside l.4) points.0 (other_holder x.0 a w l.0 good.0 i x.2 out_a l.3) (other_holder x.0 b w l.0 good.0 j x.2 out l.3), l.4)
        | inr stacked ↦
            let t = any_in (in_stack w) s.stacks stacked in
            let word : In w (words_from 512 (t.0).stack) = within_words base (t.0).stack 4096 512 w (stacks_whole t.0 t.1).0 refl (value_word base s.steady w u value) t.2 in
            let l = stacks (t.0).number (t.0).stack w (live t.0 t.1) word in
            let inside : In l.0 E = in_early l.0 l.1 (omega (arith, l.2)) in
            (l.0, inside, shown l.0 (steady w u value l.0 inside l.4) points.0 (no_holder l.0 a l.2) (no_holder l.0 b l.2), l.4)
      ]
    where
      shown : (l : ScanLoad) → l.value ≡ u → points_into u a ≡ true → is_holder l.place a ≡ false → is_holder l.place b ≡ false → into_head b a l ≡ true
      shown l same points f g =
          and_from (into a l) (not (is_holder l.place b))
          (and_from (points_into l.value a) (not (is_holder l.place a)) (subst (λ n. points_into n a ≡ true) (sym same) points) (ap not f)) (ap not g)

      no_holder : (l : ScanLoad) (c : Block) → l.place.phase ≡ 1 → is_holder l.place c ≡ false
      no_holder l c e = subst (λ n. (ltb 1 n && (l.place.holder == c.id)) ≡ false) (sym e) refl

  direct_le : (holders : List Block) (b : Block) → In b s.blocks → ((x : Block) → In x holders → In x s.blocks × IsEnough E x)
      → length (direct_words s holders b) ≤ count (into b) E
  direct_le holders b i enough =
      words_le (refers s holders b) (into b) E base s.steady (λ w u value e.
      let both = and_parts (points_into u b && not (is_within b.start b.size w)) (list_any (λ x. is_scanned x w) holders || list_any (in_stack w) s.stacks) e in
      let out : is_within b.start b.size w ≡ false = not-true (is_within b.start b.size w) (and_parts (points_into u b) (not (is_within b.start b.size w)) both.0).1 in
      let l = direct_load holders b b w u i i enough value e out in
      (l.0, l.1, (and_parts (into b l.0) (not (is_holder (l.0).place b)) l.2).0, l.3))

  outside_le : (holders : List Block) (a b : Block) → In a s.blocks → In b s.blocks → ((x : Block) → In x holders → In x s.blocks × IsEnough E x)
      → length (filter (λ w. not (is_within b.start b.size w)) (direct_words s holders a)) ≤ count (into_head b a) E
  outside_le holders a b i j enough =
      subst (λ ws. length ws ≤ count (into_head b a) E) (sym (filter_steady (λ w. not (is_within b.start b.size w)) (refers s holders a) base s.steady))
      (words_le (λ w u. refers s holders a w u && not (is_within b.start b.size w)) (into_head b a) E base s.steady (λ w u value e.
      let both = and_parts (refers s holders a w u) (not (is_within b.start b.size w)) e in
      direct_load holders a b w u i j enough value both.0 (not-true (is_within b.start b.size w) both.1)))

  surplus_le : (holders : List Block) (a b : Block) → In a s.blocks → In b s.blocks → ((x : Block) → In x holders → In x s.blocks × IsEnough E x)
      → surplus s holders a b ≤ passed b E a
  surplus_le holders a b i j enough = go (passes_on b a) refl
    where
      go : (q : Bool) → passes_on b a ≡ q
          → (if q then length (filter (λ w. not (is_within b.start b.size w)) (direct_words s holders a)) - references_of a else 0) ≤ cond q (count (into_head b a) E - hits a.id E) 0
      go false e = omega arith
      go true e =
          let m = not_black a (not-true (is_black a) (and_parts (option_is a.excess b.start) (not (is_black a)) e).1) in
          let needed : references_of a ≡ m.0 = ap (λ (x : Minimum). elim x as (λ _. ℕ) [ Black ↦ 0 | AtLeast n ↦ n ]) m.1 in
          let cap : hits a.id E ≤ m.0 = v.counted.capped a m.0 (stand a i) m.1 in
          let le : length (filter (λ w. not (is_within b.start b.size w)) (direct_words s holders a)) ≤ count (into_head b a) E = outside_le holders a b i j enough in
          omega (arith, needed, cap, le)

  supported_enough : (holders : List Block) (b : Block) → In b s.blocks → ((x : Block) → In x holders → In x s.blocks × IsEnough E x)
      → is_black b ≡ false → is_supported s holders b ≡ true → IsEnough E b
  supported_enough holders b i enough black supported =
      let m = not_black b black in
      elim (or_cases (needs 0 b) _ supported) [
        | inl none ↦
            let zero_is : (m.0 == 0) ≡ true = subst (λ (x : Minimum). (elim x as (λ _. Bool) [ Black ↦ false | AtLeast n ↦ n == 0 ]) ≡ true) m.1 none in
            (m.0, m.1, omega (arith, eqb-true m.0 0 zero_is))
        | inr some ↦
            let needed : references_of b ≡ m.0 = ap (λ (x : Minimum). elim x as (λ _. ℕ) [ Black ↦ 0 | AtLeast n ↦ n ]) m.1 in
            let le : references_of b ≤ length (direct_words s holders b) + sum_by (λ head. surplus s holders head b) s.blocks = leb-true _ _ some in
            let direct : length (direct_words s holders b) ≤ count (into b) E = direct_le holders b i enough in
            let same : sum_by (λ head. surplus s holders head b) s.blocks ≡ total (λ head. surplus s holders head b) s.blocks = sum_by-total (λ head. surplus s holders head b) s.blocks in
            let passing : total (λ head. surplus s holders head b) s.blocks ≤ total (passed b E) s.blocks =
            total_le_in (λ head. surplus s holders head b) (passed b E) s.blocks (λ a j. surplus_le holders a b j i enough) in (
              m.0,
              m.1,
              elim (v.counted.hit b m.0 s.blocks (stand b i) m.1 stand rise) [
                | inl h ↦ h
                | inr h ↦ omega (arith, needed, le, direct, same, passing, h)
              ],
            )
      ]

  -- each block of a certificate was found often enough
  pub certified : (ids : List ℕ) → is_certificate s ids ≡ true → (id : ℕ) (b : Block) → In id ids → block_of s.blocks id ≡ Some b → In b s.blocks × IsEnough E b
  certified [] e id b i found = absurd i
  certified (k ∷ ids) e id b i found = go (certified ids (and_parts _ (is_certificate s ids) e).1) i
    where
      here : ((j : ℕ) (x : Block) → In j ids → block_of s.blocks j ≡ Some x → In x s.blocks × IsEnough E x) → k ≡ id
          → (o : Option Block) → block_of s.blocks k ≡ o
          → (elim o as (λ _. Bool) [ None ↦ false | Some c ↦ not (is_black c) && not (is_among k ids) && is_supported s (members s ids) c ]) ≡ true → In b s.blocks × IsEnough E b
      here rest same None f g = absurd (elim_false g)
      here rest same (Some c) f g =
          let parts = and_parts (not (is_black c) && not (is_among k ids)) (is_supported s (members s ids) c) g in
          let black : is_black c ≡ false = not-true (is_black c) (and_parts (not (is_black c)) (not (is_among k ids)) parts.0).0 in
          let inside : In c s.blocks = (find_in (λ (x : Block). x.id == k) s.blocks c f).1 in
          let enough : IsEnough E c = supported_enough (members s ids) c inside (λ x j. let m = member_of (block_of s.blocks) ids x j in rest m.0 x m.1 m.2) black parts.1 in
          let is : c ≡ b = some_same c b (sym f ∙ (ap (block_of s.blocks) same ∙ found)) in
          (subst (λ x. In x s.blocks) is inside, subst (λ x. IsEnough E x) is enough)

      go : ((j : ℕ) (x : Block) → In j ids → block_of s.blocks j ≡ Some x → In x s.blocks × IsEnough E x) → In id (k ∷ ids) → In b s.blocks × IsEnough E b
      go rest (inl same) = here rest (sym same) (block_of s.blocks k) refl (and_parts _ (is_certificate s ids) e).0
      go rest (inr j) = rest id b j found
