-- The references in the words of stacks and blocks, one after another, are those that the definitions find in the memory.
use Rattle.std.proofs.Common.{◌≡◌, ℕ, zero, suc, ◌+◌, ◌-◌, ◌*◌, ◌/◌, ◌<◌, ◌≤◌, inl, inr, Bool, true, false, ◌&&◌, ◌||◌, not, cond, leb, ltb, List, [], ◌∷◌, ◌++◌, length, Some, filter, map, flat_map, slice_index, sum_by, refl, sym, ◌∙◌, ap, subst, arith, leb-true, ltb-true, lt-ltb, le-leb, length-append, if◌then◌else◌}
use Rattle.std.specs.List.{list_any}
use Rattle.std.proofs.lemmas.Bool.{and_parts, and_from, and_right, lt-leb, le-ltb}
use Rattle.std.proofs.lemmas.List.{append_assoc}
use Rattle.km_model.proofs.Cases.{elim_false}
use Rattle.km_model.proofs.Lists.{Each, Pairs, any_in, each_in, each_none}
use Rattle.km_model.specs.Memory.{base, word_at, words_from}
use Rattle.km_model.specs.Blocks.{Block, contains, in_areas, is_black, is_scanned, is_within, points_into, scanned_words, needs, option_is, references_of}
use Rattle.km_model.specs.Tasks.{Task, in_stack, stack_words}
use Rattle.km_model.specs.Held.{Standing, steady_where, refers, direct_words, surplus, is_supported}
use Rattle.km_certificates.specs.Certificates.{found}
use Rattle.std.proofs.lemmas.List.Sums.{sum_by-cons}
use Rattle.km_why.specs.Told.{AreApart, IsInMemory, IsOfWords}
use Rattle.km_why.specs.References.{refers_to, references, sources, span_of, passed_to, found_in, is_enough}

-- how many of these pass
abbrev pub count : (ℕ → Bool) → List ℕ → ℕ
count p [] = 0
count p (a ∷ as') = cond (p a) 1 0 + count p as'

count_filter : (p : ℕ → Bool) (ws : List ℕ) → length (filter p ws) ≡ count p ws
count_filter p [] = refl
count_filter p (w ∷ ws) =
    let rest : length (filter p ws) ≡ count p ws = count_filter p ws in
    elim (p w) as (λ q. length (cond q (w ∷ filter p ws) (filter p ws)) ≡ cond q 1 0 + count p ws) [ true ↦ omega (arith, rest) | false ↦ omega (arith, rest) ]

count_both : (p q : ℕ → Bool) (ws : List ℕ) → count p (filter q ws) ≡ count (λ a. p a && q a) ws
count_both p q [] = refl
count_both p q (w ∷ ws) =
    let rest : count p (filter q ws) ≡ count (λ a. p a && q a) ws = count_both p q ws in
    elim (q w) as (λ r. count p (cond r (w ∷ filter q ws) (filter q ws)) ≡ cond (p w && r) 1 0 + count (λ a. p a && q a) ws) [
      | true ↦ elim (p w) as (λ s. cond s 1 0 + count p (filter q ws) ≡ cond (s && true) 1 0 + count (λ a. p a && q a) ws) [ true ↦ omega (arith, rest) | false ↦ omega (arith, rest) ]
      | false ↦ elim (p w) as (λ s. count p (filter q ws) ≡ cond (s && false) 1 0 + count (λ a. p a && q a) ws) [ true ↦ omega (arith, rest) | false ↦ omega (arith, rest) ]
    ]

count_append : (p : ℕ → Bool) (xs ys : List ℕ) → count p (xs ++ ys) ≡ count p xs + count p ys
count_append p [] ys = omega arith
count_append p (x ∷ xs) ys = omega (arith, count_append p xs ys)

-- words from an address on are so many words
abbrev IsFrom : ℕ → ℕ → ℕ → Type 0
IsFrom start n a = (i : ℕ) × (i < n) × (a ≡ start + 8 * i)

count_same : (p q : ℕ → Bool) (n start : ℕ) → ((a : ℕ) → IsFrom start n a → p a ≡ q a) → count p (words_from n start) ≡ count q (words_from n start)
count_same p q zero start each = refl
count_same p q (suc n) start each =
    let here : p start ≡ q start = each start (0, omega arith, omega arith) in
    let rest : count p (words_from n (start + 8)) ≡ count q (words_from n (start + 8)) = count_same p q n (start + 8) (λ a i. let e = i.2 in each a (suc i.0, (let lt = i.1 in omega (arith, lt)), omega (arith, e))) in
    ap (λ b. cond b 1 0 + count p (words_from n (start + 8))) here ∙ ap (λ k. cond (q start) 1 0 + k) rest

count_none : (p : ℕ → Bool) (n start : ℕ) → ((a : ℕ) → IsFrom start n a → p a ≡ false) → count p (words_from n start) ≡ 0
count_none p zero start each = refl
count_none p (suc n) start each =
    let rest : count p (words_from n (start + 8)) ≡ 0 = count_none p n (start + 8) (λ a i. let e = i.2 in each a (suc i.0, (let lt = i.1 in omega (arith, lt)), omega (arith, e))) in
    rw (each start (0, omega arith, omega arith)) (omega (arith, rest))

count_either : (t p q : ℕ → Bool) (n start : ℕ) → ((a : ℕ) → IsFrom start n a → p a ≡ true → q a ≡ false)
    → count (λ a. t a && (p a || q a)) (words_from n start) ≡ count (λ a. t a && p a) (words_from n start) + count (λ a. t a && q a) (words_from n start)
count_either t p q zero start each = refl
count_either t p q (suc n) start each =
    let rest = count_either t p q n (start + 8) (λ a i. let e = i.2 in each a (suc i.0, (let lt = i.1 in omega (arith, lt)), omega (arith, e))) in
    go (t start) (p start) (q start) (each start (0, omega arith, omega arith)) _ _ _ rest
  where
    go : (x y z : Bool) → (y ≡ true → z ≡ false) → (k l m : ℕ) → k ≡ l + m → cond (x && (y || z)) 1 0 + k ≡ (cond (x && y) 1 0 + l) + (cond (x && z) 1 0 + m)
    go false y z f k l m e = omega (arith, e)
    go true false false f k l m e = omega (arith, e)
    go true false true f k l m e = omega (arith, e)
    go true true false f k l m e = omega (arith, e)
    go true true true f k l m e = absurd (elim_false (sym (f refl)))

words_split : (i k start : ℕ) → words_from (i + k) start ≡ words_from i start ++ words_from k (start + 8 * i)
words_split zero k start = ap (λ n. words_from n start) (let e : 0 + k ≡ k = omega arith in e) ∙ ap (words_from k) (let e : start ≡ start + 8 * 0 = omega arith in e)
words_split (suc i) k start =
    ap (λ n. words_from n start) (let e : suc i + k ≡ suc (i + k) = omega arith in e)
    ∙ ap (λ ws. start ∷ ws) (words_split i k (start + 8) ∙ ap (λ a. words_from i (start + 8) ++ words_from k a) (let e : start + 8 + 8 * i ≡ start + 8 * suc i = omega arith in e))

-- what passes in some words of the memory alone
count_within : (p : ℕ → Bool) (z words start size i n : ℕ) → start ≡ z + 8 * i → size ≡ 8 * n → start + size ≤ z + 8 * words
    → ((a : ℕ) → is_within start size a ≡ false → p a ≡ false) → count p (words_from words z) ≡ count p (words_from n start)
count_within p z words start size i n e f le out =
    let k : ℕ = words - (i + n) in
    let all : words ≡ i + (n + k) = omega (arith, e, f, le) in
    let split : words_from words z ≡ words_from i z ++ (words_from n start ++ words_from k (start + 8 * n)) =
    ap (λ m. words_from m z) all ∙ words_split i (n + k) z ∙ ap (λ a. words_from i z ++ words_from (n + k) a) (sym e) ∙ ap (λ ws. words_from i z ++ ws) (words_split n k start) in
    let before : count p (words_from i z) ≡ 0 = count_none p i z (λ a j. let at = j.2 in let lt = j.1 in out a (ap (λ b. b && ltb a (start + size)) (lt-leb start a (omega (arith, at, lt, e))))) in
    let behind : count p (words_from k (start + 8 * n)) ≡ 0 = count_none p k (start + 8 * n) (λ a j. let at = j.2 in out a (and_right (leb start a) (ltb a (start + size)) (le-ltb a (start + size) (omega (arith, at, f))))) in
    let one : count p (words_from words z) ≡ count p (words_from i z) + (count p (words_from n start) + count p (words_from k (start + 8 * n))) =
    ap (count p) split ∙ count_append p (words_from i z) (words_from n start ++ words_from k (start + 8 * n)) ∙ ap (λ m. count p (words_from i z) + m) (count_append p (words_from n start) (words_from k (start + 8 * n))) in
    omega (arith, one, before, behind)

index_at : (pre : List ℕ) (x : ℕ) (m : List ℕ) → slice_index (pre ++ x ∷ m) (length pre) ≡ x
index_at [] x m = refl
index_at (y ∷ pre) x m = index_at pre x m

-- what passes in a memory is what passes of its words
steady_values : (test : ℕ → ℕ → Bool) (z : ℕ) (all pre m : List ℕ) → all ≡ pre ++ m
    → steady_where test (z + 8 * length pre) (map Some m) ≡ filter (λ a. test a (slice_index all ((a - z) / 8))) (words_from (length m) (z + 8 * length pre))
steady_values test z all pre [] e = refl
steady_values test z all pre (x ∷ m) e =
    let longer : z + 8 * length (pre ++ x ∷ []) ≡ z + 8 * length pre + 8 = omega (arith, length-append pre (x ∷ [])) in
    let rest : steady_where test (z + 8 * length pre + 8) (map Some m) ≡ filter (λ a. test a (slice_index all ((a - z) / 8))) (words_from (length m) (z + 8 * length pre + 8)) =
    subst (λ a. steady_where test a (map Some m) ≡ filter (λ b. test b (slice_index all ((b - z) / 8))) (words_from (length m) a)) longer
    (steady_values test z all (pre ++ x ∷ []) m (e ∙ sym (append_assoc pre (x ∷ []) m))) in
    let place : (z + 8 * length pre - z) / 8 ≡ length pre = omega arith in
    let value : slice_index all ((z + 8 * length pre - z) / 8) ≡ x = ap (slice_index all) place ∙ ap (λ l. slice_index l (length pre)) e ∙ index_at pre x m in
    ap (λ ws. if test (z + 8 * length pre) x then (z + 8 * length pre) ∷ ws else ws) rest
    ∙ ap (λ v. if test (z + 8 * length pre) v then (z + 8 * length pre) ∷ filter (λ b. test b (slice_index all ((b - z) / 8))) (words_from (length m) (z + 8 * length pre + 8)) else filter (λ b. test b (slice_index all ((b - z) / 8))) (words_from (length m) (z + 8 * length pre + 8))) (sym value)

memory_values : (test : ℕ → ℕ → Bool) (m : List ℕ) → steady_where test base (map Some m) ≡ filter (λ a. test a (word_at m a)) (words_from (length m) base)
memory_values test m =
    subst (λ a. steady_where test a (map Some m) ≡ filter (λ b. test b (word_at m b)) (words_from (length m) a)) (let e : base + 8 * 0 ≡ base = refl in e) (steady_values test base m [] m refl)

pub apart_within : (a size b other w : ℕ) → AreApart a size b other → is_within a size w ≡ true → is_within b other w ≡ false
apart_within a size b other w (inl le) e =
    let parts = and_parts (leb a w) (ltb w (a + size)) e in
    let lt : w < a + size = ltb-true w (a + size) parts.1 in
    ap (λ q. q && ltb w (b + other)) (lt-leb b w (omega (arith, le, lt)))
apart_within a size b other w (inr le) e =
    let parts = and_parts (leb a w) (ltb w (a + size)) e in
    let ge : a ≤ w = leb-true a w parts.0 in
    and_right (leb b w) (ltb w (b + other)) (le-ltb w (b + other) (omega (arith, le, ge)))

none_scanned : (b : Block) (a : ℕ) → is_within b.start b.size a ≡ false → is_scanned b a ≡ false
none_scanned b a e = go (not (is_black b || b.no_scan)) (is_within b.start b.size a) (elim b.areas [ [] ↦ true | _ ∷ _ ↦ in_areas b.areas a ]) e
  where
    go : (x y z : Bool) → y ≡ false → ((x && y) && z) ≡ false
    go true true z f = absurd (elim_false (sym f))
    go true false z f = refl
    go false y z f = refl

scanned_within : (b : Block) (a : ℕ) → is_scanned b a ≡ true → is_within b.start b.size a ≡ true
scanned_within b a e = elim (is_within b.start b.size a) as (λ q. is_within b.start b.size a ≡ q → q ≡ true) [ true ↦ λ _. refl | false ↦ λ f. absurd (elim_false (sym (none_scanned b a f) ∙ e)) ] refl

and_none : (x : Bool) → (x && false) ≡ false
and_none true = refl
and_none false = refl

-- blocks and stacks in a memory, as AreLaidOut has them
module _ (words : ℕ) (t : ℕ → Bool) where
  abbrev all : List ℕ
  all = words_from words base

  of_block : (b : Block) → IsInMemory words b.start b.size × IsOfWords b.start b.size → count (λ a. t a && is_scanned b a) all ≡ count t (scanned_words b)
  of_block b h =
      let within = h.0.1 in
      let n : ℕ = h.1.1.0 in
      let eighth : b.size / 8 ≡ h.1.1.0 = let e = h.1.1.1 in omega (arith, e) in
      count_within (λ a. t a && is_scanned b a) base words b.start b.size h.1.0.0 h.1.1.0 h.1.0.1 h.1.1.1 within (λ a e. and_right (t a) (is_scanned b a) (none_scanned b a e))
      ∙ sym (count_both t (is_scanned b) (words_from h.1.1.0 b.start)) ∙ ap (λ k. count t (filter (is_scanned b) (words_from k b.start))) (sym eighth)

  of_stack : (u : Task) → IsInMemory words u.stack 4096 × IsOfWords u.stack 4096 → count (λ a. t a && in_stack a u) all ≡ count t (stack_words u)
  of_stack u h =
      count_within (λ a. t a && in_stack a u) base words u.stack 4096 h.1.0.0 512 h.1.0.1 refl h.0.1 (λ a e. and_right (t a) (in_stack a u) e)
      ∙ count_same (λ a. t a && in_stack a u) t 512 u.stack (λ a i. let at = i.2 in let lt = i.1 in
      ap (λ q. t a && q) (and_from (leb u.stack a) (ltb a (u.stack + 4096)) (le-leb u.stack a (omega (arith, at))) (lt-ltb a (u.stack + 4096) (omega (arith, at, lt)))) ∙ and_all (t a))
    where
      and_all : (x : Bool) → (x && true) ≡ x
      and_all true = refl
      and_all false = refl

  pub of_blocks : (bs : List Block) → Each (λ (b : Block). IsInMemory words b.start b.size × IsOfWords b.start b.size) bs → Pairs (λ (b c : Block). AreApart b.start b.size c.start c.size) bs
      → count (λ a. t a && list_any (λ x. is_scanned x a) bs) all ≡ count t (flat_map scanned_words bs)
  of_blocks [] each apart = count_none (λ a. t a && false) words base (λ a i. and_none (t a))
  of_blocks (b ∷ bs) each apart =
      count_either t (is_scanned b) (λ a. list_any (λ x. is_scanned x a) bs) words base (λ a i e. each_none (λ x. is_scanned x a) bs (λ c j.
      none_scanned c a (apart_within b.start b.size c.start c.size a (each_in (λ (c' : Block). AreApart b.start b.size c'.start c'.size) bs c apart.0 j) (scanned_within b a e))))
      ∙ ap (λ k. k + count (λ a. t a && list_any (λ x. is_scanned x a) bs) all) (of_block b each.0) ∙ ap (λ k. count t (scanned_words b) + k) (of_blocks bs each.1 apart.1)
      ∙ sym (count_append t (scanned_words b) (flat_map scanned_words bs))

  of_stacks : (us : List Task) → Each (λ (u : Task). IsInMemory words u.stack 4096 × IsOfWords u.stack 4096) us → Pairs (λ (u v : Task). AreApart u.stack 4096 v.stack 4096) us
      → count (λ a. t a && list_any (in_stack a) us) all ≡ count t (flat_map stack_words us)
  of_stacks [] each apart = count_none (λ a. t a && false) words base (λ a i. and_none (t a))
  of_stacks (u ∷ us) each apart =
      count_either t (λ a. in_stack a u) (λ a. list_any (in_stack a) us) words base (λ a i e. each_none (in_stack a) us (λ v j.
      apart_within u.stack 4096 v.stack 4096 a (each_in (λ (v' : Task). AreApart u.stack 4096 v'.stack 4096) us v apart.0 j) e))
      ∙ ap (λ k. k + count (λ a. t a && list_any (in_stack a) us) all) (of_stack u each.0) ∙ ap (λ k. count t (stack_words u) + k) (of_stacks us each.1 apart.1)
      ∙ sym (count_append t (stack_words u) (flat_map stack_words us))

-- the blocks whose words are loaded, and the stacks, lie in the memory and never meet
pub record IsSource (words : ℕ) (stacks : List Task) (before : List Block) : Type 0 where
  pub blocks_in : Each (λ (b : Block). IsInMemory words b.start b.size × IsOfWords b.start b.size) before
  pub blocks_apart : Pairs (λ (b c : Block). AreApart b.start b.size c.start c.size) before
  pub stacks_in : Each (λ (t : Task). IsInMemory words t.stack 4096 × IsOfWords t.stack 4096) stacks
  pub stacks_apart : Pairs (λ (t u : Task). AreApart t.stack 4096 u.stack 4096) stacks
  pub apart : Each (λ (t : Task). Each (λ (b : Block). AreApart t.stack 4096 b.start b.size) before) stacks

-- what passes among the words that are loaded
pub loaded : (memory : List ℕ) (t : ℕ → Bool) (s : Standing) (before : List Block) → IsSource (length memory) s.stacks before
    → count (λ a. t a && (list_any (λ x. is_scanned x a) before || list_any (in_stack a) s.stacks)) (words_from (length memory) base) ≡ count t (sources s.stacks before)
loaded memory t s before src =
    let all : List ℕ = words_from (length memory) base in
    let scanned : ℕ → Bool = λ a. list_any (λ x. is_scanned x a) before in
    let stacked : ℕ → Bool = λ a. list_any (in_stack a) s.stacks in
    count_either t scanned stacked (length memory) base (λ a i e. each_none (in_stack a) s.stacks (λ u j.
    let x = any_in (λ y. is_scanned y a) before e in
    apart_within (x.0).start (x.0).size u.stack 4096 a (other u.stack 4096 (x.0).start (x.0).size (each_in (λ (c : Block). AreApart u.stack 4096 c.start c.size) before x.0 (each_in (λ (v : Task). Each (λ (c : Block). AreApart v.stack 4096 c.start c.size) before) s.stacks u src.apart j) x.1)) (scanned_within x.0 a x.2)))
    ∙ ap (λ k. k + count (λ a. t a && stacked a) all) (of_blocks (length memory) t before src.blocks_in src.blocks_apart)
    ∙ ap (λ k. count t (flat_map scanned_words before) + k) (of_stacks (length memory) t s.stacks src.stacks_in src.stacks_apart)
    ∙ (let e : count t (flat_map scanned_words before) + count t (flat_map stack_words s.stacks) ≡ count t (flat_map stack_words s.stacks) + count t (flat_map scanned_words before) = omega arith in e)
    ∙ sym (count_append t (flat_map stack_words s.stacks) (flat_map scanned_words before))
  where
    other : (a size c rest : ℕ) → AreApart a size c rest → AreApart c rest a size
    other a size c rest (inl le) = inr le
    other a size c rest (inr le) = inl le

pub references_found : (memory : List ℕ) (s : Standing) (before : List Block) (b but : Block) → s.steady ≡ map Some memory → IsSource (length memory) s.stacks before
    → length (filter (λ a. not (contains a but)) (direct_words s before b)) ≡ references memory (span_of b) (span_of but) (sources s.stacks before)
references_found memory s before b but steady src =
    let t : ℕ → Bool = λ a. refers_to (span_of b) (span_of but) a (word_at memory a) in
    let all : List ℕ = words_from (length memory) base in
    let scanned : ℕ → Bool = λ a. list_any (λ x. is_scanned x a) before in
    let stacked : ℕ → Bool = λ a. list_any (in_stack a) s.stacks in
    ap (λ os. length (filter (λ a. not (contains a but)) (steady_where (refers s before b) base os))) steady
    ∙ ap (λ ws. length (filter (λ a. not (contains a but)) ws)) (memory_values (refers s before b) memory)
    ∙ count_filter (λ a. not (contains a but)) (filter (λ a. refers s before b a (word_at memory a)) all)
    ∙ count_both (λ a. not (contains a but)) (λ a. refers s before b a (word_at memory a)) all
    ∙ count_same (λ a. not (contains a but) && refers s before b a (word_at memory a)) (λ a. t a && (scanned a || stacked a)) (length memory) base
    (λ a i. shuffle (not (contains a but)) (points_into (word_at memory a) b) (not (contains a b)) (scanned a || stacked a))
    ∙ loaded memory t s before src
    ∙ sym (count_filter t (sources s.stacks before))
  where
    shuffle : (w x y z : Bool) → (w && ((x && y) && z)) ≡ (((x && y) && w) && z)
    shuffle true true true z = refl
    shuffle true true false z = refl
    shuffle true false y z = refl
    shuffle false true true z = refl
    shuffle false true false z = refl
    shuffle false false y z = refl

direct_found : (memory : List ℕ) (s : Standing) (before : List Block) (b : Block) → s.steady ≡ map Some memory → IsSource (length memory) s.stacks before
    → length (direct_words s before b) ≡ references memory (span_of b) (span_of b) (sources s.stacks before)
direct_found memory s before b steady src =
    let t : ℕ → Bool = λ a. refers_to (span_of b) (span_of b) a (word_at memory a) in
    let all : List ℕ = words_from (length memory) base in
    let scanned : ℕ → Bool = λ a. list_any (λ x. is_scanned x a) before in
    let stacked : ℕ → Bool = λ a. list_any (in_stack a) s.stacks in
    ap (λ os. length (steady_where (refers s before b) base os)) steady
    ∙ ap length (memory_values (refers s before b) memory)
    ∙ count_filter (λ a. refers s before b a (word_at memory a)) all
    ∙ count_same (λ a. refers s before b a (word_at memory a)) (λ a. t a && (scanned a || stacked a)) (length memory) base
    (λ a i. twice (points_into (word_at memory a) b) (not (contains a b)) (scanned a || stacked a))
    ∙ loaded memory t s before src
    ∙ sym (count_filter t (sources s.stacks before))
  where
    twice : (x y z : Bool) → ((x && y) && z) ≡ (((x && y) && y) && z)
    twice true true z = refl
    twice true false z = refl
    twice false y z = refl

pub sum_same : (f g : Block → ℕ) (bs : List Block) → ((b : Block) → f b ≡ g b) → sum_by f bs ≡ sum_by g bs
sum_same f g [] each = refl
sum_same f g (b ∷ bs) each = sum_by-cons f b bs ∙ ap (λ n. n + sum_by f bs) (each b) ∙ ap (λ n. g b + n) (sum_same f g bs each) ∙ sym (sum_by-cons g b bs)

-- what the definitions find is found in the words that are loaded
pub found_same : (memory : List ℕ) (s : Standing) (before : List Block) (b : Block) → s.steady ≡ map Some memory → IsSource (length memory) s.stacks before
    → found s before b ≡ found_in memory s.blocks (sources s.stacks before) b
found_same memory s before b steady src =
    ap (λ n. n + sum_by (λ head. surplus s before head b) s.blocks) (direct_found memory s before b steady src)
    ∙ ap (λ n. references memory (span_of b) (span_of b) (sources s.stacks before) + n)
    (sum_same (λ head. surplus s before head b) (passed_to memory (sources s.stacks before) (span_of b)) s.blocks (λ head.
    ap (λ n. if option_is head.excess b.start && not (is_black head) then n - references_of head else 0) (references_found memory s before head b steady src)))

pub enough_same : (memory : List ℕ) (s : Standing) (before : List Block) (b : Block) → s.steady ≡ map Some memory → IsSource (length memory) s.stacks before
    → (not (is_black b) && is_supported s before b) ≡ is_enough memory s.blocks (sources s.stacks before) b
enough_same memory s before b steady src = ap (λ n. not (is_black b) && (needs 0 b || leb (references_of b) n)) (found_same memory s before b steady src)
