-- The counts go on standing for the references.
use Rattle.std.proofs.Common.{◌≡◌, ℕ, ◌+◌, ◌-◌, ◌*◌, ◌/◌, ◌<◌, ◌≤◌, ◌==◌, inl, inr, Bool, true, false, ◌&&◌, not, cond, leb, ltb, List, [], ◌∷◌, ◌++◌, length, set, Option, Some, None, find, refl, sym, ◌∙◌, ap, subst, arith, eqb-true, eq-eqb, ne_eqb, le-leb, ltb-true, length-append, get_or-set_same, get_or-set_other, if◌then◌else◌}
use Rattle.std.proofs.lemmas.Bool.{lt-leb}
use Rattle.std.proofs.Math.ListN.{length-set}
use Rattle.km_model.proofs.Cases.{elim_false, none_some, some_same}
use Rattle.km_model.proofs.Lists.{In, Each, Pairs, each_in, pairs_in, find_in}
use Rattle.km_model.specs.Memory.{base, index_of, word_at}
use Rattle.km_model.specs.Blocks.{Block, Minimum, Black, AtLeast, block_at, contains, is_black, option_is, references_of}
use Rattle.km_model.specs.Scan.{excess_block}
use Rattle.km_why.specs.Told.{AreApart, IsOfWords}
use Rattle.km_why.specs.References.{has, references, refers_to, span_of}
use Rattle.km_why.specs.declared.counts.Count.{Count}
use Rattle.km_why.specs.Counts.{AreCounted, IsReferred, added, count_at, counted_in, none_found, passed_in, raised}
use Rattle.km_base.specs.Spans.{untagged}
use Rattle.km_base.specs.declared.spans.Span.{Span}
use Rattle.km_record.specs.declared.record.Record.{Record}
use Rattle.km_record.specs.Records.{block_of}
use Rattle.km_why.proofs.Delta.{aims, passes, found_hit, found_none, push_none, references_hit}

-- a place that is written, and the others
pub at_place : (counts : List Count) (p q : ℕ) (v : Count) → p < length counts → count_at (set counts p v) q ≡ (if p == q then v else count_at counts q)
at_place counts p q v lt =
    elim (p == q) as (λ r. (p == q) ≡ r → count_at (set counts p v) q ≡ (if r then v else count_at counts q)) [
      | true ↦ λ e. subst (λ n. count_at (set counts p v) n ≡ v) (eqb-true p q e) (get_or-set_same counts p v none_found lt)
      | false ↦ λ e. get_or-set_other counts p q v none_found (λ same. elim_false (sym e ∙ eq-eqb p q (sym same)))
    ] refl

index_is : (z i : ℕ) → (z + 8 * i - z) / 8 ≡ i
index_is z i = omega arith

-- of blocks with ids of their own that never meet, of whole words
module _ (memory : List ℕ) (blocks : List Block) (rise : Pairs (λ (b c : Block). b.id < c.id) blocks) (apart : Pairs (λ (b c : Block). AreApart b.start b.size c.start c.size) blocks)
    (aligned : Each (λ (b : Block). IsOfWords b.start b.size) blocks) (some : Each (λ (b : Block). 0 < b.size) blocks) where
  same_start : (b c : Block) → In b blocks → In c blocks → b.start ≡ c.start → b ≡ c
  same_start b c i j e =
      let pos : 0 < b.size = each_in (λ (x : Block). 0 < x.size) blocks b some i in
      let pos' : 0 < c.size = each_in (λ (x : Block). 0 < x.size) blocks c some j in
      elim (pairs_in (λ (x y : Block). AreApart x.start x.size y.start y.size) blocks b c apart i j) [
        | inl same ↦ same
        | inr one ↦ elim one [ inl r ↦ absurd (never b.start b.size c.start c.size e pos pos' r) | inr r ↦ absurd (never c.start c.size b.start b.size (sym e) pos' pos r) ]
      ]
    where
      never : (p q r s : ℕ) → p ≡ r → 0 < q → 0 < s → AreApart p q r s → ⊥
      never p q r s f g h (inl le) = omega (arith, f, g, le)
      never p q r s f g h (inr le) = omega (arith, f, h, le)

  pub same_place : (b c : Block) → In b blocks → In c blocks → index_of b.start ≡ index_of c.start → b ≡ c
  same_place b c i j e =
      let p = (each_in (λ (x : Block). IsOfWords x.start x.size) blocks b aligned i).0 in
      let q = (each_in (λ (x : Block). IsOfWords x.start x.size) blocks c aligned j).0 in
      let k : index_of b.start ≡ p.0 = ap index_of p.1 ∙ index_is base p.0 in
      let l : index_of c.start ≡ q.0 = ap index_of q.1 ∙ index_is base q.0 in
      same_start b c i j (p.1 ∙ ap (λ n. base + 8 * n) (sym k ∙ e ∙ l) ∙ sym q.1)

  same_block : (b c : Block) → In b blocks → In c blocks → b.id ≡ c.id → b ≡ c
  same_block b c i j s = elim (pairs_in (λ (x y : Block). x.id < y.id) blocks b c rise i j) [
    | inl same ↦ same
    | inr r ↦ elim r [ inl lt ↦ absurd (let below : b.id < c.id = lt in omega (arith, below, s)) | inr lt ↦ absurd (let below : c.id < b.id = lt in omega (arith, below, s)) ]
  ]

  -- the place of one block is that of another where they are one
  place_is : (x b : Block) → In x blocks → In b blocks → (index_of x.start == index_of b.start) ≡ (b.id == x.id)
  place_is x b i j =
      elim (b.id == x.id) as (λ q. (b.id == x.id) ≡ q → (index_of x.start == index_of b.start) ≡ q) [
        | true ↦ λ e. eq-eqb (index_of x.start) (index_of b.start) (ap (λ (y : Block). index_of y.start) (same_block x b i j (sym (eqb-true b.id x.id e))))
        | false ↦ λ e. ne_eqb (index_of x.start) (index_of b.start) (λ s. elim_false (sym e ∙ eq-eqb b.id x.id (ap (λ (y : Block). y.id) (same_place b x j i (sym s)))))
      ] refl

  -- a field of a count that is raised at one block
  written : (cs : List Count) (x b : Block) (v : Count) (f : Count → ℕ) (d : ℕ) → In x blocks → In b blocks → index_of x.start < length cs → f v ≡ f (count_at cs (index_of x.start)) + d
      → f (count_at (set cs (index_of x.start) v) (index_of b.start)) ≡ f (count_at cs (index_of b.start)) + cond (b.id == x.id) d 0
  written cs x b v f d i j lt e =
      ap f (at_place cs (index_of x.start) (index_of b.start) v lt ∙ ap (λ q. if q then v else count_at cs (index_of b.start)) (place_is x b i j))
      ∙ (elim (b.id == x.id) as (λ q. (b.id == x.id) ≡ q → f (if q then v else count_at cs (index_of b.start)) ≡ f (count_at cs (index_of b.start)) + cond q d 0) [
        | true ↦ λ s. subst (λ (y : Block). f v ≡ f (count_at cs (index_of y.start)) + d) (same_block x b i j (sym (eqb-true b.id x.id s))) e
        | false ↦ λ s. let z : f (count_at cs (index_of b.start)) ≡ f (count_at cs (index_of b.start)) + 0 = omega arith in z
      ] refl)

  -- what is found at each block, and what may be passed on, after a change of the counts
  record IsRaised (cs after : List Count) (more beyond : Block → ℕ) : Type 0 where
    found : (b : Block) → In b blocks → (count_at after (index_of b.start)).found ≡ (count_at cs (index_of b.start)).found + more b
    outside : (b : Block) → In b blocks → (count_at after (index_of b.start)).outside ≡ (count_at cs (index_of b.start)).outside + beyond b
    long : length after ≡ length cs

  cond_none : (q : Bool) → ◌≡◌ {A = ℕ} (cond q 0 0) 0
  cond_none true = refl
  cond_none false = refl

  raised_is : (cs : List Count) (x : Block) → In x blocks → index_of x.start < length cs → IsRaised cs (raised cs (index_of x.start)) (λ b. cond (b.id == x.id) 1 0) (λ b. 0)
  raised_is cs x i lt = record {
    found = λ b j. written cs x b (record { found = (count_at cs (index_of x.start)).found + 1; outside = (count_at cs (index_of x.start)).outside }) (λ (c : Count). c.found) 1 i j lt refl;
    outside = λ b j. written cs x b (record { found = (count_at cs (index_of x.start)).found + 1; outside = (count_at cs (index_of x.start)).outside }) (λ (c : Count). c.outside) 0 i j lt (let z : (count_at cs (index_of x.start)).outside ≡ (count_at cs (index_of x.start)).outside + 0 = omega arith in z) ∙ ap (λ n. (count_at cs (index_of b.start)).outside + n) (cond_none (b.id == x.id));
    long = length-set cs (index_of x.start) (record { found = (count_at cs (index_of x.start)).found + 1; outside = (count_at cs (index_of x.start)).outside });
  }

  added_is : (cs : List Count) (x : Block) → In x blocks → index_of x.start < length cs → IsRaised cs (added cs (index_of x.start)) (λ b. 0) (λ b. cond (b.id == x.id) 1 0)
  added_is cs x i lt = record {
    found = λ b j. written cs x b (record { found = (count_at cs (index_of x.start)).found; outside = (count_at cs (index_of x.start)).outside + 1 }) (λ (c : Count). c.found) 0 i j lt (let z : (count_at cs (index_of x.start)).found ≡ (count_at cs (index_of x.start)).found + 0 = omega arith in z) ∙ ap (λ n. (count_at cs (index_of b.start)).found + n) (cond_none (b.id == x.id));
    outside = λ b j. written cs x b (record { found = (count_at cs (index_of x.start)).found; outside = (count_at cs (index_of x.start)).outside + 1 }) (λ (c : Count). c.outside) 1 i j lt refl;
    long = length-set cs (index_of x.start) (record { found = (count_at cs (index_of x.start)).found; outside = (count_at cs (index_of x.start)).outside + 1 });
  }

  -- one change after another
  raised_then : (cs between after : List Count) (m n k l : Block → ℕ) → IsRaised cs between m k → IsRaised between after n l → IsRaised cs after (λ b. m b + n b) (λ b. k b + l b)
  raised_then cs between after m n k l r s = record {
    found = λ b j. let e = r.found b j in let f = s.found b j in omega (arith, e, f);
    outside = λ b j. let e = r.outside b j in let f = s.outside b j in omega (arith, e, f);
    long = s.long ∙ r.long;
  }

  -- what a word adds, as Delta has it
  module _ (ws : List ℕ) (cs : List Count) (old : AreCounted memory blocks ws cs) (a : ℕ) (x : Block) (i : In x blocks) (e : aims memory a x ≡ true) (out : contains a x ≡ false)
      (room : (b : Block) → In b blocks → index_of b.start < length cs) where
    at_most : (q : Bool) → cond q 1 0 ≤ 1
    at_most true = omega arith
    at_most false = omega arith

    -- the counts after it, by what they add
    goes_on : (after : List Count) (more beyond : Block → ℕ) → IsRaised cs after more beyond
        → ((b : Block) → In b blocks → more b ≡ cond (b.id == x.id) 1 0 + cond (passes memory ws a x b) 1 0)
        → ((h b : Block) → In h blocks → In b blocks → h.excess ≡ Some b.start → is_black h ≡ false → beyond h ≡ cond (h.id == x.id && not (has (span_of b) a)) 1 0)
        → ((b : Block) → beyond b ≤ 1) → AreCounted memory blocks (ws ++ a ∷ []) after
    goes_on after more beyond r each passing slow = record {
      found = λ b j. let f = r.found b j in let g = old.found b j in let h = each b j in omega (arith, f, g, h, found_hit memory blocks rise apart ws a x b i j e out);
      outside = λ h b j k is black.
          let f = r.outside h j in let g = old.outside h b j k is black in let m = passing h b j k is black in
          omega (arith, f, g, m, references_hit memory blocks rise apart ws a x h (span_of b) i j e out);
      few = λ b j.
          let f = old.few b j in
          omega (arith, f, found_hit memory blocks rise apart ws a x b i j e out, length-append ws (a ∷ []), at_most (b.id == x.id), at_most (passes memory ws a x b));
      fewer = λ b j. let f = r.outside b j in let g = old.fewer b j in let l = slow b in omega (arith, f, g, l, length-append ws (a ∷ []));
    }

    first : IsRaised cs (raised cs (index_of x.start)) (λ b. cond (b.id == x.id) 1 0) (λ b. 0)
    first = raised_is cs x i (room x i)

    -- nothing is passed on
    alone : ((b : Block) → In b blocks → passes memory ws a x b ≡ false) → ((b : Block) → In b blocks → x.excess ≡ Some b.start → is_black x ≡ false → has (span_of b) a ≡ true) → AreCounted memory blocks (ws ++ a ∷ []) (raised cs (index_of x.start))
    alone none inside = goes_on (raised cs (index_of x.start)) (λ b. cond (b.id == x.id) 1 0) (λ b. 0) first
        (λ b j. let z : cond (b.id == x.id) 1 0 ≡ cond (b.id == x.id) 1 0 + 0 = omega arith in z ∙ ap (λ q. cond (b.id == x.id) 1 0 + cond q 1 0) (sym (none b j)))
        (λ h b j k is black. quiet h b j k is black) (λ b. omega arith)
      where
        quiet : (h b : Block) → In h blocks → In b blocks → h.excess ≡ Some b.start → is_black h ≡ false → ◌≡◌ {A = ℕ} 0 (cond (h.id == x.id && not (has (span_of b) a)) 1 0)
        quiet h b j k is black = elim (h.id == x.id) as (λ q. (h.id == x.id) ≡ q → ◌≡◌ {A = ℕ} 0 (cond (q && not (has (span_of b) a)) 1 0)) [
          | true ↦ λ s.
              let same : h ≡ x = same_block h x j i (eqb-true h.id x.id s) in
              ap (λ q. cond (not q) 1 0) (sym (inside b k (subst (λ (y : Block). y.excess ≡ Some b.start) same is) (subst (λ (y : Block). is_black y ≡ false) same black)))
          | false ↦ λ _. refl
        ] refl

    -- a reference may be passed on to a block
    module _ (b0 : Block) (j0 : In b0 blocks) (to : x.excess ≡ Some b0.start) (colour : is_black x ≡ false) (away : has (span_of b0) a ≡ false) where
      only_to : (b : Block) → In b blocks → passes memory ws a x b ≡ (b.id == b0.id && leb (references_of x) (references memory (span_of x) (span_of b0) ws))
      only_to b j = elim (b.id == b0.id) as (λ q. (b.id == b0.id) ≡ q → passes memory ws a x b ≡ (q && leb (references_of x) (references memory (span_of x) (span_of b0) ws))) [
        | true ↦ λ s.
            let same : b0 ≡ b = same_block b0 b j0 j (sym (eqb-true b.id b0.id s)) in
            subst (λ (y : Block). passes memory ws a x y ≡ leb (references_of x) (references memory (span_of x) (span_of b0) ws)) same
            (ap (λ o. (option_is o b0.start && not (is_black x)) && (not (has (span_of b0) a) && leb (references_of x) (references memory (span_of x) (span_of b0) ws))) to
            ∙ ap (λ q. (q && not (is_black x)) && (not (has (span_of b0) a) && leb (references_of x) (references memory (span_of x) (span_of b0) ws))) (eq-eqb b0.start b0.start refl)
            ∙ ap (λ q. not q && (not (has (span_of b0) a) && leb (references_of x) (references memory (span_of x) (span_of b0) ws))) colour
            ∙ ap (λ q. not q && leb (references_of x) (references memory (span_of x) (span_of b0) ws)) away)
        | false ↦ λ s.
            ap (λ o. (option_is o b.start && not (is_black x)) && (not (has (span_of b) a) && leb (references_of x) (references memory (span_of x) (span_of b) ws))) to
            ∙ ap (λ q. (q && not (is_black x)) && (not (has (span_of b) a) && leb (references_of x) (references memory (span_of x) (span_of b) ws))) (ne_eqb b0.start b.start (λ f. elim_false (sym s ∙ eq-eqb b.id b0.id (ap (λ (y : Block). y.id) (same_start b b0 j j0 (sym f))))))
      ] refl

      beyond_is : (h b : Block) → In h blocks → In b blocks → h.excess ≡ Some b.start → is_black h ≡ false → ◌≡◌ {A = ℕ} (cond (h.id == x.id) 1 0) (cond (h.id == x.id && not (has (span_of b) a)) 1 0)
      beyond_is h b j k is black = elim (h.id == x.id) as (λ q. (h.id == x.id) ≡ q → ◌≡◌ {A = ℕ} (cond q 1 0) (cond (q && not (has (span_of b) a)) 1 0)) [
        | true ↦ λ s.
            let same : h ≡ x = same_block h x j i (eqb-true h.id x.id s) in
            let start : b0.start ≡ b.start = some_same b0.start b.start (sym to ∙ ap (λ (y : Block). y.excess) (sym same) ∙ is) in
            let one : b0 ≡ b = same_start b0 b j0 k start in
            ap (λ q. cond (not q) 1 0) (sym (subst (λ (y : Block). has (span_of y) a ≡ false) one away))
        | false ↦ λ _. refl
      ] refl

      second : IsRaised cs (added (raised cs (index_of x.start)) (index_of x.start)) (λ b. cond (b.id == x.id) 1 0 + 0) (λ b. 0 + cond (b.id == x.id) 1 0)
      second = raised_then cs (raised cs (index_of x.start)) (added (raised cs (index_of x.start)) (index_of x.start)) (λ b. cond (b.id == x.id) 1 0) (λ b. 0) (λ b. 0) (λ b. cond (b.id == x.id) 1 0)
          first (added_is (raised cs (index_of x.start)) x i (subst (λ n. index_of x.start < n) (sym first.long) (room x i)))

      -- as many may be passed on as refer to the head
      so_many : (count_at (added (raised cs (index_of x.start)) (index_of x.start)) (index_of x.start)).outside ≡ references memory (span_of x) (span_of b0) ws + 1
      so_many =
          let f = second.outside x i in let g = old.outside x b0 i j0 to colour in
          let one : ◌≡◌ {A = ℕ} (cond (x.id == x.id) 1 0) 1 = ap (λ q. cond q 1 0) (eq-eqb x.id x.id refl) in
          omega (arith, f, g, one)

      -- as many as the head needs are its own, and each further one is passed on
      passed : (min : ℕ) → references_of x ≡ min → AreCounted memory blocks (ws ++ a ∷ [])
          (if ltb min (count_at (added (raised cs (index_of x.start)) (index_of x.start)) (index_of x.start)).outside then raised (added (raised cs (index_of x.start)) (index_of x.start)) (index_of b0.start) else added (raised cs (index_of x.start)) (index_of x.start))
      passed min needed =
          elim (ltb min (count_at (added (raised cs (index_of x.start)) (index_of x.start)) (index_of x.start)).outside) as (λ q. ltb min (count_at (added (raised cs (index_of x.start)) (index_of x.start)) (index_of x.start)).outside ≡ q
          → AreCounted memory blocks (ws ++ a ∷ []) (if q then raised (added (raised cs (index_of x.start)) (index_of x.start)) (index_of b0.start) else added (raised cs (index_of x.start)) (index_of x.start))) [
            | true ↦ λ f.
                let lt : min < (count_at (added (raised cs (index_of x.start)) (index_of x.start)) (index_of x.start)).outside = ltb-true min _ f in
                let enough : leb (references_of x) (references memory (span_of x) (span_of b0) ws) ≡ true = le-leb (references_of x) (references memory (span_of x) (span_of b0) ws) (omega (arith, lt, so_many, needed)) in
                goes_on (raised (added (raised cs (index_of x.start)) (index_of x.start)) (index_of b0.start)) (λ b. (cond (b.id == x.id) 1 0 + 0) + cond (b.id == b0.id) 1 0) (λ b. (0 + cond (b.id == x.id) 1 0) + 0)
                (raised_then cs (added (raised cs (index_of x.start)) (index_of x.start)) (raised (added (raised cs (index_of x.start)) (index_of x.start)) (index_of b0.start)) (λ b. cond (b.id == x.id) 1 0 + 0) (λ b. cond (b.id == b0.id) 1 0) (λ b. 0 + cond (b.id == x.id) 1 0) (λ b. 0)
                second (raised_is (added (raised cs (index_of x.start)) (index_of x.start)) b0 j0 (subst (λ n. index_of b0.start < n) (sym second.long) (room b0 j0))))
                (λ b j. (let z : (cond (b.id == x.id) 1 0 + 0) + cond (b.id == b0.id) 1 0 ≡ cond (b.id == x.id) 1 0 + cond (b.id == b0.id) 1 0 = omega arith in z)
                ∙ ap (λ q. cond (b.id == x.id) 1 0 + cond q 1 0) (sym (only_to b j ∙ ap (λ q. b.id == b0.id && q) enough ∙ and_all (b.id == b0.id))))
                (λ h b j k is black. (let z : (0 + cond (h.id == x.id) 1 0) + 0 ≡ cond (h.id == x.id) 1 0 = omega arith in z) ∙ beyond_is h b j k is black)
                (λ b. let l = at_most (b.id == x.id) in omega (arith, l))
            | false ↦ λ f.
                let few : leb (references_of x) (references memory (span_of x) (span_of b0) ws) ≡ false = lt-leb (references_of x) (references memory (span_of x) (span_of b0) ws) (too_few _ f so_many needed) in
                goes_on (added (raised cs (index_of x.start)) (index_of x.start)) (λ b. cond (b.id == x.id) 1 0 + 0) (λ b. 0 + cond (b.id == x.id) 1 0) second
                (λ b j. ap (λ q. cond (b.id == x.id) 1 0 + cond q 1 0) (sym (only_to b j ∙ ap (λ q. b.id == b0.id && q) few ∙ and_none (b.id == b0.id))))
                (λ h b j k is black. (let z : 0 + cond (h.id == x.id) 1 0 ≡ cond (h.id == x.id) 1 0 = omega arith in z) ∙ beyond_is h b j k is black)
                (λ b. let l = at_most (b.id == x.id) in omega (arith, l))
          ] refl
        where
          and_all : (q : Bool) → (q && true) ≡ q
          and_all true = refl
          and_all false = refl

          and_none : (q : Bool) → (q && false) ≡ false
          and_none true = refl
          and_none false = refl

          too_few : (n : ℕ) → ltb min n ≡ false → n ≡ references memory (span_of x) (span_of b0) ws + 1 → references_of x ≡ min → references memory (span_of x) (span_of b0) ws < references_of x
          too_few n h g k = let le : n ≤ min = not_less n h in omega (arith, le, g, k)
            where
              not_less : (k' : ℕ) → ltb min k' ≡ false → k' ≤ min
              not_less k' h' = grind arith

    -- the counts go on standing for the references
    pub counted_hit : AreCounted memory blocks (ws ++ a ∷ []) (counted_in cs a x (excess_block blocks x))
    counted_hit = by_minimum x.minimum refl
      where
        never : (b : Block) (q : Bool) → (option_is x.excess b.start && not (is_black x)) ≡ false → passes memory ws a x b ≡ false
        never b q f = ap (λ r. r && (not (has (span_of b) a) && leb (references_of x) (references memory (span_of x) (span_of b) ws))) f

        black_never : is_black x ≡ true → (b : Block) → (option_is x.excess b.start && not (is_black x)) ≡ false
        black_never f b = ap (λ q. option_is x.excess b.start && not q) f ∙ none (option_is x.excess b.start)
          where
            none : (q : Bool) → (q && false) ≡ false
            none true = refl
            none false = refl

        by_block : (min : ℕ) → x.minimum ≡ AtLeast min → (to : ℕ) → x.excess ≡ Some to → (o : Option Block) → block_at blocks to ≡ o
            → AreCounted memory blocks (ws ++ a ∷ []) (elim o as (λ _. List Count) [ None ↦ raised cs (index_of x.start) | Some b ↦ passed_in (raised cs (index_of x.start)) a (index_of x.start) min b ])
        by_block min f to g None h =
            alone (λ b j. never b true (ap (λ o. option_is o b.start && not (is_black x)) g ∙ ap (λ q. q && not (is_black x)) (elsewhere b j)))
            (λ b j is colour. absurd (elim_false (sym (elsewhere b j) ∙ eq-eqb to b.start (some_same to b.start (sym g ∙ is)))))
          where
            missing : (bs : List Block) → find (λ (b : Block). b.start == to) bs ≡ None → (b : Block) → In b bs → (b.start == to) ≡ false
            missing [] k b j = absurd j
            missing (y ∷ bs) k b j = here (missing bs) (y.start == to) refl k j
              where
                here : (find (λ (c : Block). c.start == to) bs ≡ None → (c : Block) → In c bs → (c.start == to) ≡ false) → (q : Bool) → (y.start == to) ≡ q → cond q (Some y) (find (λ (c : Block). c.start == to) bs) ≡ None → In b (y ∷ bs) → (b.start == to) ≡ false
                here more true s r l = absurd (none_some y (sym r))
                here more false s r (inl same) = ap (λ (c : Block). c.start == to) same ∙ s
                here more false s r (inr l) = more r b l

            elsewhere : (b : Block) → In b blocks → (to == b.start) ≡ false
            elsewhere b j = ne_eqb to b.start (λ s. elim_false (sym (missing blocks h b j) ∙ eq-eqb b.start to (sym s)))
        by_block min f to g (Some b0) h =
            elim (has (span_of b0) a) as (λ q. has (span_of b0) a ≡ q → AreCounted memory blocks (ws ++ a ∷ [])
            (if q then raised cs (index_of x.start) else (if ltb min (count_at (added (raised cs (index_of x.start)) (index_of x.start)) (index_of x.start)).outside then raised (added (raised cs (index_of x.start)) (index_of x.start)) (index_of b0.start) else added (raised cs (index_of x.start)) (index_of x.start)))) [
              | true ↦ λ inside. alone (λ b j. within b j inside)
                  (λ b j is colour. subst (λ (y : Block). has (span_of y) a ≡ true) (same_start b0 b at.1 j (start ∙ some_same to b.start (sym g ∙ is))) inside)
              | false ↦ λ away. passed b0 at.1 (g ∙ ap Some (sym start)) (ap (λ (m : Minimum). elim m as (λ _. Bool) [ Black ↦ true | AtLeast _ ↦ false ]) f) away min (ap (λ (m : Minimum). elim m as (λ _. ℕ) [ Black ↦ 0 | AtLeast n ↦ n ]) f)
            ] refl
          where
            at : ((b0.start == to) ≡ true) × In b0 blocks
            at = find_in (λ (b : Block). b.start == to) blocks b0 h

            start : b0.start ≡ to
            start = eqb-true b0.start to at.0

            within : (b : Block) → In b blocks → has (span_of b0) a ≡ true → passes memory ws a x b ≡ false
            within b j inside = elim (to == b.start) as (λ q. (to == b.start) ≡ q → passes memory ws a x b ≡ false) [
              | true ↦ λ s.
                  let one : b0 ≡ b = same_start b0 b at.1 j (start ∙ eqb-true to b.start s) in
                  ap (λ r. (option_is x.excess b.start && not (is_black x)) && (not r && leb (references_of x) (references memory (span_of x) (span_of b) ws))) (subst (λ (y : Block). has (span_of y) a ≡ true) one inside) ∙ none (option_is x.excess b.start && not (is_black x))
              | false ↦ λ s. never b true (ap (λ o. option_is o b.start && not (is_black x)) g ∙ ap (λ q. q && not (is_black x)) s)
            ] refl
              where
                none : (q : Bool) → (q && false) ≡ false
                none true = refl
                none false = refl

        by_excess : (min : ℕ) → x.minimum ≡ AtLeast min → (o : Option ℕ) → x.excess ≡ o
            → AreCounted memory blocks (ws ++ a ∷ []) (elim (elim o as (λ _. Option Block) [ None ↦ None | Some to ↦ block_at blocks to ]) as (λ _. List Count) [ None ↦ raised cs (index_of x.start) | Some b ↦ passed_in (raised cs (index_of x.start)) a (index_of x.start) min b ])
        by_excess min f None g =
            alone (λ b j. never b true (ap (λ o. option_is o b.start && not (is_black x)) g)) (λ b j is colour. absurd (none_some b.start (sym g ∙ is)))
        by_excess min f (Some to) g = by_block min f to g (block_at blocks to) refl

        by_minimum : (m : Minimum) → x.minimum ≡ m
            → AreCounted memory blocks (ws ++ a ∷ []) (elim m as (λ _. List Count) [
              | Black ↦ raised cs (index_of x.start)
              | AtLeast min ↦ elim (excess_block blocks x) as (λ _. List Count) [ None ↦ raised cs (index_of x.start) | Some b ↦ passed_in (raised cs (index_of x.start)) a (index_of x.start) min b ]
            ])
        by_minimum Black f =
            let black : is_black x ≡ true = ap (λ (m : Minimum). elim m as (λ _. Bool) [ Black ↦ true | AtLeast _ ↦ false ]) f in
            alone (λ b j. never b true (black_never black b)) (λ b j is colour. absurd (elim_false (sym colour ∙ black)))
        by_minimum (AtLeast min) f = by_excess min f x.excess refl

-- one more is found at one place at most, and nothing more may be passed on
pub raised_more : (cs : List Count) (p q : ℕ) → p < length cs → (count_at (raised cs p) q).found ≤ (count_at cs q).found + 1
raised_more cs p q lt =
    subst (λ (c : Count). c.found ≤ (count_at cs q).found + 1) (sym (at_place cs p q (record { found = (count_at cs p).found + 1; outside = (count_at cs p).outside }) lt))
    (elim (p == q) as (λ r. (p == q) ≡ r → (if r then record { found = (count_at cs p).found + 1; outside = (count_at cs p).outside } else count_at cs q).found ≤ (count_at cs q).found + 1) [
      | true ↦ λ e. subst (λ n. (count_at cs p).found + 1 ≤ (count_at cs n).found + 1) (eqb-true p q e) (omega arith)
      | false ↦ λ _. omega arith
    ] refl)

pub raised_beyond : (cs : List Count) (p q : ℕ) → p < length cs → (count_at (raised cs p) q).outside ≡ (count_at cs q).outside
raised_beyond cs p q lt =
    ap (λ (c : Count). c.outside) (at_place cs p q (record { found = (count_at cs p).found + 1; outside = (count_at cs p).outside }) lt)
    ∙ (elim (p == q) as (λ r. (p == q) ≡ r → (if r then record { found = (count_at cs p).found + 1; outside = (count_at cs p).outside } else count_at cs q).outside ≡ (count_at cs q).outside) [
      | true ↦ λ e. ap (λ n. (count_at cs n).outside) (eqb-true p q e)
      | false ↦ λ _. refl
    ] refl)

-- a word that refers to none changes nothing
pub counted_none : (memory : List ℕ) (blocks : List Block) (rise : Pairs (λ (b c : Block). b.id < c.id) blocks) (apart : Pairs (λ (b c : Block). AreApart b.start b.size c.start c.size) blocks) (ws : List ℕ) (cs : List Count) (a : ℕ)
    → AreCounted memory blocks ws cs → ((c : Block) → In c blocks → (but : Span) → refers_to (span_of c) but a (word_at memory a) ≡ false) → AreCounted memory blocks (ws ++ a ∷ []) cs
counted_none memory blocks rise apart ws cs a old none = record {
  found = λ b j. old.found b j ∙ sym (found_none memory blocks rise apart ws a b j none);
  outside = λ h e j k is black. old.outside h e j k is black ∙ sym (push_none memory (span_of h) (span_of e) ws a (none h j (span_of e)));
  few = λ b j. let f = old.few b j in omega (arith, f, found_none memory blocks rise apart ws a b j none, length-append ws (a ∷ []));
  fewer = λ b j. let f = old.fewer b j in omega (arith, f, length-append ws (a ∷ []));
}

-- a word whose value refers to a block from outside
pub counted_referred : (memory : List ℕ) (blocks : List Block) (rise : Pairs (λ (b c : Block). b.id < c.id) blocks) (apart : Pairs (λ (b c : Block). AreApart b.start b.size c.start c.size) blocks)
    (aligned : Each (λ (b : Block). IsOfWords b.start b.size) blocks) (some : Each (λ (b : Block). 0 < b.size) blocks) (ws : List ℕ) (cs : List Count) (a value : ℕ) (r : Record)
    → ((b : Block) → In b blocks → index_of b.start < length cs) → value ≡ word_at memory a → (w : IsReferred blocks a value r) → AreCounted memory blocks ws cs
    → (after : List Count) → ((id : ℕ) → after ≡ counted_in cs a (block_of id r) (excess_block blocks (block_of id r))) → AreCounted memory blocks (ws ++ a ∷ []) after
counted_referred memory blocks rise apart aligned some ws cs a value r room is w old after made =
    subst (AreCounted memory blocks (ws ++ a ∷ [])) (sym (made w.id))
    (counted_hit memory blocks rise apart aligned some ws cs old a (block_of w.id r) w.live (subst (λ v. has (span_of (block_of w.id r)) (untagged v) ≡ true) is w.aimed) w.out room)

pub added_long : (cs : List Count) (p : ℕ) → length (added cs p) ≡ length cs
added_long cs p = length-set cs p (record { found = (count_at cs p).found; outside = (count_at cs p).outside + 1 })

raised_length : (cs : List Count) (p : ℕ) → length (raised cs p) ≡ length cs
raised_length cs p = length-set cs p (record { found = (count_at cs p).found + 1; outside = (count_at cs p).outside })

passed_long : (cs : List Count) (a head min : ℕ) (e : Block) → length (passed_in cs a head min e) ≡ length cs
passed_long cs a head min e = elim (has (span_of e) a) as (λ q. length (if q then cs else (if ltb min (count_at (added cs head) head).outside then raised (added cs head) (index_of e.start) else added cs head)) ≡ length cs) [
  | true ↦ refl
  | false ↦ elim (ltb min (count_at (added cs head) head).outside) as (λ q. length (if q then raised (added cs head) (index_of e.start) else added cs head) ≡ length cs) [
    | true ↦ raised_length (added cs head) (index_of e.start) ∙ added_long cs head
    | false ↦ added_long cs head
  ]
]

-- the table stays as long as it was
pub counted_long : (cs : List Count) (a : ℕ) (x : Block) (e : Option Block) → length (counted_in cs a x e) ≡ length cs
counted_long cs a x e = elim x.minimum as (λ m. length (elim m as (λ _. List Count) [
  | Black ↦ raised cs (index_of x.start)
  | AtLeast min ↦ elim e as (λ _. List Count) [ None ↦ raised cs (index_of x.start) | Some b ↦ passed_in (raised cs (index_of x.start)) a (index_of x.start) min b ]
]) ≡ length cs) [
  | Black ↦ raised_length cs (index_of x.start)
  | AtLeast min ↦ elim e as (λ o. length (elim o as (λ _. List Count) [ None ↦ raised cs (index_of x.start) | Some b ↦ passed_in (raised cs (index_of x.start)) a (index_of x.start) min b ]) ≡ length cs) [
    | None ↦ raised_length cs (index_of x.start)
    | Some b ↦ passed_long (raised cs (index_of x.start)) a (index_of x.start) min b ∙ raised_length cs (index_of x.start)
  ]
]
