use Rattle.std.proofs.Common.{◌≡◌, ℕ, ◌+◌, ◌≤◌, ◌<◌, true, false, ltb, eqb, List, [], ◌∷◌, ◌++◌, cond, refl, sym, ap, ◌∙◌, arith}
use Rattle.std.proofs.lemmas.Bool.{ltb-true, ltb-false, ne_eqb, eq-eqb, eqb-true, eqb-false}
use Rattle.std.proofs.lemmas.List.{append_assoc}
use Rattle.km_map.specs.declared.entries.Entry.{Entry}
use Rattle.km_map.specs.Entries.{end_of, with_entry, without_start, IsRising}
use Rattle.km_tree.specs.Trees.{Tree, Leaf, Fork, entries_of, height_of, lifted_left, lifted_right, leant_left, leant_right, levelled, hung, lowest, joined, unhung}
use Rattle.km_tree.proofs.Finds.{rising-left, rising-right}
use Rattle.km_tree.proofs.Lists.{with-left, with-right, without-append, without-later, without-earlier}

entries-lifted_left : (l : Tree) (k : ℕ) (e : Entry) (r : Tree) → entries_of (lifted_left l k e r) ≡ entries_of l ++ e ∷ entries_of r
entries-lifted_left Leaf k e r = refl
entries-lifted_left (Fork a j f b) k e r = sym (append_assoc (entries_of a) (f ∷ entries_of b) (e ∷ entries_of r))

entries-lifted_right : (l : Tree) (k : ℕ) (e : Entry) (r : Tree) → entries_of (lifted_right l k e r) ≡ entries_of l ++ e ∷ entries_of r
entries-lifted_right l k e Leaf = refl
entries-lifted_right l k e (Fork a j f b) = append_assoc (entries_of l) (e ∷ entries_of a) (f ∷ entries_of b)

entries-leant_left : (l : Tree) → entries_of (leant_left l) ≡ entries_of l
entries-leant_left Leaf = refl
entries-leant_left (Fork a j f b) =
    elim (ltb (height_of a) (height_of b)) as (λ t. entries_of (cond t (lifted_right a j f b) (Fork a j f b)) ≡ entries_of a ++ f ∷ entries_of b) [ true ↦ entries-lifted_right a j f b | false ↦ refl ]

entries-leant_right : (l : Tree) → entries_of (leant_right l) ≡ entries_of l
entries-leant_right Leaf = refl
entries-leant_right (Fork a j f b) =
    elim (ltb (height_of b) (height_of a)) as (λ t. entries_of (cond t (lifted_left a j f b) (Fork a j f b)) ≡ entries_of a ++ f ∷ entries_of b) [ true ↦ entries-lifted_left a j f b | false ↦ refl ]

pub entries-levelled : (l : Tree) (k : ℕ) (e : Entry) (r : Tree) → entries_of (levelled l k e r) ≡ entries_of l ++ e ∷ entries_of r
entries-levelled l k e r =
    elim (ltb (height_of r + 1) (height_of l)) as (λ t. entries_of (cond t (lifted_left (leant_left l) k e r) (cond (ltb (height_of l + 1) (height_of r)) (lifted_right l k e (leant_right r)) (Fork l k e r))) ≡ entries_of l ++ e ∷ entries_of r) [
      | true ↦ entries-lifted_left (leant_left l) k e r ∙ ap (λ es. es ++ e ∷ entries_of r) (entries-leant_left l)
      | false ↦ elim (ltb (height_of l + 1) (height_of r)) as (λ t. entries_of (cond t (lifted_right l k e (leant_right r)) (Fork l k e r)) ≡ entries_of l ++ e ∷ entries_of r) [
        | true ↦ entries-lifted_right l k e (leant_right r) ∙ ap (λ es. entries_of l ++ e ∷ es) (entries-leant_right r)
        | false ↦ refl
      ]
    ]

-- no entry of a list starts where another does
abbrev pub StartsApart : ℕ → List Entry → Type 0
StartsApart a [] = Unit {0}
StartsApart a (e ∷ es) = (e.span.start.0 ≡ a → ⊥) × StartsApart a es

pub apart-left : (a : ℕ) (l : List Entry) (e : Entry) (r : List Entry) → StartsApart a (l ++ e ∷ r) → StartsApart a l × (e.span.start.0 ≡ a → ⊥) × StartsApart a r
apart-left a [] e r h = (tt, h.0, h.1)
apart-left a (x ∷ l) e r h = let z = apart-left a l e r h.1 in ((h.0, z.0), z.1, z.2)

pub entries-hung : (n : ℕ) (x : Entry) (t : Tree) → IsRising (entries_of t) → StartsApart x.span.start.0 (entries_of t) → entries_of (hung n x t) ≡ with_entry x (entries_of t)
entries-hung n x Leaf p h = refl
entries-hung n x (Fork l k e r) p h =
    let z = apart-left x.span.start.0 (entries_of l) e (entries_of r) h in
    elim (ltb x.span.start.0 e.span.start.0) as (λ b. ltb x.span.start.0 e.span.start.0 ≡ b → entries_of (cond b (levelled (hung n x l) k e r) (levelled l k e (hung n x r))) ≡ with_entry x (entries_of l ++ e ∷ entries_of r)) [
      | true ↦ λ w. entries-levelled (hung n x l) k e r ∙ ap (λ es. es ++ e ∷ entries_of r) (entries-hung n x l (rising-left _ _ p) z.0) ∙ sym (with-left x (entries_of l) e (entries_of r) (ltb-true _ _ w))
      | false ↦ λ w. entries-levelled l k e (hung n x r) ∙ ap (λ es. entries_of l ++ e ∷ es) (entries-hung n x r (rising-right (entries_of l) (e ∷ entries_of r) p).2 z.2) ∙ sym (with-right x (entries_of l) e (entries_of r) p (below e.span.start.0 x.span.start.0 (ltb-false _ _ w) z.1))
    ] refl
  where
    below : (a b : ℕ) → a ≤ b → (a ≡ b → ⊥) → a < b
    below a b h n = elim (ltb a b) as (λ t. ltb a b ≡ t → a < b) [ true ↦ λ w. ltb-true _ _ w | false ↦ λ w. absurd (n (omega (arith, h, ltb-false _ _ w))) ] refl

pub entries-lowest : (l : Tree) (k : ℕ) (e : Entry) (r : Tree) → (lowest l k e r).1 ∷ entries_of (lowest l k e r).2 ≡ entries_of l ++ e ∷ entries_of r
entries-lowest Leaf k e r = refl
entries-lowest (Fork a j f b) k e r =
    ap (λ es. (lowest a j f b).1 ∷ es) (entries-levelled (lowest a j f b).2 k e r) ∙ ap (λ es. es ++ e ∷ entries_of r) (entries-lowest a j f b)

pub entries-joined : (l r : Tree) → entries_of (joined l r) ≡ entries_of l ++ entries_of r
entries-joined l Leaf = sym (append_nil (entries_of l))
  where
    append_nil : (es : List Entry) → es ++ [] ≡ es
    append_nil [] = refl
    append_nil (e ∷ es) = ap (λ xs. e ∷ xs) (append_nil es)
entries-joined l (Fork a j f b) =
    entries-levelled l (lowest a j f b).0 (lowest a j f b).1 (lowest a j f b).2 ∙ ap (λ es. entries_of l ++ es) (entries-lowest a j f b)

pub entries-unhung : (s : ℕ) (t : Tree) → IsRising (entries_of t) → entries_of (unhung s t) ≡ without_start s (entries_of t)
entries-unhung s Leaf p = refl
entries-unhung s (Fork l k e r) p =
    let q = rising-right (entries_of l) (e ∷ entries_of r) p in
    let split = without-append s (entries_of l) (e ∷ entries_of r) in
    elim (eqb s e.span.start.0) as (λ b. eqb s e.span.start.0 ≡ b → entries_of (cond b (joined l r) (cond (ltb s e.span.start.0) (levelled (unhung s l) k e r) (levelled l k e (unhung s r)))) ≡ without_start s (entries_of l ++ e ∷ entries_of r)) [
      | true ↦ λ w. let same : s ≡ e.span.start.0 = eqb-true _ _ w in
          entries-joined l r ∙ sym (split ∙ (rw (without-earlier s (entries_of l) e (entries_of r) p (omega (arith, same)), gone s e same, without-later s (end_of e) (entries_of r) (omega (arith, same, q.0)) q.1) refl))
      | false ↦ λ w. elim (ltb s e.span.start.0) as (λ b. ltb s e.span.start.0 ≡ b → entries_of (cond b (levelled (unhung s l) k e r) (levelled l k e (unhung s r))) ≡ without_start s (entries_of l ++ e ∷ entries_of r)) [
        | true ↦ λ v. let lt = ltb-true _ _ v in
            entries-levelled (unhung s l) k e r ∙ ap (λ es. es ++ e ∷ entries_of r) (entries-unhung s l (rising-left _ _ p)) ∙ sym (split ∙ (rw (ne_eqb e.span.start.0 s (λ h. omega (arith, h, lt)), without-later s (end_of e) (entries_of r) (omega (arith, lt)) q.1) refl))
        | false ↦ λ v. let ge = ltb-false _ _ v in
            entries-levelled l k e (unhung s r) ∙ ap (λ es. entries_of l ++ e ∷ es) (entries-unhung s r q.2) ∙ sym (split ∙ (rw (without-earlier s (entries_of l) e (entries_of r) p ge, other s e w) refl))
      ] refl
    ] refl
  where
    gone : (s : ℕ) (e : Entry) → s ≡ e.span.start.0 → eqb e.span.start.0 s ≡ true
    gone s e h = eq-eqb _ _ (sym h)

    other : (s : ℕ) (e : Entry) → eqb s e.span.start.0 ≡ false → eqb e.span.start.0 s ≡ false
    other s e w = ne_eqb e.span.start.0 s (λ h. eqb-false _ _ w (sym h))
