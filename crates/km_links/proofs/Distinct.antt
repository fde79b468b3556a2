use Rattle.std.proofs.Common.{◌≡◌, ◌≢◌, ℕ, ◌<◌, ◌≤◌, true, false, ◌||◌, ◌==◌, eqb, List, [], ◌∷◌, ◌++◌, length, drop, Some, refl, sym, ap, ◌∙◌, subst}
use Rattle.std.specs.List.{list_any, AllByRecursion, IsDistinct as IsDistinctBy}
use Rattle.std.proofs.lemmas.Bool.{eqb-true, eqb-false, eq-eqb, ne_eqb, or_parts, or_from, or_left, or_right, both_ways}
use Rattle.std.proofs.lemmas.List.Folds.{list_any-append}
use Rattle.std.proofs.lemmas.Map.Steps.{length-le_from_distinct_below}
use Rattle.km_links.specs.Chains.{is_in, without, first_of, IsDistinct}

-- lists of slots that are not twice there

pub other : (m n : ℕ) (ns : List ℕ) → is_in m ns ≡ true → is_in n ns ≡ false → m ≢ n
other m n ns a b = λ e. both_ways (is_in n ns) b (subst (λ k. is_in k ns ≡ true) e a)

pub out_parts : (m : ℕ) (xs ys : List ℕ) → is_in m (xs ++ ys) ≡ false → (is_in m xs ≡ false) × (is_in m ys ≡ false)
out_parts m xs ys h = or_parts (is_in m xs) (is_in m ys) (sym (list_any-append (λ k. k == m) xs ys) ∙ h)

pub out_both : (m : ℕ) (xs ys : List ℕ) → is_in m xs ≡ false → is_in m ys ≡ false → is_in m (xs ++ ys) ≡ false
out_both m xs ys a b = list_any-append (λ k. k == m) xs ys ∙ or_from _ _ a b

pub without_none : (n : ℕ) (ns : List ℕ) → is_in n ns ≡ false → without n ns ≡ ns
without_none n [] h = refl
without_none n (m ∷ ns) h = let p = or_parts (m == n) (is_in n ns) h in rw p.0 (ap (λ l. m ∷ l) (without_none n ns p.1))

-- a list that is cut at a slot
pub record Cut (n : ℕ) (ns : List ℕ) : Type 0 where
  pub front : List ℕ
  pub back : List ℕ
  pub is : ns ≡ front ++ n ∷ back
  pub front_out : is_in n front ≡ false
  pub back_out : is_in n back ≡ false
  pub fronts : IsDistinct front
  pub backs : IsDistinct back
  pub apart : (m : ℕ) → is_in m front ≡ true → is_in m back ≡ false
  pub rest : without n ns ≡ front ++ back

pub cut : (n : ℕ) (ns : List ℕ) → IsDistinct ns → is_in n ns ≡ true → Cut n ns
cut n [] d h = absurd (let z : ⊥ = cc in z)
cut n (m ∷ ns) d h =
    elim (m == n) as (λ b. (m == n) ≡ b → (b || is_in n ns) ≡ true → Cut n (m ∷ ns)) [
      | true ↦ λ e _.
          let same = eqb-true m n e in
          let out : is_in n ns ≡ false = subst (λ k. is_in k ns ≡ false) same d.0 in
          record { front = []; back = ns; is = ap (λ k. k ∷ ns) same; front_out = refl; back_out = out; fronts = tt; backs = d.1; apart = λ k i. absurd (let z : ⊥ = cc in z); rest = rw e (without_none n ns out) }
      | false ↦ λ e i.
          let c = cut n ns d.1 i in
          let outs = out_parts m c.front (n ∷ c.back) (subst (λ l. is_in m l ≡ false) c.is d.0) in
          let behind = (or_parts (n == m) (is_in m c.back) outs.1).1 in
          record {
            front = m ∷ c.front;
            back = c.back;
            is = ap (λ l. m ∷ l) c.is;
            front_out = or_from _ _ e c.front_out;
            back_out = c.back_out;
            fronts = (outs.0, c.fronts);
            backs = c.backs;
            apart = λ k j. elim (m == k) as (λ b. (m == k) ≡ b → (b || is_in k c.front) ≡ true → is_in k c.back ≡ false) [
              | true ↦ λ f _. subst (λ x. is_in x c.back ≡ false) (eqb-true m k f) behind
              | false ↦ λ _ g. c.apart k g
            ] refl j;
            rest = rw e (ap (λ l. m ∷ l) c.rest);
          }
    ] refl h

pub distinct_append : (xs ys : List ℕ) → IsDistinct xs → IsDistinct ys → ((m : ℕ) → is_in m xs ≡ true → is_in m ys ≡ false) → IsDistinct (xs ++ ys)
distinct_append [] ys a b h = b
distinct_append (x ∷ xs) ys a b h =
    (out_both x xs ys a.0 (h x (or_left _ _ (eq-eqb x x refl))), distinct_append xs ys a.1 b (λ m i. h m (or_right (x == m) _ i)))

turn : (a b : ℕ) → eqb a b ≡ eqb b a
turn a b = elim (eqb b a) as (λ t. eqb b a ≡ t → eqb a b ≡ t) [ true ↦ λ e. eq-eqb a b (sym (eqb-true b a e)) | false ↦ λ e. ne_eqb a b (λ f. eqb-false b a e (sym f)) ] refl

flip : (ns : List ℕ) (q : ℕ) → is_in q ns ≡ list_any (eqb q) ns
flip [] q = refl
flip (n ∷ ns) q = rw (turn n q, flip ns q) refl

each : (m : ℕ) (ns : List ℕ) → is_in m ns ≡ false → AllByRecursion (λ y. eqb m y ≡ false) ns
each m [] h = tt
each m (n ∷ ns) h = let p = or_parts (n == m) (is_in m ns) h in (turn m n ∙ p.0, each m ns p.1)

all_apart : (ns : List ℕ) → IsDistinct ns → IsDistinctBy eqb ns
unfolding IsDistinctBy
all_apart [] d = tt
all_apart (n ∷ ns) d = (each n ns d.0, all_apart ns d.1)

-- distinct numbers below another are no more than that
pub count_below : (ns : List ℕ) (bound : ℕ) → IsDistinct ns → ((n : ℕ) → is_in n ns ≡ true → n < bound) → length ns ≤ bound
count_below ns bound d h = length-le_from_distinct_below ns bound (all_apart ns d) (λ q i. h q (flip ns q ∙ i))

-- the first slot taken out
pub without_first : (n : ℕ) (ns : List ℕ) → IsDistinct ns → Some n ≡ first_of ns → (is_in n ns ≡ true) × (without n ns ≡ drop 1 ns) × (is_in n (drop 1 ns) ≡ false)
without_first n [] d h = absurd (let z : ⊥ = cc in z)
without_first n (m ∷ ns) d h =
    let same : m ≡ n = cc in
    let out : is_in n ns ≡ false = subst (λ k. is_in k ns ≡ false) same d.0 in
    (or_left _ _ (eq-eqb m n same), rw (eq-eqb m n same) (without_none n ns out), out)
