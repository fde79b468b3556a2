use Rattle.std.proofs.Common.{◌≡◌, ℕ, Bool, true, false, cond, eqb, List, [], ◌∷◌, ◌++◌, ◌==◌, refl, sym, subst, ◌⊎◌, inl, inr, eqb-true, eq-eqb}
use Rattle.std.proofs.lemmas.Bool.{eqb-false}
use Rattle.km_model.specs.Scan.{behind}
use Rattle.km_laws.proofs.Lists.{In, in_push_cases, in_append_left, in_append_right}

-- no two entries of a queue are the same
abbrev pub Distinct : List ℕ → Type 0
Distinct [] = Unit {0}
Distinct (n ∷ ns) = (In n ns → ⊥) × Distinct ns

-- either the first is the one, or what stands behind it is in the rest
pub behind_cases : (y m z : ℕ) (ms : List ℕ) → In z (behind y (m ∷ ms)) → ((m ≡ y) × In z ms) ⊎ ((m ≡ y → ⊥) × In z (behind y ms))
behind_cases y m z ms i =
    let P = λ (q : Bool). eqb m y ≡ q → In z (cond q ms (behind y ms)) → ((m ≡ y) × In z ms) ⊎ ((m ≡ y → ⊥) × In z (behind y ms)) in
    elim (eqb m y) as P [
      | true ↦ λ e j. inl (eqb-true m y e, j)
      | false ↦ λ e j. inr (eqb-false m y e, j)
    ] refl i

pub in_behind : (y z : ℕ) (ns : List ℕ) → In z (behind y ns) → In z ns
in_behind y z [] i = i
in_behind y z (m ∷ ms) i = elim (behind_cases y m z ms i) [ inl h ↦ inr h.1 | inr h ↦ inr (in_behind y z ms h.1) ]

-- what stands behind a later member stands behind an earlier one
pub behind_later : (x y z : ℕ) (ns : List ℕ) → Distinct ns → In y (behind x ns) → In z (behind y ns) → In z (behind x ns)
behind_later x y z [] d i j = absurd i
behind_later x y z (m ∷ ms) d i j =
    let P = λ (q : Bool). eqb m x ≡ q → In y (cond q ms (behind x ms)) → In z (cond q ms (behind x ms)) in
    elim (eqb m x) as P [
      | true ↦ λ e k. elim (behind_cases y m z ms j) [ inl h ↦ h.1 | inr h ↦ in_behind y z ms h.1 ]
      | false ↦ λ e k. elim (behind_cases y m z ms j) [
        | inl h ↦ absurd (d.0 (subst (λ n. In n ms) (sym h.0) (in_behind x y ms k)))
        | inr h ↦ behind_later x y z ms d.1 k h.1
      ]
    ] refl i

pub not_behind : (y : ℕ) (ns : List ℕ) → Distinct ns → In y (behind y ns) → ⊥
not_behind y [] d i = i
not_behind y (m ∷ ms) d i =
    elim (behind_cases y m y ms i) [
      | inl h ↦ d.0 (subst (λ n. In n ms) (sym h.0) h.1)
      | inr h ↦ not_behind y ms d.1 h.1
    ]

pub behind_push : (y z r : ℕ) (ns : List ℕ) → In y ns → In z (behind y (ns ++ r ∷ [])) → In z (behind y ns) ⊎ (z ≡ r)
behind_push y z r [] i j = absurd i
behind_push y z r (m ∷ ms) i j =
    let P = λ (q : Bool). eqb m y ≡ q → In z (cond q (ms ++ r ∷ []) (behind y (ms ++ r ∷ []))) → In z (cond q ms (behind y ms)) ⊎ (z ≡ r) in
    elim (eqb m y) as P [
      | true ↦ λ e k. in_push_cases ms z r k
      | false ↦ λ e k. elim i [
        | inl same ↦ absurd (eqb-false m y e (sym same))
        | inr rest ↦ behind_push y z r ms rest k
      ]
    ] refl j

pub distinct_push : (ns : List ℕ) (r : ℕ) → Distinct ns → (In r ns → ⊥) → Distinct (ns ++ r ∷ [])
distinct_push [] r d f = (λ i. i, tt)
distinct_push (m ∷ ms) r d f =
    ((λ i. elim (in_push_cases ms m r i) [ inl j ↦ d.0 j | inr same ↦ f (inl (sym same)) ]), distinct_push ms r d.1 (λ i. f (inr i)))

-- what is behind x in what is behind h is behind x in the whole
pub behind_behind : (q : List ℕ) (h x id : ℕ) → In id (behind x (behind h q)) → In id (behind x q)
behind_behind [] h x id i = absurd i
behind_behind (y ∷ q) h x id i =
    elim (y == x) as (λ r. In id (cond r q (behind x q))) [
      | true ↦ elim (y == h) as (λ s. In id (behind x (cond s q (behind h q))) → In id q) [
        | true ↦ λ j. in_behind x id q j
        | false ↦ λ j. in_behind h id q (in_behind x id (behind h q) j)
      ] i
      | false ↦ elim (y == h) as (λ s. In id (behind x (cond s q (behind h q))) → In id (behind x q)) [
        | true ↦ λ j. j
        | false ↦ λ j. behind_behind q h x id j
      ] i
    ]

-- a queue grows at its end
pub behind_grows : (q more : List ℕ) (h id : ℕ) → In id (behind h q) → In id (behind h (q ++ more))
behind_grows [] more h id i = absurd i
behind_grows (y ∷ q) more h id i =
    elim (y == h) as (λ r. In id (cond r q (behind h q)) → In id (cond r (q ++ more) (behind h (q ++ more)))) [
      | true ↦ λ j. in_append_left q more id j
      | false ↦ λ j. behind_grows q more h id j
    ] i

pub behind_end : (q more : List ℕ) (h id : ℕ) → In h q → In id more → In id (behind h (q ++ more))
behind_end [] more h id i j = absurd i
behind_end (y ∷ q) more h id i j =
    elim (y == h) as (λ r. y == h ≡ r → In id (cond r (q ++ more) (behind h (q ++ more)))) [
      | true ↦ λ _. in_append_right q more id j
      | false ↦ λ e. elim i [ inl same ↦ absurd (let f : (y == h) ≡ true = eq-eqb y h (sym same) in cc) | inr k ↦ behind_end q more h id k j ]
    ] refl
