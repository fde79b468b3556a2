use Rattle.std.proofs.Common.{◌≡◌, ℕ, ◌+◌, ◌≤◌, Bool, true, false, cond, List, [], ◌∷◌, map, filter, refl, sym, ap, ◌∙◌, subst, arith, inl, inr}
use Rattle.std.specs.Prelude.{count_by, sum_by}
use Rattle.std.proofs.lemmas.List.Sums.{sum_by-cons}
use Rattle.km_laws.specs.Left.{total}
pub use Rattle.km_model.proofs.Lists.{Each, Pairs, In, each_weaker, each_both, each_all, each_push, each_filter, filter_each, each_map, find_each, pairs_push, pairs_filter, pairs_map, each_in, in_each, find_in, filter_in, in_push_cases, in_push_left, in_push_right, in_map, map_in, Rising, rising_lower, rising_push, rising_map, rising_filter, rising_ends, rising_in, rising_unique, pairs_in, in_filter, any_in, none_in, each_none, in_append_cases, in_append_left, in_append_right}

pub total_filter : {X : Type 0} (f : X → ℕ) (test : X → Bool) (xs : List X) → total f (filter test xs) ≤ total f xs
total_filter f test [] = omega arith
total_filter f test (x ∷ xs) =
    let rest = total_filter f test xs in
    elim (test x) as (λ q. total f (cond q (x ∷ filter test xs) (filter test xs)) ≤ f x + total f xs) [
      | true ↦ omega (arith, rest)
      | false ↦ omega (arith, rest)
    ]

pub total_map : {X : Type 0} (f : X → ℕ) (g : X → X) → ((x : X) → f (g x) ≡ f x) → (xs : List X) → total f (map g xs) ≡ total f xs
total_map f g same [] = refl
total_map f g same (x ∷ xs) = omega (arith, same x, total_map f g same xs)

pub total_le : {X : Type 0} (f g : X → ℕ) → ((x : X) → f x ≤ g x) → (xs : List X) → total f xs ≤ total g xs
total_le f g le [] = omega arith
total_le f g le (x ∷ xs) = omega (arith, le x, total_le f g le xs)

-- if the number of a member falls by so much, and that of no other rises, the sum falls by it
pub total_falls : {X : Type 0} (f g : X → ℕ) → ((x : X) → f x ≤ g x) → (d : ℕ) (xs : List X) (x : X) → In x xs → f x + d ≤ g x → total f xs + d ≤ total g xs
total_falls f g le d [] x i lt = absurd i
total_falls f g le d (y ∷ ys) x (inl same) lt = let less : f y + d ≤ g y = subst (λ z. f z + d ≤ g z) same lt in omega (arith, less, total_le f g le ys)
total_falls f g le d (y ∷ ys) x (inr i) lt = omega (arith, le y, total_falls f g le d ys x i lt)

-- a sum of larger terms is larger, where they are so for the members
pub total_le_in : {X : Type 0} (f g : X → ℕ) (xs : List X) → ((x : X) → In x xs → f x ≤ g x) → total f xs ≤ total g xs
total_le_in f g [] le = omega arith
total_le_in f g (x ∷ xs) le = omega (arith, le x (inl refl), total_le_in f g xs (λ y i. le y (inr i)))

-- and where one member's falls, the sum falls
pub total_falls_in : {X : Type 0} (f g : X → ℕ) (d : ℕ) (xs : List X) → ((x : X) → In x xs → f x ≤ g x) → (x : X) → In x xs → f x + d ≤ g x → total f xs + d ≤ total g xs
total_falls_in f g d [] le x i lt = absurd i
total_falls_in f g d (y ∷ ys) le x (inl same) lt =
    let less : f y + d ≤ g y = subst (λ z. f z + d ≤ g z) same lt in omega (arith, less, total_le_in f g ys (λ z i. le z (inr i)))
total_falls_in f g d (y ∷ ys) le x (inr i) lt = omega (arith, le y (inl refl), total_falls_in f g d ys (λ z j. le z (inr j)) x i lt)

pub total_map_le : {X : Type 0} (f : X → ℕ) (g : X → X) → ((x : X) → f (g x) ≤ f x) → (xs : List X) → total f (map g xs) ≤ total f xs
total_map_le f g le [] = omega arith
total_map_le f g le (x ∷ xs) = omega (arith, le x, total_map_le f g le xs)

-- a count that goes by the list's form
abbrev pub count : {X : Type 0} → (X → Bool) → List X → ℕ
count p [] = 0
count p (x ∷ xs) = cond (p x) 1 0 + count p xs

pub count_by-count : {X : Type 0} (p : X → Bool) (xs : List X) → count_by p xs ≡ count p xs
count_by-count p [] = refl
count_by-count p (x ∷ xs) = sum_by-cons (λ y. cond (p y) 1 0) x xs ∙ ap (λ n. cond (p x) 1 0 + n) (count_by-count p xs)

pub sum_by-total : {X : Type 0} (f : X → ℕ) (xs : List X) → sum_by f xs ≡ total f xs
sum_by-total f [] = refl
sum_by-total f (x ∷ xs) = sum_by-cons f x xs ∙ ap (λ n. f x + n) (sum_by-total f xs)

-- where each term grows by a count at most, so does the total
pub total_grows : {X : Type 0} (f g : X → ℕ) (q : X → Bool) (xs : List X)
    → ((x : X) → In x xs → f x ≤ g x + cond (q x) 1 0) → total f xs ≤ total g xs + count q xs
total_grows f g q [] each = omega arith
total_grows f g q (x ∷ xs) each =
    let here : f x ≤ g x + cond (q x) 1 0 = each x (inl refl) in
    let rest : total f xs ≤ total g xs + count q xs = total_grows f g q xs (λ y i. each y (inr i)) in
    omega (arith, here, rest)

pub count_none : {X : Type 0} (q : X → Bool) (xs : List X) → ((x : X) → In x xs → q x ≡ true → ⊥) → count q xs ≡ 0
count_none q [] none = refl
count_none q (x ∷ xs) none =
    let rest : count q xs ≡ 0 = count_none q xs (λ y i. none y (inr i)) in
    elim (q x) as (λ r. q x ≡ r → cond r 1 0 + count q xs ≡ 0) [ true ↦ λ e. absurd (none x (inl refl) e) | false ↦ λ _. omega (arith, rest) ] refl

pub count_le : {X : Type 0} (p q : X → Bool) (xs : List X) → ((x : X) → In x xs → p x ≡ true → q x ≡ true) → count p xs ≤ count q xs
count_le p q [] each = omega arith
count_le p q (x ∷ xs) each =
    let rest : count p xs ≤ count q xs = count_le p q xs (λ y i. each y (inr i)) in
    elim (p x) as (λ r. p x ≡ r → cond r 1 0 + count p xs ≤ cond (q x) 1 0 + count q xs) [
      | true ↦ λ e. rw (each x (inl refl) e) (omega (arith, rest))
      | false ↦ λ _. omega (arith, rest)
    ] refl

pub count_filter : {X : Type 0} (p q : X → Bool) (xs : List X) → count p (filter q xs) ≤ count p xs
count_filter p q [] = omega arith
count_filter p q (x ∷ xs) =
    let rest : count p (filter q xs) ≤ count p xs = count_filter p q xs in
    elim (q x) as (λ r. count p (cond r (x ∷ filter q xs) (filter q xs)) ≤ cond (p x) 1 0 + count p xs) [
      | true ↦ omega (arith, rest)
      | false ↦ omega (arith, rest)
    ]

pub count_more : {X : Type 0} (p q : X → Bool) (xs : List X) (x : X) → ((y : X) → In y xs → q y ≡ true → p y ≡ true) → In x xs → p x ≡ true → q x ≡ false → count q xs + 1 ≤ count p xs
count_more p q [] x each i e f = absurd i
count_more p q (y ∷ ys) x each (inl same) e f =
    let here : p y ≡ true = ap p (sym same) ∙ e in
    let there : q y ≡ false = ap q (sym same) ∙ f in
    let rest : count q ys ≤ count p ys = count_le q p ys (λ z i. each z (inr i)) in
    rw (here, there) (omega (arith, rest))
count_more p q (y ∷ ys) x each (inr i) e f =
    let rest : count q ys + 1 ≤ count p ys = count_more p q ys x (λ z j. each z (inr j)) i e f in
    elim (q y) as (λ r. q y ≡ r → cond r 1 0 + count q ys + 1 ≤ cond (p y) 1 0 + count p ys) [
      | true ↦ λ g. rw (each y (inl refl) g) (omega (arith, rest))
      | false ↦ λ _. omega (arith, rest)
    ] refl
