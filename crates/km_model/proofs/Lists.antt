use Rattle.std.proofs.Common.{◌≡◌, ℕ, suc, ◌==◌, eqb-true, eq-eqb, ◌+◌, ◌<◌, ◌≤◌, Bool, true, false, ◌||◌, cond, List, [], ◌∷◌, ◌++◌, map, filter, find, Some, refl, sym, ap, ◌∙◌, subst, arith, ◌⊎◌, inl, inr}
use Rattle.std.specs.List.{list_any}
use Rattle.std.proofs.lemmas.Bool.{false_from_ne_true, cases_Bool, or_parts, or_from}
pub use Rattle.km_model.specs.Members.{Each, Pairs, In}
use Rattle.km_model.specs.Blocks.{is_among}

-- lists of any things

pub each_weaker : {X : Type 0} (P Q : X → Type 0) → ((x : X) → P x → Q x) → (xs : List X) → Each P xs → Each Q xs
each_weaker P Q f [] e = tt
each_weaker P Q f (x ∷ xs) e = (f x e.0, each_weaker P Q f xs e.1)

-- two facts give a third
pub each_both : {X : Type 0} (P Q R : X → Type 0) → ((x : X) → P x → Q x → R x) → (xs : List X) → Each P xs → Each Q xs → Each R xs
each_both P Q R f [] d e = tt
each_both P Q R f (x ∷ xs) d e = (f x d.0 e.0, each_both P Q R f xs d.1 e.1)

pub each_all : {X : Type 0} (P : X → Type 0) → ((x : X) → P x) → (xs : List X) → Each P xs
each_all P f [] = tt
each_all P f (x ∷ xs) = (f x, each_all P f xs)

pub each_push : {X : Type 0} (P : X → Type 0) (xs : List X) (y : X) → Each P xs → P y → Each P (xs ++ y ∷ [])
each_push P [] y e p = (p, tt)
each_push P (x ∷ xs) y e p = (e.0, each_push P xs y e.1 p)

pub each_filter : {X : Type 0} (P : X → Type 0) (test : X → Bool) (xs : List X) → Each P xs → Each P (filter test xs)
each_filter P test [] e = tt
each_filter P test (x ∷ xs) e =
    elim (test x) as (λ q. Each P (cond q (x ∷ filter test xs) (filter test xs))) [
      | true ↦ (e.0, each_filter P test xs e.1)
      | false ↦ each_filter P test xs e.1
    ]

-- a filter keeps what passes
pub filter_each : {X : Type 0} (test : X → Bool) (xs : List X) → Each (λ x. test x ≡ true) (filter test xs)
filter_each test [] = tt
filter_each test (x ∷ xs) =
    let P = λ (q : Bool). test x ≡ q → Each (λ x. test x ≡ true) (cond q (x ∷ filter test xs) (filter test xs)) in
    elim (test x) as P [
      | true ↦ λ p. (p, filter_each test xs)
      | false ↦ λ p. filter_each test xs
    ] refl

pub each_map : {X Y : Type 0} (P : X → Type 0) (Q : Y → Type 0) (f : X → Y) → ((x : X) → P x → Q (f x)) → (xs : List X) → Each P xs → Each Q (map f xs)
each_map P Q f g [] e = tt
each_map P Q f g (x ∷ xs) e = (g x e.0, each_map P Q f g xs e.1)

-- what is found is a member that passes
pub find_each : {X : Type 0} (P : X → Type 0) (test : X → Bool) (xs : List X) (x : X) → find test xs ≡ Some x → Each P xs → (test x ≡ true) × P x
find_each P test [] x h e = cc
find_each P test (y ∷ ys) x h e =
    let Q = λ (q : Bool). test y ≡ q → cond q (Some y) (find test ys) ≡ Some x → (test x ≡ true) × P x in
    elim (test y) as Q [
      | true ↦ λ p s. let same : y ≡ x = cc in (subst (λ z. test z ≡ true) same p, subst P same e.0)
      | false ↦ λ p s. find_each P test ys x s e.1
    ] refl h

pub pairs_push : {X : Type 0} (R : X → X → Type 0) (xs : List X) (y : X) → Pairs R xs → Each (λ x. R x y) xs → Pairs R (xs ++ y ∷ [])
pairs_push R [] y p e = (tt, tt)
pairs_push R (x ∷ xs) y p e = (each_push (R x) xs y p.0 e.0, pairs_push R xs y p.1 e.1)

pub pairs_filter : {X : Type 0} (R : X → X → Type 0) (test : X → Bool) (xs : List X) → Pairs R xs → Pairs R (filter test xs)
pairs_filter R test [] p = tt
pairs_filter R test (x ∷ xs) p =
    elim (test x) as (λ q. Pairs R (cond q (x ∷ filter test xs) (filter test xs))) [
      | true ↦ (each_filter (R x) test xs p.0, pairs_filter R test xs p.1)
      | false ↦ pairs_filter R test xs p.1
    ]

pub pairs_map : {X Y : Type 0} (R : X → X → Type 0) (S : Y → Y → Type 0) (f : X → Y) → ((x y : X) → R x y → S (f x) (f y)) → (xs : List X) → Pairs R xs → Pairs S (map f xs)
pairs_map R S f g [] p = tt
pairs_map R S f g (x ∷ xs) p = (each_map (R x) (S (f x)) f (g x) xs p.0, pairs_map R S f g xs p.1)

pub each_in : {X : Type 0} (P : X → Type 0) (xs : List X) (x : X) → Each P xs → In x xs → P x
each_in P [] x e i = absurd i
each_in P (y ∷ ys) x e (inl same) = subst P (sym same) e.0
each_in P (y ∷ ys) x e (inr i) = each_in P ys x e.1 i

-- what holds of what is in the list
pub in_each : {X : Type 0} (P : X → Type 0) (xs : List X) → ((x : X) → In x xs → P x) → Each P xs
in_each P [] f = tt
in_each P (x ∷ xs) f = (f x (inl refl), in_each P xs (λ y i. f y (inr i)))

pub find_in : {X : Type 0} (test : X → Bool) (xs : List X) (x : X) → find test xs ≡ Some x → (test x ≡ true) × In x xs
find_in test xs x h = find_each (λ y. In y xs) test xs x h (in_each (λ y. In y xs) xs (λ y i. i))

pub filter_in : {X : Type 0} (test : X → Bool) (xs : List X) (x : X) → In x (filter test xs) → (test x ≡ true) × In x xs
filter_in test xs x i = (
  each_in (λ y. test y ≡ true) (filter test xs) x (filter_each test xs) i,
  each_in (λ y. In y xs) (filter test xs) x (each_filter (λ y. In y xs) test xs (in_each (λ y. In y xs) xs (λ y j. j))) i,
)

pub in_push_cases : {X : Type 0} (xs : List X) (x y : X) → In x (xs ++ y ∷ []) → In x xs ⊎ (x ≡ y)
in_push_cases [] x y (inl same) = inr same
in_push_cases [] x y (inr i) = absurd i
in_push_cases (z ∷ zs) x y (inl same) = inl (inl same)
in_push_cases (z ∷ zs) x y (inr i) = elim (in_push_cases zs x y i) [ inl j ↦ inl (inr j) | inr same ↦ inr same ]

pub in_push_left : {X : Type 0} (xs : List X) (x y : X) → In x xs → In x (xs ++ y ∷ [])
in_push_left [] x y i = absurd i
in_push_left (z ∷ zs) x y (inl same) = inl same
in_push_left (z ∷ zs) x y (inr i) = inr (in_push_left zs x y i)

pub in_push_right : {X : Type 0} (xs : List X) (y : X) → In y (xs ++ y ∷ [])
in_push_right [] y = inl refl
in_push_right (z ∷ zs) y = inr (in_push_right zs y)

pub in_map : {X Y : Type 0} (f : X → Y) (xs : List X) (y : Y) → In y (map f xs) → (x : X) × In x xs × (y ≡ f x)
in_map f [] y i = absurd i
in_map f (z ∷ zs) y (inl same) = (z, inl refl, same)
in_map f (z ∷ zs) y (inr i) = let r = in_map f zs y i in (r.0, inr r.1, r.2)

pub map_in : {X Y : Type 0} (f : X → Y) (xs : List X) (x : X) → In x xs → In (f x) (map f xs)
map_in f [] x i = absurd i
map_in f (y ∷ ys) x (inl same) = inl (ap f same)
map_in f (y ∷ ys) x (inr i) = inr (map_in f ys x i)

-- the keys of the members rise from a number on, and are below another
abbrev pub Rising : {X : Type 0} → (X → ℕ) → ℕ → List X → ℕ → Type 0
Rising key low [] high = low ≤ high
Rising key low (x ∷ xs) high = (low ≤ key x) × Rising key (suc (key x)) xs high

pub rising_lower : {X : Type 0} (key : X → ℕ) (xs : List X) (low low' high : ℕ) → low' ≤ low → Rising key low xs high → Rising key low' xs high
rising_lower key [] low low' high le r = omega (arith, le, r)
rising_lower key (x ∷ xs) low low' high le r = (omega (arith, le, r.0), r.1)

pub rising_push : {X : Type 0} (key : X → ℕ) (xs : List X) (low high : ℕ) (x : X) → key x ≡ high → Rising key low xs high → Rising key low (xs ++ x ∷ []) (high + 1)
rising_push key [] low high x e r = (omega (arith, e, r), omega (arith, e))
rising_push key (y ∷ ys) low high x e r = (r.0, rising_push key ys (suc (key y)) high x e r.1)

pub rising_map : {X : Type 0} (key : X → ℕ) (f : X → X) → ((x : X) → key (f x) ≡ key x) → (xs : List X) (low high : ℕ) → Rising key low xs high → Rising key low (map f xs) high
rising_map key f same [] low high r = r
rising_map key f same (x ∷ xs) low high r =
    (subst (λ n. low ≤ n) (sym (same x)) r.0, subst (λ n. Rising key (suc n) (map f xs) high) (sym (same x)) (rising_map key f same xs (suc (key x)) high r.1))

pub rising_filter : {X : Type 0} (key : X → ℕ) (p : X → Bool) (xs : List X) (low high : ℕ) → Rising key low xs high → Rising key low (filter p xs) high
rising_filter key p [] low high r = r
rising_filter key p (x ∷ xs) low high r =
    elim (p x) as (λ q. Rising key low (cond q (x ∷ filter p xs) (filter p xs)) high) [
      | true ↦ (r.0, rising_filter key p xs (suc (key x)) high r.1)
      | false ↦ rising_lower key (filter p xs) (suc (key x)) low high (omega (arith, r.0)) (rising_filter key p xs (suc (key x)) high r.1)
    ]

pub rising_ends : {X : Type 0} (key : X → ℕ) (xs : List X) (low high : ℕ) → Rising key low xs high → low ≤ high
rising_ends key [] low high r = r
rising_ends key (x ∷ xs) low high r = omega (arith, r.0, rising_ends key xs (suc (key x)) high r.1)

pub rising_in : {X : Type 0} (key : X → ℕ) (xs : List X) (low high : ℕ) (x : X) → Rising key low xs high → In x xs → (low ≤ key x) × (key x < high)
rising_in key [] low high x r i = absurd i
rising_in key (y ∷ ys) low high x r (inl same) =
    let k : key x ≡ key y = ap key same in (omega (arith, r.0, k), omega (arith, k, rising_ends key ys (suc (key y)) high r.1))
rising_in key (y ∷ ys) low high x r (inr i) =
    let t = rising_in key ys (suc (key y)) high x r.1 i in (omega (arith, r.0, t.0), t.1)

-- members with one key are the same
pub rising_unique : {X : Type 0} (key : X → ℕ) (xs : List X) (low high : ℕ) (x y : X) → Rising key low xs high → In x xs → In y xs → key x ≡ key y → x ≡ y
rising_unique key [] low high x y r i j e = absurd i
rising_unique key (z ∷ zs) low high x y r (inl a) (inl b) e = a ∙ sym b
rising_unique key (z ∷ zs) low high x y r (inl a) (inr j) e =
    absurd (omega (arith, e, ap key a, (rising_in key zs (suc (key z)) high y r.1 j).0))
rising_unique key (z ∷ zs) low high x y r (inr i) (inl b) e =
    absurd (omega (arith, e, ap key b, (rising_in key zs (suc (key z)) high x r.1 i).0))
rising_unique key (z ∷ zs) low high x y r (inr i) (inr j) e = rising_unique key zs (suc (key z)) high x y r.1 i j e

-- two members are one, or stand in the list one behind the other
pub pairs_in : {X : Type 0} (R : X → X → Type 0) (xs : List X) (x y : X) → Pairs R xs → In x xs → In y xs → (x ≡ y) ⊎ (R x y ⊎ R y x)
pairs_in R [] x y p i j = absurd i
pairs_in R (z ∷ zs) x y p (inl a) (inl b) = inl (a ∙ sym b)
pairs_in R (z ∷ zs) x y p (inl a) (inr j) = inr (inl (subst (λ w. R w y) (sym a) (each_in (R z) zs y p.0 j)))
pairs_in R (z ∷ zs) x y p (inr i) (inl b) = inr (inr (subst (λ w. R w x) (sym b) (each_in (R z) zs x p.0 i)))
pairs_in R (z ∷ zs) x y p (inr i) (inr j) = pairs_in R zs x y p.1 i j

pub in_filter : {X : Type 0} (test : X → Bool) (xs : List X) (x : X) → In x xs → test x ≡ true → In x (filter test xs)
in_filter test [] x i e = absurd i
in_filter test (y ∷ ys) x (inl same) e =
    let P = λ (q : Bool). test y ≡ q → In x (cond q (y ∷ filter test ys) (filter test ys)) in
    elim (test y) as P [
      | true ↦ λ f. inl same
      | false ↦ λ f. absurd (let g : test y ≡ true = subst (λ z. test z ≡ true) same e in let h : false ≡ true = sym f ∙ g in cc)
    ] refl
in_filter test (y ∷ ys) x (inr i) e =
    elim (test y) as (λ q. In x (cond q (y ∷ filter test ys) (filter test ys))) [
      | true ↦ inr (in_filter test ys x i e)
      | false ↦ in_filter test ys x i e
    ]

pub any_in : {X : Type 0} (test : X → Bool) (xs : List X) → list_any test xs ≡ true → (x : X) × In x xs × (test x ≡ true)
any_in test [] h = absurd cc
any_in test (y ∷ ys) h =
    elim (cases_Bool (test y)) [
      | inl e ↦ (y, inl refl, e)
      | inr f ↦ let rest = any_in test ys (subst (λ q. (q || list_any test ys) ≡ true) f h) in (rest.0, inr rest.1, rest.2)
    ]

pub none_in : {X : Type 0} (test : X → Bool) (xs : List X) (x : X) → list_any test xs ≡ false → In x xs → test x ≡ false
none_in test [] x h i = absurd i
none_in test (y ∷ ys) x h (inl same) = subst (λ z. test z ≡ false) (sym same) (or_parts (test y) (list_any test ys) h).0
none_in test (y ∷ ys) x h (inr i) = none_in test ys x (or_parts (test y) (list_any test ys) h).1 i

pub each_none : {X : Type 0} (test : X → Bool) (xs : List X) → ((x : X) → In x xs → test x ≡ false) → list_any test xs ≡ false
each_none test [] f = refl
each_none test (x ∷ xs) f = or_from (test x) (list_any test xs) (f x (inl refl)) (each_none test xs (λ y i. f y (inr i)))

pub in_append_cases : {X : Type 0} (xs ys : List X) (x : X) → In x (xs ++ ys) → In x xs ⊎ In x ys
in_append_cases [] ys x i = inr i
in_append_cases (z ∷ zs) ys x (inl same) = inl (inl same)
in_append_cases (z ∷ zs) ys x (inr i) = elim (in_append_cases zs ys x i) [ inl j ↦ inl (inr j) | inr j ↦ inr j ]

pub in_append_left : {X : Type 0} (xs ys : List X) (x : X) → In x xs → In x (xs ++ ys)
in_append_left [] ys x i = absurd i
in_append_left (z ∷ zs) ys x (inl same) = inl same
in_append_left (z ∷ zs) ys x (inr i) = inr (in_append_left zs ys x i)

pub in_append_right : {X : Type 0} (xs ys : List X) (x : X) → In x ys → In x (xs ++ ys)
in_append_right [] ys x i = i
in_append_right (z ∷ zs) ys x i = inr (in_append_right zs ys x i)

-- a number is among others
pub among_in : (n : ℕ) (ns : List ℕ) → is_among n ns ≡ true → In n ns
among_in n ns h = let k = any_in (λ m. m == n) ns h in subst (λ m. In m ns) (eqb-true k.0 n k.2) k.1

pub in_among : (n : ℕ) (ns : List ℕ) → In n ns → is_among n ns ≡ true
in_among n [] i = absurd i
in_among n (m ∷ ns) (inl same) = rw (eq-eqb m n (sym same)) refl
in_among n (m ∷ ns) (inr i) = elim (m == n) as (λ q. (q || is_among n ns) ≡ true) [ true ↦ refl | false ↦ in_among n ns i ]

pub not_among : (n : ℕ) (ns : List ℕ) → (In n ns → ⊥) → is_among n ns ≡ false
not_among n ns out = false_from_ne_true (is_among n ns) (λ h. out (among_in n ns h))
