use Rattle.std.proofs.Common.{◌≡◌, ℕ, zero, suc, ◌+◌, ◌*◌, ◌<◌, ◌≤◌, cond, nat_lt, find, map, Some, None, ◌∙◌, sym, ap, subst, arith, lt-ltb, le-ltb}
use Rattle.km_model.proofs.Cases.{none_some, some_same}
use Rattle.km_model.specs.Memory.{words_from}
use Rattle.km_model.specs.Scan.{sum_step, sum_from}

first_passed : (n s i c : ℕ) → find (nat_lt (s + 8 * i)) (words_from (suc n) s) ≡ Some c → find (nat_lt (s + 8 * i)) (words_from n (s + 8)) ≡ Some c
first_passed n s i c h = subst (λ q. cond q (Some s) (find (nat_lt (s + 8 * i)) (words_from n (s + 8))) ≡ Some c) (le-ltb (s + 8 * i) s (omega arith)) h

first_none : (n s i : ℕ) → find (nat_lt (s + 8 * i)) (words_from (suc n) s) ≡ None → find (nat_lt (s + 8 * i)) (words_from n (s + 8)) ≡ None
first_none n s i h = subst (λ q. cond q (Some s) (find (nat_lt (s + 8 * i)) (words_from n (s + 8))) ≡ None) (le-ltb (s + 8 * i) s (omega arith)) h

-- behind a word of a block comes the next
pub next_word : (n s i c : ℕ) → find (nat_lt (s + 8 * i)) (words_from n s) ≡ Some c → (c ≡ s + 8 * (i + 1)) × (i + 1 < n)
next_word zero s i c h = absurd cc
next_word (suc zero) s zero c h = absurd (let k = first_passed zero s zero c h in cc)
next_word (suc (suc n)) s zero c h =
    let k : find (nat_lt (s + 8 * 0)) (words_from (suc n) (s + 8)) ≡ Some c = first_passed (suc n) s zero c h in
    let same : s + 8 ≡ c = some_same (s + 8) c (subst (λ q. cond q (Some (s + 8)) (find (nat_lt (s + 8 * 0)) (words_from n (s + 8 + 8))) ≡ Some c) (lt-ltb (s + 8 * 0) (s + 8) (omega arith)) k) in
    (omega (arith, same), omega arith)
next_word (suc n) s (suc i) c h =
    let e : s + 8 * suc i ≡ s + 8 + 8 * i = omega arith in
    let k = next_word n (s + 8) i c (subst (λ a. find (nat_lt a) (words_from n (s + 8)) ≡ Some c) e (first_passed n s (suc i) c h)) in
    ((let f = k.0 in omega (arith, f)), (let lt = k.1 in omega (arith, lt)))

-- unless it is the last
pub no_word : (n s i : ℕ) → find (nat_lt (s + 8 * i)) (words_from n s) ≡ None → n ≤ i + 1
no_word zero s i h = omega arith
no_word (suc zero) s zero h = omega arith
no_word (suc (suc n)) s zero h =
    let k : find (nat_lt (s + 8 * 0)) (words_from (suc n) (s + 8)) ≡ None = first_none (suc n) s zero h in
    absurd (none_some (s + 8) (sym (subst (λ q. cond q (Some (s + 8)) (find (nat_lt (s + 8 * 0)) (words_from n (s + 8 + 8))) ≡ None) (lt-ltb (s + 8 * 0) (s + 8) (omega arith)) k)))
no_word (suc n) s (suc i) h =
    let e : s + 8 * suc i ≡ s + 8 + 8 * i = omega arith in
    let k = no_word n (s + 8) i (subst (λ a. find (nat_lt a) (words_from n (s + 8)) ≡ None) e (first_none n s (suc i) h)) in
    omega (arith, k)

-- the sum of one more word
pub sum_more : (value : ℕ → ℕ) (z m s : ℕ) → sum_from z (map value (words_from (suc m) s)) ≡ sum_step (sum_from z (map value (words_from m s))) (value (s + 8 * m))
sum_more value z zero s = ap (λ a. sum_step z (value a)) (let e : s ≡ s + 8 * 0 = omega arith in e)
sum_more value z (suc m) s =
    let e : s + 8 + 8 * m ≡ s + 8 * suc m = omega arith in
    sum_more value (sum_step z (value s)) m (s + 8) ∙ ap (λ a. sum_step (sum_from (sum_step z (value s)) (map value (words_from m (s + 8)))) (value a)) e
