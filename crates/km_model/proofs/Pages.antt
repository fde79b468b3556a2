use Rattle.std.proofs.Common.{◌≡◌, ℕ, zero, suc, ◌+◌, ◌-◌, ◌*◌, ◌/◌, ◌<◌, ◌≤◌, Bool, true, false, nat_lt, refl, subst, arith, ltb-true, lt-ltb, add-zero}
use Rattle.std.proofs.lemmas.Bool.{and_parts, and_from}
use Rattle.km_model.specs.Placement.{Allocation, page_start, least_from, touches}

-- a search up to a number that passes finds one that does
pub least_passes : (test : ℕ → Bool) (left n : ℕ) → test (n + left) ≡ true → test (least_from test left n) ≡ true
least_passes test zero n h = subst (λ k. test k ≡ true) (add-zero n) h
least_passes test (suc left) n h =
    let P = λ (q : Bool). test n ≡ q → test (elim q as (λ _. ℕ) [ true ↦ n | false ↦ least_from test left (n + 1) ]) ≡ true in
    elim (test n) as P [
      | true ↦ λ e. e
      | false ↦ λ e. least_passes test left (n + 1) (let same : n + suc left ≡ n + 1 + left = omega arith in subst (λ k. test k ≡ true) same h)
    ] refl

-- the pages behind all allocations
pub behind_end : (e b p : ℕ) → (e + 4095 - b) / 4096 ≤ p → e ≤ b + 4096 * p
behind_end e b p le = omega (arith, le)

pub touched : (p : ℕ) (x : Allocation) → touches p x ≡ true → (x.start < page_start (p + 1)) × (page_start p < x.start + x.size)
touched p x h =
    let parts = and_parts (nat_lt x.start (page_start (p + 1))) (nat_lt (page_start p) (x.start + x.size)) h in
    (ltb-true x.start (page_start (p + 1)) parts.0, ltb-true (page_start p) (x.start + x.size) parts.1)

pub touch : (p : ℕ) (x : Allocation) → x.start < page_start (p + 1) → page_start p < x.start + x.size → touches p x ≡ true
touch p x a b = and_from (nat_lt x.start (page_start (p + 1))) (nat_lt (page_start p) (x.start + x.size)) (lt-ltb x.start (page_start (p + 1)) a) (lt-ltb (page_start p) (x.start + x.size) b)
