use Rattle.std.proofs.Common.{◌≡◌, ℕ, ◌+◌, ◌*◌, ◌/◌, ◌%◌, ◌-◌, ◌^◌, ◌<◌, ◌≤◌, ◌==◌, false, List, slice_index, ap, ◌∙◌, arith}
use Rattle.std.specs.Int.{bit_at}
use Rattle.std.specs.Int.Bits.{bit_and}
use Rattle.std.proofs.lemmas.Nat.{and-not, and_comm}
use Rattle.std.proofs.lemmas.Nat.Bits.{and_pow}
use Rattle.km_marks.specs.Sets.{has}

-- the word and the bit of a number
word_of : (w j : ℕ) → 64 * w ≤ j → j < 64 * w + 64 → j / 64 ≡ w
word_of w j low high = omega (arith, low, high)

bit_of : (w j : ℕ) → 64 * w ≤ j → j < 64 * w + 64 → j % 64 ≡ j - 64 * w
bit_of w j low high = omega (arith, low, high)

-- a number whose bit isn't set
pub not_set : (words : List ℕ) (w j : ℕ) → 64 * w ≤ j → j < 64 * w + 64 → bit_at (slice_index words w) (j - 64 * w) ≡ 0 → has words j ≡ false
not_set words w j low high h =
    ap (λ b. b == 1) (ap (λ v. bit_at (slice_index words v) (j % 64)) (word_of w j low high) ∙ ap (bit_at (slice_index words w)) (bit_of w j low high) ∙ h)

-- a bit that is set is taken away
pub cleared : (n k : ℕ) → n < 2 ^ 64 → 2 ^ k < 2 ^ 64 → bit_at n k ≡ 1 → bit_and n (2 ^ 64 - 1 - 2 ^ k) + 2 ^ k ≡ n
cleared n k small bit one =
    let a = and-not 64 (2 ^ k) n bit small in let b = and_comm n (2 ^ 64 - 1 - 2 ^ k) in let c = and_comm (2 ^ k) n in
    let d = and_pow n k in let e = ap (λ b. b * 2 ^ k) one in
    omega (arith, a, b, c, d, e)
