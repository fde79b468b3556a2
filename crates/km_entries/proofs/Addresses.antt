-- Addresses are read back.
use Rattle.std.proofs.Common.{◌≡◌, ℕ, zero, suc, ◌+◌, ◌*◌, ◌/◌, ◌%◌, ◌^◌, ◌<◌, ◌≤◌, ◌==◌, nat_lt, Bool, true, false, List, [], ◌∷◌, ◌++◌, length, Option, Some, None, option_and_then, if◌then◌else◌, codes, refl, ap, sym, ◌∙◌, arith, inl, inr, eqb-true, eq-eqb, append_assoc, length-append, add-one}
use Rattle.std.proofs.lemmas.List.{append-nil}
use Rattle.std.proofs.lemmas.Bool.{cases_Bool, and_parts, and_from, lt-ltb, ltb-true}
use Rattle.std.proofs.Math.Nat.{mul-le-mul_right}
use Rattle.std.proofs.lemmas.Grind.{pow_more}
use Rattle.km_base.specs.Digits.{hex, hex_digit, hex_digits}
use Rattle.km_base.specs.Prefix.{behind_prefix}
use Rattle.km_base.proofs.Prefix.{from_prefix}
use Rattle.km_model.proofs.Cases.{none_some, some_same}
use Rattle.km_entries.specs.Words.{low_digit, low_spelled, plain_address, sixteen_digits}
use Rattle.km_entries.proofs.Splits.{is_solid}

-- a digit is read back
digit_again : (d : ℕ) → d < 16 → low_digit (hex_digit d) ≡ Some d
digit_again d h = elim (cases_Bool (nat_lt d 10)) [ inl low ↦ small (ltb-true d 10 low) low | inr high ↦ large high ]
  where
    small : d < 10 → nat_lt d 10 ≡ true → low_digit (hex_digit d) ≡ Some d
    small l t = grind (arith, l, t)

    large : nat_lt d 10 ≡ false → low_digit (hex_digit d) ≡ Some d
    large t = grind (arith, h, t)

digit_was : (c d : ℕ) → low_digit c ≡ Some d → (hex_digit d ≡ c) × (d < 16)
digit_was c d e = grind (arith, e)

solid_digit : (d : ℕ) → nat_lt 32 (hex_digit d) ≡ true
solid_digit d =
    elim (nat_lt d 10) as (λ b. nat_lt 32 (if b then 48 + d else 87 + d) ≡ true) [
      | true ↦ lt-ltb 32 (48 + d) (omega arith)
      | false ↦ lt-ltb 32 (87 + d) (omega arith)
    ]

solid_push : (ds : List ℕ) (c : ℕ) → is_solid ds ≡ true → nat_lt 32 c ≡ true → is_solid (ds ++ c ∷ []) ≡ true
solid_push [] c s o = and_from (nat_lt 32 c) true o refl
solid_push (d ∷ ds) c s o = let parts = and_parts (nat_lt 32 d) (is_solid ds) s in and_from (nat_lt 32 d) (is_solid (ds ++ c ∷ [])) parts.0 (solid_push ds c parts.1 o)

-- digits, and then more
spelled_both : (n : ℕ) (xs ys : List ℕ) → low_spelled n (xs ++ ys) ≡ option_and_then (λ m. low_spelled m ys) (low_spelled n xs)
spelled_both n [] ys = refl
spelled_both n (c ∷ cs) ys =
    elim (low_digit c) as (λ o. option_and_then (λ d. low_spelled (16 * n + d) (cs ++ ys)) o ≡ option_and_then (λ m. low_spelled m ys) (option_and_then (λ d. low_spelled (16 * n + d) cs) o)) [
      | None ↦ refl
      | Some d ↦ spelled_both (16 * n + d) cs ys
    ]

pub length_digits : (k n : ℕ) → length (hex_digits k n) ≡ k
length_digits zero n = refl
length_digits (suc k) n = let h = length_digits k (n / 16) in omega (arith, length-append (hex_digits k (n / 16)) (hex_digit (n % 16) ∷ []), h)

digits_again : (k n : ℕ) → n < 16 ^ k → low_spelled 0 (hex_digits k n) ≡ Some n
digits_again zero n h = let e : 0 ≡ n = omega (arith, h) in ap Some e
digits_again (suc k) n h =
    let more : 16 ^ (k + 1) ≡ 16 ^ k * 16 = pow_more 16 k in
    let small : n / 16 < 16 ^ k = omega (arith, h, more) in
    let one : low_spelled (n / 16) (hex_digit (n % 16) ∷ []) ≡ Some (16 * (n / 16) + n % 16) = rw (digit_again (n % 16) (omega arith)) refl in
    let is : 16 * (n / 16) + n % 16 ≡ n = omega arith in
    spelled_both 0 (hex_digits k (n / 16)) (hex_digit (n % 16) ∷ [])
    ∙ ap (option_and_then (λ m. low_spelled m (hex_digit (n % 16) ∷ []))) (digits_again k (n / 16) small)
    ∙ one ∙ ap Some is

sixteen_is : (ds : List ℕ) → length ds ≡ 16 → sixteen_digits ds ≡ low_spelled 0 ds
sixteen_is ds l = let t : (length ds == 16) ≡ true = eq-eqb (length ds) 16 l in rw t refl

pub address_again : (n : ℕ) → n < 2 ^ 64 → plain_address (hex n) ≡ Some n
unfolding plain_address
address_again n h =
    let end : 16 ^ 16 ≡ 2 ^ 64 = refl in
    sixteen_is (hex_digits 16 n) (length_digits 16 n) ∙ digits_again 16 n (omega (arith, h, end))

-- digits are those of what they spell, after those of what was spelled before
digits_were : (j s : ℕ) (ds : List ℕ) (n : ℕ) → low_spelled s ds ≡ Some n → hex_digits (j + length ds) n ≡ hex_digits j s ++ ds
digits_were j s [] n e =
    let same : n ≡ s = some_same n s (sym e) in
    let k : j + 0 ≡ j = omega arith in
    ap (λ x. hex_digits x n) k ∙ ap (hex_digits j) same ∙ sym (append-nil (hex_digits j s))
digits_were j s (c ∷ cs) n e = by_digit (λ k. digits_were (j + 1) k cs n) (low_digit c) refl
  where
    by_digit : ((k : ℕ) → low_spelled k cs ≡ Some n → hex_digits (j + 1 + length cs) n ≡ hex_digits (j + 1) k ++ cs) → (o : Option ℕ) → low_digit c ≡ o
        → hex_digits (j + length (c ∷ cs)) n ≡ hex_digits j s ++ (c ∷ cs)
    by_digit on None t = absurd (none_some n (sym (ap (λ o. option_and_then (λ d. low_spelled (16 * s + d) cs) o) t) ∙ e))
    by_digit on (Some d) t =
        let k = digit_was c d t in
        let rest : low_spelled (16 * s + d) cs ≡ Some n = sym (ap (λ o. option_and_then (λ d. low_spelled (16 * s + d) cs) o) t) ∙ e in
        let more : j + length (c ∷ cs) ≡ j + 1 + length cs = omega arith in
        let high : (16 * s + d) / 16 ≡ s = omega (arith, k.1) in
        let low : (16 * s + d) % 16 ≡ d = omega (arith, k.1) in
        let one : hex_digits (j + 1) (16 * s + d) ≡ hex_digits j s ++ c ∷ [] =
        (ap (λ x. hex_digits x (16 * s + d)) (add-one j)
        ∙ ap (λ x. hex_digits j x ++ hex_digit ((16 * s + d) % 16) ∷ []) high
        ∙ ap (λ x. hex_digits j s ++ hex_digit x ∷ []) low
        ∙ ap (λ x. hex_digits j s ++ x ∷ []) k.0) in
        ap (λ x. hex_digits x n) more ∙ on (16 * s + d) rest ∙ ap (λ x. x ++ cs) one ∙ append_assoc (hex_digits j s) (c ∷ []) cs

digits_small : (s : ℕ) (ds : List ℕ) (n : ℕ) → low_spelled s ds ≡ Some n → n < (s + 1) * 16 ^ length ds
digits_small s [] n e = let same : n ≡ s = some_same n s (sym e) in let one : 16 ^ 0 ≡ 1 = refl in omega (arith, same, one, ap (λ x. (s + 1) * x) one)
digits_small s (c ∷ cs) n e = by_digit (λ k. digits_small k cs n) (low_digit c) refl
  where
    by_digit : ((k : ℕ) → low_spelled k cs ≡ Some n → n < (k + 1) * 16 ^ length cs) → (o : Option ℕ) → low_digit c ≡ o → n < (s + 1) * 16 ^ length (c ∷ cs)
    by_digit on None t = absurd (none_some n (sym (ap (λ o. option_and_then (λ d. low_spelled (16 * s + d) cs) o) t) ∙ e))
    by_digit on (Some d) t =
        let k = digit_was c d t in
        let rest : low_spelled (16 * s + d) cs ≡ Some n = sym (ap (λ o. option_and_then (λ d. low_spelled (16 * s + d) cs) o) t) ∙ e in
        let below = on (16 * s + d) rest in
        let le : 16 * s + d + 1 ≤ (s + 1) * 16 = omega (arith, k.1) in
        let step : (16 * s + d + 1) * 16 ^ length cs ≤ (s + 1) * 16 * 16 ^ length cs = mul-le-mul_right (16 ^ length cs) le in
        let power : 16 ^ length (c ∷ cs) ≡ 16 ^ length cs * 16 = (let one : length (c ∷ cs) ≡ length cs + 1 = omega arith in ap (λ x. 16 ^ x) one ∙ pow_more 16 (length cs)) in
        let all : (s + 1) * 16 ^ length (c ∷ cs) ≡ (s + 1) * 16 * 16 ^ length cs = ap (λ x. (s + 1) * x) power ∙ (grind arith) in
        omega (arith, below, step, all)

sixteen_was : (ds : List ℕ) (n : ℕ) → sixteen_digits ds ≡ Some n → (ds ≡ hex_digits 16 n) × (n < 2 ^ 64)
sixteen_was ds n e = by_length (length ds == 16) refl
  where
    by_length : (b : Bool) → (length ds == 16) ≡ b → (ds ≡ hex_digits 16 n) × (n < 2 ^ 64)
    by_length true t =
        let l : length ds ≡ 16 = eqb-true (length ds) 16 t in
        let s : low_spelled 0 ds ≡ Some n = sym (sixteen_is ds l) ∙ e in
        let below = digits_small 0 ds n s in
        let end : 16 ^ 16 ≡ 2 ^ 64 = refl in
        let power : 16 ^ length ds ≡ 16 ^ 16 = ap (λ x. 16 ^ x) l in
        (sym (ap (λ x. hex_digits x n) (let k : 16 ≡ 0 + length ds = omega (arith, l) in k) ∙ digits_were 0 0 ds n s), omega (arith, below, end, power))
    by_length false t = let g : sixteen_digits ds ≡ None = rw t refl in absurd (none_some n (sym g ∙ e))

pub address_was : (w : List ℕ) (n : ℕ) → plain_address w ≡ Some n → (w ≡ hex n) × (n < 2 ^ 64)
unfolding plain_address
address_was w n e = by_prefix (behind_prefix (codes "0x") w) refl
  where
    by_prefix : (o : Option (List ℕ)) → behind_prefix (codes "0x") w ≡ o → (w ≡ hex n) × (n < 2 ^ 64)
    by_prefix None t = absurd (none_some n (sym (ap (option_and_then sixteen_digits) t) ∙ e))
    by_prefix (Some ds) t =
        let k = sixteen_was ds n (sym (ap (option_and_then sixteen_digits) t) ∙ e) in
        (from_prefix (codes "0x") w ds t ∙ ap (λ x. codes "0x" ++ x) k.0, k.1)

-- its digits are no spaces
solid_hex_digits : (k n : ℕ) → is_solid (hex_digits k n) ≡ true
solid_hex_digits zero n = refl
solid_hex_digits (suc k) n = solid_push (hex_digits k (n / 16)) (hex_digit (n % 16)) (solid_hex_digits k (n / 16)) (solid_digit (n % 16))

pub solid_hex : (n : ℕ) → is_solid (hex n) ≡ true
solid_hex n = solid_hex_digits 16 n
