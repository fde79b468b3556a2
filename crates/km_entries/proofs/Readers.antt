-- Words of one form are read back.
use Rattle.std.proofs.Common.{◌≡◌, ℕ, ◌^◌, ◌<◌, ◌≤◌, ◌==◌, nat_lt, nat_le, Bool, true, false, ◌&&◌, ◌||◌, List, [], ◌∷◌, ◌++◌, length, decimal, Option, Some, None, option_and_then, option_map, bytes_eq, if◌then◌else◌, codes, refl, ap, sym, subst, ◌∙◌, arith, inl, inr, ◌⊎◌, eqb-true, leb-true, le-leb}
use Rattle.std.specs.List.{list_all}
use Rattle.std.specs.Str.{all_ascii_digits}
use Rattle.std.specs.Char.{is_ascii_digit}
use Rattle.std.proofs.lemmas.Slice.Eq.{bytes_eq-Decides}
use Rattle.std.proofs.lemmas.Bool.{and_parts, and_from, lt-ltb}
use Rattle.std.proofs.lemmas.Fmt.{digits_decimal}
use Rattle.km_base.specs.declared.acts.Reg.{Reg}
use Rattle.km_base.specs.declared.acts.Reg.TheVariants.{R0, R1, R2, R3}
use Rattle.km_base.specs.declared.acts.FileCmd.{FileCmd}
use Rattle.km_base.specs.declared.acts.FileCmd.TheVariants.{Off, StackOn, StackOff, ScanOn, ScanOff, ScanEvery, Scan, Clear, Dump, Why}
use Rattle.km_base.specs.Names.{is_letter, is_name, is_name_byte, begins_with_letter, name_of}
use Rattle.km_model.specs.Grammar.{within}
use Rattle.km_base.specs.Prefix.{behind_prefix}
use Rattle.km_base.proofs.Prefix.{from_prefix}
use Rattle.km_model.proofs.Cases.{none_some, some_same}
use Rattle.km_entries.specs.Words.{plain_number}
use Rattle.km_entries.specs.Lines.{CanBeWritten, file_word, reg_number}
use Rattle.km_entries.specs.Reading.{address_word, file_of, maker_of, numbered_by, numbered_word, period_word, reg_at, reg_of}
use Rattle.km_entries.proofs.Splits.{is_solid}
use Rattle.km_entries.proofs.Numbers.{number_again, number_was, own, solid_decimal}

-- a test that was passed or not
pub chosen : {A : Type 0} (b : Bool) (x y : Option A) (r : A) → (if b then x else y) ≡ Some r → ((b ≡ true) × (x ≡ Some r)) ⊎ ((b ≡ false) × (y ≡ Some r))
chosen true x y r e = inl (refl, e)
chosen false x y r e = inr (refl, e)

pub same_bytes : (xs ys : List ℕ) → bytes_eq xs ys ≡ true → xs ≡ ys
same_bytes xs ys e = (bytes_eq-Decides xs ys).0 e

-- names
pub name_again : (n : List ℕ) → is_name n ≡ true → name_of n ≡ Some n
name_again n h = rw h refl

pub name_was : (w n : List ℕ) → name_of w ≡ Some n → (w ≡ n) × (is_name n ≡ true)
name_was w n e =
    elim (chosen (is_name w) (Some w) None n e) [
      | inl yes' ↦ let same : w ≡ n = some_same w n yes'.1 in (same, ap is_name (sym same) ∙ yes'.0)
      | inr none ↦ absurd (none_some n none.1)
    ]

either_true : (a b : Bool) → (a || b) ≡ true → (a ≡ true) ⊎ (b ≡ true)
either_true true b e = inl refl
either_true false b e = inr e

visible : (c : ℕ) → is_name_byte c ≡ true → nat_lt 32 c ≡ true
visible c n =
    elim (either_true (is_letter c || (nat_le 48 c && nat_le c 57)) (c == 95) n) [
      | inl part ↦ elim (either_true (is_letter c) (nat_le 48 c && nat_le c 57) part) [
        | inl letter ↦ let low = leb-true 97 c (and_parts (nat_le 97 c) (nat_le c 122) letter).0 in lt-ltb 32 c (omega (arith, low))
        | inr digit ↦ let low = leb-true 48 c (and_parts (nat_le 48 c) (nat_le c 57) digit).0 in lt-ltb 32 c (omega (arith, low))
      ]
      | inr line ↦ let is = eqb-true c 95 line in lt-ltb 32 c (omega (arith, is))
    ]

solid_bytes : (ds : List ℕ) → list_all is_name_byte ds ≡ true → is_solid ds ≡ true
solid_bytes [] h = refl
solid_bytes (c ∷ cs) h =
    let parts = and_parts (is_name_byte c) (list_all is_name_byte cs) h in
    and_from (nat_lt 32 c) (is_solid cs) (visible c parts.0) (solid_bytes cs parts.1)

pub solid_name : (n : List ℕ) → is_name n ≡ true → is_solid n ≡ true
solid_name n h = solid_bytes n (and_parts (begins_with_letter n && nat_le (length n) 16) (list_all is_name_byte n) h).1

pub short_name : (n : List ℕ) → is_name n ≡ true → length n ≤ 16
short_name n h = leb-true (length n) 16 (and_parts (begins_with_letter n) (nat_le (length n) 16) (and_parts (begins_with_letter n && nat_le (length n) 16) (list_all is_name_byte n) h).0).1

-- registers
small_reg : (r : Reg) → reg_number r < 2 ^ 64
small_reg R0 = omega arith
small_reg R1 = omega arith
small_reg R2 = omega arith
small_reg R3 = omega arith

at_number : (r : Reg) → reg_at (reg_number r) ≡ Some r
at_number R0 = refl
at_number R1 = refl
at_number R2 = refl
at_number R3 = refl

pub reg_again : (r : Reg) → reg_of (decimal (reg_number r)) ≡ Some r
reg_again r = ap (option_and_then reg_at) (number_again (reg_number r) (small_reg r)) ∙ at_number r

pub solid_reg : (r : Reg) → is_solid (decimal (reg_number r)) ≡ true
solid_reg r = solid_decimal (reg_number r) (small_reg r)

reg_at_was : (n : ℕ) (r : Reg) → reg_at n ≡ Some r → n ≡ reg_number r
reg_at_was n r e =
    elim (chosen (n == 0) (Some R0) (if n == 1 then Some R1 else (if n == 2 then Some R2 else (if n == 3 then Some R3 else None))) r e) [
      | inl k ↦ eqb-true n 0 k.0 ∙ ap reg_number (some_same R0 r k.1)
      | inr k0 ↦ elim (chosen (n == 1) (Some R1) (if n == 2 then Some R2 else (if n == 3 then Some R3 else None)) r k0.1) [
        | inl k ↦ eqb-true n 1 k.0 ∙ ap reg_number (some_same R1 r k.1)
        | inr k1 ↦ elim (chosen (n == 2) (Some R2) (if n == 3 then Some R3 else None) r k1.1) [
          | inl k ↦ eqb-true n 2 k.0 ∙ ap reg_number (some_same R2 r k.1)
          | inr k2 ↦ elim (chosen (n == 3) (Some R3) None r k2.1) [
            | inl k ↦ eqb-true n 3 k.0 ∙ ap reg_number (some_same R3 r k.1)
            | inr k3 ↦ absurd (none_some r k3.1)
          ]
        ]
      ]
    ]

pub reg_was : (w : List ℕ) (r : Reg) → reg_of w ≡ Some r → w ≡ decimal (reg_number r)
reg_was w r e = by_number (plain_number w) refl
  where
    by_number : (o : Option ℕ) → plain_number w ≡ o → w ≡ decimal (reg_number r)
    by_number None t = absurd (none_some r (sym (ap (option_and_then reg_at) t) ∙ e))
    by_number (Some n) t = (number_was w n t).0 ∙ ap decimal (reg_at_was n r (sym (ap (option_and_then reg_at) t) ∙ e))

-- a number in a range
pub within_again : (high n : ℕ) → n ≤ high → within 0 high (Some n) ≡ Some n
within_again high n h =
    let t : (nat_le 0 n && nat_le n high) ≡ true = and_from (nat_le 0 n) (nat_le n high) (le-leb 0 n (omega arith)) (le-leb n high h) in
    ap (λ b. if b then Some n else None) t

pub within_was : (high m n : ℕ) → within 0 high (Some m) ≡ Some n → (m ≡ n) × (m ≤ high)
within_was high m n e =
    elim (chosen (nat_le 0 m && nat_le m high) (Some m) None n e) [
      | inl k ↦ (some_same m n k.1, leb-true m high (and_parts (nat_le 0 m) (nat_le m high) k.0).1)
      | inr k ↦ absurd (none_some n k.1)
    ]

pub maker_again : (n : ℕ) → n ≤ 9 → maker_of (decimal n) ≡ Some n
maker_again n h = ap (within 0 9) (number_again n (omega (arith, h))) ∙ within_again 9 n h

pub maker_was : (w : List ℕ) (n : ℕ) → maker_of w ≡ Some n → (w ≡ decimal n) × (n ≤ 9)
maker_was w n e = by_number (plain_number w) refl
  where
    by_number : (o : Option ℕ) → plain_number w ≡ o → (w ≡ decimal n) × (n ≤ 9)
    by_number None t = absurd (none_some n (sym (ap (within 0 9) t) ∙ e))
    by_number (Some m) t = let k = within_was 9 m n (sym (ap (within 0 9) t) ∙ e) in ((number_was w m t).0 ∙ ap decimal k.0, omega (arith, k.0, k.1))

-- words of the file
no_letter : (c : ℕ) (cs ds : List ℕ) → all_ascii_digits ds ≡ true → 57 < c → bytes_eq (c ∷ cs) ds ≡ false
no_letter c cs [] d h = refl
no_letter c cs (x ∷ xs) d h =
    let high = leb-true x 57 (and_parts (nat_le 48 x) (nat_le x 57) (and_parts (is_ascii_digit x) (all_ascii_digits xs) d).0).1 in
    let other : (c == x) ≡ false = grind (arith, h, high) in
    rw other refl

pub file_again : (f : FileCmd) → CanBeWritten f → file_of (file_word f) ≡ Some f
file_again Off h = refl
file_again StackOn h = refl
file_again StackOff h = refl
file_again ScanOn h = refl
file_again ScanOff h = refl
file_again (ScanEvery n) h =
    let digits = digits_decimal own n (omega (arith, h)) in
    let on = no_letter 111 (codes "n") (decimal n) digits (omega arith) in
    let off = no_letter 111 (codes "ff") (decimal n) digits (omega arith) in
    let is : within 0 86400 (plain_number (decimal n)) ≡ Some n = ap (within 0 86400) (number_again n (omega (arith, h))) ∙ within_again 86400 n h in
    ap (λ b. if b then Some ScanOn else (if bytes_eq (codes "off") (decimal n) then Some ScanOff else option_map ScanEvery (within 0 86400 (plain_number (decimal n))))) on
    ∙ ap (λ b. if b then Some ScanOff else option_map ScanEvery (within 0 86400 (plain_number (decimal n)))) off
    ∙ ap (option_map ScanEvery) is
file_again Scan h = refl
file_again Clear h = refl
file_again (Dump a) h = ap (option_map Dump) (number_again a h)
file_again (Why a) h = ap (option_map Why) (number_again a h)

-- what is read is the word of what was read, in its range
abbrev pub IsWordOf : List ℕ → FileCmd → Type 0
IsWordOf w f = (w ≡ file_word f) × CanBeWritten f

period_was : (w ds : List ℕ) (f : FileCmd) → w ≡ codes "scan=" ++ ds → period_word ds ≡ Some f → IsWordOf w f
period_was w ds f is e = by_number (plain_number ds) refl
  where
    by_number : (o : Option ℕ) → plain_number ds ≡ o → IsWordOf w f
    by_number None t = absurd (none_some f (sym (ap (λ o. option_map ScanEvery (within 0 86400 o)) t) ∙ e))
    by_number (Some m) t = by_range (within 0 86400 (Some m)) refl
      where
        by_range : (o : Option ℕ) → within 0 86400 (Some m) ≡ o → IsWordOf w f
        by_range None r = absurd (none_some f (sym (ap (λ o. option_map ScanEvery (within 0 86400 o)) t ∙ ap (option_map ScanEvery) r) ∙ e))
        by_range (Some n) r =
            let same : ScanEvery n ≡ f = some_same (ScanEvery n) f (sym (ap (λ o. option_map ScanEvery (within 0 86400 o)) t ∙ ap (option_map ScanEvery) r) ∙ e) in
            let q = within_was 86400 m n r in
            let d = (number_was ds m t).0 ∙ ap decimal q.0 in
            subst (IsWordOf w) same (is ∙ ap (λ x. codes "scan=" ++ x) d, omega (arith, q.0, q.1))

address_was : (w ds prefix : List ℕ) (make : ℕ → FileCmd) (f : FileCmd) → w ≡ prefix ++ ds → address_word make ds ≡ Some f
    → ((a : ℕ) → file_word (make a) ≡ prefix ++ decimal a) → ((a : ℕ) → a < 2 ^ 64 → CanBeWritten (make a)) → IsWordOf w f
address_was w ds prefix make f is e text fits = by_number (plain_number ds) refl
  where
    by_number : (o : Option ℕ) → plain_number ds ≡ o → IsWordOf w f
    by_number None t = absurd (none_some f (sym (ap (option_map make) t) ∙ e))
    by_number (Some m) t =
        let same : make m ≡ f = some_same (make m) f (sym (ap (option_map make) t) ∙ e) in
        let q = number_was ds m t in
        subst (IsWordOf w) same (is ∙ ap (λ x. prefix ++ x) q.0 ∙ sym (text m), fits m q.1)

-- a numbered word was one of the three
numbered_was : (w : List ℕ) (f : FileCmd) → numbered_word w ≡ Some f → IsWordOf w f
numbered_was w f e = by_prefix (behind_prefix (codes "scan=") w) (behind_prefix (codes "dump=") w) (behind_prefix (codes "why=") w) refl refl refl e
  where
    by_prefix : (scan dump why : Option (List ℕ)) → behind_prefix (codes "scan=") w ≡ scan → behind_prefix (codes "dump=") w ≡ dump → behind_prefix (codes "why=") w ≡ why
        → numbered_by scan dump why ≡ Some f → IsWordOf w f
    by_prefix (Some ds) dump why s d y k = period_was w ds f (from_prefix (codes "scan=") w ds s) k
    by_prefix None (Some ds) why s d y k = address_was w ds (codes "dump=") Dump f (from_prefix (codes "dump=") w ds d) k (λ a. refl) (λ a h. h)
    by_prefix None None (Some ds) s d y k = address_was w ds (codes "why=") Why f (from_prefix (codes "why=") w ds y) k (λ a. refl) (λ a h. h)
    by_prefix None None None s d y k = absurd (none_some f k)

-- a word that is known
known : (w key : List ℕ) (f g : FileCmd) → bytes_eq key w ≡ true → Some f ≡ Some g → key ≡ file_word f → CanBeWritten f → (w ≡ file_word g) × CanBeWritten g
known w key f g b e k h = subst (λ (x : FileCmd). (w ≡ file_word x) × CanBeWritten x) (some_same f g e) (sym (same_bytes key w b) ∙ k, h)

pub file_was : (w : List ℕ) (f : FileCmd) → file_of w ≡ Some f → (w ≡ file_word f) × CanBeWritten f
file_was w f e =
    elim (chosen (bytes_eq (codes "off") w) (Some Off) _ f e) [
      | inl k ↦ known w (codes "off") Off f k.0 k.1 refl tt
      | inr k0 ↦ elim (chosen (bytes_eq (codes "stack=on") w) (Some StackOn) _ f k0.1) [
        | inl k ↦ known w (codes "stack=on") StackOn f k.0 k.1 refl tt
        | inr k1 ↦ elim (chosen (bytes_eq (codes "stack=off") w) (Some StackOff) _ f k1.1) [
          | inl k ↦ known w (codes "stack=off") StackOff f k.0 k.1 refl tt
          | inr k2 ↦ elim (chosen (bytes_eq (codes "scan=on") w) (Some ScanOn) _ f k2.1) [
            | inl k ↦ known w (codes "scan=on") ScanOn f k.0 k.1 refl tt
            | inr k3 ↦ elim (chosen (bytes_eq (codes "scan=off") w) (Some ScanOff) _ f k3.1) [
              | inl k ↦ known w (codes "scan=off") ScanOff f k.0 k.1 refl tt
              | inr k4 ↦ elim (chosen (bytes_eq (codes "scan") w) (Some Scan) _ f k4.1) [
                | inl k ↦ known w (codes "scan") Scan f k.0 k.1 refl tt
                | inr k5 ↦ elim (chosen (bytes_eq (codes "clear") w) (Some Clear) _ f k5.1) [
                  | inl k ↦ known w (codes "clear") Clear f k.0 k.1 refl tt
                  | inr k6 ↦ numbered_was w f k6.1
                ]
              ]
            ]
          ]
        ]
      ]
    ]

pub solid_file : (f : FileCmd) → CanBeWritten f → is_solid (file_word f) ≡ true
solid_file Off h = refl
solid_file StackOn h = refl
solid_file StackOff h = refl
solid_file ScanOn h = refl
solid_file ScanOff h = refl
solid_file (ScanEvery n) h = solid_decimal n (omega (arith, h))
solid_file Scan h = refl
solid_file Clear h = refl
solid_file (Dump a) h = solid_decimal a h
solid_file (Why a) h = solid_decimal a h
