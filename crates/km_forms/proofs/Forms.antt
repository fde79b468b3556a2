-- What the code reads word by word is what the words ask for.
use Rattle.std.proofs.Common.{◌≡◌, ℕ, suc, ◌+◌, ◌&&◌, max, is_some, Bool, true, false, List, [], ◌∷◌, codes, bytes_eq, Option, Some, None, Result, Ok, Err, refl, sym, ap, ◌∙◌, subst, arith, if◌then◌else◌}
use Rattle.std.specs.Bool.{Decides}
use Rattle.std.proofs.lemmas.Slice.Eq.{bytes_eq-Decides}
use Rattle.km_model.specs.Grammar.{number, number_within}
use Rattle.km_forms.specs.declared.words.Form.{Form}
use Rattle.km_forms.specs.declared.words.Form.TheVariants.{Bench, Check}
use Rattle.km_forms.specs.Forms.{form_of_words, named_bench, value}
use Rattle.km_forms.specs.WordByWord.{form_by_words, numbered_form, stepped_form}

decided : (b : Bool) (xs ys : List ℕ) → bytes_eq xs ys ≡ b → Decides b (xs ≡ ys)
decided b xs ys e = subst (λ x. Decides x (xs ≡ ys)) e (bytes_eq-Decides xs ys)

abbrev first : List ℕ → ℕ
first [] = 0
first (c ∷ _) = c

heads_differ : ◌≡◌ {A = ℕ} 99 98 → ⊥
heads_differ e = omega (arith, e)

-- no word is both names
apart : (w : List ℕ) (b : Bool) → bytes_eq w (codes "check") ≡ true → bytes_eq w (codes "bench") ≡ b → b ≡ false
apart w false c h = refl
apart w true c h =
    let both : codes "check" ≡ codes "bench" = sym ((decided true w (codes "check") c).0 refl) ∙ (decided true w (codes "bench") h).0 refl in
    absurd (heads_differ (ap first both))

not_both : (w : List ℕ) → bytes_eq w (codes "check") ≡ true → bytes_eq w (codes "bench") ≡ false
not_both w c = apart w (bytes_eq w (codes "bench")) c refl

-- how many words are as a bench has them
abbrev fits : Bool → Option ℕ → Option ℕ → ℕ
fits b n s = if b then suc (if is_some n then suc (if is_some s then suc 0 else 0) else 0) else 0

one : (c b : Bool) (other : Form) → (c ≡ true → b ≡ false)
    → (if c then Ok Check else (if b then Err 2 else Err 1))
    ≡ (if c && true then Ok Check else (if b && false then Ok other else Err (1 + max (if c then suc 0 else 0) (if b then suc 0 else 0))))
one true b other h = refl
one false true other h = refl
one false false other h = refl

two : (c b : Bool) (n : Option ℕ) (other : Form) → (c ≡ true → b ≡ false)
    → (if c then Err 2 else (if b then numbered_form n [] else Err 1))
    ≡ (if c && false then Ok Check else (if b && (is_some n && false) then Ok other else Err (1 + max (if c then suc 0 else 0) (if b then suc (if is_some n then suc 0 else 0) else 0))))
two true true n other h = let bad : true ≡ false = h refl in absurd (cc)
two true false n other h = refl
two false true None other h = refl
two false true (Some k) other h = refl
two false false n other h = refl

last : (k : ℕ) (s : Option ℕ) → stepped_form k s [] ≡ (if is_some s && true then Ok (Bench k (value s)) else Err (1 + max 0 (fits true (Some k) s)))
last k None = refl
last k (Some m) = refl

three : (c b : Bool) (n : Option ℕ) (y : List ℕ) → (c ≡ true → b ≡ false)
    → (if c then Err 2 else (if b then numbered_form n (y ∷ []) else Err 1))
    ≡ (if c && false then Ok Check
    else (if b && (is_some n && (is_some (number_within 0 1000000 y) && true)) then Ok (Bench (value n) (value (number_within 0 1000000 y)))
    else Err (1 + max (if c then suc 0 else 0) (fits b n (number_within 0 1000000 y)))))
three true true n y h = let bad : true ≡ false = h refl in absurd (cc)
three true false n y h = refl
three false false n y h = refl
three false true None y h = refl
three false true (Some k) y h = last k (number_within 0 1000000 y)

past : (k : ℕ) (s : Option ℕ) (z : List ℕ) (zs : List (List ℕ)) (other : Form)
    → stepped_form k s (z ∷ zs) ≡ (if is_some s && false then Ok other else Err (1 + max 0 (fits true (Some k) s)))
past k None z zs other = refl
past k (Some m) z zs other = refl

four : (c b : Bool) (n : Option ℕ) (y z : List ℕ) (zs : List (List ℕ)) (other : Form) → (c ≡ true → b ≡ false)
    → (if c then Err 2 else (if b then numbered_form n (y ∷ z ∷ zs) else Err 1))
    ≡ (if c && false then Ok Check
    else (if b && (is_some n && (is_some (number_within 0 1000000 y) && false)) then Ok other
    else Err (1 + max (if c then suc 0 else 0) (fits b n (number_within 0 1000000 y)))))
four true true n y z zs other h = let bad : true ≡ false = h refl in absurd (cc)
four true false n y z zs other h = refl
four false false n y z zs other h = refl
four false true None y z zs other h = refl
four false true (Some k) y z zs other h = past k (number_within 0 1000000 y) z zs other

pub by_words : (words : List (List ℕ)) → form_by_words words ≡ form_of_words words
by_words [] = refl
by_words (w ∷ []) = one (bytes_eq w (codes "check")) (bytes_eq w (codes "bench")) (named_bench (w ∷ [])) (not_both w)
by_words (w ∷ x ∷ []) = two (bytes_eq w (codes "check")) (bytes_eq w (codes "bench")) (number x) (named_bench (w ∷ x ∷ [])) (not_both w)
by_words (w ∷ x ∷ y ∷ []) = three (bytes_eq w (codes "check")) (bytes_eq w (codes "bench")) (number x) y (not_both w)
by_words (w ∷ x ∷ y ∷ z ∷ zs) =
    four (bytes_eq w (codes "check")) (bytes_eq w (codes "bench")) (number x) y z zs (named_bench (w ∷ x ∷ y ∷ z ∷ zs)) (not_both w)
