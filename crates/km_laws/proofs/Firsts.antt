use Rattle.std.proofs.Common.{◌≡◌, ℕ, ◌≤◌, ◌<◌, ◌==◌, ◌⊎◌, inl, inr, true, false, cond, ltb, List, [], ◌∷◌, Some, None, find, refl, sym, ◌∙◌, subst, arith, lt-ltb, eq-eqb}
use Rattle.km_laws.proofs.Lists.{In, Pairs, each_in}
use Rattle.km_model.proofs.Cases.{elim_false, none_some}
use Rattle.km_model.proofs.Places.{or_else_some, or_else_none, place_in_is, place_in_none}
use Rattle.km_model.specs.Blocks.{Block}
use Rattle.km_model.specs.Past.{Place}
use Rattle.km_model.specs.Scan.{behind, place_in, word_above, first_word, live_words, first_in}

-- words in order
abbrev pub Ordered : List ℕ → Type 0
Ordered ws = Pairs (λ a b. a < b) ws

-- the first word of ordered ones is the least
pub first_least : (ws : List ℕ) (w a : ℕ) → Ordered ws → first_word ws ≡ Some w → In a ws → w ≤ a
first_least [] w a r e i = absurd i
first_least (x ∷ ws) w a r e (inl same) = let f : x ≡ w = cc in omega (arith, f, same)
first_least (x ∷ ws) w a r e (inr i) = let f : x ≡ w = cc in omega (arith, f, each_in (λ b. x < b) ws a r.0 i)

pub first_none : (ws : List ℕ) (a : ℕ) → first_word ws ≡ None → In a ws → ⊥
first_none [] a e i = i
first_none (x ∷ ws) a e i = none_some x (sym e)

-- the least word above another is at most each other one above it
pub above_least : (ws : List ℕ) (x w a : ℕ) → Ordered ws → word_above x ws ≡ Some w → In a ws → x < a → w ≤ a
above_least [] x w a r e i lt = absurd i
above_least (y ∷ ws) x w a r e i lt =
    elim (ltb x y) as (λ q. ltb x y ≡ q → cond q (Some y) (find (ltb x) ws) ≡ Some w → w ≤ a) [
      | true ↦ λ _ f. let g : y ≡ w = cc in elim i [ inl same ↦ omega (arith, g, same) | inr j ↦ omega (arith, g, each_in (λ b. y < b) ws a r.0 j) ]
      | false ↦ λ no f. elim i [
        | inl same ↦ absurd (elim_false (sym no ∙ lt-ltb x y (subst (λ z. x < z) same lt)))
        | inr j ↦ above_least ws x w a r.1 f j lt
      ]
    ] refl e

pub above_none : (ws : List ℕ) (x a : ℕ) → word_above x ws ≡ None → In a ws → x < a → ⊥
above_none [] x a e i lt = i
above_none (y ∷ ws) x a e i lt =
    elim (ltb x y) as (λ q. ltb x y ≡ q → cond q (Some y) (find (ltb x) ws) ≡ None → ⊥) [
      | true ↦ λ _ f. none_some y (sym f)
      | false ↦ λ no f. elim i [
        | inl same ↦ elim_false (sym no ∙ lt-ltb x y (subst (λ z. x < z) same lt))
        | inr j ↦ above_none ws x a f j lt
      ]
    ] refl e

-- the first place of a queue: its holder is a member, and each other member that has words stands behind it
pub record FirstIn (phase : ℕ) (blocks : List Block) (q : List ℕ) (p : Place) : Type 0 where
  pub phase_is : p.phase ≡ phase
  pub member : In p.holder q
  pub word_is : first_word (live_words blocks p.holder) ≡ Some p.word
  pub others : (id a : ℕ) → In id q → In a (live_words blocks id) → (p.holder ≡ id) ⊎ In id (behind p.holder q)

pub first_in_some : (phase : ℕ) (blocks : List Block) (q : List ℕ) (p : Place) → first_in phase blocks q ≡ Some p → FirstIn phase blocks q p
first_in_some phase blocks [] p e = absurd (none_some p e)
first_in_some phase blocks (y ∷ q) p e =
    elim (or_else_some (place_in phase y (first_word (live_words blocks y))) (first_in phase blocks q) p e) [
      | inl here ↦ let parts = place_in_is phase y (first_word (live_words blocks y)) p here in
          record {
            phase_is = parts.0;
            member = inl parts.1;
            word_is = subst (λ h. first_word (live_words blocks h) ≡ Some p.word) (sym parts.1) parts.2;
            others = λ id a i j. elim i [
              | inl same ↦ inl (parts.1 ∙ sym same)
              | inr k ↦ inr (subst (λ r. In id (cond r q (behind p.holder q))) (sym (eq-eqb y p.holder (sym parts.1))) k)
            ];
          }
      | inr later ↦ let rest = first_in_some phase blocks q p later.1 in
          record {
            phase_is = rest.phase_is;
            member = inr rest.member;
            word_is = rest.word_is;
            others = λ id a i j. elim i [
              | inl same ↦ absurd (first_none (live_words blocks y) a (place_in_none phase y (first_word (live_words blocks y)) later.0) (subst (λ z. In a (live_words blocks z)) same j))
              | inr k ↦ elim (rest.others id a k j) [
                | inl same ↦ inl same
                | inr b ↦ inr (elim (y == p.holder) as (λ r. In id (cond r q (behind p.holder q))) [ true ↦ k | false ↦ b ])
              ]
            ];
          }
    ]

pub first_in_none : (phase : ℕ) (blocks : List Block) (q : List ℕ) (id a : ℕ) → first_in phase blocks q ≡ None → In id q → In a (live_words blocks id) → ⊥
first_in_none phase blocks [] id a e i j = i
first_in_none phase blocks (y ∷ q) id a e i j =
    let parts = or_else_none (place_in phase y (first_word (live_words blocks y))) (first_in phase blocks q) e in
    elim i [
      | inl same ↦ first_none (live_words blocks y) a (place_in_none phase y (first_word (live_words blocks y)) parts.0) (subst (λ z. In a (live_words blocks z)) same j)
      | inr k ↦ first_in_none phase blocks q id a parts.1 k j
    ]
