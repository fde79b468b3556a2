-- What is left of runs of words, before a load and after it.
use Rattle.std.proofs.Common.{◌≡◌, ℕ, zero, suc, ◌+◌, ◌<◌, ◌≤◌, Bool, true, false, ◌&&◌, ◌||◌, ◌==◌, nat_lt, List, ◌∷◌, filter, length, cond, refl, sym, ap, ◌∙◌, subst, arith, ◌⊎◌, inl, inr, ltb-true, ltb-false, lt-ltb, eqb-true, eq-eqb}
use Rattle.std.proofs.lemmas.Bool.{cases_Bool, or_cases, or_right, and_parts, and_from}
use Rattle.km_model.specs.Memory.{words_from}
use Rattle.km_model.specs.Past.{Place}
use Rattle.km_model.proofs.Cases.{elim_false}
use Rattle.km_model.proofs.Places.{Word}
use Rattle.km_state.specs.State.{Cursor, Start, Last, Behind}
use Rattle.km_state.specs.StateNext.{phase_at, is_at}
use Rattle.km_laws.specs.Left.{total}
use Rattle.km_laws.proofs.Lists.{In, total_le_in, total_falls_in}
use Rattle.km_left.specs.Laws.{WordsAreCounted}
use Rattle.km_left.specs.LeftIn.{words_above, word_at, run_left, is_ahead, phase_left}

-- words above an address
pub words_are_counted : WordsAreCounted
words_are_counted start zero a = omega arith
words_are_counted start (suc n) a =
    let rest = words_are_counted (start + 8) n a in
    elim (nat_lt a start) as (λ q. nat_lt a start ≡ q → words_above start (suc n) a ≡ length (cond q (start ∷ filter (nat_lt a) (words_from n (start + 8))) (filter (nat_lt a) (words_from n (start + 8))))) [
      | true ↦ λ e. let lt = ltb-true a start e in omega (arith, rest, lt)
      | false ↦ λ e. let le = ltb-false a start e in omega (arith, rest, le)
    ] refl

above_falls : (start words a b : ℕ) → Word words start b → a < b → words_above start words b + 1 ≤ words_above start words a
above_falls start words a b w lt = let i = w.0 in let low = w.1 in let is = w.2 in omega (arith, low, is, lt)

above_first : (start words b : ℕ) → Word words start b → words_above start words b + 1 ≤ words
above_first start words b w = let i = w.0 in let low = w.1 in let is = w.2 in omega (arith, low, is)

pub run_most : (ahead held : Bool) (c : Cursor) (start words : ℕ) → run_left ahead held c start words ≤ suc words
run_most true held c start words = omega arith
run_most false true c start words = omega arith
run_most false false c start words = omega arith

-- a load comes to a run that is ahead, or goes on with the one of the last load; and by how much that lowers it
abbrev pub Comes : Bool → Bool → Cursor → Place → ℕ → Type 0
Comes ahead held c place d = ((ahead ≡ true) × (d ≤ 2)) ⊎ ((held ≡ true) × (word_at c < place.word) × (d ≤ 1))

pub run_falls : (ahead held held' : Bool) (c : Cursor) (place : Place) (start words d : ℕ) → Word words start place.word → Comes ahead held c place d
    → run_left false held' (Last place) start words + d ≤ run_left ahead held c start words
run_falls true held true c place start words d w comes = let first = above_first start words place.word w in elim comes [ inl k ↦ let le = k.1 in omega (arith, first, le) | inr k ↦ let le = k.2 in omega (arith, first, le) ]
run_falls true held false c place start words d w comes = let first = above_first start words place.word w in elim comes [ inl k ↦ let le = k.1 in omega (arith, first, le) | inr k ↦ let le = k.2 in omega (arith, first, le) ]
run_falls false false held' c place start words d w comes = elim comes [ inl k ↦ absurd (elim_false k.0) | inr k ↦ absurd (elim_false k.0) ]
run_falls false true held' c place start words d w comes =
    elim comes [
      | inl k ↦ absurd (elim_false k.0)
      | inr k ↦
          let falls = above_falls start words (word_at c) place.word w k.1 in let le = k.2 in
          elim held' as (λ q. run_left false q (Last place) start words + d ≤ words_above start words (word_at c)) [ true ↦ omega (arith, falls, le) | false ↦ omega (arith, falls, le) ]
    ]

-- a load raises nothing
pub run_less : (ahead held ahead' held' : Bool) (c : Cursor) (place : Place) (start words d : ℕ) → (ahead' ≡ true → ahead ≡ true)
    → (held' ≡ true → Word words start place.word × Comes ahead held c place d) → run_left ahead' held' (Last place) start words ≤ run_left ahead held c start words
run_less ahead held true held' c place start words d f g = subst (λ q. suc words ≤ run_left q held c start words) (sym (f refl)) (omega arith)
run_less ahead held false true c place start words d f g = let k = g refl in let falls = run_falls ahead held true c place start words d k.0 k.1 in omega (arith, falls)
run_less ahead held false false c place start words d f g = omega arith

-- to what a phase comes that goes by numbers
pub ahead_low : (q n : ℕ) (c : Cursor) → phase_at c < q → is_ahead q n c ≡ true
ahead_low q n Start lt = refl
ahead_low q n (Last at) lt = subst (λ r. (r || at.phase == q && nat_lt at.holder n) ≡ true) (sym (lt-ltb at.phase q lt)) refl
ahead_low q n (Behind at gone) lt = subst (λ r. (r || at == q && nat_lt gone n) ≡ true) (sym (lt-ltb at q lt)) refl

pub ahead_later : (q n at holder : ℕ) → at ≡ q → holder < n → (nat_lt at q || at == q && nat_lt holder n) ≡ true
ahead_later q n at holder e lt = or_right (nat_lt at q) (at == q && nat_lt holder n) (and_from (at == q) (nat_lt holder n) (eq-eqb at q e) (lt-ltb holder n lt))

pub later_ahead : (q n at holder : ℕ) → (nat_lt at q || at == q && nat_lt holder n) ≡ true → (at < q) ⊎ ((at ≡ q) × (holder < n))
later_ahead q n at holder h =
    elim (or_cases (nat_lt at q) (at == q && nat_lt holder n) h) [
      | inl lt ↦ inl (ltb-true at q lt)
      | inr later ↦ let k = and_parts (at == q) (nat_lt holder n) later in inr (eqb-true at q k.0, ltb-true holder n k.1)
    ]

later_more : (q m n at holder : ℕ) → m ≤ n → (nat_lt at q || at == q && nat_lt holder m) ≡ true → (nat_lt at q || at == q && nat_lt holder n) ≡ true
later_more q m n at holder le h =
    elim (later_ahead q m at holder h) [
      | inl lt ↦ subst (λ r. (r || at == q && nat_lt holder n) ≡ true) (sym (lt-ltb at q lt)) refl
      | inr k ↦ let lt = k.1 in ahead_later q n at holder k.0 (omega (arith, le, lt))
    ]

pub ahead_more : (q m n : ℕ) (c : Cursor) → m ≤ n → is_ahead q m c ≡ true → is_ahead q n c ≡ true
ahead_more q m n Start le h = refl
ahead_more q m n (Last at) le h = later_more q m n at.phase at.holder le h
ahead_more q m n (Behind at gone) le h = later_more q m n at gone le h

pub at_parts : (q n : ℕ) (at : Place) → is_at q n (Last at) ≡ true → (at.phase ≡ q) × (at.holder ≡ n)
at_parts q n at h = let k = and_parts (at.phase == q) (at.holder == n) h in (eqb-true at.phase q k.0, eqb-true at.holder n k.1)

pub at_from : (q n : ℕ) (at : Place) → at.phase ≡ q → at.holder ≡ n → is_at q n (Last at) ≡ true
at_from q n at e f = and_from (at.phase == q) (at.holder == n) (eq-eqb at.phase q e) (eq-eqb at.holder n f)

at_ahead : (q m n : ℕ) (c : Cursor) → m < n → is_at q m c ≡ true → is_ahead q n c ≡ true
at_ahead q m n Start lt h = refl
at_ahead q m n (Last at) lt h = let k = at_parts q m at h in let same = k.1 in ahead_later q n at.phase at.holder k.0 (omega (arith, lt, same))
at_ahead q m n (Behind at gone) lt h = absurd (elim_false h)

-- a place of such a phase
abbrev pub ComesTo : ℕ → Cursor → Place → ℕ → Type 0
ComesTo q c place d = Comes (is_ahead q place.holder c) (is_at q place.holder c) c place d

still_ahead : (q n d : ℕ) (c : Cursor) (place : Place) → phase_at c ≤ place.phase → (place.phase ≡ q → ComesTo q c place d) → is_ahead q n (Last place) ≡ true → is_ahead q n c ≡ true
still_ahead q n d c place le comes h =
    elim (later_ahead q n place.phase place.holder h) [
      | inl lt ↦ ahead_low q n c (omega (arith, le, lt))
      | inr k ↦ elim (comes k.0) [
        | inl on ↦ let lt = k.1 in ahead_more q place.holder n c (omega (arith, lt)) on.0
        | inr on ↦ at_ahead q place.holder n c k.1 on.0
      ]
    ]

not_later : (q n : ℕ) → (nat_lt q q || q == q && nat_lt n n) ≡ false
not_later q n =
    elim (cases_Bool (nat_lt q q || q == q && nat_lt n n)) [
      | inr f ↦ f
      | inl h ↦ absurd (elim (later_ahead q n q n h) [ inl lt ↦ omega (arith, lt) | inr k ↦ let lt = k.1 in omega (arith, lt) ])
    ]

passed : (q n : ℕ) (place : Place) → place.phase ≡ q → n ≡ place.holder → is_ahead q n (Last place) ≡ false
passed q n place e f =
    ap (λ p. nat_lt p q || p == q && nat_lt place.holder n) e ∙ ap (λ m. nat_lt q q || q == q && nat_lt m n) (sym f) ∙ not_later q n

pub behind_passed : (q n : ℕ) → is_ahead q n (Behind q n) ≡ false
behind_passed q n = not_later q n

-- runs of words with numbers: what a phase has left of them
pub record Numbered (X : Type 0) : Type 1 where
  pub number : X → ℕ
  pub start : X → ℕ
  pub words : X → ℕ

abbrev pub runs_left : {X : Type 0} → Numbered X → ℕ → Cursor → List X → ℕ
runs_left n q c xs = total (λ x. phase_left q c (n.number x) (n.start x) (n.words x)) xs

-- the place is a word of the run of its holder
abbrev pub IsWordIn : {X : Type 0} → Numbered X → List X → Place → Type 0
IsWordIn {X} n xs place = (x : X) → In x xs → n.number x ≡ place.holder → Word (n.words x) (n.start x) place.word

run_one : {X : Type 0} (n : Numbered X) (xs : List X) (q d : ℕ) (c : Cursor) (place : Place) → phase_at c ≤ place.phase
    → (place.phase ≡ q → ComesTo q c place d × IsWordIn n xs place) → (x : X) → In x xs
    → phase_left q (Last place) (n.number x) (n.start x) (n.words x) ≤ phase_left q c (n.number x) (n.start x) (n.words x)
run_one {X} n xs q d c place le comes x i =
    run_less (is_ahead q (n.number x) c) (is_at q (n.number x) c) (is_ahead q (n.number x) (Last place)) (is_at q (n.number x) (Last place)) c place (n.start x) (n.words x) d
    (still_ahead q (n.number x) d c place le (λ e. (comes e).0))
    (λ h. let k = at_parts q (n.number x) place h in
    ((comes k.0).1 x i (sym k.1), subst (λ m. Comes (is_ahead q m c) (is_at q m c) c place d) k.1 (comes k.0).0))

pub runs_less : {X : Type 0} (n : Numbered X) (xs : List X) (q d : ℕ) (c : Cursor) (place : Place) → phase_at c ≤ place.phase
    → (place.phase ≡ q → ComesTo q c place d × IsWordIn n xs place) → runs_left n q (Last place) xs ≤ runs_left n q c xs
runs_less {X} n xs q d c place le comes =
    total_le_in (λ x. phase_left q (Last place) (n.number x) (n.start x) (n.words x)) (λ x. phase_left q c (n.number x) (n.start x) (n.words x)) xs
    (λ x i. run_one n xs q d c place le comes x i)

pub runs_fall : {X : Type 0} (n : Numbered X) (xs : List X) (q d : ℕ) (c : Cursor) (place : Place) → phase_at c ≤ place.phase → place.phase ≡ q
    → ComesTo q c place d → IsWordIn n xs place → (x : X) → In x xs → n.number x ≡ place.holder → runs_left n q (Last place) xs + d ≤ runs_left n q c xs
runs_fall {X} n xs q d c place le e comes words x i same =
    total_falls_in (λ x. phase_left q (Last place) (n.number x) (n.start x) (n.words x)) (λ x. phase_left q c (n.number x) (n.start x) (n.words x)) d xs
    (λ y j. run_one n xs q d c place le (λ _. (comes, words)) y j) x i
    (subst (λ r. run_left r (is_at q (n.number x) (Last place)) (Last place) (n.start x) (n.words x) + d ≤ phase_left q c (n.number x) (n.start x) (n.words x))
    (sym (passed q (n.number x) place e same))
    (run_falls (is_ahead q (n.number x) c) (is_at q (n.number x) c) (is_at q (n.number x) (Last place)) c place (n.start x) (n.words x) d (words x i same)
    (subst (λ m. Comes (is_ahead q m c) (is_at q m c) c place d) (sym same) comes)))
