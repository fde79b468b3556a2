-- What a load of what was fetched gives.
use Rattle.std.proofs.Common.{◌≡◌, ◌≢◌, ℕ, zero, suc, ◌+◌, ◌-◌, ◌*◌, ◌/◌, ◌%◌, ◌<◌, ◌≤◌, ◌==◌, Bool, true, false, not, cond, List, [], ◌∷◌, ◌++◌, length, get_or, nat_lt, Some, None, position, refl, sym, ap, subst, ◌∙◌, arith, if◌then◌else◌, eqb-true, eq-eqb, ltb-false}
use Rattle.std.proofs.lemmas.List.{get_or-map}
use Rattle.std.proofs.lemmas.List.Quantifiers.{all_pairs_push, position-Some}
use Rattle.std.specs.List.{position_or_len}
use Rattle.km_model.proofs.Cases.{elim_false}
use Rattle.km_model.specs.Memory.{base, index_of, in_memory, word_at, words_from, all_words}
use Rattle.km_chunks.specs.declared.load.Load.{Load}
use Rattle.km_chunks.specs.Loads.{value_in, given_in}
use Rattle.km_live_words.proofs.Words.{inside, index_below}
use Rattle.km_par.specs.Loaders.{Ascending}

both_ways : (q : Bool) → q ≡ false → q ≡ true → ⊥
both_ways q not_so so = let never : false ≡ true = sym not_so ∙ so in absurd (elim_false never)

-- one more load after the last
pub ascends : (loads : List Load) (x : Load) → Ascending loads → (0 < length loads → (d : Load) → (get_or loads (length loads - 1) d).word.0 < x.word.0) → Ascending (loads ++ x ∷ [])
ascends loads x up last = all_pairs_push (λ (l m : Load). l.word.0 < m.word.0) loads x up (λ k d lt. go k d lt (k == length loads - 1) refl)
  where
    go : (k : ℕ) (d : Load) → k < length loads → (q : Bool) → (k == length loads - 1) ≡ q → (get_or loads k d).word.0 < x.word.0
    go k d lt true is = subst (λ n. (get_or loads n d).word.0 < x.word.0) (sym (eqb-true k (length loads - 1) is)) (last (omega (arith, lt)) d)
    go k d lt false is =
        let other : k ≢ length loads - 1 = λ e. both_ways (k == length loads - 1) is (eq-eqb k (length loads - 1) e) in
        let before = up k (length loads - 1) d (omega (arith, lt, other)) (omega (arith, lt)) in
        let end = last (omega (arith, lt)) d in
        omega (arith, before, end)

-- the first load of a word gives its value
first_value : (loads : List Load) (a i : ℕ) (d : Load) → i < length loads → ((get_or loads i d).word.0 == a) ≡ true → ((k : ℕ) → k < i → ((get_or loads k d).word.0 == a) ≡ false) → value_in loads a ≡ (get_or loads i d).value
first_value [] a i d lt is none = absurd (omega (arith, lt))
first_value (l ∷ loads) a zero d lt is none = ap (λ q. if q then l.value else value_in loads a) is
first_value (l ∷ loads) a (suc i) d lt is none =
    ap (λ q. if q then l.value else value_in loads a) (none 0 (omega arith))
    ∙ first_value loads a i d (omega (arith, lt)) is (λ k less. none (suc k) (omega (arith, less)))

pub placed : (loads : List Load) (a i : ℕ) (d : Load) → position (λ l. l.word.0 == a) loads ≡ Some i → value_in loads a ≡ (get_or loads i d).value
placed loads a i d at =
    let p = position-Some (λ (l : Load). l.word.0 == a) loads i d at in
    first_value loads a i d p.0 p.1 p.2

unplaced : (loads : List Load) (a : ℕ) → length loads ≤ position_or_len (λ (l : Load). l.word.0 == a) loads → value_in loads a ≡ 0
unplaced [] a le = refl
unplaced (l ∷ loads) a le = go (l.word.0 == a) refl (unplaced loads a)
  where
    go : (q : Bool) → (l.word.0 == a) ≡ q → (length loads ≤ position_or_len (λ (l : Load). l.word.0 == a) loads → value_in loads a ≡ 0) → (if q then l.value else value_in loads a) ≡ 0
    go true is rest = let none : position_or_len (λ (l : Load). l.word.0 == a) (l ∷ loads) ≡ 0 = ap (λ q. cond (not q) (1 + position_or_len (λ (l : Load). l.word.0 == a) loads) 0) is in absurd (omega (arith, le, none))
    go false is rest = let one : position_or_len (λ (l : Load). l.word.0 == a) (l ∷ loads) ≡ 1 + position_or_len (λ (l : Load). l.word.0 == a) loads = ap (λ q. cond (not q) (1 + position_or_len (λ (l : Load). l.word.0 == a) loads) 0) is in rest (omega (arith, le, one))

pub nowhere : (loads : List Load) (a : ℕ) → position (λ l. l.word.0 == a) loads ≡ None → value_in loads a ≡ 0
nowhere loads a at = unplaced loads a (go (nat_lt (position_or_len (λ (l : Load). l.word.0 == a) loads) (length loads)) refl at)
  where
    go : (q : Bool) → nat_lt (position_or_len (λ (l : Load). l.word.0 == a) loads) (length loads) ≡ q → cond q (Some (position_or_len (λ (l : Load). l.word.0 == a) loads)) None ≡ None → length loads ≤ position_or_len (λ (l : Load). l.word.0 == a) loads
    go true is none = absurd cc
    go false is none = ltb-false _ _ is

-- where the words ascend, each load of a word is its first
pub ascending : (loads : List Load) (a i : ℕ) (d : Load) → Ascending loads → i < length loads → (get_or loads i d).word.0 ≡ a → value_in loads a ≡ (get_or loads i d).value
ascending loads a i d up lt at = first_value loads a i d lt (eq-eqb (get_or loads i d).word.0 a at) (λ k less. apart k less ((get_or loads k d).word.0 == a) refl)
  where
    apart : (k : ℕ) → k < i → (q : Bool) → ((get_or loads k d).word.0 == a) ≡ q → q ≡ false
    apart k less false is = refl
    apart k less true is =
        let below = up k i d less lt in
        let same = eqb-true (get_or loads k d).word.0 a is in
        absurd (omega (arith, below, same, at))

length_from : (n a : ℕ) → length (words_from n a) ≡ n
length_from zero a = refl
length_from (suc n) a = ap suc (length_from n (a + 8))

at_from : (n a i d : ℕ) → i < n → get_or (words_from n a) i d ≡ a + 8 * i
at_from zero a i d lt = absurd (omega (arith, lt))
at_from (suc n) a zero d lt = omega arith
at_from (suc n) a (suc i) d lt = at_from n (a + 8) i d (omega (arith, lt)) ∙ omega arith

back : (z a : ℕ) → z ≤ a → (a - z) % 8 ≡ 0 → z + 8 * ((a - z) / 8) ≡ a
back z a low even = omega (arith, low, even)

-- what is given at a word is the first value that was loaded there
pub given_at : (words : ℕ) (loads : List Load) (a : ℕ) → in_memory words a ≡ true → word_at (given_in words loads) a ≡ value_in loads a
given_at words loads a there =
    let in_words = inside words a there in
    let below = index_below words a there in
    get_or-map (value_in loads) (all_words words) (index_of a) 0 0 (subst (λ n. index_of a < n) (sym (length_from words base)) below)
    ∙ ap (value_in loads) (at_from words base (index_of a) 0 below ∙ back base a in_words.0 in_words.1)
