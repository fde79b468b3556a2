use Rattle.std.proofs.Common.{◌≡◌, ◌≢◌, ℕ, ◌+◌, ◌-◌, ◌*◌, ◌/◌, ◌<◌, ◌≤◌, Bool, true, false, not, ◌&&◌, ◌||◌, ◌==◌, nat_lt, List, length, slice_index_or, Option, Some, None, refl, sym, ap, ◌∙◌, subst, arith, inl, inr, ltb-true, lt-ltb}
use Rattle.std.proofs.lemmas.Bool.{cases_Bool, and_parts, and_from, both_ways, not-true, not_from_false, false_from_ne_true, cases_lt, cases_eq, eqb-true, eq-eqb}
use Rattle.std.proofs.lemmas.List.{get_or_past}
use Rattle.km_marks.specs.Sets.{has}
use Rattle.km_slab.specs.Blocks.{AreMarks, IsFreeAt, has_place}
use Rattle.km_slab.proofs.Places.{some_number}
use Rattle.km_slab.proofs.Rows.{no_class}

-- a slab page is one of the pages
pub slab_within : (classes : List (Option ℕ)) (p class : ℕ) → slice_index_or classes p None ≡ Some class → p < length classes
slab_within classes p class at = elim (cases_lt p (length classes)) [
  | inl less ↦ less
  | inr more ↦ absurd (no_class (slice_index_or classes p None) class (get_or_past classes p None more) at)
]

-- the slots of one page of a class change, and its mark
pub record Changed (classes : List (Option ℕ)) (free live opened new_free new_live new_open : List ℕ) (row class page : ℕ) : Type 0 where
  pub old : AreMarks classes free live opened row
  pub at : slice_index_or classes page None ≡ Some class
  pub free_words : length new_free ≡ length free
  pub live_words : length new_live ≡ length live
  pub open_words : length new_open ≡ length opened
  pub free_other : (p i : ℕ) → p ≢ page → i < 512 → has new_free (512 * p + i) ≡ has free (512 * p + i)
  pub live_other : (p i : ℕ) → p ≢ page → i < 512 → has new_live (512 * p + i) ≡ has live (512 * p + i)
  pub free_here : (i : ℕ) → i < 512 → has new_free (512 * page + i) ≡ (nat_lt i (4096 / class) && not (has new_live (512 * page + i)))
  pub live_here : (i : ℕ) → i < 512 → has new_live (512 * page + i) ≡ true → nat_lt i (4096 / class) ≡ true
  pub open_other : (p k : ℕ) → p < 64 * row → (p ≡ page → k ≡ class / 8 → ⊥) → has new_open (64 * (row * k) + p) ≡ has opened (64 * (row * k) + p)
  pub open_some : has new_open (64 * (row * (class / 8)) + page) ≡ true → (i : ℕ) × (i < 512) × (has new_free (512 * page + i) ≡ true)
  pub open_here : (i : ℕ) → i < 512 → has new_free (512 * page + i) ≡ true → has new_open (64 * (row * (class / 8)) + page) ≡ true

pub changed_marks : (classes : List (Option ℕ)) (free live opened new_free new_live new_open : List ℕ) (row class page : ℕ)
    → Changed classes free live opened new_free new_live new_open row class page → AreMarks classes new_free new_live new_open row
changed_marks classes free live opened new_free new_live new_open row class page t =
    let old = t.old in
    let size = old.sizes page class t.at in
    record {
      short = old.short;
      free_words = t.free_words ∙ old.free_words;
      live_words = t.live_words ∙ old.live_words;
      rows = old.rows;
      open_words = t.open_words ∙ old.open_words;
      sizes = old.sizes;
      free_is = λ p i lt. elim (cases_eq p page) [
        | inl same ↦ subst (λ q. has new_free (512 * q + i) ≡ (has_place (slice_index_or classes q None) i && not (has new_live (512 * q + i)))) (sym same)
            (t.free_here i lt ∙ ap (λ o. has_place o i && not (has new_live (512 * page + i))) (sym t.at))
        | inr ne ↦ t.free_other p i ne lt ∙ old.free_is p i lt ∙ ap (λ b. has_place (slice_index_or classes p None) i && not b) (sym (t.live_other p i ne lt))
      ];
      live_in = λ p i lt h. elim (cases_eq p page) [
        | inl same ↦ subst (λ q. has_place (slice_index_or classes q None) i ≡ true) (sym same)
            (ap (λ o. has_place o i) t.at ∙ t.live_here i lt (subst (λ q. has new_live (512 * q + i) ≡ true) same h))
        | inr ne ↦ old.live_in p i lt (sym (t.live_other p i ne lt) ∙ h)
      ];
      open_has = λ p k lt h. elim (cases_eq p page) [
        | inl same ↦ elim (cases_eq k (class / 8)) [
          | inl row_same ↦
              let s = t.open_some (subst (λ q. has new_open (64 * (row * (class / 8)) + q) ≡ true) same (subst (λ n. has new_open (64 * (row * n) + p) ≡ true) row_same h)) in
              (ap (λ q. slice_index_or classes q None) same ∙ t.at ∙ ap Some (sym size.2 ∙ ap (λ n. 8 * n) (sym row_same)), s.0, s.1, subst (λ q. has new_free (512 * q + s.0) ≡ true) (sym same) s.2)
          | inr ne ↦
              let o = old.open_has p k lt (sym (t.open_other p k lt (λ _ e. ne e)) ∙ h) in
              let is : class ≡ 8 * k = some_number class (8 * k) (sym t.at ∙ ap (λ q. slice_index_or classes q None) (sym same) ∙ o.0) in
              absurd (ne (let a = size.2 in omega (arith, is, a)))
        ]
        | inr ne ↦
            let o = old.open_has p k lt (sym (t.open_other p k lt (λ e _. ne e)) ∙ h) in
            (o.0, o.1, o.2, t.free_other p o.1 ne o.2 ∙ o.3)
      ];
      open_all = λ p cl i at lt f. elim (cases_eq p page) [
        | inl same ↦
            let is : cl ≡ class = some_number cl class (sym at ∙ ap (λ q. slice_index_or classes q None) same ∙ t.at) in
            subst (λ n. has new_open (64 * (row * (n / 8)) + p) ≡ true) (sym is)
            (subst (λ q. has new_open (64 * (row * (class / 8)) + q) ≡ true) (sym same) (t.open_here i lt (subst (λ q. has new_free (512 * q + i) ≡ true) same f)))
        | inr ne ↦
            let w = slab_within classes p cl at in let r = old.rows in
            t.open_other p (cl / 8) (omega (arith, w, r)) (λ e _. ne e) ∙ old.open_all p cl i at lt (sym (t.free_other p i ne lt) ∙ f)
      ];
    }

-- the lowest mark of a page's free slots is its lowest free slot
pub lowest_slot : (classes : List (Option ℕ)) (free live opened : List ℕ) (row class page n : ℕ) → AreMarks classes free live opened row → slice_index_or classes page None ≡ Some class
    → has free n ≡ true → 512 * page ≤ n → n < 512 * page + 512 → ((j : ℕ) → 512 * page ≤ j → j < n → has free j ≡ false)
    → IsFreeAt (record { classes = classes; live = live }) class page (n - 512 * page)
lowest_slot classes free live opened row class page n marks at here low high none =
    let i = n - 512 * page in
    let is : n ≡ 512 * page + (n - 512 * page) = omega (arith, low) in
    let small : n - 512 * page < 512 = omega (arith, low, high) in
    let f = and_parts (has_place (slice_index_or classes page None) (n - 512 * page)) (not (has live (512 * page + (n - 512 * page))))
    (sym (marks.free_is page (n - 512 * page) small) ∙ subst (λ m. has free m ≡ true) is here) in
    let fits = ltb-true (n - 512 * page) (4096 / class) (subst (λ o. has_place o (n - 512 * page) ≡ true) at f.0) in (
      at,
      fits,
      not-true (has live (512 * page + (n - 512 * page))) f.1,
      λ j less. elim (cases_Bool (has live (512 * page + j))) [
        | inl yes' ↦ yes'
        | inr dead ↦ absurd (both_ways (has free (512 * page + j)) (none (512 * page + j) (omega arith) (omega (arith, less, low)))
            (marks.free_is page j (omega (arith, less, small)) ∙ and_from (has_place (slice_index_or classes page None) j) (not (has live (512 * page + j)))
            (ap (λ o. has_place o j) at ∙ lt-ltb j (4096 / class) (omega (arith, less, fits))) (not_from_false (has live (512 * page + j)) dead)))
      ],
    )

pub apart : (page p i j : ℕ) → p ≢ page → i < 512 → j < 512 → 512 * p + j ≢ 512 * page + i
apart page p i j ne a b e = ne (omega (arith, a, b, e))

pub ne_test : (a b : ℕ) → a ≢ b → (a == b) ≡ false
ne_test a b ne = false_from_ne_true (a == b) (λ h. ne (eqb-true a b h))

and_false : (b : Bool) → (b && false) ≡ false
and_false true = refl
and_false false = refl

-- a free slot of a page becomes live
pub record SlotTaken (classes : List (Option ℕ)) (free live opened new_free new_live new_open : List ℕ) (row class page i : ℕ) : Type 0 where
  pub old : AreMarks classes free live opened row
  pub slot : IsFreeAt (record { classes = classes; live = live }) class page i
  pub small : i < 512
  pub free_words : length new_free ≡ length free
  pub live_words : length new_live ≡ length live
  pub open_words : length new_open ≡ length opened
  pub removed : (j : ℕ) → has new_free j ≡ (not (j == 512 * page + i) && has free j)
  pub inserted : (j : ℕ) → has new_live j ≡ (j == 512 * page + i || has live j)
  pub open_other : (p k : ℕ) → p < 64 * row → (p ≡ page → k ≡ class / 8 → ⊥) → has new_open (64 * (row * k) + p) ≡ has opened (64 * (row * k) + p)
  pub open_some : has new_open (64 * (row * (class / 8)) + page) ≡ true → (j : ℕ) × (j < 512) × (has new_free (512 * page + j) ≡ true)
  pub open_here : (j : ℕ) → j < 512 → has new_free (512 * page + j) ≡ true → has new_open (64 * (row * (class / 8)) + page) ≡ true

pub slot_taken : (classes : List (Option ℕ)) (free live opened new_free new_live new_open : List ℕ) (row class page i : ℕ)
    → SlotTaken classes free live opened new_free new_live new_open row class page i → AreMarks classes new_free new_live new_open row
slot_taken classes free live opened new_free new_live new_open row class page i t =
    let old = t.old in
    let gone : (n : ℕ) → n ≢ 512 * page + i → has new_free n ≡ has free n = λ n ne. t.removed n ∙ ap (λ b. not b && has free n) (ne_test n (512 * page + i) ne) in
    let kept : (n : ℕ) → n ≢ 512 * page + i → has new_live n ≡ has live n = λ n ne. t.inserted n ∙ ap (λ b. b || has live n) (ne_test n (512 * page + i) ne) in
    let at = t.slot.0 in
    changed_marks classes free live opened new_free new_live new_open row class page (record {
      old = old;
      at = at;
      free_words = t.free_words;
      live_words = t.live_words;
      open_words = t.open_words;
      free_other = λ p j ne lt. gone (512 * p + j) (apart page p i j ne t.small lt);
      live_other = λ p j ne lt. kept (512 * p + j) (apart page p i j ne t.small lt);
      free_here = λ j lt. elim (cases_eq j i) [
        | inl same ↦
            let is : 512 * page + j ≡ 512 * page + i = ap (λ n. 512 * page + n) same in
            t.removed (512 * page + j) ∙ ap (λ b. not b && has free (512 * page + j)) (eq-eqb (512 * page + j) (512 * page + i) is)
            ∙ sym (ap (λ b. nat_lt j (4096 / class) && not b) (t.inserted (512 * page + j) ∙ ap (λ b. b || has live (512 * page + j)) (eq-eqb (512 * page + j) (512 * page + i) is)) ∙ and_false (nat_lt j (4096 / class)))
        | inr ne ↦
            let far : 512 * page + j ≢ 512 * page + i = λ e. ne (omega (arith, e)) in
            gone (512 * page + j) far ∙ old.free_is page j lt ∙ ap (λ o. has_place o j && not (has live (512 * page + j))) at
            ∙ ap (λ b. nat_lt j (4096 / class) && not b) (sym (kept (512 * page + j) far))
      ];
      live_here = λ j lt h. elim (cases_eq j i) [
        | inl same ↦ lt-ltb j (4096 / class) (let f = t.slot.1 in omega (arith, f, same))
        | inr ne ↦
            let far : 512 * page + j ≢ 512 * page + i = λ e. ne (omega (arith, e)) in
            ap (λ o. has_place o j) (sym at) ∙ old.live_in page j lt (sym (kept (512 * page + j) far) ∙ h)
      ];
      open_other = t.open_other;
      open_some = t.open_some;
      open_here = t.open_here;
    })

-- it was free
pub was_free : (classes : List (Option ℕ)) (free live opened : List ℕ) (row class page i : ℕ) → AreMarks classes free live opened row → slice_index_or classes page None ≡ Some class
    → i < 512 → i < 4096 / class → has live (512 * page + i) ≡ false → has free (512 * page + i) ≡ true
was_free classes free live opened row class page i marks at small fits dead =
    marks.free_is page i small ∙ and_from (has_place (slice_index_or classes page None) i) (not (has live (512 * page + i)))
    (ap (λ o. has_place o i) at ∙ lt-ltb i (4096 / class) fits) (not_from_false (has live (512 * page + i)) dead)
