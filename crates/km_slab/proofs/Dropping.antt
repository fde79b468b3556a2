use Rattle.std.proofs.Common.{◌≡◌, ◌≢◌, ℕ, ◌+◌, ◌*◌, ◌/◌, ◌<◌, Bool, true, false, not, ◌&&◌, ◌==◌, nat_le, nat_lt, List, length, slice_index_or, slice_set, Option, Some, None, refl, sym, ap, ◌∙◌, subst, arith, inl, inr}
use Rattle.std.proofs.lemmas.Bool.{and_parts, both_ways, not-true, cases_eq, eq-eqb}
use Rattle.std.proofs.lemmas.List.{get_or-set_same, get_or-set_other, length-set}
use Rattle.km_marks.specs.Sets.{has}
use Rattle.km_slab.specs.Blocks.{AreMarks, IsSize, has_place}
use Rattle.km_slab.proofs.Places.{some_number}
use Rattle.km_slab.proofs.Rows.{no_class}
use Rattle.km_slab.proofs.Taking.{one_row, page_range, other_range, some_slots}
use Rattle.km_slab.proofs.Changing.{slab_within, ne_test}

neither : (b x : Bool) → (not b && (b && x)) ≡ false
neither true x = refl
neither false x = refl

pub record Dropped (classes : List (Option ℕ)) (free live opened new_free new_open : List ℕ) (row class page : ℕ) : Type 0 where
  pub old : AreMarks classes free live opened row
  pub size : IsSize class
  pub within : page < length classes
  pub at : slice_index_or classes page None ≡ Some class
  pub dead : (i : ℕ) → i < 512 → has live (512 * page + i) ≡ false
  pub words : length new_free ≡ length free
  pub open_words : length new_open ≡ length opened
  pub cleared : (j : ℕ) → has new_free j ≡ (not (nat_le (512 * page) j && nat_lt j (512 * page + 4096 / class)) && has free j)
  pub removed : (j : ℕ) → has new_open j ≡ (not (j == 64 * (row * (class / 8)) + page) && has opened j)

-- a slab page that becomes none
pub dropped_marks : (classes : List (Option ℕ)) (free live opened new_free new_open : List ℕ) (row class page : ℕ) → Dropped classes free live opened new_free new_open row class page
    → AreMarks (slice_set classes page None) new_free live new_open row
dropped_marks classes free live opened new_free new_open row class page t =
    let old = t.old in
    let count : length (slice_set classes page None) ≡ length classes = length-set classes page None in
    let few = some_slots class t.size.0 t.size.1 in
    let rows = old.rows in let inside = t.within in
    let mark = 64 * (row * (class / 8)) + page in
    let here : slice_index_or (slice_set classes page None) page None ≡ None = get_or-set_same classes page None None t.within in
    let other : (p : ℕ) → p ≢ page → slice_index_or (slice_set classes page None) p None ≡ slice_index_or classes p None = λ p ne. get_or-set_other classes page p None None ne in
    let differs : (p cl : ℕ) → slice_index_or (slice_set classes page None) p None ≡ Some cl → p ≢ page = λ p cl at same.
    no_class (slice_index_or (slice_set classes page None) page None) cl here (subst (λ q. slice_index_or (slice_set classes page None) q None ≡ Some cl) same at) in
    let free_here : (i : ℕ) → i < 512 → has new_free (512 * page + i) ≡ false = λ i lt.
    t.cleared (512 * page + i) ∙ ap (λ b. not b && has free (512 * page + i)) (page_range page i (4096 / class))
    ∙ ap (λ b. not (nat_lt i (4096 / class)) && b) (old.free_is page i lt ∙ ap (λ o. has_place o i && not (has live (512 * page + i))) t.at)
    ∙ neither (nat_lt i (4096 / class)) (not (has live (512 * page + i))) in
    let free_other : (p i : ℕ) → p ≢ page → i < 512 → has new_free (512 * p + i) ≡ has free (512 * p + i) = λ p i ne lt.
    t.cleared (512 * p + i) ∙ ap (λ b. not b && has free (512 * p + i)) (other_range page p i (4096 / class) ne lt few.1) in
    record {
      short = subst (λ n. n < 4294967296) (sym count) old.short;
      free_words = (let a = t.words in let b = old.free_words in omega (arith, a, b, count));
      live_words = (let b = old.live_words in omega (arith, b, count));
      rows = rows ∙ ap (λ n. n / 64 + 1) (sym count);
      open_words = t.open_words ∙ old.open_words;
      sizes = λ p cl at. old.sizes p cl (sym (other p (differs p cl at)) ∙ at);
      free_is = λ p i lt. elim (cases_eq p page) [
        | inl same ↦ subst (λ q. has new_free (512 * q + i) ≡ (has_place (slice_index_or (slice_set classes page None) q None) i && not (has live (512 * q + i)))) (sym same)
            (free_here i lt ∙ ap (λ o. has_place o i && not (has live (512 * page + i))) (sym here))
        | inr ne ↦ free_other p i ne lt ∙ old.free_is p i lt ∙ ap (λ o. has_place o i && not (has live (512 * p + i))) (sym (other p ne))
      ];
      live_in = λ p i lt h. elim (cases_eq p page) [
        | inl same ↦ absurd (both_ways (has live (512 * page + i)) (t.dead i lt) (subst (λ q. has live (512 * q + i) ≡ true) same h))
        | inr ne ↦ ap (λ o. has_place o i) (other p ne) ∙ old.live_in p i lt h
      ];
      open_has = λ p k lt h.
          let parts = and_parts (not (64 * (row * k) + p == mark)) (has opened (64 * (row * k) + p)) (sym (t.removed (64 * (row * k) + p)) ∙ h) in
          let o = old.open_has p k lt parts.1 in
          elim (cases_eq p page) [
            | inl same ↦
                let is : class ≡ 8 * k = some_number class (8 * k) (sym t.at ∙ ap (λ q. slice_index_or classes q None) (sym same) ∙ o.0) in
                let row_same : k ≡ class / 8 = (let a = t.size.2 in omega (arith, is, a)) in
                absurd (both_ways (64 * (row * k) + p == mark) (not-true (64 * (row * k) + p == mark) parts.0)
                (eq-eqb (64 * (row * k) + p) mark (ap (λ n. 64 * (row * n) + p) row_same ∙ ap (λ q. 64 * (row * (class / 8)) + q) same)))
            | inr ne ↦ (other p ne ∙ o.0, o.1, o.2, free_other p o.1 ne o.2 ∙ o.3)
          ];
      open_all = λ p cl i at lt f.
          let ne = differs p cl at in
          let was = sym (other p ne) ∙ at in
          let w = slab_within classes p cl was in
          t.removed (64 * (row * (cl / 8)) + p)
          ∙ ap (λ b. not b && has opened (64 * (row * (cl / 8)) + p))
          (ne_test (64 * (row * (cl / 8)) + p) mark (λ e. ne (one_row row (cl / 8) (class / 8) p page (omega (arith, w, rows)) (omega (arith, rows, inside)) e).1))
          ∙ old.open_all p cl i was lt (sym (free_other p i ne lt) ∙ f);
    }
