use Rattle.std.proofs.Common.{◌≡◌, ◌≢◌, ℕ, ◌+◌, ◌*◌, ◌<◌, ◌≤◌, true, false, ◌||◌, ◌==◌, List, length, slice_index_or, slice_set, Option, Some, None, option_map, if◌then◌else◌, refl, sym, ap, ◌∙◌, subst, arith, inl, inr}
use Rattle.std.proofs.lemmas.Bool.{both_ways, false_from_ne_true, cases_eq, or_cases, or_left, or_right, eqb-true, eq-eqb, ne_eqb}
use Rattle.std.proofs.lemmas.List.{get_or-set_same, get_or-set_other, length-set}
use Rattle.km_model.specs.Memory.{base}
use Rattle.km_model.specs.Placement.{page_start}
use Rattle.km_marks.specs.Sets.{has}
use Rattle.km_pages.specs.declared.runs.Run.{Run}
use Rattle.km_pages.specs.declared.runs.Use.TheVariants.{Slab}
use Rattle.km_pages.specs.Runs.{run_at, run_from}
use Rattle.km_pages.proofs.Touching.{page_of_start}
use Rattle.km_slab.specs.Blocks.{Sheets, AreMarks, IsSize, class_at, is_live, has_place, Fits}
use Rattle.km_slab.proofs.Places.{some_number}
use Rattle.km_slab.proofs.Rows.{no_class, place_small}
use Rattle.km_slab.proofs.Growing.{Grown}

-- no slab page is where no slab run begins
pub no_slab_there : (sheets : Sheets) (pages : List (Option Run)) (p : ℕ) → Fits sheets pages → run_at pages Slab (page_start p) ≡ None → class_at sheets p ≡ None
no_slab_there sheets pages p fits h =
    let one = subst (λ q. (if page_start p == page_start q then run_from pages Slab q else None) ≡ None) (page_of_start base p) h in
    none_from (class_at sheets p) (sym (fits.runs p) ∙ ap (λ b. if b then run_from pages Slab p else None) (sym (eq-eqb (page_start p) (page_start p) refl)) ∙ one) where
      none_from : (o : Option ℕ) → option_map {U = ℕ} (λ _. 1) o ≡ None → o ≡ None
      none_from None e = refl
      none_from (Some n) e = absurd cc

-- the slots of no slab page are dead
pub dead_there : (classes : List (Option ℕ)) (free live opened : List ℕ) (row p i : ℕ) → AreMarks classes free live opened row → slice_index_or classes p None ≡ None → i < 512 → has live (512 * p + i) ≡ false
dead_there classes free live opened row p i marks none lt =
    false_from_ne_true (has live (512 * p + i)) (λ h. both_ways (has_place (slice_index_or classes p None) i) (ap (λ o. has_place o i) none) (marks.live_in p i lt h))

-- a page that becomes a slab page with its first slot live
pub page_grown : (classes : List (Option ℕ)) (free live opened new_live : List ℕ) (row class p : ℕ) → AreMarks classes free live opened row → IsSize class → p < length classes
    → slice_index_or classes p None ≡ None → ((n : ℕ) → has new_live n ≡ (n == 512 * p + 0 || has live n))
    → Grown (record { classes = classes; live = live }) (record { classes = slice_set classes p (Some class); live = new_live }) class p 0
page_grown classes free live opened new_live row class p marks size within none inserted =
    let some = size.0 in let most = size.1 in
    let here : slice_index_or (slice_set classes p (Some class)) p None ≡ Some class = get_or-set_same classes p (Some class) None within in
    let other : (q : ℕ) → q ≢ p → slice_index_or (slice_set classes p (Some class)) q None ≡ slice_index_or classes q None = λ q ne. get_or-set_other classes p q (Some class) None ne in
    record {
      some = omega (arith, some);
      fits = omega (arith, most);
      at = here;
      here = inserted (512 * p + 0) ∙ or_left (512 * p + 0 == 512 * p + 0) (has live (512 * p + 0)) (eq-eqb (512 * p + 0) (512 * p + 0) refl);
      kept = λ q cl at. other q (λ same. no_class (slice_index_or classes p None) cl none (subst (λ r. slice_index_or classes r None ≡ Some cl) same at)) ∙ at;
      still = λ q j h. inserted (512 * q + j) ∙ or_right (512 * q + j == 512 * p + 0) (has live (512 * q + j)) h;
      back = λ q cl j at fits h. elim (cases_eq q p) [
        | inl same ↦
            let is : class ≡ cl = some_number class cl (sym here ∙ subst (λ r. slice_index_or (slice_set classes p (Some class)) r None ≡ Some cl) same at) in
            let few = place_small cl j (subst (λ n. 8 ≤ n) is some) fits in
            elim (or_cases (512 * q + j == 512 * p + 0) (has live (512 * q + j)) (sym (inserted (512 * q + j)) ∙ h)) [
              | inl first ↦ let e = eqb-true (512 * q + j) (512 * p + 0) first in inl (same, omega (arith, e, same))
              | inr old ↦ absurd (both_ways (has live (512 * p + j)) (dead_there classes free live opened row p j marks none few) (subst (λ r. has live (512 * r + j) ≡ true) same old))
            ]
        | inr ne ↦
            let was = sym (other q ne) ∙ at in
            let few = place_small cl j (marks.sizes q cl was).0 fits in
            elim (or_cases (512 * q + j == 512 * p + 0) (has live (512 * q + j)) (sym (inserted (512 * q + j)) ∙ h)) [
              | inl first ↦ let e = eqb-true (512 * q + j) (512 * p + 0) first in absurd (ne (omega (arith, e, few)))
              | inr old ↦ inr (was, old)
            ]
      ];
    }

-- the slab pages with a new one
pub page_fits : (sheets new : Sheets) (pages taken : List (Option Run)) (class p : ℕ) → Grown sheets new class p 0 → new.classes ≡ slice_set sheets.classes p (Some class) → length taken ≡ length pages
    → ((q : ℕ) → run_from taken Slab q ≡ (if q == p then Some 1 else run_from pages Slab q)) → Fits sheets pages → Fits new taken
page_fits sheets new pages taken class p g set size runs fits = record {
  count = ap length set ∙ length-set sheets.classes p (Some class) ∙ fits.count ∙ sym size;
  runs = λ q. runs q ∙ elim (cases_eq q p) [
    | inl same ↦ ap (λ b. if b then Some 1 else run_from pages Slab q) (eq-eqb q p same) ∙ ap (option_map (λ _. 1)) (sym g.at) ∙ ap (λ r. option_map (λ _. 1) (class_at new r)) (sym same)
    | inr ne ↦ ap (λ b. if b then Some 1 else run_from pages Slab q) (ne_eqb q p ne) ∙ fits.runs q ∙ ap (option_map (λ _. 1)) (sym (same_class q ne))
  ];
  some = λ q cl at. elim (cases_eq q p) [
    | inl same ↦ let is : class ≡ cl = some_number class cl (sym g.at ∙ subst (λ r. class_at new r ≡ Some cl) same at) in
        (0, subst (λ n. n * (0 + 1) ≤ 4096) is g.fits, subst (λ r. is_live new r 0 ≡ true) (sym same) g.here)
    | inr ne ↦ let old = fits.some q cl (sym (same_class q ne) ∙ at) in (old.0, old.1, g.still q old.0 old.2)
  ];
} where
  same_class : (q : ℕ) → q ≢ p → class_at new q ≡ class_at sheets q
  same_class q ne = ap (λ xs. slice_index_or xs q None) set ∙ get_or-set_other sheets.classes p q (Some class) None ne
