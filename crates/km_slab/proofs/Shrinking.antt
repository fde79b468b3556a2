use Rattle.std.proofs.Common.{◌≡◌, ◌≢◌, ℕ, ◌+◌, ◌-◌, ◌*◌, ◌/◌, ◌<◌, ◌≤◌, true, false, not, ◌&&◌, ◌==◌, List, length, get_or, slice_index_or, slice_set, Option, Some, None, option_map, if◌then◌else◌, refl, sym, ap, ◌∙◌, subst, arith, ◌⊎◌, inl, inr, ltb-true}
use Rattle.std.specs.List.{list_any}
use Rattle.std.proofs.lemmas.Bool.{and_parts, both_ways, cases_eq, eq-eqb, eqb-true, false_from_ne_true, ne_eqb, not-true, not_from_false}
use Rattle.std.proofs.lemmas.List.{get_or-set_same, get_or-set_other, length-set}
use Rattle.km_model.specs.Memory.{base}
use Rattle.km_model.specs.Placement.{Allocation, page_start, page_of, touches, is_free_page, is_slab_block, without_allocation}
use Rattle.km_model.proofs.Pages.{touch}
use Rattle.km_pages.specs.declared.runs.Run.{Run}
use Rattle.km_pages.specs.declared.runs.Use.TheVariants.{Slab}
use Rattle.km_pages.specs.Runs.{run_at, run_with, run_from}
use Rattle.km_pages.specs.Laid.{IsIn, IsLaid, AreLaid, BeginAt}
use Rattle.km_pages.proofs.Touching.{in_run, begins_in, run_at_page}
use Rattle.km_pages.proofs.Laying.{all_left, any_left, same_run}
use Rattle.km_marks.specs.Sets.{has}
use Rattle.km_slab.specs.Blocks.{Sheets, AreMarks, has_place, class_at, is_live, slot_start, is_slot, IsSlot, Loses, AreBlocks, Fits}
use Rattle.km_slab.proofs.Slots.{any_weaker, page_of_slot, place_fits, slot_parts}
use Rattle.km_slab.proofs.Places.{cancelled, slab_there, slot_within, some_number}
use Rattle.km_slab.proofs.Rows.{no_class, place_small}
use Rattle.km_slab.proofs.Growing.{slab_run}

-- one slot fewer is live
pub record Shrunk (sheets new : Sheets) (class p i : ℕ) : Type 0 where
  pub some : 0 < class
  pub fits : class * (i + 1) ≤ 4096
  pub at : class_at sheets p ≡ Some class
  pub gone : is_live new p i ≡ false
  pub back : (q cl : ℕ) → class_at new q ≡ Some cl → class_at sheets q ≡ Some cl
  pub was : (q j : ℕ) → is_live new q j ≡ true → is_live sheets q j ≡ true
  pub still : (q cl j : ℕ) → class_at sheets q ≡ Some cl → j < 4096 / cl → is_live sheets q j ≡ true → ((q ≡ p) × (j ≡ i)) ⊎ ((class_at new q ≡ Some cl) × (is_live new q j ≡ true))

-- the other slots are as they were
stays : (sheets new : Sheets) (class p i n a : ℕ) → ((q cl : ℕ) → class_at sheets q ≡ Some cl → 8 ≤ cl) → Shrunk sheets new class p i → IsSlot sheets n a → (a ≡ slot_start class p i → ⊥) → IsSlot new n a
stays sheets new class p i n a sizes g s far =
    let size = sizes s.page n s.class in
    elim (g.still s.page n s.place s.class (place_fits n s.place (omega (arith, size)) s.fits) s.live) [
      | inl same ↦
          let is : n ≡ class = some_number n class (sym s.class ∙ ap (class_at sheets) same.0 ∙ g.at) in
          absurd (far (s.start ∙ ap (λ m. slot_start m s.page s.place) is ∙ ap (λ q. slot_start class q s.place) same.0 ∙ ap (slot_start class p) same.1))
      | inr k ↦ record { page = s.page; place = s.place; class = k.0; fits = s.fits; start = s.start; live = k.1 }
    ]

begins_elsewhere : (sheets new : Sheets) (class p i q cl j : ℕ) → ((q cl : ℕ) → class_at sheets q ≡ Some cl → 8 ≤ cl) → Shrunk sheets new class p i → class_at sheets q ≡ Some cl → cl * (j + 1) ≤ 4096 → is_live new q j ≡ true
    → slot_start cl q j ≡ slot_start class p i → ⊥
begins_elsewhere sheets new class p i q cl j sizes g at fits live e =
    let size = sizes q cl at in
    let some : 0 < cl = omega (arith, size) in
    let same : q ≡ p = sym (page_of_slot base cl q j some fits) ∙ ap page_of e ∙ page_of_slot base class p i g.some g.fits in
    let is : cl ≡ class = some_number cl class (sym at ∙ ap (class_at sheets) same ∙ g.at) in
    let inside : base + 4096 * p + class * j ≡ base + 4096 * p + class * i = ap (λ n. slot_start n p j) (sym is) ∙ ap (λ r. slot_start cl r j) (sym same) ∙ e in
    let place : j ≡ i = cancelled class j i g.some (omega (arith, inside)) in
    both_ways (is_live new p i) g.gone (subst (λ n. is_live new p n ≡ true) place (subst (λ r. is_live new r j ≡ true) same live))

pub lost : (sheets new : Sheets) (class p i : ℕ) → ((q cl : ℕ) → class_at sheets q ≡ Some cl → 8 ≤ cl) → Shrunk sheets new class p i → Loses sheets new (slot_start class p i)
lost sheets new class p i sizes g = record {
  still = λ n b s far. stays sheets new class p i n b sizes g s far;
  back = λ n b s. (
    record { page = s.page; place = s.place; class = g.back s.page n s.class; fits = s.fits; start = s.start; live = g.was s.page s.place s.live },
    λ e. begins_elsewhere sheets new class p i s.page n s.place sizes g (g.back s.page n s.class) s.fits s.live (sym s.start ∙ e),
  );
}

-- the blocks without that of the slot
pub blocks_shrunk : (sheets new : Sheets) (used : List Allocation) (class p i : ℕ) → ((q cl : ℕ) → class_at sheets q ≡ Some cl → 8 ≤ cl) → Shrunk sheets new class p i → AreBlocks sheets used
    → AreBlocks new (without_allocation used (slot_start class p i))
blocks_shrunk sheets new used class p i sizes g blocks =
    let keep = λ (x : Allocation). not (x.start == slot_start class p i) in
    let P = λ (s : Sheets) (x : Allocation). is_slab_block x ≡ true → IsSlot s x.size x.start in
    record {
      slots = all_left (P sheets) (P new) keep used
          (λ x f h slab. stays sheets new class p i x.size x.start sizes g (f slab)
          (λ e. both_ways (x.start == slot_start class p i) (not-true (x.start == slot_start class p i) h) (eq-eqb x.start (slot_start class p i) e))) blocks.slots;
      live = λ q cl j at fits live.
          let before = g.back q cl at in
          let size = sizes q cl before in
          any_left (is_slot cl (slot_start cl q j)) keep used
          (λ k d lt h. let x = get_or used k d in
          not_from_false (x.start == slot_start class p i) (false_from_ne_true (x.start == slot_start class p i) (λ e.
          begins_elsewhere sheets new class p i q cl j sizes g before (slot_within cl j (omega (arith, size)) fits) live (sym (slot_parts cl (slot_start cl q j) x h).2 ∙ eqb-true x.start (slot_start class p i) e))))
          ∙ blocks.live q cl j before fits (g.was q j live);
    }

-- the pages stay those of the slab pages
pub fits_shrunk : (sheets new : Sheets) (pages : List (Option Run)) (class p i j : ℕ) → ((q cl : ℕ) → class_at sheets q ≡ Some cl → 8 ≤ cl) → Shrunk sheets new class p i → new.classes ≡ sheets.classes → class * (j + 1) ≤ 4096
    → is_live new p j ≡ true → Fits sheets pages → Fits new pages
fits_shrunk sheets new pages class p i j sizes g same room live fits = record {
  count = ap length same ∙ fits.count;
  runs = λ q. fits.runs q ∙ ap (λ xs. option_map (λ _. 1) (slice_index_or xs q None)) (sym same);
  some = λ q cl at.
      let before = g.back q cl at in
      let s = fits.some q cl before in
      let size = sizes q cl before in
      elim (g.still q cl s.0 before (place_fits cl s.0 (omega (arith, size)) s.1) s.2) [
        | inl here ↦
            let is : class ≡ cl = some_number class cl (sym g.at ∙ ap (class_at sheets) (sym here.0) ∙ before) in
            (j, subst (λ n. n * (j + 1) ≤ 4096) is room, subst (λ r. is_live new r j ≡ true) (sym here.0) live)
        | inr k ↦ (s.0, s.1, k.1)
      ];
}

-- a byte of a page that another live slot holds
slot_touches : (class p j : ℕ) (x : Allocation) → 0 < class → class * (j + 1) ≤ 4096 → is_slot class (slot_start class p j) x ≡ true → touches p x ≡ true
slot_touches class p j x some room h =
    let k = slot_parts class (slot_start class p j) x h in
    let size = k.1 in let start = k.2 in
    let more : class * (j + 1) ≡ class * j + class = omega arith in
    touch p x (omega (arith, start, more, room, some)) (omega (arith, start, size, some))

-- the pages of the blocks that are left, where another slot of the page is live
pub laid_shrunk : (sheets new : Sheets) (pages : List (Option Run)) (used : List Allocation) (class p i j : ℕ) → ((q cl : ℕ) → class_at sheets q ≡ Some cl → 8 ≤ cl) → Shrunk sheets new class p i
    → class_at new p ≡ Some class → class * (j + 1) ≤ 4096 → is_live new p j ≡ true → Fits sheets pages → AreLaid pages used → AreBlocks sheets used → AreLaid pages (without_allocation used (slot_start class p i))
laid_shrunk sheets new pages used class p i j sizes g at room live fits laid blocks =
    let keep = λ (x : Allocation). not (x.start == slot_start class p i) in
    let left = without_allocation used (slot_start class p i) in
    let r = slab_run sheets pages class p fits g.at in
    let first = r.first in let one = r.len in
    record {
      each = all_left (IsLaid pages) (IsLaid pages) keep used (λ x l h. l) laid.each;
      held = λ q free. elim (cases_eq q p) [
        | inl same ↦
            let there = (blocks_shrunk sheets new used class p i sizes g blocks).live p class j at (place_fits class j g.some room) live in
            absurd (both_ways (list_any (touches p) (without_allocation used (slot_start class p i)))
            (not-true (list_any (touches p) (without_allocation used (slot_start class p i))) (subst (λ n. is_free_page (without_allocation used (slot_start class p i)) n ≡ true) same free))
            (any_weaker (is_slot class (slot_start class p j)) (touches p) (without_allocation used (slot_start class p i)) (λ x h. slot_touches class p j x g.some room h) there))
        | inr ne ↦ laid.held q (not_from_false (list_any (touches q) used)
            (sym (any_left (touches q) keep used (λ k d lt t. stays q ne (get_or used k d) (laid.each k d lt) t))
            ∙ not-true (list_any (touches q) (without_allocation used (slot_start class p i))) free))
      ];
    } where
      stays : (q : ℕ) → q ≢ p → (x : Allocation) → IsLaid pages x → touches q x ≡ true → not (x.start == slot_start class p i) ≡ true
      stays q ne x l t = not_from_false (x.start == slot_start class p i) (false_from_ne_true (x.start == slot_start class p i) (λ e.
          let page : page_of x.start ≡ p = ap page_of (eqb-true x.start (slot_start class p i) e) ∙ page_of_slot base class p i g.some g.fits in
          let inside = l.inside in
          let b = begins_in l.run x inside in
          let r = slab_run sheets pages class p fits g.at in
          let is : l.run ≡ r.run = same_run pages p l.run r.run (subst (λ n. run_with pages n ≡ Some l.run) page (l.has (page_of x.start) b.0 b.1)) r.is in
          let first = r.first in let one = r.len in
          let m = in_run q r.run x (subst (λ s. IsIn s x) is inside) t in
          ne (omega (arith, m, first, one))))

-- what lies in a page whose only live slot this is begins there
pub alone : (sheets : Sheets) (pages : List (Option Run)) (used : List Allocation) (class p i : ℕ) → 0 < class → class * (i + 1) ≤ 4096 → class_at sheets p ≡ Some class
    → ((j : ℕ) → j < 4096 / class → is_live sheets p j ≡ true → j ≡ i) → Fits sheets pages → AreLaid pages used → AreBlocks sheets used → BeginAt used 1 (page_start p) (slot_start class p i)
alone sheets pages used class p i some room at only fits laid blocks =
    let more : class * (i + 1) ≡ class * i + class = omega arith in
    record {
      low = omega arith;
      high = omega (arith, more, room, some);
      alone = λ k d lt low high. begins (get_or used k d) (laid.each k d lt) (blocks.slots k d lt) low high;
    } where
      page_there : (b n a : ℕ) → b + 4096 * n ≤ a → a < b + 4096 * n + 4096 * 1 → (a - b) / 4096 ≡ n
      page_there b n a low high = omega (arith, low, high)

      begins : (x : Allocation) → IsLaid pages x → (is_slab_block x ≡ true → IsSlot sheets x.size x.start) → page_start p ≤ x.start → x.start < page_start p + 4096 * 1 → x.start ≡ slot_start class p i
      begins x l slot low high =
          let page : page_of x.start ≡ p = page_there base p x.start low high in
          let s = slot (slab_there sheets pages class p x fits at l page) in
          let full = l.inside.some in
          let same : s.page ≡ p = sym (page_of_slot base x.size s.page s.place full s.fits) ∙ ap page_of (sym s.start) ∙ page in
          let is : x.size ≡ class = some_number x.size class (sym (subst (λ q. class_at sheets q ≡ Some x.size) same s.class) ∙ at) in
          let place : s.place ≡ i = only s.place (subst (λ n. s.place < 4096 / n) is (place_fits x.size s.place full s.fits)) (subst (λ q. is_live sheets q s.place ≡ true) same s.live) in
          s.start ∙ ap (λ n. slot_start n s.page s.place) is ∙ ap (λ q. slot_start class q s.place) same ∙ ap (slot_start class p) place

-- a live slot that becomes free
pub slot_shrunk : (classes : List (Option ℕ)) (free live opened new_live : List ℕ) (row class p i : ℕ) → AreMarks classes free live opened row → slice_index_or classes p None ≡ Some class → i < 512
    → i < 4096 / class → ((n : ℕ) → has new_live n ≡ (not (n == 512 * p + i) && has live n)) → Shrunk (record { classes = classes; live = live }) (record { classes = classes; live = new_live }) class p i
slot_shrunk classes free live opened new_live row class p i marks at small within removed =
    let size = (marks.sizes p class at).0 in
    let some : 0 < class = omega (arith, size) in
    record {
      some = some;
      fits = slot_within class i some within;
      at = at;
      gone = removed (512 * p + i) ∙ ap (λ b. not b && has live (512 * p + i)) (eq-eqb (512 * p + i) (512 * p + i) refl);
      back = λ q cl h. h;
      was = λ q j h. (and_parts (not (512 * q + j == 512 * p + i)) (has live (512 * q + j)) (sym (removed (512 * q + j)) ∙ h)).1;
      still = λ q cl j h fits was.
          let few = place_small cl j (marks.sizes q cl h).0 fits in
          elim (cases_eq (512 * q + j) (512 * p + i)) [
            | inl same ↦ inl (omega (arith, same, few, small), omega (arith, same, few, small))
            | inr ne ↦ inr (h, removed (512 * q + j) ∙ ap (λ b. not b && has live (512 * q + j)) (ne_eqb (512 * q + j) (512 * p + i) ne) ∙ was)
          ];
    }

-- a page whose last live slot becomes free, and that becomes none of the slab pages
pub page_shrunk : (sheets new : Sheets) (class p i : ℕ) → Shrunk sheets (record { classes = sheets.classes; live = new.live }) class p i → p < length sheets.classes
    → new.classes ≡ slice_set sheets.classes p None → ((j : ℕ) → j < 4096 / class → is_live new p j ≡ false) → Shrunk sheets new class p i
page_shrunk sheets new class p i g inside set dead =
    let other : (q : ℕ) → q ≢ p → class_at new q ≡ class_at sheets q = λ q ne. ap (λ xs. slice_index_or xs q None) set ∙ get_or-set_other sheets.classes p q None None ne in
    let here : class_at new p ≡ None = ap (λ xs. slice_index_or xs p None) set ∙ get_or-set_same sheets.classes p None None inside in
    record {
      some = g.some;
      fits = g.fits;
      at = g.at;
      gone = g.gone;
      back = λ q cl h. elim (cases_eq q p) [
        | inl same ↦ absurd (no_class (class_at new p) cl here (subst (λ r. class_at new r ≡ Some cl) same h))
        | inr ne ↦ sym (other q ne) ∙ h
      ];
      was = g.was;
      still = λ q cl j h fits live. elim (g.still q cl j h fits live) [
        | inl same ↦ inl same
        | inr k ↦ elim (cases_eq q p) [
          | inl same ↦
              let is : cl ≡ class = some_number cl class (sym h ∙ ap (class_at sheets) same ∙ g.at) in
              absurd (both_ways (is_live new p j) (dead j (subst (λ n. j < 4096 / n) is fits)) (subst (λ r. is_live new r j ≡ true) same k.1))
          | inr ne ↦ inr (other q ne ∙ h, k.1)
        ]
      ];
    }

-- the pages are those of the slab pages that are left
pub page_fits : (sheets new : Sheets) (pages given : List (Option Run)) (class p i : ℕ) → ((q cl : ℕ) → class_at sheets q ≡ Some cl → 8 ≤ cl) → Shrunk sheets new class p i → p < length sheets.classes
    → new.classes ≡ slice_set sheets.classes p None → length given ≡ length pages → ((q : ℕ) → run_from given Slab q ≡ (if q == p then None else run_from pages Slab q)) → Fits sheets pages → Fits new given
page_fits sheets new pages given class p i sizes g inside set size runs fits =
    let here : class_at new p ≡ None = ap (λ xs. slice_index_or xs p None) set ∙ get_or-set_same sheets.classes p None None inside in
    record {
      count = ap length set ∙ length-set sheets.classes p None ∙ fits.count ∙ sym size;
      runs = λ q. runs q ∙ elim (cases_eq q p) [
        | inl same ↦ ap (λ b. if b then None else run_from pages Slab q) (eq-eqb q p same) ∙ ap (option_map (λ _. 1)) (sym here) ∙ ap (λ r. option_map (λ _. 1) (class_at new r)) (sym same)
        | inr ne ↦ ap (λ b. if b then None else run_from pages Slab q) (ne_eqb q p ne) ∙ fits.runs q
            ∙ ap (option_map (λ _. 1)) (sym (ap (λ xs. slice_index_or xs q None) set ∙ get_or-set_other sheets.classes p q None None ne))
      ];
      some = λ q cl at.
          let before = g.back q cl at in
          let s = fits.some q cl before in
          let low = sizes q cl before in
          elim (g.still q cl s.0 before (place_fits cl s.0 (omega (arith, low)) s.1) s.2) [
            | inl same ↦ absurd (no_class (class_at new p) cl here (subst (λ r. class_at new r ≡ Some cl) same.0 at))
            | inr k ↦ (s.0, s.1, k.1)
          ];
    }

-- another live slot of a page
pub other_live : (classes : List (Option ℕ)) (free live opened : List ℕ) (row class p n : ℕ) → AreMarks classes free live opened row → slice_index_or classes p None ≡ Some class
    → 512 * p ≤ n → n < 512 * p + 512 → has live n ≡ true → (class * (n - 512 * p + 1) ≤ 4096) × (has live (512 * p + (n - 512 * p)) ≡ true)
other_live classes free live opened row class p n marks at low high here =
    let is : n ≡ 512 * p + (n - 512 * p) = omega (arith, low) in
    let here' = subst (λ k. has live k ≡ true) is here in
    let size = (marks.sizes p class at).0 in
    let lt = ltb-true (n - 512 * p) (4096 / class) (subst (λ o. has_place o (n - 512 * p) ≡ true) at (marks.live_in p (n - 512 * p) (omega (arith, low, high)) here')) in
    (slot_within class (n - 512 * p) (omega (arith, size)) lt, here')

-- slab pages are known by their parts
pub same_sheets : (s t : Sheets) → s.classes ≡ t.classes → s.live ≡ t.live → s ≡ t
same_sheets s t a b = λ i. record { classes = a i; live = b i }

-- a slab page is a run of one page
pub slab_starts : (sheets : Sheets) (pages : List (Option Run)) (class p : ℕ) → Fits sheets pages → class_at sheets p ≡ Some class → run_at pages Slab (page_start p) ≡ Some 1
slab_starts sheets pages class p fits at =
    run_at_page pages Slab (page_start p) p refl ∙ fits.runs p ∙ ap (option_map (λ _. 1)) at
