use Rattle.std.proofs.Common.{◌≡◌, ℕ, ◌+◌, ◌-◌, ◌*◌, ◌<◌, ◌≤◌, true, false, List, slice_index_or, slice_set, Option, Some, None, sym, ap, subst, ◌∙◌, arith, inl, inr}
use Rattle.std.proofs.lemmas.Bool.{both_ways}
use Rattle.std.proofs.lemmas.List.{set-get_or, set-set}
use Rattle.km_marks.specs.Sets.{has}
use Rattle.km_pages.specs.declared.runs.Run.{Run}
use Rattle.km_slab.specs.Blocks.{Sheets, Takes, TakesOpen, TakesFree, TakesSlot, class_at, is_live, slot_start}
use Rattle.km_slab.proofs.Rows.{place_small}
use Rattle.km_slab.proofs.Slots.{page_of_slot, place_fits}
use Rattle.km_slab.proofs.Places.{place_of_slot, some_number}
use Rattle.km_model.specs.Memory.{base}
use Rattle.km_model.specs.Placement.{page_of}

-- a page that became a slab page and no longer is one
pub no_page_again : (classes : List (Option ℕ)) (p class : ℕ) → slice_index_or classes p None ≡ None → slice_set (slice_set classes p (Some class)) p None ≡ classes
no_page_again classes p class none = set-set classes p (Some class) None ∙ ap (slice_set classes p) (sym none) ∙ set-get_or classes p None

-- a page that keeps a live slot was no free one when the slot was taken
pub was_open : (sheets new : Sheets) (pages new_pages : List (Option Run)) (class p i n : ℕ) → TakesSlot sheets new pages new_pages class p i
    → 512 * p ≤ n → n < 512 * p + 512 → has sheets.live n ≡ true → TakesOpen sheets new pages new_pages class p
was_open sheets new pages new_pages class p i n takes low high live = elim takes.there [
  | inl here ↦ here
  | inr free ↦ let at : 512 * p + (n - 512 * p) ≡ n = omega (arith, low) in
      absurd (both_ways (is_live sheets p (n - 512 * p)) (free.dead (n - 512 * p) (omega (arith, low, high))) (ap (has sheets.live) at ∙ live))
]

-- and one that keeps none was free
pub was_free : (sheets new : Sheets) (pages new_pages : List (Option Run)) (class p i : ℕ) → 8 ≤ class → TakesSlot sheets new pages new_pages class p i
    → ((n : ℕ) → 512 * p ≤ n → n < 512 * p + 512 → has sheets.live n ≡ false) → TakesFree sheets new pages new_pages class p
was_free sheets new pages new_pages class p i size takes dead = elim takes.there [
  | inl here ↦
      let j = here.other.0 in
      let few : here.other.0 < 512 = place_small class j size (place_fits class j (omega (arith, size)) here.other.1) in
      absurd (both_ways (is_live sheets p j) (dead (512 * p + j) (omega arith) (omega (arith, few))) here.other.2)
  | inr free ↦ free
]

-- what was taken is the slot that begins there
pub takes_there : (sheets new : Sheets) (pages new_pages : List (Option Run)) (n class p i : ℕ) → 0 < class → class * (i + 1) ≤ 4096 → class_at new p ≡ Some class
    → (t : Takes sheets new pages new_pages n (slot_start class p i)) → 8 ≤ n → TakesSlot sheets new pages new_pages class p i
takes_there sheets new pages new_pages n class p i some within at t full =
    let same : t.page ≡ p = sym (page_of_slot base n t.page t.place (omega (arith, full)) t.fits) ∙ ap page_of (sym t.start) ∙ page_of_slot base class p i some within in
    let size : n ≡ class = some_number n class (sym (subst (λ q. class_at new q ≡ Some n) same t.class) ∙ at) in
    let began : slot_start class p i ≡ slot_start class p t.place = subst (λ m. slot_start class p i ≡ slot_start m p t.place) size (subst (λ q. slot_start class p i ≡ slot_start n q t.place) same t.start) in
    let place : t.place ≡ i = place_of_slot base class p t.place i some (sym began) in
    subst (λ m. TakesSlot sheets new pages new_pages m p i) size
    (subst (λ j. TakesSlot sheets new pages new_pages n p j) place
    (subst (λ q. TakesSlot sheets new pages new_pages n q t.place) same t.takes))
