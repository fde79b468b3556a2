use Rattle.std.proofs.Common.{◌≡◌, ℕ, suc, ◌+◌, ◌-◌, ◌*◌, ◌/◌, ◌%◌, ◌<◌, ◌≤◌, Bool, true, false, not, ◌&&◌, ◌==◌, nat_le, nat_lt, List, [], ◌∷◌, ◌++◌, Option, Some, None, if◌then◌else◌, refl, sym, ap, subst, arith, leb-true, le-leb, eqb-true}
use Rattle.std.proofs.lemmas.Bool.{and_parts, not-false, or_parts, ltb-false, eqb-false}
use Rattle.km_base.specs.declared.acts.Answer.{Answer}
use Rattle.km_base.specs.declared.acts.Answer.TheVariants.{Done, At}
use Rattle.km_base.specs.declared.acts.Refusal.{Refusal}
use Rattle.km_base.specs.declared.acts.Refusal.TheVariants.{NotInside}
use Rattle.km_model.specs.Memory.{base, in_memory}
use Rattle.km_model.specs.Blocks.{Block}
use Rattle.km_model.specs.Placement.{free_slot, class_of, Allocation, pages_for, lowest_run, run_place, slab_place, next_head, area_place, kmalloc_place}
use Rattle.km_model.specs.Past.{is_refused}
use Rattle.km_model.specs.Answers.{unless, done_at, at_place, is_bad_size, is_uneven, part_answer}
use Rattle.km_laws.specs.Placed.{Words}
use Rattle.km_laws.proofs.Pages.{run_is}

-- what an accepted answer says
pub unless_open : (fails : Bool) (refusal : Refusal) (s : Answer) → is_refused (unless fails refusal s) ≡ false → (fails ≡ false) × (unless fails refusal s ≡ s) × (is_refused s ≡ false)
unless_open true refusal s h = absurd cc
unless_open false refusal s h = (refl, refl, h)

pub done_open : (o : Option ℕ) → is_refused (done_at o) ≡ false → (a : ℕ) × (o ≡ Some a)
done_open None h = absurd cc
done_open (Some a) h = (a, refl)

pub at_open : (o : Option ℕ) → is_refused (at_place o) ≡ false → (a : ℕ) × (o ≡ Some a) × (at_place o ≡ At a)
at_open None h = absurd cc
at_open (Some a) h = (a, refl, refl)

pub good_size : (limit size : ℕ) → is_bad_size limit size ≡ false → 0 < size
good_size limit size h =
    let k = eqb-false size 0 (or_parts (size == 0) (nat_lt limit size) h).0 in omega (arith, k)

pub within_size : (limit size : ℕ) → is_bad_size limit size ≡ false → size ≤ limit
within_size limit size h = ltb-false limit size (or_parts (size == 0) (nat_lt limit size) h).1

pub even_size : (size : ℕ) → is_uneven size ≡ false → Words size
even_size size h =
    let parts = or_parts (size == 0) (not (size % 8 == 0)) h in
    let some = eqb-false size 0 parts.0 in
    let even = eqb-true (size % 8) 0 (not-false (size % 8 == 0) parts.1) in
    (size / 8 - 1, omega (arith, some, even))

pub word_is : (z n : ℕ) → z ≤ n → (n - z) % 8 ≡ 0 → n ≡ z + 8 * ((n - z) / 8)
word_is z n le e = omega (arith, le, e)

-- a word of the memory
pub memory_word : (words a : ℕ) → in_memory words a ≡ true → (i : ℕ) × (a ≡ base + 8 * i)
memory_word words a h =
    let both = and_parts (nat_le base a && (a - base) % 8 == 0) (nat_lt (a - base) (8 * words)) h in
    let low = and_parts (nat_le base a) ((a - base) % 8 == 0) both.0 in
    ((a - base) / 8, word_is base a (leb-true base a low.0) (eqb-true ((a - base) % 8) 0 low.1))

-- the bytes between two words are whole words
pub words_between : (z i j from end : ℕ) → from ≡ z + 8 * i → end ≡ z + 8 * j → 0 < end - from → Words (end - from)
words_between z i j from end e f some = (j - i - 1, omega (arith, e, f, some))

pub end_word : (z i n from size : ℕ) → from ≡ z + 8 * i → size ≡ 8 * suc n → from + size ≡ z + 8 * (i + suc n)
end_word z i n from size e f = omega (arith, e, f)

pub part_open : (o : Option Block) (end : ℕ) → is_refused (part_answer o end) ≡ false → (b : Block) × (o ≡ Some b) × (end ≤ b.start + b.size)
part_open None end h = absurd cc
part_open (Some b) end h =
    let k = unless_open (nat_lt (b.start + b.size) end) NotInside Done h in
    (b, refl, ltb-false (b.start + b.size) end k.0)

-- a run that fits into a memory fits into a larger one
pub run_more : (words room : ℕ) (used : List Allocation) (n a : ℕ) → words ≤ room → run_place words used n ≡ Some a → run_place room used n ≡ Some a
run_more words room used n a le h =
    let r = run_is words used n a h in
    let fits : lowest_run used n + n ≤ room / 512 = (let k = r.0 in omega (arith, k, le)) in
    rw (le-leb (lowest_run used n + n) (room / 512) fits) (ap Some (sym r.1))

pub slab_more : (words room : ℕ) (used : List Allocation) (class a : ℕ) → words ≤ room → slab_place words used class ≡ Some a → slab_place room used class ≡ Some a
slab_more words room used class a le h = by_slot (free_slot used class) h where
  by_slot : (o : Option ℕ) → (elim o as (λ _. Option ℕ) [ Some b ↦ Some b | None ↦ run_place words used 1 ]) ≡ Some a
      → (elim o as (λ _. Option ℕ) [ Some b ↦ Some b | None ↦ run_place room used 1 ]) ≡ Some a
  by_slot (Some b) s = s
  by_slot None s = run_more words room used 1 a le s

pub kmalloc_more : (words room : ℕ) (used : List Allocation) (size a : ℕ) → words ≤ room → kmalloc_place words used size ≡ Some a → kmalloc_place room used size ≡ Some a
kmalloc_more words room used size a le h =
    elim (nat_le size 4096) as (λ q. (if q then slab_place words used (class_of size) else run_place words used (pages_for size)) ≡ Some a
    → (if q then slab_place room used (class_of size) else run_place room used (pages_for size)) ≡ Some a) [
      | true ↦ λ s. slab_more words room used (class_of size) a le s
      | false ↦ λ s. run_more words room used (pages_for size) a le s
    ] h

-- a head, and the area behind it
pub area_open : (words : ℕ) (used : List Allocation) (size area : ℕ) → area_place words used size ≡ Some area
    → (head : ℕ) × (slab_place words used 64 ≡ Some head) × (run_place words (used ++ next_head used head ∷ []) (pages_for size) ≡ Some area)
area_open words used size area h = by_head (slab_place words used 64) h where
  by_head : (o : Option ℕ) → (elim o as (λ _. Option ℕ) [ None ↦ None | Some a ↦ run_place words (used ++ next_head used a ∷ []) (pages_for size) ]) ≡ Some area
      → (head : ℕ) × (o ≡ Some head) × (run_place words (used ++ next_head used head ∷ []) (pages_for size) ≡ Some area)
  by_head None s = absurd cc
  by_head (Some a) s = (a, refl, s)

pub area_more : (words room : ℕ) (used : List Allocation) (size a : ℕ) → words ≤ room → area_place words used size ≡ Some a → area_place room used size ≡ Some a
area_more words room used size a le h =
    let k = area_open words used size a h in
    subst (λ (o : Option ℕ). (elim o as (λ _. Option ℕ) [ None ↦ None | Some head ↦ run_place room (used ++ next_head used head ∷ []) (pages_for size) ]) ≡ Some a)
    (sym (slab_more words room used 64 k.0 le k.1)) (run_more words room (used ++ next_head used k.0 ∷ []) (pages_for size) a le k.2)
