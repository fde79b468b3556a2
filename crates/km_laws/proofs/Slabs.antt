use Rattle.std.proofs.Common.{◌≡◌, ℕ, zero, suc, ◌+◌, ◌-◌, ◌*◌, ◌/◌, ◌<◌, ◌≤◌, Bool, true, false, not, ◌&&◌, ◌==◌, nat_le, find, List, Option, Some, None, unwrap_or, if◌then◌else◌, refl, sym, ◌∙◌, subst, arith, inl, inr, eqb-true, eq-eqb, mul-le-mul_left, div-mul-le_self}
use Rattle.std.proofs.lemmas.Bool.{and_parts, not-true, both_ways}
use Rattle.km_model.specs.Memory.{base}
use Rattle.km_model.specs.Placement.{Allocation, SlabBlock, LargeRun, page_start, page_of, pages_for, touches, lowest_run, run_place, classes, class_of, is_slab_block, is_slab_page, is_taken, slots_from, slot_in, slot_from, free_slot, slab_place, lowest_slab, page_behind, kmalloc_place, kmalloc_span, kmalloc_use}
use Rattle.km_model.proofs.Pages.{touched}
use Rattle.km_laws.specs.Placed.{Words}
use Rattle.km_laws.proofs.Lists.{Each, Pairs, In, each_in, find_in, find_each, any_in, none_in, pairs_in}
use Rattle.km_laws.proofs.Pages.{run_is, run_is_free, words_some, Sound, PagesApart, pages_sym, slot_start, own_page, slot_page, free_in, Free}

slot_some : (test : Bool) (o : Option ℕ) (a : ℕ) → (if test then o else None) ≡ Some a → (test ≡ true) × (o ≡ Some a)
slot_some true o a h = (refl, h)
slot_some false o a h = absurd cc

slot_here : (used : List Allocation) (class left p a : ℕ) (o : Option ℕ) → slot_in used class p ≡ o → (slot_from used class left (p + 1) ≡ Some a → (q : ℕ) × (slot_in used class q ≡ Some a))
    → (elim o as (λ _. Option ℕ) [ Some b ↦ Some b | None ↦ slot_from used class left (p + 1) ]) ≡ Some a → (q : ℕ) × (slot_in used class q ≡ Some a)
slot_here used class left p a (Some b) e f s = (p, e ∙ s)
slot_here used class left p a None e f s = f s

slot_found : (used : List Allocation) (class left p a : ℕ) → slot_from used class left p ≡ Some a → (q : ℕ) × (slot_in used class q ≡ Some a)
slot_found used class zero p a h = absurd cc
slot_found used class (suc left) p a h = slot_here used class left p a (slot_in used class p) refl (λ s. slot_found used class left (p + 1) a s) h

slots_in : (class left a s : ℕ) → In s (slots_from class left a) → (i : ℕ) × (i < left) × (s ≡ a + class * i)
slots_in class zero a s i = absurd i
slots_in class (suc left) a s (inl same) = (0, omega arith, omega (arith, same))
slots_in class (suc left) a s (inr i) =
    let r = slots_in class left (a + class) s i in
    (suc r.0, (let k = r.1 in omega (arith, k)), (let k = r.2 in omega (arith, k)))

slot_fits : (class i : ℕ) → i < 4096 / class → class * suc i ≤ 4096
slot_fits class i lt =
    let le : class * suc i ≤ class * (4096 / class) = mul-le-mul_left class lt in
    let all : 4096 / class * class ≤ 4096 = div-mul-le_self 4096 class in
    omega (arith, le, all)

one_page : (b p q k size : ℕ) → k + size ≤ 4096 → b + 4096 * p + k < b + 4096 * (q + 1) → b + 4096 * q < b + 4096 * p + k + size → q ≡ p
one_page b p q k size le x y = omega (arith, le, x, y)

slot_inside : (b p k size m : ℕ) → k + size ≤ 4096 → b + 4096 * (p + 1) ≤ m → b + 4096 * p + k + size ≤ m
slot_inside b p k size m le inside = omega (arith, le, inside)

slot_low : (b p k : ℕ) → b ≤ b + 4096 * p + k
slot_low b p k = omega arith

-- a slot begins at a word
slot_word : (b p class i w : ℕ) → class ≡ 8 * suc w → b + 4096 * p + class * i ≡ b + 8 * (512 * p + suc w * i)
slot_word b p class i w e = subst (λ c. b + 4096 * p + c * i ≡ b + 8 * (512 * p + suc w * i)) (sym e) (omega arith)

-- a free slot of a page of slab blocks
slot_is_free : (words : ℕ) (used : List Allocation) (class p : ℕ) (z : Allocation) → Words class → Each (Sound words) used → Pairs PagesApart used
    → is_slab_block z ≡ true → z.size ≡ class → slot_in used class p ≡ Some z.start → Free words used z
slot_is_free words used class p z whole sound apart slab size h =
    let some = words_some class whole in
    let s = slot_some (is_slab_page used class p) (find (λ a. not (is_taken used a)) (slots_from class (4096 / class) (page_start p))) z.start h in
    let f = find_in (λ a. not (is_taken used a)) (slots_from class (4096 / class) (page_start p)) z.start s.1 in
    let r = slots_in class (4096 / class) (page_start p) z.start f.1 in
    let fits = slot_fits class r.0 r.1 in
    let more : class * suc r.0 ≡ class * r.0 + class = omega arith in
    let within : class * r.0 + class ≤ 4096 = omega (arith, fits, more) in
    let least : class * r.0 < 4096 = omega (arith, within, some) in
    let start : z.start ≡ page_start p + class * r.0 = r.2 in
    let old = any_in (λ (x : Allocation). is_slab_block x && x.size == class && page_of x.start == p) used s.0 in
    let x0 = old.0 in
    let parts = and_parts (is_slab_block x0 && x0.size == class) (page_of x0.start == p) old.2 in
    let both = and_parts (is_slab_block x0) (x0.size == class) parts.0 in
    let size0 : x0.size ≡ class = eqb-true x0.size class both.1 in
    let page0 : page_of x0.start ≡ p = eqb-true (page_of x0.start) p parts.1 in
    let sound0 = each_in (Sound words) used x0 sound old.1 in
    let slot0 = sound0.2 both.0 in
    let same0 : slot0.0 ≡ p = sym (slot_start words x0 sound0.0 slot0) ∙ page0 in
    let room : page_start (p + 1) ≤ base + 8 * words = subst (λ q. page_start (q + 1) ≤ base + 8 * words) same0 slot0.4 in
    let page : page_of z.start ≡ p = subst (λ a. page_of a ≡ p) (sym start) (slot_page base p (class * r.0) least) in
    let touch0 : touches p x0 ≡ true = subst (λ q. touches q x0 ≡ true) same0 (own_page words x0 sound0.0 slot0) in
    let inside = slot_inside base p (class * r.0) class (base + 8 * words) within room in
    let low = slot_low base p (class * r.0) in
    let differs : (x : Allocation) → In x used → x.start ≡ z.start → ⊥ = λ x i e.
    both_ways (x.start == z.start) (none_in (λ (y : Allocation). y.start == z.start) used x (not-true (is_taken used z.start) f.0) i) (eq-eqb x.start z.start e) in
    let beside : (x : Allocation) → In x used → PagesApart x0 x → PagesApart x z = λ x i k. elim k [
      | inl g ↦ inl (λ q tx tz.
          let t = touched q z tz in
          let first : page_start p + class * r.0 < page_start (q + 1) = subst (λ a. a < page_start (q + 1)) start t.0 in
          let last : page_start q < page_start p + class * r.0 + class = subst (λ a. page_start q < a + class) start (subst (λ n. page_start q < z.start + n) size t.1) in
          let same : q ≡ p = one_page base p q (class * r.0) class within first last in
          g p touch0 (subst (λ n. touches n x ≡ true) same tx))
      | inr u ↦ inr (u.1, slab, sym u.2 ∙ size0 ∙ sym size, sym u.3 ∙ page0 ∙ sym page, differs x i)
    ] in
    free_in words used z (
      omega (arith, size, some),
      (omega (arith, start, low), omega (arith, start, size, inside)),
      (λ e. (p, r.0, subst (λ n. z.start ≡ page_start p + n * r.0) (sym size) start, subst (λ n. n * suc r.0 ≤ 4096) (sym size) fits, room)),
      ((512 * p + suc whole.0 * r.0, start ∙ slot_word base p class r.0 whole.0 whole.1), subst Words (sym size) whole),
    )
    (λ x i. elim (pairs_in PagesApart used x0 x apart old.1 i) [
      | inl same ↦ subst (λ (y : Allocation). PagesApart y z) same (inr (both.0, slab, size0 ∙ sym size, page0 ∙ sym page, differs x0 old.1))
      | inr more' ↦ elim more' [ inl k ↦ beside x i k | inr k ↦ beside x i (pages_sym x x0 k) ]
    ])

-- where a slab block is placed
pub slab_is_free : (words : ℕ) (used : List Allocation) (class : ℕ) (z : Allocation) → Words class → class ≤ 4096 → Each (Sound words) used → Pairs PagesApart used
    → is_slab_block z ≡ true → z.size ≡ class → slab_place words used class ≡ Some z.start → Free words used z × (lowest_slab used class ≡ z.start)
slab_is_free words used class z whole most sound apart slab size h = by_slot (free_slot used class) refl h where
  by_slot : (o : Option ℕ) → free_slot used class ≡ o → (elim o as (λ _. Option ℕ) [ Some a ↦ Some a | None ↦ run_place words used 1 ]) ≡ Some z.start
      → Free words used z × (unwrap_or o (page_start (lowest_run used 1)) ≡ z.start)
  by_slot (Some a) e s =
      let q = slot_found used class (page_behind used) 0 z.start (e ∙ s) in
      (slot_is_free words used class q.0 z whole sound apart slab size q.1, cc)
  by_slot None e s =
      let r = run_is words used 1 z.start s in
      (run_is_free words used 1 z r.0 r.1 (subst Words (sym size) whole) (omega (arith, size, most)) (λ _. omega (arith, size, most)), sym r.1)

-- the sizes of slab blocks
abbrev IsClass : ℕ → Type 0
IsClass c = Words c × (c ≤ 4096)

classes_are : Each IsClass classes
classes_are =
    (((0, refl), omega arith), (((1, refl), omega arith), (((3, refl), omega arith), (((7, refl), omega arith), (((11, refl), omega arith), (((15, refl), omega arith), (((23, refl), omega arith), (((31, refl), omega arith), (((63, refl), omega arith), (((127, refl), omega arith), (((255, refl), omega arith), (((511, refl), omega arith), tt))))))))))))

class_is : (size : ℕ) → IsClass (class_of size)
class_is size = found_class (find (nat_le size) classes) refl where
  found_class : (o : Option ℕ) → find (nat_le size) classes ≡ o → IsClass (unwrap_or o 4096)
  found_class None e = ((511, refl), omega arith)
  found_class (Some c) e = (find_each IsClass (nat_le size) classes c e classes_are).1

-- pages are whole words
pub run_words : (n : ℕ) → 0 < n → Words (4096 * n)
run_words n lt = (512 * n - 1, omega (arith, lt))

pub pages_words : (size : ℕ) → 0 < size → Words (4096 * pages_for size)
pages_words size lt = run_words (pages_for size) (omega (arith, lt))

pub pages_hold : (size : ℕ) → size ≤ 4096 * pages_for size
pages_hold size = omega arith

-- where kmalloc places a block
pub kmalloc_is_free : (words : ℕ) (used : List Allocation) (size a : ℕ) → 0 < size → Each (Sound words) used → Pairs PagesApart used → kmalloc_place words used size ≡ Some a
    → Free words used (record { «use» = kmalloc_use size; start = a; size = kmalloc_span size })
kmalloc_is_free words used size a some sound apart h =
    let P = λ (q : Bool). (if q then slab_place words used (class_of size) else run_place words used (pages_for size)) ≡ Some a
    → Free words used (record { «use» = if q then SlabBlock else LargeRun; start = a; size = if q then class_of size else 4096 * pages_for size }) in
    elim (nat_le size 4096) as P [
      | true ↦ λ s. let c = class_is size in
          (slab_is_free words used (class_of size) (record { «use» = SlabBlock; start = a; size = class_of size }) c.0 c.1 sound apart refl refl s).0
      | false ↦ λ s. let r = run_is words used (pages_for size) a s in
          run_is_free words used (pages_for size) (record { «use» = LargeRun; start = a; size = 4096 * pages_for size }) r.0 r.1 (pages_words size some) (omega arith) (λ e. absurd cc)
    ] h
