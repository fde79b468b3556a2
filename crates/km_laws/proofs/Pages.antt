use Rattle.std.proofs.Common.{◌≡◌, ℕ, zero, suc, ◌+◌, ◌-◌, ◌*◌, ◌/◌, ◌<◌, ◌≤◌, Bool, true, false, nat_le, nat_lt, List, [], ◌∷◌, Some, None, if◌then◌else◌, refl, sym, ap, ◌∙◌, subst, arith, ◌⊎◌, inl, inr, leb-true, le-ltb, mul-le-mul_left}
use Rattle.std.specs.List.{list_any}
use Rattle.std.proofs.lemmas.Bool.{cases_lt, cases_order, and_parts, and_from, and_right, not-true, not_from_false, both_ways}
use Rattle.km_model.specs.Memory.{base}
use Rattle.km_model.specs.Placement.{Allocation, page_start, page_of, touches, is_free_page, are_free_pages, page_behind, lowest_run, run_place, is_slab_block}
use Rattle.km_model.proofs.Pages.{least_passes, behind_end, touch, touched}
use Rattle.km_laws.specs.Placed.{Apart, AllocationsApart, InMemory, Words, WholeWords}
use Rattle.km_laws.proofs.Lists.{Each, In, none_in, each_none}

not_touched : (p : ℕ) (x : Allocation) → x.start + x.size ≤ page_start p → touches p x ≡ false
not_touched p x le = and_right (nat_lt x.start (page_start (p + 1))) (nat_lt (page_start p) (x.start + x.size)) (le-ltb (page_start p) (x.start + x.size) le)

behind_free : (used : List Allocation) (p : ℕ) (x : Allocation) → page_behind used ≤ p → In x used → touches p x ≡ false
behind_free [] p x le i = absurd i
behind_free (y ∷ ys) p x le (inl same) =
    subst (λ z. touches p z ≡ false) (sym same)
    (not_touched p y (behind_end (y.start + y.size) base p (omega (arith, le))))
behind_free (y ∷ ys) p x le (inr i) = behind_free ys p x (omega (arith, le)) i

free_page : (used : List Allocation) (p : ℕ) → ((x : Allocation) → In x used → touches p x ≡ false) → is_free_page used p ≡ true
free_page used p f = not_from_false (list_any (touches p) used) (each_none (touches p) used f)

all_free : (used : List Allocation) (n p : ℕ) → ((q : ℕ) → p ≤ q → is_free_page used q ≡ true) → are_free_pages used n p ≡ true
all_free used zero p f = refl
all_free used (suc n) p f =
    and_from (is_free_page used p) (are_free_pages used n (p + 1)) (f p (omega arith)) (all_free used n (p + 1) (λ q le. f q (omega (arith, le))))

free_each : (used : List Allocation) (n p q : ℕ) → are_free_pages used n p ≡ true → p ≤ q → q < p + n → is_free_page used q ≡ true
free_each used zero p q h le lt = absurd (omega (arith, le, lt))
free_each used (suc n) p q h le lt =
    let parts = and_parts (is_free_page used p) (are_free_pages used n (p + 1)) h in
    elim (cases_order p q) [
      | inl same ↦ subst (λ k. is_free_page used k ≡ true) same parts.0
      | inr other ↦ elim other [
        | inl less ↦ free_each used n (p + 1) q parts.1 (omega (arith, less)) (omega (arith, lt))
        | inr more ↦ absurd (omega (arith, more, le))
      ]
    ]

lowest_free : (used : List Allocation) (n : ℕ) → are_free_pages used n (lowest_run used n) ≡ true
lowest_free used n =
    least_passes (are_free_pages used n) (page_behind used) 0
    (all_free used n (0 + page_behind used) (λ q le. free_page used q (λ x i. behind_free used q x (omega (arith, le)) i)))

-- no allocation touches a page of the lowest run
pub run_free : (used : List Allocation) (n q : ℕ) (x : Allocation) → lowest_run used n ≤ q → q < lowest_run used n + n → In x used → touches q x ≡ false
run_free used n q x le lt i =
    none_in (touches q) used x (not-true (list_any (touches q) used) (free_each used n (lowest_run used n) q (lowest_free used n) le lt)) i

-- where a run is placed
pub run_is : (words : ℕ) (used : List Allocation) (n a : ℕ) → run_place words used n ≡ Some a → (lowest_run used n + n ≤ words / 512) × (a ≡ page_start (lowest_run used n))
run_is words used n a h =
    let P = λ (q : Bool). nat_le (lowest_run used n + n) (words / 512) ≡ q → (if q then Some (page_start (lowest_run used n)) else None) ≡ Some a
    → (lowest_run used n + n ≤ words / 512) × (a ≡ page_start (lowest_run used n)) in
    elim (nat_le (lowest_run used n + n) (words / 512)) as P [
      | true ↦ λ e s. (leb-true (lowest_run used n + n) (words / 512) e, cc)
      | false ↦ λ e s. absurd cc
    ] refl h

-- a slot of a page of slab blocks, that lies in the memory
abbrev pub SlotIn : ℕ → Allocation → Type 0
SlotIn words x = (p : ℕ) × (i : ℕ) × (x.start ≡ page_start p + x.size * i) × (x.size * suc i ≤ 4096) × (page_start (p + 1) ≤ base + 8 * words)

-- an allocation is whole words of the memory, and a slab block is a slot of a page
abbrev pub Sound : ℕ → Allocation → Type 0
Sound words x = (0 < x.size) × InMemory words x.start x.size × (is_slab_block x ≡ true → SlotIn words x) × WholeWords x.start x.size

-- two allocations touch no page both, or are two slots of one page
abbrev pub PagesApart : Allocation → Allocation → Type 0
PagesApart x y =
    ((p : ℕ) → touches p x ≡ true → touches p y ≡ true → ⊥)
    ⊎ ((is_slab_block x ≡ true) × (is_slab_block y ≡ true) × (x.size ≡ y.size) × (page_of x.start ≡ page_of y.start) × (x.start ≡ y.start → ⊥))

pub pages_sym : (x y : Allocation) → PagesApart x y → PagesApart y x
pages_sym x y (inl f) = inl (λ p a b. f p b a)
pages_sym x y (inr s) = inr (s.1, s.0, sym s.2, sym s.3, (λ e. s.4 (sym e)))

-- the page of a byte begins at or before it, and the next one behind it
page_low : (a b : ℕ) → b ≤ a → b + 4096 * ((a - b) / 4096) ≤ a
page_low a b le = omega (arith, le)

page_high : (a b : ℕ) → b ≤ a → a < b + 4096 * ((a - b) / 4096 + 1)
page_high a b le = omega (arith, le)

-- a byte of an allocation touches its page
byte_touches : (x : Allocation) (a : ℕ) → base ≤ a → x.start ≤ a → a < x.start + x.size → touches (page_of a) x ≡ true
byte_touches x a b le lt =
    let low = page_low a base b in let high = page_high a base b in
    touch (page_of a) x (omega (arith, high, le)) (omega (arith, low, lt))

pub slot_page : (b p k : ℕ) → k < 4096 → (b + 4096 * p + k - b) / 4096 ≡ p
slot_page b p k lt = omega (arith, lt)

slot_before : (b p k size : ℕ) → k + size ≤ 4096 → 0 < size → b + 4096 * p + k < b + 4096 * (p + 1)
slot_before b p k size le some = omega (arith, le, some)

-- a slot lies in the page of its start
pub slot_start : (words : ℕ) (x : Allocation) → 0 < x.size → (s : SlotIn words x) → page_of x.start ≡ s.0
slot_start words x size s =
    let i = s.1 in
    let more : x.size * suc s.1 ≡ x.size * s.1 + x.size = omega arith in
    let less : x.size * s.1 < 4096 = (let k = s.3 in omega (arith, more, k, size)) in
    subst (λ a. page_of a ≡ s.0) (sym s.2) (slot_page base s.0 (x.size * s.1) less)

-- and touches that page
pub own_page : (words : ℕ) (x : Allocation) → 0 < x.size → (s : SlotIn words x) → touches s.0 x ≡ true
own_page words x size s =
    let more : x.size * suc s.1 ≡ x.size * s.1 + x.size = omega arith in
    let k = s.3 in let start = s.2 in
    let low = slot_before base s.0 (x.size * s.1) x.size (omega (arith, k, more)) size in
    touch s.0 x (omega (arith, start, low)) (omega (arith, start, size))

slots_apart : (b size i j k : ℕ) → i < j → b + size * i + size ≤ b + size * j
slots_apart b size i j k lt =
    let more : size * suc i ≡ size * i + size = omega arith in
    let le : size * suc i ≤ size * j = mul-le-mul_left size (omega (arith, lt)) in
    omega (arith, more, le)

slots_cases : (b size i j : ℕ) → (b + size * i ≡ b + size * j → ⊥) → Apart (b + size * i) size (b + size * j) size
slots_cases b size i j differ =
    elim (cases_order i j) [
      | inl same ↦ absurd (differ (ap (λ k. b + size * k) same))
      | inr other ↦ elim other [ inl less ↦ inl (slots_apart b size i j 0 less) | inr more ↦ inr (slots_apart b size j i 0 more) ]
    ]

-- such allocations never meet
pub never_meet : (words : ℕ) (x y : Allocation) → Sound words x → Sound words y → PagesApart x y → AllocationsApart x y
never_meet words x y sx sy (inl f) =
    elim (cases_lt y.start (x.start + x.size)) [
      | inr apart ↦ inl apart
      | inl a ↦ elim (cases_lt x.start (y.start + y.size)) [
        | inr apart ↦ inr apart
        | inl b ↦ absurd (elim (cases_lt x.start y.start) [
          | inl first ↦ let m = sy.1.0 in let p = sy.0 in f (page_of y.start) (byte_touches x y.start m (omega (arith, first)) a) (byte_touches y y.start m (omega arith) (omega (arith, p)))
          | inr second ↦ let m = sx.1.0 in let p = sx.0 in f (page_of x.start) (byte_touches x x.start m (omega arith) (omega (arith, p))) (byte_touches y x.start m second b)
        ])
      ]
    ]
never_meet words x y sx sy (inr s) =
    let sl = sx.2 s.0 in
    let sr = sy.2 s.1 in
    let page : sl.0 ≡ sr.0 = sym (slot_start words x sx.0 sl) ∙ s.3 ∙ slot_start words y sy.0 sr in
    let y_start : y.start ≡ page_start sl.0 + x.size * sr.1 = sr.2 ∙ ap (λ n. page_start sr.0 + n * sr.1) (sym s.2) ∙ ap (λ p. page_start p + x.size * sr.1) (sym page) in
    let k = slots_cases (page_start sl.0) x.size sl.1 sr.1 (λ e. s.4 (sl.2 ∙ e ∙ sym y_start)) in
    subst (λ a. Apart a x.size y.start y.size) (sym sl.2)
    (subst (λ b. Apart (page_start sl.0 + x.size * sl.1) x.size b y.size) (sym y_start)
    (subst (λ n. Apart (page_start sl.0 + x.size * sl.1) x.size (page_start sl.0 + x.size * sr.1) n) s.2 k))

-- a place for an allocation: it is sound, and no live one is in its way
abbrev pub Free : ℕ → List Allocation → Allocation → Type 0
Free words used z = Sound words z × Each (λ x. PagesApart x z) used

pub free_in : (words : ℕ) (used : List Allocation) (z : Allocation) → Sound words z → ((x : Allocation) → In x used → PagesApart x z) → Free words used z
free_in words used z s f = (s, each_of used f) where
  each_of : (xs : List Allocation) → ((x : Allocation) → In x xs → PagesApart x z) → Each (λ x. PagesApart x z) xs
  each_of [] g = tt
  each_of (x ∷ xs) g = (g x (inl refl), each_of xs (λ y i. g y (inr i)))

run_inside : (b p n words : ℕ) → p + n ≤ words / 512 → b + 4096 * p + 4096 * n ≤ b + 8 * words
run_inside b p n words le = omega (arith, le)

-- the pages that some bytes of a run touch are pages of the run
run_pages : (b p q n size : ℕ) → size ≤ 4096 * n → b + 4096 * p < b + 4096 * (q + 1) → b + 4096 * q < b + 4096 * p + size → (p ≤ q) × (q < p + n)
run_pages b p q n size le x y = (omega (arith, x), omega (arith, le, y))

pub words_some : (size : ℕ) → Words size → 0 < size
words_some size w = let k = w.1 in omega (arith, k)

page_word : (b p : ℕ) → b + 4096 * p ≡ b + 8 * (512 * p)
page_word b p = omega arith

-- the lowest run is free, and so is each allocation at its start that isn't longer
pub run_is_free : (words : ℕ) (used : List Allocation) (n : ℕ) (z : Allocation) → lowest_run used n + n ≤ words / 512 → z.start ≡ page_start (lowest_run used n)
    → Words z.size → z.size ≤ 4096 * n → (is_slab_block z ≡ true → z.size ≤ 4096) → Free words used z
run_is_free words used n z room start whole size slab =
    let some = words_some z.size whole in
    let p = lowest_run used n in
    let inside = run_inside base (lowest_run used n) n words room in
    free_in words used z (
      some,
      (omega (arith, start), omega (arith, start, inside, size)),
      (λ e. let k = slab e in (lowest_run used n, 0, omega (arith, start), omega (arith, k), (let one : 0 < n = omega (arith, size, some) in omega (arith, room, one)))),
      ((512 * lowest_run used n, start ∙ page_word base (lowest_run used n)), whole),
    )
    (λ x i. inl (λ q tx tz.
    let t = touched q z tz in
    let low : page_start (lowest_run used n) < page_start (q + 1) = subst (λ a. a < page_start (q + 1)) start t.0 in
    let high : page_start q < page_start (lowest_run used n) + z.size = subst (λ a. page_start q < a + z.size) start t.1 in
    let k = run_pages base (lowest_run used n) q n z.size size low high in
    both_ways (touches q x) (run_free used n q x k.0 k.1 i) tx))
