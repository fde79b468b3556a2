use Rattle.std.proofs.Common.{◌≡◌, ℕ, ◌<◌, Bool, true, false, not, ◌==◌, List, [], ◌∷◌, ◌++◌, Option, Some, None, if◌then◌else◌, refl, sym, ap, ◌∙◌, subst, ◌⊎◌, inl, inr, ne_eqb, eqb-true, eq-eqb}
use Rattle.std.proofs.lemmas.Bool.{not_from_false, not-true, both_ways}
use Rattle.km_model.specs.Memory.{base}
use Rattle.km_model.specs.Placement.{Allocation, Use, SlotTable, HeadBlock, AreaRun, without_allocation, slot_of_area, head_with}
use Rattle.km_model.proofs.Cases.{elim_false, none_some, some_same}
use Rattle.km_laws.proofs.Lists.{In, in_filter, filter_in, in_push_cases, in_push_left, in_push_right}

-- whether an allocation is neither a head, nor an area, nor the table of slots
abbrev pub is_other : Use → Bool
is_other u = elim u [ HeadBlock _ ↦ false | AreaRun _ ↦ false | SlotTable ↦ false | _ ↦ true ]

pub no_other_head : (u : Use) (s : ℕ) → is_other u ≡ true → u ≡ HeadBlock s → ⊥
no_other_head u s e f = elim_false (ap is_other (sym f) ∙ e)

pub no_other_area : (u : Use) (s : ℕ) → is_other u ≡ true → u ≡ AreaRun s → ⊥
no_other_area u s e f = elim_false (ap is_other (sym f) ∙ e)

pub no_other_table : (u : Use) → is_other u ≡ true → u ≡ SlotTable → ⊥
no_other_table u e f = elim_false (ap is_other (sym f) ∙ e)

pub no_head_area : (u : Use) (s t : ℕ) → u ≡ HeadBlock s → u ≡ AreaRun t → ⊥
no_head_area u s t e f = clash (sym e ∙ f)
  where
    clash : HeadBlock s ≡ AreaRun t → ⊥
    clash g = cc

pub no_head_table : (u : Use) (s : ℕ) → u ≡ HeadBlock s → u ≡ SlotTable → ⊥
no_head_table u s e f = clash (sym e ∙ f)
  where
    clash : HeadBlock s ≡ SlotTable → ⊥
    clash g = cc

pub no_area_table : (u : Use) (s : ℕ) → u ≡ AreaRun s → u ≡ SlotTable → ⊥
no_area_table u s e f = clash (sym e ∙ f)
  where
    clash : AreaRun s ≡ SlotTable → ⊥
    clash g = cc

pub same_area : (u : Use) (s t : ℕ) → u ≡ AreaRun s → u ≡ AreaRun t → s ≡ t
same_area u s t e f = go (sym e ∙ f)
  where
    go : AreaRun s ≡ AreaRun t → s ≡ t
    go g = cc

pub same_head : (u : Use) (s t : ℕ) → u ≡ HeadBlock s → u ≡ HeadBlock t → s ≡ t
same_head u s t e f = go (sym e ∙ f)
  where
    go : HeadBlock s ≡ HeadBlock t → s ≡ t
    go g = cc

-- each slot has at most one head and one area, and one of them only with the other; the table of slots is there
pub record Slots (used : List Allocation) : Type 0 where
  pub areas : (x : Allocation) (s : ℕ) → In x used → x.«use» ≡ HeadBlock s → (y : Allocation) × In y used × (y.«use» ≡ AreaRun s)
  pub heads : (y : Allocation) (s : ℕ) → In y used → y.«use» ≡ AreaRun s → (x : Allocation) × In x used × (x.«use» ≡ HeadBlock s)
  pub one_head : (x y : Allocation) (s : ℕ) → In x used → In y used → x.«use» ≡ HeadBlock s → y.«use» ≡ HeadBlock s → x.start ≡ y.start
  pub one_area : (x y : Allocation) (s : ℕ) → In x used → In y used → x.«use» ≡ AreaRun s → y.«use» ≡ AreaRun s → x.start ≡ y.start
  pub low : (y : Allocation) (s : ℕ) → In y used → y.«use» ≡ AreaRun s → s < 512
  pub table : (t : Allocation) × In t used × (t.«use» ≡ SlotTable) × (t.start ≡ base) × (t.size ≡ 4096)

pub kept_in : (used : List Allocation) (a : ℕ) (x : Allocation) → In x used → (x.start ≡ a → ⊥) → In x (without_allocation used a)
kept_in used a x i differ = in_filter (λ (x : Allocation). not (x.start == a)) used x i (not_from_false (x.start == a) (ne_eqb x.start a differ))

pub was_in : (used : List Allocation) (a : ℕ) (x : Allocation) → In x (without_allocation used a) → In x used × (x.start ≡ a → ⊥)
was_in used a x i =
    let at = filter_in (λ (x : Allocation). not (x.start == a)) used x i in
    (at.1, λ e. both_ways (x.start == a) (not-true (x.start == a) at.0) (eq-eqb x.start a e))

-- another allocation is made
pub slots_grow : (used : List Allocation) (z : Allocation) → is_other z.«use» ≡ true → Slots used → Slots (used ++ z ∷ [])
slots_grow used z other s = record {
  areas = λ x n i e. let y = s.areas x n (old_head x n i e) e in (y.0, in_push_left used y.0 z y.1, y.2);
  heads = λ y n i e. let x = s.heads y n (old_area y n i e) e in (x.0, in_push_left used x.0 z x.1, x.2);
  one_head = λ x y n i j e f. s.one_head x y n (old_head x n i e) (old_head y n j f) e f;
  one_area = λ x y n i j e f. s.one_area x y n (old_area x n i e) (old_area y n j f) e f;
  low = λ y n i e. s.low y n (old_area y n i e) e;
  table = let t = s.table in (t.0, in_push_left used t.0 z t.1, t.2, t.3, t.4);
}
  where
    old_head : (x : Allocation) (n : ℕ) → In x (used ++ z ∷ []) → x.«use» ≡ HeadBlock n → In x used
    old_head x n i e = elim (in_push_cases used x z i) [ inl j ↦ j | inr same ↦ absurd (no_other_head z.«use» n other (ap (λ (y : Allocation). y.«use») (sym same) ∙ e)) ]

    old_area : (x : Allocation) (n : ℕ) → In x (used ++ z ∷ []) → x.«use» ≡ AreaRun n → In x used
    old_area x n i e = elim (in_push_cases used x z i) [ inl j ↦ j | inr same ↦ absurd (no_other_area z.«use» n other (ap (λ (y : Allocation). y.«use») (sym same) ∙ e)) ]

-- another allocation is given back
pub slots_drop : (used : List Allocation) (a : ℕ) → ((x : Allocation) → In x used → x.start ≡ a → is_other x.«use» ≡ true) → Slots used → Slots (without_allocation used a)
slots_drop used a other s = record {
  areas = λ x n i e. let y = s.areas x n (was_in used a x i).0 e in (y.0, kept_in used a y.0 y.1 (λ f. no_other_area y.0.«use» n (other y.0 y.1 f) y.2), y.2);
  heads = λ y n i e. let x = s.heads y n (was_in used a y i).0 e in (x.0, kept_in used a x.0 x.1 (λ f. no_other_head x.0.«use» n (other x.0 x.1 f) x.2), x.2);
  one_head = λ x y n i j e f. s.one_head x y n (was_in used a x i).0 (was_in used a y j).0 e f;
  one_area = λ x y n i j e f. s.one_area x y n (was_in used a x i).0 (was_in used a y j).0 e f;
  low = λ y n i e. s.low y n (was_in used a y i).0 e;
  table = let t = s.table in (t.0, kept_in used a t.0 t.1 (λ f. no_other_table t.0.«use» (other t.0 t.1 f) t.2), t.2, t.3, t.4);
}

-- a head and its area are made, with a slot that is free
pub slots_pair : (used : List Allocation) (z y : Allocation) (n : ℕ) → z.«use» ≡ HeadBlock n → y.«use» ≡ AreaRun n → n < 512
    → ((x : Allocation) → In x used → x.«use» ≡ AreaRun n → ⊥) → Slots used → Slots ((used ++ z ∷ []) ++ y ∷ [])
slots_pair used z y n head area lt free s = record {
  areas = λ x m i e. elim (cases x i) [
    | inl j ↦ let k = s.areas x m j e in (k.0, in_push_left (used ++ z ∷ []) k.0 y (in_push_left used k.0 z k.1), k.2)
    | inr new ↦ elim new [
      | inl same ↦ (y, in_push_right (used ++ z ∷ []) y, area ∙ ap AreaRun (same_head x.«use» n m (ap (λ (w : Allocation). w.«use») same ∙ head) e))
      | inr same ↦ absurd (no_head_area x.«use» m n e (ap (λ (w : Allocation). w.«use») same ∙ area))
    ]
  ];
  heads = λ x m i e. elim (cases x i) [
    | inl j ↦ let k = s.heads x m j e in (k.0, in_push_left (used ++ z ∷ []) k.0 y (in_push_left used k.0 z k.1), k.2)
    | inr new ↦ elim new [
      | inl same ↦ absurd (no_head_area x.«use» n m (ap (λ (w : Allocation). w.«use») same ∙ head) e)
      | inr same ↦ (z, in_push_left (used ++ z ∷ []) z y (in_push_right used z), head ∙ ap HeadBlock (same_area x.«use» n m (ap (λ (w : Allocation). w.«use») same ∙ area) e))
    ]
  ];
  one_head = λ x w m i j e f. one_new_head x w m (cases x i) (cases w j) e f;
  one_area = λ x w m i j e f. one_new_area x w m (cases x i) (cases w j) e f;
  low = λ x m i e. elim (cases x i) [
    | inl j ↦ s.low x m j e
    | inr new ↦ elim new [
      | inl same ↦ absurd (no_head_area x.«use» n m (ap (λ (w : Allocation). w.«use») same ∙ head) e)
      | inr same ↦ subst (λ k. k < 512) (same_area x.«use» n m (ap (λ (w : Allocation). w.«use») same ∙ area) e) lt
    ]
  ];
  table = let t = s.table in (t.0, in_push_left (used ++ z ∷ []) t.0 y (in_push_left used t.0 z t.1), t.2, t.3, t.4);
}
  where
    use_of : (x w : Allocation) → x ≡ w → x.«use» ≡ w.«use»
    use_of x w e = ap (λ (v : Allocation). v.«use») e

    cases : (x : Allocation) → In x ((used ++ z ∷ []) ++ y ∷ []) → In x used ⊎ ((x ≡ z) ⊎ (x ≡ y))
    cases x i = elim (in_push_cases (used ++ z ∷ []) x y i) [
      | inl j ↦ elim (in_push_cases used x z j) [ inl k ↦ inl k | inr same ↦ inr (inl same) ]
      | inr same ↦ inr (inr same)
    ]

    -- an earlier head has another slot
    no_head : (x : Allocation) → In x used → x.«use» ≡ HeadBlock n → ⊥
    no_head x i e = let k = s.areas x n i e in free k.0 k.1 k.2

    one_new_head : (x w : Allocation) (m : ℕ) → In x used ⊎ ((x ≡ z) ⊎ (x ≡ y)) → In w used ⊎ ((w ≡ z) ⊎ (w ≡ y)) → x.«use» ≡ HeadBlock m → w.«use» ≡ HeadBlock m → x.start ≡ w.start
    one_new_head x w m (inl i) (inl j) e f = s.one_head x w m i j e f
    one_new_head x w m (inl i) (inr (inl b)) e f = absurd (no_head x i (e ∙ ap HeadBlock (same_head w.«use» m n f (use_of w z b ∙ head))))
    one_new_head x w m (inl i) (inr (inr b)) e f = absurd (no_head_area w.«use» m n f (use_of w y b ∙ area))
    one_new_head x w m (inr (inl a)) (inl j) e f = absurd (no_head w j (f ∙ ap HeadBlock (same_head x.«use» m n e (use_of x z a ∙ head))))
    one_new_head x w m (inr (inl a)) (inr (inl b)) e f = ap (λ (v : Allocation). v.start) (a ∙ sym b)
    one_new_head x w m (inr (inl a)) (inr (inr b)) e f = absurd (no_head_area w.«use» m n f (use_of w y b ∙ area))
    one_new_head x w m (inr (inr a)) j e f = absurd (no_head_area x.«use» m n e (use_of x y a ∙ area))

    one_new_area : (x w : Allocation) (m : ℕ) → In x used ⊎ ((x ≡ z) ⊎ (x ≡ y)) → In w used ⊎ ((w ≡ z) ⊎ (w ≡ y)) → x.«use» ≡ AreaRun m → w.«use» ≡ AreaRun m → x.start ≡ w.start
    one_new_area x w m (inl i) (inl j) e f = s.one_area x w m i j e f
    one_new_area x w m (inl i) (inr (inr b)) e f = absurd (free x i (e ∙ ap AreaRun (same_area w.«use» m n f (use_of w y b ∙ area))))
    one_new_area x w m (inl i) (inr (inl b)) e f = absurd (no_head_area w.«use» n m (use_of w z b ∙ head) f)
    one_new_area x w m (inr (inr a)) (inl j) e f = absurd (free w j (f ∙ ap AreaRun (same_area x.«use» m n e (use_of x y a ∙ area))))
    one_new_area x w m (inr (inr a)) (inr (inr b)) e f = ap (λ (v : Allocation). v.start) (a ∙ sym b)
    one_new_area x w m (inr (inr a)) (inr (inl b)) e f = absurd (no_head_area w.«use» n m (use_of w z b ∙ head) f)
    one_new_area x w m (inr (inl a)) j e f = absurd (no_head_area x.«use» n m (use_of x z a ∙ head) e)

-- an area and its head are given back
pub slots_unpair : (used : List Allocation) (a b n : ℕ) → ((x : Allocation) → In x used → x.start ≡ a → x.«use» ≡ AreaRun n) → ((x : Allocation) → In x used → x.start ≡ b → x.«use» ≡ HeadBlock n)
    → (y : Allocation) → In y used → y.start ≡ a → (z : Allocation) → In z used → z.start ≡ b
    → Slots used → Slots (without_allocation (without_allocation used a) b)
slots_unpair used a b n area head y0 yi ys z0 zi zs s = record {
  areas = λ x m i e.
      let there = was x i in
      let y = s.areas x m there.0 e in
      (y.0, stays y.0 y.1 (λ f. there.2 (s.one_head x z0 n there.0 zi (e ∙ ap HeadBlock (same_area y.0.«use» m n y.2 (area y.0 y.1 f))) (head z0 zi zs) ∙ zs)) (λ f. no_head_area y.0.«use» n m (head y.0 y.1 f) y.2), y.2);
  heads = λ y m i e.
      let there = was y i in
      let x = s.heads y m there.0 e in
      (x.0, stays x.0 x.1 (λ f. no_head_area x.0.«use» m n x.2 (area x.0 x.1 f)) (λ f. there.1 (s.one_area y y0 n there.0 yi (e ∙ ap AreaRun (same_head x.0.«use» m n x.2 (head x.0 x.1 f))) (area y0 yi ys) ∙ ys)), x.2);
  one_head = λ x y m i j e f. s.one_head x y m (was x i).0 (was y j).0 e f;
  one_area = λ x y m i j e f. s.one_area x y m (was x i).0 (was y j).0 e f;
  low = λ y m i e. s.low y m (was y i).0 e;
  table = let t = s.table in (t.0, stays t.0 t.1 (λ f. no_area_table t.0.«use» n (area t.0 t.1 f) t.2) (λ f. no_head_table t.0.«use» n (head t.0 t.1 f) t.2), t.2, t.3, t.4);
}
  where
    was : (x : Allocation) → In x (without_allocation (without_allocation used a) b) → In x used × (x.start ≡ a → ⊥) × (x.start ≡ b → ⊥)
    was x i = let k = was_in (without_allocation used a) b x i in let j = was_in used a x k.0 in (j.0, j.1, k.1)

    stays : (x : Allocation) → In x used → (x.start ≡ a → ⊥) → (x.start ≡ b → ⊥) → In x (without_allocation (without_allocation used a) b)
    stays x i p q = kept_in (without_allocation used a) b x (kept_in used a x i p) q

-- the area that begins at an address
area_of : (used : List Allocation) (x : Allocation) (a s : ℕ) (u : Use) → x.«use» ≡ u
    → (elim u as (λ _. Option ℕ) [ AreaRun t ↦ if x.start == a then Some t else slot_of_area used a | _ ↦ slot_of_area used a ]) ≡ Some s
    → ((x.start ≡ a) × (x.«use» ≡ AreaRun s)) ⊎ (slot_of_area used a ≡ Some s)
area_of used x a s (AreaRun t) e h =
    elim (x.start == a) as (λ q. (x.start == a) ≡ q → (if q then Some t else slot_of_area used a) ≡ Some s → ((x.start ≡ a) × (x.«use» ≡ AreaRun s)) ⊎ (slot_of_area used a ≡ Some s)) [
      | true ↦ λ f g. inl (eqb-true x.start a f, e ∙ ap AreaRun (some_same t s g))
      | false ↦ λ f g. inr g
    ] refl h
area_of used x a s _ e h = inr h

pub slot_area : (used : List Allocation) (a s : ℕ) → slot_of_area used a ≡ Some s → (y : Allocation) × In y used × (y.start ≡ a) × (y.«use» ≡ AreaRun s)
slot_area [] a s h = absurd cc
slot_area (x ∷ used) a s h =
    elim (area_of used x a s x.«use» refl h) [
      | inl here ↦ (x, inl refl, here.0, here.1)
      | inr later ↦ let y = slot_area used a s later in (y.0, inr y.1, y.2, y.3)
    ]

-- and the head of a slot
head_of : (used : List Allocation) (x : Allocation) (s a : ℕ) (u : Use) → x.«use» ≡ u
    → (elim u as (λ _. Option ℕ) [ HeadBlock t ↦ if t == s then Some x.start else head_with used s | _ ↦ head_with used s ]) ≡ Some a
    → ((x.start ≡ a) × (x.«use» ≡ HeadBlock s)) ⊎ (head_with used s ≡ Some a)
head_of used x s a (HeadBlock t) e h =
    elim (t == s) as (λ q. (t == s) ≡ q → (if q then Some x.start else head_with used s) ≡ Some a → ((x.start ≡ a) × (x.«use» ≡ HeadBlock s)) ⊎ (head_with used s ≡ Some a)) [
      | true ↦ λ f g. inl (some_same x.start a g, e ∙ ap HeadBlock (eqb-true t s f))
      | false ↦ λ f g. inr g
    ] refl h
head_of used x s a _ e h = inr h

pub slot_head : (used : List Allocation) (s a : ℕ) → head_with used s ≡ Some a → (x : Allocation) × In x used × (x.start ≡ a) × (x.«use» ≡ HeadBlock s)
slot_head [] s a h = absurd cc
slot_head (x ∷ used) s a h =
    elim (head_of used x s a x.«use» refl h) [
      | inl here ↦ (x, inl refl, here.0, here.1)
      | inr later ↦ let y = slot_head used s a later in (y.0, inr y.1, y.2, y.3)
    ]

-- where an area begins, one is found
area_here : (used : List Allocation) (x : Allocation) (a s : ℕ) → x.start ≡ a → x.«use» ≡ AreaRun s
    → (elim x.«use» as (λ _. Option ℕ) [ AreaRun t ↦ if x.start == a then Some t else slot_of_area used a | _ ↦ slot_of_area used a ]) ≡ None → ⊥
area_here used x a s e f h =
    taken (eq-eqb x.start a e)
    (subst (λ v. (elim v as (λ _. Option ℕ) [ AreaRun t ↦ if x.start == a then Some t else slot_of_area used a | _ ↦ slot_of_area used a ]) ≡ None) f h)
  where
    taken : (x.start == a) ≡ true → (if x.start == a then Some s else slot_of_area used a) ≡ None → ⊥
    taken q k = none_some s (sym (subst (λ r. (if r then Some s else slot_of_area used a) ≡ None) q k))

area_later : (used : List Allocation) (x : Allocation) (a : ℕ) (u : Use)
    → (elim u as (λ _. Option ℕ) [ AreaRun t ↦ if x.start == a then Some t else slot_of_area used a | _ ↦ slot_of_area used a ]) ≡ None → slot_of_area used a ≡ None
area_later used x a (AreaRun t) h = go (x.start == a) h
  where
    go : (q : Bool) → (if q then Some t else slot_of_area used a) ≡ None → slot_of_area used a ≡ None
    go true k = cc
    go false k = k
area_later used x a _ h = h

some_area : (used : List Allocation) (y : Allocation) (s : ℕ) → In y used → y.«use» ≡ AreaRun s → slot_of_area used y.start ≡ None → ⊥
some_area [] y s i e h = absurd i
some_area (x ∷ used) y s (inl same) e h = area_here used x y.start s (ap (λ (v : Allocation). v.start) (sym same)) (ap (λ (v : Allocation). v.«use») (sym same) ∙ e) h
some_area (x ∷ used) y s (inr i) e h = some_area used y s i e (area_later used x y.start x.«use» h)

-- where no other allocation begins there, the slot of an area is its own
pub area_slot : (used : List Allocation) (y : Allocation) (s : ℕ) → ((x : Allocation) → In x used → x.start ≡ y.start → x ≡ y) → In y used → y.«use» ≡ AreaRun s → slot_of_area used y.start ≡ Some s
area_slot used y s one i e = go (slot_of_area used y.start) refl
  where
    go : (o : Option ℕ) → slot_of_area used y.start ≡ o → slot_of_area used y.start ≡ Some s
    go None h = absurd (some_area used y s i e h)
    go (Some t) h =
        let x = slot_area used y.start t h in
        h ∙ ap (λ (k : ℕ). Some k) (same_area y.«use» t s (ap (λ (v : Allocation). v.«use») (sym (one x.0 x.1 x.2)) ∙ x.3) e)
