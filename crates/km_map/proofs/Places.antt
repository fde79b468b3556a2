use Rattle.std.proofs.Common.{Bor, ◌≡◌, ℕ, zero, suc, ◌+◌, ◌-◌, ◌≤◌, ◌<◌, Bool, true, false, ◌&&◌, not, inl, inr, eqb, ltb, leb, List, [], ◌∷◌, filter, length, get_or, cond, Option, Some, None, option_map, refl, sym, ap, ◌∙◌, arith, add-one, subst}
use Rattle.std.specs.Prelude.{find}
use Rattle.std.specs.Option.{MatchOption, option_copied}
use Rattle.std.proofs.lemmas.Option.{slice_get_past, slice_get-get_or}
use Rattle.std.specs.List.{HoldsAt, insert, remove, slice_get}
use Rattle.std.specs.List.Sorted.{IsPartitionedBy, IsPartitionPoint}
use Rattle.std.proofs.lemmas.Bool.{le-leb, lt-leb, cases_lt, ltb-true, ltb-false, leb-true, leb-false, lt-ltb, le-ltb, ne_eqb}
use Rattle.km_map.specs.declared.entries.Entry.{Entry}
use Rattle.km_map.specs.Entries.{end_of, starts_at, meets, slot_where, with_entry, without_start, ended, ends_behind, StartFrom, IsRising}
use Rattle.km_map.proofs.Rising.{rising-with, rising-filter, none_from, none_parts, apart_cases}

pub ended_within : (a : ℕ) (es : List Entry) → ended a es ≤ length es
ended_within a [] = omega arith
ended_within a (e ∷ es) =
    elim (leb (end_of e) a) as (λ b. cond b (ended a es + 1) 0 ≤ length (e ∷ es)) [ true ↦ omega (arith, ended_within a es) | false ↦ omega arith ]

-- the first that ends behind an address, by its place
pub find-ends_behind : (a : ℕ) (es : List Entry) → find (ends_behind a) es ≡ slice_get es (ended a es)
find-ends_behind a [] = refl
find-ends_behind a (e ∷ es) =
    elim (leb (end_of e) a) as (λ b. leb (end_of e) a ≡ b → find (ends_behind a) (e ∷ es) ≡ slice_get (e ∷ es) (cond b (ended a es + 1) 0)) [
      | true ↦ λ f. rw (le-ltb a (end_of e) (leb-true _ _ f), add-one) (find-ends_behind a es)
      | false ↦ λ f. rw (lt-ltb a (end_of e) (leb-false _ _ f)) refl
    ] refl

pub ends_late : (a : ℕ) (es : List Entry) (y : Entry) → find (ends_behind a) es ≡ Some y → a < end_of y
ends_late a [] y h = absurd (let z : ⊥ = cc in z)
ends_late a (e ∷ es) y h =
    elim (ltb a (end_of e)) as (λ b. ltb a (end_of e) ≡ b → cond b (Some e) (find (ends_behind a) es) ≡ Some y → a < end_of y) [
      | true ↦ λ f g. let same : e ≡ y = cc in subst (λ (x : Entry). a < end_of x) same (ltb-true _ _ f)
      | false ↦ λ _ g. ends_late a es y g
    ] refl h

-- a search that passes over the entries with sizes that end at an address, by the first that ends behind it
abbrev pub Skips : (Entry → Bool) → ℕ → Type 0
Skips q a = (e : Entry) → 0 < e.span.size → end_of e ≤ a → q e ≡ false

pub search_none : (q : Entry → Bool) (a : ℕ) (es : List Entry) → Skips q a → IsRising es → find (ends_behind a) es ≡ None → slot_where q es ≡ None
search_none q a [] skips r h = refl
search_none q a (e ∷ es) skips r h =
    let p = none_parts (ends_behind a) e es h in rw (skips e r.0 (ltb-false _ _ p.0)) (search_none q a es skips r.2 p.1)

pub search_some : (q : Entry → Bool) (a : ℕ) (es : List Entry) (y : Entry) → Skips q a → IsRising es → find (ends_behind a) es ≡ Some y → q y ≡ true → slot_where q es ≡ Some y.slot
search_some q a [] y skips r h t = absurd (let z : ⊥ = cc in z)
search_some q a (e ∷ es) y skips r h t =
    elim (ltb a (end_of e)) as (λ b. ltb a (end_of e) ≡ b → cond b (Some e) (find (ends_behind a) es) ≡ Some y → slot_where q (e ∷ es) ≡ Some y.slot) [
      | true ↦ λ _ g. let same : e ≡ y = cc in rw (same, t) refl
      | false ↦ λ f g. rw (skips e r.0 (ltb-false _ _ f)) (search_some q a es y skips r.2 g t)
    ] refl h

-- where that one doesn't pass, none behind it does
pub search_not : (q : Entry → Bool) (a : ℕ) (es : List Entry) (y : Entry) → Skips q a → IsRising es → find (ends_behind a) es ≡ Some y → q y ≡ false → ((e : Entry) → end_of y ≤ e.span.start.0 → q e ≡ false) → slot_where q es ≡ None
search_not q a [] y skips r h t later = refl
search_not q a (e ∷ es) y skips r h t later =
    elim (ltb a (end_of e)) as (λ b. ltb a (end_of e) ≡ b → cond b (Some e) (find (ends_behind a) es) ≡ Some y → slot_where q (e ∷ es) ≡ None) [
      | true ↦ λ _ g. let same : e ≡ y = cc in rw (same, t) (rw (none_from q (end_of y) es (subst (λ (x : Entry). StartFrom (end_of x) es) same r.1) later) refl)
      | false ↦ λ f g. rw (skips e r.0 (ltb-false _ _ f)) (search_not q a es y skips r.2 g t later)
    ] refl h

pub insert_ended : (e : Entry) (es : List Entry) → 0 < e.span.size → IsRising es → find (meets e.span) es ≡ None → insert es (ended e.span.start.0 es) e ≡ with_entry e es
insert_ended e [] z r n = refl
insert_ended e (x ∷ xs) z r n =
    let p = none_parts (meets e.span) x xs n in
    elim (leb (end_of x) e.span.start.0) as (λ b. leb (end_of x) e.span.start.0 ≡ b → insert (x ∷ xs) (cond b (ended e.span.start.0 xs + 1) 0) e ≡ with_entry e (x ∷ xs)) [
      | true ↦ λ f. rw (lt-ltb x.span.start.0 e.span.start.0 (omega (arith, leb-true _ _ f, r.0)), add-one) (ap (λ es. x ∷ es) (insert_ended e xs z r.2 p.1))
      | false ↦ λ f. rw (le-ltb x.span.start.0 e.span.start.0 (behind e x p.0 (leb-false _ _ f))) refl
    ] refl
  where
    behind : (e x : Entry) → meets e.span x ≡ false → e.span.start.0 < end_of x → e.span.start.0 ≤ x.span.start.0
    behind e x h l =
        elim (leb (end_of e) x.span.start.0) as (λ b. leb (end_of e) x.span.start.0 ≡ b → e.span.start.0 ≤ x.span.start.0) [
          | true ↦ λ f. omega (arith, leb-true _ _ f)
          | false ↦ λ f. absurd (omega (arith, apart_cases e.span x h (λ k. omega (arith, k, leb-false _ _ f))))
        ] refl

-- what doesn't pass a search stays
pub kept_all : (q : Entry → Bool) (es : List Entry) → find q es ≡ None → filter (λ e. not (q e)) es ≡ es
kept_all q [] h = refl
kept_all q (e ∷ es) h = let p = none_parts q e es h in rw (p.0, kept_all q es p.1) refl

pub remove_ended : (a n : ℕ) (es : List Entry) → IsRising es → slot_where (starts_at a) es ≡ Some n → (ended a es < length es) × (remove es (ended a es) ≡ without_start a es)
remove_ended a n [] r h = absurd (let z : ⊥ = cc in z)
remove_ended a n (x ∷ xs) r h =
    elim (leb (end_of x) a) as (λ b. leb (end_of x) a ≡ b → (cond b (ended a xs + 1) 0 < length (x ∷ xs)) × (remove (x ∷ xs) (cond b (ended a xs + 1) 0) ≡ without_start a (x ∷ xs))) [
      | true ↦ λ f.
          let other = ne_eqb x.span.start.0 a (λ e. omega (arith, e, leb-true _ _ f, r.0)) in
          let rest = remove_ended a n xs r.2 (rw other at h) in
          (omega (arith, rest.0), rw (other, add-one) (ap (λ es. x ∷ es) rest.1))
      | false ↦ λ f. (omega arith, first (leb-false _ _ f))
    ] refl
  where
    later : a < end_of x → (e : Entry) → end_of x ≤ e.span.start.0 → starts_at a e ≡ false
    later g e k = ne_eqb e.span.start.0 a (λ w. omega (arith, k, w, g))

    first : a < end_of x → xs ≡ without_start a (x ∷ xs)
    first g =
        elim (eqb x.span.start.0 a) as (λ b. option_map (λ (e : Entry). e.slot) (cond b (Some x) (find (starts_at a) xs)) ≡ Some n → xs ≡ cond (not b) (x ∷ without_start a xs) (without_start a xs)) [
          | true ↦ λ _. sym (kept_all (starts_at a) xs (none_from (starts_at a) (end_of x) xs r.1 (later g)))
          | false ↦ λ w. absurd (let z : option_map (λ (e : Entry). e.slot) (find (starts_at a) xs) ≡ None = rw (none_from (starts_at a) (end_of x) xs r.1 (later g)) refl in let y : ⊥ = cc in y)
        ] h

-- those that end at an address or before it stand in front
abbrev pub ends_by : ℕ → Entry → Bool
ends_by a e = leb e.span.start.0 a && leb e.span.size (a - e.span.start.0)

pub ends_by_is : (a : ℕ) (e : Entry) → ends_by a e ≡ leb (end_of e) a
ends_by_is a e =
    elim (leb (end_of e) a) as (λ b. leb (end_of e) a ≡ b → ends_by a e ≡ b) [
      | true ↦ λ f. let h = leb-true (end_of e) a f in rw (le-leb e.span.start.0 a (omega (arith, h)), le-leb e.span.size (a - e.span.start.0) (omega (arith, h))) refl
      | false ↦ λ f. elim (leb e.span.start.0 a) as (λ t. leb e.span.start.0 a ≡ t → (t && leb e.span.size (a - e.span.start.0)) ≡ false) [
        | true ↦ λ g. lt-leb e.span.size (a - e.span.start.0) (omega (arith, leb-false (end_of e) a f, leb-true e.span.start.0 a g))
        | false ↦ λ _. refl
      ] refl
    ] refl

ends_before : (es : List Entry) (i j : ℕ) (d : Entry) → IsRising es → i < j → j < length es → end_of (get_or es i d) ≤ (get_or es j d).span.start.0
ends_before [] i j d r h l = absurd (omega arith)
ends_before (e ∷ es) i zero d r h l = absurd (omega arith)
ends_before (e ∷ es) zero (suc j) d r h l = from (end_of e) es j d r.1 (omega arith)
  where
    from : (a : ℕ) (es : List Entry) (j : ℕ) (d : Entry) → StartFrom a es → j < length es → a ≤ (get_or es j d).span.start.0
    from a [] j d s l = absurd (omega arith)
    from a (e ∷ es) zero d s l = s.0
    from a (e ∷ es) (suc j) d s l = from a es j d s.1 (omega arith)
ends_before (e ∷ es) (suc i) (suc j) d r h l = ends_before es i j d r.2 (omega arith) (omega arith)

pub parted : (a : ℕ) (es : List Entry) → IsRising es → IsPartitionedBy (ends_by a) es
parted a es r i j d h l t =
    elim (cases_lt i j) [
      | inl k ↦ rw (ends_by_is a (get_or es i d)) (le-leb _ a (omega (arith, ends_before es i j d r k l, leb-true (end_of (get_or es j d)) a (sym (ends_by_is a (get_or es j d)) ∙ t))))
      | inr k ↦ let same : i ≡ j = omega arith in subst (λ n. ends_by a (get_or es n d) ≡ true) (sym same) t
    ]

pub ended_point : (a : ℕ) (es : List Entry) (i : ℕ) → i ≤ length es → IsPartitionPoint (λ e. ends_by a e ≡ true) (λ e. ends_by a e ≡ false) es i → i ≡ ended a es
ended_point a [] i h p = omega arith
ended_point a (e ∷ es) zero h p = let f = p.1 0 e (omega arith) (omega arith) in rw (sym (ends_by_is a e) ∙ f) refl
ended_point a (e ∷ es) (suc i) h p =
    let t = p.0 0 e (omega arith) (omega arith) in
    rw (sym (ends_by_is a e) ∙ t) (omega (arith, ended_point a es i (omega arith) (λ k d l m. p.0 (suc k) d (omega arith) (omega arith), λ k d l m. p.1 (suc k) d (omega arith) (omega arith))))

-- what `get` gives
pub gets : {X : Type 0} (xs : List X) (i : ℕ) (r : Option (Bor X)) → MatchOption r (length xs ≤ i) (λ x. (i < length xs) × HoldsAt (λ y. x.now ≡ y) xs i) → option_copied r ≡ slice_get xs i
gets xs i None h = sym (slice_get_past xs i h)
gets xs i (Some b) h = rw (slice_get-get_or xs i b.now h.0) (ap Some (h.1 b.now))

-- what `get` gives at the place of an address
pub found_at : (a i : ℕ) (es : List Entry) (r : Option (Bor Entry)) → i ≡ ended a es → MatchOption r (length es ≤ i) (λ x. (i < length es) × HoldsAt (λ y. x.now ≡ y) es i) → option_copied r ≡ find (ends_behind a) es
found_at a i es r h m = gets es i r m ∙ (ap (slice_get es) h ∙ sym (find-ends_behind a es))

-- a list after a removal, in the words of the map's laws
pub removed : (a slot n : ℕ) (xs seen at zs : List Entry) → at ≡ xs → xs ≡ seen → IsRising xs → Some slot ≡ slot_where (starts_at a) seen → n ≡ ended a at
    → (n < length xs) × (zs ≡ remove xs n → (zs ≡ without_start a seen) × IsRising zs)
removed a slot n xs seen at zs s t r f h =
    let found : slot_where (starts_at a) xs ≡ Some slot = rw t (sym f) in
    let e : n ≡ ended a xs = h ∙ ap (λ l. ended a l) s in
    let gone = remove_ended a slot xs r found in
    (rw e gone.0, λ i. let made : zs ≡ without_start a xs = i ∙ (ap (λ k. remove xs k) e ∙ gone.1) in (made ∙ ap (λ l. without_start a l) t, rw made (rising-filter _ xs r)))

pub none_below : (o : Option Entry) → None ≡ option_map (λ (e : Entry). e.slot) o → o ≡ None
none_below None h = refl
none_below (Some e) h = cc

pub kept_none : (a : ℕ) (es : List Entry) → None ≡ slot_where (starts_at a) es → es ≡ without_start a es
kept_none a es h = sym (kept_all (starts_at a) es (none_below (find (starts_at a) es) h))

-- a list after an insertion at its place, in the words of the map's laws
pub inserted : (e : Entry) (xs seen at zs : List Entry) (n : ℕ) → at ≡ xs → xs ≡ seen → 0 < e.span.size → IsRising xs → None ≡ slot_where (meets e.span) xs → n ≡ ended e.span.start.0 at → zs ≡ insert xs n e
    → (slot_where (meets e.span) seen ≡ None) × (zs ≡ with_entry e seen) × IsRising zs
inserted e xs seen at zs n s t z r a h i =
    let apart : find (meets e.span) xs ≡ None = none_below (find (meets e.span) xs) a in
    let made : zs ≡ with_entry e xs = i ∙ (ap (λ k. insert xs k e) (h ∙ ap (λ l. ended e.span.start.0 l) s) ∙ insert_ended e xs z r apart) in
    (rw (← t, apart) refl, made ∙ ap (λ l. with_entry e l) t, rw made (rising-with e xs z apart r))
