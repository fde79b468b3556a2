use Rattle.std.proofs.Common.{◌≡◌, ℕ, suc, ◌≤◌, ◌<◌, ◌==◌, Bool, true, false, cond, nat_lt, find, filter, List, [], ◌∷◌, Option, Some, None, if◌then◌else◌, refl, sym, ap, subst, arith, ◌⊎◌, inl, inr, eqb-true, ltb-true, lt-ltb, le-leb}
use Rattle.std.proofs.lemmas.Bool.{both_ways, eqb-false}
use Rattle.km_model.specs.Blocks.{Block}
use Rattle.km_model.specs.Past.{Past, Place, ScanLoad, world, last_load}
use Rattle.km_model.specs.Scan.{is_white, place_in, or_else, word_above, white_words, first_white, sum_next, stack_next, grey_next, phase_of, unless_over, next_after, next, first_queue, second_queue}
use Rattle.km_model.proofs.Lists.{In, Rising, rising_in, rising_filter, in_filter, filter_in, find_in}
use Rattle.km_model.proofs.Cases.{none_some, some_same}
use Rattle.km_model.proofs.Places.{or_else_some, or_else_none, place_in_is, place_in_none, not_over, stack_is, grey_is, sum_is, if_place}

-- whether the sums haven't come to a block
abbrev pub IsAfter : Option ScanLoad → ℕ → Type 0
IsAfter None id = Unit {0}
IsAfter (Some l) id = l.place.phase ≡ 3 → l.place.holder < id

-- the block that was summed last is done
abbrev pub IsDone : Past → Option ScanLoad → Type 0
IsDone past last = (l : ScanLoad) → last ≡ Some l → l.place.phase ≡ 3 → word_above l.place.word (white_words past l.place.holder) ≡ None

-- no white block is left to be summed
pub record IsOver (past : Past) (last : Option ScanLoad) : Type 0 where
  pub none : (c : Block) → In c (world past).blocks → is_white past c ≡ true → IsAfter last c.id → ⊥
  pub done : IsDone past last

-- the next to be summed is the first white block behind the last
pub record IsFresh (past : Past) (last : Option ScanLoad) (place : Place) : Type 0 where
  pub block : Block
  pub live : In block (world past).blocks
  pub holder : place.holder ≡ block.id
  pub word : place.word ≡ block.start
  pub after : IsAfter last block.id
  pub first : (c : Block) → In c (world past).blocks → is_white past c ≡ true → IsAfter last c.id → block.id ≤ c.id
  pub done : IsDone past last

-- or the last goes on
pub record IsGoing (past : Past) (last : Option ScanLoad) (place : Place) : Type 0 where
  pub load : ScanLoad
  pub newest : last ≡ Some load
  pub three : load.place.phase ≡ 3
  pub holder : place.holder ≡ load.place.holder
  pub word : word_above load.place.word (white_words past load.place.holder) ≡ Some place.word

find_least : {X : Type 0} (key : X → ℕ) (p : X → Bool) (xs : List X) (low high : ℕ) (x y : X) → Rising key low xs high → find p xs ≡ Some x → In y xs → p y ≡ true → key x ≤ key y
find_least key p [] low high x y r h i e = absurd i
find_least key p (z ∷ zs) low high x y r h i e =
    elim (p z) as (λ q. p z ≡ q → cond q (Some z) (find p zs) ≡ Some x → key x ≤ key y) [
      | true ↦ λ _ f. let same : z ≡ x = some_same z x f in subst (λ w. key w ≤ key y) same (least i)
      | false ↦ λ f g. later (λ k j. find_least key p zs (suc (key z)) high x y r.1 k j e) f g i
    ] refl h
  where
    least : In y (z ∷ zs) → key z ≤ key y
    least (inl same) = let k : key y ≡ key z = ap key same in omega (arith, k)
    least (inr j) = let k = (rising_in key zs (suc (key z)) high y r.1 j).0 in omega (arith, k)

    later : (find p zs ≡ Some x → In y zs → key x ≤ key y) → p z ≡ false → find p zs ≡ Some x → In y (z ∷ zs) → key x ≤ key y
    later rest f g (inl same) = absurd (both_ways (p z) f (subst (λ w. p w ≡ true) same e))
    later rest f g (inr j) = rest g j

find_none : {X : Type 0} (p : X → Bool) (xs : List X) (y : X) → find p xs ≡ None → In y xs → p y ≡ true → ⊥
find_none p [] y h i e = i
find_none p (z ∷ zs) y h i e =
    elim (p z) as (λ q. p z ≡ q → cond q (Some z) (find p zs) ≡ None → ⊥) [
      | true ↦ λ _ f. none_some z (sym f)
      | false ↦ λ f g. elim i [
        | inl same ↦ both_ways (p z) f (subst (λ w. p w ≡ true) same e)
        | inr j ↦ find_none p zs y g j e
      ]
    ] refl h

-- the first white block of some
white_found : (past : Past) (bs : List Block) (high : ℕ) (place : Place) → Rising (λ (b : Block). b.id) 0 bs high → first_white past bs ≡ Some place
    → (b : Block) × In b bs × (place.holder ≡ b.id) × (place.word ≡ b.start) × ((c : Block) → In c bs → is_white past c ≡ true → b.id ≤ c.id)
white_found past bs high place r h = go (find (is_white past) bs) refl h
  where
    go : (o : Option Block) → find (is_white past) bs ≡ o → (elim o as (λ _. Option Place) [ None ↦ None | Some b ↦ Some (record { phase = 3; holder = b.id; word = b.start }) ]) ≡ Some place
        → (b : Block) × In b bs × (place.holder ≡ b.id) × (place.word ≡ b.start) × ((c : Block) → In c bs → is_white past c ≡ true → b.id ≤ c.id)
    go None e f = absurd (none_some place f)
    go (Some b) e f =
        let same : (record { phase = 3; holder = b.id; word = b.start }) ≡ place = some_same _ place f in (
          b,
          (find_in (is_white past) bs b e).1,
          ap (λ (q : Place). q.holder) (sym same),
          ap (λ (q : Place). q.word) (sym same),
          (λ c i w. find_least (λ (x : Block). x.id) (is_white past) bs 0 high b c r e i w),
        )

white_none : (past : Past) (bs : List Block) → first_white past bs ≡ None → (c : Block) → In c bs → is_white past c ≡ true → ⊥
white_none past bs h c i w = go (find (is_white past) bs) refl h
  where
    go : (o : Option Block) → find (is_white past) bs ≡ o → (elim o as (λ _. Option Place) [ None ↦ None | Some b ↦ Some (record { phase = 3; holder = b.id; word = b.start }) ]) ≡ None → ⊥
    go None e f = find_none (is_white past) bs c e i w
    go (Some b) e f = none_some _ (sym f)

three_is : (l k : ScanLoad) (P : ScanLoad → Type 0) → Some l ≡ Some k → P l → P k
three_is l k P e p = subst P (some_same l k e) p

later_in : (bs : List Block) (id : ℕ) (c : Block) → In c bs → id < c.id → In c (filter (λ (b : Block). nat_lt id b.id) bs)
later_in bs id c i lt = in_filter (λ (b : Block). nat_lt id b.id) bs c i (lt-ltb id c.id lt)

-- what the third phase gives
pub sum_found : (past : Past) (high : ℕ) (last : Option ScanLoad) (place : Place) → Rising (λ (b : Block). b.id) 0 (world past).blocks high → sum_next past last ≡ Some place → IsGoing past last place ⊎ IsFresh past last place
sum_found past high None place r h =
    let f = white_found past (world past).blocks high place r h in
    inr (record { block = f.0; live = f.1; holder = f.2; word = f.3; after = tt; first = λ c i w _. f.4 c i w; done = λ l e. absurd (none_some l e) })
sum_found past high (Some l) place r h =
    elim (l.place.phase == 3) as (λ q. (l.place.phase == 3) ≡ q → (if q then or_else
    (place_in 3 l.place.holder (word_above l.place.word (white_words past l.place.holder)))
    (first_white past (filter (λ (b : Block). nat_lt l.place.holder b.id) (world past).blocks))
    else first_white past (world past).blocks) ≡ Some place → IsGoing past (Some l) place ⊎ IsFresh past (Some l) place) [
      | true ↦ λ e f. elim (or_else_some (place_in 3 l.place.holder (word_above l.place.word (white_words past l.place.holder))) (first_white past (filter (λ (b : Block). nat_lt l.place.holder b.id) (world past).blocks)) place f) [
        | inl on ↦
            let p = place_in_is 3 l.place.holder (word_above l.place.word (white_words past l.place.holder)) place on in
            inl (record { load = l; newest = refl; three = eqb-true l.place.phase 3 e; holder = p.1; word = p.2 })
        | inr more ↦
            let later = filter (λ (b : Block). nat_lt l.place.holder b.id) (world past).blocks in
            let g = white_found past later high place (rising_filter (λ (b : Block). b.id) (λ (b : Block). nat_lt l.place.holder b.id) (world past).blocks 0 high r) more.1 in
            let m = filter_in (λ (b : Block). nat_lt l.place.holder b.id) (world past).blocks g.0 g.1 in
            inr (record {
              block = g.0;
              live = m.1;
              holder = g.2;
              word = g.3;
              after = λ _. ltb-true l.place.holder g.0.id m.0;
              first = λ c i w a. g.4 c (later_in (world past).blocks l.place.holder c i (a (eqb-true l.place.phase 3 e))) w;
              done = λ k s _. three_is l k (λ (x : ScanLoad). word_above x.place.word (white_words past x.place.holder) ≡ None) s
                  (place_in_none 3 l.place.holder (word_above l.place.word (white_words past l.place.holder)) more.0);
            })
      ]
      | false ↦ λ e f.
          let g = white_found past (world past).blocks high place r f in
          inr (record {
            block = g.0;
            live = g.1;
            holder = g.2;
            word = g.3;
            after = λ three. absurd (eqb-false l.place.phase 3 e three);
            first = λ c i w _. g.4 c i w;
            done = λ k s three. absurd (three_is l k (λ (x : ScanLoad). x.place.phase ≡ 3 → ⊥) s (eqb-false l.place.phase 3 e) three);
          })
    ] refl h

-- and what it says where it gives none
pub sum_none : (past : Past) (last : Option ScanLoad) → sum_next past last ≡ None → IsOver past last
sum_none past None h = record { none = λ c i w _. white_none past (world past).blocks h c i w; done = λ l e. absurd (none_some l e) }
sum_none past (Some l) h =
    elim (l.place.phase == 3) as (λ q. (l.place.phase == 3) ≡ q → (if q then or_else
    (place_in 3 l.place.holder (word_above l.place.word (white_words past l.place.holder)))
    (first_white past (filter (λ (b : Block). nat_lt l.place.holder b.id) (world past).blocks))
    else first_white past (world past).blocks) ≡ None → IsOver past (Some l)) [
      | true ↦ λ e f.
          let both = or_else_none (place_in 3 l.place.holder (word_above l.place.word (white_words past l.place.holder))) (first_white past (filter (λ (b : Block). nat_lt l.place.holder b.id) (world past).blocks)) f in
          record {
            none = λ c i w a. white_none past (filter (λ (b : Block). nat_lt l.place.holder b.id) (world past).blocks) both.1 c (later_in (world past).blocks l.place.holder c i (a (eqb-true l.place.phase 3 e))) w;
            done = λ k s _. three_is l k (λ (x : ScanLoad). word_above x.place.word (white_words past x.place.holder) ≡ None) s
                (place_in_none 3 l.place.holder (word_above l.place.word (white_words past l.place.holder)) both.0);
          }
      | false ↦ λ e f. record {
        none = λ c i w _. white_none past (world past).blocks f c i w;
        done = λ k s three. absurd (three_is l k (λ (x : ScanLoad). x.place.phase ≡ 3 → ⊥) s (eqb-false l.place.phase 3 e) three);
      }
    ] refl h

over_none : (present : ℕ) (o : Option Place) → present ≤ 3 → unless_over 3 present o ≡ None → o ≡ None
over_none present o le h = subst (λ q. (if q then o else None) ≡ None) (le-leb present 3 le) h

module _ (past : Past) (last : Option ScanLoad) where
  abbrev a : Option Place
  a = unless_over 1 (phase_of last) (if (world past).stacks then stack_next past last else None)

  abbrev b : Option Place
  b = unless_over 2 (phase_of last) (grey_next 2 past (first_queue past) last)

  abbrev c : Option Place
  c = unless_over 3 (phase_of last) (sum_next past last)

  abbrev d : Option Place
  d = grey_next 4 past (second_queue past) last

  -- a load of the third phase
  three_found : (place : Place) → next_after past last ≡ Some place → place.phase ≡ 3 → sum_next past last ≡ Some place
  three_found place h three =
      elim (or_else_some a (or_else b (or_else c d)) place h) [
        | inl one ↦
            let n = not_over 1 (phase_of last) (if (world past).stacks then stack_next past last else None) place one in
            absurd (let e = (stack_is past last place (if_place (world past).stacks (stack_next past last) place n.1).1).0 in omega (arith, e, three))
        | inr more ↦ elim (or_else_some b (or_else c d) place more.1) [
          | inl two ↦ absurd (let e = (grey_is 2 past (first_queue past) last place (not_over 2 (phase_of last) (grey_next 2 past (first_queue past) last) place two).1).0 in omega (arith, e, three))
          | inr rest ↦ elim (or_else_some c d place rest.1) [
            | inl it ↦ (not_over 3 (phase_of last) (sum_next past last) place it).1
            | inr four ↦ absurd (let e = (grey_is 4 past (second_queue past) last place four.1).0 in omega (arith, e, three))
          ]
        ]
      ]

  -- a load of the fourth
  four_found : (place : Place) → next_after past last ≡ Some place → place.phase ≡ 4 → phase_of last ≤ 3 → sum_next past last ≡ None
  four_found place h four le =
      elim (or_else_some a (or_else b (or_else c d)) place h) [
        | inl one ↦
            let n = not_over 1 (phase_of last) (if (world past).stacks then stack_next past last else None) place one in
            absurd (let e = (stack_is past last place (if_place (world past).stacks (stack_next past last) place n.1).1).0 in omega (arith, e, four))
        | inr more ↦ elim (or_else_some b (or_else c d) place more.1) [
          | inl two ↦ absurd (let e = (grey_is 2 past (first_queue past) last place (not_over 2 (phase_of last) (grey_next 2 past (first_queue past) last) place two).1).0 in omega (arith, e, four))
          | inr rest ↦ elim (or_else_some c d place rest.1) [
            | inl three ↦ absurd (let e = (sum_is past last place (not_over 3 (phase_of last) (sum_next past last) place three).1).0 in omega (arith, e, four))
            | inr it ↦ over_none (phase_of last) (sum_next past last) le it.0
          ]
        ]
      ]

  -- or none
  all_over : next_after past last ≡ None → phase_of last ≤ 3 → sum_next past last ≡ None
  all_over h le = over_none (phase_of last) (sum_next past last) le (or_else_none c d (or_else_none b (or_else c d) (or_else_none a (or_else b (or_else c d)) h).1).1).0

-- where the next load is one of the third phase
pub next_sums : (past : Past) (high : ℕ) (place : Place) → Rising (λ (b : Block). b.id) 0 (world past).blocks high → next past ≡ Some place → place.phase ≡ 3
    → IsGoing past (last_load past) place ⊎ IsFresh past (last_load past) place
unfolding next
next_sums past high place r h three = sum_found past high (last_load past) place r (three_found past (last_load past) place h three)

-- where it is one of the fourth, the sums are over
pub next_over : (past : Past) (place : Place) → next past ≡ Some place → place.phase ≡ 4 → phase_of (last_load past) ≤ 3 → IsOver past (last_load past)
unfolding next
next_over past place h four le = sum_none past (last_load past) (four_found past (last_load past) place h four le)

-- and where there is none
pub end_over : (past : Past) → next past ≡ None → phase_of (last_load past) ≤ 3 → IsOver past (last_load past)
unfolding next
end_over past h le = sum_none past (last_load past) (all_over past (last_load past) h le)
