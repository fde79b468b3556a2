use Rattle.std.proofs.Common.{◌≡◌, ℕ, zero, suc, ◌<◌, Bool, true, false, not, nat_lt, List, [], ◌∷◌, ◌++◌, length, map, filter, find, take, drop, set, get_or, cond, Option, Some, None, option_map, is_some, if◌then◌else◌, bytes_eq, slice_set, slice_get, refl, sym, ap, ◌∙◌, subst, arith, inl, inr}
use Rattle.std.specs.List.{position, position_or_len, remove}
use Rattle.std.proofs.lemmas.Bool.{cases_eq, cases_order, ltb-false, both_ways, false_from_ne_true, ltb-true}
use Rattle.std.proofs.lemmas.List.{get_or-map, get_or-set_same, get_or-set_other, length-map, length-set, ext_get_or, map-set}
use Rattle.std.proofs.lemmas.List.Folds.{find_at}
use Rattle.std.proofs.lemmas.Option.{slice_get-get_or, slice_get_past}
use Rattle.std.proofs.lemmas.List.Quantifiers.{position-Some, all_pairs_push}
use Rattle.std.proofs.lemmas.Slice.Eq.{bytes_eq-Decides}
use Rattle.km_base.specs.declared.acts.Reg.{Reg}
use Rattle.km_model.specs.Tasks.{Task, place_of, task_named, with_register, without_task}
use Rattle.km_tasks.specs.declared.tasks.Live.{Live}
use Rattle.km_tasks.specs.Lives.{task, AreNamed}
use Rattle.km_tasks.specs.Roll.{task_after}

-- whether a live task has a name
abbrev pub has_name : List ℕ → Live → Bool
has_name name l = bytes_eq l.name name

-- what a position finds
pub find_there : {X : Type 0} (p : X → Bool) (xs : List X) (i : ℕ) (d : X) → position p xs ≡ Some i → find p xs ≡ Some (get_or xs i d)
find_there p xs i d h =
    let Goal = λ (q : Bool). nat_lt (position_or_len p xs) (length xs) ≡ q → cond q (Some (position_or_len p xs)) None ≡ Some i → find p xs ≡ Some (get_or xs i d) in
    elim (nat_lt (position_or_len p xs) (length xs)) as Goal [
      | true ↦ λ e s. let at : position_or_len p xs ≡ i = cc in
          find_at p xs ∙ slice_get-get_or xs (position_or_len p xs) d (ltb-true (position_or_len p xs) (length xs) e) ∙ ap (λ k. Some (get_or xs k d)) at
      | false ↦ λ e s. absurd cc
    ] refl h

pub find_nowhere : {X : Type 0} (p : X → Bool) (xs : List X) → position p xs ≡ None → find p xs ≡ None
find_nowhere p xs h =
    let Goal = λ (q : Bool). nat_lt (position_or_len p xs) (length xs) ≡ q → cond q (Some (position_or_len p xs)) None ≡ None → find p xs ≡ None in
    elim (nat_lt (position_or_len p xs) (length xs)) as Goal [
      | true ↦ λ e s. absurd cc
      | false ↦ λ e s. find_at p xs ∙ slice_get_past xs (position_or_len p xs) (ltb-false (position_or_len p xs) (length xs) e)
    ] refl h

find_map : {X Y : Type 0} (f : X → Y) (p : Y → Bool) (xs : List X) → find p (map f xs) ≡ option_map f (find (λ x. p (f x)) xs)
find_map f p [] = refl
find_map f p (x ∷ xs) =
    elim (p (f x)) as (λ b. cond b (Some (f x)) (find p (map f xs)) ≡ option_map f (cond b (Some x) (find (λ y. p (f y)) xs))) [ true ↦ refl | false ↦ find_map f p xs ]

pub named_there : (lives : List Live) (name : List ℕ) (i : ℕ) (d : Live) → position (has_name name) lives ≡ Some i → task_named (map task lives) name ≡ Some (task (get_or lives i d))
named_there lives name i d h = find_map task (λ (t : Task). bytes_eq t.name name) lives ∙ ap (option_map task) (find_there (has_name name) lives i d h)

some_there : {X : Type 0} (xs : List X) (i : ℕ) → i < length xs → is_some (slice_get xs i) ≡ true
some_there [] i lt = absurd (omega (arith, lt))
some_there (x ∷ xs) zero lt = refl
some_there (x ∷ xs) (suc i) lt = some_there xs i (omega (arith, lt))

some_found : {X : Type 0} (p : X → Bool) (xs : List X) → is_some (position p xs) ≡ is_some (find p xs)
some_found p xs =
    let Goal = λ (q : Bool). nat_lt (position_or_len p xs) (length xs) ≡ q → is_some (cond q (Some (position_or_len p xs)) None) ≡ is_some (find p xs) in
    elim (nat_lt (position_or_len p xs) (length xs)) as Goal [
      | true ↦ λ e. sym (ap is_some (find_at p xs) ∙ some_there xs (position_or_len p xs) (ltb-true (position_or_len p xs) (length xs) e))
      | false ↦ λ e. sym (ap is_some (find_at p xs ∙ slice_get_past xs (position_or_len p xs) (ltb-false (position_or_len p xs) (length xs) e)))
    ] refl

some_mapped : {X Y : Type 0} (f : X → Y) (o : Option X) → is_some o ≡ is_some (option_map f o)
some_mapped f None = refl
some_mapped f (Some x) = refl

pub named_some : (lives : List Live) (name : List ℕ) → is_some (position (has_name name) lives) ≡ is_some (task_named (map task lives) name)
named_some lives name =
    some_found (has_name name) lives ∙ some_mapped task (find (has_name name) lives) ∙ sym (ap is_some (find_map task (λ (t : Task). bytes_eq t.name name) lives))

pub above_there : (lives : List Live) (number i : ℕ) (d : Live) → position (λ (l : Live). nat_lt number l.number) lives ≡ Some i → task_after (map task lives) number ≡ Some (task (get_or lives i d))
above_there lives number i d h = find_map task (λ (t : Task). nat_lt number t.number) lives ∙ ap (option_map task) (find_there (λ (l : Live). nat_lt number l.number) lives i d h)

pub above_nowhere : (lives : List Live) (number : ℕ) → position (λ (l : Live). nat_lt number l.number) lives ≡ None → task_after (map task lives) number ≡ None
above_nowhere lives number h = find_map task (λ (t : Task). nat_lt number t.number) lives ∙ ap (option_map task) (find_nowhere (λ (l : Live). nat_lt number l.number) lives h)

-- names that are equal
pub same_name : (a b : List ℕ) → bytes_eq a b ≡ true → a ≡ b
same_name a b e = (bytes_eq-Decides a b).0 e

pub same_both : (a b : List ℕ) → bytes_eq a b ≡ false → bytes_eq b a ≡ false
same_both a b e = false_from_ne_true (bytes_eq b a) (λ f. both_ways (bytes_eq a b) e ((bytes_eq-Decides a b).1 (sym (same_name b a f))))

-- the one place at which a name stands among the live tasks
pub record IsAt (tasks : List Task) (name : List ℕ) (i : ℕ) : Type 0 where
  pub within : i < length tasks
  pub here : (d : Task) → bytes_eq (get_or tasks i d).name name ≡ true
  pub others : (k : ℕ) (d : Task) → k < length tasks → (k ≡ i → ⊥) → bytes_eq (get_or tasks k d).name name ≡ false

pub place_is : {X : Type 0} (p : X → Bool) (xs : List X) (i : ℕ) → position p xs ≡ Some i → i < length xs
place_is p xs i h =
    let Goal = λ (q : Bool). nat_lt (position_or_len p xs) (length xs) ≡ q → cond q (Some (position_or_len p xs)) None ≡ Some i → i < length xs in
    elim (nat_lt (position_or_len p xs) (length xs)) as Goal [
      | true ↦ λ e s. let at : position_or_len p xs ≡ i = cc in let lt = ltb-true (position_or_len p xs) (length xs) e in omega (arith, at, lt)
      | false ↦ λ e s. absurd cc
    ] refl h

pub is_at : (lives : List Live) (name : List ℕ) (i : ℕ) (live : Live) → AreNamed (map task lives) → position (has_name name) lives ≡ Some i → IsAt (map task lives) name i
is_at lives name i live named h =
    let lt = place_is (has_name name) lives i h in
    let found = position-Some (has_name name) lives i live h in
    let n = same_name (get_or lives i live).name name found.1 in
    let l = length-map lives task in
    record {
      within = omega (arith, lt, l);
      here = λ d. subst (λ (t : Task). bytes_eq t.name name ≡ true) (sym (get_or-map task lives i live d lt)) found.1;
      others = λ k d less ne. elim (cases_order k i) [
        | inl same ↦ absurd (ne same)
        | inr (inl before) ↦ subst (λ (t : Task). bytes_eq t.name name ≡ false) (sym (get_or-map task lives k live d (omega (arith, less, l)))) (found.2 k before)
        | inr (inr after) ↦
            subst (λ m. bytes_eq (get_or (map task lives) k d).name m ≡ false) (ap (λ (t : Task). t.name) (get_or-map task lives i live d lt) ∙ n) (named i k d after less)
      ];
    }

-- the others stay, where one is changed
pub one_changed : {X : Type 0} (p : X → Bool) (f : X → X) (xs : List X) (i : ℕ) (d : X) → i < length xs → p (get_or xs i d) ≡ true → ((k : ℕ) → k < length xs → (k ≡ i → ⊥) → p (get_or xs k d) ≡ false)
    → map (λ x. if p x then f x else x) xs ≡ set xs i (f (get_or xs i d))
one_changed p f xs i d within here others =
    ext_get_or d (map (λ x. if p x then f x else x) xs) (set xs i (f (get_or xs i d))) (length-map xs (λ x. if p x then f x else x) ∙ sym (length-set xs i (f (get_or xs i d))))
    (λ k lt.
    let less : k < length xs = (let l = length-map xs (λ x. if p x then f x else x) in omega (arith, lt, l)) in
    get_or-map (λ x. if p x then f x else x) xs k d d less
    ∙ elim (cases_eq k i) [
      | inl same ↦
          subst (λ j. (if p (get_or xs j d) then f (get_or xs j d) else get_or xs j d) ≡ get_or (set xs i (f (get_or xs i d))) j d) (sym same)
          (rw here (sym (get_or-set_same xs i (f (get_or xs i d)) d within)))
      | inr other ↦ rw (others k less other) (sym (get_or-set_other xs i k (f (get_or xs i d)) d other))
    ])

-- the others are left, where one is removed
none_removed : {X : Type 0} (p : X → Bool) (xs : List X) → ((k : ℕ) (d : X) → k < length xs → p (get_or xs k d) ≡ false) → filter (λ x. not (p x)) xs ≡ xs
none_removed p [] f = refl
none_removed p (x ∷ xs) f = rw (f 0 x (omega arith)) (ap (λ ys. x ∷ ys) (none_removed p xs (λ k d lt. f (suc k) d (omega (arith, lt)))))

pub one_removed : {X : Type 0} (p : X → Bool) (xs : List X) (i : ℕ) → i < length xs → ((d : X) → p (get_or xs i d) ≡ true) → ((k : ℕ) (d : X) → k < length xs → (k ≡ i → ⊥) → p (get_or xs k d) ≡ false)
    → filter (λ x. not (p x)) xs ≡ take i xs ++ drop (suc i) xs
one_removed p [] i within here others = absurd (omega (arith, within))
one_removed p (x ∷ xs) zero within here others =
    rw (here x) (none_removed p xs (λ k d lt. others (suc k) d (omega (arith, lt)) (λ e. omega (arith, e))))
one_removed p (x ∷ xs) (suc i) within here others =
    rw (others 0 x (omega arith) (λ e. omega (arith, e)))
    (ap (λ ys. x ∷ ys) (one_removed p xs i (omega (arith, within)) here (λ k d lt ne. others (suc k) d (omega (arith, lt)) (λ e. ne (omega (arith, e))))))

-- a name that none has
pub none_named : (tasks : List Task) (name : List ℕ) → task_named tasks name ≡ None → (k : ℕ) (d : Task) → k < length tasks → bytes_eq (get_or tasks k d).name name ≡ false
none_named [] name h k d lt = absurd (omega (arith, lt))
none_named (t ∷ tasks) name h zero d lt =
    let Goal = λ (q : Bool). bytes_eq t.name name ≡ q → cond q (Some t) (task_named tasks name) ≡ None → bytes_eq t.name name ≡ false in
    elim (bytes_eq t.name name) as Goal [ true ↦ λ e s. absurd cc | false ↦ λ e s. e ] refl h
none_named (t ∷ tasks) name h (suc k) d lt =
    let Goal = λ (q : Bool). bytes_eq t.name name ≡ q → cond q (Some t) (task_named tasks name) ≡ None → task_named tasks name ≡ None in
    none_named tasks name (elim (bytes_eq t.name name) as Goal [ true ↦ λ e s. absurd cc | false ↦ λ e s. s ] refl h) k d (omega (arith, lt))

-- the names stay apart
pub named_push : (tasks : List Task) (t : Task) → AreNamed tasks → task_named tasks t.name ≡ None → AreNamed (tasks ++ t ∷ [])
named_push tasks t named none =
    all_pairs_push (λ (a b : Task). bytes_eq b.name a.name ≡ false) tasks t named
    (λ k d lt. same_both (get_or tasks k d).name t.name (none_named tasks t.name none k d lt))

pub named_set : (tasks : List Task) (name : List ℕ) (reg : Reg) (value : ℕ) → AreNamed tasks → AreNamed (with_register tasks name reg value)
named_set tasks name reg value named i j d less lt =
    let l = length-map tasks (λ (t : Task). if bytes_eq t.name name then record t { registers = slice_set t.registers (place_of reg) value } else t) in
    let at = λ (k : ℕ) (within : k < length tasks). set_name name reg value (get_or tasks k d) (get_or (with_register tasks name reg value) k d)
    (get_or-map (λ (t : Task). if bytes_eq t.name name then record t { registers = slice_set t.registers (place_of reg) value } else t) tasks k d d within) in
    subst (λ m. bytes_eq m (get_or (with_register tasks name reg value) i d).name ≡ false) (sym (at j (omega (arith, lt, l))))
    (subst (λ m. bytes_eq (get_or tasks j d).name m ≡ false) (sym (at i (omega (arith, less, lt, l)))) (named i j d less (omega (arith, lt, l)))) where
      set_name : (name : List ℕ) (reg : Reg) (value : ℕ) (t u : Task) → u ≡ (if bytes_eq t.name name then record t { registers = slice_set t.registers (place_of reg) value } else t) → u.name ≡ t.name
      set_name name reg value t u e =
          ap (λ (v : Task). v.name) e ∙ elim (bytes_eq t.name name) as (λ b. (if b then record t { registers = slice_set t.registers (place_of reg) value } else t).name ≡ t.name) [ true ↦ refl | false ↦ refl ]

-- a task is removed, and one is changed, among the live ones
map_take : {X Y : Type 0} (f : X → Y) (i : ℕ) (xs : List X) → map f (take i xs ++ drop (suc i) xs) ≡ take i (map f xs) ++ drop (suc i) (map f xs)
map_take f zero [] = refl
map_take f zero (x ∷ xs) = refl
map_take f (suc i) [] = refl
map_take f (suc i) (x ∷ xs) = ap (λ ys. f x ∷ ys) (map_take f i xs)

pub gone_at : (lives : List Live) (name : List ℕ) (i : ℕ) → IsAt (map task lives) name i → map task (remove lives i) ≡ without_task (map task lives) name
gone_at lives name i at =
    map_take task i lives ∙ sym (one_removed (λ (t : Task). bytes_eq t.name name) (map task lives) i at.within at.here at.others)

pub set_at : (lives : List Live) (name : List ℕ) (i : ℕ) (reg : Reg) (value : ℕ) (old new : Live) → IsAt (map task lives) name i → old ≡ get_or lives i old
    → task new ≡ record (task old) { registers = slice_set old.registers (place_of reg) value } → map task (set lives i new) ≡ with_register (map task lives) name reg value
set_at lives name i reg value old new at is e =
    let within : i < length lives = (let w = at.within in let l = length-map lives task in omega (arith, w, l)) in
    let there = get_or-map task lives i old (task old) within ∙ ap task (sym is) in
    map-set task lives i new
    ∙ ap (set (map task lives) i) (e ∙ ap (λ (t : Task). record t { registers = slice_set t.registers (place_of reg) value }) (sym there))
    ∙ sym (one_changed (λ (t : Task). bytes_eq t.name name) (λ (t : Task). record t { registers = slice_set t.registers (place_of reg) value }) (map task lives) i (task old) at.within (at.here (task old)) (λ k lt ne. at.others k (task old) lt ne))
