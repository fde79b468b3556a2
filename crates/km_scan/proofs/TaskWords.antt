use Rattle.std.proofs.Common.{◌≡◌, ℕ, zero, suc, ◌+◌, ◌-◌, ◌*◌, ◌<◌, ◌≤◌, ◌^◌, Bool, true, false, cond, ltb, List, [], ◌∷◌, filter, Option, Some, None, option_map, refl, sym, ap, ◌∙◌, subst, arith}
use Rattle.std.specs.Prelude.{find, ◌==◌, if◌then◌else◌}
use Rattle.std.specs.List.{All}
use Rattle.std.proofs.lemmas.List.Elements.{All-nil, All-cons, All-weaker}
use Rattle.std.proofs.lemmas.Bool.{eqb-true, eqb-false, eq-eqb, ne_eqb, ltb-true, ltb-false, lt-ltb}
use Rattle.km_model.specs.Tasks.{Task, stack_words}
use Rattle.km_model.specs.Past.{Place}
use Rattle.km_model.specs.Scan.{first_stack, stack_of, word_above}
use Rattle.km_tasks.specs.Lives.{AreNumbered}
use Rattle.km_tasks.specs.Roll.{task_after}
use Rattle.km_scan.specs.Stand.{IsStackWord, StackEnds}
use Rattle.km_scan.proofs.Words.{found_all, next_word, no_word}

-- live tasks in order of their numbers

-- the first word of a stack
abbrev place_at : Task → Place
place_at t = record { phase = 1; holder = t.number; word = t.stack }

-- the first stack of the tasks above a number is that of the first task above it
pub stack_after : (tasks : List Task) (n : ℕ) → first_stack (filter (λ (t : Task). ltb n t.number) tasks) ≡ option_map place_at (task_after tasks n)
stack_after [] n = refl
stack_after (t ∷ tasks) n =
    elim (ltb n t.number) as (λ b. first_stack (cond b (t ∷ filter (λ (u : Task). ltb n u.number) tasks) (filter (λ (u : Task). ltb n u.number) tasks)) ≡ option_map place_at (cond b (Some t) (task_after tasks n))) [
      | true ↦ refl
      | false ↦ stack_after tasks n
    ]

-- numbers begin with 1
pub first_after : (tasks : List Task) (high : ℕ) → AreNumbered 0 tasks high → first_stack tasks ≡ option_map place_at (task_after tasks 0)
first_after [] high r = refl
first_after (t ∷ tasks) high r = rw (lt-ltb 0 t.number r.0) refl

-- no task has a number up to the one below all
none_at : (tasks : List Task) (low high n : ℕ) → AreNumbered low tasks high → n ≤ low → find (λ (t : Task). t.number == n) tasks ≡ None
none_at [] low high n r le = refl
none_at (t ∷ tasks) low high n r le =
    let above = r.0 in
    rw (ne_eqb t.number n (λ e. omega (arith, above, le, e))) (none_at tasks t.number high n r.1 (omega (arith, above, le)))

none_all : (tasks : List Task) (low high n : ℕ) (P : Task → Type 0) → AreNumbered low tasks high → n ≤ low → All (λ (t : Task). t.number ≡ n → P t) tasks
none_all [] low high n P r le = All-nil (λ (t : Task). t.number ≡ n → P t)
none_all (t ∷ tasks) low high n P r le =
    let above = r.0 in
    All-cons (λ (u : Task). u.number ≡ n → P u) t tasks (λ e. absurd (omega (arith, above, le, e))) (none_all tasks t.number high n P r.1 (omega (arith, above, le)))

-- a task, if it has a number
abbrev with_number : ℕ → Option Task → Option Task
with_number n None = None
with_number n (Some t) = if t.number == n then Some t else None

-- the first task from a number on has it, or none has
at_number : (tasks : List Task) (low high n : ℕ) (o : Option Task) → AreNumbered low tasks high → task_after tasks (n - 1) ≡ o → low ≤ n
    → find (λ (t : Task). t.number == n) tasks ≡ with_number n o
at_number tasks low high zero o r e le = rw (none_at tasks low high 0 r (omega arith)) (sym (none tasks o low r e))
  where
    none : (us : List Task) (o : Option Task) (low : ℕ) → AreNumbered low us high → task_after us 0 ≡ o → with_number 0 o ≡ None
    none [] o low r e = subst (λ p. with_number 0 p ≡ None) e refl
    none (u ∷ us) o low r e =
        let above = r.0 in
        let there : Some u ≡ o = sym (rw (lt-ltb 0 u.number (omega (arith, above))) refl) ∙ e in
        subst (λ p. with_number 0 p ≡ None) there (rw (ne_eqb u.number 0 (λ z. omega (arith, above, z))) refl)
at_number [] low high (suc n) o r e le = subst (λ p. None ≡ with_number (suc n) p) e refl
at_number (t ∷ tasks) low high (suc n) o r e le =
    elim (ltb (suc n - 1) t.number) as (λ b. ltb (suc n - 1) t.number ≡ b → cond b (Some t) (task_after tasks (suc n - 1)) ≡ o → find (λ (u : Task). u.number == suc n) (t ∷ tasks) ≡ with_number (suc n) o) [
      | true ↦ λ g f. subst (λ p. find (λ (u : Task). u.number == suc n) (t ∷ tasks) ≡ with_number (suc n) p) f (here (ltb-true (suc n - 1) t.number g))
      | false ↦ λ g f.
          let low_enough = ltb-false (suc n - 1) t.number g in
          rw (ne_eqb t.number (suc n) (λ z. omega (arith, low_enough, z))) (at_number tasks t.number high (suc n) o r.1 f (omega (arith, low_enough)))
    ] refl e
  where
    here : suc n - 1 < t.number → find (λ (u : Task). u.number == suc n) (t ∷ tasks) ≡ (if t.number == suc n then Some t else None)
    here lt =
        elim (t.number == suc n) as (λ b. (t.number == suc n) ≡ b → cond b (Some t) (find (λ (u : Task). u.number == suc n) tasks) ≡ (if b then Some t else None)) [
          | true ↦ λ _. refl
          | false ↦ λ f. none_at tasks t.number high (suc n) r.1 (omega (arith, lt))
        ] refl

-- a task by its number, where the first one from that number on was looked up
pub record IsTask (tasks : List Task) (n start : ℕ) : Type 0 where
  pub it : Task
  pub found : find (λ (t : Task). t.number == n) tasks ≡ Some it
  pub stack : it.stack ≡ start

pub has_none : (tasks : List Task) (high n before : ℕ) → AreNumbered 0 tasks high → before ≡ n - 1 → task_after tasks before ≡ None → stack_of tasks n ≡ []
has_none tasks high n before r b e =
    ap (λ (o : Option Task). elim o [ None ↦ [] | Some t ↦ stack_words t ]) (at_number tasks 0 high n None r (ap (task_after tasks) (sym b) ∙ e) (omega arith))

pub has_other : (tasks : List Task) (high n before number : ℕ) → AreNumbered 0 tasks high → before ≡ n - 1 → Some number ≡ option_map (λ (t : Task). t.number) (task_after tasks before) → (number ≡ n → ⊥) → stack_of tasks n ≡ []
has_other tasks high n before number r b e ne =
    ap (λ (o : Option Task). elim o [ None ↦ [] | Some t ↦ stack_words t ]) (at_number tasks 0 high n (task_after tasks (n - 1)) r refl (omega arith) ∙ other (task_after tasks (n - 1)) (e ∙ ap (λ m. option_map (λ (t : Task). t.number) (task_after tasks m)) b))
  where
    other : (o : Option Task) → Some number ≡ option_map (λ (t : Task). t.number) o → with_number n o ≡ None
    other None f = refl
    other (Some t) f = let same : number ≡ t.number = cc in rw (ne_eqb t.number n (λ z. ne (same ∙ z))) refl

pub has_task : (tasks : List Task) (high n number start : ℕ) → AreNumbered 0 tasks high → Some number ≡ option_map (λ (t : Task). t.number) (task_after tasks (n - 1))
    → Some start ≡ option_map (λ (t : Task). t.stack) (task_after tasks (n - 1)) → number ≡ n → IsTask tasks n start
has_task tasks high n number start r e f same = its (task_after tasks (n - 1)) (at_number tasks 0 high n (task_after tasks (n - 1)) r refl (omega arith)) e f
  where
    its : (o : Option Task) → find (λ (t : Task). t.number == n) tasks ≡ with_number n o → Some number ≡ option_map (λ (t : Task). t.number) o → Some start ≡ option_map (λ (t : Task). t.stack) o → IsTask tasks n start
    its None g e f = absurd (let z : ⊥ = cc in z)
    its (Some t) g e f =
        let m : t.number ≡ number = cc in
        let s : t.stack ≡ start = cc in
        record { it = t; found = g ∙ rw (eq-eqb t.number n (m ∙ same)) refl; stack = s }

-- it alone has its number
pub alone : (tasks : List Task) (low high n : ℕ) (t : Task) (P : Task → Type 0) → AreNumbered low tasks high → find (λ (u : Task). u.number == n) tasks ≡ Some t → P t → All (λ (u : Task). u.number ≡ n → P u) tasks
alone [] low high n t P r e p = absurd (let z : ⊥ = cc in z)
alone (u ∷ tasks) low high n t P r e p =
    elim (u.number == n) as (λ b. (u.number == n) ≡ b → cond b (Some u) (find (λ (v : Task). v.number == n) tasks) ≡ Some t → All (λ (v : Task). v.number ≡ n → P v) (u ∷ tasks)) [
      | true ↦ λ g f.
          let same : u ≡ t = cc in
          let number = eqb-true u.number n g in
          All-cons (λ (v : Task). v.number ≡ n → P v) u tasks (λ _. subst P (sym same) p) (none_all tasks u.number high n P r.1 (omega (arith, number)))
      | false ↦ λ g f. All-cons (λ (v : Task). v.number ≡ n → P v) u tasks (λ z. absurd (eqb-false u.number n g z)) (alone tasks u.number high n t P r.1 f p)
    ] refl e

pub its_number : (tasks : List Task) (n : ℕ) (t : Task) → find (λ (u : Task). u.number == n) tasks ≡ Some t → t.number ≡ n
its_number [] n t e = absurd (let z : ⊥ = cc in z)
its_number (u ∷ tasks) n t e =
    elim (u.number == n) as (λ b. (u.number == n) ≡ b → cond b (Some u) (find (λ (v : Task). v.number == n) tasks) ≡ Some t → t.number ≡ n) [
      | true ↦ λ g f. let same : u ≡ t = cc in subst (λ (v : Task). v.number ≡ n) same (eqb-true u.number n g)
      | false ↦ λ g f. its_number tasks n t f
    ] refl e

-- the words of its stack
pub stack_found : (tasks : List Task) (n : ℕ) (t : Task) → find (λ (u : Task). u.number == n) tasks ≡ Some t → stack_of tasks n ≡ stack_words t
stack_found tasks n t e = ap (λ (o : Option Task). elim o [ None ↦ [] | Some u ↦ stack_words u ]) e

-- all are above the least number
all_above : (us : List Task) (low high : ℕ) → AreNumbered low us high → All (λ (u : Task). low < u.number) us
all_above [] low high r = All-nil (λ (u : Task). low < u.number)
all_above (v ∷ us) low high r =
    let above = r.0 in
    All-cons (λ (u : Task). low < u.number) v us above (All-weaker (λ (u : Task). v.number < u.number) (λ (u : Task). low < u.number) (λ u lt. omega (arith, above, lt)) us (all_above us v.number high r.1))

-- the task that some search finds is found by its number
same_find : (us : List Task) (low high : ℕ) → AreNumbered low us high → (test : Task → Bool) (t : Task) → find test us ≡ Some t → find (λ (u : Task). u.number == t.number) us ≡ Some t
same_find [] low high r test t g = absurd (let z : ⊥ = cc in z)
same_find (u ∷ us) low high r test t g =
    elim (test u) as (λ b. cond b (Some u) (find test us) ≡ Some t → find (λ (v : Task). v.number == t.number) (u ∷ us) ≡ Some t) [
      | true ↦ λ f. let same : u ≡ t = cc in rw (eq-eqb u.number t.number (ap (λ (v : Task). v.number) same)) (ap (λ (v : Task). Some v) same)
      | false ↦ λ f.
          let above = found_all (λ (v : Task). u.number < v.number) test us t (all_above us u.number high r.1) f in
          rw (ne_eqb u.number t.number (λ z. omega (arith, above, z))) (same_find us u.number high r.1 test t f)
    ] g

-- numbers don't go past the greatest
numbered_to : (tasks : List Task) (low high : ℕ) → AreNumbered low tasks high → low ≤ high
numbered_to [] low high r = r
numbered_to (t ∷ tasks) low high r = let above = r.0 in let rest = numbered_to tasks t.number high r.1 in omega (arith, above, rest)

pub numbered_up_to : (tasks : List Task) (low high : ℕ) (test : Task → Bool) (t : Task) → AreNumbered low tasks high → find test tasks ≡ Some t → t.number ≤ high
numbered_up_to [] low high test t r e = absurd (let z : ⊥ = cc in z)
numbered_up_to (u ∷ tasks) low high test t r e =
    elim (test u) as (λ b. cond b (Some u) (find test tasks) ≡ Some t → t.number ≤ high) [
      | true ↦ λ f. let same : u ≡ t = cc in subst (λ (v : Task). v.number ≤ high) same (numbered_to tasks u.number high r.1)
      | false ↦ λ f. numbered_up_to tasks u.number high test t r.1 f
    ] e

-- the first task above a number, by what the look-up tells of it
pub record IsAfter (tasks : List Task) (high n number start : ℕ) : Type 0 where
  pub place : Some (record { phase = 1; holder = number; word = start }) ≡ first_stack (filter (λ (t : Task). ltb n t.number) tasks)
  pub words : All (IsStackWord number start) tasks
  pub started : number ≤ high
  pub all : n ≡ 0 → Some (record { phase = 1; holder = number; word = start }) ≡ first_stack tasks

pub is_after : (tasks : List Task) (high n number start : ℕ) → AreNumbered 0 tasks high → Some number ≡ option_map (λ (t : Task). t.number) (task_after tasks n)
    → Some start ≡ option_map (λ (t : Task). t.stack) (task_after tasks n) → IsAfter tasks high n number start
is_after tasks high n number start r e f = record {
  place = there (task_after tasks n) e f ∙ sym (stack_after tasks n);
  words = on (task_after tasks n) refl e f;
  started = up_to (task_after tasks n) refl e;
  all = λ z. there (task_after tasks n) e f ∙ subst (λ m. option_map place_at (task_after tasks m) ≡ first_stack tasks) (sym z) (sym (first_after tasks high r));
}
  where
    up_to : (o : Option Task) → task_after tasks n ≡ o → Some number ≡ option_map (λ (t : Task). t.number) o → number ≤ high
    up_to None g e = absurd (let z : ⊥ = cc in z)
    up_to (Some t) g e =
        let m : number ≡ t.number = cc in
        let most = numbered_up_to tasks 0 high (λ (u : Task). ltb n u.number) t r g in
        omega (arith, m, most)

    there : (o : Option Task) → Some number ≡ option_map (λ (t : Task). t.number) o → Some start ≡ option_map (λ (t : Task). t.stack) o → Some (record { phase = 1; holder = number; word = start }) ≡ option_map place_at o
    there None e f = absurd (let z : ⊥ = cc in z)
    there (Some t) e f =
        let m : number ≡ t.number = cc in
        let s : start ≡ t.stack = cc in
        λ i. Some (record { phase = 1; holder = m i; word = s i })

    on : (o : Option Task) → task_after tasks n ≡ o → Some number ≡ option_map (λ (t : Task). t.number) o → Some start ≡ option_map (λ (t : Task). t.stack) o → All (IsStackWord number start) tasks
    on None g e f = absurd (let z : ⊥ = cc in z)
    on (Some t) g e f =
        let m : number ≡ t.number = cc in
        let s : start ≡ t.stack = cc in
        subst (λ k. All (IsStackWord k start) tasks) (sym m)
        (alone tasks 0 high t.number t (λ (u : Task). (i : ℕ) × (i < 512) × (start ≡ u.stack + 8 * i)) r (same_find tasks 0 high r (λ (u : Task). ltb n u.number) t g) (0, omega arith, omega (arith, s)))

-- there is none
pub none_after : (tasks : List Task) (high n : ℕ) → AreNumbered 0 tasks high → None ≡ option_map (λ (t : Task). t.number) (task_after tasks n)
    → (None ≡ first_stack (filter (λ (t : Task). ltb n t.number) tasks)) × (n ≡ 0 → None ≡ first_stack tasks) × (task_after tasks n ≡ None)
none_after tasks high n r e =
    let none = is_none (task_after tasks n) e in (
      sym (stack_after tasks n ∙ ap (option_map place_at) none),
      λ z. sym (first_after tasks high r ∙ ap (option_map place_at) (ap (task_after tasks) (sym z) ∙ none)),
      none,
    )
  where
    is_none : (o : Option Task) → None ≡ option_map (λ (t : Task). t.number) o → o ≡ None
    is_none None f = refl
    is_none (Some t) f = absurd (let z : ⊥ = cc in z)

-- a word in the stack of a live task
pub record InStack (tasks : List Task) (n start w : ℕ) : Type 0 where
  pub it : Task
  pub found : find (λ (t : Task). t.number == n) tasks ≡ Some it
  pub stack : it.stack ≡ start
  pub place : ℕ
  pub within : place < 512
  pub is : w ≡ start + 8 * place
  pub end : start + 4096 < 2 ^ 64

pub in_stack : (tasks : List Task) (high before n number start w : ℕ) → AreNumbered 0 tasks high → before ≡ n - 1 → Some number ≡ option_map (λ (t : Task). t.number) (task_after tasks before)
    → Some start ≡ option_map (λ (t : Task). t.stack) (task_after tasks before) → number ≡ n → All (IsStackWord n w) tasks → All StackEnds tasks → InStack tasks n start w
in_stack tasks high before n number start w r b e f same words ends =
    let t = has_task tasks high n number start r (e ∙ ap (λ m. option_map (λ (t : Task). t.number) (task_after tasks m)) b) (f ∙ ap (λ m. option_map (λ (t : Task). t.stack) (task_after tasks m)) b) same in
    let word = found_all (IsStackWord n w) (λ (u : Task). u.number == n) tasks t.it words t.found (its_number tasks n t.it t.found) in
    let last = found_all StackEnds (λ (u : Task). u.number == n) tasks t.it ends t.found in
    let s = t.stack in
    record { it = t.it; found = t.found; stack = s; place = word.0; within = word.1; is = (let is = word.2 in omega (arith, is, s)); end = omega (arith, last, s) }

-- it is the last
pub last_in_stack : (tasks : List Task) (n start w : ℕ) (s : InStack tasks n start w) → 4088 ≤ w - start → word_above w (stack_of tasks n) ≡ None
last_in_stack tasks n start w s le =
    let is = s.is in
    let same = s.stack in
    ap (word_above w) (stack_found tasks n s.it s.found) ∙ no_word 512 s.it.stack w s.place (omega (arith, is, same)) (omega (arith, is, le))

-- or another is behind it
pub more_in_stack : (tasks : List Task) (n start w : ℕ) (s : InStack tasks n start w) → w - start < 4088 → word_above w (stack_of tasks n) ≡ Some (w + 8)
more_in_stack tasks n start w s lt =
    let is = s.is in
    let same = s.stack in
    ap (word_above w) (stack_found tasks n s.it s.found) ∙ next_word 512 s.it.stack w s.place (omega (arith, is, same)) (omega (arith, is, lt))

pub next_in_stack : (tasks : List Task) (high n start w : ℕ) (s : InStack tasks n start w) → AreNumbered 0 tasks high → w - start < 4088 → All (IsStackWord n (w + 8)) tasks
next_in_stack tasks high n start w s r lt =
    let is = s.is in
    let same = s.stack in
    alone tasks 0 high n s.it (λ (u : Task). (i : ℕ) × (i < 512) × (w + 8 ≡ u.stack + 8 * i)) r s.found (s.place + 1, omega (arith, is, lt), omega (arith, is, same))

pub started_stack : (tasks : List Task) (high n start w : ℕ) (s : InStack tasks n start w) → AreNumbered 0 tasks high → n ≤ high
started_stack tasks high n start w s r =
    let most = numbered_up_to tasks 0 high (λ (t : Task). t.number == n) s.it r s.found in
    let number = its_number tasks n s.it s.found in
    omega (arith, most, number)
