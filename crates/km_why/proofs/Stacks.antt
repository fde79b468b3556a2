-- Stacks, one after another.
use Rattle.std.proofs.Common.{◌≡◌, ℕ, ◌+◌, ◌-◌, ◌*◌, ◌<◌, ◌≤◌, Bool, true, false, cond, ltb, List, [], ◌∷◌, length, Option, Some, None, find, filter, flat_map, refl, sym, ◌∙◌, ap, subst, arith, lt-ltb, option_map}
use Rattle.km_model.proofs.Cases.{none_some, some_same}
use Rattle.km_model.proofs.Lists.{each_in, find_in}
use Rattle.km_model.specs.Members.{Each}
use Rattle.km_base.specs.declared.spans.Span.{Span}
use Rattle.km_model.specs.Memory.{in_memory, words_from}
use Rattle.km_model.specs.Tasks.{Task, stack_words}
use Rattle.km_tasks.specs.Lives.{AreNumbered}
use Rattle.km_words.specs.Told.{Told}
use Rattle.km_why.specs.Told.{IsInMemory, IsOfWords, TellsAll, TellsSame, memory_of}
use Rattle.km_why.specs.References.{references}
use Rattle.km_why.proofs.Walks.{IsLacking, is_word, memory_same, rest_of_stack, stacks_after, stacks_go_on, tasks_split}

pub tells_after : (t u : Told) → TellsAll t → TellsSame t u → TellsAll u
tells_after t u all same = record {
  some = ap (λ (o : Option (List ℕ)). elim o as (λ _. Bool) [ None ↦ false | Some _ ↦ true ]) same.memory ∙ all.some;
  whole = same.size ∙ all.whole ∙ sym (ap length (memory_same t u same));
}

pub stack_word : (t u : Told) (stack i : ℕ) → TellsSame t u → IsInMemory t.size stack 4096 → IsOfWords stack 4096 → i < 512 → in_memory u.size (stack + 8 * i) ≡ true
stack_word t u stack i same within aligned lt =
    subst (λ n. in_memory n (stack + 8 * i) ≡ true) (sym same.size) (is_word t.size stack 4096 aligned.0.0 i aligned.0.1 within.1 lt)

pub stack_over : (stack i : ℕ) → 512 ≤ i → rest_of_stack stack i ≡ []
stack_over stack i le = ap (λ n. words_from n (stack + 8 * i)) (let e : 512 - i ≡ 0 = omega (arith, le) in e)

-- the next task
pub record IsNext (tasks : List Task) (last number stack : ℕ) : Type 0 where
  pub task : Task
  pub found : find (λ (u : Task). ltb last u.number) tasks ≡ Some task
  pub number_is : task.number ≡ number
  pub stack_is : task.stack ≡ stack

pub next_task : (tasks : List Task) (last number stack : ℕ) → Some number ≡ option_map (λ (t : Task). t.number) (find (λ (u : Task). ltb last u.number) tasks)
    → Some stack ≡ option_map (λ (t : Task). t.stack) (find (λ (u : Task). ltb last u.number) tasks) → IsNext tasks last number stack
next_task tasks last number stack e f = go (find (λ (u : Task). ltb last u.number) tasks) refl e f
  where
    go : (o : Option Task) → find (λ (u : Task). ltb last u.number) tasks ≡ o → Some number ≡ option_map (λ (t : Task). t.number) o → Some stack ≡ option_map (λ (t : Task). t.stack) o → IsNext tasks last number stack
    go None found g h = absurd (none_some number (sym g))
    go (Some t) found g h = record { task = t; found = found; number_is = sym (some_same number t.number g); stack_is = sym (some_same stack t.stack h) }

pub next_laid : (t u : Told) (tasks : List Task) (last number stack : ℕ) → IsNext tasks last number stack → TellsSame t u
    → Each (λ (x : Task). IsInMemory t.size x.stack 4096 × IsOfWords x.stack 4096) tasks → IsInMemory u.size stack 4096 × IsOfWords stack 4096
next_laid t u tasks last number stack next same each =
    let here = each_in (λ (x : Task). IsInMemory t.size x.stack 4096 × IsOfWords x.stack 4096) tasks next.task each (find_in (λ (x : Task). ltb last x.number) tasks next.task next.found).1 in
    subst (λ n. IsInMemory n stack 4096 × IsOfWords stack 4096) (sym same.size) (subst (λ a. IsInMemory t.size a 4096 × IsOfWords a 4096) next.stack_is here)

pub fewer_tasks : (tasks : List Task) (high last number stack : ℕ) → AreNumbered 0 tasks high → IsNext tasks last number stack
    → length (filter (λ (t : Task). ltb number t.number) tasks) < length (filter (λ (t : Task). ltb last t.number) tasks)
fewer_tasks tasks high last number stack numbers next =
    let split : length (filter (λ (t : Task). ltb last t.number) tasks) ≡ length (next.task ∷ filter (λ (t : Task). ltb next.task.number t.number) tasks) =
    ap length (tasks_split tasks 0 high last next.task numbers next.found) in
    subst (λ n. length (filter (λ (t : Task). ltb n t.number) tasks) < length (filter (λ (t : Task). ltb last t.number) tasks)) next.number_is
    (let r : length (filter (λ (t : Task). ltb next.task.number t.number) tasks) < length (filter (λ (t : Task). ltb last t.number) tasks) = omega (arith, split) in r)

pub stacks_begin : (memory : List ℕ) (target but : Span) (wanted high : ℕ) (tasks : List Task) → AreNumbered 0 tasks high
    → IsLacking memory target but wanted (flat_map stack_words tasks) wanted (stacks_after tasks 0)
stacks_begin memory target but wanted high tasks numbers =
    record { still = ap (λ ts. wanted - references memory target but (flat_map stack_words ts)) (sym (all tasks 0 numbers)) }
  where
    all : (ts : List Task) (low : ℕ) → AreNumbered low ts high → filter (λ (t : Task). ltb 0 t.number) ts ≡ ts
    all [] low n = refl
    all (t ∷ ts) low n = let lt = n.0 in rw (lt-ltb 0 t.number (omega (arith, lt))) (ap (λ xs. t ∷ xs) (all ts t.number n.1))

pub stacks_over : (tasks : List Task) (last : ℕ) → None ≡ option_map (λ (t : Task). t.number) (find (λ (u : Task). ltb last u.number) tasks) → stacks_after tasks last ≡ []
stacks_over tasks last e = ap (flat_map stack_words) (go tasks e)
  where
    go : (ts : List Task) → None ≡ option_map (λ (t : Task). t.number) (find (λ (u : Task). ltb last u.number) ts) → filter (λ (u : Task). ltb last u.number) ts ≡ []
    go [] f = refl
    go (t ∷ ts) f = elim (ltb last t.number) as (λ q. None ≡ option_map (λ (u : Task). u.number) (cond q (Some t) (find (λ (u : Task). ltb last u.number) ts)) → cond q (t ∷ filter (λ (u : Task). ltb last u.number) ts) (filter (λ (u : Task). ltb last u.number) ts) ≡ []) [
      | true ↦ λ g. absurd (none_some t.number g)
      | false ↦ λ g. go ts g
    ] f

pub next_goes_on : (t u : Told) (target but : Span) (wanted : ℕ) (all : List ℕ) (lacking high : ℕ) (tasks : List Task) (last number stack : ℕ)
    → IsNext tasks last number stack → AreNumbered 0 tasks high → TellsSame t u → IsLacking (memory_of t) target but wanted all lacking (stacks_after tasks last)
    → (after : ℕ) → after ≡ lacking - references (memory_of u) target but (words_from 512 stack) → IsLacking (memory_of t) target but wanted all after (stacks_after tasks number)
next_goes_on t u target but wanted all lacking high tasks last number stack next numbers same l after is =
    subst (λ n. IsLacking (memory_of t) target but wanted all after (stacks_after tasks n)) next.number_is
    (stacks_go_on (memory_of t) target but wanted all lacking 0 high tasks last next.task l numbers next.found after
    (is ∙ ap (λ m. lacking - references m target but (words_from 512 stack)) (memory_same t u same) ∙ ap (λ a. lacking - references (memory_of t) target but (words_from 512 a)) (sym next.stack_is)))
