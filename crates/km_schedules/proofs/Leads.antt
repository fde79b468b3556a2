-- Each round leads from a sound run to a sound run.
use Rattle.std.proofs.Common.{◌≡◌, ℕ, ◌+◌, ◌≤◌, ◌<◌, ◌==◌, Bool, true, false, List, [], ◌∷◌, length, if◌then◌else◌, sym, ◌∙◌, ap, subst, arith, inl, inr, eq-eqb, eq-or-lt_of_le}
use Rattle.km_base.specs.declared.acts.Answer.{Answer}
use Rattle.km_base.specs.declared.acts.Answer.TheVariants.{Loaded}
use Rattle.km_model.specs.Members.{Each, In}
use Rattle.km_model.specs.Follows.{Run}
use Rattle.km_model.proofs.Lists.{each_in, in_each}
use Rattle.km_words.specs.Told.{WordStep}
use Rattle.km_rounds.specs.Orders.{OrderStep, Order, steps_by}
use Rattle.km_rounds.specs.Journals.{Journal, entries_by, loads_in, with_loaded}
use Rattle.km_live_model.specs.declared.jobs.JobLine.{JobLine}
use Rattle.km_live_model.specs.Courses.{Mutator, Course}
use Rattle.km_live_model.specs.Rounds.{Job, AreCourses, IsWorker, mutator_of}
use Rattle.km_live_model.specs.Lives.{all_register_acts, with_round}
use Rattle.km_schedules.specs.Schedules.{IsSoundRun, RoundKeeps}
use Rattle.km_schedules.proofs.Parts.{each_append}
use Rattle.km_schedules.proofs.Words.{StoresWord, line_stores}
use Rattle.km_schedules.proofs.Events.{ActStoresWord, all_happen_keep, all_happen_words, round_sound}

-- the steps of a course store 64 bits
course_stores : (words by : ℕ) (before : Mutator) (lines : List JobLine) (steps : List WordStep) (journal : Journal) (after : Mutator)
    → Course words by before lines steps journal after → Each StoresWord steps
course_stores words by before [] steps journal after c = subst (λ s. Each StoresWord s) (sym c.0) tt
course_stores words by before (line ∷ lines) steps journal after c =
    subst (λ s. Each StoresWord s) (sym c.7)
    (each_append StoresWord c.0 c.1
    (subst (λ s. Each StoresWord s) (sym c.5.made_steps) (line_stores words before.registers line c.5.value c.5.answer))
    (course_stores words by c.4 lines c.1 c.3 after c.6))

-- and those of each mutator
courses_store : (words k : ℕ) (jobs : List Job) (order : Order) (journal : Journal) (ends : List Mutator) (j : ℕ) → AreCourses words k jobs order journal ends
    → k ≤ j → j < k + length jobs → Each StoresWord (steps_by order j)
courses_store words k [] order journal ends j c le lt = absurd (omega (arith, le, lt))
courses_store words k (job ∷ jobs) order journal [] j c le lt = absurd c
courses_store words k (job ∷ jobs) order journal (m ∷ ms) j c le lt =
    elim (eq-or-lt_of_le le) [
      | inl same ↦ subst (λ i. Each StoresWord (steps_by order i)) same (course_stores words k (mutator_of job) job.lines (steps_by order k) (entries_by journal k) m c.0)
      | inr above ↦ courses_store words (k + 1) jobs order journal ms j c.1 (omega (arith, above)) (omega (arith, lt))
    ]

-- loads store nothing
loads_store : (journal : Journal) → Each StoresWord (loads_in journal)
loads_store [] = tt
loads_store (e ∷ journal) = go e.answer (loads_store journal)
  where
    go : (given : Answer) → Each StoresWord (loads_in journal) → Each StoresWord (with_loaded given (loads_in journal))
    go (Loaded a v) rest = (tt, rest)
    go _ rest = rest

-- a step is in the part of its hand
step_in : (order : Order) (x : OrderStep) → In x order → In x.step (steps_by order x.by)
step_in [] x i = absurd i
step_in (y ∷ order) x (inl same) =
    subst (λ q. In x.step (if q then y.step ∷ steps_by order x.by else steps_by order x.by)) (sym (eq-eqb x.by y.by (ap (λ (z : OrderStep). z.by) same)))
    (inl (ap (λ (z : OrderStep). z.step) same))
step_in (y ∷ order) x (inr later) = go (x.by == y.by) (step_in order x later)
  where
    go : (q : Bool) → In x.step (steps_by order x.by) → In x.step (if q then y.step ∷ steps_by order x.by else steps_by order x.by)
    go true i = inr i
    go false i = i

-- what holds of the steps of each worker holds of all
parts_hold : (n : ℕ) (order : Order) → Each (λ (x : OrderStep). IsWorker n x.by) order → ((k : ℕ) → IsWorker n k → Each StoresWord (steps_by order k))
    → Each (λ (x : OrderStep). StoresWord x.step) order
parts_hold n order hands f =
    in_each (λ (x : OrderStep). StoresWord x.step) order
    (λ x i. each_in StoresWord (steps_by order x.by) x.step (f x.by (each_in (λ (y : OrderStep). IsWorker n y.by) order x hands i)) (step_in order x i))

-- registers are no words of the memory
registers_store : (jobs : List Job) (ends : List Mutator) → Each ActStoresWord (all_register_acts jobs ends)
registers_store [] ends = tt
registers_store (job ∷ jobs) [] = tt
registers_store (job ∷ jobs) (m ∷ ends) = (tt, (tt, (tt, (tt, registers_store jobs ends))))

worker_stores : (words : ℕ) (jobs : List Job) (order : Order) (journal : Journal) (ends : List Mutator) → loads_in journal ≡ steps_by order 1
    → AreCourses words 2 jobs order journal ends → (k : ℕ) → IsWorker (length jobs) k → Each StoresWord (steps_by order k)
worker_stores words jobs order journal ends scanned courses k worker =
    elim (eq-or-lt_of_le worker.0) [
      | inl same ↦ subst (λ i. Each StoresWord (steps_by order i)) same (subst (λ s. Each StoresWord s) scanned (loads_store journal))
      | inr above ↦ courses_store words 2 jobs order journal ends k courses (omega (arith, above)) (let g = worker.1 in omega (arith, g))
    ]

pub round_keeps : RoundKeeps
round_keeps r jobs scans gap entries r' out s leads =
    let round = leads.is_round in
    let after : Run = with_round r leads.journal leads.order in
    let acts = all_register_acts jobs leads.ends in
    let stores = parts_hold (length jobs) leads.order round.hands (worker_stores r.words jobs leads.order leads.journal leads.ends round.scanned round.mutators) in
    let kept : IsSoundRun after = round_sound r leads.journal leads.order s stores round.follows in (
      subst (λ x. IsSoundRun x) (sym leads.after) (all_happen_keep after acts (registers_store jobs leads.ends) kept),
      ap (λ (x : Run). x.words) leads.after ∙ all_happen_words after acts,
    )
