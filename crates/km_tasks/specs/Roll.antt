use Rattle.std.specs.Prelude.{◌≡◌, ℕ, ◌+◌, ◌==◌, List, [], ◌∷◌, ◌++◌, length, replicate, find, nat_lt, Option, Some, None, is_some, Result, Ok, Err}
use Rattle.std.specs.List.{All, AllPairs}
use Rattle.km_base.specs.declared.sizes.TheConstants.{PAGE}
use Rattle.km_base.specs.declared.acts.Answer.{Answer}
use Rattle.km_base.specs.declared.acts.Answer.TheVariants.{Done, Refused}
use Rattle.km_base.specs.declared.acts.Refusal.TheVariants as refusal
use Rattle.km_model.specs.Placement.{Allocation, StackPage}
use Rattle.km_model.specs.Tasks.{Task, task_named, with_register, without_task}
use Rattle.km_model.specs.Answers.{unless, done_at}
use Rattle.km_base.specs.declared.acts.Reg.{Reg}
use Rattle.km_pages.specs.declared.runs.Run.{Run}
use Rattle.km_pages.specs.declared.runs.Use.TheVariants.{Stack}
use Rattle.km_pages.specs.Runs.{run_at}
use Rattle.km_tasks.specs.declared.errors.TaskFault.{TaskFault}
use Rattle.km_tasks.specs.declared.errors.TaskFault.TheVariants as fault

-- how many tasks were ever started, and the live ones in order of start
pub record Roll : Type 0 where
  pub started : ℕ
  pub tasks : List Task

-- a task is started on a stack, with registers that hold 0
abbrev pub with_task : Roll → List ℕ → ℕ → Roll
with_task roll name stack = record {
  started = roll.started + 1;
  tasks = roll.tasks ++ record { number = roll.started + 1; name = name; stack = stack; registers = replicate 4 0 } ∷ [];
}

-- a task is gone
abbrev pub without : Roll → List ℕ → Roll
without roll name = record { started = roll.started; tasks = without_task roll.tasks name }

-- a register was set
abbrev pub with_value : Roll → List ℕ → Reg → ℕ → Roll
with_value roll name reg value = record { started = roll.started; tasks = with_register roll.tasks name reg value }

-- the stack of a task
abbrev pub stack_page : ℕ → Allocation
stack_page start = record { «use» = StackPage; start = start; size = PAGE }

-- the first of the live tasks whose number is above this one
abbrev pub task_after : List Task → ℕ → Option Task
task_after tasks number = find (λ (t : Task). nat_lt number t.number) tasks

-- the answer to a start, by the place of a stack if there is room
abbrev pub start_answer : List Task → List ℕ → Option ℕ → Answer
start_answer tasks name place =
    unless (is_some (task_named tasks name)) refusal.TaskExists
    (unless (length tasks == 64) refusal.TooManyTasks (done_at place))

-- a result as an answer
abbrev pub refusal_of : TaskFault → Answer
refusal_of fault.TaskExists = Refused refusal.TaskExists
refusal_of fault.TooManyTasks = Refused refusal.TooManyTasks
refusal_of fault.NoRoom = Refused refusal.NoRoom

abbrev pub answer_of : Result (Unit {0}) TaskFault → Answer
answer_of (Ok _) = Done
answer_of (Err e) = refusal_of e

-- the answer where room is no matter
abbrev pub refused_first : Option TaskFault → Answer
refused_first None = Done
refused_first (Some e) = refusal_of e

-- each live task has a page of its own as its stack
pub record Fits (tasks : List Task) (pages : List (Option Run)) : Type 0 where
  pub stacks : All (λ (t : Task). run_at pages Stack t.stack ≡ Some 1) tasks
  pub apart : AllPairs (λ (t u : Task). t.stack ≡ u.stack → ⊥) tasks
