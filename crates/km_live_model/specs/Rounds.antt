-- A round: mutators and a scanner at once.
use Rattle.std.specs.Prelude.{◌≡◌, ℕ, ◌+◌, ◌≤◌, Bool, true, false, ◌||◌, not, List, [], ◌∷◌, length, count_by, Some, None, Result, Ok, Err, if◌then◌else◌}
use Rattle.std.specs.List.{list_any, list_all}
use Rattle.km_base.specs.declared.acts.Refusal.{Refusal}
use Rattle.km_base.specs.declared.acts.Refusal.TheVariants.{Busy, Disabled, NoSection, NoTask}
use Rattle.km_base.specs.declared.lines.Base.{Base}
use Rattle.km_base.specs.declared.lines.Base.TheVariants.{Number, Reg, Stack, Section}
use Rattle.km_base.specs.declared.lines.Operand.{Operand}
use Rattle.km_model.specs.History.{History}
use Rattle.km_model.specs.Members.{Each}
use Rattle.km_model.specs.World.{World, section_named}
use Rattle.km_model.specs.Past.{Past, world, running_scan}
use Rattle.km_model.specs.Answers.{has_task}
use Rattle.km_model.specs.Operands.{found_or, then_do, task_or_refusal}
use Rattle.km_live_model.specs.declared.lines.JobCommand.{JobCommand}
use Rattle.km_live_model.specs.declared.lines.JobCommand.TheVariants as command
use Rattle.km_live_model.specs.declared.jobs.JobBase.{JobBase}
use Rattle.km_live_model.specs.declared.jobs.JobBase.TheVariants as base
use Rattle.km_live_model.specs.declared.jobs.JobOperand.{JobOperand}
use Rattle.km_live_model.specs.declared.jobs.JobLine.{JobLine}
use Rattle.km_live_model.specs.declared.jobs.JobLine.TheVariants as line
use Rattle.km_rounds.specs.Orders.{OrderStep, Order, IsLegal, steps_by}
use Rattle.km_rounds.specs.declared.entry.Entry.{Entry}
use Rattle.km_rounds.specs.Journals.{Journal, FollowsOn, entries_by, loads_in}
use Rattle.km_live_model.specs.Threads.{Thread}
use Rattle.km_live_model.specs.Courses.{Mutator, Course, AtTick, is_scanner_course, is_halt}

-- what a mutator has to do: the name of its task, that task's registers, and its lines
pub record Job : Type 0 where
  pub task : List ℕ
  pub registers : List ℕ
  pub lines : List JobLine

-- what an operand of a thread begins with: a stack and a section are addresses
abbrev pub job_base : World → Base → Result JobBase Refusal
job_base w (Number n) = Ok (base.Number n)
job_base w (Reg _ reg) = Ok (base.Reg reg)
job_base w (Stack task) = then_do (task_or_refusal w task) (λ t. Ok (base.Number t.stack))
job_base w (Section name) = then_do (found_or (section_named w.used name) NoSection) (λ a. Ok (base.Number a))

abbrev pub job_operand : World → Operand → Result JobOperand Refusal
job_operand w o = then_do (job_base w o.base) (λ b. Ok (record { base = b; plus = o.plus }))

-- a line on one operand
abbrev pub on_one : World → Operand → (JobOperand → JobLine) → Result JobLine Refusal
on_one w o make = then_do (job_operand w o) (λ a. Ok (make a))

-- a command of a thread as a round runs it
abbrev pub job_line : World → JobCommand → Result JobLine Refusal
job_line w (command.Set reg value) = on_one w value (line.Set reg)
job_line w (command.Load reg addr) = on_one w addr (line.Load reg)
job_line w (command.Store addr value) =
    then_do (job_operand w addr) (λ a. then_do (job_operand w value) (λ v. Ok (line.Store a v)))
job_line w (command.Erase addr) = on_one w addr line.Erase
job_line w (command.Kmalloc size reg) = Ok (line.Kmalloc size reg)
job_line w (command.Kzalloc size reg) = Ok (line.Kzalloc size reg)
job_line w (command.Kfree addr) = on_one w addr line.Kfree
job_line w (command.NotLeak addr) = on_one w addr line.NotLeak
job_line w (command.Ignore addr) = on_one w addr line.Ignore
job_line w (command.NoScan addr) = on_one w addr line.NoScan
job_line w (command.ScanArea addr size) = on_one w addr (λ a. line.ScanArea a size)

-- each of these, if none is refused
abbrev pub all_of : {A B : Type 0} → (A → Result B Refusal) → List A → Result (List B) Refusal
all_of make [] = Ok []
all_of make (x ∷ xs) = then_do (make x) (λ y. then_do (all_of make xs) (λ ys. Ok (y ∷ ys)))

-- a thread begins with the registers of its task
abbrev pub job_of : World → Thread → Result Job Refusal
job_of w t =
    then_do (task_or_refusal w t.name) (λ task.
    then_do (all_of (job_line w) t.commands) (λ lines. Ok (record { task = t.name; registers = task.registers; lines = lines })))

-- the jobs of these threads, or why the round is refused: first where a task isn't live, and then where a section is missing
abbrev pub jobs_in : World → List Thread → Result (List Job) Refusal
jobs_in w threads =
    if list_all (λ (t : Thread). has_task w t.name) threads then all_of (job_of w) threads else Err NoTask

-- and before these, where `off` was written, and where a scan runs
abbrev pub jobs_at : Past → List Thread → Result (List Job) Refusal
jobs_at past threads =
    if not (world past).enabled then Err Disabled
    else (elim (running_scan past) [ Some k ↦ Err (Busy k) | None ↦ jobs_in (world past) threads ])

-- the mutator of a job, before its first line
abbrev pub mutator_of : Job → Mutator
mutator_of job = record { registers = job.registers; full = false }

-- the parts of the mutators, whose numbers rise by one from the given one, are their courses
abbrev pub AreCourses : ℕ → ℕ → List Job → Order → Journal → List Mutator → Type 0
AreCourses words k [] order journal [] = Unit {0}
AreCourses words k (job ∷ jobs) order journal (m ∷ ms) =
    Course words k (mutator_of job) job.lines (steps_by order k) (entries_by journal k) m
    × AreCourses words (k + 1) jobs order journal ms
AreCourses words k _ order journal _ = ⊥

-- whether a number is a worker's: the scanner has 1, and the mutators have those above it
abbrev pub IsWorker : ℕ → ℕ → Type 0
IsWorker mutators k = (1 ≤ k) × (k ≤ mutators + 1)

-- a round from a history and words: a journal and an order that are the courses of its workers. The mutators end so,
-- and `full` says that an act was left out, or that the scanner's course was cut
pub record IsRound (words : ℕ) (h : History) (memory : List ℕ) (jobs : List Job) (scans gap entries : ℕ) (journal : Journal) (order : Order) (ends : List Mutator) (full : Bool) : Type 0 where
  pub whole : Bool
  pub follows : FollowsOn words h journal
  pub legal : IsLegal memory order
  pub scanned : loads_in journal ≡ steps_by order 1
  pub scanner : is_scanner_course gap (AtTick scans) (entries_by journal 1) whole ≡ true
  pub mutators : AreCourses words 2 jobs order journal ends
  pub workers : Each (λ (e : Entry). IsWorker (length jobs) e.by) journal
  pub hands : Each (λ (x : OrderStep). IsWorker (length jobs) x.by) order
  pub is_full : full ≡ (not whole || list_any (λ (m : Mutator). m.full) ends)
  pub room : count_by (λ (e : Entry). not (is_halt e.act)) journal ≤ entries  -- the halt has a place of its own
  pub cut : full ≡ true → entries ≤ length journal
