-- What a worker of a round makes: its steps on the words, and its acts on the core.
use Rattle.std.specs.Prelude.{◌≡◌, ℕ, suc, zero, ◌+◌, ◌-◌, ◌/◌, ◌%◌, ◌^◌, Bool, true, false, ◌&&◌, ◌||◌, not, ◌==◌, List, [], ◌∷◌, ◌++◌, map, slice_index, slice_set, Option, Some, None, is_none, if◌then◌else◌}
use Rattle.km_base.specs.declared.acts.Reg.{Reg}
use Rattle.km_base.specs.declared.acts.Act.{Act}
use Rattle.km_base.specs.declared.acts.Act.TheVariants as act
use Rattle.km_base.specs.declared.acts.FileCmd.TheVariants as file
use Rattle.km_base.specs.declared.acts.Answer.{Answer}
use Rattle.km_base.specs.declared.acts.Answer.TheVariants.{At}
use Rattle.km_model.specs.Memory.{in_memory, words_from}
use Rattle.km_model.specs.Placement.{kmalloc_span}
use Rattle.km_model.specs.Tasks.{place_of}
use Rattle.km_model.specs.Past.{completes}
use Rattle.km_words.specs.Told.{WordStep, LoadStep, StoreStep}
use Rattle.km_live_model.specs.declared.jobs.JobBase.{JobBase}
use Rattle.km_live_model.specs.declared.jobs.JobBase.TheVariants as base
use Rattle.km_live_model.specs.declared.jobs.JobOperand.{JobOperand}
use Rattle.km_live_model.specs.declared.jobs.JobLine.{JobLine}
use Rattle.km_live_model.specs.declared.jobs.JobLine.TheVariants.{Set, Load, Store, Erase, Kmalloc, Kzalloc, Kfree, NotLeak, Ignore, NoScan, ScanArea}
use Rattle.km_rounds.specs.Journals.{Journal}

-- the value of a base, by the thread's registers
abbrev pub base_in : List ℕ → JobBase → ℕ
base_in registers (base.Number n) = n
base_in registers (base.Reg reg) = slice_index registers (place_of reg)

-- the value of an operand, modulo 2^64
abbrev pub value_in : List ℕ → JobOperand → ℕ
value_in registers o = (base_in registers o.base + o.plus) % 2 ^ 64

-- the registers, with one set
abbrev pub with_value : List ℕ → Reg → ℕ → List ℕ
with_value registers reg value = slice_set registers (place_of reg) value

-- the act of a line, if it has one
abbrev pub act_in : List ℕ → JobLine → Option Act
act_in registers (Kmalloc size _) = Some (act.Kmalloc size)
act_in registers (Kzalloc size _) = Some (act.Kmalloc size)
act_in registers (Kfree addr) = Some (act.Kfree (value_in registers addr))
act_in registers (NotLeak addr) = Some (act.NotLeak (value_in registers addr))
act_in registers (Ignore addr) = Some (act.Ignore (value_in registers addr))
act_in registers (NoScan addr) = Some (act.NoScan (value_in registers addr))
act_in registers (ScanArea addr size) = Some (act.ScanArea (value_in registers addr) size)
act_in registers _ = None

-- a step, if it is at a word of the memory
abbrev pub step_at : ℕ → ℕ → WordStep → List WordStep
step_at words a step = if in_memory words a then step ∷ [] else []

-- where an allocation was made, if it was
abbrev pub made_at : Option Answer → Option ℕ
made_at None = None
made_at (Some answer) = elim answer [ At a ↦ Some a | _ ↦ None ]

-- the words of a new block are zeroed, in rising order
abbrev pub zeroed : ℕ → Option ℕ → List WordStep
zeroed size None = []
zeroed size (Some a) = map (λ b. StoreStep b 0) (words_from (kmalloc_span size / 8) a)

-- the steps of a line, which loads this value, or whose act has this answer
abbrev pub steps_in : ℕ → List ℕ → JobLine → ℕ → Option Answer → List WordStep
steps_in words registers (Load reg addr) value answer =
    step_at words (value_in registers addr) (LoadStep (value_in registers addr) value)
steps_in words registers (Store addr new) value answer =
    step_at words (value_in registers addr) (StoreStep (value_in registers addr) (value_in registers new))
steps_in words registers (Erase addr) value answer =
    step_at words (value_in registers addr) (StoreStep (value_in registers addr) 0)
steps_in words registers (Kzalloc size _) value answer = zeroed size (made_at answer)
steps_in words registers _ value answer = []

-- the register that an allocation names is set to its address
abbrev pub with_start : List ℕ → Option Reg → Option ℕ → List ℕ
with_start registers (Some reg) (Some a) = with_value registers reg a
with_start registers _ _ = registers

-- the registers after such a line
abbrev pub registers_after : ℕ → List ℕ → JobLine → ℕ → Option Answer → List ℕ
registers_after words registers (Set reg new) value answer = with_value registers reg (value_in registers new)
registers_after words registers (Load reg addr) value answer =
    if in_memory words (value_in registers addr) then with_value registers reg value else registers
registers_after words registers (Kmalloc _ reg) value answer = with_start registers reg (made_at answer)
registers_after words registers (Kzalloc _ reg) value answer = with_start registers reg (made_at answer)
registers_after words registers _ value answer = registers

-- the entry of an act that was answered
abbrev pub entry_of : ℕ → Option Act → Option Answer → Journal
entry_of by (Some what) (Some answer) = record { by = by; act = what; answer = answer } ∷ []
entry_of by _ _ = []

-- whether an act was left out: no answer came, since the journal was full
abbrev pub leaves_out : Option Act → Option Answer → Bool
leaves_out None answer = false
leaves_out (Some _) answer = is_none answer

-- where a mutator stands: its registers, and whether it has left an act out
pub record Mutator : Type 0 where
  pub registers : List ℕ
  pub full : Bool

-- a line of a mutator makes these steps and entries. Once an act was left out, each later one is
pub record Makes (words by : ℕ) (before : Mutator) (line : JobLine) (steps : List WordStep) (entries : Journal) (after : Mutator) : Type 0 where
  pub value : ℕ
  pub answer : Option Answer
  pub made_steps : steps ≡ steps_in words before.registers line value answer
  pub made_entries : entries ≡ entry_of by (act_in before.registers line) answer
  pub registers : after.registers ≡ registers_after words before.registers line value answer
  pub full : after.full ≡ (before.full || leaves_out (act_in before.registers line) answer)
  pub last : before.full ≡ true → entries ≡ []

-- the course of a mutator: its lines make these steps of its hand and these entries of its token
abbrev pub Course : ℕ → ℕ → Mutator → List JobLine → List WordStep → Journal → Mutator → Type 0
Course words by before [] steps entries after = (steps ≡ []) × (entries ≡ []) × (after ≡ before)
Course words by before (line ∷ lines) steps entries after =
    (first later : List WordStep) × (made rest : Journal) × (between : Mutator)
    × Makes words by before line first made between × Course words by between lines later rest after
    × (steps ≡ first ++ later) × (entries ≡ made ++ rest)

-- where the scanner stands in its course: before the tick, the begin or a step of a scan, or after its halt. The number
-- of scans that are left has this one in it
pub data Stage : Type 0 where
  AtTick : (scans : ℕ) → Stage
  AtBegin : (scans : ℕ) → Stage
  AtStep : (scans : ℕ) → Stage
  Halted : Stage

-- whether the scanner may make an act next. It halts a running scan where the journal is full
abbrev pub is_next_act : ℕ → Stage → Act → Bool
is_next_act gap (AtTick (suc _)) (act.Tick n) = n == gap
is_next_act gap (AtBegin _) (act.File file.Scan) = true
is_next_act gap (AtStep _) act.Step = true
is_next_act gap (AtStep _) act.Halt = true
is_next_act gap _ _ = false

-- whether an act is a halt
abbrev pub is_halt : Act → Bool
is_halt act.Halt = true
is_halt _ = false

-- where the scanner stands after its act
abbrev pub stage_after : Stage → Act → Answer → Stage
stage_after (AtTick n) made answer = AtBegin n
stage_after (AtBegin n) made answer = AtStep n
stage_after (AtStep n) made answer =
    if is_halt made then Halted else (if completes answer then AtTick (n - 1) else AtStep n)
stage_after Halted made answer = Halted

-- whether the course ends here: whole after the last scan, else cut, but not while a scan is running
abbrev pub ends_at : Stage → Bool → Bool
ends_at (AtTick zero) whole = whole
ends_at (AtStep _) whole = false
ends_at _ whole = not whole

-- the course of the scanner from a stage on: for each scan a tick of the gap, the begin, and steps until its end. It is
-- whole, or it was cut at the first act for which the journal was full, and halted exactly where a scan was then running
abbrev pub is_scanner_course : ℕ → Stage → Journal → Bool → Bool
is_scanner_course gap stage [] whole = ends_at stage whole
is_scanner_course gap stage (e ∷ journal) whole =
    is_next_act gap stage e.act && is_scanner_course gap (stage_after stage e.act e.answer) journal whole
