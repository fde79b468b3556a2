use Rattle.std.proofs.Common.{◌≡◌, ℕ, ◌+◌, nat_lt, not, Bool, true, false, length, Option, Some, None, refl}
use Rattle.km_base.specs.declared.acts.Act.{Act}
use Rattle.km_base.specs.declared.acts.Act.TheVariants.{Section, TaskStart, TaskExit, SetReg, Load, Store, Kmalloc, Kfree, Pages, FreePages, VmTake, VmGive, BootMem, FreePart, NotLeak, Ignore, NoScan, ScanArea, TransientLeak, File, Read, Tick, AutoBegin, Step, Halt}
use Rattle.km_base.specs.declared.acts.FileCmd.{FileCmd}
use Rattle.km_base.specs.declared.acts.FileCmd.TheVariants.{Off, Clear, Dump, Why}
use Rattle.km_base.specs.declared.acts.Info.{Info}
use Rattle.km_base.specs.declared.acts.Answer.{Answer}
use Rattle.km_base.specs.declared.acts.Answer.TheVariants.{Done, At, Loaded, Ended, Stopped, Skipped, Dumped, Refused}
use Rattle.km_base.specs.declared.acts.Refusal.{Refusal}
use Rattle.km_base.specs.declared.acts.Refusal.TheVariants.{NoScanRunning, NoObject, NotInside, Disabled}
use Rattle.km_model.specs.Blocks.{Block, block_at, block_with}
use Rattle.km_model.specs.World.{World}
use Rattle.km_model.specs.Past.{Past, Place, world, running_scan, scans}
use Rattle.km_model.specs.Scan.{next}
use Rattle.km_model.specs.Verdict.{new_blocks}
use Rattle.km_model.specs.Answers.{answer, unless, at_place, done_at, unless_busy, annotation_answer, area_added, part_answer, dump_answer, why_answer, stop_answer, write_answer, info_of}

-- what every answer has that no step gives to the end of a scan
pub record Forms (past : Past) (value : ℕ) (P : Answer → Type 0) : Type 0 where
  pub refused : (r : Refusal) → P (Refused r)
  pub done : P Done
  pub at : (a : ℕ) → P (At a)
  pub skipped : P Skipped
  pub dumped : (i : Info) → P (Dumped i)
  pub loaded : (a : ℕ) → P (Loaded a value)
  pub stopped : (k : ℕ) → running_scan past ≡ Some k → P (Stopped k)

record Has (P : Answer → Type 0) (x : Answer) : Type 0 where
  holds : P x

module _ (past : Past) (value : ℕ) (P : Answer → Type 0) (h : Forms past value P) where
  done_has : Has P Done
  done_has = record { holds = h.done }

  loaded_has : (a : ℕ) → Has P (Loaded a value)
  loaded_has a = record { holds = h.loaded a }

  unless_has : (fails : Bool) (r : Refusal) (x : Answer) → Has P x → Has P (unless fails r x)
  unless_has true r x k = record { holds = h.refused r }
  unless_has false r x k = k

  at_has : (o : Option ℕ) → Has P (at_place o)
  at_has None = record { holds = h.refused _ }
  at_has (Some a) = record { holds = h.at a }

  done_at_has : (o : Option ℕ) → Has P (done_at o)
  done_at_has None = record { holds = h.refused _ }
  done_at_has (Some a) = done_has

  busy_has : (o : Option ℕ) (x : Answer) → Has P x → Has P (unless_busy o x)
  busy_has None x k = k
  busy_has (Some n) x k = record { holds = h.refused _ }

  stop_has : (o : Option ℕ) (x : Answer) → running_scan past ≡ o → Has P x → Has P (stop_answer o x)
  stop_has None x e k = k
  stop_has (Some n) x e k = record { holds = h.stopped n e }

  found_has : (o : Option Block) → Has P (elim o as (λ _. Answer) [ None ↦ Refused NoObject | Some _ ↦ Done ])
  found_has None = record { holds = h.refused NoObject }
  found_has (Some b) = done_has

  note_has : (w : World) (a : ℕ) → Has P (annotation_answer w a)
  note_has w a = unless_has _ _ _ (found_has (block_at w.blocks a))

  area_has : (b : Block) (a size : ℕ) → Has P (area_added b a size)
  area_has b a size = search (unless_has, done_has)

  added_has : (a size : ℕ) (o : Option Block) → Has P (elim o as (λ _. Answer) [ None ↦ Refused NoObject | Some b ↦ area_added b a size ])
  added_has a size None = record { holds = h.refused NoObject }
  added_has a size (Some b) = area_has b a size

  part_has : (o : Option Block) (end : ℕ) → Has P (part_answer o end)
  part_has None end = record { holds = h.refused NoObject }
  part_has (Some b) end = unless_has (nat_lt (b.start + b.size) end) NotInside Done done_has

  shown_has : (o : Option Block) → Has P (elim o as (λ _. Answer) [ None ↦ Refused NoObject | Some b ↦ Dumped (info_of past b) ])
  shown_has None = record { holds = h.refused NoObject }
  shown_has (Some b) = record { holds = h.dumped (info_of past b) }

  skip_has : (o : Option ℕ) → Has P (elim o as (λ _. Answer) [ None ↦ Done | Some _ ↦ Skipped ])
  skip_has None = done_has
  skip_has (Some k) = record { holds = h.skipped }

  write_has : (word : FileCmd) → Has P (write_answer past word)
  write_has Off = unless_has (not (world past).enabled) Disabled (stop_answer (running_scan past) Done) (stop_has (running_scan past) Done refl done_has)
  write_has Clear = busy_has (running_scan past) Done done_has
  write_has (Dump a) =
      unless_has (not (world past).enabled) Disabled (unless_busy (running_scan past) (dump_answer past a))
      (busy_has (running_scan past) (dump_answer past a) (shown_has (block_with (world past).blocks a)))
  write_has (Why a) =
      unless_has (not (world past).enabled) Disabled (unless_busy (running_scan past) (why_answer (world past) a))
      (busy_has (running_scan past) (why_answer (world past) a) (found_has (block_with (world past).blocks a)))
  write_has _ = unless_has (not (world past).enabled) Disabled (unless_busy (running_scan past) Done) (busy_has (running_scan past) Done done_has)

  step_has : (o : Option ℕ) (p : Option Place) → running_scan past ≡ o → next past ≡ p
      → ((k : ℕ) → running_scan past ≡ Some k → next past ≡ None → P (Ended (scans past) (length (new_blocks past))))
      → Has P (elim o as (λ _. Answer) [ None ↦ Refused NoScanRunning | Some _ ↦ elim p as (λ _. Answer) [ None ↦ Ended (scans past) (length (new_blocks past)) | Some place ↦ Loaded place.word value ] ])
  step_has None p e f ended = record { holds = h.refused NoScanRunning }
  step_has (Some k) None e f ended = record { holds = ended k e f }
  step_has (Some k) (Some place) e f ended = loaded_has place.word

answer_has : (words : ℕ) (past : Past) (act : Act) (value : ℕ) (P : Answer → Type 0) → (h : Forms past value P)
    → (act ≡ Step → (k : ℕ) → running_scan past ≡ Some k → next past ≡ None → P (Ended (scans past) (length (new_blocks past)))) → Has P (answer words past act value)
unfolding answer
answer_has words past (Section name n) value P h ended = search (unless_has past value P h, done_at_has past value P h)
answer_has words past (TaskStart name) value P h ended = search (unless_has past value P h, done_at_has past value P h)
answer_has words past (TaskExit name) value P h ended = search (unless_has past value P h, done_has past value P h)
answer_has words past (SetReg task reg v) value P h ended = search (unless_has past value P h, done_has past value P h)
answer_has words past (Load task reg a) value P h ended = search (unless_has past value P h, loaded_has past value P h)
answer_has words past (Store a v) value P h ended = search (unless_has past value P h, done_has past value P h)
answer_has words past (Kmalloc size) value P h ended = search (unless_has past value P h, at_has past value P h)
answer_has words past (Kfree a) value P h ended = search (unless_has past value P h, done_has past value P h)
answer_has words past (Pages n) value P h ended = search (unless_has past value P h, at_has past value P h)
answer_has words past (FreePages a) value P h ended = search (unless_has past value P h, done_has past value P h)
answer_has words past (VmTake size) value P h ended = search (unless_has past value P h, at_has past value P h)
answer_has words past (VmGive a) value P h ended = search (unless_has past value P h, done_has past value P h)
answer_has words past (BootMem size) value P h ended = search (unless_has past value P h, at_has past value P h)
answer_has words past (FreePart a size) value P h ended = search (unless_has past value P h, part_has past value P h)
answer_has words past (NotLeak a) value P h ended = note_has past value P h (world past) a
answer_has words past (Ignore a) value P h ended = note_has past value P h (world past) a
answer_has words past (NoScan a) value P h ended = note_has past value P h (world past) a
answer_has words past (ScanArea a size) value P h ended =
    let added = added_has past value P h a size (block_with (world past).blocks a) in search (unless_has past value P h)
answer_has words past (TransientLeak a) value P h ended = note_has past value P h (world past) a
answer_has words past (File word) value P h ended = write_has past value P h word
answer_has words past Read value P h ended = busy_has past value P h (running_scan past) Done (done_has past value P h)
answer_has words past (Tick n) value P h ended = done_has past value P h
answer_has words past AutoBegin value P h ended = unless_has past value P h (not (world past).enabled) Disabled _ (skip_has past value P h (running_scan past))
answer_has words past Step value P h ended = step_has past value P h (running_scan past) (next past) refl refl (ended refl)
answer_has words past Halt value P h ended = stop_has past value P h (running_scan past) (Refused NoScanRunning) refl (record { holds = h.refused NoScanRunning })

-- what each form of an answer has, each answer has
pub answers_have : (words : ℕ) (past : Past) (act : Act) (value : ℕ) (P : Answer → Type 0) → Forms past value P
    → (act ≡ Step → (k : ℕ) → running_scan past ≡ Some k → next past ≡ None → P (Ended (scans past) (length (new_blocks past)))) → P (answer words past act value)
answers_have words past act value P h ended = (answer_has words past act value P h ended).holds
