-- What the state answers each act, and the state after it, in the words of the calls that carry it out.
use Rattle.std.proofs.Common.{◌≡◌, ℕ, ◌+◌, ◌*◌, false, not, is_some, is_none, List, [], ◌∷◌, ◌++◌, Option, Some, None, if◌then◌else◌, refl, ap}
use Rattle.std.specs.List.{list_any}
use Rattle.km_base.specs.declared.acts.Act.TheVariants as acts
use Rattle.km_base.specs.declared.acts.FileCmd.{FileCmd}
use Rattle.km_base.specs.declared.acts.FileCmd.TheVariants as file
use Rattle.km_base.specs.declared.acts.Reg.{Reg}
use Rattle.km_base.specs.declared.acts.Answer.{Answer}
use Rattle.km_base.specs.declared.acts.Answer.TheVariants.{Done, At, Loaded, Stopped, Skipped, Dumped, Refused}
use Rattle.km_base.specs.declared.acts.Info.{Info}
use Rattle.km_base.specs.declared.acts.Refusal.TheVariants.{BadAddress, BadSize, NotAllocated, NoTask, NotBoot, Disabled, NoScanRunning}
use Rattle.km_model.specs.Memory.{in_memory}
use Rattle.km_model.specs.Blocks.{Block, block_with, contains, painted_grey}
use Rattle.km_model.specs.Answers.{unless, is_uneven, is_kmalloc_at, is_plain_at, is_boot_with, unless_busy, annotation_answer, area_added, part_answer, stop_answer}
use Rattle.km_model.specs.Placement.{PlainRun, kmalloc_span, kmalloc_use, lowest_run, lowest_slab, page_start, pages_for, run_place, slot_of_area}
use Rattle.km_model.specs.Tasks.{task_named, with_register}
use Rattle.km_state.specs.State.{State, Tracked, Scanning, blocks_in, running_of, world_of, is_listed_now}
use Rattle.km_state.specs.StateAnswers.{state_answer, plain_answer, word_answer}
use Rattle.km_state.specs.StateAfter.{state_after, changed, allocated, registered_at, unregistered, given_back, painted, section_added, task_started, task_exited, vmalloc_taken, vmalloc_given, boot_taken, part_freed, scan_after_load}
use Rattle.km_record.specs.declared.kinds.Note.{Note}
use Rattle.km_record.specs.declared.kinds.Note.TheVariants.{NotLeak, Ignore, NoScan, TransientLeak}
use Rattle.km_sections.specs.Named.{section_answer}
use Rattle.km_tasks.specs.Roll.{start_answer}
use Rattle.km_slab.specs.Blocks.{kmalloc_answer}
use Rattle.km_vmalloc.specs.Areas.{vmalloc_answer}
use Rattle.km_hosts.specs.Hosting.{pages_answer, boot_answer}
use Rattle.km_objects.specs.Objects.{annotated, area_answered, scan_begun, scan_stopped, all_dropped}
use Rattle.km_core.specs.Kernels.{act_of}

-- one event more
abbrev pub counted : State → State
counted s = record s { events = s.events + 1 }

still : (o : Option Scanning) → scan_after_load o None ≡ o
still None = refl
still (Some c) = refl

-- an act that does nothing to a scan
pub quiet : (s : State) → record s { events = s.events + 1; scan = scan_after_load s.scan None } ≡ counted s
quiet s = ap (λ (o : Option Scanning). record s { events = s.events + 1; scan = o }) (still s.scan)

pub answer_section : (s : State) (name : List ℕ) (n v : ℕ) → state_answer s (acts.Section name n) v ≡ section_answer s.used name n (run_place s.words s.used (pages_for (8 * n)))
unfolding state_answer plain_answer
answer_section s name n v = refl

pub answer_start : (s : State) (name : List ℕ) (v : ℕ) → state_answer s (acts.TaskStart name) v ≡ start_answer s.tasks name (run_place s.words s.used 1)
unfolding state_answer plain_answer
answer_start s name v = refl

pub answer_exit : (s : State) (name : List ℕ) (v : ℕ) → state_answer s (acts.TaskExit name) v ≡ unless (not (is_some (task_named s.tasks name))) NoTask Done
unfolding state_answer plain_answer
answer_exit s name v = refl

pub answer_set_reg : (s : State) (name : List ℕ) (r : Reg) (value v : ℕ) → state_answer s (acts.SetReg name r value) v ≡ unless (not (is_some (task_named s.tasks name))) NoTask Done
unfolding state_answer plain_answer
answer_set_reg s name r value v = refl

pub answer_load : (s : State) (name : List ℕ) (r : Reg) (a v : ℕ) → state_answer s (acts.Load name r a) v ≡ unless (not (is_some (task_named s.tasks name))) NoTask (unless (not (in_memory s.words a)) BadAddress (Loaded a v))
unfolding state_answer plain_answer
answer_load s name r a v = refl

pub answer_store : (s : State) (a value v : ℕ) → state_answer s (acts.Store a value) v ≡ unless (not (in_memory s.words a)) BadAddress Done
unfolding state_answer plain_answer
answer_store s a value v = refl

pub answer_kmalloc : (s : State) (size v : ℕ) → state_answer s (acts.Kmalloc size) v ≡ kmalloc_answer s.words s.used size
unfolding state_answer plain_answer
answer_kmalloc s size v = refl

pub answer_kfree : (s : State) (a v : ℕ) → state_answer s (acts.Kfree a) v ≡ unless (not (list_any (is_kmalloc_at a) s.used)) NotAllocated Done
unfolding state_answer plain_answer
answer_kfree s a v = refl

pub answer_pages : (s : State) (n v : ℕ) → state_answer s (acts.Pages n) v ≡ pages_answer s.words s.used n
unfolding state_answer plain_answer
answer_pages s n v = refl

pub answer_free_pages : (s : State) (a v : ℕ) → state_answer s (acts.FreePages a) v ≡ unless (not (list_any (is_plain_at a) s.used)) NotAllocated Done
unfolding state_answer plain_answer
answer_free_pages s a v = refl

pub answer_take : (s : State) (size v : ℕ) → state_answer s (acts.VmTake size) v ≡ vmalloc_answer s.words s.used size
unfolding state_answer plain_answer
answer_take s size v = refl

pub answer_give : (s : State) (a v : ℕ) → state_answer s (acts.VmGive a) v ≡ unless (is_none (slot_of_area s.used a)) NotAllocated Done
unfolding state_answer plain_answer
answer_give s a v = refl

pub answer_boot : (s : State) (size v : ℕ) → state_answer s (acts.BootMem size) v ≡ boot_answer s.words s.used size
unfolding state_answer plain_answer
answer_boot s size v = refl

pub answer_part : (s : State) (a size v : ℕ) → state_answer s (acts.FreePart a size) v
    ≡ unless (not (in_memory s.words a)) BadAddress (unless (is_uneven size) BadSize (unless (not (list_any (is_boot_with a) s.used)) NotBoot (part_answer (block_with (blocks_in s.tracked) a) (a + size))))
unfolding state_answer plain_answer
answer_part s a size v = refl

-- a note of the block that begins at an address
pub answer_note : (note : Note) (s : State) (a v : ℕ) → state_answer s (act_of note a) v ≡ annotation_answer (world_of s) a
unfolding state_answer plain_answer
answer_note NotLeak s a v = refl
answer_note Ignore s a v = refl
answer_note NoScan s a v = refl
answer_note TransientLeak s a v = refl

areas_same : (o : Option Block) (a size : ℕ) → (elim o as (λ _. Answer) [ None ↦ area_answered None a size | Some b ↦ area_added b a size ]) ≡ area_answered o a size
areas_same None a size = refl
areas_same (Some b) a size = refl

pub answer_area : (s : State) (a size v : ℕ) → state_answer s (acts.ScanArea a size) v
    ≡ unless (not s.enabled) Disabled (unless (not (in_memory s.words a)) BadAddress (unless (is_uneven size) BadSize (area_answered (block_with (blocks_in s.tracked) a) a size)))
unfolding state_answer plain_answer
answer_area s a size v =
    ap (λ (x : Answer). unless (not s.enabled) Disabled (unless (not (in_memory s.words a)) BadAddress (unless (is_uneven size) BadSize x))) (areas_same (block_with (blocks_in s.tracked) a) a size)

pub answer_word : (s : State) (word : FileCmd) (v : ℕ) → state_answer s (acts.File word) v ≡ word_answer (world_of s) (running_of s) s.tracked word
unfolding state_answer plain_answer
answer_word s word v = refl

pub answer_read : (s : State) (v : ℕ) → state_answer s acts.Read v ≡ unless_busy (running_of s) Done
unfolding state_answer plain_answer
answer_read s v = refl

pub answer_tick : (s : State) (n v : ℕ) → state_answer s (acts.Tick n) v ≡ Done
unfolding state_answer plain_answer
answer_tick s n v = refl

pub answer_automatic : (s : State) (v : ℕ) → state_answer s acts.AutoBegin v ≡ unless (not s.enabled) Disabled (elim (running_of s) as (λ _. Answer) [ None ↦ Done | Some _ ↦ Skipped ])
unfolding state_answer plain_answer
answer_automatic s v = refl

pub answer_halt : (s : State) (v : ℕ) → state_answer s acts.Halt v ≡ stop_answer (running_of s) (Refused NoScanRunning)
unfolding state_answer plain_answer
answer_halt s v = refl

pub after_section : (s : State) (name : List ℕ) (n : ℕ) → state_after s (acts.Section name n) Done ≡ section_added (counted s) name n (page_start (lowest_run s.used (pages_for (8 * n))))
unfolding changed
after_section s name n = ap (λ (x : State). section_added x name n (page_start (lowest_run x.used (pages_for (8 * n))))) (quiet s)

pub after_start : (s : State) (name : List ℕ) → state_after s (acts.TaskStart name) Done ≡ task_started (counted s) name (page_start (lowest_run s.used 1))
unfolding changed
after_start s name = ap (λ (x : State). task_started x name (page_start (lowest_run x.used 1))) (quiet s)

pub after_exit : (s : State) (name : List ℕ) → state_after s (acts.TaskExit name) Done ≡ task_exited (counted s) (task_named s.tasks name)
unfolding changed
after_exit s name = ap (λ (x : State). task_exited x (task_named x.tasks name)) (quiet s)

pub after_set_reg : (s : State) (name : List ℕ) (r : Reg) (value : ℕ) → state_after s (acts.SetReg name r value) Done ≡ record (counted s) { tasks = with_register s.tasks name r value }
unfolding changed
after_set_reg s name r value = ap (λ (x : State). record x { tasks = with_register x.tasks name r value }) (quiet s)

pub after_load : (s : State) (name : List ℕ) (r : Reg) (a v : ℕ) → state_after s (acts.Load name r a) (Loaded a v) ≡ record (counted s) { tasks = with_register s.tasks name r v }
unfolding changed
after_load s name r a v = ap (λ (x : State). record x { tasks = with_register x.tasks name r v }) (quiet s)

pub after_store : (s : State) (a value : ℕ) → state_after s (acts.Store a value) Done ≡ counted s
unfolding changed
after_store s a value = quiet s

pub after_kmalloc : (s : State) (size a : ℕ) → state_after s (acts.Kmalloc size) (At a) ≡ registered_at (allocated (counted s) (kmalloc_use size) a (kmalloc_span size)) a (kmalloc_span size) 1 None
unfolding changed
after_kmalloc s size a = ap (λ (x : State). registered_at (allocated x (kmalloc_use size) a (kmalloc_span size)) a (kmalloc_span size) 1 None) (quiet s)

pub after_kfree : (s : State) (a : ℕ) → state_after s (acts.Kfree a) Done ≡ unregistered (given_back (counted s) a) a
unfolding changed
after_kfree s a = ap (λ (x : State). unregistered (given_back x a) a) (quiet s)

pub after_pages : (s : State) (n a : ℕ) → state_after s (acts.Pages n) (At a) ≡ allocated (counted s) PlainRun a (4096 * n)
unfolding changed
after_pages s n a = ap (λ (x : State). allocated x PlainRun a (4096 * n)) (quiet s)

pub after_free_pages : (s : State) (a : ℕ) → state_after s (acts.FreePages a) Done ≡ given_back (counted s) a
unfolding changed
after_free_pages s a = ap (λ (x : State). given_back x a) (quiet s)

pub after_take : (s : State) (size a : ℕ) → state_after s (acts.VmTake size) (At a) ≡ vmalloc_taken (counted s) size (lowest_slab s.used 64) a
unfolding changed
after_take s size a = ap (λ (x : State). vmalloc_taken x size (lowest_slab x.used 64) a) (quiet s)

pub after_give : (s : State) (a : ℕ) → state_after s (acts.VmGive a) Done ≡ vmalloc_given (counted s) a (slot_of_area s.used a)
unfolding changed
after_give s a = ap (λ (x : State). vmalloc_given x a (slot_of_area x.used a)) (quiet s)

pub after_boot : (s : State) (size a : ℕ) → state_after s (acts.BootMem size) (At a) ≡ boot_taken (counted s) size a
unfolding changed
after_boot s size a = ap (λ (x : State). boot_taken x size a) (quiet s)

pub after_part : (s : State) (a size : ℕ) → state_after s (acts.FreePart a size) Done ≡ part_freed (counted s) a size (block_with (blocks_in s.tracked) a)
unfolding changed
after_part s a size = ap (λ (x : State). part_freed x a size (block_with (blocks_in x.tracked) a)) (quiet s)

pub after_note : (note : Note) (s : State) (a : ℕ) → state_after s (act_of note a) Done ≡ annotated note a (counted s)
unfolding changed
after_note NotLeak s a = ap (annotated NotLeak a) (quiet s)
after_note Ignore s a = ap (annotated Ignore a) (quiet s)
after_note NoScan s a = ap (annotated NoScan a) (quiet s)
after_note TransientLeak s a = ap (annotated TransientLeak a) (quiet s)

pub after_area : (s : State) (a size : ℕ) → state_after s (acts.ScanArea a size) Done
    ≡ painted (λ (t : Tracked). contains a t.block) (λ (b : Block). record b { areas = b.areas ++ record { start = a; size = size } ∷ [] }) (counted s)
unfolding changed
after_area s a size = ap (λ (x : State). painted (λ (t : Tracked). contains a t.block) (λ (b : Block). record b { areas = b.areas ++ record { start = a; size = size } ∷ [] }) x) (quiet s)

pub after_off : (s : State) → state_after s (acts.File file.Off) Done ≡ record (counted s) { enabled = false; due = None }
unfolding changed
after_off s = ap (λ (x : State). record x { enabled = false; due = None }) (quiet s)

pub after_off_stopped : (s : State) (k : ℕ) → state_after s (acts.File file.Off) (Stopped k) ≡ record (scan_stopped (counted s)) { enabled = false; due = None }
unfolding changed
after_off_stopped s k = refl

pub after_begin : (s : State) → state_after s (acts.File file.Scan) Done ≡ scan_begun (counted s)
unfolding changed
after_begin s = refl

pub after_clear : (s : State) → state_after s (acts.File file.Clear) Done ≡ (if s.enabled then painted is_listed_now painted_grey (counted s) else all_dropped (counted s))
unfolding changed
after_clear s = ap (λ (x : State). if x.enabled then painted is_listed_now painted_grey x else all_dropped x) (quiet s)

pub after_dump : (s : State) (a : ℕ) (i : Info) → state_after s (acts.File (file.Dump a)) (Dumped i) ≡ counted s
unfolding changed
after_dump s a i = quiet s

pub after_why : (s : State) (a : ℕ) → state_after s (acts.File (file.Why a)) Done ≡ counted s
unfolding changed
after_why s a = quiet s

pub after_read : (s : State) → state_after s acts.Read Done ≡ counted s
unfolding changed
after_read s = quiet s

pub after_tick : (s : State) (n : ℕ) → state_after s (acts.Tick n) Done ≡ record (counted s) { now = s.now + n }
unfolding changed
after_tick s n = ap (λ (x : State). record x { now = x.now + n }) (quiet s)

pub after_automatic : (s : State) → state_after s acts.AutoBegin Done ≡ record (scan_begun (counted s)) { due = Some (s.now + s.period) }
unfolding changed
after_automatic s = refl

pub after_skipped : (s : State) → state_after s acts.AutoBegin Skipped ≡ record (counted s) { due = Some (s.now + s.period) }
unfolding changed
after_skipped s = ap (λ (x : State). record x { due = Some (x.now + x.period) }) (quiet s)

pub after_halt : (s : State) (k : ℕ) → state_after s acts.Halt (Stopped k) ≡ scan_stopped (counted s)
unfolding changed
after_halt s k = refl
