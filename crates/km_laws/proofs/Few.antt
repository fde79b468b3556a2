-- How many blocks, tasks and scans the events of a history allow.
use Rattle.std.proofs.Common.{◌≡◌, ℕ, ◌+◌, ◌-◌, ◌*◌, ◌≤◌, Bool, true, false, ◌&&◌, ◌==◌, nat_lt, length, List, [], ◌∷◌, ◌++◌, Option, Some, None, is_some, if◌then◌else◌, refl, arith}
use Rattle.km_base.specs.declared.acts.Act.{Act}
use Rattle.km_base.specs.declared.acts.Act.TheVariants.{Section, TaskStart, TaskExit, SetReg, Load, Kmalloc, Kfree, Pages, VmTake, VmGive, BootMem, FreePart, File}
use Rattle.km_base.specs.declared.acts.FileCmd.{FileCmd}
use Rattle.km_base.specs.declared.acts.FileCmd.TheVariants.{ScanOn, ScanEvery, Clear}
use Rattle.km_base.specs.declared.acts.Answer.{Answer}
use Rattle.km_model.specs.History.{History}
use Rattle.km_model.specs.Blocks.{Block, block_with, without_block, changed_where, painted_grey, is_among}
use Rattle.km_model.specs.Placement.{pages_for, lowest_run, lowest_slab, lowest_slot, kmalloc_span, kmalloc_use, slot_of_area, head_with, page_start, Use, HeadBlock, AreaRun, BootRun, SectionRun}
use Rattle.km_model.specs.Tasks.{Task, task_named}
use Rattle.km_model.specs.World.{World, with_block, with_rest, with_allocation}
use Rattle.km_model.specs.Past.{is_refused, begins, scans, world}
use Rattle.km_model.specs.Changes.{world_after_event, world_after_act, world_after_word, world_after_exit, with_vmalloc, world_after_vfree, world_without, world_without_part, start_of}
use Rattle.km_model.specs.Verdict.{listing_ids}
use Rattle.km_model.specs.Follows.{past_of}
use Rattle.km_laws.specs.Laws.{AreFew, NamesAreFew}

-- no more than these were registered and started since
abbrev Grew : ℕ → ℕ → World → World → Type 0
Grew n m w v = (v.registered ≤ w.registered + n) × (v.started ≤ w.started + m)

either : (n m : ℕ) (w : World) (q : Bool) (x y : World) → Grew n m w x → Grew n m w y → Grew n m w (if q then x else y)
either n m w true x y g h = g
either n m w false x y g h = h

block : (w : World) (start size references : ℕ) (excess : Option ℕ) → Grew 1 0 w (with_block w start size references excess)
block w start size references excess = either 1 0 w w.enabled (record w { registered = w.registered + 1; blocks = _ }) w (omega arith, omega arith) (omega arith, omega arith)

rest : (w : World) (b : Block) (start size : ℕ) → Grew 1 0 w (with_rest w b start size)
rest w b start size = either 1 0 w (w.enabled && nat_lt 0 size) (record w { registered = w.registered + 1; blocks = _ }) w (omega arith, omega arith) (omega arith, omega arith)

twice : (w v u : World) → Grew 1 0 w v → Grew 1 0 v u → Grew 2 1 w u
twice w v u g h = let a = g.0 in let b = g.1 in let c = h.0 in let d = h.1 in (omega (arith, a, c), omega (arith, b, d))

placed : (w : World) (what : Use) (a bytes start size references : ℕ) → Grew 2 1 w (with_block (with_allocation w what a bytes) start size references None)
placed w what a bytes start size references =
    let b = block (with_allocation w what a bytes) start size references None in
    let n = b.0 in let m = b.1 in (omega (arith, n), omega (arith, m))

parted : (w : World) (a size : ℕ) (o : Option Block) → Grew 2 1 w (world_without_part w a size o)
parted w a size None = (omega arith, omega arith)
parted w a size (Some b) =
    let left : World = record w { blocks = without_block w.blocks b.start } in
    let front = with_rest left b b.start (a - b.start) in
    twice left front (with_rest front b (a + size) (b.start + b.size - (a + size))) (rest left b b.start (a - b.start)) (rest front b (a + size) (b.start + b.size - (a + size)))

exited : (w : World) (t : Option Task) → Grew 2 1 w (world_after_exit w t)
exited w None = (omega arith, omega arith)
exited w (Some t) = (omega arith, omega arith)

headed : (w : World) (a : ℕ) (o : Option ℕ) → Grew 2 1 w (elim o as (λ _. World) [ None ↦ w | Some head ↦ world_without (world_without w a) head ])
headed w a None = (omega arith, omega arith)
headed w a (Some head) = (omega arith, omega arith)

vfreed : (w : World) (a : ℕ) (slot : Option ℕ) → Grew 2 1 w (world_after_vfree w a slot)
vfreed w a None = (omega arith, omega arith)
vfreed w a (Some slot) = headed w a (head_with w.used slot)

vmalloced : (w : World) (size head area : ℕ) → Grew 2 1 w (with_vmalloc w size head area)
vmalloced w size head area =
    let slot = lowest_slot w.used in
    let placed = with_allocation (with_allocation w (HeadBlock slot) head 64) (AreaRun slot) area (4096 * pages_for size) in
    let headed = with_block placed head 64 1 (Some area) in
    twice w headed (with_block headed area (4096 * pages_for size) 2 None) (block placed head 64 1 (Some area)) (block headed area (4096 * pages_for size) 2 None)

written : (w : World) (listed : List ℕ) (word : FileCmd) → Grew 2 1 w (world_after_word w listed word)
written w listed ScanOn = either 2 1 w (is_some w.due) w (record w { due = Some (w.now + w.period) }) (omega arith, omega arith) (omega arith, omega arith)
written w listed (ScanEvery n) =
    either 2 1 w (n == 0) (record w { due = None }) (record w { period = 1000 * n; due = Some (w.now + 1000 * n) }) (omega arith, omega arith) (omega arith, omega arith)
written w listed Clear =
    either 2 1 w w.enabled (record w { blocks = changed_where (λ (b : Block). is_among b.id listed) painted_grey w.blocks }) (record w { blocks = [] }) (omega arith, omega arith) (omega arith, omega arith)
written w listed _ = (omega arith, omega arith)

act_grows : (w : World) (listed : List ℕ) (act : Act) (answer : Answer) → Grew 2 1 w (world_after_act w listed act answer)
unfolding world_after_act
act_grows w listed (Section name words) answer =
    let start = page_start (lowest_run w.used (pages_for (8 * words))) in
    placed w (SectionRun name) start (4096 * pages_for (8 * words)) start (8 * words) 0
act_grows w listed (TaskExit name) answer = exited w (task_named w.tasks name)
act_grows w listed (Kmalloc size) answer = placed w (kmalloc_use size) (start_of answer) (kmalloc_span size) (start_of answer) (kmalloc_span size) 1
act_grows w listed (VmTake size) answer = vmalloced w size (lowest_slab w.used 64) (start_of answer)
act_grows w listed (VmGive a) answer = vfreed w a (slot_of_area w.used a)
act_grows w listed (BootMem size) answer = placed w BootRun (start_of answer) (4096 * pages_for size) (start_of answer) size 0
act_grows w listed (FreePart a size) answer = parted w a size (block_with w.blocks a)
act_grows w listed (File word) answer = written w listed word
act_grows w listed _ answer = (omega arith, omega arith)

event_grows : (w : World) (listed : List ℕ) (act : Act) (answer : Answer) → Grew 2 1 w (world_after_event w listed act answer)
event_grows w listed act answer =
    either 2 1 w (is_refused answer) w (world_after_act w listed act answer) (omega arith, omega arith) (act_grows w listed act answer)

begun_most : (q : Bool) (n : ℕ) → (elim q as (λ _. ℕ) [ true ↦ n + 1 | false ↦ n ]) ≤ n + 1
begun_most true n = omega arith
begun_most false n = omega arith

pub names_are_few : NamesAreFew
names_are_few [] = record { registered = omega arith; started = omega arith; scans = omega arith }
names_are_few (e ∷ h) =
    let past = past_of h in
    let before = names_are_few h in
    let grown = event_grows (world past) (listing_ids past) e.act e.answer in
    let a = before.registered in let b = before.started in let c = before.scans in
    let d = grown.0 in let f = grown.1 in
    let g = begun_most (begins e.act e.answer) (scans past) in
    record { registered = omega (arith, a, d); started = omega (arith, b, f); scans = omega (arith, c, g) }
