use Rattle.std.proofs.Common.{◌≡◌, ℕ, ◌+◌, ◌-◌, ◌*◌, ◌==◌, ◌&&◌, nat_lt, Bool, false, true, List, [], ◌∷◌, ◌++◌, map, filter, replicate, slice_set, bytes_eq, Option, Some, None, if◌then◌else◌, is_some, refl, ◌⊎◌, inl, inr}
use Rattle.km_base.specs.declared.acts.Act.{Act}
use Rattle.km_base.specs.declared.acts.Act.TheVariants.{Section, TaskStart, TaskExit, SetReg, Load, Kmalloc, Kfree, VmTake, VmGive, BootMem, FreePart, NotLeak, Ignore, NoScan, ScanArea, File}
use Rattle.km_base.specs.declared.acts.FileCmd.{FileCmd}
use Rattle.km_base.specs.declared.acts.FileCmd.TheVariants.{ScanOn, ScanEvery, Clear}
use Rattle.km_base.specs.declared.acts.Reg.{Reg}
use Rattle.km_base.specs.declared.acts.Answer.{Answer}
use Rattle.km_model.specs.History.{value_of}
use Rattle.km_model.specs.Blocks.{Block, Black, AtLeast, changed_where, painted_grey, painted_black, unscanned, contains, block_with, without_block, is_among}
use Rattle.km_model.specs.Placement.{pages_for, lowest_run, lowest_slab, lowest_slot, kmalloc_span, slot_of_area, head_with, page_start, HeadBlock, AreaRun}
use Rattle.km_model.specs.Tasks.{Task, task_named, place_of, with_register}
use Rattle.km_model.specs.World.{World, next_block, with_block, with_rest, with_allocation}
use Rattle.km_model.specs.Past.{is_refused}
use Rattle.km_model.specs.Changes.{world_after_event, world_after_act, world_after_word, world_after_exit, with_task, with_vmalloc, world_after_vfree, world_without, world_without_part, start_of}

-- a block that was changed: it keeps its id, span and birth, and its minimum or any tally is enough
abbrev pub Tame : Block → Block → Type 0
Tame b c = (c.id ≡ b.id) × (c.start ≡ b.start) × (c.size ≡ b.size) × ((c.minimum ≡ b.minimum) ⊎ ((c.minimum ≡ AtLeast 0) ⊎ (c.minimum ≡ Black))) × (c.born ≡ b.born)

-- what may be said of a moment: the number of blocks ever registered, the blocks, the number of tasks ever started, the tasks
abbrev pub Saying : Type 1
Saying = ℕ → List Block → ℕ → List Task → Type 0

-- a saying that no event makes false
pub record Closed (P : Saying) : Type 0 where
  pub registered : (r s : ℕ) (bs : List Block) (ts : List Task) (b : Block) → b.id ≡ r → P r bs s ts → P (r + 1) (bs ++ b ∷ []) s ts
  pub fewer : (r s : ℕ) (bs : List Block) (ts : List Task) (test : Block → Bool) → P r bs s ts → P r (filter test bs) s ts
  pub none : (r s : ℕ) (bs : List Block) (ts : List Task) → P r bs s ts → P r [] s ts
  pub changed : (r s : ℕ) (bs : List Block) (ts : List Task) (change : Block → Block) → ((b : Block) → Tame b (change b)) → P r bs s ts → P r (map change bs) s ts
  pub started : (r s : ℕ) (bs : List Block) (ts : List Task) (t : Task) → t.number ≡ s + 1 → P r bs s ts → P r bs (s + 1) (ts ++ t ∷ [])
  pub gone : (r s : ℕ) (bs : List Block) (ts : List Task) (test : Task → Bool) → P r bs s ts → P r bs s (filter test ts)
  pub set : (r s : ℕ) (bs : List Block) (ts : List Task) (change : Task → Task) → ((t : Task) → ((change t).number ≡ t.number) × ((change t).stack ≡ t.stack)) → P r bs s ts → P r bs s (map change ts)

-- it holds of what stands
abbrev pub Of : Saying → World → Type 0
Of P w = P w.registered w.blocks w.started w.tasks

either : (P : Saying) (q : Bool) (x y : World) → Of P x → Of P y → Of P (if q then x else y)
either P true x y r s = r
either P false x y r s = s

tame_where : (test : Block → Bool) (change : Block → Block) → ((b : Block) → Tame b (change b)) → (b : Block) → Tame b (if test b then change b else b)
tame_where test change tame b =
    elim (test b) as (λ q. Tame b (if q then change b else b)) [ true ↦ tame b | false ↦ (refl, refl, refl, inl refl, refl) ]

where_of : (P : Saying) → Closed P → (w : World) (test : Block → Bool) (change : Block → Block) → ((b : Block) → Tame b (change b)) → Of P w → Of P (record w { blocks = changed_where test change w.blocks })
where_of P c w test change tame p = c.changed w.registered w.started w.blocks w.tasks (λ b. if test b then change b else b) (tame_where test change tame) p

block_of_world : (P : Saying) → Closed P → (w : World) (start size references : ℕ) (excess : Option ℕ) → Of P w → Of P (with_block w start size references excess)
block_of_world P c w start size references excess p =
    either P w.enabled (record w { registered = w.registered + 1; blocks = w.blocks ++ next_block w start size references excess ∷ [] }) w
    (c.registered w.registered w.started w.blocks w.tasks (next_block w start size references excess) refl p) p

back_of : (P : Saying) → Closed P → (w : World) (a : ℕ) → Of P w → Of P (world_without w a)
back_of P c w a p = c.fewer w.registered w.started w.blocks w.tasks _ p

rest_of : (P : Saying) → Closed P → (w : World) (b : Block) (start size : ℕ) → Of P w → Of P (with_rest w b start size)
rest_of P c w b start size p =
    let rest : Block = record b { id = w.registered; start = start; size = size; areas = []; excess = None } in
    either P (w.enabled && nat_lt 0 size) (record w { registered = w.registered + 1; blocks = w.blocks ++ rest ∷ [] }) w
    (c.registered w.registered w.started w.blocks w.tasks rest refl p) p

parted_of : (P : Saying) → Closed P → (w : World) (a size : ℕ) (o : Option Block) → Of P w → Of P (world_without_part w a size o)
parted_of P c w a size None p = p
parted_of P c w a size (Some b) p =
    let left : World = record w { blocks = without_block w.blocks b.start } in
    rest_of P c (with_rest left b b.start (a - b.start)) b (a + size) (b.start + b.size - (a + size))
    (rest_of P c left b b.start (a - b.start) (c.fewer w.registered w.started w.blocks w.tasks _ p))

exited_of : (P : Saying) → Closed P → (w : World) (t : Option Task) → Of P w → Of P (world_after_exit w t)
exited_of P c w None p = p
exited_of P c w (Some t) p = c.gone w.registered w.started w.blocks w.tasks _ p

head_of : (P : Saying) → Closed P → (w : World) (a : ℕ) (o : Option ℕ) → Of P w → Of P (elim o as (λ _. World) [ None ↦ w | Some head ↦ world_without (world_without w a) head ])
head_of P c w a None p = p
head_of P c w a (Some head) p = back_of P c (world_without w a) head (back_of P c w a p)

vfreed_of : (P : Saying) → Closed P → (w : World) (a : ℕ) (slot : Option ℕ) → Of P w → Of P (world_after_vfree w a slot)
vfreed_of P c w a None p = p
vfreed_of P c w a (Some slot) p = head_of P c w a (head_with w.used slot) p

grey_tame : (b : Block) → Tame b (painted_grey b)
grey_tame b = (refl, refl, refl, inr (inl refl), refl)

black_tame : (b : Block) → Tame b (painted_black b)
black_tame b = (refl, refl, refl, inr (inr refl), refl)

unscanned_tame : (b : Block) → Tame b (unscanned b)
unscanned_tame b = (refl, refl, refl, inl refl, refl)

written_of : (P : Saying) → Closed P → (w : World) (listed : List ℕ) (word : FileCmd) → Of P w → Of P (world_after_word w listed word)
written_of P c w listed ScanOn p = either P (is_some w.due) w (record w { due = Some (w.now + w.period) }) p p
written_of P c w listed (ScanEvery n) p =
    either P (n == 0) (record w { due = None }) (record w { period = 1000 * n; due = Some (w.now + 1000 * n) }) p p
written_of P c w listed Clear p =
    either P w.enabled (record w { blocks = changed_where (λ (b : Block). is_among b.id listed) painted_grey w.blocks }) (record w { blocks = [] })
    (where_of P c w (λ b. is_among b.id listed) painted_grey grey_tame p) (c.none w.registered w.started w.blocks w.tasks p)
written_of P c w listed _ p = p

vmalloc_of : (P : Saying) → Closed P → (w : World) (size head area : ℕ) → Of P w → Of P (with_vmalloc w size head area)
vmalloc_of P c w size head area p =
    let slot = lowest_slot w.used in
    let placed = with_allocation (with_allocation w (HeadBlock slot) head 64) (AreaRun slot) area (4096 * pages_for size) in
    block_of_world P c (with_block placed head 64 1 (Some area)) area (4096 * pages_for size) 2 None (block_of_world P c placed head 64 1 (Some area) p)

task_of : (P : Saying) → Closed P → (w : World) (name : List ℕ) (stack : ℕ) → Of P w → Of P (with_task w name stack)
task_of P c w name stack p = c.started w.registered w.started w.blocks w.tasks (record { number = w.started + 1; name = name; stack = stack; registers = replicate 4 0 }) refl p

set_same : (name : List ℕ) (r : Reg) (value : ℕ) (q : Bool) (t : Task)
    → ((if q then record t { registers = slice_set t.registers (place_of r) value } else t).number ≡ t.number) × ((if q then record t { registers = slice_set t.registers (place_of r) value } else t).stack ≡ t.stack)
set_same name r value true t = (refl, refl)
set_same name r value false t = (refl, refl)

set_of : (P : Saying) → Closed P → (w : World) (name : List ℕ) (r : Reg) (value : ℕ) → Of P w → Of P (record w { tasks = with_register w.tasks name r value })
set_of P c w name r value p =
    c.set w.registered w.started w.blocks w.tasks (λ (t : Task). if bytes_eq t.name name then record t { registers = slice_set t.registers (place_of r) value } else t)
    (λ t. set_same name r value (bytes_eq t.name name) t) p

act_keeps : (P : Saying) → Closed P → (w : World) (listed : List ℕ) (act : Act) (answer : Answer) → Of P w → Of P (world_after_act w listed act answer)
unfolding world_after_act
act_keeps P c w listed (Section name words) answer p = block_of_world P c _ _ (8 * words) 0 None p
act_keeps P c w listed (TaskStart name) answer p = task_of P c w name (page_start (lowest_run w.used 1)) p
act_keeps P c w listed (TaskExit name) answer p = exited_of P c w (task_named w.tasks name) p
act_keeps P c w listed (SetReg task reg value) answer p = set_of P c w task reg value p
act_keeps P c w listed (Load task reg _) answer p = set_of P c w task reg (value_of answer) p
act_keeps P c w listed (Kmalloc size) answer p = block_of_world P c _ (start_of answer) (kmalloc_span size) 1 None p
act_keeps P c w listed (Kfree a) answer p = back_of P c w a p
act_keeps P c w listed (VmTake size) answer p = vmalloc_of P c w size (lowest_slab w.used 64) (start_of answer) p
act_keeps P c w listed (VmGive a) answer p = vfreed_of P c w a (slot_of_area w.used a) p
act_keeps P c w listed (BootMem size) answer p = block_of_world P c _ (start_of answer) size 0 None p
act_keeps P c w listed (FreePart a size) answer p = parted_of P c w a size (block_with w.blocks a) p
act_keeps P c w listed (NotLeak a) answer p = where_of P c w _ painted_grey grey_tame p
act_keeps P c w listed (Ignore a) answer p = where_of P c w _ painted_black black_tame p
act_keeps P c w listed (NoScan a) answer p = where_of P c w _ unscanned unscanned_tame p
act_keeps P c w listed (ScanArea a size) answer p = where_of P c w (contains a) _ (λ _. (refl, refl, refl, inl refl, refl)) p
act_keeps P c w listed (File word) answer p = written_of P c w listed word p
act_keeps P c w listed _ answer p = p

-- what no kind of change makes false holds after each event
pub event_keeps : (P : Saying) → Closed P → (w : World) (listed : List ℕ) (act : Act) (answer : Answer) → Of P w → Of P (world_after_event w listed act answer)
event_keeps P c w listed act answer p =
    either P (is_refused answer) w (world_after_act w listed act answer) p (act_keeps P c w listed act answer p)
