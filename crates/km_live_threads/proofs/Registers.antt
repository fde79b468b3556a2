-- Each task has four registers, at each moment of a history, and they are read one by one.
use Rattle.std.proofs.Common.{◌≡◌, ℕ, ◌+◌, ◌-◌, ◌*◌, ◌==◌, ◌&&◌, nat_lt, Bool, false, true, List, [], ◌∷◌, ◌++◌, length, replicate, slice_index, slice_set, bytes_eq, Option, Some, None, Ok, if◌then◌else◌, is_some, refl, ap, ◌∙◌, arith}
use Rattle.std.proofs.lemmas.List.{length-set}
use Rattle.km_base.specs.declared.acts.Act.{Act}
use Rattle.km_base.specs.declared.acts.Act.TheVariants.{Section, TaskStart, TaskExit, SetReg, Load, Kmalloc, VmTake, VmGive, BootMem, FreePart, File}
use Rattle.km_base.specs.declared.acts.FileCmd.{FileCmd}
use Rattle.km_base.specs.declared.acts.FileCmd.TheVariants.{ScanOn, ScanEvery, Clear}
use Rattle.km_base.specs.declared.acts.Reg.{Reg}
use Rattle.km_base.specs.declared.acts.Reg.TheVariants.{R0, R1, R2, R3}
use Rattle.km_base.specs.declared.acts.Refusal.TheVariants.{NoTask}
use Rattle.km_base.specs.declared.lines.Base.TheVariants as base
use Rattle.km_base.specs.declared.acts.Answer.{Answer}
use Rattle.km_model.specs.History.{History, value_of}
use Rattle.km_model.specs.Blocks.{Block, block_with, changed_where, is_among, painted_grey, without_block}
use Rattle.km_model.specs.Members.{Each}
use Rattle.km_model.specs.Operands.{base_value, found_or, task_or_refusal, then_do}
use Rattle.km_model.specs.Placement.{AreaRun, HeadBlock, head_with, kmalloc_span, lowest_run, lowest_slab, lowest_slot, page_start, pages_for, slot_of_area}
use Rattle.km_model.specs.Tasks.{Task, place_of, register, task_named, with_register}
use Rattle.km_model.specs.World.{World, next_block, with_allocation, with_block, with_rest}
use Rattle.km_model.specs.Past.{is_refused, world}
use Rattle.km_model.specs.Verdict.{listing_ids}
use Rattle.km_model.specs.Changes.{start_of, with_task, with_vmalloc, world_after_act, world_after_exit, world_after_vfree, world_after_word, world_without, world_without_part}
use Rattle.km_model.specs.Follows.{past_of}
use Rattle.km_model.proofs.Lists.{each_filter, each_map, each_push, find_each}
use Rattle.km_live_threads.specs.Worlds.{HasFourRegisters}

-- each task that stands has four
abbrev HaveFour : World → Type 0
HaveFour w = Each HasFourRegisters w.tasks

either : (q : Bool) (x y : World) → HaveFour x → HaveFour y → HaveFour (if q then x else y)
either true x y r s = r
either false x y r s = s

with_block_four : (w : World) (start size references : ℕ) (excess : Option ℕ) → HaveFour w → HaveFour (with_block w start size references excess)
with_block_four w start size references excess p =
    either w.enabled (record w { registered = w.registered + 1; blocks = w.blocks ++ next_block w start size references excess ∷ [] }) w p p

with_rest_four : (w : World) (b : Block) (start size : ℕ) → HaveFour w → HaveFour (with_rest w b start size)
with_rest_four w b start size p =
    either (w.enabled && nat_lt 0 size) (record w { registered = w.registered + 1; blocks = w.blocks ++ record b { id = w.registered; start = start; size = size; areas = []; excess = None } ∷ [] }) w p p

without_part_four : (w : World) (a size : ℕ) (o : Option Block) → HaveFour w → HaveFour (world_without_part w a size o)
without_part_four w a size None p = p
without_part_four w a size (Some b) p =
    let left : World = record w { blocks = without_block w.blocks b.start } in
    with_rest_four (with_rest left b b.start (a - b.start)) b (a + size) (b.start + b.size - (a + size)) (with_rest_four left b b.start (a - b.start) p)

exit_four : (w : World) (t : Option Task) → HaveFour w → HaveFour (world_after_exit w t)
exit_four w None p = p
exit_four w (Some t) p = each_filter HasFourRegisters _ w.tasks p

head_four : (w : World) (a : ℕ) (o : Option ℕ) → HaveFour w → HaveFour (elim o as (λ _. World) [ None ↦ w | Some head ↦ world_without (world_without w a) head ])
head_four w a None p = p
head_four w a (Some head) p = p

vfree_four : (w : World) (a : ℕ) (slot : Option ℕ) → HaveFour w → HaveFour (world_after_vfree w a slot)
vfree_four w a None p = p
vfree_four w a (Some slot) p = head_four w a (head_with w.used slot) p

word_four : (w : World) (listed : List ℕ) (word : FileCmd) → HaveFour w → HaveFour (world_after_word w listed word)
word_four w listed ScanOn p = either (is_some w.due) w (record w { due = Some (w.now + w.period) }) p p
word_four w listed (ScanEvery n) p = either (n == 0) (record w { due = None }) (record w { period = 1000 * n; due = Some (w.now + 1000 * n) }) p p
word_four w listed Clear p =
    either w.enabled (record w { blocks = changed_where (λ (b : Block). is_among b.id listed) painted_grey w.blocks }) (record w { blocks = [] }) p p
word_four w listed _ p = p

vmalloc_four : (w : World) (size head area : ℕ) → HaveFour w → HaveFour (with_vmalloc w size head area)
vmalloc_four w size head area p =
    let slot = lowest_slot w.used in
    let placed = with_allocation (with_allocation w (HeadBlock slot) head 64) (AreaRun slot) area (4096 * pages_for size) in
    with_block_four (with_block placed head 64 1 (Some area)) area (4096 * pages_for size) 2 None (with_block_four placed head 64 1 (Some area) p)

start_four : (w : World) (name : List ℕ) (stack : ℕ) → HaveFour w → HaveFour (with_task w name stack)
start_four w name stack p = each_push HasFourRegisters w.tasks (record { number = w.started + 1; name = name; stack = stack; registers = replicate 4 0 }) p refl

set_one : (r : Reg) (value : ℕ) (q : Bool) (t : Task) → HasFourRegisters t → HasFourRegisters (if q then record t { registers = slice_set t.registers (place_of r) value } else t)
set_one r value true t p = length-set t.registers (place_of r) value ∙ p
set_one r value false t p = p

set_four : (w : World) (name : List ℕ) (r : Reg) (value : ℕ) → HaveFour w → HaveFour (record w { tasks = with_register w.tasks name r value })
set_four w name r value p =
    each_map HasFourRegisters HasFourRegisters (λ (t : Task). if bytes_eq t.name name then record t { registers = slice_set t.registers (place_of r) value } else t)
    (λ t. set_one r value (bytes_eq t.name name) t) w.tasks p

act_four : (w : World) (listed : List ℕ) (act : Act) (answer : Answer) → HaveFour w → HaveFour (world_after_act w listed act answer)
unfolding world_after_act
act_four w listed (Section name words) answer p = with_block_four _ _ (8 * words) 0 None p
act_four w listed (TaskStart name) answer p = start_four w name (page_start (lowest_run w.used 1)) p
act_four w listed (TaskExit name) answer p = exit_four w (task_named w.tasks name) p
act_four w listed (SetReg task reg value) answer p = set_four w task reg value p
act_four w listed (Load task reg _) answer p = set_four w task reg (value_of answer) p
act_four w listed (Kmalloc size) answer p = with_block_four _ (start_of answer) (kmalloc_span size) 1 None p
act_four w listed (VmTake size) answer p = vmalloc_four w size (lowest_slab w.used 64) (start_of answer) p
act_four w listed (VmGive a) answer p = vfree_four w a (slot_of_area w.used a) p
act_four w listed (BootMem size) answer p = with_block_four _ (start_of answer) size 0 None p
act_four w listed (FreePart a size) answer p = without_part_four w a size (block_with w.blocks a) p
act_four w listed (File word) answer p = word_four w listed word p
act_four w listed _ answer p = p

-- at each moment of a history each task has four registers
pub have_four : (h : History) → HaveFour (world (past_of h))
have_four [] = tt
have_four (e ∷ h) =
    let w = world (past_of h) in
    either (is_refused e.answer) w (world_after_act w (listing_ids (past_of h)) e.act e.answer) (have_four h) (act_four w (listing_ids (past_of h)) e.act e.answer (have_four h))

-- a list of four by its members
by_four : (xs : List ℕ) → length xs ≡ 4 → slice_index xs 0 ∷ slice_index xs 1 ∷ slice_index xs 2 ∷ slice_index xs 3 ∷ [] ≡ xs
by_four [] e = absurd cc
by_four (a ∷ []) e = absurd cc
by_four (a ∷ b ∷ []) e = absurd cc
by_four (a ∷ b ∷ c ∷ []) e = absurd cc
by_four (a ∷ b ∷ c ∷ d ∷ []) e = refl
by_four (a ∷ b ∷ c ∷ d ∷ x ∷ xs) e = absurd (omega (arith, e))

-- the registers of a task, read one by one
pub registers_read : (w : World) (name : List ℕ) → Each HasFourRegisters w.tasks → (a b c d : ℕ)
    → Ok a ≡ base_value w (base.Reg name R0) → Ok b ≡ base_value w (base.Reg name R1) → Ok c ≡ base_value w (base.Reg name R2) → Ok d ≡ base_value w (base.Reg name R3)
    → Ok (a ∷ b ∷ c ∷ d ∷ []) ≡ then_do (task_or_refusal w name) (λ t. Ok t.registers)
registers_read w name four a b c d ea eb ec ed = by_task (task_named w.tasks name) refl ea eb ec ed
  where
    by_task : (o : Option Task) → task_named w.tasks name ≡ o
        → Ok a ≡ then_do (found_or o NoTask) (λ t. Ok (register t R0)) → Ok b ≡ then_do (found_or o NoTask) (λ t. Ok (register t R1))
        → Ok c ≡ then_do (found_or o NoTask) (λ t. Ok (register t R2)) → Ok d ≡ then_do (found_or o NoTask) (λ t. Ok (register t R3))
        → Ok (a ∷ b ∷ c ∷ d ∷ []) ≡ then_do (found_or o NoTask) (λ t. Ok t.registers)
    by_task None is ea eb ec ed = absurd cc
    by_task (Some t) is ea eb ec ed =
        let p : a ≡ slice_index t.registers 0 = cc in
        let q : b ≡ slice_index t.registers 1 = cc in
        let r : c ≡ slice_index t.registers 2 = cc in
        let s : d ≡ slice_index t.registers 3 = cc in
        let has = (find_each HasFourRegisters (λ (u : Task). bytes_eq u.name name) w.tasks t is four).1 in
        let each : a ∷ b ∷ c ∷ d ∷ [] ≡ slice_index t.registers 0 ∷ slice_index t.registers 1 ∷ slice_index t.registers 2 ∷ slice_index t.registers 3 ∷ [] = cc in
        ap Ok (each ∙ by_four t.registers has)
