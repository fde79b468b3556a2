use Rattle.std.proofs.Common.{◌≡◌, ℕ, suc, ◌+◌, ◌-◌, ◌*◌, ◌<◌, ◌≤◌, Bool, true, false, not, ◌&&◌, ◌||◌, ◌==◌, nat_le, nat_lt, replicate, slice_set, bytes_eq, length, List, [], ◌∷◌, ◌++◌, Option, Some, None, is_some, if◌then◌else◌, refl, sym, ap, ◌∙◌, subst, arith, ◌⊎◌, inl, inr, ltb-true, leb-true, eqb-true, eq-eqb}
use Rattle.std.specs.List.{list_any}
use Rattle.std.proofs.lemmas.Bool.{and_parts, both_ways, not-false, not-true, or_parts}
use Rattle.std.proofs.lemmas.Slice.Eq.{bytes_eq-Decides}
use Rattle.km_base.specs.declared.acts.Act.{Act}
use Rattle.km_base.specs.declared.acts.Act.TheVariants.{Section, TaskStart, TaskExit, SetReg, Load, Kmalloc, Kfree, Pages, FreePages, VmTake, VmGive, BootMem, FreePart, NotLeak, Ignore, NoScan, ScanArea, File}
use Rattle.km_base.specs.declared.acts.FileCmd.{FileCmd}
use Rattle.km_base.specs.declared.acts.FileCmd.TheVariants.{ScanOn, ScanEvery, Clear}
use Rattle.km_base.specs.declared.acts.Reg.{Reg}
use Rattle.km_base.specs.declared.acts.Answer.{Answer}
use Rattle.km_base.specs.declared.acts.Answer.TheVariants.{Done, At}
use Rattle.km_base.specs.declared.acts.Refusal.TheVariants.{BadSize, BadAddress, SectionExists, TooManySections, TaskExists, TooManyTasks, NotAllocated, NoSlot, NotBoot}
use Rattle.km_model.specs.History.{History, value_of}
use Rattle.km_model.specs.Memory.{base, in_memory}
use Rattle.km_model.specs.Blocks.{Block, is_within, contains, block_with, without_block, changed_where, painted_grey, painted_black, unscanned, is_among}
use Rattle.km_model.specs.Placement.{Allocation, Use, SlotTable, SectionRun, StackPage, SlabBlock, LargeRun, PlainRun, BootRun, HeadBlock, AreaRun, page_start, pages_for, lowest_run, run_place, lowest_slab, lowest_slot, next_head, area_place, kmalloc_place, kmalloc_span, kmalloc_use, slot_of_area, head_with, without_allocation}
use Rattle.km_model.specs.Tasks.{Task, task_named, place_of, with_register, without_task}
use Rattle.km_model.specs.World.{World, opening, next_block, with_block, with_rest, with_allocation, is_given, sections}
use Rattle.km_model.specs.Past.{Past, world, is_refused}
use Rattle.km_model.specs.Verdict.{listing_ids}
use Rattle.km_model.specs.Changes.{world_after_event, world_after_act, world_after_word, world_after_exit, with_section, with_task, with_vmalloc, world_after_vfree, world_without, world_without_part, with_boot, start_of}
use Rattle.km_model.specs.Answers.{answer, unless, done_at, at_place, is_bad_size, is_uneven, is_kmalloc_at, is_plain_at, is_boot_with, part_answer, has_task}
use Rattle.km_model.specs.Follows.{past_of, Follows}
use Rattle.km_laws.specs.Placed.{BlocksApart, Words, BlockPlaced, is_stack, is_boot, is_tracked}
use Rattle.km_laws.proofs.Lists.{Each, In, each_in, in_each, in_push_left, in_push_right, each_push, find_in, filter_in, any_in, pairs_in}
use Rattle.km_laws.proofs.Pages.{run_is, run_is_free, words_some, Free}
use Rattle.km_laws.proofs.Slabs.{slab_is_free, kmalloc_is_free, run_words, pages_words, pages_hold}
use Rattle.km_laws.proofs.Placings.{Placed, StacksApart, apart_parts, one_with, one_at, clear_of, beside, allocated, block_added, task_added, blocks_fewer, blocks_none, tasks_fewer, blocks_changed, tasks_changed, given_back}
use Rattle.km_laws.proofs.Since.{IsAnswered, follows_answered}
use Rattle.km_laws.proofs.Accepted.{unless_open, done_open, at_open, good_size, even_size, memory_word, words_between, end_word, part_open, run_more, kmalloc_more, area_open, area_more}
use Rattle.km_laws.proofs.Uses.{plain_kind, boot_kind, PlainlyAt, kmalloc_at, area_at, head_at}

-- what stands is placed
abbrev pub PlacedIn : ℕ → World → Type 0
PlacedIn words w = Placed words w.used w.blocks w.tasks

-- a block is registered where it is so
abbrev added : Bool → World → Block → World
added q w b = if q then record w { registered = w.registered + 1; blocks = w.blocks ++ b ∷ [] } else w

added_used : (q : Bool) (w : World) (b : Block) → (added q w b).used ≡ w.used
added_used true w b = refl
added_used false w b = refl

added_each : (P : Block → Type 0) (q : Bool) (w : World) (b : Block) → Each P w.blocks → P b → Each P (added q w b).blocks
added_each P true w b e p = each_push P w.blocks b e p
added_each P false w b e p = e

added_placed : (words : ℕ) (q : Bool) (w : World) (b : Block) → (q ≡ true → BlockPlaced w.used b) → Each (λ c. BlocksApart c b) w.blocks → PlacedIn words w → PlacedIn words (added q w b)
added_placed words true w b place apart p = block_added words w.used w.blocks w.tasks b (place refl) apart p
added_placed words false w b place apart p = p

-- an allocation is made, with a block that is registered unless `off` was written
block_made : (words : ℕ) (w : World) (what : Use) (start size bytes references : ℕ) (excess : Option ℕ) → Free words w.used (record { «use» = what; start = start; size = size })
    → is_tracked (record { «use» = what; start = start; size = size }) ≡ true → bytes ≤ size → Words bytes → PlacedIn words w
    → PlacedIn words (with_block (with_allocation w what start size) start bytes references excess)
block_made words w what start size bytes references excess free tracked le whole p =
    let z : Allocation = record { «use» = what; start = start; size = size } in
    let b : Block = next_block (with_allocation w what start size) start bytes references excess in
    added_placed words w.enabled (with_allocation w what start size) b
    (λ _. (z, in_push_right w.used z, tracked, omega arith, omega (arith, le), inl refl, (free.0.3.0, whole)))
    (clear_of words w.used w.blocks w.tasks z b free refl le p)
    (allocated words w.used w.blocks w.tasks z free p)

section_placed : (words : ℕ) (w : World) (name : List ℕ) (n a : ℕ) → 0 < n → run_place words w.used (pages_for (8 * n)) ≡ Some a → PlacedIn words w
    → PlacedIn words (with_section w name n (page_start (lowest_run w.used (pages_for (8 * n)))))
section_placed words w name n a some h p =
    let r = run_is words w.used (pages_for (8 * n)) a h in
    let m = lowest_run w.used (pages_for (8 * n)) in
    let z : Allocation = record { «use» = SectionRun name; start = page_start (lowest_run w.used (pages_for (8 * n))); size = 4096 * pages_for (8 * n) } in
    block_made words w (SectionRun name) (page_start (lowest_run w.used (pages_for (8 * n)))) (4096 * pages_for (8 * n)) (8 * n) 0 None
    (run_is_free words w.used (pages_for (8 * n)) z r.0 refl (pages_words (8 * n) (omega (arith, some))) (omega arith) (λ e. absurd cc))
    refl (pages_hold (8 * n)) (n - 1, omega (arith, some)) p

start_placed : (words : ℕ) (w : World) (name : List ℕ) (a : ℕ) → run_place words w.used 1 ≡ Some a → PlacedIn words w → PlacedIn words (with_task w name (page_start (lowest_run w.used 1)))
start_placed words w name a h p =
    let r = run_is words w.used 1 a h in
    let z : Allocation = record { «use» = StackPage; start = page_start (lowest_run w.used 1); size = 4096 } in
    task_added words w.used w.blocks w.tasks z (record { number = w.started + 1; name = name; stack = page_start (lowest_run w.used 1); registers = replicate 4 0 })
    (run_is_free words w.used 1 z r.0 refl (511, refl) (omega arith) (λ e. absurd cc)) refl refl refl p

pub stack_kind : (u : Use) → (elim u as (λ _. Bool) [ StackPage ↦ true | _ ↦ false ]) ≡ true → (elim u as (λ _. Bool) [ StackPage ↦ false | PlainRun ↦ false | _ ↦ true ]) ≡ true → ⊥
stack_kind StackPage e f = cc
stack_kind _ e f = cc

exit_placed : (words : ℕ) (w : World) (name : List ℕ) (o : Option Task) → task_named w.tasks name ≡ o → PlacedIn words w → PlacedIn words (world_after_exit w o)
exit_placed words w name None e p = p
exit_placed words w name (Some t) e p =
    let f = find_in (λ (u : Task). bytes_eq u.name name) w.tasks t e in
    let s = each_in _ w.tasks t p.stacks_in f.1 in
    given_back words w.used w.blocks (without_task w.tasks t.name) t.stack
    (λ b x i j e tracked kind.
    let same : x ≡ s.0 = one_at words w.used w.blocks w.tasks x s.0 p j s.1 (e ∙ sym s.3) in
    stack_kind x.«use» (subst (λ (y : Allocation). is_stack y ≡ true) (sym same) s.2) tracked)
    (λ u x i j e stack at.
    let k = filter_in (λ (v : Task). not (bytes_eq v.name t.name)) w.tasks u i in
    elim (pairs_in StacksApart w.tasks t u p.stacks_apart f.1 k.1) [
      | inl same ↦ both_ways (bytes_eq u.name t.name) (not-true (bytes_eq u.name t.name) k.0) ((bytes_eq-Decides u.name t.name).1 (ap (λ (v : Task). v.name) (sym same)))
      | inr other ↦ elim other [ inl differ ↦ differ (sym at) | inr differ ↦ differ at ]
    ])
    (tasks_fewer words w.used w.blocks w.tasks (λ (v : Task). not (bytes_eq v.name t.name)) p)

set_stack : (r : Reg) (value : ℕ) (q : Bool) (t : Task) → (if q then record t { registers = slice_set t.registers (place_of r) value } else t).stack ≡ t.stack
set_stack r value true t = refl
set_stack r value false t = refl

set_placed : (words : ℕ) (w : World) (name : List ℕ) (r : Reg) (value : ℕ) → PlacedIn words w → PlacedIn words (record w { tasks = with_register w.tasks name r value })
set_placed words w name r value p =
    tasks_changed words w.used w.blocks w.tasks (λ (t : Task). if bytes_eq t.name name then record t { registers = slice_set t.registers (place_of r) value } else t)
    (λ t. set_stack r value (bytes_eq t.name name) t) p

tracked_kmalloc : (size a span : ℕ) → is_tracked (record { «use» = kmalloc_use size; start = a; size = span }) ≡ true
tracked_kmalloc size a span =
    elim (nat_le size 4096) as (λ q. is_tracked (record { «use» = if q then SlabBlock else LargeRun; start = a; size = span }) ≡ true) [ true ↦ refl | false ↦ refl ]

kmalloc_placed : (words : ℕ) (w : World) (size a : ℕ) → 0 < size → kmalloc_place words w.used size ≡ Some a → PlacedIn words w
    → PlacedIn words (with_block (with_allocation w (kmalloc_use size) a (kmalloc_span size)) a (kmalloc_span size) 1 None)
kmalloc_placed words w size a some h p =
    let free = kmalloc_is_free words w.used size a some p.sound p.pages h in
    block_made words w (kmalloc_use size) a (kmalloc_span size) (kmalloc_span size) 1 None free
    (tracked_kmalloc size a (kmalloc_span size)) (omega arith) free.0.3.1 p

pages_placed : (words : ℕ) (w : World) (n a : ℕ) → 0 < n → run_place words w.used n ≡ Some a → PlacedIn words w → PlacedIn words (with_allocation w PlainRun a (4096 * n))
pages_placed words w n a some h p =
    let r = run_is words w.used n a h in
    allocated words w.used w.blocks w.tasks (record { «use» = PlainRun; start = a; size = 4096 * n })
    (run_is_free words w.used n (record { «use» = PlainRun; start = a; size = 4096 * n }) r.0 r.1 (run_words n some) (omega arith) (λ e. absurd cc)) p

boot_placed : (words : ℕ) (w : World) (size a : ℕ) → Words size → run_place words w.used (pages_for size) ≡ Some a → PlacedIn words w
    → PlacedIn words (with_block (with_allocation w BootRun a (4096 * pages_for size)) a size 0 None)
boot_placed words w size a whole h p =
    let r = run_is words w.used (pages_for size) a h in
    let z : Allocation = record { «use» = BootRun; start = a; size = 4096 * pages_for size } in
    block_made words w BootRun a (4096 * pages_for size) size 0 None
    (run_is_free words w.used (pages_for size) z r.0 r.1 (pages_words size (words_some size whole)) (omega arith) (λ e. absurd cc)) refl (pages_hold size) whole p

vmalloc_placed : (words : ℕ) (w : World) (size area : ℕ) → 0 < size → area_place words w.used size ≡ Some area → PlacedIn words w → PlacedIn words (with_vmalloc w size (lowest_slab w.used 64) area)
vmalloc_placed words w size area some h p =
    let k = area_open words w.used size area h in
    let head : ℕ = k.0 in
    let span : ℕ = 4096 * pages_for size in
    let z : Allocation = next_head w.used head in
    let free = slab_is_free words w.used 64 z (7, refl) (omega arith) p.sound p.pages refl refl k.1 in
    let used : List Allocation = w.used ++ z ∷ [] in
    let r = run_is words used (pages_for size) area k.2 in
    let y : Allocation = record { «use» = AreaRun (lowest_slot w.used); start = area; size = span } in
    let free' = run_is_free words used (pages_for size) y r.0 r.1 (pages_words size some) (omega arith) (λ e. absurd cc) in
    let placed : World = with_allocation (with_allocation w (HeadBlock (lowest_slot w.used)) head 64) (AreaRun (lowest_slot w.used)) area span in
    let first : World = with_block placed head 64 1 (Some area) in
    let p1 = allocated words w.used w.blocks w.tasks z free.0 p in
    let p2 : PlacedIn words placed = allocated words used w.blocks w.tasks y free' p1 in
    let b : Block = next_block placed head 64 1 (Some area) in
    let c : Block = next_block first area span 2 None in
    let b_in : BlockPlaced placed.used b = (z, in_push_left used z y (in_push_right w.used z), refl, omega arith, omega arith, inl refl, free.0.0.3) in
    let b_clear : Each (λ d. BlocksApart d b) placed.blocks = clear_of words w.used w.blocks w.tasks z b free.0 refl (omega arith) p in
    let c_in : BlockPlaced placed.used c = (y, in_push_right used y, refl, omega arith, omega arith, inl refl, free'.0.3) in
    let c_clear : Each (λ d. BlocksApart d c) first.blocks =
    added_each (λ d. BlocksApart d c) placed.enabled placed b (clear_of words used w.blocks w.tasks y c free' refl (omega arith) p1)
    (beside words used w.blocks w.tasks z y p1 free' (in_push_right w.used z)) in
    let p3 : PlacedIn words first = added_placed words placed.enabled placed b (λ _. b_in) b_clear p2 in
    subst (λ (a : ℕ). PlacedIn words (with_vmalloc w size a area)) (sym free.1)
    (added_placed words first.enabled first c (λ _. subst (λ u. BlockPlaced u c) (sym (added_used placed.enabled placed b)) c_in) c_clear p3)

-- what a live allocation that begins at an address is, each one that begins there is
plainly : (words : ℕ) (w : World) (a : ℕ) → PlacedIn words w → PlainlyAt w.used a → (x : Allocation) → In x w.used → x.start ≡ a → (is_boot x ≡ false) × (is_stack x ≡ false)
plainly words w a p y x i e =
    let same : y.0 ≡ x = one_at words w.used w.blocks w.tasks y.0 x p y.1 i (y.2 ∙ sym e) in
    (subst (λ (z : Allocation). is_boot z ≡ false) same y.3, subst (λ (z : Allocation). is_stack z ≡ false) same y.4)

-- a tracked allocation is given back, and its block is unregistered
back_placed : (words : ℕ) (w : World) (a : ℕ) → ((x : Allocation) → In x w.used → x.start ≡ a → (is_boot x ≡ false) × (is_stack x ≡ false)) → PlacedIn words w → PlacedIn words (world_without w a)
back_placed words w a plain p =
    given_back words w.used (without_block w.blocks a) w.tasks a
    (λ b x i j e tracked kind.
    let f = filter_in (λ (c : Block). not (c.start == a)) w.blocks b i in
    elim kind [
      | inl start ↦ both_ways (b.start == a) (not-true (b.start == a) f.0) (eq-eqb b.start a (start ∙ e))
      | inr boot ↦ both_ways (is_boot x) (plain x j e).0 boot
    ])
    (λ t x i j e stack at. both_ways (is_stack x) (plain x j e).1 stack)
    (blocks_fewer words w.used w.blocks w.tasks (λ (c : Block). not (c.start == a)) p)

plain_placed : (words : ℕ) (w : World) (a : ℕ) → list_any (is_plain_at a) w.used ≡ true → PlacedIn words w → PlacedIn words (record w { used = without_allocation w.used a })
plain_placed words w a h p =
    let y = any_in (is_plain_at a) w.used h in
    let k = plain_kind y.0.«use» (y.0.start == a) y.2 in
    let start = eqb-true y.0.start a k.0 in
    given_back words w.used w.blocks w.tasks a
    (λ b x i j e tracked kind.
    let same : y.0 ≡ x = one_at words w.used w.blocks w.tasks y.0 x p y.1 j (start ∙ sym e) in
    both_ways (is_tracked x) (subst (λ (z : Allocation). is_tracked z ≡ false) same k.1) tracked)
    (λ t x i j e stack at.
    let same : y.0 ≡ x = one_at words w.used w.blocks w.tasks y.0 x p y.1 j (start ∙ sym e) in
    both_ways (is_stack x) (subst (λ (z : Allocation). is_stack z ≡ false) same k.2) stack)
    p

head_placed : (words : ℕ) (w : World) (a : ℕ) (o : Option ℕ) → PlainlyAt w.used a → ((head : ℕ) → o ≡ Some head → PlainlyAt w.used head) → PlacedIn words w
    → PlacedIn words (elim o as (λ _. World) [ None ↦ w | Some head ↦ world_without (world_without w a) head ])
head_placed words w a None area f p = p
head_placed words w a (Some head) area f p =
    back_placed words (world_without w a) head
    (λ x i e. let k = filter_in (λ (y : Allocation). not (y.start == a)) w.used x i in plainly words w head p (f head refl) x k.1 e)
    (back_placed words w a (plainly words w a p area) p)

vfree_placed : (words : ℕ) (w : World) (a : ℕ) (o : Option ℕ) → slot_of_area w.used a ≡ o → PlacedIn words w → PlacedIn words (world_after_vfree w a o)
vfree_placed words w a None e p = p
vfree_placed words w a (Some slot) e p =
    head_placed words w a (head_with w.used slot) (area_at w.used a slot e) (λ head f. head_at w.used slot head f) p

part_placed : (words : ℕ) (w : World) (a size : ℕ) (b : Block) → list_any (is_boot_with a) w.used ≡ true → block_with w.blocks a ≡ Some b → a + size ≤ b.start + b.size → (i : ℕ) × (a ≡ base + 8 * i) → Words size → PlacedIn words w
    → PlacedIn words (world_without_part w a size (Some b))
part_placed words w a size b boot found end word whole p =
    let f = find_in (contains a) w.blocks b found in
    let within = and_parts (nat_le b.start a) (nat_lt a (b.start + b.size)) f.0 in
    let low : b.start ≤ a = leb-true b.start a within.0 in
    let high : a < b.start + b.size = ltb-true a (b.start + b.size) within.1 in
    let place = each_in (BlockPlaced w.used) w.blocks b p.blocks_in f.1 in
    let x : Allocation = place.0 in
    let x_low : x.start ≤ b.start = place.3 in
    let x_high : b.start + b.size ≤ x.start + x.size = place.4 in
    let y = any_in (is_boot_with a) w.used boot in
    let k = boot_kind y.0.«use» (is_within y.0.start y.0.size a) y.2 in
    let span = and_parts (nat_le y.0.start a) (nat_lt a (y.0.start + y.0.size)) k.0 in
    let same : y.0 ≡ x = one_with words w.used w.blocks w.tasks y.0 x a p y.1 place.1 (leb-true y.0.start a span.0) (ltb-true a (y.0.start + y.0.size) span.1) (omega (arith, low, x_low)) (omega (arith, high, x_high)) in
    let is_boot_x : is_boot x ≡ true = subst (λ (z : Allocation). is_boot z ≡ true) same k.1 in
    let left : World = record w { blocks = without_block w.blocks b.start } in
    let p1 : PlacedIn words left = blocks_fewer words w.used w.blocks w.tasks (λ (c : Block). not (c.start == b.start)) p in
    let first : Block = record b { id = left.registered; start = b.start; size = a - b.start; areas = []; excess = None } in
    let middle : World = with_rest left b b.start (a - b.start) in
    let last : Block = record b { id = middle.registered; start = a + size; size = b.start + b.size - (a + size); areas = []; excess = None } in
    let others : Each (λ c. BlocksApart c b) left.blocks = in_each (λ c. BlocksApart c b) left.blocks (λ c i.
    let g = filter_in (λ (d : Block). not (d.start == b.start)) w.blocks c i in
    elim (pairs_in BlocksApart w.blocks c b p.blocks_apart g.1 f.1) [
      | inl one ↦ absurd (both_ways (c.start == b.start) (not-true (c.start == b.start) g.0) (eq-eqb c.start b.start (ap (λ (d : Block). d.start) one)))
      | inr two ↦ elim two [ inl m ↦ m | inr m ↦ elim m [ inl n ↦ inr n | inr n ↦ inl n ] ]
    ]) in
    let part_of : (c : Block) (start length : ℕ) → BlocksApart c b → b.start ≤ start → start + length ≤ b.start + b.size → BlocksApart c (record b { start = start; size = length }) =
    λ c start length apart lo hi. apart_parts c.start c.size b.start b.size c.start c.size start length apart (omega arith) (omega arith) lo hi in
    let first_apart : Each (λ c. BlocksApart c first) left.blocks =
    in_each (λ c. BlocksApart c first) left.blocks (λ c i. part_of c b.start (a - b.start) (each_in (λ c. BlocksApart c b) left.blocks c others i) (omega arith) (omega (arith, low, high))) in
    let first_in : 0 < a - b.start → BlockPlaced left.used first = λ some. (
      x,
      place.1,
      place.2,
      x_low,
      omega (arith, low, high, x_high),
      inl_or_boot is_boot_x,
      (place.6.0, words_between base place.6.0.0 word.0 b.start a place.6.0.1 word.1 some),
    ) in
    let p2 : PlacedIn words middle = added_placed words (left.enabled && nat_lt 0 (a - b.start)) left first (λ e. first_in (some_of left.enabled (a - b.start) e)) first_apart p1 in
    let last_apart : Each (λ c. BlocksApart c last) middle.blocks =
    added_each (λ c. BlocksApart c last) (left.enabled && nat_lt 0 (a - b.start)) left first
    (in_each (λ c. BlocksApart c last) left.blocks (λ c i. part_of c (a + size) (b.start + b.size - (a + size)) (each_in (λ c. BlocksApart c b) left.blocks c others i) (omega (arith, low)) (omega (arith, end))))
    (inl (omega (arith, low))) in
    let part_end : a + size ≡ base + 8 * (word.0 + suc whole.0) = end_word base word.0 whole.0 a size word.1 whole.1 in
    let block_end : b.start + b.size ≡ base + 8 * (place.6.0.0 + suc place.6.1.0) = end_word base place.6.0.0 place.6.1.0 b.start b.size place.6.0.1 place.6.1.1 in
    let last_in : 0 < b.start + b.size - (a + size) → BlockPlaced left.used last = λ some. (
      x,
      place.1,
      place.2,
      omega (arith, x_low, low),
      omega (arith, end, x_high),
      inl_or_boot is_boot_x,
      ((word.0 + suc whole.0, part_end), words_between base (word.0 + suc whole.0) (place.6.0.0 + suc place.6.1.0) (a + size) (b.start + b.size) part_end block_end some),
    ) in
    added_placed words (middle.enabled && nat_lt 0 (b.start + b.size - (a + size))) middle last
    (λ e. subst (λ u. BlockPlaced u last) (sym (added_used (left.enabled && nat_lt 0 (a - b.start)) left first)) (last_in (some_of middle.enabled (b.start + b.size - (a + size)) e))) last_apart p2 where
      some_of : (q : Bool) (n : ℕ) → (q && nat_lt 0 n) ≡ true → 0 < n
      some_of q n e = ltb-true 0 n (and_parts q (nat_lt 0 n) e).1

      inl_or_boot : {P Q : Type 0} → Q → P ⊎ Q
      inl_or_boot q = inr q

where_same : (test : Block → Bool) (change : Block → Block) → ((b : Block) → ((change b).start ≡ b.start) × ((change b).size ≡ b.size))
    → (b : Block) → ((if test b then change b else b).start ≡ b.start) × ((if test b then change b else b).size ≡ b.size)
where_same test change same b =
    elim (test b) as (λ q. ((if q then change b else b).start ≡ b.start) × ((if q then change b else b).size ≡ b.size)) [ true ↦ same b | false ↦ (refl, refl) ]

where_placed : (words : ℕ) (w : World) (test : Block → Bool) (change : Block → Block) → ((b : Block) → ((change b).start ≡ b.start) × ((change b).size ≡ b.size))
    → PlacedIn words w → PlacedIn words (record w { blocks = changed_where test change w.blocks })
where_placed words w test change same p = blocks_changed words w.used w.blocks w.tasks (λ b. if test b then change b else b) (where_same test change same) p

either_placed : (words : ℕ) (q : Bool) (x y : World) → PlacedIn words x → PlacedIn words y → PlacedIn words (if q then x else y)
either_placed words true x y r s = r
either_placed words false x y r s = s

written_placed : (words : ℕ) (w : World) (listed : List ℕ) (word : FileCmd) → PlacedIn words w → PlacedIn words (world_after_word w listed word)
written_placed words w listed ScanOn p = either_placed words (is_some w.due) w (record w { due = Some (w.now + w.period) }) p p
written_placed words w listed (ScanEvery n) p =
    either_placed words (n == 0) (record w { due = None }) (record w { period = 1000 * n; due = Some (w.now + 1000 * n) }) p p
written_placed words w listed Clear p =
    either_placed words w.enabled (record w { blocks = changed_where (λ (b : Block). is_among b.id listed) painted_grey w.blocks }) (record w { blocks = [] })
    (where_placed words w (λ b. is_among b.id listed) painted_grey (λ b. (refl, refl)) p) (blocks_none words w.used w.blocks w.tasks p)
written_placed words w listed _ p = p

kmalloc_act : (words room : ℕ) → words ≤ room → (w : World) (size : ℕ) → (s : Answer) → s ≡ unless (is_bad_size 32768 size) BadSize (at_place (kmalloc_place words w.used size)) → is_refused s ≡ false → PlacedIn room w
    → PlacedIn room (with_block (with_allocation w (kmalloc_use size) (start_of s) (kmalloc_span size)) (start_of s) (kmalloc_span size) 1 None)
kmalloc_act words room le w size s e ok p =
    let u = unless_open (is_bad_size 32768 size) BadSize (at_place (kmalloc_place words w.used size)) (subst (λ (t : Answer). is_refused t ≡ false) e ok) in
    let k = at_open (kmalloc_place words w.used size) u.2 in
    let same : s ≡ At k.0 = e ∙ u.1 ∙ k.2 in
    subst (λ (t : Answer). PlacedIn room (with_block (with_allocation w (kmalloc_use size) (start_of t) (kmalloc_span size)) (start_of t) (kmalloc_span size) 1 None)) (sym same)
    (kmalloc_placed room w size k.0 (good_size 32768 size u.0) (kmalloc_more words room w.used size k.0 le k.1) p)

pages_act : (words room : ℕ) → words ≤ room → (w : World) (n : ℕ) → (s : Answer) → s ≡ unless (is_bad_size 1024 n) BadSize (at_place (run_place words w.used n)) → is_refused s ≡ false → PlacedIn room w
    → PlacedIn room (with_allocation w PlainRun (start_of s) (4096 * n))
pages_act words room le w n s e ok p =
    let u = unless_open (is_bad_size 1024 n) BadSize (at_place (run_place words w.used n)) (subst (λ (t : Answer). is_refused t ≡ false) e ok) in
    let k = at_open (run_place words w.used n) u.2 in
    let same : s ≡ At k.0 = e ∙ u.1 ∙ k.2 in
    subst (λ (t : Answer). PlacedIn room (with_allocation w PlainRun (start_of t) (4096 * n))) (sym same) (pages_placed room w n k.0 (good_size 1024 n u.0) (run_more words room w.used n k.0 le k.1) p)

vmalloc_act : (words room : ℕ) → words ≤ room → (w : World) (size : ℕ) → (s : Answer)
    → s ≡ unless (is_bad_size 1048576 size) BadSize (unless (lowest_slot w.used == 512) NoSlot (at_place (area_place words w.used size))) → is_refused s ≡ false → PlacedIn room w
    → PlacedIn room (with_vmalloc w size (lowest_slab w.used 64) (start_of s))
vmalloc_act words room le w size s e ok p =
    let u = unless_open (is_bad_size 1048576 size) BadSize (unless (lowest_slot w.used == 512) NoSlot (at_place (area_place words w.used size))) (subst (λ (t : Answer). is_refused t ≡ false) e ok) in
    let v = unless_open (lowest_slot w.used == 512) NoSlot (at_place (area_place words w.used size)) u.2 in
    let k = at_open (area_place words w.used size) v.2 in
    let same : s ≡ At k.0 = e ∙ u.1 ∙ v.1 ∙ k.2 in
    subst (λ (t : Answer). PlacedIn room (with_vmalloc w size (lowest_slab w.used 64) (start_of t))) (sym same) (vmalloc_placed room w size k.0 (good_size 1048576 size u.0) (area_more words room w.used size k.0 le k.1) p)

boot_act : (words room : ℕ) → words ≤ room → (w : World) (size : ℕ) → (s : Answer) → s ≡ unless (is_uneven size || nat_lt 1048576 size) BadSize (at_place (run_place words w.used (pages_for size))) → is_refused s ≡ false → PlacedIn room w
    → PlacedIn room (with_boot w size (start_of s))
boot_act words room le w size s e ok p =
    let u = unless_open (is_uneven size || nat_lt 1048576 size) BadSize (at_place (run_place words w.used (pages_for size))) (subst (λ (t : Answer). is_refused t ≡ false) e ok) in
    let k = at_open (run_place words w.used (pages_for size)) u.2 in
    let same : s ≡ At k.0 = e ∙ u.1 ∙ k.2 in
    subst (λ (t : Answer). PlacedIn room (with_boot w size (start_of t))) (sym same)
    (boot_placed room w size k.0 (even_size size (or_parts (is_uneven size) (nat_lt 1048576 size) u.0).0) (run_more words room w.used (pages_for size) k.0 le k.1) p)

section_act : (words room : ℕ) → words ≤ room → (w : World) (name : List ℕ) (n : ℕ)
    → is_refused (unless (is_bad_size 4096 n) BadSize (unless (is_given w.used name) SectionExists (unless (sections w.used == 32) TooManySections (done_at (run_place words w.used (pages_for (8 * n))))))) ≡ false
    → PlacedIn room w → PlacedIn room (with_section w name n (page_start (lowest_run w.used (pages_for (8 * n)))))
section_act words room le w name n ok p =
    let u = unless_open (is_bad_size 4096 n) BadSize (unless (is_given w.used name) SectionExists (unless (sections w.used == 32) TooManySections (done_at (run_place words w.used (pages_for (8 * n)))))) ok in
    let v = unless_open (is_given w.used name) SectionExists (unless (sections w.used == 32) TooManySections (done_at (run_place words w.used (pages_for (8 * n))))) u.2 in
    let t = unless_open (sections w.used == 32) TooManySections (done_at (run_place words w.used (pages_for (8 * n)))) v.2 in
    let k = done_open (run_place words w.used (pages_for (8 * n))) t.2 in
    section_placed room w name n k.0 (good_size 4096 n u.0) (run_more words room w.used (pages_for (8 * n)) k.0 le k.1) p

start_act : (words room : ℕ) → words ≤ room → (w : World) (name : List ℕ)
    → is_refused (unless (has_task w name) TaskExists (unless (length w.tasks == 64) TooManyTasks (done_at (run_place words w.used 1)))) ≡ false
    → PlacedIn room w → PlacedIn room (with_task w name (page_start (lowest_run w.used 1)))
start_act words room le w name ok p =
    let u = unless_open (has_task w name) TaskExists (unless (length w.tasks == 64) TooManyTasks (done_at (run_place words w.used 1))) ok in
    let v = unless_open (length w.tasks == 64) TooManyTasks (done_at (run_place words w.used 1)) u.2 in
    let k = done_open (run_place words w.used 1) v.2 in
    start_placed room w name k.0 (run_more words room w.used 1 k.0 le k.1) p

free_act : (words : ℕ) (w : World) (a : ℕ) → is_refused (unless (not (list_any (is_kmalloc_at a) w.used)) NotAllocated Done) ≡ false → PlacedIn words w → PlacedIn words (world_without w a)
free_act words w a ok p =
    let u = unless_open (not (list_any (is_kmalloc_at a) w.used)) NotAllocated Done ok in
    back_placed words w a (plainly words w a p (kmalloc_at w.used a (not-false (list_any (is_kmalloc_at a) w.used) u.0))) p

free_pages_act : (words : ℕ) (w : World) (a : ℕ) → is_refused (unless (not (list_any (is_plain_at a) w.used)) NotAllocated Done) ≡ false → PlacedIn words w → PlacedIn words (record w { used = without_allocation w.used a })
free_pages_act words w a ok p =
    let u = unless_open (not (list_any (is_plain_at a) w.used)) NotAllocated Done ok in
    plain_placed words w a (not-false (list_any (is_plain_at a) w.used) u.0) p

part_act : (words room : ℕ) (w : World) (a size : ℕ)
    → is_refused (unless (not (in_memory words a)) BadAddress (unless (is_uneven size) BadSize (unless (not (list_any (is_boot_with a) w.used)) NotBoot (part_answer (block_with w.blocks a) (a + size))))) ≡ false
    → PlacedIn room w → PlacedIn room (world_without_part w a size (block_with w.blocks a))
part_act words room w a size ok p =
    let u = unless_open (not (in_memory words a)) BadAddress (unless (is_uneven size) BadSize (unless (not (list_any (is_boot_with a) w.used)) NotBoot (part_answer (block_with w.blocks a) (a + size)))) ok in
    let v = unless_open (is_uneven size) BadSize (unless (not (list_any (is_boot_with a) w.used)) NotBoot (part_answer (block_with w.blocks a) (a + size))) u.2 in
    let t = unless_open (not (list_any (is_boot_with a) w.used)) NotBoot (part_answer (block_with w.blocks a) (a + size)) v.2 in
    let k = part_open (block_with w.blocks a) (a + size) t.2 in
    subst (λ (o : Option Block). PlacedIn room (world_without_part w a size o)) (sym k.1)
    (part_placed room w a size k.0 (not-false (list_any (is_boot_with a) w.used) t.0) k.1 k.2 (memory_word words a (not-false (in_memory words a) u.0)) (even_size size v.0) p)

act_placed : (words room : ℕ) → words ≤ room → (past : Past) (listed : List ℕ) (act : Act) (v : ℕ) (s : Answer) → s ≡ answer words past act v → is_refused s ≡ false → PlacedIn room (world past)
    → PlacedIn room (world_after_act (world past) listed act s)
unfolding answer world_after_act
act_placed words room le past listed (Section name n) v s e ok p = section_act words room le (world past) name n (subst (λ (t : Answer). is_refused t ≡ false) e ok) p
act_placed words room le past listed (TaskStart name) v s e ok p = start_act words room le (world past) name (subst (λ (t : Answer). is_refused t ≡ false) e ok) p
act_placed words room le past listed (TaskExit name) v s e ok p = exit_placed room (world past) name (task_named (world past).tasks name) refl p
act_placed words room le past listed (SetReg task reg value) v s e ok p = set_placed room (world past) task reg value p
act_placed words room le past listed (Load task reg _) v s e ok p = set_placed room (world past) task reg (value_of s) p
act_placed words room le past listed (Kmalloc size) v s e ok p = kmalloc_act words room le (world past) size s e ok p
act_placed words room le past listed (Kfree a) v s e ok p = free_act room (world past) a (subst (λ (t : Answer). is_refused t ≡ false) e ok) p
act_placed words room le past listed (Pages n) v s e ok p = pages_act words room le (world past) n s e ok p
act_placed words room le past listed (FreePages a) v s e ok p = free_pages_act room (world past) a (subst (λ (t : Answer). is_refused t ≡ false) e ok) p
act_placed words room le past listed (VmTake size) v s e ok p = vmalloc_act words room le (world past) size s e ok p
act_placed words room le past listed (VmGive a) v s e ok p = vfree_placed room (world past) a (slot_of_area (world past).used a) refl p
act_placed words room le past listed (BootMem size) v s e ok p = boot_act words room le (world past) size s e ok p
act_placed words room le past listed (FreePart a size) v s e ok p = part_act words room (world past) a size (subst (λ (t : Answer). is_refused t ≡ false) e ok) p
act_placed words room le past listed (NotLeak a) v s e ok p = where_placed room (world past) _ painted_grey (λ b. (refl, refl)) p
act_placed words room le past listed (Ignore a) v s e ok p = where_placed room (world past) _ painted_black (λ b. (refl, refl)) p
act_placed words room le past listed (NoScan a) v s e ok p = where_placed room (world past) _ unscanned (λ b. (refl, refl)) p
act_placed words room le past listed (ScanArea a size) v s e ok p = where_placed room (world past) (contains a) _ (λ b. (refl, refl)) p
act_placed words room le past listed (File word) v s e ok p = written_placed room (world past) listed word p
act_placed words room le past listed _ v s e ok p = p

event_placed : (words room : ℕ) → words ≤ room → (past : Past) (listed : List ℕ) (act : Act) (v : ℕ) (s : Answer) → s ≡ answer words past act v → PlacedIn room (world past)
    → PlacedIn room (world_after_event (world past) listed act s)
event_placed words room le past listed act v s e p =
    elim (is_refused s) as (λ q. is_refused s ≡ q → PlacedIn room (if q then world past else world_after_act (world past) listed act s)) [
      | true ↦ λ r. p
      | false ↦ λ r. act_placed words room le past listed act v s e r p
    ] refl

opening_placed : (words : ℕ) → 512 ≤ words → PlacedIn words opening
opening_placed words le =
    let table : Allocation = record { «use» = SlotTable; start = base; size = 4096 } in
    record {
      sound = ((omega arith, (omega arith, omega (arith, le)), (λ e. absurd cc), ((0, refl), (511, refl))), tt);
      pages = (tt, tt);
      blocks_in = ((table, inl refl, refl, omega arith, omega arith, inl refl, ((0, refl), (511, refl))), tt);
      blocks_apart = (tt, tt);
      stacks_in = tt;
      stacks_apart = tt;
    }

-- at each moment of a history whose events have their answers, what stands is placed, in any memory with room for its first page
pub answered_placed : (words room : ℕ) → words ≤ room → 512 ≤ room → (h : History) → IsAnswered words h → PlacedIn room (world (past_of h))
answered_placed words room le most [] f = opening_placed room most
answered_placed words room le most (e ∷ h) f =
    event_placed words room le (past_of h) (listing_ids (past_of h)) e.act f.0.0 e.answer f.0.1 (answered_placed words room le most h f.1)

-- and so of a history that follows
pub history_placed : (words : ℕ) (h : History) → 512 ≤ words → Follows words h → PlacedIn words (world (past_of h))
history_placed words h le f = answered_placed words words (omega arith) le h (follows_answered words h f)
