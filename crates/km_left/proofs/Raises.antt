-- No event but a load, the begin of a scan, registering a block and starting a task raises what is left.
use Rattle.std.proofs.Common.{◌≡◌, ℕ, ◌+◌, ◌-◌, ◌*◌, ◌/◌, ◌≤◌, Bool, true, false, ◌&&◌, ◌||◌, not, nat_lt, ◌==◌, List, [], ◌∷◌, ◌++◌, map, filter, bytes_eq, slice_set, Option, Some, None, if◌then◌else◌, is_some, refl, sym, subst, arith, inl, inr, ltb-true}
use Rattle.std.proofs.lemmas.Bool.{or_cases, or_right}
use Rattle.km_base.specs.declared.acts.Act.{Act}
use Rattle.km_base.specs.declared.acts.Act.TheVariants.{Section, TaskStart, TaskExit, SetReg, Load, Kmalloc, Kfree, VmTake, VmGive, BootMem, FreePart, NotLeak, Ignore, NoScan, ScanArea, TransientLeak, File}
use Rattle.km_base.specs.declared.acts.FileCmd.{FileCmd}
use Rattle.km_base.specs.declared.acts.FileCmd.TheVariants.{ScanOn, ScanEvery, Clear}
use Rattle.km_base.specs.declared.acts.Reg.{Reg}
use Rattle.km_base.specs.declared.acts.Answer.{Answer}
use Rattle.km_base.specs.declared.acts.Answer.TheVariants.{Ended}
use Rattle.km_model.specs.History.{value_of}
use Rattle.km_model.specs.Blocks.{Block, Minimum, Black, AtLeast, Area, is_among, contains, block_with, painted_grey}
use Rattle.km_model.specs.Placement.{page_start, pages_for, lowest_run, lowest_slab, lowest_slot, kmalloc_span, kmalloc_use, slot_of_area, head_with, HeadBlock, AreaRun, BootRun, SectionRun}
use Rattle.km_model.specs.Tasks.{Task, place_of, task_named, with_register, without_task}
use Rattle.km_model.specs.World.{next_block}
use Rattle.km_model.specs.Past.{is_refused, is_done, begins, completes, ends}
use Rattle.km_model.specs.Changes.{start_of}
use Rattle.km_model.proofs.Cases.{elim_false}
use Rattle.km_state.specs.State.{State, Tracked, Cursor, Start, Last, Behind, Scanning, blocks_in, fresh, world_of, is_white_now, is_listed_now}
use Rattle.km_state.specs.StateNext.{is_at, load_in}
use Rattle.km_state.specs.StateAfter.{state_after, changed, marked, tracked_marked, forgotten, forgotten_at, scan_after_load, begun_scan, allocated, registered_at, rest_registered, unregistered, given_back, moved, scan_without, begins_at, painted, task_started, task_exited, vmalloc_taken, vmalloc_given, part_freed, word_written}
use Rattle.km_laws.proofs.Lists.{filter_in, total_filter, total_map_le}
use Rattle.km_left.specs.LeftIn.{stack_left, sum_left, grey_left, scan_left, left_in}
use Rattle.km_left.specs.Laws.{NothingRaisesIn}
use Rattle.km_left.proofs.Loads.{WhiteBy}
use Rattle.km_left.proofs.Moves.{Passes, stays, run_fewer, left_fewer}

-- a state that another leads to: nothing is taken back, and where no block is registered and no task starts, no more is left
abbrev Leads : State → State → Type 0
Leads s t = (s.registered ≤ t.registered) × (s.started ≤ t.started) × (t.registered ≡ s.registered → t.started ≡ s.started → left_in t ≤ left_in s)

next : (s t u : State) → Leads s t → Leads t u → Leads s u
next s t u a b =
    let r = a.0 in let r' = b.0 in let n = a.1 in let n' = b.1 in (
      omega (arith, r, r'),
      omega (arith, n, n'),
      (λ e f. let k = a.2 (omega (arith, r, r', e)) (omega (arith, n, n', f)) in let k' = b.2 (omega (arith, r, r', e)) (omega (arith, n, n', f)) in omega (arith, k, k')),
    )

-- nothing is registered or started
quiet : (s t : State) → t.registered ≡ s.registered → t.started ≡ s.started → left_in t ≤ left_in s → Leads s t
quiet s t e f le = (omega (arith, e), omega (arith, f), (λ _ _. le))

stands : (s : State) → Leads s s
stands s = quiet s s refl refl (omega arith)

either : (s : State) (q : Bool) (x y : State) → Leads s x → Leads s y → Leads s (if q then x else y)
either s true x y a b = a
either s false x y a b = b

-- one more block
more_blocks : (s : State) (ts : List Tracked) → Leads s (record s { registered = s.registered + 1; tracked = ts })
more_blocks s ts = (omega arith, omega arith, (λ e _. absurd (omega (arith, e))))

registers : (s : State) (start size references : ℕ) (excess : Option ℕ) → Leads s (registered_at s start size references excess)
registers s start size references excess =
    let ts = s.tracked ++ fresh (next_block (world_of s) start size references excess) ∷ [] in
    either s s.enabled (record s { registered = s.registered + 1; tracked = ts }) s (more_blocks s ts) (stands s)

rest_registers : (s : State) (b : Block) (start size : ℕ) → Leads s (rest_registered s b start size)
rest_registers s b start size =
    let ts = s.tracked ++ fresh (record b { id = s.registered; start = start; size = size; areas = []; excess = None }) ∷ [] in
    either s (s.enabled && nat_lt 0 size) (record s { registered = s.registered + 1; tracked = ts }) s (more_blocks s ts) (stands s)

-- what is left of a scan, if one runs
abbrev Left : Option Scanning → List Tracked → List Task → ℕ
Left scan ts tasks = elim scan [ None ↦ 0 | Some c ↦ scan_left c ts tasks ]

left_less : (scan : Option Scanning) (ts us : List Tracked) (tasks less : List Task) → ((c : Scanning) → scan_left c us less ≤ scan_left c ts tasks) → Left scan us less ≤ Left scan ts tasks
left_less None ts us tasks less f = omega arith
left_less (Some c) ts us tasks less f = f c

-- the scan goes on, with less to do for it
lessens : (s : State) (ts : List Tracked) (tasks : List Task) → ((c : Scanning) → scan_left c ts tasks ≤ scan_left c s.tracked s.tasks) → Leads s (record s { tracked = ts; tasks = tasks })
lessens s ts tasks f = quiet s (record s { tracked = ts; tasks = tasks }) refl refl (left_less s.scan s.tracked ts s.tasks tasks f)

-- blocks are changed where they are
mapped : (c : Scanning) (change : Tracked → Tracked) (ts : List Tracked) (tasks : List Task) → ((t : Tracked) → grey_left c (change t) ≤ grey_left c t) → ((t : Tracked) → sum_left c.cursor (change t) ≤ sum_left c.cursor t)
    → scan_left c (map change ts) tasks ≤ scan_left c ts tasks
mapped c change ts tasks f g =
    let grey = total_map_le (grey_left c) change f ts in
    let sums = total_map_le (sum_left c.cursor) change g ts in
    omega (arith, grey, sums)

-- the blocks that begin at an address are gone
pub moved_passes : (gone : ℕ → Bool) (c : Cursor) → Passes c (moved gone c)
moved_passes gone Start = stays Start
moved_passes gone (Behind phase id) = stays (Behind phase id)
moved_passes gone (Last place) =
    elim (nat_lt 1 place.phase && gone place.holder) as (λ q. Passes (Last place) (if q then Behind place.phase place.holder else Last place)) [
      | true ↦ record { phase = omega arith; ahead = λ q n h. h; held = λ q n h. absurd (elim_false h) }
      | false ↦ stays (Last place)
    ]

gone_left : (gone : ℕ → Bool) (test : Tracked → Bool) (ts : List Tracked) (tasks : List Task) (scan : Option Scanning) → Left (scan_without gone scan) (filter test ts) tasks ≤ Left scan ts tasks
gone_left gone test ts tasks None = omega arith
gone_left gone test ts tasks (Some c) =
    let d : Scanning = record c { queue = filter (λ n. not (gone n)) c.queue; cursor = moved gone c.cursor } in
    let fewer = left_fewer c d ts tasks (moved_passes gone c.cursor) (λ t i j. (filter_in (λ n. not (gone n)) c.queue t.block.id j).1) in
    let grey = total_filter (grey_left d) test ts in
    let sums = total_filter (sum_left d.cursor) test ts in
    omega (arith, fewer, grey, sums)

unregisters : (s : State) (a : ℕ) → Leads s (unregistered s a)
unregisters s a = quiet s (unregistered s a) refl refl (gone_left (begins_at s.tracked a) (λ (t : Tracked). not (t.block.start == a)) s.tracked s.tasks s.scan)

-- settings of blocks are changed, which makes none white
abbrev Milder : Minimum → Minimum → Type 0
Milder m n = (count : ℕ) → WhiteBy n count ≡ true → WhiteBy m count ≡ true

grey_milder : (c : Scanning) (t : Tracked) (minimum : Minimum) (no_scan : Bool) (areas : List Area) → Milder t.block.minimum minimum
    → grey_left c (record t { block = record t.block { minimum = minimum; no_scan = no_scan; areas = areas } }) ≤ grey_left c t
grey_milder c t minimum no_scan areas milder =
    run_fewer (is_white_now t || is_among t.block.id c.queue) (is_at 2 t.block.id c.cursor || is_at 4 t.block.id c.cursor)
    (WhiteBy minimum t.count || is_among t.block.id c.queue) (is_at 2 t.block.id c.cursor || is_at 4 t.block.id c.cursor) c.cursor c.cursor t.block.start (t.block.size / 8)
    (λ h. elim (or_cases (WhiteBy minimum t.count) (is_among t.block.id c.queue) h) [
      | inl w ↦ subst (λ q. (q || is_among t.block.id c.queue) ≡ true) (sym (milder t.count w)) refl
      | inr a ↦ or_right (is_white_now t) (is_among t.block.id c.queue) a
    ]) (λ h. (h, refl))

paints : (test : Tracked → Bool) (minimum : Block → Minimum) (no_scan : Block → Bool) (areas : Block → List Area) (s : State) → ((b : Block) → Milder b.minimum (minimum b))
    → Leads s (painted test (λ b. record b { minimum = minimum b; no_scan = no_scan b; areas = areas b }) s)
paints test minimum no_scan areas s milder =
    let change = λ (b : Block). let c : Block = record b { minimum = minimum b; no_scan = no_scan b; areas = areas b } in c in
    lessens s (map (λ (t : Tracked). if test t then record t { block = change t.block } else t) s.tracked) s.tasks (λ c. mapped c (λ (t : Tracked). if test t then record t { block = change t.block } else t) s.tracked s.tasks
    (λ t. elim (test t) as (λ q. grey_left c (if q then record t { block = change t.block } else t) ≤ grey_left c t) [
      | true ↦ grey_milder c t (minimum t.block) (no_scan t.block) (areas t.block) (milder t.block)
      | false ↦ omega arith
    ])
    (λ t. elim (test t) as (λ q. sum_left c.cursor (if q then record t { block = change t.block } else t) ≤ sum_left c.cursor t) [ true ↦ omega arith | false ↦ omega arith ]))

paints_grey : (s : State) (test : Tracked → Bool) → Leads s (painted test painted_grey s)
paints_grey s test = paints test (λ _. AtLeast 0) (λ b. b.no_scan) (λ b. b.areas) s (λ b count h. absurd (let lt = ltb-true count 0 h in omega (arith, lt)))

-- tasks
exits : (s : State) (o : Option Task) → Leads s (task_exited s o)
exits s None = stands s
exits s (Some t) =
    lessens s s.tracked (without_task s.tasks t.name) (λ c. let stacks = total_filter (stack_left c.cursor) (λ (u : Task). not (bytes_eq u.name t.name)) s.tasks in omega (arith, stacks))

sets : (s : State) (name : List ℕ) (r : Reg) (value : ℕ) → Leads s (record s { tasks = with_register s.tasks name r value })
sets s name r value =
    lessens s s.tracked (with_register s.tasks name r value) (λ c.
    let stacks = total_map_le (stack_left c.cursor) (λ (t : Task). if bytes_eq t.name name then record t { registers = slice_set t.registers (place_of r) value } else t) (λ t.
    elim (bytes_eq t.name name) as (λ q. stack_left c.cursor (if q then record t { registers = slice_set t.registers (place_of r) value } else t) ≤ stack_left c.cursor t) [ true ↦ omega arith | false ↦ omega arith ]) s.tasks in
    omega (arith, stacks))

starts : (s : State) (name : List ℕ) (stack : ℕ) → Leads s (task_started s name stack)
starts s name stack = (omega arith, omega arith, (λ _ f. absurd (omega (arith, f))))

-- kinds of memory
vmalloc_takes : (s : State) (size head area : ℕ) → Leads s (vmalloc_taken s size head area)
vmalloc_takes s size head area =
    let slot = lowest_slot s.used in
    let placed = allocated (allocated s (HeadBlock slot) head 64) (AreaRun slot) area (4096 * pages_for size) in
    next s (registered_at placed head 64 1 (Some area)) (vmalloc_taken s size head area)
    (registers placed head 64 1 (Some area)) (registers (registered_at placed head 64 1 (Some area)) area (4096 * pages_for size) 2 None)

head_gives : (s : State) (a : ℕ) (o : Option ℕ) → Leads s (elim o as (λ _. State) [ None ↦ s | Some head ↦ unregistered (given_back (unregistered (given_back s a) a) head) head ])
head_gives s a None = stands s
head_gives s a (Some head) =
    let t = unregistered (given_back s a) a in
    next s t (unregistered (given_back t head) head) (unregisters (given_back s a) a) (unregisters (given_back t head) head)

vmalloc_gives : (s : State) (a : ℕ) (o : Option ℕ) → Leads s (vmalloc_given s a o)
vmalloc_gives s a None = stands s
vmalloc_gives s a (Some slot) = head_gives s a (head_with s.used slot)

part_frees : (s : State) (a size : ℕ) (o : Option Block) → Leads s (part_freed s a size o)
part_frees s a size None = stands s
part_frees s a size (Some b) =
    let t = unregistered s b.start in
    let u = rest_registered t b b.start (a - b.start) in
    next s t (part_freed s a size (Some b)) (unregisters s b.start)
    (next t u (part_freed s a size (Some b)) (rest_registers t b b.start (a - b.start)) (rest_registers u b (a + size) (b.start + b.size - (a + size))))

-- written words
writes : (s : State) (word : FileCmd) → Leads s (word_written s word)
writes s ScanOn = either s (is_some s.due) s (record s { due = Some (s.now + s.period) }) (stands s) (stands s)
writes s (ScanEvery seconds) =
    either s (seconds == 0) (record s { due = None }) (record s { period = 1000 * seconds; due = Some (s.now + 1000 * seconds) }) (stands s) (stands s)
writes s Clear = either s s.enabled (painted is_listed_now painted_grey s) (record s { tracked = [] }) (paints_grey s is_listed_now) (lessens s [] s.tasks (λ c. omega arith))
writes s _ = stands s

changes : (s : State) (act : Act) (answer : Answer) → Leads s (changed s act answer)
unfolding changed
changes s (Section name words) answer =
    let start = page_start (lowest_run s.used (pages_for (8 * words))) in
    registers (allocated s (SectionRun name) start (4096 * pages_for (8 * words))) start (8 * words) 0 None
changes s (TaskStart name) answer = starts s name (page_start (lowest_run s.used 1))
changes s (TaskExit name) answer = exits s (task_named s.tasks name)
changes s (SetReg task reg value) answer = sets s task reg value
changes s (Load task reg _) answer = sets s task reg (value_of answer)
changes s (Kmalloc size) answer = registers (allocated s (kmalloc_use size) (start_of answer) (kmalloc_span size)) (start_of answer) (kmalloc_span size) 1 None
changes s (Kfree a) answer = unregisters (given_back s a) a
changes s (VmTake size) answer = vmalloc_takes s size (lowest_slab s.used 64) (start_of answer)
changes s (VmGive a) answer = vmalloc_gives s a (slot_of_area s.used a)
changes s (BootMem size) answer = registers (allocated s BootRun (start_of answer) (4096 * pages_for size)) (start_of answer) size 0 None
changes s (FreePart a size) answer = part_frees s a size (block_with (blocks_in s.tracked) a)
changes s (NotLeak a) answer = paints_grey s (λ (t : Tracked). t.block.start == a)
changes s (Ignore a) answer = paints (λ (t : Tracked). t.block.start == a) (λ _. Black) (λ _. true) (λ b. b.areas) s (λ b count h. absurd (elim_false h))
changes s (NoScan a) answer = paints (λ (t : Tracked). t.block.start == a) (λ b. b.minimum) (λ _. true) (λ b. b.areas) s (λ b count w. w)
changes s (ScanArea a size) answer =
    paints (λ (t : Tracked). contains a t.block) (λ b. b.minimum) (λ b. b.no_scan) (λ b. b.areas ++ record { start = a; size = size } ∷ []) s (λ b count w. w)
changes s (File word) answer = writes s word
changes s _ answer = stands s

-- what an event marks of a scan
forgets : (act : Act) (answer : Answer) (c : Scanning) (ts : List Tracked) (tasks : List Task) → scan_left c (forgotten act answer ts) tasks ≤ scan_left c ts tasks
forgets (TransientLeak a) answer c ts tasks =
    elim (is_done answer) as (λ q. scan_left c (if q then map (forgotten_at a) ts else ts) tasks ≤ scan_left c ts tasks) [
      | false ↦ omega arith
      | true ↦ mapped c (forgotten_at a) ts tasks
          (λ t. elim (t.block.start == a) as (λ q. grey_left c (if q then record t { kept = None } else t) ≤ grey_left c t) [ true ↦ omega arith | false ↦ omega arith ])
          (λ t. elim (t.block.start == a) as (λ q. sum_left c.cursor (if q then record t { kept = None } else t) ≤ sum_left c.cursor t) [ true ↦ omega arith | false ↦ omega arith ])
    ]
forgets act answer c ts tasks = omega arith

no_end : (given : Answer) → ends given ≡ false → completes given ≡ false
no_end (Ended _ _) e = e
no_end _ e = refl

marks : (s : State) (act : Act) (given : Answer) → begins act given ≡ false → load_in s act given ≡ None → Leads s (marked s act given)
marks s act given begun load = quiet s (marked s act given) refl refl (by_end (ends given) refl) where
  by_scan : (scan : Option Scanning) → Left (scan_after_load scan None) (forgotten act given s.tracked) s.tasks ≤ Left scan s.tracked s.tasks
  by_scan None = omega arith
  by_scan (Some c) = forgets act given c s.tracked s.tasks

  by_end : (q : Bool) → ends given ≡ q
      → Left (elim q as (λ _. Option Scanning) [ true ↦ None | false ↦ elim (begins act given) as (λ _. Option Scanning) [ true ↦ Some (begun_scan s.tracked) | false ↦ scan_after_load s.scan (load_in s act given) ] ]) (tracked_marked s act given) s.tasks
      ≤ left_in s
  by_end true e = omega arith
  by_end false e = rw (tracked_marked, no_end given e, begun, load) (by_scan s.scan)

after : (s : State) (act : Act) (given : Answer) → begins act given ≡ false → load_in s act given ≡ None → Leads s (state_after s act given)
after s act given begun load =
    either s (is_refused given) (record s { events = s.events + 1 }) (changed (marked s act given) act given) (stands s)
    (next s (marked s act given) (changed (marked s act given) act given) (marks s act given begun load) (changes (marked s act given) act given))

pub nothing_raises_in : NothingRaisesIn
nothing_raises_in s act given begun load registered started = (after s act given begun load).2 registered started
