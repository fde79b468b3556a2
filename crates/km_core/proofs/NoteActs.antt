-- Acts that change what is kept of a block, and parts of blocks.
use Rattle.std.proofs.Common.{◌≡◌, ℕ, ◌+◌, ◌-◌, ◌*◌, ◌<◌, ◌≤◌, ◌&&◌, nat_lt, Bool, true, false, not, is_some, length, List, [], ◌∷◌, ◌++◌, map, find, cond, Option, Some, None, Result, Ok, Err, IfOk, OnErr, option_map, if◌then◌else◌, refl, sym, ap, ◌∙◌, subst, arith, inl, inr}
use Rattle.std.proofs.lemmas.Bool.{lt-ltb}
use Rattle.std.proofs.lemmas.List.{length-map}
use Rattle.std.specs.List.{list_any}
use Rattle.km_base.specs.declared.acts.Act.{Act}
use Rattle.km_base.specs.declared.acts.Act.TheVariants as acts
use Rattle.km_base.specs.declared.acts.Answer.{Answer}
use Rattle.km_base.specs.declared.acts.Answer.TheVariants.{Done, Refused}
use Rattle.km_base.specs.declared.acts.Refusal.{Refusal}
use Rattle.km_base.specs.declared.acts.Refusal.TheVariants.{BadAddress, BadSize, Disabled, NoObject, NotBoot, NotInside}
use Rattle.km_model.specs.History.{ticks_of}
use Rattle.km_model.specs.Answers.{annotation_answer, is_boot_with, is_uneven, part_answer, unless}
use Rattle.km_model.specs.Blocks.{Block, block_at, block_with, contains}
use Rattle.km_model.specs.Memory.{in_memory}
use Rattle.km_model.proofs.Lists.{Each, In, each_in, find_in, map_in}
use Rattle.km_laws.specs.Left.{total}
use Rattle.km_laws.specs.Placed.{BlockPlaced, InMemory, WholeWords}
use Rattle.km_laws.proofs.Accepted.{memory_word, even_size}
use Rattle.km_model.specs.Placement.{Allocation}
use Rattle.km_record.specs.declared.kinds.Note.{Note}
use Rattle.km_record.specs.declared.kinds.Note.TheVariants.{NotLeak, Ignore, NoScan, TransientLeak}
use Rattle.km_record.specs.declared.kinds.RecId.{RecId}
use Rattle.km_state.specs.State.{State, Tracked, blocks_in, fresh, world_of}
use Rattle.km_state.specs.StateAnswers.{state_answer}
use Rattle.km_state.specs.StateAfter.{state_after, part_freed, painted, rest_registered, unregistered}
use Rattle.km_reach.specs.Reached.{IsReached}
use Rattle.km_record.specs.Records.{with_area}
use Rattle.km_tasks.specs.Roll.{Roll}
use Rattle.km_track.specs.Tracker.{Live, id_of, live_where, tracked_in}
use Rattle.km_words.specs.Told.{Told}
use Rattle.km_objects.specs.Objects.{Agree, AreOf, Objects, annotated, area_answered, done, places}
use Rattle.km_core.specs.Parts.{Answers, HostsStand, IsReady, IsWhole, Parts, StandsAs, Touches}
use Rattle.km_core.specs.Kernels.{act_of, done_if}
use Rattle.km_core.proofs.Marks.{counted, answer_note, answer_part, after_part, answer_area, after_area}
use Rattle.km_core.proofs.Places.{bytes_most}
use Rattle.km_core.proofs.Standing.{counted_stands, does_objects, enabled_is, refused}

-- notes
pub note_still : (note : Note) (a : ℕ) → ticks_of (act_of note a) ≡ 0
note_still NotLeak a = refl
note_still Ignore a = refl
note_still NoScan a = refl
note_still TransientLeak a = refl

note_is : (s : State) (a : ℕ) → s.enabled ≡ true → annotation_answer (world_of s) a ≡ done_if (is_some (block_at (blocks_in s.tracked) a))
note_is s a on =
    ap (λ q. unless (not q) Disabled (elim (block_at (blocks_in s.tracked) a) as (λ _. Answer) [ None ↦ Refused NoObject | Some _ ↦ Done ])) on
    ∙ elim (block_at (blocks_in s.tracked) a) as (λ o. (elim o as (λ _. Answer) [ None ↦ Refused NoObject | Some _ ↦ Done ]) ≡ done_if (is_some o)) [ None ↦ refl | Some b ↦ refl ]

pub disabled_note : (p : Parts) (n : Note) (a : ℕ) (s : State) → StandsAs p s → p.settings.enabled ≡ false → Refused Disabled ≡ state_answer s (act_of n a) 0
disabled_note p n a s stands off =
    sym (answer_note n s a 0 ∙ ap (λ q. unless (not q) Disabled (elim (block_at (blocks_in s.tracked) a) as (λ _. Answer) [ None ↦ Refused NoObject | Some _ ↦ Done ])) (enabled_is p s stands.hosts ∙ off))

pub noted : (p : Parts) (o : Objects) (n : Note) (a : ℕ) (there : Bool) (next : State → State) → IsWhole p → p.settings.enabled ≡ true
    → ((s : State) → AreOf p.objects s → there ≡ is_some (block_at (blocks_in s.tracked) a))
    → ((s : State) → AreOf p.objects s → AreOf o (next s))
    → ((roll : Roll) → Agree p.objects roll → Agree o roll) → places o ≡ places p.objects
    → (there ≡ false → o ≡ p.objects)
    → ((s : State) → state_after s (act_of n a) Done ≡ next (counted s))
    → ((s : State) → HostsStand p s → HostsStand p (next s))
    → Answers p (record p { objects = o }) (act_of n a) (done_if there)
noted p o n a true next w on found objects agree room none after hosts =
    does_objects p o (act_of n a) Done next w (agree p.hosts.roll w.agree) room (note_still n a)
    (λ s stands reached. ap done_if (found s stands.objects) ∙ sym (note_is s a (enabled_is p s stands.hosts ∙ on)) ∙ sym (answer_note n s a 0))
    (λ s stands reached. after s) hosts (λ s stands reached. objects (counted s) (counted_stands p s stands).objects) refl refl
noted p o n a false next w on found objects agree room none after hosts =
    refused p (record p { objects = o }) (act_of n a) NoObject w (ap (λ (x : Objects). record p { objects = x }) (none refl)) (note_still n a)
    (λ s stands reached. ap done_if (found s stands.objects) ∙ sym (note_is s a (enabled_is p s stands.hosts ∙ on)) ∙ sym (answer_note n s a 0))

pub quietly_if : (act : Act) (there : Bool) → ((t : Told) → Touches act Done t t) → ((r : Refusal) (t : Told) → Touches act (Refused r) t t) → (t : Told) → Touches act (done_if there) t t
quietly_if act true d r t = d t
quietly_if act false d r t = r NoObject t

-- a note touches no word
pub note_done : (note : Note) (a : ℕ) (t : Told) → Touches (act_of note a) Done t t
note_done NotLeak a t = refl
note_done Ignore a t = refl
note_done NoScan a t = refl
note_done TransientLeak a t = refl

pub note_refused : (note : Note) (a : ℕ) (r : Refusal) (t : Told) → Touches (act_of note a) (Refused r) t t
note_refused NotLeak a r t = refl
note_refused Ignore a r t = refl
note_refused NoScan a r t = refl
note_refused TransientLeak a r t = refl

pub noted_hosts : (p : Parts) (s : State) (note : Note) (a : ℕ) → HostsStand p s → HostsStand p (annotated note a s)
noted_hosts p s note a r = record { memory = r.memory; held = r.held; started = r.started; tasks = r.tasks; settings = r.settings }

-- an area
pub area_disabled : (p : Parts) (a size : ℕ) (s : State) → StandsAs p s → p.settings.enabled ≡ false → Refused Disabled ≡ state_answer s (acts.ScanArea a size) 0
area_disabled p a size s stands off =
    sym (answer_area s a size 0 ∙ ap (λ q. unless (not q) Disabled (unless (not (in_memory s.words a)) BadAddress (unless (is_uneven size) BadSize (area_answered (block_with (blocks_in s.tracked) a) a size)))) (enabled_is p s stands.hosts ∙ off))

area_on : (p : Parts) (a size : ℕ) (s : State) → StandsAs p s → p.settings.enabled ≡ true → state_answer s (acts.ScanArea a size) 0 ≡ unless (not (in_memory p.words a)) BadAddress (unless (is_uneven size) BadSize (area_answered (block_with (blocks_in s.tracked) a) a size))
area_on p a size s stands on =
    answer_area s a size 0 ∙ ap (λ q. unless (not q) Disabled (unless (not (in_memory s.words a)) BadAddress (unless (is_uneven size) BadSize (area_answered (block_with (blocks_in s.tracked) a) a size)))) (enabled_is p s stands.hosts ∙ on)
    ∙ ap (λ n. unless (not (in_memory n a)) BadAddress (unless (is_uneven size) BadSize (area_answered (block_with (blocks_in s.tracked) a) a size))) stands.hosts.memory

pub area_outside : (p : Parts) (a size : ℕ) (s : State) → StandsAs p s → p.settings.enabled ≡ true → in_memory p.words a ≡ false → Refused BadAddress ≡ state_answer s (acts.ScanArea a size) 0
area_outside p a size s stands on out = sym (area_on p a size s stands on ∙ ap (λ q. unless (not q) BadAddress (unless (is_uneven size) BadSize (area_answered (block_with (blocks_in s.tracked) a) a size))) out)

area_inside : (p : Parts) (a size : ℕ) (s : State) → StandsAs p s → p.settings.enabled ≡ true → in_memory p.words a ≡ true → state_answer s (acts.ScanArea a size) 0 ≡ unless (is_uneven size) BadSize (area_answered (block_with (blocks_in s.tracked) a) a size)
area_inside p a size s stands on inside = area_on p a size s stands on ∙ ap (λ q. unless (not q) BadAddress (unless (is_uneven size) BadSize (area_answered (block_with (blocks_in s.tracked) a) a size))) inside

pub area_uneven : (p : Parts) (a size : ℕ) (s : State) → StandsAs p s → p.settings.enabled ≡ true → in_memory p.words a ≡ true → is_uneven size ≡ true → Refused BadSize ≡ state_answer s (acts.ScanArea a size) 0
area_uneven p a size s stands on inside uneven = sym (area_inside p a size s stands on inside ∙ ap (λ q. unless q BadSize (area_answered (block_with (blocks_in s.tracked) a) a size)) uneven)

pub painted_hosts : (p : Parts) (s : State) (test : Tracked → Bool) (change : Block → Block) → HostsStand p s → HostsStand p (painted test change s)
painted_hosts p s test change r = record { memory = r.memory; held = r.held; started = r.started; tasks = r.tasks; settings = r.settings }

pub area_answers : (p : Parts) (o : Objects) (a size : ℕ) (given : Result (Unit {0}) Refusal) → IsWhole p → p.settings.enabled ≡ true → in_memory p.words a ≡ true → is_uneven size ≡ false
    → ((s : State) → AreOf p.objects s → done given ≡ area_answered (block_with (blocks_in s.tracked) a) a size)
    → IfOk given (λ _. (s : State) → AreOf p.objects s → AreOf o (painted (λ (t : Tracked). contains a t.block) (with_area a size) s))
    → OnErr given (o ≡ p.objects) → ((roll : Roll) → Agree p.objects roll → Agree o roll) → places o ≡ places p.objects
    → Answers p (record p { objects = o }) (acts.ScanArea a size) (done given)
area_answers p o a size (Err r) w on inside even answer state same agree room =
    refused p (record p { objects = o }) (acts.ScanArea a size) r w (ap (λ (x : Objects). record p { objects = x }) same) refl
    (λ s stands reached. answer s stands.objects ∙ sym (area_inside p a size s stands on inside ∙ ap (λ q. unless q BadSize (area_answered (block_with (blocks_in s.tracked) a) a size)) even))
area_answers p o a size (Ok _) w on inside even answer state same agree room =
    does_objects p o (acts.ScanArea a size) Done (λ x. painted (λ (t : Tracked). contains a t.block) (with_area a size) x) w (agree p.hosts.roll w.agree) room refl
    (λ s stands reached. answer s stands.objects ∙ sym (area_inside p a size s stands on inside ∙ ap (λ q. unless q BadSize (area_answered (block_with (blocks_in s.tracked) a) a size)) even))
    (λ s stands reached. after_area s a size)
    (λ s r. painted_hosts p s (λ (t : Tracked). contains a t.block) (with_area a size) r)
    (λ s stands reached. state (counted s) (counted_stands p s stands).objects) refl refl

-- a part of boot memory
abbrev part_last : State → ℕ → ℕ → Answer
part_last s a size = part_answer (block_with (blocks_in s.tracked) a) (a + size)

pub part_outside : (p : Parts) (a size : ℕ) (s : State) → StandsAs p s → in_memory p.words a ≡ false → Refused BadAddress ≡ state_answer s (acts.FreePart a size) 0
part_outside p a size s stands out =
    sym (answer_part s a size 0 ∙ ap (λ q. unless (not q) BadAddress (unless (is_uneven size) BadSize (unless (not (list_any (is_boot_with a) s.used)) NotBoot (part_last s a size)))) (ap (λ n. in_memory n a) stands.hosts.memory ∙ out))

part_inside : (p : Parts) (a size : ℕ) (s : State) → StandsAs p s → in_memory p.words a ≡ true → state_answer s (acts.FreePart a size) 0 ≡ unless (is_uneven size) BadSize (unless (not (list_any (is_boot_with a) s.used)) NotBoot (part_last s a size))
part_inside p a size s stands inside =
    answer_part s a size 0 ∙ ap (λ q. unless (not q) BadAddress (unless (is_uneven size) BadSize (unless (not (list_any (is_boot_with a) s.used)) NotBoot (part_last s a size)))) (ap (λ n. in_memory n a) stands.hosts.memory ∙ inside)

pub part_uneven : (p : Parts) (a size : ℕ) (s : State) → StandsAs p s → in_memory p.words a ≡ true → is_uneven size ≡ true → Refused BadSize ≡ state_answer s (acts.FreePart a size) 0
part_uneven p a size s stands inside uneven = sym (part_inside p a size s stands inside ∙ ap (λ q. unless q BadSize (unless (not (list_any (is_boot_with a) s.used)) NotBoot (part_last s a size))) uneven)

part_even : (p : Parts) (a size : ℕ) (s : State) → StandsAs p s → in_memory p.words a ≡ true → is_uneven size ≡ false → state_answer s (acts.FreePart a size) 0 ≡ unless (not (list_any (is_boot_with a) s.used)) NotBoot (part_last s a size)
part_even p a size s stands inside even = part_inside p a size s stands inside ∙ ap (λ q. unless q BadSize (unless (not (list_any (is_boot_with a) s.used)) NotBoot (part_last s a size))) even

pub part_elsewhere : (p : Parts) (a size : ℕ) (s : State) → StandsAs p s → in_memory p.words a ≡ true → is_uneven size ≡ false → list_any (is_boot_with a) s.used ≡ false → Refused NotBoot ≡ state_answer s (acts.FreePart a size) 0
part_elsewhere p a size s stands inside even out = sym (part_even p a size s stands inside even ∙ ap (λ q. unless (not q) NotBoot (part_last s a size)) out)

pub part_there : (p : Parts) (a size : ℕ) (s : State) → StandsAs p s → in_memory p.words a ≡ true → is_uneven size ≡ false → list_any (is_boot_with a) s.used ≡ true → state_answer s (acts.FreePart a size) 0 ≡ part_last s a size
part_there p a size s stands inside even boot = part_even p a size s stands inside even ∙ ap (λ q. unless (not q) NotBoot (part_last s a size)) boot

rest_hosts : (p : Parts) (s : State) (b : Block) (start size : ℕ) → HostsStand p s → HostsStand p (rest_registered s b start size)
rest_hosts p s b start size r =
    elim (s.enabled && nat_lt 0 size) as (λ q. HostsStand p (if q then record s { registered = s.registered + 1; tracked = s.tracked ++ fresh (record b { id = s.registered; start = start; size = size; areas = []; excess = None }) ∷ [] } else s)) [
      | true ↦ record { memory = r.memory; held = r.held; started = r.started; tasks = r.tasks; settings = r.settings }
      | false ↦ r
    ]

parted_hosts : (p : Parts) (s : State) (a size : ℕ) (o : Option Block) → HostsStand p s → HostsStand p (part_freed s a size o)
parted_hosts p s a size None r = r
parted_hosts p s a size (Some b) r =
    let gone : HostsStand p (unregistered s b.start) = record { memory = r.memory; held = r.held; started = r.started; tasks = r.tasks; settings = r.settings } in
    rest_hosts p (rest_registered (unregistered s b.start) b b.start (a - b.start)) b (a + size) (b.start + b.size - (a + size)) (rest_hosts p (unregistered s b.start) b b.start (a - b.start) gone)

pub part_answers : (p : Parts) (o : Objects) (a size : ℕ) (given : Result (Unit {0}) Refusal) → IsWhole p → in_memory p.words a ≡ true → is_uneven size ≡ false
    → ((s : State) → StandsAs p s → list_any (is_boot_with a) s.used ≡ true)
    → ((s : State) → AreOf p.objects s → done given ≡ part_answer (block_with (blocks_in s.tracked) a) (a + size))
    → IfOk given (λ _. (s : State) → s.enabled ≡ p.settings.enabled → AreOf p.objects s → AreOf o (part_freed s a size (block_with (blocks_in s.tracked) a)))
    → OnErr given (o ≡ p.objects) → ((roll : Roll) → Agree p.objects roll → Agree o roll) → places o ≡ places p.objects
    → Answers p (record p { objects = o }) (acts.FreePart a size) (done given)
part_answers p o a size (Err r) w inside even boot answer state same agree room =
    refused p (record p { objects = o }) (acts.FreePart a size) r w (ap (λ (x : Objects). record p { objects = x }) same) refl
    (λ s stands reached. answer s stands.objects ∙ sym (part_there p a size s stands inside even (boot s stands)))
part_answers p o a size (Ok _) w inside even boot answer state same agree room =
    does_objects p o (acts.FreePart a size) Done (λ x. part_freed x a size (block_with (blocks_in x.tracked) a)) w (agree p.hosts.roll w.agree) room refl
    (λ s stands reached. answer s stands.objects ∙ sym (part_there p a size s stands inside even (boot s stands)))
    (λ s stands reached. after_part s a size)
    (λ s r. parted_hosts p s a size (block_with (blocks_in s.tracked) a) r)
    (λ s stands reached. state (counted s) (enabled_is p s stands.hosts) (counted_stands p s stands).objects) refl refl

-- where a block has more than two words, there are more places than blocks
longer : (used : List Allocation) (bs : List Block) (b : Block) → Each (BlockPlaced used) bs → In b bs → 16 < b.size → 8 * length bs + 9 ≤ total (λ (b : Block). b.size) bs
longer used [] b e here long = absurd here
longer used (x ∷ bs) b e (inl same) long =
    let rest = bytes_most used bs e.1 in
    let size = ap (λ (y : Block). y.size) same in omega (arith, rest, size, long)
longer used (x ∷ bs) b e (inr later) long =
    let rest = longer used bs b e.1 later long in
    let n = (each_in (BlockPlaced used) (x ∷ bs) x e (inl refl)).6.1 in
    let size = n.1 in omega (arith, rest, size)

pub part_room : (p : Parts) (a size : ℕ) (l : Live) → (r : IsReady p) → in_memory p.words a ≡ true → is_uneven size ≡ false → live_where (contains a) p.objects.tracker ≡ Some l
    → 0 < a - l.tracked.block.start → 0 < l.tracked.block.start + l.tracked.block.size - (a + size) → 0 < p.objects.tracker.spare
part_room p a size l r inside even found front rear =
    let s = r.state in
    let bs = blocks_in (tracked_in p.objects.tracker) in
    let same = ap blocks_in r.stands.objects.tracked in
    let b = l.tracked.block in
    let here : In b bs = map_in (λ (t : Tracked). t.block) (tracked_in p.objects.tracker) l.tracked (map_in (λ (x : Live). x.tracked) p.objects.tracker.live l (find_in (λ (x : Live). contains a x.tracked.block) p.objects.tracker.live l found).1) in
    let each = subst (λ cs. Each (BlockPlaced s.used) cs) same r.reached.placed.blocks in
    let bytes = subst (λ cs. total (λ (c : Block). c.size) cs ≤ 8 * s.words) same r.reached.placed.room in
    let word = (each_in (BlockPlaced s.used) bs b each here).6.0.1 in
    let address = memory_word p.words a inside in
    let at_word = address.1 in
    let whole = even_size size even in
    let count = whole.1 in
    let most = longer s.used bs b each here (omega (arith, front, rear, word, at_word, count)) in
    let len : length bs ≡ length p.objects.tracker.live = length-map (tracked_in p.objects.tracker) (λ (t : Tracked). t.block) ∙ length-map p.objects.tracker.live (λ (x : Live). x.tracked) in
    let room = r.whole.places in let memory = r.stands.hosts.memory in
    omega (arith, most, len, bytes, room, memory)

-- why a part that goes past the memory is refused
pub behind_inside : (p : Parts) (a size : ℕ) (r : IsReady p) (s : State) → StandsAs p s → IsReached s → 33554432 < size → in_memory p.words a ≡ true → (b : Block) → block_with (blocks_in s.tracked) a ≡ Some b → b.start + b.size < a + size
behind_inside p a size r s stands reached big inside b is =
    let placed = each_in (BlockPlaced s.used) (blocks_in s.tracked) b reached.placed.blocks (find_in (contains a) (blocks_in s.tracked) b is).1 in
    let x = placed.0 in
    let memory = (each_in (λ (x : Allocation). (0 < x.size) × InMemory s.words x.start x.size × WholeWords x.start x.size) s.used x reached.placed.allocations placed.1).1 in
    let high = memory.1 in let rear = placed.4 in
    let at_word = (memory_word p.words a inside).1 in let small = reached.memory.1 in
    omega (arith, high, rear, at_word, small, big)

pub look_none : (o : Objects) (s : State) (a : ℕ) (end : ℕ) (found : Option RecId) → AreOf o s → found ≡ option_map id_of (live_where (contains a) o.tracker)
    → ((b : Block) → block_with (blocks_in s.tracked) a ≡ Some b → b.start + b.size < end)
    → Refused (elim found as (λ _. Refusal) [ None ↦ NoObject | Some _ ↦ NotInside ]) ≡ part_answer (block_with (blocks_in s.tracked) a) end
look_none o s a end found r is behind =
    let same : block_with (blocks_in s.tracked) a ≡ option_map (λ (l : Live). l.tracked.block) (live_where (contains a) o.tracker) = ap (λ ts. block_with (blocks_in ts) a) r.tracked ∙ found_block (contains a) o.tracker.live in
    go (live_where (contains a) o.tracker) found (block_with (blocks_in s.tracked) a) is same behind where
      found_block : (test : Block → Bool) (ls : List Live) → find test (blocks_in (map (λ (l : Live). l.tracked) ls)) ≡ option_map (λ (l : Live). l.tracked.block) (find (λ (l : Live). test l.tracked.block) ls)
      found_block test [] = refl
      found_block test (l ∷ ls) = elim (test l.tracked.block) as (λ q. cond q (Some l.tracked.block) (find test (blocks_in (map (λ (l : Live). l.tracked) ls))) ≡ option_map (λ (l : Live). l.tracked.block) (cond q (Some l) (find (λ (l : Live). test l.tracked.block) ls))) [
        | true ↦ refl
        | false ↦ found_block test ls
      ]

      go : (l : Option Live) (f : Option RecId) (q : Option Block) → f ≡ option_map id_of l → q ≡ option_map (λ (l : Live). l.tracked.block) l → ((b : Block) → q ≡ Some b → b.start + b.size < end)
          → Refused (elim f as (λ _. Refusal) [ None ↦ NoObject | Some _ ↦ NotInside ]) ≡ part_answer q end
      go None None None a b c = refl
      go None None (Some q) a b c = absurd (let z : ⊥ = cc in z)
      go None (Some f) q a b c = absurd (let z : ⊥ = cc in z)
      go (Some l) None q a b c = absurd (let z : ⊥ = cc in z)
      go (Some l) (Some f) None a b c = absurd (let z : ⊥ = cc in z)
      go (Some l) (Some f) (Some q) a b c = ap (λ t. unless t NotInside Done) (sym (lt-ltb (q.start + q.size) end (c q refl)))
