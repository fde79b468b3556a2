-- A line keeps a run sound.
use Rattle.std.proofs.Common.{◌≡◌, ℕ, zero, suc, ◌+◌, ◌*◌, ◌/◌, ◌%◌, ◌<◌, ◌≤◌, ◌^◌, ◌==◌, Bool, true, false, List, [], ◌∷◌, ◌++◌, map, replicate, Option, Some, None, Result, Ok, Err, MatchBool, if◌then◌else◌, refl, sym, subst, arith, mod-lt, eqb-true}
use Rattle.std.proofs.lemmas.List.{length-replicate}
use Rattle.km_base.specs.declared.sizes.TheConstants.{PAGE, VMAP_SLOTS}
use Rattle.km_base.specs.declared.acts.Act.{Act}
use Rattle.km_base.specs.declared.acts.Act.TheVariants as act
use Rattle.km_base.specs.declared.acts.FileCmd.TheVariants as file
use Rattle.km_base.specs.declared.acts.Answer.{Answer}
use Rattle.km_base.specs.declared.acts.Answer.TheVariants.{At}
use Rattle.km_base.specs.declared.acts.Refusal.{Refusal}
use Rattle.km_base.specs.declared.acts.Refusal.TheVariants.{BadSize, NoSlot}
use Rattle.km_base.specs.declared.lines.Operand.{Operand}
use Rattle.km_base.specs.declared.lines.RegName.{RegName}
use Rattle.km_base.specs.declared.lines.Command.{Command}
use Rattle.km_base.specs.declared.lines.Command.TheVariants.{Section, Task, Exit, Set, Load, Store, Erase, Print, Kmalloc, Kzalloc, Kfree, Pages, FreePages, Vmalloc, Vfree, BootMem, FreePart, NotLeak, Ignore, NoScan, ScanArea, TransientLeak, Write, Read, Tick, Begin, Step, Finish}
use Rattle.km_model.specs.Members.{Each}
use Rattle.km_model.specs.Memory.{words_from}
use Rattle.km_model.specs.Placement.{Allocation, Use, AreaRun, HeadBlock, kmalloc_span, pages_for, slot_of_area, head_with, lowest_slot, area_place}
use Rattle.km_model.specs.World.{World}
use Rattle.km_model.specs.Past.{is_refused, world}
use Rattle.km_model.specs.Answers.{answer, at_place, is_bad_size, unless}
use Rattle.km_model.specs.Follows.{Run, happens, all_happen, past_of, told_answer}
use Rattle.km_model.specs.Operands.{then_do, base_value, operand_value, task_or_refusal}
use Rattle.km_model.specs.Expansion.{Acts, Finishes, ScansIfBegun, TicksOver, Makes, steps, newest_is_done, newest_is_loaded, newest_answer, run_at, world_after, first_acts, further_acts, on_operand, for_register, vfree_acts, set_register, slot_word, stores_from, head_stores, acts_behind, behind_acts}
use Rattle.km_model.specs.Tasks.{Task as Live}
use Rattle.km_model.proofs.Cases.{some_same}
use Rattle.km_model.proofs.FollowLaws.{makes_words}
use Rattle.km_model.proofs.Lists.{each_weaker}
use Rattle.km_laws.specs.Placed.{InMemory, WholeWords}
use Rattle.km_laws.proofs.Accepted.{unless_open, within_size}
use Rattle.km_laws.proofs.Laws.{all_is_placed}
use Rattle.km_schedules.specs.Schedules.{IsWord, IsSoundRun, FirstRunIsSound, LineKeeps}
use Rattle.km_schedules.proofs.Parts.{each_append}
use Rattle.km_schedules.proofs.Events.{ActStoresWord, all_happen_keep, happens_keeps}

-- scanner steps and automatic scans keep
steps_keep : (n : ℕ) (r : Run) → IsSoundRun r → IsSoundRun (steps n r)
steps_keep zero r s = s
steps_keep (suc n) r s =
    let stepped = happens r act.Step in
    elim (newest_is_loaded stepped.history) as (λ q. IsSoundRun (elim q as (λ _. Run) [ true ↦ steps n stepped | false ↦ stepped ])) [
      | true ↦ steps_keep n stepped (happens_keeps r act.Step tt s)
      | false ↦ happens_keeps r act.Step tt s
    ]

finishes_keeps : (r x : Run) → Finishes r x → IsSoundRun r → IsSoundRun x
finishes_keeps r x a s = subst (λ y. IsSoundRun y) a.1 (steps_keep (suc a.0) r s)

scans_keep : (r x : Run) → ScansIfBegun r x → IsSoundRun r → IsSoundRun x
scans_keep r x a s =
    elim (newest_is_done r.history) as (λ q. MatchBool q (Finishes r x) (r ≡ x) → IsSoundRun x) [
      | true ↦ λ c. finishes_keeps r x c s
      | false ↦ λ c. subst (λ y. IsSoundRun y) c s
    ] a

ticks_keep : (target n : ℕ) (r x : Run) → TicksOver target n r x → IsSoundRun r → IsSoundRun x
ticks_keep target zero r x a s = subst (λ y. IsSoundRun y) a.1 (happens_keeps r _ tt s)
ticks_keep target (suc n) r x a s =
    let moved = run_at r a.0 in
    ticks_keep target n a.2 x a.4 (scans_keep (happens moved act.AutoBegin) a.2 a.3 (happens_keeps moved act.AutoBegin tt (happens_keeps r _ tt s)))

-- what a line does first stores 64 bits
abbrev Stores : List Act → Type 0
Stores acts = Each ActStoresWord acts

abbrev AllStore : Acts → Type 0
AllStore (Err _) = Unit {0}
AllStore (Ok acts) = Stores acts

then_store : {A : Type 0} (found : Result A Refusal) (more : A → Acts) → ((a : A) → found ≡ Ok a → AllStore (more a)) → AllStore (then_do found more)
then_store (Err refusal) more f = tt
then_store (Ok a) more f = f a refl

value_is_word : (w : World) (o : Operand) (v : ℕ) → operand_value w o ≡ Ok v → IsWord v
value_is_word w o v e = go (base_value w o.base) e
  where
    go : (found : Result ℕ Refusal) → then_do found (λ n. Ok ((n + o.plus) % 2 ^ 64)) ≡ Ok v → IsWord v
    go (Err refusal) f = absurd (let z : ⊥ = cc in z)
    go (Ok n) f =
        let same : (n + o.plus) % 2 ^ 64 ≡ v = cc in
        subst IsWord same (mod-lt (n + o.plus) (omega arith))

register_stores : (w : World) (reg : Option RegName) (what : Act) → ActStoresWord what → AllStore (for_register w reg what)
register_stores w None what f = (f, tt)
register_stores w (Some reg) what f = then_store (task_or_refusal w reg.task) (λ _. Ok (what ∷ [])) (λ _ _. (f, tt))

operand_stores : (w : World) (make : ℕ → Act) (value : Result ℕ Refusal) → ((a : ℕ) → ActStoresWord (make a)) → AllStore (on_operand w make value)
operand_stores w make value f = then_store value (λ a. Ok (make a ∷ [])) (λ a _. (f a, tt))

vfree_stores : (w : World) (a : ℕ) → Stores (vfree_acts w a)
vfree_stores w a = go (slot_of_area w.used a)
  where
    go : (o : Option ℕ) → Stores (elim o as (λ _. List Act) [ None ↦ act.VmGive a ∷ [] | Some slot ↦ act.Store (slot_word slot) 0 ∷ act.VmGive a ∷ [] ])
    go None = (tt, tt)
    go (Some slot) = (omega arith, (tt, tt))

first_store : (w : World) (c : Command) → AllStore (first_acts w c)
first_store w (Section name words) = (tt, tt)
first_store w (Task name) = (tt, tt)
first_store w (Exit name) = (tt, tt)
first_store w (Set reg value) =
    then_store (task_or_refusal w reg.task) (λ _. on_operand w (act.SetReg reg.task reg.reg) (operand_value w value))
    (λ _ _. operand_stores w (act.SetReg reg.task reg.reg) (operand_value w value) (λ _. tt))
first_store w (Load reg addr) =
    then_store (task_or_refusal w reg.task) (λ _. on_operand w (act.Load reg.task reg.reg) (operand_value w addr))
    (λ _ _. operand_stores w (act.Load reg.task reg.reg) (operand_value w addr) (λ _. tt))
first_store w (Store addr value) =
    then_store (operand_value w addr) (λ a. then_do (operand_value w value) (λ v. Ok (act.Store a v ∷ [])))
    (λ a _. then_store (operand_value w value) (λ v. Ok (act.Store a v ∷ [])) (λ v e. (value_is_word w value v e, tt)))
first_store w (Erase addr) = operand_stores w (λ a. act.Store a 0) (operand_value w addr) (λ _. omega arith)
first_store w (Print value) = then_store (operand_value w value) (λ _. Ok []) (λ _ _. tt)
first_store w (Kmalloc size reg) = register_stores w reg (act.Kmalloc size) tt
first_store w (Kzalloc size reg) = register_stores w reg (act.Kmalloc size) tt
first_store w (Kfree addr) = operand_stores w act.Kfree (operand_value w addr) (λ _. tt)
first_store w (Pages count reg) = register_stores w reg (act.Pages count) tt
first_store w (FreePages addr) = operand_stores w act.FreePages (operand_value w addr) (λ _. tt)
first_store w (Vmalloc size reg) = register_stores w reg (act.VmTake size) tt
first_store w (Vfree addr) = then_store (operand_value w addr) (λ a. Ok (vfree_acts w a)) (λ a _. vfree_stores w a)
first_store w (BootMem size reg) = register_stores w reg (act.BootMem size) tt
first_store w (FreePart addr size) = operand_stores w (λ a. act.FreePart a size) (operand_value w addr) (λ _. tt)
first_store w (NotLeak addr) = operand_stores w act.NotLeak (operand_value w addr) (λ _. tt)
first_store w (Ignore addr) = operand_stores w act.Ignore (operand_value w addr) (λ _. tt)
first_store w (NoScan addr) = operand_stores w act.NoScan (operand_value w addr) (λ _. tt)
first_store w (ScanArea addr size) = operand_stores w (λ a. act.ScanArea a size) (operand_value w addr) (λ _. tt)
first_store w (TransientLeak addr) = operand_stores w act.TransientLeak (operand_value w addr) (λ _. tt)
first_store w (Write None) = tt
first_store w (Write (Some word)) = (tt, tt)
first_store w Read = (tt, tt)
first_store w Begin = (tt, tt)
first_store w _ = tt

-- and what it does after an allocation
set_stores : (reg : Option RegName) (a : ℕ) → Stores (set_register reg a)
set_stores None a = tt
set_stores (Some reg) a = (tt, tt)

zeroes_store : (n a : ℕ) → Stores (map (λ b. act.Store b 0) (words_from n a))
zeroes_store zero a = tt
zeroes_store (suc n) a = (omega arith, zeroes_store n (a + 8))

values_store : (a : ℕ) (values : List ℕ) → Each IsWord values → Stores (stores_from a values)
values_store a [] f = tt
values_store a (v ∷ values) f = (f.0, values_store (a + 8) values f.1)

-- a live allocation begins in the memory
starts_are_words : (r : Run) → IsSoundRun r → Each (λ (x : Allocation). IsWord x.start) (world_after r.history).used
starts_are_words r s =
    each_weaker (λ (x : Allocation). (0 < x.size) × InMemory r.words x.start x.size × WholeWords x.start x.size) (λ (x : Allocation). IsWord x.start)
    (λ x p. let a = p.1.1 in let b = s.size.1 in omega (arith, a, b)) (world_after r.history).used (all_is_placed r.words r.history s.size s.follows).allocations

head_is_word : (used : List Allocation) (s head : ℕ) → Each (λ (x : Allocation). IsWord x.start) used → head_with used s ≡ Some head → IsWord head
head_is_word [] s head f e = absurd (let z : ⊥ = cc in z)
head_is_word (x ∷ used) s head f e = go (λ g. head_is_word used s head f.1 g) x.«use» e
  where
    here : (head_with used s ≡ Some head → IsWord head) → (q : Bool) → (if q then Some x.start else head_with used s) ≡ Some head → IsWord head
    here rest true g = let same : x.start ≡ head = cc in subst IsWord same f.0
    here rest false g = rest g

    go : (head_with used s ≡ Some head → IsWord head) → (u : Use) → (elim u as (λ _. Option ℕ) [ HeadBlock t ↦ if t == s then Some x.start else head_with used s | _ ↦ head_with used s ]) ≡ Some head → IsWord head
    go rest (HeadBlock t) g = here rest (t == s) g
    go rest _ g = rest g

area_is_word : (used : List Allocation) (a s : ℕ) → Each (λ (x : Allocation). IsWord x.start) used → slot_of_area used a ≡ Some s → IsWord a
area_is_word [] a s f e = absurd (let z : ⊥ = cc in z)
area_is_word (x ∷ used) a s f e = go (λ g. area_is_word used a s f.1 g) x.«use» e
  where
    here : (slot_of_area used a ≡ Some s → IsWord a) → (t : ℕ) (q : Bool) → (x.start == a) ≡ q → (if q then Some t else slot_of_area used a) ≡ Some s → IsWord a
    here rest t true g h = subst IsWord (eqb-true x.start a g) f.0
    here rest t false g h = rest h

    go : (slot_of_area used a ≡ Some s → IsWord a) → (u : Use) → (elim u as (λ _. Option ℕ) [ AreaRun t ↦ if x.start == a then Some t else slot_of_area used a | _ ↦ slot_of_area used a ]) ≡ Some s → IsWord a
    go rest (AreaRun t) g = here rest t (x.start == a) refl g
    go rest _ g = rest g

area_sized : (r : Run) (size a : ℕ) → told_answer r (act.VmTake size) ≡ At a → size ≤ 1048576
unfolding answer
area_sized r size a e =
    within_size 1048576 size (unless_open (is_bad_size 1048576 size) BadSize
    (unless (lowest_slot (world (past_of r.history)).used == VMAP_SLOTS) NoSlot (at_place (area_place r.words (world (past_of r.history)).used size)))
    (subst (λ (t : Answer). is_refused t ≡ false) (sym e) refl)).0

head_stores_words : (r : Run) (size a : ℕ) → IsSoundRun r → size ≤ 1048576 → Stores (head_stores (world_after r.history) size a)
head_stores_words r size a s few = go (slot_of_area (world_after r.history).used a) refl
  where
    starts : Each (λ (x : Allocation). IsWord x.start) (world_after r.history).used
    starts = starts_are_words r s

    with_head : (slot : ℕ) (o : Option ℕ) → head_with (world_after r.history).used slot ≡ o → IsWord a
        → Stores (elim o as (λ _. List Act) [
          | None ↦ []
          | Some head ↦ stores_from head (0 ∷ a ∷ PAGE * pages_for size ∷ 0 ∷ 0 ∷ 0 ∷ 0 ∷ 0 ∷ []) ++ act.Store (slot_word slot) head ∷ []
        ])
    with_head slot None e small = tt
    with_head slot (Some head) e small =
        each_append ActStoresWord (stores_from head (0 ∷ a ∷ PAGE * pages_for size ∷ 0 ∷ 0 ∷ 0 ∷ 0 ∷ 0 ∷ [])) (act.Store (slot_word slot) head ∷ [])
        (values_store head (0 ∷ a ∷ PAGE * pages_for size ∷ 0 ∷ 0 ∷ 0 ∷ 0 ∷ 0 ∷ [])
        (omega arith, (small, (omega (arith, few), (omega arith, (omega arith, (omega arith, (omega arith, (omega arith, tt)))))))))
        (head_is_word (world_after r.history).used slot head starts e, tt)

    go : (o : Option ℕ) → slot_of_area (world_after r.history).used a ≡ o
        → Stores (elim o as (λ _. List Act) [
          | None ↦ []
          | Some slot ↦ elim (head_with (world_after r.history).used slot) as (λ _. List Act) [
            | None ↦ []
            | Some head ↦ stores_from head (0 ∷ a ∷ PAGE * pages_for size ∷ 0 ∷ 0 ∷ 0 ∷ 0 ∷ 0 ∷ []) ++ act.Store (slot_word slot) head ∷ []
          ]
        ])
    go None e = tt
    go (Some slot) e = with_head slot (head_with (world_after r.history).used slot) refl (area_is_word (world_after r.history).used a slot starts e)

-- a size that was accepted, where a line takes an area
abbrev IsSized : Command → Type 0
IsSized (Vmalloc size _) = size ≤ 1048576
IsSized _ = Unit {0}

after_store : (r : Run) (c : Command) (a : ℕ) → IsSoundRun r → IsSized c → Stores (acts_behind (world_after r.history) c a)
after_store r (Kmalloc _ reg) a s few = set_stores reg a
after_store r (Kzalloc size reg) a s few =
    each_append ActStoresWord (map (λ b. act.Store b 0) (words_from (kmalloc_span size / 8) a)) (set_register reg a) (zeroes_store (kmalloc_span size / 8) a) (set_stores reg a)
after_store r (Pages _ reg) a s few = set_stores reg a
after_store r (Vmalloc size reg) a s few =
    each_append ActStoresWord (head_stores (world_after r.history) size a) (set_register reg a) (head_stores_words r size a s few) (set_stores reg a)
after_store r (BootMem _ reg) a s few = set_stores reg a
after_store r _ a s few = tt

further_store : (r : Run) (c : Command) (o : Option Answer) → IsSoundRun r → ((a : ℕ) → o ≡ Some (At a) → IsSized c)
    → Stores (elim o as (λ _. List Act) [ None ↦ [] | Some given ↦ elim given as (λ _. List Act) [ At a ↦ acts_behind (world_after r.history) c a | _ ↦ [] ] ])
further_store r c None s few = tt
further_store r c (Some (At a)) s few = after_store r c a s (few a refl)
further_store r c (Some _) s few = tt

-- the acts of a line keep
acts_keep : (r : Run) (c : Command) (acts : Acts) → AllStore acts → ((what : Act) (more : List Act) (a : ℕ) → acts ≡ Ok (what ∷ more) → newest_answer (all_happen r (what ∷ more)).history ≡ Some (At a) → IsSized c)
    → IsSoundRun r → IsSoundRun (behind_acts r c acts)
acts_keep r c (Err _) stores few s = s
acts_keep r c (Ok []) stores few s = s
acts_keep r c (Ok (what ∷ more)) stores few s =
    let done = all_happen r (what ∷ more) in
    let kept : IsSoundRun done = all_happen_keep r (what ∷ more) stores s in
    all_happen_keep done (further_acts done.history c) (further_store done c (newest_answer done.history) kept (λ a e. few what more a refl e)) kept

-- a line that takes an area begins by that
area_first : (r : Run) (size a : ℕ) (acts : List Act) → act.VmTake size ∷ [] ≡ acts → newest_answer (all_happen r acts).history ≡ Some (At a) → size ≤ 1048576
area_first r size a acts same newest =
    area_sized r size a
    (some_same (told_answer r (act.VmTake size)) (At a) (subst (λ l. newest_answer (all_happen r l).history ≡ Some (At a)) (sym same) newest))

abbrev ok_acts : List Act → Acts
ok_acts xs = Ok xs

same_acts : (xs ys : List Act) → ok_acts xs ≡ ok_acts ys → xs ≡ ys
same_acts xs ys e = cc

area_only : (w : World) (size : ℕ) (reg : Option RegName) (acts : List Act) → for_register w reg (act.VmTake size) ≡ Ok acts → act.VmTake size ∷ [] ≡ acts
area_only w size None acts e = same_acts (act.VmTake size ∷ []) acts e
area_only w size (Some reg) acts e = go (task_or_refusal w reg.task) e
  where
    go : (found : Result Live Refusal) → then_do found (λ _. Ok (act.VmTake size ∷ [])) ≡ Ok acts → act.VmTake size ∷ [] ≡ acts
    go (Err refusal) f = absurd (let z : ⊥ = cc in z)
    go (Ok task) f = same_acts (act.VmTake size ∷ []) acts f

-- so does a line
line_sound : (r : Run) (c : Command) (r' : Run) → IsSoundRun r → Makes r c r' → IsSoundRun r'
line_sound r (Write (Some file.Scan)) r' s makes = scans_keep (happens r (act.File file.Scan)) r' makes (happens_keeps r (act.File file.Scan) tt s)
line_sound r Finish r' s makes = finishes_keeps r r' makes s
line_sound r (Tick n) r' s makes = ticks_keep ((world_after r.history).now + n) makes.0 r r' makes.1 s
line_sound r (Step n) r' s makes = subst (λ x. IsSoundRun x) makes (steps_keep n r s)
line_sound r (Vmalloc size reg) r' s makes =
    let w : World = world_after r.history in
    subst (λ x. IsSoundRun x) makes
    (acts_keep r (Vmalloc size reg) (first_acts w (Vmalloc size reg)) (first_store w (Vmalloc size reg))
    (λ what more a e newest. area_first r size a (what ∷ more) (area_only w size reg (what ∷ more) e) newest) s)
line_sound r c r' s makes =
    let w : World = world_after r.history in
    subst (λ x. IsSoundRun x) makes (acts_keep r c (first_acts w c) (first_store w c) (λ what more a e newest. tt) s)

pub line_keeps : LineKeeps
line_keeps r c r' s makes = (line_sound r c r' s makes, makes_words r c r' makes)

words_zero : (n : ℕ) → Each IsWord (replicate n 0)
words_zero zero = tt
words_zero (suc n) = (omega arith, words_zero n)

pub first_run_is_sound : FirstRunIsSound
first_run_is_sound words size = record { size = size; whole = length-replicate words 0; small = words_zero words; follows = tt }
