use Rattle.std.proofs.Common.{◌≡◌, ℕ, ◌+◌, ◌*◌, Bool, true, false, not, ◌==◌, nat_le, List, [], ◌∷◌, Option, Some, None, is_some, if◌then◌else◌, refl, sym, ap, ◌∙◌, subst, arith, inl, inr, eqb-true}
use Rattle.std.specs.List.{list_any}
use Rattle.std.proofs.lemmas.Bool.{not-false}
use Rattle.km_base.specs.declared.acts.Act.{Act}
use Rattle.km_base.specs.declared.acts.Act.TheVariants.{Section, TaskStart, TaskExit, SetReg, Load, Kmalloc, Kfree, Pages, FreePages, VmTake, VmGive, BootMem, FreePart, NotLeak, Ignore, NoScan, ScanArea, File}
use Rattle.km_base.specs.declared.acts.FileCmd.{FileCmd}
use Rattle.km_base.specs.declared.acts.FileCmd.TheVariants.{ScanOn, ScanEvery, Clear}
use Rattle.km_base.specs.declared.acts.Answer.{Answer}
use Rattle.km_base.specs.declared.acts.Answer.TheVariants.{Done}
use Rattle.km_base.specs.declared.acts.Refusal.TheVariants.{BadSize, BadAddress, NotAllocated, NoSlot, NotBoot}
use Rattle.km_model.specs.History.{Event, History}
use Rattle.km_model.specs.Memory.{base, in_memory}
use Rattle.km_model.specs.Blocks.{Block, contains, block_with, changed_where, painted_grey, painted_black, unscanned, is_among}
use Rattle.km_model.specs.Placement.{Allocation, Use, SlotTable, SectionRun, StackPage, SlabBlock, LargeRun, PlainRun, BootRun, HeadBlock, AreaRun, page_start, pages_for, lowest_run, lowest_slab, lowest_slot, area_place, kmalloc_span, kmalloc_use, slot_of_area}
use Rattle.km_model.specs.Tasks.{Task, task_named}
use Rattle.km_model.specs.World.{World, opening}
use Rattle.km_model.specs.Past.{Past, world, is_refused}
use Rattle.km_model.specs.Verdict.{listing_ids}
use Rattle.km_model.specs.Changes.{world_after_event, world_after_act, world_after_word, world_after_exit, start_of}
use Rattle.km_model.specs.Answers.{answer, unless, at_place, is_bad_size, is_uneven, is_kmalloc_at, is_plain_at, is_boot_with, part_answer}
use Rattle.km_model.specs.Follows.{past_of}
use Rattle.km_laws.specs.Placed.{StackPlaced}
use Rattle.km_laws.proofs.Lists.{In, each_in, find_in, any_in}
use Rattle.km_laws.proofs.Placings.{one_at}
use Rattle.km_laws.proofs.Apart.{PlacedIn, answered_placed}
use Rattle.km_laws.proofs.Accepted.{unless_open}
use Rattle.km_laws.proofs.Since.{IsAnswered}
use Rattle.km_converse.proofs.Slots.{Slots, is_other}
use Rattle.km_converse.proofs.Headed.{IsKind, Headed, Step, headed_after}
use Rattle.km_converse.proofs.Moves.{Moves, Paints, stands, made, made_block, painted, emptied, dropped, freed, area_freed, paired}
use Rattle.km_converse.proofs.Parts.{parted}

-- what begins at an address is of another kind, where one such allocation is
others : (room : ℕ) (w : World) (y : Allocation) (a : ℕ) → PlacedIn room w → In y w.used → y.start ≡ a → is_other y.«use» ≡ true → (x : Allocation) → In x w.used → x.start ≡ a → is_other x.«use» ≡ true
others room w y a p i e other x j f = subst (λ (z : Allocation). is_other z.«use» ≡ true) (one_at room w.used w.blocks w.tasks y x p i j (e ∙ sym f)) other

kmalloc_kind : (u : Use) (r : Bool) → (elim u as (λ _. Bool) [ SlabBlock ↦ r | LargeRun ↦ r | _ ↦ false ]) ≡ true → (r ≡ true) × (is_other u ≡ true)
kmalloc_kind SlabBlock r e = (e, refl)
kmalloc_kind LargeRun r e = (e, refl)
kmalloc_kind _ r e = absurd cc

plain_kind : (u : Use) (r : Bool) → (elim u as (λ _. Bool) [ PlainRun ↦ r | _ ↦ false ]) ≡ true → (r ≡ true) × (is_other u ≡ true)
plain_kind PlainRun r e = (e, refl)
plain_kind _ r e = absurd cc

stack_other : (u : Use) → (elim u as (λ _. Bool) [ StackPage ↦ true | _ ↦ false ]) ≡ true → is_other u ≡ true
stack_other StackPage e = refl
stack_other _ e = absurd cc

kmalloc_other : (size : ℕ) → is_other (kmalloc_use size) ≡ true
kmalloc_other size = elim (nat_le size 4096) as (λ q. is_other (if q then SlabBlock else LargeRun) ≡ true) [ true ↦ refl | false ↦ refl ]

-- what an accepted act says of what it gives back
kmalloc_others : (room : ℕ) (w : World) (a : ℕ) → is_refused (unless (not (list_any (is_kmalloc_at a) w.used)) NotAllocated Done) ≡ false → PlacedIn room w
    → ((x : Allocation) → In x w.used → x.start ≡ a → is_other x.«use» ≡ true)
kmalloc_others room w a ok p =
    let u = unless_open (not (list_any (is_kmalloc_at a) w.used)) NotAllocated Done ok in
    let y = any_in (is_kmalloc_at a) w.used (not-false (list_any (is_kmalloc_at a) w.used) u.0) in
    let k = kmalloc_kind y.0.«use» (y.0.start == a) y.2 in
    others room w y.0 a p y.1 (eqb-true y.0.start a k.0) k.1

plain_others : (room : ℕ) (w : World) (a : ℕ) → is_refused (unless (not (list_any (is_plain_at a) w.used)) NotAllocated Done) ≡ false → PlacedIn room w
    → ((x : Allocation) → In x w.used → x.start ≡ a → is_other x.«use» ≡ true)
plain_others room w a ok p =
    let u = unless_open (not (list_any (is_plain_at a) w.used)) NotAllocated Done ok in
    let y = any_in (is_plain_at a) w.used (not-false (list_any (is_plain_at a) w.used) u.0) in
    let k = plain_kind y.0.«use» (y.0.start == a) y.2 in
    others room w y.0 a p y.1 (eqb-true y.0.start a k.0) k.1

exit_moves : (room : ℕ) (w : World) (name : List ℕ) (o : Option Task) → task_named w.tasks name ≡ o → PlacedIn room w → Slots w.used → Moves w (world_after_exit w o)
exit_moves room w name None e p slots = stands w slots
exit_moves room w name (Some t) e p slots =
    let f = find_in _ w.tasks t e in
    let s = each_in (StackPlaced w.used) w.tasks t p.stacks_in f.1 in
    dropped w t.stack (others room w s.0 t.stack p s.1 s.3 (stack_other s.0.«use» s.2)) slots

-- a vmalloc finds a slot
slot_free : (words : ℕ) (w : World) (size : ℕ)
    → is_refused (unless (is_bad_size 1048576 size) BadSize (unless (lowest_slot w.used == 512) NoSlot (at_place (area_place words w.used size)))) ≡ false → (lowest_slot w.used == 512) ≡ false
slot_free words w size ok =
    let u = unless_open (is_bad_size 1048576 size) BadSize (unless (lowest_slot w.used == 512) NoSlot (at_place (area_place words w.used size))) ok in
    (unless_open (lowest_slot w.used == 512) NoSlot (at_place (area_place words w.used size)) u.2).0

-- a part is one of boot memory
part_boot : (words : ℕ) (w : World) (a size : ℕ)
    → is_refused (unless (not (in_memory words a)) BadAddress (unless (is_uneven size) BadSize (unless (not (list_any (is_boot_with a) w.used)) NotBoot (part_answer (block_with w.blocks a) (a + size))))) ≡ false
    → list_any (is_boot_with a) w.used ≡ true
part_boot words w a size ok =
    let u = unless_open (not (in_memory words a)) BadAddress (unless (is_uneven size) BadSize (unless (not (list_any (is_boot_with a) w.used)) NotBoot (part_answer (block_with w.blocks a) (a + size)))) ok in
    let v = unless_open (is_uneven size) BadSize (unless (not (list_any (is_boot_with a) w.used)) NotBoot (part_answer (block_with w.blocks a) (a + size))) u.2 in
    let t = unless_open (not (list_any (is_boot_with a) w.used)) NotBoot (part_answer (block_with w.blocks a) (a + size)) v.2 in
    not-false (list_any (is_boot_with a) w.used) t.0

grey_paints : Paints painted_grey
grey_paints b = (refl, refl, refl, refl, inr (inl refl))

black_paints : Paints painted_black
black_paints b = (refl, refl, refl, refl, inr (inr refl))

either_moves : (w : World) (q : Bool) (x y : World) → Moves w x → Moves w y → Moves w (if q then x else y)
either_moves w true x y r s = r
either_moves w false x y r s = s

written_moves : (w : World) (listed : List ℕ) (word : FileCmd) → Slots w.used → Moves w (world_after_word w listed word)
written_moves w listed ScanOn s = either_moves w (is_some w.due) w (record w { due = Some (w.now + w.period) }) (stands w s) (stands w s)
written_moves w listed (ScanEvery n) s = either_moves w (n == 0) (record w { due = None }) (record w { period = 1000 * n; due = Some (w.now + 1000 * n) }) (stands w s) (stands w s)
written_moves w listed Clear s =
    either_moves w w.enabled (record w { blocks = changed_where (λ (b : Block). is_among b.id listed) painted_grey w.blocks }) (record w { blocks = [] })
    (painted w (λ b. is_among b.id listed) painted_grey grey_paints s) (emptied w s)
written_moves w listed _ s = stands w s

-- what each accepted act does
act_moves : (words room : ℕ) (past : Past) (listed : List ℕ) (act : Act) (v : ℕ) (s : Answer) → s ≡ answer words past act v → is_refused s ≡ false
    → PlacedIn room (world past) → PlacedIn room (world_after_act (world past) listed act s) → Slots (world past).used → Moves (world past) (world_after_act (world past) listed act s)
unfolding answer world_after_act
act_moves words room past listed (Section name n) v s e ok p p' k =
    made_block room (world past).enabled (world past) (SectionRun name) (page_start (lowest_run (world past).used (pages_for (8 * n)))) (4096 * pages_for (8 * n)) (8 * n) 0 refl k p'
act_moves words room past listed (TaskStart name) v s e ok p p' k = made (world past) (record { «use» = StackPage; start = page_start (lowest_run (world past).used 1); size = 4096 }) refl k
act_moves words room past listed (TaskExit name) v s e ok p p' k = exit_moves room (world past) name (task_named (world past).tasks name) refl p k
act_moves words room past listed (Kmalloc size) v s e ok p p' k =
    made_block room (world past).enabled (world past) (kmalloc_use size) (start_of s) (kmalloc_span size) (kmalloc_span size) 1 (kmalloc_other size) k p'
act_moves words room past listed (Kfree a) v s e ok p p' k = freed (world past) a (kmalloc_others room (world past) a (subst (λ (t : Answer). is_refused t ≡ false) e ok) p) k
act_moves words room past listed (Pages n) v s e ok p p' k = made (world past) (record { «use» = PlainRun; start = start_of s; size = 4096 * n }) refl k
act_moves words room past listed (FreePages a) v s e ok p p' k = dropped (world past) a (plain_others room (world past) a (subst (λ (t : Answer). is_refused t ≡ false) e ok) p) k
act_moves words room past listed (VmTake size) v s e ok p p' k =
    paired room (world past).enabled (world past) size (lowest_slab (world past).used 64) (start_of s)
    (slot_free words (world past) size (subst (λ (t : Answer). is_refused t ≡ false) e ok)) k p'
act_moves words room past listed (VmGive a) v s e ok p p' k = area_freed room (world past) a (slot_of_area (world past).used a) p refl k
act_moves words room past listed (BootMem size) v s e ok p p' k = made_block room (world past).enabled (world past) BootRun (start_of s) (4096 * pages_for size) size 0 refl k p'
act_moves words room past listed (FreePart a size) v s e ok p p' k =
    parted room (world past) a size (block_with (world past).blocks a) (part_boot words (world past) a size (subst (λ (t : Answer). is_refused t ≡ false) e ok)) refl p k p'
act_moves words room past listed (NotLeak a) v s e ok p p' k = painted (world past) _ painted_grey grey_paints k
act_moves words room past listed (Ignore a) v s e ok p p' k = painted (world past) _ painted_black black_paints k
act_moves words room past listed (NoScan a) v s e ok p p' k = painted (world past) _ unscanned (λ b. (refl, refl, refl, refl, inl refl)) k
act_moves words room past listed (ScanArea a size) v s e ok p p' k = painted (world past) (contains a) _ (λ b. (refl, refl, refl, refl, inl refl)) k
act_moves words room past listed (File word) v s e ok p p' k = written_moves (world past) listed word k
act_moves words room past listed (SetReg task reg value) v s e ok p p' k = stands (world past) k
act_moves words room past listed (Load task reg _) v s e ok p p' k = stands (world past) k
act_moves words room past listed _ v s e ok p p' k = stands (world past) k

event_moves : (words room : ℕ) (past : Past) (listed : List ℕ) (act : Act) (v : ℕ) (s : Answer) → s ≡ answer words past act v
    → PlacedIn room (world past) → PlacedIn room (world_after_event (world past) listed act s) → Slots (world past).used → Moves (world past) (world_after_event (world past) listed act s)
event_moves words room past listed act v s e p p' k =
    elim (is_refused s) as (λ q. is_refused s ≡ q → PlacedIn room (if q then world past else world_after_act (world past) listed act s) → Moves (world past) (if q then world past else world_after_act (world past) listed act s)) [
      | true ↦ λ r _. stands (world past) k
      | false ↦ λ r p''. act_moves words room past listed act v s e r p p'' k
    ] refl p'

opening_headed : Headed opening.used opening.blocks
opening_headed =
    let table : Allocation = record { «use» = SlotTable; start = base; size = 4096 } in
    record {
      slots = record {
        areas = λ x s i e. absurd (no_head x s i e);
        heads = λ x s i e. absurd (no_area x s i e);
        one_head = λ x y s i j e f. absurd (no_head x s i e);
        one_area = λ x y s i j e f. absurd (no_area x s i e);
        low = λ x s i e. absurd (no_area x s i e);
        table = (table, inl refl, refl, refl, refl);
      };
      kinds = λ b i. elim i [
        | inl same ↦ subst (λ c. IsKind opening.used opening.blocks c) (sym same) (record {
          head = inl refl;
          area = λ y s j e f. absurd (no_area y s j f);
          table = λ e. (refl, inl refl);
        })
        | inr none ↦ absurd none
      ];
    }
  where
    no_head : (x : Allocation) (s : ℕ) → In x opening.used → x.«use» ≡ HeadBlock s → ⊥
    no_head x s (inl same) e = clash (ap (λ (y : Allocation). y.«use») (sym same) ∙ e)
      where
        clash : SlotTable ≡ HeadBlock s → ⊥
        clash f = cc
    no_head x s (inr none) e = none

    no_area : (x : Allocation) (s : ℕ) → In x opening.used → x.«use» ≡ AreaRun s → ⊥
    no_area x s (inl same) e = clash (ap (λ (y : Allocation). y.«use») (sym same) ∙ e)
      where
        clash : SlotTable ≡ AreaRun s → ⊥
        clash f = cc
    no_area x s (inr none) e = none

-- what stands is placed, in a memory with room for its first page
pub placed : (words : ℕ) (h : History) → IsAnswered words h → PlacedIn (words + 512) (world (past_of h))
placed words h a = answered_placed words (words + 512) (omega arith) (omega arith) h a

-- at each moment of a history whose events have their answers, heads and areas belong together
pub headed : (words : ℕ) (h : History) → IsAnswered words h → Headed (world (past_of h)).used (world (past_of h)).blocks
headed words [] a = opening_headed
headed words (e ∷ h) a =
    let before = headed words h a.1 in
    let moves = event_moves words (words + 512) (past_of h) (listing_ids (past_of h)) e.act a.0.0 e.answer a.0.1 (placed words h a.1) (placed words (e ∷ h) a) before.slots in
    headed_after (words + 512) (world (past_of h)) (world (past_of (e ∷ h))) (placed words h a.1) (placed words (e ∷ h) a) moves.1 before moves.0

-- and each event changes them by a step
pub stepped : (words : ℕ) (e : Event) (h : History) → IsAnswered words (e ∷ h)
    → Step (world (past_of h)).used (world (past_of h)).blocks (world (past_of h)).registered (world (past_of (e ∷ h))).used (world (past_of (e ∷ h))).blocks
stepped words e h a =
    (event_moves words (words + 512) (past_of h) (listing_ids (past_of h)) e.act a.0.0 e.answer a.0.1 (placed words h a.1) (placed words (e ∷ h) a) (headed words h a.1).slots).1
