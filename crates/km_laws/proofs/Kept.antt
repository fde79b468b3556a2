use Rattle.std.proofs.Common.{◌≡◌, ℕ, ◌+◌, ◌*◌, ◌≤◌, ◌<◌, ◌-◌, ◌==◌, ◌⊎◌, inl, inr, Bool, true, false, ◌&&◌, not, nat_lt, List, [], ◌∷◌, ◌++◌, Option, Some, None, is_some, refl, sym, ◌∙◌, ap, subst, arith, if◌then◌else◌}
use Rattle.km_laws.proofs.Lists.{In, filter_in, in_push_cases, in_map}
use Rattle.km_model.proofs.Worlds.{Tame, Closed, Of, event_keeps}
use Rattle.km_model.proofs.Cases.{elim_false}
use Rattle.km_base.specs.declared.acts.Act.{Act}
use Rattle.km_base.specs.declared.acts.Act.TheVariants.{Section, TaskExit, Kmalloc, VmTake, VmGive, BootMem, FreePart, File}
use Rattle.km_base.specs.declared.acts.FileCmd.{FileCmd}
use Rattle.km_base.specs.declared.acts.FileCmd.TheVariants.{StackOn, StackOff, ScanOn, ScanEvery, Clear}
use Rattle.km_base.specs.declared.acts.Answer.{Answer}
use Rattle.km_model.specs.Blocks.{Block, changed_where, painted_grey, block_with, without_block, is_among}
use Rattle.km_model.specs.Placement.{pages_for, lowest_slab, lowest_slot, lowest_run, page_start, kmalloc_span, kmalloc_use, slot_of_area, head_with, HeadBlock, AreaRun, SectionRun, BootRun}
use Rattle.km_model.specs.Tasks.{Task, task_named}
use Rattle.km_model.specs.World.{World, next_block, with_block, with_rest, with_allocation}
use Rattle.km_model.specs.Past.{is_refused}
use Rattle.km_model.specs.Changes.{world_after_event, world_after_act, world_after_word, world_after_exit, with_vmalloc, world_after_vfree, world_without, world_without_part, start_of}

-- one registration: what an event leaves of a block
abbrev pub IsSameBlock : Block → Block → Type 0
IsSameBlock b c = (b.id ≡ c.id) × (b.start ≡ c.start) × (b.size ≡ c.size) × (b.born ≡ c.born)

-- one task
abbrev pub IsSameTask : Task → Task → Type 0
IsSameTask t u = (t.number ≡ u.number) × (t.stack ≡ u.stack)

-- each block and task of a later moment was there at an earlier one, or is new
pub record Kept (w : World) (r : ℕ) (bs : List Block) (s : ℕ) (ts : List Task) : Type 0 where
  pub more : w.registered ≤ r
  pub blocks : (c : Block) → In c bs → ((b : Block) × In b w.blocks × IsSameBlock b c) ⊎ (w.registered ≤ c.id)
  pub later : w.started ≤ s
  pub tasks : (t : Task) → In t ts → ((u : Task) × In u w.tasks × IsSameTask u t) ⊎ (w.started < t.number)

kept_closed : (w : World) → Closed (Kept w)
kept_closed w = record {
  registered = λ r s bs ts b e k. record {
    more = (let more = k.more in omega (arith, more));
    blocks = λ c i. elim (in_push_cases bs c b i) [
      | inl j ↦ k.blocks c j
      | inr same ↦ inr (let more = k.more in let id : c.id ≡ b.id = ap (λ (x : Block). x.id) same in omega (arith, more, id, e))
    ];
    later = k.later;
    tasks = k.tasks;
  };
  fewer = λ r s bs ts test k. record { more = k.more; blocks = λ c i. k.blocks c (filter_in test bs c i).1; later = k.later; tasks = k.tasks };
  none = λ r s bs ts k. record { more = k.more; blocks = λ c i. absurd i; later = k.later; tasks = k.tasks };
  changed = λ r s bs ts change tame k. record {
    more = k.more;
    blocks = λ c i. let b = in_map change bs c i in changed_block w b.0 c (change b.0) (tame b.0) b.2 (k.blocks b.0 b.1);
    later = k.later;
    tasks = k.tasks;
  };
  started = λ r s bs ts t e k. record {
    more = k.more;
    blocks = k.blocks;
    later = (let later = k.later in omega (arith, later));
    tasks = λ u i. elim (in_push_cases ts u t i) [
      | inl j ↦ k.tasks u j
      | inr same ↦ inr (let later = k.later in let number : u.number ≡ t.number = ap (λ (x : Task). x.number) same in omega (arith, later, number, e))
    ];
  };
  gone = λ r s bs ts test k. record { more = k.more; blocks = k.blocks; later = k.later; tasks = λ t i. k.tasks t (filter_in test ts t i).1 };
  set = λ r s bs ts change same k. record {
    more = k.more;
    blocks = k.blocks;
    later = k.later;
    tasks = λ u i. let t = in_map change ts u i in changed_task w t.0 u (change t.0) (same t.0) t.2 (k.tasks t.0 t.1);
  };
}
  where
    changed_block : (w : World) (b c d : Block) → Tame b d → c ≡ d → ((a : Block) × In a w.blocks × IsSameBlock a b) ⊎ (w.registered ≤ b.id)
        → ((a : Block) × In a w.blocks × IsSameBlock a c) ⊎ (w.registered ≤ c.id)
    changed_block w b c d tame is (inl a) = inl (a.0, a.1, subst (IsSameBlock a.0) (sym is) (a.2.0 ∙ sym tame.0, a.2.1 ∙ sym tame.1, a.2.2 ∙ sym tame.2, a.2.3 ∙ sym tame.4))
    changed_block w b c d tame is (inr fresh) = inr (subst (λ (x : Block). w.registered ≤ x.id) (sym is) (subst (λ n. w.registered ≤ n) (sym tame.0) fresh))

    changed_task : (w : World) (t u v : Task) → (v.number ≡ t.number) × (v.stack ≡ t.stack) → u ≡ v → ((a : Task) × In a w.tasks × IsSameTask a t) ⊎ (w.started < t.number)
        → ((a : Task) × In a w.tasks × IsSameTask a u) ⊎ (w.started < u.number)
    changed_task w t u v same is (inl a) = inl (a.0, a.1, subst (IsSameTask a.0) (sym is) (a.2.0 ∙ sym same.0, a.2.1 ∙ sym same.1))
    changed_task w t u v same is (inr fresh) = inr (subst (λ (x : Task). w.started < x.number) (sym is) (subst (λ n. w.started < n) (sym same.0) fresh))

-- what an event leaves of blocks and tasks
pub event_kept : (w : World) (listed : List ℕ) (act : Act) (answer : Answer) → Of (Kept w) (world_after_event w listed act answer)
event_kept w listed act answer = event_keeps (Kept w) (kept_closed w) w listed act answer (record {
  more = omega arith;
  blocks = λ b i. inl (b, i, (refl, refl, refl, refl));
  later = omega arith;
  tasks = λ t i. inl (t, i, (refl, refl));
})

-- whether stacks are scanned: changed by two written words alone
abbrev pub is_stack_word : Act → Bool
is_stack_word (File StackOn) = true
is_stack_word (File StackOff) = true
is_stack_word _ = false

stacks_either : (q : Bool) (w x y : World) → x.stacks ≡ w.stacks → y.stacks ≡ w.stacks → (if q then x else y).stacks ≡ w.stacks
stacks_either true w x y e f = e
stacks_either false w x y e f = f

stacks_block : (w x : World) (start size references : ℕ) (excess : Option ℕ) → x.stacks ≡ w.stacks → (with_block x start size references excess).stacks ≡ w.stacks
stacks_block w x start size references excess e =
    stacks_either x.enabled w (record x { registered = x.registered + 1; blocks = x.blocks ++ next_block x start size references excess ∷ [] }) x e e

stacks_exit : (w : World) (t : Option Task) → (world_after_exit w t).stacks ≡ w.stacks
stacks_exit w None = refl
stacks_exit w (Some t) = refl

stacks_head : (w : World) (a : ℕ) (o : Option ℕ) → (elim o as (λ _. World) [ None ↦ w | Some head ↦ world_without (world_without w a) head ]).stacks ≡ w.stacks
stacks_head w a None = refl
stacks_head w a (Some head) = refl

stacks_vfree : (w : World) (a : ℕ) (slot : Option ℕ) → (world_after_vfree w a slot).stacks ≡ w.stacks
stacks_vfree w a None = refl
stacks_vfree w a (Some slot) = stacks_head w a (head_with w.used slot)

stacks_word : (w : World) (listed : List ℕ) (word : FileCmd) → is_stack_word (File word) ≡ false → (world_after_word w listed word).stacks ≡ w.stacks
stacks_word w listed StackOn e = absurd (elim_false (sym e))
stacks_word w listed StackOff e = absurd (elim_false (sym e))
stacks_word w listed ScanOn e = stacks_either (is_some w.due) w w (record w { due = Some (w.now + w.period) }) refl refl
stacks_word w listed (ScanEvery n) e = stacks_either (n == 0) w (record w { due = None }) (record w { period = 1000 * n; due = Some (w.now + 1000 * n) }) refl refl
stacks_word w listed Clear e = stacks_either w.enabled w (record w { blocks = changed_where (λ (b : Block). is_among b.id listed) painted_grey w.blocks }) (record w { blocks = [] }) refl refl
stacks_word w listed _ e = refl

stacks_vmalloc : (w : World) (size head area : ℕ) → (with_vmalloc w size head area).stacks ≡ w.stacks
stacks_vmalloc w size head area =
    let slot = lowest_slot w.used in
    let placed = with_allocation (with_allocation w (HeadBlock slot) head 64) (AreaRun slot) area (4096 * pages_for size) in
    stacks_block w (with_block placed head 64 1 (Some area)) area (4096 * pages_for size) 2 None (stacks_block w placed head 64 1 (Some area) refl)

stacks_rest : (w : World) (b : Block) (start size : ℕ) → (with_rest w b start size).stacks ≡ w.stacks
stacks_rest w b start size =
    stacks_either (w.enabled && nat_lt 0 size) w (record w { registered = w.registered + 1; blocks = w.blocks ++ record b { id = w.registered; start = start; size = size; areas = []; excess = None } ∷ [] }) w refl refl

stacks_part : (w : World) (a size : ℕ) (o : Option Block) → (world_without_part w a size o).stacks ≡ w.stacks
stacks_part w a size None = refl
stacks_part w a size (Some b) =
    let left : World = record w { blocks = without_block w.blocks b.start } in
    stacks_rest (with_rest left b b.start (a - b.start)) b (a + size) (b.start + b.size - (a + size)) ∙ stacks_rest left b b.start (a - b.start)

stacks_act : (w : World) (listed : List ℕ) (act : Act) (answer : Answer) → is_stack_word act ≡ false → (world_after_act w listed act answer).stacks ≡ w.stacks
unfolding world_after_act
stacks_act w listed (Section name words) answer e = stacks_block w (with_allocation w (SectionRun name) (page_start (lowest_run w.used (pages_for (8 * words)))) (4096 * pages_for (8 * words))) _ (8 * words) 0 None refl
stacks_act w listed (TaskExit name) answer e = stacks_exit w (task_named w.tasks name)
stacks_act w listed (Kmalloc size) answer e = stacks_block w (with_allocation w (kmalloc_use size) (start_of answer) (kmalloc_span size)) (start_of answer) (kmalloc_span size) 1 None refl
stacks_act w listed (VmTake size) answer e = stacks_vmalloc w size (lowest_slab w.used 64) (start_of answer)
stacks_act w listed (VmGive a) answer e = stacks_vfree w a (slot_of_area w.used a)
stacks_act w listed (BootMem size) answer e = stacks_block w (with_allocation w BootRun (start_of answer) (4096 * pages_for size)) (start_of answer) size 0 None refl
stacks_act w listed (FreePart a size) answer e = stacks_part w a size (block_with w.blocks a)
stacks_act w listed (File word) answer e = stacks_word w listed word e
stacks_act w listed _ answer e = refl

pub stacks_kept : (w : World) (listed : List ℕ) (act : Act) (answer : Answer) → is_stack_word act && not (is_refused answer) ≡ false → (world_after_event w listed act answer).stacks ≡ w.stacks
stacks_kept w listed act answer e = go (is_refused answer) (is_stack_word act) refl e
  where
    go : (q r : Bool) → is_stack_word act ≡ r → (r && not q) ≡ false → (if q then w else world_after_act w listed act answer).stacks ≡ w.stacks
    go true r f g = refl
    go false true f g = absurd (elim_false (sym g))
    go false false f g = stacks_act w listed act answer f
