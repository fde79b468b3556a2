-- Acts that free blocks, take and give areas, and change what is kept of blocks.
use Rattle.std.proofs.Common.{◌≡◌, ℕ, ◌<◌, true, false, not, is_some, is_none, is_err, length, List, [], ◌∷◌, Option, Some, None, Result, Ok, Err, option_map, refl, sym, ap, ◌∙◌, arith, inl, inr}
use Rattle.std.specs.Result.{result_ok}
use Rattle.std.specs.List.{list_any}
use Rattle.km_base.specs.declared.acts.Act.TheVariants as acts
use Rattle.km_base.specs.declared.acts.Answer.TheVariants.{Done, Refused}
use Rattle.km_base.specs.declared.acts.Refusal.TheVariants.{BadAddress, NotAllocated}
use Rattle.km_model.specs.Answers.{is_kmalloc_at, unless}
use Rattle.km_model.specs.Memory.{in_memory}
use Rattle.km_model.specs.Placement.{Allocation, head_with, slot_of_area, without_allocation}
use Rattle.km_model.specs.Tasks.{Task, register, task_named}
use Rattle.km_base.specs.declared.acts.Reg.{Reg}
use Rattle.km_model.proofs.Lists.{Each, Pairs, each_both}
use Rattle.km_laws.specs.Placed.{AllocationsApart, InMemory, WholeWords}
use Rattle.km_state.specs.State.{State}
use Rattle.km_state.specs.StateAnswers.{state_answer}
use Rattle.km_state.specs.StateAfter.{given_back, unregistered, vmalloc_given}
use Rattle.km_reach.specs.Reached.{IsReached}
use Rattle.km_tasks.specs.Roll.{Roll}
use Rattle.km_hosts.specs.Hosting.{Hold, Hosting, StartsDiffer}
use Rattle.km_objects.specs.Objects.{Agree, AreOf, Objects, places}
use Rattle.km_core.specs.Parts.{Answers, HostsStand, IsWhole, Parts, StandsAs, set_in}
use Rattle.km_core.proofs.Marks.{counted, answer_kfree, after_kfree, answer_give, after_give, answer_store, after_store}
use Rattle.km_core.proofs.Standing.{counted_hosts, counted_stands, does, same_objects, still_whole}

-- allocations that never meet begin at different addresses
starts_differ : (words : ℕ) (used : List Allocation) → Each (λ (x : Allocation). (0 < x.size) × InMemory words x.start x.size × WholeWords x.start x.size) used → Pairs AllocationsApart used → StartsDiffer used
starts_differ words [] e p = tt
starts_differ words (x ∷ used) e p = (
  each_both (λ (y : Allocation). (0 < y.size) × InMemory words y.start y.size × WholeWords y.start y.size) (AllocationsApart x) (λ y. x.start ≡ y.start → ⊥)
      (λ y sized apart same. elim apart [ inl before ↦ (let a = e.0.0 in omega (arith, a, before, same)) | inr behind ↦ (let a = sized.0 in omega (arith, a, behind, same)) ]) used e.1 p.0,
  starts_differ words used e.1 p.1,
)

pub differ : (s : State) → IsReached s → StartsDiffer s.used
differ s r = starts_differ s.words s.used r.placed.allocations r.placed.allocations_apart

-- hosts that hold what is left
pub back_hosts : (p : Parts) (h : Hosting) (o : Objects) (s t : State) → HostsStand p s → Hold h t.used → h.roll ≡ p.hosts.roll → t.words ≡ s.words → t.started ≡ s.started → t.tasks ≡ s.tasks → set_in t ≡ set_in s
    → HostsStand (record p { hosts = h; objects = o }) t
back_hosts p h o s t r held roll words started tasks settings = record {
  memory = words ∙ r.memory;
  held = held;
  started = started ∙ r.started ∙ ap (λ x. x.started) (sym roll);
  tasks = tasks ∙ r.tasks ∙ ap (λ x. x.tasks) (sym roll);
  settings = settings ∙ r.settings;
}

-- a block is freed
pub freed : (p : Parts) (h : Hosting) (o : Objects) (a : ℕ) → IsWhole p
    → ((used : List Allocation) → Hold p.hosts used → StartsDiffer used → Done ≡ unless (not (list_any (is_kmalloc_at a) used)) NotAllocated Done)
    → ((used : List Allocation) → Hold p.hosts used → StartsDiffer used → Hold h (without_allocation used a))
    → h.roll ≡ p.hosts.roll → length h.pages ≡ length p.hosts.pages
    → ((s : State) → AreOf p.objects s → AreOf o (unregistered s a)) → ((roll : Roll) → Agree p.objects roll → Agree o roll) → places o ≡ places p.objects
    → Answers p (record p { hosts = h; objects = o }) (acts.Kfree a) Done
freed p h o a w answer held roll pages objects agree room =
    does p (record p { hosts = h; objects = o }) (acts.Kfree a) Done (λ x. unregistered (given_back x a) a) (still_whole p h o w pages roll (agree p.hosts.roll w.agree) room) refl (omega arith)
    (λ s stands reached. answer s.used stands.hosts.held (differ s reached) ∙ sym (answer_kfree s a 0))
    (λ s stands reached. after_kfree s a)
    (λ s stands reached. back_hosts p h o s (unregistered (given_back (counted s) a) a) stands.hosts (held s.used stands.hosts.held (differ s reached)) roll refl refl refl refl)
    (λ s stands reached. objects (given_back (counted s) a) (same_objects p.objects s (given_back (counted s) a) refl refl refl refl refl refl stands.objects))
    refl refl

-- an area and its head are given back
pub area_given : (p : Parts) (h : Hosting) (o : Objects) (a slot head : ℕ) → IsWhole p
    → ((used : List Allocation) → Hold p.hosts used → Done ≡ unless (is_none (slot_of_area used a)) NotAllocated Done)
    → ((used : List Allocation) → Hold p.hosts used → slot_of_area used a ≡ Some slot)
    → ((used : List Allocation) → Hold p.hosts used → head_with used slot ≡ Some head)
    → ((used : List Allocation) → Hold p.hosts used → Hold h (without_allocation (without_allocation used a) head))
    → h.roll ≡ p.hosts.roll → length h.pages ≡ length p.hosts.pages
    → ((s : State) → AreOf p.objects s → AreOf o (unregistered (given_back (unregistered s a) head) head)) → ((roll : Roll) → Agree p.objects roll → Agree o roll) → places o ≡ places p.objects
    → Answers p (record p { hosts = h; objects = o }) (acts.VmGive a) Done
area_given p h o a slot head w answer is_slot is_head held roll pages objects agree room =
    does p (record p { hosts = h; objects = o }) (acts.VmGive a) Done next (still_whole p h o w pages roll (agree p.hosts.roll w.agree) room) refl (omega arith)
    (λ s stands reached. answer s.used stands.hosts.held ∙ sym (answer_give s a 0))
    (λ s stands reached. after_give s a ∙ ap (λ q. vmalloc_given (counted s) a q) (is_slot s.used stands.hosts.held)
    ∙ ap (λ q. elim q as (λ _. State) [ None ↦ counted s | Some x ↦ unregistered (given_back (unregistered (given_back (counted s) a) a) x) x ]) (is_head s.used stands.hosts.held))
    (λ s stands reached. back_hosts p h o s (next (counted s)) stands.hosts (held s.used stands.hosts.held) roll refl refl refl refl)
    (λ s stands reached. objects (given_back (counted s) a) (same_objects p.objects s (given_back (counted s) a) refl refl refl refl refl refl stands.objects))
    refl refl where
      next : State → State
      next x = unregistered (given_back (unregistered (given_back x a) a) head) head

-- whether a task has a name, by what one of its registers holds
pub task_there : {E : Type 0} (o : Result ℕ E) (f : Task → ℕ) (q : Option Task) → result_ok o ≡ option_map f q → is_some q ≡ not (is_err o)
task_there (Ok v) f None e = absurd (let z : ⊥ = cc in z)
task_there (Ok v) f (Some t) e = refl
task_there (Err r) f None e = refl
task_there (Err r) f (Some t) e = absurd (let z : ⊥ = cc in z)

-- a store, and a load, that are refused; a store that is made
pub store_refused : (p : Parts) (a value : ℕ) (s : State) → StandsAs p s → in_memory p.words a ≡ false → Refused BadAddress ≡ state_answer s (acts.Store a value) 0
store_refused p a value s stands out =
    sym (answer_store s a value 0 ∙ ap (λ q. unless (not q) BadAddress Done) (ap (λ n. in_memory n a) stands.hosts.memory ∙ out))

pub store_made : (p : Parts) (a value : ℕ) → IsWhole p → in_memory p.words a ≡ true → Answers p p (acts.Store a value) Done
store_made p a value w inside =
    does p p (acts.Store a value) Done (λ x. x) w refl (omega arith)
    (λ s stands reached. sym (answer_store s a value 0 ∙ ap (λ q. unless (not q) BadAddress Done) (ap (λ n. in_memory n a) stands.hosts.memory ∙ inside)))
    (λ s stands reached. after_store s a value)
    (λ s stands reached. counted_hosts p s stands.hosts)
    (λ s stands reached. (counted_stands p s stands).objects)
    refl refl

pub task_known : {E : Type 0} (o : Result ℕ E) (now roll : Roll) (name : List ℕ) (reg : Reg) → now ≡ roll → result_ok o ≡ option_map (λ (t : Task). register t reg) (task_named now.tasks name) → is_some (task_named roll.tasks name) ≡ not (is_err o)
task_known o now roll name reg same e = ap (λ r. is_some (task_named r.tasks name)) (sym same) ∙ task_there o (λ t. register t reg) (task_named now.tasks name) e
