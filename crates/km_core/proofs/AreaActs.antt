-- A vmalloc registers its head and its area.
use Rattle.std.proofs.Common.{◌≡◌, ℕ, ◌+◌, ◌*◌, ◌≤◌, Bool, true, false, length, List, [], ◌∷◌, ◌++◌, Option, Some, None, if◌then◌else◌, refl, sym, ap, ◌∙◌, subst, arith}
use Rattle.km_base.specs.declared.acts.Act.TheVariants as acts
use Rattle.km_base.specs.declared.acts.Answer.{Answer}
use Rattle.km_base.specs.declared.acts.Answer.TheVariants.{At}
use Rattle.km_model.specs.Blocks.{Block}
use Rattle.km_model.specs.Placement.{Allocation, AreaRun, HeadBlock, lowest_slab, lowest_slot, pages_for}
use Rattle.km_model.specs.World.{next_block}
use Rattle.km_model.proofs.Lists.{Each, Pairs}
use Rattle.km_laws.specs.Laws.{IsPlaced}
use Rattle.km_laws.specs.Left.{total}
use Rattle.km_laws.specs.Placed.{BlocksApart, BlockPlaced}
use Rattle.km_state.specs.State.{State, blocks_in, fresh, world_of}
use Rattle.km_state.specs.StateAnswers.{state_answer}
use Rattle.km_state.specs.StateAfter.{state_after, allocated, registered_at}
use Rattle.km_tasks.specs.Roll.{Roll}
use Rattle.km_track.specs.Tracker.{tracked_in}
use Rattle.km_vmalloc.specs.Areas.{vmalloc_answer}
use Rattle.km_vmalloc.specs.declared.areas.VmArea.{VmArea}
use Rattle.km_hosts.specs.Hosting.{Hold, Hosting, with_use, words_in}
use Rattle.km_objects.specs.Objects.{Agree, AreOf, Objects, places}
use Rattle.km_core.specs.Parts.{Answers, HasPlace, HostsStand, IsReady, IsWhole, Parts, StandsAs, set_in}
use Rattle.km_core.proofs.Marks.{counted, answer_take, after_take}
use Rattle.km_core.proofs.Places.{has_place}
use Rattle.km_core.proofs.Standing.{blocks_push, does, enabled_is, registered_hosts, same_objects, still_whole}
use Rattle.km_core.proofs.HostActs.{words_of}

-- a head and an area are allocated, the head is registered, and then the area
abbrev pub both : State → ℕ → ℕ → ℕ → ℕ → State
both s slot head area bytes = allocated (allocated s (HeadBlock slot) head 64) (AreaRun slot) area bytes

abbrev pub headed : State → ℕ → ℕ → ℕ → ℕ → State
headed s slot head area bytes = registered_at (both s slot head area bytes) head 64 1 (Some area)

abbrev pub taken : State → ℕ → ℕ → ℕ → ℕ → State
taken s slot head area bytes = registered_at (headed s slot head area bytes) area bytes 2 None

-- a result with its place, as the definitions give it
pub record IsTaken (p : Parts) (size : ℕ) (v : VmArea) : Type 0 where
  pub answer : (used : List Allocation) → Hold p.hosts used → At v.area.start.0 ≡ vmalloc_answer (words_in p.hosts) used size
  pub head : (used : List Allocation) → Hold p.hosts used → v.head.start.0 ≡ lowest_slab used 64
  pub slot : (used : List Allocation) → Hold p.hosts used → v.slot ≡ lowest_slot used
  pub sizes : (v.head.size ≡ 64) × (v.area.size ≡ 4096 * pages_for size)

pub take_answers : (p : Parts) (size : ℕ) (given : Answer) → IsWhole p → ((used : List Allocation) → Hold p.hosts used → given ≡ vmalloc_answer (words_in p.hosts) used size)
    → (s : State) → StandsAs p s → given ≡ state_answer s (acts.VmTake size) 0
take_answers p size given w answer s stands =
    answer s.used stands.hosts.held ∙ ap (λ n. vmalloc_answer n s.used size) (words_of p s w stands) ∙ sym (answer_take s size 0)

taken_after : (p : Parts) (size : ℕ) (v : VmArea) → IsTaken p size v → (s : State) → StandsAs p s
    → state_after s (acts.VmTake size) (At v.area.start.0) ≡ taken (counted s) v.slot v.head.start.0 v.area.start.0 (4096 * pages_for size)
taken_after p size v t s stands =
    after_take s size v.area.start.0 ∙ ap (λ n. taken (counted s) n (lowest_slab s.used 64) v.area.start.0 (4096 * pages_for size)) (sym (t.slot s.used stands.hosts.held))
    ∙ ap (λ a. taken (counted s) v.slot a v.area.start.0 (4096 * pages_for size)) (sym (t.head s.used stands.hosts.held))

-- a state in which a block is registered
abbrev made : State → ℕ → ℕ → ℕ → Option ℕ → State
made s a n m e = record s { registered = s.registered + 1; tracked = s.tracked ++ fresh (next_block (world_of s) a n m e) ∷ [] }

made_true : (s : State) (a n m : ℕ) (e : Option ℕ) → s.enabled ≡ true → registered_at s a n m e ≡ made s a n m e
made_true s a n m e on = ap (λ (q : Bool). if q then made s a n m e else s) on

-- where blocks are watched, what stands then is placed: the head and the area are the last two blocks
last_two : (p : Parts) (size : ℕ) (v : VmArea) → (r : IsReady p) → IsTaken p size v → p.settings.enabled ≡ true
    → IsPlaced r.state.words (world_of (made (made (both (counted r.state) v.slot v.head.start.0 v.area.start.0 (4096 * pages_for size)) v.head.start.0 64 1 (Some v.area.start.0)) v.area.start.0 (4096 * pages_for size) 2 None))
last_two p size v r t enabled =
    let s = r.state in
    let x = both (counted s) v.slot v.head.start.0 v.area.start.0 (4096 * pages_for size) in
    let on : s.enabled ≡ true = enabled_is p s r.stands.hosts ∙ enabled in
    let first = subst (λ y. IsPlaced s.words (world_of (state_after s (acts.VmTake size) y))) (sym (take_answers p size (At v.area.start.0) r.whole t.answer s r.stands)) (r.reached.after (acts.VmTake size) 0 (omega arith)) in
    let second = subst (λ y. IsPlaced s.words (world_of y)) (taken_after p size v t s r.stands) first in
    let third = subst (λ y. IsPlaced s.words (world_of (registered_at y v.area.start.0 (4096 * pages_for size) 2 None))) (made_true x v.head.start.0 64 1 (Some v.area.start.0) on) second in
    subst (λ y. IsPlaced s.words (world_of y)) (made_true (made x v.head.start.0 64 1 (Some v.area.start.0)) v.area.start.0 (4096 * pages_for size) 2 None on) third

pub head_place : (p : Parts) (size : ℕ) (v : VmArea) → (r : IsReady p) → IsTaken p size v → p.settings.enabled ≡ true → HasPlace p.objects v.head
head_place p size v r t enabled =
    let s = r.state in
    let x = both (counted s) v.slot v.head.start.0 v.area.start.0 (4096 * pages_for size) in
    let h = next_block (world_of x) v.head.start.0 64 1 (Some v.area.start.0) in
    let y = made x v.head.start.0 64 1 (Some v.area.start.0) in
    let b = next_block (world_of y) v.area.start.0 (4096 * pages_for size) 2 None in
    let placed = last_two p size v r t enabled in
    let bs = blocks_in (tracked_in p.objects.tracker) in
    let blocks : blocks_in ((s.tracked ++ fresh h ∷ []) ++ fresh b ∷ []) ≡ bs ++ h ∷ b ∷ [] =
    blocks_push (s.tracked ++ fresh h ∷ []) (fresh b) [] ∙ ap (λ cs. cs ++ b ∷ []) (blocks_push s.tracked (fresh h) []) ∙ append_two (blocks_in s.tracked) h b ∙ ap (λ ts. blocks_in ts ++ h ∷ b ∷ []) r.stands.objects.tracked in
    let room = r.whole.places in let memory = r.stands.hosts.memory in
    let few = r.few in let registered = r.reached.registered in let same = r.stands.objects.registered in
    has_place p.objects s.words x.used h (b ∷ []) v.head r.reached.memory.1 (omega (arith, room, memory)) (omega (arith, few, registered, same)) placed.allocations
    (subst (λ cs. Each (BlockPlaced x.used) cs) blocks placed.blocks)
    (subst (λ cs. Pairs BlocksApart cs) blocks placed.blocks_apart)
    (subst (λ cs. total (λ (c : Block). c.size) cs ≤ 8 * s.words) blocks placed.room)
    refl t.sizes.0 where
      append_two : (cs : List Block) (h b : Block) → (cs ++ h ∷ []) ++ b ∷ [] ≡ cs ++ h ∷ b ∷ []
      append_two [] h b = refl
      append_two (c ∷ cs) h b = ap (λ xs. c ∷ xs) (append_two cs h b)

pub area_place : (p : Parts) (size : ℕ) (v : VmArea) (o : Objects) → (r : IsReady p) → IsTaken p size v → p.settings.enabled ≡ true
    → ((s : State) → set_in s ≡ p.settings → AreOf p.objects s → AreOf o (registered_at s v.head.start.0 v.head.size 1 (Some v.area.start.0))) → places o ≡ places p.objects
    → HasPlace o v.area
area_place p size v o r t enabled objects same_room =
    let s = r.state in
    let x = both (counted s) v.slot v.head.start.0 v.area.start.0 (4096 * pages_for size) in
    let h = next_block (world_of x) v.head.start.0 64 1 (Some v.area.start.0) in
    let y = made x v.head.start.0 64 1 (Some v.area.start.0) in
    let b = next_block (world_of y) v.area.start.0 (4096 * pages_for size) 2 None in
    let placed = last_two p size v r t enabled in
    let on : s.enabled ≡ true = enabled_is p s r.stands.hosts ∙ enabled in
    let before = objects x r.stands.hosts.settings (same_objects p.objects s x refl refl refl refl refl refl r.stands.objects) in
    let sized = subst (λ n. AreOf o (registered_at x v.head.start.0 n 1 (Some v.area.start.0))) t.sizes.0 before in
    let now = subst (λ z. AreOf o z) (made_true x v.head.start.0 64 1 (Some v.area.start.0) on) sized in
    let blocks : blocks_in (y.tracked ++ fresh b ∷ []) ≡ blocks_in (tracked_in o.tracker) ++ b ∷ [] = blocks_push y.tracked (fresh b) [] ∙ ap (λ ts. blocks_in ts ++ b ∷ []) now.tracked in
    let room = r.whole.places in let memory = r.stands.hosts.memory in
    let few = r.few in let registered = r.reached.registered in let same = now.registered in
    has_place o s.words x.used b [] v.area r.reached.memory.1 (omega (arith, room, memory, same_room)) (omega (arith, few, registered, same)) placed.allocations
    (subst (λ cs. Each (BlockPlaced x.used) cs) blocks placed.blocks)
    (subst (λ cs. Pairs BlocksApart cs) blocks placed.blocks_apart)
    (subst (λ cs. total (λ (c : Block). c.size) cs ≤ 8 * s.words) blocks placed.room)
    refl t.sizes.1

-- both are registered
pub area_taken : (p q : Parts) (h : Hosting) (m : Objects) (size : ℕ) (v : VmArea) → IsReady p → IsTaken p size v
    → q ≡ record p { hosts = h; objects = q.objects }
    → length h.pages ≡ length p.hosts.pages → h.roll ≡ p.hosts.roll
    → ((used : List Allocation) → Hold p.hosts used → Hold h (with_use (with_use used (HeadBlock v.slot) v.head.start.0 64) (AreaRun v.slot) v.area.start.0 (4096 * pages_for size)))
    → ((s : State) → set_in s ≡ p.settings → AreOf p.objects s → AreOf m (registered_at s v.head.start.0 v.head.size 1 (Some v.area.start.0)))
    → ((s : State) → set_in s ≡ p.settings → AreOf m s → AreOf q.objects (registered_at s v.area.start.0 v.area.size 2 None))
    → ((roll : Roll) → Agree p.objects roll → Agree q.objects roll) → places q.objects ≡ places p.objects
    → Answers p q (acts.VmTake size) (At v.area.start.0)
area_taken p q h m size v r t made pages roll held first second agree room =
    does p q (acts.VmTake size) (At v.area.start.0) next (subst IsWhole (sym made) (still_whole p h q.objects r.whole pages roll (agree p.hosts.roll r.whole.agree) room))
    (ap (λ x. x.words) made) (let n = ap (λ x. x.settings.now) made in omega (arith, n))
    (λ s stands reached. take_answers p size (At v.area.start.0) r.whole t.answer s stands)
    (λ s stands reached. taken_after p size v t s stands ∙ ap (λ n. registered_at (registered_at (both (counted s) v.slot v.head.start.0 v.area.start.0 (4096 * pages_for size)) v.head.start.0 n 1 (Some v.area.start.0)) v.area.start.0 (4096 * pages_for size) 2 None) (sym t.sizes.0)
    ∙ ap (λ n. registered_at (registered_at (both (counted s) v.slot v.head.start.0 v.area.start.0 (4096 * pages_for size)) v.head.start.0 v.head.size 1 (Some v.area.start.0)) v.area.start.0 n 2 None) (sym t.sizes.1))
    (λ s stands reached. subst (λ k. HostsStand k (next (counted s))) (sym made)
    (registered_hosts (record p { hosts = h; objects = q.objects }) (one (counted s)) v.area.start.0 v.area.size 2 None
    (registered_hosts (record p { hosts = h; objects = q.objects }) (two (counted s)) v.head.start.0 v.head.size 1 (Some v.area.start.0) (record {
      memory = stands.hosts.memory;
      held = held s.used stands.hosts.held;
      started = stands.hosts.started ∙ ap (λ x. x.started) (sym roll);
      tasks = stands.hosts.tasks ∙ ap (λ x. x.tasks) (sym roll);
      settings = stands.hosts.settings;
    }))))
    (λ s stands reached. second (one (counted s)) (set_same (two (counted s)) ∙ stands.hosts.settings) (first (two (counted s)) stands.hosts.settings (same_objects p.objects s (two (counted s)) refl refl refl refl refl refl stands.objects)))
    refl refl where
      two : State → State
      two x = both x v.slot v.head.start.0 v.area.start.0 (4096 * pages_for size)

      one : State → State
      one x = registered_at (two x) v.head.start.0 v.head.size 1 (Some v.area.start.0)

      next : State → State
      next x = registered_at (one x) v.area.start.0 v.area.size 2 None

      set_same : (x : State) → set_in (registered_at x v.head.start.0 v.head.size 1 (Some v.area.start.0)) ≡ set_in x
      set_same x = elim x.enabled as (λ q. set_in (if q then record x { registered = x.registered + 1; tracked = x.tracked ++ fresh (next_block (world_of x) v.head.start.0 v.head.size 1 (Some v.area.start.0)) ∷ [] } else x) ≡ set_in x) [ true ↦ refl | false ↦ refl ]
