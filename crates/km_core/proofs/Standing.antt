-- How a kernel that stands as a state stands as the next.
use Rattle.std.proofs.Common.{◌≡◌, ℕ, ◌+◌, ◌*◌, ◌≤◌, true, false, length, List, [], ◌∷◌, ◌++◌, Option, None, if◌then◌else◌, refl, sym, ap, ◌∙◌, subst, arith}
use Rattle.km_base.specs.declared.acts.Act.{Act}
use Rattle.km_base.specs.declared.acts.Answer.{Answer}
use Rattle.km_base.specs.declared.acts.Answer.TheVariants.{Refused}
use Rattle.km_base.specs.declared.acts.Refusal.{Refusal}
use Rattle.km_base.specs.declared.spans.Span.{Span}
use Rattle.km_model.specs.History.{ticks_of, value_of}
use Rattle.km_model.specs.Blocks.{Block}
use Rattle.km_model.specs.Past.{is_refused}
use Rattle.km_model.specs.Placement.{Use}
use Rattle.km_model.specs.World.{next_block}
use Rattle.km_model.proofs.Lists.{Each, Pairs}
use Rattle.km_state.specs.State.{State, Tracked, blocks_in, fresh, world_of}
use Rattle.km_state.specs.StateAnswers.{state_answer}
use Rattle.km_state.specs.StateAfter.{state_after, allocated, registered_at}
use Rattle.km_laws.specs.Laws.{IsPlaced}
use Rattle.km_laws.specs.Left.{total}
use Rattle.km_laws.specs.Placed.{BlocksApart, BlockPlaced}
use Rattle.km_tasks.specs.Roll.{Roll}
use Rattle.km_track.specs.Tracker.{tracked_in}
use Rattle.km_reach.specs.Reached.{IsReached}
use Rattle.km_hosts.specs.Hosting.{Hosting, Hold, with_use}
use Rattle.km_objects.specs.Objects.{Objects, Agree, AreOf, places}
use Rattle.km_core.specs.Parts.{Answers, HasPlace, HostsStand, IsReady, IsWhole, Parts, StandsAs, set_in}
use Rattle.km_core.proofs.Marks.{counted}
use Rattle.km_core.proofs.Places.{has_place}

-- the same blocks and scans
pub same_objects : (o : Objects) (s t : State) → t.registered ≡ s.registered → t.tracked ≡ s.tracked → t.scans ≡ s.scans → t.begun ≡ s.begun → t.scan ≡ s.scan → t.stacks ≡ s.stacks → AreOf o s → AreOf o t
same_objects o s t a b c d e f r = record {
  registered = a ∙ r.registered;
  tracked = b ∙ r.tracked;
  scans = c ∙ r.scans;
  begun = d ∙ r.begun;
  scan = e ∙ r.scan;
  stacks = λ w g. f ∙ r.stacks w g;
}

-- one event more changes nothing that a kernel stands as
pub counted_hosts : (p : Parts) (s : State) → HostsStand p s → HostsStand p (counted s)
counted_hosts p s r = record { memory = r.memory; held = r.held; started = r.started; tasks = r.tasks; settings = r.settings }

pub counted_stands : (p : Parts) (s : State) → StandsAs p s → StandsAs p (counted s)
counted_stands p s r = record { hosts = counted_hosts p s r.hosts; objects = same_objects p.objects s (counted s) refl refl refl refl refl refl r.objects }

-- a refusal
pub refused : (p q : Parts) (act : Act) (r : Refusal) → IsWhole p → q ≡ p → ticks_of act ≡ 0
    → ((s : State) → StandsAs p s → IsReached s → Refused r ≡ state_answer s act 0) → Answers p q act (Refused r)
refused p q act r whole same still answer = record {
  answer = answer;
  state = λ s stands reached. subst (λ x. StandsAs x (counted s)) (sym same) (counted_stands p s stands);
  whole = subst IsWhole (sym same) whole;
  words = ap (λ x. x.words) same;
  now = (let n = still in let m = ap (λ x. x.settings.now) same in omega (arith, n, m));
  refused = λ _. same;
}

-- a block that is registered, or not
pub registered_hosts : (p : Parts) (s : State) (a n m : ℕ) (e : Option ℕ) → HostsStand p s → HostsStand p (registered_at s a n m e)
registered_hosts p s a n m e r =
    elim s.enabled as (λ q. HostsStand p (if q then record s { registered = s.registered + 1; tracked = s.tracked ++ fresh (next_block (world_of s) a n m e) ∷ [] } else s)) [
      | true ↦ record { memory = r.memory; held = r.held; started = r.started; tasks = r.tasks; settings = r.settings }
      | false ↦ r
    ]

-- an allocation that the hosts hold
pub allocated_hosts : (p : Parts) (h : Hosting) (s : State) (what : Use) (a n : ℕ) → HostsStand p s → Hold h (with_use s.used what a n) → h.roll ≡ p.hosts.roll → HostsStand (record p { hosts = h }) (allocated s what a n)
allocated_hosts p h s what a n r held roll = record {
  memory = r.memory;
  held = held;
  started = r.started ∙ ap (λ x. x.started) (sym roll);
  tasks = r.tasks ∙ ap (λ x. x.tasks) (sym roll);
  settings = r.settings;
}

pub allocated_objects : (o : Objects) (s : State) (what : Use) (a n : ℕ) → AreOf o s → AreOf o (allocated s what a n)
allocated_objects o s what a n r = same_objects o s (allocated s what a n) refl refl refl refl refl refl r

-- the hosts are as many pages, the tasks the same, and the blocks have as many places
pub still_whole : (p : Parts) (h : Hosting) (o : Objects) → IsWhole p → length h.pages ≡ length p.hosts.pages → h.roll ≡ p.hosts.roll → Agree o p.hosts.roll → places o ≡ places p.objects
    → IsWhole (record p { hosts = h; objects = o })
still_whole p h o w pages roll agree room = record {
  memory = w.memory;
  pages = (let a = w.pages in omega (arith, a, pages));
  agree = subst (λ r. Agree o r) (sym roll) agree;
  places = room ∙ w.places;
  now = w.now;
  period = w.period;
}

pub enabled_is : (p : Parts) (s : State) → HostsStand p s → s.enabled ≡ p.settings.enabled
enabled_is p s r = ap (λ x. x.enabled) r.settings

pub blocks_push : (ts : List Tracked) (t : Tracked) (us : List Tracked) → blocks_in (ts ++ t ∷ us) ≡ blocks_in ts ++ t.block ∷ blocks_in us
blocks_push [] t us = refl
blocks_push (u ∷ ts) t us = ap (λ xs. u.block ∷ xs) (blocks_push ts t us)

-- the block of an act that registers one can be registered
pub placeable : (p : Parts) (act : Act) (given : Answer) (what : Use) (bytes : ℕ) (span : Span) (minimum : ℕ) (excess : Option ℕ) → (r : IsReady p)
    → given ≡ state_answer r.state act 0
    → state_after r.state act given ≡ registered_at (allocated (counted r.state) what span.start.0 bytes) span.start.0 span.size minimum excess
    → p.settings.enabled ≡ true → HasPlace p.objects span
placeable p act given what bytes span minimum excess r answer after enabled =
    let s = r.state in
    let x = allocated (counted s) what span.start.0 bytes in
    let b = next_block (world_of x) span.start.0 span.size minimum excess in
    let made : State = record x { registered = x.registered + 1; tracked = x.tracked ++ fresh b ∷ [] } in
    let first = subst (λ y. IsPlaced s.words (world_of (state_after s act y))) (sym answer) (r.reached.after act 0 (omega arith)) in
    let second = subst (λ y. IsPlaced s.words (world_of y)) after first in
    let placed = subst (λ q. IsPlaced s.words (world_of (if q then made else x))) (enabled_is p s r.stands.hosts ∙ enabled) second in
    let bs = blocks_in (tracked_in p.objects.tracker) in
    let blocks : blocks_in made.tracked ≡ bs ++ b ∷ [] = blocks_push s.tracked (fresh b) [] ∙ ap (λ ts. blocks_in ts ++ b ∷ []) r.stands.objects.tracked in
    let room = r.whole.places in let memory = r.stands.hosts.memory in
    let few = r.few in let registered = r.reached.registered in let same = r.stands.objects.registered in
    has_place p.objects s.words made.used b [] span r.reached.memory.1 (omega (arith, room, memory)) (omega (arith, few, registered, same)) placed.allocations
    (subst (λ cs. Each (BlockPlaced made.used) cs) blocks placed.blocks)
    (subst (λ cs. Pairs BlocksApart cs) blocks placed.blocks_apart)
    (subst (λ cs. total (λ (c : Block). c.size) cs ≤ 8 * s.words) blocks placed.room)
    refl refl

-- an act that allocates and registers a block
pub registering : (p q : Parts) (h : Hosting) (act : Act) (given : Answer) (what : Use) (bytes : ℕ) (span : Span) (minimum : ℕ) → IsWhole p
    → length h.pages ≡ length p.hosts.pages → h.roll ≡ p.hosts.roll
    → q ≡ record p { hosts = h; objects = q.objects }
    → ((s : State) → StandsAs p s → Hold h (with_use s.used what span.start.0 bytes))
    → ((s : State) → set_in s ≡ p.settings → AreOf p.objects s → AreOf q.objects (registered_at s span.start.0 span.size minimum None))
    → ((roll : Roll) → Agree p.objects roll → Agree q.objects roll) → places q.objects ≡ places p.objects
    → ((s : State) → StandsAs p s → given ≡ state_answer s act 0)
    → ((s : State) → StandsAs p s → state_after s act given ≡ registered_at (allocated (counted s) what span.start.0 bytes) span.start.0 span.size minimum None)
    → ticks_of act ≡ 0 → value_of given ≡ 0 → is_refused given ≡ false
    → Answers p q act given
registering p q h act given what bytes span minimum w pages roll made held objects agree room answer after still none good = record {
  answer = λ s stands reached. subst (λ v. given ≡ state_answer s act v) (sym none) (answer s stands);
  state = λ s stands reached.
      let x = allocated (counted s) what span.start.0 bytes in
      subst (λ y. StandsAs q y) (sym (after s stands)) (subst (λ k. StandsAs k (registered_at x span.start.0 span.size minimum None)) (sym made) (record {
        hosts = registered_hosts (record p { hosts = h; objects = q.objects }) x span.start.0 span.size minimum None
            (moved s stands (allocated_hosts p h (counted s) what span.start.0 bytes (counted_hosts p s stands.hosts) (held s stands) roll));
        objects = objects x (stands.hosts.settings) (allocated_objects p.objects (counted s) what span.start.0 bytes (counted_stands p s stands).objects);
      }));
  whole = subst IsWhole (sym made) (still_whole p h q.objects w pages roll (agree p.hosts.roll w.agree) room);
  words = ap (λ x. x.words) made;
  now = (let n = ap (λ x. x.settings.now) made in omega (arith, n, still));
  refused = λ bad. absurd (let z : ⊥ = cc in z);
} where
  moved : (s : State) → StandsAs p s → HostsStand (record p { hosts = h }) (allocated (counted s) what span.start.0 bytes) → HostsStand (record p { hosts = h; objects = q.objects }) (allocated (counted s) what span.start.0 bytes)
  moved s stands r = record { memory = r.memory; held = r.held; started = r.started; tasks = r.tasks; settings = r.settings }

-- a refusal by a call that changed nothing
pub refused_now : (p : Parts) (act : Act) (r : Refusal) → IsWhole p → ticks_of act ≡ 0 → ((s : State) → StandsAs p s → IsReached s → Refused r ≡ state_answer s act 0) → Answers p p act (Refused r)
refused_now p act r whole still answer = refused p p act r whole refl still answer

-- an accepted act, by what it makes of a state in which the event is counted
pub does : (p q : Parts) (act : Act) (given : Answer) (next : State → State) → IsWhole q → q.words ≡ p.words → q.settings.now ≡ p.settings.now + ticks_of act
    → ((s : State) → StandsAs p s → IsReached s → given ≡ state_answer s act 0)
    → ((s : State) → StandsAs p s → IsReached s → state_after s act given ≡ next (counted s))
    → ((s : State) → StandsAs p s → IsReached s → HostsStand q (next (counted s)))
    → ((s : State) → StandsAs p s → IsReached s → AreOf q.objects (next (counted s)))
    → value_of given ≡ 0 → is_refused given ≡ false
    → Answers p q act given
does p q act given next whole words now answer after hosts objects none good = record {
  answer = λ s stands reached. subst (λ v. given ≡ state_answer s act v) (sym none) (answer s stands reached);
  state = λ s stands reached. subst (λ y. StandsAs q y) (sym (after s stands reached)) (record { hosts = hosts s stands reached; objects = objects s stands reached });
  whole = whole;
  words = words;
  now = now;
  refused = λ bad. absurd (let z : ⊥ = cc in z);
}

-- a refusal by hosts that changed nothing
pub refused_at : (p : Parts) (h : Hosting) (act : Act) (r : Refusal) → IsWhole p → h ≡ p.hosts → ticks_of act ≡ 0
    → ((s : State) → StandsAs p s → IsReached s → Refused r ≡ state_answer s act 0) → Answers p (record p { hosts = h }) act (Refused r)
refused_at p h act r whole same still answer = refused p (record p { hosts = h }) act r whole (ap (λ (x : Hosting). record p { hosts = x }) same) still answer

-- other blocks and scans, over the same hosts
pub over_objects : (p : Parts) (o : Objects) (s : State) → HostsStand p s → HostsStand (record p { objects = o }) s
over_objects p o s r = record { memory = r.memory; held = r.held; started = r.started; tasks = r.tasks; settings = r.settings }

pub with_objects : (p : Parts) (o : Objects) → IsWhole p → Agree o p.hosts.roll → places o ≡ places p.objects → IsWhole (record p { objects = o })
with_objects p o w agree room = still_whole p p.hosts o w refl refl agree room

-- an accepted act that leaves the hosts and what is set
pub does_objects : (p : Parts) (o : Objects) (act : Act) (given : Answer) (next : State → State) → IsWhole p → Agree o p.hosts.roll → places o ≡ places p.objects → ticks_of act ≡ 0
    → ((s : State) → StandsAs p s → IsReached s → given ≡ state_answer s act 0)
    → ((s : State) → StandsAs p s → IsReached s → state_after s act given ≡ next (counted s))
    → ((s : State) → HostsStand p s → HostsStand p (next s))
    → ((s : State) → StandsAs p s → IsReached s → AreOf o (next (counted s)))
    → value_of given ≡ 0 → is_refused given ≡ false
    → Answers p (record p { objects = o }) act given
does_objects p o act given next w agree room still answer after hosts objects none good =
    does p (record p { objects = o }) act given next (with_objects p o w agree room) refl (let n = still in omega (arith, n)) answer after
    (λ s stands reached. over_objects p o (next (counted s)) (hosts (counted s) (counted_hosts p s stands.hosts))) objects none good
