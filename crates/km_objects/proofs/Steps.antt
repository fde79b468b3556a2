use Rattle.std.proofs.Common.{◌≡◌, ℕ, ◌+◌, List, [], ◌∷◌, map, length, Option, Some, None, option_map, refl, sym, ap, ◌∙◌, subst}
use Rattle.std.proofs.lemmas.List.{length-map}
use Rattle.km_base.specs.declared.acts.Act.TheVariants.{Step}
use Rattle.km_base.specs.declared.acts.Answer.{Answer}
use Rattle.km_base.specs.declared.acts.Answer.TheVariants.{Ended, Loaded, Refused}
use Rattle.km_base.specs.declared.acts.Refusal.TheVariants.{NoScanRunning}
use Rattle.km_model.specs.History.{value_of}
use Rattle.km_model.specs.Past.{Place, ScanLoad}
use Rattle.km_state.specs.State.{Scanning, State, Tracked, opened}
use Rattle.km_state.specs.StateAfter.{changed, judged, scan_after_load, state_after, sum_of}
use Rattle.km_state.specs.StateAnswers.{new_in, state_answer, stepped}
use Rattle.km_state.specs.StateNext.{load_at, load_in, next_in, queue_at, scan_told, state_next, sum_after, told}
use Rattle.km_tasks.specs.Roll.{Roll}
use Rattle.km_track.specs.Tracker.{Live, Tracker, tracked_in}
use Rattle.km_verdict.specs.Listing.{flagged}
use Rattle.km_scan.specs.declared.sweep.Sweep.{Sweep}
use Rattle.km_scan.specs.declared.places.At.{At}
use Rattle.km_scan.specs.Places.{place_of}
use Rattle.km_scan.specs.Stand.{IsDue, Stand, due_in, load_told, running_in, scanning_of, seen, sweep_told}
use Rattle.km_scan.proofs.InState.{blocks_step, due_step, moved_step}
use Rattle.km_objects.specs.Objects.{Agree, AreOf, Objects}
use Rattle.km_objects.specs.Steps.{IsStep}

-- a step of the scanner in the words of the state

-- the running scan of a state
pub scan_is : (o : Objects) (w : Sweep) (s : State) → AreOf o s → o.stand.sweep ≡ Some w → s.scan ≡ Some (scanning_of o.tracker w)
scan_is o w s are running = are.scan ∙ ap (option_map (scanning_of o.tracker)) running

-- its next load is that of what a scanner sees
pub next_is : (o : Objects) (roll : Roll) (w : Sweep) (s : State) → AreOf o s → s.tasks ≡ roll.tasks → o.stand.sweep ≡ Some w
    → state_next s ≡ next_in (seen o.stand.stacks o.tracker roll) (scanning_of o.tracker w)
unfolding state_next
next_is o roll w s are tasks running =
    ap (λ x. elim x as (λ _. Option Place) [ None ↦ None | Some c ↦ next_in s c ]) (scan_is o w s are running)
    ∙ (λ i. next_in (record (opened 0) { stacks = are.stacks w running i; tasks = tasks i; tracked = are.tracked i }) (scanning_of o.tracker w))

-- the answers
pub load_answer : (s : State) (c : Scanning) (p : Place) (value : ℕ) → s.scan ≡ Some c → state_next s ≡ Some p → state_answer s Step value ≡ Loaded p.word value
unfolding state_answer
load_answer s c p value running next =
    ap (λ x. elim x as (λ _. Answer) [ None ↦ Refused NoScanRunning | Some _ ↦ stepped s (state_next s) value ]) running ∙ ap (λ q. stepped s q value) next

pub end_answer : (s : State) (c : Scanning) (value : ℕ) → s.scan ≡ Some c → state_next s ≡ None → state_answer s Step value ≡ Ended s.scans (new_in s.begun s.tracked)
unfolding state_answer
end_answer s c value running next =
    ap (λ x. elim x as (λ _. Answer) [ None ↦ Refused NoScanRunning | Some _ ↦ stepped s (state_next s) value ]) running ∙ ap (λ q. stepped s q value) next

pub idle_answer : (s : State) (value : ℕ) → s.scan ≡ None → state_answer s Step value ≡ Refused NoScanRunning
unfolding state_answer
idle_answer s value idle = ap (λ x. elim x as (λ _. Answer) [ None ↦ Refused NoScanRunning | Some _ ↦ stepped s (state_next s) value ]) idle

-- a load in a state
load_is : (s : State) (c : Scanning) (p : Place) (a value : ℕ) → s.scan ≡ Some c → state_next s ≡ Some p → load_in s Step (Loaded a value) ≡ Some (load_at s c p value)
load_is s c p a value running next =
    λ i. elim (running i) as (λ _. Option ScanLoad) [ None ↦ None | Some d ↦ elim (next i) as (λ _. Option ScanLoad) [ None ↦ None | Some place ↦ Some (load_at s d place value) ] ]

-- the blocks and scans of a state after a load
pub load_after : (o : Objects) (roll : Roll) (w v : Sweep) (t : Tracker) (p : Place) (a value : ℕ) (s : State)
    → AreOf o s → s.tasks ≡ roll.tasks → o.stand.sweep ≡ Some w → next_in (seen o.stand.stacks o.tracker roll) (scanning_of o.tracker w) ≡ Some p
    → tracked_in t ≡ map (told (load_at (seen o.stand.stacks o.tracker roll) (scanning_of o.tracker w) p value) (sum_after (scanning_of o.tracker w) p value)) (tracked_in o.tracker)
    → scanning_of t v ≡ scan_told (scanning_of o.tracker w) (load_at (seen o.stand.stacks o.tracker roll) (scanning_of o.tracker w) p value)
    → t.registered ≡ o.tracker.registered
    → AreOf (record { tracker = t; stand = record o.stand { sweep = Some v } }) (state_after s Step (Loaded a value))
unfolding changed
load_after o roll w v t p a value s are tasks running next blocks scan registered =
    let c = scanning_of o.tracker w in
    let in_scan = scan_is o w s are running in
    let load = load_is s c p a value in_scan (next_is o roll w s are tasks running ∙ next) in
    let same : load_at s c p value ≡ load_at (seen o.stand.stacks o.tracker roll) c p value = λ i. load_at (record (opened 0) { stacks = o.stand.stacks; tasks = roll.tasks; tracked = are.tracked i }) c p value in
    record {
      registered = are.registered ∙ sym registered;
      tracked =
          (λ i. elim (load i) as (λ _. List Tracked) [ None ↦ s.tracked | Some l ↦ map (told l (sum_of (scan_after_load (in_scan i) (load i)))) s.tracked ])
          ∙ (λ i. map (told (same i) (sum_after c p value)) (are.tracked i))
          ∙ sym blocks;
      scans = are.scans;
      begun = are.begun;
      scan = (λ i. scan_after_load (in_scan i) (load i)) ∙ ap (λ l. Some (scan_told c l)) same ∙ ap (λ x. Some x) (sym scan);
      stacks = λ _ _. are.stacks w running;
    }

no_sweep : (w : Sweep) → None ≡ Some w → ⊥
no_sweep w e = let z : ⊥ = cc in z

-- after its end
pub end_after : (o : Objects) (queue : List ℕ) (k n : ℕ) (s : State) → AreOf o s
    → AreOf (record { tracker = flagged o.stand.begun (record o.tracker { queue = queue }); stand = record o.stand { sweep = None } }) (state_after s Step (Ended k n))
unfolding changed
end_after o queue k n s are = record {
  registered = are.registered;
  tracked = (λ i. map (judged (are.begun i)) (are.tracked i)) ∙ joined o.tracker.live;
  scans = are.scans;
  begun = are.begun;
  scan = refl;
  stacks = λ w e. absurd (no_sweep w e);
}
  where
    joined : (ls : List Live) → map (judged o.stand.begun) (map (λ (l : Live). l.tracked) ls) ≡ map (λ (l : Live). l.tracked) (map (λ (l : Live). record l { tracked = judged o.stand.begun l.tracked }) ls)
    joined [] = refl
    joined (x ∷ ls) = ap (λ us. judged o.stand.begun x.tracked ∷ us) (joined ls)

-- a load is a step
pub loads : (t u : Tracker) (k j : Stand) (roll : Roll) (w v : Sweep) (p : Place) (a : ℕ) (answer : Answer)
    → k.sweep ≡ Some w → next_in (seen k.stacks t roll) (scanning_of t w) ≡ Some p → p.word ≡ a → answer ≡ Loaded a (value_of answer) → j ≡ record k { sweep = Some v }
    → tracked_in u ≡ map (told (load_at (seen k.stacks t roll) (scanning_of t w) p (value_of answer)) (sum_after (scanning_of t w) p (value_of answer))) (tracked_in t)
    → scanning_of u v ≡ scan_told (scanning_of t w) (load_at (seen k.stacks t roll) (scanning_of t w) p (value_of answer))
    → u.registered ≡ t.registered → u.spare ≡ t.spare → Agree (record { tracker = u; stand = j }) roll
    → IsStep (record { tracker = t; stand = k }) roll answer (record { tracker = u; stand = j })
loads t u k j roll w v p a answer running next word is stand blocks scan registered spare agree =
    let o : Objects = record { tracker = t; stand = k } in
    record {
      answered = λ s are tasks.
          is ∙ ap (λ n. Loaded n (value_of answer)) (sym word) ∙ sym (load_answer s (scanning_of t w) p (value_of answer) (scan_is o w s are running) (next_is o roll w s are tasks running ∙ next));
      state = λ s are tasks.
          subst (λ (x : Answer). AreOf (record { tracker = u; stand = j }) (state_after s Step x)) (sym is)
          (subst (λ (x : Stand). AreOf (record { tracker = u; stand = x }) (state_after s Step (Loaded a (value_of answer)))) (sym stand)
          (load_after o roll w v u p a (value_of answer) s are tasks running next blocks scan registered));
      agree = agree;
      room = (λ i. spare i + length u.live) ∙ ap (λ n. t.spare + n) (sym (length-map u.live _) ∙ ap (λ (us : List Tracked). length us) blocks ∙ length-map (tracked_in t) _ ∙ length-map t.live _);
    }

-- the load that was due
pub due_loads : (t u : Tracker) (k j : Stand) (roll : Roll) (w : Sweep) (p : Place) (a : ℕ) (answer : Answer)
    → k.sweep ≡ Some w → w.ready ≡ None → due_in w t roll ≡ Some p → next_in (seen k.stacks t roll) (scanning_of t w) ≡ Some p → p.word ≡ a → answer ≡ Loaded a (value_of answer)
    → (at : At) × (place_of at ≡ p) × (j ≡ record k { sweep = Some (sweep_told w at (value_of answer) t) }) → u ≡ load_told k.stacks w p (value_of answer) t roll → Agree (record { tracker = u; stand = j }) roll
    → IsStep (record { tracker = t; stand = k }) roll answer (record { tracker = u; stand = j })
due_loads t u k j roll w p a answer running ready due next word is stand after agree =
    let at = stand.0 in
    let value = value_of answer in
    loads t u k j roll w (sweep_told w at value t) p a answer running next word is stand.2
    (ap tracked_in after ∙ blocks_step k.stacks w t roll p value)
    (ap (λ (x : Tracker). scanning_of x (sweep_told w at value t)) after
    ∙ subst (λ (q : Place). scanning_of (load_told k.stacks w q value t roll) (sweep_told w at value t) ≡ scan_told (scanning_of t w) (load_at (seen k.stacks t roll) (scanning_of t w) q value)) stand.1
    (due_step k.stacks w t roll at value ready (due ∙ ap (λ q. Some q) (sym stand.1))))
    (ap (λ (x : Tracker). x.registered) after) (ap (λ (x : Tracker). x.spare) after) agree

-- a scanner has moved on to a load
pub record Moved (t : Tracker) (k : Stand) (roll : Roll) (moved : Tracker) (stand : Stand) : Type 0 where
  pub w : Sweep
  pub p : Place
  pub at : At
  pub running : k.sweep ≡ Some w
  pub next : next_in (seen k.stacks t roll) (scanning_of t w) ≡ Some p
  pub place : place_of at ≡ p
  pub ready : stand ≡ record k { sweep = Some (record w { ready = Some at }) }
  pub queue : moved ≡ record t { queue = queue_at (scanning_of t w) p }

pub has_moved : (t u : Tracker) (k j : Stand) (roll : Roll) (r : Option ℕ) → r ≡ None → (w : Sweep) → k.sweep ≡ Some w
    → ((p : Place) → next_in (seen k.stacks t roll) (scanning_of t w) ≡ Some p → (r ≡ None) × (at : At) × (place_of at ≡ p) × (j ≡ record k { sweep = Some (record w { ready = Some at }) }))
    → ((p : Place) → next_in (seen k.stacks t roll) (scanning_of t w) ≡ Some p → u ≡ record t { queue = queue_at (scanning_of t w) p })
    → (next_in (seen k.stacks t roll) (scanning_of t w) ≡ None → (r ≡ Some k.scans) × (j ≡ record k { sweep = None }) × (u ≡ record t { queue = [] }))
    → Moved t k roll u j
has_moved t u k j roll r none w running place queue ended = on (next_in (seen k.stacks t roll) (scanning_of t w)) refl
  where
    on : (x : Option Place) → next_in (seen k.stacks t roll) (scanning_of t w) ≡ x → Moved t k roll u j
    on None e = absurd (let there = (ended e).0 in let z : ⊥ = cc in z)
    on (Some p) e =
        let h = place p e in
        record { w = w; p = p; at = h.1; running = running; next = e; place = h.2; ready = h.3; queue = queue p e }

-- the load that is due then
pub moved_due : (t m : Tracker) (k n : Stand) (roll : Roll) (v : Moved t k roll m n) (at : At) → IsDue n at m roll → place_of at ≡ v.p
moved_due t m k n roll v at d =
    let there : Some d.sweep ≡ Some (record v.w { ready = Some v.at }) = sym d.running ∙ ap (λ (x : Stand). x.sweep) v.ready in
    let same : d.sweep ≡ record v.w { ready = Some v.at } = cc in
    let due : Some (place_of v.at) ≡ Some (place_of at) = sym (ap (λ (w : Sweep). due_in w m roll) same) ∙ d.place in
    let is : place_of at ≡ place_of v.at = cc in
    is ∙ v.place

-- the load that it moved to
pub moved_loads : (t m u : Tracker) (k n j : Stand) (roll : Roll) (v : Moved t k roll m n) (a : ℕ) (answer : Answer) → v.p.word ≡ a → answer ≡ Loaded a (value_of answer)
    → (at : At) × (place_of at ≡ v.p) × (j ≡ record n { sweep = Some (sweep_told (record v.w { ready = Some v.at }) at (value_of answer) m) }) → u ≡ load_told n.stacks (record v.w { ready = Some v.at }) v.p (value_of answer) m roll
    → Agree (record { tracker = u; stand = j }) roll → IsStep (record { tracker = t; stand = k }) roll answer (record { tracker = u; stand = j })
moved_loads t m u k n j roll v a answer word is stand after agree =
    let at = stand.0 in
    let value = value_of answer in
    let w : Sweep = record v.w { ready = Some v.at } in
    let c = scanning_of t v.w in
    let x : Tracker = record t { queue = queue_at c v.p } in
    let then_told : u ≡ load_told k.stacks w v.p value x roll = after ∙ ap (λ (y : Stand). load_told y.stacks w v.p value m roll) v.ready ∙ ap (λ (y : Tracker). load_told k.stacks w v.p value y roll) v.queue in
    loads t u k j roll v.w (sweep_told w at value m) v.p a answer v.running v.next word is (stand.2 ∙ ap (λ (y : Stand). record y { sweep = Some (sweep_told w at value m) }) v.ready)
    (ap tracked_in then_told ∙ blocks_step k.stacks w x roll v.p value)
    (ap (λ (y : Tracker). scanning_of y (sweep_told w at value m)) then_told
    ∙ subst (λ (q : Place). scanning_of (load_told k.stacks w q value (record t { queue = queue_at c q }) roll) (sweep_told w at value m) ≡ scan_told c (load_at (seen k.stacks t roll) c q value)) stand.1 (moved_step k.stacks v.w t roll at value))
    (ap (λ (y : Tracker). y.registered) then_told) (ap (λ (y : Tracker). y.spare) then_told) agree

-- the end of a scan
pub has_ended : (f : Option Place) (r : Option ℕ) (n : ℕ) → r ≡ Some n → ((p : Place) → f ≡ Some p → r ≡ None) → f ≡ None
has_ended None r n e none = refl
has_ended (Some p) r n e none = absurd (let there = none p refl in let z : ⊥ = cc in z)

ends_in : (t : Tracker) (k : Stand) (roll : Roll) (w : Sweep) → k.sweep ≡ Some w → next_in (seen k.stacks t roll) (scanning_of t w) ≡ None
    → IsStep (record { tracker = t; stand = k }) roll (Ended k.scans (new_in k.begun (tracked_in t))) (record { tracker = flagged k.begun (record t { queue = [] }); stand = record k { sweep = None } })
ends_in t k roll w running next = record {
  answered = λ s are tasks.
      (λ i. Ended (sym are.scans i) (new_in (sym are.begun i) (sym are.tracked i)))
      ∙ sym (end_answer s (scanning_of t w) 0 (scan_is (record { tracker = t; stand = k }) w s are running) (next_is (record { tracker = t; stand = k }) roll w s are tasks running ∙ next));
  state = λ s are tasks. end_after (record { tracker = t; stand = k }) [] k.scans (new_in k.begun (tracked_in t)) s are;
  agree = record { settled = λ v e. absurd (no_sweep v e); fits = λ v e. absurd (no_sweep v e) };
  room = ap (λ n. t.spare + n) same_count;
}
  where
    same_count : length (map (λ (l : Live). record l { tracked = judged k.begun l.tracked }) t.live) ≡ length t.live
    same_count = length-map t.live (λ (l : Live). record l { tracked = judged k.begun l.tracked })

pub ends_step : (t m u : Tracker) (k j : Stand) (roll : Roll) (w : Sweep) (scan began new : ℕ) → k.sweep ≡ Some w → next_in (seen k.stacks t roll) (scanning_of t w) ≡ None
    → scan ≡ k.scans → j ≡ record k { sweep = None } → m ≡ record t { queue = [] } → began ≡ j.begun → new ≡ new_in began (tracked_in m) → u ≡ flagged began m
    → IsStep (record { tracker = t; stand = k }) roll (Ended scan new) (record { tracker = u; stand = j })
ends_step t m u k j roll w scan began new running next number stand queue begun count verdict =
    let at : began ≡ k.begun = begun ∙ ap (λ (x : Stand). x.begun) stand in
    let told : new ≡ new_in k.begun (tracked_in t) = count ∙ (λ i. new_in (at i) (tracked_in (queue i))) in
    let after : u ≡ flagged k.begun (record t { queue = [] }) = verdict ∙ (λ i. flagged (at i) (queue i)) in
    subst (λ (x : Tracker). IsStep (record { tracker = t; stand = k }) roll (Ended scan new) (record { tracker = x; stand = j })) (sym after)
    (subst (λ (x : Stand). IsStep (record { tracker = t; stand = k }) roll (Ended scan new) (record { tracker = flagged k.begun (record t { queue = [] }); stand = x })) (sym stand)
    (subst (λ (x : Answer). IsStep (record { tracker = t; stand = k }) roll x (record { tracker = flagged k.begun (record t { queue = [] }); stand = record k { sweep = None } })) (λ i. Ended (sym number i) (sym told i))
    (ends_in t k roll w running next)))

-- a scan is running, or none is
pub is_running : (k : Stand) (n : ℕ) → running_in k ≡ Some n → (w : Sweep) × (k.sweep ≡ Some w)
is_running k n e = on k.sweep refl e
  where
    on : (x : Option Sweep) → k.sweep ≡ x → (elim x as (λ _. Option ℕ) [ None ↦ None | Some _ ↦ Some k.scans ]) ≡ Some n → (w : Sweep) × (k.sweep ≡ Some w)
    on None s h = absurd (let z : ⊥ = cc in z)
    on (Some w) s h = (w, s)

pub is_idle : (k : Stand) → running_in k ≡ None → k.sweep ≡ None
is_idle k e = on k.sweep e
  where
    on : (x : Option Sweep) → (elim x as (λ _. Option ℕ) [ None ↦ None | Some _ ↦ Some k.scans ]) ≡ None → x ≡ None
    on None h = refl
    on (Some w) h = absurd (let z : ⊥ = cc in z)

pub idle_step : (t : Tracker) (k : Stand) (roll : Roll) → k.sweep ≡ None → Agree (record { tracker = t; stand = k }) roll
    → IsStep (record { tracker = t; stand = k }) roll (Refused NoScanRunning) (record { tracker = t; stand = k })
idle_step t k roll idle agree = record {
  answered = λ s are tasks. sym (idle_answer s 0 (are.scan ∙ ap (option_map (scanning_of t)) idle));
  state = λ s are tasks. record { registered = are.registered; tracked = are.tracked; scans = are.scans; begun = are.begun; scan = are.scan; stacks = are.stacks };
  agree = agree;
  room = refl;
}

-- the same of what a step is made on
pub step_of : (o i left : Objects) (roll : Roll) (answer : Answer) → i ≡ o → IsStep i roll answer left → IsStep o roll answer left
step_of o i left roll answer same step = subst (λ (x : Objects). IsStep x roll answer left) same step
