use Rattle.std.proofs.Common.{◌≡◌, ℕ, ◌+◌, Bool, map, Some, sym, ap, ◌∙◌, subst}
use Rattle.km_state.specs.State.{State}
use Rattle.km_state.specs.StateAfter.{begun_scan, uncounted}
use Rattle.km_track.specs.Tracker.{Tracker, scan_started}
use Rattle.km_scan.specs.Stand.{Stand, started}
use Rattle.km_scan.proofs.InState.{begun_step, uncounted_step}
use Rattle.km_objects.specs.Objects.{AreOf, Objects, scan_begun}

-- calls that begin a scan, or unregister a block under one

pub begun_are : (o : Objects) (t u : Tracker) (k j : Stand) (s : State) (now : ℕ) (stacks : Bool) → record { tracker = t; stand = k } ≡ o
    → j ≡ record { scans = k.scans + 1; begun = now; stacks = stacks; sweep = Some started } → u ≡ scan_started t → s.now ≡ now → s.stacks ≡ stacks → AreOf o s → AreOf (record { tracker = u; stand = j }) (scan_begun s)
begun_are o t u k j s now stacks view begun queue at in_stacks are =
    let old : AreOf (record { tracker = t; stand = k }) s = subst (λ (x : Objects). AreOf x s) (sym view) are in
    let new : AreOf (record { tracker = scan_started t; stand = record { scans = k.scans + 1; begun = now; stacks = stacks; sweep = Some started } }) (scan_begun s) = record {
      registered = old.registered;
      tracked = ap (map uncounted) old.tracked ∙ sym (uncounted_step t);
      scans = ap (λ n. n + 1) old.scans;
      begun = at;
      scan = ap (λ us. Some (begun_scan us)) old.tracked ∙ ap (λ c. Some c) (sym (begun_step t));
      stacks = λ _ _. in_stacks;
    } in
    subst (λ (x : Tracker). AreOf (record { tracker = x; stand = j }) (scan_begun s)) (sym queue)
    (subst (λ (x : Stand). AreOf (record { tracker = scan_started t; stand = x }) (scan_begun s)) (sym begun) new)
