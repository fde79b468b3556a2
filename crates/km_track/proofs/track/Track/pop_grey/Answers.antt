use Rattle.std.proofs.Common.{◌≡◌, ℕ, false, drop, sym, ap, subst}
use Rattle.km_links.specs.Chains.{is_in}
use Rattle.km_state.specs.State.{is_white_now}
use Rattle.km_track.specs.Tracker.{Live}
use Rattle.km_track.specs.declared.slots.Slot.{Slot}
use Rattle.km_track.specs.Slots.{slot_at}
use Rattle.km_track.specs.Tracker.{Tracker}
use Rattle.km_track.proofs.Searches.{read}
use Rattle.km_track.proofs.Marks.{any_id, found_id, head_in, head_once}
use Rattle.km_track.proofs.track.Track.pop_grey.Goals as goal

pub returns-clause-live : goal.returns-clause-live
returns-clause-live g c =
    let h = c.self.invariant.holds in
    let i = (h.queued c.in_ok-slot.slot (head_in _ _ (c.in_ok-slot.ensures {u = tt}).slot)).0 in
    let is = read _ _ c.index.result.now (h.within c.in_ok-slot.slot i) c.index.ensures in
    rw (← ap (λ (t : Tracker). t.live) c.self.view_is) (any_id c.self.inside.slots.items _ _ i (ap (λ (x : Slot). x.generation) (sym is)))

pub returns-clause-grey : goal.returns-clause-grey
returns-clause-grey g c = λ l found.
    let h = c.self.invariant.holds in
    let n = c.in_ok-slot.slot in
    let q = h.queued n (head_in _ _ (c.in_ok-slot.ensures {u = tt}).slot) in
    let is = read _ _ c.index.result.now (h.within n q.0) c.index.ensures in
    let any = any_id c.self.inside.slots.items _ (record { slot = n; generation = c.index.result.now.generation }) q.0 (ap (λ (x : Slot). x.generation) (sym is)) in
    subst (λ (x : Live). is_white_now x.tracked ≡ false) (found_id c.self.inside.slots.items _ (record { slot = n; generation = c.index.result.now.generation }) l any (rw (ap (λ (t : Tracker). t.live) c.self.view_is) found)) q.1

pub returns-clause-once : goal.returns-clause-once
returns-clause-once g c =
    let h = c.self.invariant.holds in
    let n = c.in_ok-slot.slot in
    let first = (c.in_ok-slot.ensures {u = tt}).slot in
    let is = read _ _ c.index.result.now (h.within n (h.queued n (head_in _ _ first)).0) c.index.ensures in
    subst (λ (k : ℕ). is_in k (drop 1 c.args.self.now.queue) ≡ false) (sym (ap (λ (x : Slot). x.generation) is))
    (subst (λ (t : Tracker). is_in (slot_at c.self.inside.slots.items n).generation (drop 1 t.queue) ≡ false) c.self.view_is (head_once _ _ _ _ _ _ n h first))
