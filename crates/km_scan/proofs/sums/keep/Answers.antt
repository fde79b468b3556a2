use Rattle.std.proofs.Common.{◌≡◌, Some, ap, ◌∙◌}
use Rattle.km_track.specs.Tracker.{Live, tracked_of}
use Rattle.km_scan.proofs.Held.{live_is}
use Rattle.km_scan.proofs.SumsTold.{is_last_word, is_no_last_word, sum_kept, sum_goes_on}
use Rattle.km_scan.proofs.sums.keep.Goals as goal

pub set_sum-requires-clause-live : goal.set_sum-requires-clause-live
set_sum-requires-clause-live g c = live_is c.args.id c.args.track.now c.requires.0 c.requires.1

pub returns-then-word-record : goal.returns-then-word-record
returns-then-word-record g c =
    let t = c.args.track.now in
    let h = c.requires in
    let e = c.in-Some.ensures {u = tt} in
    let k : Live = record { slot = c.args.id.slot; tracked = tracked_of c.args.id.generation c.in-Some.record.now } in
    let there : Some k ≡ Some h.0 = e.block ∙ h.1 in
    let same : h.0 ≡ k = cc in
    let last = is_last_word h.0.tracked c.args.word.0 k.tracked.block.start k.tracked.block.size h.2 (ap (λ (x : Live). x.tracked.block.start) same) (ap (λ (x : Live). x.tracked.block.size) same) c.if-word-record.true in
    λ stacks w value roll is. c.set_sum.ensures.after ∙ sum_kept stacks w c.args.word.0 value c.args.sum t roll c.args.id h.0 c.set_sum.result e.rising h.1 last (c.set_sum.ensures.answer h.0 h.1) is

pub returns-else-word-record : goal.returns-else-word-record
returns-else-word-record g c =
    let t = c.args.track.now in
    let h = c.requires in
    let e = c.in-Some.ensures {u = tt} in
    let k : Live = record { slot = c.args.id.slot; tracked = tracked_of c.args.id.generation c.in-Some.record.now } in
    let there : Some k ≡ Some h.0 = e.block ∙ h.1 in
    let same : h.0 ≡ k = cc in
    let last = is_no_last_word h.0.tracked c.args.word.0 k.tracked.block.start k.tracked.block.size h.2 (ap (λ (x : Live). x.tracked.block.start) same) (ap (λ (x : Live). x.tracked.block.size) same) c.if-word-record.false in
    λ stacks w value roll is. sum_goes_on stacks w c.args.word.0 value t roll c.args.id h.0 e.rising h.1 last
