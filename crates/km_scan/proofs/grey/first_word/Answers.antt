use Rattle.std.proofs.Common.{◌≡◌, ◌+◌, ◌*◌, Some, ap, ◌∙◌}
use Rattle.km_record.specs.Records.{scanned_from}
use Rattle.km_track.specs.Tracker.{Live, tracked_of}
use Rattle.km_scan.proofs.Held.{word_in}
use Rattle.km_scan.proofs.grey.first_word.Goals as goal

pub returns-clause-word : goal.returns-clause-word
returns-clause-word g c =
    let e = c.in_ok-record.ensures {u = tt} in
    let k : Live = record { slot = c.args.id.slot; tracked = tracked_of c.args.id.generation c.in_ok-record.record.now } in
    λ l f.
    let there : Some k ≡ Some l = e.block ∙ f in
    let same : k ≡ l = cc in
    c.word_from.ensures.word c.args.id.generation ∙ ap (λ (x : Live). scanned_from (x.tracked.block.start + 8 * 0) x.tracked.block) same

pub returns-clause-within : goal.returns-clause-within
returns-clause-within g c =
    word_in c.word_from.result c.args.id c.args.track.now c.in_ok-record.record.now (c.in_ok-record.ensures {u = tt}).block c.word_from.ensures.within
