use Rattle.std.proofs.Common.{◌≡◌, false, true, Some, sym, ap, ◌∙◌}
use Rattle.km_model.specs.Scan.{place_in, word_above}
use Rattle.km_state.specs.State.{is_white_now}
use Rattle.km_track.specs.Tracker.{Live, tracked_of}
use Rattle.km_scan.proofs.Whites.{last_word_of, more_word_of, white_words}
use Rattle.km_scan.proofs.sums.word_behind.Goals as goal

pub returns-then-not-needs_more-clause-place : goal.returns-then-not-needs_more-clause-place
returns-then-not-needs_more-clause-place g c =
    let t = c.args.track.now in
    let h = c.requires in
    let e = c.in_ok-record.ensures {u = tt} in
    let k : Live = record { slot = c.args.id.slot; tracked = tracked_of c.args.id.generation c.in_ok-record.record.now } in
    let there : Some k ≡ Some h.0 = e.block ∙ h.1 in
    let same : h.0 ≡ k = cc in
    let not_white = ap (λ (x : Live). is_white_now x.tracked) same ∙ sym (c.needs_more.ensures c.args.id.generation) ∙ c.if-not-needs_more.true in
    sym (ap (λ ws. place_in 3 c.args.id.generation (word_above c.args.word.0 ws)) (white_words t c.args.id h.0 false e.rising h.1 not_white))

pub returns-then-word-record-clause-place : goal.returns-then-word-record-clause-place
returns-then-word-record-clause-place g c =
    let t = c.args.track.now in
    let h = c.requires in
    let e = c.in_ok-record.ensures {u = tt} in
    let k : Live = record { slot = c.args.id.slot; tracked = tracked_of c.args.id.generation c.in_ok-record.record.now } in
    let there : Some k ≡ Some h.0 = e.block ∙ h.1 in
    let same : h.0 ≡ k = cc in
    let white = ap (λ (x : Live). is_white_now x.tracked) same ∙ sym (c.needs_more.ensures c.args.id.generation) ∙ c.if-not-needs_more.false in
    let last = last_word_of h.0.tracked.block c.args.word.0 k.tracked.block.start k.tracked.block.size h.2 (ap (λ (x : Live). x.tracked.block.start) same) (ap (λ (x : Live). x.tracked.block.size) same) c.if-word-record.true in
    sym (ap (place_in 3 c.args.id.generation) (ap (word_above c.args.word.0) (white_words t c.args.id h.0 true e.rising h.1 white) ∙ last))

pub returns : goal.returns
returns g c =
    let t = c.args.track.now in
    let h = c.requires in
    let e = c.in_ok-record.ensures {u = tt} in
    let k : Live = record { slot = c.args.id.slot; tracked = tracked_of c.args.id.generation c.in_ok-record.record.now } in
    let there : Some k ≡ Some h.0 = e.block ∙ h.1 in
    let same : h.0 ≡ k = cc in
    let white = ap (λ (x : Live). is_white_now x.tracked) same ∙ sym (c.needs_more.ensures c.args.id.generation) ∙ c.if-not-needs_more.false in
    let more = more_word_of h.0.tracked.block c.args.word.0 k.tracked.block.start k.tracked.block.size h.2 (ap (λ (x : Live). x.tracked.block.start) same) (ap (λ (x : Live). x.tracked.block.size) same) e.sound.size c.if-word-record.false in
    record {
      place = sym (ap (place_in 3 c.args.id.generation) (ap (word_above c.args.word.0) (white_words t c.args.id h.0 true e.rising h.1 white) ∙ more.0));
      fits = λ stacks roll. (h.0, h.1, more.1, white);
    }
