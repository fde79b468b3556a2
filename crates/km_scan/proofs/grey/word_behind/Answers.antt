use Rattle.std.proofs.Common.{sym, ap, ◌∙◌}
use Rattle.std.specs.Prelude.{Some, None, option_map}
use Rattle.km_track.specs.Tracker.{Live, tracked_of}
use Rattle.km_scan.specs.Places.{place_of, phase_of}
use Rattle.km_scan.proofs.Held.{behind_is, held_word, due_is, due_none}
use Rattle.km_scan.proofs.grey.word_behind.Goals as goal

pub returns-in_err-record : goal.returns-in_err-record
returns-in_err-record g c =
    let e = (c.in_err-record.ensures {u = tt}).block in
    let f = c.requires.1 in
    absurd (let z : ⊥ = cc in z)

pub returns-in_err-word : goal.returns-in_err-word
returns-in_err-word g c =
    let e = c.in_err-word.ensures {u = tt} in
    let r = c.in_ok-record.ensures {u = tt} in
    let l : Live = record { slot = c.args.id.slot; tracked = tracked_of c.args.id.generation c.in_ok-record.record.now } in
    record {
      place = ap (option_map place_of) c.from_residual-in_err-word.ensures ∙ behind_is c.args.track.now c.args.id l c.args.word.0 (phase_of c.args.pass) None r.rising (sym r.block) c.requires (e.word c.args.id.generation);
      fits = λ stacks roll ne f. due_none stacks c.from_residual-in_err-word.result c.args.track.now roll c.from_residual-in_err-word.ensures;
    }

pub returns : goal.returns
returns g c =
    let e = c.in_ok-word.ensures {u = tt} in
    let r = c.in_ok-record.ensures {u = tt} in
    let l : Live = record { slot = c.args.id.slot; tracked = tracked_of c.args.id.generation c.in_ok-record.record.now } in
    record {
      place = behind_is c.args.track.now c.args.id l c.args.word.0 (phase_of c.args.pass) (Some c.in_ok-word.word.0) r.rising (sym r.block) c.requires (e.word c.args.id.generation);
      fits = λ stacks roll ne f. due_is stacks c.args.pass c.args.id c.in_ok-word.word c.args.track.now roll ne (held_word stacks c.args.pass c.args.id c.args.word c.in_ok-word.word c.args.track.now roll l f (sym r.block) (e.within c.args.id.generation));
    }
