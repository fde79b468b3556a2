use Rattle.std.proofs.Common.{◌≡◌, Some, sym, ap, ◌∙◌}
use Rattle.km_base.specs.declared.acts.Answer.TheVariants.{Loaded}
use Rattle.km_model.specs.Memory.{in_memory}
use Rattle.km_model.specs.Past.{Place}
use Rattle.km_state.specs.StateNext.{next_in}
use Rattle.km_scan.specs.Places.{place_of}
use Rattle.km_scan.specs.declared.sweep.Sweep.{Sweep}
use Rattle.km_scan.specs.Stand.{Stand, load_told, scanning_of, seen}
use Rattle.km_objects.proofs.Steps.{ends_step, has_ended, has_moved, moved_due, moved_loads}
use Rattle.km_objects.proofs.step.load_next.Goals as goal

pub returns-in-Some-clause-step : goal.returns-in-Some-clause-step
returns-in-Some-clause-step g c =
    let w = c.requires.moved.0 in
    let running = c.requires.moved.1 in
    let e = c.move_on.ensures in
    let none = has_ended (next_in (seen c.args.scanner.now.stacks c.args.track.now c.args.tasks.now) (scanning_of c.args.track.now w)) c.move_on.result c.in-Some.scan c.in-Some.is (λ p n. (e.place w p running n).0) in
    let end = e.ended w running none in
    let scan : c.in-Some.scan ≡ c.args.scanner.now.scans = cc in
    ends_step _ _ _ _ _ _ w _ _ _ running none scan end.1 end.2 c.began_at.ensures c.flag.ensures.count c.flag.ensures.verdict

pub unreachable-requires : goal.unreachable-requires
unreachable-requires g c =
    let e = c.move_on.ensures in
    let w = c.requires.moved.0 in
    let running = c.requires.moved.1 in
    let m = has_moved c.args.track.now c.move_on.new.track c.args.scanner.now c.move_on.new.self c.args.tasks.now c.move_on.result c.in_default.is w running (λ p n. e.place w p running n) (λ p n. e.queue w p running n) (λ n. e.ended w running n) in
    let none = c.due.ensures.none c.in_default-due.is (record m.w { ready = Some m.at }) (ap (λ (x : Stand). x.sweep) m.ready) in
    let z : ⊥ = cc in
    z

pub load-value-requires : goal.load-value-requires
load-value-requires g c =
    let e = c.move_on.ensures in
    let w = c.requires.moved.0 in
    let running = c.requires.moved.1 in
    let m = has_moved c.args.track.now c.move_on.new.track c.args.scanner.now c.move_on.new.self c.args.tasks.now c.move_on.result c.in_default.is w running (λ p n. e.place w p running n) (λ p n. e.queue w p running n) (λ n. e.ended w running n) in
    let due = (c.in-Some-due.ensures {u = tt}).due in
    let is = moved_due _ _ _ _ _ m c.in-Some-due.at due in
    record {
      due = (c.args.tasks.now, due);
      word = ap (λ (p : Place). in_memory (g.W.Words.told c.args.words.now).size p.word) is ∙ c.requires.words m.w m.p m.running m.next;
    }

pub returns-clause-step : goal.returns-clause-step
returns-clause-step g c =
    let e = c.move_on.ensures in
    let w = c.requires.moved.0 in
    let running = c.requires.moved.1 in
    let m = has_moved c.args.track.now c.move_on.new.track c.args.scanner.now c.move_on.new.self c.args.tasks.now c.move_on.result c.in_default.is w running (λ p n. e.place w p running n) (λ p n. e.queue w p running n) (λ n. e.ended w running n) in
    let at = c.in-Some-due.at in
    let due = (c.in-Some-due.ensures {u = tt}).due in
    let is = moved_due _ _ _ _ _ m at due in
    let w : Sweep = record m.w { ready = Some m.at } in
    let value = c.load-value.result in
    let now = ap (λ (x : Stand). x.sweep) m.ready in
    moved_loads _ _ _ _ _ _ _ m (place_of at).word (Loaded c.word.result.0 value) (ap (λ (p : Place). p.word) (sym is)) (ap (λ n. Loaded n value) c.word.ensures) (at, is, c.load-value.ensures.sweep w now)
    (c.load-value.ensures.track w c.args.tasks.now now ∙ ap (λ (q : Place). load_told c.move_on.new.self.stacks w q value c.move_on.new.track c.args.tasks.now) is)
    (c.load-value.ensures.agree c.args.tasks.now e.fits due)
