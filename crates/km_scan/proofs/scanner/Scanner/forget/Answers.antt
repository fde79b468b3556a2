use Rattle.std.proofs.Common.{◌≡◌, sym, ap, ◌∙◌, subst}
use Rattle.km_track.specs.Tracker.{unregistered_at}
use Rattle.km_scan.specs.declared.sweep.Sweep.{Sweep}
use Rattle.km_scan.specs.Stand.{FitsSweep, Stand, sweep_without}
use Rattle.km_scan.proofs.Kept.{none_found, none_live, some_found, sweep_left, sweep_of}
use Rattle.km_scan.proofs.scanner.Scanner.forget.Goals as goal

pub returns-then-is_none-clause-sweep : goal.returns-then-is_none-clause-sweep
returns-then-is_none-clause-sweep g c =
    λ h. absurd (none_live c.args.id c.args.track.now (none_found c.record.result _ c.args.id c.args.track.now c.record.ensures.block (c.if-is_none.ensures {u = tt})) h)

pub returns-clause-stale : goal.returns-clause-stale
returns-clause-stale g c =
    λ h. absurd (let live = some_found c.record.result _ c.args.id c.args.track.now c.record.ensures.block (c.if-is_none.ensures {u = tt}) in let z : ⊥ = cc in z)

pub returns-clause-fits : goal.returns-clause-fits
returns-clause-fits g c =
    let t = c.args.track.now in
    λ roll l f e w s.
    let same : sweep_without c.args.id.generation c.in-Some.sweep ≡ w = cc in
    let old = sweep_of c.args.self.now.stacks c.self.inside.stacks c.args.self.now.sweep c.in-Some.sweep t roll f (sym (ap (λ (x : Stand). x.sweep) c.self.view_is) ∙ c.in-Some.is) (ap (λ (x : Stand). x.stacks) c.self.view_is) in
    subst (λ (v : Sweep). FitsSweep c.self.inside.stacks v (unregistered_at l.tracked.block.start t) roll) same (sweep_left c.self.inside.stacks c.in-Some.sweep t roll c.args.id l c.record.ensures.apart e old)
