use Rattle.std.proofs.Common.{◌≡◌, Some, sym, ap, ◌∙◌, subst}
use Rattle.km_scan.specs.declared.sweep.Sweep.{Sweep}
use Rattle.km_scan.specs.Stand.{FitsSweep, Stand}
use Rattle.km_scan.proofs.Kept.{sweep_of}
use Rattle.km_scan.proofs.Settles.{moved_fits}
use Rattle.km_scan.proofs.scanner.Scanner.move_on.Goals as goal

pub next-requires-clause-fits : goal.next-requires-clause-fits
next-requires-clause-fits g c =
    sweep_of c.args.self.now.stacks c.self.inside.stacks c.args.self.now.sweep c.in_ok-sweep.sweep c.args.track.now c.args.tasks.now c.requires.fits
    (sym (ap (λ (x : Stand). x.sweep) c.self.view_is) ∙ c.in_ok-sweep.was {u = tt}) (ap (λ (x : Stand). x.stacks) c.self.view_is)

pub returns-clause-fits : goal.returns-clause-fits
returns-clause-fits g c =
    let old = c.in_ok-sweep.sweep in
    let fits = sweep_of c.args.self.now.stacks c.self.inside.stacks c.args.self.now.sweep old c.args.track.now c.args.tasks.now c.requires.fits
    (sym (ap (λ (x : Stand). x.sweep) c.self.view_is) ∙ c.in_ok-sweep.was {u = tt}) (ap (λ (x : Stand). x.stacks) c.self.view_is) in
    let e = c.in-Some.ensures {u = tt} in
    let after : Sweep = record old { ready = Some c.in-Some.at } in
    λ w s.
    let same : after ≡ w = cc in
    subst (λ (v : Sweep). FitsSweep c.self.inside.stacks v c.next.new.track c.args.tasks.now) same
    (moved_fits c.self.inside.stacks old c.args.track.now c.next.new.track c.args.tasks.now c.in-Some.at fits e.queue e.fits)
