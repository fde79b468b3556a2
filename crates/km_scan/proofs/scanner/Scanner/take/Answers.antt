use Rattle.std.proofs.Common.{◌≡◌, Some, sym, ap, ◌∙◌, subst}
use Rattle.km_scan.specs.declared.sweep.Sweep.{Sweep}
use Rattle.km_scan.specs.Places.{place_of}
use Rattle.km_scan.specs.Stand.{FitsDue, FitsSweep, Stand, load_told}
use Rattle.km_scan.proofs.Kept.{sweep_of}
use Rattle.km_scan.proofs.Settles.{told_fits}
use Rattle.km_scan.proofs.scanner.Scanner.take.Goals as goal

pub take-requires : goal.take-requires
take-requires g c = (c.args.self.now.stacks, c.requires.0, c.requires.1.fits)

pub returns-clause-track : goal.returns-clause-track
returns-clause-track g c =
    let there = sym (ap (λ (x : Stand). x.sweep) c.self.view_is) ∙ c.in-Some.is in
    λ w roll s.
    let same : c.in-Some.sweep ≡ w = cc in
    c.take.ensures.track c.args.self.now.stacks roll
    ∙ ap (λ (v : Sweep). load_told c.args.self.now.stacks v (place_of c.args.at) c.args.value c.args.track.now roll) same

pub returns-clause-fits : goal.returns-clause-fits
returns-clause-fits g c =
    let old = c.in-Some.sweep in
    let t = c.args.track.now in
    let stacks = ap (λ (x : Stand). x.stacks) c.self.view_is in
    λ roll f d w s.
    let fits = sweep_of c.args.self.now.stacks c.self.inside.stacks c.args.self.now.sweep old t roll f (sym (ap (λ (x : Stand). x.sweep) c.self.view_is) ∙ c.in-Some.is) stacks in
    let due = subst (λ b. FitsDue b (Some c.args.at) t roll) (sym stacks) d.fits in
    let same : c.take.new.self ≡ w = cc in
    subst (λ (v : Sweep). FitsSweep c.self.inside.stacks v c.take.new.track roll) same
    (told_fits c.self.inside.stacks old c.take.new.self t c.take.new.track roll c.args.at c.args.value fits due (c.take.ensures.track c.self.inside.stacks roll) c.take.ensures.sweep)
