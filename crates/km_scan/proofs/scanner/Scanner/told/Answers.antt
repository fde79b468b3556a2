use Rattle.std.proofs.Common.{◌≡◌, sym, ap, ◌∙◌}
use Rattle.km_model.specs.Past.{Place}
use Rattle.km_scan.specs.declared.sweep.Sweep.{Sweep}
use Rattle.km_scan.specs.Places.{place_of}
use Rattle.km_scan.specs.Stand.{due_in, load_told}
use Rattle.km_scan.proofs.scanner.Scanner.told.Goals as goal

pub take-requires : goal.take-requires
take-requires g c = (c.args.tasks.now, (c.in-Some.ensures {u = tt}).due)

pub returns-clause-sweep : goal.returns-clause-sweep
returns-clause-sweep g c =
    let is = (c.in-Some.ensures {u = tt}).due in
    λ w p s d.
    let same : is.sweep ≡ w = let r = is.running in cc in
    let due = sym is.place ∙ ap (λ (v : Sweep). due_in v c.args.track.now c.args.tasks.now) same ∙ d in
    let at : place_of c.in-Some.at ≡ p = cc in
    (c.in-Some.at, at, c.take.ensures.sweep w s)

pub returns-clause-track : goal.returns-clause-track
returns-clause-track g c =
    let is = (c.in-Some.ensures {u = tt}).due in
    λ w p s d.
    let same : is.sweep ≡ w = let r = is.running in cc in
    let due = sym is.place ∙ ap (λ (v : Sweep). due_in v c.args.track.now c.args.tasks.now) same ∙ d in
    let at : place_of c.in-Some.at ≡ p = cc in
    c.take.ensures.track w c.args.tasks.now s ∙ ap (λ (q : Place). load_told c.args.self.now.stacks w q c.args.value c.args.track.now c.args.tasks.now) at

pub returns-clause-fits : goal.returns-clause-fits
returns-clause-fits g c = c.take.ensures.fits c.args.tasks.now c.requires.fits (c.in-Some.ensures {u = tt}).due
