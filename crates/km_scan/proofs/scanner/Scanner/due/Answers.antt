use Rattle.std.proofs.Common.{◌≡◌, sym, ap, ◌∙◌}
use Rattle.std.specs.Prelude.{option_map}
use Rattle.km_scan.specs.declared.sweep.Sweep.{Sweep}
use Rattle.km_scan.specs.Places.{place_of}
use Rattle.km_scan.specs.Stand.{Stand, due_in}
use Rattle.km_scan.proofs.Settles.{due_next, is_due}
use Rattle.km_scan.proofs.scanner.Scanner.due.Goals as goal

pub due-requires : goal.due-requires
due-requires g c =
    (c.args.self.now.stacks, c.requires c.in-Some.sweep (sym (ap (λ (x : Stand). x.sweep) c.self.view_is) ∙ c.in-Some.is))

pub returns-clause-due : goal.returns-clause-due
returns-clause-due g c =
    let there = sym (ap (λ (x : Stand). x.sweep) c.self.view_is) ∙ c.in-Some.is in
    is_due c.due.result c.args.self.now c.in-Some.sweep c.args.track.now c.args.tasks.now there c.due.ensures.place (c.due.ensures.fits c.args.self.now.stacks (c.requires c.in-Some.sweep there))

pub returns-clause-none : goal.returns-clause-none
returns-clause-none g c =
    let there = sym (ap (λ (x : Stand). x.sweep) c.self.view_is) ∙ c.in-Some.is in
    λ h w s.
    let same : w ≡ c.in-Some.sweep = cc in
    ap (λ (v : Sweep). due_in v c.args.track.now c.args.tasks.now) same ∙ sym c.due.ensures.place ∙ ap (option_map place_of) h

pub returns-clause-next : goal.returns-clause-next
returns-clause-next g c = λ w p s r d. due_next c.args.self.now.stacks w c.args.track.now c.args.tasks.now p (c.requires w s) r d
