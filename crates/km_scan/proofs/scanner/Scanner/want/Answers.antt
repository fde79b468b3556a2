use Rattle.std.proofs.Common.{sym, ap, ◌∙◌}
use Rattle.km_scan.specs.Stand.{Stand}
use Rattle.km_scan.proofs.Settles.{due_next}
use Rattle.km_scan.proofs.scanner.Scanner.want.Goals as goal

pub due-requires : goal.due-requires
due-requires g c =
    (c.args.self.now.stacks, c.requires c.in-Some.sweep (sym (ap (λ (x : Stand). x.sweep) c.self.view_is) ∙ c.in-Some.is))

pub returns-in-Some-due-clause-next : goal.returns-in-Some-due-clause-next
returns-in-Some-due-clause-next g c = λ w p s r d. due_next c.args.self.now.stacks w c.args.track.now c.args.tasks.now p (c.requires w s) r d
