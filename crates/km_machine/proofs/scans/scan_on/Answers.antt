use Rattle.std.proofs.Common.{Some, ◌∙◌, ap, lit≤}
use Rattle.km_machine.proofs.Scanning.{scan_begun, scan_left_out}
use Rattle.km_machine.proofs.Stepping.{finished}
use Rattle.km_machine.proofs.scans.scan_on.Goals as goal

pub returns-in-Done-clause-scanned : goal.returns-in-Done-clause-scanned
returns-in-Done-clause-scanned g c = λ first run k newest so_far.
    let s = c.step_on.ensures.stepped first run k so_far in
    record {
      behind = s.behind;
      makes = scan_begun run s.behind (newest ∙ ap Some c.in-Done.is) (finished _ first run 33554431 _ _ k _ _ so_far.stands s (lit≤ tt));
      so_far = s.so_far;
    }

pub returns-in_default-clause-scanned : goal.returns-in_default-clause-scanned
returns-in_default-clause-scanned g c = λ first run k newest so_far.
    record { behind = run; makes = scan_left_out run c.args.begun newest c.in_default.not-Done; so_far = so_far }
