use Rattle.std.proofs.Common.{Some, sym, ap}
use Rattle.km_base.specs.declared.acts.Act.TheVariants as act
use Rattle.km_model.specs.Expansion.{run_at}
use Rattle.km_model.specs.Follows.{happens}
use Rattle.km_machine.proofs.scans.automatic_scan.Goals as goal

pub returns-clause-scanned : goal.returns-clause-scanned
returns-clause-scanned g c = λ first run k s.
    let e = c.event-begun.ensures in
    let due = run_at run c.args.due in
    let moved = c.move_to-moved.ensures.moved first run k s in
    let answered = e.answer due moved.stands in
    let one = c.say-said.ensures.so_far first due k moved.said (e.happens due moved.stands) answered (λ request. absurd (let z : ⊥ = cc in z)) (λ read. absurd (let z : ⊥ = cc in z)) in
    c.scan_on.ensures.scanned first (happens due act.AutoBegin) k (ap Some (sym answered)) one
