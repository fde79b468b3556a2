use Rattle.km_scan.proofs.Moves.{stack_due}
use Rattle.km_scan.proofs.sweep.word_behind.Goals as goal

pub returns-in-Stack-clause-fits : goal.returns-in-Stack-clause-fits
returns-in-Stack-clause-fits g c =
    λ stacks f. stack_due stacks c.args.at c.in-Stack.task c.in-Stack.word c.word_behind.result c.args.track.now c.args.tasks.now c.in-Stack.is f (c.word_behind.ensures.fits c.args.track.now)
