use Rattle.km_objects.proofs.Scans.{begun_are}
use Rattle.km_objects.proofs.objects.Objects.begin.Goals as goal

pub returns-clause-state : goal.returns-clause-state
returns-clause-state g c = λ s now stacks are. begun_are _ _ _ _ _ s c.args.now c.args.stacks c.self.view_is c.begin.ensures.begun c.begin.ensures.queue now stacks are
