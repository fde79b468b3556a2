use Rattle.std.proofs.Common.{◌∙◌}
use Rattle.std.specs.Prelude.{◌==◌}
use Rattle.km_state.specs.State.{Tracked}
use Rattle.km_track.specs.Tracker.{begins, tracked_noted}
use Rattle.km_scan.proofs.FitLaws.{note_keeps}
use Rattle.km_objects.proofs.Changes.{changed_agree, changed_are, is_found}
use Rattle.km_objects.proofs.objects.Objects.annotate.Goals as goal

pub returns-clause-answer : goal.returns-clause-answer
returns-clause-answer g c = λ s are. c.is_ok.ensures.value ∙ c.annotate.ensures.answer ∙ is_found (begins c.args.start.0) _ _ _ s c.self.view_is are

pub returns-clause-state : goal.returns-clause-state
returns-clause-state g c = λ s are. changed_are (λ (t : Tracked). t.block.start == c.args.start.0) (tracked_noted c.args.note) _ _ _ _ s c.self.view_is c.annotate.ensures.block are

pub returns-clause-agree : goal.returns-clause-agree
returns-clause-agree g c = λ roll agree. changed_agree _ _ _ _ _ _ roll (note_keeps c.args.note) c.self.view_is c.annotate.ensures.block agree
