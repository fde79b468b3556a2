use Rattle.km_model.specs.Blocks.{painted_grey}
use Rattle.km_record.specs.declared.kinds.Note.TheVariants.{NotLeak}
use Rattle.km_state.specs.State.{Tracked, is_listed_now}
use Rattle.km_scan.proofs.FitLaws.{note_keeps}
use Rattle.km_objects.proofs.Changes.{changed_agree, changed_are}
use Rattle.km_objects.proofs.objects.Objects.clear.Goals as goal

pub returns-clause-state : goal.returns-clause-state
returns-clause-state g c = λ s are. changed_are is_listed_now (λ (t : Tracked). record t { block = painted_grey t.block }) _ _ _ _ s c.self.view_is c.clear.ensures are

pub returns-clause-agree : goal.returns-clause-agree
returns-clause-agree g c = λ roll agree. changed_agree _ _ _ _ _ _ roll (note_keeps NotLeak) c.self.view_is c.clear.ensures agree
