use Rattle.std.proofs.Common.{ap, ◌∙◌}
use Rattle.std.specs.Prelude.{Ok, Err}
use Rattle.km_base.specs.declared.acts.Answer.TheVariants.{Refused}
use Rattle.km_model.specs.Blocks.{contains}
use Rattle.km_record.specs.Records.{with_area}
use Rattle.km_state.specs.State.{Tracked}
use Rattle.km_objects.proofs.Changes.{area_answers, area_keeps, changed_agree, changed_are}
use Rattle.km_objects.proofs.objects.Objects.add_area.Goals as goal

pub returns-in-Err-clause-answer : goal.returns-in-Err-clause-answer
returns-in-Err-clause-answer g c = λ s are. ap Refused c.refusal.ensures ∙ area_answers _ _ _ s c.args.a.0 c.args.size (Err c.in-Err.fault) c.self.view_is are (c.in-Err.ensures {u = tt}).answer

pub returns-clause-answer : goal.returns-clause-answer
returns-clause-answer g c = λ s are. area_answers _ _ _ s c.args.a.0 c.args.size (Ok tt) c.self.view_is are (c.in_default.ensures {u = tt}).answer

pub returns-clause-state : goal.returns-clause-state
returns-clause-state g c =
    λ s are. changed_are (λ (t : Tracked). contains c.args.a.0 t.block) (λ (t : Tracked). record t { block = with_area c.args.a.0 c.args.size t.block }) _ _ _ _ s c.self.view_is (c.in_default.ensures {u = tt}).block are

pub returns-clause-agree : goal.returns-clause-agree
returns-clause-agree g c = λ roll agree. changed_agree _ _ _ _ _ _ roll (area_keeps c.args.a.0 c.args.size) c.self.view_is (c.in_default.ensures {u = tt}).block agree
