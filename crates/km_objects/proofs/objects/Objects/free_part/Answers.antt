use Rattle.std.proofs.Common.{sym, ap, ◌∙◌}
use Rattle.std.specs.Prelude.{Ok, Err}
use Rattle.km_free_part.specs.declared.parts.PartFault.TheVariants as fault
use Rattle.km_objects.proofs.Parts.{part_agree, part_answers, part_are, part_found, part_places}
use Rattle.km_objects.proofs.objects.Objects.free_part.Goals as goal

pub returns-in-Ok-clause-answer : goal.returns-in-Ok-clause-answer
returns-in-Ok-clause-answer g c = λ s are. part_answers _ _ _ s c.args.part (Ok c.in-Ok.id) c.self.view_is are (c.in-Ok.ensures {u = tt})

pub returns-in-Err-NoObject-clause-answer : goal.returns-in-Err-NoObject-clause-answer
returns-in-Err-NoObject-clause-answer g c = λ s are. part_answers _ _ _ s c.args.part (Err fault.NoObject) c.self.view_is are (sym (ap Err c.in-Err-NoObject.field-0-is) ∙ c.in-Err-NoObject.ensures {u = tt})

pub returns-in-Err-NotInside-clause-answer : goal.returns-in-Err-NotInside-clause-answer
returns-in-Err-NotInside-clause-answer g c = λ s are. part_answers _ _ _ s c.args.part (Err fault.NotInside) c.self.view_is are (sym (ap Err c.in-Err-NotInside.field-0-is) ∙ c.in-Err-NotInside.ensures {u = tt})

pub returns-in-Ok-clause-state : goal.returns-in-Ok-clause-state
returns-in-Ok-clause-state g c =
    let h = part_found c.self.inside.track c.args.part c.in-Ok.id c.observe.ensures.rising c.observe.ensures.apart (c.in-Ok.ensures {u = tt}) in
    λ s enabled are. part_are _ _ _ _ _ s c.args.part c.args.keep c.in-Ok.id c.split.result c.self.view_is h c.forget.ensures.sweep c.split.ensures.front c.split.ensures.rear c.split.ensures.after enabled are

pub returns-in-Ok-clause-agree : goal.returns-in-Ok-clause-agree
returns-in-Ok-clause-agree g c =
    let h = part_found c.self.inside.track c.args.part c.in-Ok.id c.observe.ensures.rising c.observe.ensures.apart (c.in-Ok.ensures {u = tt}) in
    λ roll agree. part_agree _ _ _ _ _ roll c.args.part c.in-Ok.id c.split.result c.self.view_is h (c.forget.ensures.fits roll) c.forget.ensures.settled c.split.ensures.after agree

pub returns-in-Ok-clause-places : goal.returns-in-Ok-clause-places
returns-in-Ok-clause-places g c =
    let h = part_found c.self.inside.track c.args.part c.in-Ok.id c.observe.ensures.rising c.observe.ensures.apart (c.in-Ok.ensures {u = tt}) in
    part_places _ _ _ _ c.forget.new.self c.args.part c.args.keep c.in-Ok.id c.split.result c.self.view_is h c.split.ensures.front c.split.ensures.rear c.split.ensures.after c.requires.spare
