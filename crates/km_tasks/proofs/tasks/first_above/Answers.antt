use Rattle.std.proofs.Common.{Some, ap, sym, ◌∙◌}
use Rattle.km_tasks.specs.Lives.{task}
use Rattle.km_tasks.proofs.Names.{above_there, above_nowhere}
use Rattle.km_tasks.proofs.tasks.first_above.Goals as goal

pub returns-in-Some : goal.returns-in-Some
returns-in-Some c =
    ap (λ l. Some (task l)) c.index-lives-i.is ∙ sym (above_there c.args.lives.now c.args.number c.in-Some.i c.index-lives-i.result (sym c.place_above.ensures ∙ c.in-Some.is))

pub returns-in-None : goal.returns-in-None
returns-in-None c = sym (above_nowhere c.args.lives.now c.args.number (sym c.place_above.ensures ∙ c.in-None.is))
