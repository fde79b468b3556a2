use Rattle.std.proofs.Common.{Some, ap, sym, ◌∙◌}
use Rattle.km_tasks.specs.Lives.{task}
use Rattle.km_tasks.proofs.Names.{named_there}
use Rattle.km_tasks.proofs.tasks.named.Goals as goal

pub returns-in-Some : goal.returns-in-Some
returns-in-Some c =
    ap (λ l. Some (task l)) c.index-lives-i.is ∙ sym (named_there c.args.lives.now c.args.name c.in-Some.i c.index-lives-i.result (sym c.place_named.ensures.place ∙ c.in-Some.is))
