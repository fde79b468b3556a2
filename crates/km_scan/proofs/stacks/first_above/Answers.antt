use Rattle.std.proofs.Common.{refl, ap, ◌∙◌}
use Rattle.std.specs.Prelude.{option_map, true}
use Rattle.km_scan.specs.Places.{place_of}
use Rattle.km_scan.proofs.Held.{due_none}
use Rattle.km_scan.proofs.TaskWords.{is_after, none_after}
use Rattle.km_scan.proofs.stacks.first_above.Goals as goal

pub returns-in_err-task : goal.returns-in_err-task
returns-in_err-task c =
    let e = c.in_err-task.ensures {u = tt} in
    let none = none_after c.args.tasks.now.tasks c.args.tasks.now.started c.args.number e.numbers e.number in
    record {
      place = ap (option_map place_of) c.from_residual.ensures ∙ none.0;
      fits = λ t. due_none true c.from_residual.result t c.args.tasks.now c.from_residual.ensures;
      all = λ z. ap (option_map place_of) c.from_residual.ensures ∙ none.1 z;
    }

pub returns : goal.returns
returns c =
    let e = c.in_ok-task.ensures {u = tt} in
    let a = is_after c.args.tasks.now.tasks c.args.tasks.now.started c.args.number c.in_ok-task.task c.in_ok-task.stack.start.0 e.numbers e.number e.stack in
    record { place = a.place; fits = λ t. (refl, a.started, a.words); all = a.all }
