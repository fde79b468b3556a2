use Rattle.std.proofs.Common.{refl, sym, ap, ◌∙◌, arith}
use Rattle.std.specs.Prelude.{option_map, true}
use Rattle.km_model.specs.Scan.{place_in, word_above}
use Rattle.km_scan.specs.Places.{place_of}
use Rattle.km_scan.proofs.Held.{due_none}
use Rattle.km_scan.proofs.TaskWords.{none_after, has_none, has_other, in_stack, last_in_stack, more_in_stack, next_in_stack, started_stack}
use Rattle.km_scan.proofs.stacks.word_behind.Goals as goal
use Rattle.km_scan.proofs.stacks.word_behind.Goals.{then-number-task-via-then-number-task, then-number-task-via-else-number-task+then-word-stack-ge-TO_LAST}

pub returns-in_err-number : goal.returns-in_err-number
returns-in_err-number c =
    let e = c.in_err-number.ensures {u = tt} in
    let tasks = c.args.tasks.now.tasks in
    let none = none_after tasks c.args.tasks.now.started c.saturating_sub.result e.numbers e.number in
    record {
      place =
          ap (option_map place_of) c.from_residual.ensures
          ∙ sym (ap (λ ws. place_in 1 c.args.task (word_above c.args.word.0 ws)) (has_none tasks c.args.tasks.now.started c.args.task c.saturating_sub.result e.numbers c.saturating_sub.ensures none.2));
      fits = λ t. due_none true c.from_residual.result t c.args.tasks.now c.from_residual.ensures;
    }

pub overflow_sub-word : goal.overflow_sub-word
overflow_sub-word c =
    let e = c.in_ok-number.ensures {u = tt} in
    let s = in_stack c.args.tasks.now.tasks c.args.tasks.now.started c.saturating_sub.result c.args.task c.in_ok-number.number c.in_ok-number.stack.start.0 c.args.word.0 e.numbers c.saturating_sub.ensures e.number e.stack c.if-number-task.false c.requires.word c.requires.end in
    let is = s.is in
    omega (arith, is)

pub returns-then-number-task : goal.returns-then-number-task
returns-then-number-task c =
    let e = c.in_ok-number.ensures {u = tt} in
    let tasks = c.args.tasks.now.tasks in
    elim c.then-number-task.branch [
      | then-number-task-via-then-number-task w ↦ record {
        place = sym (ap (λ ws. place_in 1 c.args.task (word_above c.args.word.0 ws)) (has_other tasks c.args.tasks.now.started c.args.task c.saturating_sub.result c.in_ok-number.number e.numbers c.saturating_sub.ensures e.number w.if-number-task.true));
        fits = λ t. tt;
      }
      | then-number-task-via-else-number-task+then-word-stack-ge-TO_LAST w ↦
          let s = in_stack tasks c.args.tasks.now.started c.saturating_sub.result c.args.task c.in_ok-number.number c.in_ok-number.stack.start.0 c.args.word.0 e.numbers c.saturating_sub.ensures e.number e.stack w.if-number-task.false c.requires.word c.requires.end in
          record {
            place = sym (ap (place_in 1 c.args.task) (last_in_stack tasks c.args.task c.in_ok-number.stack.start.0 c.args.word.0 s w.if-word-stack-ge-TO_LAST.true));
            fits = λ t. tt;
          }
    ]

pub overflow_add-result : goal.overflow_add-result
overflow_add-result c =
    let e = c.in_ok-number.ensures {u = tt} in
    let s = in_stack c.args.tasks.now.tasks c.args.tasks.now.started c.saturating_sub.result c.args.task c.in_ok-number.number c.in_ok-number.stack.start.0 c.args.word.0 e.numbers c.saturating_sub.ensures e.number e.stack c.if-number-task.false c.requires.word c.requires.end in
    let is = s.is in
    let end = s.end in
    let within = s.within in
    omega (arith, is, end, within)

pub returns : goal.returns
returns c =
    let e = c.in_ok-number.ensures {u = tt} in
    let tasks = c.args.tasks.now.tasks in
    let s = in_stack tasks c.args.tasks.now.started c.saturating_sub.result c.args.task c.in_ok-number.number c.in_ok-number.stack.start.0 c.args.word.0 e.numbers c.saturating_sub.ensures e.number e.stack c.if-number-task.false c.requires.word c.requires.end in
    record {
      place = sym (ap (place_in 1 c.args.task) (more_in_stack tasks c.args.task c.in_ok-number.stack.start.0 c.args.word.0 s c.if-word-stack-ge-TO_LAST.false));
      fits = λ t. (refl, started_stack tasks c.args.tasks.now.started c.args.task c.in_ok-number.stack.start.0 c.args.word.0 s e.numbers, next_in_stack tasks c.args.tasks.now.started c.args.task c.in_ok-number.stack.start.0 c.args.word.0 s e.numbers c.if-word-stack-ge-TO_LAST.false);
    }
