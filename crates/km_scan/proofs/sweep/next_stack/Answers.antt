use Rattle.std.proofs.Common.{◌≡◌, None, sym, ap, ◌∙◌, subst, rules}
use Rattle.std.specs.Prelude.{if◌then◌else◌}
use Rattle.km_model.specs.Scan.{unless_over}
use Rattle.km_state.specs.StateNext.{phase_at}
use Rattle.km_scan.specs.declared.places.At.TheVariants.{Stack}
use Rattle.km_scan.specs.declared.places.Cursor.{Cursor}
use Rattle.km_scan.specs.declared.places.Cursor.TheVariants.{Last}
use Rattle.km_scan.specs.Places.{cursor_of}
use Rattle.km_scan.specs.Stand.{FitsDue, stack_start_in}
use Rattle.km_scan.proofs.sweep.next_stack.Goals as goal

pub returns-in-Start-clause-fits : goal.returns-in-Start-clause-fits
returns-in-Start-clause-fits c = λ t. subst (λ b. FitsDue b c.first_above.result t c.args.tasks.now) (sym c.if-not-stacks.false) (c.first_above.ensures.fits t)

pub returns-in-Last-Stack-clause-place : goal.returns-in-Last-Stack-clause-place
returns-in-Last-Stack-clause-place c =
    let tasks = c.args.tasks.now.tasks in
    let e : c.args.cursor ≡ Last (Stack c.in-Last-Stack.task c.in-Last-Stack.field-0-1) = search rules in
    c.first_above-in-Last-Stack.ensures.place
    ∙ ap (λ b. if b then stack_start_in tasks (cursor_of (Last (Stack c.in-Last-Stack.task c.in-Last-Stack.field-0-1))) else None) (sym c.if-not-stacks.false)
    ∙ ap (λ (k : Cursor). unless_over 1 (phase_at (cursor_of k)) (if c.args.stacks then stack_start_in tasks (cursor_of k) else None)) (sym e)

pub returns-in-Last-Stack-clause-fits : goal.returns-in-Last-Stack-clause-fits
returns-in-Last-Stack-clause-fits c = λ t. subst (λ b. FitsDue b c.first_above-in-Last-Stack.result t c.args.tasks.now) (sym c.if-not-stacks.false) (c.first_above-in-Last-Stack.ensures.fits t)
