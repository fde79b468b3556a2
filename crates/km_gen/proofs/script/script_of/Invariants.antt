use Rattle.std.proofs.Common.{◌≡◌, ◌-◌, ◌≤◌, ◌++◌}
use Rattle.km_gen.specs.Generated.{opening_lines, steps_text}
use Rattle.km_gen.proofs.script.script_of.Given as goal

-- what is written and the steps that are left are the steps of the whole script
abbrev pub invariant-loop : goal.invariant-loop
invariant-loop l =
    (l.generator.script.items ++ steps_text (l.steps - l.counter) l.generator.state ≡ opening_lines ++ steps_text l.steps l.number) × (l.counter ≤ l.steps)
