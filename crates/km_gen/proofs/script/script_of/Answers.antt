use Rattle.std.proofs.Common.{◌≡◌, ap, arith, length, rules}
use Rattle.km_gen.specs.Generated.{generated_script}
use Rattle.km_gen.proofs.Lengths.{script_short}
use Rattle.km_gen.proofs.Written.{step_written}
use Rattle.km_gen.proofs.script.script_of.Goals as goal

pub loop-preserved : goal.loop-preserved
loop-preserved c = (
  step_written c.args.steps c.loop.counter c.loop.generator.state _ c.loop.generator.script.items _ _ c.loop-test.true c.in_ok-step.ensures.written c.in_ok-step.ensures.state c.loop.invariant.0,
  omega arith,
)

pub returns-clause-short : goal.returns-clause-short
returns-clause-short c =
    let whole : c.push-2.new.self.script.items ≡ generated_script c.args.number c.args.steps = search rules in omega (arith, ap length whole, script_short c.args.number c.args.steps)
