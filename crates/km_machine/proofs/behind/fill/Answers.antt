use Rattle.std.proofs.Common.{◌≤◌, length, refl, subst, arith}
use Rattle.std.proofs.lemmas.List.{take_all}
use Rattle.km_model.specs.Follows.{all_happen}
use Rattle.km_model.specs.Expansion.{stores_from}
use Rattle.km_machine.specs.Lines.{SoFar}
use Rattle.km_machine.proofs.Stores.{one_filled}
use Rattle.km_machine.proofs.behind.fill.Goals as goal

pub loop-i-preserved : goal.loop-i-preserved
loop-i-preserved g c =
    let l = c.loop-i in
    one_filled (g.W.Witness.says c.args.witness.now) c.args.start c.args.values.now l.i _ c.args.machine.now l.machine c.made-written.new.machine
    (g.K.Sink.state c.args.sink.now) (g.K.Sink.state l.sink) (g.K.Sink.state c.made-written.new.sink) c.args.written l.written c.made-written.result
    c.requires.few c.loop-i-test.true l.invariant refl c.made-written.ensures.so_far c.made-written.ensures.spent

pub returns-clause-so_far : goal.returns-clause-so_far
returns-clause-so_far g c = λ first run k end s.
    let l = c.loop-i in
    let all : length c.args.values.now ≤ l.i = omega (arith, c.loop-i-test.false) in
    subst (λ vs. SoFar (g.W.Witness.says c.args.witness.now) first (all_happen run (stores_from c.args.start vs)) l.machine k (g.K.Sink.state l.sink) l.written)
    (take_all l.i c.args.values.now all) (l.invariant.so_far first run k end s)
