use Rattle.std.proofs.Common.{◌≡◌, ◌/◌, refl, subst, arith}
use Rattle.km_model.specs.Placement.{kmalloc_span}
use Rattle.km_model.specs.Follows.{all_happen}
use Rattle.km_machine.specs.Lines.{SoFar}
use Rattle.km_machine.proofs.Stores.{block_in, one_cleared, zeros}
use Rattle.km_machine.proofs.behind.clear.Goals as goal

pub loop-i-preserved : goal.loop-i-preserved
loop-i-preserved g c =
    let l = c.loop-i in
    one_cleared (g.W.Witness.says c.args.witness.now) c.args.size c.args.start l.i _ c.args.machine.now l.machine c.made-written.new.machine
    (g.K.Sink.state c.args.sink.now) (g.K.Sink.state l.sink) (g.K.Sink.state c.made-written.new.sink) c.args.written l.written c.made-written.result
    l.invariant (λ few. let e = c.words_for-i-end.ensures.words few in let t = c.loop-i-test.true in omega (arith, e, t)) refl c.made-written.ensures.so_far c.made-written.ensures.spent

pub returns-clause-so_far : goal.returns-clause-so_far
returns-clause-so_far g c = λ first run k block s.
    let says = g.W.Witness.says c.args.witness.now in
    let l = c.loop-i in
    let few = (block_in c.args.machine.now run c.args.size c.args.start s.stands block).few in
    let e = c.words_for-i-end.ensures.words few in
    let t = c.loop-i-test.false in
    let u = l.auto.i-end in
    let all : l.i ≡ kmalloc_span c.args.size / 8 = omega (arith, e, t, u) in
    subst (λ n. SoFar says first (all_happen run (zeros c.args.start n)) l.machine k (g.K.Sink.state l.sink) l.written) all (l.invariant.so_far first run k block s)
