use Rattle.std.proofs.Common.{◌/◌, refl, sym, subst}
use Rattle.km_base.specs.declared.acts.Act.TheVariants as act
use Rattle.km_base.specs.declared.lines.Command.TheVariants as command
use Rattle.km_model.specs.Placement.{kmalloc_span}
use Rattle.km_model.specs.Follows.{all_happen}
use Rattle.km_model.specs.Expansion.{acts_behind, head_stores, set_register, world_after}
use Rattle.km_machine.specs.Lines.{SoFar}
use Rattle.km_machine.proofs.Lines.{gave, happen_append}
use Rattle.km_machine.proofs.Stores.{zeros}
use Rattle.km_machine.proofs.behind.acts.Goals as goal

pub returns-in-Kzalloc-clause-so_far : goal.returns-in-Kzalloc-clause-so_far
returns-in-Kzalloc-clause-so_far g c = λ first run k given s.
    let says = g.W.Witness.says c.args.witness.now in
    let a = c.args.start in
    let n = c.set-in-Kzalloc.new in
    let asked = c.in-Kzalloc.size in
    let cleared = c.clear-cleared.ensures.so_far first run k (gave c.args.command.now (command.Kzalloc asked c.in-Kzalloc.reg) a c.in-Kzalloc.reg (act.Kmalloc asked) run.history c.in-Kzalloc.is (λ w. refl) given) s in
    subst (λ l. SoFar says first (all_happen run (acts_behind (world_after run.history) l a)) n.machine k (g.K.Sink.state n.sink) c.set-in-Kzalloc.result) (sym c.in-Kzalloc.is)
    (subst (λ x. SoFar says first x n.machine k (g.K.Sink.state n.sink) c.set-in-Kzalloc.result) (sym (happen_append run (zeros a (kmalloc_span asked / 8)) (set_register c.in-Kzalloc.reg a)))
    (c.set-in-Kzalloc.ensures.so_far first _ k cleared))

pub returns-in-Vmalloc-clause-so_far : goal.returns-in-Vmalloc-clause-so_far
returns-in-Vmalloc-clause-so_far g c = λ first run k given s.
    let says = g.W.Witness.says c.args.witness.now in
    let a = c.args.start in
    let n = c.set-in-Vmalloc.new in
    let asked = c.in-Vmalloc.size in
    let headed = c.write_head-headed.ensures.so_far first run k (gave c.args.command.now (command.Vmalloc asked c.in-Vmalloc.reg) a c.in-Vmalloc.reg (act.VmTake asked) run.history c.in-Vmalloc.is (λ w. refl) given) s in
    subst (λ l. SoFar says first (all_happen run (acts_behind (world_after run.history) l a)) n.machine k (g.K.Sink.state n.sink) c.set-in-Vmalloc.result) (sym c.in-Vmalloc.is)
    (subst (λ x. SoFar says first x n.machine k (g.K.Sink.state n.sink) c.set-in-Vmalloc.result) (sym (happen_append run (head_stores (world_after run.history) asked a) (set_register c.in-Vmalloc.reg a)))
    (c.set-in-Vmalloc.ensures.so_far first _ k headed))

pub returns-in-Kmalloc-clause-so_far : goal.returns-in-Kmalloc-clause-so_far
returns-in-Kmalloc-clause-so_far g c = λ first run k given s.
    let says = g.W.Witness.says c.args.witness.now in
    subst (λ l. SoFar says first (all_happen run (acts_behind (world_after run.history) l c.args.start)) c.set.new.machine k (g.K.Sink.state c.set.new.sink) c.set.result) (sym c.in-Kmalloc.is)
    (c.set.ensures.so_far first run k s)

pub returns-in-Pages-clause-so_far : goal.returns-in-Pages-clause-so_far
returns-in-Pages-clause-so_far g c = λ first run k given s.
    let says = g.W.Witness.says c.args.witness.now in
    subst (λ l. SoFar says first (all_happen run (acts_behind (world_after run.history) l c.args.start)) c.set-in-Pages.new.machine k (g.K.Sink.state c.set-in-Pages.new.sink) c.set-in-Pages.result) (sym c.in-Pages.is)
    (c.set-in-Pages.ensures.so_far first run k s)

pub returns-in-BootMem-clause-so_far : goal.returns-in-BootMem-clause-so_far
returns-in-BootMem-clause-so_far g c = λ first run k given s.
    let says = g.W.Witness.says c.args.witness.now in
    subst (λ l. SoFar says first (all_happen run (acts_behind (world_after run.history) l c.args.start)) c.set-in-BootMem.new.machine k (g.K.Sink.state c.set-in-BootMem.new.sink) c.set-in-BootMem.result) (sym c.in-BootMem.is)
    (c.set-in-BootMem.ensures.so_far first run k s)
