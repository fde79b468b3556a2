use Rattle.std.proofs.Common.{◌≡◌, ◌∙◌, List, [], ◌∷◌, Some, None, ap, sym, subst}
use Rattle.km_base.specs.declared.acts.Act.{Act}
use Rattle.km_base.specs.declared.acts.Act.TheVariants as act
use Rattle.km_model.specs.Placement.{slot_of_area}
use Rattle.km_model.specs.Follows.{all_happen, happens}
use Rattle.km_model.specs.Expansion.{slot_word, world_after}
use Rattle.km_core.specs.Cores.{Seen, Stands}
use Rattle.km_machine.specs.Lines.{SoFar}
use Rattle.km_machine.proofs.Sayings.{begun}
use Rattle.km_machine.proofs.line.give.Goals as goal

pub returns-in-Some-clause-so_far : goal.returns-in-Some-clause-so_far
returns-in-Some-clause-so_far g c = λ run f.
    let says = g.W.Witness.says c.args.witness.now in
    let m = c.args.machine.now in
    let a = c.args.start in
    let k = g.K.Sink.state c.args.sink.now in
    let at = subst (λ (x : Seen). Stands x run.history f.state) (sym c.core.ensures) f.stands in
    let slot : Some c.in-Some.area.slot ≡ slot_of_area (world_after run.history).used a = c.in-Some.ensures.slot run.history f.state at ∙ ap (λ used. slot_of_area used a) f.stands.history.allocations in
    let first = subst (λ w. SoFar says run (happens run (act.Store w 0)) c.made-written.new.machine k (g.K.Sink.state c.made-written.new.sink) c.made-written.result)
    c.slot_word.ensures (c.made-written.ensures.so_far run run k (begun says m run k f)) in
    subst
    (λ o. SoFar says run (all_happen run (elim o as (λ _. List Act) [ None ↦ act.VmGive a ∷ [] | Some s ↦ act.Store (slot_word s) 0 ∷ act.VmGive a ∷ [] ]))
    c.made.new.machine k (g.K.Sink.state c.made.new.sink) c.made.result) slot (c.made.ensures.so_far run _ k first)

pub returns-in-None-clause-so_far : goal.returns-in-None-clause-so_far
returns-in-None-clause-so_far g c = λ run f.
    let says = g.W.Witness.says c.args.witness.now in
    let m = c.args.machine.now in
    let a = c.args.start in
    let k = g.K.Sink.state c.args.sink.now in
    let at = subst (λ (x : Seen). Stands x run.history f.state) (sym c.core.ensures) f.stands in
    let slot : None ≡ slot_of_area (world_after run.history).used a = c.in-None.ensures.slot run.history f.state at ∙ ap (λ used. slot_of_area used a) f.stands.history.allocations in
    subst
    (λ o. SoFar says run (all_happen run (elim o as (λ _. List Act) [ None ↦ act.VmGive a ∷ [] | Some s ↦ act.Store (slot_word s) 0 ∷ act.VmGive a ∷ [] ]))
    c.made-in-None.new.machine k (g.K.Sink.state c.made-in-None.new.sink) c.made-in-None.result) slot (c.made-in-None.ensures.so_far run run k (begun says m run k f))
