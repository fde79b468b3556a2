use Rattle.std.proofs.Common.{◌≡◌, ◌*◌, ◌∙◌, Some, ap, sym, subst, arith}
use Rattle.km_base.specs.declared.acts.Act.TheVariants as act
use Rattle.km_model.specs.Placement.{head_with, pages_for, slot_of_area}
use Rattle.km_model.specs.Follows.{all_happen, happens}
use Rattle.km_model.specs.Expansion.{stores_from, world_after}
use Rattle.km_core.specs.Cores.{Seen, Stands}
use Rattle.km_machine.specs.Lines.{SoFar}
use Rattle.km_machine.proofs.Stores.{area_asked, head_low, head_made, head_values}
use Rattle.km_machine.proofs.behind.write_head.Goals as goal

pub returns-in-Some-clause-so_far : goal.returns-in-Some-clause-so_far
returns-in-Some-clause-so_far g c = λ first run k given s.
    let says = g.W.Witness.says c.args.witness.now in
    let m = c.args.machine.now in
    let a = c.args.start in
    let slot = c.in-Some.area.slot in
    let head = c.in-Some.area.head.start.0 in
    let filled = c.fill-filled.new in
    let last = c.made.new in
    let f = s.stands in
    let at = subst (λ (x : Seen). Stands x run.history f.state) (sym c.core.ensures) f.stands in
    let slot_is : Some slot ≡ slot_of_area (world_after run.history).used a = c.in-Some.ensures.slot run.history f.state at ∙ ap (λ used. slot_of_area used a) f.stands.history.allocations in
    let head_is : head_with (world_after run.history).used slot ≡ Some head = ap (λ used. head_with used slot) (sym f.stands.history.allocations) ∙ c.in-Some.ensures.head run.history f.state at in
    let stored = subst (λ b. SoFar says first (all_happen run (stores_from head (head_values a b))) filled.machine k (g.K.Sink.state filled.sink) c.fill-filled.result)
    (c.area_bytes.ensures (let few = area_asked m run c.args.size a f given in omega (arith, few))) (c.fill-filled.ensures.so_far first run k (head_low m run slot head f head_is) s) in
    head_made (λ x. SoFar says first x last.machine k (g.K.Sink.state last.sink) c.made.result) (world_after run.history) run c.args.size a slot head slot_is head_is
    (subst (λ w. SoFar says first (happens (all_happen run (stores_from head (head_values a (4096 * pages_for c.args.size)))) (act.Store w head)) last.machine k (g.K.Sink.state last.sink) c.made.result) c.slot_word.ensures
    (c.made.ensures.so_far first _ k stored))
