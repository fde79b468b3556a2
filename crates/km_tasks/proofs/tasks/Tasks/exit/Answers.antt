use Rattle.std.proofs.Common.{◌≡◌, Some, map, IfSome, bytes_eq, refl, ap, sym, subst, ◌∙◌}
use Rattle.std.specs.List.{position}
use Rattle.std.proofs.lemmas.List.{get_or-map}
use Rattle.km_tasks.specs.declared.tasks.Live.{Live}
use Rattle.km_model.specs.Placement.{without_allocation}
use Rattle.km_model.specs.Tasks.{task_named}
use Rattle.km_pages.specs.Runs.{given, run_at}
use Rattle.km_pages.specs.declared.runs.Use.TheVariants.{Stack}
use Rattle.km_pages.specs.Laid.{AreLaid}
use Rattle.km_tasks.specs.Lives.{task}
use Rattle.km_tasks.specs.Roll.{Fits, Roll}
use Rattle.km_tasks.proofs.Names.{is_at, named_there, place_is}
use Rattle.km_tasks.proofs.Stacks.{fits_gone, stack_run, one_page, no_page}
use Rattle.km_tasks.proofs.tasks.Tasks.exit.Goals as goal

pub unreachable-requires : goal.unreachable-requires
unreachable-requires c =
    no_page c.args.pages.now c.index.result.now.stack.0 (stack_run c.self.inside.lives.items c.in-Some.i c.index.result.now c.args.pages.now c.args.name (ap (position (λ (l : Live). bytes_eq l.name c.args.name)) (sym c.deref.ensures.value) ∙ sym c.in-Some.ensures.place) c.index.ensures (subst (λ (r : Roll). Fits r.tasks c.args.pages.now) (sym c.self.view_is) c.requires)) (sym c.in-Err.ensures.answer)

pub returns-clause-given : goal.returns-clause-given
returns-clause-given c =
    let one = one_page c.args.pages.now c.index.result.now.stack.0 c.in-Ok.field-0 (stack_run c.self.inside.lives.items c.in-Some.i c.index.result.now c.args.pages.now c.args.name (ap (position (λ (l : Live). bytes_eq l.name c.args.name)) (sym c.deref.ensures.value) ∙ sym c.in-Some.ensures.place) c.index.ensures (subst (λ (r : Roll). Fits r.tasks c.args.pages.now) (sym c.self.view_is) c.requires)) (sym c.in-Ok.ensures.answer) in
    subst (λ o. IfSome o (λ t. c.give.new.self ≡ given c.args.pages.now t.stack 1)) (sym (ap (λ (r : Roll). task_named r.tasks c.args.name) (sym c.self.view_is) ∙ named_there c.self.inside.lives.items c.args.name c.in-Some.i c.index.result.now (ap (position (λ (l : Live). bytes_eq l.name c.args.name)) (sym c.deref.ensures.value) ∙ sym c.in-Some.ensures.place) ∙ ap (λ l. Some (task l)) (sym c.index.ensures)))
    (c.in-Ok.ensures.given ∙ ap (given c.args.pages.now c.index.result.now.stack.0) one)

pub returns-clause-fits : goal.returns-clause-fits
returns-clause-fits c =
    let at = is_at c.self.inside.lives.items c.args.name c.in-Some.i c.index.result.now c.self.invariant.2 (ap (position (λ (l : Live). bytes_eq l.name c.args.name)) (sym c.deref.ensures.value) ∙ sym c.in-Some.ensures.place) in
    let lt = place_is (λ (l : Live). bytes_eq l.name c.args.name) c.self.inside.lives.items c.in-Some.i (ap (position (λ (l : Live). bytes_eq l.name c.args.name)) (sym c.deref.ensures.value) ∙ sym c.in-Some.ensures.place) in
    let is = ap task c.index.ensures ∙ sym (get_or-map task c.self.inside.lives.items c.in-Some.i c.index.result.now (task c.index.result.now) lt) in
    subst (λ ts. Fits ts c.give.new.self) (sym c.remove_at.ensures.gone)
    (fits_gone (map task c.self.inside.lives.items) c.args.name c.in-Some.i (task c.index.result.now) c.args.pages.now c.give.new.self at is (subst (λ (r : Roll). Fits r.tasks c.args.pages.now) (sym c.self.view_is) c.requires) c.in-Ok.ensures.runs)

pub returns-clause-laid : goal.returns-clause-laid
returns-clause-laid c = λ used laid.
    subst (λ o. IfSome o (λ t. AreLaid c.give.new.self (without_allocation used t.stack))) (sym (ap (λ (r : Roll). task_named r.tasks c.args.name) (sym c.self.view_is) ∙ named_there c.self.inside.lives.items c.args.name c.in-Some.i c.index.result.now (ap (position (λ (l : Live). bytes_eq l.name c.args.name)) (sym c.deref.ensures.value) ∙ sym c.in-Some.ensures.place) ∙ ap (λ l. Some (task l)) (sym c.index.ensures)))
    (c.in-Ok.ensures.laid used laid refl)

pub returns-clause-run : goal.returns-clause-run
returns-clause-run c =
    let place = ap (position (λ (l : Live). bytes_eq l.name c.args.name)) (sym c.deref.ensures.value) ∙ sym c.in-Some.ensures.place in
    subst (λ o. IfSome o (λ t. run_at c.args.pages.now Stack t.stack ≡ Some 1)) (sym (ap (λ (r : Roll). task_named r.tasks c.args.name) (sym c.self.view_is) ∙ named_there c.self.inside.lives.items c.args.name c.in-Some.i c.index.result.now place ∙ ap (λ l. Some (task l)) (sym c.index.ensures)))
    (stack_run c.self.inside.lives.items c.in-Some.i c.index.result.now c.args.pages.now c.args.name place c.index.ensures (subst (λ (r : Roll). Fits r.tasks c.args.pages.now) (sym c.self.view_is) c.requires))
