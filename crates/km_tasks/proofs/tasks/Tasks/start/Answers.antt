use Rattle.std.proofs.Common.{◌≡◌, ◌+◌, map, refl, ap, sym, subst, ◌∙◌, arith}
use Rattle.std.proofs.lemmas.List.{map-append}
use Rattle.km_model.specs.Memory.{base}
use Rattle.km_model.specs.Placement.{Allocation, page_start, page_of, lowest_run}
use Rattle.km_model.specs.Tasks.{task_named}
use Rattle.std.specs.List.{All}
use Rattle.km_pages.specs.Laid.{IsBeside}
use Rattle.km_pages.specs.Runs.{lowest_free}
use Rattle.km_pages.proofs.Touching.{page_of_start}
use Rattle.km_tasks.specs.Lives.{task, AreNamed, AreNumbered}
use Rattle.km_tasks.specs.Roll.{Fits, Roll, stack_page}
use Rattle.km_tasks.proofs.Names.{named_push}
use Rattle.km_tasks.proofs.Numbers.{numbered_push}
use Rattle.km_tasks.proofs.Stacks.{fits_started}
use Rattle.km_tasks.proofs.tasks.Tasks.start.Goals as goal

pub invariant_of-self : goal.invariant_of-self
invariant_of-self c =
    let room = c.in_default.ensures.room refl in
    let len = c.push_reserved.ensures.len in
    let capacity = c.push_reserved.ensures.capacity in
    let was = c.self.invariant in (
      omega (arith, room, len, was),
      omega (arith, capacity, was),
      subst AreNamed (sym (ap (map task) c.push_reserved.ensures.items ∙ map-append task c.self.inside.lives.items _))
          (named_push (map task c.self.inside.lives.items) _ c.self.invariant.2 (ap (λ ls. task_named (map task ls) c.args.name) (sym c.deref.ensures.value) ∙ c.in_default.ensures.unnamed refl)),
      subst (λ ts. AreNumbered 0 ts (c.self.inside.started + 1)) (sym (ap (map task) c.push_reserved.ensures.items ∙ map-append task c.self.inside.lives.items _))
          (numbered_push 0 c.self.inside.started (map task c.self.inside.lives.items) _ refl c.self.invariant.3),
    )

pub returns-clause-fits : goal.returns-clause-fits
returns-clause-fits c = λ fits.
    let start : c.in-Ok.stack.0 ≡ page_start (page_of c.in-Ok.stack.0) =
    c.in-Ok.ensures.lowest ∙ ap page_start (sym (ap page_of c.in-Ok.ensures.lowest ∙ page_of_start base (lowest_free c.args.pages.now 1))) in
    subst (λ ts. Fits ts c.take.new.self) (sym (ap (map task) c.push_reserved.ensures.items ∙ map-append task c.self.inside.lives.items _))
    (fits_started (map task c.self.inside.lives.items) _ c.args.pages.now c.take.new.self
    (subst (λ (r : Roll). Fits r.tasks c.args.pages.now) (sym c.self.view_is) fits) c.in-Ok.ensures.fresh start c.in-Ok.ensures.runs)

pub returns-clause-laid : goal.returns-clause-laid
returns-clause-laid c = λ used laid.
    c.in-Ok.ensures.laid used (stack_page (page_start (lowest_run used 1))) laid
    (record { its_use = refl; start = sym (c.in-Ok.ensures.lowest_among used laid); long = omega arith; fits = omega arith; whole = λ e. refl })

pub returns-clause-apart : goal.returns-clause-apart
returns-clause-apart c = λ used laid.
    subst (λ a. All (λ (x : Allocation). IsBeside x (stack_page a)) used) (c.in-Ok.ensures.lowest_among used laid) (c.in-Ok.ensures.apart used laid)
