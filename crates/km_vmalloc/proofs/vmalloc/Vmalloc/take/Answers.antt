use Rattle.std.proofs.Common.{◌≡◌, ℕ, ◌*◌, ◌<◌, List, Option, Some, None, length, slice_set, refl, sym, subst, arith}
use Rattle.km_vmalloc.specs.declared.areas.VmArea.{VmArea}
use Rattle.km_vmalloc.specs.Areas.{AreAreas, AreSeen, Fits, area_at}
use Rattle.km_vmalloc.proofs.Live.{lowest_free, all_taken, good_size, no_slot_answer, placed_answer}
use Rattle.km_vmalloc.proofs.Changing.{seen_added, fits_added, areas_added}
use Rattle.km_vmalloc.proofs.vmalloc.Vmalloc.take.Goals as goal

pub returns-in_default-clause-answer : goal.returns-in_default-clause-answer
returns-in_default-clause-answer c = λ used laid blocks a.
    let items = c.self.inside.areas.items in
    let full = subst (λ (m : List (Option VmArea)). (t : ℕ) → t < length m → area_at m t ≡ None → ⊥) c.deref.ensures.value (c.in_default.ensures.none refl) in
    no_slot_answer (512 * length c.args.pages.now) used c.args.size (good_size c.args.size (omega arith) (omega arith))
    (all_taken items used (subst (λ (m : List (Option VmArea)). AreAreas m used) (sym c.self.view_is) a) c.self.invariant.kept.count full)

pub returns-in_default-take_parts-clause-answer : goal.returns-in_default-take_parts-clause-answer
returns-in_default-take_parts-clause-answer c = λ used laid blocks a.
    let items = c.self.inside.areas.items in let slot = c.in-Some.slot in
    let within = subst (λ (m : List (Option VmArea)). slot < length m) c.deref.ensures.value c.in-Some.ensures.within in
    let count = c.self.invariant.kept.count in
    let low = lowest_free items used slot (subst (λ (m : List (Option VmArea)). AreAreas m used) (sym c.self.view_is) a) (omega (arith, within, count))
    (subst (λ (m : List (Option VmArea)). area_at m slot ≡ None) c.deref.ensures.value c.in-Some.ensures.free)
    (subst (λ (m : List (Option VmArea)). (t : ℕ) → t < slot → area_at m t ≡ None → ⊥) c.deref.ensures.value c.in-Some.ensures.lowest) in
    placed_answer (512 * length c.args.pages.now) used c.args.size slot None (good_size c.args.size (omega arith) (omega arith)) low (omega (arith, within, count)) (c.in_default-take_parts.ensures.place used laid blocks)

pub returns-in_default-take_parts-clause-fits : goal.returns-in_default-take_parts-clause-fits
returns-in_default-take_parts-clause-fits c =
    subst (λ s. Fits c.args.self.now s c.take_parts.new.pages) (sym c.in_default-take_parts.ensures.slab_stays)
    (subst (Fits c.args.self.now c.args.slab.now) (sym c.in_default-take_parts.ensures.pages_stay) c.requires.fits)

pub invariant_of-self : goal.invariant_of-self
invariant_of-self c =
    let slot = c.in-Some.slot in
    let v : VmArea = record { head = c.in-Ok.head; area = c.in-Ok.area; slot = c.in-Some.slot } in
    let items = c.self.inside.areas.items in let hints = c.self.inside.hints.items in
    subst (λ n. AreSeen (slice_set items slot (Some v)) n (slice_set hints c.place.result slot)) (sym c.max-self-inside.ensures)
    (seen_added items c.self.inside.reach c.place.result slot hints v
    (record {
      within = subst (λ (m : List (Option VmArea)). slot < length m) c.deref.ensures.value c.in-Some.ensures.within;
      free = subst (λ (m : List (Option VmArea)). area_at m slot ≡ None) c.deref.ensures.value c.in-Some.ensures.free;
    }) c.self.invariant)

pub returns-clause-answer : goal.returns-clause-answer
returns-clause-answer c = λ used laid blocks a.
    let items = c.self.inside.areas.items in let slot = c.in-Some.slot in
    let within = subst (λ (m : List (Option VmArea)). slot < length m) c.deref.ensures.value c.in-Some.ensures.within in
    let count = c.self.invariant.kept.count in
    let low = lowest_free items used slot (subst (λ (m : List (Option VmArea)). AreAreas m used) (sym c.self.view_is) a) (omega (arith, within, count))
    (subst (λ (m : List (Option VmArea)). area_at m slot ≡ None) c.deref.ensures.value c.in-Some.ensures.free)
    (subst (λ (m : List (Option VmArea)). (t : ℕ) → t < slot → area_at m t ≡ None → ⊥) c.deref.ensures.value c.in-Some.ensures.lowest) in
    placed_answer (512 * length c.args.pages.now) used c.args.size slot (Some c.in-Ok.area.start.0) (good_size c.args.size (omega arith) (omega arith)) low (omega (arith, within, count)) (c.in-Ok.ensures.place used laid blocks)

pub returns-clause-slot : goal.returns-clause-slot
returns-clause-slot c = λ used a.
    let items = c.self.inside.areas.items in let slot = c.in-Some.slot in
    let within = subst (λ (m : List (Option VmArea)). slot < length m) c.deref.ensures.value c.in-Some.ensures.within in
    let count = c.self.invariant.kept.count in
    sym (lowest_free items used slot (subst (λ (m : List (Option VmArea)). AreAreas m used) (sym c.self.view_is) a) (omega (arith, within, count))
    (subst (λ (m : List (Option VmArea)). area_at m slot ≡ None) c.deref.ensures.value c.in-Some.ensures.free)
    (subst (λ (m : List (Option VmArea)). (t : ℕ) → t < slot → area_at m t ≡ None → ⊥) c.deref.ensures.value c.in-Some.ensures.lowest))

pub returns-clause-fits : goal.returns-clause-fits
returns-clause-fits c =
    let slot = c.in-Some.slot in
    let v : VmArea = record { head = c.in-Ok.head; area = c.in-Ok.area; slot = c.in-Some.slot } in
    fits_added c.self.inside.areas.items c.args.slab.now c.take_parts.new.slab c.args.pages.now c.take_parts.new.pages c.args.size v
    (record {
      within = subst (λ (m : List (Option VmArea)). slot < length m) c.deref.ensures.value c.in-Some.ensures.within;
      free = subst (λ (m : List (Option VmArea)). area_at m slot ≡ None) c.deref.ensures.value c.in-Some.ensures.free;
    }) c.in-Ok.ensures.parts (subst (λ (m : List (Option VmArea)). Fits m c.args.slab.now c.args.pages.now) (sym c.self.view_is) c.requires.fits)

pub returns-clause-laid : goal.returns-clause-laid
returns-clause-laid c = λ used laid blocks. c.in-Ok.ensures.parts.laid used c.in-Some.slot laid blocks

pub returns-clause-blocks : goal.returns-clause-blocks
returns-clause-blocks c = λ used blocks. c.in-Ok.ensures.parts.blocks used c.in-Some.slot blocks

pub returns-clause-areas : goal.returns-clause-areas
returns-clause-areas c = λ used a.
    let slot = c.in-Some.slot in
    let v : VmArea = record { head = c.in-Ok.head; area = c.in-Ok.area; slot = c.in-Some.slot } in
    areas_added c.self.inside.areas.items used v
    (record {
      within = subst (λ (m : List (Option VmArea)). slot < length m) c.deref.ensures.value c.in-Some.ensures.within;
      free = subst (λ (m : List (Option VmArea)). area_at m slot ≡ None) c.deref.ensures.value c.in-Some.ensures.free;
    }) (subst (λ (m : List (Option VmArea)). AreAreas m used) (sym c.self.view_is) a)
