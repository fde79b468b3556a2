use Rattle.std.proofs.Common.{◌≡◌, ◌≤◌, ◌+◌, ◌*◌, ◌⊎◌, get_or, ◌==◌, Some, None, length, true, arith, option_map, if◌then◌else◌, refl, sym, ap, subst, ◌∙◌, ◌++◌, ◌∷◌, []}
use Rattle.km_model.specs.Memory.{base}
use Rattle.km_model.specs.Placement.{page_start, page_of}
use Rattle.km_pages.specs.Runs.{IsTaken, are_free, with_run, first_fit, run_from, AreRuns, lowest_free, run_at}
use Rattle.km_pages.specs.Laid.{AreLaid, Fills}
use Rattle.km_pages.proofs.FirstFit.{fit}
use Rattle.km_pages.proofs.Touching.{place_same, page_of_start, lowest_same}
use Rattle.km_pages.proofs.Laying.{laid_taken, apart_free}
use Rattle.km_pages.proofs.Changes.{runs_taken, others_taken, runs_written, taken_written, fresh}
use Rattle.km_pages.proofs.pages.Pages.take.Goals as goal

pub returns-in_default-clause-place_among : goal.returns-in_default-clause-place_among
returns-in_default-clause-place_among c = λ used laid.
    let none : first_fit c.args.self.now c.args.n ≡ None = ap (λ m. first_fit m c.args.n) (sym c.self.view_is) ∙ ap (λ m. first_fit m c.args.n) (sym c.deref.ensures.value) ∙ sym c.lowest_room.ensures ∙ c.in_default.is in
    sym (ap (option_map page_start) none) ∙ place_same c.args.self.now used c.args.n laid

pub returns-clause-place_among : goal.returns-clause-place_among
returns-clause-place_among c = λ used laid.
    let some : first_fit c.args.self.now c.args.n ≡ Some c.in-Some.first = ap (λ m. first_fit m c.args.n) (sym c.self.view_is) ∙ ap (λ m. first_fit m c.args.n) (sym c.deref.ensures.value) ∙ sym c.lowest_room.ensures ∙ c.in-Some.is in
    ap Some c.address.ensures ∙ sym (ap (option_map page_start) some) ∙ place_same c.args.self.now used c.args.n laid

pub invariant_of-self : goal.invariant_of-self
invariant_of-self c =
    let f = fit c.self.inside.pages.items c.args.n c.in-Some.first (ap (λ m. first_fit m c.args.n) (sym c.deref.ensures.value) ∙ sym c.lowest_room.ensures ∙ c.in-Some.is) in
    subst AreRuns (sym c.hold.ensures)
    (runs_written c.self.inside.pages.items c.in-Some.first c.args.n (Some _) c.self.invariant
    (taken_written c.self.inside.pages.items c.in-Some.first (record { kind = c.args.kind; first = c.in-Some.first; len = c.args.n }) c.self.invariant refl f))

pub returns-clause-runs : goal.returns-clause-runs
returns-clause-runs c = λ p.
    let f = fit c.self.inside.pages.items c.args.n c.in-Some.first (ap (λ m. first_fit m c.args.n) (sym c.deref.ensures.value) ∙ sym c.lowest_room.ensures ∙ c.in-Some.is) in
    let k = runs_taken c.self.inside.pages.items c.in-Some.first (record { kind = c.args.kind; first = c.in-Some.first; len = c.args.n }) c.args.kind p refl refl c.requires f in
    let page : page_of c.address.result.0 ≡ c.in-Some.first = ap page_of c.address.ensures ∙ page_of_start base c.in-Some.first in
    subst (λ q. run_from c.hold.new.pages.items c.args.kind p ≡ (if p == q then Some c.args.n else run_from c.args.self.now c.args.kind p)) (sym page)
    (ap (λ m. run_from m c.args.kind p) c.hold.ensures ∙ k ∙ ap (λ m. if p == c.in-Some.first then Some c.args.n else run_from m c.args.kind p) c.self.view_is)

pub returns-clause-others : goal.returns-clause-others
returns-clause-others c = λ other p e.
    let f = fit c.self.inside.pages.items c.args.n c.in-Some.first (ap (λ m. first_fit m c.args.n) (sym c.deref.ensures.value) ∙ sym c.lowest_room.ensures ∙ c.in-Some.is) in
    let k = others_taken c.self.inside.pages.items c.in-Some.first (record { kind = c.args.kind; first = c.in-Some.first; len = c.args.n }) other p e f in
    ap (λ m. run_from m other p) c.hold.ensures ∙ k ∙ ap (λ m. run_from m other p) c.self.view_is

pub returns-clause-laid : goal.returns-clause-laid
returns-clause-laid c = λ used x laid fills.
    let f = fit c.self.inside.pages.items c.args.n c.in-Some.first (ap (λ m. first_fit m c.args.n) (sym c.deref.ensures.value) ∙ sym c.lowest_room.ensures ∙ c.in-Some.is) in
    subst (λ m. AreLaid m (used ++ x ∷ [])) (sym c.hold.ensures)
    (laid_taken c.self.inside.pages.items used c.args.kind c.in-Some.first (record { kind = c.args.kind; first = c.in-Some.first; len = c.args.n }) x refl refl c.requires f
    (subst (λ m. AreLaid m used) (sym c.self.view_is) laid) (subst (λ a. Fills c.args.kind c.args.n a x) c.address.ensures fills))

pub returns-clause-inside : goal.returns-clause-inside
returns-clause-inside c =
    let f = fit c.self.inside.pages.items c.args.n c.in-Some.first (ap (λ m. first_fit m c.args.n) (sym c.deref.ensures.value) ∙ sym c.lowest_room.ensures ∙ c.in-Some.is) in
    let a = f.room in let b = c.address.ensures in let l = ap length c.self.view_is in
    omega (arith, a, b, l)

pub returns-clause-lowest : goal.returns-clause-lowest
returns-clause-lowest c =
    let f = fit c.self.inside.pages.items c.args.n c.in-Some.first (ap (λ m. first_fit m c.args.n) (sym c.deref.ensures.value) ∙ sym c.lowest_room.ensures ∙ c.in-Some.is) in
    c.address.ensures ∙ ap page_start (f.lowest ∙ ap (λ m. lowest_free m c.args.n) c.self.view_is)

pub returns-clause-lowest_among : goal.returns-clause-lowest_among
returns-clause-lowest_among c = λ used laid.
    let f = fit c.self.inside.pages.items c.args.n c.in-Some.first (ap (λ m. first_fit m c.args.n) (sym c.deref.ensures.value) ∙ sym c.lowest_room.ensures ∙ c.in-Some.is) in
    c.address.ensures ∙ ap page_start (f.lowest ∙ ap (λ m. lowest_free m c.args.n) c.self.view_is ∙ sym (lowest_same c.args.self.now used c.args.n laid))

pub returns-clause-fresh : goal.returns-clause-fresh
returns-clause-fresh c = λ kind.
    let f = fit c.self.inside.pages.items c.args.n c.in-Some.first (ap (λ m. first_fit m c.args.n) (sym c.deref.ensures.value) ∙ sym c.lowest_room.ensures ∙ c.in-Some.is) in
    ap (λ m. run_at m kind c.address.result.0) (sym c.self.view_is) ∙ fresh c.self.inside.pages.items c.args.n c.in-Some.first c.address.result.0 kind c.requires f c.address.ensures

pub returns-clause-apart : goal.returns-clause-apart
returns-clause-apart c = λ used laid k d lt.
    let f = fit c.self.inside.pages.items c.args.n c.in-Some.first (ap (λ m. first_fit m c.args.n) (sym c.deref.ensures.value) ∙ sym c.lowest_room.ensures ∙ c.in-Some.is) in
    let x = get_or used k d in
    subst (λ a. (x.start + x.size ≤ a) ⊎ (a + 4096 * c.args.n ≤ x.start)) (sym c.address.ensures)
    (apart_free c.self.inside.pages.items c.args.n c.in-Some.first x c.requires f.free ((subst (λ m. AreLaid m used) (sym c.self.view_is) laid).each k d lt))

pub returns-clause-took : goal.returns-clause-took
returns-clause-took c =
    let f = fit c.self.inside.pages.items c.args.n c.in-Some.first (ap (λ m. first_fit m c.args.n) (sym c.deref.ensures.value) ∙ sym c.lowest_room.ensures ∙ c.in-Some.is) in
    let page : page_of c.address.result.0 ≡ c.in-Some.first = ap page_of c.address.ensures ∙ page_of_start base c.in-Some.first in
    let pages = c.self.inside.pages.items in
    subst (λ m. IsTaken m c.hold.new.pages.items c.args.kind c.address.result.0 c.args.n) c.self.view_is
    (record {
      some = c.requires;
      start = c.address.ensures ∙ ap page_start (sym page);
      room = subst (λ p. p + c.args.n ≤ length pages) (sym page) f.room;
      free = subst (λ p. are_free pages c.args.n p ≡ true) (sym page) f.free;
      new_is = c.hold.ensures ∙ ap (λ p. with_run pages p c.args.n (Some (record { kind = c.args.kind; first = p; len = c.args.n }))) (sym page);
    })
