use Rattle.std.proofs.Common.{◌≡◌, ◌==◌, Some, None, Ok, true, if◌then◌else◌, refl, sym, ap, subst, ◌∙◌}
use Rattle.std.specs.List.{list_any}
use Rattle.km_model.specs.Memory.{base}
use Rattle.km_model.specs.Placement.{page_start, page_of, without_allocation}
use Rattle.km_model.specs.Answers.{is_plain_at}
use Rattle.km_pages.specs.declared.runs.Use.TheVariants.{Slab, Plain}
use Rattle.km_pages.specs.Uses.{same_use}
use Rattle.km_pages.specs.Runs.{with_run, run_with, run_at, run_from, AreRuns}
use Rattle.km_pages.specs.Laid.{AreLaid, BeginAt}
use Rattle.km_pages.proofs.Touching.{page_of_start}
use Rattle.km_pages.proofs.Laying.{laid_given, one_in_run}
use Rattle.km_pages.proofs.Changes.{runs_given, others_given, runs_written, given_written}
use Rattle.km_pages.proofs.Undoing.{no_length, run_there, some_length, untaken}
use Rattle.km_pages.proofs.Owners.{plain_there, no_plain}
use Rattle.km_pages.proofs.pages.Pages.give.Goals as goal

pub returns-in_default-clause-plain : goal.returns-in_default-clause-plain
returns-in_default-clause-plain c = λ plain used laid.
    let none : run_at c.args.self.now Plain c.args.start.0 ≡ None =
    ap (λ m. run_at m Plain c.args.start.0) (sym c.self.view_is) ∙ ap (λ m. run_at m Plain c.args.start.0) (sym c.deref.ensures.value)
    ∙ ap (λ k. run_at c.deref.result.now k c.args.start.0) (sym plain) ∙ sym c.in_default.ensures.length in
    no_plain c.args.self.now used c.args.start.0 laid none

pub invariant_of-self : goal.invariant_of-self
invariant_of-self c =
    let here = ap (λ m. run_with m c.in-Some.run'.first) (sym c.deref.ensures.value) ∙ c.in-Some.ensures.here in
    subst AreRuns (sym c.hold.ensures)
    (runs_written c.self.inside.pages.items c.in-Some.run'.first c.in-Some.run'.len None c.self.invariant
    (given_written c.self.inside.pages.items c.in-Some.run'.first c.in-Some.run' c.self.invariant here refl))

pub returns-clause-runs : goal.returns-clause-runs
returns-clause-runs c = λ p.
    let here = ap (λ m. run_with m c.in-Some.run'.first) (sym c.deref.ensures.value) ∙ c.in-Some.ensures.here in
    let k = runs_given c.self.inside.pages.items c.in-Some.run'.first c.in-Some.run' c.args.kind p c.self.invariant here refl in
    let page : page_of c.args.start.0 ≡ c.in-Some.run'.first = ap page_of c.in-Some.ensures.first ∙ page_of_start base c.in-Some.run'.first in
    subst (λ q. run_from c.hold.new.pages.items c.args.kind p ≡ (if p == q then None else run_from c.args.self.now c.args.kind p)) (sym page)
    (ap (λ m. run_from m c.args.kind p) c.hold.ensures ∙ k ∙ ap (λ m. if p == c.in-Some.run'.first then None else run_from m c.args.kind p) c.self.view_is)

pub returns-clause-others : goal.returns-clause-others
returns-clause-others c = λ other p e.
    let here = ap (λ m. run_with m c.in-Some.run'.first) (sym c.deref.ensures.value) ∙ c.in-Some.ensures.here in
    let k = others_given c.self.inside.pages.items c.in-Some.run'.first c.in-Some.run' other p c.self.invariant here refl (ap (λ u. same_use u other) c.in-Some.ensures.its_use ∙ e) in
    ap (λ m. run_from m other p) c.hold.ensures ∙ k ∙ ap (λ m. run_from m other p) c.self.view_is

pub returns-clause-laid : goal.returns-clause-laid
returns-clause-laid c = λ used laid e.
    let here = ap (λ m. run_with m c.in-Some.run'.first) (sym c.deref.ensures.value) ∙ c.in-Some.ensures.here in
    let old = subst (λ m. AreLaid m used) (sym c.self.view_is) laid in
    let one = one_in_run c.self.inside.pages.items used c.in-Some.run'.first c.in-Some.run' c.self.invariant here refl (ap (λ u. same_use u Slab) c.in-Some.ensures.its_use ∙ e) old in
    subst (λ m. AreLaid m (without_allocation used c.args.start.0)) (sym c.hold.ensures)
    (laid_given c.self.inside.pages.items used c.in-Some.run'.first c.args.start.0 c.in-Some.run' c.self.invariant here refl old
    (subst (BeginAt used c.in-Some.run'.len (page_start c.in-Some.run'.first)) (sym c.in-Some.ensures.first) one))

pub returns-clause-emptied : goal.returns-clause-emptied
returns-clause-emptied c = λ used b laid begin.
    let here = ap (λ m. run_with m c.in-Some.run'.first) (sym c.deref.ensures.value) ∙ c.in-Some.ensures.here in
    let old = subst (λ m. AreLaid m used) (sym c.self.view_is) laid in
    subst (λ m. AreLaid m (without_allocation used b)) (sym c.hold.ensures)
    (laid_given c.self.inside.pages.items used c.in-Some.run'.first b c.in-Some.run' c.self.invariant here refl old
    (subst (λ a. BeginAt used c.in-Some.run'.len a b) c.in-Some.ensures.first begin))

pub returns-clause-plain : goal.returns-clause-plain
returns-clause-plain c = λ plain used laid.
    let here = ap (λ m. run_with m c.in-Some.run'.first) (sym c.deref.ensures.value) ∙ c.in-Some.ensures.here in
    let old = subst (λ m. AreLaid m used) (sym c.self.view_is) laid in
    subst (λ a. list_any (is_plain_at a) used ≡ true) (sym c.in-Some.ensures.first)
    (plain_there c.self.inside.pages.items used c.in-Some.run' old here (c.in-Some.ensures.its_use ∙ plain))

pub returns-in_default-clause-back : goal.returns-in_default-clause-back
returns-in_default-clause-back c = λ before n taken.
    let there = run_there before c.args.self.now c.args.kind c.args.start.0 n taken in
    let none : run_at c.args.self.now c.args.kind c.args.start.0 ≡ None =
    ap (λ m. run_at m c.args.kind c.args.start.0) (sym c.self.view_is) ∙ ap (λ m. run_at m c.args.kind c.args.start.0) (sym c.deref.ensures.value) ∙ sym c.in_default.ensures.length in
    absurd (no_length n (sym none ∙ there))

pub returns-clause-back : goal.returns-clause-back
returns-clause-back c = λ before n taken.
    let there = run_there before c.args.self.now c.args.kind c.args.start.0 n taken in
    let len : Some c.in-Some.run'.len ≡ Some n = c.in-Some.ensures.length ∙ ap (λ m. run_at m c.args.kind c.args.start.0) (c.deref.ensures.value ∙ c.self.view_is) ∙ there in
    let same = some_length c.in-Some.run'.len n len in
    let page : page_of c.args.start.0 ≡ c.in-Some.run'.first = ap page_of c.in-Some.ensures.first ∙ page_of_start base c.in-Some.run'.first in (
      ap Ok same,
      c.hold.ensures ∙ ap (λ m. with_run m c.in-Some.run'.first c.in-Some.run'.len None) c.self.view_is
          ∙ ap (λ p. with_run c.args.self.now p c.in-Some.run'.len None) (sym page) ∙ ap (λ k. with_run c.args.self.now (page_of c.args.start.0) k None) same
          ∙ untaken before c.args.self.now c.args.kind c.args.start.0 n taken,
    )
