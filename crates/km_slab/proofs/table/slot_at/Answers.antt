use Rattle.std.proofs.Common.{arith, ◌≡◌, ◌+◌, ◌*◌, ◌/◌, ◌%◌, slice_index_or, Some, None, sym, ap, subst, ◌∙◌, inl, inr}
use Rattle.std.proofs.lemmas.Bool.{cases_Bool, both_ways}
use Rattle.std.proofs.lemmas.List.{get_or_read}
use Rattle.km_marks.specs.Sets.{has}
use Rattle.km_slab.proofs.Rows.{no_class}
use Rattle.km_slab.proofs.Starts.{few_slots, live_begins, slot_told}
use Rattle.km_slab.proofs.Places.{some_number}
use Rattle.km_slab.proofs.table.slot_at.Goals as goal
use Rattle.km_slab.proofs.table.slot_at.Goals.{else-inside-class-eq0-via-then-inside-class-eq0+else-contains, else-inside-class-eq0-via-else-inside-class-eq0}

pub nonzero_div-slot : goal.nonzero_div-slot
nonzero_div-slot c =
    let t = c.args.table.now in
    let a = sym (get_or_read t.classes.items _ _ (omega arith) c.index.ensures None) ∙ c.in_ok-class.was in
    let s = (c.requires.marks.sizes _ _ a).0 in
    omega (arith, s)

pub returns-then-page-len-clause-none : goal.returns-then-page-len-clause-none
returns-then-page-len-clause-none c = λ _ p class i at small e.
    let t = c.args.table.now in
    elim (cases_Bool (has t.live (512 * p + i))) [
      | inl here ↦
          let b = live_begins t.classes.items t.free t.live t.opened t.row class p i c.args.start.0 c.requires.marks at small e here in
          let page = b.page in let within = b.within in let off = c.in_ok-offset.ensures in let out = c.if-page-len.true in
          absurd (omega (arith, page, within, off, out))
      | inr dead ↦ dead
    ]

pub returns-in_err-class-clause-none : goal.returns-in_err-class-clause-none
returns-in_err-class-clause-none c = λ n p class i at small e.
    let t = c.args.table.now in
    elim (cases_Bool (has t.live (512 * p + i))) [
      | inl here ↦
          let b = live_begins t.classes.items t.free t.live t.opened t.row class p i c.args.start.0 c.requires.marks at small e here in
          let page = b.page in let off = c.in_ok-offset.ensures in
          let same : c.in_ok-offset.offset / 4096 ≡ p = omega (arith, page, off) in
          let none : slice_index_or t.classes.items (c.in_ok-offset.offset / 4096) None ≡ None = sym (get_or_read t.classes.items _ _ (omega arith) c.index.ensures None) ∙ c.in_err-class.was in
          absurd (no_class (slice_index_or t.classes.items p None) class (subst (λ q. slice_index_or t.classes.items q None ≡ None) same none) at)
      | inr dead ↦ dead
    ]

pub nonzero_rem-inside-2 : goal.nonzero_rem-inside-2
nonzero_rem-inside-2 c =
    let t = c.args.table.now in
    let a = sym (get_or_read t.classes.items _ _ (omega arith) c.index.ensures None) ∙ c.in_ok-class.was in
    let s = (c.requires.marks.sizes _ _ a).0 in
    omega (arith, s)

pub contains-requires : goal.contains-requires
contains-requires c =
    let t = c.args.table.now in
    let a = sym (get_or_read t.classes.items _ _ (omega arith) c.index.ensures None) ∙ c.in_ok-class.was in
    let few = few_slots c.in_ok-class.class (c.in_ok-offset.offset % 4096) (c.requires.marks.sizes _ _ a).0 (omega arith) in
    let words = c.requires.marks.live_words in
    omega (arith, few, words)

pub returns-then-contains-clause-small : goal.returns-then-contains-clause-small
returns-then-contains-clause-small c =
    let t = c.args.table.now in
    let a = sym (get_or_read t.classes.items _ _ (omega arith) c.index.ensures None) ∙ c.in_ok-class.was in
    few_slots c.in_ok-class.class (c.in_ok-offset.offset % 4096) (c.requires.marks.sizes _ _ a).0 (omega arith)

pub returns-else-inside-class-eq0-clause-none : goal.returns-else-inside-class-eq0-clause-none
returns-else-inside-class-eq0-clause-none c = λ _ p class i at small e.
    let t = c.args.table.now in
    elim (cases_Bool (has t.live (512 * p + i))) [
      | inl here ↦
          let b = live_begins t.classes.items t.free t.live t.opened t.row class p i c.args.start.0 c.requires.marks at small e here in
          let page = b.page in let off = c.in_ok-offset.ensures in let inside = b.inside in
          let same : c.in_ok-offset.offset / 4096 ≡ p = omega (arith, page, off) in
          let a = sym (get_or_read t.classes.items _ _ (omega arith) c.index.ensures None) ∙ c.in_ok-class.was in
          let is : class ≡ c.in_ok-class.class = some_number class c.in_ok-class.class (sym at ∙ subst (λ q. slice_index_or t.classes.items q None ≡ Some c.in_ok-class.class) same a) in
          let there : c.in_ok-offset.offset % 4096 ≡ class * i = omega (arith, inside, off) in
          let told = subst (λ n. (c.in_ok-offset.offset % 4096 / n ≡ i) × (c.in_ok-offset.offset % 4096 % n ≡ 0)) is (slot_told class i (c.in_ok-offset.offset % 4096) b.some there) in
          let slot = told.0 in
          let number : 512 * (c.in_ok-offset.offset / 4096) + c.in_ok-offset.offset % 4096 / c.in_ok-class.class ≡ 512 * p + i = omega (arith, same, slot) in
          absurd (elim c.else-inside-class-eq0.branch [
            | else-inside-class-eq0-via-then-inside-class-eq0+else-contains w ↦ both_ways (has t.live (512 * p + i)) (ap (has t.live) (sym number) ∙ sym w.contains.ensures ∙ w.if-contains.false) here
            | else-inside-class-eq0-via-else-inside-class-eq0 w ↦ let zero = told.1 in let n = w.if-inside-class-eq0.false in omega (arith, zero, n)
          ])
      | inr dead ↦ dead
    ]
