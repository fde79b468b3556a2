use Rattle.std.proofs.Common.{arith, rules, ◌≡◌, ◌+◌, ◌/◌, replicate, None, refl, sym, subst}
use Rattle.km_slab.specs.Blocks.{AreMarks}
use Rattle.km_slab.proofs.Opening.{opening_marks}
use Rattle.km_slab.proofs.slab.Slab.new.Goals as goal

pub invariant_of-result : goal.invariant_of-result
invariant_of-result c =
    let free = c.in_ok-new.ensures in let live = c.in_ok-new-2.ensures in let opened = c.in_ok-new-3.ensures in
    let all : c.in-Ok.classes.items ≡ replicate c.args.pages None = search rules in
    subst (λ xs. AreMarks xs c.in_ok-new.field-0 c.in_ok-new-2.field-0 c.in_ok-new-3.field-0 (c.args.pages / 64 + 1)) (sym all)
    (opening_marks c.args.pages (c.args.pages / 64 + 1) c.in_ok-new.field-0 c.in_ok-new-2.field-0 c.in_ok-new-3.field-0 (omega arith) refl free.words live.words opened.words free.none live.none opened.none)
