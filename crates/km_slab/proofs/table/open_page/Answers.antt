use Rattle.std.proofs.Common.{arith, ◌≡◌, ◌+◌, ◌-◌, ◌*◌, ◌/◌, true, refl, subst}
use Rattle.km_marks.specs.Sets.{has}
use Rattle.km_slab.proofs.Rows.{marked, unmarked}
use Rattle.km_slab.proofs.table.open_page.Goals as goal

pub returns-in_err-mark-clause-none : goal.returns-in_err-mark-clause-none
returns-in_err-mark-clause-none c = λ _ q.
    let t = c.args.table.now in
    unmarked t.classes.items t.free t.live t.opened t.row c.args.class q c.requires.marks c.requires.size
    (λ lt. c.in_err-mark.ensures.none refl (64 * (t.row * (c.args.class / 8)) + q) (omega arith) (omega (arith, lt)))

pub returns-clause-open : goal.returns-clause-open
returns-clause-open c =
    let t = c.args.table.now in
    let low = c.in_ok-mark.ensures.from in
    let high = c.in_ok-mark.ensures.before in
    let m : c.in_ok-mark.mark ≡ 64 * (t.row * (c.args.class / 8)) + (c.in_ok-mark.mark - 64 * (t.row * (c.args.class / 8))) = omega (arith, low) in
    marked t.classes.items t.free t.live t.opened t.row c.args.class (c.in_ok-mark.mark - 64 * (t.row * (c.args.class / 8))) c.requires.marks c.requires.size (omega (arith, low, high))
    (subst (λ n. has t.opened n ≡ true) m c.in_ok-mark.ensures.here)

pub returns-clause-lowest : goal.returns-clause-lowest
returns-clause-lowest c = λ q less.
    let t = c.args.table.now in
    unmarked t.classes.items t.free t.live t.opened t.row c.args.class q c.requires.marks c.requires.size
    (λ lt. c.in_ok-mark.ensures.lowest (64 * (t.row * (c.args.class / 8)) + q) (omega arith) (omega (arith, less)))
