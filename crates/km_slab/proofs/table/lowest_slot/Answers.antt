use Rattle.std.proofs.Common.{arith, ◌+◌, ◌*◌}
use Rattle.std.proofs.lemmas.Bool.{both_ways}
use Rattle.km_marks.specs.Sets.{has}
use Rattle.km_slab.proofs.Rows.{place_small}
use Rattle.km_slab.proofs.Changing.{lowest_slot, was_free}
use Rattle.km_slab.proofs.table.lowest_slot.Goals as goal

pub unreachable-requires : goal.unreachable-requires
unreachable-requires c =
    let t = c.args.table.now in
    let f = c.requires.free in
    let s = (c.requires.marks.sizes c.args.page c.args.class f.0).0 in
    let i = place_small c.args.class f.1 s f.2 in
    both_ways (has t.free (512 * c.args.page + f.1)) (c.lowest.ensures.none c.in-None.is (512 * c.args.page + f.1) (omega arith) (omega (arith, i)))
    (was_free t.classes.items t.free t.live t.opened t.row c.args.class c.args.page f.1 c.requires.marks f.0 i f.2 f.3)

pub returns-clause-slot : goal.returns-clause-slot
returns-clause-slot c =
    let t = c.args.table.now in
    let a = c.in-Some.ensures.from in let b = c.in-Some.ensures.before in
    lowest_slot t.classes.items t.free t.live t.opened t.row c.args.class c.args.page c.in-Some.number c.requires.marks c.requires.free.0 c.in-Some.ensures.here (omega (arith, a)) (omega (arith, b))
    (λ j low less. c.in-Some.ensures.lowest j (omega (arith, low)) less)
