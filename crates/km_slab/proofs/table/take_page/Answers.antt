use Rattle.std.proofs.Common.{arith}
use Rattle.km_slab.proofs.Taking.{taken_marks, some_slots}
use Rattle.km_slab.proofs.table.take_page.Goals as goal

pub fill-requires-clause-small : goal.fill-requires-clause-small
fill-requires-clause-small c =
    let few = (some_slots c.args.class c.requires.size.0 c.requires.size.1).1 in
    let a = c.requires.page in let b = c.requires.marks.short in
    omega (arith, few, a, b)

pub returns-clause-marks : goal.returns-clause-marks
returns-clause-marks c =
    let t = c.args.table.now in
    taken_marks t.classes.items t.free t.live t.opened c.fill.new.marks c.insert.new.self t.row c.args.class c.args.page
    (record {
      old = c.requires.marks;
      size = c.requires.size;
      within = c.requires.page;
      no_slab = c.requires.no_slab;
      words = c.fill.ensures.words;
      open_words = c.insert.ensures.words;
      filled = c.fill.ensures.filled;
      marked = c.insert.ensures.inserted;
    })
