use Rattle.std.proofs.Common.{arith}
use Rattle.km_slab.proofs.Taking.{some_slots}
use Rattle.km_slab.proofs.Dropping.{dropped_marks}
use Rattle.km_slab.proofs.table.drop_page.Goals as goal

pub clear-requires : goal.clear-requires
clear-requires c =
    let few = (some_slots c.args.class c.requires.size.0 c.requires.size.1).1 in
    let a = c.requires.page in let b = c.requires.marks.short in let w = c.requires.marks.free_words in
    record { within = omega (arith, few, a, b, w); small = omega (arith, few, a, b) }

pub returns-clause-marks : goal.returns-clause-marks
returns-clause-marks c =
    let t = c.args.table.now in
    dropped_marks t.classes.items t.free t.live t.opened c.clear.new.marks c.remove.new.self t.row c.args.class c.args.page (record {
      old = c.requires.marks;
      size = c.requires.size;
      within = c.requires.page;
      at = c.requires.class;
      dead = c.requires.dead;
      words = c.clear.ensures.words;
      open_words = c.remove.ensures.words;
      cleared = c.clear.ensures.cleared;
      removed = c.remove.ensures.removed;
    })
