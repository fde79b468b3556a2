use Rattle.km_slab.proofs.Giving.{slot_given}
use Rattle.km_slab.proofs.table.give_slot.Goals as goal

pub returns-clause-marks : goal.returns-clause-marks
returns-clause-marks c =
    let t = c.args.table.now in
    slot_given t.classes.items t.free t.live t.opened c.insert.new.self c.remove.new.self c.insert-2.new.self t.row c.args.class c.args.page c.args.slot (record {
      old = c.requires.marks;
      within = c.requires.page;
      at = c.requires.class;
      small = c.requires.small;
      fits = c.requires.fits;
      free_words = c.insert.ensures.words;
      live_words = c.remove.ensures.words;
      open_words = c.insert-2.ensures.words;
      inserted = c.insert.ensures.inserted;
      removed = c.remove.ensures.removed;
      opened_now = c.insert-2.ensures.inserted;
    })
