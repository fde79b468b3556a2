use Rattle.std.proofs.Common.{arith, ◌≡◌, ◌+◌, ◌-◌, ◌*◌, ◌/◌, ◌&&◌, not, true, false, refl, ap, subst, ◌∙◌}
use Rattle.std.proofs.lemmas.Bool.{both_ways, eq-eqb}
use Rattle.km_marks.specs.Sets.{has}
use Rattle.km_slab.proofs.Taking.{one_row}
use Rattle.km_slab.proofs.Changing.{slot_taken, was_free, ne_test}
use Rattle.km_slab.proofs.table.take_slot.Goals as goal

pub returns-in-Some-clause-marks : goal.returns-in-Some-clause-marks
returns-in-Some-clause-marks c =
    let t = c.args.table.now in
    let old = c.requires.marks in let f = c.requires.free in
    let n = c.in-Some.field-0 in
    let a = c.in-Some.ensures.from in let b = c.in-Some.ensures.before in
    let is : n ≡ 512 * c.args.page + (n - 512 * c.args.page) = omega (arith, a) in
    slot_taken t.classes.items t.free t.live t.opened c.remove.new.self c.insert.new.self t.opened t.row c.args.class c.args.page c.args.slot (record {
      old = old;
      slot = f;
      small = c.requires.small;
      free_words = c.remove.ensures.words;
      live_words = c.insert.ensures.words;
      open_words = refl;
      removed = c.remove.ensures.removed;
      inserted = c.insert.ensures.inserted;
      open_other = λ p k lt far. refl;
      open_some = λ _. (n - 512 * c.args.page, omega (arith, a, b), subst (λ m. has c.remove.new.self m ≡ true) is c.in-Some.ensures.here);
      open_here = λ j lt h. old.open_all c.args.page c.args.class c.args.slot f.0 c.requires.small
          (was_free t.classes.items t.free t.live t.opened t.row c.args.class c.args.page c.args.slot old f.0 c.requires.small f.1 f.2);
    })

pub returns-in-None-clause-marks : goal.returns-in-None-clause-marks
returns-in-None-clause-marks c =
    let t = c.args.table.now in
    let old = c.requires.marks in let f = c.requires.free in
    let rows = old.rows in let page = c.requires.page in
    let mark = 64 * (t.row * (c.args.class / 8)) + c.args.page in
    let gone : has c.remove-in-None.new.self (64 * (t.row * (c.args.class / 8)) + c.args.page) ≡ false =
    c.remove-in-None.ensures.removed mark ∙ ap (λ b. not b && has t.opened mark) (eq-eqb mark mark refl) in
    slot_taken t.classes.items t.free t.live t.opened c.remove.new.self c.insert.new.self c.remove-in-None.new.self t.row c.args.class c.args.page c.args.slot (record {
      old = old;
      slot = f;
      small = c.requires.small;
      free_words = c.remove.ensures.words;
      live_words = c.insert.ensures.words;
      open_words = c.remove-in-None.ensures.words;
      removed = c.remove.ensures.removed;
      inserted = c.insert.ensures.inserted;
      open_other = λ p k lt far. c.remove-in-None.ensures.removed (64 * (t.row * k) + p) ∙ ap (λ b. not b && has t.opened (64 * (t.row * k) + p))
          (ne_test (64 * (t.row * k) + p) mark (λ e. let o = one_row t.row k (c.args.class / 8) p c.args.page lt (omega (arith, rows, page)) e in far o.1 o.0));
      open_some = λ h. absurd (both_ways (has c.remove-in-None.new.self mark) gone h);
      open_here = λ j lt h. absurd (both_ways (has c.remove.new.self (512 * c.args.page + j)) (c.in-None.ensures.none refl (512 * c.args.page + j) (omega arith) (omega (arith, lt))) h);
    })
