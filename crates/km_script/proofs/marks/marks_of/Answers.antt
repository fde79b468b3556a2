use Rattle.std.proofs.Common.{slice_index_or, sym, ◌∙◌}
use Rattle.km_script.proofs.Noted.{goes_on_at, noted_plain}
use Rattle.km_script.proofs.Foreign.{plain_is}
use Rattle.km_script.proofs.marks.marks_of.Goals as goal

pub loop-i-preserved-then-is_plain : goal.loop-i-preserved-then-is_plain
loop-i-preserved-then-is_plain c =
    let plain = sym c.is_plain.ensures ∙ c.if-is_plain.true in (
      goes_on_at c.loop-i.i c.args.bytes.now c.loop-i-test.true ((plain_is (slice_index_or c.args.bytes.now c.loop-i.i 0) plain).0) c.loop-i.invariant.0,
      noted_plain c.loop-i.marks c.args.column c.loop-i.i c.args.bytes.now c.loop-i-test.true plain c.loop-i.invariant.1,
      c.loop-i.invariant.2,
    )
