use Rattle.std.proofs.Common.{arith, ◌+◌, ◌-◌, take, drop, ap, sym, ◌∙◌}
use Rattle.km_edge.proofs.Pieces.{piece_is_next}
use Rattle.km_edge.proofs.memory.MemSourceSource.read.Goals as goal

pub returns-clause-reads : goal.returns-clause-reads
returns-clause-reads c =
    piece_is_next c.min-n.result c.self.inside.at c.self.inside.bytes.items c.args.buf.now c.copy_from_slice.new.self _ (sym (ap (λ s. s.left) c.self.view_is))
    (c.copy_from_slice.ensures.after ∙ ap (λ b. take (c.self.inside.at + c.min-n.result - c.self.inside.at) (drop c.self.inside.at b)) c.deref.ensures.value)
    (omega (arith, c.min-n.ensures, c.min.ensures)) (omega (arith, c.min-n.ensures, c.min.ensures, c.len.ensures, c.self.invariant))
    (λ zero. omega (arith, zero, c.min-n.ensures, c.min.ensures, c.len.ensures, c.self.invariant, c.requires))
