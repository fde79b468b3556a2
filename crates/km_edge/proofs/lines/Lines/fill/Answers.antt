use Rattle.std.proofs.Common.{ℕ, List, length, take, drop, ap, sym, subst, ◌+◌, ◌-◌, ◌∙◌, ◌≡◌, ◌≤◌, arith, length-drop}
use Rattle.std.proofs.lemmas.List.{length-take}
use Rattle.std.specs.Io.KnownBytes.{Consumes}
use Rattle.km_edge.proofs.Pieces.{moved_to_front, filled}
use Rattle.km_edge.proofs.lines.Lines.fill.Goals as goal

pub returns-clause-fills : goal.returns-clause-fills
returns-clause-fills g c =
    let start = c.self.inside.start in
    let end = c.self.inside.end - c.self.inside.start in
    let bytes = c.read_behind.new.bytes in
    let before = c.self.inside.bytes in
    let inside : c.self.inside.end ≤ length before = omega (arith, c.self.told, c.self.invariant) in
    let held : take end bytes ≡ c.args.self.now =
    c.read_behind.ensures.front ∙ ap (take end) c.copy_within.ensures.after ∙ moved_to_front before start c.self.inside.end c.self.invariant.0 inside ∙ c.self.view_is in
    let size : length c.args.self.now ≡ end = ap length (sym c.self.view_is) ∙ length-take end (drop start before) ∙ omega (arith, length-drop start before, inside) in
    let fits : end + c.in_ok-n.n ≤ length bytes = omega (arith, c.in_ok-n.ensures.reads.0, c.copy_within.ensures.len, c.read_behind.auto.bytes, inside) in
    let all = filled c.args.self.now bytes end c.in_ok-n.n size held fits in (
      all.0,
      all.1,
      subst (λ (b : List ℕ). Consumes (g.S.Source.state c.args.source.now).left (g.S.Source.state c.read_behind.new.source).left b) (sym all.2) c.in_ok-n.ensures.reads.1,
      c.in_ok-n.ensures.reads.2,
    )
