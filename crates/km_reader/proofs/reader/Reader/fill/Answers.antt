use Rattle.std.proofs.Common.{◌+◌, ap, subst, arith}
use Rattle.km_reader.specs.Reading.{Input, Went}
use Rattle.km_reader.proofs.Steps.{went_within, went_over}
use Rattle.km_reader.proofs.reader.Reader.fill.Goals as goal

pub returns-then-self-clause-went : goal.returns-then-self-clause-went
returns-then-self-clause-went g c =
    let fill = c.in_ok-n.ensures in
    let n = c.in_ok-n.n in
    let taken = ap (λ (q : Input). q.taken) c.self.view_is in
    let limit = ap (λ (q : Input). q.limit) c.self.view_is in
    subst (λ (q : Input). Went (g.S.Source.state c.args.source.now) (g.S.Source.state c.fill.new.source) q.lines q.taken q.limit c.drop_last.new.self (c.self.inside.taken + n)) c.self.view_is
    (went_over (g.S.Source.state c.args.source.now) (g.S.Source.state c.fill.new.source) c.self.inside.lines c.fill.new.self c.drop_last.new.self c.self.inside.taken c.self.inside.limit n fill.fills.0 fill.fills.1 fill.fills.2
    (omega (arith, c.if-self.true)) (omega (arith, fill.most, c.requires.within, taken, limit)) (omega (arith, c.requires.within, taken, limit)) c.drop_last.ensures)

pub returns-else-self-clause-went : goal.returns-else-self-clause-went
returns-else-self-clause-went g c =
    let fill = c.in_ok-n.ensures in
    let n = c.in_ok-n.n in
    subst (λ (q : Input). Went (g.S.Source.state c.args.source.now) (g.S.Source.state c.fill.new.source) q.lines q.taken q.limit c.fill.new.self (c.self.inside.taken + n)) c.self.view_is
    (went_within (g.S.Source.state c.args.source.now) (g.S.Source.state c.fill.new.source) c.self.inside.lines c.fill.new.self c.self.inside.taken c.self.inside.limit n fill.fills.0 fill.fills.1 fill.fills.2
    (omega (arith, c.if-self.false)))
