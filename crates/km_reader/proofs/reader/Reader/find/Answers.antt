use Rattle.std.proofs.Common.{ap}
use Rattle.km_reader.specs.Reading.{Input}
use Rattle.km_reader.proofs.Steps.{found_line}
use Rattle.km_reader.proofs.reader.Reader.find.Goals as goal

pub returns-in-Line-clause-found : goal.returns-in-Line-clause-found
returns-in-Line-clause-found c =
    let same = ap (λ (q : Input). q.lines) c.self.view_is in
    found_line c.args.self.now.lines c.self.inside.lines c.in-Line.line.now c.self.inside.taken c.self.inside.limit same c.in-Line.ensures
