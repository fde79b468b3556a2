use Rattle.km_reader.proofs.reader.Reader.next.Goals as goal

pub returns-in-Some-clause-is : goal.returns-in-Some-clause-is
returns-in-Some-clause-is g c = c.in-Some.ensures.found.is (g.S.Source.state c.args.source.now)
