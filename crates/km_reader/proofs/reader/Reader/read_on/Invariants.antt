use Rattle.std.proofs.Common.{◌≡◌, ◌+◌, ◌-◌, false}
use Rattle.km_edge.specs.Lines.{Unknown, next_of}
use Rattle.km_reader.specs.Reading.{IsReady, Went}
use Rattle.km_reader.proofs.reader.Reader.read_on.Given as goal

-- it can't be told yet what comes next
abbrev pub invariant-loop-self : goal.invariant-loop-self
invariant-loop-self g l = record {
  went : Went (g.S.Source.state l.fn.source) (g.S.Source.state l.source) l.fn.self.lines l.fn.self.taken l.fn.self.limit l.self.lines l.self.taken;
  ready : IsReady l.fn.self.limit l.self;
  none : l.self.skip ≡ 0;
  more : next_of false l.self.lines ≡ Unknown;
  kept : (g.S.Source.state l.source).faults ≡ (g.S.Source.state l.fn.source).faults;
}

abbrev pub decreases-loop-self : goal.decreases-loop-self
decreases-loop-self g l = l.self.limit + 1 - l.self.taken
