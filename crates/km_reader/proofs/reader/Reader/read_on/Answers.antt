use Rattle.std.proofs.Common.{false, refl, ap, subst, ◌∙◌, arith}
use Rattle.km_edge.specs.Lines.{next_of}
use Rattle.km_reader.specs.Reading.{Input, IsReady}
use Rattle.km_reader.proofs.Steps.{went_as, went_none, went_on}
use Rattle.km_reader.proofs.reader.Reader.read_on.Goals as goal

pub loop-self-init : goal.loop-self-init
loop-self-init g c = record {
  went = went_none (g.S.Source.state c.args.source.now) c.args.self.now.lines c.args.self.now.taken c.args.self.now.limit;
  ready = c.requires.ready;
  none = c.requires.none;
  more = c.requires.more;
  kept = refl;
}

pub returns-in-Ok-eq0-clause-is : goal.returns-in-Ok-eq0-clause-is
returns-in-Ok-eq0-clause-is g c = c.rest.ensures.is (g.S.Source.state c.fill.new.source) (c.in-Ok-eq0.ensures.fills.1 c.in-Ok-eq0.field-0-test).0

pub returns-in-Some-clause-went : goal.returns-in-Some-clause-went
returns-in-Some-clause-went g c =
    let before = c.loop-self.invariant in
    let taken = ap (λ (q : Input). q.taken) c.self.view_is in
    let bound = ap (λ (q : Input). q.limit) c.self.view_is in
    went_as _ _ _ _ _ _ _ _ _ c.find.ensures.same.0 c.find.ensures.same.1
    (went_on _ _ _ _ _ _ _ _ _ c.args.self.now.limit c.loop-self.self.limit before.ready.same (omega (arith, c.if-self.false, taken, bound, before.ready.same)) before.went c.in-Ok.ensures.went)

pub returns-in-Some-clause-is : goal.returns-in-Some-clause-is
returns-in-Some-clause-is g c = c.in-Some.ensures.found.is (g.S.Source.state c.fill.new.source)

pub loop-self-preserved : goal.loop-self-preserved
loop-self-preserved g c =
    let before = c.loop-self.invariant in
    let fill = c.in-Ok.ensures in
    let taken = ap (λ (q : Input). q.taken) c.self.view_is in
    let bound = ap (λ (q : Input). q.limit) c.self.view_is in
    let unknown = c.in_default.ensures.found in
    record {
      went = went_as _ _ _ _ _ _ _ _ _ c.find.ensures.same.0 c.find.ensures.same.1
          (went_on _ _ _ _ _ _ _ _ _ c.args.self.now.limit c.loop-self.self.limit before.ready.same (omega (arith, c.if-self.false, taken, bound, before.ready.same)) before.went fill.went);
      ready = subst (λ n. IsReady n c.find.new.self) (fill.ready.same ∙ before.ready.same) c.find.ensures.ready;
      none = ap (λ (q : Input). q.skip) unknown.1 ∙ fill.none;
      more = ap (next_of false) c.find.ensures.same.0 ∙ unknown.0;
      kept = fill.fills.2 ∙ before.kept;
    }
