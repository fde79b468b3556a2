use Rattle.std.proofs.Common.{refl, sym, ◌∙◌, arith}
use Rattle.km_machine.proofs.Rooms.{spent_more, spent_none}
use Rattle.km_machine.proofs.Ticking.{now_is, paced_out, paced_until, pacing_more, pacing_none}
use Rattle.km_machine.proofs.scans.automatic_scans.Goals as goal

pub loop-init : goal.loop-init
loop-init g c = record {
  pacing = λ run stands. pacing_none _ _ run _ _ stands;
  spent = record { size = refl; words = refl; events = omega arith; moment = omega arith };
}

pub automatic_scan-written-requires : goal.automatic_scan-written-requires
automatic_scan-written-requires g c =
    let s = c.loop.invariant.spent in
    let room = c.requires.room in
    let by = c.in-Some.ensures.by in
    record {
      size = s.size ∙ room.size ∙ sym s.words;
      events = omega (arith, s.events, room.events, c.loop-test.true);
      moment = omega (arith, s.moment, room.moment, by, c.requires.ahead);
    }

pub loop-preserved : goal.loop-preserved
loop-preserved g c =
    let s = c.loop.invariant.spent in
    let t = c.automatic_scan-written.ensures.spent in
    let by = c.in-Some.ensures.by in
    record {
      pacing = λ run stands.
          let p = c.loop.invariant.pacing run stands in
          pacing_more _ _ run _ c.in-Some.due _ _ _ _ _ _ _ p (sym (c.in-Some.ensures.due p.behind p.so_far.stands)) (c.automatic_scan-written.ensures.scanned run p.behind _ p.so_far);
      spent = record {
        size = t.size ∙ s.size;
        words = t.words ∙ s.words;
        events = omega (arith, s.events, t.events);
        moment = omega (arith, s.moment, t.moment, by, c.requires.ahead);
      };
    }

pub returns-in_default-clause-scans : goal.returns-in_default-clause-scans
returns-in_default-clause-scans g c = λ run stands.
    let p = c.loop.invariant.pacing run stands in
    paced_until _ _ run _ _ _ _ _ p (sym (c.due_by.ensures.due p.behind p.so_far.stands) ∙ c.in_default.is)

pub returns-in_default-clause-spent : goal.returns-in_default-clause-spent
returns-in_default-clause-spent g c = spent_more _ _ _ _ _ _ _ _ _ c.loop.invariant.spent (spent_none _) (omega arith) (omega arith)

pub returns-clause-scans : goal.returns-clause-scans
returns-clause-scans g c = λ run stands.
    let p = c.loop.invariant.pacing run stands in
    let s = c.loop.invariant.spent in
    paced_out _ _ run _ _ _ _ _ _ p c.loop-test.false (now_is _ run stands) c.requires.few (omega (arith, s.moment, c.requires.ahead))

pub returns-clause-spent : goal.returns-clause-spent
returns-clause-spent g c = spent_more _ _ _ _ _ _ _ _ _ c.loop.invariant.spent (spent_none _) (omega arith) (omega arith)
