use Rattle.std.proofs.Common.{◌≡◌, ◌+◌, refl, sym, ap, subst, arith}
use Rattle.km_model.specs.Past.{is_loaded}
use Rattle.km_machine.specs.Machines.{For, HasRoom, Spent}
use Rattle.km_machine.proofs.Rooms.{room_left, spent_more, spent_none}
use Rattle.km_machine.proofs.Stepping.{Stepping, all_loaded, stepped_last, stepping_as, stepping_more, stepping_none}
use Rattle.km_machine.proofs.scans.step_on.Goals as goal
use Rattle.km_machine.proofs.scans.step_on.Goals.{in-Some, in_default+in-Loaded}

pub loop-init : goal.loop-init
loop-init g c = record { stepping = λ first run k s. stepping_none _ first run _ _ k _ _ s; spent = spent_none _ }

pub load_due-requires : goal.load_due-requires
load_due-requires g c = record { room = room_left _ _ _ _ _ _ _ _ c.requires c.loop.invariant.spent (omega arith) (omega arith) }

pub event-answer-requires : goal.event-answer-requires
event-answer-requires g c =
    let same = (c.in_default.ensures {u = tt}).same refl in
    record { room = subst (λ m. HasRoom m 1 0) (sym same) (room_left _ _ _ _ _ _ _ _ c.requires c.loop.invariant.spent (omega arith) (omega arith)) }

pub returns-in_default-answer : goal.returns-in_default-answer
returns-in_default-answer g c =
    let i = c.loop.invariant in
    let same = (c.in_default.ensures {u = tt}).same refl in
    let e = c.event-answer.ensures in
    record {
      stepped = λ first run k s.
          let t = i.stepping first run k s in
          let stands = subst (λ m. For m t.behind) (sym same) t.so_far.stands in
          stepped_last _ first run _ _ _ _ k _ _ _ _ c.event-answer.result t c.loop-test.true (e.answer t.behind stands)
          (c.say.ensures.so_far first t.behind k t.so_far.said (e.happens t.behind stands) (e.answer t.behind stands) (λ request. absurd (let z : ⊥ = cc in z)) (λ read. absurd (let z : ⊥ = cc in z)))
          c.in_default-answer.not-Loaded;
      spent = spent_more _ c.loop.machine _ c.loop.counter 1 0 0 _ _ i.spent (subst (λ m. Spent m c.say.new.machine 1 0) same (subst (λ x. Spent c.load_due.new.self x 1 0) (sym c.say.ensures.same) e.spent)) (omega arith) (omega arith);
    }

pub loop-preserved : goal.loop-preserved
loop-preserved g c =
    let i = c.loop.invariant in
    elim c.match-load_due.branch [
      | in-Some w ↦
          let e = w.in-Some.ensures {u = tt} in
          record {
            stepping = λ first run k s.
                let t = i.stepping first run k s in
                let stands = t.so_far.stands in
                stepping_as _ first run _ _ _ _ k _ _ _ _ w.machine-is (ap (g.K.Sink.state) w.sink-is) w.written-is
                (stepping_more _ first run _ _ _ _ k _ _ _ _ _ t c.loop-test.true (e.answer t.behind stands)
                (w.say-written.ensures.so_far first t.behind k t.so_far.said (e.happens t.behind stands) (e.answer t.behind stands) (λ request. absurd (let z : ⊥ = cc in z)) (λ read. absurd (let z : ⊥ = cc in z)))
                refl);
            spent = subst (λ x. Spent c.args.machine.now x (c.loop.counter + 1) 0) (sym w.machine-is)
                (spent_more _ c.loop.machine _ c.loop.counter 1 0 0 _ _ i.spent (subst (λ x. Spent c.loop.machine x 1 0) (sym w.say-written.ensures.same) e.spent) (omega arith) (omega arith));
          }
      | in_default+in-Loaded w ↦
          let same = (w.in_default.ensures {u = tt}).same refl in
          let e = w.event-answer.ensures in
          record {
            stepping = λ first run k s.
                let t = i.stepping first run k s in
                let stands = subst (λ m. For m t.behind) (sym same) t.so_far.stands in
                stepping_as _ first run _ _ _ _ k _ _ _ _ w.machine-is (ap (g.K.Sink.state) w.sink-is) w.written-is
                (stepping_more _ first run _ _ _ _ k _ _ _ _ w.event-answer.result t c.loop-test.true (e.answer t.behind stands)
                (w.say-written-in-Loaded.ensures.so_far first t.behind k t.so_far.said (e.happens t.behind stands) (e.answer t.behind stands) (λ request. absurd (let z : ⊥ = cc in z)) (λ read. absurd (let z : ⊥ = cc in z)))
                (ap is_loaded w.in-Loaded.is));
            spent = subst (λ x. Spent c.args.machine.now x (c.loop.counter + 1) 0) (sym w.machine-is)
                (spent_more _ c.loop.machine _ c.loop.counter 1 0 0 _ _ i.spent (subst (λ m. Spent m w.say-written-in-Loaded.new.machine 1 0) same (subst (λ x. Spent c.load_due.new.self x 1 0) (sym w.say-written-in-Loaded.ensures.same) e.spent)) (omega arith) (omega arith));
          }
    ]

pub returns-clause-stepped : goal.returns-clause-stepped
returns-clause-stepped g c = λ first run k s.
    let all : c.loop.counter ≡ c.args.most = omega arith in
    all_loaded _ first run _ _ k _ _ (subst (λ n. Stepping (g.W.Witness.says c.args.witness.now) first run c.args.most n c.loop.machine k (g.K.Sink.state c.loop.sink) c.loop.written) all (c.loop.invariant.stepping first run k s))

pub returns-clause-spent : goal.returns-clause-spent
returns-clause-spent g c = spent_more _ _ _ _ _ _ _ _ _ c.loop.invariant.spent (spent_none _) (omega arith) (omega arith)
