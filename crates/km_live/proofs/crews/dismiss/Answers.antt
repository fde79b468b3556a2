use Rattle.std.proofs.Common.{◌||◌, ◌++◌, ◌∷◌, [], length, sym, ap, subst, ◌∙◌, rules, vec_capacity}
use Rattle.std.proofs.lemmas.Iterator.Adapters.{YieldsList-from_vec}
use Rattle.std.proofs.lemmas.Iterator.Consumers.{YieldsList-turn}
use Rattle.km_numbered.specs.Members.{with_kept}
use Rattle.km_live_map.specs.Views.{after_join}
use Rattle.km_live.proofs.Hired.{Dismissing, sits_at}
use Rattle.km_live.proofs.Playing.{dismiss_more}
use Rattle.km_live.proofs.crews.dismiss.Goals as goal

pub unseat-requires-clause-seat : goal.unseat-requires-clause-seat
unseat-requires-clause-seat g c =
    let turn =
    YieldsList-turn (YieldsList-from_vec {s = c.into_iter-worker-iterator.result} c.args.workers.items (search rules) (search rules)) c.loop-worker.yielded c.loop-worker.worker-iterator c.loop-worker.yielded_by
    c.next.result c.next.new.self c.in-Some.worker c.in-Some.is c.next.ensures.steps in
    let sits = sits_at c.args.shared.now.words.now c.args.shared.now.baton.now 2 c.args.workers.items (length c.loop-worker.yielded) c.in-Some.worker c.in-Some.worker c.requires.sitting turn.0 turn.1 in
    let seat = c.leave-seat.ensures.seat in
    record { hand = ap (λ s. s.hand.table) seat.0 ∙ sits.seat.hand; token = ap (λ b. b.baton) seat.1 ∙ sits.seat.token }

pub loop-worker-preserved-then-full : goal.loop-worker-preserved-then-full
loop-worker-preserved-then-full g c =
    let live = c.args.shared.now.words.now in
    let baton = c.args.shared.now.baton.now in
    let start = c.args.chief.now in
    let w = c.in-Some.worker in
    let turn =
    YieldsList-turn (YieldsList-from_vec {s = c.into_iter-worker-iterator.result} c.args.workers.items (search rules) (search rules)) c.loop-worker.yielded c.loop-worker.worker-iterator c.loop-worker.yielded_by
    c.next.result c.next.new.self c.in-Some.worker c.in-Some.is c.next.ensures.steps in
    let sits = sits_at live baton 2 c.args.workers.items (length c.loop-worker.yielded) w w c.requires.sitting turn.0 turn.1 in
    let seat = c.leave-seat.ensures.seat in
    let job = c.leave-seat.ensures.job in
    let stand = c.leave-seat.ensures.stand in
    let more =
    dismiss_more live baton start.token.view.about start.hand.hand.next start.hand.hand.kept start.token.view.member.kept c.args.workers.items c.loop-worker.yielded start c.loop-worker.chief c.unseat.new.chief c.args.done.now.items c.loop-worker.done.items (vec_capacity c.loop-worker.done)
    c.loop-worker.full c.leave-seat.result.2 w c.leave-seat.result.1 c.loop-worker.invariant c.unseat.ensures.chief
    (c.unseat.ensures.hand ∙ ap (λ s. with_kept c.loop-worker.chief.hand.hand s.hand.hand) seat.0) (c.unseat.ensures.token ∙ ap (λ b. after_join c.loop-worker.chief.token.view b.view) seat.1) sits
    (λ i. record { task = job.0 i; registers = sym (ap (λ m. m.registers) stand) i; lines = job.1 i }) (sym (ap (λ m. m.full) stand)) in
    subst (λ xs. Dismissing live baton start.token.view.about start.hand.hand.next start.hand.hand.kept start.token.view.member.kept c.args.workers.items (c.loop-worker.yielded ++ w ∷ []) start c.unseat.new.chief c.args.done.now.items xs (vec_capacity c.push_reserved.new.self) c.loop-worker.full) (sym c.push_reserved.ensures.items)
    (subst (λ n. Dismissing live baton start.token.view.about start.hand.hand.next start.hand.hand.kept start.token.view.member.kept c.args.workers.items (c.loop-worker.yielded ++ w ∷ []) start c.unseat.new.chief c.args.done.now.items (c.loop-worker.done.items ++ c.leave-seat.result.1 ∷ []) n c.loop-worker.full) (sym c.push_reserved.ensures.capacity)
    (subst (λ q. Dismissing live baton start.token.view.about start.hand.hand.next start.hand.hand.kept start.token.view.member.kept c.args.workers.items (c.loop-worker.yielded ++ w ∷ []) start c.unseat.new.chief c.args.done.now.items (c.loop-worker.done.items ++ c.leave-seat.result.1 ∷ []) (vec_capacity c.loop-worker.done) q) (ap (λ q. q || c.leave-seat.result.2) c.if-full.true ∙ sym c.if-full.true) more))

pub loop-worker-preserved : goal.loop-worker-preserved
loop-worker-preserved g c =
    let live = c.args.shared.now.words.now in
    let baton = c.args.shared.now.baton.now in
    let start = c.args.chief.now in
    let w = c.in-Some.worker in
    let turn =
    YieldsList-turn (YieldsList-from_vec {s = c.into_iter-worker-iterator.result} c.args.workers.items (search rules) (search rules)) c.loop-worker.yielded c.loop-worker.worker-iterator c.loop-worker.yielded_by
    c.next.result c.next.new.self c.in-Some.worker c.in-Some.is c.next.ensures.steps in
    let sits = sits_at live baton 2 c.args.workers.items (length c.loop-worker.yielded) w w c.requires.sitting turn.0 turn.1 in
    let seat = c.leave-seat.ensures.seat in
    let job = c.leave-seat.ensures.job in
    let stand = c.leave-seat.ensures.stand in
    let more =
    dismiss_more live baton start.token.view.about start.hand.hand.next start.hand.hand.kept start.token.view.member.kept c.args.workers.items c.loop-worker.yielded start c.loop-worker.chief c.unseat.new.chief c.args.done.now.items c.loop-worker.done.items (vec_capacity c.loop-worker.done)
    c.loop-worker.full c.leave-seat.result.2 w c.leave-seat.result.1 c.loop-worker.invariant c.unseat.ensures.chief
    (c.unseat.ensures.hand ∙ ap (λ s. with_kept c.loop-worker.chief.hand.hand s.hand.hand) seat.0) (c.unseat.ensures.token ∙ ap (λ b. after_join c.loop-worker.chief.token.view b.view) seat.1) sits
    (λ i. record { task = job.0 i; registers = sym (ap (λ m. m.registers) stand) i; lines = job.1 i }) (sym (ap (λ m. m.full) stand)) in
    subst (λ xs. Dismissing live baton start.token.view.about start.hand.hand.next start.hand.hand.kept start.token.view.member.kept c.args.workers.items (c.loop-worker.yielded ++ w ∷ []) start c.unseat.new.chief c.args.done.now.items xs (vec_capacity c.push_reserved.new.self) c.leave-seat.result.2) (sym c.push_reserved.ensures.items)
    (subst (λ n. Dismissing live baton start.token.view.about start.hand.hand.next start.hand.hand.kept start.token.view.member.kept c.args.workers.items (c.loop-worker.yielded ++ w ∷ []) start c.unseat.new.chief c.args.done.now.items (c.loop-worker.done.items ++ c.leave-seat.result.1 ∷ []) n c.leave-seat.result.2) (sym c.push_reserved.ensures.capacity)
    (subst (λ q. Dismissing live baton start.token.view.about start.hand.hand.next start.hand.hand.kept start.token.view.member.kept c.args.workers.items (c.loop-worker.yielded ++ w ∷ []) start c.unseat.new.chief c.args.done.now.items (c.loop-worker.done.items ++ c.leave-seat.result.1 ∷ []) (vec_capacity c.loop-worker.done) q) (ap (λ q. q || c.leave-seat.result.2) c.if-full.false) more))
