use Rattle.std.proofs.Common.{◌+◌, ◌++◌, ◌∷◌, [], All, length, map, sym, ap, subst, ◌∙◌, arith}
use Rattle.std.specs.List.{AllZip}
use Rattle.km_live_workers.specs.Runs.{HasRun, HasScanned, IsReady}
use Rattle.km_live_workers.specs.Seats.{newly_on}
use Rattle.km_live_workers.specs.Jobs.{job_of}
use Rattle.km_live.specs.Crews.{AreWaiting, HavePlayed, IsFor, hired, left_job}
use Rattle.km_live.proofs.Hired.{all_ready, all_sit, as_many_ran}
use Rattle.km_live.proofs.Playing.{have_played, taken_as}
use Rattle.km_live.proofs.Waiting.{after_seat, after_unseat, seen_more, token_of_seat}
use Rattle.km_live.proofs.crews.play.Goals as goal

pub together-scanner-requires-clause-workers : goal.together-scanner-requires-clause-workers
together-scanner-requires-clause-workers g c κs within =
    let live = c.args.shared.now.words.now in
    let baton = c.args.shared.now.baton.now in
    let about = c.args.chief.now.token.view.about in
    let w = after_seat live baton about 1 [] [] c.args.chief.now c.seat-seat.new.chief c.requires.waiting c.seat-seat.ensures.chief c.seat-seat.ensures.hand c.seat-seat.ensures.token in
    subst (All IsReady) (sym c.in_ok-workers.ensures.hired)
    (all_ready live baton c.seat-seat.new.chief.token.view.about (subst (IsFor live) (sym w.about) c.requires.words) 2 c.args.jobs.items)

pub dismiss-left_out-requires-clause-sitting : goal.dismiss-left_out-requires-clause-sitting
dismiss-left_out-requires-clause-sitting g c =
    all_sit c.args.shared.now.words.now c.args.shared.now.baton.now c.seat-seat.new.chief.token.view.about 2 c.args.jobs.items c.together-scanner.result.1.items
    (subst (λ ws. AllZip HasRun ws c.together-scanner.result.1.items) c.in_ok-workers.ensures.hired c.together-scanner.ensures.workers)

pub dismiss-left_out-requires-clause-room : goal.dismiss-left_out-requires-clause-room
dismiss-left_out-requires-clause-room g c =
    let many =
    as_many_ran c.args.shared.now.words.now c.args.shared.now.baton.now c.seat-seat.new.chief.token.view.about 2 c.args.jobs.items c.together-scanner.result.1.items
    (subst (λ ws. AllZip HasRun ws c.together-scanner.result.1.items) c.in_ok-workers.ensures.hired c.together-scanner.ensures.workers) in
    let none = c.in-Ok.ensures.len in
    let room = c.in-Ok.ensures.capacity in
    let asked = c.len.ensures in
    let long = c.args.jobs.ok.0 in
    omega (arith, many, none, room, asked, long)

pub returns : goal.returns
returns g c =
    let live = c.args.shared.now.words.now in
    let baton = c.args.shared.now.baton.now in
    let start = c.args.chief.now in
    let about = start.token.view.about in
    let jobs = c.args.jobs.items in
    let scanner = c.together-scanner.result.0 in
    let ws = c.together-scanner.result.1.items in
    let w1 = after_seat live baton about 1 [] [] start c.seat-seat.new.chief c.requires.waiting c.seat-seat.ensures.chief c.seat-seat.ensures.hand c.seat-seat.ensures.token in
    let w2 = subst (λ a. AreWaiting live baton a (2 + length jobs) [] [] c.hire.new.chief) w1.about c.in_ok-workers.ensures.waiting in
    let scan =
    subst (λ b. HasScanned (newly_on live 1) scanner.seat.words b scanner.seat.book c.args.scans c.args.gap scanner.whole) (c.seat-seat.ensures.book ∙ token_of_seat live baton about 1 [] [] start c.requires.waiting)
    (subst (λ s. HasScanned s scanner.seat.words c.seat-seat.result.book scanner.seat.book c.args.scans c.args.gap scanner.whole) c.seat-seat.ensures.words c.together-scanner.ensures.scanner) in
    let ran =
    subst (λ a. AllZip HasRun (hired live baton a 2 jobs) ws) w1.about
    (subst (λ vs. AllZip HasRun vs ws) c.in_ok-workers.ensures.hired c.together-scanner.ensures.workers) in
    let w3 =
    after_unseat live baton about (2 + length jobs) [] [] c.hire.new.chief c.unseat.new.chief scanner.seat.words scanner.seat.book 1 w2 c.unseat.ensures.chief c.unseat.ensures.hand c.unseat.ensures.token scan.seat.hand scan.seat.token in
    let seen = seen_more c.hire.new.chief.token.view scanner.seat.book.view c.unseat.new.chief.token.view c.unseat.ensures.token in
    let taken =
    taken_as live baton about (2 + length jobs) ((1, scanner.seat.words.hand.hand.own) ∷ []) ((1, scanner.seat.book.view.member.own) ∷ []) ws c.unseat.new.chief c.dismiss-left_out.new.chief w3 c.dismiss-left_out.ensures.taken_in in
    subst (HavePlayed live baton about jobs c.args.scans c.args.gap c.dismiss-left_out.new.chief c.dismiss-left_out.new.done.items) (sym c.is_cut.ensures)
    (have_played live baton about jobs c.args.scans c.args.gap scanner.seat.words scanner.seat.book scanner.whole ws c.unseat.new.chief c.dismiss-left_out.new.chief c.dismiss-left_out.new.done.items c.dismiss-left_out.result
    scan ran seen.1 taken
    (c.dismiss-left_out.ensures.jobs ∙ ap (λ xs. map job_of xs ++ map left_job ws) c.in-Ok.ensures.items) c.dismiss-left_out.ensures.full)
