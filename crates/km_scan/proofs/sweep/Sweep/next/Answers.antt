use Rattle.std.proofs.Common.{ap, ◌∙◌}
use Rattle.std.specs.Prelude.{if◌then◌else◌, nat_le, []}
use Rattle.km_state.specs.StateNext.{phase_at}
use Rattle.km_scan.specs.Places.{cursor_of, place_of}
use Rattle.km_scan.proofs.Moves.{grey_queue, last_queue, summed_live}
use Rattle.km_scan.proofs.sweep.Sweep.next.Goals as goal

pub returns-in-Some-next_grey-clause-queue : goal.returns-in-Some-next_grey-clause-queue
returns-in-Some-next_grey-clause-queue g c =
    let t = c.args.track.now in
    let e = c.in-Some-next_grey.ensures {u = tt} in
    e.queue ∙ ap (λ ns. record t { queue = ns }) (grey_queue c.args.stacks c.args.self.now t c.args.tasks.now (place_of c.in-Some-next_grey.at) c.requires.fits.cursor e.place)

pub next_white-requires : goal.next_white-requires
next_white-requires g c =
    let t = c.args.track.now in
    λ id word e. summed_live c.args.stacks c.args.self.now.cursor t c.next_grey.new.track c.args.tasks.now (if nat_le (phase_at (cursor_of c.args.self.now.cursor)) 2 then [] else t.queue) id word c.requires.fits.cursor ((c.in_default-next_grey.ensures {u = tt}).empty) e

pub returns-clause-queue : goal.returns-clause-queue
returns-clause-queue g c =
    let t = c.args.track.now in
    last_queue c.args.stacks c.args.self.now t c.next_grey.new.track c.next_held.new.track c.args.tasks.now c.next_held.result c.requires.fits.cursor ((c.in_default-next_grey.ensures {u = tt}).empty) c.next_held.ensures.place c.next_held.ensures.queue
