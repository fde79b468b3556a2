use Rattle.km_scan.proofs.Held.{take_behind, take_finds, take_holds, take_passes, popped_is}
use Rattle.km_scan.proofs.grey.next_held.Goals as goal

pub returns-in-Some-first_word-clause-place : goal.returns-in-Some-first_word-clause-place
returns-in-Some-first_word-clause-place g c =
    let e = c.in-Some.ensures in
    let s = c.in-Some-first_word.ensures in
    take_finds c.args.pass c.args.track.now c.loop-id.track c.pop_grey.new.self c.in-Some.id c.in-Some-first_word.word.0 c.loop-id.invariant
    (popped_is c.args.pass c.args.track.now c.loop-id.track c.pop_grey.new.self c.in-Some.id c.loop-id.invariant e.head e.live e.grey e.once e.rest) s.rising s.word

pub returns-in-Some-first_word-clause-queue : goal.returns-in-Some-first_word-clause-queue
returns-in-Some-first_word-clause-queue g c =
    let e = c.in-Some.ensures in
    take_behind c.args.pass c.args.track.now c.loop-id.track c.pop_grey.new.self c.in-Some.id c.loop-id.invariant
    (popped_is c.args.pass c.args.track.now c.loop-id.track c.pop_grey.new.self c.in-Some.id c.loop-id.invariant e.head e.live e.grey e.once e.rest)

pub returns-in-Some-first_word-clause-fits : goal.returns-in-Some-first_word-clause-fits
returns-in-Some-first_word-clause-fits g c =
    let e = c.in-Some.ensures in
    λ stacks roll ne. take_holds stacks c.args.pass c.args.track.now c.loop-id.track c.pop_grey.new.self roll c.in-Some.id c.in-Some-first_word.word
    (popped_is c.args.pass c.args.track.now c.loop-id.track c.pop_grey.new.self c.in-Some.id c.loop-id.invariant e.head e.live e.grey e.once e.rest) ne c.in-Some-first_word.ensures.within

pub loop-id-preserved : goal.loop-id-preserved
loop-id-preserved g c =
    let e = c.in-Some.ensures in
    let s = c.in_default-first_word.ensures in
    take_passes c.args.pass c.args.track.now c.loop-id.track c.pop_grey.new.self c.in-Some.id c.loop-id.invariant
    (popped_is c.args.pass c.args.track.now c.loop-id.track c.pop_grey.new.self c.in-Some.id c.loop-id.invariant e.head e.live e.grey e.once e.rest) s.rising s.word
