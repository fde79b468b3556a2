use Rattle.std.proofs.Common.{refl, ap}
use Rattle.km_base.specs.declared.acts.Answer.TheVariants.{Loaded}
use Rattle.km_scan.specs.Places.{place_of}
use Rattle.km_objects.proofs.Steps.{due_loads}
use Rattle.km_objects.proofs.step.load_due.Goals as goal

pub load-value-requires-clause-word : goal.load-value-requires-clause-word
load-value-requires-clause-word g c =
    let d = (c.in_ok-at.ensures {u = tt}).due in
    c.requires.words d.sweep (place_of c.in_ok-at.at) d.running ((c.in_ok-at.ensures {u = tt}).next d.sweep (place_of c.in_ok-at.at) d.running (c.requires.agree.settled d.sweep d.running) d.place)

pub returns-clause-step : goal.returns-clause-step
returns-clause-step g c =
    let at = c.in_ok-at.at in
    let d = (c.in_ok-at.ensures {u = tt}).due in
    let ready = c.requires.agree.settled d.sweep d.running in
    let next = (c.in_ok-at.ensures {u = tt}).next d.sweep (place_of at) d.running ready d.place in
    due_loads _ _ _ _ _ d.sweep (place_of at) (place_of at).word (Loaded c.word.result.0 c.load-value.result) d.running ready d.place next refl (ap (λ n. Loaded n c.load-value.result) c.word.ensures) (at, refl, c.load-value.ensures.sweep d.sweep d.running)
    (c.load-value.ensures.track d.sweep c.args.tasks.now d.running) (c.load-value.ensures.agree c.args.tasks.now c.requires.agree.fits d)
