use Rattle.std.proofs.Common.{refl, sym, ap, ◌∙◌}
use Rattle.km_base.specs.declared.acts.Answer.TheVariants.{Loaded}
use Rattle.km_scan.specs.Places.{place_of}
use Rattle.km_objects.proofs.Steps.{due_loads, idle_step, is_idle, is_running}
use Rattle.km_objects.proofs.step.step.Goals as goal

pub load-value-requires : goal.load-value-requires
load-value-requires g c =
    let d = (c.in-Some.ensures {u = tt}).due in
    let next = (c.in-Some.ensures {u = tt}).next d.sweep (place_of c.in-Some.at) d.running (c.requires.agree.settled d.sweep d.running) d.place in
    record { due = (c.args.tasks.now, d); word = c.requires.words d.sweep (place_of c.in-Some.at) d.running next }

pub returns-in-Some-clause-step : goal.returns-in-Some-clause-step
returns-in-Some-clause-step g c =
    let at = c.in-Some.at in
    let d = (c.in-Some.ensures {u = tt}).due in
    let ready = c.requires.agree.settled d.sweep d.running in
    let next = (c.in-Some.ensures {u = tt}).next d.sweep (place_of at) d.running ready d.place in
    due_loads _ _ _ _ _ d.sweep (place_of at) (place_of at).word (Loaded c.word.result.0 c.load-value.result) d.running ready d.place next refl (ap (λ n. Loaded n c.load-value.result) c.word.ensures) (at, refl, c.load-value.ensures.sweep d.sweep d.running)
    (c.load-value.ensures.track d.sweep c.args.tasks.now d.running) (c.load-value.ensures.agree c.args.tasks.now c.requires.agree.fits d)

pub load_next-requires-clause-moved : goal.load_next-requires-clause-moved
load_next-requires-clause-moved g c =
    let r = is_running c.args.scanner.now c.in-Some-running.field-0 (sym c.running.ensures ∙ c.in-Some-running.is) in
    (r.0, r.1, (c.in_default.ensures {u = tt}).none refl r.0 r.1)

pub returns-in-None-clause-step : goal.returns-in-None-clause-step
returns-in-None-clause-step g c = idle_step _ _ _ (is_idle c.args.scanner.now (sym c.running.ensures ∙ c.in-None.is)) c.requires.agree
