use Rattle.km_objects.proofs.step.load.Goals as goal

pub returns-clause-agree : goal.returns-clause-agree
returns-clause-agree g c = λ roll f d. record { settled = c.take.ensures.settled; fits = c.take.ensures.fits roll f d }
