use Rattle.km_hosts.proofs.hosts.Hosts.set_reg.Goals as goal

pub invariant_of-self : goal.invariant_of-self
invariant_of-self c = record { slab = c.self.invariant.slab; areas = c.self.invariant.areas; tasks = c.set_reg.ensures.fits c.self.inside.pages c.self.invariant.tasks }
