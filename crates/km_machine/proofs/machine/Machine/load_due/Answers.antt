use Rattle.std.proofs.Common.{sym, subst}
use Rattle.km_base.specs.declared.acts.Act.TheVariants.{Step}
use Rattle.km_base.specs.declared.acts.Answer.TheVariants.{Loaded}
use Rattle.km_machine.specs.Machines.{For, Simulation}
use Rattle.km_machine.proofs.Told.{act_happens, core_told}
use Rattle.km_machine.proofs.machine.Machine.load_due.Goals as goal

pub returns-clause-happens : goal.returns-clause-happens
returns-clause-happens c = λ run stands.
    let i = c.self.inside in
    let old : Simulation = record { core = i.core; memory = i.words } in
    let r = subst (λ x. For x run) (sym c.self.view_is) stands in
    let made = (c.in_ok-load.ensures {u = tt}).made in
    act_happens old (record { core = c.load_due.new.self; memory = c.load_due.new.words }) run Step (Loaded c.in_ok-load.load.0.0 c.in_ok-load.load.1) _ r
    (made.history run.history r.state r.stands) (made.stands run.history r.state r.stands) made.touches made.words

pub returns-clause-answer : goal.returns-clause-answer
returns-clause-answer c = λ run stands.
    let i = c.self.inside in
    let old : Simulation = record { core = i.core; memory = i.words } in
    let r = subst (λ x. For x run) (sym c.self.view_is) stands in
    let made = (c.in_ok-load.ensures {u = tt}).made in
    core_told old c.load_due.new.words run Step (Loaded c.in_ok-load.load.0.0 c.in_ok-load.load.1) r
    (made.history run.history r.state r.stands) made.touches
