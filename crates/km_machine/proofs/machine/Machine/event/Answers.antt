use Rattle.std.proofs.Common.{sym, subst}
use Rattle.km_machine.specs.Machines.{For, Simulation}
use Rattle.km_machine.proofs.Told.{act_happens, core_told}
use Rattle.km_machine.proofs.machine.Machine.event.Goals as goal

pub returns-clause-happens : goal.returns-clause-happens
returns-clause-happens c = λ run stands.
    let i = c.self.inside in
    let old : Simulation = record { core = i.core; memory = i.words } in
    let r = subst (λ x. For x run) (sym c.self.view_is) stands in
    act_happens old (record { core = c.apply.new.self; memory = c.apply.new.words }) run c.args.act.now c.apply.result _ r
    (c.apply.ensures.history run.history r.state r.stands) (c.apply.ensures.stands run.history r.state r.stands) c.apply.ensures.touches c.apply.ensures.words

pub returns-clause-answer : goal.returns-clause-answer
returns-clause-answer c = λ run stands.
    let i = c.self.inside in
    let old : Simulation = record { core = i.core; memory = i.words } in
    let r = subst (λ x. For x run) (sym c.self.view_is) stands in
    core_told old c.apply.new.words run c.args.act.now c.apply.result r
    (c.apply.ensures.history run.history r.state r.stands) c.apply.ensures.touches
