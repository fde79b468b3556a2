use Rattle.std.proofs.Common.{◌+◌, ◌<◌, ◌^◌, sym, subst}
use Rattle.km_base.specs.declared.acts.Act.TheVariants.{Step}
use Rattle.km_base.specs.declared.acts.Answer.TheVariants.{Loaded}
use Rattle.km_core.specs.Cores.{IsAnswered, Seen}
use Rattle.km_core.proofs.Cores.{core_answered, core_next, ready}
use Rattle.km_core.proofs.events.Core.load_due.Goals as goal

pub load_due-requires-clause-ready : goal.load_due-requires-clause-ready
load_due-requires-clause-ready g c =
    let i = c.self.inside in
    let seen : Seen = record { events = i.events; parts = i.kernel } in
    ready seen c.self.invariant (subst (λ (x : Seen). x.events < 2 ^ 62) (sym c.self.view_is) c.requires.few)

pub invariant_of-self-2 : goal.invariant_of-self-2
invariant_of-self-2 g c =
    let i = c.self.inside in
    let seen : Seen = record { events = i.events; parts = i.kernel } in
    let e = c.in_ok-load.ensures {u = tt} in
    core_next seen c.load_due.new.self Step (Loaded c.in_ok-load.load.0.0 c.in_ok-load.load.1) _ _ c.self.invariant e.answers e.words

pub returns-clause-made : goal.returns-clause-made
returns-clause-made g c =
    let i = c.self.inside in
    let seen : Seen = record { events = i.events; parts = i.kernel } in
    let given = Loaded c.in_ok-load.load.0.0 c.in_ok-load.load.1 in
    let e = c.in_ok-load.ensures {u = tt} in
    subst (λ x. IsAnswered x (record { events = i.events + 1; parts = c.load_due.new.self }) Step given (g.W.Words.told c.args.words.now) (g.W.Words.told c.load_due.new.words)) c.self.view_is
    (core_answered seen c.load_due.new.self Step given _ _ c.self.invariant.whole e.answers e.words)
