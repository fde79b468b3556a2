use Rattle.std.proofs.Common.{◌+◌, ◌≤◌, ◌^◌, sym, subst}
use Rattle.km_base.specs.declared.acts.Act.TheVariants as acts
use Rattle.km_base.specs.declared.acts.Answer.TheVariants.{Done}
use Rattle.km_core.specs.Parts.{Answers, IsReady, Parts}
use Rattle.km_core.proofs.ScanActs.{ticked}
use Rattle.km_core.proofs.kernel.Kernel.tick.Goals as goal

pub returns-clause-answers : goal.returns-clause-answers
returns-clause-answers g c =
    let i = c.self.inside in
    let p : Parts = record { words = i.words; hosts = i.hosts; objects = i.objects; settings = i.settings } in
    let ready = subst IsReady (sym c.self.view_is) c.requires.ready in
    subst (λ x. Answers x (record p { settings = record p.settings { now = p.settings.now + c.args.n } }) (acts.Tick c.args.n) Done) c.self.view_is
    (ticked p c.args.n ready.whole (subst (λ x. x.settings.now + c.args.n ≤ 2 ^ 62) (sym c.self.view_is) c.requires.small))
