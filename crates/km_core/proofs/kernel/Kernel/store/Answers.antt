use Rattle.std.proofs.Common.{refl, sym, subst}
use Rattle.km_base.specs.declared.acts.Act.TheVariants as acts
use Rattle.km_base.specs.declared.acts.Answer.TheVariants.{Done, Refused}
use Rattle.km_base.specs.declared.acts.Refusal.TheVariants.{BadAddress}
use Rattle.km_core.specs.Parts.{Answers, IsReady, Parts}
use Rattle.km_core.proofs.Standing.{refused_now}
use Rattle.km_core.proofs.BlockActs.{store_made, store_refused}
use Rattle.km_core.proofs.kernel.Kernel.store.Goals as goal

pub returns-then-not-in_memory-clause-answers : goal.returns-then-not-in_memory-clause-answers
returns-then-not-in_memory-clause-answers g c =
    let i = c.self.inside in
    let p : Parts = record { words = i.words; hosts = i.hosts; objects = i.objects; settings = i.settings } in
    let ready = subst IsReady (sym c.self.view_is) c.requires.ready in
    let act = acts.Store c.args.a.0 c.args.value in
    subst (λ x. Answers x x act (Refused BadAddress)) c.self.view_is
    (refused_now p act BadAddress ready.whole refl (λ s stands reached. store_refused p c.args.a.0 c.args.value s stands (sym c.if-not-in_memory.ensures)))

pub returns-clause-answers : goal.returns-clause-answers
returns-clause-answers g c =
    let i = c.self.inside in
    let p : Parts = record { words = i.words; hosts = i.hosts; objects = i.objects; settings = i.settings } in
    let ready = subst IsReady (sym c.self.view_is) c.requires.ready in
    let act = acts.Store c.args.a.0 c.args.value in
    subst (λ x. Answers x x act Done) c.self.view_is (store_made p c.args.a.0 c.args.value ready.whole (sym c.if-not-in_memory.ensures))
