use Rattle.std.proofs.Common.{◌∙◌, sym, ap, subst}
use Rattle.km_base.specs.declared.acts.Act.TheVariants as acts
use Rattle.km_core.specs.Parts.{Answers, IsReady, Parts}
use Rattle.km_tasks.specs.Roll.{Roll}
use Rattle.km_core.proofs.ScanActs.{step_answers, step_touches, step_word}
use Rattle.km_core.proofs.kernel.Kernel.step.Goals as goal

pub step-requires-clause-words : goal.step-requires-clause-words
step-requires-clause-words g c = λ w at run next.
    let i = c.self.inside in
    let p : Parts = record { words = i.words; hosts = i.hosts; objects = i.objects; settings = i.settings } in
    let ready = subst IsReady (sym c.self.view_is) c.requires.ready in
    step_word p c.tasks.result.now _ w at ready c.tasks.ensures (c.requires.size ∙ ap (λ (x : Parts). x.words) (sym c.self.view_is)) run next

pub returns-clause-answers : goal.returns-clause-answers
returns-clause-answers g c =
    let i = c.self.inside in
    let p : Parts = record { words = i.words; hosts = i.hosts; objects = i.objects; settings = i.settings } in
    let ready = subst IsReady (sym c.self.view_is) c.requires.ready in
    let e = c.step.ensures in
    subst (λ x. Answers x (record p { objects = c.step.new.self }) acts.Step c.step.result) c.self.view_is
    (step_answers p c.step.new.self c.step.result c.tasks.result.now ready.whole c.tasks.ensures e.answer e.state e.refused e.agree e.places)

pub returns-clause-words : goal.returns-clause-words
returns-clause-words g c =
    let i = c.self.inside in
    let p : Parts = record { words = i.words; hosts = i.hosts; objects = i.objects; settings = i.settings } in
    let ready = subst IsReady (sym c.self.view_is) c.requires.ready in
    let e = c.step.ensures in
    step_touches p c.step.result _ _ ready (c.requires.size ∙ ap (λ (x : Parts). x.words) (sym c.self.view_is))
    (e.answer ready.state ready.stands.objects (ready.stands.hosts.tasks ∙ ap (λ (x : Roll). x.tasks) (sym c.tasks.ensures))) e.loaded e.unloaded
