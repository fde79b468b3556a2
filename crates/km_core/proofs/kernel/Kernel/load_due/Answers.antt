use Rattle.std.proofs.Common.{◌∙◌, sym, ap, subst}
use Rattle.km_base.specs.declared.acts.Act.TheVariants as acts
use Rattle.km_base.specs.declared.acts.Answer.TheVariants.{Loaded}
use Rattle.km_core.specs.Parts.{Answers, IsReady, Parts}
use Rattle.km_tasks.specs.Roll.{Roll}
use Rattle.km_core.proofs.ScanActs.{step_answers, step_touches, step_word}
use Rattle.km_core.proofs.kernel.Kernel.load_due.Goals as goal

pub load_due-requires-clause-words : goal.load_due-requires-clause-words
load_due-requires-clause-words g c = λ w at run next.
    let i = c.self.inside in
    let p : Parts = record { words = i.words; hosts = i.hosts; objects = i.objects; settings = i.settings } in
    let ready = subst IsReady (sym c.self.view_is) c.requires.ready in
    step_word p c.tasks.result.now _ w at ready c.tasks.ensures (c.requires.size ∙ ap (λ (x : Parts). x.words) (sym c.self.view_is)) run next

pub returns-clause-answers : goal.returns-clause-answers
returns-clause-answers g c =
    let i = c.self.inside in
    let p : Parts = record { words = i.words; hosts = i.hosts; objects = i.objects; settings = i.settings } in
    let ready = subst IsReady (sym c.self.view_is) c.requires.ready in
    let e = c.in_ok-load.ensures {u = tt} in
    let given = Loaded c.in_ok-load.load.0.0 c.in_ok-load.load.1 in
    subst (λ x. Answers x (record p { objects = c.load_due.new.self }) acts.Step given) c.self.view_is
    (step_answers p c.load_due.new.self given c.tasks.result.now ready.whole c.tasks.ensures e.answer e.state (λ bad. absurd (let z : ⊥ = cc in z)) e.agree e.places)

pub returns-clause-words : goal.returns-clause-words
returns-clause-words g c =
    let i = c.self.inside in
    let p : Parts = record { words = i.words; hosts = i.hosts; objects = i.objects; settings = i.settings } in
    let ready = subst IsReady (sym c.self.view_is) c.requires.ready in
    let e = c.in_ok-load.ensures {u = tt} in
    step_touches p (Loaded c.in_ok-load.load.0.0 c.in_ok-load.load.1) _ _ ready (c.requires.size ∙ ap (λ (x : Parts). x.words) (sym c.self.view_is))
    (e.answer ready.state ready.stands.objects (ready.stands.hosts.tasks ∙ ap (λ (x : Roll). x.tasks) (sym c.tasks.ensures))) (e.range, e.given, e.memory, e.after) (λ none. absurd (let z : ⊥ = cc in z))
