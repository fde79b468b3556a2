use Rattle.std.proofs.Common.{◌≡◌, ◌<◌, ◌^◌, sym, subst}
use Rattle.km_model.specs.History.{value_of}
use Rattle.km_model.specs.Answers.{answer as answer_of}
use Rattle.km_model.specs.Follows.{past_of}
use Rattle.km_core.specs.Cores.{Seen, Stands}
use Rattle.km_core.proofs.Cores.{answers_now, core_next, history_answer, left_falls, ready, stands_next}
use Rattle.km_core.proofs.events.Core.apply.Goals as goal

pub act-answer-requires-clause-ready : goal.act-answer-requires-clause-ready
act-answer-requires-clause-ready g c =
    let i = c.self.inside in
    let seen : Seen = record { events = i.events; parts = i.kernel } in
    ready seen c.self.invariant (subst (λ (x : Seen). x.events < 2 ^ 62) (sym c.self.view_is) c.requires.few)

pub invariant_of-self : goal.invariant_of-self
invariant_of-self g c =
    let i = c.self.inside in
    let seen : Seen = record { events = i.events; parts = i.kernel } in
    core_next seen c.act-answer.new.self c.args.act c.act-answer.result _ _ c.self.invariant c.act-answer.ensures.answers c.act-answer.ensures.words

pub returns-clause-answer : goal.returns-clause-answer
returns-clause-answer g c = λ h s stands.
    let i = c.self.inside in
    let seen : Seen = record { events = i.events; parts = i.kernel } in
    answers_now seen c.act-answer.new.self c.args.act c.act-answer.result h s c.self.invariant.whole c.act-answer.ensures.answers (subst (λ x. Stands x h s) (sym c.self.view_is) stands)

pub returns-clause-stands : goal.returns-clause-stands
returns-clause-stands g c = λ h s stands.
    let i = c.self.inside in
    let seen : Seen = record { events = i.events; parts = i.kernel } in
    stands_next seen c.act-answer.new.self c.args.act c.act-answer.result _ _ h s c.self.invariant.whole c.act-answer.ensures.answers c.act-answer.ensures.words (subst (λ x. Stands x h s) (sym c.self.view_is) stands)

pub returns-clause-history : goal.returns-clause-history
returns-clause-history g c = λ h s stands.
    let i = c.self.inside in
    let seen : Seen = record { events = i.events; parts = i.kernel } in
    subst (λ (x : Seen). c.act-answer.result ≡ answer_of x.parts.words (past_of h) c.args.act (value_of c.act-answer.result)) c.self.view_is
    (history_answer seen c.act-answer.new.self c.args.act c.act-answer.result h s c.self.invariant.whole c.act-answer.ensures.answers (subst (λ x. Stands x h s) (sym c.self.view_is) stands))

pub returns-clause-left : goal.returns-clause-left
returns-clause-left g c = λ h s stands loaded step.
    let i = c.self.inside in
    let seen : Seen = record { events = i.events; parts = i.kernel } in
    left_falls seen c.act-answer.new.self c.args.act c.act-answer.result h s c.self.invariant.whole c.act-answer.ensures.answers (subst (λ x. Stands x h s) (sym c.self.view_is) stands) loaded step
