use Rattle.std.proofs.Common.{◌∙◌, ◌∷◌, ap, sym, subst}
use Rattle.km_model.specs.Follows.{all_happen, happens, told_answer}
use Rattle.km_machine.specs.Lines.{SoFar}
use Rattle.km_machine.proofs.Lines.{allocation_plain, further_at, is_place, none_further, not_at, plain_says, request_unread}
use Rattle.km_machine.proofs.Sayings.{said_none}
use Rattle.km_machine.proofs.line.requested.Goals as goal

pub returns-in-At-clause-says : goal.returns-in-At-clause-says
returns-in-At-clause-says g c = λ run f first.
    let says = g.W.Witness.says c.args.witness.now in
    let line = c.args.command.now in
    let act = c.args.act.now in
    let k = g.K.Sink.state c.args.sink.now in
    let e = c.event-answer.ensures in
    let one = c.say-written.ensures.so_far run run k (said_none says run k) (e.happens run f) (e.answer run f) (λ request. c.requires.asks) (λ read. absurd (request_unread act c.requires.request read)) in
    let newest = ap (λ x. record { act = act; answer = x } ∷ run.history) (sym (e.answer run f) ∙ c.in-At.is) in
    plain_says says c.acts.new.machine run line k (g.K.Sink.state c.acts.new.sink) c.acts.result act (allocation_plain line c.requires.allocation) first
    (subst (λ l. SoFar says run (all_happen (happens run act) l) c.acts.new.machine k (g.K.Sink.state c.acts.new.sink) c.acts.result)
    (sym (further_at run.history (happens run act).history act c.in-At.start line newest))
    (c.acts.ensures.so_far run (happens run act) k (record { request = act; before = run.history; newest = newest; first = first }) one))

pub returns-in_default-clause-says : goal.returns-in_default-clause-says
returns-in_default-clause-says g c = λ run f first.
    let says = g.W.Witness.says c.args.witness.now in
    let line = c.args.command.now in
    let act = c.args.act.now in
    let k = g.K.Sink.state c.args.sink.now in
    let k' = g.K.Sink.state c.say-written.new.sink in
    let e = c.event-answer.ensures in
    let one = c.say-written.ensures.so_far run run k (said_none says run k) (e.happens run f) (e.answer run f) (λ request. c.requires.asks) (λ read. absurd (request_unread act c.requires.request read)) in
    let none = sym (ap is_place (e.answer run f)) ∙ not_at c.event-answer.result c.in_default.not-At in
    plain_says says c.say-written.new.machine run line k k' c.say-written.result act (allocation_plain line c.requires.allocation) first
    (subst (λ l. SoFar says run (all_happen (happens run act) l) c.say-written.new.machine k k' c.say-written.result)
    (sym (none_further run.history act (told_answer run act) line none)) one)
