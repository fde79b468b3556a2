use Rattle.std.proofs.Common.{◌≡◌, true, false, sym, ◌∙◌}
use Rattle.km_machine.proofs.Lines.{simple_request, simple_unread}
use Rattle.km_machine.proofs.behind.made.Goals as goal

pub returns-clause-so_far : goal.returns-clause-so_far
returns-clause-so_far g c = λ first run k s.
    let e = c.event-answer.ensures in
    let a = c.args.act.now in
    c.say.ensures.so_far first run k s.said (e.happens run s.stands) (e.answer run s.stands)
    (λ request. absurd (let none = simple_request a c.requires.simple in let bad : true ≡ false = sym request ∙ none in cc))
    (λ read. absurd (simple_unread a c.requires.simple read))
