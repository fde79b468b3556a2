use Rattle.std.proofs.Common.{◌≡◌, ◌++◌, List, sym, ap, ◌∙◌, subst}
use Rattle.km_numbered.specs.Members.{AllBy}
use Rattle.km_rounds.specs.declared.entry.Entry.{Entry}
use Rattle.km_live_map.specs.Ticks.{OnlyFirstTicks}
use Rattle.km_live_map.specs.Views.{View, after_give}
use Rattle.km_workers.specs.Workers.{Acted}
use Rattle.km_live_workers.specs.AtBooks.{Answered, acting_at, acting_of}
use Rattle.km_live_workers.proofs.Acts.{acted, goes_back}
use Rattle.km_live_workers.proofs.at_book.made_at.Goals as goal

pub give-requires-clause-journal : goal.give-requires-clause-journal
give-requires-clause-journal g c =
    subst (λ (w : View). (new : List Entry) × (c.made-answer.new.book.journal ≡ w.taken ++ new) × AllBy (λ (e : Entry). e.by) w.member.number new × OnlyFirstTicks new) (sym c.take-book.ensures.taken)
    (goes_back c.args.token.now.baton c.args.token.now.view c.take-book.result c.made-answer.new.book c.args.act c.args.seated.now c.made-answer.new.seated c.made-answer.result _ c.requires.may
    (subst (λ w. Answered w c.take-book.result c.made-answer.new.book c.args.act c.args.seated.now c.made-answer.new.seated c.made-answer.result) c.take-book.ensures.taken c.made-answer.ensures))

pub returns-clause-acted : goal.returns-clause-acted
returns-clause-acted g c =
    let before = c.args.token.now in
    let made =
    acted before.baton before.view c.take-book.result c.made-answer.new.book c.args.act c.args.seated.now c.made-answer.new.seated c.made-answer.result c.take-book.ensures.knows
    (subst (λ w. Answered w c.take-book.result c.made-answer.new.book c.args.act c.args.seated.now c.made-answer.new.seated c.made-answer.result) c.take-book.ensures.taken c.made-answer.ensures) in
    let given =
    subst (λ w. Acted (acting_of before) (acting_at before.baton w) c.args.act c.made-answer.result)
    (sym (c.give.ensures.given ∙ ap (λ w. after_give w c.made-answer.new.book) c.take-book.ensures.taken)) made in
    subst (λ t. Acted (acting_of before) (acting_at t c.give.new.token.view) c.args.act c.made-answer.result) (sym (c.give.ensures.baton ∙ c.take-book.ensures.baton)) given
