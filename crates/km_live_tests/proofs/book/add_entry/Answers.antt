use Rattle.std.proofs.Common.{◌≡◌, ◌++◌, List, [], ◌∷◌, Some, sym, ap, ◌∙◌, subst}
use Rattle.km_base.specs.declared.acts.Act.TheVariants.{Kfree}
use Rattle.km_numbered.specs.Members.{AllBy}
use Rattle.km_rounds.specs.declared.entry.Entry.{Entry}
use Rattle.km_rounds.specs.Journals.{entry}
use Rattle.km_live_map.specs.Books.{Book}
use Rattle.km_live_map.specs.Ticks.{OnlyFirstTicks}
use Rattle.km_live_map.specs.Views.{View}
use Rattle.km_live_tests.proofs.book.add_entry.Goals as goal

pub give-requires-clause-book : goal.give-requires-clause-book
give-requires-clause-book g c =
    ap (λ (w : View). w.about) c.take-book.ensures.taken ∙ (c.take-book.ensures.knows.about ∙ ap (λ (b : Book). Some (b.opening, b.entries)) (sym c.in-Ok.ensures.made.noted))

pub give-requires-clause-journal : goal.give-requires-clause-journal
give-requires-clause-journal g c =
    subst (λ (w : View). (new : List Entry) × (c.act.new.self.journal ≡ w.taken ++ new) × AllBy (λ (e : Entry). e.by) w.member.number new × OnlyFirstTicks new) (sym c.take-book.ensures.taken)
    (entry c.args.by (Kfree 0) c.in-Ok.answer ∷ [], ap (λ (b : Book). b.journal) c.in-Ok.ensures.made.noted, (sym c.requires.2, tt), ((λ n is. absurd cc), tt))
