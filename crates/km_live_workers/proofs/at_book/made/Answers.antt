use Rattle.std.proofs.Common.{◌≡◌, ◌++◌, [], ◌∷◌, ◌∙◌, ap, sym, subst}
use Rattle.km_rounds.specs.Journals.{entry}
use Rattle.km_live_map.specs.Books.{Book, IsBook}
use Rattle.km_live_workers.proofs.Acts.{book_fit, may_pass, none_touched, touched}
use Rattle.km_live_workers.proofs.at_book.made.Goals as goal

pub act-requires-clause-small : goal.act-requires-clause-small
act-requires-clause-small c = λ n is. may_pass c.args.token.now.view c.args.book.now n c.requires.knows c.journal.ensures.kept (c.requires.may.ticks n is)

pub returns-in-Ok : goal.returns-in-Ok
returns-in-Ok c =
    let made = c.in-Ok.ensures.made in
    let old = c.journal.ensures.kept in
    let new = c.journal-in-Ok.ensures.kept in
    let words = new.words ∙ (ap (λ (b : Book). b.opening.parts.words) made.noted ∙ sym old.words) in
    record {
      about = (ap (λ (b : Book). b.opening) made.noted, ap (λ (b : Book). b.entries) made.noted);
      kept = new;
      made = (
        subst (λ n. c.act.new.self.journal ≡ c.args.book.now.journal ++ entry n c.args.act c.in-Ok.answer ∷ []) (sym c.requires.number) (ap (λ (b : Book). b.journal) made.noted),
        made.free,
        book_fit c.args.token.now.view c.args.book.now c.act.new.self c.args.act c.in-Ok.answer c.requires.knows c.requires.begun old words made.stands,
      );
      stepped = touched c.args.act c.in-Ok.answer _ _ c.requires.may.stores made.words;
    }

pub returns-in-Err : goal.returns-in-Err
returns-in-Err c =
    let none = c.in-Err.ensures.full in
    record {
      about = (ap (λ (b : Book). b.opening) none.book, ap (λ (b : Book). b.entries) none.book);
      kept = subst IsBook (sym none.book) c.journal.ensures.kept;
      made = (ap (λ (b : Book). b.journal) none.book, none.full);
      stepped = none_touched _ _ none.words;
    }
