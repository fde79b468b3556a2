use Rattle.std.proofs.Common.{◌≡◌, ◌++◌, sym, subst, codes}
use Rattle.km_base.specs.declared.acts.Answer.{Answer}
use Rattle.km_base.specs.Digits.{hex}
use Rattle.km_entries.specs.Lines.{said_of, said_words}
use Rattle.km_journal_text.specs.Events.{after_spaces}
use Rattle.km_journal_text.proofs.Parts.{put_one, put_two}
use Rattle.km_journal_text.proofs.events.push_answer.Goals as goal

pub returns-in-At-clause-text : goal.returns-in-At-clause-text
returns-in-At-clause-text c =
    let old = c.args.out.now in
    subst (λ (x : Answer). c.push_address.new.out ≡ old ++ after_spaces (said_words (said_of x))) (sym c.in-At.is)
    (put_one old (codes " at") (hex c.in-At.a) _ _ c.push-in-At.ensures c.push_address.ensures.text)

pub returns-in-Loaded-clause-text : goal.returns-in-Loaded-clause-text
returns-in-Loaded-clause-text c =
    let old = c.args.out.now in
    subst (λ (x : Answer). c.push_address-in-Loaded-2.new.out ≡ old ++ after_spaces (said_words (said_of x))) (sym c.in-Loaded.is)
    (put_two old (codes " loaded") (hex c.in-Loaded.addr) (hex c.in-Loaded.value) _ _ _ c.push-in-Loaded.ensures c.push_address-in-Loaded.ensures.text c.push_address-in-Loaded-2.ensures.text)
