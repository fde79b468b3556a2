use Rattle.km_base.specs.Digits.{hex}
use Rattle.km_journal_text.proofs.Parts.{word_put}
use Rattle.km_journal_text.proofs.events.push_address.Goals as goal

pub returns-clause-text : goal.returns-clause-text
returns-clause-text c = word_put c.args.out.now (hex c.args.a) _ _ c.push.ensures c.push_hex.ensures.text
