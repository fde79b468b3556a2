use Rattle.std.proofs.Common.{◌∙◌, map, string_bytes}
use Rattle.km_forms.proofs.Forms.{by_words}
use Rattle.km_forms.proofs.words.form_of.Goals as goal

pub returns-clause-form : goal.returns-clause-form
returns-clause-form c = c.word_by_word.ensures.form ∙ by_words (map string_bytes c.args.words.now)
