use Rattle.std.proofs.Common.{sym}
use Rattle.km_base.proofs.Prefix.{too_short}
use Rattle.km_base.proofs.compare.behind.Goals as goal

pub returns-then-word-prefix : goal.returns-then-word-prefix
returns-then-word-prefix c = sym (too_short c.args.prefix.now c.args.word.now c.if-word-prefix.true)
