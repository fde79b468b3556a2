use Rattle.std.proofs.Common.{◌≡◌}
use Rattle.km_journal.proofs.Listed.{owes_none}
use Rattle.km_journal.proofs.replay.Replay.next_owed.Goals as goal

pub returns-in_default : goal.returns-in_default
returns-in_default c = λ past act reads listing. owes_none _ past act _ c.args.is_read (λ done. absurd (c.in_default.not-Done done)) reads

pub returns-else-is_read : goal.returns-else-is_read
returns-else-is_read c = λ past act reads listing. owes_none _ past act _ c.args.is_read (λ done. c.if-is_read.false) reads
