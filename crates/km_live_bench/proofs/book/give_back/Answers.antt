use Rattle.std.proofs.Common.{◌∙◌, sym, append-nil, []}
use Rattle.km_live_bench.proofs.book.give_back.Goals as goal

pub give-requires-clause-journal : goal.give-requires-clause-journal
give-requires-clause-journal g c = ([], sym (append-nil c.args.token.now.view.taken ∙ c.requires.journal), tt, tt)
