use Rattle.std.proofs.Common.{refl, sym}
use Rattle.km_slab.proofs.Owners.{large_found, large_size, no_large}
use Rattle.km_slab.proofs.large.give_large.Goals as goal

pub returns-in_default-clause-answer : goal.returns-in_default-clause-answer
returns-in_default-clause-answer c = λ used laid. sym (no_large c.args.pages.now used c.args.start.0 laid (sym c.in_default.ensures.answer))

pub returns-clause-answer : goal.returns-clause-answer
returns-clause-answer c = λ used laid. sym (large_found c.args.pages.now used c.args.start.0 c.in-Ok.count laid (sym c.in-Ok.ensures.answer))

pub returns-clause-span : goal.returns-clause-span
returns-clause-span c = λ used laid. large_size c.args.pages.now used c.args.start.0 c.in-Ok.count laid (sym c.in-Ok.ensures.answer)

pub returns-clause-laid : goal.returns-clause-laid
returns-clause-laid c = λ used laid. c.in-Ok.ensures.laid used laid refl
