use Rattle.std.proofs.Common.{◌+◌, ◌==◌, ap, ◌∙◌, arith}
use Rattle.km_model.specs.Grammar.{is_foreign}
use Rattle.km_script.specs.Marks.{if_here, or_first}
use Rattle.km_script.proofs.Noted.{noted}
use Rattle.km_script.proofs.marks.Marks.with.Goals as goal

pub returns-clause-noted : goal.returns-clause-noted
returns-clause-noted c = λ bytes l m. record {
  dot = c.first_place.ensures ∙ noted (λ c. c == 46) 0 c.args.c c.args.place c.args.self.dot bytes (omega (arith, l)) m.dot;
  plus = c.first_place-2.ensures ∙ noted (λ c. c == 43) 0 c.args.c c.args.place c.args.self.plus bytes (omega (arith, l)) m.plus;
  foreign =
      c.first_column.ensures
      ∙ ap (λ b. or_first c.args.self.foreign (if_here b (c.args.column + c.args.place))) c.is_foreign.ensures
      ∙ noted is_foreign c.args.column c.args.c (c.args.column + c.args.place) c.args.self.foreign bytes (omega (arith, l)) m.foreign;
}
