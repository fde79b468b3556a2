use Rattle.std.proofs.Common.{◌≡◌, length, ap, sym, ◌∙◌, arith}
use Rattle.std.proofs.lemmas.List.{nil_from_length}
use Rattle.km_model.specs.Grammar.{line_of}
use Rattle.km_script.proofs.LineLaws.{no_bytes}
use Rattle.km_script.proofs.line.read_line.Goals as goal

pub returns-in-empty : goal.returns-in-empty
returns-in-empty c =
    let none : length c.args.bytes.now ≡ 0 = omega (arith, c.in-empty.len_below) in
    sym (ap (line_of c.args.first) (nil_from_length c.args.bytes.now none) ∙ no_bytes c.args.first)
