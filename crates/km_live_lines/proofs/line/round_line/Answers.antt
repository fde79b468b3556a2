use Rattle.std.proofs.Common.{◌≡◌, Err, ◌∙◌, rules}
use Rattle.km_live_lines.proofs.Lines.{round_err, round_ok}
use Rattle.km_live_lines.proofs.line.round_line.Goals as goal

pub returns-in_err-entries-clause-read : goal.returns-in_err-entries-clause-read
returns-in_err-entries-clause-read c =
    let is : c.from_residual-in_err-entries.result ≡ Err c.in_err-entries.field-0.0 = search rules in
    is
    ∙ round_err c.args.words.now c.number_within.new.self c.number_within-2.new.self c.number_within.ensures.rest c.number_within-2.ensures.rest c.in_ok-scans.scans c.in_ok-gap.gap c.in_ok-scans.ensures.said c.in_ok-gap.ensures.said c.in_err-entries.field-0.0
    c.in_err-entries.ensures.said

pub returns-clause-read : goal.returns-clause-read
returns-clause-read c =
    round_ok c.args.words.now c.number_within.new.self c.number_within-2.new.self c.number_within.ensures.rest c.number_within-2.ensures.rest c.in_ok-scans.scans c.in_ok-gap.gap c.in_ok-scans.ensures.said c.in_ok-gap.ensures.said c.in_ok-entries.entries c.in_ok-entries.ensures.said
