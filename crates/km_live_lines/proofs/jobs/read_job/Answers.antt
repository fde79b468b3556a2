use Rattle.std.proofs.Common.{Err, ap, sym, ◌∙◌}
use Rattle.km_live_model.specs.LiveGrammar.{as_job}
use Rattle.km_script.specs.Words.{piece_of}
use Rattle.km_live_lines.proofs.JobLaws.{a_job, no_job, no_keyword}
use Rattle.km_live_lines.proofs.jobs.read_job.Goals as goal

pub returns-in_default-clause-read : goal.returns-in_default-clause-read
returns-in_default-clause-read c = ap Err c.refused.ensures ∙ no_keyword (piece_of c.args.word) c.args.words.now.end c.args.words.now.pieces (sym c.of.ensures ∙ c.in_default.is)

pub returns-then-is_job-clause-read : goal.returns-then-is_job-clause-read
returns-then-is_job-clause-read c =
    c.as_job.ensures ∙ (ap (as_job c.args.word.column) c.read_by.ensures.read
    ∙ a_job (piece_of c.args.word) c.args.words.now.end c.args.words.now.pieces c.in-Some.keyword (sym c.of.ensures ∙ c.in-Some.is) (sym c.is_job.ensures ∙ c.if-is_job.true))

pub returns-else-is_job-clause-read : goal.returns-else-is_job-clause-read
returns-else-is_job-clause-read c =
    ap Err c.refused-else-is_job.ensures
    ∙ no_job (piece_of c.args.word) c.args.words.now.end c.args.words.now.pieces c.in-Some.keyword (sym c.of.ensures ∙ c.in-Some.is) (sym c.is_job.ensures ∙ c.if-is_job.false)
