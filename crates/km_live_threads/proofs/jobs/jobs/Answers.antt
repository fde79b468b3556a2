use Rattle.std.proofs.Common.{true, false, sym, ◌∙◌}
use Rattle.std.proofs.lemmas.Result.{IfOk-weaker}
use Rattle.km_model.specs.Follows.{past_of}
use Rattle.km_model.specs.Past.{world}
use Rattle.km_live_threads.proofs.Shown.{shown, shown_busy, shown_idle, shown_jobs}
use Rattle.km_live_threads.proofs.jobs.jobs.Goals as goal

pub returns-in-Some-clause-told : goal.returns-in-Some-clause-told
returns-in-Some-clause-told c = λ h for.
    shown_busy c.args.core.now h c.args.threads.now c.in-Some.k (sym c.enabled.ensures ∙ c.if-not-enabled.false) for c.in-Some.ensures

pub returns-then-not-have_tasks-clause-told : goal.returns-then-not-have_tasks-clause-told
returns-then-not-have_tasks-clause-told c = λ h for.
    sym (shown_idle c.args.core.now h c.args.threads.now (sym c.enabled.ensures ∙ c.if-not-enabled.false) for c.in_default.ensures
    ∙ shown_jobs c.args.core.now (world (past_of h)) c.args.threads.now false (shown c.args.core.now h for) (sym c.if-not-have_tasks.true ∙ c.have_tasks.ensures))

pub returns-clause-told : goal.returns-clause-told
returns-clause-told c =
    IfOk-weaker c.each_job.result _ _
    (λ r told h for.
    told (world (past_of h)) (shown c.args.core.now h for)
    ∙ sym (shown_idle c.args.core.now h c.args.threads.now (sym c.enabled.ensures ∙ c.if-not-enabled.false) for c.in_default.ensures
    ∙ shown_jobs c.args.core.now (world (past_of h)) c.args.threads.now true (shown c.args.core.now h for) (sym c.if-not-have_tasks.false ∙ c.have_tasks.ensures)))
    c.each_job.ensures.told
