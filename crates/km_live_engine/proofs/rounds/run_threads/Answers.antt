use Rattle.std.proofs.Common.{◌≡◌, ◌≤◌, length, map, Result, Ok, Err, IfOk, subst, sym}
use Rattle.km_model.specs.Follows.{past_of}
use Rattle.km_model.specs.Operands.{then_do}
use Rattle.km_live_map.specs.Books.{IsCoreFor}
use Rattle.km_live_model.specs.Rounds.{jobs_at}
use Rattle.km_live_workers.specs.Jobs.{job_of}
use Rattle.km_live_engine.proofs.Lines.{round_refused, round_runs, round_spends}
use Rattle.km_live_engine.proofs.rounds.run_threads.Goals as goal

-- what is said of a value, if there is one
if_ok : {A E : Type 0} (r : Result A E) (P Q : A → Type 0) → ((a : A) → P a → Q a) → IfOk r P → IfOk r Q
if_ok (Ok a) P Q f p = f a p
if_ok (Err e) P Q f p = p

pub returns-in-Ok-clause-ran : goal.returns-in-Ok-clause-ran
returns-in-Ok-clause-ran g c =
    if_ok c.run_round.result _ _ (λ r ran. round_runs _ _ _ _ _ _ _ _ _ _
    (λ h is. subst (λ x. then_do x (λ v. Ok (map job_of v.items)) ≡ jobs_at (past_of h) c.args.threads.now.standing) c.in-Ok.is (c.in_ok-jobs.ensures.told h (subst (λ x. IsCoreFor x h) (sym c.core.ensures) is))) ran) c.run_round.ensures.ran

pub returns-in-Ok-clause-spent : goal.returns-in-Ok-clause-spent
returns-in-Ok-clause-spent g c =
    if_ok c.run_round.result _ _ (λ r ran. round_spends _ _ _ _ _ _ _ _ _ c.requires.few
    (subst (λ x. IfOk x (λ v. length v.items ≤ 8)) c.in-Ok.is c.in_ok-jobs.ensures.few) ran) c.run_round.ensures.ran

pub returns-in-Err-clause-ran : goal.returns-in-Err-clause-ran
returns-in-Err-clause-ran g c = round_refused _ _ _ _ _ c.in-Err.refusal _ _ _
    (λ h is. subst (λ x. then_do x (λ v. Ok (map job_of v.items)) ≡ jobs_at (past_of h) c.args.threads.now.standing) c.in-Err.is (c.in_ok-jobs.ensures.told h (subst (λ x. IsCoreFor x h) (sym c.core.ensures) is))) c.say-wrote.ensures
