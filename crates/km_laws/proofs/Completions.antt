use Rattle.std.proofs.Common.{◌≡◌, ℕ, Bool, true, false, ◌&&◌, not, Option, Some, None, refl, sym, ap, subst}
use Rattle.km_base.specs.declared.acts.Act.{Act}
use Rattle.km_base.specs.declared.acts.Act.TheVariants.{File, Step}
use Rattle.km_base.specs.declared.acts.FileCmd.TheVariants.{StackOn, StackOff}
use Rattle.km_base.specs.declared.acts.Answer.{Answer}
use Rattle.km_base.specs.declared.acts.Answer.TheVariants.{Done, Stopped}
use Rattle.km_base.specs.declared.acts.Refusal.{Refusal}
use Rattle.km_model.specs.Past.{Past, world, running_scan, completes, is_refused}
use Rattle.km_model.specs.Scan.{next}
use Rattle.km_model.specs.Answers.{answer, unless, unless_busy}
use Rattle.km_model.proofs.Cases.{elim_false}
use Rattle.km_model.proofs.AnswerLaws.{answers_have}
use Rattle.km_laws.proofs.Kept.{is_stack_word}

-- whether an answer stops a scan
abbrev pub is_stop : Answer → Bool
is_stop (Stopped _) = true
is_stop _ = false

-- a scan is completed by a step of a running one that has no load left
abbrev pub Completes : Past → Act → Type 0
Completes past act = (act ≡ Step) × ((k : ℕ) × (running_scan past ≡ Some k)) × (next past ≡ None)

pub completed_by : (words : ℕ) (past : Past) (act : Act) (value : ℕ) → completes (answer words past act value) ≡ true → Completes past act
completed_by words past act value =
    answers_have words past act value (λ x. completes x ≡ true → Completes past act) (record {
      refused = λ r e. absurd (elim_false e);
      done = λ e. absurd (elim_false e);
      at = λ a e. absurd (elim_false e);
      skipped = λ e. absurd (elim_false e);
      dumped = λ i e. absurd (elim_false e);
      loaded = λ a e. absurd (elim_false e);
      stopped = λ k r e. absurd (elim_false e);
    }) (λ step k running none _. (step, (k, running), none))

-- what is stopped is the running scan
abbrev Stops : Past → Answer → Type 0
Stops past x = is_stop x ≡ true → (j : ℕ) × (running_scan past ≡ Some j) × (x ≡ Stopped j)

pub stopped_scan : (words : ℕ) (past : Past) (act : Act) (value : ℕ) → Stops past (answer words past act value)
stopped_scan words past act value =
    answers_have words past act value (Stops past) (record {
      refused = λ r e. absurd (elim_false e);
      done = λ e. absurd (elim_false e);
      at = λ a e. absurd (elim_false e);
      skipped = λ e. absurd (elim_false e);
      dumped = λ i e. absurd (elim_false e);
      loaded = λ a e. absurd (elim_false e);
      stopped = λ k running e. (k, running, refl);
    }) (λ step k running none e. absurd (elim_false e))

refused_both : (b : Bool) (r : Refusal) (o : Option ℕ) (k : ℕ) → o ≡ Some k → is_refused (unless b r (unless_busy o Done)) ≡ true
refused_both true r o k e = refl
refused_both false r o k e = subst (λ x. is_refused (unless_busy x Done) ≡ true) (sym e) refl

-- while a scan runs, whether stacks are scanned doesn't change
pub no_stack_word : (words : ℕ) (past : Past) (act : Act) (value k : ℕ) → running_scan past ≡ Some k → is_stack_word act && not (is_refused (answer words past act value)) ≡ false
unfolding answer
no_stack_word words past (File StackOn) value k e = ap not (refused_both (not (world past).enabled) _ (running_scan past) k e)
no_stack_word words past (File StackOff) value k e = ap not (refused_both (not (world past).enabled) _ (running_scan past) k e)
no_stack_word words past _ value k e = refl
