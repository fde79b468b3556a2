use Rattle.std.proofs.Common.{◌≡◌, ap, sym, subst, ◌∙◌, refl, true, false, not, is_some, is_none, Option, Some, None}
use Rattle.km_record.specs.declared.kinds.RecId.{RecId}
use Rattle.km_base.specs.declared.acts.Answer.{Answer}
use Rattle.km_model.specs.Answers.{answer as answer_of}
use Rattle.km_model.specs.Follows.{past_of}
use Rattle.km_model.specs.Past.{world}
use Rattle.km_entries.specs.File.{Going, are_none, event_verdict, history_in, is_too_late, right_if, same_said, told_in, with_entry}
use Rattle.km_entries.specs.Lines.{said_of}
use Rattle.km_journal.specs.Judging.{judged_if}
use Rattle.km_journal.specs.Replays.{IsAt, Judges}
use Rattle.km_journal.proofs.Events.{moment_is}
use Rattle.km_journal.proofs.Judging.{judged_answer, judged_owing, judged_right, nil_of}
use Rattle.km_journal.proofs.Listed.{none_owed}
use Rattle.km_journal.proofs.replay.Replay.event.Goals as goal

some_not_none : (o : Option RecId) → is_some o ≡ true → is_none o ≡ false
some_not_none None e = absurd (cc)
some_not_none (Some x) e = refl

none_is_none : (o : Option RecId) → is_some o ≡ false → is_none o ≡ true
none_is_none None e = refl
none_is_none (Some x) e = absurd (cc)

pub returns-then-is_some : goal.returns-then-is_some
returns-then-is_some c = record {
  judges = λ words by ns owed at.
      let r = c.args.self.now in
      let late : is_too_late (world (past_of (history_in ns))).now c.args.act ≡ false =
      ap (λ n. is_too_late n c.args.act) (sym (moment_is r words ns owed at.0)) ∙ sym c.is_too_late.ensures ∙ c.if-is_too_late.false in
      let owing : are_none owed ≡ false = sym (none_owed r.core.parts.objects.tracker r.owed owed (at.0).owes) ∙ some_not_none r.owed (sym c.is_some.ensures ∙ c.if-is_some.true) in
      judged_owing _ (are_none owed) (event_verdict words ns by c.args.act c.args.said) _ late owing;
}

pub returns : goal.returns
returns c = record {
  judges = λ words by ns owed at.
      let r = c.args.self.now in
      let act = c.args.act in
      let said = c.args.said in
      let answer = c.make-answer.result in
      let late : is_too_late (world (past_of (history_in ns))).now act ≡ false =
      ap (λ n. is_too_late n act) (sym (moment_is r words ns owed at.0)) ∙ sym c.is_too_late.ensures ∙ c.if-is_too_late.false in
      let none : are_none owed ≡ true = sym (none_owed r.core.parts.objects.tracker r.owed owed (at.0).owes) ∙ none_is_none r.owed (sym c.is_some.ensures ∙ c.if-is_some.false) in
      let made = c.make-answer.ensures.made words by ns (subst (λ o. IsAt r (Going words ns o)) (nil_of owed none) at) in
      let same : c.is_same.result ≡ same_said (said_of answer) said = c.is_same.ensures ∙ ap (λ s. same_said s said) c.said_of.ensures in
      judged_answer _ (are_none owed) (event_verdict words ns by act said) c.right_if.result _ late none
      (subst (λ (x : Answer). Judges (right_if (same_said (said_of x) said) (with_entry words ns by act x)) c.right_if.result (Some c.make-answer.new.self)) made.0
      (judged_right (same_said (said_of answer) said) (with_entry words ns by act answer) c.right_if.result _ (c.right_if.ensures ∙ ap judged_if same) (λ _. made.1)));
}
