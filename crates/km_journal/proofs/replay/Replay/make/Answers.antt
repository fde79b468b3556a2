use Rattle.std.proofs.Common.{◌≡◌, ap, sym, subst, ◌∙◌, refl}
use Rattle.km_base.specs.declared.acts.Answer.{Answer}
use Rattle.km_model.specs.History.{value_of}
use Rattle.km_model.specs.Answers.{answer as answer_of}
use Rattle.km_model.specs.Follows.{past_of}
use Rattle.km_entries.specs.File.{history_in, told_in}
use Rattle.km_core.specs.Parts.{Touches}
use Rattle.km_journal.specs.Telling.{telling}
use Rattle.km_journal.proofs.Events.{answer_told, stood_made}
use Rattle.km_journal.proofs.replay.Replay.make.Goals as goal

pub returns : goal.returns
returns c = record {
  made = λ words by ns at.
      let r = c.args.self.now in
      let stood = at.0 in
      let h = history_in ns in
      let apply = c.apply-answer.ensures in
      let given = c.apply-answer.result in
      let touches = subst (λ v. Touches c.args.act given (telling c.set.new.self.words v) (telling c.apply-answer.new.words.words c.apply-answer.new.words.value)) (c.set.ensures.value ∙ c.told_in.ensures) apply.touches in
      let answered : given ≡ answer_of words (past_of h) c.args.act (value_of given) =
      apply.history h stood.state stood.stands ∙ ap (λ n. answer_of n (past_of h) c.args.act (value_of given)) stood.size in (
        answer_told words c.set.new.self.words (told_in c.args.said) (past_of h) c.args.act given _ touches answered,
        stood_made r _ c.apply-answer.new.self words by ns c.args.act given
            (record {
              is_read = c.is_read-is_read.result;
              reads = c.is_read-is_read.ensures;
              core_is = refl;
              over = refl;
              stands = apply.stands;
              words = apply.words;
              owes = c.next_owed-self.ensures;
              scans = c.next_scans-self.ensures;
            })
            at,
      );
}
