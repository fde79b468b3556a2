use Rattle.std.proofs.Common.{◌≡◌, true, false, sym, ap, ◌∙◌, subst, refl}
use Rattle.km_base.specs.declared.acts.Answer.TheVariants.{Done}
use Rattle.km_edge.specs.Streams.{WritesAll, Wrote}
use Rattle.km_edge.proofs.Writing.{wrote_none}
use Rattle.km_model.specs.Output.{answer_text, keyword}
use Rattle.km_machine.proofs.Lines.{given_asks, listed, shown_is}
use Rattle.km_machine.proofs.texts.TextsWitness.event.Goals as goal

pub returns-in-Read-clause-said : goal.returns-in-Read-clause-said
returns-in-Read-clause-said g c = λ run memory stands answered asks read.
    let word = keyword c.args.self.now.command.now in
    let act = c.args.act.now in
    let text = listed memory word run act c.in-Read.is (read c.in-Read.is) (sym c.in-Done.is ∙ answered) ∙ ap (answer_text memory word run.history act) (sym c.in-Done.is) in
    subst (λ t. WritesAll (g.K.Sink.state c.args.sink.now) (g.K.Sink.state c.list.new.sink) t c.list.result) text (c.list.ensures.listing _ stands)

pub returns-in_default-act : goal.returns-in_default-act
returns-in_default-act g c =
    let k = g.K.Sink.state c.args.sink.now in
    record {
      said = λ run memory stands answered asks read.
          let word = keyword c.args.self.now.command.now in
          let act = c.args.act.now in
          let text = shown_is memory word run.history act Done (λ r d. c.in_default-act.not-Read r) refl ∙ ap (answer_text memory word run.history act) (sym c.in-Done.is) in
          subst (λ t. Wrote k k t) text (wrote_none k);
      same = refl;
    }

pub returns-in-None-clause-said : goal.returns-in-None-clause-said
returns-in-None-clause-said g c = λ run memory stands answered asks read.
    let asked = asks (given_asks run c.args.act.now c.in-At.start (sym c.in-At.is ∙ answered)) in
    absurd (let bad : true ≡ false = sym asked ∙ c.in-None.ensures in cc)
