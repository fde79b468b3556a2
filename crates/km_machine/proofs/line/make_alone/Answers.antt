use Rattle.std.proofs.Common.{sym, subst}
use Rattle.km_model.specs.Follows.{all_happen, happens, told_answer}
use Rattle.km_machine.specs.Lines.{SoFar}
use Rattle.km_machine.proofs.Lines.{alone_plain, none_further, plain_says, refused_line, simply_answered}
use Rattle.km_machine.proofs.Sayings.{begun}
use Rattle.km_machine.proofs.line.make_alone.Goals as goal

pub returns-in-Ok-clause-says : goal.returns-in-Ok-clause-says
returns-in-Ok-clause-says g c = λ run f.
    let says = g.W.Witness.says c.args.witness.now in
    let m = c.args.machine.now in
    let line = c.args.command.now in
    let k = g.K.Sink.state c.args.sink.now in
    let k' = g.K.Sink.state c.made.new.sink in
    let act = c.in-Ok.act in
    plain_says says c.made.new.machine run line k k' c.made.result act (alone_plain line c.requires.alone) (c.in-Ok.ensures.acts run f)
    (subst (λ l. SoFar says run (all_happen (happens run act) l) c.made.new.machine k k' c.made.result)
    (sym (none_further run.history act (told_answer run act) line (simply_answered run act c.in-Ok.ensures.simple)))
    (c.made.ensures.so_far run run k (begun says m run k f)))

pub returns-in-Err-clause-says : goal.returns-in-Err-clause-says
returns-in-Err-clause-says g c = λ run f.
    refused_line (g.W.Witness.says c.args.witness.now) c.args.machine.now run c.args.command.now (g.K.Sink.state c.args.sink.now) c.in-Err.refusal
    (alone_plain c.args.command.now c.requires.alone) f (c.in-Err.ensures.acts run f)
