use Rattle.std.proofs.Common.{string_bytes}
use Rattle.km_live_engine.proofs.Answered.{no_word, runs}
use Rattle.km_live_engine.proofs.program.run_live.Goals as goal

pub returns : goal.returns
returns g c =
    runs g.S.Source.state g.K.Sink.state _ c.args.source.now c.run_from.new.source c.args.sink.now c.run_from.new.sink _ c.run_from.result
    (no_word string_bytes c.args.words.now c.is_empty.result c.if-not-is_empty.false c.is_empty.ensures) c.run_from.ensures
