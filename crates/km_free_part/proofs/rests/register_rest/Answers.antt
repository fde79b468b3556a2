use Rattle.std.proofs.Common.{arith}
use Rattle.km_record.specs.Records.{block_of}
use Rattle.km_free_part.proofs.Settings.{quiet, settled}
use Rattle.km_free_part.proofs.rests.register_rest.Goals as goal

pub returns-clause-after : goal.returns-clause-after
returns-clause-after g c =
    let b = block_of 0 c.args.of.now in
    rw (c.silence.ensures, c.blacken.ensures, (c.in-Ok.ensures {u = tt}).block, c.least.ensures)
    (settled c.args.track.now c.args.rest c.in-Ok.id b b.minimum b.no_scan (quiet c.args.of.now c.requires.sound) (c.requires.alone (omega (arith, c.if-rest-eq0.false))))
