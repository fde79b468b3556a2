use Rattle.km_live_threads.proofs.Registers.{registers_read}
use Rattle.km_live_threads.proofs.jobs.registers.Goals as goal

pub returns : goal.returns
returns c = λ w shows.
    registers_read w c.args.name shows.registers c.in_ok-r0.r0 c.in_ok-r1.r1 c.in_ok-r2.r2 c.in_ok-r3.r3
    (c.in_ok-r0.ensures w shows) (c.in_ok-r1.ensures w shows) (c.in_ok-r2.ensures w shows) (c.in_ok-r3.ensures w shows)
