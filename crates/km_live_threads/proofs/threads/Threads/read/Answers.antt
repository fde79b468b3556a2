use Rattle.km_live_threads.proofs.Reading.{is_short}
use Rattle.km_live_threads.proofs.threads.Threads.read.Goals as goal

pub first_column-requires : goal.first_column-requires
first_column-requires c = is_short c.args.first c.open_name.result c.args.bytes.now c.in_ok-line.line c.in_ok-line.ensures
