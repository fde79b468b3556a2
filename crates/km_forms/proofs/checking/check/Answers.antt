use Rattle.km_forms.proofs.Checked.{count_written, end_written}
use Rattle.km_forms.proofs.checking.check.Goals as goal

pub returns-in-Ok : goal.returns-in-Ok
returns-in-Ok g c = count_written _ _ _ _ c.in-Ok.commands c.write_count.result c.in-Ok.ensures c.write_count.ensures

pub returns-in-Err : goal.returns-in-Err
returns-in-Err g c = end_written _ _ _ _ c.in-Err.ended c.write_end.result c.in-Err.ensures c.write_end.ensures
