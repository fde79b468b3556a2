use Rattle.km_scan.proofs.FitLaws.{changed_kept, note_keeps}
use Rattle.km_scan.proofs.laws.changed_fits.Goals as goal

pub returns-clause-all : goal.returns-clause-all
returns-clause-all c = changed_kept

pub returns-clause-note : goal.returns-clause-note
returns-clause-note c = note_keeps
