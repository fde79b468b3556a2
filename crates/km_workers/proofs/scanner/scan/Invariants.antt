use Rattle.std.proofs.Common.{◌≡◌, ◌-◌, ◌*◌}
use Rattle.km_live_model.specs.Courses.{AtTick}
use Rattle.km_rounds.specs.Journals.{ticks_in}
use Rattle.km_workers.specs.Workers.{Acts, Leads}
use Rattle.km_workers.proofs.scanner.scan.Given as goal

abbrev pub invariant-loop-scan : goal.invariant-loop-scan
invariant-loop-scan g l =
    (made : Acts (g.A.Acts.acting l.fn.acts) (g.A.Acts.acting l.acts) (g.W.Words.told l.fn.words) (g.W.Words.told l.words))
    × Leads l.gap (AtTick l.scans) made.entries (AtTick (l.scans - l._scan)) × (ticks_in made.entries ≡ l._scan * l.gap)
