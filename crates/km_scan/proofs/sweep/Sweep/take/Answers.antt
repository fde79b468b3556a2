use Rattle.std.proofs.Common.{◌∙◌, ap}
use Rattle.std.specs.Prelude.{None, Option, ℕ}
use Rattle.km_scan.specs.declared.places.At.{At}
use Rattle.km_scan.specs.declared.places.Cursor.TheVariants.{Last}
use Rattle.km_scan.specs.declared.sweep.Sweep.{Sweep}
use Rattle.km_scan.proofs.sweep.Sweep.take.Goals as goal

pub returns-clause-sweep : goal.returns-clause-sweep
returns-clause-sweep g c =
    let after = λ (r : Option At) (n : ℕ). let s : Sweep = record { cursor = Last c.args.at; ready = r; sum = n } in s in
    ap (λ r. after r c.sum_with-sum.result) c.drop_ready.ensures ∙ ap (after None) (c.sum_with-sum.ensures c.args.track.now)
