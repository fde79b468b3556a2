use Rattle.std.proofs.Common.{ℕ, List, [], ◌∷◌, codes, refl}
use Rattle.std.specs.Fmt.{digits}
use Rattle.km_model.specs.Answers.{answer}
use Rattle.km_model.specs.Changes.{world_after_act}
use Rattle.km_model.specs.Grammar.{line_by}
use Rattle.km_model.specs.Output.{IsOut}
use Rattle.km_model.specs.Scan.{next}
use Rattle.km_rows.specs.OffInMidScan.{script, report}
use Rattle.km_rows.proofs.Played.{is_out}

pub off_in_mid_scan : IsOut script report
unfolding digits answer next line_by world_after_act
off_in_mid_scan = is_out script report (528 ∷ 520 ∷ 0 ∷ []) refl
