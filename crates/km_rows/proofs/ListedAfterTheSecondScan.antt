use Rattle.std.proofs.Common.{ℕ, List, [], ◌∷◌, codes, refl}
use Rattle.std.specs.Fmt.{digits}
use Rattle.km_model.specs.Answers.{answer}
use Rattle.km_model.specs.Changes.{world_after_act}
use Rattle.km_model.specs.Grammar.{line_by}
use Rattle.km_model.specs.Output.{IsOut}
use Rattle.km_model.specs.Scan.{next}
use Rattle.km_rows.specs.ListedAfterTheSecondScan.{script, report}
use Rattle.km_rows.proofs.Played.{is_out}

pub listed_after_the_second_scan : IsOut script report
unfolding digits answer next line_by world_after_act
listed_after_the_second_scan = is_out script report (528 ∷ 520 ∷ []) refl
