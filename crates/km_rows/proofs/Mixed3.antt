use Rattle.std.proofs.Common.{ℕ, List, [], ◌∷◌, codes, refl}
use Rattle.std.specs.Fmt.{digits}
use Rattle.km_model.specs.Answers.{answer}
use Rattle.km_model.specs.Changes.{world_after_act}
use Rattle.km_model.specs.Grammar.{line_by}
use Rattle.km_model.specs.Output.{IsOut}
use Rattle.km_model.specs.Scan.{next}
use Rattle.km_rows.specs.Mixed3.{script, report}
use Rattle.km_rows.proofs.Played.{is_out}

pub mixed_3 : IsOut script report
unfolding digits answer next line_by world_after_act
mixed_3 = is_out script report (6 ∷ 6 ∷ 6 ∷ 0 ∷ 2 ∷ 16 ∷ 12 ∷ 11 ∷ 11 ∷ []) refl
