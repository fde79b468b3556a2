use Rattle.std.proofs.Common.{ℕ, List, [], ◌∷◌, codes, refl}
use Rattle.std.specs.Fmt.{digits}
use Rattle.km_model.specs.Answers.{answer}
use Rattle.km_model.specs.Changes.{world_after_act}
use Rattle.km_model.specs.Grammar.{line_by}
use Rattle.km_model.specs.Output.{IsOut}
use Rattle.km_model.specs.Scan.{next}
use Rattle.km_rows.specs.PartsOfBootMemory.{script, report}
use Rattle.km_rows.proofs.Played.{is_out}

pub parts_of_boot_memory : IsOut script report
unfolding digits answer next line_by world_after_act
parts_of_boot_memory = is_out script report (25 ∷ 25 ∷ 31 ∷ 23 ∷ []) refl
