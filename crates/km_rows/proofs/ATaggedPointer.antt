use Rattle.std.proofs.Common.{ℕ, List, [], ◌∷◌, codes, refl}
use Rattle.std.specs.Fmt.{digits}
use Rattle.km_model.specs.Answers.{answer}
use Rattle.km_model.specs.Changes.{world_after_act}
use Rattle.km_model.specs.Grammar.{line_by}
use Rattle.km_model.specs.Output.{IsOut}
use Rattle.km_model.specs.Scan.{next}
use Rattle.km_rows.specs.ATaggedPointer.{script, report}
use Rattle.km_rows.proofs.Played.{is_out}

pub a_tagged_pointer : IsOut script report
unfolding digits answer next line_by world_after_act
a_tagged_pointer = is_out script report (10 ∷ 10 ∷ 18 ∷ 10 ∷ []) refl
