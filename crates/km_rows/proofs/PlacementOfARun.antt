use Rattle.std.proofs.Common.{ℕ, List, [], codes, refl}
use Rattle.std.specs.Fmt.{digits}
use Rattle.km_model.specs.Answers.{answer}
use Rattle.km_model.specs.Changes.{world_after_act}
use Rattle.km_model.specs.Grammar.{line_by}
use Rattle.km_model.specs.Output.{IsOut}
use Rattle.km_model.specs.Scan.{next}
use Rattle.km_rows.specs.PlacementOfARun.{script, report}
use Rattle.km_rows.proofs.Played.{is_out}

pub placement_of_a_run : IsOut script report
unfolding digits answer next line_by world_after_act
placement_of_a_run = is_out script report [] refl
