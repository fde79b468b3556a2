-- What is told of a line before it is compared.
use Rattle.std.specs.Prelude.{◌≡◌, ℕ, Bool, true, false, List, [], if◌then◌else◌}
use Rattle.km_base.specs.declared.acts.Act.{Act}
use Rattle.km_base.specs.declared.acts.Act.TheVariants as acts
use Rattle.km_base.specs.declared.acts.Answer.{Answer}
use Rattle.km_model.specs.Past.{Past}
use Rattle.km_entries.specs.File.{listed_after}
use Rattle.km_journal.specs.declared.replay.Judged.{Judged}
use Rattle.km_journal.specs.declared.replay.Judged.TheVariants as judged

-- right if it is so, else wrong
abbrev pub judged_if : Bool → Judged
judged_if holds = if holds then judged.Right else judged.Wrong

-- an act reads the file, or no block is listed after it
abbrev pub TellsRead : Act → Bool → Type 0
TellsRead act true = act ≡ acts.Read
TellsRead act false = (past : Past) (given : Answer) → listed_after past act given ≡ []
