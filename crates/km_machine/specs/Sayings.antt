-- What is said of the events of a line.
use Rattle.std.specs.Prelude.{ℕ, zero, suc, List, [], ◌∷◌, ◌++◌}
use Rattle.km_base.specs.declared.acts.Act.{Act}
use Rattle.km_base.specs.declared.acts.Answer.{Answer}
use Rattle.km_model.specs.History.{History}

-- the bytes that are said of an act and its answer after a history, where the words hold this
abbrev pub Saying : Type 0
Saying = List ℕ → History → Act → Answer → List ℕ

-- those of the newest events of a history, as many as are counted
abbrev pub said_of : Saying → List ℕ → ℕ → History → List ℕ
said_of says memory zero h = []
said_of says memory (suc n) [] = []
said_of says memory (suc n) (e ∷ h) = said_of says memory n h ++ says memory h e.act e.answer
