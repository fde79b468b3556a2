use Rattle.std.proofs.Common.{refl}
use Rattle.km_script.proofs.Pieces.{no_word, some_left}
use Rattle.km_script.proofs.words.Words.none_left.Goals as goal

pub returns-in-Some : goal.returns-in-Some
returns-in-Some c =
    let n = some_left c.self.inside.column c.in-Some._first c.self.inside.rest.now c.in-Some.blanks c.in-Some.ensures in
    rw (← c.self.view_is, n) refl

pub returns-in-None : goal.returns-in-None
returns-in-None c =
    let n = no_word c.self.inside.column c.self.inside.rest.now c.in-None.ensures in
    rw (← c.self.view_is, n) refl
