-- Verdicts, and how they are judged.
use Rattle.std.proofs.Common.{◌≡◌, ℕ, Bool, true, false, ◌==◌, List, [], ◌∷◌, Option, if◌then◌else◌, refl, ap, subst, sym}
use Rattle.km_entries.specs.declared.lines.JournalLine.TheVariants as line
use Rattle.km_rounds.specs.declared.entry.Entry.{Entry}
use Rattle.km_entries.specs.File.{Checked, Going, Verdict, Right, IsWrong, IsNoLine, are_none, going_verdict, right_if}
use Rattle.km_journal.specs.declared.replay.Replay.{Replay}
use Rattle.km_journal.specs.declared.replay.Judged.{Judged}
use Rattle.km_journal.specs.declared.replay.Judged.TheVariants as judged
use Rattle.km_journal.specs.Judging.{judged_if}
use Rattle.km_journal.specs.Replays.{HasRead, Judges}

-- a verdict that goes by a test
pub judged_right : (b : Bool) (c : Checked) (j : Judged) (o : Option Replay) → j ≡ judged_if b → (b ≡ true → HasRead o c) → Judges (right_if b c) j o
judged_right true c j o e at = subst (λ (x : Judged). Judges (right_if true c) x o) (sym e) (at refl)
judged_right false c j o e at = subst (λ (x : Judged). Judges (right_if false c) x o) (sym e) tt

pub judged_other : (b : Bool) (c : Checked) (o : Option Replay) → b ≡ false → Judges (right_if b c) judged.Wrong o
judged_other true c o e = absurd (cc)
judged_other false c o e = tt

-- the tests before an event's answer
pub judged_late : (late : Bool) (v : Verdict) (o : Option Replay) → late ≡ true → Judges (if late then IsNoLine else v) judged.NoLine o
judged_late true v o e = tt
judged_late false v o e = absurd (cc)

pub judged_owing : (late none : Bool) (v : Verdict) (o : Option Replay) → late ≡ false → none ≡ false → Judges (if late then IsNoLine else (if none then v else IsWrong)) judged.Wrong o
judged_owing true none v o e f = absurd (cc)
judged_owing false true v o e f = absurd (cc)
judged_owing false false v o e f = tt

pub judged_answer : (late none : Bool) (v : Verdict) (j : Judged) (o : Option Replay) → late ≡ false → none ≡ true → Judges v j o → Judges (if late then IsNoLine else (if none then v else IsWrong)) j o
judged_answer true none v j o e f h = absurd (cc)
judged_answer false true v j o e f h = h
judged_answer false false v j o e f h = absurd (cc)

pub nil_of : (o : List ℕ) → are_none o ≡ true → o ≡ []
nil_of [] t = refl
nil_of (b ∷ o) t = absurd (cc)

-- a `listed` line that is due
pub listed_right : (o : Option Replay) (words : ℕ) (ns : List Entry) (owed more : List ℕ) (b start : ℕ) → owed ≡ b ∷ more → (start == b) ≡ true → HasRead o (Going words ns more)
    → Judges (going_verdict words ns owed (line.Listed start)) judged.Right o
listed_right o words ns owed more b start e same read =
    subst (λ x. Judges (going_verdict words ns x (line.Listed start)) judged.Right o) (sym e)
    (judged_right (start == b) (Going words ns more) judged.Right o (ap judged_if (sym same)) (λ _. read))

-- what each judgement says of the verdict
pub right_was : (v : Verdict) (o : Option Replay) → Judges v judged.Right o → (c : Checked) × (v ≡ Right c) × HasRead o c
right_was (Right c) o h = (c, refl, h)
right_was IsWrong o h = absurd h
right_was IsNoLine o h = absurd h

pub wrong_was : (v : Verdict) (o : Option Replay) → Judges v judged.Wrong o → v ≡ IsWrong
wrong_was (Right c) o h = absurd h
wrong_was IsWrong o h = refl
wrong_was IsNoLine o h = absurd h

pub none_was : (v : Verdict) (o : Option Replay) → Judges v judged.NoLine o → v ≡ IsNoLine
none_was (Right c) o h = absurd h
none_was IsWrong o h = absurd h
none_was IsNoLine o h = refl
