-- Small words of the kernel's calls.
use Rattle.std.specs.Prelude.{ℕ, Bool, true, false, Option, Some, None, Result, Ok, Err, if◌then◌else◌}
use Rattle.km_base.specs.declared.acts.Act.{Act}
use Rattle.km_base.specs.declared.acts.Act.TheVariants as acts
use Rattle.km_base.specs.declared.acts.FileCmd.{FileCmd}
use Rattle.km_base.specs.declared.acts.FileCmd.TheVariants.{Off, Scan, Clear, Dump, Why}
use Rattle.km_base.specs.declared.acts.Answer.{Answer}
use Rattle.km_base.specs.declared.acts.Answer.TheVariants.{Done, Refused}
use Rattle.km_base.specs.declared.acts.Refusal.{Refusal}
use Rattle.km_base.specs.declared.acts.Refusal.TheVariants.{Busy, Disabled, NoObject}
use Rattle.km_record.specs.declared.kinds.Note.{Note}
use Rattle.km_record.specs.declared.kinds.Note.TheVariants.{NotLeak, Ignore, NoScan, TransientLeak}

-- whether a word sets something and does nothing else
abbrev pub is_setting : FileCmd → Bool
is_setting Off = false
is_setting Scan = false
is_setting Clear = false
is_setting (Dump _) = false
is_setting (Why _) = false
is_setting _ = true

-- an answer, or the refusal as one
abbrev pub answered : Result Answer Refusal → Answer
answered (Ok given) = given
answered (Err r) = Refused r

-- whether a word is heeded, or why not
abbrev pub heeded : Bool → Option ℕ → Result (Unit {0}) Refusal
heeded false running = Err Disabled
heeded true None = Ok tt
heeded true (Some k) = Err (Busy k)

-- done where there is a block
abbrev pub done_if : Bool → Answer
done_if there = if there then Done else Refused NoObject

-- the act that takes a note of the block at an address
abbrev pub act_of : Note → ℕ → Act
act_of NotLeak a = acts.NotLeak a
act_of Ignore a = acts.Ignore a
act_of NoScan a = acts.NoScan a
act_of TransientLeak a = acts.TransientLeak a
