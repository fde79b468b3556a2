use Rattle.std.specs.Prelude.{ℕ}
use Rattle.km_base.specs.declared.status.Status.{Status}
use Rattle.km_base.specs.declared.status.Status.TheVariants as status

-- the exit status of a program that ends so
abbrev pub code_of : Status → ℕ
code_of status.Ok = 0
code_of (status.NotACommand _ _) = 1
code_of status.ReadFault = 2
code_of status.WriteFault = 3
code_of status.NoMemory = 4
code_of (status.BadWords _) = 5
code_of status.TooLong = 6
