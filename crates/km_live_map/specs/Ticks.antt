-- Who lets time pass.
use Rattle.std.specs.Prelude.{◌≡◌, ℕ, List}
use Rattle.km_base.specs.declared.acts.Act.TheVariants.{Tick}
use Rattle.km_model.specs.Members.{Each}
use Rattle.km_rounds.specs.declared.entry.Entry.{Entry}

-- time passes at an entry only if it is of number 1, the scanner's
abbrev pub TicksByFirst : Entry → Type 0
TicksByFirst e = (n : ℕ) → e.act ≡ Tick n → e.by ≡ 1

-- only number 1 lets time pass
abbrev pub OnlyFirstTicks : List Entry → Type 0
OnlyFirstTicks es = Each TicksByFirst es
