-- How a script ends by its length, and a line that is too long.
use Rattle.std.proofs.Common.{◌≡◌, ℕ, ◌<◌, ◌≤◌, Bool, true, false, nat_le, nat_lt, List, [], ◌∷◌, length, Result, Ok, Err, refl, arith, if◌then◌else◌}
use Rattle.std.proofs.lemmas.Bool.Decides.{nat_tests}
use Rattle.km_base.specs.declared.lines.Line.{Line}
use Rattle.km_base.specs.declared.lines.Line.TheVariants as line
use Rattle.km_base.specs.declared.lines.NotACommand.{NotACommand as Refused}
use Rattle.km_base.specs.declared.status.Status.TheVariants as status
use Rattle.km_model.specs.Grammar.{rules, line_by, line_of, is_comment, command_line}
use Rattle.km_model.specs.Output.{limit, end_of_script}
use Rattle.km_model.specs.Pieces.{pieces}

within_at : (b : Bool) → b ≡ true → (if b then status.Ok else status.TooLong) ≡ status.Ok
within_at true e = refl
within_at false e = absurd (cc)

pub end_within : (bytes : List ℕ) → length bytes ≤ limit → end_of_script bytes ≡ status.Ok
end_within bytes h = within_at (nat_le (length bytes) limit) (grind (arith, nat_tests))

beyond_at : (b : Bool) → b ≡ false → (if b then status.Ok else status.TooLong) ≡ status.TooLong
beyond_at true e = absurd (cc)
beyond_at false e = refl

pub end_beyond : (bytes : List ℕ) → limit < length bytes → end_of_script bytes ≡ status.TooLong
end_beyond bytes h = beyond_at (nat_le (length bytes) limit) (grind (arith, nat_tests))

pub long_is_refused : (first : Bool) (l : List ℕ) → 256 < length l → line_of first l ≡ Err (record { column = 257 })
unfolding line_by
long_is_refused first l h = at_test (nat_lt 256 (length l)) (grind (arith, nat_tests))
  where
    at_test : (b : Bool) → b ≡ true
        → (if b then Err (record { column = 257 })
        else (if is_comment (pieces l) then Ok line.Blank else (elim (pieces l) as (λ _. Result Line Refused) [ [] ↦ Ok line.Blank | _ ∷ _ ↦ command_line rules first l ])))
        ≡ Err (record { column = 257 })
    at_test true e = refl
    at_test false e = absurd (cc)
