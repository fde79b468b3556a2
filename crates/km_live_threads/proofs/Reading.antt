-- A line that is allowed where it stands.
use Rattle.std.proofs.Common.{◌≡◌, ℕ, ◌≤◌, Bool, true, false, List, length, nat_lt, Option, Ok, Err, refl, ap, ◌∙◌, if◌then◌else◌}
use Rattle.std.proofs.lemmas.Bool.{ltb-false, ltb-true}
use Rattle.km_model.specs.Pieces.{pieces}
use Rattle.km_live_model.specs.declared.lines.LiveLine.{LiveLine}
use Rattle.km_live_model.specs.LiveGrammar.{LiveReading, live_line_of, none_at}
use Rattle.km_live_model.specs.Threads.{Threads, first_column, is_too_many, line_at, open_name, unless_too_many}
use Rattle.km_live_lines.proofs.Lines.{too_long}

-- it has at most 256 bytes
pub is_short : (first : Bool) (thread : Option (List ℕ)) (bytes : List ℕ) (line : LiveLine) → Ok line ≡ live_line_of first thread bytes → length bytes ≤ 256
is_short first thread bytes line e = by_test (nat_lt 256 (length bytes)) refl
  where
    by_test : (q : Bool) → nat_lt 256 (length bytes) ≡ q → length bytes ≤ 256
    by_test true long =
        let refused : ◌≡◌ {A = LiveReading} (Ok line) (none_at 257) = e ∙ too_long first thread bytes (ltb-true 256 (length bytes) long) in
        absurd cc
    by_test false short = ltb-false 256 (length bytes) short

-- it isn't one too many
pub not_too_many : (first : Bool) (t : Threads) (bytes : List ℕ) (line : LiveLine) → Ok line ≡ line_at first t bytes → is_too_many t line ≡ false
not_too_many first t bytes line = by_reading (live_line_of first (open_name t) bytes)
  where
    by_test : (l : LiveLine) (q : Bool) → is_too_many t l ≡ q → ◌≡◌ {A = LiveReading} (Ok line) (if q then none_at (first_column (pieces bytes)) else Ok l) → is_too_many t line ≡ false
    by_test l true many e = absurd cc
    by_test l false few e = let same : line ≡ l = cc in ap (is_too_many t) same ∙ few

    by_reading : (r : LiveReading) → Ok line ≡ unless_too_many t (pieces bytes) r → is_too_many t line ≡ false
    by_reading (Err refused) e = absurd cc
    by_reading (Ok l) e = by_test l (is_too_many t l) refl e
