-- How the buffer of a script is cut into lines.
use Rattle.std.specs.Prelude.{◌≡◌, ℕ, ◌+◌, Bool, true, false, ◌&&◌, not, nat_le, ◌==◌, List, [], ◌∷◌, length, take, drop, position, Option, Some, None, Result, MatchResult, if◌then◌else◌}
use Rattle.std.specs.Io.KnownBytes.{Keeps, Consumes, IsAtEnd}
use Rattle.km_base.specs.declared.sizes.TheConstants.{LONGEST_LINE}
use Rattle.km_edge.specs.declared.errors.Failed.{Failed}
use Rattle.km_edge.specs.declared.lines.Cut.{Cut}
use Rattle.km_edge.specs.declared.lines.Cut.TheVariants.{Line, Long, More}
use Rattle.km_edge.specs.Streams.{SourceState, Rose}

-- what comes next in the bytes that are held: a line, more than a line may have, or too little to tell
pub data Next : Type 0 where
  Whole : (line : List ℕ) → Next
  TooLong : Next
  Unknown : Next

-- whether a byte is a line feed
abbrev pub is_line_feed : ℕ → Bool
is_line_feed c = c == 10

-- whether there are no bytes
abbrev pub is_empty : List ℕ → Bool
is_empty [] = true
is_empty (_ ∷ _) = false

-- where no line feed is among the first 257 bytes: too long a line, a rest that ends the input, or too little to tell
abbrev pub without_feed : Bool → List ℕ → Next
without_feed ended held =
    if nat_le (LONGEST_LINE + 1) (length held) then TooLong else (if ended && not (is_empty held) then Whole held else Unknown)

-- what comes next, by the place of the first line feed
abbrev pub next_at : Option ℕ → Bool → List ℕ → Next
next_at (Some i) ended held = Whole (take i held)
next_at None ended held = without_feed ended held

-- what comes next; `ended` says that nothing comes behind these bytes
abbrev pub next_of : Bool → List ℕ → Next
next_of ended held = next_at (position is_line_feed (take (LONGEST_LINE + 1) held)) ended held

-- what a cut says
abbrev pub seen : Cut → Next
seen (Line l) = Whole l.now
seen Long = TooLong
seen More = Unknown

-- one read puts n bytes behind those that are held, none only at the end; a read that fails changes nothing
abbrev pub Fills : List ℕ → List ℕ → SourceState → SourceState → Result ℕ Failed → Type 0
Fills held held' s s' result =
    MatchResult result
    (λ n. (length held' ≡ length held + n) × (take (length held) held' ≡ held) × Consumes s.left s'.left (drop (length held) held') × (n ≡ 0 → IsAtEnd s'.left))
    (λ _. (held' ≡ held) × Keeps s.left s'.left × Rose s.faults s'.faults)
