-- What reads and writes do to a stream whose bytes, or whose number of bytes, may be told.
use Rattle.std.specs.Prelude.{◌≡◌, ℕ, ◌+◌, ◌-◌, ◌^◌, ◌<◌, ◌≤◌, ◌⊎◌, min, max, List, length, take, Option, Some, None, Result, ⊤, MatchResult}
use Rattle.std.specs.Io.KnownBytes.{Keeps, Appends, Consumes, IsAtEnd}
use Rattle.km_edge.specs.declared.errors.Failed.{Failed}

-- what contracts see of a source: the bytes that are left, where it tells them, and its faults so far
pub record SourceState : Type 0 where
  pub left : Option (List ℕ)
  pub faults : ℕ

-- what contracts see of a sink: the bytes that it holds and the number of those that it took, where it tells them,
-- and its faults so far
pub record SinkState : Type 0 where
  pub held : Option (List ℕ)
  pub count : Option ℕ
  pub faults : ℕ

-- the greatest count
abbrev pub greatest : ℕ
greatest = 2 ^ 64 - 1

-- a count of faults rose in a call, or could rise no further
abbrev pub Rose : ℕ → ℕ → Type 0
Rose before after = (before < after) ⊎ (before ≡ greatest)

-- a count that is one greater, or stays at its end
abbrev pub raised : ℕ → ℕ
raised n = min (n + 1) greatest

-- a told number of bytes grows by n, but not past its end
abbrev pub Counts : Option ℕ → Option ℕ → ℕ → Type 0
Counts None new n = ⊤
Counts (Some c) new n = new ≡ Some (max c (min (c + n) greatest))

-- `Ok(n)` gives the next n bytes, none only at the end; `Failed` takes none, and comes only where the count of faults rose
abbrev pub Reads : SourceState → SourceState → List ℕ → Result ℕ Failed → Type 0
Reads s s' buffer result =
    MatchResult result
    (λ n. (n ≤ length buffer) × Consumes s.left s'.left (take n buffer) × (n ≡ 0 → IsAtEnd s'.left))
    (λ _. Keeps s.left s'.left × Rose s.faults s'.faults)

-- these bytes were written, in any number of writes, none of which failed
pub record Wrote (s s' : SinkState) (bytes : List ℕ) : Type 0 where
  pub appended : Appends s.held s'.held bytes
  pub counted : Counts s.count s'.count (length bytes)
  pub faults_kept : s'.faults ≡ s.faults

-- these bytes came out, whether or not a write failed after them
pub record CameOut (s s' : SinkState) (bytes : List ℕ) : Type 0 where
  pub appended : Appends s.held s'.held bytes
  pub counted : Counts s.count s'.count (length bytes)
  pub faults_kept : s.faults ≤ s'.faults

-- `Ok(n)` appends the first n bytes of the piece, at least one; `Failed` appends none, and comes only where the count of faults rose
abbrev pub Writes : SinkState → SinkState → List ℕ → Result ℕ Failed → Type 0
Writes s s' piece result =
    MatchResult result
    (λ n. (1 ≤ n) × (n ≤ length piece) × Appends s.held s'.held (take n piece) × Counts s.count s'.count n)
    (λ _. Keeps s.held s'.held × Counts s.count s'.count 0 × Rose s.faults s'.faults)

-- the first n of these bytes came out, and then a write failed
pub record StoppedAt (s s' : SinkState) (bytes : List ℕ) (n : ℕ) : Type 0 where
  pub within : n ≤ length bytes
  pub came_out : CameOut s s' (take n bytes)
  pub rose : Rose s.faults s'.faults

-- a write of all of these bytes
abbrev pub WritesAll : SinkState → SinkState → List ℕ → Result (Unit {0}) Failed → Type 0
WritesAll s s' bytes result = MatchResult result (λ _. Wrote s s' bytes) (λ _. (n : ℕ) × StoppedAt s s' bytes n)
