-- A text that is written piece by piece, whole or up to a fault.
use Rattle.std.proofs.Common.{◌≡◌, ℕ, ◌+◌, ◌<◌, List, [], ◌∷◌, ◌++◌, length, take, drop, Result, Ok, Err, sym, ap, ◌∙◌, subst, arith, length-append}
use Rattle.std.specs.Prelude.{flat_map, slice_index_or}
use Rattle.std.specs.Result.{IsErr}
use Rattle.std.proofs.lemmas.List.{take-append-le, take-append-drop, take_more, append-nil}
use Rattle.std.proofs.lemmas.Grind.{flat_map-append}
use Rattle.std.proofs.Math.Seq.{take-append-add}
use Rattle.km_edge.specs.declared.errors.Failed.{Failed}
use Rattle.km_edge.specs.Streams.{CameOut, SinkState, StoppedAt, WritesAll, Wrote}
use Rattle.km_edge.proofs.Writing.{came_out_more, rose_later, wrote_more}

-- a fault in these bytes
abbrev pub Stops : SinkState → SinkState → List ℕ → Type 0
Stops a b bytes = (n : ℕ) × StoppedAt a b bytes n

pub stopped : (a b : SinkState) (bytes : List ℕ) (result : Result (Unit {0}) Failed) → IsErr result → Stops a b bytes → WritesAll a b bytes result
stopped a b bytes (Ok _) err s = absurd (let z : ⊥ = cc in z)
stopped a b bytes (Err _) err s = s

-- a fault in a piece is one in a text that begins with it
pub stops_early : (a b : SinkState) (piece rest : List ℕ) → Stops a b piece → Stops a b (piece ++ rest)
stops_early a b piece rest (n, s) = (
  n,
  record {
    within = (let i = s.within in omega (arith, i, length-append piece rest));
    came_out = subst (λ xs. CameOut a b xs) (sym (take-append-le n piece rest s.within)) s.came_out;
    rose = s.rose;
  },
)

-- and so is one in a piece behind what was written
pub stops_behind : (a b c : SinkState) (done piece : List ℕ) → Wrote a b done → Stops b c piece → Stops a c (done ++ piece)
stops_behind a b c done piece w (n, s) = (
  length done + n,
  record {
    within = (let i = s.within in omega (arith, i, length-append done piece));
    came_out = subst (λ xs. CameOut a c xs) (sym (take-append-add done piece n)) (came_out_more a b c done (take n piece) w s.came_out);
    rose = rose_later a.faults b.faults c.faults (omega (arith, w.faults_kept)) s.came_out.faults_kept s.rose;
  },
)

-- a last piece, whole or up to a fault
pub writes_behind : (a b c : SinkState) (done piece : List ℕ) (result : Result (Unit {0}) Failed) → Wrote a b done → WritesAll b c piece result → WritesAll a c (done ++ piece) result
writes_behind a b c done piece (Ok _) w r = wrote_more a b c done piece w r
writes_behind a b c done piece (Err _) w r = stops_behind a b c done piece w r

-- the texts of the members of a list, up to a place, and the one that is there
pub piece_at : {X : Type 0} (text : X → List ℕ) (xs : List X) (i : ℕ) (d : X) → i < length xs → flat_map text (take (i + 1) xs) ≡ flat_map text (take i xs) ++ text (slice_index_or xs i d)
piece_at text xs i d low =
    ap (flat_map text) (take_more xs i d low) ∙ flat_map-append text (take i xs) (slice_index_or xs i d ∷ [])
    ∙ ap (λ ys. flat_map text (take i xs) ++ ys) (append-nil (text (slice_index_or xs i d)))

-- and those behind it
pub pieces_from : {X : Type 0} (text : X → List ℕ) (xs : List X) (i : ℕ) (d : X) → i < length xs
    → flat_map text xs ≡ flat_map text (take i xs) ++ text (slice_index_or xs i d) ++ flat_map text (drop (i + 1) xs)
pieces_from text xs i d low =
    ap (flat_map text) (sym (take-append-drop (i + 1) xs)) ∙ flat_map-append text (take (i + 1) xs) (drop (i + 1) xs)
    ∙ ap (λ ys. ys ++ flat_map text (drop (i + 1) xs)) (piece_at text xs i d low)
