use Rattle.std.proofs.Common.{take-take, ◌≡◌, ℕ, ◌+◌, ◌-◌, ◌≤◌, List, [], ◌++◌, length, take, drop, ap, sym, ◌∙◌, arith, length-append, length-drop}
use Rattle.std.proofs.lemmas.List.{length-take, take-append-drop, drop-drop, drop-take, drop_all}
use Rattle.std.specs.List.{copy_within}
use Rattle.std.proofs.Math.Seq.{take-append_seam}

-- a piece is copied to the front of a buffer: it is the next n bytes, and the rest is left
pub piece_is_next : (n at : ℕ) (bytes buffer piece left : List ℕ) → left ≡ drop at bytes → piece ≡ take (at + n - at) (drop at bytes)
    → n ≤ length buffer → at + n ≤ length bytes → (n ≡ 0 → length bytes ≤ at)
    → (n ≤ length (piece ++ drop n buffer)) × (left ≡ take n (piece ++ drop n buffer) ++ drop (at + n) bytes) × (n ≡ 0 → drop (at + n) bytes ≡ [])
piece_is_next n at bytes buffer piece left is_left is_piece fits inside is_end =
    let same : piece ≡ take n (drop at bytes) = is_piece ∙ ap (λ k. take k (drop at bytes)) (omega arith) in
    let size : length piece ≡ n = ap length same ∙ length-take n (drop at bytes) ∙ omega (arith, length-drop at bytes) in
    let front : take n (piece ++ drop n buffer) ≡ piece = ap (λ k. take k (piece ++ drop n buffer)) (sym size) ∙ take-append_seam piece (drop n buffer) in (
      omega (arith, length-append piece (drop n buffer), size),
      is_left ∙ sym (take-append-drop n (drop at bytes)) ∙ ap (λ x. x ++ drop n (drop at bytes)) (sym (front ∙ same)) ∙ ap (λ x. take n (piece ++ drop n buffer) ++ x) (drop-drop n at bytes),
      λ zero. drop_all (at + n) bytes (omega (arith, is_end zero)),
    )

-- what was moved to the front of a buffer
pub moved_to_front : (bytes : List ℕ) (start end : ℕ) → start ≤ end → end ≤ length bytes
    → take (end - start) (copy_within bytes start end 0) ≡ take (end - start) (drop start bytes)
moved_to_front bytes start end ordered inside =
    let size : length (take (end - start) (drop start bytes)) ≡ end - start = omega (arith, length-take (end - start) (drop start bytes), length-drop start bytes) in
    ap (λ n. take n (copy_within bytes start end 0)) (sym size) ∙ take-append_seam (take (end - start) (drop start bytes)) _

-- n bytes stand in a buffer behind those that were held
pub filled : (held bytes : List ℕ) (end n : ℕ) → length held ≡ end → take end bytes ≡ held → end + n ≤ length bytes
    → (length (take (end + n - 0) bytes) ≡ length held + n) × (take (length held) (take (end + n - 0) bytes) ≡ held) × (drop (length held) (take (end + n - 0) bytes) ≡ take n (drop end bytes))
filled held bytes end n size front inside =
    let whole : take (end + n - 0) bytes ≡ take (end + n) bytes = ap (λ k. take k bytes) (omega arith) in (
      ap length whole ∙ omega (arith, length-take (end + n) bytes, size),
      ap (take (length held)) whole ∙ ap (λ k. take k (take (end + n) bytes)) size ∙ take-take end (end + n) bytes (omega arith) ∙ front,
      ap (drop (length held)) whole ∙ ap (λ k. drop k (take (end + n) bytes)) size ∙ drop-take end n bytes,
    )
