use Rattle.std.proofs.Common.{ℕ, List, length, min, take, position, ap, ◌∙◌, ◌≡◌, arith}
use Rattle.std.proofs.lemmas.List.{take_min}
use Rattle.km_edge.specs.Lines.{is_line_feed, next_at, next_of}
use Rattle.km_edge.proofs.lines.Lines.cut.Goals as goal

-- the front of what is held
front : (n : ℕ) (held : List ℕ) → n ≡ min (length held) 257 → take n held ≡ take 257 held
front n held e = ap (λ m. take m held) (let swapped : n ≡ min 257 (length held) = omega (arith, e) in swapped) ∙ take_min 257 held

pub returns : goal.returns
returns c =
    let held = c.held-held.result.now in
    c.cut_at.ensures
    ∙ ap (λ o. next_at o c.args.ended held) (c.first_feed-feed.ensures ∙ ap (position is_line_feed) (front c.min.result held c.min.ensures))
    ∙ ap (next_of c.args.ended) c.held-held.ensures.held
