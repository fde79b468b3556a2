-- The lines of a script that ends with a line feed are as many as its line feeds.
use Rattle.std.proofs.Common.{◌≡◌, ℕ, suc, ◌+◌, ◌*◌, ◌≤◌, ◌==◌, true, false, List, [], ◌∷◌, ◌++◌, cond, codes, length, refl, ap, sym, subst, ◌∙◌, arith, append_assoc, if◌then◌else◌}
use Rattle.std.specs.List.{count_by}
use Rattle.std.proofs.lemmas.List.Sums.{sum_by-cons}
use Rattle.km_edge.specs.Lines.{is_line_feed}
use Rattle.km_model.specs.Output.{all_but_last, between_line_feeds, is_empty, limit, lines_of, put_in_first, lines_in}
use Rattle.km_model.specs.Text.{as_text_line}
use Rattle.km_gen.specs.Generated.{generated_script, opening_lines, closing_lines, steps_text}
use Rattle.km_reader.proofs.Lists.{within_limit}

-- pieces the last of which is empty, with as many others as are counted
abbrev Fed : List (List ℕ) → ℕ → Type 0
Fed pieces n = (q : List ℕ) × (qs : List (List ℕ)) × (pieces ≡ q ∷ (qs ++ [] ∷ [])) × (suc (length qs) ≡ n)

feeds_end : (front : List ℕ) → Fed (between_line_feeds (front ++ 10 ∷ [])) (count_by is_line_feed (front ++ 10 ∷ []))
feeds_end [] = ([], [], refl, refl)
feeds_end (c ∷ cs) =
    let inner = feeds_end cs in
    let pieces = between_line_feeds (cs ++ 10 ∷ []) in
    let feeds = count_by is_line_feed (cs ++ 10 ∷ []) in
    subst (Fed (if c == 10 then [] ∷ pieces else put_in_first c pieces)) (sym (sum_by-cons (λ x. cond (is_line_feed x) 1 0) c (cs ++ 10 ∷ [])))
    (elim (c == 10) as (λ b. Fed (if b then [] ∷ pieces else put_in_first c pieces) (cond b 1 0 + feeds)) [
      | true ↦ ([], inner.0 ∷ inner.1, ap (λ x. [] ∷ x) inner.2, omega (arith, inner.3))
      | false ↦ (c ∷ inner.0, inner.1, ap (put_in_first c) inner.2, omega (arith, inner.3))
    ])

last_dropped : (q : List ℕ) (qs : List (List ℕ)) → all_but_last is_empty (q ∷ (qs ++ [] ∷ [])) ≡ q ∷ qs
last_dropped q [] = refl
last_dropped q (r ∷ rs) = ap (λ x. q ∷ x) (last_dropped r rs)

lines_are_fed : (front : List ℕ) → length (lines_in is_empty (front ++ 10 ∷ [])) ≡ count_by is_line_feed (front ++ 10 ∷ [])
lines_are_fed front =
    let e = feeds_end front in
    ap (λ ls. length (all_but_last is_empty ls)) e.2 ∙ ap length (last_dropped e.0 e.1) ∙ e.3

-- the lines behind the steps, without the last line feed
closing : List ℕ
closing = as_text_line (codes "finish") ++ as_text_line (codes "tick 1000") ++ as_text_line (codes "write scan") ++ as_text_line (codes "write scan") ++ codes "read"

closing_is : closing_lines ≡ closing ++ 10 ∷ []
unfolding closing
closing_is = refl

-- a generated script ends with a line feed
script_is_fed : (number steps : ℕ) → generated_script number steps ≡ (opening_lines ++ (steps_text steps number ++ closing)) ++ 10 ∷ []
script_is_fed number steps =
    ap (λ x. opening_lines ++ (steps_text steps number ++ x)) closing_is
    ∙ ap (λ x. opening_lines ++ x) (sym (append_assoc (steps_text steps number) closing (10 ∷ [])))
    ∙ sym (append_assoc opening_lines (steps_text steps number ++ closing) (10 ∷ []))

pub script_lines : (number steps : ℕ) (script : List ℕ) → script ≡ generated_script number steps → steps ≤ 1000000 → length script ≤ 81 + 38 * steps
    → count_by is_line_feed script ≡ length (lines_of (generated_script number steps))
script_lines number steps script e few short =
    let size : length (generated_script number steps) ≤ limit = omega (arith, ap length e, few, short) in
    let fed = script_is_fed number steps in
    ap (count_by is_line_feed) (e ∙ fed) ∙ sym (lines_are_fed (opening_lines ++ (steps_text steps number ++ closing)))
    ∙ ap (λ x. length (lines_in is_empty x)) (sym fed) ∙ ap length (sym (within_limit (generated_script number steps) limit size))
