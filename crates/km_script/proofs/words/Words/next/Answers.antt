use Rattle.std.proofs.Common.{◌≡◌, ℕ, ◌+◌, ◌-◌, ◌==◌, false, List, ◌∷◌, Option, length, take, drop, position, refl, ap, sym, ◌∙◌, arith}
use Rattle.std.specs.List.{position_from}
use Rattle.std.proofs.lemmas.Iterator.Adapters.{position_from-zero}
use Rattle.km_model.specs.Grammar.{is_foreign}
use Rattle.km_model.specs.Pieces.{Piece, goes_on, pieces_from}
use Rattle.km_script.specs.Left.{Left}
use Rattle.km_script.specs.Marks.{if_here, or_first}
use Rattle.km_script.proofs.Pieces.{no_word, some_word}
use Rattle.km_script.proofs.Foreign.{AreAlike, behind_end, ends_at_blank, foreign_next}
use Rattle.km_script.proofs.words.Words.next.Goals as goal

pub returns-in_default-clause-word : goal.returns-in_default-clause-word
returns-in_default-clause-word c =
    let n = no_word c.self.inside.column c.self.inside.rest.now c.in_default.ensures in
    rw (← c.self.view_is, n) refl

pub returns-in_default-clause-rest : goal.returns-in_default-clause-rest
returns-in_default-clause-rest c =
    let n = no_word c.self.inside.column c.self.inside.rest.now c.in_default.ensures in
    rw (← c.self.view_is, n) refl

pub invariant_of-result : goal.invariant_of-result
invariant_of-result c = record {
  dot_is_first =
      c.marks_of-marks.ensures.marks.dot
      ∙ sym (position_from-zero (λ c. c == 46) (take c.marks_of-marks.result.length c.split_at.result.1.now))
      ∙ ap (position (λ c. c == 46)) (sym c.split_at-2.ensures.front);
  plus_is_first =
      c.marks_of-marks.ensures.marks.plus
      ∙ sym (position_from-zero (λ c. c == 43) (take c.marks_of-marks.result.length c.split_at.result.1.now))
      ∙ ap (position (λ c. c == 43)) (sym c.split_at-2.ensures.front);
}

pub returns-clause-word : goal.returns-clause-word
returns-clause-word c =
    let n = some_word c.self.inside.column c.in-Some.first c.marks_of-marks.result.length c.self.inside.rest.now c.split_at.result.1.now c.split_at-2.result.0.now c.split_at-2.result.1.now c.in-Some.blanks c.in-Some.ensures c.split_at.ensures.back c.marks_of-marks.ensures.length c.split_at-2.ensures.front c.split_at-2.ensures.back c.split_at-2.ensures.front_len in
    rw (← c.self.view_is, n) refl

pub returns-clause-rest : goal.returns-clause-rest
returns-clause-rest c =
    let column = c.self.inside.column + c.in-Some.blanks in
    let behind = c.split_at.result.1.now in
    let n = c.marks_of-marks.result.length in
    let from_blank = c.split_at-2.result.1.now in
    let left = c.behind_one-left.result.now in
    let next = c.self.inside.end - length left in
    let before = c.self.inside.foreign in
    let ends : goes_on from_blank ≡ false = ap goes_on (c.split_at-2.ensures.back ∙ ap (λ k. drop k behind) c.marks_of-marks.ensures.length) ∙ ends_at_blank behind in
    let alike : AreAlike (column + 1 + n) next from_blank left =
    behind_end (column + 1 + n) next c.self.inside.end from_blank left ends c.behind_one-left.ensures (omega (arith, c.self.invariant.0, c.split_at.ensures.back_len, c.split_at-2.ensures.back_len)) refl in
    let noted : c.first_of-self-inside.result ≡ or_first before (or_first (if_here (is_foreign c.in-Some.first) column) c.marks_of-marks.result.foreign) =
    c.first_of-self-inside.ensures ∙ ap (or_first before) c.foreign_in.ensures in
    let foreign : or_first c.first_of-self-inside.result (position_from is_foreign next left) ≡ or_first before (position_from is_foreign c.self.inside.column c.self.inside.rest.now) =
    ap (λ o. or_first o (position_from is_foreign next left)) noted
    ∙ ap (or_first (or_first before (or_first (if_here (is_foreign c.in-Some.first) column) c.marks_of-marks.result.foreign))) (sym alike.foreign)
    ∙ foreign_next before c.marks_of-marks.result.foreign c.self.inside.column c.in-Some.blanks c.in-Some.first n c.self.inside.rest.now behind from_blank
    c.in-Some.ensures.count (c.in-Some.ensures.from ∙ ap (λ ds. c.in-Some.first ∷ ds) (sym c.split_at.ensures.back)) c.marks_of-marks.ensures.marks.foreign
    c.split_at-2.ensures.back (ap length (sym c.split_at-2.ensures.front) ∙ c.split_at-2.ensures.front_len) in
    let word = some_word c.self.inside.column c.in-Some.first n c.self.inside.rest.now behind c.split_at-2.result.0.now from_blank c.in-Some.blanks c.in-Some.ensures c.split_at.ensures.back c.marks_of-marks.ensures.length c.split_at-2.ensures.front c.split_at-2.ensures.back c.split_at-2.ensures.front_len in
    let make : List Piece → Option ℕ → Left = λ ps o. record { end = c.self.inside.end; pieces = ps; foreign = o } in
    rw (← c.self.view_is, word) (
    ap (λ ps. make ps (or_first c.first_of-self-inside.result (position_from is_foreign next left))) (sym alike.pieces)
    ∙ ap (make (pieces_from (column + 1 + n) from_blank)) foreign)
