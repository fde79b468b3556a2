-- A line is read back, and what is read is its text.
use Rattle.std.proofs.Common.{◌≡◌, ℕ, ◌≤◌, nat_lt, false, List, [], ◌∷◌, length, decimal, Option, Some, None, option_and_then, option_map, bytes_eq, if◌then◌else◌, codes, refl, ap, sym, subst, ◌∙◌, arith, inl, inr}
use Rattle.std.proofs.lemmas.Bool.{le-ltb}
use Rattle.km_base.specs.declared.acts.Act.{Act}
use Rattle.km_base.specs.Digits.{hex}
use Rattle.km_model.proofs.Cases.{none_some, some_same}
use Rattle.km_entries.specs.declared.lines.Said.{Said}
use Rattle.km_entries.specs.declared.lines.JournalLine.{JournalLine}
use Rattle.km_entries.specs.declared.lines.JournalLine.TheVariants as line
use Rattle.km_entries.specs.Words.{plain_number, plain_address, spaced, words_in}
use Rattle.km_entries.specs.Lines.{CanBeMade, CanBeSaid, CanStand, act_words, before_words, line_bytes, line_words, said_words}
use Rattle.km_entries.specs.Reading.{act_of, after_equals, event_in, head_in, journal_line, line_by_words, maker_of, named_line, no_more, take_word}
use Rattle.km_entries.proofs.Splits.{spaced_words, words_spaced}
use Rattle.km_entries.proofs.Numbers.{number_again, number_was}
use Rattle.km_entries.proofs.Addresses.{address_again, address_was}
use Rattle.km_entries.proofs.Readers.{chosen, maker_again, maker_was, same_bytes}
use Rattle.km_entries.proofs.Acts.{act_again, act_was, take_was}
use Rattle.km_entries.proofs.Answers.{equals_was, none_after, said_again}
use Rattle.km_entries.proofs.Solid.{line_fits, spaced_fits}

event_again : (by : ℕ) (act : Act) (said : Said) → CanBeMade act → CanBeSaid said → event_in by (before_words (act_words act) (codes "=" ∷ said_words said)) ≡ Some (line.Event by act said)
event_again by act said h g =
    ap (option_and_then (λ (made : Act × List (List ℕ)). option_map (line.Event by made.0) (after_equals made.1))) (act_again act (codes "=" ∷ said_words said) h)
    ∙ ap (option_map (line.Event by act)) (said_again said g)

by_words_again : (l : JournalLine) → CanStand l → line_by_words (line_words l) ≡ Some l
unfolding plain_number
by_words_again (line.Head words) h = rw (number_again words h) refl
by_words_again (line.Event by act said) h =
    ap (λ o. elim o as (λ _. Option JournalLine) [ Some n ↦ event_in n (before_words (act_words act) (codes "=" ∷ said_words said)) | None ↦ named_line (decimal by) (before_words (act_words act) (codes "=" ∷ said_words said)) ]) (maker_again by h.0)
    ∙ event_again by act said h.1 h.2
by_words_again (line.Listed a) h = rw (address_again a h) refl
by_words_again (line.End n) h = rw (number_again n h) refl

words_again : (l : JournalLine) → CanStand l → words_in (spaced (line_words l)) ≡ line_words l
words_again (line.Head words) h = words_spaced (codes "kmjournal") (codes "1" ∷ decimal words ∷ []) (line_fits (line.Head words) h).solid
words_again (line.Event by act said) h = words_spaced (decimal by) (before_words (act_words act) (codes "=" ∷ said_words said)) (line_fits (line.Event by act said) h).solid
words_again (line.Listed a) h = words_spaced (codes "listed") (hex a ∷ []) (line_fits (line.Listed a) h).solid
words_again (line.End n) h = words_spaced (codes "end") (decimal n ∷ []) (line_fits (line.End n) h).solid

short : (bytes : List ℕ) → length bytes ≤ 256 → journal_line bytes ≡ line_by_words (words_in bytes)
unfolding journal_line
short bytes h = let t : nat_lt 256 (length bytes) ≡ false = le-ltb 256 (length bytes) h in ap (λ b. if b then None else line_by_words (words_in bytes)) t

-- a line is read from its text
pub line_again : (l : JournalLine) → CanStand l → journal_line (line_bytes l) ≡ Some l
line_again l h =
    let fits = line_fits l h in
    let small = fits.small in
    let s = spaced_fits (line_words l) in
    short (line_bytes l) (omega (arith, small, s)) ∙ ap line_by_words (words_again l h) ∙ by_words_again l h

-- the words that a line was read from
abbrev WasLine : List (List ℕ) → JournalLine → Type 0
WasLine ws l = (ws ≡ line_words l) × CanStand l

event_was : (w : List ℕ) (by : ℕ) (ws : List (List ℕ)) (l : JournalLine) → w ≡ decimal by → by ≤ 9 → event_in by ws ≡ Some l → WasLine (w ∷ ws) l
event_was w by ws l d small e = by_act (act_of ws) refl
  where
    by_act : (o : Option (Act × List (List ℕ))) → act_of ws ≡ o → WasLine (w ∷ ws) l
    by_act None t = absurd (none_some l (sym (ap (option_and_then (λ (made : Act × List (List ℕ)). option_map (line.Event by made.0) (after_equals made.1))) t) ∙ e))
    by_act (Some made) t = by_said (after_equals made.1) refl (sym (ap (option_and_then (λ (m : Act × List (List ℕ)). option_map (line.Event by m.0) (after_equals m.1))) t) ∙ e)
      where
        by_said : (o : Option Said) → after_equals made.1 ≡ o → option_map (line.Event by made.0) (after_equals made.1) ≡ Some l → WasLine (w ∷ ws) l
        by_said None s k = absurd (none_some l (sym (ap (option_map (line.Event by made.0)) s) ∙ k))
        by_said (Some said) s k =
            let a = act_was ws made.0 made.1 t in
            let b = equals_was made.1 said s in
            let same = some_same (line.Event by made.0 said) l (sym (ap (option_map (line.Event by made.0)) s) ∙ k) in
            subst (WasLine (w ∷ ws)) same (ap (λ x. x ∷ ws) d ∙ ap (λ x. decimal by ∷ x) (a.0 ∙ ap (before_words (act_words made.0)) b.0), (small, a.1, b.1))

head_was : (w : List ℕ) (ws : List (List ℕ)) (l : JournalLine) → w ≡ codes "kmjournal" → head_in ws ≡ Some l → WasLine (w ∷ ws) l
head_was w [] l d e = absurd (none_some l e)
head_was w (v ∷ ws) l d e =
    elim (chosen (bytes_eq (codes "1") v) (take_word plain_number ws (λ n rest. no_more (line.Head n) rest)) None l e) [
      | inl one ↦
          let k = take_was plain_number ws (λ n rest. no_more (line.Head n) rest) l one.1 in
          let told = number_was k.0 k.2 k.4 in
          let end = none_after (line.Head k.2) l k.1 k.5 in
          subst (WasLine (w ∷ v ∷ ws)) end.1
          (ap (λ x. x ∷ v ∷ ws) d ∙ ap (λ x. codes "kmjournal" ∷ x ∷ ws) (sym (same_bytes (codes "1") v one.0)) ∙ ap (λ x. codes "kmjournal" ∷ codes "1" ∷ x) (k.3 ∙ ap (λ x. x ∷ k.1) told.0 ∙ ap (λ x. decimal k.2 ∷ x) end.0), told.1)
      | inr none ↦ absurd (none_some l none.1)
    ]

named_was : (w : List ℕ) (ws : List (List ℕ)) (l : JournalLine) → named_line w ws ≡ Some l → WasLine (w ∷ ws) l
named_was w ws l e =
    elim (chosen (bytes_eq (codes "listed") w) (take_word plain_address ws (λ a rest. no_more (line.Listed a) rest)) _ l e) [
      | inl listed ↦
          let k = take_was plain_address ws (λ a rest. no_more (line.Listed a) rest) l listed.1 in
          let told = address_was k.0 k.2 k.4 in
          let end = none_after (line.Listed k.2) l k.1 k.5 in
          subst (WasLine (w ∷ ws)) end.1 (ap (λ x. x ∷ ws) (sym (same_bytes (codes "listed") w listed.0)) ∙ ap (λ x. codes "listed" ∷ x) (k.3 ∙ ap (λ x. x ∷ k.1) told.0 ∙ ap (λ x. hex k.2 ∷ x) end.0), told.1)
      | inr k0 ↦ elim (chosen (bytes_eq (codes "kmjournal") w) (head_in ws) _ l k0.1) [
        | inl head ↦ head_was w ws l (sym (same_bytes (codes "kmjournal") w head.0)) head.1
        | inr k1 ↦ elim (chosen (bytes_eq (codes "end") w) (take_word plain_number ws (λ n rest. no_more (line.End n) rest)) None l k1.1) [
          | inl last ↦
              let k = take_was plain_number ws (λ n rest. no_more (line.End n) rest) l last.1 in
              let told = number_was k.0 k.2 k.4 in
              let end = none_after (line.End k.2) l k.1 k.5 in
              subst (WasLine (w ∷ ws)) end.1 (ap (λ x. x ∷ ws) (sym (same_bytes (codes "end") w last.0)) ∙ ap (λ x. codes "end" ∷ x) (k.3 ∙ ap (λ x. x ∷ k.1) told.0 ∙ ap (λ x. decimal k.2 ∷ x) end.0), told.1)
          | inr none ↦ absurd (none_some l none.1)
        ]
      ]
    ]

by_words_was : (ws : List (List ℕ)) (l : JournalLine) → line_by_words ws ≡ Some l → WasLine ws l
by_words_was [] l e = absurd (none_some l e)
by_words_was (w ∷ ws) l e = by_maker (maker_of w) refl
  where
    by_maker : (o : Option ℕ) → maker_of w ≡ o → WasLine (w ∷ ws) l
    by_maker (Some by) t =
        let m = maker_was w by t in
        event_was w by ws l m.0 m.1 (sym (ap (λ o. elim o as (λ _. Option JournalLine) [ Some n ↦ event_in n ws | None ↦ named_line w ws ]) t) ∙ e)
    by_maker None t = named_was w ws l (sym (ap (λ o. elim o as (λ _. Option JournalLine) [ Some n ↦ event_in n ws | None ↦ named_line w ws ]) t) ∙ e)

-- a line that is read is the text of what it says
pub line_was : (bytes : List ℕ) (l : JournalLine) → journal_line bytes ≡ Some l → (bytes ≡ line_bytes l) × CanStand l
unfolding journal_line
line_was bytes l e =
    elim (chosen (nat_lt 256 (length bytes)) None (line_by_words (words_in bytes)) l e) [
      | inl long ↦ absurd (none_some l long.1)
      | inr k ↦ let was = by_words_was (words_in bytes) l k.1 in (sym (spaced_words bytes) ∙ ap spaced was.0, was.1)
    ]
