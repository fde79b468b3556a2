-- Lines in pieces: those of an event, and those of a journal.
use Rattle.std.proofs.Common.{◌≡◌, ℕ, ◌+◌, ◌<◌, List, [], ◌∷◌, ◌++◌, length, take, drop, Option, None, Some, ap, sym, subst, ◌∙◌, append_assoc}
use Rattle.std.specs.Prelude.{slice_index_or}
use Rattle.km_base.specs.declared.acts.Act.{Act}
use Rattle.km_base.specs.declared.acts.Answer.{Answer}
use Rattle.km_journal_text.specs.Events.{after_name, before_name, name_in}
use Rattle.km_journal_text.proofs.Parts.{event_parts}
use Rattle.km_edge.specs.Streams.{SinkState, Wrote}
use Rattle.km_edge.proofs.Writing.{wrote_more}
use Rattle.km_machine.proofs.Pieces.{Stops, piece_at, pieces_from, stops_behind, stops_early}
use Rattle.km_rounds.specs.declared.entry.Entry.{Entry}
use Rattle.km_rounds.specs.Journals.{Journal}
use Rattle.km_notes.specs.Notes.{event_line, journal_lines}

-- the line of an entry
abbrev line_of : Entry → List ℕ
line_of e = event_line e.by e.act e.answer

abbrev name_part : Option (List ℕ) → List ℕ
name_part o = elim o [ None ↦ [] | Some name ↦ 32 ∷ name ]

-- an act without a name
pub plain_line : (by : ℕ) (a : Act) (given : Answer) → name_in a ≡ None → event_line by a given ≡ before_name by a ++ after_name a given
plain_line by a given none = event_parts by a given ∙ ap (λ (o : Option (List ℕ)). before_name by a ++ (name_part o ++ after_name a given)) none

-- an act with one
pub named_line : (by : ℕ) (a : Act) (name : List ℕ) (given : Answer) → name_in a ≡ Some name
    → event_line by a given ≡ ((before_name by a ++ 32 ∷ []) ++ name) ++ after_name a given
named_line by a name given some =
    event_parts by a given ∙ ap (λ (o : Option (List ℕ)). before_name by a ++ (name_part o ++ after_name a given)) some
    ∙ sym (append_assoc (before_name by a) (32 ∷ name) (after_name a given))
    ∙ ap (λ t. t ++ after_name a given) (sym (append_assoc (before_name by a) (32 ∷ []) name))

-- the lines of the first entries, and the next one, or a fault in it
pub next_noted : (journal : Journal) (i : ℕ) (e : Entry) (a b c : SinkState) → i < length journal → e ≡ slice_index_or journal i e → Wrote a b (journal_lines (take i journal)) → Wrote b c (event_line e.by e.act e.answer)
    → Wrote a c (journal_lines (take (i + 1) journal))
next_noted journal i e a b c low is before now =
    subst (λ xs. Wrote a c xs) (sym (piece_at line_of journal i e low ∙ ap (λ x. journal_lines (take i journal) ++ line_of x) (sym is))) (wrote_more a b c _ _ before now)

pub next_stopped : (journal : Journal) (i : ℕ) (e : Entry) (a b c : SinkState) → i < length journal → e ≡ slice_index_or journal i e → Wrote a b (journal_lines (take i journal)) → Stops b c (event_line e.by e.act e.answer)
    → Stops a c (journal_lines journal)
next_stopped journal i e a b c low is before now =
    subst (λ xs. Stops a c xs) (sym (pieces_from line_of journal i e low))
    (stops_early a c (journal_lines (take i journal) ++ line_of (slice_index_or journal i e)) (journal_lines (drop (i + 1) journal))
    (stops_behind a b c (journal_lines (take i journal)) (line_of (slice_index_or journal i e)) before (subst (λ x. Stops b c (line_of x)) is now)))
