-- The text of a round, entry by entry.
use Rattle.std.proofs.Common.{◌≡◌, ℕ, ◌+◌, ◌<◌, ◌≤◌, Bool, true, false, List, ◌++◌, length, take, drop, Option, Some, None, if◌then◌else◌, sym, ◌∙◌, ap, subst}
use Rattle.std.specs.Prelude.{flat_map, slice_index_or}
use Rattle.std.proofs.lemmas.List.{take_all}
use Rattle.km_edge.specs.Streams.{SinkState, Wrote}
use Rattle.km_edge.proofs.Writing.{wrote_more}
use Rattle.km_rounds.specs.declared.entry.Entry.{Entry}
use Rattle.km_rounds.specs.Journals.{Journal}
use Rattle.km_live_model.specs.Lives.{round_text, scan_text}
use Rattle.km_machine.proofs.Pieces.{Stops, piece_at, pieces_from, stops_behind, stops_early}
use Rattle.km_live_machine.specs.RoundRuns.{told_text}

-- what an entry prints
abbrev pub printed : Entry → List ℕ
printed e = scan_text e.answer

-- what these entries print
abbrev pub ends_text : Journal → List ℕ
ends_text journal = flat_map printed journal

-- the texts of the first entries, and the next one, or a fault in it
pub next_printed : (journal : Journal) (i : ℕ) (e : Entry) (a b c : SinkState) → i < length journal → e ≡ slice_index_or journal i e → Wrote a b (ends_text (take i journal)) → Wrote b c (printed e)
    → Wrote a c (ends_text (take (i + 1) journal))
next_printed journal i e a b c low is before now =
    subst (λ xs. Wrote a c xs) (sym (piece_at printed journal i e low ∙ ap (λ x. ends_text (take i journal) ++ printed x) (sym is))) (wrote_more a b c _ _ before now)

pub next_stopped : (journal : Journal) (i : ℕ) (e : Entry) (a b c : SinkState) → i < length journal → e ≡ slice_index_or journal i e → Wrote a b (ends_text (take i journal)) → Stops b c (printed e)
    → Stops a c (ends_text journal)
next_stopped journal i e a b c low is before now =
    subst (λ xs. Stops a c xs) (sym (pieces_from printed journal i e low))
    (stops_early a c (ends_text (take i journal) ++ printed (slice_index_or journal i e)) (ends_text (drop (i + 1) journal))
    (stops_behind a b c (ends_text (take i journal)) (printed (slice_index_or journal i e)) before (subst (λ x. Stops b c (printed x)) is now)))

pub all_printed : (journal : Journal) (i : ℕ) (a b : SinkState) → length journal ≤ i → Wrote a b (ends_text (take i journal)) → Wrote a b (ends_text journal)
all_printed journal i a b all before = subst (λ xs. Wrote a b (ends_text xs)) (take_all i journal all) before

-- the text of a round, by what is told of a full journal
pub text_is : (entries : ℕ) (journal : Journal) (full : Bool) (told : Option ℕ) → told ≡ (if full then Some entries else None) → told_text journal told ≡ round_text entries journal full
text_is entries journal true told is = ap (told_text journal) is
text_is entries journal false told is = ap (told_text journal) is
