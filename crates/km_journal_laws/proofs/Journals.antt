-- The journal of a history that follows is accepted, and fixes the history.
use Rattle.std.proofs.Common.{◌≡◌, ℕ, ◌+◌, ◌*◌, ◌^◌, ◌<◌, nat_le, Bool, true, false, List, [], ◌∷◌, map, filter, length, if◌then◌else◌, ap, sym, ◌∙◌, arith, le-leb, take}
use Rattle.km_base.specs.declared.acts.Act.{Act}
use Rattle.km_base.specs.declared.acts.Act.TheVariants as act
use Rattle.km_base.specs.declared.acts.Answer.{Answer}
use Rattle.km_base.specs.declared.acts.Answer.TheVariants as answer
use Rattle.km_model.specs.Memory.{base}
use Rattle.km_model.specs.Blocks.{Block}
use Rattle.km_model.specs.World.{World}
use Rattle.km_model.specs.Past.{world}
use Rattle.km_model.specs.Verdict.{is_listed, listing}
use Rattle.km_model.specs.Placement.{Allocation}
use Rattle.km_model.specs.Output.{between_line_feeds}
use Rattle.km_model.specs.Follows.{Follows, past_of}
use Rattle.km_model.specs.Headline.{IsMemorySize}
use Rattle.km_laws.specs.Laws.{IsPlaced}
use Rattle.km_laws.specs.Placed.{BlockPlaced, InMemory, WholeWords}
use Rattle.km_laws.proofs.Laws.{all_is_placed}
use Rattle.km_laws.proofs.Lists.{Each, each_in}
use Rattle.km_entries.specs.declared.status.CheckStatus.TheVariants as check
use Rattle.km_rounds.specs.declared.entry.Entry.{Entry}
use Rattle.km_entries.specs.File.{Checked, IsJournal, Outcome, Over, Unbegun, at_end, at_limit, history_in, journal_text, limit, listed_after, outcome_from}
use Rattle.km_entries.proofs.Runs.{AreSmall, few_bytes, journal_accepted}
use Rattle.km_journal_laws.specs.Accepted.{JournalsAreAccepted, TextsFixHistories}

-- each block begins within 64 bits
small_starts : (words : ℕ) (w : World) → IsMemorySize words → IsPlaced words w → (test : Block → Bool) (bs : List Block) → Each (BlockPlaced w.used) bs → AreSmall (map (λ (b : Block). b.start) (filter test bs))
small_starts words w size placed test [] all = tt
small_starts words w size placed test (b ∷ bs) all = by_test (test b) (small_starts words w size placed test bs all.1)
  where
    small : b.start < 2 ^ 64
    small =
        let x = all.0 in
        let at = each_in (λ (y : Allocation). (0 < y.size) × InMemory words y.start y.size × WholeWords y.start y.size) w.used x.0 placed.allocations x.1 in
        let end = x.4 in
        let within = at.1.1 in
        let most = size.1 in
        let address : base + 8 * 4194304 < 2 ^ 64 = omega arith in
        omega (arith, end, within, most, address)

    by_test : (q : Bool) → AreSmall (map (λ (c : Block). c.start) (filter test bs)) → AreSmall (map (λ (c : Block). c.start) (if q then b ∷ filter test bs else filter test bs))
    by_test true rest = (small, rest)
    by_test false rest = rest

small_listed : (words : ℕ) → IsMemorySize words → (ns : List Entry) (n : Entry) → Follows words (history_in ns) → AreSmall (listed_after (past_of (history_in ns)) n.act n.answer)
small_listed words size ns n follows = by_event n.act n.answer
  where
    here : AreSmall (map (λ (b : Block). b.start) (listing (past_of (history_in ns))))
    here =
        let placed = all_is_placed words (history_in ns) size follows in
        small_starts words (world (past_of (history_in ns))) size placed (is_listed (past_of (history_in ns))) (world (past_of (history_in ns))).blocks placed.blocks

    by_event : (a : Act) (given : Answer) → AreSmall (listed_after (past_of (history_in ns)) a given)
    by_event act.Read answer.Done = here
    by_event a given = tt

pub accepted_from : (words : ℕ) (ns : List Entry) → IsJournal words ns → length ns < 2 ^ 64 → outcome_from at_end 1 Unbegun (between_line_feeds (journal_text words ns)) ≡ record { status = check.Ok; after = Over words ns }
accepted_from words ns journal few = journal_accepted words journal.memory (small_listed words journal.memory) ns journal.in_range journal.follows journal.timely few

pub journals_are_accepted : JournalsAreAccepted
journals_are_accepted words ns journal within =
    let t : nat_le (length (journal_text words ns)) limit ≡ true = le-leb (length (journal_text words ns)) limit within in
    ap (λ b. if b then outcome_from at_end 1 Unbegun (between_line_feeds (journal_text words ns)) else outcome_from at_limit 1 Unbegun (between_line_feeds (take limit (journal_text words ns)))) t
    ∙ accepted_from words ns journal (omega (arith, within, few_bytes words ns))

words_of : Checked → ℕ
words_of (Over words ns) = words
words_of _ = 0

notes_of : Checked → List Entry
notes_of (Over words ns) = ns
notes_of _ = []

pub texts_fix_histories : TextsFixHistories
unfolding words_of notes_of
texts_fix_histories words other ns ms journal journal' few few' e =
    let same : record { status = check.Ok; after = Over words ns } ≡ record { status = check.Ok; after = Over other ms } =
    sym (accepted_from words ns journal few) ∙ ap (λ bytes. outcome_from at_end 1 Unbegun (between_line_feeds bytes)) e ∙ accepted_from other ms journal' few' in
    (ap (λ (o : Outcome). words_of o.after) same, ap (λ (o : Outcome). notes_of o.after) same)
