-- The journal of a history that follows is accepted.
use Rattle.std.proofs.Common.{◌≡◌, ℕ, ◌+◌, ◌%◌, ◌^◌, ◌<◌, ◌≤◌, ◌==◌, nat_lt, nat_le, Bool, true, false, not, ◌&&◌, List, [], ◌∷◌, ◌++◌, length, Some, None, if◌then◌else◌, refl, ap, sym, ◌∙◌, arith, eq-eqb, le-leb, append_assoc, length-append}
use Rattle.std.proofs.lemmas.Bool.{and_parts, and_from}
use Rattle.std.proofs.lemmas.List.{append-nil}
use Rattle.km_model.proofs.Cases.{not_true}
use Rattle.km_base.specs.declared.acts.Answer.{Answer}
use Rattle.km_base.specs.declared.acts.Answer.TheVariants as answer
use Rattle.km_model.specs.History.{value_of}
use Rattle.km_model.specs.Past.{world}
use Rattle.km_model.specs.Answers.{answer as answer_of}
use Rattle.km_model.specs.Follows.{Follows, past_of}
use Rattle.km_model.specs.Headline.{IsMemorySize}
use Rattle.km_model.specs.Output.{between_line_feeds, put_in_first}
use Rattle.km_entries.specs.declared.lines.JournalLine.{JournalLine}
use Rattle.km_entries.specs.declared.lines.JournalLine.TheVariants as line
use Rattle.km_entries.specs.declared.status.CheckStatus.TheVariants as check
use Rattle.km_entries.specs.Words.{spaced}
use Rattle.km_entries.specs.Lines.{CanStand, journal_line_text, line_bytes, line_words, said_of}
use Rattle.km_rounds.specs.declared.entry.Entry.{Entry}
use Rattle.km_entries.specs.File.{AreInRange, AreTimely, Checked, Unbegun, Going, Over, Verdict, Right, IsNoLine, at_end, event_verdict, events_text, history_in, is_memory_size, is_too_late, journal_text, listed_after, listed_text, entry_text, outcome_from, outcome_then, right_if, same_said, told_in, verdict, verdict_of, with_entry}
use Rattle.km_entries.proofs.Splits.{AreSolid, above, is_solid}
use Rattle.km_entries.proofs.Solid.{line_fits}
use Rattle.km_entries.proofs.Texts.{line_again}
use Rattle.km_entries.proofs.Same.{said_is}
use Rattle.km_entries.proofs.Files.{some_piece}

-- no byte is a line feed
abbrev is_unfed : List ℕ → Bool
is_unfed [] = true
is_unfed (c ∷ cs) = not (c == 10) && is_unfed cs

solid_unfed : (w : List ℕ) → is_solid w ≡ true → is_unfed w ≡ true
solid_unfed [] s = refl
solid_unfed (c ∷ cs) s = let parts = and_parts (nat_lt 32 c) (is_solid cs) s in and_from (not (c == 10)) (is_unfed cs) (ap not (above c 10 parts.0 (omega arith))) (solid_unfed cs parts.1)

unfed_both : (w rest : List ℕ) → is_unfed w ≡ true → is_unfed rest ≡ true → is_unfed (w ++ 32 ∷ rest) ≡ true
unfed_both [] rest u v = v
unfed_both (c ∷ cs) rest u v = let parts = and_parts (not (c == 10)) (is_unfed cs) u in and_from (not (c == 10)) (is_unfed (cs ++ 32 ∷ rest)) parts.0 (unfed_both cs rest parts.1 v)

spaced_unfed : (ws : List (List ℕ)) → AreSolid ws → is_unfed (spaced ws) ≡ true
spaced_unfed [] s = refl
spaced_unfed (w ∷ []) s = solid_unfed w s.0
spaced_unfed (w ∷ v ∷ ws) s = unfed_both w (spaced (v ∷ ws)) (solid_unfed w s.0) (spaced_unfed (v ∷ ws) s.1)

-- a line before others
pieces_before : (l more : List ℕ) → is_unfed l ≡ true → between_line_feeds (l ++ 10 ∷ more) ≡ l ∷ between_line_feeds more
pieces_before [] more u = refl
pieces_before (c ∷ cs) more u =
    let parts = and_parts (not (c == 10)) (is_unfed cs) u in
    let other : (c == 10) ≡ false = not_true (c == 10) parts.0 in
    let one : between_line_feeds ((c ∷ cs) ++ 10 ∷ more) ≡ put_in_first c (between_line_feeds (cs ++ 10 ∷ more)) = rw other refl in
    one ∙ ap (put_in_first c) (pieces_before cs more parts.1)

-- a line that is right is passed
one_line : (n : ℕ) (c d : Checked) (l : JournalLine) (more : List ℕ) → CanStand l → verdict_of c l ≡ Right d
    → outcome_from at_end n c (between_line_feeds (journal_line_text l ++ more)) ≡ outcome_from at_end (n + 1) d (between_line_feeds more)
one_line n c d l more stand right =
    let pieces : between_line_feeds (journal_line_text l ++ more) ≡ line_bytes l ∷ between_line_feeds more =
    ap between_line_feeds (append_assoc (line_bytes l) (10 ∷ []) more) ∙ pieces_before (line_bytes l) more (spaced_unfed (line_words l) (line_fits l stand).solid) in
    let k = some_piece more in
    let v : verdict c (line_bytes l) ≡ Right d = ap (λ o. elim o as (λ _. Verdict) [ None ↦ IsNoLine | Some x ↦ verdict_of c x ]) (line_again l stand) ∙ right in
    ap (outcome_from at_end n c) (pieces ∙ ap (λ ps. line_bytes l ∷ ps) k.2)
    ∙ ap (λ x. outcome_then n c x (λ after. outcome_from at_end (n + 1) after (k.0 ∷ k.1))) v
    ∙ ap (outcome_from at_end (n + 1) d) (sym k.2)

-- the starts of listed blocks are within 64 bits
abbrev pub AreSmall : List ℕ → Type 0
AreSmall [] = Unit {0}
AreSmall (a ∷ as') = (a < 2 ^ 64) × AreSmall as'

-- how a check goes on after some lines
abbrev pub Passes : ℕ → Checked → List ℕ → Checked → List ℕ → Type 0
Passes n c bytes d more = (m : ℕ) × (outcome_from at_end n c (between_line_feeds bytes) ≡ outcome_from at_end m d (between_line_feeds more))

then_passes : (n : ℕ) (c d e : Checked) (xs ys zs : List ℕ) → (p : Passes n c xs d ys) → ((m : ℕ) → Passes m d ys e zs) → Passes n c xs e zs
then_passes n c d e xs ys zs p q = let r = q p.0 in (r.0, p.1 ∙ r.1)

listed_pass : (n words : ℕ) (ns : List Entry) (owed : List ℕ) (more : List ℕ) → AreSmall owed → Passes n (Going words ns owed) (listed_text owed ++ more) (Going words ns []) more
listed_pass n words ns [] more s = (n, refl)
listed_pass n words ns (a ∷ owed) more s =
    let right : right_if (a == a) (Going words ns owed) ≡ Right (Going words ns owed) = ap (λ b. right_if b (Going words ns owed)) (eq-eqb a a refl) in
    let one = one_line n (Going words ns (a ∷ owed)) (Going words ns owed) (line.Listed a) (listed_text owed ++ more) s.0 right in
    let rest = listed_pass (n + 1) words ns owed more s.1 in
    (rest.0, ap (λ b. outcome_from at_end n (Going words ns (a ∷ owed)) (between_line_feeds b)) (append_assoc (journal_line_text (line.Listed a)) (listed_text owed) more) ∙ one ∙ rest.1)

size_is : (words : ℕ) → IsMemorySize words → is_memory_size words ≡ true
size_is words m = and_from (words % 512 == 0 && nat_le 512 words) (nat_le words 4194304) (and_from (words % 512 == 0) (nat_le 512 words) (eq-eqb (words % 512) 0 m.2) (le-leb 512 words m.0)) (le-leb words 4194304 m.1)

-- what a line tells for a load is what its answer brings
told_same : (a : Answer) → told_in (said_of a) ≡ value_of a
told_same answer.Done = refl
told_same (answer.At a) = refl
told_same (answer.Loaded a v) = refl
told_same (answer.Ended k n) = refl
told_same (answer.Stopped k) = refl
told_same answer.Skipped = refl
told_same (answer.Dumped i) = refl
told_same (answer.Refused r) = refl

module _ (words : ℕ) (memory : IsMemorySize words) (small : (ns : List Entry) (n : Entry) → Follows words (history_in ns) → AreSmall (listed_after (past_of (history_in ns)) n.act n.answer)) where
  event_right : (ns : List Entry) (x : Entry) → x.answer ≡ answer_of words (past_of (history_in ns)) x.act (value_of x.answer) → is_too_late (world (past_of (history_in ns))).now x.act ≡ false
      → verdict_of (Going words ns []) (line.Event x.by x.act (said_of x.answer)) ≡ Right (with_entry words ns x.by x.act x.answer)
  event_right ns x follows timely =
      let is : answer_of words (past_of (history_in ns)) x.act (told_in (said_of x.answer)) ≡ x.answer = ap (answer_of words (past_of (history_in ns)) x.act) (told_same x.answer) ∙ sym follows in
      ap (λ b. if b then IsNoLine else event_verdict words ns x.by x.act (said_of x.answer)) timely
      ∙ ap (λ a. right_if (same_said (said_of a) (said_of x.answer)) (with_entry words ns x.by x.act a)) is
      ∙ ap (λ b. right_if b (with_entry words ns x.by x.act x.answer)) (said_is (said_of x.answer))

  events_pass : (ns : List Entry) (more : List ℕ) → AreInRange ns → Follows words (history_in ns) → AreTimely ns → words < 2 ^ 64
      → Passes 1 Unbegun (journal_line_text (line.Head words) ++ (events_text ns ++ more)) (Going words ns []) more
  events_pass [] more noted follows timely fits =
      let right : verdict_of Unbegun (line.Head words) ≡ Right (Going words [] []) = ap (λ b. if b then Right (Going words [] []) else IsNoLine) (size_is words memory) in
      (2, one_line 1 Unbegun (Going words [] []) (line.Head words) more fits right)
  events_pass (x ∷ ns) more noted follows timely fits =
      let owed = listed_after (past_of (history_in ns)) x.act x.answer in
      let text = journal_line_text (line.Event x.by x.act (said_of x.answer)) in
      let before = events_pass ns (entry_text (past_of (history_in ns)) x ++ more) noted.3 follows.2 timely.1 fits in
      let event : Passes before.0 (Going words ns []) (text ++ (listed_text owed ++ more)) (Going words (x ∷ ns) owed) (listed_text owed ++ more) =
      (before.0 + 1, one_line before.0 (Going words ns []) (Going words (x ∷ ns) owed) (line.Event x.by x.act (said_of x.answer)) (listed_text owed ++ more) (noted.0, noted.1, noted.2) (event_right ns x follows.0 timely.0)) in
      let listed = listed_pass (before.0 + 1) words (x ∷ ns) owed more (small ns x follows.2) in
      let parts : (events_text ns ++ entry_text (past_of (history_in ns)) x) ++ more ≡ events_text ns ++ (entry_text (past_of (history_in ns)) x ++ more) = append_assoc (events_text ns) (entry_text (past_of (history_in ns)) x) more in (
        listed.0,
        ap (λ b. outcome_from at_end 1 Unbegun (between_line_feeds (journal_line_text (line.Head words) ++ b))) parts
            ∙ before.1
            ∙ ap (λ b. outcome_from at_end before.0 (Going words ns []) (between_line_feeds b)) (append_assoc text (listed_text owed) more)
            ∙ event.1
            ∙ listed.1,
      )

  pub journal_accepted : (ns : List Entry) → AreInRange ns → Follows words (history_in ns) → AreTimely ns → length ns < 2 ^ 64
      → outcome_from at_end 1 Unbegun (between_line_feeds (journal_text words ns)) ≡ record { status = check.Ok; after = Over words ns }
  journal_accepted ns noted follows timely few =
      let fits : words < 2 ^ 64 = let m = memory.1 in omega (arith, m) in
      let end = journal_line_text (line.End (length ns)) in
      let before = events_pass ns end noted follows timely fits in
      let right : verdict_of (Going words ns []) (line.End (length ns)) ≡ Right (Over words ns) = ap (λ b. right_if b (Over words ns)) (eq-eqb (length ns) (length ns) refl) in
      let last = one_line before.0 (Going words ns []) (Over words ns) (line.End (length ns)) [] few right in
      ap (λ b. outcome_from at_end 1 Unbegun (between_line_feeds b)) (append_assoc (journal_line_text (line.Head words)) (events_text ns) end)
      ∙ before.1
      ∙ ap (λ b. outcome_from at_end before.0 (Going words ns []) (between_line_feeds b)) (sym (append-nil end))
      ∙ last

-- a journal has more bytes than events
pub few_events : (ns : List Entry) → length ns ≤ length (events_text ns)
few_events [] = omega arith
few_events (x ∷ ns) =
    let h = few_events ns in
    let bytes = line_bytes (line.Event x.by x.act (said_of x.answer)) in
    let listed = listed_text (listed_after (past_of (history_in ns)) x.act x.answer) in
    omega (arith, h, length-append (events_text ns) ((bytes ++ 10 ∷ []) ++ listed), length-append (bytes ++ 10 ∷ []) listed, length-append bytes (10 ∷ []))

pub few_bytes : (words : ℕ) (ns : List Entry) → length ns ≤ length (journal_text words ns)
few_bytes words ns =
    let h = few_events ns in
    let head = journal_line_text (line.Head words) in
    let end = journal_line_text (line.End (length ns)) in
    omega (arith, h, length-append (head ++ events_text ns) end, length-append head (events_text ns))
