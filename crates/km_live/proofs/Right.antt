-- The detector is right after a round.
use Rattle.std.proofs.Common.{◌≡◌, ℕ, ◌||◌, Bool, true, false, List, [], ◌∷◌, ◌∙◌, ap, subst}
use Rattle.std.specs.List.{list_any}
use Rattle.std.proofs.lemmas.List.Folds.{list_any-append}
use Rattle.km_model.specs.Blocks.{is_among}
use Rattle.km_model.specs.Follows.{past_of}
use Rattle.km_model.specs.Headline.{IsMemorySize}
use Rattle.km_model.specs.History.{Event, History}
use Rattle.km_model.specs.Past.{completes}
use Rattle.km_model.specs.Verdict.{listing_ids}
use Rattle.km_rounds.specs.declared.entry.Entry.{Entry}
use Rattle.km_rounds.specs.Orders.{Order}
use Rattle.km_rounds.specs.Journals.{Journal, event_of}
use Rattle.km_live_model.specs.Courses.{Mutator}
use Rattle.km_live_model.specs.Rounds.{IsRound, Job}
use Rattle.km_round_laws.proofs.Journals.{appended, news}
use Rattle.km_round_laws.proofs.Remembered.{forgotten_listed_in_rounds, rounds_tied}
use Rattle.km_round_laws.proofs.Since.{listed_since}
use Rattle.km_round_laws.proofs.Sound.{listed_not_held_in_journals}
use Rattle.km_live.specs.Made.{IsRightAfter}

or_false : (p : Bool) → (p || false) ≡ p
or_false true = λ _. true
or_false false = λ _. false

or_swap : (p q : Bool) → (p || q) ≡ (q || p)
or_swap true true = λ _. true
or_swap true false = λ _. true
or_swap false true = λ _. true
or_swap false false = λ _. false

-- whether a journal completes a scan, by its events
completed : (journal : Journal) → list_any (λ (e : Event). completes e.answer) (news journal) ≡ list_any (λ (e : Entry). completes e.answer) journal
completed [] = λ _. false
completed (e ∷ journal) =
    list_any-append (λ (x : Event). completes x.answer) (news journal) (event_of e ∷ [])
    ∙ (ap (λ q. list_any (λ (x : Event). completes x.answer) (news journal) || q) (or_false (completes e.answer))
    ∙ (ap (λ q. q || completes e.answer) (completed journal) ∙ or_swap (list_any (λ (x : Entry). completes x.answer) journal) (completes e.answer)))

pub right_after : (words : ℕ) (h : History) (memory : List ℕ) (jobs : List Job) (scans gap entries : ℕ) (journal : Journal) (order : Order) (ends : List Mutator) (full : Bool)
    → IsMemorySize words → IsRound words h memory jobs scans gap entries journal order ends full → IsRightAfter words h memory journal order
right_after words h memory jobs scans gap entries journal order ends full size r = record {
  listed_are_not_held = λ k id. listed_not_held_in_journals words h memory journal order k id (rounds_tied words h memory jobs scans gap entries journal order ends full r);
  forgotten_are_listed = λ first rest j k ids parts.
      forgotten_listed_in_rounds words h memory jobs scans gap entries first rest order ends full j k ids size
      (subst (λ xs. IsRound words h memory jobs scans gap entries xs order ends full) parts r);
  listed_since = λ none id listed.
      listed_since h (news journal) id (completed journal ∙ none)
      (subst (λ g. is_among id (listing_ids (past_of g)) ≡ true) (appended h journal) listed);
}
