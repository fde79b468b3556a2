-- What is accepted is a journal.
use Rattle.std.proofs.Common.{◌≡◌, ℕ, ◌+◌, nat_le, Bool, true, false, List, [], ◌∷◌, length, take, if◌then◌else◌, refl, ap, sym, ◌∙◌}
use Rattle.km_model.specs.Output.{between_line_feeds}
use Rattle.km_state.proofs.CodeLaws.{answer_again}
use Rattle.km_entries.specs.declared.status.CheckStatus.TheVariants as check
use Rattle.km_rounds.specs.declared.entry.Entry.{Entry}
use Rattle.km_entries.specs.File.{Checked, Going, IsJournal, IsNoLine, IsWrong, Outcome, Over, Right, Unbegun, Verdict, at_end, at_limit, journal_text, limit, outcome_from, outcome_of, outcome_then, verdict}
use Rattle.km_entries.proofs.Files.{accepted, joined_pieces}
use Rattle.km_journal_laws.specs.Accepted.{AcceptedAreJournals, IsAccepted}

-- a file that is too long isn't accepted
at_limit_not_ok : (n : ℕ) (c : Checked) (rest : List ℕ) → at_limit n c rest ≡ check.Ok → ⊥
at_limit_not_ok n c rest e = by_length (nat_le (length rest) 256) e
  where
    by_length : (b : Bool) → (if b then check.TooLong else check.NotALine n) ≡ check.Ok → ⊥
    by_length true k = cc
    by_length false k = cc

pub never_ok : (n : ℕ) (c : Checked) (ps : List (List ℕ)) → (outcome_from at_limit n c ps).status ≡ check.Ok → ⊥
never_ok n c [] e = at_limit_not_ok n c [] e
never_ok n c (l ∷ []) e = at_limit_not_ok n c l e
never_ok n c (l ∷ m ∷ ls) e = by_verdict (λ d. never_ok (n + 1) d (m ∷ ls)) (verdict c l) e
  where
    by_verdict : ((d : Checked) → (outcome_from at_limit (n + 1) d (m ∷ ls)).status ≡ check.Ok → ⊥) → (v : Verdict) → (outcome_then n c v (λ after. outcome_from at_limit (n + 1) after (m ∷ ls))).status ≡ check.Ok → ⊥
    by_verdict on (Right d) k = on d k
    by_verdict on IsWrong k = cc
    by_verdict on IsNoLine k = cc

pub accepted_are_journals : AcceptedAreJournals
accepted_are_journals bytes words ns e = by_length (nat_le (length bytes) limit) e
  where
    by_length : (b : Bool) → (if b then outcome_from at_end 1 Unbegun (between_line_feeds bytes) else outcome_from at_limit 1 Unbegun (between_line_feeds (take limit bytes))) ≡ record { status = check.Ok; after = Over words ns }
        → IsJournal words ns × (bytes ≡ journal_text words ns)
    by_length true k = let r = accepted answer_again 1 [] Unbegun (between_line_feeds bytes) words ns refl k in (r.0, sym (joined_pieces bytes) ∙ r.1)
    by_length false k = absurd (never_ok 1 Unbegun (between_line_feeds (take limit bytes)) (ap (λ (o : Outcome). o.status) k))

-- lines end well only where all were read
abbrev pub IsOver : Outcome → Type 0
IsOver o = (words : ℕ) × (ns : List Entry) × (o ≡ record { status = check.Ok; after = Over words ns })

over_at : (n : ℕ) (c : Checked) → at_end n c [] ≡ check.Ok → IsOver (record { status = at_end n c []; after = c })
over_at n Unbegun e = absurd (cc)
over_at n (Going words ns owed) e = absurd (cc)
over_at n (Over words ns) e = (words, ns, refl)

pub ok_is_over : (n : ℕ) (c : Checked) (ps : List (List ℕ)) → (outcome_from at_end n c ps).status ≡ check.Ok → IsOver (outcome_from at_end n c ps)
ok_is_over n c [] e = over_at n c e
ok_is_over n c ([] ∷ []) e = over_at n c e
ok_is_over n c ((b ∷ bs) ∷ []) e = absurd (cc)
ok_is_over n c (l ∷ m ∷ ls) e = by_verdict (λ d. ok_is_over (n + 1) d (m ∷ ls)) (verdict c l) e
  where
    by_verdict : ((d : Checked) → (outcome_from at_end (n + 1) d (m ∷ ls)).status ≡ check.Ok → IsOver (outcome_from at_end (n + 1) d (m ∷ ls))) → (v : Verdict)
        → (outcome_then n c v (λ after. outcome_from at_end (n + 1) after (m ∷ ls))).status ≡ check.Ok → IsOver (outcome_then n c v (λ after. outcome_from at_end (n + 1) after (m ∷ ls)))
    by_verdict on (Right d) k = on d k
    by_verdict on IsWrong k = absurd (cc)
    by_verdict on IsNoLine k = absurd (cc)

-- a file of this status is accepted
pub ok_is_accepted : (bytes : List ℕ) → (outcome_of bytes).status ≡ check.Ok → (words : ℕ) × (ns : List Entry) × IsAccepted bytes words ns
ok_is_accepted bytes e = by_length (nat_le (length bytes) limit) e
  where
    by_length : (b : Bool) → (if b then outcome_from at_end 1 Unbegun (between_line_feeds bytes) else outcome_from at_limit 1 Unbegun (between_line_feeds (take limit bytes))).status ≡ check.Ok
        → IsOver (if b then outcome_from at_end 1 Unbegun (between_line_feeds bytes) else outcome_from at_limit 1 Unbegun (between_line_feeds (take limit bytes)))
    by_length true k = ok_is_over 1 Unbegun (between_line_feeds bytes) k
    by_length false k = absurd (never_ok 1 Unbegun (between_line_feeds (take limit bytes)) k)
