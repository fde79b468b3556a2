-- What workers make one after another follows.
use Rattle.std.proofs.Common.{◌≡◌, ℕ, zero, suc, ◌^◌, Bool, true, false, nat_le, nat_lt, List, [], ◌∷◌, ◌++◌, Option, Some, None, if◌then◌else◌, refl, sym, ◌∙◌, ap, subst, ltb-true}
use Rattle.std.specs.List.{list_all}
use Rattle.std.proofs.lemmas.Bool.{and_parts, and_from}
use Rattle.km_base.specs.declared.acts.Act.{Act}
use Rattle.km_base.specs.declared.acts.Act.TheVariants.{Halt}
use Rattle.km_base.specs.declared.acts.Answer.{Answer}
use Rattle.km_model.specs.History.{History, value_of}
use Rattle.km_model.specs.Answers.{answer}
use Rattle.km_model.specs.Follows.{Follows, moment, past_of}
use Rattle.km_live_model.specs.declared.jobs.JobLine.{JobLine}
use Rattle.km_rounds.specs.declared.entry.Entry.{Entry}
use Rattle.km_rounds.specs.Journals.{Journal, event_of, with_journal}
use Rattle.km_live_model.specs.Courses.{Mutator, Stage, act_in, entry_of, stage_after}
use Rattle.km_state.proofs.CodeLaws.{answer_again}
use Rattle.km_schedules.proofs.Parts.{joined}
use Rattle.km_round_rows.proofs.Schedules.{Now, answer_now, answer_to, after_act, after_entry, act_at, is_scanning, run_lines, run_scanner, scanner_entry, given_to, mutator_after, now_after}

-- whether each answer brings a value of 64 bits
abbrev pub are_small : Journal → Bool
are_small journal = list_all (λ (e : Entry). nat_lt (value_of e.answer) (2 ^ 64)) journal

pub small_parts : (xs ys : Journal) → are_small (xs ++ ys) ≡ true → (are_small xs ≡ true) × (are_small ys ≡ true)
small_parts [] ys e = (refl, e)
small_parts (x ∷ xs) ys e =
    let p = and_parts (nat_lt (value_of x.answer) (2 ^ 64)) (are_small (xs ++ ys)) e in
    let q = small_parts xs ys p.1 in
    (and_from (nat_lt (value_of x.answer) (2 ^ 64)) (are_small xs) p.0 q.0, q.1)

-- one more entry follows
one_follows : (words : ℕ) (h : History) (n : Now) (by : ℕ) (what : Act) → n.past ≡ past_of h → Follows words h → nat_lt (value_of (answer_now words n what)) (2 ^ 64) ≡ true
    → Follows words (event_of (record { by = by; act = what; answer = answer_now words n what }) ∷ h)
one_follows words h n by what same f small = (
  subst (λ p. answer_now words n what ≡ answer words p what (value_of (answer_now words n what))) same (sym (answer_again words n.past what _)),
  ltb-true (value_of (answer_now words n what)) (2 ^ 64) small,
  f,
)

past_after : (h : History) (n : Now) (by : ℕ) (what : Act) (given : Answer) → n.past ≡ past_of h
    → (after_entry n what given).past ≡ past_of (event_of (record { by = by; act = what; answer = given }) ∷ h)
past_after h n by what given same = ap (λ p. moment p what given ∷ p) same

pub scanner_follows : (words gap limit fuel : ℕ) (h : History) (n : Now) (stage : Stage) → n.past ≡ past_of h → Follows words h → are_small (run_scanner words gap limit fuel n stage) ≡ true
    → Follows words (with_journal h (run_scanner words gap limit fuel n stage))
scanner_follows words gap limit zero h n stage same f small = f
scanner_follows words gap limit (suc fuel) h n stage same f small = go (λ g m s e k t. scanner_follows words gap limit fuel g m s e k t) (act_at gap stage) (nat_le limit n.used) (is_scanning stage) small
  where
    go : ((g : History) (m : Now) (s : Stage) → m.past ≡ past_of g → Follows words g → are_small (run_scanner words gap limit fuel m s) ≡ true → Follows words (with_journal g (run_scanner words gap limit fuel m s)))
        → (o : Option Act) (full running : Bool)
        → are_small (elim o as (λ _. Journal) [
          | None ↦ []
          | Some what ↦ elim full as (λ _. Journal) [
            | true ↦ if running then scanner_entry Halt (answer_now words n Halt) ∷ [] else []
            | false ↦ scanner_entry what (answer_now words n what) ∷ run_scanner words gap limit fuel (after_entry n what (answer_now words n what)) (stage_after stage what (answer_now words n what))
          ]
        ]) ≡ true
        → Follows words (with_journal h (elim o as (λ _. Journal) [
          | None ↦ []
          | Some what ↦ elim full as (λ _. Journal) [
            | true ↦ if running then scanner_entry Halt (answer_now words n Halt) ∷ [] else []
            | false ↦ scanner_entry what (answer_now words n what) ∷ run_scanner words gap limit fuel (after_entry n what (answer_now words n what)) (stage_after stage what (answer_now words n what))
          ]
        ]))
    go rest None full running e = f
    go rest (Some what) true true e = one_follows words h n 1 Halt same f (and_parts (nat_lt (value_of (answer_now words n Halt)) (2 ^ 64)) true e).0
    go rest (Some what) true false e = f
    go rest (Some what) false running e =
        let p = and_parts (nat_lt (value_of (answer_now words n what)) (2 ^ 64)) (are_small (run_scanner words gap limit fuel (after_entry n what (answer_now words n what)) (stage_after stage what (answer_now words n what)))) e in
        rest (event_of (scanner_entry what (answer_now words n what)) ∷ h) (after_entry n what (answer_now words n what)) (stage_after stage what (answer_now words n what))
        (past_after h n 1 what (answer_now words n what) same) (one_follows words h n 1 what same f p.0) p.1

-- a history goes on by entries to what stands now
pub record Reaches (words : ℕ) (h : History) (journal : Journal) (n : Now) : Type 0 where
  pub follows : Follows words (with_journal h journal)
  pub past : n.past ≡ past_of (with_journal h journal)

pub reaches_more : (words : ℕ) (h : History) (xs ys : Journal) (n : Now) → Reaches words (with_journal h xs) ys n → Reaches words h (xs ++ ys) n
reaches_more words h xs ys n r = record {
  follows = subst (λ g. Follows words g) (sym (joined h xs ys)) r.follows;
  past = r.past ∙ ap past_of (sym (joined h xs ys));
}

line_reaches : (words by limit : ℕ) (h : History) (n : Now) (o : Option Act) (ws : List ℕ) → n.past ≡ past_of h → Follows words h
    → are_small (entry_of by o (answer_to words limit n o)) ≡ true → Reaches words h (entry_of by o (answer_to words limit n o)) (record (after_act n o (answer_to words limit n o)) { memory = ws })
line_reaches words by limit h n None ws same f small = record { follows = f; past = same }
line_reaches words by limit h n (Some what) ws same f small = go (nat_le limit n.used) small
  where
    go : (q : Bool) → are_small (entry_of by (Some what) (if q then None else Some (answer_now words n what))) ≡ true
        → Reaches words h (entry_of by (Some what) (if q then None else Some (answer_now words n what))) (record (after_act n (Some what) (if q then None else Some (answer_now words n what))) { memory = ws })
    go true e = record { follows = f; past = same }
    go false e = record { follows = one_follows words h n by what same f (and_parts (nat_lt (value_of (answer_now words n what)) (2 ^ 64)) true e).0; past = past_after h n by what (answer_now words n what) same }

pub lines_reach : (words by limit : ℕ) (h : History) (n : Now) (m : Mutator) (lines : List JobLine) → n.past ≡ past_of h → Follows words h
    → are_small (run_lines words by limit n m lines).entries ≡ true → Reaches words h (run_lines words by limit n m lines).entries (run_lines words by limit n m lines).now
lines_reach words by limit h n m [] same f small = record { follows = f; past = same }
lines_reach words by limit h n m (line ∷ lines) same f small =
    let made : Journal = entry_of by (act_in m.registers line) (given_to words by limit n m line) in
    let n' : Now = now_after words by limit n m line in
    let m' : Mutator = mutator_after words by limit n m line in
    let p = small_parts made (run_lines words by limit n' m' lines).entries small in
    let first = line_reaches words by limit h n (act_in m.registers line) n'.memory same f p.0 in
    reaches_more words h made (run_lines words by limit n' m' lines).entries (run_lines words by limit n' m' lines).now
    (lines_reach words by limit (with_journal h made) n' m' lines first.past first.follows p.1)
