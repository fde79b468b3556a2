-- Lines that were read one after another, and were right.
use Rattle.std.proofs.Common.{◌≡◌, ℕ, ◌+◌, ◌^◌, ◌<◌, ◌≤◌, Bool, true, false, ◌&&◌, ◌==◌, List, [], ◌∷◌, ◌++◌, length, Option, Some, None, IfSome, if◌then◌else◌, refl, ap, sym, subst, ◌∙◌, arith, append_assoc, length-append}
use Rattle.km_entries.specs.declared.lines.JournalLine.{JournalLine}
use Rattle.km_entries.specs.declared.lines.JournalLine.TheVariants as line
use Rattle.km_entries.specs.declared.status.CheckStatus.{CheckStatus}
use Rattle.km_entries.specs.declared.status.CheckStatus.TheVariants as check
use Rattle.km_entries.specs.Lines.{said_of}
use Rattle.km_entries.specs.Reading.{journal_line}
use Rattle.km_model.specs.Answers.{answer as answer_of}
use Rattle.km_model.specs.Follows.{past_of}
use Rattle.km_model.specs.Past.{world}
use Rattle.km_rounds.specs.declared.entry.Entry.{Entry}
use Rattle.km_entries.specs.File.{Checked, Unbegun, Going, Over, Outcome, Verdict, Right, IsWrong, IsNoLine, are_none, event_verdict, going_verdict, history_in, is_memory_size, is_too_late, outcome_from, outcome_then, right_if, same_said, told_in, verdict, verdict_of, with_entry}
use Rattle.km_journal.specs.declared.replay.Replay.{Replay}
use Rattle.km_journal.specs.Journals.{EndsAt}
use Rattle.km_journal.specs.Replays.{HasRead, HasRoom}
use Rattle.km_journal.proofs.Events.{events_are}

-- the number of events so far
abbrev pub entries_in : Checked → ℕ
entries_in Unbegun = 0
entries_in (Going words ns owed) = length ns
entries_in (Over words ns) = length ns

-- what a right line leads to: one event more at most, and never back to the start
abbrev LeadsOn : Checked → Verdict → Type 0
LeadsOn c (Right d) = (entries_in d ≤ entries_in c + 1) × ((d ≡ Unbegun) → ⊥)
LeadsOn c IsWrong = Unit {0}
LeadsOn c IsNoLine = Unit {0}

going_on : (c : Checked) (words : ℕ) (ns : List Entry) (owed : List ℕ) → length ns ≤ entries_in c + 1 → (b : Bool) → LeadsOn c (right_if b (Going words ns owed))
going_on c words ns owed few true = (few, λ e. let z : ⊥ = cc in z)
going_on c words ns owed few false = tt

over_on : (c : Checked) (words : ℕ) (ns : List Entry) → length ns ≤ entries_in c + 1 → (b : Bool) → LeadsOn c (right_if b (Over words ns))
over_on c words ns few true = (few, λ e. let z : ⊥ = cc in z)
over_on c words ns few false = tt

if_on : (c : Checked) (b : Bool) (v w : Verdict) → LeadsOn c v → LeadsOn c w → LeadsOn c (if b then v else w)
if_on c true v w p q = p
if_on c false v w p q = q

line_on : (c : Checked) (l : JournalLine) → LeadsOn c (verdict_of c l)
line_on Unbegun (line.Head words) = if_on Unbegun (is_memory_size words) (Right (Going words [] [])) IsNoLine (omega arith, λ e. let z : ⊥ = cc in z) tt
line_on Unbegun (line.Event by act s) = tt
line_on Unbegun (line.Listed a) = tt
line_on Unbegun (line.End n) = tt
line_on (Going words ns owed) (line.Head n) = tt
line_on (Going words ns owed) (line.Event by act s) =
    let c = Going words ns owed in
    let given = answer_of words (past_of (history_in ns)) act (told_in s) in
    if_on c (is_too_late (world (past_of (history_in ns))).now act) IsNoLine (if are_none owed then event_verdict words ns by act s else IsWrong) tt
    (if_on c (are_none owed) (event_verdict words ns by act s) IsWrong
    (going_on c words (record { by = by; act = act; answer = given } ∷ ns) _ (omega arith) (same_said (said_of given) s)) tt)
line_on (Going words ns []) (line.Listed a) = tt
line_on (Going words ns (b ∷ owed)) (line.Listed a) = going_on (Going words ns (b ∷ owed)) words ns owed (omega arith) (a == b)
line_on (Going words ns owed) (line.End n) = over_on (Going words ns owed) words ns (omega arith) (are_none owed && n == length ns)
line_on (Over words ns) l = tt

leads_on : (c : Checked) (l : List ℕ) → LeadsOn c (verdict c l)
leads_on c l = by_line (journal_line l)
  where
    by_line : (o : Option JournalLine) → LeadsOn c (elim o as (λ _. Verdict) [ None ↦ IsNoLine | Some x ↦ verdict_of c x ])
    by_line None = tt
    by_line (Some x) = line_on c x

-- these lines are right, whatever comes after them
pub record Followed (lines : List (List ℕ)) (n : ℕ) (c : Checked) : Type 0 where
  pub on : (end : ℕ → Checked → List ℕ → CheckStatus) (l : List ℕ) (ls : List (List ℕ)) → outcome_from end 1 Unbegun (lines ++ l ∷ ls) ≡ outcome_from end n c (l ∷ ls)
  pub number : n ≡ length lines + 1
  pub few : entries_in c ≤ length lines
  pub fresh : c ≡ Unbegun → lines ≡ []

pub followed_none : Followed [] 1 Unbegun
followed_none = record { on = λ end l ls. refl; number = omega arith; few = omega arith; fresh = λ _. refl }

pub followed_line : (lines : List (List ℕ)) (n : ℕ) (c d : Checked) (l : List ℕ) → Followed lines n c → verdict c l ≡ Right d → Followed (lines ++ l ∷ []) (n + 1) d
followed_line lines n c d l f right =
    let leads = subst (LeadsOn c) right (leads_on c l) in
    record {
      on = λ end m ls.
          ap (outcome_from end 1 Unbegun) (append_assoc lines (l ∷ []) (m ∷ ls)) ∙ f.on end l (m ∷ ls)
          ∙ ap (λ v. outcome_then n c v (λ after. outcome_from end (n + 1) after (m ∷ ls))) right;
      number = omega (arith, f.number, length-append lines (l ∷ []));
      few = omega (arith, f.few, leads.0, length-append lines (l ∷ []));
      fresh = λ e. absurd (leads.1 e);
    }

-- there is room for one more event
pub has_room : (o : Option Replay) (c : Checked) → HasRead o c → entries_in c < 2 ^ 62 → HasRoom o
has_room None c read few = tt
has_room (Some r) Unbegun read few = absurd read
has_room (Some r) (Going words ns owed) read few = omega (arith, read.0.stands.events, events_are ns, few)
has_room (Some r) (Over words ns) read few = omega (arith, read.0.stands.events, events_are ns, few)

-- a line that isn't right ends a check
abbrev Stops : ℕ → Verdict → CheckStatus → Type 0
Stops n (Right _) ended = ⊥
Stops n IsWrong ended = ended ≡ check.Wrong n
Stops n IsNoLine ended = ended ≡ check.NotALine n

stops_then : (n : ℕ) (c : Checked) (v : Verdict) (rest : Checked → Outcome) (ended : CheckStatus) → Stops n v ended → (outcome_then n c v rest).status ≡ ended
stops_then n c (Right d) rest ended s = absurd s
stops_then n c IsWrong rest ended s = sym s
stops_then n c IsNoLine rest ended s = sym s

-- the status of a line that was refused
abbrev pub IsRefusal : CheckStatus → Type 0
IsRefusal (check.Wrong _) = Unit {0}
IsRefusal (check.NotALine _) = Unit {0}
IsRefusal check.Ok = ⊥
IsRefusal check.ReadFault = ⊥
IsRefusal check.WriteFault = ⊥
IsRefusal check.NoMemory = ⊥
IsRefusal (check.BadWords _) = ⊥
IsRefusal check.TooLong = ⊥
IsRefusal check.Cut = ⊥

ends_stops : (n : ℕ) (c : Checked) (l : List ℕ) (ended : CheckStatus) → IsRefusal ended → EndsAt n c l ended → Stops n (verdict c l) ended
ends_stops n c l (check.Wrong m) is e = subst (λ v. Stops n v (check.Wrong m)) (sym e.1) (ap check.Wrong e.0)
ends_stops n c l (check.NotALine m) is e = subst (λ v. Stops n v (check.NotALine m)) (sym e.1) (ap check.NotALine e.0)
ends_stops n c l check.Ok is e = absurd is
ends_stops n c l check.ReadFault is e = absurd is
ends_stops n c l check.WriteFault is e = absurd is
ends_stops n c l check.NoMemory is e = absurd is
ends_stops n c l (check.BadWords _) is e = absurd is
ends_stops n c l check.TooLong is e = absurd is
ends_stops n c l check.Cut is e = absurd is

-- a line that is refused after these, where others come after it
pub refused_at : (end : ℕ → Checked → List ℕ → CheckStatus) (lines ls : List (List ℕ)) (n : ℕ) (c : Checked) (l m : List ℕ) (ended : CheckStatus)
    → Followed lines n c → IsRefusal ended → EndsAt n c l ended → (outcome_from end 1 Unbegun (lines ++ l ∷ m ∷ ls)).status ≡ ended
refused_at end lines ls n c l m ended f is e =
    ap (λ (o : Outcome). o.status) (f.on end l (m ∷ ls)) ∙ stops_then n c (verdict c l) (λ after. outcome_from end (n + 1) after (m ∷ ls)) ended (ends_stops n c l ended is e)

-- a line of more than 256 bytes is none
pub long_at : (end : ℕ → Checked → List ℕ → CheckStatus) (lines ls : List (List ℕ)) (n : ℕ) (c : Checked) (l : List ℕ)
    → Followed lines n c → verdict c l ≡ IsNoLine → end n c l ≡ check.NotALine n → (outcome_from end 1 Unbegun (lines ++ l ∷ ls)).status ≡ check.NotALine n
long_at end lines [] n c l f none last = ap (λ (o : Outcome). o.status) (f.on end l []) ∙ last
long_at end lines (m ∷ ls) n c l f none last = refused_at end lines ls n c l m (check.NotALine n) f tt (refl, none)
