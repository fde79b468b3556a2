-- From each sound run there is a round: mutators run one after another, and the scanner after them.
use Rattle.std.proofs.Common.{◌≡◌, ℕ, suc, ◌+◌, ◌≤◌, ◌<◌, Bool, true, false, ◌||◌, not, List, [], ◌∷◌, ◌++◌, length, refl, sym, ◌∙◌, ap, subst, arith, append_assoc, append-nil}
use Rattle.std.specs.List.{list_any}
use Rattle.std.proofs.lemmas.List.{length-append}
use Rattle.km_base.specs.declared.acts.Answer.{Answer}
use Rattle.km_base.specs.declared.acts.Answer.TheVariants.{Loaded}
use Rattle.km_model.specs.Members.{Each}
use Rattle.km_model.specs.Past.{is_loaded}
use Rattle.km_model.specs.Follows.{Run, Follows, all_happen}
use Rattle.km_model.proofs.Cases.{elim_false}
use Rattle.km_model.proofs.Lists.{each_weaker}
use Rattle.km_words.specs.Told.{WordStep}
use Rattle.km_rounds.specs.Orders.{OrderStep, Order, IsLegal, steps_by}
use Rattle.km_rounds.specs.declared.entry.Entry.{Entry}
use Rattle.km_rounds.specs.Journals.{Journal, with_loaded, loads_in, entries_by}
use Rattle.km_live_model.specs.Courses.{Mutator, Course, AtTick, is_scanner_course}
use Rattle.km_live_model.specs.Rounds.{Job, AreCourses, IsRound, IsWorker, mutator_of}
use Rattle.km_live_model.specs.Lives.{RoundLeads, all_register_acts, round_text, with_round}
use Rattle.km_schedules.specs.Schedules.{IsSoundRun, RoundIsThere}
use Rattle.km_schedules.proofs.Parts.{AllBy, by_hand, courses_after, each_append, entries_all, entries_here, entries_none, entries_there, joined, part_here, part_there, scanner_all, scanner_none}
use Rattle.km_schedules.proofs.Words.{legal_both}
use Rattle.km_schedules.proofs.Events.{round_both}
use Rattle.km_schedules.proofs.Mutators.{AreUnloaded, PartRuns, lines_run}
use Rattle.km_schedules.proofs.Scanner.{ScannerRuns, acts_after, scanner_runs}

-- one of so many numbers, from the given one on
abbrev IsFrom : ℕ → ℕ → ℕ → Type 0
IsFrom k n j = (k ≤ j) × (j < k + n)

-- steps and entries of numbers below the given one alone
abbrev AreBelow : ℕ → Order → Journal → Type 0
AreBelow k order journal = (j : ℕ) → k ≤ j → (steps_by order j ≡ []) × (entries_by journal j ≡ [])

-- what mutators make, one after another, whose numbers rise by one from the given one
record JobsRun (k limit : ℕ) (r : Run) (used : ℕ) (jobs : List Job) : Type 0 where
  order : Order
  journal : Journal
  ends : List Mutator
  courses : (later : Order) (more : Journal) → AreBelow k later more → AreCourses r.words k jobs (order ++ later) (journal ++ more) ends
  below : (later : Order) (more : Journal) (j : ℕ) → j < k → (steps_by (order ++ later) j ≡ steps_by later j) × (entries_by (journal ++ more) j ≡ entries_by more j)
  hands : Each (λ (x : OrderStep). IsFrom k (length jobs) x.by) order
  workers : Each (λ (e : Entry). IsFrom k (length jobs) e.by) journal
  loads : AreUnloaded journal
  legal : IsLegal r.memory order
  sound : IsSoundRun (with_round r journal order)
  room : used + length journal ≤ limit
  full : list_any (λ (m : Mutator). m.full) ends ≡ true → limit ≤ used + length journal

hands_from : (k n : ℕ) (steps : List WordStep) → 0 < n → Each (λ (x : OrderStep). IsFrom k n x.by) (by_hand k steps)
hands_from k n [] some = tt
hands_from k n (x ∷ steps) some = ((omega arith, omega (arith, some)), hands_from k n steps some)

entries_from : (k n : ℕ) (journal : Journal) → 0 < n → AllBy k journal → Each (λ (e : Entry). IsFrom k n e.by) journal
entries_from k n [] some f = tt
entries_from k n (e ∷ journal) some f = ((let g = f.0 in omega (arith, g), (let g = f.0 in omega (arith, g, some))), entries_from k n journal some f.1)

from_more : (k n j : ℕ) → IsFrom (k + 1) n j → IsFrom k (suc n) j
from_more k n j f = (let g = f.0 in omega (arith, g), (let g = f.1 in omega (arith, g)))

either_full : (one rest : Bool) (limit first more : ℕ) → (one ≡ true → limit ≤ first) → (rest ≡ true → limit ≤ first + more) → (one || rest) ≡ true → limit ≤ first + more
either_full true rest limit first more f g e = let x = f refl in omega (arith, x)
either_full false rest limit first more f g e = g e

-- one mutator, and then others
module _ (k limit : ℕ) (r : Run) (used : ℕ) (job : Job) (jobs : List Job) (ran : PartRuns k limit r used (Course r.words k (mutator_of job) job.lines))
    (rest : JobsRun (k + 1) limit (with_round r ran.journal (by_hand k ran.steps)) (used + length ran.journal) jobs) where
  both_courses : (later : Order) (more : Journal) → AreBelow k later more
      → AreCourses r.words k (job ∷ jobs) ((by_hand k ran.steps ++ rest.order) ++ later) ((ran.journal ++ rest.journal) ++ more) (ran.after ∷ rest.ends)
  both_courses later more none =
      let below = rest.below later more k (omega arith) in
      let nil = none k (omega arith) in
      let whole : AreCourses r.words k (job ∷ jobs) (by_hand k ran.steps ++ (rest.order ++ later)) (ran.journal ++ (rest.journal ++ more)) (ran.after ∷ rest.ends) = (
        subst (λ x. Course r.words k (mutator_of job) job.lines x (entries_by (ran.journal ++ (rest.journal ++ more)) k) ran.after)
            (sym (part_here k ran.steps (rest.order ++ later) ∙ (ap (λ o. ran.steps ++ o) (below.0 ∙ nil.0) ∙ append-nil ran.steps)))
            (subst (λ x. Course r.words k (mutator_of job) job.lines ran.steps x ran.after)
            (sym (entries_here k ran.journal (rest.journal ++ more) ran.one ∙ (ap (λ o. ran.journal ++ o) (below.1 ∙ nil.1) ∙ append-nil ran.journal))) ran.made),
        courses_after r.words (k + 1) k jobs ran.steps (rest.order ++ later) ran.journal (rest.journal ++ more) rest.ends (omega arith) ran.one
            (rest.courses later more (λ j le. none j (omega (arith, le)))),
      ) in
      subst (λ o. AreCourses r.words k (job ∷ jobs) o ((ran.journal ++ rest.journal) ++ more) (ran.after ∷ rest.ends)) (sym (append_assoc (by_hand k ran.steps) rest.order later))
      (subst (λ o. AreCourses r.words k (job ∷ jobs) (by_hand k ran.steps ++ (rest.order ++ later)) o (ran.after ∷ rest.ends)) (sym (append_assoc ran.journal rest.journal more)) whole)

  both_below : (later : Order) (more : Journal) (j : ℕ) → j < k
      → (steps_by ((by_hand k ran.steps ++ rest.order) ++ later) j ≡ steps_by later j) × (entries_by ((ran.journal ++ rest.journal) ++ more) j ≡ entries_by more j)
  both_below later more j lt =
      let below = rest.below later more j (omega (arith, lt)) in (
        ap (λ o. steps_by o j) (append_assoc (by_hand k ran.steps) rest.order later)
            ∙ (part_there j k ran.steps (rest.order ++ later) (λ e. omega (arith, lt, e)) ∙ below.0),
        ap (λ o. entries_by o j) (append_assoc ran.journal rest.journal more)
            ∙ (entries_there j k ran.journal (rest.journal ++ more) (λ e. omega (arith, lt, e)) ran.one ∙ below.1),
      )

  both_run : JobsRun k limit r used (job ∷ jobs)
  both_run =
      let n : ℕ = length jobs in
      let e : length (ran.journal ++ rest.journal) ≡ length ran.journal + length rest.journal = length-append ran.journal rest.journal in
      record {
        order = by_hand k ran.steps ++ rest.order;
        journal = ran.journal ++ rest.journal;
        ends = ran.after ∷ rest.ends;
        courses = both_courses;
        below = both_below;
        hands = each_append (λ (x : OrderStep). IsFrom k (suc n) x.by) (by_hand k ran.steps) rest.order (hands_from k (suc n) ran.steps (omega arith))
            (each_weaker (λ (x : OrderStep). IsFrom (k + 1) n x.by) (λ (x : OrderStep). IsFrom k (suc n) x.by) (λ x f. from_more k n x.by f) rest.order rest.hands);
        workers = each_append (λ (x : Entry). IsFrom k (suc n) x.by) ran.journal rest.journal (entries_from k (suc n) ran.journal (omega arith) ran.one)
            (each_weaker (λ (x : Entry). IsFrom (k + 1) n x.by) (λ (x : Entry). IsFrom k (suc n) x.by) (λ x f. from_more k n x.by f) rest.journal rest.workers);
        loads = each_append (λ (x : Entry). is_loaded x.answer ≡ false) ran.journal rest.journal ran.loads rest.loads;
        legal = legal_both r.memory (by_hand k ran.steps) rest.order ran.legal rest.legal;
        sound = subst (λ x. IsSoundRun x) (round_both r ran.journal rest.journal (by_hand k ran.steps) rest.order) rest.sound;
        room = let g = rest.room in omega (arith, e, g);
        full = λ x.
            let g = either_full ran.after.full (list_any (λ (m : Mutator). m.full) rest.ends) limit (used + length ran.journal) (length rest.journal) ran.full rest.full x in
            omega (arith, e, g);
      }

jobs_run : (k limit : ℕ) (r : Run) (used : ℕ) (jobs : List Job) → IsSoundRun r → used ≤ limit → JobsRun k limit r used jobs
jobs_run k limit r used [] s le = record {
  order = [];
  journal = [];
  ends = [];
  courses = λ later more none. tt;
  below = λ later more j lt. (refl, refl);
  hands = tt;
  workers = tt;
  loads = tt;
  legal = tt;
  sound = s;
  room = omega (arith, le);
  full = λ e. absurd (elim_false e);
}
jobs_run k limit r used (job ∷ jobs) s le =
    let ran : PartRuns k limit r used (Course r.words k (mutator_of job) job.lines) = lines_run k limit r used (mutator_of job) job.lines s le (λ e. absurd (elim_false e)) in
    both_run k limit r used job jobs ran (jobs_run (k + 1) limit (with_round r ran.journal (by_hand k ran.steps)) (used + length ran.journal) jobs ran.sound ran.room)

-- entries without loads
loads_after : (xs ys : Journal) → AreUnloaded xs → loads_in (xs ++ ys) ≡ loads_in ys
loads_after [] ys f = refl
loads_after (x ∷ xs) ys f = without x.answer (loads_in (xs ++ ys)) f.0 ∙ loads_after xs ys f.1
  where
    without : (given : Answer) (steps : List WordStep) → is_loaded given ≡ false → with_loaded given steps ≡ steps
    without (Loaded a v) steps g = absurd (elim_false (sym g))
    without _ steps g = refl

is_worker : (n j : ℕ) → IsFrom 2 n j → IsWorker n j
is_worker n j f = (let g = f.0 in omega (arith, g), (let g = f.1 in omega (arith, g)))

scanner_hands : (n : ℕ) (steps : List WordStep) → Each (λ (x : OrderStep). IsWorker n x.by) (by_hand 1 steps)
scanner_hands n [] = tt
scanner_hands n (x ∷ steps) = ((omega arith, omega arith), scanner_hands n steps)

scanner_workers : (n : ℕ) (journal : Journal) → AllBy 1 journal → Each (λ (e : Entry). IsWorker n e.by) journal
scanner_workers n [] f = tt
scanner_workers n (e ∷ journal) f = ((let g = f.0 in omega (arith, g), (let g = f.0 in omega (arith, g))), scanner_workers n journal f.1)

cut_at : (whole full : Bool) (limit mutated scanned : ℕ) → (whole ≡ false → limit ≤ mutated + scanned) → (full ≡ true → limit ≤ mutated) → (not whole || full) ≡ true → limit ≤ mutated + scanned
cut_at true full limit mutated scanned f g e = let x = g e in omega (arith, x)
cut_at false full limit mutated scanned f g e = f refl

-- the mutators and then the scanner make a round
serial_is_round : (r : Run) (jobs : List Job) (scans gap entries : ℕ) (ran : JobsRun 2 entries r 0 jobs)
    (scan : ScannerRuns gap entries (with_round r ran.journal ran.order) (length ran.journal) (AtTick scans))
    → IsRound r.words r.history r.memory jobs scans gap entries (ran.journal ++ scan.journal) (ran.order ++ by_hand 1 (loads_in scan.journal)) ran.ends
    (not scan.whole || list_any (λ (m : Mutator). m.full) ran.ends)
serial_is_round r jobs scans gap entries ran scan =
    let steps : List WordStep = loads_in scan.journal in
    let order : Order = by_hand 1 steps in
    let n : ℕ = length jobs in
    let part = ran.below order scan.journal 1 (omega arith) in
    let e : length (ran.journal ++ scan.journal) ≡ length ran.journal + length scan.journal = length-append ran.journal scan.journal in
    record {
      whole = scan.whole;
      follows = subst (λ h. Follows r.words h) (sym (joined r.history ran.journal scan.journal)) scan.follows;
      legal = legal_both r.memory ran.order order ran.legal scan.legal;
      scanned = loads_after ran.journal scan.journal ran.loads ∙ sym (part.0 ∙ scanner_all steps);
      scanner = subst (λ x. is_scanner_course gap (AtTick scans) x scan.whole ≡ true) (sym (part.1 ∙ entries_all scan.journal scan.one)) scan.course;
      mutators = ran.courses order scan.journal (λ j le. (scanner_none j steps (λ f. omega (arith, le, f)), entries_none j scan.journal (λ f. omega (arith, le, f)) scan.one));
      workers = each_append (λ (x : Entry). IsWorker n x.by) ran.journal scan.journal
          (each_weaker (λ (x : Entry). IsFrom 2 n x.by) (λ (x : Entry). IsWorker n x.by) (λ x f. is_worker n x.by f) ran.journal ran.workers)
          (scanner_workers n scan.journal scan.one);
      hands = each_append (λ (x : OrderStep). IsWorker n x.by) ran.order order
          (each_weaker (λ (x : OrderStep). IsFrom 2 n x.by) (λ (x : OrderStep). IsWorker n x.by) (λ x f. is_worker n x.by f) ran.order ran.hands)
          (scanner_hands n steps);
      is_full = refl;
      room = let g = acts_after ran.journal scan.journal in let f = scan.room in omega (arith, f, g);
      cut = λ x.
          let g = cut_at scan.whole (list_any (λ (m : Mutator). m.full) ran.ends) entries (length ran.journal) (length scan.journal) scan.cut
          (λ y. let g = ran.full y in omega (arith, g)) x in
          omega (arith, e, g);
    }

-- a round leads from a run to another
leads : (r : Run) (jobs : List Job) (scans gap entries : ℕ) (journal : Journal) (order : Order) (ends : List Mutator) (full : Bool)
    → IsRound r.words r.history r.memory jobs scans gap entries journal order ends full → (r' : Run) × (out : List ℕ) × RoundLeads r jobs scans gap entries r' out
leads r jobs scans gap entries journal order ends full round = (
  all_happen (with_round r journal order) (all_register_acts jobs ends),
  round_text entries journal full,
  record { journal = journal; order = order; ends = ends; full = full; is_round = round; after = refl; printed = refl },
)

pub round_is_there : RoundIsThere
round_is_there r jobs scans gap entries s =
    let ran : JobsRun 2 entries r 0 jobs = jobs_run 2 entries r 0 jobs s (omega arith) in
    let between : Run = with_round r ran.journal ran.order in
    let room : length ran.journal ≤ entries = let g = ran.room in omega (arith, g) in
    let scan : ScannerRuns gap entries between (length ran.journal) (AtTick scans) =
    scanner_runs gap entries (entries + 1) between (length ran.journal) (AtTick scans) tt ran.sound room (omega arith) in
    leads r jobs scans gap entries (ran.journal ++ scan.journal) (ran.order ++ by_hand 1 (loads_in scan.journal)) ran.ends
    (not scan.whole || list_any (λ (m : Mutator). m.full) ran.ends) (serial_is_round r jobs scans gap entries ran scan)
