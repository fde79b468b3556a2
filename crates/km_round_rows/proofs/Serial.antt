-- A round whose workers run one after another is a round.
use Rattle.std.proofs.Common.{◌≡◌, ℕ, ◌+◌, ◌≤◌, ◌<◌, ◌==◌, Bool, true, false, ◌&&◌, ◌||◌, not, nat_le, List, [], ◌∷◌, ◌++◌, length, refl, sym, ◌∙◌, ap, subst, arith, eqb-true, leb-true, append_assoc, append-nil}
use Rattle.std.specs.Prelude.{count_by}
use Rattle.std.specs.List.{list_all, list_any}
use Rattle.std.proofs.lemmas.Bool.{and_parts}
use Rattle.km_base.specs.declared.acts.Answer.{Answer}
use Rattle.km_base.specs.declared.acts.Answer.TheVariants.{Loaded}
use Rattle.km_model.specs.History.{History}
use Rattle.km_model.specs.Past.{is_loaded}
use Rattle.km_model.specs.Follows.{Follows, past_of}
use Rattle.km_model.proofs.Cases.{elim_false}
use Rattle.km_words.specs.Told.{WordStep}
use Rattle.km_live_model.specs.declared.jobs.JobLine.{JobLine}
use Rattle.km_rounds.specs.Orders.{OrderStep, Order, steps_by}
use Rattle.km_rounds.specs.declared.entry.Entry.{Entry}
use Rattle.km_rounds.specs.Journals.{Journal, with_journal, with_loaded, loads_in, entries_by}
use Rattle.km_live_model.specs.Courses.{Mutator, Course, AtTick, act_in, entry_of, is_halt, is_scanner_course}
use Rattle.km_live_model.specs.Rounds.{Job, IsRound, AreCourses, mutator_of}
use Rattle.km_schedules.proofs.Parts.{AllBy, all_both, by_hand, courses_after, entries_all, entries_here, entries_none, entries_there, entry_by, joined, part_here, part_there, scanner_all, scanner_none}
use Rattle.km_round_rows.proofs.Answered.{Reaches, are_small, lines_reach, reaches_more, scanner_follows, small_parts}
use Rattle.km_round_rows.proofs.Schedules.{Now, Ran, run_lines, run_scanner, run_is_course, mutator_after, now_after, given_to, follows_all, all_follow, is_legal, legal, is_worker, workers}

-- what mutators made, one after another
pub record RanAll : Type 0 where
  pub order : Order
  pub journal : Journal
  pub ends : List Mutator
  pub now : Now

module _ (words limit : ℕ) where
  abbrev pub run_jobs : ℕ → Now → List Job → RanAll
  run_jobs k n [] = record { order = []; journal = []; ends = []; now = n }
  run_jobs k n (job ∷ jobs) =
      let ran = run_lines words k limit n (mutator_of job) job.lines in
      let rest = run_jobs (k + 1) ran.now jobs in
      record { order = by_hand k ran.steps ++ rest.order; journal = ran.entries ++ rest.journal; ends = ran.after ∷ rest.ends; now = rest.now }

lines_by : (words k limit : ℕ) (n : Now) (m : Mutator) (lines : List JobLine) → AllBy k (run_lines words k limit n m lines).entries
lines_by words k limit n m [] = tt
lines_by words k limit n m (line ∷ lines) =
    all_both k (entry_of k (act_in m.registers line) (given_to words k limit n m line)) _ (entry_by k (act_in m.registers line) (given_to words k limit n m line))
    (lines_by words k limit (now_after words k limit n m line) (mutator_after words k limit n m line) lines)

module _ (words limit : ℕ) where
  -- a part of a number below those of the mutators is that of what comes after
  jobs_part : (k j : ℕ) (n : Now) (jobs : List Job) (order : Order) (journal : Journal) → j < k
      → (steps_by ((run_jobs words limit k n jobs).order ++ order) j ≡ steps_by order j) × (entries_by ((run_jobs words limit k n jobs).journal ++ journal) j ≡ entries_by journal j)
  jobs_part k j n [] order journal lt = (refl, refl)
  jobs_part k j n (job ∷ jobs) order journal lt =
      let ran : Ran = run_lines words k limit n (mutator_of job) job.lines in
      let rest = jobs_part (k + 1) j ran.now jobs order journal (omega (arith, lt)) in
      let r : RanAll = run_jobs words limit (k + 1) ran.now jobs in (
        ap (λ o. steps_by o j) (append_assoc (by_hand k ran.steps) r.order order) ∙ (part_there j k ran.steps (r.order ++ order) (λ e. omega (arith, lt, e)) ∙ rest.0),
        ap (λ o. entries_by o j) (append_assoc ran.entries r.journal journal)
            ∙ (entries_there j k ran.entries (r.journal ++ journal) (λ e. omega (arith, lt, e)) (lines_by words k limit n (mutator_of job) job.lines) ∙ rest.1),
      )

  -- the parts of the mutators are their courses, if what comes after has none of their numbers
  jobs_courses : (k : ℕ) (n : Now) (jobs : List Job) (order : Order) (journal : Journal) → ((j : ℕ) → k ≤ j → (steps_by order j ≡ []) × (entries_by journal j ≡ []))
      → AreCourses words k jobs ((run_jobs words limit k n jobs).order ++ order) ((run_jobs words limit k n jobs).journal ++ journal) (run_jobs words limit k n jobs).ends
  jobs_courses k n [] order journal none = tt
  jobs_courses k n (job ∷ jobs) order journal none =
      let ran : Ran = run_lines words k limit n (mutator_of job) job.lines in
      let r : RanAll = run_jobs words limit (k + 1) ran.now jobs in
      let all : AllBy k ran.entries = lines_by words k limit n (mutator_of job) job.lines in
      let below = jobs_part (k + 1) k ran.now jobs order journal (omega arith) in
      let nil = none k (omega arith) in
      let whole : AreCourses words k (job ∷ jobs) (by_hand k ran.steps ++ (r.order ++ order)) (ran.entries ++ (r.journal ++ journal)) (ran.after ∷ r.ends) = (
        subst (λ s. Course words k (mutator_of job) job.lines s (entries_by (ran.entries ++ (r.journal ++ journal)) k) ran.after)
            (sym (part_here k ran.steps (r.order ++ order) ∙ (ap (λ o. ran.steps ++ o) (below.0 ∙ nil.0) ∙ append-nil ran.steps)))
            (subst (λ s. Course words k (mutator_of job) job.lines ran.steps s ran.after)
            (sym (entries_here k ran.entries (r.journal ++ journal) all ∙ (ap (λ o. ran.entries ++ o) (below.1 ∙ nil.1) ∙ append-nil ran.entries)))
            (run_is_course words k limit n (mutator_of job) job.lines (λ e. absurd (elim_false e)))),
        courses_after words (k + 1) k jobs ran.steps (r.order ++ order) ran.entries (r.journal ++ journal) r.ends (omega arith) all
            (jobs_courses (k + 1) ran.now jobs order journal (λ j le. none j (omega (arith, le)))),
      ) in
      subst (λ o. AreCourses words k (job ∷ jobs) o ((ran.entries ++ r.journal) ++ journal) (ran.after ∷ r.ends)) (sym (append_assoc (by_hand k ran.steps) r.order order))
      (subst (λ o. AreCourses words k (job ∷ jobs) (by_hand k ran.steps ++ (r.order ++ order)) o (ran.after ∷ r.ends)) (sym (append_assoc ran.entries r.journal journal)) whole)

-- entries without loads
loads_after : (xs ys : Journal) → list_all (λ (e : Entry). not (is_loaded e.answer)) xs ≡ true → loads_in (xs ++ ys) ≡ loads_in ys
loads_after [] ys e = refl
loads_after (x ∷ xs) ys e =
    let p = and_parts (not (is_loaded x.answer)) (list_all (λ (y : Entry). not (is_loaded y.answer)) xs) e in
    unloaded x.answer (loads_in (xs ++ ys)) p.0 ∙ loads_after xs ys p.1
  where
    unloaded : (answer : Answer) (steps : List WordStep) → not (is_loaded answer) ≡ true → with_loaded answer steps ≡ steps
    unloaded (Loaded a v) steps f = absurd (elim_false f)
    unloaded _ steps f = refl

all_by_one : (xs : Journal) → list_all (λ (e : Entry). e.by == 1) xs ≡ true → AllBy 1 xs
all_by_one [] e = tt
all_by_one (x ∷ xs) e = let p = and_parts (x.by == 1) (list_all (λ (y : Entry). y.by == 1) xs) e in (eqb-true x.by 1 p.0, all_by_one xs p.1)

-- mutators, one after another, reach what stands after them
jobs_reach : (words limit k : ℕ) (h : History) (n : Now) (jobs : List Job) → n.past ≡ past_of h → Follows words h → are_small (run_jobs words limit k n jobs).journal ≡ true
    → Reaches words h (run_jobs words limit k n jobs).journal (run_jobs words limit k n jobs).now
jobs_reach words limit k h n [] same f small = record { follows = f; past = same }
jobs_reach words limit k h n (job ∷ jobs) same f small =
    let ran : Ran = run_lines words k limit n (mutator_of job) job.lines in
    let rest : RanAll = run_jobs words limit (k + 1) ran.now jobs in
    let p = small_parts ran.entries rest.journal small in
    let first = lines_reach words k limit h n (mutator_of job) job.lines same f p.0 in
    reaches_more words h ran.entries rest.journal rest.now (jobs_reach words limit (k + 1) (with_journal h ran.entries) ran.now jobs first.past first.follows p.1)

-- whether journal and order of mutators and a scanner are those of a round, as far as it isn't plain
abbrev pub checks : ℕ → History → List ℕ → ℕ → ℕ → ℕ → ℕ → Bool → Journal → Order → List Mutator → Journal → Bool
checks words h memory jobs scans gap entries whole mutated order ends scanned =
    follows_all words h && are_small (mutated ++ scanned) && is_legal memory (order ++ by_hand 1 (loads_in scanned))
    && list_all (λ (e : Entry). not (is_loaded e.answer)) mutated && list_all (λ (e : Entry). e.by == 1) scanned
    && is_scanner_course gap (AtTick scans) scanned whole
    && list_all (λ (e : Entry). is_worker jobs e.by) (mutated ++ scanned) && list_all (λ (x : OrderStep). is_worker jobs x.by) (order ++ by_hand 1 (loads_in scanned))
    && nat_le (count_by (λ (e : Entry). not (is_halt e.act)) (mutated ++ scanned)) entries
    && (not (not whole || list_any (λ (m : Mutator). m.full) ends) || nat_le entries (length (mutated ++ scanned)))

module _ (words : ℕ) (h : History) (memory : List ℕ) (jobs : List Job) (scans gap entries fuel : ℕ) where
  abbrev pub ran : RanAll
  ran = run_jobs words entries 2 (record { past = past_of h; memory = memory; used = 0 }) jobs

  abbrev pub scanned : Journal
  scanned = run_scanner words gap entries fuel ran.now (AtTick scans)

  abbrev pub journal : Journal
  journal = ran.journal ++ scanned

  abbrev pub order : Order
  order = ran.order ++ by_hand 1 (loads_in scanned)

  abbrev pub is_serial : Bool → Bool
  is_serial whole = checks words h memory (length jobs) scans gap entries whole ran.journal ran.order ran.ends scanned

  pub serial_is_round : (whole : Bool) → is_serial whole ≡ true
      → IsRound words h memory jobs scans gap entries journal order ran.ends (not whole || list_any (λ (m : Mutator). m.full) ran.ends)
  serial_is_round whole e =
      let c9 = and_parts _ (not (not whole || list_any (λ (m : Mutator). m.full) ran.ends) || nat_le entries (length journal)) e in
      let c8 = and_parts _ (nat_le (count_by (λ (x : Entry). not (is_halt x.act)) journal) entries) c9.0 in
      let c7 = and_parts _ (list_all (λ (x : OrderStep). is_worker (length jobs) x.by) order) c8.0 in
      let c6 = and_parts _ (list_all (λ (x : Entry). is_worker (length jobs) x.by) journal) c7.0 in
      let c5 = and_parts _ (is_scanner_course gap (AtTick scans) scanned whole) c6.0 in
      let c4 = and_parts _ (list_all (λ (x : Entry). x.by == 1) scanned) c5.0 in
      let c3 = and_parts _ (list_all (λ (x : Entry). not (is_loaded x.answer)) ran.journal) c4.0 in
      let c2 = and_parts _ (is_legal memory order) c3.0 in
      let c1 = and_parts (follows_all words h) (are_small journal) c2.0 in
      let small = small_parts ran.journal scanned c1.1 in
      let made = jobs_reach words entries 2 h (record { past = past_of h; memory = memory; used = 0 }) jobs refl (all_follow words h c1.0) small.0 in
      let one : AllBy 1 scanned = all_by_one scanned c4.1 in
      let part = jobs_part words entries 2 1 (record { past = past_of h; memory = memory; used = 0 }) jobs (by_hand 1 (loads_in scanned)) scanned (omega arith) in
      record {
        whole = whole;
        follows = subst (λ g. Follows words g) (sym (joined h ran.journal scanned)) (scanner_follows words gap entries fuel (with_journal h ran.journal) ran.now (AtTick scans) made.past made.follows small.1);
        legal = legal memory order c2.1;
        scanned = loads_after ran.journal scanned c3.1 ∙ sym (part.0 ∙ scanner_all (loads_in scanned));
        scanner = subst (λ x. is_scanner_course gap (AtTick scans) x whole ≡ true) (sym (part.1 ∙ entries_all scanned one)) c5.1;
        mutators = jobs_courses words entries 2 (record { past = past_of h; memory = memory; used = 0 }) jobs (by_hand 1 (loads_in scanned)) scanned
            (λ j le. (scanner_none j (loads_in scanned) (λ f. omega (arith, le, f)), entries_none j scanned (λ f. omega (arith, le, f)) one));
        workers = workers (λ (x : Entry). x.by) (length jobs) journal c6.1;
        hands = workers (λ (x : OrderStep). x.by) (length jobs) order c7.1;
        is_full = refl;
        room = leb-true (count_by (λ (x : Entry). not (is_halt x.act)) journal) entries c8.1;
        cut = λ full. leb-true entries (length journal) (either (not whole || list_any (λ (m : Mutator). m.full) ran.ends) full c9.1);
      }
    where
      either : (q : Bool) → q ≡ true → (not q || nat_le entries (length journal)) ≡ true → nat_le entries (length journal) ≡ true
      either true f g = g
      either false f g = absurd (elim_false f)
