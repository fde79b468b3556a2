-- No act of a round forgets a sum.
use Rattle.std.proofs.Common.{◌≡◌, ℕ, zero, suc, ◌+◌, ◌≤◌, ◌<◌, ◌==◌, Bool, true, false, List, [], ◌∷◌, ◌++◌, length, Option, Some, None, if◌then◌else◌, refl, sym, ap, subst, arith, inl, inr, eq-eqb, eqb-true}
use Rattle.std.proofs.lemmas.Bool.{and_parts, both_ways}
use Rattle.km_base.specs.declared.acts.Act.{Act}
use Rattle.km_base.specs.declared.acts.Act.TheVariants.{TransientLeak}
use Rattle.km_base.specs.declared.acts.Answer.{Answer}
use Rattle.km_model.specs.History.{Event, History}
use Rattle.km_model.specs.Members.{In}
use Rattle.km_model.specs.Blocks.{Block}
use Rattle.km_model.specs.Past.{Past, scans, end_of, moments_between}
use Rattle.km_model.specs.Scan.{forgets_sum}
use Rattle.km_model.specs.Follows.{Follows, past_of}
use Rattle.km_model.proofs.Cases.{elim_false}
use Rattle.km_model.proofs.Lists.{each_in, in_append_cases}
use Rattle.km_words.specs.Told.{WordStep}
use Rattle.km_laws.proofs.Since.{follows_answered}
use Rattle.km_converse.proofs.Suffixes.{scan_moments, end_moment, moment_moments, part_of}
use Rattle.km_converse.proofs.Forgotten.{last_was}
use Rattle.km_live_model.specs.declared.jobs.JobLine.{JobLine}
use Rattle.km_live_model.specs.declared.jobs.JobLine.TheVariants.{Kmalloc, Kzalloc, Kfree, NotLeak, Ignore, NoScan, ScanArea}
use Rattle.km_rounds.specs.Orders.{Order, steps_by}
use Rattle.km_rounds.specs.declared.entry.Entry.{Entry}
use Rattle.km_rounds.specs.Journals.{Journal, with_journal, entries_by}
use Rattle.km_live_model.specs.Courses.{Mutator, Course, Stage, AtTick, AtBegin, AtStep, Halted, act_in, entry_of, is_next_act, is_scanner_course, stage_after}
use Rattle.km_live_model.specs.Rounds.{Job, IsRound, IsWorker, AreCourses}
use Rattle.km_round_laws.specs.RoundLaws.{AreTied, AreRemembered, ForgottenAreListedInRounds, RoundsAreTied}
use Rattle.km_round_laws.proofs.Journals.{news, appended, each_news, in_first, joined, followed}
use Rattle.km_round_laws.proofs.Moments.{GoesOn, earlier, newest, since_scan_scans, end_scans}
use Rattle.km_round_laws.proofs.Forgotten.{forgotten_listed_in_journals}

-- whether an act is a transient leak
abbrev is_leak : Act → Bool
is_leak (TransientLeak _) = true
is_leak _ = false

no_leak_next : (gap : ℕ) (stage : Stage) (act : Act) → is_next_act gap stage act ≡ true → is_leak act ≡ false
no_leak_next gap (AtTick zero) (TransientLeak a) e = absurd (elim_false e)
no_leak_next gap (AtTick (suc n)) (TransientLeak a) e = absurd (elim_false e)
no_leak_next gap (AtBegin n) (TransientLeak a) e = absurd (elim_false e)
no_leak_next gap (AtStep n) (TransientLeak a) e = absurd (elim_false e)
no_leak_next gap Halted (TransientLeak a) e = absurd (elim_false e)
no_leak_next gap stage _ e = refl

scanner_leaks_none : (gap : ℕ) (stage : Stage) (journal : Journal) (whole : Bool) → is_scanner_course gap stage journal whole ≡ true → (e : Entry) → In e journal → is_leak e.act ≡ false
scanner_leaks_none gap stage [] whole c e i = absurd i
scanner_leaks_none gap stage (x ∷ journal) whole c e i =
    let parts = and_parts (is_next_act gap stage x.act) (is_scanner_course gap (stage_after stage x.act x.answer) journal whole) c in
    elim i [
      | inl same ↦ subst (λ (y : Entry). is_leak y.act ≡ false) (sym same) (no_leak_next gap stage x.act parts.0)
      | inr later ↦ scanner_leaks_none gap (stage_after stage x.act x.answer) journal whole parts.1 e later
    ]

-- the same of an act, if there is one
abbrev out : Option Act → Bool
out None = false
out (Some act) = is_leak act

act_leaks_none : (registers : List ℕ) (line : JobLine) (act : Act) → act_in registers line ≡ Some act → is_leak act ≡ false
act_leaks_none registers line act e = subst (λ o. out o ≡ false) e (none_out line)
  where
    none_out : (l : JobLine) → out (act_in registers l) ≡ false
    none_out (Kmalloc size _) = refl
    none_out (Kzalloc size _) = refl
    none_out (Kfree a) = refl
    none_out (NotLeak a) = refl
    none_out (Ignore a) = refl
    none_out (NoScan a) = refl
    none_out (ScanArea a size) = refl
    none_out _ = refl

entry_leaks_none : (by : ℕ) (made : Option Act) (answer : Option Answer) (e : Entry) → ((act : Act) → made ≡ Some act → is_leak act ≡ false) → In e (entry_of by made answer) → is_leak e.act ≡ false
entry_leaks_none by None answer e f i = absurd i
entry_leaks_none by (Some act) None e f i = absurd i
entry_leaks_none by (Some act) (Some answer) e f (inl same) = subst (λ (y : Entry). is_leak y.act ≡ false) (sym same) (f act refl)
entry_leaks_none by (Some act) (Some answer) e f (inr none) = absurd none

course_leaks_none : (words by : ℕ) (before : Mutator) (lines : List JobLine) (steps : List WordStep) (entries : Journal) (after : Mutator)
    → Course words by before lines steps entries after → (e : Entry) → In e entries → is_leak e.act ≡ false
course_leaks_none words by before [] steps entries after c e i = absurd (subst (λ x. In e x) c.1 i)
course_leaks_none words by before (line ∷ lines) steps entries after c e i =
    elim (in_append_cases c.2 c.3 e (subst (λ x. In e x) c.8 i)) [
      | inl now ↦ entry_leaks_none by (act_in before.registers line) (c.5).answer e (act_leaks_none before.registers line) (subst (λ x. In e x) (c.5).made_entries now)
      | inr later ↦ course_leaks_none words by c.4 lines c.1 c.3 after c.6 e later
    ]

-- an entry of a number is among the entries of that number
of_number : (journal : Journal) (e : Entry) → In e journal → In e (entries_by journal e.by)
of_number [] e i = absurd i
of_number (x ∷ journal) e (inl same) =
    subst (λ q. In e (if q then x ∷ entries_by journal e.by else entries_by journal e.by)) (sym (eq-eqb e.by x.by (ap (λ (y : Entry). y.by) same))) (inl same)
of_number (x ∷ journal) e (inr i) = go (of_number journal e i) (e.by == x.by)
  where
    go : In e (entries_by journal e.by) → (q : Bool) → In e (if q then x ∷ entries_by journal e.by else entries_by journal e.by)
    go rest true = inr rest
    go rest false = rest

courses_leak_none : (words k : ℕ) (jobs : List Job) (order : Order) (journal : Journal) (ends : List Mutator) → AreCourses words k jobs order journal ends
    → (e : Entry) → k ≤ e.by → e.by < k + length jobs → In e (entries_by journal e.by) → is_leak e.act ≡ false
courses_leak_none words k [] order journal [] c e low high i = absurd (omega (arith, low, high))
courses_leak_none words k [] order journal (m ∷ ms) c e low high i = absurd c
courses_leak_none words k (job ∷ jobs) order journal [] c e low high i = absurd c
courses_leak_none words k (job ∷ jobs) order journal (m ∷ ms) c e low high i = go (courses_leak_none words (k + 1) jobs order journal ms c.1 e) (e.by == k) refl
  where
    go : (k + 1 ≤ e.by → e.by < k + 1 + length jobs → In e (entries_by journal e.by) → is_leak e.act ≡ false) → (q : Bool) → (e.by == k) ≡ q → is_leak e.act ≡ false
    go rest true same = course_leaks_none words k _ job.lines (steps_by order k) (entries_by journal k) m c.0 e (subst (λ n. In e (entries_by journal n)) (eqb-true e.by k same) i)
    go rest false other =
        let apart : e.by ≡ k → ⊥ = λ f. both_ways (e.by == k) other (eq-eqb e.by k f) in
        rest (omega (arith, low, apart)) (omega (arith, high)) i

round_leaks_none : (words : ℕ) (h : History) (memory : List ℕ) (jobs : List Job) (scans gap entries : ℕ) (journal : Journal) (order : Order) (ends : List Mutator) (full : Bool)
    → IsRound words h memory jobs scans gap entries journal order ends full → (e : Entry) → In e journal → is_leak e.act ≡ false
round_leaks_none words h memory jobs scans gap entries journal order ends full r e i = go (e.by == 1) refl
  where
    worker : IsWorker (length jobs) e.by
    worker = each_in (λ (x : Entry). IsWorker (length jobs) x.by) journal e r.workers i

    go : (q : Bool) → (e.by == 1) ≡ q → is_leak e.act ≡ false
    go true same =
        scanner_leaks_none gap (AtTick scans) (entries_by journal 1) r.whole r.scanner e (subst (λ n. In e (entries_by journal n)) (eqb-true e.by 1 same) (of_number journal e i))
    go false other =
        let apart : e.by ≡ 1 → ⊥ = λ f. both_ways (e.by == 1) other (eq-eqb e.by 1 f) in
        let low = worker.0 in let high = worker.1 in
        courses_leak_none words 2 jobs order journal ends r.mutators e (omega (arith, low, apart)) (omega (arith, high)) (of_number journal e i)

-- an act that is no leak forgets no sum
no_leak_forgets : (b : Block) (act : Act) (answer : Answer) → is_leak act ≡ false → forgets_sum b act answer ≡ false
no_leak_forgets b (TransientLeak a) answer e = absurd (elim_false (sym e))
no_leak_forgets b _ answer e = refl

pub rounds_tied : RoundsAreTied
rounds_tied words h memory jobs scans gap entries journal order ends full r = record { follows = r.follows; legal = r.legal; scanned = r.scanned }

-- what an event of a round doesn't do
abbrev ForgetsNone : Event → Type 0
ForgetsNone e = (b : Block) → forgets_sum b e.act e.answer ≡ false

pub forgotten_listed_in_rounds : ForgottenAreListedInRounds
forgotten_listed_in_rounds words h memory jobs number gap entries first rest order ends full j k ids size r f =
    forgotten_listed_in_journals words h memory first rest order j k ids size tied f remembered
  where
    tied : AreTied words h memory (first ++ rest) order
    tied = rounds_tied words h memory jobs number gap entries (first ++ rest) order ends full r

    follows : Follows words (with_journal h first)
    follows = followed words (with_journal h first) rest (subst (λ x. Follows words x) (joined h first rest) r.follows)

    on : GoesOn words h ForgetsNone (with_journal h first)
    on = (
      follows,
      inl (
        news first,
        appended h first,
        each_news ForgetsNone first (λ e i b. no_leak_forgets b e.act e.answer (round_leaks_none words h memory jobs number gap entries (first ++ rest) order ends full r e (in_first first rest e i))),
      ),
    )

    part_remembered : (x : History) → GoesOn words h ForgetsNone x → scans (past_of h) < scans (past_of x) → AreRemembered ids (past_of x)
    part_remembered [] o later = λ b i m. refl
    part_remembered (e ∷ x) o later = λ b i m. newest words h ForgetsNone e x o later b

    remembered : (p : Past) → In p (moments_between j k (past_of (with_journal h first))) → AreRemembered ids p
    remembered p i =
        let answered = follows_answered words (with_journal h first) follows in
        let was = last_was words (with_journal h first) k answered f.second in
        let at = moment_moments (past_of (with_journal h first)) p (end_of k (past_of (with_journal h first))) (scan_moments j (end_of k (past_of (with_journal h first))) p i) (end_moment k (past_of (with_journal h first))) in
        let q = part_of (GoesOn words h ForgetsNone) (earlier words h ForgetsNone) (with_journal h first) p on at in
        let ended : scans (end_of k (past_of (with_journal h first))) ≡ k = end_scans words (with_journal h first) k answered was in
        let lt = f.ordered in let later = f.later in
        let le : j ≤ scans p = since_scan_scans j (end_of k (past_of (with_journal h first))) p (omega (arith, lt, ended)) i in
        subst (λ x. AreRemembered ids x) (sym q.moment_is) (part_remembered q.part q.holds (subst (λ x. scans (past_of h) < scans x) q.moment_is (omega (arith, later, le))))
