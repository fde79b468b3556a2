-- How far a round moves the moment: only its scanner lets time pass, by a gap before each scan.
use Rattle.std.proofs.Common.{◌≡◌, ℕ, zero, suc, ◌+◌, ◌-◌, ◌*◌, ◌≤◌, ◌<◌, ◌==◌, Bool, true, false, List, [], ◌∷◌, length, Option, Some, None, if◌then◌else◌, refl, sym, ap, subst, arith, inl, inr, eq-eqb, eqb-true}
use Rattle.std.proofs.lemmas.Bool.{and_parts, both_ways}
use Rattle.std.proofs.lemmas.List.Sums.{sum_by-cons}
use Rattle.km_base.specs.declared.acts.Act.{Act}
use Rattle.km_base.specs.declared.acts.Act.TheVariants.{File, Halt, Step, Tick}
use Rattle.km_base.specs.declared.acts.FileCmd.TheVariants as file
use Rattle.km_base.specs.declared.acts.Answer.{Answer}
use Rattle.km_model.specs.History.{History, ticks_of}
use Rattle.km_model.specs.Members.{In}
use Rattle.km_model.specs.Past.{completes}
use Rattle.km_model.proofs.Cases.{elim_false}
use Rattle.km_model.proofs.Lists.{each_in, in_append_cases, in_each}
use Rattle.km_words.specs.Told.{WordStep}
use Rattle.km_rounds.specs.declared.entry.Entry.{Entry}
use Rattle.km_rounds.specs.Journals.{Journal, entries_by, ticks_in}
use Rattle.km_rounds.specs.Orders.{Order, steps_by}
use Rattle.km_live_model.specs.declared.jobs.JobLine.{JobLine}
use Rattle.km_live_model.specs.declared.jobs.JobLine.TheVariants.{Kmalloc, Kzalloc, Kfree, NotLeak, Ignore, NoScan, ScanArea}
use Rattle.km_live_model.specs.Courses.{AtBegin, AtStep, AtTick, Course, Halted, Mutator, Stage, act_in, entry_of, is_next_act, is_scanner_course, stage_after}
use Rattle.km_live_model.specs.Rounds.{AreCourses, IsRound, IsWorker, Job}
use Rattle.km_live_map.specs.Ticks.{OnlyFirstTicks, TicksByFirst}
use Rattle.km_live_workers.proofs.Parts.{ticks_first}

-- whether an act lets time pass
abbrev is_tick : Act → Bool
is_tick (Tick _) = true
is_tick _ = false

-- the same of an act, if there is one
abbrev is_tick_in : Option Act → Bool
is_tick_in None = false
is_tick_in (Some act) = is_tick act

-- no line of a thread does
line_ticks_none : (registers : List ℕ) (line : JobLine) → is_tick_in (act_in registers line) ≡ false
line_ticks_none registers (Kmalloc size _) = refl
line_ticks_none registers (Kzalloc size _) = refl
line_ticks_none registers (Kfree a) = refl
line_ticks_none registers (NotLeak a) = refl
line_ticks_none registers (Ignore a) = refl
line_ticks_none registers (NoScan a) = refl
line_ticks_none registers (ScanArea a size) = refl
line_ticks_none registers _ = refl

entry_ticks_none : (by : ℕ) (made : Option Act) (answer : Option Answer) (e : Entry) → is_tick_in made ≡ false → In e (entry_of by made answer) → is_tick e.act ≡ false
entry_ticks_none by None answer e f i = absurd i
entry_ticks_none by (Some act) None e f i = absurd i
entry_ticks_none by (Some act) (Some answer) e f (inl same) = subst (λ (y : Entry). is_tick y.act ≡ false) (sym same) f
entry_ticks_none by (Some act) (Some answer) e f (inr none) = absurd none

-- so no mutator does
course_ticks_none : (words by : ℕ) (before : Mutator) (lines : List JobLine) (steps : List WordStep) (entries : Journal) (after : Mutator)
    → Course words by before lines steps entries after → (e : Entry) → In e entries → is_tick e.act ≡ false
course_ticks_none words by before [] steps entries after c e i = absurd (subst (λ x. In e x) c.1 i)
course_ticks_none words by before (line ∷ lines) steps entries after c e i =
    elim (in_append_cases c.2 c.3 e (subst (λ x. In e x) c.8 i)) [
      | inl now ↦ entry_ticks_none by (act_in before.registers line) (c.5).answer e (line_ticks_none before.registers line) (subst (λ x. In e x) (c.5).made_entries now)
      | inr later ↦ course_ticks_none words by c.4 lines c.1 c.3 after c.6 e later
    ]

-- an entry of a number is among the entries of that number
of_number : (journal : Journal) (e : Entry) → In e journal → In e (entries_by journal e.by)
of_number [] e i = absurd i
of_number (x ∷ journal) e (inl same) =
    subst (λ q. In e (if q then x ∷ entries_by journal e.by else entries_by journal e.by)) (sym (eq-eqb e.by x.by (ap (λ (y : Entry). y.by) same))) (inl same)
of_number (x ∷ journal) e (inr i) = go (of_number journal e i) (e.by == x.by)
  where
    go : In e (entries_by journal e.by) → (q : Bool) → In e (if q then x ∷ entries_by journal e.by else entries_by journal e.by)
    go rest true = inr rest
    go rest false = rest

courses_tick_none : (words k : ℕ) (jobs : List Job) (order : Order) (journal : Journal) (ends : List Mutator) → AreCourses words k jobs order journal ends
    → (e : Entry) → k ≤ e.by → e.by < k + length jobs → In e (entries_by journal e.by) → is_tick e.act ≡ false
courses_tick_none words k [] order journal [] c e low high i = absurd (omega (arith, low, high))
courses_tick_none words k [] order journal (m ∷ ms) c e low high i = absurd c
courses_tick_none words k (job ∷ jobs) order journal [] c e low high i = absurd c
courses_tick_none words k (job ∷ jobs) order journal (m ∷ ms) c e low high i = go (courses_tick_none words (k + 1) jobs order journal ms c.1 e) (e.by == k) refl
  where
    go : (k + 1 ≤ e.by → e.by < k + 1 + length jobs → In e (entries_by journal e.by) → is_tick e.act ≡ false) → (q : Bool) → (e.by == k) ≡ q → is_tick e.act ≡ false
    go rest true same = course_ticks_none words k _ job.lines (steps_by order k) (entries_by journal k) m c.0 e (subst (λ n. In e (entries_by journal n)) (eqb-true e.by k same) i)
    go rest false other =
        let apart : e.by ≡ k → ⊥ = λ f. both_ways (e.by == k) other (eq-eqb e.by k f) in
        rest (omega (arith, low, apart)) (omega (arith, high)) i

tick_is : (act : Act) (n : ℕ) → act ≡ Tick n → is_tick act ≡ true
tick_is act n e = ap is_tick e

-- the gaps that are left from a stage on
abbrev gaps_left : ℕ → Stage → ℕ
gaps_left gap (AtTick n) = n * gap
gaps_left gap (AtBegin n) = (n - 1) * gap
gaps_left gap (AtStep n) = (n - 1) * gap
gaps_left gap Halted = 0

one_less : (n : ℕ) → suc n - 1 ≡ n
one_less n = omega arith

one_more : (n gap : ℕ) → suc n * gap ≡ n * gap + gap
one_more n gap = grind arith

-- an act of the scanner takes of them by how much it moves the moment
act_takes : (gap : ℕ) (stage : Stage) (act : Act) (answer : Answer) → is_next_act gap stage act ≡ true → ticks_of act + gaps_left gap (stage_after stage act answer) ≤ gaps_left gap stage
act_takes gap (AtTick (suc n)) (Tick k) answer e =
    let same : k ≡ gap = eqb-true k gap e in
    let less : (suc n - 1) * gap ≡ n * gap = ap (λ m. m * gap) (one_less n) in
    let more = one_more n gap in
    omega (arith, same, less, more)
act_takes gap (AtTick (suc n)) _ answer e = absurd (elim_false e)
act_takes gap (AtTick zero) _ answer e = absurd (elim_false e)
act_takes gap (AtBegin n) (File file.Scan) answer e = omega arith
act_takes gap (AtBegin n) (File _) answer e = absurd (elim_false e)
act_takes gap (AtBegin n) _ answer e = absurd (elim_false e)
act_takes gap (AtStep n) Halt answer e = omega arith
act_takes gap (AtStep n) Step answer e = go (completes answer)
  where
    go : (q : Bool) → 0 + gaps_left gap (if q then AtTick (n - 1) else AtStep n) ≤ (n - 1) * gap
    go true = omega arith
    go false = omega arith
act_takes gap (AtStep n) _ answer e = absurd (elim_false e)
act_takes gap Halted _ answer e = absurd (elim_false e)

scanner_ticks : (gap : ℕ) (stage : Stage) (journal : Journal) (whole : Bool) → is_scanner_course gap stage journal whole ≡ true → ticks_in journal ≤ gaps_left gap stage
scanner_ticks gap stage [] whole c = omega arith
scanner_ticks gap stage (e ∷ journal) whole c =
    let parts = and_parts (is_next_act gap stage e.act) (is_scanner_course gap (stage_after stage e.act e.answer) journal whole) c in
    let now = act_takes gap stage e.act e.answer parts.0 in
    let rest = scanner_ticks gap (stage_after stage e.act e.answer) journal whole parts.1 in
    let both = sum_by-cons (λ (x : Entry). ticks_of x.act) e journal in
    omega (arith, now, rest, both)

module _ (words : ℕ) (h : History) (memory : List ℕ) (jobs : List Job) (scans gap entries : ℕ) (journal : Journal) (order : Order) (ends : List Mutator) (full : Bool)
    (r : IsRound words h memory jobs scans gap entries journal order ends full) where
  -- in a round only the scanner lets time pass
  only_first : OnlyFirstTicks journal
  only_first = in_each TicksByFirst journal (λ e i n is. go e i n is (e.by == 1) refl)
    where
      go : (e : Entry) → In e journal → (n : ℕ) → e.act ≡ Tick n → (q : Bool) → (e.by == 1) ≡ q → e.by ≡ 1
      go e i n is true same = eqb-true e.by 1 same
      go e i n is false other =
          let worker : IsWorker (length jobs) e.by = each_in (λ (x : Entry). IsWorker (length jobs) x.by) journal e r.workers i in
          let apart : e.by ≡ 1 → ⊥ = λ f. both_ways (e.by == 1) other (eq-eqb e.by 1 f) in
          let low = worker.0 in let high = worker.1 in
          absurd (both_ways (is_tick e.act) (courses_tick_none words 2 jobs order journal ends r.mutators e (omega (arith, low, apart)) (omega (arith, high)) (of_number journal e i)) (tick_is e.act n is))

  -- and at most by its gaps
  pub round_ticks : ticks_in journal ≤ scans * gap
  round_ticks =
      let scanned = scanner_ticks gap (AtTick scans) (entries_by journal 1) r.whole r.scanner in
      let same = ticks_first journal only_first in
      omega (arith, scanned, same)
