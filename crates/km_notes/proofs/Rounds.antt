-- What a round's acts are: none of them reads the file.
use Rattle.std.proofs.Common.{◌≡◌, ℕ, zero, suc, ◌+◌, ◌≤◌, ◌<◌, ◌==◌, Bool, true, false, List, [], ◌∷◌, length, Option, Some, None, if◌then◌else◌, refl, sym, ap, subst, arith, inl, inr, eq-eqb, eqb-true, ◌∙◌}
use Rattle.std.proofs.lemmas.Bool.{and_parts, both_ways}
use Rattle.km_base.specs.declared.acts.Act.{Act}
use Rattle.km_base.specs.declared.acts.Act.TheVariants as act
use Rattle.km_base.specs.declared.acts.Answer.{Answer}
use Rattle.km_model.specs.History.{History}
use Rattle.km_model.specs.Members.{In}
use Rattle.km_model.proofs.Cases.{elim_false}
use Rattle.km_model.proofs.Lists.{each_in, in_append_cases}
use Rattle.km_words.specs.Told.{WordStep}
use Rattle.km_live_model.specs.declared.jobs.JobLine.{JobLine}
use Rattle.km_live_model.specs.declared.jobs.JobLine.TheVariants.{Kmalloc, Kzalloc, Kfree, NotLeak, Ignore, NoScan, ScanArea}
use Rattle.km_rounds.specs.Orders.{Order, steps_by}
use Rattle.km_rounds.specs.declared.entry.Entry.{Entry}
use Rattle.km_rounds.specs.Journals.{Journal, entries_by}
use Rattle.km_live_model.specs.Courses.{Mutator, Course, Stage, AtTick, AtBegin, AtStep, Halted, act_in, entry_of, is_next_act, is_scanner_course, stage_after}
use Rattle.km_live_model.specs.Rounds.{Job, IsRound, IsWorker, AreCourses}
use Rattle.km_notes.specs.Notes.{ReadsNothing}
use Rattle.km_notes.specs.Rounds.{RoundsReadNothing}

-- whether a worker of a round may make an act
abbrev is_of_round : Act → Bool
is_of_round act.Read = false
is_of_round _ = true

next_act : (gap : ℕ) (stage : Stage) (made : Act) → is_next_act gap stage made ≡ true → is_of_round made ≡ true
next_act gap (AtTick zero) act.Read e = absurd (elim_false e)
next_act gap (AtTick (suc n)) act.Read e = absurd (elim_false e)
next_act gap (AtBegin n) act.Read e = absurd (elim_false e)
next_act gap (AtStep n) act.Read e = absurd (elim_false e)
next_act gap Halted act.Read e = absurd (elim_false e)
next_act gap stage _ e = refl

scanner_acts : (gap : ℕ) (stage : Stage) (journal : Journal) (whole : Bool) → is_scanner_course gap stage journal whole ≡ true → (e : Entry) → In e journal → is_of_round e.act ≡ true
scanner_acts gap stage [] whole c e i = absurd i
scanner_acts gap stage (x ∷ journal) whole c e i =
    let parts = and_parts (is_next_act gap stage x.act) (is_scanner_course gap (stage_after stage x.act x.answer) journal whole) c in
    elim i [
      | inl same ↦ subst (λ (y : Entry). is_of_round y.act ≡ true) (sym same) (next_act gap stage x.act parts.0)
      | inr later ↦ scanner_acts gap (stage_after stage x.act x.answer) journal whole parts.1 e later
    ]

-- the same of an act, if there is one
abbrev of_round : Option Act → Bool
of_round None = true
of_round (Some act) = is_of_round act

line_act : (registers : List ℕ) (line : JobLine) (act : Act) → act_in registers line ≡ Some act → is_of_round act ≡ true
line_act registers line act e = subst (λ o. of_round o ≡ true) e (made line)
  where
    made : (l : JobLine) → of_round (act_in registers l) ≡ true
    made (Kmalloc size _) = refl
    made (Kzalloc size _) = refl
    made (Kfree a) = refl
    made (NotLeak a) = refl
    made (Ignore a) = refl
    made (NoScan a) = refl
    made (ScanArea a size) = refl
    made _ = refl

entry_act : (by : ℕ) (made : Option Act) (answer : Option Answer) (e : Entry) → ((act : Act) → made ≡ Some act → is_of_round act ≡ true) → In e (entry_of by made answer) → is_of_round e.act ≡ true
entry_act by None answer e f i = absurd i
entry_act by (Some act) None e f i = absurd i
entry_act by (Some act) (Some answer) e f (inl same) = subst (λ (y : Entry). is_of_round y.act ≡ true) (sym same) (f act refl)
entry_act by (Some act) (Some answer) e f (inr none) = absurd none

course_acts : (words by : ℕ) (before : Mutator) (lines : List JobLine) (steps : List WordStep) (entries : Journal) (after : Mutator)
    → Course words by before lines steps entries after → (e : Entry) → In e entries → is_of_round e.act ≡ true
course_acts words by before [] steps entries after c e i = absurd (subst (λ x. In e x) c.1 i)
course_acts words by before (line ∷ lines) steps entries after c e i =
    elim (in_append_cases c.2 c.3 e (subst (λ x. In e x) c.8 i)) [
      | inl now ↦ entry_act by (act_in before.registers line) (c.5).answer e (line_act before.registers line) (subst (λ x. In e x) (c.5).made_entries now)
      | inr later ↦ course_acts words by c.4 lines c.1 c.3 after c.6 e later
    ]

-- an entry of a number is among the entries of that number
of_number : (journal : Journal) (e : Entry) → In e journal → In e (entries_by journal e.by)
of_number [] e i = absurd i
of_number (x ∷ journal) e (inl same) =
    subst (λ q. In e (if q then x ∷ entries_by journal e.by else entries_by journal e.by)) (sym (eq-eqb e.by x.by (ap (λ (y : Entry). y.by) same))) (inl same)
of_number (x ∷ journal) e (inr i) = go (of_number journal e i) (e.by == x.by)
  where
    go : In e (entries_by journal e.by) → (q : Bool) → In e (if q then x ∷ entries_by journal e.by else entries_by journal e.by)
    go rest true = inr rest
    go rest false = rest

courses_acts : (words k : ℕ) (jobs : List Job) (order : Order) (journal : Journal) (ends : List Mutator) → AreCourses words k jobs order journal ends
    → (e : Entry) → k ≤ e.by → e.by < k + length jobs → In e (entries_by journal e.by) → is_of_round e.act ≡ true
courses_acts words k [] order journal [] c e low high i = absurd (omega (arith, low, high))
courses_acts words k [] order journal (m ∷ ms) c e low high i = absurd c
courses_acts words k (job ∷ jobs) order journal [] c e low high i = absurd c
courses_acts words k (job ∷ jobs) order journal (m ∷ ms) c e low high i = go (courses_acts words (k + 1) jobs order journal ms c.1 e) (e.by == k) refl
  where
    go : (k + 1 ≤ e.by → e.by < k + 1 + length jobs → In e (entries_by journal e.by) → is_of_round e.act ≡ true) → (q : Bool) → (e.by == k) ≡ q → is_of_round e.act ≡ true
    go rest true same = course_acts words k _ job.lines (steps_by order k) (entries_by journal k) m c.0 e (subst (λ n. In e (entries_by journal n)) (eqb-true e.by k same) i)
    go rest false other =
        let apart : e.by ≡ k → ⊥ = λ f. both_ways (e.by == k) other (eq-eqb e.by k f) in
        rest (omega (arith, low, apart)) (omega (arith, high)) i

round_acts : (words : ℕ) (h : History) (memory : List ℕ) (jobs : List Job) (scans gap entries : ℕ) (journal : Journal) (order : Order) (ends : List Mutator) (full : Bool)
    → IsRound words h memory jobs scans gap entries journal order ends full → (e : Entry) → In e journal → is_of_round e.act ≡ true
round_acts words h memory jobs scans gap entries journal order ends full r e i = go (e.by == 1) refl
  where
    worker : IsWorker (length jobs) e.by
    worker = each_in (λ (x : Entry). IsWorker (length jobs) x.by) journal e r.workers i

    go : (q : Bool) → (e.by == 1) ≡ q → is_of_round e.act ≡ true
    go true same =
        scanner_acts gap (AtTick scans) (entries_by journal 1) r.whole r.scanner e (subst (λ n. In e (entries_by journal n)) (eqb-true e.by 1 same) (of_number journal e i))
    go false other =
        let apart : e.by ≡ 1 → ⊥ = λ f. both_ways (e.by == 1) other (eq-eqb e.by 1 f) in
        let low = worker.0 in let high = worker.1 in
        courses_acts words 2 jobs order journal ends r.mutators e (omega (arith, low, apart)) (omega (arith, high)) (of_number journal e i)

-- so its journal reads nothing
no_read : (made : Act) → is_of_round made ≡ true → ¬ (made ≡ act.Read)
no_read made of_round is = elim_false (sym (ap is_of_round is) ∙ of_round)

all_read_nothing : (journal : Journal) → ((e : Entry) → In e journal → is_of_round e.act ≡ true) → ReadsNothing journal
all_read_nothing [] each = tt
all_read_nothing (e ∷ journal) each = (no_read e.act (each e (inl refl)), all_read_nothing journal (λ x i. each x (inr i)))

pub rounds_read_nothing : RoundsReadNothing
rounds_read_nothing words h memory jobs scans gap entries journal order ends full r =
    all_read_nothing journal (round_acts words h memory jobs scans gap entries journal order ends full r)
