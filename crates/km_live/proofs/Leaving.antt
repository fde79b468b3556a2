-- What the workers of a round leave, once all are taken in, is a round.
use Rattle.std.proofs.Common.{◌≡◌, ◌≢◌, ℕ, zero, suc, ◌+◌, ◌≤◌, ◌<◌, ◌==◌, ◌⊎◌, ◌||◌, Bool, true, false, not, List, [], ◌∷◌, length, Some, None, cond, if◌then◌else◌, refl, sym, ◌∙◌, ap, subst, arith, inl, inr, eq-eqb, eqb-true, count_by, get_or}
use Rattle.std.specs.Prelude.{slice_get}
use Rattle.std.specs.List.{list_any}
use Rattle.std.proofs.lemmas.Bool.{both_ways}
use Rattle.std.proofs.lemmas.List.Sums.{count_by-le-length, sum_by-cons}
use Rattle.std.proofs.lemmas.Option.{slice_get_cases}
use Rattle.km_base.specs.declared.acts.Answer.{Answer}
use Rattle.km_base.specs.declared.acts.Answer.TheVariants.{Loaded}
use Rattle.km_laws.specs.Laws.{may_load}
use Rattle.km_laws.proofs.Answered.{only_loads_load}
use Rattle.km_model.specs.History.{History, value_of}
use Rattle.km_model.specs.Members.{Each}
use Rattle.km_model.specs.Past.{is_loaded}
use Rattle.km_model.specs.Follows.{Follows, past_of}
use Rattle.km_model.proofs.Cases.{elim_false}
use Rattle.km_numbered.specs.Members.{list_of}
use Rattle.km_words.specs.Told.{WordStep}
use Rattle.km_rounds.specs.declared.entry.Entry.{Entry}
use Rattle.km_rounds.specs.Orders.{Order, OrderStep, steps_by}
use Rattle.km_rounds.specs.Journals.{Journal, entries_by, event_of, loads_in, with_journal, with_loaded}
use Rattle.km_live_model.specs.Courses.{AtTick, Course, Mutator, is_halt, is_scanner_course}
use Rattle.km_live_model.specs.Rounds.{AreCourses, IsRound, IsWorker, Job, mutator_of}
use Rattle.km_round_laws.proofs.Journals.{followed}
use Rattle.km_live.specs.Left.{AllTakenIn, HaveLeft, IsScanned, Left, ends_of, is_cut_short, kept_entries, kept_steps, taken_in}
use Rattle.km_live.proofs.Parts.{beside_first, kept_below, kept_first, numbered, of_parts, within}
use Rattle.km_live.proofs.Courses.{IsPlain, plain_course, unhalted}

are_courses : (words limit k : ℕ) (jobs : List Job) (ls : List Left) (order : Order) (journal : Journal) (steps : List (ℕ × List WordStep)) (entries : List (ℕ × Journal)) → HaveLeft words limit k jobs ls
    → ((j : ℕ) → k ≤ j → steps_by order j ≡ list_of j (taken_in (λ l. l.steps) k ls steps))
    → ((j : ℕ) → k ≤ j → entries_by journal j ≡ list_of j (taken_in (λ l. l.entries) k ls entries))
    → AreCourses words k jobs order journal (ends_of ls)
are_courses words limit k [] [] order journal steps entries have s e = tt
are_courses words limit k [] (l ∷ ls) order journal steps entries have s e = absurd have
are_courses words limit k (job ∷ jobs) [] order journal steps entries have s e = absurd have
are_courses words limit k (job ∷ jobs) (l ∷ ls) order journal steps entries have s e =
    let low : k ≤ k = omega arith in (
      subst (λ xs. Course words k (mutator_of job) job.lines xs (entries_by journal k) l.mutator) (sym (s k low ∙ kept_first (λ x. x.steps) k l ls steps))
          (subst (λ es. Course words k (mutator_of job) job.lines l.steps es l.mutator) (sym (e k low ∙ kept_first (λ x. x.entries) k l ls entries)) have.0.course),
      are_courses words limit (k + 1) jobs ls order journal ((k, l.steps) ∷ steps) ((k, l.entries) ∷ entries) have.1 (λ j le. s j (omega (arith, le))) (λ j le. e j (omega (arith, le))),
    )

pub as_many : (words limit k : ℕ) (jobs : List Job) (ls : List Left) → HaveLeft words limit k jobs ls → length ls ≡ length jobs
as_many words limit k [] [] have = refl
as_many words limit k [] (l ∷ ls) have = absurd have
as_many words limit k (job ∷ jobs) [] have = absurd have
as_many words limit k (job ∷ jobs) (l ∷ ls) have = ap suc (as_many words limit (k + 1) jobs ls have.1)

pub each_weaker : {X : Type 0} (P Q : X → Type 0) → ((x : X) → P x → Q x) → (xs : List X) → Each P xs → Each Q xs
each_weaker P Q f [] all = tt
each_weaker P Q f (x ∷ xs) all = (f x all.0, each_weaker P Q f xs all.1)

-- what is kept of mutators is plain
plain_kept : (words limit k : ℕ) (jobs : List Job) (ls : List Left) (kept : List (ℕ × Journal)) (j : ℕ) → HaveLeft words limit k jobs ls → Each (λ (e : Entry). IsPlain e.act) (list_of j kept)
    → Each (λ (e : Entry). IsPlain e.act) (list_of j (taken_in (λ l. l.entries) k ls kept))
plain_kept words limit k [] [] kept j have plain = plain
plain_kept words limit k [] (l ∷ ls) kept j have plain = absurd have
plain_kept words limit k (job ∷ jobs) [] kept j have plain = absurd have
plain_kept words limit k (job ∷ jobs) (l ∷ ls) kept j have plain = plain_kept words limit (k + 1) jobs ls ((k, l.entries) ∷ kept) j have.1 (go (j == k))
  where
    go : (q : Bool) → Each (λ (e : Entry). IsPlain e.act) (if q then l.entries else list_of j kept)
    go true = plain_course words k (mutator_of job) job.lines l.steps l.entries l.mutator have.0.course
    go false = plain

unloaded : (answer : Answer) (steps : List WordStep) → is_loaded answer ≡ false → with_loaded answer steps ≡ steps
unloaded (Loaded a v) steps e = absurd (elim_false (sym e))
unloaded _ steps e = refl

-- the loads of a journal in which nobody else loads are those of number 1
loads_first : (journal : Journal) → Each (λ (e : Entry). e.by ≢ 1 → is_loaded e.answer ≡ false) journal → loads_in journal ≡ loads_in (entries_by journal 1)
loads_first [] f = refl
loads_first (e ∷ journal) f = go (1 == e.by) refl (loads_first journal f.1)
  where
    go : (q : Bool) → (1 == e.by) ≡ q → loads_in journal ≡ loads_in (entries_by journal 1) → with_loaded e.answer (loads_in journal) ≡ loads_in (if q then e ∷ entries_by journal 1 else entries_by journal 1)
    go true is same = ap (with_loaded e.answer) same
    go false is same = unloaded e.answer (loads_in journal) (f.0 (λ one. both_ways (1 == e.by) is (eq-eqb 1 e.by (sym one)))) ∙ same

-- an act that can't load isn't answered by a load
answers_plain : (words : ℕ) (h : History) (journal : Journal) → Follows words (with_journal h journal) → Each (λ (e : Entry). may_load e.act ≡ false → is_loaded e.answer ≡ false) journal
answers_plain words h [] f = tt
answers_plain words h (e ∷ journal) f = (
  (λ may. let now = followed words (event_of e ∷ h) journal f in subst (λ x. is_loaded x ≡ false) (sym now.0) (only_loads_load words (past_of h) e.act (value_of e.answer) may)),
  answers_plain words (event_of e ∷ h) journal f,
)

each_both : {X : Type 0} (P Q R : X → Type 0) → ((x : X) → P x → Q x → R x) → (xs : List X) → Each P xs → Each Q xs → Each R xs
each_both P Q R f [] p q = tt
each_both P Q R f (x ∷ xs) p q = (f x p.0 q.0, each_both P Q R f xs p.1 q.1)

-- the entries of a number have it
by_number : (k : ℕ) (journal : Journal) → Each (λ (e : Entry). e.by ≡ k) (entries_by journal k)
by_number k [] = tt
by_number k (e ∷ journal) = go (by_number k journal) (k == e.by) refl
  where
    go : Each (λ (x : Entry). x.by ≡ k) (entries_by journal k) → (q : Bool) → (k == e.by) ≡ q → Each (λ (x : Entry). x.by ≡ k) (if q then e ∷ entries_by journal k else entries_by journal k)
    go rest true is = (sym (eqb-true k e.by is), rest)
    go rest false is = rest

-- an entry that doesn't count makes the count less than the length
one_less : {X : Type 0} (p : X → Bool) (xs : List X) (n : ℕ) (x : X) → slice_get xs n ≡ Some x → p x ≡ false → count_by p xs + 1 ≤ length xs
one_less p [] n x at uncounted = absurd cc
one_less p (y ∷ ys) zero x at uncounted =
    let same : y ≡ x = cc in
    let head : p y ≡ false = ap p same ∙ uncounted in
    let counted : count_by p (y ∷ ys) ≡ cond (p y) 1 0 + count_by p ys = sum_by-cons (λ z. cond (p z) 1 0) y ys in
    let none : ◌≡◌ {A = ℕ} (cond (p y) 1 0) 0 = ap (λ q. cond q 1 0) head in
    let less = count_by-le-length p ys in
    omega (arith, counted, none, less)
one_less p (y ∷ ys) (suc n) x at uncounted =
    let counted : count_by p (y ∷ ys) ≡ cond (p y) 1 0 + count_by p ys = sum_by-cons (λ z. cond (p z) 1 0) y ys in
    let some = at_most (p y) in
    let less = one_less p ys n x at uncounted in
    omega (arith, counted, some, less)
  where
    at_most : (q : Bool) → cond q 1 0 ≤ 1
    at_most true = omega arith
    at_most false = omega arith

at_or : {X : Type 0} (xs : List X) (n : ℕ) → (length xs ≤ n) ⊎ ((x : X) × (slice_get xs n ≡ Some x))
at_or {X = X} xs n = go (slice_get_cases xs n).1
  where
    go : ((x : X) × (n < length xs) × (slice_get xs n ≡ Some x) × (get_or xs n x ≡ x)) ⊎ ((length xs ≤ n) × (slice_get xs n ≡ None)) → (length xs ≤ n) ⊎ ((x : X) × (slice_get xs n ≡ Some x))
    go (inl here) = inr (here.0, here.2)
    go (inr past) = inl past.0

each_at : {X : Type 0} (P : X → Type 0) (xs : List X) (n : ℕ) (x : X) → slice_get xs n ≡ Some x → Each P xs → P x
each_at P [] n x at all = absurd cc
each_at P (y ∷ ys) zero x at all = let same : y ≡ x = cc in subst P same all.0
each_at P (y ∷ ys) (suc n) x at all = each_at P ys n x at all.1

any_full : (words limit k most : ℕ) (jobs : List Job) (ls : List Left) → HaveLeft words limit k jobs ls → Each (λ (l : Left). l.most ≤ most) ls → list_any (λ (m : Mutator). m.full) (ends_of ls) ≡ true → limit ≤ most
any_full words limit k most [] [] have seen any = absurd (elim_false any)
any_full words limit k most [] (l ∷ ls) have seen any = absurd have
any_full words limit k most (job ∷ jobs) [] have seen any = absurd have
any_full words limit k most (job ∷ jobs) (l ∷ ls) have seen any = go (any_full words limit (k + 1) most jobs ls have.1 seen.1) l.mutator.full refl any
  where
    go : (list_any (λ (m : Mutator). m.full) (ends_of ls) ≡ true → limit ≤ most) → (q : Bool) → l.mutator.full ≡ q → (q || list_any (λ (m : Mutator). m.full) (ends_of ls)) ≡ true → limit ≤ most
    go rest true full e = let low = have.0.full full in let high = seen.0 in omega (arith, low, high)
    go rest false full e = rest e

module _ (words : ℕ) (h : History) (memory : List ℕ) (jobs : List Job) (scans gap limit : ℕ) (journal : Journal) (order : Order) (scanned : Journal) (most : ℕ) (whole : Bool) (ls : List Left)
    (t : AllTakenIn words h memory jobs scans gap limit journal order scanned most whole ls) where
  scanners : entries_by journal 1 ≡ scanned
  scanners = t.entries 1 ∙ kept_below (λ l. l.entries) 2 ls ((1, scanned) ∷ []) 1 (omega arith)

  -- the acts of others are plain
  others : (k : ℕ) → k ≢ 1 → Each (λ (e : Entry). IsPlain e.act) (entries_by journal k)
  others zero apart = subst (Each (λ (e : Entry). IsPlain e.act)) (sym (t.entries 0)) tt
  others (suc k) apart = subst (Each (λ (e : Entry). IsPlain e.act)) (sym (t.entries (suc k) ∙ beside_first (λ l. l.entries) k (kept_entries scanned ls))) (plain_kept words limit 2 jobs ls ((1, scanned) ∷ []) (suc k) t.left (first (suc k == 1) refl))
    where
      first : (q : Bool) → (suc k == 1) ≡ q → Each (λ (e : Entry). IsPlain e.act) (if q then scanned else [])
      first true is = absurd (apart (eqb-true (suc k) 1 is))
      first false is = tt

  -- what holds of the scanner's entries and of plain acts holds of the journal
  all_entries : (P : Entry → Type 0) → Each P (entries_by journal 1) → ((e : Entry) → e.by ≢ 1 → IsPlain e.act → P e) → Each P journal
  all_entries P first plain = of_parts (λ (e : Entry). e.by) P journal (λ k. go k (k == 1) refl)
    where
      go : (k : ℕ) (q : Bool) → (k == 1) ≡ q → Each P (entries_by journal k)
      go k true is = subst (λ n. Each P (entries_by journal n)) (sym (eqb-true k 1 is)) first
      go k false is =
          let apart : k ≢ 1 = λ e. both_ways (k == 1) is (eq-eqb k 1 e) in
          each_both (λ (e : Entry). e.by ≡ k) (λ (e : Entry). IsPlain e.act) P (λ e same p. plain e (λ one. apart (sym same ∙ one)) p) (entries_by journal k) (by_number k journal) (others k apart)

  unloaded_others : Each (λ (e : Entry). e.by ≢ 1 → is_loaded e.answer ≡ false) journal
  unloaded_others =
      each_both (λ (e : Entry). e.by ≢ 1 → may_load e.act ≡ false) (λ (e : Entry). may_load e.act ≡ false → is_loaded e.answer ≡ false) (λ (e : Entry). e.by ≢ 1 → is_loaded e.answer ≡ false) (λ e may load apart. load (may apart)) journal
      (all_entries (λ (e : Entry). e.by ≢ 1 → may_load e.act ≡ false) (each_weaker (λ (e : Entry). e.by ≡ 1) (λ (e : Entry). e.by ≢ 1 → may_load e.act ≡ false) (λ e one apart. absurd (apart one)) (entries_by journal 1) (by_number 1 journal)) (λ e apart plain _. plain.0))
      (answers_plain words h journal t.follows)

  -- nobody else's halt can have the last place, if the scanner made none
  not_ousted : Each (λ (e : Entry). is_halt e.act ≡ false) scanned → most ≡ limit + 1 → ⊥
  not_ousted none high = elim (at_or journal limit) [
    | inl past ↦ (let seen = t.seen.0 in omega (arith, past, seen, high))
    | inr at ↦ both_ways (is_halt (at.0).act)
        (each_at (λ (e : Entry). is_halt e.act ≡ false) journal limit at.0 at.1 (all_entries (λ (e : Entry). is_halt e.act ≡ false) (subst (Each (λ (e : Entry). is_halt e.act ≡ false)) (sym scanners) none) (λ e apart plain. plain.1)))
        (ap is_halt (t.last at.0 at.1))
  ]

  course : (q : Bool) → IsScanned scans gap limit scanned most q → is_scanner_course gap (AtTick scans) scanned q ≡ true
  course true s = s
  course false s = elim s.1 [ inl c ↦ c | inr out ↦ absurd (not_ousted (unhalted gap out.0 (AtTick scans) scanned out.1) out.2) ]

  cut : (q : Bool) → IsScanned scans gap limit scanned most q → is_cut_short q ls ≡ true → limit ≤ length journal
  cut true s e = any_full words limit 2 (length journal) jobs ls t.left t.seen.1 e
  cut false s e = let low = s.0 in let high = t.seen.0 in omega (arith, low, high)

  has_room : count_by (λ (e : Entry). not (is_halt e.act)) journal ≤ limit
  has_room = elim (at_or journal limit) [
    | inl short ↦ (let less = count_by-le-length (λ (e : Entry). not (is_halt e.act)) journal in omega (arith, short, less))
    | inr at ↦ (let less = one_less (λ (e : Entry). not (is_halt e.act)) journal limit at.0 at.1 (ap (λ what. not (is_halt what)) (t.last at.0 at.1)) in let room = t.room in omega (arith, less, room))
  ]

  pub is_round : IsRound words h memory jobs scans gap limit journal order (ends_of ls) (is_cut_short whole ls)
  is_round =
      let many = as_many words limit 2 jobs ls t.left in
      record {
        whole = whole;
        follows = t.follows;
        legal = t.legal;
        scanned = loads_first journal unloaded_others ∙ (ap loads_in scanners ∙ sym (t.steps 1 ∙ kept_below (λ l. l.steps) 2 ls ((1, loads_in scanned) ∷ []) 1 (omega arith)));
        scanner = ap (λ es. is_scanner_course gap (AtTick scans) es whole) scanners ∙ course whole t.scan;
        mutators = are_courses words limit 2 jobs ls order journal ((1, loads_in scanned) ∷ []) ((1, scanned) ∷ []) t.left (λ j le. later_steps j le) (λ j le. later_entries j le);
        workers = within (λ (e : Entry). e.by) (λ (e : Entry). e) (IsWorker (length jobs)) journal (numbered (λ l. l.entries) ls scanned (length jobs) (entries_by journal) many t.entries);
        hands = within (λ (x : OrderStep). x.by) (λ (x : OrderStep). x.step) (IsWorker (length jobs)) order (numbered (λ l. l.steps) ls (loads_in scanned) (length jobs) (steps_by order) many t.steps);
        is_full = refl;
        room = has_room;
        cut = cut whole t.scan;
      }
    where
      later_steps : (j : ℕ) → 2 ≤ j → steps_by order j ≡ list_of j (kept_steps scanned ls)
      later_steps zero le = absurd (omega (arith, le))
      later_steps (suc j) le = t.steps (suc j) ∙ beside_first (λ l. l.steps) j (kept_steps scanned ls)

      later_entries : (j : ℕ) → 2 ≤ j → entries_by journal j ≡ list_of j (kept_entries scanned ls)
      later_entries zero le = absurd (omega (arith, le))
      later_entries (suc j) le = t.entries (suc j) ∙ beside_first (λ l. l.entries) j (kept_entries scanned ls)
