-- The parts of an order and of a journal, where the steps and entries of one worker come first.
use Rattle.std.proofs.Common.{◌≡◌, ℕ, ◌+◌, ◌<◌, ◌==◌, true, false, List, [], ◌∷◌, ◌++◌, map, Option, Some, None, if◌then◌else◌, refl, sym, ◌∙◌, ap, subst, arith, eqb-true, eq-eqb}
use Rattle.std.proofs.lemmas.Bool.{false_from_ne_true}
use Rattle.km_base.specs.declared.acts.Act.{Act}
use Rattle.km_base.specs.declared.acts.Answer.{Answer}
use Rattle.km_model.specs.History.{History}
use Rattle.km_model.specs.Members.{Each}
use Rattle.km_words.specs.Told.{WordStep}
use Rattle.km_rounds.specs.Orders.{Order, steps_by}
use Rattle.km_rounds.specs.Journals.{Journal, event_of, with_journal, entries_by}
use Rattle.km_live_model.specs.Courses.{Mutator, Course, entry_of}
use Rattle.km_live_model.specs.Rounds.{Job, AreCourses, mutator_of}

-- steps of one hand
abbrev pub by_hand : ℕ → List WordStep → Order
by_hand k steps = map (λ (s : WordStep). record { by = k; step = s }) steps

pub joined : (h : History) (first rest : Journal) → with_journal h (first ++ rest) ≡ with_journal (with_journal h first) rest
joined h [] rest = refl
joined h (e ∷ first) rest = joined (event_of e ∷ h) first rest

same_number : (k : ℕ) → (k == k) ≡ true
same_number k = eq-eqb k k refl

other_number : (k j : ℕ) → (k ≡ j → ⊥) → (k == j) ≡ false
other_number k j apart = false_from_ne_true (k == j) (λ e. apart (eqb-true k j e))

-- the part of a hand whose steps come first, and of another
pub part_here : (k : ℕ) (xs : List WordStep) (rest : Order) → steps_by (by_hand k xs ++ rest) k ≡ xs ++ steps_by rest k
part_here k [] rest = refl
part_here k (x ∷ xs) rest =
    ap (λ q. if q then x ∷ steps_by (by_hand k xs ++ rest) k else steps_by (by_hand k xs ++ rest) k) (same_number k) ∙ ap (λ ys. x ∷ ys) (part_here k xs rest)

pub part_there : (k j : ℕ) (xs : List WordStep) (rest : Order) → (k ≡ j → ⊥) → steps_by (by_hand j xs ++ rest) k ≡ steps_by rest k
part_there k j [] rest apart = refl
part_there k j (x ∷ xs) rest apart =
    ap (λ q. if q then x ∷ steps_by (by_hand j xs ++ rest) k else steps_by (by_hand j xs ++ rest) k) (other_number k j apart) ∙ part_there k j xs rest apart

-- entries that are all of one number
abbrev pub AllBy : ℕ → Journal → Type 0
AllBy k [] = Unit {0}
AllBy k (e ∷ journal) = (e.by ≡ k) × AllBy k journal

pub entry_by : (k : ℕ) (o : Option Act) (answer : Option Answer) → AllBy k (entry_of k o answer)
entry_by k None answer = tt
entry_by k (Some what) None = tt
entry_by k (Some what) (Some given) = (refl, tt)

pub all_both : (k : ℕ) (xs ys : Journal) → AllBy k xs → AllBy k ys → AllBy k (xs ++ ys)
all_both k [] ys f g = g
all_both k (x ∷ xs) ys f g = (f.0, all_both k xs ys f.1 g)

pub entries_here : (k : ℕ) (xs rest : Journal) → AllBy k xs → entries_by (xs ++ rest) k ≡ xs ++ entries_by rest k
entries_here k [] rest f = refl
entries_here k (x ∷ xs) rest f =
    ap (λ q. if q then x ∷ entries_by (xs ++ rest) k else entries_by (xs ++ rest) k) (eq-eqb k x.by (sym f.0)) ∙ ap (λ ys. x ∷ ys) (entries_here k xs rest f.1)

pub entries_there : (k j : ℕ) (xs rest : Journal) → (k ≡ j → ⊥) → AllBy j xs → entries_by (xs ++ rest) k ≡ entries_by rest k
entries_there k j [] rest apart f = refl
entries_there k j (x ∷ xs) rest apart f =
    ap (λ q. if q then x ∷ entries_by (xs ++ rest) k else entries_by (xs ++ rest) k) (other_number k x.by (λ e. apart (e ∙ f.0))) ∙ entries_there k j xs rest apart f.1

-- what comes first from another number changes no course
pub courses_after : (words k j : ℕ) (jobs : List Job) (xs : List WordStep) (order : Order) (ys journal : Journal) (ends : List Mutator) → j < k → AllBy j ys
    → AreCourses words k jobs order journal ends → AreCourses words k jobs (by_hand j xs ++ order) (ys ++ journal) ends
courses_after words k j [] xs order ys journal [] lt f c = tt
courses_after words k j [] xs order ys journal (m ∷ ms) lt f c = absurd c
courses_after words k j (job ∷ jobs) xs order ys journal [] lt f c = absurd c
courses_after words k j (job ∷ jobs) xs order ys journal (m ∷ ms) lt f c = (
  subst (λ s. Course words k (mutator_of job) job.lines s (entries_by (ys ++ journal) k) m) (sym (part_there k j xs order (λ e. omega (arith, lt, e))))
      (subst (λ s. Course words k (mutator_of job) job.lines (steps_by order k) s m) (sym (entries_there k j ys journal (λ e. omega (arith, lt, e)) f)) c.0),
  courses_after words (k + 1) j jobs xs order ys journal ms (omega (arith, lt)) f c.1,
)

-- steps and entries of the scanner alone
pub scanner_none : (j : ℕ) (xs : List WordStep) → (j ≡ 1 → ⊥) → steps_by (by_hand 1 xs) j ≡ []
scanner_none j [] apart = refl
scanner_none j (x ∷ xs) apart = ap (λ q. if q then x ∷ steps_by (by_hand 1 xs) j else steps_by (by_hand 1 xs) j) (other_number j 1 apart) ∙ scanner_none j xs apart

pub scanner_all : (xs : List WordStep) → steps_by (by_hand 1 xs) 1 ≡ xs
scanner_all [] = refl
scanner_all (x ∷ xs) = ap (λ ys. x ∷ ys) (scanner_all xs)

pub entries_none : (j : ℕ) (xs : Journal) → (j ≡ 1 → ⊥) → AllBy 1 xs → entries_by xs j ≡ []
entries_none j [] apart f = refl
entries_none j (x ∷ xs) apart f = ap (λ q. if q then x ∷ entries_by xs j else entries_by xs j) (other_number j x.by (λ e. apart (e ∙ f.0))) ∙ entries_none j xs apart f.1

pub entries_all : (xs : Journal) → AllBy 1 xs → entries_by xs 1 ≡ xs
entries_all [] f = refl
entries_all (x ∷ xs) f = ap (λ q. if q then x ∷ entries_by xs 1 else entries_by xs 1) (eq-eqb 1 x.by (sym f.0)) ∙ ap (λ ys. x ∷ ys) (entries_all xs f.1)

-- what holds of the members of two lists
pub each_append : {X : Type 0} (P : X → Type 0) (xs ys : List X) → Each P xs → Each P ys → Each P (xs ++ ys)
each_append P [] ys f g = g
each_append P (x ∷ xs) ys f g = (f.0, each_append P xs ys f.1 g)
