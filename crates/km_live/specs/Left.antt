-- What the workers of a round leave when it ends, and how their parts are kept.
use Rattle.std.specs.Prelude.{◌≡◌, ℕ, ◌+◌, ◌≤◌, ◌⊎◌, Bool, true, false, not, ◌||◌, List, [], ◌∷◌, length, map, slice_get, Some}
use Rattle.std.specs.List.{list_any}
use Rattle.km_base.specs.declared.acts.Act.TheVariants.{Halt}
use Rattle.km_model.specs.History.{History}
use Rattle.km_model.specs.Members.{Each}
use Rattle.km_numbered.specs.Members.{list_of}
use Rattle.km_words.specs.Told.{WordStep}
use Rattle.km_rounds.specs.declared.entry.Entry.{Entry}
use Rattle.km_rounds.specs.Orders.{Order, IsLegal, steps_by}
use Rattle.km_rounds.specs.Journals.{Journal, FollowsOn, entries_by, loads_in}
use Rattle.km_live_model.specs.Courses.{AtStep, AtTick, Course, Mutator, is_scanner_course}
use Rattle.km_live_model.specs.Rounds.{Job, mutator_of}
use Rattle.km_workers.specs.Workers.{Leads}

-- what a mutator leaves: the steps of its hand, the entries of its token, the greatest length of a journal that it saw,
-- and where it stands
pub record Left : Type 0 where
  pub steps : List WordStep
  pub entries : Journal
  pub most : ℕ
  pub mutator : Mutator

-- it has run its course, and has left an act out only where the journal was full
pub record HasLeft (words limit k : ℕ) (job : Job) (l : Left) : Type 0 where
  pub course : Course words k (mutator_of job) job.lines l.steps l.entries l.mutator
  pub full : l.mutator.full ≡ true → limit ≤ l.most

-- mutators whose numbers rise by one have
abbrev pub HaveLeft : ℕ → ℕ → ℕ → List Job → List Left → Type 0
HaveLeft words limit k [] [] = Unit {0}
HaveLeft words limit k [] (l ∷ ls) = ⊥
HaveLeft words limit k (job ∷ jobs) [] = ⊥
HaveLeft words limit k (job ∷ jobs) (l ∷ ls) = HasLeft words limit k job l × HaveLeft words limit (k + 1) jobs ls

-- what is kept of mutators that were taken in one after another, whose numbers rise by one
module _ {A : Type 0} (own : Left → List A) where
  abbrev pub taken_in : ℕ → List Left → List (ℕ × List A) → List (ℕ × List A)
  taken_in k [] kept = kept
  taken_in k (l ∷ ls) kept = taken_in (k + 1) ls ((k, own l) ∷ kept)

-- what the first ones keep of all workers of a round, the scanner's part first
abbrev pub kept_steps : Journal → List Left → List (ℕ × List WordStep)
kept_steps scanned ls = taken_in (λ l. l.steps) 2 ls ((1, loads_in scanned) ∷ [])

abbrev pub kept_entries : Journal → List Left → List (ℕ × Journal)
kept_entries scanned ls = taken_in (λ l. l.entries) 2 ls ((1, scanned) ∷ [])

-- what the scanner made: its course, whole, or cut where the journal was full. If it couldn't even halt its scan, someone
-- else's halt has the last place
abbrev pub IsScanned : ℕ → ℕ → ℕ → Journal → ℕ → Bool → Type 0
IsScanned scans gap limit scanned most true = is_scanner_course gap (AtTick scans) scanned true ≡ true
IsScanned scans gap limit scanned most false =
    (limit ≤ most) × ((is_scanner_course gap (AtTick scans) scanned false ≡ true) ⊎ ((n : ℕ) × Leads gap (AtTick scans) scanned (AtStep n) × (most ≡ limit + 1)))

-- all workers of a round were taken in: the journal and the order have their parts and no others
pub record AllTakenIn (words : ℕ) (h : History) (memory : List ℕ) (jobs : List Job) (scans gap limit : ℕ) (journal : Journal) (order : Order) (scanned : Journal) (most : ℕ) (whole : Bool) (ls : List Left) : Type 0 where
  pub follows : FollowsOn words h journal
  pub room : length journal ≤ limit + 1
  pub last : (e : Entry) → slice_get journal limit ≡ Some e → e.act ≡ Halt
  pub legal : IsLegal memory order
  pub entries : (k : ℕ) → entries_by journal k ≡ list_of k ((0, []) ∷ kept_entries scanned ls)
  pub steps : (k : ℕ) → steps_by order k ≡ list_of k ((0, []) ∷ kept_steps scanned ls)
  pub scan : IsScanned scans gap limit scanned most whole
  pub left : HaveLeft words limit 2 jobs ls
  pub seen : (most ≤ length journal) × Each (λ (l : Left). l.most ≤ length journal) ls

-- where the mutators stand, and whether an act of them or of the scanner was left out
abbrev pub ends_of : List Left → List Mutator
ends_of ls = map (λ (l : Left). l.mutator) ls

abbrev pub is_cut_short : Bool → List Left → Bool
is_cut_short whole ls = not whole || list_any (λ (m : Mutator). m.full) (ends_of ls)
