use Rattle.std.proofs.Common.{◌≡◌, ℕ, ◌+◌, ◌≤◌, ◌<◌, ◌==◌, inl, inr, Bool, true, false, ◌&&◌, not, List, [], ◌∷◌, Option, Some, None, find, refl, sym, ◌∙◌, ap, subst, arith, eqb-true, eq-eqb, ne_eqb, MatchBool}
use Rattle.std.specs.List.{list_any, list_all}
use Rattle.std.proofs.lemmas.Bool.{and_parts, not-true}
use Rattle.km_laws.proofs.Since.{IsAnswered, StandsSince, LivesSince}
use Rattle.km_laws.proofs.Lists.{In, each_in, find_in, any_in}
use Rattle.km_model.proofs.Cases.{elim_false, none_some, some_same}
use Rattle.km_laws.proofs.Next.{TasksRise}
use Rattle.km_laws.proofs.Certificates.{id_found}
use Rattle.km_laws.proofs.Kept.{is_stack_word, IsSameBlock, Kept, event_kept, stacks_kept}
use Rattle.km_model.proofs.Worlds.{Of}
use Rattle.km_laws.proofs.Laws.{names_rise}
use Rattle.km_laws.proofs.Completions.{no_stack_word}
use Rattle.km_model.specs.History.{Event, History}
use Rattle.km_model.specs.Memory.{words_from}
use Rattle.km_model.specs.Blocks.{Block, Minimum, Black, AtLeast, Area, block_of}
use Rattle.km_model.specs.Tasks.{Task, stack_words}
use Rattle.km_model.specs.Past.{Past, Moment, world, begins, ends, running_scan, scans, since_begin, is_refused}
use Rattle.km_model.specs.Scan.{stack_of}
use Rattle.km_model.specs.Verdict.{listing_ids}
use Rattle.km_model.specs.Follows.{past_of, moment}
use Rattle.km_model.specs.Held.{same_minimum, same_areas, same_option, same_bool, same_settings, stands_at}

minimum_is : (m n : Minimum) → same_minimum m n ≡ true → m ≡ n
minimum_is Black Black e = refl
minimum_is Black (AtLeast n) e = absurd (elim_false e)
minimum_is (AtLeast m) Black e = absurd (elim_false e)
minimum_is (AtLeast m) (AtLeast n) e = ap AtLeast (eqb-true m n e)

areas_are : (xs ys : List Area) → same_areas xs ys ≡ true → xs ≡ ys
areas_are [] [] e = refl
areas_are [] (y ∷ ys) e = absurd (elim_false e)
areas_are (x ∷ xs) [] e = absurd (elim_false e)
areas_are (x ∷ xs) (y ∷ ys) e =
    let parts = and_parts (x.start == y.start && x.size == y.size) (same_areas xs ys) e in
    let both = and_parts (x.start == y.start) (x.size == y.size) parts.0 in
    let head : x ≡ y = λ i. record { start = eqb-true x.start y.start both.0 i; size = eqb-true x.size y.size both.1 i } in
    let tail : xs ≡ ys = areas_are xs ys parts.1 in
    λ i. head i ∷ tail i

option_is_same : (x y : Option ℕ) → same_option x y ≡ true → x ≡ y
option_is_same None None e = refl
option_is_same None (Some n) e = absurd (elim_false e)
option_is_same (Some m) None e = absurd (elim_false e)
option_is_same (Some m) (Some n) e = ap Some (eqb-true m n e)

bool_is : (x y : Bool) → same_bool x y ≡ true → x ≡ y
bool_is true y e = sym e
bool_is false y e = sym (not-true y e)

-- one registration with the same settings is the same
block_same : (b c : Block) → IsSameBlock b c → same_settings c b ≡ true → b ≡ c
block_same b c same e =
    let first = and_parts (same_minimum c.minimum b.minimum && same_bool c.no_scan b.no_scan && same_areas c.areas b.areas) (same_option c.excess b.excess) e in
    let second = and_parts (same_minimum c.minimum b.minimum && same_bool c.no_scan b.no_scan) (same_areas c.areas b.areas) first.0 in
    let third = and_parts (same_minimum c.minimum b.minimum) (same_bool c.no_scan b.no_scan) second.0 in
    let m : b.minimum ≡ c.minimum = sym (minimum_is c.minimum b.minimum third.0) in
    let n : b.no_scan ≡ c.no_scan = sym (bool_is c.no_scan b.no_scan third.1) in
    let a : b.areas ≡ c.areas = sym (areas_are c.areas b.areas second.1) in
    let x : b.excess ≡ c.excess = sym (option_is_same c.excess b.excess first.1) in
    λ i. record { id = same.0 i; start = same.1 i; size = same.2 i; born = same.3 i; minimum = m i; no_scan = n i; areas = a i; excess = x i }

pub ids_found : (h : History) (b : Block) → In b (world (past_of h)).blocks → block_of (world (past_of h)).blocks b.id ≡ Some b
ids_found h b i = id_found (world (past_of h)).blocks b (names_rise h).ids i

-- the newest of the moments since the begin is the present one
head_passes : (f : Past → Bool) (m : Moment) (past : Past) → list_all f (since_begin (m ∷ past)) ≡ true → f (m ∷ past) ≡ true
head_passes f m past e = go (begins m.act m.answer) e
  where
    go : (q : Bool) → list_all f (elim q as (λ _. List Past) [ true ↦ (m ∷ past) ∷ [] | false ↦ (m ∷ past) ∷ since_begin past ]) ≡ true → f (m ∷ past) ≡ true
    go true g = (and_parts (f (m ∷ past)) true g).0
    go false g = (and_parts (f (m ∷ past)) (list_all f (since_begin past)) g).0

present_passes : (f : Past → Bool) (h : History) (k : ℕ) → running_scan (past_of h) ≡ Some k → list_all f (since_begin (past_of h)) ≡ true → f (past_of h) ≡ true
present_passes f [] k e g = absurd (none_some k e)
present_passes f (x ∷ h) k e g = head_passes f (moment (past_of h) x.act x.answer) (past_of h) g

running_before : (q r : Bool) (n k : ℕ) (o : Option ℕ) → (elim q as (λ _. Option ℕ) [ true ↦ None | false ↦ elim r as (λ _. Option ℕ) [ true ↦ Some n | false ↦ o ] ]) ≡ Some k → r ≡ false → o ≡ Some k
running_before true r n k o e f = absurd (none_some k e)
running_before false true n k o e f = absurd (elim_false (sym f))
running_before false false n k o e f = e

all_tail : (f : Past → Bool) (p : Past) (ps : List Past) (q : Bool) → q ≡ false → list_all f (elim q as (λ _. List Past) [ true ↦ p ∷ [] | false ↦ p ∷ ps ]) ≡ true → list_all f ps ≡ true
all_tail f p ps true e g = absurd (elim_false (sym e))
all_tail f p ps false e g = (and_parts (f p) (list_all f ps) g).1

-- a block that stood a moment before with the same settings is the same
earlier_block : (h : History) (e : Event) (b : Block) → block_of (world (past_of (e ∷ h))).blocks b.id ≡ Some b → stands_at b (past_of h) ≡ true
    → block_of (world (past_of h)).blocks b.id ≡ Some b
earlier_block h e b found there = go (block_of (world (past_of h)).blocks b.id) refl there
  where
    kept : Of (Kept (world (past_of h))) (world (past_of (e ∷ h)))
    kept = event_kept (world (past_of h)) (listing_ids (past_of h)) e.act e.answer

    go : (o : Option Block) → block_of (world (past_of h)).blocks b.id ≡ o → (elim o as (λ _. Bool) [ None ↦ false | Some c ↦ same_settings b c ]) ≡ true
        → block_of (world (past_of h)).blocks b.id ≡ Some b
    go None f g = absurd (elim_false g)
    go (Some c) f g =
        let at = find_in (λ (x : Block). x.id == b.id) (world (past_of h)).blocks c f in
        let id_is : c.id ≡ b.id = eqb-true c.id b.id at.0 in
        let low : c.id < (world (past_of h)).registered = each_in (λ (x : Block). x.id < (world (past_of h)).registered) (world (past_of h)).blocks c (names_rise h).registered at.1 in
        elim (kept.blocks b (find_in (λ (x : Block). x.id == b.id) (world (past_of (e ∷ h))).blocks b found).1) [
          | inl d ↦
              let d_is : d.0 ≡ c = some_same d.0 c (sym (ids_found h d.0 d.1) ∙ (ap (block_of (world (past_of h)).blocks) (d.2.0) ∙ f)) in
              let same : c ≡ b = block_same c b (subst (λ x. IsSameBlock x b) d_is d.2) g in
              f ∙ ap Some same
          | inr fresh ↦ absurd (omega (arith, fresh, low, id_is))
        ]

-- a block that stands, by its settings, at each moment since the begin
pub block_stands : (h : History) (k : ℕ) (b : Block) → running_scan (past_of h) ≡ Some k
    → block_of (world (past_of h)).blocks b.id ≡ Some b → list_all (stands_at b) (since_begin (past_of h)) ≡ true → StandsSince (past_of h) b
block_stands [] k b run found all = absurd (none_some k run)
block_stands (e ∷ h) k b run found all = (found, go (block_stands h k b) (begins e.act e.answer) refl)
  where
    go : (running_scan (past_of h) ≡ Some k → block_of (world (past_of h)).blocks b.id ≡ Some b → list_all (stands_at b) (since_begin (past_of h)) ≡ true → StandsSince (past_of h) b)
        → (q : Bool) → begins e.act e.answer ≡ q → MatchBool q (Unit {0}) (StandsSince (past_of h) b)
    go rest true _ = tt
    go rest false f =
        let run' : running_scan (past_of h) ≡ Some k = running_before (ends e.answer) (begins e.act e.answer) (scans (past_of h) + 1) k (running_scan (past_of h)) run f in
        let all' : list_all (stands_at b) (since_begin (past_of h)) ≡ true = all_tail (stands_at b) (past_of (e ∷ h)) (since_begin (past_of h)) (begins e.act e.answer) f all in
        rest run' (earlier_block h e b found (present_passes (stands_at b) h k run' all')) all'

find_task : (ts : List Task) (t : Task) → TasksRise ts → In t ts → find (λ (u : Task). u.number == t.number) ts ≡ Some t
find_task [] t r i = absurd i
find_task (u ∷ ts) t r (inl e) = rw (eq-eqb u.number t.number (ap (λ (x : Task). x.number) (sym e))) (ap Some (sym e))
find_task (u ∷ ts) t r (inr i) =
    rw (ne_eqb u.number t.number (λ e. let lt = each_in (λ (x : Task). u.number < x.number) ts t r.0 i in omega (arith, lt, e))) (find_task ts t r.1 i)

stack_found : (h : History) (t : Task) → In t (world (past_of h)).tasks → stack_of (world (past_of h)).tasks t.number ≡ words_from 512 t.stack
stack_found h t i =
    ap (λ o. elim o as (λ _. List ℕ) [ None ↦ [] | Some u ↦ stack_words u ]) (find_task (world (past_of h)).tasks t (names_rise h).numbers i)

abbrev has_number : ℕ → Past → Bool
has_number n p = list_any (λ (u : Task). u.number == n) (world p).tasks

-- a task that lives, by its number, at each moment since the begin
pub task_lives : (words : ℕ) (h : History) (k : ℕ) (t : Task) → IsAnswered words h → running_scan (past_of h) ≡ Some k
    → In t (world (past_of h)).tasks → (world (past_of h)).stacks ≡ true → list_all (has_number t.number) (since_begin (past_of h)) ≡ true
    → LivesSince (past_of h) t.number t.stack
task_lives words [] k t follows run i on all = absurd (none_some k run)
task_lives words (e ∷ h) k t follows run i on all = ((stack_found (e ∷ h) t i, on), go (task_lives words h k) (begins e.act e.answer) refl)
  where
    go : ((u : Task) → IsAnswered words h → running_scan (past_of h) ≡ Some k → In u (world (past_of h)).tasks → (world (past_of h)).stacks ≡ true
        → list_all (has_number u.number) (since_begin (past_of h)) ≡ true → LivesSince (past_of h) u.number u.stack)
        → (q : Bool) → begins e.act e.answer ≡ q → MatchBool q (Unit {0}) (LivesSince (past_of h) t.number t.stack)
    go rest true _ = tt
    go rest false f =
        let run' : running_scan (past_of h) ≡ Some k = running_before (ends e.answer) (begins e.act e.answer) (scans (past_of h) + 1) k (running_scan (past_of h)) run f in
        let all' : list_all (has_number t.number) (since_begin (past_of h)) ≡ true = all_tail (has_number t.number) (past_of (e ∷ h)) (since_begin (past_of h)) (begins e.act e.answer) f all in
        let there = any_in (λ (u : Task). u.number == t.number) (world (past_of h)).tasks (present_passes (has_number t.number) h k run' all') in
        let number : (there.0).number ≡ t.number = eqb-true (there.0).number t.number there.2 in
        let low : (there.0).number ≤ (world (past_of h)).started = each_in (λ (x : Task). x.number ≤ (world (past_of h)).started) (world (past_of h)).tasks there.0 (names_rise h).started there.1 in
        let quiet : is_stack_word e.act && not (is_refused e.answer) ≡ false =
        subst (λ a. is_stack_word e.act && not (is_refused a) ≡ false) (sym follows.0.1) (no_stack_word words (past_of h) e.act follows.0.0 k run') in
        let on' : (world (past_of h)).stacks ≡ true = sym (stacks_kept (world (past_of h)) (listing_ids (past_of h)) e.act e.answer quiet) ∙ on in
        elim ((event_kept (world (past_of h)) (listing_ids (past_of h)) e.act e.answer).tasks t i) [
          | inl u ↦
              subst (λ n. LivesSince (past_of h) n t.stack) u.2.0
              (subst (λ a. LivesSince (past_of h) (u.0).number a) u.2.1
              (rest u.0 follows.1 run' u.1 on' (subst (λ n. list_all (has_number n) (since_begin (past_of h)) ≡ true) (sym u.2.0) all')))
          | inr fresh ↦ absurd (omega (arith, fresh, low, number))
        ]
