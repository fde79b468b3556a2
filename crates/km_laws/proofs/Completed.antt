use Rattle.std.proofs.Common.{◌≡◌, ℕ, ◌≤◌, ◌<◌, inl, inr, Bool, true, false, List, [], ◌∷◌, length, Option, Some, None, filter, refl, sym, ◌∙◌, ap, subst, eq-eqb, leb-true, if◌then◌else◌}
use Rattle.std.specs.List.{list_all}
use Rattle.km_laws.specs.Placed.{WholeWords}
use Rattle.km_laws.specs.Soundness.{IsValueAt, AreFound, standing_with}
use Rattle.km_laws.proofs.Since.{IsAnswered}
use Rattle.km_laws.proofs.Lists.{In, filter_in, pairs_filter}
use Rattle.km_laws.proofs.Hits.{is_early, early}
use Rattle.km_laws.proofs.Seen.{IsMade, IsSeen, white_not_held}
use Rattle.km_laws.proofs.Completions.{completed_by}
use Rattle.km_laws.proofs.Stand.{ids_found, block_stands, task_lives}
use Rattle.km_laws.proofs.Laws.{names_rise}
use Rattle.km_base.specs.declared.acts.Act.{Act}
use Rattle.km_base.specs.declared.acts.Act.TheVariants.{Step}
use Rattle.km_base.specs.declared.acts.Answer.{Answer}
use Rattle.km_base.specs.declared.acts.Answer.TheVariants.{Loaded, Ended, Refused}
use Rattle.km_base.specs.declared.acts.Refusal.TheVariants.{NoScanRunning}
use Rattle.km_model.specs.History.{Event, History}
use Rattle.km_model.specs.Memory.{base}
use Rattle.km_model.specs.Blocks.{Block, block_of}
use Rattle.km_model.specs.Tasks.{Task}
use Rattle.km_model.specs.Past.{Past, ScanLoad, world, loads, scans, running_scan, since_begin, completes, moments_of, end_of}
use Rattle.km_model.specs.Scan.{next, is_white}
use Rattle.km_model.specs.Verdict.{new_blocks}
use Rattle.km_model.specs.Answers.{answer}
use Rattle.km_model.specs.Changes.{world_after_act}
use Rattle.km_model.specs.Follows.{past_of, moment}
use Rattle.km_model.specs.Held.{IsHeld, stands_at, lives_at}

found_value : (values : List (Option ℕ)) (ls : List ScanLoad) → AreFound values ls → (w u : ℕ) → IsValueAt base values w u → (l : ScanLoad) → In l (early ls) → l.place.word ≡ w → l.value ≡ u
found_value values ls found w u at l i e =
    let there = filter_in is_early ls l i in
    go ls found there.1 (leb-true l.place.phase 2 there.0)
  where
    go : (ks : List ScanLoad) → AreFound values ks → In l ks → l.place.phase ≤ 2 → l.value ≡ u
    go [] f j le = absurd j
    go (k ∷ ks) f (inl same) le =
        subst (λ (x : ScanLoad). x.place.phase ≤ 2 → IsValueAt base values x.place.word u → x.value ≡ u) (sym same) (λ below here. f.0 below u here) le
        (subst (λ a. IsValueAt base values a u) (sym e) at)
    go (k ∷ ks) f (inr j) le = go ks f.1 j le

-- what stands at the moments since the begin of a running scan is seen by its loads
pub seen : (words : ℕ) (h : History) (k : ℕ) (values : List (Option ℕ)) → IsAnswered words h → running_scan (past_of h) ≡ Some k
    → ((b : Block) → In b (world (past_of h)).blocks → WholeWords b.start b.size)
    → ((t : Task) → In t (world (past_of h)).tasks → WholeWords t.stack 4096)
    → AreFound values (loads (past_of h))
    → IsSeen (past_of h) (standing_with values (past_of h ∷ since_begin (past_of h)))
seen words h k values follows run blocks tasks found = record {
  stand = λ b i. let there = filter_in (λ c. list_all (stands_at c) (since_begin (past_of h))) (world (past_of h)).blocks b i in
      block_stands h k b run (ids_found h b there.1) there.0;
  rise = pairs_filter (λ (b c : Block). b.id < c.id) (λ c. list_all (stands_at c) (since_begin (past_of h))) (world (past_of h)).blocks (names_rise h).ids;
  live = λ t i. let there = task_there (world (past_of h)).stacks refl t i in task_lives words h k t follows run there.1 there.0 there.2;
  blocks_whole = λ b i. blocks b (filter_in (λ c. list_all (stands_at c) (since_begin (past_of h))) (world (past_of h)).blocks b i).1;
  stacks_whole = λ t i. tasks t (task_there (world (past_of h)).stacks refl t i).1;
  steady = found_value values (loads (past_of h)) found;
}
  where
    task_there : (q : Bool) → (world (past_of h)).stacks ≡ q → (t : Task)
        → In t (if q then filter (λ u. list_all (lives_at u) (since_begin (past_of h))) (world (past_of h)).tasks else [])
        → ((world (past_of h)).stacks ≡ true) × In t (world (past_of h)).tasks × (list_all (lives_at t) (since_begin (past_of h)) ≡ true)
    task_there true e t i = let there = filter_in (λ u. list_all (lives_at u) (since_begin (past_of h))) (world (past_of h)).tasks t i in (e, there.1, there.0)
    task_there false e t i = absurd i

-- the end of a scan that is completed
end_is : (h : History) (n : ℕ)
    → end_of (scans (past_of h)) (moment (past_of h) Step (Ended (scans (past_of h)) n) ∷ past_of h) ≡ moment (past_of h) Step (Ended (scans (past_of h)) n) ∷ past_of h
end_is h n =
    ap (λ q. elim q as (λ _. Past) [ true ↦ moment (past_of h) Step (Ended (scans (past_of h)) n) ∷ past_of h | false ↦ end_of (scans (past_of h)) (past_of h) ])
    (eq-eqb (scans (past_of h)) (scans (past_of h)) refl)

-- what a step answers where no load is left
pub last_answer : (words : ℕ) (past : Past) (value k : ℕ) → running_scan past ≡ Some k → next past ≡ None
    → answer words past Step value ≡ Ended (scans past) (length (new_blocks past))
unfolding answer
last_answer words past value k run none =
    subst (λ o. (elim o as (λ _. Answer) [
      | None ↦ Refused NoScanRunning
      | Some _ ↦ elim (next past) as (λ _. Answer) [ None ↦ Ended (scans past) (length (new_blocks past)) | Some place ↦ Loaded place.word value ]
    ]) ≡ Ended (scans past) (length (new_blocks past))) (sym run)
    (subst (λ o. (elim o as (λ _. Answer) [ None ↦ Ended (scans past) (length (new_blocks past)) | Some place ↦ Loaded place.word value ]) ≡ Ended (scans past) (length (new_blocks past))) (sym none) refl)

-- what is shown of the end of a completed scan, where this is a step of a running one with no load left, holds
pub at_completion : (words : ℕ) (h : History) (act : Act) (given : Answer) (value : ℕ) (P : Past → Type 0)
    → given ≡ answer words (past_of h) act value → completes given ≡ true
    → ((k n : ℕ) → running_scan (past_of h) ≡ Some k → next (past_of h) ≡ None → P (moment (past_of h) Step (Ended (scans (past_of h)) n) ∷ past_of h))
    → P (end_of (scans (past_of h)) (moment (past_of h) act given ∷ past_of h))
at_completion words h act given value P is done shown =
    let how = completed_by words (past_of h) act value (subst (λ a. completes a ≡ true) is done) in
    let ended : given ≡ Ended (scans (past_of h)) (length (new_blocks (past_of h))) =
    subst (λ (x : Act). given ≡ answer words (past_of h) x value) how.0 is ∙ last_answer words (past_of h) value how.1.0 how.1.1 how.2 in
    subst (λ (x : Act). P (end_of (scans (past_of h)) (moment (past_of h) x given ∷ past_of h))) (sym how.0)
    (subst (λ a. P (end_of (scans (past_of h)) (moment (past_of h) Step a ∷ past_of h))) (sym ended)
    (subst P (sym (end_is h (length (new_blocks (past_of h))))) (shown how.1.0 (length (new_blocks (past_of h))) how.1.1 how.2)))

-- the law, of worlds in order
pub white_by_loads : (words : ℕ) (e : Event) (h : History) (values : List (Option ℕ)) (id : ℕ) (b : Block)
    → IsMade (past_of h)
    → ((c : Block) → In c (world (past_of h)).blocks → WholeWords c.start c.size)
    → ((t : Task) → In t (world (past_of h)).tasks → WholeWords t.stack 4096)
    → IsAnswered words (e ∷ h) → completes e.answer ≡ true
    → AreFound values (loads (past_of h)) → block_of (world (past_of h)).blocks id ≡ Some b → is_white (past_of h) b ≡ true
    → IsHeld (standing_with values (moments_of (scans (past_of h)) (past_of (e ∷ h)))) id → ⊥
unfolding world_after_act
white_by_loads words e h values id b made blocks tasks follows done found at white =
    at_completion words h e.act e.answer follows.0.0 (λ p. IsHeld (standing_with values (since_begin p)) id → ⊥) follows.0.1 done
    (λ k n run none held. white_not_held (past_of h) (standing_with values (past_of h ∷ since_begin (past_of h))) id b made
    (seen words h k values follows.1 run blocks tasks found) none at white held)
