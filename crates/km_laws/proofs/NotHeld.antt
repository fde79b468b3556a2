use Rattle.std.proofs.Common.{◌≡◌, ℕ, ◌+◌, ◌≤◌, ◌<◌, ◌==◌, Bool, true, false, List, [], ◌∷◌, Option, Some, None, filter, map, refl, sym, ◌∙◌, ap, subst, arith, eqb-true, ne_eqb, if◌then◌else◌}
use Rattle.std.proofs.lemmas.Bool.{and_parts}
use Rattle.km_laws.specs.Soundness.{AreFound, standing_with, WhiteAreNotHeldByLoads, ListedAreNotHeldByLoads}
use Rattle.km_laws.proofs.Since.{IsAnswered, follows_answered, memory_answered}
use Rattle.km_laws.proofs.Lists.{In, filter_in, any_in, in_map}
use Rattle.km_model.proofs.Cases.{elim_false, none_some, some_same}
use Rattle.km_laws.proofs.Seen.{white_not_held}
use Rattle.km_laws.proofs.Completions.{is_stop, stopped_scan}
use Rattle.km_laws.proofs.Stand.{ids_found}
use Rattle.km_laws.proofs.Completed.{seen, at_completion, white_by_loads}
use Rattle.km_laws.proofs.Steady.{steady_found}
use Rattle.km_laws.proofs.Orderly.{made, blocks_whole, stacks_whole}
use Rattle.km_base.specs.declared.acts.Act.TheVariants.{Step}
use Rattle.km_base.specs.declared.acts.Answer.{Answer}
use Rattle.km_base.specs.declared.acts.Answer.TheVariants.{Ended, Stopped}
use Rattle.km_model.specs.History.{Event, History}
use Rattle.km_model.specs.Memory.{memory_after}
use Rattle.km_model.specs.Blocks.{Block, block_of, is_among, can_be_reported}
use Rattle.km_model.specs.Past.{Past, world, loads, begins, ends, completes, running_scan, scans, last_completed, since_begin, end_of, ends_scan, history_of}
use Rattle.km_model.specs.Scan.{is_white}
use Rattle.km_model.specs.Verdict.{is_unreferenced, unreferenced, last_unreferenced, is_listed, listing_ids}
use Rattle.km_model.specs.Changes.{world_after_act}
use Rattle.km_model.specs.Follows.{Follows, FollowsMemory, past_of, moment, run_of, told_value}
use Rattle.km_model.specs.Held.{IsHeld, standing_through, standing_in, steady_words}
use Rattle.km_model.specs.Headline.{WhiteAreNotHeld, ListedAreNotHeld}

pub white_not_held_by_loads : WhiteAreNotHeldByLoads
white_not_held_by_loads words e h values id b follows done found at white =
    let a = follows_answered words (e ∷ h) follows in
    white_by_loads words e h values id b (made words h a.1) (blocks_whole words h a.1) (stacks_whole words h a.1) a done found at white

-- over a told memory
not_held : (words : ℕ) (e : Event) (h : History) (id : ℕ) (b : Block) → FollowsMemory words (e ∷ h) → completes e.answer ≡ true
    → block_of (world (past_of h)).blocks id ≡ Some b → is_white (past_of h) b ≡ true
    → IsHeld (standing_in words (past_of (e ∷ h)) (scans (past_of h))) id → ⊥
unfolding world_after_act
not_held words e h id b follows done at white =
    let a = memory_answered words h follows.1 in
    at_completion words h e.act e.answer (told_value (run_of words h) e.act) (λ p. IsHeld (standing_through words (since_begin p)) id → ⊥) follows.0 done
    (λ k n run none held.
    let p : Past = moment (past_of h) Step (Ended (scans (past_of h)) n) ∷ past_of h in
    white_not_held (past_of h) (standing_through words (p ∷ since_begin (past_of h))) id b (made words h a)
    (seen words h k (steady_words (map (λ (q : Past). memory_after words (history_of q)) (p ∷ since_begin (past_of h)))) a run (blocks_whole words h a) (stacks_whole words h a)
    (steady_found words h p follows.1)) none at white held)

pub white_are_not_held : WhiteAreNotHeld
white_are_not_held words e h id b size follows done at white = not_held words e h id b follows done at white

completes_ends : (a : Answer) → completes a ≡ true → ends a ≡ true
completes_ends (Ended j n) e = refl
completes_ends _ e = absurd (elim_false e)

-- a scan that runs after the last completed one is a later one
later_runs : (h : History) (k : ℕ) → last_completed (past_of h) ≡ Some k → (k ≤ scans (past_of h)) × ((j : ℕ) → running_scan (past_of h) ≡ Some j → k < j)
later_runs [] k e = absurd (none_some k e)
later_runs (x ∷ h) k e = go (later_runs h k) (completes x.answer) refl e
  where
    more : (q : Bool) (n : ℕ) → n ≤ (elim q as (λ _. ℕ) [ true ↦ n + 1 | false ↦ n ])
    more true n = omega arith
    more false n = omega arith

    run : (k ≤ scans (past_of h)) → ((j : ℕ) → running_scan (past_of h) ≡ Some j → k < j) → (j : ℕ) (q r : Bool)
        → (elim q as (λ _. Option ℕ) [ true ↦ None | false ↦ elim r as (λ _. Option ℕ) [ true ↦ Some (scans (past_of h) + 1) | false ↦ running_scan (past_of h) ] ]) ≡ Some j → k < j
    run le rest j true r f = absurd (none_some j f)
    run le rest j false true f = let same : scans (past_of h) + 1 ≡ j = some_same (scans (past_of h) + 1) j f in omega (arith, le, same)
    run le rest j false false f = rest j f

    over : (j : ℕ) (q : Bool) (o : Option ℕ) → q ≡ true → (elim q as (λ _. Option ℕ) [ true ↦ None | false ↦ o ]) ≡ Some j → ⊥
    over j true o f g = none_some j g
    over j false o f g = elim_false f

    go : (last_completed (past_of h) ≡ Some k → (k ≤ scans (past_of h)) × ((j : ℕ) → running_scan (past_of h) ≡ Some j → k < j))
        → (q : Bool) → completes x.answer ≡ q → (if q then Some (scans (past_of h)) else last_completed (past_of h)) ≡ Some k
        → (k ≤ scans (past_of (x ∷ h))) × ((j : ℕ) → running_scan (past_of (x ∷ h)) ≡ Some j → k < j)
    go rest true f g =
        let same : scans (past_of h) ≡ k = some_same (scans (past_of h)) k g in
        let le : scans (past_of h) ≤ scans (past_of (x ∷ h)) = more (begins x.act x.answer) (scans (past_of h)) in
        (omega (arith, same, le), λ j r. absurd (over j (ends x.answer) _ (completes_ends x.answer f) r))
    go rest false f g =
        let before = rest g in
        let le : scans (past_of h) ≤ scans (past_of (x ∷ h)) = more (begins x.act x.answer) (scans (past_of h)) in
        (omega (arith, before.0, le), λ j r. run before.0 before.1 j (ends x.answer) (begins x.act x.answer) r)

-- a later event doesn't end the last completed scan again
not_again : (k : ℕ) (o : Option ℕ) (a : Answer) → completes a ≡ false → ((j : ℕ) → o ≡ Some j → k < j) → (is_stop a ≡ true → (j : ℕ) × (o ≡ Some j) × (a ≡ Stopped j)) → ends_scan k a ≡ false
not_again k o (Ended j n) unended later stop = absurd (elim_false (sym unended))
not_again k o (Stopped j) unended later stop =
    let at = stop refl in
    let lt : k < at.0 = later at.0 at.1 in
    let same : j ≡ at.0 = same_scan j at.0 at.2 in
    ne_eqb j k (λ e. omega (arith, lt, same, e))
  where
    same_scan : (m n : ℕ) → Stopped m ≡ Stopped n → m ≡ n
    same_scan m n e = cc
not_again k o _ unended later stop = refl

-- where the last completed scan was completed
pub record WasCompleted (Rel : History → Type 0) (h : History) (k : ℕ) : Type 0 where
  pub event : Event
  pub before : History
  pub follows : Rel (event ∷ before)
  pub done : completes event.answer ≡ true
  pub number : k ≡ scans (past_of before)
  pub ended : end_of k (past_of h) ≡ end_of k (past_of (event ∷ before))
  pub verdict : last_unreferenced (past_of h) ≡ unreferenced (past_of before)

ended_here : (e : Event) (h : History) → completes e.answer ≡ true → last_unreferenced (past_of (e ∷ h)) ≡ unreferenced (past_of h)
ended_here e h done = ap (λ q. elim q as (λ _. List ℕ) [ true ↦ unreferenced (past_of h) | false ↦ last_unreferenced (past_of h) ]) done

not_here : (e : Event) (h : History) → completes e.answer ≡ false → last_unreferenced (past_of (e ∷ h)) ≡ last_unreferenced (past_of h)
not_here e h unended = ap (λ q. elim q as (λ _. List ℕ) [ true ↦ unreferenced (past_of h) | false ↦ last_unreferenced (past_of h) ]) unended

-- of histories of which something holds that holds of each earlier one, and by which each event has its answer
module _ (words : ℕ) (Rel : History → Type 0) (earlier : (x : Event) (h : History) → Rel (x ∷ h) → Rel h) (has_answers : (h : History) → Rel h → IsAnswered words h) where
  pub completed_at : (h : History) (k : ℕ) → Rel h → last_completed (past_of h) ≡ Some k → WasCompleted Rel h k
  completed_at [] k f e = absurd (none_some k e)
  completed_at (x ∷ h) k f e = go (completed_at h k (earlier x h f)) (completes x.answer) refl e
    where
      stop_is : is_stop x.answer ≡ true → (j : ℕ) × (running_scan (past_of h) ≡ Some j) × (x.answer ≡ Stopped j)
      stop_is s =
          let given = (has_answers (x ∷ h) f).0 in
          let at = stopped_scan words (past_of h) x.act given.0 (subst (λ a. is_stop a ≡ true) given.1 s) in
          (at.0, at.1, given.1 ∙ at.2)

      go : (last_completed (past_of h) ≡ Some k → WasCompleted Rel h k) → (q : Bool) → completes x.answer ≡ q
          → (if q then Some (scans (past_of h)) else last_completed (past_of h)) ≡ Some k → WasCompleted Rel (x ∷ h) k
      go rest true g i = record {
        event = x;
        before = h;
        follows = f;
        done = g;
        number = sym (some_same (scans (past_of h)) k i);
        ended = refl;
        verdict = ended_here x h g;
      }
      go rest false g i =
          let was = rest i in
          let unended : ends_scan k x.answer ≡ false = not_again k (running_scan (past_of h)) x.answer g (later_runs h k i).1 stop_is in
          record {
            event = was.event;
            before = was.before;
            follows = was.follows;
            done = was.done;
            number = was.number;
            ended = ap (λ q. elim q as (λ _. Past) [ true ↦ past_of (x ∷ h) | false ↦ end_of k (past_of h) ]) unended ∙ was.ended;
            verdict = not_here x h g ∙ was.verdict;
          }

among_ids : (p : Block → Bool) (bs : List Block) (id : ℕ) → is_among id (map (λ (b : Block). b.id) (filter p bs)) ≡ true → (b : Block) × In b bs × (b.id ≡ id) × (p b ≡ true)
among_ids p bs id e =
    let found = any_in (λ m. m == id) (map (λ (b : Block). b.id) (filter p bs)) e in
    let b = in_map (λ (b : Block). b.id) (filter p bs) found.0 found.1 in
    let there = filter_in p bs b.0 b.1 in
    (b.0, there.1, sym b.2 ∙ eqb-true found.0 id found.2, there.0)

-- a listed block was white where the last completed scan was completed
record WasWhite (past : Past) (id : ℕ) : Type 0 where
  block : Block
  found : block_of (world past).blocks id ≡ Some block
  white : is_white past block ≡ true

listed_white : (Rel : History → Type 0) (h : History) (k id : ℕ) (was : WasCompleted Rel h k) → is_among id (listing_ids (past_of h)) ≡ true → WasWhite (past_of was.before) id
listed_white Rel h k id was listed =
    let shown = among_ids (is_listed (past_of h)) (world (past_of h)).blocks id listed in
    let among : is_among (shown.0).id (last_unreferenced (past_of h)) ≡ true = (and_parts (is_among (shown.0).id (last_unreferenced (past_of h))) (can_be_reported shown.0) shown.3).0 in
    let among' : is_among id (unreferenced (past_of was.before)) ≡ true =
    subst (λ ids. is_among id ids ≡ true) was.verdict (subst (λ n. is_among n (last_unreferenced (past_of h)) ≡ true) shown.2 among) in
    let b = among_ids (is_unreferenced (past_of was.before)) (world (past_of was.before)).blocks id among' in
    record {
      block = b.0;
      found = subst (λ n. block_of (world (past_of was.before)).blocks n ≡ Some b.0) b.2 (ids_found was.before b.0 b.1);
      white = (and_parts (is_white (past_of was.before) b.0) _ b.3).0;
    }

pub listed_not_held_by_loads : ListedAreNotHeldByLoads
listed_not_held_by_loads words h values k id follows last found listed held =
    let was = completed_at words (Follows words) (λ x g f. f.2) (follows_answered words) h k follows last in
    let there = listed_white (Follows words) h k id was listed in
    let a = follows_answered words (was.event ∷ was.before) was.follows in
    let same : end_of k (past_of h) ≡ end_of (scans (past_of was.before)) (past_of (was.event ∷ was.before)) =
    was.ended ∙ ap (λ n. end_of n (past_of (was.event ∷ was.before))) was.number in
    white_not_held_by_loads words was.event was.before values id there.block was.follows was.done
    (at_completion words was.before (was.event).act (was.event).answer a.0.0 (λ p. AreFound values (loads p) → AreFound values (loads (past_of was.before))) a.0.1 was.done
    (λ j n run none f. f) (subst (λ p. AreFound values (loads p)) same found))
    there.found there.white (subst (λ p. IsHeld (standing_with values (since_begin p)) id) same held)

pub listed_are_not_held : ListedAreNotHeld
listed_are_not_held words h size follows k id last listed held =
    let was = completed_at words (FollowsMemory words) (λ x g f. f.1) (memory_answered words) h k follows last in
    let there = listed_white (FollowsMemory words) h k id was listed in
    let same : end_of k (past_of h) ≡ end_of (scans (past_of was.before)) (past_of (was.event ∷ was.before)) =
    was.ended ∙ ap (λ n. end_of n (past_of (was.event ∷ was.before))) was.number in
    not_held words was.event was.before id there.block was.follows was.done there.found there.white
    (subst (λ p. IsHeld (standing_through words (since_begin p)) id) same held)
