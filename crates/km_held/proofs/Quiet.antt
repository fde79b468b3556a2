-- What stands while a scan runs and nothing else happens.
use Rattle.std.proofs.Common.{◌≡◌, ℕ, zero, suc, ◌+◌, ◌==◌, inl, inr, Bool, true, false, ◌&&◌, List, [], ◌∷◌, length, Option, Some, None, filter, map, refl, sym, ◌∙◌, ap, subst, eq-eqb, is_none, if◌then◌else◌, MatchBool}
use Rattle.std.specs.List.{list_any, list_all}
use Rattle.std.proofs.lemmas.Bool.{and_from}
use Rattle.km_model.proofs.Cases.{elim_false}
use Rattle.km_laws.proofs.Lists.{In, in_map}
use Rattle.km_laws.proofs.Stand.{ids_found}
use Rattle.km_laws.proofs.Steady.{history_same}
use Rattle.km_laws.proofs.NotHeld.{listed_are_not_held}
use Rattle.km_base.specs.declared.acts.Act.TheVariants.{File, Step}
use Rattle.km_base.specs.declared.acts.FileCmd.TheVariants.{Scan}
use Rattle.km_base.specs.declared.acts.Answer.{Answer}
use Rattle.km_base.specs.declared.acts.Answer.TheVariants.{Done, Loaded, Ended, Refused}
use Rattle.km_base.specs.declared.acts.Refusal.TheVariants.{NoScanRunning}
use Rattle.km_model.specs.History.{History}
use Rattle.km_model.specs.Memory.{memory_after}
use Rattle.km_model.specs.Blocks.{Block, Minimum, Black, AtLeast, Area, block_of}
use Rattle.km_model.specs.Tasks.{Task}
use Rattle.km_model.specs.World.{World}
use Rattle.km_model.specs.Past.{Past, world, is_done, is_refused, is_loaded, running_scan, scans, since_begin, end_of, last_completed, history_of}
use Rattle.km_model.specs.Scan.{next}
use Rattle.km_model.specs.Verdict.{listing_ids, new_blocks}
use Rattle.km_model.specs.Changes.{world_after_act, world_after_event}
use Rattle.km_model.specs.Answers.{answer}
use Rattle.km_model.specs.Follows.{FollowsMemory, Run, happens, past_of, run_of, told_answer, told_value}
use Rattle.km_model.specs.Expansion.{ScansIfBegun, Finishes, steps, is_idle}
use Rattle.km_model.specs.Held.{IsHeld, same_minimum, same_bool, same_areas, same_option, same_settings, stands_at, lives_at, still_steady, steady_from, steady_words, standing_through, standing_in}
use Rattle.km_certificates.specs.Certificates.{standing_after}
use Rattle.km_held.specs.Laws.{HeldThroughTheScan}
use Rattle.km_held.proofs.Grown.{any_from}

-- a setting is the same as itself
minimum_same : (m : Minimum) → same_minimum m m ≡ true
minimum_same Black = refl
minimum_same (AtLeast n) = eq-eqb n n refl

bool_same : (b : Bool) → same_bool b b ≡ true
bool_same true = refl
bool_same false = refl

areas_same : (xs : List Area) → same_areas xs xs ≡ true
areas_same [] = refl
areas_same (x ∷ xs) =
    and_from (x.start == x.start && x.size == x.size) (same_areas xs xs)
    (and_from (x.start == x.start) (x.size == x.size) (eq-eqb x.start x.start refl) (eq-eqb x.size x.size refl)) (areas_same xs)

option_same : (o : Option ℕ) → same_option o o ≡ true
option_same None = refl
option_same (Some n) = eq-eqb n n refl

settings_same : (b : Block) → same_settings b b ≡ true
settings_same b =
    and_from (same_minimum b.minimum b.minimum && same_bool b.no_scan b.no_scan && same_areas b.areas b.areas) (same_option b.excess b.excess)
    (and_from (same_minimum b.minimum b.minimum && same_bool b.no_scan b.no_scan) (same_areas b.areas b.areas)
    (and_from (same_minimum b.minimum b.minimum) (same_bool b.no_scan b.no_scan) (minimum_same b.minimum) (bool_same b.no_scan)) (areas_same b.areas))
    (option_same b.excess)

all_pass : {X : Type 0} (p : X → Bool) (xs : List X) → ((x : X) → In x xs → p x ≡ true) → list_all p xs ≡ true
all_pass p [] each = refl
all_pass p (x ∷ xs) each = and_from (p x) (list_all p xs) (each x (inl refl)) (all_pass p xs (λ y i. each y (inr i)))

all_stay : {X : Type 0} (p : X → Bool) (xs : List X) → ((x : X) → In x xs → p x ≡ true) → filter p xs ≡ xs
all_stay p [] each = refl
all_stay p (x ∷ xs) each = rw (each x (inl refl)) (ap (λ ys. x ∷ ys) (all_stay p xs (λ y i. each y (inr i))))

still_same : (m : List ℕ) → still_steady (map Some m) m ≡ map Some m
still_same [] = refl
still_same (w ∷ m) = rw (eq-eqb w w refl) (ap (λ ws. Some w ∷ ws) (still_same m))

-- words that are the same in each memory are steady
steady_same : (m : List ℕ) (memories : List (List ℕ)) → ((x : List ℕ) → In x memories → x ≡ m) → steady_from (map Some m) memories ≡ map Some m
steady_same m [] each = refl
steady_same m (x ∷ memories) each =
    subst (λ y. steady_from (still_steady (map Some m) y) memories ≡ map Some m) (sym (each x (inl refl)))
    (subst (λ os. steady_from os memories ≡ map Some m) (sym (still_same m)) (steady_same m memories (λ y i. each y (inr i))))

-- a moment at which the same stands, over the same memory
pub record IsSame (words : ℕ) (h : History) (p : Past) : Type 0 where
  pub world : world p ≡ world (past_of h)
  pub memory : memory_after words (history_of p) ≡ memory_after words h

-- where the same stands at each moment, what stands through them is what stands at one
standing_same : (words : ℕ) (h : History) (p : Past) (ps : List Past) → IsSame words h p → ((q : Past) → In q ps → IsSame words h q)
    → standing_through words (p ∷ ps) ≡ standing_after words h
standing_same words h p ps here each =
    λ i. record { steady = steady i; blocks = blocks i; stacks = stacks i }
  where
    w : World
    w = world (past_of h)

    memory_of : Past → List ℕ
    memory_of q = memory_after words (history_of q)

    steady : steady_words (map (λ (q : Past). memory_after words (history_of q)) (p ∷ ps)) ≡ map Some (memory_after words h)
    steady =
        ap (λ m. steady_from (map Some m) (map (λ (q : Past). memory_after words (history_of q)) ps)) here.memory
        ∙ steady_same (memory_after words h) (map (λ (q : Past). memory_after words (history_of q)) ps)
        (λ x i. let q = in_map (λ (r : Past). memory_after words (history_of r)) ps x i in q.2 ∙ (each q.0 q.1).memory)

    stand : (b : Block) → In b w.blocks → list_all (stands_at b) ps ≡ true
    stand b i = all_pass (stands_at b) ps (λ q j.
        subst (λ (x : World). (elim (block_of x.blocks b.id) as (λ _. Bool) [ None ↦ false | Some c ↦ same_settings b c ]) ≡ true) (sym (each q j).world)
        (subst (λ o. (elim o as (λ _. Bool) [ None ↦ false | Some c ↦ same_settings b c ]) ≡ true) (sym (ids_found h b i)) (settings_same b)))

    blocks : filter (λ b. list_all (stands_at b) ps) (world p).blocks ≡ w.blocks
    blocks = ap (λ (x : World). filter (λ b. list_all (stands_at b) ps) x.blocks) here.world ∙ all_stay (λ b. list_all (stands_at b) ps) w.blocks stand

    live : (t : Task) → In t w.tasks → list_all (lives_at t) ps ≡ true
    live t i = all_pass (lives_at t) ps (λ q j.
        subst (λ (x : World). list_any (λ (u : Task). u.number == t.number) x.tasks ≡ true) (sym (each q j).world)
        (any_from (λ (u : Task). u.number == t.number) w.tasks t i (eq-eqb t.number t.number refl)))

    stacks : (if (world p).stacks then filter (λ t. list_all (lives_at t) ps) (world p).tasks else []) ≡ (if w.stacks then w.tasks else [])
    stacks =
        ap (λ (x : World). if x.stacks then filter (λ t. list_all (lives_at t) ps) x.tasks else []) here.world
        ∙ ap (λ ts. if w.stacks then ts else []) (all_stay (λ t. list_all (lives_at t) ps) w.tasks live)

-- a scan that runs, in which nothing but scanner steps happened
record IsQuiet (words : ℕ) (h g : History) (k : ℕ) : Type 0 where
  follows : FollowsMemory words g
  running : running_scan (past_of g) ≡ Some k
  number : scans (past_of g) ≡ k
  here : IsSame words h (past_of g)
  moments : (p : Past) → In p (since_begin (past_of g)) → IsSame words h p

-- a whole scan, in which nothing but scanner steps happened
record IsWhole (words : ℕ) (h h' : History) (k : ℕ) : Type 0 where
  follows : FollowsMemory words h'
  last : last_completed (past_of h') ≡ Some k
  through : standing_in words (past_of h') k ≡ standing_after words h

pub step_world : (w : World) (listed : List ℕ) (a : Answer) → world_after_event w listed Step a ≡ w
unfolding world_after_act
step_world w listed a = elim (is_refused a) as (λ q. (if q then w else w) ≡ w) [ true ↦ refl | false ↦ refl ]

begin_world : (w : World) (listed : List ℕ) → world_after_event w listed (File Scan) Done ≡ w
unfolding world_after_act
begin_world w listed = refl

-- the same stands after a step
step_same : (words : ℕ) (h g : History) (a : Answer) → IsSame words h (past_of g) → IsSame words h (past_of (record { act = Step; answer = a } ∷ g))
step_same words h g a s = record {
  world = step_world (world (past_of g)) (listing_ids (past_of g)) a ∙ s.world;
  memory = s.memory;
}

-- a step of a running scan loads, or ends it
step_answers : (words : ℕ) (past : Past) (v k : ℕ) → running_scan past ≡ Some k → (P : Answer → Type 0)
    → ((a : ℕ) → P (Loaded a v)) → ((n : ℕ) → P (Ended (scans past) n)) → P (answer words past Step v)
unfolding answer
step_answers words past v k run P loads ends =
    subst (λ o. P (elim o as (λ _. Answer) [
      | None ↦ Refused NoScanRunning
      | Some _ ↦ elim (next past) as (λ _. Answer) [ None ↦ Ended (scans past) (length (new_blocks past)) | Some place ↦ Loaded place.word v ]
    ])) (sym run)
    (elim (next past) as (λ o. P (elim o as (λ _. Answer) [ None ↦ Ended (scans past) (length (new_blocks past)) | Some place ↦ Loaded place.word v ])) [
      | None ↦ ends (length (new_blocks past))
      | Some place ↦ loads place.word
    ])

quiet_loads : (words : ℕ) (h g : History) (k a v : ℕ) → IsQuiet words h g k → Loaded a v ≡ told_answer (run_of words g) Step → IsQuiet words h (record { act = Step; answer = Loaded a v } ∷ g) k
quiet_loads words h g k a v q e = record {
  follows = (e, q.follows);
  running = q.running;
  number = q.number;
  here = step_same words h g (Loaded a v) q.here;
  moments = λ p i. elim i [ inl same ↦ subst (IsSame words h) (sym same) (step_same words h g (Loaded a v) q.here) | inr j ↦ q.moments p j ];
}

quiet_ends : (words : ℕ) (h g : History) (k n : ℕ) → IsQuiet words h g k → Ended (scans (past_of g)) n ≡ told_answer (run_of words g) Step
    → IsWhole words h (record { act = Step; answer = Ended (scans (past_of g)) n } ∷ g) k
quiet_ends words h g k n q e = record {
  follows = (e, q.follows);
  last = ap Some q.number;
  through =
      ap (λ b. standing_through words (since_begin (elim b as (λ _. Past) [ true ↦ past_of (record { act = Step; answer = Ended (scans (past_of g)) n } ∷ g) | false ↦ end_of k (past_of g) ]))) (eq-eqb (scans (past_of g)) k q.number)
      ∙ standing_same words h (past_of (record { act = Step; answer = Ended (scans (past_of g)) n } ∷ g)) (since_begin (past_of g)) (step_same words h g (Ended (scans (past_of g)) n) q.here) q.moments;
}

-- a whole scan comes to its end
finishes : (words n : ℕ) (h g : History) (after : Run) (k : ℕ) → IsQuiet words h g k → steps n (run_of words g) ≡ after → is_idle after.history ≡ true → IsWhole words h after.history k
finishes words zero h g after k q e idle =
    absurd (elim_false (subst (λ o. is_none o ≡ true) q.running (subst (λ (r : Run). is_none (running_scan (past_of r.history)) ≡ true) (sym e) idle)))
finishes words (suc n) h g after k q e idle =
    step_answers words (past_of g) (told_value (run_of words g) Step) k q.running
    (λ a. a ≡ told_answer (run_of words g) Step → (elim (is_loaded a) as (λ _. Run) [ true ↦ steps n (run_of words (record { act = Step; answer = a } ∷ g)) | false ↦ run_of words (record { act = Step; answer = a } ∷ g) ]) ≡ after → IsWhole words h after.history k)
    (λ a f at. finishes words n h (record { act = Step; answer = Loaded a (told_value (run_of words g) Step) } ∷ g) after k (quiet_loads words h g k a (told_value (run_of words g) Step) q f) at idle)
    (λ m f at. subst (λ (r : Run). IsWhole words h r.history k) at (quiet_ends words h g k m q f))
    refl e

done_is : (a : Answer) → is_done a ≡ true → a ≡ Done
done_is Done e = refl
done_is _ e = absurd (elim_false e)

-- where the scan begins
begun : (words : ℕ) (h : History) → FollowsMemory words h → Done ≡ told_answer (run_of words h) (File Scan) → IsQuiet words h (record { act = File Scan; answer = Done } ∷ h) (scans (past_of h) + 1)
begun words h follows e = record {
  follows = (e, follows);
  running = refl;
  number = refl;
  here = same;
  moments = λ p i. elim i [ inl at ↦ subst (IsSame words h) (sym at) same | inr j ↦ absurd j ];
}
  where
    same : IsSame words h (past_of (record { act = File Scan; answer = Done } ∷ h))
    same = record { world = begin_world (world (past_of h)) (listing_ids (past_of h)); memory = ap (memory_after words) (history_same h) }

whole : (words : ℕ) (h : History) (after : Run) → FollowsMemory words h → is_done (told_answer (run_of words h) (File Scan)) ≡ true → ScansIfBegun (happens (run_of words h) (File Scan)) after → IsWhole words h after.history (scans (past_of h) + 1)
whole words h after follows done scan =
    let is : told_answer (run_of words h) (File Scan) ≡ Done = done_is (told_answer (run_of words h) (File Scan)) done in
    let f : Finishes (run_of words (record { act = File Scan; answer = Done } ∷ h)) after =
    subst (λ a. MatchBool (is_done a) (Finishes (run_of words (record { act = File Scan; answer = a } ∷ h)) after) (run_of words (record { act = File Scan; answer = a } ∷ h) ≡ after)) is scan in
    finishes words (suc f.0) h (record { act = File Scan; answer = Done } ∷ h) after (scans (past_of h) + 1) (begun words h follows (sym is)) f.1 f.2

pub held_through_the_scan : HeldThroughTheScan
held_through_the_scan words h after id size follows done scan held =
    let all = whole words h after follows done scan in
    let through : IsHeld (standing_in words (past_of after.history) (scans (past_of h) + 1)) id = subst (λ s. IsHeld s id) (sym all.through) held in
    (through, λ listed. listed_are_not_held words after.history size all.follows (scans (past_of h) + 1) id all.last listed through)
