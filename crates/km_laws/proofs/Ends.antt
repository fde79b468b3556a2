use Rattle.std.proofs.Common.{◌≡◌, ℕ, suc, ◌+◌, ◌/◌, ◌≤◌, Bool, true, false, count_by, length, List, [], ◌∷◌, ◌++◌, Option, Some, None, if◌then◌else◌, refl, sym, ap, ◌∙◌, subst, arith}
use Rattle.std.proofs.lemmas.List.Sums.{sum_by-cons}
use Rattle.km_base.specs.declared.acts.Act.{Act}
use Rattle.km_base.specs.declared.acts.Act.TheVariants.{Step}
use Rattle.km_base.specs.declared.acts.Answer.{Answer}
use Rattle.km_base.specs.declared.acts.Answer.TheVariants.{Loaded, Ended, Refused}
use Rattle.km_base.specs.declared.acts.Refusal.TheVariants.{NoScanRunning}
use Rattle.km_model.specs.History.{History, Event, value_of}
use Rattle.km_model.specs.Blocks.{Block}
use Rattle.km_model.specs.Tasks.{Task}
use Rattle.km_model.specs.World.{World}
use Rattle.km_model.specs.Past.{Past, Place, ScanLoad, world, loads, at_begin, with_load, begins, ends, scans, running_scan, is_loaded}
use Rattle.km_model.specs.Scan.{first_queue, second_queue, scan_load, load_of, next}
use Rattle.km_model.specs.Verdict.{listing_ids, new_blocks}
use Rattle.km_model.specs.Changes.{world_after_event, world_after_act}
use Rattle.km_model.specs.Answers.{answer, step_answer}
use Rattle.km_model.specs.Follows.{moment, past_of, Follows}
use Rattle.km_model.specs.Headline.{is_scan_load}
use Rattle.km_model.proofs.Cases.{elim_false, none_some, some_same}
use Rattle.km_laws.specs.Left.{left_of, left, block_left, task_left, remaining, made}
use Rattle.km_laws.proofs.Lists.{total_filter, total_map}
use Rattle.km_model.proofs.Worlds.{Closed, Tame, event_keeps}
use Rattle.km_laws.proofs.Falls.{load_falls}
use Rattle.km_laws.proofs.Steps.{Fits, fits, next_good}

-- no block was registered since, and no task started, or what these loads leave is bounded
abbrev pub Bounded : ℕ → ℕ → ℕ → List ScanLoad → ℕ → List Block → ℕ → List Task → Type 0
Bounded r0 s0 most ls r bs s ts = (r0 ≤ r) × (s0 ≤ s) × (r ≡ r0 → s ≡ s0 → left_of ls bs ts ≤ most)

block_same : (ls : List ScanLoad) (b c : Block) → Tame b c → block_left ls c ≡ block_left ls b
block_same ls b c t =
    let F : ℕ → ℕ → ℕ = λ id size. remaining (size / 8) (made 2 id ls + made 4 id ls) + remaining (suc (size / 8)) (made 3 id ls) in
    ap (λ id. F id c.size) t.0 ∙ ap (λ size. F b.id size) t.2

bounded_closed : (r0 s0 most : ℕ) (ls : List ScanLoad) → Closed (λ r bs s ts. Bounded r0 s0 most ls r bs s ts)
bounded_closed r0 s0 most ls = record {
  registered = λ r s bs ts b e h. (omega (arith, h.0), h.1, (λ p q. absurd (let k = h.0 in omega (arith, k, p))));
  fewer = λ r s bs ts test h. (h.0, h.1, (λ p q. let k = h.2 p q in let f = total_filter (block_left ls) test bs in omega (arith, k, f)));
  none = λ r s bs ts h. (h.0, h.1, (λ p q. let k = h.2 p q in omega (arith, k)));
  changed = λ r s bs ts change tame h. (h.0, h.1, (λ p q. let k = h.2 p q in let f = total_map (block_left ls) change (λ b. block_same ls b (change b) (tame b)) bs in omega (arith, k, f)));
  started = λ r s bs ts t e h. (h.0, omega (arith, h.1), (λ p q. absurd (let k = h.1 in omega (arith, k, q))));
  gone = λ r s bs ts test h. (h.0, h.1, (λ p q. let k = h.2 p q in let f = total_filter (task_left ls) test ts in omega (arith, k, f)));
  set = λ r s bs ts change same h. (
    h.0,
    h.1,
    (λ p q. let k = h.2 p q in
        let f = total_map (task_left ls) change (λ t. ap (λ n. remaining 512 (made 1 n ls)) (same t).0) ts in omega (arith, k, f)),
  );
}

-- an event raises what is left only where it registers a block or starts a task
stays : (ls : List ScanLoad) (w : World) (listed : List ℕ) (act : Act) (given : Answer)
    → Bounded w.registered w.started (left_of ls w.blocks w.tasks) ls (world_after_event w listed act given).registered (world_after_event w listed act given).blocks (world_after_event w listed act given).started (world_after_event w listed act given).tasks
stays ls w listed act given =
    event_keeps (λ r bs s ts. Bounded w.registered w.started (left_of ls w.blocks w.tasks) ls r bs s ts) (bounded_closed w.registered w.started (left_of ls w.blocks w.tasks) ls)
    w listed act given (omega arith, omega arith, (λ p q. omega arith))

-- the blocks ever registered and the tasks ever started don't become fewer
given_grow : (h later : History) → ((world (past_of h)).registered ≤ (world (past_of (later ++ h))).registered) × ((world (past_of h)).started ≤ (world (past_of (later ++ h))).started)
given_grow h [] = (omega arith, omega arith)
given_grow h (e ∷ later) =
    let past = past_of (later ++ h) in
    let before = given_grow h later in
    let k = stays [] (world past) (listing_ids past) e.act e.answer in
    let a = before.0 in let b = before.1 in let c = k.0 in let d = k.1 in
    (omega (arith, a, c), omega (arith, b, d))

loaded_left : (past : Past) (value : ℕ) (o : Option Place) → next past ≡ o → Fits (at_begin past) (loads past) (world past)
    → left_of (with_load (elim o as (λ _. Option ScanLoad) [ None ↦ None | Some place ↦ Some (scan_load past place value) ]) (loads past)) (world past).blocks (world past).tasks
    ≤ left_of (loads past) (world past).blocks (world past).tasks
loaded_left past value None e fit = omega arith
loaded_left past value (Some place) e fit =
    let k = load_falls (first_queue past) (second_queue past) (scan_load past place value) (loads past) (world past).blocks (world past).tasks (next_good past place fit e) in
    omega (arith, k)

abbrev SameGiven : World → World → Type 0
SameGiven v w = (v.registered ≡ w.registered) × (v.started ≡ w.started)

going_left : (past : Past) (act : Act) (given : Answer) → Fits (at_begin past) (loads past) (world past)
    → SameGiven (world_after_event (world past) (listing_ids past) act given) (world past)
    → left_of (with_load (load_of past act given) (loads past)) (world_after_event (world past) (listing_ids past) act given).blocks (world_after_event (world past) (listing_ids past) act given).tasks
    ≤ left_of (loads past) (world past).blocks (world past).tasks
unfolding world_after_act
going_left past Step (Loaded a value) fit same = loaded_left past value (next past) refl fit
going_left past act given fit same = (stays (loads past) (world past) (listing_ids past) act given).2 same.0 same.1

-- where no scan begins, the loads are those before and the one that was made
loads_go_on : (past : Past) (act : Act) (given : Answer) → begins act given ≡ false
    → left (moment past act given ∷ past) ≡ suc (left_of (with_load (load_of past act given) (loads past)) (world (moment past act given ∷ past)).blocks (world (moment past act given ∷ past)).tasks)
loads_go_on past act given e =
    ap (λ q. suc (left_of (elim q as (λ _. List ScanLoad) [ true ↦ [] | false ↦ with_load (load_of past act given) (loads past) ])
    (world_after_event (world past) (listing_ids past) act given).blocks (world_after_event (world past) (listing_ids past) act given).tasks)) e

-- no event of a scan but registering a block and starting a task raises what is left
pub left_stays : (h : History) (act : Act) (given : Answer) → begins act given ≡ false
    → SameGiven (world (moment (past_of h) act given ∷ past_of h)) (world (past_of h)) → left (moment (past_of h) act given ∷ past_of h) ≤ left (past_of h)
left_stays h act given e same =
    let k = going_left (past_of h) act given (fits h) same in
    let f = loads_go_on (past_of h) act given e in
    omega (arith, k, f)

-- a load of a scan lowers it
loaded_falls : (past : Past) (a value : ℕ) (o : Option Place) → next past ≡ o → is_loaded (elim o as (λ _. Answer) [ None ↦ Ended (scans past) (length (new_blocks past)) | Some place ↦ Loaded place.word value ]) ≡ true
    → Fits (at_begin past) (loads past) (world past)
    → left_of (with_load (elim o as (λ _. Option ScanLoad) [ None ↦ None | Some place ↦ Some (scan_load past place value) ]) (loads past)) (world past).blocks (world past).tasks + 1
    ≤ left_of (loads past) (world past).blocks (world past).tasks
loaded_falls past a value None e l fit = absurd (elim_false l)
loaded_falls past a value (Some place) e l fit =
    load_falls (first_queue past) (second_queue past) (scan_load past place value) (loads past) (world past).blocks (world past).tasks (next_good past place fit e)

step_loaded : (past : Past) (value : ℕ) (running : Option ℕ) → is_loaded (elim running as (λ _. Answer) [ None ↦ Refused NoScanRunning | Some _ ↦ step_answer past value ]) ≡ true → is_loaded (step_answer past value) ≡ true
step_loaded past value None e = absurd (elim_false e)
step_loaded past value (Some k) e = e

answer_loaded : (words : ℕ) (past : Past) (value : ℕ) → is_loaded (answer words past Step value) ≡ true → is_loaded (step_answer past value) ≡ true
unfolding answer
answer_loaded words past value e = step_loaded past value (running_scan past) e

scan_load_falls : (words : ℕ) (past : Past) (act : Act) (given : Answer) → given ≡ answer words past act (value_of given) → is_scan_load (record { act = act; answer = given }) ≡ true
    → Fits (at_begin past) (loads past) (world past)
    → left_of (with_load (load_of past act given) (loads past)) (world_after_event (world past) (listing_ids past) act given).blocks (world_after_event (world past) (listing_ids past) act given).tasks + 1
    ≤ left_of (loads past) (world past).blocks (world past).tasks
unfolding world_after_act
scan_load_falls words past Step (Loaded a value) e l fit =
    loaded_falls past a value (next past) refl (answer_loaded words past value (subst (λ (g : Answer). is_loaded g ≡ true) e refl)) fit
scan_load_falls words past Step _ e l fit = absurd (elim_false l)
scan_load_falls words past _ given e l fit = absurd (elim_false l)

pub left_falls : (words : ℕ) (h : History) (act : Act) (given : Answer) → given ≡ answer words (past_of h) act (value_of given) → is_scan_load (record { act = act; answer = given }) ≡ true
    → begins act given ≡ false → left (moment (past_of h) act given ∷ past_of h) + 1 ≤ left (past_of h)
left_falls words h act given a l e =
    let k = scan_load_falls words (past_of h) act given a l (fits h) in
    let f = loads_go_on (past_of h) act given e in
    omega (arith, k, f)

-- a running scan is the last that was begun
running_is : (past : Past) (k : ℕ) → running_scan past ≡ Some k → scans past ≡ k
running_is [] k e = absurd (none_some k e)
running_is (m ∷ past) k e =
    let P = λ (q b : Bool). (elim q as (λ _. Option ℕ) [ true ↦ None | false ↦ elim b as (λ _. Option ℕ) [ true ↦ Some (scans past + 1) | false ↦ running_scan past ] ]) ≡ Some k
    → (elim b as (λ _. ℕ) [ true ↦ scans past + 1 | false ↦ scans past ]) ≡ k in
    elim (ends m.answer) as (λ q. P q (begins m.act m.answer)) [
      | true ↦ λ n. absurd (none_some k n)
      | false ↦ elim (begins m.act m.answer) as (λ b. P false b) [
        | true ↦ λ n. some_same (scans past + 1) k n
        | false ↦ λ n. running_is past k n
      ]
    ] e

scans_grow : (h later : History) → scans (past_of h) ≤ scans (past_of (later ++ h))
scans_grow h [] = omega arith
scans_grow h (e ∷ later) =
    let k = scans_grow h later in
    elim (begins e.act e.answer) as (λ q. scans (past_of h) ≤ (elim q as (λ _. ℕ) [ true ↦ scans (past_of (later ++ h)) + 1 | false ↦ scans (past_of (later ++ h)) ])) [
      | true ↦ omega (arith, k)
      | false ↦ k
    ]

-- a scan that was running and still is was running in between, and none began
still_runs : (h later : History) (e : Event) (k : ℕ) → running_scan (past_of h) ≡ Some k → running_scan (past_of (e ∷ later ++ h)) ≡ Some k
    → (running_scan (past_of (later ++ h)) ≡ Some k) × (begins e.act e.answer ≡ false)
still_runs h later e k before after =
    let past = past_of (later ++ h) in
    let first = running_is (past_of h) k before in
    let grown = scans_grow h later in
    let P = λ (q b : Bool). (elim q as (λ _. Option ℕ) [ true ↦ None | false ↦ elim b as (λ _. Option ℕ) [ true ↦ Some (scans (past_of (later ++ h)) + 1) | false ↦ running_scan (past_of (later ++ h)) ] ]) ≡ Some k
    → (running_scan (past_of (later ++ h)) ≡ Some k) × (b ≡ false) in
    elim (ends e.answer) as (λ q. P q (begins e.act e.answer)) [
      | true ↦ λ n. absurd (none_some k n)
      | false ↦ elim (begins e.act e.answer) as (λ b. P false b) [
        | true ↦ λ n. absurd (let s = some_same (scans (past_of (later ++ h)) + 1) k n in omega (arith, s, first, grown))
        | false ↦ λ n. (n, refl)
      ]
    ] after

-- the further loads of a scan in which no block is registered and no task starts are at most what is left
pub loads_end : (words : ℕ) (h later : History) (k : ℕ) → Follows words (later ++ h) → running_scan (past_of h) ≡ Some k → running_scan (past_of (later ++ h)) ≡ Some k
    → (world (past_of (later ++ h))).registered ≡ (world (past_of h)).registered
    → (world (past_of (later ++ h))).started ≡ (world (past_of h)).started
    → count_by is_scan_load later + left (past_of (later ++ h)) ≤ left (past_of h)
loads_end words h [] k f a b r s = omega arith
loads_end words h (e ∷ later) k f a b r s =
    let past = past_of (later ++ h) in
    let runs = still_runs h later e k a b in
    let grown = given_grow h later in
    let step = stays [] (world past) (listing_ids past) e.act e.answer in
    let r0 = grown.0 in let s0 = grown.1 in let r1 = step.0 in let s1 = step.1 in
    let same_r : (world (past_of (later ++ h))).registered ≡ (world (past_of h)).registered = omega (arith, r, r0, r1) in
    let same_s : (world (past_of (later ++ h))).started ≡ (world (past_of h)).started = omega (arith, s, s0, s1) in
    let rest = loads_end words h later k f.2 a runs.0 same_r same_s in
    let count = sum_by-cons (λ (x : Event). if is_scan_load x then 1 else 0) e later in
    let now : (if is_scan_load e then 1 else 0) + left (past_of (e ∷ later ++ h)) ≤ left (past_of (later ++ h)) =
    elim (is_scan_load e) as (λ q. is_scan_load e ≡ q → (if q then 1 else 0) + left (past_of (e ∷ later ++ h)) ≤ left (past_of (later ++ h))) [
      | true ↦ λ l. let m = left_falls words (later ++ h) e.act e.answer f.0 l runs.1 in omega (arith, m)
      | false ↦ λ l. let m = left_stays (later ++ h) e.act e.answer runs.1 (r ∙ sym same_r, s ∙ sym same_s) in omega (arith, m)
    ] refl in
    omega (arith, rest, count, now)
