-- Each load of the scan lowers what is left of a state.
use Rattle.std.proofs.Common.{◌≡◌, ℕ, ◌+◌, ◌≤◌, true, false, ◌||◌, List, [], ◌∷◌, map, Option, Some, None, is_some, refl, sym, ap, ◌∙◌, subst, arith, inl, inr}
use Rattle.km_base.specs.declared.acts.Act.TheVariants.{Step}
use Rattle.km_base.specs.declared.acts.Answer.{Answer}
use Rattle.km_base.specs.declared.acts.Answer.TheVariants.{Loaded, Refused}
use Rattle.km_base.specs.declared.acts.Refusal.TheVariants.{NoScanRunning}
use Rattle.km_model.specs.History.{History}
use Rattle.km_model.specs.Blocks.{Block, block_of, is_among}
use Rattle.km_model.specs.Past.{Place, ScanLoad, world, loads, last_load, running_scan}
use Rattle.km_model.specs.Scan.{is_white, behind, next, phase_of, first_queue, second_queue}
use Rattle.km_model.specs.Follows.{Follows, past_of}
use Rattle.km_model.specs.Headline.{IsMemorySize}
use Rattle.km_model.proofs.Cases.{elim_false, some_same}
use Rattle.km_model.proofs.Lists.{not_among}
use Rattle.km_model.proofs.Places.{newest, next_is}
use Rattle.km_model.proofs.Whites.{white_in, white_is}
use Rattle.km_state.specs.State.{State, Tracked, Scanning, is_white_now}
use Rattle.km_state.specs.StateNext.{state_next, is_at, load_in, load_at, told, scan_told, sum_after}
use Rattle.km_state.specs.StateAnswers.{state_answer, stepped}
use Rattle.km_state.specs.StateAfter.{state_after, changed, scan_after_load, sum_of}
use Rattle.km_state.specs.StandsFor.{StandsFor, is_live, queue_left, left_of as queue_after, cursor_at, scanning_at, tracked, recounted}
use Rattle.km_state.proofs.SoundLoads.{load_facts}
use Rattle.km_state.proofs.Advance.{block_itself}
use Rattle.km_state.proofs.SoundLaws.{sound, sound_painted, sound_staged}
use Rattle.km_state.proofs.EndLaws.{Painted, white_same}
use Rattle.km_state.proofs.ToldLaws.{load_same}
use Rattle.km_state.proofs.StandsLaws.{recounted_stands, stands_recounted, next_stands}
use Rattle.km_state.proofs.CodeLaws.{applied_stands}
use Rattle.km_state.proofs.QueueLaws.{left_2, left_4}
use Rattle.km_laws.specs.Placed.{BlockPlaced}
use Rattle.km_laws.proofs.Lists.{In, each_in, in_map, map_in, filter_in}
use Rattle.km_laws.proofs.Laws.{all_is_placed}
use Rattle.km_laws.proofs.Queues.{not_behind}
use Rattle.km_laws.proofs.Runs.{Order, QueuedGrey}
use Rattle.km_laws.proofs.Steps.{fits, last_is}
use Rattle.km_left.specs.LeftIn.{scan_left, left_in}
use Rattle.km_left.specs.Laws.{LoadsLowerIn}
use Rattle.km_left.proofs.Loads.{holder_of, load_lowers}
use Rattle.km_left.proofs.Ways.{cursor_is, Cost, Ordered, way}

-- the holder of a grey pass is neither white nor queued
held_in : (q1 q2 : List ℕ) (ls : List ScanLoad) (bs : List Block) (b : Block) → Order q1 q2 ls → QueuedGrey q1 q2 ls b
    → (is_at 2 b.id (cursor_at bs (newest ls)) || is_at 4 b.id (cursor_at bs (newest ls))) ≡ true
    → (white_in ls b ≡ false) × (In b.id (queue_after q1 q2 (newest ls)) → ⊥)
held_in q1 q2 [] bs b o grey h = absurd (elim_false h)
held_in q1 q2 (l ∷ ls) bs b o grey h =
    elim (cursor_is bs l) [
      | inr gone ↦ absurd (elim_false (subst (λ c. (is_at 2 b.id c || is_at 4 b.id c) ≡ true) gone.0 h))
      | inl last ↦
          let k = holder_of l.place b.id (subst (λ c. (is_at 2 b.id c || is_at 4 b.id c) ≡ true) last h) in
          elim k.0 [
            | inl two ↦ (
              grey.0 (subst (λ n. In n q1) k.1 (o.ahead.1 two).0),
              (λ i. not_behind b.id q1 o.once1 (subst (λ n. In b.id (behind n q1)) k.1 (subst (In b.id) (left_2 q1 q2 l two) i))),
            )
            | inr four ↦ (
              grey.1 (subst (λ n. In n q2) k.1 (o.ahead.3 four).0),
              (λ i. not_behind b.id q2 o.once2 (subst (λ n. In b.id (behind n q2)) k.1 (subst (In b.id) (left_4 q1 q2 l four) i))),
            )
          ]
    ]

held_at : (h : History) (t : Tracked) → In t (map (tracked (past_of h)) (world (past_of h)).blocks)
    → (is_at 2 t.block.id (cursor_at (world (past_of h)).blocks (last_load (past_of h))) || is_at 4 t.block.id (cursor_at (world (past_of h)).blocks (last_load (past_of h)))) ≡ true
    → (is_white_now t || is_among t.block.id (queue_left (past_of h) (world (past_of h)).blocks)) ≡ false
held_at h t i at =
    let p = past_of h in
    let bs = (world (past_of h)).blocks in
    let fit = fits h in
    let s = sound h in
    let o = in_map (tracked p) bs t i in
    let b = o.0 in
    let k = held_in (first_queue p) (second_queue p) (loads p) bs b fit.0 (each_in (QueuedGrey (first_queue p) (second_queue p) (loads p)) bs b fit.1.queued o.1)
    (subst (λ x. (is_at 2 b.id (cursor_at (world (past_of h)).blocks x) || is_at 4 b.id (cursor_at (world (past_of h)).blocks x)) ≡ true) (last_is p)
    (subst (λ u. (is_at 2 u.block.id (cursor_at (world (past_of h)).blocks (last_load (past_of h))) || is_at 4 u.block.id (cursor_at (world (past_of h)).blocks (last_load (past_of h)))) ≡ true) o.2 at)) in
    let white : is_white_now (tracked (past_of h) b) ≡ false = white_same p b (each_in (Painted p) bs b (sound_painted p bs (world p).registered s) o.1) ∙ white_is p b ∙ k.0 in
    let none : is_among b.id (queue_left (past_of h) (world (past_of h)).blocks) ≡ false = not_among b.id (queue_left p bs)
    (λ j. k.1 (subst (λ x. In b.id (queue_after (first_queue p) (second_queue p) x)) (last_is p) (filter_in (is_live bs) (queue_after (first_queue p) (second_queue p) (last_load p)) b.id j).1)) in
    subst (λ u. (is_white_now u || is_among u.block.id (queue_left (past_of h) (world (past_of h)).blocks)) ≡ false) (sym o.2)
    (subst (λ q. (q || is_among b.id (queue_left (past_of h) (world (past_of h)).blocks)) ≡ false) (sym white) none)

-- what stands is in order, and blocks are whole words
ordered : (words : ℕ) (h : History) → IsMemorySize words → Follows words h → Ordered (past_of h)
ordered words h size f =
    let p = past_of h in
    let fit = fits h in
    let s = sound h in
    record {
      blocks = fit.1.blocks_rise;
      tasks = fit.1.tasks_rise;
      live = λ b i. ap is_some (each_in (λ (b : Block). block_of (world (past_of h)).blocks b.id ≡ Some b) (world p).blocks b (block_itself (world p).blocks 0 (world p).registered s.ordered) i);
      whole = λ b i. let placed = each_in (BlockPlaced (world (past_of h)).used) (world p).blocks b (all_is_placed words h size f).blocks i in placed.6.1;
    }

-- the state after a load
abbrev AfterLoad : State → Scanning → Place → ℕ → Type 0
AfterLoad s c place value =
    ((state_after s Step (Loaded place.word value)).scan ≡ Some (scan_told c (load_at s c place value)))
    × ((state_after s Step (Loaded place.word value)).tracked ≡ map (told (load_at s c place value) (sum_after c place value)) s.tracked)
    × (left_in (state_after s Step (Loaded place.word value)) ≡ scan_left (scan_told c (load_at s c place value)) (map (told (load_at s c place value) (sum_after c place value)) s.tracked) s.tasks)

after_load : (s : State) (c : Scanning) (place : Place) (value : ℕ) → s.scan ≡ Some c → state_next s ≡ Some place → AfterLoad s c place value
unfolding changed
after_load s c place value e n =
    let made : load_in s Step (Loaded place.word value) ≡ Some (load_at s c place value) =
    ap (λ o. elim o as (λ _. Option ScanLoad) [ None ↦ None | Some x ↦ elim (state_next s) as (λ _. Option ScanLoad) [ None ↦ None | Some y ↦ Some (load_at s x y value) ] ]) e
    ∙ ap (λ o. elim o as (λ _. Option ScanLoad) [ None ↦ None | Some y ↦ Some (load_at s c y value) ]) n in
    let scan = λ (o : Option Scanning) (q : Option ScanLoad). scan_after_load o q in
    let blocks = λ (o : Option Scanning) (q : Option ScanLoad). elim q as (λ _. List Tracked) [ None ↦ s.tracked | Some x ↦ map (told x (sum_of (scan_after_load o q))) s.tracked ] in
    let left = λ (o : Option Scanning) (q : Option ScanLoad). elim (scan_after_load o q) as (λ _. ℕ) [ None ↦ 0 | Some x ↦ scan_left x (elim q as (λ _. List Tracked) [ None ↦ s.tracked | Some y ↦ map (told y (sum_of (scan_after_load o q))) s.tracked ]) s.tasks ] in (
      ap (λ q. scan s.scan q) made ∙ ap (λ o. scan o (Some (load_at s c place value))) e,
      ap (λ q. blocks s.scan q) made ∙ ap (λ o. blocks o (Some (load_at s c place value))) e,
      ap (λ q. left s.scan q) made ∙ ap (λ o. left o (Some (load_at s c place value))) e,
    )

loaded : (s : State) (c : Scanning) (place : Place) (value : ℕ) → s.scan ≡ Some c → state_next s ≡ Some place → state_answer s Step value ≡ Loaded place.word value
unfolding state_answer
loaded s c place value e n =
    ap (λ o. elim o as (λ _. Answer) [ None ↦ Refused NoScanRunning | Some _ ↦ stepped s (state_next s) value ]) e ∙ ap (λ o. stepped s o value) n

some_number : (o : Option ℕ) → is_some o ≡ true → (k : ℕ) × (o ≡ Some k)
some_number None e = absurd (elim_false e)
some_number (Some k) e = (k, refl)

-- what a load makes ripe was white
ripe_white : (words : ℕ) (h : History) (place : Place) (value : ℕ) (t : Tracked) → next (past_of h) ≡ Some place → In t (map (tracked (past_of h)) (world (past_of h)).blocks)
    → (load_at (recounted words (past_of h)) (scanning_at (past_of h) (world (past_of h)).blocks) place value).ripe ≡ Some t.block.id → is_white_now t ≡ true
ripe_white words h place value t n i ripe =
    let p = past_of h in
    let bs = (world (past_of h)).blocks in
    let k = sound h in
    let facts = load_facts p place value k n in
    let o = in_map (tracked p) bs t i in
    let at = (facts.ripe t.block.id (ap (λ (x : ScanLoad). x.ripe) (sym (load_same words p place value k facts)) ∙ ripe)).at in
    let same : o.0 ≡ at.block = some_same o.0 at.block (sym (each_in (λ (b : Block). block_of (world (past_of h)).blocks b.id ≡ Some b) bs o.0 facts.itself o.1)
    ∙ ap (λ (x : Tracked). block_of (world (past_of h)).blocks x.block.id) (sym o.2) ∙ at.found) in
    subst (λ u. is_white_now u ≡ true) (sym o.2)
    (white_same p o.0 (each_in (Painted p) bs o.0 (sound_painted p bs (world p).registered k) o.1) ∙ subst (λ b. is_white (past_of h) b ≡ true) (sym same) at.white)

abbrev Lowers : State → Scanning → Place → ℕ → Type 0
Lowers s c place value = left_in (state_after s Step (Loaded place.word value)) + Cost c.cursor place ≤ left_in s

-- in the recount of a history
recount_lowers : (words : ℕ) (h : History) (place : Place) (value : ℕ) → IsMemorySize words → Follows words h → (recounted words (past_of h)).scan ≡ Some (scanning_at (past_of h) (world (past_of h)).blocks)
    → state_next (recounted words (past_of h)) ≡ Some place → next (past_of h) ≡ Some place → Lowers (recounted words (past_of h)) (scanning_at (past_of h) (world (past_of h)).blocks) place value
recount_lowers words h place value size f e n next' =
    let p = past_of h in
    let s = recounted words (past_of h) in
    let c = scanning_at (past_of h) (world (past_of h)).blocks in
    let l = load_at (recounted words (past_of h)) (scanning_at (past_of h) (world (past_of h)).blocks) place value in
    let sum = sum_after (scanning_at (past_of h) (world (past_of h)).blocks) place value in
    let o = (fits h).0 in
    let found = way p (last_load p) c.sum place (ordered words h size f) (sound_staged p (world p).blocks (world p).registered (sound h))
    (subst (λ x. 1 ≤ phase_of x) (sym (last_is p)) o.low) (subst (λ x. phase_of x ≤ 4) (sym (last_is p)) o.high) (next_is p place next') in
    let after = after_load s c place value e n in
    let later : History = record { act = Step; answer = Loaded place.word value } ∷ h in
    let r : StandsFor words later (state_after s Step (Loaded place.word value)) =
    subst (λ x. StandsFor words (record { act = Step; answer = x } ∷ h) (state_after (recounted words (past_of h)) Step x)) (loaded s c place value e n) (applied_stands words h s Step value (recounted_stands words h)) in
    let falls = load_lowers c s.tracked s.tasks l sum (Cost c.cursor place) (record {
      phase = found.0;
      way = found.1;
      ripe = λ t i k. ripe_white words h place value t next' i k;
      held = λ t i k.
          let i' = subst (In (told l sum t)) (sym after.1 ∙ ap (λ (x : State). x.tracked) (stands_recounted words later (state_after s Step (Loaded place.word value)) r)) (map_in (told l sum) s.tracked t i) in
          subst (λ q. (is_white_now (told l sum t) || is_among t.block.id q) ≡ false) (sym (r.queue (scan_told c l) after.0))
          (held_at later (told l sum t) i' (subst (λ x. (is_at 2 t.block.id x || is_at 4 t.block.id x) ≡ true) (r.cursor (scan_told c l) after.0) k));
    }) in
    let left = after.2 in
    let before : left_in (recounted words (past_of h)) ≡ scan_left c s.tracked s.tasks = ap (λ x. elim x as (λ _. ℕ) [ None ↦ 0 | Some y ↦ scan_left y s.tracked s.tasks ]) e in
    omega (arith, falls, left, before)

pub loads_lower_in : LoadsLowerIn
loads_lower_in words h s c place value size f r e n =
    let p = past_of h in
    let same = stands_recounted words h s r in
    let k = some_number (running_scan (past_of h)) (sym r.running ∙ ap is_some e) in
    let scan : c ≡ scanning_at (past_of h) (world (past_of h)).blocks = λ i. record { queue = r.queue c e i; cursor = r.cursor c e i; sum = r.sum c e i } in
    subst (λ x. Lowers s x place value) (sym scan)
    (subst (λ x. Lowers x (scanning_at (past_of h) (world (past_of h)).blocks) place value) (sym same)
    (recount_lowers words h place value size f (sym (ap (λ (x : State). x.scan) same) ∙ e ∙ ap Some scan) (sym (ap state_next same) ∙ n) (sym (next_stands words h s k.0 r k.1) ∙ n)))
