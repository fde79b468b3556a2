use Rattle.std.proofs.Common.{◌≡◌, ℕ, suc, ◌+◌, ◌<◌, true, false, ◌||◌, ◌==◌, filter, map, List, [], ◌∷◌, ◌++◌, Option, Some, None, if◌then◌else◌, refl, sym, ◌∙◌, subst, arith, ◌⊎◌, inl, inr, append_assoc, append-nil}
use Rattle.std.proofs.lemmas.Bool.{both_ways}
use Rattle.km_base.specs.declared.acts.Act.{Act}
use Rattle.km_base.specs.declared.acts.Act.TheVariants.{Step}
use Rattle.km_base.specs.declared.acts.Answer.{Answer}
use Rattle.km_base.specs.declared.acts.Answer.TheVariants.{Loaded}
use Rattle.km_model.specs.History.{History}
use Rattle.km_model.specs.Blocks.{Block, needs}
use Rattle.km_model.specs.Tasks.{Task}
use Rattle.km_model.specs.World.{World, opening}
use Rattle.km_model.specs.Past.{Past, Place, ScanLoad, world, loads, last_load, at_begin, with_load, begins}
use Rattle.km_model.specs.Scan.{first_queue, second_queue, ripe_in, scan_load, found_changed, ripe_by_hit, hit_of, load_of, next, tally}
use Rattle.km_model.specs.Verdict.{listing_ids}
use Rattle.km_model.specs.Changes.{world_after_event, world_after_act}
use Rattle.km_model.specs.Follows.{moment, past_of}
use Rattle.km_laws.proofs.Lists.{each_in, in_each, In, Rising, rising_in, rising_unique, rising_filter, filter_in, in_map}
use Rattle.km_laws.proofs.Queues.{Distinct}
use Rattle.km_model.proofs.Worlds.{event_keeps}
use Rattle.km_model.proofs.Whites.{white_in, white_is, hit_live, found_grey, ripe_grey, needless_grey}
use Rattle.km_model.proofs.Places.{next_is, NextPlace, WhiteWord}
use Rattle.km_laws.proofs.Runs.{newest, Order, Stands, QueuedGrey, HeadBlock, HeadTask, stands_closed}
use Rattle.km_laws.proofs.Loads.{Good, good_stack, good_first, good_second, good_sum, WhiteAt}
use Rattle.km_laws.proofs.After.{order_after, stands_after, order_first_grows, order_second_grows, stands_first_grows, stands_second_grows}
use Rattle.km_model.proofs.Ripe.{found_is, ripe_is, either_first, is_some_same}

-- the blocks that needed no reference at the begin
abbrev pub needless : Past → List ℕ
needless begun = map (λ (b : Block). b.id) (filter (needs 0) (world begun).blocks)

-- the loads of a scan are in order, and what stands fits them
abbrev FitQueues : List ℕ → List ℕ → List ScanLoad → World → Type 0
FitQueues q1 q2 ls w = Order q1 q2 ls × Stands q1 q2 ls w.registered w.blocks w.started w.tasks

abbrev pub Fits : Past → List ScanLoad → World → Type 0
Fits begun ls w =
    Order (needless begun ++ ripe_in 1 2 ls) (ripe_in 3 4 ls) ls
    × Stands (needless begun ++ ripe_in 1 2 ls) (ripe_in 3 4 ls) ls w.registered w.blocks w.started w.tasks

rising_distinct : {X : Type 0} (key : X → ℕ) (xs : List X) (low high : ℕ) → Rising key low xs high → Distinct (map key xs)
rising_distinct key [] low high r = tt
rising_distinct key (x ∷ xs) low high r = (
  (λ i. let y = in_map key xs (key x) i in
      let above = (rising_in key xs (suc (key x)) high y.0 r.1 y.1).0 in let same = y.2 in omega (arith, above, same)),
  rising_distinct key xs (suc (key x)) high r.1,
)

-- at the begin of a scan
fits_begin : (bs : List Block) (r s : ℕ) (ts : List Task) → Rising (λ (b : Block). b.id) 0 bs r → Rising (λ (t : Task). t.number) 0 ts (s + 1)
    → Order (map (λ (b : Block). b.id) (filter (needs 0) bs)) [] [] × Stands (map (λ (b : Block). b.id) (filter (needs 0) bs)) [] [] r bs s ts
fits_begin bs r s ts blocks tasks =
    let kept = filter (needs 0) bs in (
      record {
        low = omega arith;
        high = omega arith;
        above = λ p x lt. refl;
        once1 = rising_distinct (λ (b : Block). b.id) (filter (needs 0) bs) 0 r (rising_filter (λ (b : Block). b.id) (needs 0) bs 0 r blocks);
        once2 = tt;
        apart = λ x i j. j;
        from1 = λ x out. refl;
        from2 = λ x out. refl;
        ahead = tt;
      },
      record {
        blocks_rise = blocks;
        tasks_rise = tasks;
        given1 = λ x i.
            let c = in_map (λ (b : Block). b.id) (filter (needs 0) bs) x i in
            let m = filter_in (needs 0) bs c.0 c.1 in
            let lt = (rising_in (λ (b : Block). b.id) bs 0 r c.0 blocks m.1).1 in
            let same = c.2 in omega (arith, lt, same);
        given2 = λ x i. absurd i;
        queued = in_each (QueuedGrey (map (λ (b : Block). b.id) (filter (needs 0) bs)) [] []) bs (λ b i. (
          (λ j.
              let c = in_map (λ (b : Block). b.id) (filter (needs 0) bs) b.id j in
              let m = filter_in (needs 0) bs c.0 c.1 in
              let same : c.0 ≡ b = rising_unique (λ (b : Block). b.id) bs 0 r c.0 b blocks m.1 i (sym c.2) in
              needless_grey [] b (subst (λ d. needs 0 d ≡ true) same m.0)),
          (λ j. absurd j),
        ));
        head_given = tt;
        head_block = in_each (HeadBlock []) bs (λ b i. tt);
        head_task = in_each (HeadTask []) ts (λ t i. tt);
      },
    )

pub last_is : (past : Past) → last_load past ≡ newest (loads past)
last_is past = elim (loads past) as (λ ls. (elim ls as (λ _. Option ScanLoad) [ [] ↦ None | l ∷ _ ↦ Some l ]) ≡ newest ls) [ [] ↦ refl | l ∷ ls ↦ refl ]

white_at : (past : Past) (id a : ℕ) → WhiteWord past id a → WhiteAt (loads past) (world past).blocks id a
white_at past id a f = (f.0, f.1, f.2, (let w = f.3 in (w.0, (let k = w.1 in omega (arith, k)), w.2)), sym (white_is past f.0) ∙ f.4)

-- the next load is a good one
pub next_good : (past : Past) (place : Place) → Fits (at_begin past) (loads past) (world past) → next past ≡ Some place
    → Good (first_queue past) (second_queue past) (loads past) (world past).blocks (world past).tasks place
next_good past place fit h =
    let w = world past in
    let n : NextPlace past (newest (loads past)) place = subst (λ o. NextPlace past o place) (last_is past) (next_is past place h) in
    elim n [
      | inl one ↦ inl (good_stack (first_queue past) (second_queue past) (loads past) (world past).registered (world past).blocks (world past).started (world past).tasks place fit.0 fit.1 one.0 one.1)
      | inr more ↦ elim more [
        | inl two ↦ inr (inl (good_first (first_queue past) (second_queue past) (loads past) (world past).registered (world past).blocks (world past).started (world past).tasks place fit.0 fit.1 two.0 two.1))
        | inr rest ↦ elim rest [
          | inl three ↦ inr (inr (inl (good_sum (first_queue past) (second_queue past) (loads past) (world past).registered (world past).blocks (world past).started (world past).tasks place fit.0 fit.1 three.0 three.1.0
              (white_at past place.holder place.word three.1.1) three.1.2)))
          | inr four ↦ inr (inr (inr (good_second (first_queue past) (second_queue past) (loads past) (world past).registered (world past).blocks (world past).started (world past).tasks place fit.0 fit.1 four)))
        ]
      ]
    ]

-- a load makes a white block ripe, which isn't white from then on
abbrev pub RipeFacts : Past → Place → ℕ → ℕ → Type 0
RipeFacts past place value r =
    ((b : Block) × In b (world past).blocks × (b.id ≡ r) × (white_in (loads past) b ≡ true))
    × ((b : Block) → In b (world past).blocks → b.id ≡ r → white_in (scan_load past place value ∷ loads past) b ≡ false)

white_holder : (q1 q2 : List ℕ) (ls : List ScanLoad) (bs : List Block) (ts : List Task) (place : Place) → Good q1 q2 ls bs ts place → place.phase ≡ 3
    → (b : Block) × In b bs × (b.id ≡ place.holder) × (white_in ls b ≡ true)
white_holder q1 q2 ls bs ts place (inl g) e = absurd (let f = g.0 in omega (arith, e, f))
white_holder q1 q2 ls bs ts place (inr (inl g)) e = absurd (let f = g.0 in omega (arith, e, f))
white_holder q1 q2 ls bs ts place (inr (inr (inl g))) e = (g.1, g.2, g.3, g.10)
white_holder q1 q2 ls bs ts place (inr (inr (inr g))) e = absurd (let f = g.0 in omega (arith, e, f))

pub ripe_facts : (past : Past) (place : Place) (value r : ℕ) → Fits (at_begin past) (loads past) (world past)
    → Good (first_queue past) (second_queue past) (loads past) (world past).blocks (world past).tasks place
    → (scan_load past place value).ripe ≡ Some r → RipeFacts past place value r
ripe_facts past place value r fit good h =
    elim (either_first (found_changed past place value) (ripe_by_hit past (hit_of past place value)) r h) [
      | inl found ↦
          let f = found_is past place value r found in
          let b = white_holder (first_queue past) (second_queue past) (loads past) (world past).blocks (world past).tasks place good f.0 in (
            (b.0, b.1, b.2 ∙ sym f.1, b.3),
            (λ c i e. found_grey (scan_load past place value) (loads past) c (is_some_same (found_changed past place value) r c.id found e)),
          )
      | inr hit ↦
          let k = ripe_is past (hit_of past place value) r hit in
          let white = hit_live past place value r k.0 in (
            (white.0, white.3, white.1, sym (white_is past white.0) ∙ white.2),
            (λ c i e.
                let same : k.1.0 ≡ c = rising_unique (λ (b : Block). b.id) (world past).blocks 0 (world past).registered k.1.0 c fit.1.blocks_rise k.1.1 i (k.1.2 ∙ sym e) in
                ripe_grey (scan_load past place value) (loads past) c (is_some_same (hit_of past place value) r c.id k.0 e)
                (subst (λ d. needs (tally past d + 1) d ≡ true) same k.1.3)),
          )
    ]

-- the two queues after a load of a phase
abbrev Queue1 : ℕ → Option ℕ → List ℕ → List ℕ
Queue1 phase o earlier = elim o [ None ↦ earlier | Some id ↦ if phase == 1 || phase == 2 then earlier ++ id ∷ [] else earlier ]

abbrev Queue2 : ℕ → Option ℕ → List ℕ → List ℕ
Queue2 phase o earlier = elim o [ None ↦ earlier | Some id ↦ if phase == 3 || phase == 4 then earlier ++ id ∷ [] else earlier ]

abbrev Grown : ℕ → Option ℕ → List ℕ → List ℕ → List ℕ → List ScanLoad → World → Type 0
Grown phase o base' e1 e2 ls w = FitQueues (base' ++ Queue1 phase o e1) (Queue2 phase o e2) ls w

-- what a block must be to enter a queue
abbrev MayEnter : List ℕ → List ℕ → List ScanLoad → World → ℕ → Type 0
MayEnter q1 q2 ls w r = (In r q1 → ⊥) × (In r q2 → ⊥) × (r < w.registered) × ((b : Block) → In b w.blocks → b.id ≡ r → white_in ls b ≡ false)

grows_first : (base' e1 e2 : List ℕ) (ls : List ScanLoad) (w : World) (r : ℕ) → MayEnter (base' ++ e1) e2 ls w r → FitQueues (base' ++ e1) e2 ls w → FitQueues (base' ++ (e1 ++ r ∷ [])) e2 ls w
grows_first base' e1 e2 ls w r may fit =
    subst (λ q. FitQueues q e2 ls w) (append_assoc base' e1 (r ∷ []))
    (order_first_grows (base' ++ e1) e2 r ls may.0 may.1 fit.0, stands_first_grows (base' ++ e1) e2 r ls w.registered w.blocks w.started w.tasks may.2 may.3 fit.1)

grows_second : (base' e1 e2 : List ℕ) (ls : List ScanLoad) (w : World) (r : ℕ) → MayEnter (base' ++ e1) e2 ls w r → FitQueues (base' ++ e1) e2 ls w → FitQueues (base' ++ e1) (e2 ++ r ∷ []) ls w
grows_second base' e1 e2 ls w r may fit =
    (order_second_grows (base' ++ e1) e2 r ls may.0 may.1 fit.0, stands_second_grows (base' ++ e1) e2 r ls w.registered w.blocks w.started w.tasks may.2 may.3 fit.1)

abbrev Early : ℕ → Type 0
Early phase = ((phase ≡ 1) ⊎ (phase ≡ 2)) ⊎ ((phase ≡ 3) ⊎ (phase ≡ 4))

grown : (phase : ℕ) (o : Option ℕ) (base' e1 e2 : List ℕ) (ls : List ScanLoad) (w : World) → Early phase → ((r : ℕ) → o ≡ Some r → MayEnter (base' ++ e1) e2 ls w r)
    → FitQueues (base' ++ e1) e2 ls w → Grown phase o base' e1 e2 ls w
grown phase None base' e1 e2 ls w early may fit = fit
grown phase (Some r) base' e1 e2 ls w (inl (inl e)) may fit = subst (λ p. Grown p (Some r) base' e1 e2 ls w) (sym e) (grows_first base' e1 e2 ls w r (may r refl) fit)
grown phase (Some r) base' e1 e2 ls w (inl (inr e)) may fit = subst (λ p. Grown p (Some r) base' e1 e2 ls w) (sym e) (grows_first base' e1 e2 ls w r (may r refl) fit)
grown phase (Some r) base' e1 e2 ls w (inr (inl e)) may fit = subst (λ p. Grown p (Some r) base' e1 e2 ls w) (sym e) (grows_second base' e1 e2 ls w r (may r refl) fit)
grown phase (Some r) base' e1 e2 ls w (inr (inr e)) may fit = subst (λ p. Grown p (Some r) base' e1 e2 ls w) (sym e) (grows_second base' e1 e2 ls w r (may r refl) fit)

early_of : (q1 q2 : List ℕ) (ls : List ScanLoad) (bs : List Block) (ts : List Task) (place : Place) → Good q1 q2 ls bs ts place → Early place.phase
early_of q1 q2 ls bs ts place (inl g) = inl (inl g.0)
early_of q1 q2 ls bs ts place (inr (inl g)) = inl (inr g.0)
early_of q1 q2 ls bs ts place (inr (inr (inl g))) = inr (inl g.0)
early_of q1 q2 ls bs ts place (inr (inr (inr g))) = inr (inr g.0)

-- one more load
fits_load : (past : Past) (place : Place) (value : ℕ) → next past ≡ Some place → Fits (at_begin past) (loads past) (world past)
    → Fits (at_begin past) (scan_load past place value ∷ loads past) (world past)
fits_load past place value h fit =
    let w = world past in
    let l = scan_load past place value in
    let good = next_good past place fit h in
    let order = order_after (first_queue past) (second_queue past) (scan_load past place value) (loads past) (world past).blocks (world past).tasks fit.0 good in
    let stands = stands_after (first_queue past) (second_queue past) (scan_load past place value) (loads past) (world past).registered (world past).blocks (world past).started (world past).tasks fit.1 good in
    grown place.phase (scan_load past place value).ripe (needless (at_begin past)) (ripe_in 1 2 (loads past)) (ripe_in 3 4 (loads past)) (scan_load past place value ∷ loads past) (world past)
    (early_of (first_queue past) (second_queue past) (loads past) (world past).blocks (world past).tasks place good)
    (λ r e.
    let facts = ripe_facts past place value r fit good e in
    let b = facts.0.0 in
    let queued = each_in (QueuedGrey (first_queue past) (second_queue past) (loads past)) (world past).blocks b fit.1.queued facts.0.1 in
    let same = facts.0.2 in
    let bound = (rising_in (λ (b : Block). b.id) (world past).blocks 0 (world past).registered b fit.1.blocks_rise facts.0.1).1 in (
      (λ i. both_ways (white_in (loads past) b) (queued.0 (subst (λ n. In n (first_queue past)) (sym same) i)) facts.0.3),
      (λ i. both_ways (white_in (loads past) b) (queued.1 (subst (λ n. In n (second_queue past)) (sym same) i)) facts.0.3),
      subst (λ n. n < (world past).registered) same bound,
      facts.1,
    ))
    (order, stands)

loaded_fits : (past : Past) (value : ℕ) (o : Option Place) → next past ≡ o → Fits (at_begin past) (loads past) (world past)
    → Fits (at_begin past) (with_load (elim o as (λ _. Option ScanLoad) [ None ↦ None | Some place ↦ Some (scan_load past place value) ]) (loads past)) (world past)
loaded_fits past value None e fit = fit
loaded_fits past value (Some place) e fit = fits_load past place value e fit

-- an event that begins no scan
going_fits : (past : Past) (act : Act) (given : Answer) → Fits (at_begin past) (loads past) (world past)
    → Fits (at_begin past) (with_load (load_of past act given) (loads past)) (world_after_event (world past) (listing_ids past) act given)
unfolding world_after_act
going_fits past Step (Loaded a value) fit = loaded_fits past value (next past) refl fit
going_fits past act given fit = (
  fit.0,
  event_keeps (λ r bs s ts. Stands (first_queue past) (second_queue past) (loads past) r bs s ts) (stands_closed (first_queue past) (second_queue past) (loads past))
      (world past) (listing_ids past) act given fit.1,
)

begin_fits : (past : Past) (act : Act) (given : Answer) → Fits (at_begin past) (loads past) (world past)
    → Fits (moment past act given ∷ past) [] (world_after_event (world past) (listing_ids past) act given)
begin_fits past act given fit =
    let w = world_after_event (world past) (listing_ids past) act given in
    let kept = event_keeps (λ r bs s ts. Stands (first_queue past) (second_queue past) (loads past) r bs s ts) (stands_closed (first_queue past) (second_queue past) (loads past))
    (world past) (listing_ids past) act given fit.1 in
    subst (λ q. Order q [] [] × Stands q [] [] (world_after_event (world past) (listing_ids past) act given).registered (world_after_event (world past) (listing_ids past) act given).blocks
    (world_after_event (world past) (listing_ids past) act given).started (world_after_event (world past) (listing_ids past) act given).tasks)
    (sym (append-nil (needless (moment past act given ∷ past))))
    (fits_begin (world_after_event (world past) (listing_ids past) act given).blocks (world_after_event (world past) (listing_ids past) act given).registered
    (world_after_event (world past) (listing_ids past) act given).started (world_after_event (world past) (listing_ids past) act given).tasks kept.blocks_rise kept.tasks_rise)

pub fits_after : (past : Past) (act : Act) (given : Answer) → Fits (at_begin past) (loads past) (world past)
    → Fits (at_begin (moment past act given ∷ past)) (loads (moment past act given ∷ past)) (world (moment past act given ∷ past))
fits_after past act given fit =
    elim (begins act given) as (λ q. Fits (elim q as (λ _. Past) [ true ↦ moment past act given ∷ past | false ↦ at_begin past ])
    (elim q as (λ _. List ScanLoad) [ true ↦ [] | false ↦ with_load (load_of past act given) (loads past) ]) (world_after_event (world past) (listing_ids past) act given)) [
      | true ↦ begin_fits past act given fit
      | false ↦ going_fits past act given fit
    ]

-- at each moment the loads of the running or last scan are in order, and what stands fits them
pub fits : (h : History) → Fits (at_begin (past_of h)) (loads (past_of h)) (world (past_of h))
fits [] = fits_begin opening.blocks 1 0 [] (omega arith, omega arith) (omega arith)
fits (e ∷ h) = fits_after (past_of h) e.act e.answer (fits h)
