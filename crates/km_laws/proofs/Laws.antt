use Rattle.std.proofs.Common.{◌≡◌, ℕ, suc, ◌+◌, ◌<◌, ◌≤◌, Bool, true, false, ◌==◌, List, [], ◌∷◌, Option, Some, None, if◌then◌else◌, refl, sym, ap, subst, arith, inl, inr, eq-eqb}
use Rattle.std.proofs.lemmas.Bool.{and_from, both_ways}
use Rattle.km_base.specs.declared.acts.Act.TheVariants.{Step}
use Rattle.km_base.specs.declared.acts.Answer.TheVariants.{Loaded}
use Rattle.km_model.specs.Blocks.{Block}
use Rattle.km_model.specs.Tasks.{Task}
use Rattle.km_model.specs.Placement.{Allocation}
use Rattle.km_model.specs.Past.{Past, Place, ScanLoad, world, loads, last_load, with_load}
use Rattle.km_model.specs.Scan.{next, scan_load, first_queue, second_queue}
use Rattle.km_model.specs.Changes.{world_after_act}
use Rattle.km_model.specs.Follows.{moment, past_of}
use Rattle.km_laws.specs.Left.{left, left_of}
use Rattle.km_laws.specs.Placed.{AllocationsApart, InMemory, WholeWords}
use Rattle.km_laws.specs.Laws.{AllIsPlaced, NamesRise, goes_on, LoadsLower, NothingRaises, LeftIsBounded}
use Rattle.km_laws.proofs.Lists.{Each, Pairs, in_each, each_weaker, each_both, Rising, rising_in}
use Rattle.km_laws.proofs.Pages.{Sound, PagesApart, never_meet}
use Rattle.km_laws.proofs.Apart.{history_placed}
use Rattle.km_laws.proofs.Runs.{newest}
use Rattle.km_laws.proofs.Loads.{GoesOn}
use Rattle.km_laws.proofs.Falls.{load_falls, move_falls}
use Rattle.km_laws.proofs.Steps.{fits, next_good, last_is}
use Rattle.km_laws.proofs.Ends.{left_stays}
use Rattle.km_laws.proofs.Room.{left_bounded, room}

apart_of : (words : ℕ) (used : List Allocation) → Each (Sound words) used → Pairs PagesApart used → Pairs AllocationsApart used
apart_of words [] s p = tt
apart_of words (x ∷ used) s p =
    (each_both (Sound words) (PagesApart x) (AllocationsApart x) (λ y sy k. never_meet words x y s.0 sy k) used s.1 p.0, apart_of words used s.1 p.1)

pub all_is_placed : AllIsPlaced
all_is_placed words h size f =
    let p = history_placed words h size.0 f in
    record {
      allocations = each_weaker (Sound words) (λ (x : Allocation). (0 < x.size) × InMemory words x.start x.size × WholeWords x.start x.size) (λ x s. (s.0, s.1, s.3)) (world (past_of h)).used p.sound;
      allocations_apart = apart_of words (world (past_of h)).used p.sound p.pages;
      blocks = p.blocks_in;
      blocks_apart = p.blocks_apart;
      room = (let k = room words (world (past_of h)).used (world (past_of h)).blocks (world (past_of h)).tasks p in omega (arith, k));
      stacks = p.stacks_in;
      stacks_apart = p.stacks_apart;
    }

rising_pairs : {X : Type 0} (key : X → ℕ) (xs : List X) (low high : ℕ) → Rising key low xs high → Pairs (λ x y. key x < key y) xs
rising_pairs key [] low high r = tt
rising_pairs key (x ∷ xs) low high r =
    (in_each (λ y. key x < key y) xs (λ y i. (rising_in key xs (suc (key x)) high y r.1 i).0), rising_pairs key xs (suc (key x)) high r.1)

pub names_rise : NamesRise
names_rise h =
    let s = (fits h).1 in
    record {
      ids = rising_pairs (λ (b : Block). b.id) (world (past_of h)).blocks 0 (world (past_of h)).registered s.blocks_rise;
      registered = in_each (λ (b : Block). b.id < (world (past_of h)).registered) (world (past_of h)).blocks
          (λ b i. (rising_in (λ (b : Block). b.id) (world (past_of h)).blocks 0 (world (past_of h)).registered b s.blocks_rise i).1);
      numbers = rising_pairs (λ (t : Task). t.number) (world (past_of h)).tasks 0 ((world (past_of h)).started + 1) s.tasks_rise;
      started = in_each (λ (t : Task). t.number ≤ (world (past_of h)).started) (world (past_of h)).tasks
          (λ t i. let k = (rising_in (λ (t : Task). t.number) (world (past_of h)).tasks 0 ((world (past_of h)).started + 1) t s.tasks_rise i).1 in omega (arith, k));
    }

going : (ls : List ScanLoad) (place : Place) → GoesOn ls place → goes_on (newest ls) place ≡ true
going [] place g = absurd g
going (l ∷ ls) place g = and_from (place.phase == l.place.phase) (place.holder == l.place.holder) (eq-eqb place.phase l.place.phase g.0) (eq-eqb place.holder l.place.holder g.1)

-- the load that a step makes, and what stands after it
stepped : (past : Past) (place : Place) (value : ℕ) → next past ≡ Some place
    → left (moment past Step (Loaded place.word value) ∷ past) ≡ suc (left_of (scan_load past place value ∷ loads past) (world past).blocks (world past).tasks)
unfolding world_after_act
stepped past place value e =
    ap (λ o. suc (left_of (with_load (elim o as (λ _. Option ScanLoad) [ None ↦ None | Some p ↦ Some (scan_load past p value) ]) (loads past))
    (world past).blocks (world past).tasks)) e

pub loads_lower : LoadsLower
loads_lower h place value e =
    let past = past_of h in
    let good = next_good (past_of h) place (fits h) e in
    let l = scan_load (past_of h) place value in
    let after = stepped (past_of h) place value e in
    let P = λ (q : Bool). goes_on (last_load (past_of h)) place ≡ q → left (moment (past_of h) Step (Loaded place.word value) ∷ past_of h) + (if q then 1 else 2) ≤ left (past_of h) in
    elim (goes_on (last_load (past_of h)) place) as P [
      | true ↦ λ g.
          let k = load_falls (first_queue (past_of h)) (second_queue (past_of h)) (scan_load (past_of h) place value) (loads (past_of h)) (world (past_of h)).blocks (world (past_of h)).tasks good in
          omega (arith, k, after)
      | false ↦ λ g.
          elim (move_falls (first_queue (past_of h)) (second_queue (past_of h)) (scan_load (past_of h) place value) (loads (past_of h)) (world (past_of h)).blocks (world (past_of h)).tasks good) [
            | inl on ↦ absurd (both_ways (goes_on (last_load (past_of h)) place) g (subst (λ o. goes_on o place ≡ true) (sym (last_is (past_of h))) (going (loads (past_of h)) place on)))
            | inr k ↦ omega (arith, k, after)
          ]
    ] refl

pub nothing_raises : NothingRaises
nothing_raises h act given e r s = left_stays h act given e (r, s)

pub left_is_bounded : LeftIsBounded
left_is_bounded words h size f = left_bounded words h size f
