-- The stores behind an allocation: a block is cleared word by word, and a head and its slot are written.
use Rattle.std.proofs.Common.{◌≡◌, ℕ, zero, suc, ◌+◌, ◌*◌, ◌/◌, ◌%◌, ◌<◌, ◌≤◌, ◌^◌, Bool, true, false, ◌==◌, List, [], ◌∷◌, ◌++◌, length, map, take, get_or, Option, Some, None, Result, refl, ap, sym, subst, ◌∙◌, arith, if◌then◌else◌}
use Rattle.std.proofs.Math.Nat.{mod-eq_of_lt}
use Rattle.std.proofs.lemmas.Bool.Decides.{nat_tests}
use Rattle.km_base.specs.declared.acts.Act.{Act}
use Rattle.km_base.specs.declared.acts.Act.TheVariants as act
use Rattle.km_base.specs.declared.acts.Answer.{Answer}
use Rattle.km_base.specs.declared.acts.Answer.TheVariants.{At}
use Rattle.km_base.specs.declared.acts.Refusal.TheVariants.{BadSize, NoSlot}
use Rattle.km_edge.specs.declared.errors.Failed.{Failed}
use Rattle.km_edge.specs.Streams.{SinkState}
use Rattle.km_model.specs.World.{World, next_block, with_allocation, with_block}
use Rattle.km_model.specs.Past.{world}
use Rattle.km_model.specs.History.{History}
use Rattle.km_model.specs.Memory.{base, words_from}
use Rattle.km_model.specs.Placement.{Allocation, HeadBlock, Use, pages_for, slot_of_area, area_place, head_with, lowest_slot, kmalloc_place, kmalloc_span, kmalloc_use}
use Rattle.km_model.specs.Changes.{world_after_act}
use Rattle.km_model.specs.Answers.{answer, at_place, is_bad_size, unless}
use Rattle.km_model.specs.Follows.{Run, Follows, all_happen, happens, past_of}
use Rattle.km_model.specs.Expansion.{head_stores, slot_word, stores_from}
use Rattle.km_model.proofs.Lists.{each_in, each_weaker, in_push_right}
use Rattle.km_laws.specs.Placed.{InMemory, WholeWords}
use Rattle.km_laws.specs.Laws.{IsPlaced}
use Rattle.km_laws.specs.Members.{Each}
use Rattle.km_laws.proofs.Laws.{all_is_placed}
use Rattle.km_machine.specs.Machines.{Simulation, For, Spent}
use Rattle.km_machine.specs.Lines.{Gave, SoFar}
use Rattle.km_machine.specs.Sayings.{Saying}
use Rattle.km_machine.proofs.Lines.{happen_append}

-- the allocations with a new block's
used_with : (w : World) (asked start : ℕ) → (with_block (with_allocation w (kmalloc_use asked) start (kmalloc_span asked)) start (kmalloc_span asked) 1 None).used
    ≡ w.used ++ record { «use» = kmalloc_use asked; start = start; size = kmalloc_span asked } ∷ []
used_with w asked start =
    let made = with_allocation w (kmalloc_use asked) start (kmalloc_span asked) in
    either w.enabled (record made { registered = made.registered + 1; blocks = made.blocks ++ next_block made start (kmalloc_span asked) 1 None ∷ [] }) made refl where
      either : (b : Bool) (x y : World) → x.used ≡ y.used → (if b then x else y).used ≡ y.used
      either true x y e = e
      either false x y e = refl

used_after : (h : History) (asked start : ℕ) → (world (past_of (record { act = act.Kmalloc asked; answer = At start } ∷ h))).used
    ≡ (world (past_of h)).used ++ record { «use» = kmalloc_use asked; start = start; size = kmalloc_span asked } ∷ []
unfolding world_after_act
used_after h asked start = used_with (world (past_of h)) asked start

-- a block lies in the memory
block_within : (words asked start : ℕ) (h : History) → IsPlaced words (world (past_of (record { act = act.Kmalloc asked; answer = At start } ∷ h))) → start + kmalloc_span asked ≤ base + 8 * words
block_within words asked start h p =
    let x : Allocation = record { «use» = kmalloc_use asked; start = start; size = kmalloc_span asked } in
    let each = subst (λ used. Each (λ (x : Allocation). (0 < x.size) × InMemory words x.start x.size × WholeWords x.start x.size) used) (used_after h asked start) p.allocations in
    (each_in (λ (x : Allocation). (0 < x.size) × InMemory words x.start x.size × WholeWords x.start x.size) _ x each (in_push_right (world (past_of h)).used x)).1.1

-- what was given was asked for by a size that there is
sized : (limit asked start : ℕ) (x : Answer) (b : Bool) → is_bad_size limit asked ≡ b → At start ≡ unless b BadSize x → asked ≤ limit
sized limit asked start x true size e = absurd (let z : ⊥ = cc in z)
sized limit asked start x false size e = grind (arith, nat_tests)

asked_few : (words asked start value : ℕ) (h : History) → At start ≡ answer words (past_of h) (act.Kmalloc asked) value → asked ≤ 32768
unfolding answer
asked_few words asked start value h e = sized 32768 asked start (at_place (kmalloc_place words (world (past_of h)).used asked)) (is_bad_size 32768 asked) refl e

area_few : (words asked start value : ℕ) (h : History) → At start ≡ answer words (past_of h) (act.VmTake asked) value → asked ≤ 1048576
unfolding answer
area_few words asked start value h e = sized 1048576 asked start
    (unless (lowest_slot (world (past_of h)).used == 512) NoSlot (at_place (area_place words (world (past_of h)).used asked))) (is_bad_size 1048576 asked) refl e

pub area_asked : (machine : Simulation) (run : Run) (asked start : ℕ) → For machine run → Gave (act.VmTake asked) start run.history → asked ≤ 1048576
area_asked machine run asked start f b = area_few machine.core.parts.words asked start 0 b.before ((subst (λ x. Follows machine.core.parts.words x) b.newest f.stands.follows).0)

pub record Within (words asked start : ℕ) : Type 0 where
  pub end : start + kmalloc_span asked ≤ base + 8 * words
  pub few : asked ≤ 32768
  pub memory : words ≤ 4194304

pub block_in : (machine : Simulation) (run : Run) (asked start : ℕ) → For machine run → Gave (act.Kmalloc asked) start run.history → Within machine.core.parts.words asked start
block_in machine run asked start f b = record {
  end = block_within machine.core.parts.words asked start b.before (subst (λ x. IsPlaced machine.core.parts.words (world (past_of x))) b.newest (all_is_placed machine.core.parts.words run.history f.size f.stands.follows));
  few = asked_few machine.core.parts.words asked start 0 b.before ((subst (λ x. Follows machine.core.parts.words x) b.newest f.stands.follows).0);
  memory = f.size.1;
}

-- the stores that clear so many words
abbrev pub zeros : ℕ → ℕ → List Act
zeros start n = map (λ b. act.Store b 0) (words_from n start)

one_zero : (run : Run) (n start : ℕ) → happens (all_happen run (zeros start n)) (act.Store (start + 8 * n) 0) ≡ all_happen run (zeros start (suc n))
one_zero run zero start = let e : start + 8 * 0 ≡ start = omega arith in ap (λ a. happens run (act.Store a 0)) e
one_zero run (suc n) start =
    (let e : start + 8 * suc n ≡ (start + 8) + 8 * n = omega arith in ap (λ a. happens (all_happen run (zeros start (suc n))) (act.Store a 0)) e)
    ∙ one_zero (happens run (act.Store start 0)) n (start + 8)

-- so many words of a block were cleared
pub record Cleared (says : Saying) (asked start n : ℕ) (machine next : Simulation) (k' k'' : SinkState) (written result : Result (Unit {0}) Failed) : Type 0 where
  pub spent : Spent machine next n 0
  pub so_far : (first run : Run) (k : SinkState) → Gave (act.Kmalloc asked) start run.history → SoFar says first run machine k k' written
      → SoFar says first (all_happen run (zeros start n)) next k k'' result

-- one event more
spent_on : (machine next third : Simulation) (n : ℕ) → Spent machine next n 0 → Spent next third 1 0 → Spent machine third (n + 1) 0
spent_on machine next third n s one = record {
  size = one.size ∙ s.size;
  words = one.words ∙ s.words;
  events = (let a = s.events in let b = one.events in omega (arith, a, b));
  moment = (let a = s.moment in let b = one.moment in omega (arith, a, b));
}

-- a word of a block has an address
word_address : (words asked start n : ℕ) → Within words asked start → n < kmalloc_span asked / 8 → (start + 8 * n) % 2 ^ 64 ≡ start + 8 * n
word_address words asked start n w low = (let a = w.end in let b = w.memory in grind (arith, a, b, low))

pub one_cleared : (says : Saying) (asked start n w : ℕ) (machine next third : Simulation) (k' k'' k''' : SinkState) (written between result : Result (Unit {0}) Failed)
    → Cleared says asked start n machine next k' k'' written between → (asked ≤ 32768 → n < kmalloc_span asked / 8) → w ≡ (start + 8 * n) % 2 ^ 64
    → ((first run : Run) (k : SinkState) → SoFar says first run next k k'' between → SoFar says first (happens run (act.Store w 0)) third k k''' result)
    → Spent next third 1 0 → Cleared says asked start (n + 1) machine third k' k''' written result
one_cleared says asked start n w machine next third k' k'' k''' written between result cleared low is more spent = record {
  spent = spent_on machine next third n cleared.spent spent;
  so_far = λ first run k block s.
      let within = block_in machine run asked start s.stands block in
      let address = is ∙ word_address machine.core.parts.words asked start n within (low within.few) in
      let next_is : happens (all_happen run (zeros start n)) (act.Store w 0) ≡ all_happen run (zeros start (n + 1)) =
      ap (λ a. happens (all_happen run (zeros start n)) (act.Store a 0)) address ∙ one_zero run n start ∙ (let e : suc n ≡ n + 1 = omega arith in ap (λ m. all_happen run (zeros start m)) e) in
      subst (λ x. SoFar says first x third k k''' result) next_is (more first (all_happen run (zeros start n)) k (cleared.so_far first run k block s));
}

-- the head of a live area lies in the memory
head_step : (P : ℕ → Type 0) (u : Use) (s start head : ℕ) (rest : Option ℕ) → P start → (rest ≡ Some head → P head)
    → (elim u as (λ _. Option ℕ) [ HeadBlock t ↦ if t == s then Some start else rest | _ ↦ rest ]) ≡ Some head → P head
head_step P (HeadBlock t) s start head rest here there e = by_slot (t == s) e where
  by_slot : (b : Bool) → (if b then Some start else rest) ≡ Some head → P head
  by_slot true e = let is : start ≡ head = cc in subst P is here
  by_slot false e = there e
head_step P u s start head rest here there e = there e

head_holds : (P : ℕ → Type 0) (used : List Allocation) (s head : ℕ) → Each (λ (x : Allocation). P x.start) used → head_with used s ≡ Some head → P head
head_holds P [] s head each e = absurd (let z : ⊥ = cc in z)
head_holds P (x ∷ used) s head each e = head_step P x.«use» s x.start head (head_with used s) each.0 (head_holds P used s head each.1) e

pub head_low : (machine : Simulation) (run : Run) (s head : ℕ) → For machine run → head_with (world (past_of run.history)).used s ≡ Some head → head + 64 ≤ 2 ^ 64
head_low machine run s head f e =
    head_holds (λ a. a + 64 ≤ 2 ^ 64) (world (past_of run.history)).used s head
    (each_weaker (λ (x : Allocation). (0 < x.size) × InMemory machine.core.parts.words x.start x.size × WholeWords x.start x.size) (λ (x : Allocation). x.start + 64 ≤ 2 ^ 64)
    (λ x p. let a = p.1.1 in let b = f.size.1 in omega (arith, a, b)) (world (past_of run.history)).used (all_is_placed machine.core.parts.words run.history f.size f.stands.follows).allocations) e

-- so many values were stored
pub record Filled (says : Saying) (start : ℕ) (values : List ℕ) (n : ℕ) (machine next : Simulation) (k' k'' : SinkState) (written result : Result (Unit {0}) Failed) : Type 0 where
  pub spent : Spent machine next n 0
  pub so_far : (first run : Run) (k : SinkState) → start + 64 ≤ 2 ^ 64 → SoFar says first run machine k k' written
      → SoFar says first (all_happen run (stores_from start (take n values))) next k k'' result

one_store : (run : Run) (n start : ℕ) (values : List ℕ) → n < length values
    → happens (all_happen run (stores_from start (take n values))) (act.Store (start + 8 * n) (get_or values n 0)) ≡ all_happen run (stores_from start (take (suc n) values))
one_store run n start [] low = absurd (omega (arith, low))
one_store run zero start (v ∷ vs) low = let e : start + 8 * 0 ≡ start = omega arith in ap (λ a. happens run (act.Store a v)) e
one_store run (suc n) start (v ∷ vs) low =
    (let e : start + 8 * suc n ≡ (start + 8) + 8 * n = omega arith in ap (λ a. happens (all_happen run (stores_from start (take (suc n) (v ∷ vs)))) (act.Store a (get_or vs n 0))) e)
    ∙ one_store (happens run (act.Store start v)) n (start + 8) vs (omega (arith, low))

pub one_filled : (says : Saying) (start : ℕ) (values : List ℕ) (n w : ℕ) (machine next third : Simulation) (k' k'' k''' : SinkState) (written between result : Result (Unit {0}) Failed)
    → length values ≤ 8 → n < length values → Filled says start values n machine next k' k'' written between → w ≡ (start + 8 * n) % 2 ^ 64
    → ((first run : Run) (k : SinkState) → SoFar says first run next k k'' between → SoFar says first (happens run (act.Store w (get_or values n 0))) third k k''' result)
    → Spent next third 1 0 → Filled says start values (n + 1) machine third k' k''' written result
one_filled says start values n w machine next third k' k'' k''' written between result few low filled is more spent = record {
  spent = spent_on machine next third n filled.spent spent;
  so_far = λ first run k end s.
      let small : start + 8 * n < 2 ^ 64 = omega (arith, few, low, end) in
      let address : w ≡ start + 8 * n = is ∙ mod-eq_of_lt small in
      let next_is : happens (all_happen run (stores_from start (take n values))) (act.Store w (get_or values n 0)) ≡ all_happen run (stores_from start (take (n + 1) values)) =
      ap (λ a. happens (all_happen run (stores_from start (take n values))) (act.Store a (get_or values n 0))) address ∙ one_store run n start values low
      ∙ (let e : suc n ≡ n + 1 = omega arith in ap (λ m. all_happen run (stores_from start (take m values))) e) in
      subst (λ x. SoFar says first x third k k''' result) next_is (more first (all_happen run (stores_from start (take n values))) k (filled.so_far first run k end s));
}

-- a new area's head and slot
abbrev pub head_values : ℕ → ℕ → List ℕ
head_values a bytes = 0 ∷ a ∷ bytes ∷ 0 ∷ 0 ∷ 0 ∷ 0 ∷ 0 ∷ []

pub head_made : (P : Run → Type 0) (w : World) (run : Run) (size a slot head : ℕ) → Some slot ≡ slot_of_area w.used a → head_with w.used slot ≡ Some head
    → P (happens (all_happen run (stores_from head (head_values a (4096 * pages_for size)))) (act.Store (slot_word slot) head)) → P (all_happen run (head_stores w size a))
head_made P w run size a slot head slot_is head_is p =
    let values = head_values a (4096 * pages_for size) in
    subst (λ o. P (all_happen run (elim o as (λ _. List Act) [
      | None ↦ []
      | Some s ↦ elim (head_with w.used s) as (λ _. List Act) [ None ↦ [] | Some b ↦ stores_from b values ++ act.Store (slot_word s) b ∷ [] ]
    ]))) slot_is
    (subst (λ o. P (all_happen run (elim o as (λ _. List Act) [ None ↦ [] | Some b ↦ stores_from b values ++ act.Store (slot_word slot) b ∷ [] ]))) (sym head_is)
    (subst P (sym (happen_append run (stores_from head values) (act.Store (slot_word slot) head ∷ []))) p))
