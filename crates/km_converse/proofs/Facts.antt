use Rattle.std.proofs.Common.{◌≡◌, ℕ, ◌+◌, ◌*◌, ◌≤◌, ◌<◌, ◌==◌, Bool, true, false, ◌||◌, nat_le, nat_lt, List, [], ◌∷◌, Option, Some, None, refl, sym, ◌∙◌, ap, subst, arith, ◌⊎◌, inl, inr, eq-eqb, leb-true, ltb-true, not, ◌++◌, if◌then◌else◌}
use Rattle.std.proofs.lemmas.Bool.{both_ways, and_parts}
use Rattle.km_model.specs.Blocks.{contains}
use Rattle.km_model.specs.Tasks.{Task}
use Rattle.km_model.specs.Scan.{tally_in, changed_in}
use Rattle.km_model.specs.Verdict.{listing_ids}
use Rattle.km_model.proofs.Cases.{elim_false}
use Rattle.km_model.proofs.Worlds.{Closed, event_keeps}
use Rattle.km_model.proofs.Whites.{white_by}
use Rattle.km_model.specs.History.{Event, History}
use Rattle.km_model.specs.Memory.{base}
use Rattle.km_model.specs.Blocks.{Block, Minimum}
use Rattle.km_model.specs.Placement.{Allocation, Use, SlotTable, StackPage, BootRun}
use Rattle.km_model.specs.Past.{Place, ScanLoad, world, loads}
use Rattle.km_model.specs.Scan.{next, ripe_in}
use Rattle.km_model.specs.Follows.{past_of}
use Rattle.km_laws.specs.Placed.{BlockPlaced, StackPlaced}
use Rattle.km_laws.proofs.Lists.{In, Each, each_in, each_push, each_filter, each_map, in_push_cases, rising_in}
use Rattle.km_laws.proofs.Placings.{one_with}
use Rattle.km_laws.proofs.Apart.{PlacedIn}
use Rattle.km_laws.proofs.Since.{IsAnswered}
use Rattle.km_laws.proofs.Steps.{fits, next_good, ripe_facts}
use Rattle.km_model.proofs.Whites.{white_in}
use Rattle.km_converse.proofs.Slots.{slot_area}
use Rattle.km_converse.proofs.Links.{AreDistinct, HeadsFit, HeadsKept, PlaceFits}
use Rattle.km_converse.proofs.Headed.{IsPainted, heads_fit, heads_kept}
use Rattle.km_converse.proofs.Acts.{placed, headed, stepped}
use Rattle.km_converse.proofs.Places.{loads_hold, TableFits, place_fits, word_inside, distinct}

pub distinct_now : (words : ℕ) (h : History) → IsAnswered words h → AreDistinct (world (past_of h)).blocks
distinct_now words h a = distinct (words + 512) h (placed words h a)

pub heads_now : (words : ℕ) (h : History) → IsAnswered words h → HeadsFit (world (past_of h))
heads_now words h a = heads_fit (words + 512) (world (past_of h)) (placed words h a) (distinct_now words h a) (headed words h a)

pub below_registered : (h : History) (b : Block) → In b (world (past_of h)).blocks → b.id < (world (past_of h)).registered
below_registered h b i = (rising_in (λ (x : Block). x.id) (world (past_of h)).blocks 0 (world (past_of h)).registered b (fits h).1.blocks_rise i).1

pub heads_step : (words : ℕ) (e : Event) (h : History) → IsAnswered words (e ∷ h) → HeadsKept (world (past_of h)) (world (past_of (e ∷ h)))
heads_step words e h a =
    heads_kept (words + 512) (world (past_of h)) (world (past_of (e ∷ h))) (placed words h a.1) (placed words (e ∷ h) a) (distinct_now words h a.1) (distinct_now words (e ∷ h) a)
    (headed words h a.1) (headed words (e ∷ h) a) (below_registered h) (stepped words e h a)

-- a painted block isn't white
painted_grey : (ls : List ScanLoad) (b : Block) → IsPainted b.minimum → white_in ls b ≡ true → ⊥
painted_grey ls b p w = go (tally_in ls b.id) (changed_in ls b.id) b.minimum p w
  where
    go : (t : ℕ) (c : Bool) (m : Minimum) → IsPainted m → white_by t c m ≡ true → ⊥
    go t c m (inl grey) e = let lt : t < 0 = ltb-true t 0 (and_parts (nat_lt t 0) (not c) (subst (λ k. white_by t c k ≡ true) grey e)).0 in omega (arith, lt)
    go t c m (inr black) e = elim_false (subst (λ k. white_by t c k ≡ true) black e)

-- the first block, the table of slots, needs no reference
abbrev IsNeedless : Block → Type 0
IsNeedless b = b.id ≡ 0 → IsPainted b.minimum

needless_closed : Closed (λ r bs s ts. (1 ≤ r) × Each IsNeedless bs)
needless_closed = record {
  registered = λ r s bs ts b e k. (omega (arith, k.0), each_push IsNeedless bs b k.1 (λ z. absurd (omega (arith, k.0, e, z))));
  fewer = λ r s bs ts test k. (k.0, each_filter IsNeedless test bs k.1);
  none = λ r s bs ts k. (k.0, tt);
  changed = λ r s bs ts change tame k. (k.0, each_map IsNeedless IsNeedless change (λ b n z. still b.minimum (change b).minimum (tame b).3 (n (sym (tame b).0 ∙ z))) bs k.1);
  started = λ r s bs ts t e k. k;
  gone = λ r s bs ts test k. k;
  set = λ r s bs ts change same k. k;
}
  where
    still : (m n : Minimum) → (n ≡ m) ⊎ IsPainted n → IsPainted m → IsPainted n
    still m n (inl same) (inl grey) = inl (same ∙ grey)
    still m n (inl same) (inr black) = inr (same ∙ black)
    still m n (inr painted) p = painted

needless_now : (h : History) → (1 ≤ (world (past_of h)).registered) × Each IsNeedless (world (past_of h)).blocks
needless_now [] = (omega arith, ((λ z. inl refl), tt))
needless_now (e ∷ h) = event_keeps (λ r bs s ts. (1 ≤ r) × Each IsNeedless bs) needless_closed (world (past_of h)) (listing_ids (past_of h)) e.act e.answer (needless_now h)

-- no load makes it ripe
abbrev NotRipe : List ScanLoad → Type 0
NotRipe ls = (l : ScanLoad) → In l ls → l.ripe ≡ Some 0 → ⊥

not_ripe : (h : History) → NotRipe (loads (past_of h))
not_ripe h =
    loads_hold (λ _. Unit {0}) (λ _ _ _. tt) NotRipe (λ l i. absurd i)
    (λ g place value _ e old l i f. elim i [
      | inl same ↦
          let k = ripe_facts (past_of g) place value 0 (fits g) (next_good (past_of g) place (fits g) e) (subst (λ (y : ScanLoad). y.ripe ≡ Some 0) same f) in
          painted_grey (loads (past_of g)) k.0.0 (each_in IsNeedless (world (past_of g)).blocks k.0.0 (needless_now g).1 k.0.1 k.0.2) k.0.3
      | inr j ↦ old l j f
    ]) h tt

-- what is in a queue was made ripe
ripe_load : (p q n : ℕ) (ls : List ScanLoad) → In n (ripe_in p q ls) → (l : ScanLoad) × In l ls × (l.ripe ≡ Some n)
ripe_load p q n [] i = absurd i
ripe_load p q n (l ∷ ls) i = go (λ j. let k = ripe_load p q n ls j in (k.0, inr k.1, k.2)) l.ripe (l.place.phase == p || l.place.phase == q) refl i
  where
    go : (In n (ripe_in p q ls) → (k : ScanLoad) × In k (l ∷ ls) × (k.ripe ≡ Some n)) → (o : Option ℕ) (r : Bool) → l.ripe ≡ o → In n (elim o as (λ _. List ℕ) [ None ↦ ripe_in p q ls | Some id ↦ if r then ripe_in p q ls ++ id ∷ [] else ripe_in p q ls ])
        → (k : ScanLoad) × In k (l ∷ ls) × (k.ripe ≡ Some n)
    go later None r e j = later j
    go later (Some id) false e j = later j
    go later (Some id) true e j = elim (in_push_cases (ripe_in p q ls) n id j) [ inl k ↦ later k | inr same ↦ (l, inl refl, e ∙ ap (λ (m : ℕ). Some m) (sym same)) ]

-- a word of the table of slots
in_table : (z slot : ℕ) → slot < 512 → (z ≤ z + 8 * slot) × (z + 8 * slot < z + 4096)
in_table z slot lt = (omega arith, omega (arith, lt))

pub table_now : (words : ℕ) (h : History) (place : Place) → IsAnswered words h → next (past_of h) ≡ Some place → TableFits (past_of h) place
table_now words h place a e b i slot counts =
    elim (next_good (past_of h) place (fits h) e) [
      | inl g ↦ absurd (stack g.1 g.2 g.4 g.5 g.6)
      | inr more ↦ elim more [
        | inl g ↦ (g.0, sym g.3 ∙ held g.1 g.2 (word_inside g.1 g.4 place.word g.5 g.6))
        | inr rest ↦ elim rest [
          | inl g ↦ absurd (both_ways (place.phase == 3) counts (eq-eqb place.phase 3 g.0))
          | inr g ↦ absurd (
              let zero : place.holder ≡ 0 = sym g.3 ∙ held g.1 g.2 (word_inside g.1 g.4 place.word g.5 g.6) in
              let l = ripe_load 3 4 place.holder (loads (past_of h)) g.8 in
              not_ripe h l.0 l.1 (l.2 ∙ ap (λ (n : ℕ). Some n) zero))
        ]
      ]
    ]
  where
    p : PlacedIn (words + 512) (world (past_of h))
    p = placed words h a

    -- the table has the word
    the_table : (t : Allocation) × In t (world (past_of h)).used × (t.«use» ≡ SlotTable) × (t.start ≡ base) × (t.start ≤ place.word) × (place.word < t.start + t.size)
    the_table =
        let slots = (headed words h a).slots in
        let y = slot_area (world (past_of h)).used b.start slot.slot slot.taken in
        let t = slots.table in
        let k = in_table t.0.start slot.slot (slots.low y.0 slot.slot y.1 y.3) in
        let word : place.word ≡ t.0.start + 8 * slot.slot = slot.word ∙ ap (λ n. n + 8 * slot.slot) (sym t.3) in
        let size : t.0.size ≡ 4096 = t.4 in
        let lo : t.0.start ≤ t.0.start + 8 * slot.slot = k.0 in
        let hi : t.0.start + 8 * slot.slot < t.0.start + 4096 = k.1 in
        (t.0, t.1, t.2, t.3, omega (arith, word, lo), omega (arith, word, hi, size))

    not_stack : (u : Use) → u ≡ SlotTable → (elim u as (λ _. Bool) [ StackPage ↦ true | _ ↦ false ]) ≡ true → ⊥
    not_stack u f g = elim_false (ap (λ (x : Use). elim x as (λ _. Bool) [ StackPage ↦ true | _ ↦ false ]) (sym f) ∙ g)

    not_boot : (u : Use) → u ≡ SlotTable → (elim u as (λ _. Bool) [ BootRun ↦ true | _ ↦ false ]) ≡ true → ⊥
    not_boot u f g = elim_false (ap (λ (x : Use). elim x as (λ _. Bool) [ BootRun ↦ true | _ ↦ false ]) (sym f) ∙ g)

    stack : (t : Task) → In t (world (past_of h)).tasks → (n : ℕ) → n < 512 → place.word ≡ t.stack + 8 * n → ⊥
    stack t j n lt f =
        let s = each_in (StackPlaced (world (past_of h)).used) (world (past_of h)).tasks t p.stacks_in j in
        let k = the_table in
        let start : s.0.start ≡ t.stack = s.3 in
        let size : s.0.size ≡ 4096 = s.4 in
        let same : s.0 ≡ k.0 = one_with (words + 512) (world (past_of h)).used (world (past_of h)).blocks (world (past_of h)).tasks s.0 k.0 place.word p s.1 k.1 (omega (arith, start, f)) (omega (arith, start, size, f, lt)) k.4 k.5 in
        not_stack s.0.«use» (ap (λ (x : Allocation). x.«use») same ∙ k.2) s.2

    held : (c : Block) → In c (world (past_of h)).blocks → contains place.word c ≡ true → c.id ≡ 0
    held c j inside =
        let x = each_in (BlockPlaced (world (past_of h)).used) (world (past_of h)).blocks c p.blocks_in j in
        let k = the_table in
        let parts = and_parts (nat_le c.start place.word) (nat_lt place.word (c.start + c.size)) inside in
        let low : c.start ≤ place.word = leb-true c.start place.word parts.0 in
        let high : place.word < c.start + c.size = ltb-true place.word (c.start + c.size) parts.1 in
        let x_low : x.0.start ≤ c.start = x.3 in
        let x_high : c.start + c.size ≤ x.0.start + x.0.size = x.4 in
        let same : x.0 ≡ k.0 = one_with (words + 512) (world (past_of h)).used (world (past_of h)).blocks (world (past_of h)).tasks x.0 k.0 place.word p x.1 k.1 (omega (arith, low, x_low)) (omega (arith, high, x_high)) k.4 k.5 in
        elim x.5 [
          | inl start ↦ (((headed words h a).kinds c j).table (start ∙ (ap (λ (y : Allocation). y.start) same ∙ k.3))).0
          | inr boot ↦ absurd (not_boot x.0.«use» (ap (λ (y : Allocation). y.«use») same ∙ k.2) boot)
        ]

-- the place of the next load
pub place_now : (words : ℕ) (h : History) (place : Place) → IsAnswered words h → next (past_of h) ≡ Some place → PlaceFits (past_of h) place
place_now words h place a e = place_fits (words + 512) h place (placed words h a) e (table_now words h place a e)
