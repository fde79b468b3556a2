use Rattle.std.proofs.Common.{◌≡◌, ℕ, eqb-true, ◌+◌, ◌*◌, ◌/◌, ◌≤◌, ◌<◌, ◌==◌, true, false, ◌&&◌, nat_le, nat_lt, List, [], ◌∷◌, Option, Some, None, suc, if◌then◌else◌, refl, sym, ◌∙◌, subst, arith, ◌⊎◌, inl, inr, leb-true, ltb-true, lt-ltb, le-leb}
use Rattle.std.proofs.lemmas.Bool.{and_parts, and_from, or_from, false_from_ne_true}
use Rattle.km_base.specs.declared.acts.Act.{Act}
use Rattle.km_base.specs.declared.acts.Act.TheVariants.{Step}
use Rattle.km_base.specs.declared.acts.Answer.{Answer}
use Rattle.km_base.specs.declared.acts.Answer.TheVariants.{Loaded}
use Rattle.km_model.specs.History.{Event, History}
use Rattle.km_model.specs.Blocks.{Block, contains, option_is, block_of}
use Rattle.km_model.specs.Tasks.{Task}
use Rattle.km_model.specs.Placement.{Allocation}
use Rattle.km_model.specs.World.{World}
use Rattle.km_model.specs.Past.{Past, Place, ScanLoad, world, loads, with_load, begins}
use Rattle.km_model.specs.Scan.{scan_load, load_of, next, changed_in, found_changed, first_queue, second_queue, phase_of, differs, kept_sum, last_word, sum_step, sum_so_far}
use Rattle.km_model.specs.Follows.{past_of}
use Rattle.km_model.proofs.Cases.{none_some, if_some}
use Rattle.km_laws.specs.Left.{made}
use Rattle.km_laws.specs.Placed.{BlockPlaced, StackPlaced, is_tracked}
use Rattle.km_laws.proofs.Placings.{one_with, one_block}
use Rattle.km_laws.proofs.Lists.{In, each_in, rising_unique}
use Rattle.km_laws.proofs.Runs.{newest, made_same, made_more}
use Rattle.km_laws.proofs.Loads.{GoesOn, Good, GoodGrey}
use Rattle.km_laws.proofs.Steps.{fits, next_good}
use Rattle.km_laws.proofs.Apart.{PlacedIn, stack_kind}
use Rattle.km_converse.proofs.Hits.{IsSlotWord}
use Rattle.km_laws.proofs.Hits.{option_here}
use Rattle.km_converse.proofs.Links.{IsGrey, AreDistinct, PlaceFits}
use Rattle.km_converse.proofs.Headed.{sized}

-- what holds of no loads and is kept by each load of a scan holds of the loads at each moment of histories with a property that earlier ones have too
module _ (Rel : History → Type 0) (earlier : (e : Event) (h : History) → Rel (e ∷ h) → Rel h) (P : List ScanLoad → Type 0) (none : P [])
    (more : (h : History) (place : Place) (value : ℕ) → Rel h → next (past_of h) ≡ Some place → P (loads (past_of h)) → P (scan_load (past_of h) place value ∷ loads (past_of h))) where
  step_holds : (h : History) (value : ℕ) (o : Option Place) → Rel h → next (past_of h) ≡ o → P (loads (past_of h))
      → P (with_load (elim o as (λ _. Option ScanLoad) [ None ↦ None | Some place ↦ Some (scan_load (past_of h) place value) ]) (loads (past_of h)))
  step_holds h value None r e old = old
  step_holds h value (Some place) r e old = more h place value r e old

  going_holds : (h : History) (act : Act) (given : Answer) → Rel h → P (loads (past_of h)) → P (with_load (load_of (past_of h) act given) (loads (past_of h)))
  going_holds h Step (Loaded a value) r old = step_holds h value (next (past_of h)) r refl old
  going_holds h act given r old = old

  pub loads_hold : (h : History) → Rel h → P (loads (past_of h))
  loads_hold [] r = none
  loads_hold (e ∷ h) r =
      let old = loads_hold h (earlier e h r) in
      elim (begins e.act e.answer) as (λ q. P (elim q as (λ _. List ScanLoad) [ true ↦ [] | false ↦ with_load (load_of (past_of h) e.act e.answer) (loads (past_of h)) ])) [
        | true ↦ none
        | false ↦ going_holds h e.act e.answer (earlier e h r) old
      ]

abbrev Any : History → Type 0
Any h = Unit {0}

-- the words that the grey phases load for one holder rise
abbrev pub GreyRise : List ScanLoad → Type 0
GreyRise [] = Unit {0}
GreyRise (l ∷ ls) = (IsGrey l.place → (k : ScanLoad) → In k ls → IsGrey k.place → k.place.holder ≡ l.place.holder → k.place.word < l.place.word) × GreyRise ls

pub made_in : (p x : ℕ) (k : ScanLoad) (ls : List ScanLoad) → In k ls → k.place.phase ≡ p → k.place.holder ≡ x → 1 ≤ made p x ls
made_in p x k [] i e f = absurd i
made_in p x k (l ∷ ls) (inl same) e f =
    let more = made_same p x l ls (subst (λ (y : ScanLoad). y.place.phase ≡ p) same e) (subst (λ (y : ScanLoad). y.place.holder ≡ x) same f) in omega (arith, more)
made_in p x k (l ∷ ls) (inr i) e f =
    let rest = made_in p x k ls i e f in
    elim (made_more p x l ls) [ inl same ↦ omega (arith, rest, same) | inr more ↦ omega (arith, rest, more) ]

made_grey : (x : ℕ) (k : ScanLoad) (ls : List ScanLoad) → In k ls → IsGrey k.place → k.place.holder ≡ x → 1 ≤ made 2 x ls + made 4 x ls
made_grey x k ls i (inl two) e = let m = made_in 2 x k ls i two e in omega (arith, m)
made_grey x k ls i (inr four) e = let m = made_in 4 x k ls i four e in omega (arith, m)

-- a holder that goes on has its greatest word last
goes_above : (ls : List ScanLoad) (place : Place) → GreyRise ls → IsGrey place → GoesOn ls place
    → (k : ScanLoad) → In k ls → IsGrey k.place → k.place.holder ≡ place.holder → k.place.word < place.word
goes_above [] place r grey on k i g e = absurd i
goes_above (l ∷ ls) place r grey on k (inl same) g e = let lt : l.place.word < place.word = on.2 in subst (λ (y : ScanLoad). y.place.word < place.word) (sym same) lt
goes_above (l ∷ ls) place r grey on k (inr i) g e =
    let first : IsGrey l.place = elim grey [ inl two ↦ inl (sym on.0 ∙ two) | inr four ↦ inr (sym on.0 ∙ four) ] in
    let lower : k.place.word < l.place.word = r.0 first k i g (e ∙ on.1) in
    let lt : l.place.word < place.word = on.2 in
    omega (arith, lower, lt)

grey_above : (p : ℕ) (q : List ℕ) (ls : List ScanLoad) (bs : List Block) (place : Place) → GreyRise ls → IsGrey place → GoodGrey p q ls bs place
    → (k : ScanLoad) → In k ls → IsGrey k.place → k.place.holder ≡ place.holder → k.place.word < place.word
grey_above p q ls bs place r grey g k i kg e =
    elim g.11 [
      | inl on ↦ goes_above ls place r grey on k i kg e
      | inr none ↦ absurd (let m = made_grey place.holder k ls i kg e in omega (arith, m, none))
    ]

pub good_above : (q1 q2 : List ℕ) (ls : List ScanLoad) (bs : List Block) (ts : List Task) (place : Place) → GreyRise ls → IsGrey place → Good q1 q2 ls bs ts place
    → (k : ScanLoad) → In k ls → IsGrey k.place → k.place.holder ≡ place.holder → k.place.word < place.word
good_above q1 q2 ls bs ts place r grey (inl g) k i kg e = absurd (not_both 1 grey g.0 (omega arith) (omega arith))
  where
    not_both : (n : ℕ) → IsGrey place → place.phase ≡ n → n ≤ 3 → (n ≡ 2 → ⊥) → ⊥
    not_both n (inl two) e le no' = no' (sym e ∙ two)
    not_both n (inr four) e le no' = omega (arith, four, e, le)
good_above q1 q2 ls bs ts place r grey (inr (inl g)) k i kg e = grey_above 2 q1 ls bs place r grey g k i kg e
good_above q1 q2 ls bs ts place r grey (inr (inr (inl g))) k i kg e = absurd (elim grey [ inl two ↦ (let f = g.0 in omega (arith, two, f)) | inr four ↦ (let f = g.0 in omega (arith, four, f)) ])
good_above q1 q2 ls bs ts place r grey (inr (inr (inr g))) k i kg e = grey_above 4 q2 ls bs place r grey g k i kg e

pub grey_rise : (h : History) → GreyRise (loads (past_of h))
grey_rise h =
    loads_hold Any (λ _ _ _. tt) GreyRise tt
    (λ g place value _ e old. (
      (λ grey k i kg f.
          good_above (first_queue (past_of g)) (second_queue (past_of g)) (loads (past_of g)) (world (past_of g)).blocks (world (past_of g)).tasks place old grey
          (next_good (past_of g) place (fits g) e) k i kg f),
      old,
    )) h tt

-- a sum is found changed in the third phase alone
abbrev pub SummedLate : List ScanLoad → Type 0
SummedLate ls = (l : ScanLoad) → In l ls → (id : ℕ) → l.changed ≡ Some id → l.place.phase ≡ 3

found_late : (past : Past) (place : Place) (value id : ℕ) → found_changed past place value ≡ Some id → (place.phase == 3) ≡ true
found_late past place value id h = go (block_of (world past).blocks place.holder) h
  where
    go : (o : Option Block) → (elim o as (λ _. Option ℕ) [
      | None ↦ None
      | Some b ↦ if place.phase == 3 && place.word == last_word b && differs (kept_sum past b) (sum_step (sum_so_far (loads past) b.id) value) then Some b.id else None
    ]) ≡ Some id → (place.phase == 3) ≡ true
    go None f = absurd (none_some id f)
    go (Some b) f =
        elim (if_some (place.phase == 3 && place.word == last_word b && differs (kept_sum past b) (sum_step (sum_so_far (loads past) b.id) value)) (Some b.id) None id f) [
          | inl passed ↦ (and_parts (place.phase == 3) _ (and_parts (place.phase == 3 && place.word == last_word b) _ passed.0).0).0
          | inr failed ↦ absurd (none_some id failed.1)
        ]

pub summed_late : (h : History) → SummedLate (loads (past_of h))
summed_late h =
    loads_hold Any (λ _ _ _. tt) SummedLate (λ l i. absurd i)
    (λ g place value _ e old l i id f. elim i [
      | inl same ↦ eqb-true l.place.phase 3 (subst (λ (y : ScanLoad). (y.place.phase == 3) ≡ true) (sym same) (found_late (past_of g) place value id (subst (λ (y : ScanLoad). y.changed ≡ Some id) same f)))
      | inr j ↦ old l j id f
    ]) h tt

-- before the sums nothing was found changed
pub none_changed : (ls : List ScanLoad) (id : ℕ) → SummedLate ls → ((x : ℕ) → made 3 x ls ≡ 0) → changed_in ls id ≡ false
none_changed [] id late none = refl
none_changed (l ∷ ls) id late none =
    or_from (option_is l.changed id) (changed_in ls id)
    (false_from_ne_true (option_is l.changed id) (λ e.
    let three = late l (inl refl) id (option_here l.changed id e) in
    let m = made_in 3 l.place.holder l (l ∷ ls) (inl refl) three refl in
    let z = none l.place.holder in omega (arith, m, z)))
    (none_changed ls id (λ k i. late k (inr i)) (λ x. elim (made_more 3 x l ls) [ inl same ↦ sym same ∙ none x | inr more ↦ absurd (let z = none x in omega (arith, more, z)) ]))

-- the phase of a good place isn't before that of the last load
pub good_later : (q1 q2 : List ℕ) (ls : List ScanLoad) (bs : List Block) (ts : List Task) (place : Place) → Good q1 q2 ls bs ts place → phase_of (newest ls) ≤ place.phase
good_later q1 q2 ls bs ts place (inl g) = let e = g.0 in let le = g.9 in omega (arith, e, le)
good_later q1 q2 ls bs ts place (inr (inl g)) = let e = g.0 in let le = g.10 in omega (arith, e, le)
good_later q1 q2 ls bs ts place (inr (inr (inl g))) = let e = g.0 in let le = g.9 in omega (arith, e, le)
good_later q1 q2 ls bs ts place (inr (inr (inr g))) = let e = g.0 in let le = g.10 in omega (arith, e, le)

pub early_same : (h : History) (place : Place) → next (past_of h) ≡ Some place → place.phase ≤ 2 → (id : ℕ) → changed_in (loads (past_of h)) id ≡ false
early_same h place e le id =
    let past = past_of h in
    let later = good_later (first_queue (past_of h)) (second_queue (past_of h)) (loads (past_of h)) (world (past_of h)).blocks (world (past_of h)).tasks place (next_good (past_of h) place (fits h) e) in
    none_changed (loads (past_of h)) id (summed_late h) (λ x. (fits h).0.above 3 x (omega (arith, le, later)))

-- a word of a block
pub word_inside : (b : Block) (i a : ℕ) → i < b.size / 8 → a ≡ b.start + 8 * i → contains a b ≡ true
word_inside b i a lt e =
    and_from (nat_le b.start a) (nat_lt a (b.start + b.size)) (le-leb b.start a (omega (arith, e))) (lt-ltb a (b.start + b.size) (omega (arith, lt, e)))

clash : (a start size other length : ℕ) → (start + size ≤ other) ⊎ (other + length ≤ start) → start ≤ a → a < start + size → other ≤ a → a < other + length → ⊥
clash a start size other length (inl le) p q r s = omega (arith, le, p, q, r, s)
clash a start size other length (inr le) p q r s = omega (arith, le, p, q, r, s)

-- a word of an allocation
word_in : (start size i a : ℕ) → 8 * suc i ≤ size → a ≡ start + 8 * i → (start ≤ a) × (a < start + size)
word_in start size i a le e = (omega (arith, e), omega (arith, le, e))

-- a word of a stack is in no block
stack_outside : (room : ℕ) (w : World) (t : Task) (i a : ℕ) → PlacedIn room w → In t w.tasks → i < 512 → a ≡ t.stack + 8 * i → (b : Block) → In b w.blocks → contains a b ≡ true → ⊥
stack_outside room w t i a p ti lt e b bi c =
    let s = each_in (StackPlaced w.used) w.tasks t p.stacks_in ti in
    let x = each_in (BlockPlaced w.used) w.blocks b p.blocks_in bi in
    let parts = and_parts (nat_le b.start a) (nat_lt a (b.start + b.size)) c in
    let low : b.start ≤ a = leb-true b.start a parts.0 in
    let high : a < b.start + b.size = ltb-true a (b.start + b.size) parts.1 in
    let x_low : x.0.start ≤ b.start = x.3 in
    let x_high : b.start + b.size ≤ x.0.start + x.0.size = x.4 in
    let s_start : s.0.start ≡ t.stack = s.3 in
    let s_size : s.0.size ≡ 4096 = s.4 in
    let same : s.0 ≡ x.0 = one_with room w.used w.blocks w.tasks s.0 x.0 a p s.1 x.1 (omega (arith, s_start, e)) (omega (arith, s_start, s_size, e, lt)) (omega (arith, x_low, low)) (omega (arith, x_high, high)) in
    stack_kind s.0.«use» s.2 (subst (λ (y : Allocation). is_tracked y ≡ true) (sym same) x.2)

-- blocks are distinct
pub distinct : (room : ℕ) (h : History) → PlacedIn room (world (past_of h)) → AreDistinct (world (past_of h)).blocks
distinct room h p =
    let w : World = world (past_of h) in
    record {
      ids = λ b c i j e. rising_unique (λ (x : Block). x.id) (world (past_of h)).blocks 0 (world (past_of h)).registered b c (fits h).1.blocks_rise i j e;
      bytes = λ a b c i j e f. one_block room w.used w.blocks w.tasks b c a p i j e f;
      starts = λ b c i j e.
          let bp = sized room w b p i in
          let cp = sized room w c p j in
          one_block room w.used w.blocks w.tasks b c b.start p i j
          (and_from (nat_le b.start b.start) (nat_lt b.start (b.start + b.size)) (le-leb b.start b.start (omega arith)) (lt-ltb b.start (b.start + b.size) (omega (arith, bp))))
          (and_from (nat_le c.start b.start) (nat_lt b.start (c.start + c.size)) (le-leb c.start b.start (omega (arith, e))) (lt-ltb b.start (c.start + c.size) (omega (arith, e, cp))));
    }

-- the word of a vmap slot is one of the page of vmap slots, which only the second phase loads
abbrev pub TableFits : Past → Place → Type 0
TableFits past place =
    (b : Block) → In b (world past).blocks → IsSlotWord (world past) b place.word → (place.phase == 3) ≡ false → (place.phase ≡ 2) × (place.holder ≡ 0)

inside_grey : (p : ℕ) (q : List ℕ) (ls : List ScanLoad) (bs : List Block) (place : Place) → GoodGrey p q ls bs place
    → (b : Block) × In b bs × (b.id ≡ place.holder) × (contains place.word b ≡ true)
inside_grey p q ls bs place g = (g.1, g.2, g.3, word_inside g.1 g.4 place.word g.5 g.6)

-- the next load's place is as it is to be
pub place_fits : (room : ℕ) (h : History) (place : Place) → PlacedIn room (world (past_of h)) → next (past_of h) ≡ Some place → TableFits (past_of h) place → PlaceFits (past_of h) place
place_fits room h place p e table =
    let good = next_good (past_of h) place (fits h) e in
    record {
      phase = elim good [
        | inl g ↦ inl g.0
        | inr more ↦ elim more [
          | inl g ↦ inr (inl (inl g.0))
          | inr rest ↦ elim rest [ inl g ↦ inr (inr g.0) | inr g ↦ inr (inl (inr g.0)) ]
        ]
      ];
      inside = λ grey. elim good [
        | inl g ↦ absurd (not_one g.0 grey)
        | inr more ↦ elim more [
          | inl g ↦ inside_grey 2 (first_queue (past_of h)) (loads (past_of h)) (world (past_of h)).blocks place g
          | inr rest ↦ elim rest [ inl g ↦ absurd (not_three g.0 grey) | inr g ↦ inside_grey 4 (second_queue (past_of h)) (loads (past_of h)) (world (past_of h)).blocks place g ]
        ]
      ];
      outside = λ one b i. elim good [
        | inl g ↦ false_from_ne_true (contains place.word b) (stack_outside room (world (past_of h)) g.1 g.4 place.word p g.2 g.5 g.6 b i)
        | inr more ↦ elim more [
          | inl g ↦ absurd (not_one one (inl g.0))
          | inr rest ↦ elim rest [ inl g ↦ absurd (let k = g.0 in omega (arith, k, one)) | inr g ↦ absurd (not_one one (inr g.0)) ]
        ]
      ];
      fresh = λ grey l i k f same.
          let lt : l.place.word < place.word = good_above (first_queue (past_of h)) (second_queue (past_of h)) (loads (past_of h)) (world (past_of h)).blocks (world (past_of h)).tasks place (grey_rise h) grey good l i k f in
          omega (arith, lt, same);
      table = table;
      early = early_same h place e;
    }
  where
    not_one : place.phase ≡ 1 → IsGrey place → ⊥
    not_one one (inl two) = omega (arith, one, two)
    not_one one (inr four) = omega (arith, one, four)

    not_three : place.phase ≡ 3 → IsGrey place → ⊥
    not_three three (inl two) = omega (arith, three, two)
    not_three three (inr four) = omega (arith, three, four)
