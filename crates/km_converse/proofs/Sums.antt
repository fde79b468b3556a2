use Rattle.std.proofs.Common.{◌≡◌, ℕ, suc, ◌+◌, ◌-◌, ◌*◌, ◌/◌, ◌<◌, ◌≤◌, ◌==◌, Bool, true, false, ◌&&◌, find, nat_lt, map, List, [], ◌∷◌, Option, Some, None, if◌then◌else◌, refl, sym, ◌∙◌, ap, subst, arith, ◌⊎◌, inl, inr, eqb-true, eq-eqb}
use Rattle.std.proofs.lemmas.Bool.{and_parts, and_from, both_ways}
use Rattle.km_model.specs.History.{History}
use Rattle.km_model.specs.Memory.{words_from}
use Rattle.km_model.specs.Blocks.{Block, Black, block_of, words_of}
use Rattle.km_model.specs.Past.{Past, Moment, Place, ScanLoad, world, loads, last_load}
use Rattle.km_model.specs.Scan.{next, is_white, sums, sum_so_far, sum_step, content_sum, last_word, finishes_summing, forgets_sum, kept_sum, differs, found_changed, word_above, white_words}
use Rattle.km_model.specs.Follows.{past_of}
use Rattle.km_model.specs.Headline.{just_forgot}
use Rattle.km_model.proofs.Cases.{none_some, some_same, if_some}
use Rattle.km_laws.specs.Left.{made}
use Rattle.km_laws.proofs.Lists.{In, find_in}
use Rattle.km_laws.proofs.Runs.{newest, made_same}
use Rattle.km_laws.proofs.Stand.{ids_found}
use Rattle.km_laws.proofs.Steps.{fits, next_good, last_is}
use Rattle.km_converse.proofs.Contents.{next_word, no_word, sum_more}
use Rattle.km_converse.proofs.Places.{made_in}
use Rattle.km_converse.proofs.Links.{AreDistinct}
use Rattle.km_converse.proofs.SumNext.{next_sums}

-- the content sum of so many words
abbrev pub sum_of : (ℕ → ℕ) → ℕ → ℕ → ℕ
sum_of value start n = content_sum (map value (words_from n start))

-- the sum of a block's words so far, of the loads of a scan, and the kept sum where all were loaded
pub record SumFacts (value : ℕ → ℕ) (ls : List ScanLoad) (kept : Option ℕ) (id start n : ℕ) : Type 0 where
  pub low : made 3 id ls ≤ n
  pub part : sum_so_far ls id ≡ sum_of value start (made 3 id ls)
  pub full : made 3 id ls ≡ n → kept ≡ Some (sum_of value start n)
  pub last : (l : ScanLoad) → newest ls ≡ Some l → l.place.phase ≡ 3 → l.place.holder ≡ id → l.place.word + 8 ≡ start + 8 * made 3 id ls

pub facts_begin : (value : ℕ → ℕ) (kept : Option ℕ) (id start n : ℕ) → 1 ≤ n → SumFacts value [] kept id start n
facts_begin value kept id start n some = record {
  low = omega arith;
  part = refl;
  full = λ e. absurd (omega (arith, e, some));
  last = λ l e. absurd (none_some l e);
}

-- a load that isn't one of the block's sums
pub facts_other : (value : ℕ → ℕ) (l : ScanLoad) (ls : List ScanLoad) (kept kept' : Option ℕ) (id start n : ℕ) → sums id l ≡ false → kept' ≡ kept → SumFacts value ls kept id start n → SumFacts value (l ∷ ls) kept' id start n
facts_other value l ls kept kept' id start n other same f =
    let made_is : made 3 id (l ∷ ls) ≡ made 3 id ls = ap (λ q. if q then suc (made 3 id ls) else made 3 id ls) other in
    let sum_is : sum_so_far (l ∷ ls) id ≡ sum_so_far ls id = ap (λ q. if q then sum_step (sum_so_far ls id) l.value else sum_so_far ls id) other in
    record {
      low = subst (λ k. k ≤ n) (sym made_is) f.low;
      part = sum_is ∙ (f.part ∙ ap (λ k. sum_of value start k) (sym made_is));
      full = λ e. same ∙ f.full (sym made_is ∙ e);
      last = λ k e three holder. absurd (both_ways (sums id l) other
          (subst (λ (x : ScanLoad). sums id x ≡ true) (sym (some_same l k e)) (and_from (k.place.phase == 3) (k.place.holder == id) (eq-eqb k.place.phase 3 three) (eq-eqb k.place.holder id holder))));
    }

-- one that is, of the next word
pub facts_more : (value : ℕ → ℕ) (l : ScanLoad) (ls : List ScanLoad) (kept kept' : Option ℕ) (id start n : ℕ) → l.place.phase ≡ 3 → l.place.holder ≡ id → l.place.word ≡ start + 8 * made 3 id ls → made 3 id ls < n
    → l.value ≡ value l.place.word → (suc (made 3 id ls) ≡ n → kept' ≡ Some (sum_so_far (l ∷ ls) id)) → SumFacts value ls kept id start n → SumFacts value (l ∷ ls) kept' id start n
facts_more value l ls kept kept' id start n three holder word lt valued finished f =
    let it : sums id l ≡ true = and_from (l.place.phase == 3) (l.place.holder == id) (eq-eqb l.place.phase 3 three) (eq-eqb l.place.holder id holder) in
    let made_is : made 3 id (l ∷ ls) ≡ suc (made 3 id ls) = made_same 3 id l ls three holder in
    let sum_is : sum_so_far (l ∷ ls) id ≡ sum_step (sum_so_far ls id) l.value = ap (λ q. if q then sum_step (sum_so_far ls id) l.value else sum_so_far ls id) it in
    let part_is : sum_so_far (l ∷ ls) id ≡ sum_of value start (suc (made 3 id ls)) =
    sum_is ∙ (ap (λ s. sum_step s l.value) f.part ∙ (ap (λ v. sum_step (sum_of value start (made 3 id ls)) v) (valued ∙ ap value word) ∙ sym (sum_more value 7 (made 3 id ls) start))) in
    record {
      low = omega (arith, made_is, lt);
      part = part_is ∙ ap (λ k. sum_of value start k) (sym made_is);
      full = λ e. let all : suc (made 3 id ls) ≡ n = sym made_is ∙ e in finished all ∙ (ap (λ (k : ℕ). Some k) (part_is ∙ ap (λ k. sum_of value start k) all));
      last = λ k e _ _. subst (λ (x : ScanLoad). x.place.word + 8 ≡ start + 8 * made 3 id (l ∷ ls)) (some_same l k e) (omega (arith, word, made_is));
    }

pub facts_kept : (value : ℕ → ℕ) (ls : List ScanLoad) (kept kept' : Option ℕ) (id start n : ℕ) → kept' ≡ kept → SumFacts value ls kept id start n → SumFacts value ls kept' id start n
facts_kept value ls kept kept' id start n e f = subst (λ k. SumFacts value ls k id start n) (sym e) f

-- the kept sum of a block is that of its id, start and size
abbrev shape : ℕ → ℕ → ℕ → Block
shape id start size = record { id = id; start = start; size = size; born = 0; minimum = Black; no_scan = false; areas = []; excess = None }

kept_shape : (past : Past) (b : Block) → kept_sum past b ≡ kept_sum past (shape b.id b.start b.size)
kept_shape [] b = refl
kept_shape (m ∷ past) b =
    ap (λ k. elim (finishes_summing b m.load) as (λ _. Option ℕ) [
      | true ↦ Some (sum_so_far (loads (m ∷ past)) b.id)
      | false ↦ elim (forgets_sum b m.act m.answer) as (λ _. Option ℕ) [ true ↦ None | false ↦ k ]
    ]) (kept_shape past b)

pub kept_same : (past : Past) (a b : Block) → a.id ≡ b.id → a.start ≡ b.start → a.size ≡ b.size → kept_sum past a ≡ kept_sum past b
kept_same past a b e f g =
    kept_shape past a
    ∙ (ap (λ i. kept_sum past (shape i a.start a.size)) e ∙ (ap (λ s. kept_sum past (shape b.id s a.size)) f ∙ (ap (λ s. kept_sum past (shape b.id b.start s)) g ∙ sym (kept_shape past b))))

-- the same for what is known of its sums
pub facts_of : (value : ℕ → ℕ) (past : Past) (a b : Block) → a.id ≡ b.id → a.start ≡ b.start → a.size ≡ b.size
    → SumFacts value (loads past) (kept_sum past a) a.id a.start (a.size / 8) → SumFacts value (loads past) (kept_sum past b) b.id b.start (b.size / 8)
facts_of value past a b e f g facts =
    let P : ℕ → ℕ → ℕ → Type 0 = λ id start size. SumFacts value (loads past) (kept_sum past (shape id start size)) id start (size / 8) in
    facts_kept value (loads past) (kept_sum past (shape b.id b.start b.size)) (kept_sum past b) b.id b.start (b.size / 8) (kept_shape past b)
    (subst (λ i. P i b.start b.size) e (subst (λ s. P a.id s b.size) f (subst (λ s. P a.id a.start s) g
    (facts_kept value (loads past) (kept_sum past a) (kept_sum past (shape a.id a.start a.size)) a.id a.start (a.size / 8) (sym (kept_shape past a)) facts))))

-- it is kept over an event that neither finishes a summing of the block nor forgets it
pub kept_stays : (m : Moment) (past : Past) (b : Block) → just_forgot b (m ∷ past) ≡ false → finishes_summing b m.load ≡ false → kept_sum (m ∷ past) b ≡ kept_sum past b
kept_stays m past b forgot finished =
    ap (λ q. elim q as (λ _. Option ℕ) [
      | true ↦ Some (sum_so_far (loads (m ∷ past)) b.id)
      | false ↦ elim (forgets_sum b m.act m.answer) as (λ _. Option ℕ) [ true ↦ None | false ↦ kept_sum past b ]
    ]) finished
    ∙ ap (λ q. elim q as (λ _. Option ℕ) [ true ↦ None | false ↦ kept_sum past b ]) forgot

pub kept_new : (m : Moment) (past : Past) (b : Block) → finishes_summing b m.load ≡ true → kept_sum (m ∷ past) b ≡ Some (sum_so_far (loads (m ∷ past)) b.id)
kept_new m past b finished =
    ap (λ q. elim q as (λ _. Option ℕ) [
      | true ↦ Some (sum_so_far (loads (m ∷ past)) b.id)
      | false ↦ elim (forgets_sum b m.act m.answer) as (λ _. Option ℕ) [ true ↦ None | false ↦ kept_sum past b ]
    ]) finished

-- what finds a sum changed
pub record IsFound (past : Past) (place : Place) (value id : ℕ) : Type 0 where
  pub block : Block
  pub live : In block (world past).blocks
  pub same : block.id ≡ id
  pub holder : place.holder ≡ id
  pub three : place.phase ≡ 3
  pub word : place.word ≡ last_word block
  pub differs_is : differs (kept_sum past block) (sum_step (sum_so_far (loads past) block.id) value) ≡ true

pub found_how : (past : Past) (place : Place) (value id : ℕ) → found_changed past place value ≡ Some id → IsFound past place value id
found_how past place value id h = go (block_of (world past).blocks place.holder) refl h
  where
    go : (o : Option Block) → block_of (world past).blocks place.holder ≡ o → (elim o as (λ _. Option ℕ) [
      | None ↦ None
      | Some b ↦ if place.phase == 3 && place.word == last_word b && differs (kept_sum past b) (sum_step (sum_so_far (loads past) b.id) value) then Some b.id else None
    ]) ≡ Some id → IsFound past place value id
    go None e f = absurd (none_some id f)
    go (Some b) e f =
        let at = find_in (λ (c : Block). c.id == place.holder) (world past).blocks b e in
        elim (if_some (place.phase == 3 && place.word == last_word b && differs (kept_sum past b) (sum_step (sum_so_far (loads past) b.id) value)) (Some b.id) None id f) [
          | inl passed ↦
              let parts = and_parts (place.phase == 3 && place.word == last_word b) (differs (kept_sum past b) (sum_step (sum_so_far (loads past) b.id) value)) passed.0 in
              let more = and_parts (place.phase == 3) (place.word == last_word b) parts.0 in
              let same : b.id ≡ id = some_same b.id id passed.1 in
              record {
                block = b;
                live = at.1;
                same = same;
                holder = sym (eqb-true b.id place.holder at.0) ∙ same;
                three = eqb-true place.phase 3 more.0;
                word = eqb-true place.word (last_word b) more.1;
                differs_is = parts.1;
              }
          | inr failed ↦ absurd (none_some id failed.1)
        ]

pub newest_in : (ls : List ScanLoad) (l : ScanLoad) → newest ls ≡ Some l → In l ls
newest_in [] l e = absurd (none_some l e)
newest_in (k ∷ ls) l e = inl (sym (some_same k l e))

-- the words of a white block, and where it isn't white none
white_find : (h : History) (a : Block) (w : ℕ) (o : Option ℕ) → In a (world (past_of h)).blocks → word_above w (white_words (past_of h) a.id) ≡ o
    → ((is_white (past_of h) a ≡ true) × (find (nat_lt w) (words_of a) ≡ o)) ⊎ ((is_white (past_of h) a ≡ false) × (o ≡ None))
white_find h a w o i e =
    go (is_white (past_of h) a) refl
    (subst (λ x. find (nat_lt w) (elim x as (λ _. List ℕ) [ None ↦ [] | Some b ↦ if is_white (past_of h) b then words_of b else [] ]) ≡ o) (ids_found h a i) e)
  where
    go : (q : Bool) → is_white (past_of h) a ≡ q → find (nat_lt w) (if q then words_of a else []) ≡ o
        → ((is_white (past_of h) a ≡ true) × (find (nat_lt w) (words_of a) ≡ o)) ⊎ ((is_white (past_of h) a ≡ false) × (o ≡ None))
    go true f g = inl (f, g)
    go false f g = inr (f, sym g)

module _ (value : ℕ → ℕ) (h : History) (distinct : AreDistinct (world (past_of h)).blocks) (a : Block) (i : In a (world (past_of h)).blocks)
    (facts : SumFacts value (loads (past_of h)) (kept_sum (past_of h) a) a.id a.start (a.size / 8)) (some : 1 ≤ a.size / 8) where
  abbrev past : Past
  past = past_of h

  abbrev m : ℕ
  m = made 3 a.id (loads (past_of h))

  last_made : (l : ScanLoad) → last_load past ≡ Some l → l.place.phase ≡ 3 → l.place.holder ≡ a.id → (k : ℕ) × (m ≡ suc k) × (l.place.word ≡ a.start + 8 * k)
  last_made l e three holder =
      let n : newest (loads past) ≡ Some l = sym (last_is past) ∙ e in
      let one : 1 ≤ m = made_in 3 a.id l (loads past) (newest_in (loads past) l n) three holder in
      let at : l.place.word + 8 ≡ a.start + 8 * m = facts.last l n three holder in
      (m - 1, omega (arith, one), omega (arith, one, at))

  -- the next word of a block that is summed
  pub sums_place : (place : Place) → next past ≡ Some place → place.phase ≡ 3 → place.holder ≡ a.id → (place.word ≡ a.start + 8 * m) × (m < a.size / 8)
  sums_place place e three holder =
      elim (next_sums past (world past).registered place (fits h).1.blocks_rise e three) [
        | inl g ↦
            let same : (g.load).place.holder ≡ a.id = sym g.holder ∙ holder in
            let k = last_made g.load g.newest g.three same in
            elim (white_find h a (g.load).place.word (Some place.word) i (subst (λ n. word_above (g.load).place.word (white_words past n) ≡ Some place.word) same g.word)) [
              | inl f ↦
                  let w = next_word (a.size / 8) a.start k.0 place.word (subst (λ x. find (nat_lt x) (words_from (a.size / 8) a.start) ≡ Some place.word) k.2 f.1) in
                  let made_is : m ≡ suc k.0 = k.1 in let word = w.0 in let lt = w.1 in
                  (omega (arith, word, made_is), omega (arith, lt, made_is))
              | inr none ↦ absurd (none_some place.word (sym none.1))
            ]
        | inr f ↦
            let same : f.block ≡ a = distinct.ids f.block a f.live i (sym f.holder ∙ holder) in
            let word : place.word ≡ a.start = f.word ∙ ap (λ (b : Block). b.start) same in
            let none : m ≡ 0 = none_made place e three holder word in
            (omega (arith, word, none), omega (arith, none, some))
      ]
    where
      none_made : (place : Place) → next past ≡ Some place → place.phase ≡ 3 → place.holder ≡ a.id → place.word ≡ a.start → m ≡ 0
      none_made place e three holder word =
          elim (next_good past place (fits h) e) [
            | inl g ↦ absurd (let k = g.0 in omega (arith, k, three))
            | inr more ↦ elim more [
              | inl g ↦ absurd (let k = g.0 in omega (arith, k, three))
              | inr rest ↦ elim rest [
                | inl g ↦
                    let same : g.1 ≡ a = distinct.ids g.1 a g.2 i (g.3 ∙ holder) in
                    let start : g.1.start ≡ a.start = ap (λ (b : Block). b.start) same in
                    let at : place.word ≡ g.1.start + 8 * g.4 = g.6 in
                    let le : made 3 place.holder (loads past) ≤ g.4 = g.7 in
                    let le' : m ≤ g.4 = subst (λ n. made 3 n (loads past) ≤ g.4) holder le in
                    omega (arith, start, at, word, le')
                | inr g ↦ absurd (let k = g.0 in omega (arith, k, three))
              ]
            ]
          ]

  -- a white block that was summed last and has no word left is done
  pub done_made : (l : ScanLoad) → last_load past ≡ Some l → l.place.phase ≡ 3 → l.place.holder ≡ a.id → word_above l.place.word (white_words past l.place.holder) ≡ None → is_white past a ≡ true → m ≡ a.size / 8
  done_made l e three holder none white =
      let k = last_made l e three holder in
      elim (white_find h a l.place.word None i (subst (λ n. word_above l.place.word (white_words past n) ≡ None) holder none)) [
        | inl f ↦
            let le = no_word (a.size / 8) a.start k.0 (subst (λ x. find (nat_lt x) (words_from (a.size / 8) a.start) ≡ None) k.2 f.1) in
            let made_is : m ≡ suc k.0 = k.1 in let low = facts.low in omega (arith, le, made_is, low)
        | inr grey ↦ absurd (both_ways (is_white past a) grey.0 white)
      ]
