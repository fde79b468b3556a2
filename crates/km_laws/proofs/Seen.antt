use Rattle.std.proofs.Common.{◌≡◌, ℕ, ◌<◌, ◌==◌, inl, inr, Bool, true, false, ◌&&◌, not, List, [], ◌∷◌, Option, Some, None, filter, map, refl, sym, ◌∙◌, ap, subst, arith, eqb-true, MatchBool}
use Rattle.std.proofs.lemmas.Bool.{and_parts}
use Rattle.km_laws.specs.Placed.{WholeWords}
use Rattle.km_laws.specs.Soundness.{IsValueAt}
use Rattle.km_laws.proofs.Since.{StandsSince, LivesSince}
use Rattle.km_laws.proofs.Lists.{In, find_in, in_filter, any_in, map_in}
use Rattle.km_model.proofs.Cases.{elim_false, none_some, some_same}
use Rattle.km_laws.proofs.Hits.{early, hits, IsApart, white_then}
use Rattle.km_laws.proofs.Counts.{IdsRise}
use Rattle.km_laws.proofs.Next.{TasksRise, next_none}
use Rattle.km_laws.proofs.Invariants.{Inv, inv_begin, inv_fewer, inv_load, stacks_over, content_over, init_of}
use Rattle.km_laws.proofs.Certificates.{certified}
use Rattle.km_base.specs.declared.acts.Act.{Act}
use Rattle.km_base.specs.declared.acts.Act.TheVariants.{Step}
use Rattle.km_base.specs.declared.acts.Answer.{Answer}
use Rattle.km_base.specs.declared.acts.Answer.TheVariants.{Loaded}
use Rattle.km_model.specs.Memory.{base, words_from}
use Rattle.km_model.specs.Blocks.{Block, Minimum, Black, AtLeast, block_of, needs, is_among, is_black}
use Rattle.km_model.specs.Tasks.{Task}
use Rattle.km_model.specs.World.{World, opening}
use Rattle.km_model.specs.Past.{Past, Place, ScanLoad, world, begins, loads, with_load, at_begin}
use Rattle.km_model.specs.Scan.{stack_of, next, scan_load, load_of, is_white}
use Rattle.km_model.specs.Held.{Standing, IsHeld, is_certificate, is_supported, members}

-- the blocks of a world are apart, and its tasks are in order
pub record IsOrderly (w : World) : Type 0 where
  pub apart : IsApart w.blocks
  pub rise : TasksRise w.tasks

-- each moment's load is the one that the definitions give, and each world is in order
abbrev pub IsMade : Past → Type 0
IsMade [] = IsOrderly opening
IsMade (m ∷ past) = (m.load ≡ load_of past m.act m.answer) × IsOrderly m.after × IsMade past

pub orderly_now : (past : Past) → IsMade past → IsOrderly (world past)
orderly_now [] made = made
orderly_now (m ∷ past) made = made.1

-- a load of the scan is at the next place
abbrev IsLoad : Past → ScanLoad → Type 0
IsLoad past l = (place : Place) × (value : ℕ) × (next past ≡ Some place) × (l ≡ scan_load past place value)

load_place : (past : Past) (act : Act) (answer : Answer) (l : ScanLoad) → load_of past act answer ≡ Some l → IsLoad past l
load_place past Step (Loaded a value) l e = go (next past) refl e
  where
    go : (o : Option Place) → next past ≡ o → (elim o as (λ _. Option ScanLoad) [ None ↦ None | Some place ↦ Some (scan_load past place value) ]) ≡ Some l → IsLoad past l
    go None f g = absurd (none_some l g)
    go (Some place) f g = (place, value, f, sym (some_same _ l g))
load_place past _ _ l e = absurd (none_some l e)

needs_none : (b : Block) → b.minimum ≡ AtLeast 0 → needs 0 b ≡ true
needs_none b e = subst (λ (q : Minimum). (elim q as (λ _. Bool) [ Black ↦ false | AtLeast m ↦ m == 0 ]) ≡ true) (sym e) refl

stands_now : (past : Past) (b : Block) → StandsSince past b → block_of (world past).blocks b.id ≡ Some b
stands_now [] b s = absurd s
stands_now (m ∷ past) b s = s.0

lives_now : (past : Past) (n start : ℕ) → LivesSince past n start → (stack_of (world past).tasks n ≡ words_from 512 start) × ((world past).stacks ≡ true)
lives_now [] n start s = absurd s
lives_now (m ∷ past) n start s = s.0

-- the invariant holds at each moment
pub invariant : (past : Past) → IsMade past → Inv (StandsSince past) (LivesSince past) (init_of past) (loads past)
unfolding next
invariant [] made = inv_begin (StandsSince []) (LivesSince []) (init_of []) (λ b s e. absurd s)
invariant (m ∷ past) made = go (invariant past made.2) (begins m.act m.answer) m.load (λ l e. load_place past m.act m.answer l (sym made.0 ∙ e))
  where
    go : Inv (StandsSince past) (LivesSince past) (init_of past) (loads past) → (q : Bool) (o : Option ScanLoad) → ((l : ScanLoad) → o ≡ Some l → IsLoad past l)
        → Inv (λ b. (block_of m.after.blocks b.id ≡ Some b) × MatchBool q (Unit {0}) (StandsSince past b))
        (λ n start. ((stack_of m.after.tasks n ≡ words_from 512 start) × (m.after.stacks ≡ true)) × MatchBool q (Unit {0}) (LivesSince past n start))
        (map (λ (b : Block). b.id) (filter (needs 0) (world (elim q as (λ _. Past) [ true ↦ m ∷ past | false ↦ at_begin past ])).blocks))
        (elim q as (λ _. List ScanLoad) [ true ↦ [] | false ↦ with_load o (loads past) ])
    go old true o is =
        inv_begin _ _ _ (λ b s e. map_in (λ (c : Block). c.id) (filter (needs 0) m.after.blocks) b
        (in_filter (needs 0) m.after.blocks b (find_in (λ (c : Block). c.id == b.id) m.after.blocks b s.0).1 (needs_none b e)))
    go old false None is =
        inv_fewer (StandsSince past) _ (LivesSince past) _ (init_of past) (loads past) (λ b s. s.1) (λ n start s. s.1) old
    go old false (Some l) is =
        let at = is l refl in
        let there = orderly_now past made.2 in
        inv_fewer (StandsSince past) _ (LivesSince past) _ (init_of past) (l ∷ loads past) (λ b s. s.1) (λ n start s. s.1)
        (subst (λ k. Inv (StandsSince past) (LivesSince past) (init_of past) (k ∷ loads past)) (sym at.3)
        (inv_load past at.0 at.1 (StandsSince past) (LivesSince past) there.apart there.rise (stands_now past) (lives_now past) old at.2))

-- each id of a certificate is a block's
certified_block : (s : Standing) (ids : List ℕ) (id : ℕ) → is_certificate s ids ≡ true → In id ids → (b : Block) × (block_of s.blocks id ≡ Some b)
certified_block s [] id e i = absurd i
certified_block s (k ∷ ids) id e (inr i) = certified_block s ids id (and_parts _ (is_certificate s ids) e).1 i
certified_block s (k ∷ ids) id e (inl same) = go (block_of s.blocks k) (ap (block_of s.blocks) same) (and_parts _ (is_certificate s ids) e).0
  where
    go : (o : Option Block) → block_of s.blocks id ≡ o
        → (elim o as (λ _. Bool) [ None ↦ false | Some c ↦ not (is_black c) && not (is_among k ids) && is_supported s (members s ids) c ]) ≡ true → (b : Block) × (block_of s.blocks id ≡ Some b)
    go None f g = absurd (elim_false g)
    go (Some b) f g = (b, f)

-- what stands since the begin, with the values that the scan's first two phases found
pub record IsSeen (past : Past) (s : Standing) : Type 0 where
  pub stand : (b : Block) → In b s.blocks → StandsSince past b
  pub rise : IdsRise s.blocks
  pub live : (t : Task) → In t s.stacks → LivesSince past t.number t.stack
  pub blocks_whole : (b : Block) → In b s.blocks → WholeWords b.start b.size
  pub stacks_whole : (t : Task) → In t s.stacks → WholeWords t.stack 4096
  pub steady : (w u : ℕ) → IsValueAt base s.steady w u → (l : ScanLoad) → In l (early (loads past)) → l.place.word ≡ w → l.value ≡ u

-- where no load is left, no white block is held
pub white_not_held : (past : Past) (s : Standing) (id : ℕ) (b : Block) → IsMade past → IsSeen past s → next past ≡ None
    → block_of (world past).blocks id ≡ Some b → is_white past b ≡ true → IsHeld s id → ⊥
unfolding next
white_not_held past s id b made seen none found white held =
    let there = orderly_now past made in
    let old = invariant past made in
    let over = next_none past _ none in
    let parts = and_parts (is_certificate s held.0) (is_among id held.0) held.1 in
    let among = any_in (λ m. m == id) held.0 parts.1 in
    let inside : In id held.0 = subst (λ n. In n held.0) (eqb-true among.0 id among.2) among.1 in
    let c = certified_block s held.0 id parts.0 inside in
    let enough = certified past s (StandsSince past) (LivesSince past) old
    (content_over past (record { phase = 0; holder = 0; word = 0 }) 0 (StandsSince past) (LivesSince past) there.apart there.rise (stands_now past) (lives_now past) old over.1)
    (stacks_over past (record { phase = 0; holder = 0; word = 0 }) 0 (StandsSince past) (LivesSince past) there.apart there.rise (stands_now past) (lives_now past) old over.0)
    seen.stand seen.rise seen.live seen.blocks_whole seen.stacks_whole seen.steady held.0 parts.0 id c.0 inside c.1 in
    let id_is : (c.0).id ≡ id = eqb-true (c.0).id id (find_in (λ (x : Block). x.id == id) s.blocks c.0 c.1).0 in
    let same : b ≡ c.0 = some_same b c.0 (sym found ∙ (ap (block_of (world past).blocks) (sym id_is) ∙ stands_now past c.0 (seen.stand c.0 enough.0))) in
    let less : hits (c.0).id (early (loads past)) < enough.1.0 = white_then past c.0 enough.1.0 (subst (λ x. is_white past x ≡ true) same white) enough.1.1 in
    omega (arith, less, enough.1.2)
