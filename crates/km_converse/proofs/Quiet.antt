use Rattle.std.proofs.Common.{◌≡◌, ℕ, ◌<◌, ◌==◌, Bool, true, false, ◌&&◌, nat_lt, List, Option, Some, None, refl, sym, subst, arith, inl, inr, eqb-true, eq-eqb, ltb-true}
use Rattle.std.proofs.lemmas.Bool.{and_parts, both_ways, false_from_ne_true}
use Rattle.km_model.specs.History.{History}
use Rattle.km_model.specs.Blocks.{Block, block_of, is_among, can_be_reported}
use Rattle.km_model.specs.Past.{Past, Place, world, loads}
use Rattle.km_model.specs.Scan.{next, first_queue, second_queue, changed_in}
use Rattle.km_model.specs.Follows.{past_of}
use Rattle.km_model.specs.Headline.{is_live_unpainted}
use Rattle.km_laws.proofs.Lists.{In, each_in, find_in}
use Rattle.km_laws.proofs.Whites.{white_in}
use Rattle.km_laws.proofs.Runs.{QueuedGrey}
use Rattle.km_laws.proofs.Steps.{fits, next_good}
use Rattle.km_converse.proofs.Links.{AreDistinct, HeadsFit, AreQuiet, quiet_white}

-- they are live
abbrev pub AreLive : List ℕ → Past → Type 0
AreLive ids past = (id : ℕ) → is_among id ids ≡ true → is_live_unpainted id past ≡ true

pub live_at : (past : Past) (id : ℕ) → is_live_unpainted id past ≡ true → (b : Block) × In b (world past).blocks × (b.id ≡ id) × (can_be_reported b ≡ true)
live_at past id h = go (block_of (world past).blocks id) refl h
  where
    go : (o : Option Block) → block_of (world past).blocks id ≡ o → (elim o as (λ _. Bool) [ None ↦ false | Some b ↦ can_be_reported b ]) ≡ true
        → (b : Block) × In b (world past).blocks × (b.id ≡ id) × (can_be_reported b ≡ true)
    go None e f = cc
    go (Some b) e f = let at = find_in (λ (c : Block). c.id == id) (world past).blocks b e in (b, at.1, eqb-true b.id id at.0, f)

pub reported : (h : History) (ids : List ℕ) → AreLive ids (past_of h) → AreDistinct (world (past_of h)).blocks → (b : Block) → In b (world (past_of h)).blocks → is_among b.id ids ≡ true → can_be_reported b ≡ true
reported h ids live d b i m =
    let at = live_at (past_of h) b.id (live b.id m) in
    subst (λ x. can_be_reported x ≡ true) (d.ids at.0 b at.1 i at.2) at.3

-- no block of the set is a holder of a grey phase
pub not_holder : (h : History) (ids : List ℕ) (place : Place) → next (past_of h) ≡ Some place → HeadsFit (world (past_of h)) → AreDistinct (world (past_of h)).blocks
    → AreLive ids (past_of h) → AreQuiet ids (world (past_of h)) (loads (past_of h)) → ((id : ℕ) → is_among id ids ≡ true → changed_in (loads (past_of h)) id ≡ false)
    → (place.phase == 3) ≡ false → (nat_lt 1 place.phase && is_among place.holder ids) ≡ false
not_holder h ids place e heads d live v unchanged counts =
    false_from_ne_true (nat_lt 1 place.phase && is_among place.holder ids) (λ both.
    let parts = and_parts (nat_lt 1 place.phase) (is_among place.holder ids) both in
    let above : 1 < place.phase = ltb-true 1 place.phase parts.0 in
    elim (next_good (past_of h) place (fits h) e) [
      | inl g ↦ (let k = g.0 in omega (arith, k, above))
      | inr more ↦ elim more [
        | inl g ↦ no_member g.1 g.2 g.3 parts.1 (λ white. both_ways (white_in (loads (past_of h)) g.1) ((queued g.1 g.2).0 (subst (λ n. In n (first_queue (past_of h))) (sym g.3) g.8)) white)
        | inr rest ↦ elim rest [
          | inl g ↦ both_ways (place.phase == 3) counts (eq-eqb place.phase 3 g.0)
          | inr g ↦ no_member g.1 g.2 g.3 parts.1 (λ white. both_ways (white_in (loads (past_of h)) g.1) ((queued g.1 g.2).1 (subst (λ n. In n (second_queue (past_of h))) (sym g.3) g.8)) white)
        ]
      ]
    ])
  where
    queued : (b : Block) → In b (world (past_of h)).blocks → QueuedGrey (first_queue (past_of h)) (second_queue (past_of h)) (loads (past_of h)) b
    queued b i = each_in (QueuedGrey (first_queue (past_of h)) (second_queue (past_of h)) (loads (past_of h))) (world (past_of h)).blocks b (fits h).1.queued i

    no_member : (b : Block) → In b (world (past_of h)).blocks → b.id ≡ place.holder → is_among place.holder ids ≡ true → (white_in (loads (past_of h)) b ≡ true → ⊥) → ⊥
    no_member b i same m grey =
        let m' : is_among b.id ids ≡ true = subst (λ n. is_among n ids ≡ true) (sym same) m in
        grey (quiet_white ids (world (past_of h)) (loads (past_of h)) heads v b i m' (reported h ids live d b i m') (unchanged b.id m'))
