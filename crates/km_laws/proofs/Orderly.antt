use Rattle.std.proofs.Common.{le-leb, lt-ltb, ◌≡◌, ℕ, ◌+◌, ◌<◌, ◌==◌, inl, inr, Bool, true, false, cond, leb, ltb, List, [], ◌∷◌, Some, find, refl, sym, ◌∙◌, ap, subst, arith, eqb-true, eq-eqb}
use Rattle.std.proofs.lemmas.Bool.{and_from}
use Rattle.km_laws.specs.Placed.{WholeWords, BlockPlaced, StackPlaced}
use Rattle.km_laws.proofs.Since.{IsAnswered}
use Rattle.km_laws.proofs.Lists.{In, each_in, find_in}
use Rattle.km_laws.proofs.Pages.{Sound, words_some}
use Rattle.km_laws.proofs.Placings.{Placed, one_block}
use Rattle.km_laws.proofs.Apart.{PlacedIn, answered_placed}
use Rattle.km_laws.proofs.Lists.{In, find_in}
use Rattle.km_laws.proofs.Hits.{IsApart}
use Rattle.km_laws.proofs.Stand.{ids_found}
use Rattle.km_laws.proofs.Laws.{names_rise}
use Rattle.km_laws.proofs.Seen.{IsOrderly, IsMade}
use Rattle.km_base.specs.Spans.{untagged}
use Rattle.km_model.specs.History.{History}
use Rattle.km_model.specs.Blocks.{Block, block_of, is_within, points_into}
use Rattle.km_model.specs.Tasks.{Task}
use Rattle.km_model.specs.Placement.{Allocation}
use Rattle.km_model.specs.Past.{world}
use Rattle.km_model.specs.Follows.{past_of}

-- what stands is placed, in a memory with room for its first page
placed : (words : ℕ) (h : History) → IsAnswered words h → PlacedIn (words + 512) (world (past_of h))
placed words h a = answered_placed words (words + 512) (omega arith) (omega arith) h a

start_within : (b : Block) → 0 < b.size → is_within b.start b.size b.start ≡ true
start_within b pos = and_from (leb b.start b.start) (ltb b.start (b.start + b.size)) (le-leb b.start b.start (omega arith)) (lt-ltb b.start (b.start + b.size) (omega (arith, pos)))

found_some : (q : Block → Bool) (bs : List Block) (b : Block) → In b bs → q b ≡ true → (c : Block) × (find q bs ≡ Some c)
found_some q [] b i e = absurd i
found_some q (x ∷ bs) b (inl same) e = rw (ap q (sym same) ∙ e) (x, refl)
found_some q (x ∷ bs) b (inr i) e =
    elim (q x) as (λ r. (c : Block) × (cond r (Some x) (find q bs) ≡ Some c)) [ true ↦ (x, refl) | false ↦ found_some q bs b i e ]

-- a block of some words lies in the memory by whole words
block_whole : (words : ℕ) (used : List Allocation) (bs : List Block) (ts : List Task) (b : Block) → Placed words used bs ts → In b bs → WholeWords b.start b.size
block_whole words used bs ts b p i = (each_in (BlockPlaced used) bs b p.blocks_in i).6

apart_now : (words : ℕ) (used : List Allocation) (bs : List Block) (ts : List Task) → Placed words used bs ts → ((b : Block) → In b bs → block_of bs b.id ≡ Some b) → IsApart bs
apart_now words used bs ts p ids = record {
  ids = ids;
  bytes = λ v b i e.
      let c = found_some (points_into v) bs b i e in
      let at = find_in (points_into v) bs c.0 c.1 in
      c.1 ∙ ap Some (one_block words used bs ts c.0 b (untagged v) p at.1 i at.0 e);
  starts = λ b i.
      let c = found_some (λ (x : Block). x.start == b.start) bs b i (eq-eqb b.start b.start refl) in
      let at = find_in (λ (x : Block). x.start == b.start) bs c.0 c.1 in
      c.1 ∙ ap Some (one_block words used bs ts c.0 b b.start p at.1 i
      (subst (λ a. is_within (c.0).start (c.0).size a ≡ true) (eqb-true (c.0).start b.start at.0) (start_within c.0 (words_some (c.0).size (block_whole words used bs ts c.0 p at.1).1)))
      (start_within b (words_some b.size (block_whole words used bs ts b p i).1)));
}

orderly : (words : ℕ) (h : History) → IsAnswered words h → IsOrderly (world (past_of h))
orderly words h a = record {
  apart = apart_now (words + 512) (world (past_of h)).used (world (past_of h)).blocks (world (past_of h)).tasks (placed words h a) (ids_found h);
  rise = (names_rise h).numbers;
}

-- each moment of a history is in order
pub made : (words : ℕ) (h : History) → IsAnswered words h → IsMade (past_of h)
made words [] a = orderly words [] a
made words (e ∷ h) a = (refl, orderly words (e ∷ h) a, made words h a.1)

pub blocks_whole : (words : ℕ) (h : History) → IsAnswered words h → (b : Block) → In b (world (past_of h)).blocks → WholeWords b.start b.size
blocks_whole words h a b i = block_whole (words + 512) (world (past_of h)).used (world (past_of h)).blocks (world (past_of h)).tasks b (placed words h a) i

pub stacks_whole : (words : ℕ) (h : History) → IsAnswered words h → (t : Task) → In t (world (past_of h)).tasks → WholeWords t.stack 4096
stacks_whole words h a t i =
    let p = placed words h a in
    let s = each_in (StackPlaced (world (past_of h)).used) (world (past_of h)).tasks t p.stacks_in i in
    let w = (each_in (Sound (words + 512)) (world (past_of h)).used s.0 p.sound s.1).3 in
    ((w.0.0, sym s.3 ∙ w.0.1), (511, refl))
