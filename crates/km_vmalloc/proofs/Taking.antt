use Rattle.std.proofs.Common.{◌≡◌, ℕ, ◌==◌, List, [], ◌∷◌, ◌++◌, Option, Some, None, if◌then◌else◌, refl, sym, ap, ◌∙◌}
use Rattle.km_base.specs.declared.spans.Span.{Span}
use Rattle.km_base.specs.declared.acts.Answer.TheVariants.{At}
use Rattle.km_model.specs.Placement.{Allocation, area_place, kmalloc_span, next_head, page_of, page_start, pages_for, run_place, slab_place}
use Rattle.km_model.specs.Answers.{at_place}
use Rattle.km_pages.specs.declared.runs.Use as kinds
use Rattle.km_pages.specs.declared.runs.Run.{Run}
use Rattle.km_pages.specs.Runs.{run_at, run_from}
use Rattle.km_slab.specs.Blocks.{IsBlock}
use Rattle.km_vmalloc.specs.Areas.{as_head}

-- where an area lies behind its head
pub area_placed : (words words' : ℕ) (used : List Allocation) (size a : ℕ) (o : Option ℕ) → At a ≡ at_place (slab_place words used 64) → words' ≡ words
    → o ≡ run_place words' (used ++ next_head used a ∷ []) (pages_for size) → o ≡ area_place words used size
area_placed words words' used size a o head same e =
    e ∙ ap (λ w. run_place w (used ++ next_head used a ∷ []) (pages_for size)) same
    ∙ sym (ap (λ (p : Option ℕ). elim p as (λ _. Option ℕ) [ None ↦ None | Some b ↦ run_place words (used ++ next_head used b ∷ []) (pages_for size) ]) (at_some (slab_place words used 64) head)) where
      at_some : (p : Option ℕ) → At a ≡ at_place p → p ≡ Some a
      at_some None e = absurd cc
      at_some (Some b) e = ap Some (at_same a b e) where
        at_same : (x y : ℕ) → At x ≡ At y → y ≡ x
        at_same x y e = cc

-- a head is a block of 64 bytes
pub head_block : (slot : ℕ) (head : Span) → head.size ≡ kmalloc_span 64 → IsBlock 64 head.start.0 (as_head slot head)
head_block slot head size = record { start = refl; span = size; small = refl; large = λ e. absurd cc }

pub next_block : (used : List Allocation) (a : ℕ) → IsBlock 64 a (next_head used a)
next_block used a = record { start = refl; span = refl; small = refl; large = λ e. absurd cc }

-- runs of a use are found alike
pub same_at : (pages new : List (Option Run)) (kind : kinds.Use) (a : ℕ) → run_from new kind (page_of a) ≡ run_from pages kind (page_of a) → run_at new kind a ≡ run_at pages kind a
same_at pages new kind a e = ap (λ o. if a == page_start (page_of a) then o else None) e
