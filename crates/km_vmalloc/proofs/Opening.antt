-- At first no area is live.
use Rattle.std.proofs.Common.{◌≡◌, ℕ, ◌<◌, Bool, true, false, List, length, slice_index_or, Option, Some, None, ap, arith}
use Rattle.std.specs.List.{All}
use Rattle.std.proofs.lemmas.Bool.{both_ways}
use Rattle.km_model.specs.Placement.{Allocation, HeadBlock, AreaRun}
use Rattle.km_pages.specs.declared.runs.Run.{Run}
use Rattle.km_pages.specs.declared.runs.Use.TheVariants.{Vmalloc}
use Rattle.km_pages.specs.Runs.{run_from}
use Rattle.km_slab.specs.Blocks.{Sheets}
use Rattle.km_vmalloc.specs.declared.areas.VmArea.{VmArea}
use Rattle.km_vmalloc.specs.Areas.{AreAreas, AreSeen, Fits, area_at, is_part}
use Rattle.km_vmalloc.proofs.Live.{clash}

-- no area is live at first
pub none_seen : (areas : List (Option VmArea)) (hints : List ℕ) → length areas ≡ 512 → ((s : ℕ) → area_at areas s ≡ None) → length hints ≡ 8192 → AreSeen areas 0 hints
none_seen areas hints count none places = record {
  kept = record { count = count; slots = λ s v h. absurd (clash (area_at areas s) v (none s) h) };
  within = omega arith;
  above = λ s le. none s;
  places = places;
}

pub none_fit : (areas : List (Option VmArea)) (slab : Sheets) (pages : List (Option Run)) → ((s : ℕ) → area_at areas s ≡ None) → ((p : ℕ) → run_from pages Vmalloc p ≡ None) → Fits areas slab pages
none_fit areas slab pages none runs =
    let no : (s : ℕ) (v : VmArea) → area_at areas s ≡ Some v → ⊥ = λ s v h. clash (area_at areas s) v (none s) h in
    record {
      heads = λ s v h. absurd (no s v h);
      sizes = λ s v h. absurd (no s v h);
      runs = λ s v h. absurd (no s v h);
      heads_differ = λ s t v w h i e. absurd (no s v h);
      areas_differ = λ s t v w h i e. absurd (no s v h);
      only = λ p n h. absurd (no_run (run_from pages Vmalloc p) n (runs p) h);
    } where
      no_run : (o : Option ℕ) (n : ℕ) → o ≡ None → o ≡ Some n → ⊥
      no_run o n a b = cc

pub none_among : (areas : List (Option VmArea)) (used : List Allocation) → ((s : ℕ) → area_at areas s ≡ None) → All (λ (x : Allocation). is_part x ≡ false) used → AreAreas areas used
none_among areas used none others =
    let no : (s : ℕ) (v : VmArea) → area_at areas s ≡ Some v → ⊥ = λ s v h. clash (area_at areas s) v (none s) h in
    record {
      heads = λ k d lt s e. absurd (both_ways (is_part (slice_index_or used k d)) (others k d lt) (ap (λ u. elim u as (λ _. Bool) [ HeadBlock _ ↦ true | AreaRun _ ↦ true | _ ↦ false ]) e));
      runs = λ k d lt s e. absurd (both_ways (is_part (slice_index_or used k d)) (others k d lt) (ap (λ u. elim u as (λ _. Bool) [ HeadBlock _ ↦ true | AreaRun _ ↦ true | _ ↦ false ]) e));
      head_live = λ s v h. absurd (no s v h);
      area_live = λ s v h. absurd (no s v h);
    }
