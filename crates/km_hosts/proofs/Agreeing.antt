use Rattle.std.proofs.Common.{◌≡◌, false, ℕ, ◌==◌, List, length, Option, Some, None, if◌then◌else◌, sym, ap, ◌∙◌}
use Rattle.km_model.specs.Placement.{Allocation, page_start, page_of}
use Rattle.km_model.specs.Tasks.{Task}
use Rattle.km_pages.specs.declared.runs.Run.{Run}
use Rattle.km_pages.specs.declared.runs.Use.{Use}
use Rattle.km_pages.specs.declared.runs.Use.TheVariants.{Slab, Stack, Vmalloc}
use Rattle.km_pages.specs.Uses.{same_use}
use Rattle.km_pages.specs.Runs.{run_at, run_from}
use Rattle.km_slab.specs.Blocks.{Sheets, IsSlot, Fits as SlabFits}
use Rattle.km_tasks.specs.Roll.{Roll, Fits as TasksFit}
use Rattle.km_vmalloc.specs.declared.areas.VmArea.{VmArea}
use Rattle.km_vmalloc.specs.Areas.{Fits as AreasFit, area_at}
use Rattle.km_hosts.specs.Hosting.{Hosting, Agree}

-- the runs of a use are as they were
abbrev pub Stay : List (Option Run) → List (Option Run) → Use → Type 0
Stay pages new kind = (p : ℕ) → run_from new kind p ≡ run_from pages kind p

run_stays : (pages new : List (Option Run)) (kind : Use) (a : ℕ) → Stay pages new kind → run_at new kind a ≡ run_at pages kind a
run_stays pages new kind a stay = ap (λ o. if a == page_start (page_of a) then o else None) (stay (page_of a))

-- so what stands on them still does
pub tasks_fit : (tasks : List Task) (pages new : List (Option Run)) → Stay pages new Stack → TasksFit tasks pages → TasksFit tasks new
tasks_fit tasks pages new stay fits = record { stacks = λ k d lt. run_stays pages new Stack _ stay ∙ fits.stacks k d lt; apart = fits.apart }

pub slab_fits : (slab : Sheets) (pages new : List (Option Run)) → length new ≡ length pages → Stay pages new Slab → SlabFits slab pages → SlabFits slab new
slab_fits slab pages new count stay fits = record { count = fits.count ∙ sym count; runs = λ p. stay p ∙ fits.runs p; some = fits.some }

-- areas want their heads too
pub areas_fit : (areas : List (Option VmArea)) (slab changed : Sheets) (pages new : List (Option Run)) → ((s : ℕ) (v : VmArea) → area_at areas s ≡ Some v → IsSlot changed 64 v.head.start.0)
    → Stay pages new Vmalloc → AreasFit areas slab pages → AreasFit areas changed new
areas_fit areas slab changed pages new heads stay fits = record {
  heads = heads;
  sizes = fits.sizes;
  runs = λ s v live. let r = fits.runs s v live in record { count = r.count; run = run_stays pages new Vmalloc v.area.start.0 stay ∙ r.run; size = r.size };
  heads_differ = fits.heads_differ;
  areas_differ = fits.areas_differ;
  only = λ p n h. fits.only p n (sym (stay p) ∙ h);
}

-- runs of other uses come and go beside blocks and areas
pub agree : (v : Hosting) (new : List (Option Run)) (given : List Allocation) (roll : Roll) → length new ≡ length v.pages → Stay v.pages new Slab → Stay v.pages new Vmalloc → TasksFit roll.tasks new → Agree v
    → Agree (record { pages = new; slab = v.slab; areas = v.areas; sections = given; roll = roll })
agree v new given roll count slab area tasks a = record {
  slab = slab_fits v.slab v.pages new count slab a.slab;
  areas = areas_fit v.areas v.slab v.slab v.pages new a.areas.heads area a.areas;
  tasks = tasks;
}

-- and beside stacks too
pub agree_beside : (v : Hosting) (new : List (Option Run)) (given : List Allocation) (kind : Use) → same_use kind Slab ≡ false → same_use kind Vmalloc ≡ false → same_use kind Stack ≡ false → length new ≡ length v.pages
    → ((other : Use) (p : ℕ) → same_use kind other ≡ false → run_from new other p ≡ run_from v.pages other p) → Agree v → Agree (record { pages = new; slab = v.slab; areas = v.areas; sections = given; roll = v.roll })
agree_beside v new given kind no_slab no_area no_stack count others a =
    agree v new given v.roll count (λ p. others Slab p no_slab) (λ p. others Vmalloc p no_area) (tasks_fit v.roll.tasks v.pages new (λ p. others Stack p no_stack) a.tasks) a
