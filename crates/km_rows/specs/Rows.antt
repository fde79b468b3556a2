-- The worked scripts, each with the report that is its output.
use Rattle.std.specs.Prelude.{ℕ, List, [], ◌∷◌}
use Rattle.km_rows.specs.HeldByASection as held_by_a_section
use Rattle.km_rows.specs.ListedAfterTheSecondScan as listed_after_the_second_scan
use Rattle.km_rows.specs.APointerBehindTheScanner as a_pointer_behind_the_scanner
use Rattle.km_rows.specs.AChainStoredAgain as a_chain_stored_again
use Rattle.km_rows.specs.PaintedInMidScan as painted_in_mid_scan
use Rattle.km_rows.specs.OffInMidScan as off_in_mid_scan
use Rattle.km_rows.specs.FreedAndUsedAgain as freed_and_used_again
use Rattle.km_rows.specs.Areas as areas
use Rattle.km_rows.specs.Placement as placement
use Rattle.km_rows.specs.PlacementOfARun as placement_of_a_run
use Rattle.km_rows.specs.Refusals as refusals
use Rattle.km_rows.specs.Dump as dump
use Rattle.km_rows.specs.ListedUntilFreed as listed_until_freed
use Rattle.km_rows.specs.YoungBlocks as young_blocks
use Rattle.km_rows.specs.TheLastByte as the_last_byte
use Rattle.km_rows.specs.ARing as a_ring
use Rattle.km_rows.specs.BusyAndClear as busy_and_clear
use Rattle.km_rows.specs.Mixed1 as mixed1
use Rattle.km_rows.specs.Mixed2 as mixed2
use Rattle.km_rows.specs.Mixed3 as mixed3
use Rattle.km_rows.specs.Mixed4 as mixed4
use Rattle.km_rows.specs.Mixed5 as mixed5
use Rattle.km_rows.specs.ATaggedPointer as a_tagged_pointer
use Rattle.km_rows.specs.AForgottenSum as a_forgotten_sum
use Rattle.km_rows.specs.PartsOfBootMemory as parts_of_boot_memory
use Rattle.km_rows.specs.PartsInMidScan as parts_in_mid_scan
use Rattle.km_rows.specs.RefusedParts as refused_parts
use Rattle.km_rows.specs.ALargeMemory as a_large_memory
use Rattle.km_rows.specs.TooLargeAMemory as too_large_a_memory
use Rattle.km_rows.specs.Mixed6 as mixed6
use Rattle.km_rows.specs.Mixed7 as mixed7
use Rattle.km_rows.specs.Mixed8 as mixed8

-- a script, and what it prints
pub record Row : Type 0 where
  pub script : List ℕ
  pub report : List ℕ

abbrev row : List ℕ → List ℕ → Row
row script report = record { script = script; report = report }

abbrev pub rows : List Row
rows =
    row held_by_a_section.script held_by_a_section.report ∷
    row listed_after_the_second_scan.script listed_after_the_second_scan.report ∷
    row a_pointer_behind_the_scanner.script a_pointer_behind_the_scanner.report ∷
    row a_chain_stored_again.script a_chain_stored_again.report ∷
    row painted_in_mid_scan.script painted_in_mid_scan.report ∷
    row off_in_mid_scan.script off_in_mid_scan.report ∷
    row freed_and_used_again.script freed_and_used_again.report ∷
    row areas.script areas.report ∷
    row placement.script placement.report ∷
    row placement_of_a_run.script placement_of_a_run.report ∷
    row refusals.script refusals.report ∷
    row dump.script dump.report ∷
    row listed_until_freed.script listed_until_freed.report ∷
    row young_blocks.script young_blocks.report ∷
    row the_last_byte.script the_last_byte.report ∷
    row a_ring.script a_ring.report ∷
    row busy_and_clear.script busy_and_clear.report ∷
    row mixed1.script mixed1.report ∷
    row mixed2.script mixed2.report ∷
    row mixed3.script mixed3.report ∷
    row mixed4.script mixed4.report ∷
    row mixed5.script mixed5.report ∷
    row a_tagged_pointer.script a_tagged_pointer.report ∷
    row a_forgotten_sum.script a_forgotten_sum.report ∷
    row parts_of_boot_memory.script parts_of_boot_memory.report ∷
    row parts_in_mid_scan.script parts_in_mid_scan.report ∷
    row refused_parts.script refused_parts.report ∷
    row a_large_memory.script a_large_memory.report ∷
    row too_large_a_memory.script too_large_a_memory.report ∷
    row mixed6.script mixed6.report ∷
    row mixed7.script mixed7.report ∷
    row mixed8.script mixed8.report ∷
    []
