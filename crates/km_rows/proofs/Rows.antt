use Rattle.std.specs.List.{AllByRecursion}
use Rattle.km_model.specs.Output.{IsOut}
use Rattle.km_rows.specs.Rows.{Row, rows}
use Rattle.km_rows.proofs.HeldByASection.{held_by_a_section}
use Rattle.km_rows.proofs.ListedAfterTheSecondScan.{listed_after_the_second_scan}
use Rattle.km_rows.proofs.APointerBehindTheScanner.{a_pointer_behind_the_scanner}
use Rattle.km_rows.proofs.AChainStoredAgain.{a_chain_stored_again}
use Rattle.km_rows.proofs.PaintedInMidScan.{painted_in_mid_scan}
use Rattle.km_rows.proofs.OffInMidScan.{off_in_mid_scan}
use Rattle.km_rows.proofs.FreedAndUsedAgain.{freed_and_used_again}
use Rattle.km_rows.proofs.Areas.{areas}
use Rattle.km_rows.proofs.Placement.{placement}
use Rattle.km_rows.proofs.PlacementOfARun.{placement_of_a_run}
use Rattle.km_rows.proofs.Refusals.{refusals}
use Rattle.km_rows.proofs.Dump.{dump}
use Rattle.km_rows.proofs.ListedUntilFreed.{listed_until_freed}
use Rattle.km_rows.proofs.YoungBlocks.{young_blocks}
use Rattle.km_rows.proofs.TheLastByte.{the_last_byte}
use Rattle.km_rows.proofs.ARing.{a_ring}
use Rattle.km_rows.proofs.BusyAndClear.{busy_and_clear}
use Rattle.km_rows.proofs.Mixed1.{mixed_1}
use Rattle.km_rows.proofs.Mixed2.{mixed_2}
use Rattle.km_rows.proofs.Mixed3.{mixed_3}
use Rattle.km_rows.proofs.Mixed4.{mixed_4}
use Rattle.km_rows.proofs.Mixed5.{mixed_5}
use Rattle.km_rows.proofs.ATaggedPointer.{a_tagged_pointer}
use Rattle.km_rows.proofs.AForgottenSum.{a_forgotten_sum}
use Rattle.km_rows.proofs.PartsOfBootMemory.{parts_of_boot_memory}
use Rattle.km_rows.proofs.PartsInMidScan.{parts_in_mid_scan}
use Rattle.km_rows.proofs.RefusedParts.{refused_parts}
use Rattle.km_rows.proofs.ALargeMemory.{a_large_memory}
use Rattle.km_rows.proofs.TooLargeAMemory.{too_large_a_memory}
use Rattle.km_rows.proofs.Mixed6.{mixed_6}
use Rattle.km_rows.proofs.Mixed7.{mixed_7}
use Rattle.km_rows.proofs.Mixed8.{mixed_8}

-- each report is the output of its script
pub all_are_out : AllByRecursion (λ (r : Row). IsOut r.script r.report) rows
all_are_out =
    (held_by_a_section, (listed_after_the_second_scan, (a_pointer_behind_the_scanner, (a_chain_stored_again, (painted_in_mid_scan, (off_in_mid_scan, (freed_and_used_again, (areas, (placement, (placement_of_a_run, (refusals, (dump, (listed_until_freed, (young_blocks, (the_last_byte, (a_ring, (busy_and_clear, (mixed_1, (mixed_2, (mixed_3, (mixed_4, (mixed_5, (a_tagged_pointer, (a_forgotten_sum, (parts_of_boot_memory, (parts_in_mid_scan, (refused_parts, (a_large_memory, (too_large_a_memory, (mixed_6, (mixed_7, (mixed_8, tt))))))))))))))))))))))))))))))))
