use Rattle.std.proofs.Common.{Some, None, refl, sym, arith}
use Rattle.km_record.specs.Records.{block_of}
use Rattle.km_record.proofs.Areas.{not_full, full}
use Rattle.km_record.proofs.Words.{none_scanned, all_scanned, area_scanned}
use Rattle.km_record.proofs.record.Record.next_word.Goals as goal

pub returns-then-is_unscanned-clause-least : goal.returns-then-is_unscanned-clause-least
returns-then-is_unscanned-clause-least c = none_scanned (block_of 0 c.args.self.now) c.args.from (sym (c.if-is_unscanned.ensures {u = tt}))

pub returns-then-has_area-clause-least : goal.returns-then-has_area-clause-least
returns-then-has_area-clause-least c =
    area_scanned (block_of 0 c.args.self.now) c.args.from _ (sym (c.if-is_unscanned.ensures {u = tt})) (full c.args.self.now.areas (sym (c.if-has_area.ensures {u = tt}))) c.least_in_areas.ensures

pub returns-then-from-self-clause-least : goal.returns-then-from-self-clause-least
returns-then-from-self-clause-least c =
    all_scanned (block_of 0 c.args.self.now) c.args.from (Some c.args.from) (sym (c.if-is_unscanned.ensures {u = tt})) (not_full c.args.self.now.areas c.requires.packed (sym (c.if-has_area.ensures {u = tt}))) (omega arith, omega arith, refl, λ i a b. absurd (omega arith))

pub returns-else-from-self-clause-least : goal.returns-else-from-self-clause-least
returns-else-from-self-clause-least c =
    all_scanned (block_of 0 c.args.self.now) c.args.from None (sym (c.if-is_unscanned.ensures {u = tt})) (not_full c.args.self.now.areas c.requires.packed (sym (c.if-has_area.ensures {u = tt}))) (λ i a b. absurd (omega arith))
