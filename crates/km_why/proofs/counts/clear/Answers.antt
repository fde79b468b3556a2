use Rattle.std.proofs.Common.{◌∙◌, length}
use Rattle.km_model.proofs.Cases.{none_some}
use Rattle.km_model.proofs.Lists.{each_in}
use Rattle.km_model.specs.Blocks.{Block}
use Rattle.km_record.specs.Records.{block_of}
use Rattle.km_why.specs.Told.{IsInMemory, blocks_of}
use Rattle.km_why.proofs.Heads.{stands_live}
use Rattle.km_why.proofs.Cleared.{cleared, clearing_begins, clearing_goes_on, record_live, record_within}
use Rattle.km_why.proofs.Spread.{in_table}
use Rattle.km_why.proofs.counts.clear.Goals as goal

pub loop-next-init : goal.loop-next-init
loop-next-init g c = clearing_begins c.args.track.now _ _ c.first-next.ensures.rising c.first-next.ensures.first

pub unreachable-requires : goal.unreachable-requires
unreachable-requires g c =
    let there = stands_live _ _ c.args.track.now _ _ c.in-Some.id c.first-next.ensures.rising c.loop-next.invariant.tour c.in-Some.is in
    none_some there.0 (c.in_default-record.ensures.block ∙ there.1)

pub reset-requires-clause-low : goal.reset-requires-clause-low
reset-requires-clause-low g c =
    (each_in (λ (b : Block). IsInMemory (length c.args.counts.now.items) b.start b.size) (blocks_of c.args.track.now) (block_of c.in-Some.id.generation c.in-Some-record.block.now) c.requires
    (record_live c.args.track.now c.in-Some.id c.in-Some-record.block.now c.in-Some-record.ensures.block)).0

pub reset-requires-clause-within : goal.reset-requires-clause-within
reset-requires-clause-within g c =
    record_within c.args.track.now _ _ _ c.in-Some.id c.in-Some-record.block.now c.loop-next.invariant (in_table c.args.track.now _ c.first-next.ensures.apart c.requires) c.in-Some-record.ensures.block

pub loop-next-smaller : goal.loop-next-smaller
loop-next-smaller g c =
    (clearing_goes_on c.args.track.now _ _ _ _ _ c.in-Some.id c.in-Some-record.block.now c.first-next.ensures.rising c.loop-next.invariant c.in-Some.is c.in-Some-record.ensures.block
    (record_within c.args.track.now _ _ _ c.in-Some.id c.in-Some-record.block.now c.loop-next.invariant (in_table c.args.track.now _ c.first-next.ensures.apart c.requires) c.in-Some-record.ensures.block) c.reset.ensures c.next-next.ensures).smaller

pub loop-next-preserved : goal.loop-next-preserved
loop-next-preserved g c =
    (clearing_goes_on c.args.track.now _ _ _ _ _ c.in-Some.id c.in-Some-record.block.now c.first-next.ensures.rising c.loop-next.invariant c.in-Some.is c.in-Some-record.ensures.block
    (record_within c.args.track.now _ _ _ c.in-Some.id c.in-Some-record.block.now c.loop-next.invariant (in_table c.args.track.now _ c.first-next.ensures.apart c.requires) c.in-Some-record.ensures.block) c.reset.ensures c.next-next.ensures).clearing

pub returns-clause-counted : goal.returns-clause-counted
returns-clause-counted g c = λ memory. cleared memory c.args.track.now _ _ _ c.loop-next.invariant c.in_default.is
