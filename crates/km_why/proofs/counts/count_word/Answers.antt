use Rattle.std.proofs.Common.{length, ap, subst, ◌∙◌}
use Rattle.std.specs.Prelude.{◌≡◌, false}
use Rattle.km_model.specs.Scan.{excess_block}
use Rattle.km_record.specs.Records.{block_of}
use Rattle.km_why.specs.Told.{blocks_of}
use Rattle.km_why.specs.References.{refers_to, span_of}
use Rattle.km_why.proofs.Looks.{value_is}
use Rattle.km_why.proofs.Counted.{counted_long, counted_none, counted_referred}
use Rattle.km_why.proofs.Passed.{all_aligned, all_low, all_small, place_within}
use Rattle.km_why.proofs.Placed.{placed_spread}
use Rattle.km_why.proofs.counts.count_word.Goals as goal

pub hit-requires-clause-aligned : goal.hit-requires-clause-aligned
hit-requires-clause-aligned g c = all_low _ _ c.requires.can.spread

pub hit-requires-clause-room : goal.hit-requires-clause-room
hit-requires-clause-room g c = place_within _ _ _ c.requires.can.spread c.requires.can.long

pub hit-requires-clause-small : goal.hit-requires-clause-small
hit-requires-clause-small g c = all_small _ _ _ _ c.requires.can.room

pub returns-in-Some-clause-counted : goal.returns-in-Some-clause-counted
returns-in-Some-clause-counted g c = λ ws old.
    counted_referred _ _ c.requires.can.spread.rise c.requires.can.spread.apart (all_aligned _ _ c.requires.can.spread) c.requires.can.spread.some ws c.args.counts.now.items c.args.a.0 c.load-value.result c.in-Some.block.now (place_within _ _ _ c.requires.can.spread c.requires.can.long)
    (value_is (g.W.Words.told c.args.words.now) c.args.a.0 c.load-value.result c.requires.can.told.some c.load-value.ensures.memory) c.in-Some.ensures.some old _ c.hit.ensures.items

pub returns-in-Some-clause-long : goal.returns-in-Some-clause-long
returns-in-Some-clause-long g c = ap length (c.hit.ensures.items 0) ∙ counted_long c.args.counts.now.items c.args.a.0 (block_of 0 c.in-Some.block.now) (excess_block (blocks_of c.args.track.now) (block_of 0 c.in-Some.block.now))

pub returns-in_default-clause-counted : goal.returns-in_default-clause-counted
returns-in_default-clause-counted g c = λ ws old.
    counted_none _ _ c.requires.can.spread.rise c.requires.can.spread.apart ws c.args.counts.now.items c.args.a.0 old
    (λ d i but. subst (λ v. refers_to (span_of d) but c.args.a.0 v ≡ false) (value_is (g.W.Words.told c.args.words.now) c.args.a.0 c.load-value.result c.requires.can.told.some c.load-value.ensures.memory) (c.in_default.ensures.none d but i))

pub hit-requires-clause-placed : goal.hit-requires-clause-placed
hit-requires-clause-placed g c = placed_spread _ _ c.requires.can.spread c.in-Some.ensures.there.1
