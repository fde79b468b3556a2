use Rattle.std.proofs.Common.{arith, ◌+◌, ◌^◌, ◌<◌, ◌≤◌, length, sym, ap, ◌∙◌, subst}
use Rattle.km_base.specs.declared.spans.Span.{Span}
use Rattle.km_model.specs.Blocks.{Block}
use Rattle.km_model.specs.Memory.{base, index_of}
use Rattle.km_model.proofs.Lists.{each_in}
use Rattle.km_record.specs.Records.{block_of}
use Rattle.km_why.specs.Told.{blocks_of}
use Rattle.km_why.specs.Counts.{count_at}
use Rattle.km_why.proofs.Counted.{raised_more, raised_beyond}
use Rattle.km_why.proofs.Looks.{begun_block, raised_long}
use Rattle.km_why.proofs.counts.hit.Goals as goal

pub raise_block-requires-clause-low : goal.raise_block-requires-clause-low
raise_block-requires-clause-low g c = each_in (λ (b : Block). base ≤ b.start) (blocks_of c.args.track.now) (block_of c.requires.live.0 c.args.block.now) c.requires.aligned c.requires.live.1

pub raise_block-requires-clause-within : goal.raise_block-requires-clause-within
raise_block-requires-clause-within g c = c.requires.room (block_of c.requires.live.0 c.args.block.now) c.requires.live.1

pub pass_on-requires-clause-low : goal.pass_on-requires-clause-low
pass_on-requires-clause-low g c = each_in (λ (b : Block). base ≤ b.start) (blocks_of c.args.track.now) (block_of c.requires.live.0 c.args.block.now) c.requires.aligned c.requires.live.1

pub pass_on-requires-clause-within : goal.pass_on-requires-clause-within
pass_on-requires-clause-within g c =
    subst (λ n. index_of c.args.block.now.span.start.0 < n) (sym (ap length c.raise_block.ensures.items ∙ raised_long c.args.counts.now.items (index_of c.args.block.now.span.start.0)))
    (c.requires.room (block_of c.requires.live.0 c.args.block.now) c.requires.live.1)

pub pass_on-requires-clause-to_low : goal.pass_on-requires-clause-to_low
pass_on-requires-clause-to_low g c =
    let e = begun_block (blocks_of c.args.track.now) c.in-Some.to.0 c.in-Some-beginning_at.to.now.span c.in-Some-beginning_at.ensures.block in
    subst (λ (s : Span). base ≤ s.start.0) e.2 (each_in (λ (b : Block). base ≤ b.start) (blocks_of c.args.track.now) e.0 c.requires.aligned e.1)

pub pass_on-requires-clause-to_within : goal.pass_on-requires-clause-to_within
pass_on-requires-clause-to_within g c =
    let e = begun_block (blocks_of c.args.track.now) c.in-Some.to.0 c.in-Some-beginning_at.to.now.span c.in-Some-beginning_at.ensures.block in
    subst (λ n. index_of c.in-Some-beginning_at.to.now.span.start.0 < n) (sym (ap length c.raise_block.ensures.items ∙ raised_long c.args.counts.now.items (index_of c.args.block.now.span.start.0)))
    (subst (λ (s : Span). index_of s.start.0 < length c.args.counts.now.items) e.2 (c.requires.room e.0 e.1))

pub raise_block-requires-clause-small : goal.raise_block-requires-clause-small
raise_block-requires-clause-small g c = let h = (c.requires.small (block_of c.requires.live.0 c.args.block.now) c.requires.live.1).0 in omega (arith, h)

pub pass_on-requires-clause-small : goal.pass_on-requires-clause-small
pass_on-requires-clause-small g c =
    let b = block_of c.requires.live.0 c.args.block.now in
    let h = (c.requires.small (block_of c.requires.live.0 c.args.block.now) c.requires.live.1).1 in
    subst (λ cs. (count_at cs (index_of c.args.block.now.span.start.0)).outside + 1 < 2 ^ 32) (sym c.raise_block.ensures.items)
    (subst (λ n. n + 1 < 2 ^ 32) (sym (raised_beyond c.args.counts.now.items (index_of c.args.block.now.span.start.0) (index_of c.args.block.now.span.start.0) (c.requires.room (block_of c.requires.live.0 c.args.block.now) c.requires.live.1))) h)

pub pass_on-requires-clause-to_small : goal.pass_on-requires-clause-to_small
pass_on-requires-clause-to_small g c =
    let e = begun_block (blocks_of c.args.track.now) c.in-Some.to.0 c.in-Some-beginning_at.to.now.span c.in-Some-beginning_at.ensures.block in
    let h = subst (λ (s : Span). (count_at c.args.counts.now.items (index_of s.start.0)).found + 2 < 2 ^ 32) e.2 (c.requires.small e.0 e.1).0 in
    subst (λ cs. (count_at cs (index_of c.in-Some-beginning_at.to.now.span.start.0)).found + 1 < 2 ^ 32) (sym c.raise_block.ensures.items)
    (let more = raised_more c.args.counts.now.items (index_of c.args.block.now.span.start.0) (index_of c.in-Some-beginning_at.to.now.span.start.0) (c.requires.room (block_of c.requires.live.0 c.args.block.now) c.requires.live.1) in omega (arith, h, more))

pub raise_block-requires-clause-room : goal.raise_block-requires-clause-room
raise_block-requires-clause-room g c =
    record { live = c.args.track.now.live; high = c.args.track.now.registered; placed = c.requires.placed; there = c.requires.there; members = c.requires.waits }

pub pass_on-requires-clause-room : goal.pass_on-requires-clause-room
pass_on-requires-clause-room g c = record {
  live = c.args.track.now.live;
  high = c.args.track.now.registered;
  placed = c.requires.placed;
  there = c.in-Some-beginning_at.ensures.there;
  members = record { members = c.requires.waits.members; waiting = c.raise_block.ensures.waits _ _ _ c.requires.placed c.requires.there c.requires.waits.waiting };
}

pub returns-in_default-clause-waits : goal.returns-in_default-clause-waits
returns-in_default-clause-waits g c = λ members w. c.raise_block.ensures.waits _ _ _ c.requires.placed c.requires.there w

pub returns-in_default-excess-clause-waits : goal.returns-in_default-excess-clause-waits
returns-in_default-excess-clause-waits g c = λ members w. c.raise_block.ensures.waits _ _ _ c.requires.placed c.requires.there w

pub returns-in-Some-beginning_at-clause-waits : goal.returns-in-Some-beginning_at-clause-waits
returns-in-Some-beginning_at-clause-waits g c = λ members w.
    c.pass_on.ensures.waits _ _ _ c.requires.placed c.in-Some-beginning_at.ensures.there (c.raise_block.ensures.waits _ _ _ c.requires.placed c.requires.there w)

pub returns-in_default-beginning_at-clause-waits : goal.returns-in_default-beginning_at-clause-waits
returns-in_default-beginning_at-clause-waits g c = λ members w. c.raise_block.ensures.waits _ _ _ c.requires.placed c.requires.there w
