use Rattle.std.proofs.Common.{sym, ◌∙◌}
use Rattle.km_model.specs.Blocks.{contains}
use Rattle.km_scan.proofs.Referred.{looked, looked_there}
use Rattle.km_why.proofs.Looks.{in_its_own, is_there_as, none_at, referred_at}
use Rattle.km_why.proofs.Spread.{points_out}
use Rattle.km_why.proofs.counts.referred.Goals as goal

pub returns-in_default-clause-none : goal.returns-in_default-clause-none
returns-in_default-clause-none g c = none_at c.args.track.now c.args.a.0 c.args.value c.untag-target.result c.untag-target.ensures c.in_default.ensures

pub returns-in_default-record-clause-none : goal.returns-in_default-record-clause-none
returns-in_default-record-clause-none g c =
    absurd (looked_there (contains c.untag-target.result) c.args.track.now c.in-Some.id (looked (contains c.untag-target.result) c.args.track.now c.in-Some.id c.in-Some.ensures) c.record.ensures.rising c.in_default-record.ensures.block)

pub returns-then-has-clause-none : goal.returns-then-has-clause-none
returns-then-has-clause-none g c =
    in_its_own c.args.track.now c.args.a.0 c.args.value c.untag-target.result c.in-Some.id c.in-Some-record.block.now c.requires.rise c.requires.apart c.untag-target.ensures c.record.ensures.rising c.in-Some.ensures c.in-Some-record.ensures.block
    (sym c.has.ensures ∙ c.if-has.true)

pub returns-clause-some : goal.returns-clause-some
returns-clause-some g c =
    referred_at c.args.track.now c.args.a.0 c.args.value c.untag-target.result c.in-Some.id c.in-Some-record.block.now c.untag-target.ensures c.record.ensures.rising c.in-Some.ensures c.in-Some-record.ensures.block
    (sym c.has.ensures ∙ c.if-has.false)

pub returns-clause-there : goal.returns-clause-there
returns-clause-there g c = (is_there_as c.args.track.now c.in-Some.id c.in-Some-record.block.now c.in-Some-record.ensures.block, c.record.ensures.rising)

pub returns-then-not-is_inside-clause-none : goal.returns-then-not-is_inside-clause-none
returns-then-not-is_inside-clause-none g c = points_out c.args.words c.args.track.now c.args.a.0 c.args.value _ c.requires c.untag-target.ensures (sym c.is_inside.ensures ∙ c.if-not-is_inside.true)
