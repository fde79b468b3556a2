use Rattle.std.proofs.Common.{length, take, ap, ◌∙◌, arith}
use Rattle.std.proofs.lemmas.List.{length-append}
use Rattle.std.specs.List.{flat_map}
use Rattle.km_par.specs.Loaders.{LoaderOf}
use Rattle.km_par.proofs.Runs.{fits}
use Rattle.km_par.proofs.shares.gather.Goals as goal

pub add_all-requires : goal.add_all-requires
add_all-requires c =
    let before = ap (λ o. length o.loads) c.loop-i.invariant in
    let longer = length-append c.args.out.now.loads (flat_map (λ (l : LoaderOf). l.share) (take c.loop-i.i c.args.loaders.now)) in
    let one = ap length c.share.ensures ∙ ap (λ (l : LoaderOf). length l.share) c.index-loaders-i.is in
    let less = fits c.args.loaders.now c.loop-i.i c.index-loaders-i.result c.loop-i-test.true in
    let few = c.requires in
    omega (arith, before, longer, one, less, few)
