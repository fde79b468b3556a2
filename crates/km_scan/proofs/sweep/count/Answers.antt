use Rattle.std.proofs.Common.{sym, ap, ◌∙◌}
use Rattle.km_state.specs.StateNext.{sum_after}
use Rattle.km_scan.specs.declared.places.At.{At}
use Rattle.km_scan.specs.declared.places.At.TheVariants.{Block}
use Rattle.km_scan.specs.declared.places.Pass.{Pass}
use Rattle.km_scan.specs.Places.{place_of}
use Rattle.km_scan.specs.Stand.{load_told, scanning_of}
use Rattle.km_scan.proofs.Moves.{grey_is, hit_load, stack_is}
use Rattle.km_scan.proofs.sweep.count.Goals as goal

pub returns-in-Stack : goal.returns-in-Stack
returns-in-Stack g c =
    let s = stack_is c.args.at c.in-Stack.task c.in-Stack.word c.in-Stack.is in
    λ stacks w roll e. c.refer.ensures (place_of c.args.at) s.0 s.1 ∙ hit_load stacks w (place_of c.args.at) c.args.value c.args.track.now roll s.0

pub returns-in-Sums : goal.returns-in-Sums
returns-in-Sums g c =
    let at = c.in-Block.is ∙ ap (λ (p : Pass). Block p c.in-Block.id c.in-Block.word) c.in-Sums.is in
    λ stacks w roll e.
    c.keep.ensures stacks w c.args.value roll (c.value.ensures ∙ e ∙ ap (λ (a : At). sum_after (scanning_of c.args.track.now w) (place_of a) c.args.value) at)
    ∙ ap (λ (a : At). load_told stacks w (place_of a) c.args.value c.args.track.now roll) (sym at)

pub returns-in-First : goal.returns-in-First
returns-in-First g c =
    let s = grey_is c.args.at c.in-Block.pass c.in-Block.id c.in-Block.word c.in-Block.is c.in-First.is in
    λ stacks w roll e. c.refer-in-First.ensures (place_of c.args.at) s.0 s.1 ∙ hit_load stacks w (place_of c.args.at) c.args.value c.args.track.now roll s.0
