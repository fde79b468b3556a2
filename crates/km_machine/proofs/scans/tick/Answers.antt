use Rattle.std.proofs.Common.{◌≡◌, ◌+◌, [], refl, sym, ap, ◌∙◌, subst}
use Rattle.km_base.specs.declared.lines.Command.TheVariants as command
use Rattle.km_model.specs.Expansion.{run_at, world_after}
use Rattle.km_core.specs.Cores.{Seen}
use Rattle.km_machine.specs.Scans.{ReachesOver}
use Rattle.km_machine.proofs.Lines.{says_line}
use Rattle.km_machine.proofs.Ticking.{now_is}
use Rattle.km_machine.proofs.scans.tick.Goals as goal

pub returns-clause-says : goal.returns-clause-says
returns-clause-says g c = λ run stands.
    let says = g.W.Witness.says c.args.witness.now in
    let k = g.K.Sink.state c.args.sink.now in
    let target = c.now.result + c.args.n in
    let s = c.automatic_scans-written.ensures.scans run stands in
    let end = run_at s.behind target in
    let aim : target ≡ (world_after run.history).now + c.args.n = ap (λ m. m + c.args.n) (c.now.ensures ∙ ap (λ (x : Seen). x.parts.settings.now) c.core.ensures ∙ sym (now_is _ run stands)) in
    says_line says c.move_to.new.machine run end (command.Tick c.args.n) k (g.K.Sink.state c.move_to.new.sink) c.move_to.result [] refl
    (subst (λ t. ReachesOver t run end) aim (s.over end (0, (s.none_due, refl)))) (c.move_to.ensures.moved run s.behind k s.so_far)
