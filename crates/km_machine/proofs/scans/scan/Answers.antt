use Rattle.std.proofs.Common.{◌∷◌, [], Some, sym, ap, refl}
use Rattle.km_base.specs.declared.acts.Act.TheVariants as act
use Rattle.km_base.specs.declared.acts.FileCmd.TheVariants as word
use Rattle.km_base.specs.declared.lines.Command.TheVariants as command
use Rattle.km_model.specs.Follows.{happens}
use Rattle.km_machine.proofs.Lines.{says_line}
use Rattle.km_machine.proofs.Sayings.{said_none}
use Rattle.km_machine.proofs.scans.scan.Goals as goal

pub returns-clause-says : goal.returns-clause-says
returns-clause-says g c = λ run stands.
    let says = g.W.Witness.says c.args.witness.now in
    let k = g.K.Sink.state c.args.sink.now in
    let e = c.event-begun.ensures in
    let answered = e.answer run stands in
    let one = c.say-written.ensures.so_far run run k (said_none says run k) (e.happens run stands) answered (λ request. absurd (let z : ⊥ = cc in z)) (λ read. absurd (let z : ⊥ = cc in z)) in
    let s = c.scan_on.ensures.scanned run (happens run (act.File word.Scan)) k (ap Some (sym answered)) one in
    says_line says c.scan_on.new.machine run s.behind (command.Write (Some word.Scan)) k (g.K.Sink.state c.scan_on.new.sink) c.scan_on.result (act.File word.Scan ∷ []) refl s.makes s.so_far
