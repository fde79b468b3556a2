use Rattle.std.proofs.Common.{ap, sym, subst, ◌∙◌}
use Rattle.km_base.specs.declared.acts.Act.TheVariants.{Read}
use Rattle.km_base.specs.declared.acts.Answer.{Answer}
use Rattle.km_edge.specs.Streams.{WritesAll}
use Rattle.km_track.specs.Tracker.{Tracker}
use Rattle.km_machine.proofs.Pieces.{writes_behind}
use Rattle.km_entries.specs.File.{listed_text}
use Rattle.km_notes.specs.Notes.{event_line, lines_of_answer, starts_in}
use Rattle.km_notes.proofs.listing.write_read.Goals as goal

pub returns-in-Done : goal.returns-in-Done
returns-in-Done g c =
    let a = g.K.Sink.state c.args.sink.now in
    let b = g.K.Sink.state c.write_event.new.sink in
    let d = g.K.Sink.state c.write_listing.new.sink in
    let t = c.args.machine.now.core.parts.objects.tracker in
    let is = c.track.ensures ∙ ap (λ x. x.parts.objects.tracker) c.core.ensures in
    let list = subst (λ (x : Tracker). WritesAll b d (listed_text (starts_in x.live)) c.write_listing.result) is c.write_listing.ensures in
    let lines = subst (λ (x : Answer). WritesAll b d (lines_of_answer x t) c.write_listing.result) (sym c.in-Done.is) list in
    writes_behind a b d (event_line 0 Read c.args.answer.now) _ _ c.in_ok-write_event.ensures lines
