use Rattle.std.proofs.Common.{◌∙◌, length, sym, ap}
use Rattle.km_core.specs.Cores.{Seen}
use Rattle.km_state.specs.State.{listing_in}
use Rattle.km_track.specs.Tracker.{tracked_in}
use Rattle.km_engine.proofs.ListedBlocks.{listed_stands}
use Rattle.km_engine.proofs.script.Script.listed.Goals as goal

pub returns-in-Some : goal.returns-in-Some
returns-in-Some c =
    λ led has.
    listed_stands c.args.self.now.machine led c.in-Some.machine c.listed.result (sym (ap (λ s. s.machine) c.self.view_is) ∙ c.in-Some.is) has
    (c.listed.ensures ∙ ap (λ t. length (listing_in (tracked_in t))) (c.track.ensures ∙ ap (λ (x : Seen). x.parts.objects.tracker) c.core.ensures))
