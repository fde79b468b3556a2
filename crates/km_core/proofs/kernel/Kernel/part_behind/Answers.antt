use Rattle.std.proofs.Common.{◌∙◌, sym, ap, subst}
use Rattle.km_model.specs.Blocks.{contains}
use Rattle.km_track.specs.Tracker.{Tracker, live_where, id_of}
use Rattle.std.proofs.Common.{option_map, None, Some}
use Rattle.km_objects.specs.Objects.{AreOf}
use Rattle.km_core.proofs.NoteActs.{look_none}
use Rattle.km_core.proofs.kernel.Kernel.part_behind.Goals as goal

pub returns-in-Some : goal.returns-in-Some
returns-in-Some g c = λ s end of behind.
    look_none c.self.inside.objects s c.args.a.0 end (Some c.in-Some.field-0) (subst (λ p. AreOf p.objects s) (sym c.self.view_is) of)
    (c.in-Some.ensures ∙ ap (λ (t : Tracker). option_map id_of (live_where (contains c.args.a.0) t)) c.track.ensures) behind

pub returns-in-None : goal.returns-in-None
returns-in-None g c = λ s end of behind.
    look_none c.self.inside.objects s c.args.a.0 end None (subst (λ p. AreOf p.objects s) (sym c.self.view_is) of)
    (c.in-None.ensures ∙ ap (λ (t : Tracker). option_map id_of (live_where (contains c.args.a.0) t)) c.track.ensures) behind
