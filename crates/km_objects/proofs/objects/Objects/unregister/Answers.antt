use Rattle.std.proofs.Common.{option_map, ap, ◌∙◌, subst}
use Rattle.km_track.specs.Tracker.{AreRising, NeverMeet, begins, id_of, live_where}
use Rattle.km_objects.specs.Objects.{Objects}
use Rattle.km_objects.proofs.Gone.{is_none, leaves, none_are}
use Rattle.km_objects.proofs.objects.Objects.unregister.Goals as goal

pub returns-in_default-clause-state : goal.returns-in_default-clause-state
returns-in_default-clause-state g c =
    let none = (c.in_default.ensures {u = tt}) ∙ ap (λ (o : Objects). option_map id_of (live_where (begins c.args.start.0) o.tracker)) c.self.view_is in
    λ s are. none_are c.args.self.now s c.args.start.0 (is_none (live_where (begins c.args.start.0) c.args.self.now.tracker) none) are

pub returns-clause-state : goal.returns-clause-state
returns-clause-state g c =
    let found = (c.in-Some.ensures {u = tt}) ∙ ap (λ (o : Objects). option_map id_of (live_where (begins c.args.start.0) o.tracker)) c.self.view_is in
    let apart = subst (λ (o : Objects). NeverMeet o.tracker.live) c.self.view_is c.observe.ensures.apart in
    let rising = subst (λ (o : Objects). AreRising 0 o.tracker.live o.tracker.registered) c.self.view_is c.observe.ensures.rising in
    (leaves _ _ _ _ _ c.args.start.0 c.in-Some.id c.unregister.result c.self.view_is found apart rising c.forget.ensures.sweep c.forget.ensures.fits c.forget.ensures.settled c.unregister.ensures.answer c.unregister.ensures.after).0

pub returns-clause-agree : goal.returns-clause-agree
returns-clause-agree g c =
    let found = (c.in-Some.ensures {u = tt}) ∙ ap (λ (o : Objects). option_map id_of (live_where (begins c.args.start.0) o.tracker)) c.self.view_is in
    let apart = subst (λ (o : Objects). NeverMeet o.tracker.live) c.self.view_is c.observe.ensures.apart in
    let rising = subst (λ (o : Objects). AreRising 0 o.tracker.live o.tracker.registered) c.self.view_is c.observe.ensures.rising in
    (leaves _ _ _ _ _ c.args.start.0 c.in-Some.id c.unregister.result c.self.view_is found apart rising c.forget.ensures.sweep c.forget.ensures.fits c.forget.ensures.settled c.unregister.ensures.answer c.unregister.ensures.after).1
