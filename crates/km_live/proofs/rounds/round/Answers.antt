use Rattle.std.proofs.Common.{◌≡◌, ℕ, Bool, true, false, Some, None, refl, ap, subst, ◌∙◌, if◌then◌else◌}
use Rattle.std.specs.Bool.{then_some}
use Rattle.km_live_map.specs.Views.{View}
use Rattle.km_live.specs.Crews.{HavePlayed}
use Rattle.km_live.proofs.Gathered.{hand_alone, has_made}
use Rattle.km_live.proofs.rounds.round.Goals as goal

pub close-requires-clause-alone : goal.close-requires-clause-alone
close-requires-clause-alone g c =
    let played =
    subst (λ a. HavePlayed c.in_ok-live.live c.in_ok-baton.baton a c.args.jobs.items c.args.scans c.args.gap c.play.new.chief c.in_ok-jobs.jobs.items c.in_ok-jobs.is_cut) (ap (λ (v : View). v.about) c.in_ok-baton.ensures.token) c.in_ok-jobs.ensures in
    hand_alone c.in_ok-live.live c.in_ok-baton.baton c.args.words c.in_ok-live.ensures.words c.args.book c.args.jobs.items c.args.scans c.args.gap c.requires c.play.new.chief c.in_ok-jobs.jobs.items c.in_ok-jobs.is_cut played

told : (q : Bool) (n : ℕ) → then_some q n ≡ (if q then Some n else None)
told true n = refl
told false n = refl

pub returns : goal.returns
returns g c =
    let played =
    subst (λ a. HavePlayed c.in_ok-live.live c.in_ok-baton.baton a c.args.jobs.items c.args.scans c.args.gap c.play.new.chief c.in_ok-jobs.jobs.items c.in_ok-jobs.is_cut) (ap (λ (v : View). v.about) c.in_ok-baton.ensures.token) c.in_ok-jobs.ensures in
    has_made c.in_ok-live.live c.in_ok-baton.baton c.args.words c.in_ok-live.ensures.words c.args.book c.args.jobs.items c.args.scans c.args.gap c.requires c.play.new.chief c.in_ok-jobs.jobs.items c.in_ok-jobs.is_cut played
    c.take-book.result c.close.new.into c.journal.ensures.kept c.take-book.ensures.knows c.close.ensures.left c.then_some-full.result
    (c.then_some-full.ensures ∙ (told c.in_ok-jobs.is_cut c.entries-entries.result ∙ ap (λ n. if c.in_ok-jobs.is_cut then Some n else None) c.entries-entries.ensures.entries))
