use Rattle.std.proofs.Common.{◌≡◌, ◌==◌, ◌&&◌, length, ap, subst, ◌∙◌}
use Rattle.std.proofs.lemmas.Bool.{and_parts}
use Rattle.km_entries.specs.File.{Over, are_none}
use Rattle.km_journal.specs.Judging.{judged_if}
use Rattle.km_journal.specs.Replays.{Owes}
use Rattle.km_journal.proofs.Events.{events_are}
use Rattle.km_journal.proofs.Judging.{judged_right, nil_of}
use Rattle.km_journal.proofs.Listed.{none_owed}
use Rattle.km_journal.proofs.replay.Replay.end.Goals as goal

pub returns : goal.returns
returns c = record {
  judges = λ words ns owed at.
      let r = c.args.self.now in
      let stood = at.0 in
      let t = r.core.parts.objects.tracker in
      let n = c.args.events in
      let events : r.core.events ≡ length ns = stood.stands.events ∙ events_are ns in
      let is : c.is_end-right.result ≡ (are_none owed && n == length ns) =
      c.is_end-right.ensures ∙ ap (λ b. b && n == r.core.events) (none_owed t r.owed owed stood.owes) ∙ ap (λ m. are_none owed && n == m) events in
      judged_right (are_none owed && n == length ns) (Over words ns) c.right_if.result _ (c.right_if.ensures ∙ ap judged_if is) (λ yes'. (
        record {
          state = stood.state;
          stands = stood.stands;
          size = stood.size;
          scans = stood.scans;
          owes = subst (λ o. Owes t r.owed o) (nil_of owed (and_parts (are_none owed) (n == length ns) yes').0) stood.owes;
        },
        is ∙ yes',
      ));
}
