use Rattle.std.proofs.Common.{[], refl, sym}
use Rattle.std.proofs.lemmas.List.{append-nil}
use Rattle.km_state.specs.State.{opened}
use Rattle.km_journal.proofs.replay.Replay.new.Goals as goal

pub returns : goal.returns
returns c =
    let live = c.in_ok-boot.field-0.parts.objects.tracker.live in (
      record {
        state = opened c.args.words;
        stands = c.in_ok-boot.ensures.stands;
        size = c.in_ok-boot.ensures.words;
        scans = refl;
        owes = record { prefix = live; rest = []; was = sym (append-nil live); at = refl; starts = refl };
      },
      refl,
    )
