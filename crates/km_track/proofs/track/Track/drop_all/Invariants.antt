use Rattle.std.proofs.Common.{◌≡◌, ◌+◌, length}
use Rattle.km_track.proofs.track.Track.drop_all.Given as goal

abbrev pub invariant-loop-start : goal.invariant-loop-start
invariant-loop-start g l = record {
  registered : l.self.registered ≡ l.initial.self.registered;
  places : l.self.spare + length l.self.live ≡ l.initial.self.spare + length l.initial.self.live;
}

abbrev pub decreases-loop-start : goal.decreases-loop-start
decreases-loop-start g l = length l.self.live
