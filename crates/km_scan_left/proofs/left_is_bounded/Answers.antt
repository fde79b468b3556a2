use Rattle.km_scan_left.proofs.Bounded.{has_room, stands}
use Rattle.km_scan_left.proofs.left_is_bounded.Goals as goal

pub returns-clause-room : goal.returns-clause-room
returns-clause-room c = has_room

pub returns-clause-stands : goal.returns-clause-stands
returns-clause-stands c = stands
