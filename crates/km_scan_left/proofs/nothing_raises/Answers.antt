use Rattle.km_scan_left.proofs.Fewer.{leaves}
use Rattle.km_scan_left.proofs.Changes.{changes, drops, exits, sets}
use Rattle.km_scan_left.proofs.nothing_raises.Goals as goal

pub returns-clause-leaves : goal.returns-clause-leaves
returns-clause-leaves c = leaves

pub returns-clause-changes : goal.returns-clause-changes
returns-clause-changes c = changes

pub returns-clause-exit : goal.returns-clause-exit
returns-clause-exit c = exits

pub returns-clause-register : goal.returns-clause-register
returns-clause-register c = sets

pub returns-clause-dropped : goal.returns-clause-dropped
returns-clause-dropped c = drops
