use Rattle.km_map.proofs.Places.{found_at}
use Rattle.km_map.proofs.sorted.ending_behind.Goals as goal

pub returns : goal.returns
returns c = found_at _ _ _ c.get.result c.place.ensures c.get.ensures.lookup.3
