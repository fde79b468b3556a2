use Rattle.std.proofs.Common.{rules}
use Rattle.std.proofs.lemmas.List.Sorted.{IsPartitionPoint-from_clause}
use Rattle.km_map.proofs.Places.{ends_by, parted, ended_point}
use Rattle.km_map.proofs.sorted.place.Goals as goal

pub returns : goal.returns
returns c =
    let point = IsPartitionPoint-from_clause (ends_by c.args.a) _ _ c.partition_point.ensures.partitioned (parted c.args.a _ c.requires) (λ a r q k. search rules) in
    ended_point c.args.a _ _ c.partition_point.ensures.bound point
