use Rattle.std.proofs.Common.{ltb, rules}
use Rattle.std.proofs.lemmas.List.Sorted.{IsPartitionPoint-from_clause}
use Rattle.extent_map.proofs.edits.begun_by.Goals as goal

pub returns-clause-parts : goal.returns-clause-parts
returns-clause-parts c = λ sorted. IsPartitionPoint-from_clause (λ e. ltb e.offset c.args.at) c.args.extents.now c.partition_point.result c.partition_point.ensures.partitioned sorted (λ a r f'. search rules)
