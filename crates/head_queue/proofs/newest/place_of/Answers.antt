use Rattle.std.proofs.Common.{ltb, rules}
use Rattle.std.proofs.lemmas.List.Sorted.{IsPartitionPoint-from_clause}
use Rattle.head_queue.proofs.newest.place_of.Goals as goal

pub returns-clause-parts : goal.returns-clause-parts
returns-clause-parts c = λ sorted. IsPartitionPoint-from_clause (λ x. ltb x.owner c.args.owner) c.args.newest.now c.partition_point.result c.partition_point.ensures.partitioned sorted (λ a r f'. search rules)
