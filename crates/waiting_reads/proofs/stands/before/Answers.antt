use Rattle.std.proofs.Common.{ltb, rules}
use Rattle.std.proofs.lemmas.List.Sorted.{IsPartitionPoint-from_clause, IsPartitionedBy-ltb}
use Rattle.waiting_reads.specs.declared.stands.Stand.{Stand}
use Rattle.waiting_reads.proofs.stands.before.Goals as goal

pub returns-clause-parts : goal.returns-clause-parts
returns-clause-parts c =
    IsPartitionPoint-from_clause (λ (s : Stand). ltb s.pos c.args.pos) c.args.stands.now c.partition_point.result
    c.partition_point.ensures.partitioned
    (IsPartitionedBy-ltb (λ (s : Stand). s.pos) c.args.stands.now c.args.pos c.requires) (λ a r f'. search rules)
