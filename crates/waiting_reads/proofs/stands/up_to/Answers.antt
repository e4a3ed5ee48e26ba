use Rattle.std.proofs.Common.{leb, rules}
use Rattle.std.proofs.lemmas.List.Sorted.{IsPartitionPoint-from_clause, IsPartitionedBy-leb}
use Rattle.waiting_reads.specs.declared.stands.Stand.{Stand}
use Rattle.waiting_reads.proofs.stands.up_to.Goals as goal

pub returns-clause-parts : goal.returns-clause-parts
returns-clause-parts c =
    IsPartitionPoint-from_clause (λ (s : Stand). leb s.pos c.args.pos) c.args.stands.now c.partition_point.result
    c.partition_point.ensures.partitioned
    (IsPartitionedBy-leb (λ (s : Stand). s.pos) c.args.stands.now c.args.pos c.requires) (λ a r f'. search rules)
