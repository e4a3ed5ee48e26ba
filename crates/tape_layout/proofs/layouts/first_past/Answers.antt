use Rattle.std.proofs.Common.{leb, rules}
use Rattle.std.proofs.lemmas.List.Sorted.{IsPartitionPoint-from_clause}
use Rattle.tape_layout.specs.Ops.{end_of}
use Rattle.tape_layout.proofs.layouts.first_past.Goals as goal

pub returns-clause-parts : goal.returns-clause-parts
returns-clause-parts c = λ sorted. IsPartitionPoint-from_clause (λ s. leb (end_of c.args.place.part s.ends) c.args.place.pos) c.args.todo.now.items c.partition_point.result c.partition_point.ensures.partitioned sorted (λ a r f'. search rules)
