use Rattle.std.proofs.Common.{◌≡◌, ◌+◌, ◌++◌, map}
use Rattle.std.specs.List.{range_with_len}
use Rattle.tape_layout.specs.IndexConstruct.Blocks.{block_at}
use Rattle.tape_layout.specs.declared.ops.Op.TheVariants.{Put}
use Rattle.tape_layout.proofs.drafts.Draft.put_all.Given as goal

abbrev pub invariant-loop-k : goal.invariant-loop-k
invariant-loop-k l =
    (l.self.start ≡ l.fn.self.start)
    × (l.self.ops ≡ l.fn.self.ops ++ map (λ k. Put (record { part = l.place.part; pos = l.place.pos + k }) (block_at l.block l.doc k)) (range_with_len 0 l.k))
