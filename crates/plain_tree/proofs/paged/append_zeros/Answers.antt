use Rattle.std.proofs.Common.{ℕ, take, map, replicate}
use Rattle.std.specs.List.{range_with_len}
use Rattle.plain_tree.proofs.PageLemmas.{zeros_read, appended}
use Rattle.plain_tree.proofs.paged.append_zeros.Goals as goal

pub returns : goal.returns
returns c =
    appended c.extend_from_slice.result c.args.bytes.now.items c.extend_from_slice.new.self.items
    (take c.args.size (replicate {A = ℕ} 4096 0)) (map (λ i. 0) (range_with_len 0 c.args.size))
    c.extend_from_slice.ensures.items (zeros_read c.args.size c.requires)
