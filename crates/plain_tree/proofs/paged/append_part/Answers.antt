use Rattle.std.proofs.Common.{◌+◌, ◌-◌, ℕ, List, ◌≡◌, take, drop, map, get_or, ap, ◌∙◌, arith}
use Rattle.std.specs.List.{range_with_len}
use Rattle.plain_tree.proofs.PageLemmas.{part_read, appended}
use Rattle.plain_tree.proofs.paged.append_part.Goals as goal

pub returns : goal.returns
returns c =
    let page : List ℕ = c.args.page.now in
    let size : c.args.from + c.args.size - c.args.from ≡ c.args.size = omega arith in
    appended c.extend_from_slice.result c.args.bytes.now.items c.extend_from_slice.new.self.items
    (take (c.args.from + c.args.size - c.args.from) (drop c.args.from page)) (map (λ i. get_or page i 0) (range_with_len c.args.from c.args.size))
    c.extend_from_slice.ensures.items
    (ap (λ n. take n (drop c.args.from page)) size ∙ part_read page c.args.from c.args.size (omega arith))
