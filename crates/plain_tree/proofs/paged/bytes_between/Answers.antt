use Rattle.std.proofs.Common.{◌-◌, ◌++◌, map, ap, ◌∙◌, arith}
use Rattle.std.specs.List.{range_with_len}
use Rattle.plain_tree.specs.Pages.{byte_at}
use Rattle.plain_tree.proofs.PageLemmas.{ranges_join}
use Rattle.plain_tree.proofs.paged.bytes_between.Goals as goal

pub loop-at-preserved : goal.loop-at-preserved
loop-at-preserved c = let i = c.loop-at.invariant in record {
  started = omega arith;
  within = omega arith;
  read = c.in_ok-append_piece.ensures
      ∙ ap (λ l. l ++ map (byte_at (λ b. b.value) c.args.pages.now.entries) (range_with_len c.loop-at.at c.min-count.result)) i.read
      ∙ ranges_join (byte_at (λ b. b.value) c.args.pages.now.entries) c.args.from (c.loop-at.at - c.args.from) c.min-count.result c.loop-at.at _ (omega arith) (omega arith);
}
