use Rattle.file_tree.proofs.ReadLemmas.{full_then, full_else}
use Rattle.file_tree.proofs.checks.is_full.Goals as goal

pub returns-then-count-ge-MOST_NODES : goal.returns-then-count-ge-MOST_NODES
returns-then-count-ge-MOST_NODES c = full_then c.args.tree.now c.count.result c.count.ensures.count c.if-count-ge-MOST_NODES.true

pub returns-else-count-ge-MOST_NODES : goal.returns-else-count-ge-MOST_NODES
returns-else-count-ge-MOST_NODES c = full_else c.args.tree.now c.count.result c.highest.result c.count.ensures.count c.if-count-ge-MOST_NODES.false c.highest.ensures
