use Rattle.std.proofs.Common.{sym, ◌∙◌}
use Rattle.index_write.proofs.Zipper.{parent_of, writes_more}
use Rattle.index_write.proofs.nodes.put_next.Goals as goal

pub returns-clause-ok : goal.returns-clause-ok
returns-clause-ok c = λ text rests.
    let nodes = c.args.nodes.now in
    let at = c.args.at in
    let node = c.index-nodes-at.result in
    let up = parent_of nodes at node c.requires.within c.index-nodes-at.is in
    let goes = c.in_ok-left.ensures.ok at text c.requires.within up rests in
    rw c.opened.ensures (writes_more nodes at c.in_ok-left.left c.args.out.now.items _ _ text node c.requires.within c.index-nodes-at.is (up ∙ sym goes.1) c.in_ok-put_node.ensures.ok goes.0)
