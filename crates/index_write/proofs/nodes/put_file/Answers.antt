use Rattle.std.proofs.Common.{codes}
use Rattle.std.specs.List.{flat_map}
use Rattle.index_model.specs.Canonical.{extent}
use Rattle.index_model.specs.Values.{facts_of}
use Rattle.index_write.specs.Parts.{file_start}
use Rattle.index_write.proofs.Assembled.{ok4, err4, file_joined}
use Rattle.index_write.proofs.nodes.put_file.Goals as goal

pub returns-clause-ok : goal.returns-clause-ok
unfolding file_start
returns-clause-ok c = ok4 c.put-2.result _ c.args.out.now.items _ _ _ _ _ _ _ _ c.in_ok-put_front.ensures.ok c.in_ok-put.ensures.ok c.in_ok-put_extents.ensures.ok
    (file_joined (file_start (facts_of c.args.node.now) c.args.length) (codes "<extentinfo>") (flat_map extent c.args.extents.now) (codes "</extentinfo>") (codes "</file>")) c.put-2.ensures.ok

pub returns-clause-err : goal.returns-clause-err
returns-clause-err c = err4 c.put-2.result c.args.out.now.items _ _ _ _ _ _ _ c.in_ok-put_front.ensures.ok c.in_ok-put.ensures.ok c.in_ok-put_extents.ensures.ok c.put-2.ensures.err
