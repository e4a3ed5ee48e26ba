use Rattle.std.proofs.Common.{List, ◌++◌, ◌∙◌, ap, map}
use Rattle.index_model.specs.Canonical.{canonical, volume_text}
use Rattle.index_model.specs.Values.{VolumeFacts, value_of}
use Rattle.index_model.specs.declared.nodes.Node.{Node}
use Rattle.index_write.specs.Parts.{tree_text}
use Rattle.index_write.proofs.Assembled.{err, four, join, ok, told}
use Rattle.index_write.proofs.writing.put_index.Goals as goal

pub returns-clause-ok : goal.returns-clause-ok
unfolding canonical tree_text
returns-clause-ok c = ok c.put-2.result (λ put v tells.
    let volume = c.in_ok-put_volume.ensures.ok ∙ ap (λ (f : VolumeFacts). c.put.new.out.items ++ volume_text f) tells.volume in
    let nodes = c.in_ok-put_nodes.ensures.ok v (ap (λ (nodes : List Node). map value_of nodes) c.as_slice.ensures ∙ tells.nodes) in
    four c.args.out.now.items _ _ _ _ _ _ _ _ c.in_ok-put.ensures.ok volume nodes put) c.put-2.ensures.ok

pub returns-in_err-put_nodes-clause-err : goal.returns-in_err-put_nodes-clause-err
returns-in_err-put_nodes-clause-err c = told c.from_residual-in_err-put_nodes.result (join c.args.out.now.items _ _ (_, c.in_ok-put.ensures.ok) (join c.put.new.out.items _ _ (_, c.in_ok-put_volume.ensures.ok) c.in_err-put_nodes.ensures.keeps))

pub returns-clause-err : goal.returns-clause-err
returns-clause-err c = err c.put-2.result (λ k. join c.args.out.now.items _ _ (_, c.in_ok-put.ensures.ok) (join c.put.new.out.items _ _ (_, c.in_ok-put_volume.ensures.ok) (join c.put_volume.new.out.items _ _ c.put_nodes.ensures.keeps k))) c.put-2.ensures.err
