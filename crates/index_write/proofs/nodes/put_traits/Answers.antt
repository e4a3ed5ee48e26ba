use Rattle.index_write.proofs.Assembled.{err3}
use Rattle.index_write.proofs.nodes.put_traits.Goals as goal

pub returns-clause-err : goal.returns-clause-err
returns-clause-err c = err3 c.put_attributes.result c.args.out.now.items _ _ _ _ _ c.in_ok-put_times.ensures.ok c.in_ok-put_truth.ensures.ok c.put_attributes.ensures.err
