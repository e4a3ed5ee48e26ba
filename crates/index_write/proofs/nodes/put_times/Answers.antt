use Rattle.index_write.proofs.Assembled.{err5}
use Rattle.index_write.proofs.nodes.put_times.Goals as goal

pub returns-clause-err : goal.returns-clause-err
returns-clause-err c = err5 c.put_moment-5.result c.args.out.now.items _ _ _ _ _ _ _ _ _ c.in_ok-put_moment.ensures.ok c.in_ok-put_moment-2.ensures.ok c.in_ok-put_moment-3.ensures.ok c.in_ok-put_moment-4.ensures.ok c.put_moment-5.ensures.err
