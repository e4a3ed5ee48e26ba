use Rattle.index_model.specs.Values.{volume_of}
use Rattle.index_write.proofs.Assembled.{err4, ok4, state_laws}
use Rattle.index_write.proofs.volume.put_volume.Goals as goal

pub returns-clause-ok : goal.returns-clause-ok
returns-clause-ok c = ok4 c.put_rules.result _ c.args.out.now.items _ _ _ _ _ _ _ _ c.in_ok-put_facts.ensures.ok c.in_ok-put_here.ensures.ok c.in_ok-put_back.ensures.ok (state_laws (volume_of c.args.index.now)) c.put_rules.ensures.ok

pub returns-clause-err : goal.returns-clause-err
returns-clause-err c = err4 c.put_rules.result c.args.out.now.items _ _ _ _ _ _ _ c.in_ok-put_facts.ensures.ok c.in_ok-put_here.ensures.ok c.in_ok-put_back.ensures.ok c.put_rules.ensures.err
