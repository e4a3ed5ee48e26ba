use Rattle.std.proofs.Common.{codes}
use Rattle.std.specs.List.{flat_map}
use Rattle.ltfs_documents.specs.declared.doc_fields.tags.Tag.TheVariants.{Name, Size}
use Rattle.index_model.specs.Canonical.{name, number}
use Rattle.index_write.proofs.Assembled.{ok4, policy_joined}
use Rattle.index_write.proofs.volume.put_policy.Goals as goal

pub returns-clause-ok : goal.returns-clause-ok
returns-clause-ok c =
    let p = c.args.policy.now in
    let named = c.in_ok-put_patterns.ensures.ok in
    ok4 c.put-2.result _ c.args.out.now.items _ _ _ _ _ _ _ _ c.in_ok-put.ensures.ok c.in_ok-put_number.ensures.ok named
    (policy_joined (codes "<dataplacementpolicy>") (codes "<indexpartitioncriteria>") (number Size p.size) (flat_map (name Name) p.names) (codes "</indexpartitioncriteria>") (codes "</dataplacementpolicy>")) c.put-2.ensures.ok
