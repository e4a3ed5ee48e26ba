use Rattle.format_volume.proofs.TextLemmas.{values_of}
use Rattle.format_volume.proofs.texts.index_on.Goals as goal

pub returns-clause-values : goal.returns-clause-values
returns-clause-values c =
    values_of c.args.spec.now c.uuid_of.ensures.range (c.in_ok-nodes_of.ensures {u = tt}).name
    (c.in_ok-policy_copy.ensures {u = tt}).texts
