use Rattle.std.proofs.Common.{Some}
use Rattle.plain_tree.proofs.LinkLemmas.{put_in}
use Rattle.plain_tree.proofs.links.put_name.Goals as goal

pub returns-clause-ok : goal.returns-clause-ok
returns-clause-ok c = put_in c.args.names.now c.insert.new.self c.args.name (Some c.args.node) c.in_ok-insert.ensures.updates
