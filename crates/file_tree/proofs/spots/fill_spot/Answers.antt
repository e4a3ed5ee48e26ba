use Rattle.std.proofs.Common.{Some, rules}
use Rattle.file_tree.proofs.PlaceLemmas.{used_more, set_in}
use Rattle.file_tree.proofs.spots.fill_spot.Goals as goal

pub returns-clause-set : goal.returns-clause-set
returns-clause-set c = set_in c.args.spots.now.items c.args.number (Some c.args.spot) (search rules)

pub returns-clause-filled : goal.returns-clause-filled
returns-clause-filled c = used_more c.args.spots.now.items c.args.number c.args.spot c.requires.empty (search rules)
