use Rattle.file_tree.proofs.PlaceLemmas.{used_taken}
use Rattle.file_tree.proofs.spots.take_spot.Goals as goal

pub returns-clause-filled : goal.returns-clause-filled
returns-clause-filled c = used_taken c.args.spots.now.items c.args.number c.requires
