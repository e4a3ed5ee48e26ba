use Rattle.file_tree.specs.Seen.{held}
use Rattle.file_tree.proofs.ShownLemmas.{one_number}
use Rattle.file_tree.proofs.KeptLemmas.{kept_now}
use Rattle.file_tree.proofs.store.Store.len.Goals as goal

pub returns-clause-apart : goal.returns-clause-apart
returns-clause-apart c p q n is also =
    let s = kept_now c.self.inside c.args.self.now c.self.invariant c.self.view_is in
    one_number (held c.self.inside.spots.items) c.args.self.now.nodes s.shown p q n is also
