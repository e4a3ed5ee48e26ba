use Rattle.std.proofs.Common.{ℕ, ap}
use Rattle.held_volume.proofs.syncs.due_document.Goals as goal
use Rattle.held_volume.proofs.Syncing.{document_told}

pub returns-in-Ok-clause-due : goal.returns-in-Ok-clause-due
returns-in-Ok-clause-due c tape g on st i =
    document_told c.args.tree.now c.args.layout.now c.args.frame.now c.args.at c.ends-end.result.1 c.in-Ok.doc.items c.if-not-frame.false
    (ap (λ (p : ℕ × ℕ). p.1) c.ends-end.ensures.ends) ((c.in-Ok.ensures {u = tt}).text) tape g on st i
