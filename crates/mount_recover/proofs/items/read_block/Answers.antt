use Rattle.std.proofs.Common.{◌∙◌, Some, sym, ap}
use Rattle.mount_recover.proofs.ReadLemmas.{after_block}
use Rattle.mount_recover.proofs.items.read_block.Goals as goal

pub returns-in-Ok-read-clause-head : goal.returns-in-Ok-read-clause-head
returns-in-Ok-read-clause-head g c =
    λ yes. c.in-Ok-read.ensures.head c.args.place c.in-Ok.ensures.head ∙ ap Some (after_block c.in-Ok-read.got c.args.place (sym c.is_block.ensures ∙ yes))
