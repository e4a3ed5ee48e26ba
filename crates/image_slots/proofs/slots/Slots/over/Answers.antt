use Rattle.image_slots.specs.declared.known.Known.TheVariants.{Steady}
use Rattle.image_slots.proofs.Upkeep.{kept_new, opened_at}
use Rattle.image_slots.proofs.slots.Slots.over.Goals as goal

pub invariant_of-result : goal.invariant_of-result
invariant_of-result g c = kept_new g.B.ByteDisk c.args.disk c.commands-opened.result c.args.found
    (λ image short left. g.met.B.ByteDisk.only_now c.args.disk image short left) c.commands-opened.ensures c.requires

pub returns : goal.returns
returns g c = opened_at c.args.disk c.args.found.side c.args.found.value c.args.found.beside Steady c.commands-opened.result _ c.commands-opened.ensures
