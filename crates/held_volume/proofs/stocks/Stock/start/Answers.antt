use Rattle.std.proofs.Common.{Bool, false, ap, ◌∙◌}
use Rattle.held_volume.proofs.stocks.Stock.start.Goals as goal
use Rattle.plain_tree.specs.Refusals.{is_sealed}
use Rattle.file_tree.specs.declared.carried.Carried.{Carried}
use Rattle.space_laws.specs.Mount.{was_sealed}
use Rattle.held_volume.proofs.StartLemmas.{start_stands}

pub returns-clause-stands : goal.returns-clause-stands
returns-clause-stands c tape g from =
    start_stands c.args.limits c.args.mounted c.requires c.in_ok-tree.tree (c.in_ok-tree.ensures {u = tt}) c.new-layout.result c.new-layout.ensures
    _ (ap (λ (b : Bool). record { label = c.args.mounted.label; carried = c.in_ok-carried.carried; sealed = b; generation = c.args.mounted.newest; last_dp = c.args.mounted.last_dp; changed = false; dp_done = c.args.mounted.dp_done; ip_done = c.args.mounted.ip_done; noted = c.args.mounted.noted })
    (c.is_sealed-sealed.ensures ∙ ap is_sealed (c.lock.ensures ∙ (c.in_ok-tree.ensures {u = tt}).lock))
    ∙ ap (λ (k : Carried). record { label = c.args.mounted.label; carried = k; sealed = was_sealed c.args.mounted.index; generation = c.args.mounted.newest; last_dp = c.args.mounted.last_dp; changed = false; dp_done = c.args.mounted.dp_done; ip_done = c.args.mounted.ip_done; noted = c.args.mounted.noted }) (c.in_ok-carried.ensures {u = tt}))
    tape g from
