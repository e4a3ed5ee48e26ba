use Rattle.std.proofs.Common.{ap, ◌∙◌}
use Rattle.plain_tree.specs.Calls.{call_of_change}
use Rattle.plain_tree.specs.Refusals.{lock_refusal}
use Rattle.held_volume.proofs.Stands.{locked_out}
use Rattle.held_volume.proofs.stocks.apply.Goals as goal

pub returns-in-Some-clause-applied : goal.returns-in-Some-clause-applied
returns-in-Some-clause-applied c early g on st i =
    locked_out early c.args.tree.now st.tree (call_of_change c.args.change) c.in-Some.refusal i.plain (c.in-Some.ensures {u = tt} ∙ ap (λ state. lock_refusal state (call_of_change c.args.change)) c.lock.ensures)
