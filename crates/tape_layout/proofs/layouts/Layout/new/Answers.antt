use Rattle.tape_layout.proofs.Leads.{none_kept}
use Rattle.tape_layout.proofs.layouts.Layout.new.Goals as goal

pub invariant_of-result : goal.invariant_of-result
invariant_of-result c = none_kept c.args.limits c.args.block (record { ip = c.args.end_ip; dp = c.args.end_dp }) c.new.result.items c.requires c.new.ensures.items
