use Rattle.ltfs_server.proofs.AgainLemmas.{ready_again}
use Rattle.ltfs_server.proofs.laws.crashes_leave_drives_ready.Goals as goal

pub returns : goal.returns
returns g = λ asked moment source old new sink status log holds facts tree generation ready image left limits fails.
    ready_again asked moment source old new sink status log holds facts tree generation ready image left limits fails
