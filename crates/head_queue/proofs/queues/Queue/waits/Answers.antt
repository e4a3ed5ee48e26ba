use Rattle.std.proofs.Common.{sym}
use Rattle.head_queue.proofs.ReadyLemmas.{none_owner}
use Rattle.head_queue.proofs.queues.Queue.waits.Goals as goal

pub returns-in-None : goal.returns-in-None
returns-in-None c = sym (none_owner c.args.owner c.args.self.now.waiting c.in-None.ensures.none)
