use Rattle.std.proofs.Common.{length, ap, sym, ◌∙◌}
use Rattle.head_queue.specs.Queued.{Queued}
use Rattle.head_queue.proofs.ArrivalLemmas.{sorted_length}
use Rattle.head_queue.proofs.queues.Queue.len.Goals as goal

pub returns : goal.returns
returns c = c.len.ensures ∙ sym (sorted_length c.self.inside.places.order) ∙ ap (λ (q : Queued). length q.waiting) c.self.view_is
