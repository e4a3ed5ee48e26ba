use Rattle.std.proofs.Common.{◌≡◌, take}
use Rattle.ltfs_server.specs.Making.{done_count}
use Rattle.ltfs_server.proofs.making.done_count.Given as goal

abbrev pub invariant-loop-reply : goal.invariant-loop-reply
invariant-loop-reply l = l.count ≡ done_count (take l.reply-index l.replies)
