use Rattle.std.proofs.Common.{◌≡◌, take}
use Rattle.promises.specs.ServingPromise.Ends.{bounded}
use Rattle.ltfs_server.specs.Making.{bytes_read}
use Rattle.ltfs_server.proofs.making.bytes_read.Given as goal

abbrev pub invariant-loop-reply : goal.invariant-loop-reply
invariant-loop-reply l = l.sum ≡ bounded (bytes_read (take l.reply-index l.replies))
