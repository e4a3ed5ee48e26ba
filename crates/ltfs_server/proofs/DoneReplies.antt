-- A reply that is gone told of a call that was done.
use Rattle.std.specs.Prelude.{◌≡◌, true}
use Rattle.std.proofs.Common.{refl, sym, true≢false}
use Rattle.plain_tree.specs.declared.calls.Answer.TheVariants as answers
use Rattle.session_script.specs.KeptReplies.{is_long}
use Rattle.session_script.specs.declared.logs.Reply.{Reply}
use Rattle.session_script.specs.declared.logs.Reply.TheVariants as replies
use Rattle.ltfs_server.specs.Making.{is_done}

pub long_done : (reply : Reply) → is_long reply ≡ true → true ≡ is_done reply
long_done (replies.Answer (answers.Got bytes)) is = refl
long_done (replies.Answer (answers.Names entries)) is = refl
long_done (replies.Answer answers.Done) never = absurd (true≢false (sym never))
long_done (replies.Answer answers.Synced) never = absurd (true≢false (sym never))
long_done (replies.Answer (answers.Facts facts)) never = absurd (true≢false (sym never))
long_done (replies.Answer (answers.Refused why)) never = absurd (true≢false (sym never))
long_done (replies.Full need limit) never = absurd (true≢false (sym never))
long_done (replies.Fault counts) never = absurd (true≢false (sym never))
long_done replies.NoMemory never = absurd (true≢false (sym never))
