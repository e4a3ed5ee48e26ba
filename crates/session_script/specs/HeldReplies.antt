-- Replies that are here or gone.
use Rattle.session_script.specs.declared.logs.Reply.{Reply}
use Rattle.session_script.specs.declared.kept.HeldReply.{HeldReply}
use Rattle.session_script.specs.declared.kept.HeldReply.TheVariants as held

-- which reply it is
abbrev pub value_of : HeldReply → Reply
value_of (held.Here reply) = reply
value_of (held.Gone reply) = reply
