-- Replies as a log has them: what a long one is, and what is left of it.
use Rattle.std.specs.Prelude.{◌≡◌, ℕ, Bool, true, false, length}
use Rattle.plain_tree.specs.declared.calls.Answer.{Answer}
use Rattle.plain_tree.specs.declared.calls.Answer.TheVariants as answers
use Rattle.session_script.specs.declared.logs.Reply.{Reply}
use Rattle.session_script.specs.declared.logs.Reply.TheVariants as replies

-- it has names or bytes
abbrev pub is_long_answer : Answer → Bool
is_long_answer (answers.Got bytes) = true
is_long_answer (answers.Names entries) = true
is_long_answer answer = false

abbrev pub is_long : Reply → Bool
is_long (replies.Answer answer) = is_long_answer answer
is_long reply = false

-- how many bytes it tells
abbrev pub bytes_in : Reply → ℕ
bytes_in (replies.Answer (answers.Got bytes)) = length bytes
bytes_in reply = 0

-- what is left of a long reply: the count of its bytes
pub record IsLeftOf (reply : Reply) (bytes : ℕ) : Type 0 where
  pub long : is_long reply ≡ true
  pub bytes_are : bytes ≡ bytes_in reply
