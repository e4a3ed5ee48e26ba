-- A log with one reply.
use Rattle.std.specs.Prelude.{ℕ, ◌≡◌, [], ◌∷◌}
use Rattle.plain_tree.specs.declared.calls.Answer.{Answer}
use Rattle.plain_tree.specs.declared.calls.Placed.{Placed}
use Rattle.session_script.specs.declared.logs.Log.{Log}
use Rattle.session_script.specs.declared.logs.Reply.TheVariants as replies

-- the log has this answer alone, to the first call of session 1
pub record IsLogOf (answer : Answer) (log : Log) : Type 0 where
  pub placed : Placed
  pub history : log.history ≡ placed ∷ []
  pub who : placed.who ≡ 1
  pub nth : placed.nth ≡ 1
  pub replied : log.replies ≡ replies.Answer answer ∷ []
