-- What a placement of a run leaves, and what holds while a script is run.
use Rattle.std.specs.Prelude.{◌≡◌, ℕ, ◌+◌, List, length, map, take, Option, None}
use Rattle.tape_types.specs.declared.moments.Moment.{Moment}
use Rattle.plain_tree.specs.Calls.{after}
use Rattle.plain_tree.specs.History.{IsInterleaving, replay}
use Rattle.plain_tree.specs.Tree.{Tree, empty_tree}
use Rattle.plain_tree.specs.declared.calls.Call.{Call}
use Rattle.plain_tree.specs.declared.calls.Fate.{Fate}
use Rattle.plain_tree.specs.declared.calls.Fate.TheVariants as fates
use Rattle.plain_tree.specs.declared.calls.Placed.{Placed}
use Rattle.session_script.specs.Grammar.{calls_of}
use Rattle.session_script.specs.Replies.{AreReplies, IsPlainReply}
use Rattle.session_script.specs.declared.logs.Reply.{Reply}
use Rattle.session_script.specs.declared.scripts.ScriptLine.{ScriptLine}
use Rattle.commands.specs.BasicCommands.Headline.{AreMoments, IsMoment}
use Rattle.commands.specs.BasicCommands.Runs.{Gives}

-- the tree that a call leaves that was done, and the tree as it was where the call is void
abbrev pub after_fate : Fate → Call → Moment → Tree → Tree
after_fate fates.Void call at tree = tree
after_fate fates.Done call at tree = after tree call at

-- The first k lines of the script were placed and replied to, and this is the tree that they left. What the clock may
-- give from now on, it might at its calls behind the root's and theirs.
pub record IsRunSoFar (script : List ScriptLine) (k : ℕ) (at : Option Moment) (gives now : Gives) (tree : Tree)
    (history : List Placed) (answered : List Reply) : Type 0 where
  pub first : Moment
  pub begins : IsMoment at gives 0 first
  pub later : at ≡ None → (n : ℕ) (m : Moment) → now n m → gives (n + (k + 1)) m
  pub count : length history ≡ k
  pub tree_is : tree ≡ replay (calls_of script) (empty_tree first) history
  pub lines : map (λ p. p.who) history ≡ map (λ l. l.who) (take k script)
  pub placed : IsInterleaving (calls_of (take k script)) history
  pub moments : AreMoments at gives history
  pub replies : AreReplies (calls_of script) (IsPlainReply (calls_of script) (empty_tree first)) history answered
