use Rattle.std.proofs.Common.{◌≡◌, [], replicate}
use Rattle.session_script.proofs.scripts.empty_lists.Given as goal

abbrev pub invariant-loop-session : goal.invariant-loop-session
invariant-loop-session l = l.lists.items ≡ replicate l._session []
