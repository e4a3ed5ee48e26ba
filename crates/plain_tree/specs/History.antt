-- Histories of placements: whose calls stand where, and the tree that they leave.
use Rattle.std.specs.Prelude.{◌≡◌, ℕ, List, ◌==◌, filter, fold, map, length, Option, Some, None, slice_get}
use Rattle.std.specs.List.{range_with_len}
use Rattle.plain_tree.specs.declared.calls.Call.{Call}
use Rattle.plain_tree.specs.declared.calls.Placed.{Placed}
use Rattle.plain_tree.specs.declared.calls.Fate.{Fate}
use Rattle.plain_tree.specs.declared.calls.Fate.TheVariants as fates
use Rattle.plain_tree.specs.Calls.{after}
use Rattle.plain_tree.specs.Tree.{Tree}

-- the calls of each session, in order
abbrev pub Calls : Type 0
Calls = ℕ → List Call

-- the call of a placement
abbrev pub call_at : Calls → Placed → Option Call
call_at calls p = slice_get (calls p.who) p.nth

-- what a placement leaves: a void one leaves the tree as it is
abbrev pub after_placement : Calls → Tree → Placed → Tree
after_placement calls t p = by_fate p.fate (call_at calls p)
  where
    by_fate : Fate → Option Call → Tree
    by_fate fates.Void call = t
    by_fate fates.Done None = t
    by_fate fates.Done (Some call) = after t call p.at

-- what a history leaves
abbrev pub replay : Calls → Tree → List Placed → Tree
replay calls t history = fold (after_placement calls) t history

-- the numbers of a session's calls, in the order in which they were placed
abbrev pub numbers_of : List Placed → ℕ → List ℕ
numbers_of history who = map (λ p. p.nth) (filter (λ p. p.who == who) history)

-- each session's calls are placed once, in order
abbrev pub IsInterleaving : Calls → List Placed → Type 0
IsInterleaving calls history = (who : ℕ) → numbers_of history who ≡ range_with_len 0 (length (calls who))
