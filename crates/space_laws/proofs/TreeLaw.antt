-- The tree that stands after the first placements is the one that the history leaves.
use Rattle.std.specs.Prelude.{◌≡◌, ℕ, Bool, ◌+◌, List, [], ◌∷◌, fold, take, Option, Some, None}
use Rattle.std.specs.List.{enumerate_from}
use Rattle.std.proofs.Common.{refl, ap, ◌∙◌}
use Rattle.plain_tree.specs.History.{after_placement, call_at}
use Rattle.plain_tree.specs.declared.calls.Call.{Call}
use Rattle.plain_tree.specs.declared.calls.Fate.{Fate}
use Rattle.plain_tree.specs.declared.calls.Fate.TheVariants as fates
use Rattle.plain_tree.specs.declared.calls.Placed.{Placed}
use Rattle.space_laws.specs.Laws.{TreesAreReplays}
use Rattle.space_laws.specs.Standing.{Given, Standing, after_placed, first_standing, is_on}

-- one placement leaves the same tree
by_fate : (g : Given) (on : Bool) (st : Standing) (p : Placed) (fate : Fate) (call : Option Call) → p.fate ≡ fate → call_at g.calls p ≡ call
    → (after_placed g on st p).tree ≡ after_placement g.calls st.tree p
by_fate g on st p fates.Void call f e = rw f refl
by_fate g on st p fates.Done None f e = rw (f, e) refl
by_fate g on st p fates.Done (Some call) f e = rw (f, e) refl

one : (g : Given) (on : Bool) (st : Standing) (p : Placed) → (after_placed g on st p).tree ≡ after_placement g.calls st.tree p
one g on st p = by_fate g on st p p.fate (call_at g.calls p) refl refl

-- and so do many, of which the first has any place
many : (g : Given) (on : Option ℕ) (ps : List Placed) (k : ℕ) (st : Standing)
    → (fold (λ s e. after_placed g (is_on g.mounted on e.0) s e.1) st (enumerate_from k ps)).tree ≡ fold (after_placement g.calls) st.tree ps
many g on [] k st = refl
many g on (p ∷ ps) k st =
    many g on ps (k + 1) (after_placed g (is_on g.mounted on k) st p) ∙ ap (λ t. fold (after_placement g.calls) t ps) (one g (is_on g.mounted on k) st p)

-- the tree after the first placements is the one that replaying them gives
pub are_replays : TreesAreReplays
are_replays g on history k = many g on (take k history) 0 (first_standing g)
