-- One more placement at the end of a history.
use Rattle.std.proofs.Common.{◌≡◌, ℕ, eqb, cond, Bool, true, false, List, [], ◌∷◌, ◌++◌, map, filter, ap, ◌∙◌, refl}
use Rattle.std.proofs.lemmas.List.{map-append}
use Rattle.std.proofs.lemmas.List.Elements.{filter-append}
use Rattle.std.proofs.lemmas.List.Sums.{fold_push}
use Rattle.plain_tree.specs.declared.calls.Placed.{Placed}
use Rattle.plain_tree.specs.History.{Calls, after_placement, replay, numbers_of}
use Rattle.plain_tree.specs.Tree.{Tree}

-- the tree that a longer history leaves
pub replay_push : (calls : Calls) (t : Tree) (history : List Placed) (p : Placed) → replay calls t (history ++ p ∷ []) ≡ after_placement calls (replay calls t history) p
replay_push calls t history p = fold_push (after_placement calls) t history p

-- the numbers of a session in a longer history
pub numbers_push : (history : List Placed) (p : Placed) (who : ℕ) → numbers_of (history ++ p ∷ []) who ≡ numbers_of history who ++ cond (eqb p.who who) (p.nth ∷ []) []
numbers_push history p who =
    ap (map (λ (p : Placed). p.nth)) (filter-append (λ (p : Placed). eqb p.who who) history (p ∷ []))
    ∙ map-append (λ (p : Placed). p.nth) (filter (λ (p : Placed). eqb p.who who) history) (filter (λ (p : Placed). eqb p.who who) (p ∷ []))
    ∙ ap (λ l. numbers_of history who ++ l) (one (eqb p.who who))
  where
    one : (b : Bool) → map (λ (p : Placed). p.nth) (cond b (p ∷ []) []) ≡ cond b (p.nth ∷ []) []
    one true = refl
    one false = refl
