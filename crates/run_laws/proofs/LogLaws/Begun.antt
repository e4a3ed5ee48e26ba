-- Each sync that the events begin has its place in the history.
use Rattle.std.specs.Prelude.{◌≡◌, ◌<◌, ◌⊎◌, ℕ, List, [], ◌∷◌, ◌++◌, length, Contains, Option, Some, None}
use Rattle.std.proofs.Common.{refl, sym, subst, inl, inr, arith, append_assoc, append-nil, length-append}
use Rattle.std.proofs.lemmas.List.Elements.{Contains-append_cases}
use Rattle.plain_tree.specs.History.{Calls, call_at}
use Rattle.plain_tree.specs.declared.calls.Call.{Call}
use Rattle.plain_tree.specs.declared.calls.Call.TheVariants.{Sync}
use Rattle.plain_tree.specs.declared.calls.Fate.{Fate}
use Rattle.plain_tree.specs.declared.calls.Fate.TheVariants as fates
use Rattle.plain_tree.specs.declared.calls.Placed.{Placed}
use Rattle.session_script.specs.declared.logs.Event.{Event}
use Rattle.promises.specs.ServingPromise.Acks.{AreSyncs, done_syncs}
use Rattle.promises.proofs.OrderLaws.Placing.{done_push_other, done_push_sync}
use Rattle.promises.specs.ReplyLaws.Asks.{AreBegun}
use Rattle.promises.proofs.ReplyLaws.Lists.{in_cases, in_none}

abbrev AreWithin : Calls → List Placed → Type 0
AreWithin calls history = (ticket : ℕ) → Contains (done_syncs calls history) ticket → ticket < length history

same_within : (calls : Calls) (history : List Placed) (p : Placed)
    → done_syncs calls (history ++ p ∷ []) ≡ done_syncs calls history → AreWithin calls history
    → AreWithin calls (history ++ p ∷ [])
same_within calls history p same are ticket has =
    omega (arith, are ticket (subst (λ xs. Contains xs ticket) same has), length-append history (p ∷ []))

one_within : (calls : Calls) (history : List Placed) (p : Placed) (fate : Fate) (call : Option Call) → p.fate ≡ fate
    → call_at calls p ≡ call → AreWithin calls history → AreWithin calls (history ++ p ∷ [])
one_within calls history p fates.Done (Some Sync) is_fate is_call are ticket has =
    by (Contains-append_cases (done_syncs calls history) (length history ∷ []) ticket
    (subst (λ xs. Contains xs ticket) (done_push_sync calls history p is_fate is_call) has))
  where
    last : (length history ≡ ticket) ⊎ Contains [] ticket → ticket < length (history ++ p ∷ [])
    last (inl is) = omega (arith, is, length-append history (p ∷ []))
    last (inr none) = absurd (in_none ticket none)

    by : Contains (done_syncs calls history) ticket ⊎ Contains (length history ∷ []) ticket
        → ticket < length (history ++ p ∷ [])
    by (inl old) = omega (arith, are ticket old, length-append history (p ∷ []))
    by (inr new) = last (in_cases (length history) [] ticket new)
one_within calls history p fates.Done None is_fate is_call are ticket has =
    same_within calls history p (done_push_other calls history p fates.Done None is_fate is_call (λ e. refl)) are
    ticket has
one_within calls history p fates.Done (Some call) is_fate is_call are ticket has =
    same_within calls history p (done_push_other calls history p fates.Done (Some call) is_fate is_call (λ e. refl))
    are ticket has
one_within calls history p fates.Void call is_fate is_call are ticket has =
    same_within calls history p (done_push_other calls history p fates.Void call is_fate is_call (λ e. absurd (cc)))
    are ticket has

all_within : (calls : Calls) (front behind : List Placed) → AreWithin calls front → AreWithin calls (front ++ behind)
all_within calls front [] are = subst (AreWithin calls) (sym (append-nil front)) are
all_within calls front (p ∷ behind) are =
    subst (AreWithin calls) (append_assoc front (p ∷ []) behind)
    (all_within calls (front ++ p ∷ []) behind (one_within calls front p p.fate (call_at calls p) refl refl are))

-- each sync that the events begin has its place in the history
pub are_begun : (calls : Calls) (history : List Placed) (trail : List Event) → AreSyncs calls history trail
    → AreBegun history trail
are_begun calls history trail syncs ticket has =
    all_within calls [] history (λ ticket none. absurd (in_none ticket none)) ticket
    (subst (λ xs. Contains xs ticket) syncs has)
