use Rattle.std.proofs.Common.{◌≡◌, ◌≢◌, ℕ, List, ◌∷◌, map, Option, Some, None, IfSome, IfNone, ap, sym, subst, ◌∙◌}
use Rattle.std.specs.List.{AllByRecursion}
use Rattle.head_queue.specs.declared.entries.QueueEntry.{QueueEntry}
use Rattle.head_queue.specs.Cuts.{Differ}
use Rattle.head_queue.specs.Waiting.{Waiting}
use Rattle.head_queue.specs.Orders.{Order, IsIn}
use Rattle.head_queue.specs.Entries.{entry_at, waiting, waiting_at}
use Rattle.head_queue.specs.Kept.{AreKept}
use Rattle.head_queue.proofs.KeptLemmas.{is_in, is_none, nodes_are}
use Rattle.head_queue.proofs.places.Places.get.Goals as goal

some : (es : List (Option QueueEntry)) (members : List ℕ) (size n : ℕ) (o : Option QueueEntry) → AreKept es members size → o ≡ entry_at es n
    → IfSome o (λ e. IsIn (map (waiting_at es) members) (waiting n (Some e)))
some es members size n None kept is = tt
some es members size n (Some e) kept is = is_in es members size n e kept (sym is)

none : (es : List (Option QueueEntry)) (members : List ℕ) (size n : ℕ) (o : Option QueueEntry) → AreKept es members size → o ≡ entry_at es n
    → IfNone o (AllByRecursion (λ w. w.node ≢ n) (map (waiting_at es) members))
none es members size n None kept is = is_none es members size n kept (sym is)
none es members size n (Some e) kept is = tt

pub returns-clause-some : goal.returns-clause-some
returns-clause-some c =
    let is : c.get.result ≡ entry_at c.self.inside.entries.items c.args.number = c.get.ensures ∙ ap (λ (es : List (Option QueueEntry)). entry_at es c.args.number) c.deref.ensures.value in
    subst (λ (ws : List Waiting). IfSome c.get.result (λ e. IsIn ws (waiting c.args.number (Some e)))) (ap (λ (o : Order). o.order) c.self.view_is)
    (some c.self.inside.entries.items c.self.inside.chain.members c.self.inside.chain.size c.args.number c.get.result c.self.invariant is)

pub returns-clause-none : goal.returns-clause-none
returns-clause-none c =
    let is : c.get.result ≡ entry_at c.self.inside.entries.items c.args.number = c.get.ensures ∙ ap (λ (es : List (Option QueueEntry)). entry_at es c.args.number) c.deref.ensures.value in
    subst (λ (ws : List Waiting). IfNone c.get.result (AllByRecursion (λ w. w.node ≢ c.args.number) ws)) (ap (λ (o : Order). o.order) c.self.view_is)
    (none c.self.inside.entries.items c.self.inside.chain.members c.self.inside.chain.size c.args.number c.get.result c.self.invariant is)

pub returns-clause-differ : goal.returns-clause-differ
returns-clause-differ c =
    subst (λ (ws : List Waiting). Differ (0 ∷ map (λ (w : Waiting). w.node) ws)) (ap (λ (o : Order). o.order) c.self.view_is)
    (subst (λ (ks : List ℕ). Differ (0 ∷ ks)) (sym (nodes_are c.self.inside.entries.items c.self.inside.chain.members)) c.self.invariant.differ)
