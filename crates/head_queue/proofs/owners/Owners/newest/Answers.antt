use Rattle.std.proofs.Common.{◌≡◌, ◌≢◌, ℕ, List, Some, IfSome, IfNone, ap, subst, ◌∙◌}
use Rattle.head_queue.specs.declared.newest.Owned.{Owned}
use Rattle.head_queue.specs.Newest.{lookup}
use Rattle.head_queue.specs.Holdings.{Holdings, owner_of}
use Rattle.head_queue.proofs.GroupLemmas.{newest_some, newest_none}
use Rattle.head_queue.proofs.owners.Owners.newest.Goals as goal

pub returns-clause-some : goal.returns-clause-some
returns-clause-some c =
    let is : c.newest_of.result ≡ lookup c.args.owner c.self.inside.newest.items = c.newest_of.ensures ∙ ap (lookup c.args.owner) c.deref.ensures.value in
    subst (λ (ps : List Owned). IfSome c.newest_of.result (λ k. owner_of k ps ≡ Some c.args.owner)) (ap (λ (h : Holdings). h.pairs) c.self.view_is)
    (newest_some c.self.inside.owners.items c.self.inside.chain.members c.self.inside.chain.size c.self.inside.newest.items c.args.owner c.newest_of.result c.self.invariant is)

pub returns-clause-none : goal.returns-clause-none
returns-clause-none c =
    let is : c.newest_of.result ≡ lookup c.args.owner c.self.inside.newest.items = c.newest_of.ensures ∙ ap (lookup c.args.owner) c.deref.ensures.value in
    subst (λ (ps : List Owned). IfNone c.newest_of.result ((k : ℕ) → owner_of k ps ≢ Some c.args.owner)) (ap (λ (h : Holdings). h.pairs) c.self.view_is)
    (newest_none c.self.inside.owners.items c.self.inside.chain.members c.self.inside.chain.size c.self.inside.newest.items c.args.owner c.newest_of.result c.self.invariant is)
