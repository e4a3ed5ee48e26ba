use Rattle.std.proofs.Common.{◌≤◌, ℕ, List, ap, sym, subst, ◌∙◌}
use Rattle.std.specs.Vec.{vec_len}
use Rattle.head_queue.specs.Links.{after_of, before_of}
use Rattle.head_queue.specs.Rings.{Ring, IsRing}
use Rattle.head_queue.proofs.RingLemmas.{cut_within, next_is}
use Rattle.head_queue.proofs.chains.Chain.after.Goals as goal

pub number_after-requires : goal.number_after-requires
number_after-requires c =
    let is = ap (λ (r : Ring). r.members) c.self.view_is in
    let ring = subst (λ (ys : List ℕ). IsRing (after_of c.self.inside.ends c.self.inside.links.items) (before_of c.self.inside.ends c.self.inside.links.items) (vec_len c.self.inside.links) ys c.self.inside.count) is c.self.invariant in
    subst (λ (n : ℕ). c.args.at ≤ n) (sym c.deref.ensures.len) (cut_within c.args.self.now.members c.args.at (vec_len c.self.inside.links) ring.within c.requires)

pub returns : goal.returns
returns c w =
    let is = ap (λ (r : Ring). r.members) c.self.view_is in
    let ring = subst (λ (ys : List ℕ). IsRing (after_of c.self.inside.ends c.self.inside.links.items) (before_of c.self.inside.ends c.self.inside.links.items) (vec_len c.self.inside.links) ys c.self.inside.count) is c.self.invariant in
    c.number_after.ensures ∙ ap (λ ls. after_of c.self.inside.ends ls c.args.at) c.deref.ensures.value ∙ next_is (after_of c.self.inside.ends c.self.inside.links.items) (before_of c.self.inside.ends c.self.inside.links.items) (vec_len c.self.inside.links) c.self.inside.count c.args.at c.args.self.now.members ring w
