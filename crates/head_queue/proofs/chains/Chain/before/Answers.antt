use Rattle.std.proofs.Common.{◌≤◌, ℕ, List, ap, sym, subst, ◌∙◌}
use Rattle.std.specs.Vec.{vec_len}
use Rattle.head_queue.specs.Links.{after_of, before_of}
use Rattle.head_queue.specs.Rings.{Ring, IsRing}
use Rattle.head_queue.proofs.RingLemmas.{member_within, before_is}
use Rattle.head_queue.proofs.chains.Chain.before.Goals as goal

pub number_before-requires : goal.number_before-requires
number_before-requires c =
    let is = ap (λ (r : Ring). r.members) c.self.view_is in
    let ring = subst (λ (ys : List ℕ). IsRing (after_of c.self.inside.ends c.self.inside.links.items) (before_of c.self.inside.ends c.self.inside.links.items) (vec_len c.self.inside.links) ys c.self.inside.count) is c.self.invariant in
    subst (λ (n : ℕ). c.args.number ≤ n) (sym c.deref.ensures.len) (member_within c.args.self.now.members c.args.number (vec_len c.self.inside.links) ring.within c.requires)

pub returns : goal.returns
returns c w =
    let is = ap (λ (r : Ring). r.members) c.self.view_is in
    let ring = subst (λ (ys : List ℕ). IsRing (after_of c.self.inside.ends c.self.inside.links.items) (before_of c.self.inside.ends c.self.inside.links.items) (vec_len c.self.inside.links) ys c.self.inside.count) is c.self.invariant in
    c.number_before.ensures ∙ ap (λ ls. before_of c.self.inside.ends ls c.args.number) c.deref.ensures.value ∙ before_is (after_of c.self.inside.ends c.self.inside.links.items) (before_of c.self.inside.ends c.self.inside.links.items) (vec_len c.self.inside.links) c.self.inside.count c.args.number c.args.self.now.members ring w
