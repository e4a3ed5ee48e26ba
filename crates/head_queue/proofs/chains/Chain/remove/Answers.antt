use Rattle.std.proofs.Common.{◌≡◌, ◌≤◌, ◌-◌, ℕ, List, ◌++◌, cond, nat_eq, ap, sym, subst, ◌∙◌}
use Rattle.std.specs.Vec.{vec_len}
use Rattle.head_queue.specs.Links.{after_of, before_of}
use Rattle.head_queue.specs.Rings.{Ring, IsRing}
use Rattle.head_queue.proofs.RingLemmas.{member_within, before_within, after_within, removed, seen, met}
use Rattle.head_queue.proofs.chains.Chain.remove.Goals as goal

pub number_before-at-requires : goal.number_before-at-requires
number_before-at-requires c =
    let is = ap (λ (r : Ring). r.members) c.self.view_is in
    let ring = subst (λ (ys : List ℕ). IsRing (after_of c.self.inside.ends c.self.inside.links.items) (before_of c.self.inside.ends c.self.inside.links.items) (vec_len c.self.inside.links) ys c.self.inside.count) is c.self.invariant in
    subst (λ (n : ℕ). c.args.number ≤ n) (sym c.deref.ensures.len) (member_within c.args.self.now.members c.args.number (vec_len c.self.inside.links) ring.within c.requires)

pub number_after-next-requires : goal.number_after-next-requires
number_after-next-requires c =
    let is = ap (λ (r : Ring). r.members) c.self.view_is in
    let ring = subst (λ (ys : List ℕ). IsRing (after_of c.self.inside.ends c.self.inside.links.items) (before_of c.self.inside.ends c.self.inside.links.items) (vec_len c.self.inside.links) ys c.self.inside.count) is c.self.invariant in
    subst (λ (n : ℕ). c.args.number ≤ n) (sym c.deref-2.ensures.len) (member_within c.args.self.now.members c.args.number (vec_len c.self.inside.links) ring.within c.requires)

pub set_after-requires : goal.set_after-requires
set_after-requires c =
    let is = ap (λ (r : Ring). r.members) c.self.view_is in
    let ring = subst (λ (ys : List ℕ). IsRing (after_of c.self.inside.ends c.self.inside.links.items) (before_of c.self.inside.ends c.self.inside.links.items) (vec_len c.self.inside.links) ys c.self.inside.count) is c.self.invariant in
    let at : c.number_before-at.result ≡ (before_of c.self.inside.ends c.self.inside.links.items) c.args.number = c.number_before-at.ensures ∙ ap (λ ls. before_of c.self.inside.ends ls c.args.number) c.deref.ensures.value in
    before_within (after_of c.self.inside.ends c.self.inside.links.items) (before_of c.self.inside.ends c.self.inside.links.items) (vec_len c.self.inside.links) c.self.inside.count c.args.number c.number_before-at.result c.args.self.now.members ring c.requires at

pub set_before-requires : goal.set_before-requires
set_before-requires c =
    let is = ap (λ (r : Ring). r.members) c.self.view_is in
    let ring = subst (λ (ys : List ℕ). IsRing (after_of c.self.inside.ends c.self.inside.links.items) (before_of c.self.inside.ends c.self.inside.links.items) (vec_len c.self.inside.links) ys c.self.inside.count) is c.self.invariant in
    let next : c.number_after-next.result ≡ (after_of c.self.inside.ends c.self.inside.links.items) c.args.number = c.number_after-next.ensures ∙ ap (λ ls. after_of c.self.inside.ends ls c.args.number) c.deref-2.ensures.value in
    subst (λ (n : ℕ). c.number_after-next.result ≤ n) (sym c.set_after.ensures.len) (after_within (after_of c.self.inside.ends c.self.inside.links.items) (before_of c.self.inside.ends c.self.inside.links.items) (vec_len c.self.inside.links) c.self.inside.count c.args.number c.number_after-next.result c.args.self.now.members ring c.requires next)

pub invariant_of-self : goal.invariant_of-self
invariant_of-self c =
    let is = ap (λ (r : Ring). r.members) c.self.view_is in
    let ring = subst (λ (ys : List ℕ). IsRing (after_of c.self.inside.ends c.self.inside.links.items) (before_of c.self.inside.ends c.self.inside.links.items) (vec_len c.self.inside.links) ys c.self.inside.count) is c.self.invariant in
    let at : c.number_before-at.result ≡ (before_of c.self.inside.ends c.self.inside.links.items) c.args.number = c.number_before-at.ensures ∙ ap (λ ls. before_of c.self.inside.ends ls c.args.number) c.deref.ensures.value in
    let next : c.number_after-next.result ≡ (after_of c.self.inside.ends c.self.inside.links.items) c.args.number = c.number_after-next.ensures ∙ ap (λ ls. after_of c.self.inside.ends ls c.args.number) c.deref-2.ensures.value in
    let made = removed (after_of c.self.inside.ends c.self.inside.links.items) (before_of c.self.inside.ends c.self.inside.links.items) (after_of c.set_before.new.ends c.set_before.new.links.items) (before_of c.set_before.new.ends c.set_before.new.links.items) (vec_len c.self.inside.links) c.self.inside.count c.number_before-at.result c.args.number c.number_after-next.result c.args.self.now.members ring c.requires at next
    (λ s. c.set_before.ensures.after s ∙ c.set_after.ensures.after s)
    (λ s. c.set_before.ensures.before s ∙ ap (λ (z : ℕ). cond (nat_eq s c.number_after-next.result) c.number_before-at.result z) (c.set_after.ensures.before s)) in
    let same : vec_len c.set_before.new.links ≡ (vec_len c.self.inside.links) = c.set_before.ensures.len ∙ c.set_after.ensures.len in
    seen (after_of c.set_before.new.ends c.set_before.new.links.items) (before_of c.set_before.new.ends c.set_before.new.links.items) (vec_len c.set_before.new.links) (c.self.inside.count - 1) (c.requires.front ++ c.requires.behind)
    (subst (λ (n : ℕ). IsRing (after_of c.set_before.new.ends c.set_before.new.links.items) (before_of c.set_before.new.ends c.set_before.new.links.items) n (c.requires.front ++ c.requires.behind) (c.self.inside.count - 1)) (sym same) made)

pub returns-clause-members : goal.returns-clause-members
returns-clause-members c w =
    let is = ap (λ (r : Ring). r.members) c.self.view_is in
    let ring = subst (λ (ys : List ℕ). IsRing (after_of c.self.inside.ends c.self.inside.links.items) (before_of c.self.inside.ends c.self.inside.links.items) (vec_len c.self.inside.links) ys c.self.inside.count) is c.self.invariant in
    let at : c.number_before-at.result ≡ (before_of c.self.inside.ends c.self.inside.links.items) c.args.number = c.number_before-at.ensures ∙ ap (λ ls. before_of c.self.inside.ends ls c.args.number) c.deref.ensures.value in
    let next : c.number_after-next.result ≡ (after_of c.self.inside.ends c.self.inside.links.items) c.args.number = c.number_after-next.ensures ∙ ap (λ ls. after_of c.self.inside.ends ls c.args.number) c.deref-2.ensures.value in
    let made = removed (after_of c.self.inside.ends c.self.inside.links.items) (before_of c.self.inside.ends c.self.inside.links.items) (after_of c.set_before.new.ends c.set_before.new.links.items) (before_of c.set_before.new.ends c.set_before.new.links.items) (vec_len c.self.inside.links) c.self.inside.count c.number_before-at.result c.args.number c.number_after-next.result c.args.self.now.members ring w at next
    (λ s. c.set_before.ensures.after s ∙ c.set_after.ensures.after s)
    (λ s. c.set_before.ensures.before s ∙ ap (λ (z : ℕ). cond (nat_eq s c.number_after-next.result) c.number_before-at.result z) (c.set_after.ensures.before s)) in
    met (after_of c.set_before.new.ends c.set_before.new.links.items) (before_of c.set_before.new.ends c.set_before.new.links.items) (vec_len c.self.inside.links) (c.self.inside.count - 1) (w.front ++ w.behind) made
