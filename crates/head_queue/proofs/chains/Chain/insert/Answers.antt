use Rattle.std.proofs.Common.{◌≡◌, ◌≤◌, ◌<◌, ◌+◌, ℕ, List, ◌++◌, ◌∷◌, length, cond, nat_eq, ap, sym, subst, ◌∙◌}
use Rattle.std.specs.Vec.{vec_len}
use Rattle.head_queue.specs.Links.{after_of, before_of}
use Rattle.head_queue.specs.Cuts.{first_of}
use Rattle.head_queue.specs.Rings.{Ring, IsRing}
use Rattle.head_queue.proofs.RingLemmas.{cut_within, behind_within, next_is, inserted, seen, met}
use Rattle.head_queue.proofs.chains.Chain.insert.Goals as goal

pub number_after-next-requires : goal.number_after-next-requires
number_after-next-requires c =
    let is = ap (λ (r : Ring). r.members) c.self.view_is in
    let ring = subst (λ (ys : List ℕ). IsRing (after_of c.self.inside.ends c.self.inside.links.items) (before_of c.self.inside.ends c.self.inside.links.items) (vec_len c.self.inside.links) ys c.self.inside.count) is c.self.invariant in
    subst (λ (n : ℕ). c.args.at ≤ n) (sym c.deref.ensures.len) (cut_within c.args.self.now.members c.args.at (vec_len c.self.inside.links) ring.within c.requires.on)

pub set_after-requires : goal.set_after-requires
set_after-requires c =
    let is = ap (λ (r : Ring). r.members) c.self.view_is in
    let ring = subst (λ (ys : List ℕ). IsRing (after_of c.self.inside.ends c.self.inside.links.items) (before_of c.self.inside.ends c.self.inside.links.items) (vec_len c.self.inside.links) ys c.self.inside.count) is c.self.invariant in
    cut_within c.args.self.now.members c.args.at (vec_len c.self.inside.links) ring.within c.requires.on

pub set_before-requires-2 : goal.set_before-requires-2
set_before-requires-2 c =
    let is = ap (λ (r : Ring). r.members) c.self.view_is in
    let ring = subst (λ (ys : List ℕ). IsRing (after_of c.self.inside.ends c.self.inside.links.items) (before_of c.self.inside.ends c.self.inside.links.items) (vec_len c.self.inside.links) ys c.self.inside.count) is c.self.invariant in
    let next : c.number_after-next.result ≡ first_of 0 c.requires.on.behind = c.number_after-next.ensures ∙ ap (λ ls. after_of c.self.inside.ends ls c.args.at) c.deref.ensures.value ∙ next_is (after_of c.self.inside.ends c.self.inside.links.items) (before_of c.self.inside.ends c.self.inside.links.items) (vec_len c.self.inside.links) c.self.inside.count c.args.at c.args.self.now.members ring c.requires.on in
    let same : vec_len c.set_before.new.links ≡ (vec_len c.self.inside.links) = c.set_before.ensures.len ∙ c.set_after-2.ensures.len ∙ c.set_after.ensures.len in
    subst (λ (n : ℕ). c.number_after-next.result ≤ n) (sym same) (subst (λ (n : ℕ). n ≤ (vec_len c.self.inside.links)) (sym next) (behind_within c.args.self.now.members c.args.at (vec_len c.self.inside.links) ring.within c.requires.on))

pub invariant_of-self : goal.invariant_of-self
invariant_of-self c =
    let is = ap (λ (r : Ring). r.members) c.self.view_is in
    let ring = subst (λ (ys : List ℕ). IsRing (after_of c.self.inside.ends c.self.inside.links.items) (before_of c.self.inside.ends c.self.inside.links.items) (vec_len c.self.inside.links) ys c.self.inside.count) is c.self.invariant in
    let next : c.number_after-next.result ≡ (after_of c.self.inside.ends c.self.inside.links.items) c.args.at = c.number_after-next.ensures ∙ ap (λ ls. after_of c.self.inside.ends ls c.args.at) c.deref.ensures.value in
    let made = inserted (after_of c.self.inside.ends c.self.inside.links.items) (before_of c.self.inside.ends c.self.inside.links.items) (after_of c.set_before-2.new.ends c.set_before-2.new.links.items) (before_of c.set_before-2.new.ends c.set_before-2.new.links.items) (vec_len c.self.inside.links) c.self.inside.count c.args.at c.args.number c.number_after-next.result c.args.self.now.members ring c.requires.on next c.requires.apart (subst (λ (n : ℕ). c.args.number ≤ n) (ap (λ (r : Ring). r.size) (sym c.self.view_is)) c.requires.within) (subst (λ (n : ℕ). length c.args.self.now.members < n) (ap (λ (r : Ring). r.size) (sym c.self.view_is)) c.requires.room)
    (λ s. c.set_before-2.ensures.after s ∙ c.set_before.ensures.after s ∙ c.set_after-2.ensures.after s ∙ ap (λ (z : ℕ). cond (nat_eq s c.args.number) c.number_after-next.result z) (c.set_after.ensures.after s))
    (λ s. c.set_before-2.ensures.before s ∙ ap (λ (z : ℕ). cond (nat_eq s c.number_after-next.result) c.args.number z) (c.set_before.ensures.before s ∙ ap (λ (z : ℕ). cond (nat_eq s c.args.number) c.args.at z) (c.set_after-2.ensures.before s ∙ c.set_after.ensures.before s))) in
    let same : vec_len c.set_before-2.new.links ≡ (vec_len c.self.inside.links) = c.set_before-2.ensures.len ∙ c.set_before.ensures.len ∙ c.set_after-2.ensures.len ∙ c.set_after.ensures.len in
    seen (after_of c.set_before-2.new.ends c.set_before-2.new.links.items) (before_of c.set_before-2.new.ends c.set_before-2.new.links.items) (vec_len c.set_before-2.new.links) (c.self.inside.count + 1) (c.requires.on.front ++ c.args.number ∷ c.requires.on.behind)
    (subst (λ (n : ℕ). IsRing (after_of c.set_before-2.new.ends c.set_before-2.new.links.items) (before_of c.set_before-2.new.ends c.set_before-2.new.links.items) n (c.requires.on.front ++ c.args.number ∷ c.requires.on.behind) (c.self.inside.count + 1)) (sym same) made)

pub returns-clause-members : goal.returns-clause-members
returns-clause-members c w =
    let is = ap (λ (r : Ring). r.members) c.self.view_is in
    let ring = subst (λ (ys : List ℕ). IsRing (after_of c.self.inside.ends c.self.inside.links.items) (before_of c.self.inside.ends c.self.inside.links.items) (vec_len c.self.inside.links) ys c.self.inside.count) is c.self.invariant in
    let next : c.number_after-next.result ≡ (after_of c.self.inside.ends c.self.inside.links.items) c.args.at = c.number_after-next.ensures ∙ ap (λ ls. after_of c.self.inside.ends ls c.args.at) c.deref.ensures.value in
    let made = inserted (after_of c.self.inside.ends c.self.inside.links.items) (before_of c.self.inside.ends c.self.inside.links.items) (after_of c.set_before-2.new.ends c.set_before-2.new.links.items) (before_of c.set_before-2.new.ends c.set_before-2.new.links.items) (vec_len c.self.inside.links) c.self.inside.count c.args.at c.args.number c.number_after-next.result c.args.self.now.members ring w next c.requires.apart (subst (λ (n : ℕ). c.args.number ≤ n) (ap (λ (r : Ring). r.size) (sym c.self.view_is)) c.requires.within) (subst (λ (n : ℕ). length c.args.self.now.members < n) (ap (λ (r : Ring). r.size) (sym c.self.view_is)) c.requires.room)
    (λ s. c.set_before-2.ensures.after s ∙ c.set_before.ensures.after s ∙ c.set_after-2.ensures.after s ∙ ap (λ (z : ℕ). cond (nat_eq s c.args.number) c.number_after-next.result z) (c.set_after.ensures.after s))
    (λ s. c.set_before-2.ensures.before s ∙ ap (λ (z : ℕ). cond (nat_eq s c.number_after-next.result) c.args.number z) (c.set_before.ensures.before s ∙ ap (λ (z : ℕ). cond (nat_eq s c.args.number) c.args.at z) (c.set_after-2.ensures.before s ∙ c.set_after.ensures.before s))) in
    met (after_of c.set_before-2.new.ends c.set_before-2.new.links.items) (before_of c.set_before-2.new.ends c.set_before-2.new.links.items) (vec_len c.self.inside.links) (c.self.inside.count + 1) (w.front ++ c.args.number ∷ w.behind) made
