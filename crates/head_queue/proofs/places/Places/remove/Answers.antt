use Rattle.std.proofs.Common.{◌≡◌, ℕ, List, length, map, ap, sym, subst, ◌∙◌, arith, rules}
use Rattle.std.specs.Vec.{vec_len}
use Rattle.head_queue.specs.Orders.{Order, HasNode}
use Rattle.head_queue.specs.Entries.{waiting_at}
use Rattle.head_queue.specs.Kept.{AreKept}
use Rattle.head_queue.proofs.KeptLemmas.{member_of, kept_less, order_left, member_fits}
use Rattle.head_queue.proofs.places.Places.remove.Goals as goal

pub before-self-inside-requires : goal.before-self-inside-requires
before-self-inside-requires c = (member_of c.self.inside.entries.items c.self.inside.chain.members c.args.number (record { front = c.requires.front; here = c.requires.here; behind = c.requires.behind; parts = (ap (λ (o : Order). o.order) c.self.view_is) ∙ c.requires.parts; node = c.requires.node }))

pub remove-requires : goal.remove-requires
remove-requires c = (member_of c.self.inside.entries.items c.self.inside.chain.members c.args.number (record { front = c.requires.front; here = c.requires.here; behind = c.requires.behind; parts = (ap (λ (o : Order). o.order) c.self.view_is) ∙ c.requires.parts; node = c.requires.node }))

pub set-requires-clause-some : goal.set-requires-clause-some
set-requires-clause-some c = (member_fits c.self.inside.entries.items c.self.inside.chain.members c.self.inside.chain.size c.args.number c.self.invariant (member_of c.self.inside.entries.items c.self.inside.chain.members c.args.number (record { front = c.requires.front; here = c.requires.here; behind = c.requires.behind; parts = (ap (λ (o : Order). o.order) c.self.view_is) ∙ c.requires.parts; node = c.requires.node }))).0

pub set-requires-clause-within : goal.set-requires-clause-within
set-requires-clause-within c =
    let b : vec_len c.self.inside.entries ≡ length c.self.inside.entries.items = search rules in
    let w = c.self.invariant.wide in
    let le = (member_fits c.self.inside.entries.items c.self.inside.chain.members c.self.inside.chain.size c.args.number c.self.invariant (member_of c.self.inside.entries.items c.self.inside.chain.members c.args.number (record { front = c.requires.front; here = c.requires.here; behind = c.requires.behind; parts = (ap (λ (o : Order). o.order) c.self.view_is) ∙ c.requires.parts; node = c.requires.node }))).1 in
    omega arith

pub invariant_of-self : goal.invariant_of-self
invariant_of-self c =
    let m = (member_of c.self.inside.entries.items c.self.inside.chain.members c.args.number (record { front = c.requires.front; here = c.requires.here; behind = c.requires.behind; parts = (ap (λ (o : Order). o.order) c.self.view_is) ∙ c.requires.parts; node = c.requires.node })) in
    subst (λ (n : ℕ). AreKept c.set.new.entries.items c.remove.new.self.members n) (sym c.remove.ensures.size)
    (subst (λ (ks : List ℕ). AreKept c.set.new.entries.items ks c.self.inside.chain.size) (sym (c.remove.ensures.members m))
    (kept_less c.self.inside.entries.items c.set.new.entries.items c.args.number c.self.inside.chain.members c.self.inside.chain.size c.self.invariant c.set.ensures.entries m (let a : vec_len c.set.new.entries ≡ length c.set.new.entries.items = search rules in let b : vec_len c.self.inside.entries ≡ length c.self.inside.entries.items = search rules in sym a ∙ c.set.ensures.len ∙ b ∙ c.self.invariant.wide)))

pub returns-clause-order : goal.returns-clause-order
returns-clause-order c h =
    let g : HasNode (map (waiting_at c.self.inside.entries.items) c.self.inside.chain.members) c.args.number = record { front = h.front; here = h.here; behind = h.behind; parts = (ap (λ (o : Order). o.order) c.self.view_is) ∙ h.parts; node = h.node } in
    ap (map (waiting_at c.set.new.entries.items)) (c.remove.ensures.members (member_of c.self.inside.entries.items c.self.inside.chain.members c.args.number g))
    ∙ order_left c.self.inside.entries.items c.set.new.entries.items c.args.number c.self.inside.chain.members c.self.invariant.differ.1 c.set.ensures.entries g
