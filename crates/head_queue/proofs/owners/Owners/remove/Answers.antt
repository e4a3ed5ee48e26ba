use Rattle.std.proofs.Common.{◌≡◌, ℕ, ◌+◌, ◌≤◌, Bool, cond, nat_eq, List, ◌∷◌, length, None, ap, sym, subst, ◌∙◌}
use Rattle.head_queue.specs.Cuts.{last_of}
use Rattle.head_queue.specs.Newest.{lookup, holds, left_over}
use Rattle.head_queue.specs.Holdings.{Holdings, owner_of}
use Rattle.head_queue.specs.Grouped.{AreGrouped}
use Rattle.head_queue.proofs.GroupLemmas.{pairs_of, held_at, grouped_taken, owners_less, many, one_longer, last_within}
use Rattle.head_queue.proofs.owners.Owners.remove.Goals as goal

pub before-before-requires : goal.before-before-requires
before-before-requires c = (held_at c.self.inside.owners.items c.args.number c.args.owner c.self.inside.chain.members (ap (λ (h : Holdings). owner_of c.args.number h.pairs) c.self.view_is ∙ c.requires)).member

pub remove-requires : goal.remove-requires
remove-requires c = (held_at c.self.inside.owners.items c.args.number c.args.owner c.self.inside.chain.members (ap (λ (h : Holdings). owner_of c.args.number h.pairs) c.self.view_is ∙ c.requires)).member

pub is_held-held-requires : goal.is_held-held-requires
is_held-held-requires c =
    let w = held_at c.self.inside.owners.items c.args.number c.args.owner c.self.inside.chain.members (ap (λ (h : Holdings). owner_of c.args.number h.pairs) c.self.view_is ∙ c.requires) in
    subst (λ (n : ℕ). c.before-before.result ≤ n) (sym (ap (λ (us : List ℕ). length us) c.deref.ensures.value ∙ c.self.invariant.wide))
    (subst (λ (n : ℕ). n ≤ c.self.inside.chain.size) (sym (c.before-before.ensures w.member))
    (last_within c.self.inside.chain.members w.member.front (c.args.number ∷ w.member.behind) c.self.inside.chain.size c.self.invariant.within w.member.parts))

pub invariant_of-self : goal.invariant_of-self
invariant_of-self c =
    let w = held_at c.self.inside.owners.items c.args.number c.args.owner c.self.inside.chain.members (ap (λ (h : Holdings). owner_of c.args.number h.pairs) c.self.view_is ∙ c.requires) in
    let before = c.before-before.ensures w.member in
    let held : c.is_held-held.result ≡ holds c.self.inside.owners.items (last_of 0 w.member.front) c.args.owner =
    c.is_held-held.ensures ∙ ap (λ (us : List ℕ). holds us c.before-before.result c.args.owner) c.deref.ensures.value ∙ ap (λ (n : ℕ). holds c.self.inside.owners.items n c.args.owner) before in
    subst (λ (n : ℕ). AreGrouped c.self.inside.owners.items c.remove.new.self.members n c.pass_on.new.newest.items) (sym c.remove.ensures.size)
    (subst (λ (ks : List ℕ). AreGrouped c.self.inside.owners.items ks c.self.inside.chain.size c.pass_on.new.newest.items) (sym (c.remove.ensures.members w.member))
    (grouped_taken c.self.inside.owners.items c.args.number c.args.owner c.self.inside.chain.members c.self.inside.chain.size c.self.inside.newest.items c.pass_on.new.newest.items c.self.invariant w c.pass_on.ensures.order
    (λ p. c.pass_on.ensures.told p
    ∙ ap (λ (b : Bool). cond (nat_eq p c.args.owner) (left_over (lookup c.args.owner c.self.inside.newest.items) c.args.number b c.before-before.result) (lookup p c.self.inside.newest.items)) held
    ∙ ap (λ (n : ℕ). cond (nat_eq p c.args.owner) (left_over (lookup c.args.owner c.self.inside.newest.items) c.args.number (holds c.self.inside.owners.items (last_of 0 w.member.front) c.args.owner) n) (lookup p c.self.inside.newest.items)) before)))

pub returns-clause-pairs : goal.returns-clause-pairs
returns-clause-pairs c k =
    let w = held_at c.self.inside.owners.items c.args.number c.args.owner c.self.inside.chain.members (ap (λ (h : Holdings). owner_of c.args.number h.pairs) c.self.view_is ∙ c.requires) in
    ap (λ (ks : List ℕ). owner_of k (pairs_of c.self.inside.owners.items ks)) (c.remove.ensures.members w.member)
    ∙ owners_less c.self.inside.owners.items c.args.number c.args.owner c.self.inside.chain.members c.self.invariant.differ.1 w k
    ∙ ap (λ (h : Holdings). cond (nat_eq k c.args.number) None (owner_of k h.pairs)) c.self.view_is

pub returns-clause-len : goal.returns-clause-len
returns-clause-len c =
    let w = held_at c.self.inside.owners.items c.args.number c.args.owner c.self.inside.chain.members (ap (λ (h : Holdings). owner_of c.args.number h.pairs) c.self.view_is ∙ c.requires) in
    ap (λ (n : ℕ). n + 1) (many c.self.inside.owners.items c.remove.new.self.members ∙ ap (λ (ks : List ℕ). length ks) (c.remove.ensures.members w.member))
    ∙ sym (one_longer w.member.front w.member.behind c.args.number)
    ∙ ap (λ (ks : List ℕ). length ks) (sym w.member.parts)
    ∙ sym (many c.self.inside.owners.items c.self.inside.chain.members)
    ∙ ap (λ (h : Holdings). length h.pairs) c.self.view_is
