use Rattle.std.proofs.Common.{◌≡◌, ℕ, ◌+◌, ◌≤◌, cond, nat_eq, List, ◌∷◌, length, Some, ap, sym, subst, ◌∙◌, arith, rules}
use Rattle.std.specs.Vec.{vec_len}
use Rattle.head_queue.specs.declared.newest.Owned.{Owned}
use Rattle.head_queue.specs.Cuts.{IsCut, Misses}
use Rattle.head_queue.specs.Newest.{lookup, number_or}
use Rattle.head_queue.specs.Holdings.{Holdings, owner_of}
use Rattle.head_queue.specs.Grouped.{AreGrouped}
use Rattle.head_queue.proofs.GroupLemmas.{IsRoom, pairs_of, room_for, none_miss, grouped_more, owners_more, many, one_longer}
use Rattle.head_queue.proofs.owners.Owners.add.Goals as goal

pub insert-requires-clause-on : goal.insert-requires-clause-on
insert-requires-clause-on c =
    let at : c.last_number-at.result ≡ number_or (lookup c.args.owner c.self.inside.newest.items) = c.last_number-at.ensures ∙ ap (λ (xs : List Owned). number_or (lookup c.args.owner xs)) c.deref.ensures.value in
    subst (IsCut c.self.inside.chain.members) (sym at) (room_for c.self.inside.owners.items c.self.inside.chain.members c.self.inside.chain.size c.self.inside.newest.items c.args.owner c.self.invariant).cut

pub insert-requires-clause-apart : goal.insert-requires-clause-apart
insert-requires-clause-apart c = (
  λ e. let some : 1 ≤ c.args.number = c.requires.some in absurd (omega arith),
  none_miss c.self.inside.owners.items c.args.number c.self.inside.chain.members (ap (λ (h : Holdings). owner_of c.args.number h.pairs) c.self.view_is ∙ c.requires.apart),
)

pub invariant_of-self : goal.invariant_of-self
invariant_of-self c =
    let at : c.last_number-at.result ≡ number_or (lookup c.args.owner c.self.inside.newest.items) = c.last_number-at.ensures ∙ ap (λ (xs : List Owned). number_or (lookup c.args.owner xs)) c.deref.ensures.value in
    let room : IsRoom c.self.inside.owners.items c.self.inside.chain.members c.args.owner c.last_number-at.result =
    subst (IsRoom c.self.inside.owners.items c.self.inside.chain.members c.args.owner) (sym at) (room_for c.self.inside.owners.items c.self.inside.chain.members c.self.inside.chain.size c.self.inside.newest.items c.args.owner c.self.invariant) in
    let misses : Misses c.args.number (0 ∷ c.self.inside.chain.members) = (
      λ e. let some : 1 ≤ c.args.number = c.requires.some in absurd (omega arith),
      none_miss c.self.inside.owners.items c.args.number c.self.inside.chain.members (ap (λ (h : Holdings). owner_of c.args.number h.pairs) c.self.view_is ∙ c.requires.apart),
    ) in
    let wide : length c.set.new.owners.items ≡ c.self.inside.chain.size =
    (let a : vec_len c.set.new.owners ≡ length c.set.new.owners.items = search rules in let b : vec_len c.self.inside.owners ≡ length c.self.inside.owners.items = search rules in sym a ∙ c.set.ensures.len ∙ b ∙ c.self.invariant.wide) in
    let fits : c.args.number ≤ c.self.inside.chain.size = subst (λ (h : Holdings). c.args.number ≤ h.size) (sym c.self.view_is) c.requires.within in
    subst (λ (n : ℕ). AreGrouped c.set.new.owners.items c.insert.new.self.members n c.put.new.newest.items) (sym c.insert.ensures.size)
    (subst (λ (ks : List ℕ). AreGrouped c.set.new.owners.items ks c.self.inside.chain.size c.put.new.newest.items) (sym (c.insert.ensures.members room.cut))
    (grouped_more c.self.inside.owners.items c.set.new.owners.items c.args.number c.args.owner c.last_number-at.result c.self.inside.chain.members c.self.inside.chain.size c.self.inside.newest.items c.put.new.newest.items
    c.self.invariant c.set.ensures.owners misses fits wide room c.put.ensures.order c.put.ensures.told))

pub returns-clause-pairs : goal.returns-clause-pairs
returns-clause-pairs c k =
    let at : c.last_number-at.result ≡ number_or (lookup c.args.owner c.self.inside.newest.items) = c.last_number-at.ensures ∙ ap (λ (xs : List Owned). number_or (lookup c.args.owner xs)) c.deref.ensures.value in
    let room : IsRoom c.self.inside.owners.items c.self.inside.chain.members c.args.owner c.last_number-at.result =
    subst (IsRoom c.self.inside.owners.items c.self.inside.chain.members c.args.owner) (sym at) (room_for c.self.inside.owners.items c.self.inside.chain.members c.self.inside.chain.size c.self.inside.newest.items c.args.owner c.self.invariant) in
    let misses = none_miss c.self.inside.owners.items c.args.number c.self.inside.chain.members (ap (λ (h : Holdings). owner_of c.args.number h.pairs) c.self.view_is ∙ c.requires.apart) in
    ap (λ (ks : List ℕ). owner_of k (pairs_of c.set.new.owners.items ks)) (c.insert.ensures.members room.cut)
    ∙ owners_more c.self.inside.owners.items c.set.new.owners.items c.args.number c.args.owner c.last_number-at.result c.self.inside.chain.members c.set.ensures.owners misses room.cut k
    ∙ ap (λ (h : Holdings). cond (nat_eq k c.args.number) (Some c.args.owner) (owner_of k h.pairs)) c.self.view_is

pub returns-clause-len : goal.returns-clause-len
returns-clause-len c =
    let at : c.last_number-at.result ≡ number_or (lookup c.args.owner c.self.inside.newest.items) = c.last_number-at.ensures ∙ ap (λ (xs : List Owned). number_or (lookup c.args.owner xs)) c.deref.ensures.value in
    let room : IsRoom c.self.inside.owners.items c.self.inside.chain.members c.args.owner c.last_number-at.result =
    subst (IsRoom c.self.inside.owners.items c.self.inside.chain.members c.args.owner) (sym at) (room_for c.self.inside.owners.items c.self.inside.chain.members c.self.inside.chain.size c.self.inside.newest.items c.args.owner c.self.invariant) in
    many c.set.new.owners.items c.insert.new.self.members
    ∙ ap (λ (ks : List ℕ). length ks) (c.insert.ensures.members room.cut)
    ∙ one_longer room.cut.front room.cut.behind c.args.number
    ∙ ap (λ (ks : List ℕ). length ks + 1) (sym room.cut.parts)
    ∙ ap (λ (n : ℕ). n + 1) (sym (many c.self.inside.owners.items c.self.inside.chain.members))
    ∙ ap (λ (h : Holdings). length h.pairs + 1) c.self.view_is
