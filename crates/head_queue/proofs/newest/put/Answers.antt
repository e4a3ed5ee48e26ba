use Rattle.std.proofs.Common.{◌≡◌, ◌≢◌, ◌<◌, ◌≤◌, List, length, get_or, Some, None, refl, ap, sym, subst, ◌∙◌, arith, rules}
use Rattle.std.specs.List.{insert}
use Rattle.std.specs.Vec.{vec_len, vec_capacity}
use Rattle.head_queue.specs.declared.newest.Owned.{Owned}
use Rattle.head_queue.specs.Newest.{lookup, Ascending}
use Rattle.head_queue.proofs.NewestLemmas.{IsPlace, partitioned, place, absent, whichever, told_there, told_new, ascending_there, ascending_new}
use Rattle.head_queue.proofs.newest.put.Goals as goal
use Rattle.head_queue.proofs.newest.put.Goals.{else-at-len-via-then-at-len+else-index-owner, else-at-len-via-else-at-len}

abbrev any : Owned
any = record { owner = 0; node = 0 }

pub returns-then-index-owner-clause-told : goal.returns-then-index-owner-clause-told
returns-then-index-owner-clause-told c p =
    let many : vec_len c.args.newest.now ≡ length c.args.newest.now.items = search rules in
    let lt : c.place_of-at.result < length c.args.newest.now.items = omega arith in
    let is : (get_or c.args.newest.now.items c.place_of-at.result c.index.result.now).owner ≡ c.args.owner = ap (λ (x : Owned). x.owner) (sym c.index.ensures) ∙ c.if-index-owner.true in
    let same : c.index_mut.result.now.owner ≡ c.args.owner = ap (λ (x : Owned). x.owner) (c.index_mut.ensures.value ∙ whichever c.args.newest.now.items c.place_of-at.result c.index_mut.result.now c.index.result.now lt) ∙ is in
    told_there c.args.newest.now.items c.args.owner c.place_of-at.result (record { owner = c.index_mut.result.now.owner; node = c.args.node }) c.index.result.now (subst (λ (xs : List Owned). IsPlace xs c.args.owner c.place_of-at.result) c.deref.ensures.value (place c.deref.result.now c.args.owner c.place_of-at.result (c.place_of-at.ensures.parts (partitioned c.deref.result.now c.args.owner (subst Ascending (sym c.deref.ensures.value) c.requires.order))))) lt is same p

pub returns-then-index-owner-clause-order : goal.returns-then-index-owner-clause-order
returns-then-index-owner-clause-order c =
    let many : vec_len c.args.newest.now ≡ length c.args.newest.now.items = search rules in
    let lt : c.place_of-at.result < length c.args.newest.now.items = omega arith in
    let is : (get_or c.args.newest.now.items c.place_of-at.result c.index.result.now).owner ≡ c.args.owner = ap (λ (x : Owned). x.owner) (sym c.index.ensures) ∙ c.if-index-owner.true in
    let same : c.index_mut.result.now.owner ≡ c.args.owner = ap (λ (x : Owned). x.owner) (c.index_mut.ensures.value ∙ whichever c.args.newest.now.items c.place_of-at.result c.index_mut.result.now c.index.result.now lt) ∙ is in
    ascending_there c.args.newest.now.items c.args.owner c.place_of-at.result (record { owner = c.index_mut.result.now.owner; node = c.args.node }) c.index.result.now c.requires.order (subst (λ (xs : List Owned). IsPlace xs c.args.owner c.place_of-at.result) c.deref.ensures.value (place c.deref.result.now c.args.owner c.place_of-at.result (c.place_of-at.ensures.parts (partitioned c.deref.result.now c.args.owner (subst Ascending (sym c.deref.ensures.value) c.requires.order))))) lt is same

pub unreachable-requires : goal.unreachable-requires
unreachable-requires c =
    let many : vec_len c.args.newest.now ≡ length c.args.newest.now.items = search rules in
    let ne : c.place_of-at.result < length c.args.newest.now.items → (get_or c.args.newest.now.items c.place_of-at.result any).owner ≢ c.args.owner = λ lt e. elim c.else-at-len.branch [
      | else-at-len-via-then-at-len+else-index-owner w ↦ w.if-index-owner.false (ap (λ (x : Owned). x.owner) (w.index.ensures ∙ whichever c.args.newest.now.items c.place_of-at.result w.index.result.now any lt) ∙ e)
      | else-at-len-via-else-at-len w ↦ absurd (omega arith)
    ] in
    let none : lookup c.args.owner c.args.newest.now.items ≡ None = absent c.args.newest.now.items c.args.owner c.place_of-at.result any c.requires.order (subst (λ (xs : List Owned). IsPlace xs c.args.owner c.place_of-at.result) c.deref.ensures.value (place c.deref.result.now c.args.owner c.place_of-at.result (c.place_of-at.ensures.parts (partitioned c.deref.result.now c.args.owner (subst Ascending (sym c.deref.ensures.value) c.requires.order))))) ne in
    let room : vec_len c.args.newest.now < vec_capacity c.args.newest.now = c.requires.room none in
    search rules

pub returns-clause-told : goal.returns-clause-told
returns-clause-told c p =
    let le : c.place_of-at.result ≤ length c.args.newest.now.items = subst (λ (xs : List Owned). c.place_of-at.result ≤ length xs) c.deref.ensures.value c.place_of-at.ensures.bound in
    let now : c.insert.new.self.items ≡ insert c.args.newest.now.items c.place_of-at.result (record { owner = c.args.owner; node = c.args.node }) = search rules in
    ap (lookup p) now ∙ told_new c.args.newest.now.items c.args.owner c.place_of-at.result (record { owner = c.args.owner; node = c.args.node }) any (subst (λ (xs : List Owned). IsPlace xs c.args.owner c.place_of-at.result) c.deref.ensures.value (place c.deref.result.now c.args.owner c.place_of-at.result (c.place_of-at.ensures.parts (partitioned c.deref.result.now c.args.owner (subst Ascending (sym c.deref.ensures.value) c.requires.order))))) le refl p

pub returns-clause-order : goal.returns-clause-order
returns-clause-order c =
    let many : vec_len c.args.newest.now ≡ length c.args.newest.now.items = search rules in
    let ne : c.place_of-at.result < length c.args.newest.now.items → (get_or c.args.newest.now.items c.place_of-at.result any).owner ≢ c.args.owner = λ lt e. elim c.else-at-len.branch [
      | else-at-len-via-then-at-len+else-index-owner w ↦ w.if-index-owner.false (ap (λ (x : Owned). x.owner) (w.index.ensures ∙ whichever c.args.newest.now.items c.place_of-at.result w.index.result.now any lt) ∙ e)
      | else-at-len-via-else-at-len w ↦ absurd (omega arith)
    ] in
    let le : c.place_of-at.result ≤ length c.args.newest.now.items = subst (λ (xs : List Owned). c.place_of-at.result ≤ length xs) c.deref.ensures.value c.place_of-at.ensures.bound in
    let now : c.insert.new.self.items ≡ insert c.args.newest.now.items c.place_of-at.result (record { owner = c.args.owner; node = c.args.node }) = search rules in
    subst Ascending (sym now) (ascending_new c.args.newest.now.items c.args.owner c.place_of-at.result (record { owner = c.args.owner; node = c.args.node }) any c.requires.order (subst (λ (xs : List Owned). IsPlace xs c.args.owner c.place_of-at.result) c.deref.ensures.value (place c.deref.result.now c.args.owner c.place_of-at.result (c.place_of-at.ensures.parts (partitioned c.deref.result.now c.args.owner (subst Ascending (sym c.deref.ensures.value) c.requires.order))))) le ne refl)

pub returns-clause-known : goal.returns-clause-known
returns-clause-known c k is =
    let many : vec_len c.args.newest.now ≡ length c.args.newest.now.items = search rules in
    let ne : c.place_of-at.result < length c.args.newest.now.items → (get_or c.args.newest.now.items c.place_of-at.result any).owner ≢ c.args.owner = λ lt e. elim c.else-at-len.branch [
      | else-at-len-via-then-at-len+else-index-owner w ↦ w.if-index-owner.false (ap (λ (x : Owned). x.owner) (w.index.ensures ∙ whichever c.args.newest.now.items c.place_of-at.result w.index.result.now any lt) ∙ e)
      | else-at-len-via-else-at-len w ↦ absurd (omega arith)
    ] in
    let none : lookup c.args.owner c.args.newest.now.items ≡ None = absent c.args.newest.now.items c.args.owner c.place_of-at.result any c.requires.order (subst (λ (xs : List Owned). IsPlace xs c.args.owner c.place_of-at.result) c.deref.ensures.value (place c.deref.result.now c.args.owner c.place_of-at.result (c.place_of-at.ensures.parts (partitioned c.deref.result.now c.args.owner (subst Ascending (sym c.deref.ensures.value) c.requires.order))))) ne in
    let clash : None ≡ Some k = sym none ∙ is in cc
