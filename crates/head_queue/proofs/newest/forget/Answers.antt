use Rattle.std.proofs.Common.{◌≡◌, ◌≢◌, ◌<◌, List, length, get_or, ap, sym, subst, ◌∙◌, arith, rules}
use Rattle.std.specs.Vec.{vec_len}
use Rattle.head_queue.specs.declared.newest.Owned.{Owned}
use Rattle.head_queue.specs.Newest.{lookup, Ascending}
use Rattle.head_queue.proofs.NewestLemmas.{IsPlace, partitioned, place, absent, whichever, told_gone, told_none, ascending_gone}
use Rattle.head_queue.proofs.newest.forget.Goals as goal
use Rattle.head_queue.proofs.newest.forget.Goals.{else-at-len-via-then-at-len+else-index-owner, else-at-len-via-else-at-len}

abbrev any : Owned
any = record { owner = 0; node = 0 }

pub returns-then-index-owner-clause-told : goal.returns-then-index-owner-clause-told
returns-then-index-owner-clause-told c p =
    let many : vec_len c.args.newest.now ≡ length c.args.newest.now.items = search rules in
    let lt : c.place_of-at.result < length c.args.newest.now.items = omega arith in
    let is : (get_or c.args.newest.now.items c.place_of-at.result c.index.result.now).owner ≡ c.args.owner = ap (λ (x : Owned). x.owner) (sym c.index.ensures) ∙ c.if-index-owner.true in
    ap (lookup p) c.remove-gone.ensures.items ∙ told_gone c.args.newest.now.items c.args.owner c.place_of-at.result c.index.result.now c.requires.order (subst (λ (xs : List Owned). IsPlace xs c.args.owner c.place_of-at.result) c.deref.ensures.value (place c.deref.result.now c.args.owner c.place_of-at.result (c.place_of-at.ensures.parts (partitioned c.deref.result.now c.args.owner (subst Ascending (sym c.deref.ensures.value) c.requires.order))))) lt is p

pub returns-then-index-owner-clause-order : goal.returns-then-index-owner-clause-order
returns-then-index-owner-clause-order c = subst Ascending (sym c.remove-gone.ensures.items) (ascending_gone c.args.newest.now.items c.place_of-at.result c.requires.order)

pub returns-else-at-len-clause-told : goal.returns-else-at-len-clause-told
returns-else-at-len-clause-told c p =
    let many : vec_len c.args.newest.now ≡ length c.args.newest.now.items = search rules in
    let ne : c.place_of-at.result < length c.args.newest.now.items → (get_or c.args.newest.now.items c.place_of-at.result any).owner ≢ c.args.owner = λ lt e. elim c.else-at-len.branch [
      | else-at-len-via-then-at-len+else-index-owner w ↦ w.if-index-owner.false (ap (λ (x : Owned). x.owner) (w.index.ensures ∙ whichever c.args.newest.now.items c.place_of-at.result w.index.result.now any lt) ∙ e)
      | else-at-len-via-else-at-len w ↦ absurd (omega arith)
    ] in
    told_none c.args.newest.now.items c.args.owner (absent c.args.newest.now.items c.args.owner c.place_of-at.result any c.requires.order (subst (λ (xs : List Owned). IsPlace xs c.args.owner c.place_of-at.result) c.deref.ensures.value (place c.deref.result.now c.args.owner c.place_of-at.result (c.place_of-at.ensures.parts (partitioned c.deref.result.now c.args.owner (subst Ascending (sym c.deref.ensures.value) c.requires.order))))) ne) p
