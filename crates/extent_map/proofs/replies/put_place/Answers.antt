use Rattle.std.proofs.Common.{◌≡◌, [], ◌∷◌, ◌++◌, cond, true, sym, ap, ◌∙◌, subst}
use Rattle.std.specs.BTreeSet.{Updates}
use Rattle.extent_map.specs.Replies.{place_in, with_new, key_of, key_cmp, AreMet}
use Rattle.extent_map.proofs.DistinctLemmas.{fresh_place, old_place, met_more}
use Rattle.extent_map.proofs.replies.put_place.Goals as goal

pub returns-in_ok-push-clause-places : goal.returns-in_ok-push-clause-places
returns-in_ok-push-clause-places c =
    let places = c.args.places.now in
    let y = c.in-Stored.place in
    let key : (c.is_dp.result, y.pos) ≡ key_of y = ap (λ b. (b, y.pos)) c.is_dp.ensures in
    let fresh = fresh_place c.args.met.now places y _ c.in_ok-insert.field-0 c.requires key c.in_ok-insert.ensures.added c.if-branch.true in
    c.in_ok-push.ensures.ok ∙ sym (ap (λ b. cond b places (places ++ y ∷ [])) fresh) ∙ ap (λ p. with_new places (place_in p)) (sym c.in-Stored.is)

pub returns-in_ok-push-clause-met : goal.returns-in_ok-push-clause-met
returns-in_ok-push-clause-met c =
    let places = c.args.places.now in
    let y = c.in-Stored.place in
    let key : (c.is_dp.result, y.pos) ≡ key_of y = ap (λ b. (b, y.pos)) c.is_dp.ensures in
    subst (AreMet c.insert.new.self) (sym c.in_ok-push.ensures.ok)
    (met_more c.args.met.now c.insert.new.self places y c.requires (subst (λ k. Updates key_cmp c.args.met.now c.insert.new.self k true) key c.in_ok-insert.ensures.updates))

pub returns-else-branch-clause-places : goal.returns-else-branch-clause-places
returns-else-branch-clause-places c =
    let places = c.args.places.now in
    let y = c.in-Stored.place in
    let key : (c.is_dp.result, y.pos) ≡ key_of y = ap (λ b. (b, y.pos)) c.is_dp.ensures in
    let old = old_place c.args.met.now places y _ c.in_ok-insert.field-0 c.requires key c.in_ok-insert.ensures.added c.if-branch.false in
    sym (ap (λ b. cond b places (places ++ y ∷ [])) old) ∙ ap (λ p. with_new places (place_in p)) (sym c.in-Stored.is)
