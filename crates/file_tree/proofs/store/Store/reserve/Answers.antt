use Rattle.std.proofs.Common.{rules}
use Rattle.file_tree.proofs.WalkLemmas.{seen}
use Rattle.file_tree.proofs.StoredLemmas.{sole, still, stored_same}
use Rattle.file_tree.proofs.KeptLemmas.{kept_now}
use Rattle.file_tree.proofs.store.Store.reserve.Goals as goal

pub invariant_of-self-inside : goal.invariant_of-self-inside
invariant_of-self-inside c =
    let spots = c.self.inside.spots.items in
    let m = c.args.self.now.nodes in
    let s = kept_now c.self.inside c.args.self.now c.self.invariant c.self.view_is in
    let next = c.reserve.new.self.items in
    let t = stored_same spots next c.self.inside.count m s c.reserve.ensures.items in
    (seen next m t.shown, tt)

pub invariant_of-self : goal.invariant_of-self
invariant_of-self c =
    let spots = c.self.inside.spots.items in
    let m = c.args.self.now.nodes in
    let s = kept_now c.self.inside c.args.self.now c.self.invariant c.self.view_is in
    let next = c.reserve.new.self.items in
    let t = stored_same spots next c.self.inside.count m s c.reserve.ensures.items in
    still next c.self.inside.count m _ (search rules) t

pub returns-in_err-reserve-clause-same : goal.returns-in_err-reserve-clause-same
returns-in_err-reserve-clause-same c =
    let spots = c.self.inside.spots.items in
    let m = c.args.self.now.nodes in
    let s = kept_now c.self.inside c.args.self.now c.self.invariant c.self.view_is in
    let next = c.reserve.new.self.items in
    let t = stored_same spots next c.self.inside.count m s c.reserve.ensures.items in
    sole next c.self.inside.count m _ (search rules) t

pub invariant_of-self-2 : goal.invariant_of-self-2
invariant_of-self-2 c =
    let spots = c.self.inside.spots.items in
    let m = c.args.self.now.nodes in
    let s = kept_now c.self.inside c.args.self.now c.self.invariant c.self.view_is in
    let next = c.reserve.new.self.items in
    let t = stored_same spots next c.self.inside.count m s c.reserve.ensures.items in
    still next c.self.inside.count m _ (search rules) t

pub returns-clause-same : goal.returns-clause-same
returns-clause-same c =
    let spots = c.self.inside.spots.items in
    let m = c.args.self.now.nodes in
    let s = kept_now c.self.inside c.args.self.now c.self.invariant c.self.view_is in
    let next = c.reserve.new.self.items in
    let t = stored_same spots next c.self.inside.count m s c.reserve.ensures.items in
    sole next c.self.inside.count m _ (search rules) t
