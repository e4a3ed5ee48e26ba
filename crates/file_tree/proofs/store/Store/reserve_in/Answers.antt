use Rattle.std.proofs.Common.{OnOk, rules, subst}
use Rattle.std.specs.FinMap as fin
use Rattle.file_tree.specs.Seen.{held}
use Rattle.file_tree.specs.Changes.{IsRoomier, HasRoom}
use Rattle.file_tree.specs.Places.{IsChangedIn}
use Rattle.file_tree.proofs.ShownLemmas.{one_number}
use Rattle.file_tree.proofs.WalkLemmas.{seen}
use Rattle.file_tree.proofs.PlaceLemmas.{there_held, node_now}
use Rattle.file_tree.proofs.StoredLemmas.{stored_change, sole, still}
use Rattle.file_tree.proofs.KeptLemmas.{kept_now, spots_now}
use Rattle.file_tree.proofs.store.Store.reserve_in.Goals as goal

pub reserve_spot-requires : goal.reserve_spot-requires
reserve_spot-requires c =
    let spots = c.self.inside.spots.items in
    let m = c.args.self.now.nodes in
    let s = kept_now c.self.inside c.args.self.now c.self.invariant c.self.view_is in
    there_held (held spots) m s.shown c.args.number c.requires

pub invariant_of-self-inside : goal.invariant_of-self-inside
invariant_of-self-inside c =
    let spots = c.self.inside.spots.items in
    let m = c.args.self.now.nodes in
    let s = kept_now c.self.inside c.args.self.now c.self.invariant c.self.view_is in
    let ch = c.reserve_spot.ensures.changed in
    let next = c.reserve_spot.new.spots.items in
    let now = fin.insert m c.requires.0 ch.new in
    let t = stored_change spots next c.self.inside.count m s (λ a b. IsRoomier c.args.room a b × OnOk c.reserve_spot.result (HasRoom c.args.room b)) c.args.number ch c.requires.0 c.requires.1 in
    (seen next now t.shown, tt)

pub invariant_of-self : goal.invariant_of-self
invariant_of-self c =
    let spots = c.self.inside.spots.items in
    let m = c.args.self.now.nodes in
    let s = kept_now c.self.inside c.args.self.now c.self.invariant c.self.view_is in
    let ch = c.reserve_spot.ensures.changed in
    let next = c.reserve_spot.new.spots.items in
    let now = fin.insert m c.requires.0 ch.new in
    let t = stored_change spots next c.self.inside.count m s (λ a b. IsRoomier c.args.room a b × OnOk c.reserve_spot.result (HasRoom c.args.room b)) c.args.number ch c.requires.0 c.requires.1 in
    still next c.self.inside.count now _ (search rules) t

pub returns-clause-changed : goal.returns-clause-changed
returns-clause-changed c =
    let spots = c.self.inside.spots.items in
    let m = c.args.self.now.nodes in
    let s = kept_now c.self.inside c.args.self.now c.self.invariant c.self.view_is in
    let ch = c.reserve_spot.ensures.changed in
    let next = c.reserve_spot.new.spots.items in
    let now = fin.insert m c.requires.0 ch.new in
    let t = stored_change spots next c.self.inside.count m s (λ a b. IsRoomier c.args.room a b × OnOk c.reserve_spot.result (HasRoom c.args.room b)) c.args.number ch c.requires.0 c.requires.1 in
    record {
      path = c.requires.0;
      old = ch.old.node;
      new = ch.new;
      there = node_now (held spots) m s.shown c.args.number ch.old ch.was c.requires.0 c.requires.1;
      is = s.shown.numbered c.args.number ch.old ch.was;
      only = λ p stood. one_number (held spots) m s.shown p c.requires.0 c.args.number stood c.requires.1;
      kept = ch.same;
      changed = ch.changed;
      now = sole next c.self.inside.count now _ (search rules) t;
    }

pub returns-clause-spots : goal.returns-clause-spots
returns-clause-spots c =
    subst (λ l. IsChangedIn l c.reserve_spot.new.spots.items c.args.number (λ a b. IsRoomier c.args.room a b × OnOk c.reserve_spot.result (HasRoom c.args.room b)))
    (spots_now c.self.inside c.args.self.now c.self.view_is) c.reserve_spot.ensures.changed
