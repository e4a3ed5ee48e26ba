use Rattle.std.proofs.Common.{◌≡◌, Bool, vec_items, List, Some, ℕ, slice_get, set, sym, ap, ◌∙◌, subst, arith}
use Rattle.std.proofs.lemmas.List.{length-set}
use Rattle.name_tries.specs.Bits.{level}
use Rattle.name_tries.specs.Tries.{Trie, Shows}
use Rattle.name_tries.specs.Ways.{parted_fork, IsWayUpTo}
use Rattle.name_tries.specs.Keys.{AreTriesIn, IsLinked}
use Rattle.name_tries.specs.declared.forks.Branch.{Branch}
use Rattle.name_tries.specs.declared.forks.Fork.{Fork}
use Rattle.name_tries.proofs.ItemLemmas.{read_at, none_not}
use Rattle.name_tries.proofs.CallLemmas.{dir_within, root_is, put_root, put_way, side_within}
use Rattle.name_tries.proofs.BitLemmas.{in_bytes}
use Rattle.name_tries.proofs.PutLemmas.{put_beside}
use Rattle.name_tries.proofs.tries.Tries.put.Goals as goal

pub index-requires : goal.index-requires
index-requires c =
    let tries = c.args.self.now in
    let can = c.requires.1 in
    omega (arith, dir_within tries c.requires.0 can.are c.args.dir can.trie can.shape, tries.roots.ok.0)

pub unreachable-requires : goal.unreachable-requires
unreachable-requires c =
    let tries = c.args.self.now in
    let can = c.requires.1 in
    let there : slice_get tries.roots.items c.args.dir ≡ Some c.index.result.now =
    read_at tries.roots.items c.args.dir c.index.result.now (dir_within tries c.requires.0 can.are c.args.dir can.trie can.shape) c.index.ensures in
    let r = root_is tries c.requires.0 can.are c.args.dir can.trie c.index.result.now can.shape there in
    none_not c.index.result.now r.0 c.in_default.is r.1

pub way_to-way-requires-clause-there : goal.way_to-way-requires-clause-there
way_to-way-requires-clause-there c =
    let tries = c.args.self.now in
    let can = c.requires.1 in
    let way = put_way tries c.requires.0 c.args.dir c.args.number c.args.name.now c.args.near c.args.other.now can c.index.result.now c.in-Some.root c.deref.result.now
    c.index.ensures c.in-Some.is c.deref.ensures.value in
    (can.trie, way.0, way.1)

pub index_mut-requires : goal.index_mut-requires
index_mut-requires c =
    let tries = c.args.self.now in
    let can = c.requires.1 in
    let owns : slice_get tries.owned.items c.args.number ≡ Some c.index-place.result.now =
    read_at tries.owned.items c.args.number c.index-place.result.now can.within c.index-place.ensures in
    omega (arith, can.are.paired.below c.args.number c.index-place.result.now owns, can.are.paired.places_fit, tries.forks.ok.0)

pub link-requires : goal.link-requires
link-requires c =
    let tries = c.args.self.now in
    let can = c.requires.1 in
    let at = put_root tries c.requires.0 c.args.dir c.args.number c.args.name.now c.args.near c.args.other.now can c.index.result.now c.in-Some.root c.index.ensures c.in-Some.is in
    let from = put_way tries c.requires.0 c.args.dir c.args.number c.args.name.now c.args.near c.args.other.now can c.index.result.now c.in-Some.root c.deref.result.now
    c.index.ensures c.in-Some.is c.deref.ensures.value in
    let way = c.way_to-way.ensures can.trie from.0 from.1 in
    record {
      root = dir_within tries c.requires.0 can.are c.args.dir can.trie can.shape;
      fork = λ s is. omega (
        arith,
        length-set tries.forks.items c.index-place.result.now c.parted.result,
        side_within tries.forks.items c.in-Some.root c.way_to-way.result.side way.to.steps way.to.part
            (subst (λ (u : Trie). Shows tries.forks.items c.in-Some.root u) way.to.is at.1) way.to.side s is,
      );
    }

pub returns-clause-are : goal.returns-clause-are
returns-clause-are c = λ before next can now.
    let old = c.args.self.now in
    let new = c.link.new.self in
    let from = put_way old before c.args.dir c.args.number c.args.name.now c.args.near c.args.other.now can c.index.result.now c.in-Some.root c.deref.result.now
    c.index.ensures c.in-Some.is c.deref.ensures.value in
    let owns : slice_get old.owned.items c.args.number ≡ Some c.index-place.result.now =
    read_at old.owned.items c.args.number c.index-place.result.now can.within c.index-place.ensures in
    let way = subst (λ (l : List Fork). IsWayUpTo l can.trie c.args.name.now (level c.parting-bit.result.byte c.parting-bit.result.within) c.way_to-way.result)
    c.deref.ensures.value
    (c.way_to-way.ensures can.trie from.0 from.1) in
    let fork_is = c.parted.ensures
    ∙ ap (λ (v : Bool). parted_fork v c.parting-bit.result.byte c.parting-bit.result.within c.args.number c.way_to-way.result.below) c.is_one.ensures.bit in
    subst (λ (l : List ℕ). AreTriesIn new.roots.items new.forks.items l new.owners.items next) (sym (ap vec_items c.link.ensures.owned))
    (subst (λ (l : List ℕ). AreTriesIn new.roots.items new.forks.items old.owned.items l next) (sym (ap vec_items c.link.ensures.owners))
    (put_beside old.roots.items new.roots.items old.forks.items new.forks.items old.owned.items old.owners.items before next c.args.dir c.args.number
    c.index-place.result.now c.args.name.now c.args.other.now c.parting-bit.result.byte c.parting-bit.result.within c.parted.result c.way_to-way.result
    can.are can.trie can.shape can.nearest can.free can.within (dir_within old before can.are c.args.dir can.trie can.shape) (in_bytes c.args.name.now c.type_inv.name) now owns
    c.parting-bit.ensures way fork_is
    (subst (λ (b : Branch). IsLinked old.roots.items new.roots.items (set old.forks.items c.index-place.result.now c.parted.result) new.forks.items
    c.args.dir c.way_to-way.result.side b) c.inner.ensures c.link.ensures.linked)))
