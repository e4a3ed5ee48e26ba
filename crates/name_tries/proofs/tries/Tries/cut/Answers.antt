use Rattle.std.proofs.Common.{◌≡◌, Bool, not, vec_items, List, Option, Some, ℕ, slice_get, sym, ap, ap₂, ◌∙◌, subst, arith}
use Rattle.name_tries.specs.Tries.{IsAt}
use Rattle.name_tries.specs.Ways.{first_at, branch_at}
use Rattle.name_tries.specs.Keys.{AreTriesIn, CanHandOver, IsLinked, IsHandedOver}
use Rattle.name_tries.specs.declared.forks.Branch.{Branch}
use Rattle.name_tries.specs.declared.forks.Branch.TheVariants as branch
use Rattle.name_tries.specs.declared.forks.Fork.{Fork}
use Rattle.name_tries.specs.declared.forks.Side.{Side}
use Rattle.name_tries.proofs.ItemLemmas.{some_same, read_at}
use Rattle.name_tries.proofs.CutLemmas.{cut_only, cut_beside}
use Rattle.name_tries.proofs.CallLemmas.{first_is, root_read, trie_at, found_way, last_is, some_last, place_at, above_within, can_hand_over}
use Rattle.name_tries.proofs.tries.Tries.cut.Goals as goal

pub returns-in_default-clause-are : goal.returns-in_default-clause-are
returns-in_default-clause-are c = λ before next can now.
    let old = c.args.self.now in
    let below = can.are.below c.args.number c.args.dir c.args.name.now can.there in
    let root_is : slice_get old.roots.items c.args.dir ≡ Some c.index.result.now =
    read_at old.roots.items c.args.dir c.index.result.now below c.index.ensures in
    cut_only old.roots.items old.forks.items old.owned.items old.owners.items before next c.args.dir c.args.number c.args.name.now can.are can.there
    below now c.index.result.now root_is (λ at is. sym (ap first_at is) ∙ sym c.first_fork.ensures ∙ c.in_default.is)

pub way_to_last-way-requires : goal.way_to_last-way-requires
way_to_last-way-requires c =
    let old = c.args.self.now in
    let can = c.requires.1 in
    let there = root_read old c.args.dir c.index.result.now (branch.Inner c.in-Some.root)
    (can.are.below c.args.number c.args.dir c.args.name.now can.there) c.index.ensures (first_is c.index.result.now c.in-Some.root (sym c.in-Some.ensures)) in
    let t = trie_at old c.requires.0 can.are c.args.dir (branch.Inner c.in-Some.root) there in
    (t.0, subst (λ (l : List Fork). IsAt l (branch.Inner c.in-Some.root) t.0) (sym c.deref.ensures.value) t.2)

pub index-requires-in-Some-side : goal.index-requires-in-Some-side
index-requires-in-Some-side c =
    let old = c.args.self.now in
    let way = found_way old c.requires.0 c.args.dir c.args.number c.args.name.now c.requires.1 c.index.result.now c.in-Some.root c.deref.result.now
    c.way_to_last-way.result c.index.ensures (sym c.in-Some.ensures) c.deref.ensures.value c.way_to_last-way.ensures.on in
    let last = last_is way c.in-Some-side.last c.in-Some-side.is in
    omega (arith, ap (λ (s : Side). s.fork) last, place_at way, old.forks.ok.0)

pub link-requires : goal.link-requires
link-requires c =
    let old = c.args.self.now in
    let can = c.requires.1 in
    let way = found_way old c.requires.0 c.args.dir c.args.number c.args.name.now can c.index.result.now c.in-Some.root c.deref.result.now
    c.way_to_last-way.result c.index.ensures (sym c.in-Some.ensures) c.deref.ensures.value c.way_to_last-way.ensures.on in
    record { root = can.are.below c.args.number c.args.dir c.args.name.now can.there; fork = above_within way }

pub hand_over-requires : goal.hand_over-requires
hand_over-requires c =
    let old = c.args.self.now in
    let can = c.requires.1 in
    let way = found_way old c.requires.0 c.args.dir c.args.number c.args.name.now can c.index.result.now c.in-Some.root c.deref.result.now
    c.way_to_last-way.result c.index.ensures (sym c.in-Some.ensures) c.deref.ensures.value c.way_to_last-way.ensures.on in
    let last = last_is way c.in-Some-side.last c.in-Some-side.is in
    subst (λ (f : ℕ). CanHandOver c.link.new.self.owned.items c.link.new.self.owners.items c.args.number f) (sym (ap (λ (s : Side). s.fork) last))
    (subst (λ (l : List ℕ). CanHandOver l c.link.new.self.owners.items c.args.number way.to.place) (sym (ap vec_items c.link.ensures.owned))
    (subst (λ (l : List ℕ). CanHandOver old.owned.items l c.args.number way.to.place) (sym (ap vec_items c.link.ensures.owners))
    (can_hand_over way c.args.number can.there)))

pub returns-in-Some-side-clause-are : goal.returns-in-Some-side-clause-are
returns-in-Some-side-clause-are c = λ before next can now.
    let old = c.args.self.now in
    let new = c.hand_over.new.self in
    let mid = c.link.new.self in
    let n = c.args.number in
    let way = found_way old before c.args.dir c.args.number c.args.name.now can c.index.result.now c.in-Some.root c.deref.result.now
    c.way_to_last-way.result c.index.ensures (sym c.in-Some.ensures) c.deref.ensures.value c.way_to_last-way.ensures.on in
    let last = last_is way c.in-Some-side.last c.in-Some-side.is in
    let place_is = ap (λ (s : Side). s.fork) last in
    let fork = c.index-in-Some-side.result.now in
    let fork_is : fork ≡ way.to.fork = some_same fork way.to.fork
    (sym (read_at old.forks.items c.in-Some-side.last.fork fork (omega (arith, place_is, place_at way)) c.index-in-Some-side.ensures)
    ∙ ap (slice_get old.forks.items) place_is ∙ way.to.there) in
    let at_is = c.branch_of-other.ensures
    ∙ ap₂ (λ (v : Bool) (k : Fork). branch_at (not v) k) (ap (λ (s : Side). s.one) last) fork_is in
    let linked = subst (λ (b : Branch). IsLinked old.roots.items mid.roots.items old.forks.items mid.forks.items c.args.dir
    c.way_to_last-way.result.above b) at_is c.link.ensures.linked in
    let over = subst (λ (f : ℕ). IsHandedOver old.owned.items new.owned.items old.owners.items new.owners.items n f) place_is
    (subst (λ (l : List ℕ). IsHandedOver l new.owned.items old.owners.items new.owners.items n c.in-Some-side.last.fork)
    (ap vec_items c.link.ensures.owned)
    (subst (λ (l : List ℕ). IsHandedOver mid.owned.items new.owned.items l new.owners.items n c.in-Some-side.last.fork)
    (ap vec_items c.link.ensures.owners) c.hand_over.ensures.over)) in
    subst (λ (l : List (Option Branch)). AreTriesIn l new.forks.items new.owned.items new.owners.items next) (sym (ap vec_items c.hand_over.ensures.roots))
    (subst (λ (l : List Fork). AreTriesIn mid.roots.items l new.owned.items new.owners.items next) (sym (ap vec_items c.hand_over.ensures.forks))
    (cut_beside old.roots.items mid.roots.items old.forks.items mid.forks.items old.owned.items new.owned.items old.owners.items new.owners.items
    before next c.args.dir n c.args.name.now c.way_to_last-way.result can.are way.trie way.shape can.there
    (can.are.below n c.args.dir c.args.name.now can.there) now way.to c.way_to_last-way.ensures.leaf linked over))

pub returns-in_default-side-clause-are : goal.returns-in_default-side-clause-are
returns-in_default-side-clause-are c = λ before next can now.
    let old = c.args.self.now in
    let way = found_way old before c.args.dir c.args.number c.args.name.now can c.index.result.now c.in-Some.root c.deref.result.now
    c.way_to_last-way.result c.index.ensures (sym c.in-Some.ensures) c.deref.ensures.value c.way_to_last-way.ensures.on in
    absurd (some_last way c.in_default-side.is)
