use Rattle.std.proofs.Common.{sym, subst, refl}
use Rattle.extent_map.specs.Laid.{overlaid}
use Rattle.file_tree.specs.Blocks.{AddsBlocksOf}
use Rattle.file_tree.specs.Tree.{FileTree, HasLaid}
use Rattle.file_tree.specs.Edits.{CanWrite, IsWritten, NumbersCome, OthersLie}
use Rattle.file_tree.proofs.WriteLemmas.{can_write, overlay_writes, overlay_good, overlay_adds, relaid_numbers, relaid_others, relaid_lies}
use Rattle.file_tree.proofs.InsideLemmas.{tree_of, with_nodes}
use Rattle.file_tree.proofs.tree.Tree.overlay.Goals as goal

pub change-requires-clause-can : goal.change-requires-clause-can
change-requires-clause-can c path node there is =
    let t : FileTree = tree_of c.self.inside in
    let can : CanWrite t c.args.file c.args.new = subst (λ (t : FileTree). CanWrite t c.args.file c.args.new) (sym c.self.view_is) c.requires in
    can_write t.nodes c.args.file can.room can.extents c.args.new can.can c.len-numbers_differ.ensures.apart path node there is

pub invariant_of-self : goal.invariant_of-self
invariant_of-self c =
    let t : FileTree = tree_of c.self.inside in
    let can : CanWrite t c.args.file c.args.new = subst (λ (t : FileTree). CanWrite t c.args.file c.args.new) (sym c.self.view_is) c.requires in
    let next : FileTree = with_nodes c.self.inside c.change.new.self.nodes c.change.new.self.spare in
    overlay_good t next c.self.invariant c.args.file c.args.at can.room can.extents c.args.new c.change.ensures.changed refl refl refl refl can.near

pub returns-clause-plain : goal.returns-clause-plain
returns-clause-plain c =
    let t : FileTree = tree_of c.self.inside in
    let can : CanWrite t c.args.file c.args.new = subst (λ (t : FileTree). CanWrite t c.args.file c.args.new) (sym c.self.view_is) c.requires in
    let next : FileTree = with_nodes c.self.inside c.change.new.self.nodes c.change.new.self.spare in
    subst (λ (t : FileTree). IsWritten c.args.file c.args.new c.args.at t next) c.self.view_is (overlay_writes t next c.self.invariant c.args.file c.args.at can.room can.extents c.args.new c.change.ensures.changed refl refl refl)

pub returns-clause-numbers : goal.returns-clause-numbers
returns-clause-numbers c =
    let t : FileTree = tree_of c.self.inside in
    let can : CanWrite t c.args.file c.args.new = subst (λ (t : FileTree). CanWrite t c.args.file c.args.new) (sym c.self.view_is) c.requires in
    let next : FileTree = with_nodes c.self.inside c.change.new.self.nodes c.change.new.self.spare in
    subst (λ (t : FileTree). NumbersCome (λ p. p) t next) c.self.view_is (relaid_numbers t next c.self.invariant c.args.file c.args.at can.room can.extents (λ laid. overlaid laid c.args.new) c.change.ensures.changed refl refl refl)

pub returns-clause-extents : goal.returns-clause-extents
returns-clause-extents c laid has =
    let t : FileTree = tree_of c.self.inside in
    let can : CanWrite t c.args.file c.args.new = subst (λ (t : FileTree). CanWrite t c.args.file c.args.new) (sym c.self.view_is) c.requires in
    let next : FileTree = with_nodes c.self.inside c.change.new.self.nodes c.change.new.self.spare in
    relaid_lies t next c.self.invariant c.args.file c.args.at can.room can.extents (λ laid. overlaid laid c.args.new) c.change.ensures.changed refl refl refl laid (subst (λ (t : FileTree). HasLaid t.nodes c.args.file laid) (sym c.self.view_is) has)

pub returns-clause-others : goal.returns-clause-others
returns-clause-others c =
    let t : FileTree = tree_of c.self.inside in
    let can : CanWrite t c.args.file c.args.new = subst (λ (t : FileTree). CanWrite t c.args.file c.args.new) (sym c.self.view_is) c.requires in
    let next : FileTree = with_nodes c.self.inside c.change.new.self.nodes c.change.new.self.spare in
    subst (λ (t : FileTree). OthersLie c.args.file t next) c.self.view_is (relaid_others t next c.self.invariant c.args.file c.args.at can.room can.extents (λ laid. overlaid laid c.args.new) c.change.ensures.changed refl refl refl)

pub returns-clause-blocks : goal.returns-clause-blocks
returns-clause-blocks c =
    let t : FileTree = tree_of c.self.inside in
    let can : CanWrite t c.args.file c.args.new = subst (λ (t : FileTree). CanWrite t c.args.file c.args.new) (sym c.self.view_is) c.requires in
    let next : FileTree = with_nodes c.self.inside c.change.new.self.nodes c.change.new.self.spare in
    subst (λ (t : FileTree). AddsBlocksOf c.args.new t next) c.self.view_is (overlay_adds t next c.self.invariant c.args.file c.args.at can.room can.extents c.args.new c.change.ensures.changed refl refl refl)
