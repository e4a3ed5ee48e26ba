use Rattle.std.proofs.Common.{ap, ◌∙◌, subst, refl, OnOk}
use Rattle.file_tree.specs.Tree.{FileTree, plain_of}
use Rattle.file_tree.specs.declared.changes.NodeRoom.TheVariants as rooms
use Rattle.file_tree.specs.Changes.{HasRoom}
use Rattle.file_tree.specs.Edits.{NumbersCome, AllLie}
use Rattle.file_tree.proofs.WriteLemmas.{room_plain, room_numbers, room_lies, room_good, made_room}
use Rattle.file_tree.proofs.BlockLemmas.{all_lie_adds}
use Rattle.file_tree.proofs.InsideLemmas.{tree_of, with_nodes}
use Rattle.file_tree.proofs.tree.Tree.reserve_extent.Goals as goal

pub invariant_of-self : goal.invariant_of-self
invariant_of-self c =
    let t : FileTree = tree_of c.self.inside in
    let next : FileTree = with_nodes c.self.inside c.reserve_in.new.self.nodes c.reserve_in.new.self.spare in
    room_good t next c.self.invariant c.args.file (λ b. OnOk c.reserve_in.result (HasRoom rooms.Extent b)) c.reserve_in.ensures.changed refl refl refl refl

pub returns-clause-plain : goal.returns-clause-plain
returns-clause-plain c tape =
    let t : FileTree = tree_of c.self.inside in
    let next : FileTree = with_nodes c.self.inside c.reserve_in.new.self.nodes c.reserve_in.new.self.spare in
    room_plain t next c.self.invariant c.args.file (λ b. OnOk c.reserve_in.result (HasRoom rooms.Extent b)) c.reserve_in.ensures.changed refl refl refl tape ∙ ap (plain_of tape) c.self.view_is

pub returns-clause-numbers : goal.returns-clause-numbers
returns-clause-numbers c =
    let t : FileTree = tree_of c.self.inside in
    let next : FileTree = with_nodes c.self.inside c.reserve_in.new.self.nodes c.reserve_in.new.self.spare in
    subst (λ (t : FileTree). NumbersCome (λ p. p) t next) c.self.view_is (room_numbers t next c.self.invariant c.args.file (λ b. OnOk c.reserve_in.result (HasRoom rooms.Extent b)) c.reserve_in.ensures.changed refl refl refl)

pub returns-clause-extents : goal.returns-clause-extents
returns-clause-extents c =
    let t : FileTree = tree_of c.self.inside in
    let next : FileTree = with_nodes c.self.inside c.reserve_in.new.self.nodes c.reserve_in.new.self.spare in
    subst (λ (t : FileTree). AllLie t next) c.self.view_is (room_lies t next c.self.invariant c.args.file (λ b. OnOk c.reserve_in.result (HasRoom rooms.Extent b)) c.reserve_in.ensures.changed refl refl refl)

pub returns-clause-room : goal.returns-clause-room
returns-clause-room c =
    let t : FileTree = tree_of c.self.inside in
    let next : FileTree = with_nodes c.self.inside c.reserve_in.new.self.nodes c.reserve_in.new.self.spare in
    made_room t.nodes next.nodes c.args.file c.reserve_in.result c.reserve_in.ensures.changed

pub returns-clause-blocks : goal.returns-clause-blocks
returns-clause-blocks c = all_lie_adds c.args.self.now _ (returns-clause-extents c)
