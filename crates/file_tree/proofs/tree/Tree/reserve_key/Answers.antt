use Rattle.std.proofs.Common.{ap, ◌∙◌, subst, refl, OnOk, ◌≤◌}
use Rattle.file_tree.specs.declared.nodes.Node.{Node}
use Rattle.file_tree.specs.Tree.{FileTree, plain_of}
use Rattle.file_tree.specs.Edits.{KeepsOutline}
use Rattle.file_tree.proofs.AttributeLemmas.{key_room_plain, key_room_keeps, key_room_good, made_key_room}
use Rattle.file_tree.proofs.InsideLemmas.{tree_of, with_nodes}
use Rattle.file_tree.proofs.tree.Tree.reserve_key.Goals as goal

pub invariant_of-self : goal.invariant_of-self
invariant_of-self c =
    let t : FileTree = tree_of c.self.inside in
    let next : FileTree = with_nodes c.self.inside c.reserve_in.new.self.nodes c.reserve_in.new.self.spare in
    key_room_good t next c.self.invariant c.args.number (λ (b : Node). OnOk c.reserve_in.result (1 ≤ b.keys.spare)) c.reserve_in.ensures.changed refl refl (record { name = refl; block_size = refl })

pub returns-clause-plain : goal.returns-clause-plain
returns-clause-plain c tape =
    let t : FileTree = tree_of c.self.inside in
    let next : FileTree = with_nodes c.self.inside c.reserve_in.new.self.nodes c.reserve_in.new.self.spare in
    key_room_plain t next c.self.invariant c.args.number (λ (b : Node). OnOk c.reserve_in.result (1 ≤ b.keys.spare)) c.reserve_in.ensures.changed refl refl tape ∙ ap (plain_of tape) c.self.view_is

pub returns-clause-outline : goal.returns-clause-outline
returns-clause-outline c =
    let t : FileTree = tree_of c.self.inside in
    let next : FileTree = with_nodes c.self.inside c.reserve_in.new.self.nodes c.reserve_in.new.self.spare in
    subst (λ (t : FileTree). KeepsOutline t next) c.self.view_is
    (key_room_keeps t next c.self.invariant c.args.number (λ (b : Node). OnOk c.reserve_in.result (1 ≤ b.keys.spare)) c.reserve_in.ensures.changed refl refl (record { name = refl; block_size = refl }) c.reserve_in.ensures.room)

pub returns-clause-room : goal.returns-clause-room
returns-clause-room c =
    let t : FileTree = tree_of c.self.inside in
    let next : FileTree = with_nodes c.self.inside c.reserve_in.new.self.nodes c.reserve_in.new.self.spare in
    made_key_room t next c.args.number c.reserve_in.result c.reserve_in.ensures.changed
