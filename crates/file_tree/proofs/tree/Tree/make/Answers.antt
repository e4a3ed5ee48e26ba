use Rattle.std.proofs.Common.{◌≡◌, ◌+◌, sym, ap, ◌∙◌, subst, [], ◌∷◌, ◌++◌, refl}
use Rattle.std.specs.Str.{IsUtf8}
use Rattle.plain_tree.specs.declared.calls.Call.{Call}
use Rattle.file_tree.specs.declared.nodes.Node.{Node}
use Rattle.file_tree.specs.Blocks.{AddsNoBlock}
use Rattle.file_tree.specs.Tree.{FileTree, Nodes, number_at, HasLaid, plain_of}
use Rattle.file_tree.specs.Edits.{CanMake, IsAfter, NumbersCome, OthersLie}
use Rattle.file_tree.proofs.EditLemmas.{put_numbers}
use Rattle.file_tree.proofs.TreeLemmas.{can_put, make_free, make_plain, make_numbers, make_number, make_lies, make_file, make_adds, make_good, same_call}
use Rattle.plain_tree.specs.Calls.{after}
use Rattle.file_tree.proofs.InsideLemmas.{tree_of}
use Rattle.file_tree.proofs.tree.Tree.make.Goals as goal

pub put-number-requires : goal.put-number-requires
put-number-requires c =
    let t : FileTree = tree_of c.self.inside in
    let can : CanMake t c.args.dir c.args.name c.args.sort = subst (λ (t : FileTree). CanMake t c.args.dir c.args.name c.args.sort) (sym c.self.view_is) c.requires in
    can_put t c.self.invariant c.args.dir c.args.name c.args.sort c.args.at can c.self.inside.places.slots

pub change-requires-clause-there : goal.change-requires-clause-there
change-requires-clause-there c =
    let t : FileTree = tree_of c.self.inside in
    let can : CanMake t c.args.dir c.args.name c.args.sort = subst (λ (t : FileTree). CanMake t c.args.dir c.args.name c.args.sort) (sym c.self.view_is) c.requires in
    let node : Node = record c.new_node-node.result { number = c.put-number.result } in
    (can.path, ap (λ (m : Nodes). number_at m can.path) (c.put-number.ensures.put can.path can.stands) ∙ put_numbers t.nodes (can.path ++ c.args.name ∷ []) node (make_free t c.self.invariant c.args.dir c.args.name c.args.sort c.args.at can) can.path c.args.dir can.stands)

pub invariant_of-self : goal.invariant_of-self
invariant_of-self c =
    let t : FileTree = tree_of c.self.inside in
    let can : CanMake t c.args.dir c.args.name c.args.sort = subst (λ (t : FileTree). CanMake t c.args.dir c.args.name c.args.sort) (sym c.self.view_is) c.requires in
    let next : FileTree = record { highest = c.self.inside.highest + 1; lock = c.self.inside.lock; name = c.self.inside.volume; block_size = c.self.inside.block_size; nodes = c.change.new.self.nodes; spare = c.change.new.self.spare } in
    let node : Node = record c.new_node-node.result { number = c.put-number.result } in
    make_good t c.self.invariant c.args.dir c.args.name c.args.sort c.args.at can next c.put-number.result node c.new_kind-kind.result c.put-number.new.self.nodes (ap (λ (n : Node). record n { number = c.put-number.result }) c.new_node-node.ensures) c.new_kind-kind.ensures c.put-number.ensures.put c.change.ensures.changed refl refl refl c.put-number.ensures.fresh refl (subst IsUtf8 c.as_str-is_text.ensures c.as_str-is_text.utf8)

pub returns-clause-plain : goal.returns-clause-plain
returns-clause-plain c own =
    let t : FileTree = tree_of c.self.inside in
    let can : CanMake t c.args.dir c.args.name c.args.sort = subst (λ (t : FileTree). CanMake t c.args.dir c.args.name c.args.sort) (sym c.self.view_is) own in
    let next : FileTree = record { highest = c.self.inside.highest + 1; lock = c.self.inside.lock; name = c.self.inside.volume; block_size = c.self.inside.block_size; nodes = c.change.new.self.nodes; spare = c.change.new.self.spare } in
    let node : Node = record c.new_node-node.result { number = c.put-number.result } in
    let same : can.call ≡ own.call = same_call t c.args.self.now c.args.dir c.args.name c.args.sort c.self.view_is own in
    subst (λ (t : FileTree). IsAfter own.call c.args.at t next) c.self.view_is (λ tape. make_plain t c.self.invariant c.args.dir c.args.name c.args.sort c.args.at can next c.put-number.result node c.new_kind-kind.result c.put-number.new.self.nodes (ap (λ (n : Node). record n { number = c.put-number.result }) c.new_node-node.ensures) c.new_kind-kind.ensures c.put-number.ensures.put c.change.ensures.changed refl refl refl c.put-number.ensures.fresh tape ∙ ap (λ (call : Call). after (plain_of tape t) call c.args.at) same)

pub returns-clause-number : goal.returns-clause-number
returns-clause-number c path stands =
    let t : FileTree = tree_of c.self.inside in
    let can : CanMake t c.args.dir c.args.name c.args.sort = subst (λ (t : FileTree). CanMake t c.args.dir c.args.name c.args.sort) (sym c.self.view_is) c.requires in
    let next : FileTree = record { highest = c.self.inside.highest + 1; lock = c.self.inside.lock; name = c.self.inside.volume; block_size = c.self.inside.block_size; nodes = c.change.new.self.nodes; spare = c.change.new.self.spare } in
    let node : Node = record c.new_node-node.result { number = c.put-number.result } in
    make_number t c.self.invariant c.args.dir c.args.name c.args.sort c.args.at can next c.put-number.result node c.new_kind-kind.result c.put-number.new.self.nodes (ap (λ (n : Node). record n { number = c.put-number.result }) c.new_node-node.ensures) c.new_kind-kind.ensures c.put-number.ensures.put c.change.ensures.changed refl refl refl c.put-number.ensures.fresh path (ap (λ (t : FileTree). number_at t.nodes path) c.self.view_is ∙ stands)

pub returns-clause-numbers : goal.returns-clause-numbers
returns-clause-numbers c =
    let t : FileTree = tree_of c.self.inside in
    let can : CanMake t c.args.dir c.args.name c.args.sort = subst (λ (t : FileTree). CanMake t c.args.dir c.args.name c.args.sort) (sym c.self.view_is) c.requires in
    let next : FileTree = record { highest = c.self.inside.highest + 1; lock = c.self.inside.lock; name = c.self.inside.volume; block_size = c.self.inside.block_size; nodes = c.change.new.self.nodes; spare = c.change.new.self.spare } in
    let node : Node = record c.new_node-node.result { number = c.put-number.result } in
    subst (λ (t : FileTree). NumbersCome (λ p. p) t next) c.self.view_is (make_numbers t c.self.invariant c.args.dir c.args.name c.args.sort c.args.at can next c.put-number.result node c.new_kind-kind.result c.put-number.new.self.nodes (ap (λ (n : Node). record n { number = c.put-number.result }) c.new_node-node.ensures) c.new_kind-kind.ensures c.put-number.ensures.put c.change.ensures.changed refl refl refl c.put-number.ensures.fresh)

pub returns-clause-extents : goal.returns-clause-extents
returns-clause-extents c =
    let t : FileTree = tree_of c.self.inside in
    let can : CanMake t c.args.dir c.args.name c.args.sort = subst (λ (t : FileTree). CanMake t c.args.dir c.args.name c.args.sort) (sym c.self.view_is) c.requires in
    let next : FileTree = record { highest = c.self.inside.highest + 1; lock = c.self.inside.lock; name = c.self.inside.volume; block_size = c.self.inside.block_size; nodes = c.change.new.self.nodes; spare = c.change.new.self.spare } in
    let node : Node = record c.new_node-node.result { number = c.put-number.result } in
    subst (λ (t : FileTree). OthersLie c.put-number.result t next) c.self.view_is (make_lies t c.self.invariant c.args.dir c.args.name c.args.sort c.args.at can next c.put-number.result node c.new_kind-kind.result c.put-number.new.self.nodes (ap (λ (n : Node). record n { number = c.put-number.result }) c.new_node-node.ensures) c.new_kind-kind.ensures c.put-number.ensures.put c.change.ensures.changed refl refl refl c.put-number.ensures.fresh)

pub returns-clause-blocks : goal.returns-clause-blocks
returns-clause-blocks c =
    let t : FileTree = tree_of c.self.inside in
    let can : CanMake t c.args.dir c.args.name c.args.sort = subst (λ (t : FileTree). CanMake t c.args.dir c.args.name c.args.sort) (sym c.self.view_is) c.requires in
    let next : FileTree = record { highest = c.self.inside.highest + 1; lock = c.self.inside.lock; name = c.self.inside.volume; block_size = c.self.inside.block_size; nodes = c.change.new.self.nodes; spare = c.change.new.self.spare } in
    let node : Node = record c.new_node-node.result { number = c.put-number.result } in
    subst (λ (t : FileTree). AddsNoBlock t next) c.self.view_is (make_adds t c.self.invariant c.args.dir c.args.name c.args.sort c.args.at can next c.put-number.result node c.new_kind-kind.result c.put-number.new.self.nodes (ap (λ (n : Node). record n { number = c.put-number.result }) c.new_node-node.ensures) c.new_kind-kind.ensures c.put-number.ensures.put c.change.ensures.changed refl refl refl c.put-number.ensures.fresh)

pub returns-clause-empty : goal.returns-clause-empty
returns-clause-empty c file =
    let t : FileTree = tree_of c.self.inside in
    let can : CanMake t c.args.dir c.args.name c.args.sort = subst (λ (t : FileTree). CanMake t c.args.dir c.args.name c.args.sort) (sym c.self.view_is) c.requires in
    let next : FileTree = record { highest = c.self.inside.highest + 1; lock = c.self.inside.lock; name = c.self.inside.volume; block_size = c.self.inside.block_size; nodes = c.change.new.self.nodes; spare = c.change.new.self.spare } in
    let node : Node = record c.new_node-node.result { number = c.put-number.result } in
    subst (λ (t : FileTree). HasLaid next.nodes c.put-number.result (record { block_size = t.block_size; length = 0; extents = [] })) c.self.view_is (make_file t c.self.invariant c.args.dir c.args.name c.args.sort c.args.at can next c.put-number.result node c.new_kind-kind.result c.put-number.new.self.nodes (ap (λ (n : Node). record n { number = c.put-number.result }) c.new_node-node.ensures) c.new_kind-kind.ensures c.put-number.ensures.put c.change.ensures.changed refl refl refl c.put-number.ensures.fresh file)
