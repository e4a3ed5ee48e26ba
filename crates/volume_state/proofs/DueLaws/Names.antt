-- That the root keeps its name.
use Rattle.std.proofs.Common.{ℕ, ◌≡◌, Bool, List, [], ◌∷◌, Option, Some, None, sym, ap, ◌∙◌, refl}
use Rattle.std.specs.FinMap as fin
use Rattle.std.specs.List.{find}
use Rattle.std.specs.Option.{option_map, unwrap_or}
use Rattle.index_model.specs.Places.{IsAt}
use Rattle.index_model.specs.Valid.{IsValid}
use Rattle.index_model.specs.declared.nodes.Node as told
use Rattle.file_tree.specs.Mounts.{Letters}
use Rattle.file_tree.specs.Told.{told_nodes, told_of}
use Rattle.file_tree.specs.Tree.{FileTree, plain_nodes, whole}
use Rattle.file_tree.specs.Valid.{IsGood}
use Rattle.file_tree.proofs.OrderLemmas as order
use Rattle.file_tree.proofs.PathLemmas.{some_same}
use Rattle.cartridge_meaning.specs.Carried as carries
use Rattle.space_laws.specs.Files.{root_name}
use Rattle.space_laws.specs.Mount.{MountFacts}
use Rattle.held_volume.proofs.StartLemmas.{found_at}

-- the first node is the root
first_name : (nodes : List told.Node) (root : told.Node) → IsAt nodes 0 root → carries.root_name nodes ≡ root.name
first_name [] root is = let wrong : None ≡ Some root = is in cc
first_name (node ∷ nodes) root is = ap (λ (n : told.Node). n.name) (some_same node root is)

-- it is the node with UID 1
pub one_name : (m : MountFacts) → IsValid m.index → root_name m ≡ carries.root_name m.index.nodes
one_name m valid =
    let root = valid.formed.order.root in
    let first = valid.formed.order.first in
    ap (λ (o : Option told.Node). unwrap_or (option_map (λ (n : told.Node). n.name) o) [])
    (ap (λ u. find (λ (n : told.Node). Rattle.std.proofs.Common.eqb n.uid u) m.index.nodes)
    (sym (valid.agrees.uids.root root first)) ∙ found_at m.index.nodes 0 root first valid.agrees.uids.apart)
    ∙ sym (first_name m.index.nodes root first)

-- it is told by the name of the volume
pub told_name : (letters : Letters) (t : FileTree) → IsGood t → carries.root_name (told_nodes letters t) ≡ t.name
told_name letters t good =
    let count = fin.len (plain_nodes whole t.nodes) in
    let top = order.root_entry letters t.name t.nodes count t.highest (good.valid whole) in
    first_name (told_nodes letters t) (told_of letters t.name (fin.keys t.nodes) ([], top.0))
    (order.at_entry letters t.name t.nodes count t.highest (good.valid whole) 0 ([], top.0) top.1)
