-- What the value of a small index is: each directory has the nodes that name it as their parent.
use Rattle.std.specs.Prelude.{◌≡◌, [], ◌∷◌, map, codes, option_map, Some}
use Rattle.std.proofs.Common.{refl}
use Rattle.tape_types.specs.declared.moments.Moment.{Moment}
use Rattle.tape_types.specs.declared.moments.Times.{Times}
use Rattle.index_model.specs.Archive.{archive, archive_nodes, bin, hello, hi, keyed, node, note}
use Rattle.index_model.specs.Values.{IndexValue, directory, facts_of, file, link, no_nodes, all_nodes, value_of as node_value}
use Rattle.index_model.specs.declared.nodes.NodeKind.TheVariants as kinds
use Rattle.space_laws.specs.Files.{value_of}

archive_nests : (at : Moment) (times : Times) → option_map (λ (v : IndexValue). v.inside) (value_of (archive at times))
    ≡ Some (directory (facts_of (node times 0 2 (codes "docs") kinds.Dir)) (file (facts_of (keyed (note ∷ bin ∷ hi ∷ []) (node times 1 3 (codes "read me.txt") kinds.Dir))) 5 (hello ∷ []) no_nodes) (link (facts_of (node times 0 4 (codes "latest") kinds.Dir)) (codes "docs/read me.txt") no_nodes))
archive_nests at times = refl

-- the nodes that the value lists are those of the index
pub archive_is_told : (at : Moment) (times : Times) → option_map all_nodes (value_of (archive at times)) ≡ Some (map node_value (archive_nodes times))
archive_is_told at times = refl
