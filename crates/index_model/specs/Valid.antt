-- Which indexes are valid (LTFS 2.4 on the index).
use Rattle.std.specs.Prelude.{◌<◌, ◌≤◌, ◌^◌, length, IfSome}
use Rattle.std.specs.List.{AllByRecursion}
use Rattle.std.specs.Str.{IsUtf8}
use Rattle.tape_types.specs.Bounds.{most_nodes}
use Rattle.index_model.specs.declared.indexes.Index.{Index}
use Rattle.index_model.specs.declared.indexes.Policy.{Policy}
use Rattle.index_model.specs.declared.indexes.Spot.{Spot}
use Rattle.index_model.specs.Extents.{AreFiles, IsKind}
use Rattle.index_model.specs.Keys.{AreKeysApart, IsXattr}
use Rattle.index_model.specs.Names.{AreNames, AreNamesApart}
use Rattle.index_model.specs.Order.{AreInOrder}
use Rattle.index_model.specs.Texts.{IsLetter, IsPlainText}
use Rattle.index_model.specs.Uids.{AreUids}

-- a place on tape
pub record IsSpot (spot : Spot) : Type 0 where
  pub letter : IsLetter spot.letter
  pub block : spot.block ≤ 2 ^ 62

-- a policy's patterns are any texts
pub record IsPolicy (policy : Policy) : Type 0 where
  pub size : policy.size ≤ 2 ^ 62
  pub names : AllByRecursion IsUtf8 policy.names

-- what an index tells of its volume besides the nodes is such as it may be
pub record IsFitVolume (index : Index) : Type 0 where
  pub creator : IsPlainText index.creator
  pub comment : IfSome index.comment IsPlainText
  pub uuid : index.uuid < 2 ^ 128
  pub generation_least : 1 ≤ index.generation
  pub generation_most : index.generation ≤ 2 ^ 62
  pub here : IsSpot index.here
  pub back : IfSome index.back IsSpot
  pub policy : IfSome index.policy IsPolicy

-- what is seen of each value by itself, and of the order of the nodes
pub record IsFormed (index : Index) : Type 0 where
  pub volume : IsFitVolume index
  pub count : length index.nodes ≤ most_nodes
  pub order : AreInOrder index.nodes
  pub names : AreNames index.nodes
  pub xattrs : AllByRecursion (λ node. AllByRecursion IsXattr node.xattrs) index.nodes
  pub kinds : AllByRecursion (λ node. IsKind node.kind) index.nodes

-- what is seen once the whole index is known
pub record Agrees (index : Index) : Type 0 where
  pub uids : AreUids index.highest index.nodes
  pub names : AreNamesApart index.nodes
  pub keys : AreKeysApart index.nodes
  pub files : AreFiles index.nodes

-- a valid index
pub record IsValid (index : Index) : Type 0 where
  pub formed : IsFormed index
  pub agrees : Agrees index
