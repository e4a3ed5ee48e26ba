-- The elements of an index as they are written.
use Rattle.std.proofs.Common.{ℕ, List, [], ◌∷◌, length, Option, Some, None}
use Rattle.ltfs_documents.specs.declared.doc_fields.tags.Tag.TheVariants.{Creator, Comment, VolumeUuid, Partition, GenerationNumber, UpdateTime, StartBlock, AllowPolicyUpdate, Size, VolumeLockState, HighestFileUid, FileUid, Name, Length, CreationTime, ChangeTime, ModifyTime, AccessTime, BackupTime, ReadOnly, Symlink, FileOffset, ByteOffset, ByteCount, Key, Value}
use Rattle.tape_types.specs.declared.node_keys.xattrs.Xattr.{Xattr}
use Rattle.ltfs_documents.specs.declared.doc_fields.values.LockState.{LockState}
use Rattle.ltfs_documents.specs.declared.doc_elements.schema.Container.TheVariants as place
use Rattle.ltfs_documents.specs.DocElements.Elements.{Item, plain, nested, Items, no_items, item}
use Rattle.ltfs_documents.specs.DocElements.Pieces.{words, time, uuid, letter, number, truth, lock}
use Rattle.ltfs_documents.specs.DocElements.Pieces as val
use Rattle.index_model.specs.declared.indexes.Policy.{Policy}
use Rattle.index_model.specs.declared.indexes.Spot.{Spot}
use Rattle.index_model.specs.declared.nodes.RawExtent.{RawExtent}
use Rattle.index_model.specs.Values.{TimesValue, NodeFacts, Nodes, no_nodes, directory, file, link, VolumeFacts, IndexValue}

-- ---- the elements of an index, in their order

-- an element that may be left out
abbrev pub maybe : {X : Type 0} → (X → Item) → Option X → Items → Items
maybe make None is = is
maybe make (Some x) is = item (make x) is

-- the elements of a place on tape
abbrev pub spot_items : Spot → Items
spot_items s = item (plain Partition (letter s.letter)) (item (plain StartBlock (number s.block)) no_items)

-- the elements of names in a placement policy
abbrev pub name_items : List (List ℕ) → Items
name_items [] = no_items
name_items (text ∷ texts) = item (plain Name (words text)) (name_items texts)

-- the element of a placement policy
abbrev pub policy_item : Policy → Item
policy_item p = nested place.Policy (item (nested place.Criteria (item (plain Size (number p.size)) (name_items p.names))) no_items)

-- the element of a comment
abbrev pub comment_item : List ℕ → Item
comment_item text = plain Comment (words text)

-- the element of the place of the index before
abbrev pub back_item : Spot → Item
back_item s = nested place.Back (spot_items s)

-- the element of the volume's lock
abbrev pub lock_item : LockState → Item
lock_item state = plain VolumeLockState (lock state)

-- the elements of an index's facts, with those of its root
abbrev pub index_items : VolumeFacts → Items → Items
index_items v root =
    item (plain Creator (words v.creator))
    (maybe comment_item v.comment
    (item (plain VolumeUuid (uuid v.uuid))
    (item (plain GenerationNumber (number v.generation))
    (item (plain UpdateTime (time v.updated))
    (item (nested place.Here (spot_items v.here))
    (maybe back_item v.back
    (item (plain AllowPolicyUpdate (truth v.allow))
    (maybe policy_item v.policy
    (maybe lock_item v.lock
    (item (plain HighestFileUid (number v.highest))
    (item (nested place.Root root) no_items)))))))))))

-- the five times and what is behind them
abbrev pub times_items : TimesValue → Items → Items
times_items t behind =
    item (plain CreationTime (time t.create))
    (item (plain ChangeTime (time t.change))
    (item (plain ModifyTime (time t.modify))
    (item (plain AccessTime (time t.access))
    (item (plain BackupTime (time t.backup)) behind))))

-- the elements of an extended attribute
abbrev pub xattr_items : Xattr → Items
xattr_items x = item (plain Key (words x.key)) (item (plain Value (val.bytes x.value)) no_items)

-- the elements of extended attributes, one for each
abbrev pub xattrs_items : List Xattr → Items
xattrs_items [] = no_items
xattrs_items (x ∷ xs) = item (nested place.Xattr (xattr_items x)) (xattrs_items xs)

-- the attributes of a node, where there are any, and what is behind them
abbrev pub attributes_items : List Xattr → Items → Items
attributes_items [] behind = behind
attributes_items (x ∷ xs) behind = item (nested place.Attributes (xattrs_items (x ∷ xs))) behind

-- what holds without attributes and with some
pub either_way : (P : List Xattr → Type 0) → P [] → ((x : Xattr) (xs : List Xattr) → P (x ∷ xs)) → (xs : List Xattr) → P xs
either_way P none some [] = none
either_way P none some (x ∷ xs) = some x xs

-- the elements of a directory, with those of what is in it
abbrev pub directory_items : NodeFacts → Items → Items
directory_items f inside =
    item (plain FileUid (number f.uid))
    (item (plain Name (words f.name))
    (times_items f.times
    (item (plain ReadOnly (truth f.readonly))
    (attributes_items f.xattrs
    (item (nested place.Contents inside) no_items)))))

-- a file with so many bytes, and what it has behind its facts
abbrev pub file_items : NodeFacts → ℕ → Item → Items
file_items f bytes last =
    item (plain FileUid (number f.uid))
    (item (plain Name (words f.name))
    (item (plain Length (number bytes))
    (times_items f.times
    (item (plain ReadOnly (truth f.readonly))
    (attributes_items f.xattrs
    (item last no_items))))))

-- the elements of an extent
abbrev pub extent_items : RawExtent → Items
extent_items e =
    item (plain FileOffset (number e.offset))
    (item (plain Partition (letter e.letter))
    (item (plain StartBlock (number e.block))
    (item (plain ByteOffset (number e.byte))
    (item (plain ByteCount (number e.count)) no_items))))

-- the elements of extents, one for each
abbrev pub extents_items : List RawExtent → Items
extents_items [] = no_items
extents_items (e ∷ es) = item (nested place.Extent (extent_items e)) (extents_items es)

-- the elements of nodes, one for each
abbrev pub nodes_items : Nodes → Items
nodes_items no_nodes = no_items
nodes_items (directory f inside behind) = item (nested place.Directory (directory_items f (nodes_items inside))) (nodes_items behind)
nodes_items (file f bytes extents behind) = item (nested place.File (file_items f bytes (nested place.ExtentInfo (extents_items extents)))) (nodes_items behind)
nodes_items (link f text behind) = item (nested place.File (file_items f (length text) (plain Symlink (words text)))) (nodes_items behind)

-- the elements of an index
abbrev pub items_of : IndexValue → Items
items_of v = index_items v.volume (directory_items v.root (nodes_items v.inside))
