-- Changes of one node that stays where it is.
use Rattle.std.specs.Prelude.{◌≡◌, ℕ, ◌+◌, ◌^◌, ◌≤◌, ◌<◌, ⊤, Some}
use Rattle.std.specs.FinMap as fin
use Rattle.tape_types.specs.Bounds.{longest_file}
use Rattle.tape_types.specs.NodeKeys.Keys.{KeyMap}
use Rattle.tape_types.specs.declared.moments.Moment.{Moment}
use Rattle.tape_types.specs.declared.cartridges.Extent.{Extent}
use Rattle.extent_map.specs.Laid.{Laid, Room, IsLaid, overlaid, resized}
use Rattle.file_tree.specs.declared.changes.NodeChange.{NodeChange}
use Rattle.file_tree.specs.declared.changes.NodeChange.TheVariants as changes
use Rattle.file_tree.specs.declared.changes.NodeRoom.{NodeRoom}
use Rattle.file_tree.specs.declared.changes.NodeRoom.TheVariants as rooms
use Rattle.file_tree.specs.declared.nodes.Node.{Node}
use Rattle.file_tree.specs.declared.nodes.HeldKind.{HeldKind}
use Rattle.file_tree.specs.declared.nodes.HeldKind.TheVariants as kinds
use Rattle.file_tree.specs.Tree.{Nodes, number_at}
use Rattle.plain_tree.specs.Paths.{Path}

-- change and modify time are this moment
abbrev pub touched : Moment → Node → Node
touched at node = record node { times = record node.times { change = at; modify = at } }

-- the change time is this moment
abbrev pub change_noted : Moment → Node → Node
change_noted at node = record node { times = record node.times { change = at } }

-- the extent can be put into the file, for which there is memory
pub record CanOverlay (room : Room) (new : Extent) : Type 0 where
  pub space : 2 ≤ room.spare
  pub some : 1 ≤ new.count
  pub fits : new.offset + new.count ≤ longest_file
  pub byte : new.byte < room.laid.block_size
  pub block : new.block ≤ 2 ^ 62

-- the file lies so now, and is touched
pub record LiesNow (at : Moment) (before next : Node) (laid : Laid) : Type 0 where
  pub room : Room
  pub is : next ≡ touched at (record before { kind = kinds.File room })
  pub lies : room.laid ≡ laid
  pub good : IsLaid laid

-- a file lies as the change of its extents says, and is touched; another node is as it was
abbrev pub relaid_as : (Laid → Laid) → Moment → Node → Node → HeldKind → Type 0
relaid_as change at before next kinds.Dir = next ≡ before
relaid_as change at before next (kinds.File room) = LiesNow at before next (change room.laid)
relaid_as change at before next (kinds.Link text) = next ≡ before

abbrev pub IsRelaid : (Laid → Laid) → Moment → Node → Node → Type 0
IsRelaid change at before next = relaid_as change at before next before.kind

-- the node has these attributes, and its change is noted
pub record HasKeysNow (at : Moment) (before next : Node) (keys : KeyMap) : Type 0 where
  pub spare : ℕ
  pub is : next ≡ change_noted at (record before { keys = record { map = keys; spare = spare } })

-- the node is changed so at this moment
abbrev pub IsChangedBy : NodeChange → Moment → Node → Node → Type 0
IsChangedBy changes.Touch at before next = next ≡ touched at before
IsChangedBy changes.Note at before next = next ≡ change_noted at before
IsChangedBy (changes.Resize length) at before next = IsRelaid (λ laid. resized laid length) at before next
IsChangedBy (changes.Overlay new) at before next = IsRelaid (λ laid. overlaid laid new) at before next
IsChangedBy (changes.Flag on) at before next = next ≡ change_noted at (record before { readonly = on })
IsChangedBy (changes.DropKey key) at before next = HasKeysNow at before next (fin.remove before.keys.map key.now)
IsChangedBy (changes.SetKey key value) at before next =
    HasKeysNow at before next (fin.insert before.keys.map key value)

abbrev pub can_overlay : Extent → HeldKind → Type 0
can_overlay new kinds.Dir = ⊤
can_overlay new (kinds.File room) = CanOverlay room new
can_overlay new (kinds.Link text) = ⊤

-- the node can be changed so
abbrev pub CanChange : NodeChange → Node → Type 0
CanChange changes.Touch node = ⊤
CanChange changes.Note node = ⊤
CanChange (changes.Resize length) node = length ≤ longest_file
CanChange (changes.Overlay new) node = can_overlay new node.kind
CanChange (changes.Flag on) node = ⊤
CanChange (changes.DropKey key) node = ⊤
CanChange (changes.SetKey key value) node = 1 ≤ node.keys.spare

-- a file lies as it did, and there may be memory for more of its extents; another node is as it was
pub record KeepsLaid (before next : Node) (laid : Laid) : Type 0 where
  pub room : Room
  pub is : next ≡ record before { kind = kinds.File room }
  pub lies : room.laid ≡ laid

abbrev pub roomier_as : Node → Node → HeldKind → Type 0
roomier_as before next kinds.Dir = next ≡ before
roomier_as before next (kinds.File room) = KeepsLaid before next room.laid
roomier_as before next (kinds.Link text) = next ≡ before

-- the node has the attributes that it had, and there may be memory for more of them
pub record KeepsKeys (before next : Node) : Type 0 where
  pub spare : ℕ
  pub is : next ≡ record before { keys = record { map = before.keys.map; spare = spare } }

-- the node is as it was, but for how much memory there is
abbrev pub IsRoomier : NodeRoom → Node → Node → Type 0
IsRoomier rooms.Extent before next = roomier_as before next before.kind
IsRoomier rooms.Key before next = KeepsKeys before next

-- there is memory for an overlay, where it is a file
abbrev pub kind_has_room : HeldKind → Type 0
kind_has_room kinds.Dir = ⊤
kind_has_room (kinds.File room) = 2 ≤ room.spare
kind_has_room (kinds.Link text) = ⊤

-- there is memory for that
abbrev pub HasRoom : NodeRoom → Node → Type 0
HasRoom rooms.Extent node = kind_has_room node.kind
HasRoom rooms.Key node = 1 ≤ node.keys.spare

-- the node with this number is changed, and all else is as it was
pub record IsChangedAt (before next : Nodes) (number : ℕ) (P : Node → Node → Type 0) : Type 0 where
  pub path : Path
  pub old : Node
  pub new : Node
  pub there : fin.get before path ≡ Some old
  pub is : old.number ≡ number
  pub only : (p : Path) → number_at before p ≡ Some number → p ≡ path
  pub kept : new.number ≡ old.number
  pub changed : P old new
  pub now : next ≡ fin.insert before path new
