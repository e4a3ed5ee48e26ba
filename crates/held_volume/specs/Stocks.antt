-- What is held of a volume while it is served, and what that stands for.
use Rattle.std.specs.Prelude.{◌≡◌, ◌<◌, ◌&&◌, ◌||◌, not, ℕ, Bool, true, false, [], Some}
use Rattle.std.specs.FinMap as fin
use Rattle.extent_map.specs.Cells.{Tape}
use Rattle.extent_map.specs.Laid.{Laid, Room}
use Rattle.plain_tree.specs.Paths.{Path}
use Rattle.file_tree.specs.declared.nodes.Node.{Node}
use Rattle.file_tree.specs.declared.nodes.HeldKind.TheVariants as kinds
use Rattle.file_tree.specs.Blocks.{Ends, LiesBelow}
use Rattle.file_tree.specs.Carried.{carried_of}
use Rattle.file_tree.specs.Tree.{FileTree, plain_of}
use Rattle.tape_layout.specs.Ops.{end_of}
use Rattle.tape_layout.specs.Plans.{Plan}
use Rattle.tape_layout.specs.declared.standing.Ends as layout
use Rattle.space_laws.specs.Files.{Files, root_name}
use Rattle.space_laws.specs.Mount.{MountFacts, was_sealed}
use Rattle.space_laws.specs.Space.{Space, plan_of}
use Rattle.space_laws.specs.Standing.{Given, Standing, rules}
use Rattle.held_volume.specs.declared.volume_sync.frames.Frame.{Frame}

-- the tree, what is admitted for the tape, and what the next index stands on
pub record Stocked : Type 0 where
  pub tree : FileTree
  pub layout : Plan
  pub frame : Frame

abbrev pub stocked : FileTree → Plan → Frame → Stocked
stocked tree layout frame = record { tree = tree; layout = layout; frame = frame }

-- a file of no bytes
abbrev pub no_bytes : ℕ → Laid
no_bytes size = record { block_size = size; length = 0; extents = [] }

-- each file of the tree lies as that of its uid, and a uid that was not given yet has no bytes
pub record LieAs (files : Files) (t : FileTree) : Type 0 where
  pub lies : (path : Path) (node : Node) (room : Room) → fin.get t.nodes path ≡ Some node → node.kind ≡ kinds.File room
      → files node.uid ≡ room.laid
  pub fresh : (uid : ℕ) → t.highest < uid → files uid ≡ no_bytes t.block_size

-- what the next index stands on: the label, the carried facts and whether the volume is sealed as they were mounted,
-- and the rest as the space has it
abbrev pub frame_of : MountFacts → Space → Bool → Frame
frame_of m space noted = record {
  label = m.label;
  carried = carried_of m.index;
  sealed = was_sealed m.index;
  generation = space.newest;
  last_dp = space.last_dp;
  changed = space.changed;
  dp_done = space.admitted || m.dp_done;
  ip_done = not space.admitted && m.ip_done;
  noted = noted;
}

abbrev pub ends_of : layout.Ends → Ends
ends_of ends part = end_of part ends

-- What is held is what stands, given what will stand on tape once all ops are done: the tree with the bytes of its
-- files, how these lie, and the space of both partitions. No block of the tree stands behind their ends.
pub record IsStock (tape : Tape) (g : Given) (on : Bool) (st : Standing) (s : Stocked) : Type 0 where
  pub plain : plain_of tape s.tree ≡ st.tree
  pub files : LieAs st.files s.tree
  pub layout : s.layout ≡ plan_of (rules g) on st.space s.layout.ops
  pub frame : s.frame ≡ frame_of g.mounted st.space s.frame.noted
  pub name : s.tree.name ≡ root_name g.mounted
  pub block_size : s.tree.block_size ≡ g.mounted.label.block
  pub below : LiesBelow (ends_of st.space.ends) s.tree

-- once the tree has changed
abbrev pub with_change : Bool → Frame → Frame
with_change true f = record f { changed = true }
with_change false f = f

-- once the index of a sync is admitted
abbrev pub with_index : Frame → Frame
with_index f = record f { dp_done = true; ip_done = false }
