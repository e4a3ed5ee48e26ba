-- What a volume is served from that was mounted.
use Rattle.std.specs.Prelude.{◌≡◌, ℕ, ◌≤◌, ◌^◌, List}
use Rattle.std.specs.List.{AllByRecursion}
use Rattle.tape_types.specs.declared.cartridges.Limits.{Limits}
use Rattle.index_model.specs.Extents.{IsFileAt}
use Rattle.index_model.specs.declared.nodes.RawExtent.{RawExtent}
use Rattle.extent_map.specs.Cells.{Tape}
use Rattle.file_tree.specs.Mounts.{CanMount, EndsBelow, IsTreeOf, Letters}
use Rattle.file_tree.specs.Tree.{FileTree, plain_of}
use Rattle.tape_layout.specs.Plans.{CanBe}
use Rattle.tape_layout.specs.declared.standing.Ends as layout
use Rattle.cartridge_meaning.specs.declared.mounted.Mounted.{Mounted}
use Rattle.tape_types.specs.Cartridges.{IsLimits}
use Rattle.cartridge_meaning.specs.Mounts.{IsMount}
use Rattle.space_laws.specs.Mount.{MountFacts}
use Rattle.space_laws.specs.Standing.{Given}
use Rattle.held_volume.specs.Stocks.{ends_of}

abbrev pub letters_of : Mounted → Letters
letters_of m = (m.label.index, m.label.dpart)

abbrev pub mounted_ends : Mounted → layout.Ends
mounted_ends m = record { ip = m.end_ip; dp = m.end_dp }

abbrev pub mounted_facts : Mounted → MountFacts
mounted_facts m = record {
  label = m.label;
  index = m.index;
  newest = m.newest;
  ends = mounted_ends m;
  last_dp = m.last_dp;
  ip_on = m.ip_on;
  dp_done = m.dp_done;
  ip_done = m.ip_done;
}

-- its index can be mounted, each of its extents ends before the end of its partition, and the ends lie within the
-- capacities
pub record CanStart (limits : Limits) (m : Mounted) : Type 0 where
  pub mounts : CanMount m.index (letters_of m) m.label.block
  pub below : (at bytes : ℕ) (raws : List RawExtent) → IsFileAt m.index.nodes at bytes raws
      → AllByRecursion (EndsBelow (ends_of (mounted_ends m)) (letters_of m) m.label.block) raws
  pub ends : CanBe limits m.label.block (mounted_ends m)
  pub newest : m.newest ≤ 2 ^ 62

-- The volume is served from this mount, over these capacities: its tree is the one that the index is mounted as, with
-- the bytes that stand on tape.
pub record StartsFrom (tape : Tape) (limits : Limits) (m : Mounted) (g : Given) : Type 0 where
  pub mounted : g.mounted ≡ mounted_facts m
  pub limits_are : g.limits ≡ limits
  pub tree : (t : FileTree) → IsTreeOf (letters_of m) m.label.block m.index t → plain_of tape t ≡ g.tree

-- what is found at a mount, on a drive with these capacities, can be started from
abbrev pub MountsCanStart : Type 0
MountsCanStart = (limits : Limits) (m : Mounted) → IsLimits limits → IsMount limits m → CanStart limits m

-- the volume is served from it where its tree is that of the index, with the bytes that stand on tape
abbrev pub MountsAreStock : Type 0
MountsAreStock =
    (tape : Tape) (limits : Limits) (m : Mounted) (g : Given) (t : FileTree)
    → IsTreeOf (letters_of m) m.label.block m.index t → g.mounted ≡ mounted_facts m → g.limits ≡ limits
    → g.tree ≡ plain_of tape t → StartsFrom tape limits m g
