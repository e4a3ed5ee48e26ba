-- A test by which an index that was read can be mounted.
use Rattle.std.specs.Prelude.{ℕ, Bool, true, ◌&&◌, ◌||◌, ◌==◌, nat_lt}
use Rattle.std.specs.List.{list_all}
use Rattle.tape_types.specs.Bounds.{longest_file, most_positions}
use Rattle.index_model.specs.declared.nodes.RawExtent.{RawExtent}
use Rattle.index_model.specs.declared.nodes.NodeKind.{NodeKind}
use Rattle.index_model.specs.declared.nodes.NodeKind.TheVariants as kinds
use Rattle.file_tree.specs.Mounts.{Letters}

-- the extent has a letter of the volume, begins within a block, and ends far before the last position
abbrev pub on_volume : Letters → ℕ → RawExtent → Bool
on_volume letters size raw =
    (raw.letter == letters.0 || raw.letter == letters.1) && nat_lt raw.byte size && nat_lt raw.block most_positions
    && nat_lt raw.count longest_file

abbrev pub kind_on_volume : Letters → ℕ → NodeKind → Bool
kind_on_volume letters size kinds.Dir = true
kind_on_volume letters size (kinds.File bytes raws) = list_all (on_volume letters size) raws
kind_on_volume letters size (kinds.Link text) = true
