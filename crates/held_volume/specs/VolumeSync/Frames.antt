-- The index of a sync, and that of a close (LTFS 2.4 on the index and on index constructs).
use Rattle.std.specs.Prelude.{◌≡◌, ℕ, ◌+◌, true, false, List, codes, Option, Some, Result, Ok, Err}
use Rattle.std.specs.Option.{option_map}
use Rattle.tape_types.specs.declared.cartridges.Place.{Place}
use Rattle.tape_types.specs.declared.moments.Moment.{Moment}
use Rattle.index_model.specs.declared.indexes.Index.{Index}
use Rattle.file_tree.specs.Carried.{index_of_tree}
use Rattle.file_tree.specs.Mounts.{Letters}
use Rattle.file_tree.specs.Tree.{FileTree}
use Rattle.file_tree.specs.declared.carried.Heading.{Heading}
use Rattle.tape_layout.specs.Admissions.{IsAdmitted, close_admission, index_admission}
use Rattle.tape_layout.specs.Plans.{Plan}
use Rattle.tape_layout.specs.declared.errors.AdmitErr.{AdmitErr}
use Rattle.held_volume.specs.declared.volume_sync.frames.Frame.{Frame}

abbrev pub letters_of : Frame → Letters
letters_of f = (f.label.index, f.label.dpart)

-- How an index is headed: it has this generation, stands behind the mark at this end of the partition with this letter,
-- and points back to this block of the data partition.
abbrev pub heading_of : Frame → (generation letter end : ℕ) → (back : Option ℕ) → Moment → Heading
heading_of f generation letter end back at = record {
  creator = codes "ltfs_server 1.0.0";
  uuid = f.label.uuid;
  generation = generation;
  updated = at;
  here = record { letter = letter; block = end + 1 };
  back = option_map (λ block. record { letter = f.label.dpart; block = block }) back;
}

-- that of a sync stands behind the mark at this end of the data partition, is of the next generation, and points back
-- to the last index that was admitted there
abbrev pub sync_heading : Frame → (end : ℕ) → Moment → Heading
sync_heading f end at = heading_of f (f.generation + 1) f.label.dpart end f.last_dp at

-- the index of a tree at a moment
abbrev pub sync_index : Frame → FileTree → (end : ℕ) → Moment → Index
sync_index f tree end at = index_of_tree (letters_of f) (sync_heading f end at) f.carried tree

-- once it is admitted, with its first block at a place
abbrev pub with_sync : Frame → Place → Frame
with_sync f place = record f { generation = f.generation + 1; last_dp = Some place.pos; changed = false }

abbrev pub after_sync : Frame → Result Place AdmitErr → Frame
after_sync f (Ok place) = with_sync f place
after_sync f (Err e) = f

-- This text of the next index is admitted where it fits, and else refused, and then nothing has changed.
pub record IsSync (text : List ℕ) (old new : Plan) (before now : Frame) (result : Result Place AdmitErr) : Type 0 where
  pub admitted : IsAdmitted (index_admission old (before.generation + 1) text) old new result
  pub frame : now ≡ after_sync before result

-- That of a close stands behind the mark at this end of the index partition, and has the generation of the data
-- partition's last index, to which it points back.
abbrev pub close_heading : Frame → (generation : ℕ) → (last_dp : Option ℕ) → (end : ℕ) → Moment → Heading
close_heading f generation last_dp end at = heading_of f generation f.label.index end last_dp at

abbrev pub close_index : Frame → FileTree → (generation : ℕ) → (last_dp : Option ℕ) → (end : ℕ) → Moment → Index
close_index f tree generation last_dp end at =
    index_of_tree (letters_of f) (close_heading f generation last_dp end at) f.carried tree

-- once it is admitted, the index partition ends with an index of the newest generation
abbrev pub after_close : Frame → Result Place AdmitErr → Frame
after_close f (Ok place) = record f { ip_done = true }
after_close f (Err e) = f

-- This text of a close's index is admitted on the index partition where it fits, and else refused, and then nothing has
-- changed.
pub record IsCloseOf (text : List ℕ) (old new : Plan) (before now : Frame) (result : Result Place AdmitErr)
    : Type 0 where
  pub admitted : IsAdmitted (close_admission old text) old new result
  pub frame : now ≡ after_close before result
