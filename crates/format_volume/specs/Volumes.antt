-- The empty volume that a cartridge becomes (LTFS 2.4 on labels, the index, index constructs and coherency).
use Rattle.std.specs.Prelude.{ℕ, ◌+◌, nat_lt, if◌then◌else◌, true, false, List, []}
use Rattle.std.specs.Prelude.{◌∷◌, ◌++◌, codes, length, map, replicate, Option, Some, None}
use Rattle.std.specs.Int.{div_ceil}
use Rattle.tape_types.specs.declared.cartridges.Cartridge.{Cartridge}
use Rattle.tape_types.specs.declared.cartridges.Item.{Item}
use Rattle.tape_types.specs.declared.cartridges.Item.TheVariants.{Block, Mark}
use Rattle.tape_types.specs.declared.cartridges.Limits.{Limits}
use Rattle.tape_types.specs.declared.cartridges.Note.{Note}
use Rattle.tape_types.specs.declared.cartridges.Note.TheVariants.{Kept}
use Rattle.tape_types.specs.declared.cartridges.Part.{Part}
use Rattle.tape_types.specs.declared.cartridges.Part.TheVariants.{Ip, Dp}
use Rattle.tape_types.specs.declared.moments.Moment.{Moment}
use Rattle.tape_types.specs.declared.moments.Times.{Times}
use Rattle.coherency.specs.declared.Coherency.{Coherency}
use Rattle.coherency.specs.Notes.{note_of}
use Rattle.tape_layout.specs.IndexConstruct.Blocks.{blocks_of}
use Rattle.index_model.specs.Canonical as index_text
use Rattle.index_model.specs.Values.{IndexValue, facts_of, no_nodes, volume_of}
use Rattle.index_model.specs.declared.indexes.Index.{Index}
use Rattle.index_model.specs.declared.indexes.Spot.{Spot}
use Rattle.index_model.specs.declared.nodes.Node.{Node}
use Rattle.index_model.specs.declared.nodes.NodeKind.TheVariants as kinds
use Rattle.ltfs_label.specs.Canonical as label_text
use Rattle.ltfs_label.specs.Values.{label_of}
use Rattle.ltfs_label.specs.declared.Label.{Label}
use Rattle.vol_label.specs.Table.{record_of}
use Rattle.vol_label.specs.declared.Vol1.{Vol1}
use Rattle.format_volume.specs.declared.requests.FormatSpec.{FormatSpec}

-- the program that formats
abbrev pub creator : List ℕ
creator = codes "ltfs_server 1.0.0"

-- `a` is the index partition, and `b` the data partition
abbrev pub letter : Part → ℕ
letter Ip = 97
letter Dp = 98

-- ---- labels

-- the volume has no owner
abbrev pub record_for : FormatSpec → Vol1
record_for spec = record { volume = spec.volume; owner = replicate 14 32 }

abbrev pub label_on : Part → FormatSpec → Label
label_on part spec = record {
  creator = creator;
  formatted = spec.at;
  uuid = spec.uuid;
  location = letter part;
  index = letter Ip;
  dpart = letter Dp;
  block = spec.block;
  compression = false;
}

-- a partition begins with two labels, and a mark behind each
abbrev pub label_items : Part → FormatSpec → List Item
label_items part spec =
    Block (record_of (record_for spec)) ∷ Mark
    ∷ Block (label_text.canonical (label_of (label_on part spec))) ∷ Mark ∷ []

-- ---- indexes

-- where the index of a partition has its first block: behind the labels and a mark
abbrev pub first_spot : Part → Spot
first_spot part = record { letter = letter part; block = 5 }

-- the index of the index partition points back to that of the data partition, which is the first
abbrev pub back_on : Part → Option Spot
back_on Ip = Some (first_spot Dp)
back_on Dp = None

abbrev pub times_at : Moment → Times
times_at at = record { create = at; change = at; modify = at; access = at; backup = at }

-- the root is an empty directory, with the name of the volume
abbrev pub root_of : FormatSpec → Node
root_of spec = record {
  parent = 0;
  uid = 1;
  name = spec.name;
  times = times_at spec.at;
  readonly = false;
  xattrs = [];
  kind = kinds.Dir;
}

-- the first generation
abbrev pub index_on : Part → FormatSpec → Index
index_on part spec = record {
  creator = creator;
  comment = None;
  uuid = spec.uuid;
  generation = 1;
  updated = spec.at;
  here = first_spot part;
  back = back_on part;
  allow = true;
  policy = spec.policy;
  lock = None;
  highest = 1;
  nodes = root_of spec ∷ [];
}

-- what the index tells: the root, and nothing in it
abbrev pub told_on : Part → FormatSpec → IndexValue
told_on part spec =
    record { volume = volume_of (index_on part spec); root = facts_of (root_of spec); inside = no_nodes }

abbrev pub document_on : Part → FormatSpec → List ℕ
document_on part spec = index_text.canonical (told_on part spec)

-- a document's blocks between two marks
abbrev pub construct : ℕ → List ℕ → List Item
construct size doc = Mark ∷ (map Block (blocks_of size doc) ++ Mark ∷ [])

-- ---- the cartridge

abbrev pub items_on : Part → FormatSpec → List Item
items_on part spec = label_items part spec ++ construct spec.block (document_on part spec)

-- the note of a partition, with the volume change reference that the cartridge has
abbrev pub noted : FormatSpec → ℕ → Coherency
noted spec vcr = record { vcr = vcr; generation = 1; block = 5; uuid = spec.uuid }

abbrev pub note_for : FormatSpec → ℕ → Note
note_for spec vcr = Kept (note_of (noted spec vcr))

abbrev pub volume_for : FormatSpec → ℕ → Cartridge
volume_for spec vcr = record {
  ip = items_on Ip spec;
  dp = items_on Dp spec;
  vcr = vcr;
  note_ip = note_for spec vcr;
  note_dp = note_for spec vcr;
}

-- each item that is written changes the volume
abbrev pub vcr_after : FormatSpec → ℕ → ℕ
vcr_after spec vcr = vcr + (length (items_on Ip spec) + length (items_on Dp spec))

-- ---- room

-- labels and marks take 6 positions
abbrev pub need : Part → FormatSpec → ℕ
need part spec = 6 + div_ceil (length (document_on part spec)) spec.block

-- how many positions the first partition needs that has fewer, and how many it has
abbrev pub full : FormatSpec → Limits → Option (ℕ × ℕ)
full spec limits =
    if nat_lt limits.cap_ip (need Ip spec) then Some (need Ip spec, limits.cap_ip)
    else if nat_lt limits.cap_dp (need Dp spec) then Some (need Dp spec, limits.cap_dp)
    else None
