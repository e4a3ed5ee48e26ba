-- Values on which the definitions are tried.
use Rattle.std.specs.Prelude.{ℕ, Bool, true, false, List, [], ◌∷◌, map, fold, replicate, codes, Some, None}
use Rattle.tape_types.specs.declared.moments.Moment.{Moment}
use Rattle.tape_types.specs.declared.cartridges.Part.TheVariants.{Ip, Dp}
use Rattle.tape_types.specs.declared.cartridges.Place.{Place}
use Rattle.file_tree.specs.Locks.{told_lock}
use Rattle.plain_tree.specs.Tree.{times_at}
use Rattle.plain_tree.specs.declared.calls.LockState.{LockState}
use Rattle.index_model.specs.declared.indexes.Index.{Index}
use Rattle.index_model.specs.declared.nodes.Node.{Node}
use Rattle.index_model.specs.declared.nodes.NodeKind.TheVariants as kinds
use Rattle.space_laws.specs.Mount.{MountFacts}
use Rattle.tape_layout.specs.declared.ops.Op.{Op}
use Rattle.tape_layout.specs.Ops.{place_of}
use Rattle.space_laws.specs.Space.{Space, Rules, Ask, store, index, after}

-- a directory of the root's uid
abbrev pub root : Moment → Node
root at = record { parent = 0; uid = 1; name = []; times = times_at at; readonly = false; xattrs = []; kind = kinds.Dir }

-- the first index of an empty volume
abbrev pub first_index : Moment → Index
first_index at = record {
  creator = codes "ltfs_server 1.0.0";
  comment = None;
  uuid = 0x30a91a08daae48d1ae7569804e61d2ea;
  generation = 1;
  updated = at;
  here = record { letter = 98; block = 5 };
  back = None;
  allow = true;
  policy = None;
  lock = None;
  highest = 1;
  nodes = root at ∷ [];
}

-- the same, which tells this lock state
abbrev pub index_under : Moment → LockState → Index
index_under at state = record (first_index at) { lock = told_lock state }

-- an empty volume as it is mounted
abbrev pub empty_volume : Moment → MountFacts
empty_volume at = record {
  label = record {
    creator = codes "ltfs_server 1.0.0";
    formatted = at;
    uuid = 0x30a91a08daae48d1ae7569804e61d2ea;
    location = 97;
    index = 97;
    dpart = 98;
    block = 4096;
    compression = false;
  };
  index = first_index at;
  newest = 1;
  ends = record { ip = 4; dp = 7 };
  last_dp = Some 5;
  ip_on = true;
  dp_done = true;
  ip_done = true;
}

-- a small volume with blocks of this size
abbrev pub small : ℕ → Rules
small block_size = record { limits = record { cap_ip = 64; cap_dp = 64 }; block_size = block_size }

abbrev pub empty_space : Space
empty_space = record {
  ends = record { ip = 4; dp = 7 };
  newest = 1;
  last_dp = Some 5;
  changed = false;
  flush_due = false;
  admitted = false;
}

-- what is left after these
abbrev pub after_asks : Rules → Bool → List Ask → Space
after_asks v on asks = fold (after v on) empty_space asks

-- so many bytes for the data partition
abbrev pub bytes_for_dp : ℕ → Ask
bytes_for_dp n = store false (replicate n 97)

abbrev pub for_ip : Ask
for_ip = store true (codes "abc")

abbrev pub short_index : Ask
short_index = index (codes "index")

abbrev pub places : List Op → List Place
places ops = map place_of ops

abbrev pub on_ip : ℕ → Place
on_ip n = record { part = Ip; pos = n }

abbrev pub on_dp : ℕ → Place
on_dp n = record { part = Dp; pos = n }
