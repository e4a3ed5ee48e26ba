-- How a volume begins to be served.
use Rattle.std.specs.Prelude.{ℕ, ◌≡◌, ◌≤◌, nat_lt, if◌then◌else◌, List, [], ◌∷◌, take, Option, Some, None}
use Rattle.tape_types.specs.declared.cartridges.Cartridge.{Cartridge}
use Rattle.plain_tree.specs.Tree.{Tree}
use Rattle.index_model.specs.declared.indexes.Index.{Index}
use Rattle.cartridge_meaning.specs.Labels.{HasLabels}
use Rattle.cartridge_meaning.specs.Meaning.{HasOneIndex, Stands, dp_end, ip_end}
use Rattle.cartridge_meaning.specs.Notes.{IsHonest}
use Rattle.cartridge_meaning.specs.Pointers.{indexes_of, last_block}
use Rattle.space_laws.specs.Space.{Space}
use Rattle.promises.specs.ImageLaws.Kept.{Moment}
use Rattle.promises.specs.ImageLaws.Made.{CoveredIndex, Made, Trees, Volume}

-- nothing was placed yet
abbrev pub begun_with : Tree → Trees
begun_with tree = record { nth = λ k. tree; count = 0 }

-- covers no placement
abbrev pub first_entry : Index → CoveredIndex
first_entry index = record { index = index; place = 0 }

-- the index of the index partition, where it is newer than the one of the data partition
abbrev pub ahead_of : Option Index → Index → Option CoveredIndex
ahead_of None on_dp = None
ahead_of (Some on_ip) on_dp = if nat_lt on_dp.generation on_ip.generation then Some (first_entry on_ip) else None

-- what stands on a cartridge below its ends
abbrev pub made_of : Cartridge → Option Index → Index → Made
made_of c on_ip on_dp = record {
  ip = take (ip_end c) c.ip;
  dp = take (dp_end c) c.dp;
  last = first_entry on_dp;
  base = record {
    sure = ip_end c;
    indexes = indexes_of c.dp;
    floor = first_entry on_dp;
    ahead = ahead_of on_ip on_dp;
  };
}

-- The premises: the cartridge has the volume's labels and stands for a tree, its index partition has one index at
-- most, its notes are honest, and nothing is pending since a number of commands that the drive had reached.
pub record CanStart (v : Volume) (d : Moment) (since : ℕ) (tree : Tree) (generation : ℕ) : Type 0 where
  pub stands : Stands d.held v.facts tree generation
  pub labels : HasLabels d.held v.labels
  pub one : HasOneIndex d.held
  pub honest : IsHonest d.held
  pub reached : since ≤ d.commands
  pub pending : (c : Cartridge) → d.left since c → c ≡ d.held
  pub now : (c : Cartridge) → d.leaves c → c ≡ d.held

-- the space of a volume when it was mounted
pub record IsFirstSpace (c : Cartridge) (generation : ℕ) (space : Space) : Type 0 where
  pub end_ip : space.ends.ip ≡ ip_end c
  pub end_dp : space.ends.dp ≡ dp_end c
  pub newest : space.newest ≡ generation
  pub last_dp : space.last_dp ≡ last_block (indexes_of c.dp)
