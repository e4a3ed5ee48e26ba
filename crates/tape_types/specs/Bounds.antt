-- The limits of a volume, each said once. LTFS 2.4 sets the longest name; the others are ours.
use Rattle.std.specs.Prelude.{ℕ, ◌^◌}

-- a volume has at most so many nodes, its root among them (ours)
abbrev pub most_nodes : ℕ
most_nodes = 65536

-- a file has at most so many bytes (ours)
abbrev pub longest_file : ℕ
longest_file = 2 ^ 40

-- a name has at most so many characters (LTFS 2.4), and so has a key of an attribute, and a pattern of a policy
abbrev pub longest_name : ℕ
longest_name = 255

-- a partition has at most so many positions (ours)
abbrev pub most_positions : ℕ
most_positions = 2 ^ 40
