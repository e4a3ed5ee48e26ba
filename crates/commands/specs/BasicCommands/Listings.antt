-- The listing of what a cartridge stands for.
use Rattle.std.specs.Prelude.{◌≡◌, ℕ, Bool, List, ◌++◌, Option, Some, IfSome, codes}
use Rattle.tape_types.specs.declared.cartridges.Cartridge.{Cartridge}
use Rattle.tape_types.specs.declared.cartridges.Place.{Place}
use Rattle.index_model.specs.declared.indexes.Spot.{Spot}
use Rattle.plain_tree.specs.Tree.{Tree}
use Rattle.extent_map.specs.Cells.{Tape}
use Rattle.file_tree.specs.Tree.{plain_of}
use Rattle.cartridge_meaning.specs.Carried.{Carried}
use Rattle.cartridge_meaning.specs.Meaning.{Reads}
use Rattle.cartridge_meaning.specs.Mounts.{chosen_place}
use Rattle.cartridge_meaning.specs.Pointers.{letter_of}
use Rattle.tree_listing.specs.Listing.{first_lines, listing_text}
use Rattle.commands.specs.declared.basic_commands.lists.FoundTree.{FoundTree}

-- a tree, its generation, where the index of that generation stands, and whether all is told of the tree
pub record Listing : Type 0 where
  pub tree : Tree
  pub generation : ℕ
  pub spot : Spot
  pub all : Bool

-- a line for each node, in the order of the paths, and the line of the index; where all is told those of attributes and
-- of the lock state too
abbrev pub text_of_listing : Listing → List ℕ
text_of_listing l = listing_text l.all l.generation l.spot l.tree

-- so many of these lines of the tree from the front, and then that memory was refused
abbrev pub part_of_listing : ℕ → Listing → List ℕ
part_of_listing count l = first_lines l.all count l.tree ++ codes "memory\n"

-- The cartridge reads as this tree, of this generation; and there the chosen index stands, in the partition with that
-- letter.
pub record IsListingOf (c : Cartridge) (l : Listing) : Type 0 where
  pub facts : Carried
  pub reads : Reads c facts l.tree l.generation
  pub place : Place
  pub stands : chosen_place reads.found.on_ip reads.found.on_dp c ≡ Some place
  pub spot : l.spot ≡ record { letter = letter_of reads.found.labels.ip place.part; block = place.pos }

-- as much is told as was asked for, and where the drive told a cartridge, of what this stands for
pub record IsListingFor (all : Bool) (held : Option Cartridge) (l : Listing) : Type 0 where
  pub told : l.all ≡ all
  pub known : IfSome held (λ c. IsListingOf c l)

-- the listing of what was found, given what stands on tape
abbrev pub listing_of : (all : Bool) → Tape → FoundTree → Listing
listing_of all tape found =
    record { tree = plain_of tape found.tree; generation = found.generation; spot = found.spot; all = all }
