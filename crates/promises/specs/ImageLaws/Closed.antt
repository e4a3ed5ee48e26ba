-- A cartridge that was closed.
use Rattle.std.specs.Prelude.{ℕ, ◌+◌, ◌≡◌, ◌≢◌, List, [], ◌∷◌, ◌++◌, length, map, take, Some}
use Rattle.std.specs.List.{AllByRecursion, concat}
use Rattle.tape_types.specs.declared.cartridges.Cartridge.{Cartridge}
use Rattle.tape_types.specs.declared.cartridges.Item.{Item}
use Rattle.tape_types.specs.declared.cartridges.Item.TheVariants.{Block, Mark}
use Rattle.tape_types.specs.declared.cartridges.Part.{Part}
use Rattle.tape_types.specs.declared.cartridges.Part.TheVariants.{Ip}
use Rattle.tape_types.specs.Cartridges.{items_of}
use Rattle.index_model.specs.Grammar.{IndexText}
use Rattle.index_model.specs.declared.indexes.Index.{Index}
use Rattle.content_laws.specs.Readings.{HasForm}
use Rattle.content_laws.specs.Ends.{end_dp}
use Rattle.tape_layout.specs.declared.ops.Op.{Op}
use Rattle.tape_layout.specs.declared.ops.Op.TheVariants as ops
use Rattle.cartridge_meaning.specs.Labels.{HasLabels}
use Rattle.cartridge_meaning.specs.Meaning.{FitsNode}
use Rattle.cartridge_meaning.specs.Pointers.{IsLastOnDp, indexes_of, letter_of, newest_spot}
use Rattle.cartridge_meaning.specs.declared.labels.Labels.{Labels}
use Rattle.promises.specs.ImageLaws.Made.{Made, part_items}
use Rattle.promises.specs.ImageLaws.Plans.{IsReady}

-- The index partition ends with an index that was put there behind other items: it is of the volume, of the generation
-- of the data partition's last index, and points back to that one, which names only blocks before both ends. Nothing
-- is asked of what stands before it, nor of any crash.
pub record EndsWithClose (c : Cartridge) (l : Labels) (last index : Index) : Type 0 where
  pub has : HasLabels c l
  pub dp_form : HasForm c.dp
  pub dp_some : indexes_of c.dp ≢ []
  pub dp_reads : IsLastOnDp l.ip (indexes_of c.dp) (Some last)
  pub before : List Item
  pub ready : IsReady before
  pub blocks : List (List ℕ)
  pub some : blocks ≢ []
  pub ip : c.ip ≡ before ++ Mark ∷ [] ++ map Block blocks ++ Mark ∷ []
  pub reads : IndexText (concat blocks) index
  pub uuid : index.uuid ≡ l.ip.uuid
  pub here : index.here ≡ record { letter = letter_of l.ip Ip; block = length before + 1 }
  pub back : index.back ≡ newest_spot l.ip (indexes_of c.dp)
  pub generation : index.generation ≡ last.generation
  pub within : AllByRecursion (FitsNode l.ip (length before) (end_dp (indexes_of c.dp))) last.nodes

-- a partition of a cartridge ends where it was made to
abbrev pub IsExact : Part → Made → Cartridge → Type 0
IsExact part s c = items_of part c ≡ part_items part s

-- below its end it is what was made
abbrev pub Begins : Part → Made → Cartridge → Type 0
Begins part s c = take (length (part_items part s)) (items_of part c) ≡ part_items part s

-- an op puts an item on a partition
abbrev pub PutsOn : Part → Op → Type 0
PutsOn part (ops.Put place bytes) = place.part ≡ part
PutsOn part (ops.Mark place) = place.part ≡ part
PutsOn part (ops.Flush place) = ⊥
