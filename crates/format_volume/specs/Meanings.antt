-- What a cartridge stands for once it was formatted (LTFS 2.4 on consistency and on volume coherency information).
use Rattle.std.specs.Prelude.{true, None}
use Rattle.tape_types.specs.declared.cartridges.Cartridge.{Cartridge}
use Rattle.tape_types.specs.declared.cartridges.Part.TheVariants.{Ip, Dp}
use Rattle.plain_tree.specs.Tree.{empty_tree}
use Rattle.cartridge_meaning.specs.Carried.{Carried}
use Rattle.cartridge_meaning.specs.Labels.{HasLabels}
use Rattle.cartridge_meaning.specs.Meaning.{AreAlike, HasOneIndex, IsConsistent, Stands}
use Rattle.cartridge_meaning.specs.Notes.{IsCoherent, IsHonest}
use Rattle.cartridge_meaning.specs.declared.labels.Labels.{Labels}
use Rattle.format_volume.specs.declared.requests.FormatSpec.{FormatSpec}
use Rattle.format_volume.specs.Volumes.{label_on, record_for}

-- the records and labels of the volume
abbrev pub labels_for : FormatSpec → Labels
labels_for spec = record {
  ip_record = record_for spec;
  ip = label_on Ip spec;
  dp_record = record_for spec;
  dp = label_on Dp spec;
}

-- what each later index takes over: the name and the policy that were asked for, and that the policy may be changed
abbrev pub carried_for : FormatSpec → Carried
carried_for spec = record { root = spec.name; comment = None; allow = true; policy = spec.policy }

-- The cartridge stands for the empty tree, with the name and the policy that were asked for, as its first generation,
-- by the indexes of both partitions alike. Each partition ends with its index, that of the index partition is the only
-- one there, and both notes tell of the last indexes.
pub record IsEmptyVolume (spec : FormatSpec) (c : Cartridge) : Type 0 where
  pub labels : HasLabels c (labels_for spec)
  pub stands : Stands c (carried_for spec) (empty_tree spec.at) 1
  pub alike : AreAlike c (carried_for spec) (empty_tree spec.at) 1
  pub consistent : IsConsistent c
  pub one_index : HasOneIndex c
  pub coherent : IsCoherent c
  pub honest : IsHonest c
