-- What a cartridge stands for, as this crate's definitions take it.
use Rattle.std.specs.Prelude.{◌≡◌, ℕ}
use Rattle.tape_types.specs.declared.cartridges.Cartridge.{Cartridge}
use Rattle.cartridge_meaning.specs.Labels.{HasLabels}
use Rattle.cartridge_meaning.specs.Meaning as tape
use Rattle.cartridge_meaning.specs.Mounts as mounts
use Rattle.cartridge_meaning.specs.Notes.{AreNoted, IsHonest}
use Rattle.cartridge_meaning.specs.declared.labels.Labels.{Labels}
use Rattle.promises.specs.ImageLaws.Fine.{IsFine}
use Rattle.promises.specs.ImageLaws.Made.{Trees, Volume}
use Rattle.promises.specs.ServingPromise.Crash.{IsSound, Meaning, StandsWithin}

-- both notes are the cartridge's own, and tell of the last index of each partition
pub record HasNotes (c : Cartridge) : Type 0 where
  pub labels : Labels
  pub has : HasLabels c labels
  pub noted : AreNoted c labels.ip

-- the meaning of a cartridge of a volume
abbrev pub cartridges : Meaning
cartridges = record {
  Mounts = mounts.Mounts;
  Reads = tape.Reads;
  Stands = tape.Stands;
  HasOneIndex = tape.HasOneIndex;
  IsHonest = IsHonest;
  IsConsistent = tape.IsConsistent;
  HasNotes = HasNotes;
  AreAlike = tape.AreAlike;
}

-- A cartridge that is fine after a crash stands for the tree of a prefix of the history, and is sound.
abbrev pub FineCartridgesStand : Type 0
FineCartridgesStand = (v : Volume) (t : Trees) (from : ℕ) (c : Cartridge) → IsFine v t from c
    → StandsWithin cartridges v.facts t.nth from t.count c × IsSound cartridges c
