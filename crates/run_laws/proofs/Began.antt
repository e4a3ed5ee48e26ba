-- What a drive told as a run began it tells as its volume begins: it was only looked at between.
use Rattle.std.specs.Prelude.{◌≡◌, ◌≤◌, ℕ, Some}
use Rattle.std.proofs.Common.{sym, subst, ◌∙◌, arith}
use Rattle.tape_types.specs.declared.cartridges.Cartridge.{Cartridge}
use Rattle.plain_tree.specs.Tree.{Tree}
use Rattle.tape_drive.specs.Looks.{Looks}
use Rattle.tape_drive.specs.declared.drive.Drive.{Ghosts}
use Rattle.cartridge_meaning.specs.Carried.{Carried, carried}
use Rattle.cartridge_meaning.specs.Meaning.{Reads, Stands}
use Rattle.cartridge_meaning.specs.Mounts.{Mounts}
use Rattle.cartridge_meaning.specs.declared.mounted.Mounted.{Mounted}
use Rattle.cartridge_meaning.proofs.OneMount.{mounted_once}
use Rattle.cartridge_meaning.proofs.OneWay.{same_facts, same_tree}
use Rattle.promises.specs.ServingPromise.Crash.{IsSound}
use Rattle.promises.specs.ServingPromise.Meanings.{cartridges}
use Rattle.promises.specs.ServingPromise.Served.{CanTell}
use Rattle.promises.specs.OrderLaws.Kept.{seen}

-- the cartridge reads as this tree, and this is found of it
abbrev pub ReadsAs : Mounted → Tree → Cartridge → Type 0
ReadsAs mounted tree c = Reads c (carried mounted.index) tree mounted.newest

-- a cartridge that mounts so and reads as this tree
abbrev pub IsFound : Mounted → Tree → Cartridge → Type 0
IsFound mounted tree c = ReadsAs mounted tree c × Mounts c mounted

-- it stands for this tree, and is sound
abbrev pub StandsSound : Carried → Tree → ℕ → Cartridge → Type 0
StandsSound facts tree generation c = Stands c facts tree generation × IsSound cartridges c

module _ {D : Type 0} (drive : Ghosts D) (most : ℕ) (start first : D) (looked : Looks drive most start first)
    (since : ℕ) (since_is : since ≡ drive.commands start) where
  still_told : (P Q : Cartridge → Type 0) → ((c : Cartridge) → drive.held first ≡ Some c → P c → Q c)
      → CanTell P (drive.commands start) (seen drive start) → CanTell Q since (seen drive first)
  still_told P Q follows can = record {
    held = can.held;
    told = looked.held ∙ can.told;
    reads_as = follows can.held (looked.held ∙ can.told) can.reads_as;
    reached = subst (λ n. n ≤ drive.commands first) (sym since_is) looked.reads.later;
    sure = λ image left.
        can.sure image (looked.reads.since (drive.commands start) image (omega arith)
        (subst (λ n. drive.left_since first n image) since_is left));
  }

  module _ (mounted : Mounted) (tree : Tree)
      (found : (c : Cartridge) → drive.held first ≡ Some c → Mounts c mounted × ReadsAs mounted tree c) where
    -- what was found of the cartridge that the drive told then is what was mounted
    pub same_mounted : (other : Mounted) (read : Tree)
        → CanTell (IsFound other read) (drive.commands start) (seen drive start) → other ≡ mounted
    same_mounted other read can =
        mounted_once can.held other mounted can.reads_as.1 (found can.held (looked.held ∙ can.told)).0

    -- the tree as which the drive's cartridge reads is the one that the volume began with
    pub same_read : (other : Mounted) (read : Tree)
        → CanTell (IsFound other read) (drive.commands start) (seen drive start) → read ≡ tree
    same_read other read can =
        same_tree can.held (carried other.index) (carried mounted.index) read tree other.newest mounted.newest
        can.reads_as.0 (found can.held (looked.held ∙ can.told)).1

    -- what a drive told as the run began it tells as the volume begins
    pub told_read : (other : Mounted) (read : Tree)
        → CanTell (IsFound other read) (drive.commands start) (seen drive start)
        → CanTell (ReadsAs mounted tree) since (seen drive first)
    told_read other read can =
        still_told (IsFound other read) (ReadsAs mounted tree) (λ c told is. (found c told).1) can

    -- so is what it stood for
    pub same_stood_facts : (facts : Carried) (stood : Tree) (generation : ℕ)
        → CanTell (StandsSound facts stood generation) (drive.commands start) (seen drive start)
        → facts ≡ carried mounted.index
    same_stood_facts facts stood generation can =
        same_facts can.held facts (carried mounted.index) stood tree generation mounted.newest can.reads_as.0.reads
        (found can.held (looked.held ∙ can.told)).1

    -- the tree for which the drive's cartridge stands is the one that the volume began with
    pub same_stood : (facts : Carried) (stood : Tree) (generation : ℕ)
        → CanTell (StandsSound facts stood generation) (drive.commands start) (seen drive start) → stood ≡ tree
    same_stood facts stood generation can =
        same_tree can.held facts (carried mounted.index) stood tree generation mounted.newest can.reads_as.0.reads
        (found can.held (looked.held ∙ can.told)).1

    -- what a drive's cartridge stood for as the run began it stands for as the volume begins
    pub told_stood : (facts : Carried) (stood : Tree) (generation : ℕ)
        → CanTell (StandsSound facts stood generation) (drive.commands start) (seen drive start)
        → CanTell (StandsSound (carried mounted.index) tree mounted.newest) since (seen drive first)
    told_stood facts stood generation can =
        still_told (StandsSound facts stood generation) (StandsSound (carried mounted.index) tree mounted.newest)
        (λ c told is. (record { reads = (found c told).1; has_index = is.0.has_index }, is.1)) can
