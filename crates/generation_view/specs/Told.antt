-- What is told of a chain.
use Rattle.std.specs.Prelude.{ℕ, ◌≡◌, ◌≤◌, List, [], ◌∷◌, length, map, reverse, Option, None, Result, IfErr}
use Rattle.tape_types.specs.Counts.{Rose}
use Rattle.tape_types.specs.declared.cartridges.Cartridge.{Cartridge}
use Rattle.tape_types.specs.declared.cartridges.Part.TheVariants.{Dp}
use Rattle.index_model.specs.declared.indexes.Index.{Index}
use Rattle.content_laws.specs.Readings as readings
use Rattle.content_laws.specs.Readings.{HasForm, first_of, front}
use Rattle.cartridge_meaning.specs.Faults.{MountFault}
use Rattle.cartridge_meaning.specs.Meaning.{Found, ip_end}
use Rattle.cartridge_meaning.specs.Pointers.{indexes_of}
use Rattle.volume_scan.specs.declared.content.Construct.{Construct}
use Rattle.volume_scan.specs.Scans.{places_of}
use Rattle.cartridge_meaning.specs.declared.errors.MountErr.{MountErr}
use Rattle.cartridge_meaning.specs.declared.errors.MountErr.TheVariants as mount_errors
use Rattle.ltfs_label.specs.declared.Label.{Label}
use Rattle.generation_view.specs.Chain.{AreLinks, IsBrokenBehind, IsChain, behind, last_generation}
use Rattle.generation_view.specs.declared.errors.ViewErr.{ViewErr}
use Rattle.generation_view.specs.declared.errors.ViewErr.TheVariants as errors
use Rattle.generation_view.specs.declared.telling.Generation.{Generation}
use Rattle.generation_view.specs.declared.telling.Walked.{Walked}
use Rattle.generation_view.specs.declared.telling.Walked.TheVariants as walks

-- what is told of the index of a construct
abbrev pub generation_of : readings.Construct → Index → Generation
generation_of k index =
    record { number = index.generation; block = first_of k; updated = index.updated; nodes = length index.nodes }

-- what is told of the first of these constructs, which read as these
abbrev pub told_of : List readings.Construct → List Index → List Generation
told_of ks [] = []
told_of [] (index ∷ more) = []
told_of (k ∷ older) (index ∷ more) = generation_of k index ∷ told_of older more

-- the whole chain is told, the newest first
pub record TellsChain (told : List Generation) (c : Cartridge) : Type 0 where
  pub found : Found c
  pub links : List Index
  pub chain : IsChain c found links
  pub told_is : told ≡ told_of (indexes_of c.dp) links

-- what a walk along a chain tells of it
abbrev pub TellsWalk : (c : Cartridge) → Found c → Walked → Type 0
TellsWalk c found (walks.Whole told) =
    (links : List Index) × IsChain c found links × (told ≡ told_of (indexes_of c.dp) links)
TellsWalk c found (walks.Broken block why) = (newer : List Index) × IsBrokenBehind c found newer block why

-- Why no chain is told: the cartridge doesn't mount, or its chain breaks. A failed drive and refused memory tell
-- nothing of it.
abbrev pub RefusesChain : ViewErr → Cartridge → Type 0
RefusesChain (errors.Mount e) c = MountFault c e
RefusesChain (errors.Broken place why) c =
    (place.part ≡ Dp) × ((found : Found c) × (newer : List Index) × IsBrokenBehind c found newer place.pos why)
RefusesChain (errors.NoGeneration generation) c = ⊥
RefusesChain (errors.Drive counts) c = Unit {0}
RefusesChain errors.NoMemory c = Unit {0}

-- what a mount's refusal is here
abbrev pub refusal : MountErr → ViewErr
refusal (mount_errors.Drive counts) = errors.Drive counts
refusal mount_errors.NoMemory = errors.NoMemory
refusal e = errors.Mount e

-- a check, and no failed drive or want of memory
abbrev pub IsCheck : MountErr → Type 0
IsCheck (mount_errors.Drive counts) = ⊥
IsCheck mount_errors.NoMemory = ⊥
IsCheck e = Unit {0}

-- a failed drive is told by its counts of faults, and only where the count rose; it is never told as a check
abbrev pub AreCounts : (before now : ℕ) → ViewErr → Type 0
AreCounts before now (errors.Mount e) = IsCheck e
AreCounts before now (errors.Drive counts) = (counts.before ≡ before) × (counts.after ≡ now) × Rose before now
AreCounts before now e = Unit {0}

-- the count never falls, and the counts that an error tells are these
pub record HasCounts {T : Type 0} (before now : ℕ) (result : Result T ViewErr) : Type 0 where
  pub later : before ≤ now
  pub told : IfErr result (AreCounts before now)

-- what is told of an index with this first block
abbrev pub IsToldOf : ℕ → Index → Generation → Type 0
IsToldOf block index told = told ≡ record {
  number = index.generation;
  block = block;
  updated = index.updated;
  nodes = length index.nodes;
}

-- what is known of a data partition where a walk begins: where its indexes stand, the oldest first, and the index
-- partition's end
pub record AreKnown (end_ip : ℕ) (places : List Construct) (c : Cartridge) : Type 0 where
  pub form : HasForm c.dp
  pub long : 4 ≤ length (front c.dp)
  pub places_are : places ≡ map places_of (reverse (indexes_of c.dp))
  pub end_is : end_ip ≡ ip_end c

-- how far a walk has come: behind these links, of which this holds
pub record HasCome (label : Label) (c : Cartridge) (left : List Construct) (after : Option ℕ) (So : List Index → Type 0)
    : Type 0 where
  pub done : List Index
  pub links_are : AreLinks label c None (indexes_of c.dp) done
  pub left_are : left ≡ map places_of (reverse (behind (indexes_of c.dp) done))
  pub after_is : after ≡ last_generation None done
  pub so : So done
