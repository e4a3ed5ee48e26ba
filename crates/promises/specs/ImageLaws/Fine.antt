-- What a crash may leave stands for.
use Rattle.std.specs.Prelude.{ℕ, ◌≤◌, ◌≡◌}
use Rattle.tape_types.specs.declared.cartridges.Cartridge.{Cartridge}
use Rattle.cartridge_meaning.specs.Labels.{HasLabels}
use Rattle.cartridge_meaning.specs.Meaning.{HasOneIndex, Stands}
use Rattle.cartridge_meaning.specs.Notes.{IsHonest}
use Rattle.promises.specs.ImageLaws.Made.{Trees, Volume}

-- The cartridge stands for the tree of a prefix of the history, of so many placements at least, with the volume's
-- labels and what its indexes carry over; its index partition has no index, or one alone with which its front ends;
-- and its notes are honest. So it can be mounted and served again.
pub record IsFine (v : Volume) (t : Trees) (from : ℕ) (c : Cartridge) : Type 0 where
  pub place : ℕ
  pub low : from ≤ place
  pub high : place ≤ t.count
  pub generation : ℕ
  pub stands : Stands c v.facts (t.nth place) generation
  pub labels : HasLabels c v.labels
  pub one : HasOneIndex c
  pub honest : IsHonest c

-- the tree stays the same from one place of the history up to another
abbrev pub IsSame : Trees → (from to : ℕ) → Type 0
IsSame t from to = (j : ℕ) → from ≤ j → j ≤ to → t.nth j ≡ t.nth to

-- a history goes on
pub record GoesOn (old new : Trees) : Type 0 where
  pub longer : old.count ≤ new.count
  pub same : (k : ℕ) → k ≤ old.count → new.nth k ≡ old.nth k
