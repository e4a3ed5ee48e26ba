-- What a crash may leave of a volume that is served, and what a close leaves.
use Rattle.std.specs.Prelude.{◌≡◌, ◌≤◌, ◌<◌, ◌-◌, ◌^◌, ℕ, List, Contains}
use Rattle.tape_types.specs.declared.cartridges.Cartridge.{Cartridge}
use Rattle.plain_tree.specs.Tree.{Tree}
use Rattle.cartridge_meaning.specs.Carried.{Carried}
use Rattle.cartridge_meaning.specs.declared.mounted.Mounted.{Mounted}
use Rattle.session_script.specs.declared.logs.Ack.{Ack}

-- What a cartridge stands for, and what is asked of it beside: it is said of the cartridge alone, by its volume's
-- labels, content, indexes and notes.
pub record Meaning : Type 1 where
  pub Mounts : Cartridge → Mounted → Type 0
  pub Reads : Cartridge → Carried → Tree → ℕ → Type 0
  pub Stands : Cartridge → Carried → Tree → ℕ → Type 0
  pub HasOneIndex : Cartridge → Type 0
  pub IsHonest : Cartridge → Type 0
  pub IsConsistent : Cartridge → Type 0
  pub HasNotes : Cartridge → Type 0
  pub AreAlike : Cartridge → Carried → Tree → ℕ → Type 0

-- Of a drive: what a crash may leave now, and what it may have left since a number of its commands.
pub record Leavings : Type 1 where
  pub now : Cartridge → Type 0
  pub since : ℕ → Cartridge → Type 0

module _ (m : Meaning) where
  open m use {Stands, HasOneIndex, IsHonest, IsConsistent, HasNotes}

  -- The cartridge stands for the tree after some count of placements, of at least so many and at most so many, with
  -- what is carried over.
  pub record StandsWithin (facts : Carried) (tree : ℕ → Tree) (least most : ℕ) (c : Cartridge) : Type 0 where
    pub count : ℕ
    pub not_before : least ≤ count
    pub not_after : count ≤ most
    pub generation : ℕ
    pub stands : Stands c facts (tree count) generation

  -- Its index partition has no index, or one alone, with which its front ends, and its notes are honest.
  pub record IsSound (c : Cartridge) : Type 0 where
    pub one_index : HasOneIndex c
    pub honest : IsHonest c

  -- Every image that a crash may have left since a number stands for the tree after some front of the history, and is
  -- sound; and every image that it may have left since an acknowledgement has all that was placed before the sync.
  pub record SurvivesCrashes (facts : Carried) (tree : ℕ → Tree) (placed : ℕ) (acks : List Ack) (leaves : Leavings)
      (start : ℕ) : Type 0 where
    pub always : (image : Cartridge) → leaves.since start image → StandsWithin facts tree 0 placed image
    pub sound : (image : Cartridge) → leaves.since start image → IsSound image
    pub acknowledged : (ack : Ack) → Contains acks ack → ack.command < 2 ^ 64 - 1 → (image : Cartridge)
        → leaves.since ack.command image → StandsWithin facts tree ack.place placed image

  -- After a close: the cartridge stands for the tree of the whole history, both partitions end with their last
  -- indexes, the notes say so, and a crash leaves it as it is.
  pub record IsClosed (facts : Carried) (tree : Tree) (generation : ℕ) (c : Cartridge)
      (leaves : Leavings) : Type 0 where
    pub stands : Stands c facts tree generation
    pub consistent : IsConsistent c
    pub notes : HasNotes c
    pub sure : (image : Cartridge) → leaves.now image → image ≡ c
