-- What a crash may leave in a locate and a write behind it.
use Rattle.std.proofs.Common.{ℕ, ◌≤◌, ◌≡◌, ◌∙◌, inl, refl, sym, subst, Some}
use Rattle.tape_types.specs.declared.cartridges.Cartridge.{Cartridge}
use Rattle.tape_types.specs.declared.cartridges.Item.{Item}
use Rattle.tape_types.specs.declared.cartridges.Part.{Part}
use Rattle.tape_types.specs.declared.cartridges.Place.{Place}
use Rattle.crash_steps.proofs.Joined.{alone, behind_looks}
use Rattle.tape_drive.specs.Crashes.{Crashes, LeavesAllowed, NothingNew, WithinWrite}
use Rattle.tape_drive.specs.declared.drive.Drive.{Ghosts}

-- within a write all may be as it could be before
pub write_unseen : (part : Part) (pos : ℕ) (x : Item) (held image : Cartridge) → WithinWrite part pos x held image image
write_unseen part pos x held image =
    record { items = inl (refl, inl refl); rest = record { other_part = refl; note_ip = refl; note_dp = refl } }

module _ {D : Type 0} (drive : Ghosts D) where
  -- what a crash may leave of a drive after a locate and a write
  pub put_crashes : (at : Place) (x : Item) (a b c : D) → drive.held b ≡ drive.held a → drive.head b ≡ Some at
      → drive.commands a ≤ drive.commands b
      → Crashes NothingNew (drive.commands a) (drive.leaves a) (drive.leaves b) (drive.left_since a) (drive.left_since b)
      → ((there : Place) (held : Cartridge) → drive.head b ≡ Some there → drive.held b ≡ Some held
      → Crashes (WithinWrite there.part there.pos x held) (drive.commands b) (drive.leaves b) (drive.leaves c)
      (drive.left_since b) (drive.left_since c))
      → (held : Cartridge) → drive.held a ≡ Some held
      → Crashes (WithinWrite at.part at.pos x held) (drive.commands a) (drive.leaves a) (drive.leaves c)
      (drive.left_since a) (drive.left_since c)
  put_crashes at x a b c same head le first second held is =
      behind_looks (write_unseen at.part at.pos x held) le first (second at held head (same ∙ is))

  -- the locate alone
  pub lost_crashes : (at : Place) (x : Item) (a b : D)
      → Crashes NothingNew (drive.commands a) (drive.leaves a) (drive.leaves b) (drive.left_since a) (drive.left_since b)
      → (held : Cartridge) → drive.held a ≡ Some held
      → Crashes (WithinWrite at.part at.pos x held) (drive.commands a) (drive.leaves a) (drive.leaves b)
      (drive.left_since a) (drive.left_since b)
  lost_crashes at x a b first held is = alone (write_unseen at.part at.pos x held) first

-- a command that comes after one that leaves nothing new needs no more to be allowed than it did before that one
pub allowed_then : (step : Cartridge → Cartridge → Type 0) (m : ℕ) (l0 l1 allows : Cartridge → Type 0)
    (s0 s1 : ℕ → Cartridge → Type 0) → Crashes NothingNew m l0 l1 s0 s1 → LeavesAllowed step l0 allows
    → LeavesAllowed step l1 allows
allowed_then step m l0 l1 allows s0 s1 first may before image left within =
    let d = first.now before left in may before image (subst l0 (sym d.2) d.1) within
