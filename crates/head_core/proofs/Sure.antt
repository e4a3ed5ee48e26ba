-- What is sure stays sure.
use Rattle.std.proofs.Common.{ℕ, ◌-◌, ◌^◌, ◌≤◌, ◌<◌, ◌≡◌, ◌∙◌, ⊎_elim, Option, Some, refl, sym, subst}
use Rattle.tape_types.specs.declared.cartridges.Cartridge.{Cartridge}
use Rattle.tape_drive.specs.Crashes.{IsSure}
use Rattle.tape_drive.specs.declared.drive.Drive.{Ghosts}
use Rattle.head_core.specs.Laws.{FlushesMakeSure, FrontsStaySure}
use Rattle.head_core.specs.Steps.{WithinOp}
use Rattle.head_core.proofs.Fronts.{crashes_keep}

module _ {D : Type 0} (drive : Ghosts D) where
  -- where since the present number there is no other moment than now
  pub flushed : ((d : D) (image : Cartridge) → drive.commands d < 2 ^ 64 - 1
      → drive.left_since d (drive.commands d) image → drive.leaves d image) → FlushesMakeSure drive
  flushed only_now at old new c image step is short left =
      let now = step.told c is in
      let sure : IsSure (Some c) (drive.leaves new) =
      subst (λ (h : Option Cartridge). IsSure h (drive.leaves new)) (now.1 ∙ sym (told_same now.0 c now.2)) step.made.sure in
      sure image (only_now new image short left)
    where
      told_same : (d c : Cartridge) → d ≡ c → Some c ≡ Some d
      told_same d c e = subst (λ (x : Cartridge). Some c ≡ Some x) (sym e) refl

  -- where now is one of the moments since each number that was reached
  pub kept : ((d : D) (t : ℕ) (image : Cartridge) → t ≤ drive.commands d → drive.leaves d image
      → drive.left_since d t image) → FrontsStaySure drive
  kept counts_now o end old new c t step is within reached sure image left = ⊎_elim
      (λ (past : drive.left_since old t image). sure image past)
      (λ (was : (before : Cartridge) × drive.leaves old before × WithinOp o c before image).
      crashes_keep.front o c was.0 image within was.2 (sure was.0 (counts_now old t was.0 reached was.1)))
      ((step.crash c is).since t image reached left)
