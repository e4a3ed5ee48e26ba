-- Each disk that may have been left opens.
use Rattle.std.proofs.Common.{◌≡◌, ℕ, ◌≤◌, inl, refl, subst}
use Rattle.byte_disk.specs.Files.{Files}
use Rattle.byte_disk.specs.declared.disk.ByteDisk.{Ghosts}
use Rattle.image_tape.specs.Laws.{ImagesOpen}
use Rattle.image_tape.specs.Tape.{IsKept, View}
use Rattle.image_tape.proofs.Upkeep.{image_opens}

-- the law holds of every tape, by the disk's own law of greater numbers
pub opens_always : {D : Type 0} (disk : Ghosts D) (v w : View D) → v ≡ w → IsKept disk v
    → ((t u : ℕ) (image : Files) → t ≤ u → disk.left_since v.slots.disk u image → disk.left_since v.slots.disk t image) → ImagesOpen disk w
opens_always {D = D} disk v w is kept lower = subst (λ (x : View D). ImagesOpen disk x) is (record {
  reached = kept.reached;
  since = λ d told t later short image left.
      let o = kept.always d told short image (lower v.opened t image later left) in (o.0, o.1, inl (image, left, o.1, (d, told)));
  now = λ d told image left.
      let o = image_opens v.doubt v (disk.leaves v.slots.disk) d (kept.tells d told) image left in (o.0, o.1, (o.0, (image, left, o.1, (d, told)), inl refl));
})
