-- A disk that tells nothing may leave to a crash what it could leave before.
use Rattle.std.proofs.Common.{ℕ, ◌+◌, ◌≤◌, ◌≡◌, max, List, length, refl, inl, inr, rules}
use Rattle.crash_steps.specs.Crashes.{Crashes}
use Rattle.byte_disk.specs.declared.disk.File.{File}
use Rattle.byte_disk.specs.declared.disk.File.TheVariants.{Ip, Dp, Cm}
use Rattle.byte_disk.specs.Files.{Files, bytes_of, IsAnyIn, IsBroken, KeepsOthers}
use Rattle.byte_disk.specs.Commands.{WithinWrite}

others_stay : (file : File) (d : Files) → KeepsOthers file d d
others_stay Ip d = (refl, refl)
others_stay Dp d = (refl, refl)
others_stay Cm d = (refl, refl)

all_stay : (at n : ℕ) (bytes : List ℕ) → IsAnyIn at n bytes bytes
all_stay at n bytes = record {
  outside = λ i low away. refl;
  no_shorter = search rules;
  no_longer = search rules;
  each = λ i low. inr (low, refl);
}

stays : (file : File) (at n : ℕ) (d : Files) → IsBroken file at n d d
stays file at n d = record { others = others_stay file d; any = all_stay at n (bytes_of file d) }

-- where nothing is told, a write adds nothing to what a crash may leave
pub writes_add_nothing : (file : File) (at n count : ℕ) → Crashes (WithinWrite file at n) count (λ d. Unit {0})
    (λ d. Unit {0}) (λ t d. Unit {0}) (λ t d. Unit {0})
writes_add_nothing file at n count = record {
  now = λ image left. (image, left, stays file at n image);
  since = λ t image le left. inl left;
  kept = λ t image le left. left;
}
