-- Volumes at their close, on which the definitions of a close are tried.
use Rattle.std.specs.Prelude.{◌≡◌, ◌^◌, ◌+◌, ℕ, Bool, false, [], Some, None}
use Rattle.tape_types.specs.declared.moments.Moment.{Moment}
use Rattle.plain_tree.specs.declared.calls.LockState.{LockState}
use Rattle.plain_tree.specs.declared.calls.LockState.TheVariants as locks
use Rattle.space_laws.specs.Trials.{index_under}
use Rattle.promises.specs.ServingPromise.Ends.{begun}
use Rattle.promises.specs.ServingPromise.Served.{Drive, View}
use Rattle.promises.specs.ServingPromise.Trials.{cartridge, mounted, with_a}
use Rattle.promises.specs.ServingPromise.Turning.{drive_at, view}

-- the last generation of all was mounted, and an index is due on the data partition
abbrev pub last_generation : Moment → View ℕ
last_generation at = with_last (view at 30 [] [] [] [] [] None)
  where
    with_last : View ℕ → View ℕ
    with_last v = record v
        { fixed = record v.fixed { mounted = record v.fixed.mounted { newest = 2 ^ 62; dp_done = false } } }

-- a volume of which nothing was asked, over a drive that tells a cartridge that a crash leaves as it is
abbrev pub untouched : Moment → View ℕ
untouched at = view at 30 [] [] [] [] [] None

-- the same, where the mounted index told this lock state, and the data partition ended with it or not
abbrev pub mounted_under : LockState → Bool → Moment → View ℕ
mounted_under state done at = by (untouched at)
  where
    by : View ℕ → View ℕ
    by v = record v
        { fixed = record v.fixed { mounted = record v.fixed.mounted { index = index_under at state; dp_done = done } } }

-- mounted as sealed, and with an index due on the data partition if it weren't
abbrev pub sealed : Moment → View ℕ
sealed at = mounted_under locks.PermLocked false at

abbrev pub telling : ℕ → Drive
telling vcr = record
    (drive_at 30 None) {
      held = Some (cartridge vcr);
      leavings = record { now = λ image. image ≡ cartridge vcr; since = λ t image. image ≡ cartridge vcr };
    }

-- the same, but a crash leaves another one
abbrev pub leaving_another : ℕ → Drive
leaving_another vcr = record (telling vcr) {
  leavings = record { now = λ image. image ≡ cartridge (vcr + 1); since = λ t image. image ≡ cartridge vcr };
}

-- a volume with no script that has just begun, with one moment of its clock
abbrev pub just_begun : Moment → ℕ → View ℕ
just_begun at drive = begun
    (record { script = []; tree = with_a at []; mounted = mounted at; first = drive; moment = Some at; since = 0 })
    (Some at)
