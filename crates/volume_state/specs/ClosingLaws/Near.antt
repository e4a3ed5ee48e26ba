-- That the index of a close can be told.
use Rattle.std.specs.Prelude.{◌≡◌, ◌≤◌, Bool, false}
use Rattle.tape_types.specs.Cartridges.{IsLimits}
use Rattle.tape_types.specs.declared.cartridges.Limits.{Limits}
use Rattle.tape_types.specs.declared.moments.Moment.{Moment}
use Rattle.tape_drive.specs.declared.drive.Drive.{Ghosts}
use Rattle.cartridge_meaning.specs.Mounts.{IsMount}
use Rattle.cartridge_meaning.specs.declared.mounted.Mounted.{Mounted}
use Rattle.space_laws.specs.Closing.{close_ask}
use Rattle.space_laws.specs.Space.{after, is_over}
use Rattle.space_laws.specs.Standing.{Given, Standing, rules}
use Rattle.held_volume.specs.Synced.{IsMounted}
use Rattle.promises.specs.ServingPromise.Served.{View}
use Rattle.promises.specs.CrashLaws.Safe.{seen_by}
use Rattle.promises.specs.ReplyLaws.Sides.{standing_here}
use Rattle.promises.specs.ReplyLaws.Within.{StaysTrue}
use Rattle.volume_state.specs.ClosingLaws.Closing.{CanTellClose, IsNear}

-- At the end of the history of a volume that stays true the generation is that of an index, and the last index is near.
-- So it is once a close has admitted its index on the data partition, where that fits. With ends within the capacities
-- the index of the index partition can be told.
pub record ClosesCanTell {D : Type 0} (drive : Ghosts D) : Type 0 where
  pub near : (first : D) (v : View D) → IsLimits (drive.limits first) → IsMount (drive.limits first) v.fixed.mounted
      → StaysTrue (seen_by drive first) v → IsNear (standing_here (seen_by drive first) v).space
  pub kept : (g : Given) (on : Bool) (st : Standing) (at : Moment) → IsLimits g.limits
      → is_over (rules g) on st.space (close_ask g st at) ≡ false → IsNear st.space
      → IsNear (after (rules g) on st.space (close_ask g st at))
  pub tells : (limits : Limits) (m : Mounted) (g : Given) (st : Standing) → IsMounted limits m g → IsNear st.space
      → st.space.ends.ip ≤ g.limits.cap_ip → st.space.ends.dp ≤ g.limits.cap_dp → CanTellClose g st
