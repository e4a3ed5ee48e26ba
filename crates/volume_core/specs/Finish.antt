-- How a volume is closed: what its close admits, and how it ends.
use Rattle.std.specs.Prelude.{ℕ, ◌≡◌, ◌+◌, ◌||◌, Bool, true, false, not, Result, Ok, Err}
use Rattle.tape_types.specs.declared.cartridges.Twin.{Twin}
use Rattle.tape_types.specs.declared.moments.Moment.{Moment}
use Rattle.tape_drive.specs.declared.drive.Drive.{Ghosts}
use Rattle.extent_map.specs.Cells.{Tape}
use Rattle.space_laws.specs.Closing.{is_ip_due}
use Rattle.space_laws.specs.Standing.{Given, Standing}
use Rattle.held_volume.specs.Closed.{IsDpDone, IsDpFull, IsIpDone, IsIpFull, closed_dp}
use Rattle.held_volume.specs.Stocks.{IsStock, Stocked}
use Rattle.promises.specs.declared.serving_promise.answers.CloseEnd.{CloseEnd}
use Rattle.promises.specs.declared.serving_promise.answers.CloseEnd.TheVariants as ends
use Rattle.volume_core.specs.Commands.{AreOpsDone, EndsWith, Lasts}

-- the index that is due on the data partition was admitted, if one is
abbrev pub AdmitsOnDp : Moment → Stocked → Stocked → Type 0
AdmitsOnDp at old new = (early : Tape) (g : Given) (on : Bool) (st : Standing) → IsStock early g on st old
    → IsDpDone early g on st at old new

-- it needs more than there is
abbrev pub IsShortOnDp : Moment → Stocked → ℕ → ℕ → Type 0
IsShortOnDp at old need limit = (early : Tape) (g : Given) (on : Bool) (st : Standing) → IsStock early g on st old
    → IsDpFull g on st at need limit

-- behind it one is due on the index partition, and was admitted; or none is due
abbrev pub IsAdmittedOnIp : Given → Standing → Moment → Stocked → Stocked → Bool → Type 0
IsAdmittedOnIp g st at old new true = (is_ip_due g st.space ≡ true) × IsIpDone g st at old new
IsAdmittedOnIp g st at old new false = (is_ip_due g st.space ≡ false) × (new ≡ old)

abbrev pub AdmitsOnIp : Moment → (first old new : Stocked) → Bool → Type 0
AdmitsOnIp at first old new due = (early : Tape) (g : Given) (on : Bool) (st : Standing) → IsStock early g on st first
    → IsAdmittedOnIp g (closed_dp g on st at) at old new due

-- the one that is due there needs more than there is
abbrev pub IsShortOnIp : Moment → Stocked → ℕ → ℕ → Type 0
IsShortOnIp at first need limit = (early : Tape) (g : Given) (on : Bool) (st : Standing) → IsStock early g on st first
    → (is_ip_due g (closed_dp g on st at).space ≡ true) × IsIpFull g (closed_dp g on st at) at need limit

-- what the notes tell once the index of the data partition was admitted: that of the index partition goes to its end
abbrev pub lasts_of : Stocked → Lasts
lasts_of s = record {
  uuid = s.frame.label.uuid;
  generation = s.frame.generation;
  on_ip = s.layout.ends.ip + 1;
  on_dp = s.frame.last_dp;
}

-- a close ends so, where its commands did
abbrev pub close_end : ℕ → Result Unit Twin → CloseEnd
close_end generation (Ok done) = ends.Done generation
close_end generation (Err counts) = ends.Fault counts

abbrev pub short_end : (need limit : ℕ) → Result Unit Twin → CloseEnd
short_end need limit (Ok done) = ends.Full need limit
short_end need limit (Err counts) = ends.Fault counts

-- A close at a moment, of what is held, over a drive, of a volume that wasn't mounted as sealed. Without memory, and
-- without room on the data partition, no command is made. Without room on the index partition the ops are done that
-- stand then. Else all ops are done, and the notes come where an index went to the index partition or they weren't right
-- at the mount.
pub data FinishesOpen {D : Type 0} (drive : Ghosts D) (noted : Bool) (at : Moment) (held : Stocked) (old : D)
    : D → CloseEnd → Type 0 where
  no_memory : FinishesOpen drive noted at held old old ends.NoMemory
  short_on_dp : (need limit : ℕ) → IsShortOnDp at held need limit
      → FinishesOpen drive noted at held old old (ends.Full need limit)
  short_on_ip : (need limit : ℕ) (mid : Stocked) (new : D) (result : Result Unit Twin) → AdmitsOnDp at held mid
      → IsShortOnIp at held need limit → AreOpsDone drive mid.layout.ops old new result
      → FinishesOpen drive noted at held old new (short_end need limit result)
  went : (mid last : Stocked) (due : Bool) (new : D) (result : Result Unit Twin) → AdmitsOnDp at held mid
      → AdmitsOnIp at held mid last due
      → EndsWith drive last.layout.ops (lasts_of mid) (due || not noted) old new result
      → FinishesOpen drive noted at held old new (close_end mid.frame.generation result)

-- where it was mounted as sealed the close is done, with the generation that is held, and makes no command
pub data Finishes {D : Type 0} (drive : Ghosts D) (noted : Bool) (at : Moment) (held : Stocked) (old : D)
    : D → CloseEnd → Type 0 where
  sealed : held.frame.sealed ≡ true → Finishes drive noted at held old old (ends.Done held.frame.generation)
  unsealed : (new : D) (outcome : CloseEnd) → held.frame.sealed ≡ false
      → FinishesOpen drive noted at held old new outcome → Finishes drive noted at held old new outcome
