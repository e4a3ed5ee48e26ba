-- How closes of a volume end that was mounted as sealed, and how they don't.
use Rattle.std.specs.Prelude.{◌≡◌, ℕ, false, Option, Some, None}
use Rattle.std.proofs.Common.{refl, arith, sym, ap, true≢false}
use Rattle.tape_types.specs.declared.cartridges.Cartridge.{Cartridge}
use Rattle.tape_types.specs.declared.cartridges.Twin.{Twin}
use Rattle.tape_types.specs.declared.moments.Moment.{Moment}
use Rattle.plain_tree.specs.declared.calls.LockState.{LockState}
use Rattle.plain_tree.specs.declared.calls.LockState.TheVariants as locks
use Rattle.cartridge_meaning.specs.Carried.{carried}
use Rattle.space_laws.specs.Mount.{was_sealed}
use Rattle.promises.specs.ServingPromise.Closing.{leaving_another, mounted_under, sealed, telling}
use Rattle.promises.specs.ServingPromise.Ends.{IsEnd}
use Rattle.promises.specs.ServingPromise.Served.{CanTell}
use Rattle.promises.specs.ServingPromise.Trials.{by_reference, cartridge}
use Rattle.promises.specs.ServingPromise.Turning.{drive_at}
use Rattle.promises.specs.declared.serving_promise.answers.CloseEnd.TheVariants as ends

abbrev vcr_of : Option Cartridge → ℕ
vcr_of None = 0
vcr_of (Some c) = c.vcr

-- the drive tells the cartridge that was mounted
can_tell : (state : LockState) (at : Moment)
    → CanTell (λ c. by_reference.Reads c (carried (mounted_under state false at).fixed.mounted.index) (mounted_under state false at).fixed.tree (mounted_under state false at).fixed.mounted.newest) 0 (telling 2)
can_tell state at = record { held = cartridge 2; told = refl; reads_as = refl; reached = omega arith; sure = λ image e. e }

-- it is done with the generation that was mounted, though an index would be due
pub sealed_is : (at : Moment) → IsEnd by_reference (telling 2) (telling 2) (telling 2) (sealed at) 30 at (ends.Done 1)
sealed_is at = (refl, λ can. record { generation_is = refl; held = refl; sure = λ image e. ap (λ (c : Cartridge). Some c) (sym e) })

-- where the drive tells nothing, nothing is said of the generation
pub untold_is : (at : Moment) → IsEnd by_reference (drive_at 0 None) (drive_at 30 None) (drive_at 30 None) (sealed at) 30 at (ends.Done 9)
untold_is at = (refl, λ can. absurd (cc can.told))

pub another_generation_isnt : (at : Moment) → ¬ IsEnd by_reference (telling 2) (telling 2) (telling 2) (sealed at) 30 at (ends.Done 2)
another_generation_isnt at e = omega (arith, (e.1 (can_tell locks.PermLocked at)).generation_is)

-- a command was made
pub with_command_isnt : (at : Moment) → ¬ IsEnd by_reference (telling 2) (telling 2) (telling 2) (sealed at) 31 at (ends.Done 1)
with_command_isnt at e = omega (arith, e.0)

pub another_cartridge_isnt : (at : Moment) → ¬ IsEnd by_reference (telling 2) (telling 2) (telling 3) (sealed at) 30 at (ends.Done 1)
another_cartridge_isnt at e = omega (arith, ap vcr_of (e.1 (can_tell locks.PermLocked at)).held)

-- a crash would leave another cartridge
pub unsure_isnt : (at : Moment) → ¬ IsEnd by_reference (telling 2) (telling 2) (leaving_another 2) (sealed at) 30 at (ends.Done 1)
unsure_isnt at e = omega (arith, ap vcr_of ((e.1 (can_tell locks.PermLocked at)).sure (cartridge 3) refl))

-- it ends in no other way
pub full_isnt : (at : Moment) (need limit : ℕ) → ¬ IsEnd by_reference (telling 2) (telling 2) (telling 2) (sealed at) 30 at (ends.Full need limit)
full_isnt at need limit e = e

pub fault_isnt : (at : Moment) (counts : Twin) → ¬ IsEnd by_reference (telling 2) (telling 2) (telling 2) (sealed at) 30 at (ends.Fault counts)
fault_isnt at counts e = e

pub no_memory_isnt : (at : Moment) → ¬ IsEnd by_reference (telling 2) (telling 2) (telling 2) (sealed at) 30 at ends.NoMemory
no_memory_isnt at e = e

-- a volume that wasn't sealed isn't done so: the index that is due has another generation
pub without_index_isnt : (at : Moment) (state : LockState)
    → was_sealed (mounted_under state false at).fixed.mounted.index ≡ false
    → ¬ IsEnd by_reference (telling 2) (telling 2) (telling 2) (mounted_under state false at) 30 at (ends.Done 1)
without_index_isnt at locks.Absent unsealed e = omega (arith, (e.1 (can_tell locks.Absent at)).generation_is)
without_index_isnt at locks.Unlocked unsealed e = omega (arith, (e.1 (can_tell locks.Unlocked at)).generation_is)
without_index_isnt at locks.Locked unsealed e = omega (arith, (e.1 (can_tell locks.Locked at)).generation_is)
without_index_isnt at locks.PermLocked unsealed e = true≢false unsealed
