-- How closes end, and how they don't.
use Rattle.std.specs.Prelude.{◌<◌, ◌≡◌, ◌^◌, ◌+◌, ℕ, [], Option, Some, None}
use Rattle.std.proofs.Common.{⊎_elim, refl, inl, inr, arith, sym, ap, true≢false}
use Rattle.tape_types.specs.declared.cartridges.Cartridge.{Cartridge}
use Rattle.tape_types.specs.declared.moments.Moment.{Moment}
use Rattle.std.specs.FinMap.{len-empty}
use Rattle.cartridge_meaning.specs.Carried.{carried}
use Rattle.promises.specs.ServingPromise.Closing.{just_begun, last_generation, telling, untouched}
use Rattle.promises.specs.ServingPromise.Ends.{IsCloseShort, IsDoneClose, IsEnd, Starts, TellsNodes}
use Rattle.promises.specs.ServingPromise.Served.{CanTell, given}
use Rattle.promises.specs.ServingPromise.Trials.{alike_below, by_reference, cartridge, honest_below, mounted, numbered, with_a}
use Rattle.promises.specs.ServingPromise.Turning.{drive_at}
use Rattle.promises.specs.declared.serving_promise.answers.CloseEnd.TheVariants as ends

abbrev vcr_of : Option Cartridge → ℕ
vcr_of None = 0
vcr_of (Some c) = c.vcr

-- no generation is left for the close
pub full_is : (at : Moment) → IsEnd by_reference (drive_at 0 None) (drive_at 30 None) (drive_at 30 None) (last_generation at) 30 at (ends.Full (2 ^ 62 + 1) (2 ^ 62))
full_is at = (
  inl (record { over = refl; need_is = refl; limit_is = refl }),
  λ short. refl,
  λ can fits. absurd (fits (2 ^ 62 + 1, 2 ^ 62, record { over = refl; need_is = refl; limit_is = refl })),
)

-- and it made a command
pub full_with_command_isnt : (at : Moment) → ¬ IsEnd by_reference (drive_at 0 None) (drive_at 30 None) (drive_at 31 None) (last_generation at) 31 at (ends.Full (2 ^ 62 + 1) (2 ^ 62))
full_with_command_isnt at e = omega (arith, e.1 (2 ^ 62 + 1, 2 ^ 62, record { over = refl; need_is = refl; limit_is = refl }))

can_tell : (at : Moment) → CanTell (λ c. by_reference.Reads c (carried (untouched at).fixed.mounted.index) (untouched at).fixed.tree (untouched at).fixed.mounted.newest) 0 (telling 2)
can_tell at = record { held = cartridge 2; told = refl; reads_as = refl; reached = omega arith; sure = λ image e. e }

never_short : (at : Moment) (need limit : ℕ) → ¬ IsCloseShort (given (untouched at) (telling 2)) None [] at need limit
never_short at need limit (inl dp) = true≢false (sym dp.over)
never_short at need limit (inr ip) = true≢false (sym ip.1.due)

-- nothing was asked, and the generation stays
pub done_is : (at : Moment) → IsEnd by_reference (telling 2) (telling 2) (telling 2) (untouched at) 30 at (ends.Done 1)
done_is at = (
  never_short at,
  λ can. record {
    generation_is = refl;
    held = cartridge 2;
    told = refl;
    closed = record { stands = refl; consistent = tt; notes = tt; sure = λ image e. e };
    sound = λ s. s;
    alike = inl tt;
  },
)

-- a generation that isn't due
pub another_generation_isnt : (at : Moment) → ¬ IsEnd by_reference (telling 2) (telling 2) (telling 2) (untouched at) 30 at (ends.Done 2)
another_generation_isnt at e = omega (arith, (e.1 (can_tell at)).generation_is)

-- the notes were honest, and aren't now
pub unsound_isnt : (at : Moment) → ¬ IsDoneClose (honest_below 3) (telling 2) (telling 4) (mounted at) (numbered 2) (numbered 4) 1 1
unsound_isnt at d = omega (arith, (d.sound (record { one_index = tt; honest = omega arith })).honest, held_is)
  where
    held_is : 4 ≡ d.held.vcr
    held_is = ap vcr_of d.told

-- a close counts the nodes of its tree
pub nodes_are : TellsNodes (ends.Done 1) (numbered 4) 0
nodes_are = sym (len-empty _ _)

-- a close that tells another count of nodes is none
pub other_nodes_isnt : ¬ TellsNodes (ends.Done 1) (numbered 4) 1
other_nodes_isnt e = omega (arith, e, nodes_are)

-- a volume begins with the moments of its clock
pub starts_is : (at : Moment) → Starts by_reference (telling 2) (mounted at) 30 [] 0 (Some at) (Some at) (just_begun at 30)
starts_is at = record { tree = with_a at []; reads_as = refl; begins = refl }

-- a volume that has a next moment didn't begin with none
pub other_moment_isnt : (at : Moment) → ¬ Starts by_reference (telling 2) (mounted at) 30 [] 0 None (Some at) (just_begun at 30)
other_moment_isnt at s = no_moment (ap (λ v. v.next) s.begins)
  where
    no_moment : ◌≡◌ {A = Option Moment} (Some at) None → ⊥
    no_moment e = cc

-- the partitions were alike, and aren't now
pub unlike_isnt : (at : Moment) → ¬ IsDoneClose (alike_below 3) (telling 2) (telling 4) (mounted at) (numbered 2) (numbered 4) 1 1
unlike_isnt at d = ⊎_elim (λ now. omega (arith, below now, held_is)) (λ apart. apart.2 (omega arith)) d.alike
  where
    held_is : 4 ≡ d.held.vcr
    held_is = ap vcr_of d.told

    below : d.held.vcr < 3 → d.held.vcr < 3
    below e = e

-- they were left apart, and nothing was due
pub left_apart_is : (at : Moment) → IsDoneClose (alike_below 0) (telling 2) (telling 2) (mounted at) (numbered 2) (numbered 2) 1 1
left_apart_is at = record {
  generation_is = refl;
  held = cartridge 2;
  told = refl;
  closed = record { stands = refl; consistent = tt; notes = tt; sure = λ image e. e };
  sound = λ s. s;
  alike = inr (refl, refl, λ less. omega (arith, less));
}
