-- Blocks that are asked for, and writes that are put off.
use Rattle.std.specs.Prelude.{◌≡◌, ◌≤◌, ◌<◌, zero, suc, Bool, false, List, [], ◌∷◌, length, take, Contains, Option, Some, None, IfSome, slice_get}
use Rattle.std.proofs.Common.{⊎_elim, refl, arith, sym, ap, ◌∙◌, subst, true≢false}
use Rattle.tape_types.specs.declared.cartridges.Place.{Place}
use Rattle.tape_types.specs.declared.moments.Moment.{Moment}
use Rattle.plain_tree.specs.History.{call_at}
use Rattle.plain_tree.specs.declared.calls.Placed.{Placed}
use Rattle.plain_tree.specs.declared.calls.Fate.TheVariants as fates
use Rattle.session_script.specs.declared.logs.Event.TheVariants.{Syncs, Wants}
use Rattle.head_queue.specs.EventLaws.Rows.{dp, queues}
use Rattle.space_laws.specs.Standing.{admitted, admitted_at, standing}
use Rattle.promises.specs.ServingPromise.Asking.{AreAsked, AreGrouped, AreNeeded, AreOfReads, ArePutOff, blocks_of, is_read, stood}
use Rattle.promises.specs.ServingPromise.Trials.{calls_of_one, drained_by_one, four_done, long_volume, placed, read, small_volume, twice_written, write}
use Rattle.promises.proofs.ServingPromise.CrashFacts.{only}
use Rattle.promises.proofs.ServingPromise.ReplyFacts.{get_put}

abbrev reads : Option Placed → Bool
reads None = false
reads (Some p) = is_read (call_at (calls_of_one twice_written) p)

-- a block for a place that is a write
pub block_of_write_isnt : (at : Moment) → ¬ AreOfReads (calls_of_one twice_written) (four_done at) (Wants 0 (dp 5) ∷ [])
block_of_write_isnt at are = let q = are 0 (dp 5) (0, omega arith, refl) in true≢false (sym (ap reads q.1 ∙ q.3))

-- a read of a file that lies in one block needs that block
pub blocks_are : (at : Moment) → blocks_of (standing (small_volume at twice_written) None (four_done at) 1) (Some read) ≡ dp 7 ∷ []
blocks_are at = simp (get_put) refl

abbrev needed : Moment → Option Placed → List Place
needed at None = []
needed at (Some p) = blocks_of (standing (small_volume at twice_written) None (four_done at) 1) (call_at (small_volume at twice_written).calls p)

-- and another block isn't asked for
pub unneeded_block_isnt : (at : Moment) → ¬ AreNeeded (small_volume at twice_written) None (four_done at) (Wants 1 (dp 9) ∷ [])
unneeded_block_isnt at are =
    let q = are 1 (dp 9) (0, omega arith, refl) in
    omega (arith, ap (λ (p : Place). p.pos) (only (dp 7) (dp 9) (subst (λ bs. Contains bs (dp 9)) (sym (ap (needed at) q.1) ∙ blocks_are at) q.2)))

first_65 : (at : Moment) → length (admitted (long_volume at) None (take 1 (four_done at))) ≡ 65
first_65 at = simp (get_put) refl

-- the write of a byte once 64 ops stand
pub drained_write_is : (at : Moment) → ArePutOff (long_volume at) None (take 2 (four_done at)) drained_by_one
drained_write_is at zero p is write some = omega arith
drained_write_is at (suc zero) p is write some = subst (λ n. IfSome (slice_get (stood drained_by_one) n) (λ stood. stood ≤ 64)) (sym (first_65 at)) (omega arith)
drained_write_is at (suc (suc k)) p is write some = cc

-- the write of a byte while 65 ops stand
pub late_write_isnt : (at : Moment) → ¬ ArePutOff (long_volume at) None (take 2 (four_done at)) (queues 7 66)
late_write_isnt at are = omega (arith, subst (λ n. IfSome (slice_get (stood (queues 7 66)) n) (λ stood. stood ≤ 64)) (first_65 at) (are 1 (placed at 1 1 fates.Done) refl refl some))
  where
    some : 0 < length (admitted_at (long_volume at) None (take 2 (four_done at)) 1 (placed at 1 1 fates.Done))
    some = simp (get_put) (omega arith)

-- a sync that stands before an op that it is to end
pub sync_before_op_isnt : (at : Moment) → ¬ AreGrouped (small_volume at twice_written) None (four_done at) (Syncs 1 ∷ queues 7 1)
sync_before_op_isnt at are = omega (arith, ended, is_one)
  where
    ended : 0 ≡ length (admitted (small_volume at twice_written) None (take 2 (four_done at)))
    ended = are [] (queues 7 1) 1 refl

    is_one : length (admitted (small_volume at twice_written) None (take 2 (four_done at))) ≡ 1
    is_one = simp (get_put) refl

-- a read of a block that nobody asks for, puts or reads
pub unasked_block_isnt : (at : Moment) → ¬ AreAsked (small_volume at twice_written) None (four_done at) []
unasked_block_isnt at are =
    ⊎_elim (λ has. omega (arith, has.1)) (λ e. true≢false (sym e))
    (are 1 (placed at 1 1 fates.Done) (dp 7) refl refl (subst (λ bs. Contains bs (dp 7)) (sym (blocks_are at)) (0, omega arith, refl)))
