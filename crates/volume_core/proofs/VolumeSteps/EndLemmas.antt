-- Calls that the stock refuses, or for which it has no room.
use Rattle.std.specs.Prelude.{◌≡◌, Bool, Option, Some, None, Result, Ok, Err}
use Rattle.std.proofs.Common.{refl, sym, subst}
use Rattle.tape_types.specs.declared.moments.Moment.{Moment}
use Rattle.extent_map.specs.Cells.{Tape}
use Rattle.plain_tree.specs.Refusals.{refusal_of}
use Rattle.plain_tree.specs.declared.calls.Call.{Call}
use Rattle.plain_tree.specs.declared.calls.Call.TheVariants as calls
use Rattle.plain_tree.specs.declared.calls.Refusal.{Refusal}
use Rattle.tape_layout.specs.declared.errors.AdmitErr.{AdmitErr}
use Rattle.tape_layout.specs.declared.errors.AdmitErr.TheVariants as errors
use Rattle.space_laws.specs.Standing.{Given, Standing}
use Rattle.held_volume.specs.Applied.{IsApplied, IsChange, IsUnchanged, LeavesAll}
use Rattle.held_volume.specs.Stocks.{IsStock, Stocked}
use Rattle.event_journal.specs.Trails.{Journaled}
use Rattle.volume_state.specs.StateLaws.Parts.{Parts}
use Rattle.volume_state.specs.StateLaws.Placing.{IsVoidFor}
use Rattle.volume_core.specs.VolumeSteps.Asking.{Reserves, told_void}
use Rattle.volume_core.proofs.VolumeSteps.ChangeLemmas.{DoneAlways}

change_told : (call : Call) (at : Moment) (stock next : Stocked) (error : AdmitErr)
    → ((early : Tape) (g : Given) (on : Bool) (st : Standing) → IsStock early g on st stock
    → IsApplied early g on st call at stock next (Err error))
    → IsVoidFor stock call at (told_void error)
change_told call at stock next (errors.Full need limit) applied = applied
change_told call at stock next errors.NoMemory applied = tt

-- a sync that isn't admitted is told its need and limit, or want of memory
pub sync_told : (at : Moment) (stock next : Stocked) (error : AdmitErr)
    → ((early : Tape) (g : Given) (on : Bool) (st : Standing) → IsStock early g on st stock
    → IsChange early g on st calls.Sync at stock next (Err error))
    → IsVoidFor stock calls.Sync at (told_void error)
sync_told at stock next (errors.Full need limit) applied = λ early g on st is. (refl, applied early g on st is)
sync_told at stock next errors.NoMemory applied = tt

-- the stock may have memory for more, and the trail
pub reserves_both : {D : Type 0} (old : Parts D) (stock : Stocked) (trail : Journaled) → IsUnchanged old.stock stock
    → trail.events ≡ old.trail.events → trail.acks ≡ old.trail.acks → trail.kept ≡ old.trail.kept
    → Reserves old (record old { stock = stock; trail = trail })
reserves_both old stock trail unchanged events acks kept = record {
  drive = refl;
  stock = unchanged;
  on = refl;
  events = events;
  acks = acks;
  kept = kept;
  waiting = refl;
  arrived = refl;
  reads = refl;
  cached = refl;
  history = refl;
  replies = refl;
  marks = refl;
  calls = refl;
  sessions = refl;
}

-- ---- what a call of the stock answers

-- what it says of a result
abbrev pub Applied : Call → Moment → Stocked → Stocked → Result (Option Refusal) AdmitErr → Type 0
Applied call at old next r = (early : Tape) (g : Given) (on : Bool) (st : Standing) → IsStock early g on st old
    → IsApplied early g on st call at old next r

-- a call that came through unrefused is done
pub done_of : (call : Call) (at : Moment) (old next : Stocked) (r : Result (Option Refusal) AdmitErr) → r ≡ Ok None
    → Applied call at old next r → DoneAlways call at old next
done_of call at old next r is applied = subst (λ (x : Result (Option Refusal) AdmitErr). Applied call at old next x) is applied

-- a call that came back with a refusal is refused by the tree
pub refused_of : (call : Call) (at : Moment) (old next : Stocked) (refusal : Refusal) (r : Result (Option Refusal) AdmitErr)
    → r ≡ Ok (Some refusal) → Applied call at old next r
    → (early : Tape) (g : Given) (on : Bool) (st : Standing) → IsStock early g on st old → refusal_of st.tree call ≡ Some refusal
refused_of call at old next refusal r is applied =
    subst (λ (x : Result (Option Refusal) AdmitErr). Applied call at old next x) is applied

-- a call that wasn't admitted is told what it needs, or want of memory
pub told_of : (call : Call) (at : Moment) (old next : Stocked) (error : AdmitErr) (r : Result (Option Refusal) AdmitErr)
    → r ≡ Err error → Applied call at old next r → IsVoidFor old call at (told_void error)
told_of call at old next error r is applied =
    change_told call at old next error
    (subst (λ (x : Result (Option Refusal) AdmitErr). Applied call at old next x) is applied)

-- a call that is refused leaves all as it was
pub same_of : (old next : Stocked) (refusal : Refusal) (r : Result (Option Refusal) AdmitErr) → r ≡ Ok (Some refusal)
    → LeavesAll old next r → next ≡ old
same_of old next refusal r is leaves = subst (λ (x : Result (Option Refusal) AdmitErr). LeavesAll old next x) is leaves

-- a call that isn't admitted leaves what is held unchanged
pub unchanged_of : (old next : Stocked) (error : AdmitErr) (r : Result (Option Refusal) AdmitErr) → r ≡ Err error
    → LeavesAll old next r → IsUnchanged old next
unchanged_of old next error r is leaves = subst (λ (x : Result (Option Refusal) AdmitErr). LeavesAll old next x) is leaves

-- what is the same is unchanged
pub unchanged_same : (old next : Stocked) → next ≡ old → IsUnchanged old next
unchanged_same old next is =
    subst (λ (x : Stocked). IsUnchanged old x) (sym is) (record { layout = refl; frame = refl; stands = λ tape g on st stands. stands })
