-- Ops that are done one after the other.
use Rattle.std.specs.Prelude.{ℕ, ◌≡◌, ◌≤◌, ◌+◌, List, [], ◌∷◌, All, Option, Some, None, IfSome, Ok, length}
use Rattle.std.proofs.Common.{refl, sym, ap, subst, ◌∙◌, arith}
use Rattle.std.proofs.lemmas.List.Elements.{All-head, All-tail}
use Rattle.tape_types.specs.Cartridges.{items_of}
use Rattle.tape_types.specs.declared.cartridges.Cartridge.{Cartridge}
use Rattle.tape_types.specs.declared.cartridges.Limits.{Limits}
use Rattle.tape_types.specs.declared.cartridges.Twin.{Twin}
use Rattle.tape_drive.specs.declared.drive.Drive.{Ghosts}
use Rattle.tape_layout.specs.Ops.{HasRoom, place_of}
use Rattle.tape_layout.specs.declared.ops.Op.{Op}
use Rattle.tape_layout.specs.declared.ops.Op.TheVariants.{Flush, Mark, Put}
use Rattle.head_core.specs.Steps.{CanDo, IsOpStep}
use Rattle.head_core.specs.declared.work.StepDone.{StepDone}
use Rattle.head_core.specs.declared.work.StepDone.TheVariants as outcome
use Rattle.promises.specs.CrashLaws.Changes.{IsWell}
use Rattle.volume_state.specs.PlanLaws.Planned.{IsOnWay}
use Rattle.volume_state.proofs.PlanLaws.Tells.{tapes_tell}
use Rattle.volume_state.proofs.PlanLaws.Ways.{ways_go_on}
use Rattle.volume_core.specs.Commands.{DoesOps, FailsOp}
use Rattle.volume_core.specs.Doing.{CanDoAll, IsOneDone}

can_do : (op : Op) (limits : Limits) (held : Option Cartridge) (size : ℕ) → HasRoom limits size op → size ≤ 1048576
    → IfSome held (λ c. (place_of op).pos ≤ length (items_of (place_of op).part c)) → CanDo op limits held
can_do (Put at bytes) limits held size room le within =
    (record { room = room.0; within = within }, room.1, omega (arith, room.2, le))
can_do (Mark at) limits held size room le within = record { room = room; within = within }
can_do (Flush at) limits held size room le within = tt

if_told : (held : Option Cartridge) (P : Cartridge → Type 0) → ((c : Cartridge) → held ≡ Some c → P c) → IfSome held P
if_told None P h = tt
if_told (Some c) P h = h c refl

-- the first op can be done
pub can_do_first : {D : Type 0} (drive : Ghosts D) (ops : List Op) (d : D) (op : Op) (later : List Op)
    → CanDoAll drive ops d → ops ≡ op ∷ later → CanDo op (drive.limits d) (drive.held d)
can_do_first drive ops d op later can first =
    let room : All (HasRoom (drive.limits d) can.size) (op ∷ later)
    = subst (λ (l : List Op). All (HasRoom (drive.limits d) can.size) l) first can.room in
    can_do op (drive.limits d) (drive.held d) can.size
    (All-head (λ (o : Op). HasRoom (drive.limits d) can.size o) op later room) can.most
    (if_told (drive.held d) (λ c. (place_of op).pos ≤ length (items_of (place_of op).part c))
    (λ c held. tapes_tell.reaches can.planned op later c (subst (λ (l : List Op). IsOnWay can.planned l c) first
    (can.way c held))))

-- and then the others
can_do_others : {D : Type 0} (drive : Ghosts D) (ops : List Op) (old new : D) (op : Op) (later : List Op) (end :
    StepDone)
    → CanDoAll drive ops old → ops ≡ op ∷ later → IsOpStep drive op end old new → IsWell end → CanDoAll drive later new
can_do_others {D} drive ops old new op later end can first step well = record {
  planned = can.planned;
  size = can.size;
  most = can.most;
  room = subst (λ (limits : Limits). All (HasRoom limits can.size) later) (sym step.made.limits)
      (All-tail (λ (o : Op). HasRoom (drive.limits old) can.size o) op later
      (subst (λ (l : List Op). All (HasRoom (drive.limits old) can.size) l) first can.room));
  way = by (drive.held old) refl;
}
  where
    by : (held : Option Cartridge) → drive.held old ≡ held → (c : Cartridge) → drive.held new ≡ Some c
        → IsOnWay can.planned later c
    by None is c now = let none : None ≡ Some c = sym (step.made.untold is) ∙ now in absurd cc
    by (Some b) is c now =
        let t = step.told b is in
        let same : Some t.0 ≡ Some c = sym t.1 ∙ now in
        let d : t.0 ≡ c = cc in
        subst (λ (c : Cartridge). IsOnWay can.planned later c) d
        (ways_go_on.done can.planned op later end b t.0 (subst (λ (l : List Op). IsOnWay can.planned l b) first
        (can.way b is)) t.2 well)

-- ---- a run of ops

does_append : {D : Type 0} (drive : Ghosts D) (ops mids left : List Op) (old mid new : D)
    → DoesOps drive ops old mids mid
    → DoesOps drive mids mid left new → DoesOps drive ops old left new
does_append drive _ _ left _ _ new (DoesOps.rest ops d) then = then
does_append drive _ mids left _ mid new (DoesOps.one op later left' end old next mid' step well more) then =
    DoesOps.one op later left end old next new step well (does_append drive later mids left next mid new more then)

-- one op more was done, and the ops behind it are left
pub does_more : {D : Type 0} (drive : Ghosts D) (ops standing left later : List Op) (op : Op) (old mid new : D)
    → DoesOps drive ops old standing mid
    → standing ≡ op ∷ later → IsOneDone drive op later left mid new (Ok tt) → DoesOps drive ops old left new
does_more drive ops standing left later op old mid new run first did =
    does_append drive ops (op ∷ later) left old mid new (subst (λ (l : List Op). DoesOps drive ops old l mid) first run)
    (DoesOps.one op later left did.0 mid new new did.1 did.2
    (subst (λ (l : List Op). DoesOps drive l new left new) did.3 (DoesOps.rest left new)))

-- once the first op is done, the others can be done
pub can_go_on : {D : Type 0} (drive : Ghosts D) (standing left later : List Op) (op : Op) (mid new : D)
    → CanDoAll drive standing mid
    → standing ≡ op ∷ later → IsOneDone drive op later left mid new (Ok tt) → CanDoAll drive left new
can_go_on drive standing left later op mid new can first did =
    subst (λ (l : List Op). CanDoAll drive l new) (sym did.3)
    (can_do_others drive standing mid new op later did.0 can first did.1 did.2)

is_less : (standing left later : List Op) (op : Op) → standing ≡ op ∷ later → left ≡ later
    → length left + 1 ≡ length standing
is_less standing left later op first is = omega (arith, ap length first, ap length is)

fails_then : {D : Type 0} (drive : Ghosts D) (ops standing later : List Op) (op : Op) (old mid new : D) (counts :
    Twin)
    → DoesOps drive ops old standing mid → standing ≡ op ∷ later → IsOpStep drive op (outcome.Failed counts) mid new
    → FailsOp drive ops old new counts
fails_then drive ops standing later op old mid new counts run first failed = record {
  op = op;
  later = later;
  mid = mid;
  before = subst (λ (l : List Op). DoesOps drive ops old l mid) first run;
  failed = failed;
}

all_done : {D : Type 0} (drive : Ghosts D) (ops standing : List Op) (old mid : D)
    → DoesOps drive ops old standing mid → length standing ≤ 0 → DoesOps drive ops old [] mid
all_done drive ops standing old mid run none = subst (λ (l : List Op). DoesOps drive ops old l mid) (nothing standing
    none) run
  where
    nothing : (l : List Op) → length l ≤ 0 → l ≡ []
    nothing [] none = refl
    nothing (x ∷ l) none = absurd (omega (arith, none))
