-- What a close will ask for is there from the start on, and stays so over each call.
use Rattle.std.proofs.Common.{◌≡◌, ℕ, ◌≤◌, List, [], ◌∷◌, ◌++◌, length, take, Option, Some}
use Rattle.std.proofs.Common.{refl, sym, ap, ◌∙◌, append-nil}
use Rattle.tape_types.specs.Cartridges.{items_of}
use Rattle.tape_types.specs.declared.cartridges.Cartridge.{Cartridge}
use Rattle.tape_types.specs.declared.cartridges.Item.{Item}
use Rattle.tape_types.specs.declared.cartridges.Limits.{Limits}
use Rattle.tape_types.specs.declared.cartridges.Part.{Part}
use Rattle.tape_types.specs.declared.cartridges.Part.TheVariants.{Dp, Ip}
use Rattle.tape_types.specs.declared.moments.Moment.{Moment}
use Rattle.tape_drive.specs.declared.drive.Drive.{Ghosts}
use Rattle.plain_tree.specs.declared.calls.Fate.TheVariants as fates
use Rattle.plain_tree.specs.declared.calls.Placed.{Placed}
use Rattle.session_script.specs.declared.logs.Event.{Event}
use Rattle.tape_layout.specs.declared.ops.Op.{Op}
use Rattle.cartridge_meaning.specs.Meaning.{dp_end, ip_end}
use Rattle.cartridge_meaning.specs.Mounts.{Mounts}
use Rattle.cartridge_meaning.specs.Pointers.{indexes_of}
use Rattle.promises.specs.ServingPromise.Ends.{begun}
use Rattle.promises.specs.ServingPromise.Served.{Fixed, View}
use Rattle.promises.specs.CrashLaws.Laws.{AddsOps, CanServe, IsSafeNow}
use Rattle.promises.specs.CrashLaws.Safe.{space_now}
use Rattle.promises.specs.PromiseLaws.Kept.{CanRead, IsKeptOn, Plan}
use Rattle.volume_state.specs.ClosingLaws.Indexed.{SyncsAreDueOn}
use Rattle.volume_state.specs.ClosingLaws.Ready.{GoesOnBy, IsStepOnTape}
use Rattle.volume_state.proofs.ClosingLaws.Aheads.{none_is_ahead}
use Rattle.volume_state.proofs.ClosingLaws.IndexLaw.{indexes_stay}
use Rattle.volume_state.proofs.ClosingLaws.OwnLaw.{own_indexes_stay}
use Rattle.volume_state.proofs.ClosingLaws.Readied.{tapes_stay_ready}
use Rattle.volume_state.proofs.ClosingLaws.Rests.{volumes_rest}
use Rattle.volume_state.specs.PlanLaws.Planned.{IsOnWay, Items, ends_in, mounted_items, with_ops}
use Rattle.volume_state.specs.StateLaws.Parts.{Parts, view_of}
use Rattle.volume_state.specs.CallLaws.Running.{IsReadyToClose}

-- ---- what is planned at the start

-- what a cartridge was on its way to without an op is its items so far
way_done : (planned : Items) (c : Cartridge) (way : IsOnWay planned [] c) (part : Part)
    → planned part ≡ take (length (planned part)) (items_of part c)
way_done planned c way part =
    let here : planned part ≡ way.plan.made part = way.plan.leads part ∙ append-nil (way.plan.made part) in
    here ∙ sym (way.reads part) ∙ ap (λ (l : List Item). take (length l) (items_of part c)) (sym here)

-- what is planned at the start is what the mount finds of both partitions
pub begun_items : (planned : Items) (c : Cartridge) → IsOnWay planned [] c → length (planned Ip) ≡ ip_end c
    → length (planned Dp) ≡ dp_end c → (part : Part) → planned part ≡ mounted_items c part
begun_items planned c way ip dp Ip = way_done planned c way Ip ∙ ap (λ (n : ℕ). take n c.ip) ip
begun_items planned c way ip dp Dp = way_done planned c way Dp ∙ ap (λ (n : ℕ). take n c.dp) dp

module _ {D : Type 0} (drive : Ghosts D) (fixed : Fixed D) where
  abbrev limits : Limits
  limits = drive.limits fixed.first

  -- ---- the start

  -- a volume that was mounted has all that a close will ask for
  pub begins_ready : (plan : Plan drive fixed) (planned : Items) (next : Option Moment)
      → ((c : Cartridge) → drive.held fixed.first ≡ Some c → Mounts c fixed.mounted)
      → ((can : CanServe drive fixed) → IsSafeNow drive (plan can) limits (begun fixed next))
      → ((c : Cartridge) → drive.held fixed.first ≡ Some c → (part : Part) → planned part ≡ mounted_items c part)
      → IsReadyToClose drive fixed plan planned (begun fixed next)
  begins_ready plan planned next mounts safe items = record {
    mounts = mounts;
    none_ahead = λ can.
        (none_is_ahead drive).begins (plan can) limits fixed next can.held (mounts can.held can.told) (safe can);
    rests = λ can. (volumes_rest drive).begins limits fixed next;
    alone = λ can c told one.
        (indexes_stay {D = D}).alone planned c fixed.mounted (mounts c told) one (items c told Ip);
    tape = λ can. (tapes_stay_ready drive).begins planned limits fixed next
        (λ c told. (mounts c told, items c told Dp));
    indexed = λ can. (indexes_stay {D = D}).begins planned limits fixed next can.held (mounts can.held can.told)
        can.reads_as (items can.held can.told);
    own = λ can c told. (own_indexes_stay {D = D}).begins planned limits fixed next c (mounts c told) (items c told);
  }

  -- ---- a submission

  module _ (before after : Option Moment) (plan : Plan drive fixed) (planned : Items) (asked : List Op)
      (old new : Parts D) (was : IsReadyToClose drive fixed plan planned (view_of fixed before old))
      (on : IsKeptOn drive fixed plan (view_of fixed before old) (view_of fixed after new)) where
    abbrev v : View D
    v = view_of fixed before old

    abbrev w : View D
    w = view_of fixed after new

    -- a submission leaves all that a close will ask for
    pub submitted_ready : new.drive ≡ old.drive → new.on ≡ old.on → w.ops ≡ v.ops ++ asked → GoesOnBy v w
        → (CanServe drive fixed → AddsOps limits v w) → (CanRead drive fixed → AddsOps limits v w)
        → (space_now limits v).ends ≡ ends_in planned → 1 ≤ fixed.mounted.label.block
        → (CanRead drive fixed → SyncsAreDueOn planned limits v w)
        → IsReadyToClose drive fixed on.next (with_ops asked planned) w
    submitted_ready same on_same ops goes serves reads ends size dues = record {
      mounts = was.mounts;
      none_ahead = λ can.
          let grows = on.grows can in
          (none_is_ahead drive).submitted (plan can) (on.next can) limits v w grows.0 (was.none_ahead can) grows.2
          (on.kept.safe can) (serves can) refl on_same goes;
      rests = λ can. (volumes_rest drive).submitted limits v w (was.rests can) (reads can) refl same on_same goes;
      alone = λ can c told one.
          (indexes_stay {D = D}).none_more planned limits v w asked (was.indexed can) ops (reads can) goes
          ∙ was.alone can c told one;
      tape = λ can. (tapes_stay_ready drive).submitted planned limits v w asked (was.tape can) ops
          (reads can) refl same on_same goes;
      indexed = λ can. (indexes_stay {D = D}).submitted planned limits v w asked (was.indexed can) ops
          (reads can) refl on_same goes ends size (dues can);
      own = λ can c told. (own_indexes_stay {D = D}).submitted planned limits (indexes_of c.dp) v w asked
          (was.own can c told) (was.indexed can) ops (reads can) refl on_same goes ends size (dues can);
    }

  -- ---- a turn

  module _ (before after : Option Moment) (plan : Plan drive fixed) (planned : Items) (old new : Parts D)
      (added : List Event) (was : IsReadyToClose drive fixed plan planned (view_of fixed before old))
      (step : IsStepOnTape drive planned (view_of fixed before old) (view_of fixed after new) added) where
    abbrev v1 : View D
    v1 = view_of fixed before old

    abbrev w1 : View D
    w1 = view_of fixed after new

    -- a turn leaves all that a close will ask for
    pub turned_ready : w1.history ≡ v1.history → IsReadyToClose drive fixed plan planned w1
    turned_ready history = record {
      mounts = was.mounts;
      none_ahead = λ can. (none_is_ahead drive).turned (plan can) limits v1 w1 added
          (was.none_ahead can) refl history step.on;
      rests = λ can. (volumes_rest drive).turned planned limits v1 w1 added (was.tape can)
          (was.rests can) step history;
      alone = was.alone;
      tape = λ can. (tapes_stay_ready drive).turned planned limits v1 w1 added (was.tape can) step history;
      indexed = λ can. (indexes_stay {D = D}).turned planned limits v1 w1 added (was.indexed can) refl history step.on;
      own = λ can c told. (own_indexes_stay {D = D}).turned planned limits (indexes_of c.dp) v1 w1 added
          (was.own can c told) refl history step.on;
    }

    -- a write that is placed void leaves all that a close will ask for
    pub voided_ready : (placed : Placed) → w1.history ≡ v1.history ++ placed ∷ [] → placed.fate ≡ fates.Void
        → IsReadyToClose drive fixed plan planned w1
    voided_ready placed history fate = record {
      mounts = was.mounts;
      none_ahead = λ can. (none_is_ahead drive).voided (plan can) limits v1 w1 added placed
          (was.none_ahead can) refl history fate step.on;
      rests = λ can. (volumes_rest drive).voided planned limits v1 w1 added placed (was.tape can)
          (was.rests can) step history fate;
      alone = was.alone;
      tape = λ can. (tapes_stay_ready drive).voided planned limits v1 w1 added placed (was.tape can) step history fate;
      indexed = λ can. (indexes_stay {D = D}).voided planned limits v1 w1 added placed
          (was.indexed can) refl history fate step.on;
      own = λ can c told. (own_indexes_stay {D = D}).voided planned limits (indexes_of c.dp) v1 w1 added placed
          (was.own can c told) refl history fate step.on;
    }
