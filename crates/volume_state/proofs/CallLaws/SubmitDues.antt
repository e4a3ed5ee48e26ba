-- The index of a sync is due where anything changed before it.
use Rattle.std.proofs.Common.{◌≡◌, ℕ, ◌+◌, ◌^◌, ◌<◌, ◌≤◌, Bool, true, false, cond, nat_lt, List, length, Option, Some, None, IfSome, slice_get, refl, sym, ap, ◌∙◌, subst, arith}
use Rattle.std.specs.Prelude.{if◌then◌else◌}
use Rattle.std.proofs.lemmas.Bool.Decides.{nat_tests}
use Rattle.tape_types.specs.Bounds.{most_positions}
use Rattle.tape_types.specs.declared.cartridges.Item.{Item}
use Rattle.tape_types.specs.declared.cartridges.Part.{Part}
use Rattle.tape_types.specs.declared.cartridges.Part.TheVariants.{Dp}
use Rattle.tape_types.specs.declared.moments.Moment.{Moment}
use Rattle.tape_drive.specs.declared.drive.Drive.{Ghosts}
use Rattle.plain_tree.specs.declared.calls.Call.TheVariants as calls
use Rattle.extent_map.specs.Blocks.{FileStandsIn}
use Rattle.extent_map.specs.Cells.{byte_in, tape_of}
use Rattle.extent_map.specs.Laid.{Laid}
use Rattle.file_tree.specs.Valid.{IsGood}
use Rattle.promises.specs.ImageLaws.Made.{cartridge_of, part_items}
use Rattle.tape_layout.specs.declared.standing.Ends.{Ends}
use Rattle.space_laws.specs.Space.{Rules, Space, index, index_need, is_over, nothing}
use Rattle.space_laws.specs.Standing.{Given, Standing, ask_of, rules, sync_text}
use Rattle.promises.specs.ServingPromise.Served.{Fixed}
use Rattle.promises.specs.declared.serving_promise.answers.Submitted.{Submitted}
use Rattle.promises.specs.CrashLaws.Laws.{CanServe, IsNextDue}
use Rattle.promises.specs.CrashLaws.Safe.{Planned}
use Rattle.promises.specs.PromiseLaws.Kept.{Plan}
use Rattle.held_volume.specs.Stocks.{IsStock}
use Rattle.held_volume.specs.Synced.{CanTell}
use Rattle.volume_state.specs.DueLaws.Behind.{BeginsBehindLabels}
use Rattle.volume_state.proofs.DueLaws.Due.{index_due}
use Rattle.volume_state.proofs.DueLaws.Tapes.{go_by_the_tape}
use Rattle.volume_state.proofs.DueLaws.Texts.{are_short}
use Rattle.volume_state.specs.PlanLaws.Planned.{Items, tape_on}
use Rattle.volume_state.proofs.PlanLaws.Agrees.{plans_agree}
use Rattle.volume_state.specs.StateLaws.Parts.{Parts, view_of}
use Rattle.volume_state.specs.StateLaws.Tied.{IsTied}
use Rattle.volume_state.specs.CallLaws.SubmitLaws.{IsSubmission}
use Rattle.volume_state.proofs.CallLaws.Admitted.{given_in, on_in, standing_in}

-- ---- an index that fits

not_over : (a b : ℕ) → nat_lt a b ≡ false → b ≤ a
not_over a b e = grind (arith, nat_tests, e)

-- there is a generation left, and the index ends within the capacity
pub within : (v : Rules) (on : Bool) (s : Space) (text : List ℕ) → is_over v on s (index text) ≡ false
    → (s.newest + 1 ≤ 2 ^ 62) × (index_need v Dp s text ≤ v.limits.cap_dp)
within v on s text is = by (nat_lt (2 ^ 62) (s.newest + 1)) refl is
  where
    by : (b : Bool) → nat_lt (2 ^ 62) (s.newest + 1) ≡ b
        → nat_lt (if b then 2 ^ 62 else v.limits.cap_dp) (if b then s.newest + 1 else index_need v Dp s text) ≡ false
        → (s.newest + 1 ≤ 2 ^ 62) × (index_need v Dp s text ≤ v.limits.cap_dp)
    by true none over = absurd (let wrong : true ≡ false = sym none ∙ over in cc wrong)
    by false some over = (not_over (2 ^ 62) (s.newest + 1) some, not_over v.limits.cap_dp (index_need v Dp s text) over)

back_near : (o : Option ℕ) (n : ℕ) → n ≤ most_positions → IfSome o (λ pos. pos < n) → IfSome o (λ block. block ≤ 2 ^ 62)
back_near None n near is = tt
back_near (Some pos) n near is = omega (arith, near, is)

-- ---- of a volume that is tied

module _ {D : Type 0} (drive : Ghosts D) (fixed : Fixed D) (planned : Items) (before : Option Moment) (at : Moment)
    (old : Parts D) (tied : IsTied drive fixed planned old) (good : IsGood old.stock.tree) where
  abbrev g : Given
  g = given_in drive fixed

  abbrev on : Bool
  on = on_in drive fixed old

  abbrev st : Standing
  st = standing_in drive fixed old

  behind : BeginsBehindLabels old.stock.tree
  behind part pos t = tied.files.low part pos (record {
    uid = t.file.node.uid;
    block = subst (λ (l : Laid). FileStandsIn l part pos)
        (sym (tied.stock.files.lies t.file.path t.file.node t.file.room t.file.there t.file.file ∙ t.file.lies))
        t.block;
  })

  module _ (fits : is_over (rules g) on st.space (ask_of g st calls.Sync at) ≡ false) (changed : st.space.changed ≡ true) where
    admitted : is_over (rules g) on st.space (index (sync_text g st at)) ≡ false
    admitted = subst (λ (b : Bool). is_over (rules g) on st.space (cond b (index (sync_text g st at)) nothing) ≡ false) changed fits

    room : (st.space.newest + 1 ≤ 2 ^ 62) × (index_need (rules g) Dp st.space (sync_text g st at) ≤ g.limits.cap_dp)
    room = within (rules g) on st.space (sync_text g st at) admitted

    near : st.space.ends.dp + 2 ≤ most_positions
    near = omega (arith, room.1, tied.limits.dp_most)

    can_tell : CanTell g st
    can_tell = record {
      letters_are = record { ip = tied.mount.letters.0; dp = tied.mount.letters.1 };
      differ = tied.mount.letters.2;
      uuid = subst (λ (n : ℕ). n < 2 ^ 128) tied.mount.uuid tied.mount.valid.formed.volume.uuid;
      facts = record { comment = tied.mount.valid.formed.volume.comment; policy = tied.mount.valid.formed.volume.policy };
      generation = room.0;
      here = omega (arith, near);
      back = back_near st.space.last_dp (length (planned Dp))
          (omega (arith, near, ap (λ (e : Ends). e.dp) tied.ends)) tied.back;
    }

    module _ (p : Planned) (items : (part : Part) → part_items part p.made ≡ planned part) where
      -- what is held is what these plans make
      held_for : IsStock (tape_of (cartridge_of p.made)) g on st old.stock
      held_for = go_by_the_tape.everywhere (tape_on planned) (tape_of (cartridge_of p.made)) g on st old.stock
          (λ part pos byte. sym (plans_agree.tapes p.made part pos byte
          ∙ ap (λ (l : List Item). byte_in (slice_get l pos) byte) (items part))) tied.stock

      -- the index of a sync is due, by a plan with the mounted label
      pub due_with : fixed.mounted.label ≡ p.labels.ip
          → IsNextDue p (drive.limits fixed.first) (view_of fixed before old) at
      due_with label_is = index_due p (drive.limits fixed.first) (view_of fixed before old) on old.stock at
          tied.mount.valid label_is held_for good behind can_tell
          (are_short.synced g on st at tied.limits (omega (arith, tied.mount.blocks.0)) tied.mount.blocks.1
          changed fits)

-- ---- of what is submitted

module _ {D : Type 0} (drive : Ghosts D) (fixed : Fixed D) (plan : Plan drive fixed) (planned : Items)
    (before next : Option Moment) (who nth : ℕ) (at : Moment) (answer : Submitted) (old new : Parts D)
    (sub : IsSubmission drive fixed plan planned before next who nth calls.Sync at answer old new) where
  -- the index of a sync that fits is due where anything changed before it
  pub due_next : is_over (rules (given_in drive fixed)) (on_in drive fixed old) (standing_in drive fixed old).space
      (ask_of (given_in drive fixed) (standing_in drive fixed old) calls.Sync at) ≡ false
      → (standing_in drive fixed old).space.changed ≡ true
      → (can : CanServe drive fixed) → IsNextDue (plan can) (drive.limits fixed.first) (view_of fixed before old) at
  due_next fits changed can =
      let known = sub.planned_as can in
      due_with drive fixed planned before at old sub.tied sub.good fits changed (plan can) known.items known.label_is
