-- What an op that was done, or failed, leaves on tape.
use Rattle.std.specs.Prelude.{◌≡◌, ℕ, ◌≤◌, false, List, [], ◌∷◌, ◌++◌, length, take, Option, Some, None, IfSome, slice_get}
use Rattle.std.proofs.Common.{refl, sym, ap, subst, ◌∙◌, arith, length-take}
use Rattle.std.proofs.lemmas.Option.{same_Some, none-some}
use Rattle.tape_types.proofs.LongerLists.{slice_get-seam}
use Rattle.tape_types.specs.Cartridges.{items_of, next}
use Rattle.tape_types.specs.declared.cartridges.Cartridge.{Cartridge}
use Rattle.tape_types.specs.declared.cartridges.Item.{Item}
use Rattle.tape_types.specs.declared.cartridges.Item.TheVariants as item
use Rattle.tape_types.specs.declared.cartridges.Place.{Place}
use Rattle.tape_drive.specs.Commands.{item_at}
use Rattle.tape_drive.specs.declared.drive.Drive.{Ghosts}
use Rattle.head_core.specs.Steps.{AfterOp, AfterPut, IsEndOfOp, IsEndOfPut, IsOpStep, head_after}
use Rattle.head_core.specs.declared.work.StepDone.{StepDone}
use Rattle.head_core.specs.declared.work.StepDone.TheVariants as ends
use Rattle.tape_layout.specs.Ops.{is_flush, place_of}
use Rattle.tape_layout.specs.declared.ops.Op.{Op}
use Rattle.tape_layout.specs.declared.ops.Op.TheVariants.{Flush, Mark, Put}
use Rattle.promises.specs.ServingPromise.Steps.{item_of}
use Rattle.promises.specs.CrashLaws.Changes.{IsWell}

-- ---- the item

at_last : (pos : ℕ) (x : Item) (old new : List Item) → pos ≤ length old → new ≡ take pos old ++ x ∷ []
    → slice_get new pos ≡ Some x
at_last pos x old new le is =
    let long : length (take pos old) ≡ pos = omega (arith, length-take pos old, le) in
    ap (λ l. slice_get l pos) is ∙ ap (λ n. slice_get (take pos old ++ x ∷ []) n) (sym long) ∙ slice_get-seam (take pos old) x

put_at_place : (at : Place) (x : Item) (end : StepDone) (old new : Cartridge) → IsWell end
    → at.pos ≤ length (items_of at.part old) → AfterPut at x end old new → item_at at new ≡ Some x
put_at_place at x (ends.Read got) old new well le h = absurd h
put_at_place at x ends.Wrote old new well le h = at_last at.pos x (items_of at.part old) (items_of at.part new) le h.items
put_at_place at x ends.Flushed old new well le h = absurd h
put_at_place at x (ends.Failed counts) old new well le h = absurd well

-- an item that an op has written stands at its place
pub op_stands : (op : Op) (end : StepDone) (old new : Cartridge) → IsWell end
    → (place_of op).pos ≤ length (items_of (place_of op).part old) → AfterOp op end old new
    → IfSome (item_of op) (λ x. item_at (place_of op) new ≡ Some x)
op_stands (Put at bytes) end old new well le h = put_at_place at (item.Block bytes) end old new well le h
op_stands (Mark at) end old new well le h = put_at_place at item.Mark end old new well le h
op_stands (Flush at) end old new well le h = tt

-- ---- the head

put_behind : (at : Place) (end : StepDone) (head : Option Place) → IsWell end → IsEndOfPut end
    → head_after at end head ≡ Some (next at)
put_behind at (ends.Read got) head well is = absurd is
put_behind at ends.Wrote head well is = refl
put_behind at ends.Flushed head well is = absurd is
put_behind at (ends.Failed counts) head well is = absurd well

-- once an op has put an item, the head stands behind its place
pub op_behind : (op : Op) (end : StepDone) (head : Option Place) → IsWell end → IsEndOfOp op end → is_flush op ≡ false
    → head_after (place_of op) end head ≡ Some (next (place_of op))
op_behind (Put at bytes) end head well is none = put_behind at end head well is
op_behind (Mark at) end head well is none = put_behind at end head well is
op_behind (Flush at) end head well is none = absurd (cc)

-- ---- what is told

module _ {D : Type 0} (drive : Ghosts D) (op : Op) (end : StepDone) (before now : D) (step : IsOpStep drive op end before now) where
  -- a cartridge that is told now was told before
  pub was_told : (c : Cartridge) → drive.held now ≡ Some c
      → (b : Cartridge) × (drive.held before ≡ Some b) × AfterOp op end b c
  was_told c is = by (drive.held before) refl
    where
      by : (o : Option Cartridge) → drive.held before ≡ o
          → (b : Cartridge) × (drive.held before ≡ Some b) × AfterOp op end b c
      by None e = absurd (none-some c (sym (step.made.untold e) ∙ is))
      by (Some b) e = let t = step.told b e in (b, e, subst (AfterOp op end b) (same_Some t.0 c (sym t.1 ∙ is)) t.2)

  -- a drive that tells nothing after a step told nothing before it
  pub was_untold : drive.held now ≡ None → drive.held before ≡ None
  was_untold none = by (drive.held before) refl
    where
      by : (o : Option Cartridge) → drive.held before ≡ o → drive.held before ≡ None
      by None e = e
      by (Some b) e = let t = step.told b e in absurd (none-some t.0 (sym none ∙ t.1))
