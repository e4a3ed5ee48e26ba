-- Which places are in reach after a step.
use Rattle.std.proofs.Common.{ℕ, ◌+◌, ◌≤◌, ◌<◌, ◌≡◌, ◌∙◌, List, length, Option, Some, None, refl, sym, ap, subst, arith}
use Rattle.std.specs.Prelude.{IfSome}
use Rattle.std.proofs.lemmas.List.{length-take, length-take-le}
use Rattle.tape_types.specs.declared.cartridges.Cartridge.{Cartridge}
use Rattle.tape_types.specs.declared.cartridges.Item.{Item}
use Rattle.tape_types.specs.declared.cartridges.Limits.{Limits}
use Rattle.tape_types.specs.declared.cartridges.Place.{Place}
use Rattle.tape_types.specs.Cartridges.{capacity, items_of, next}
use Rattle.tape_drive.specs.declared.drive.Drive.{Ghosts}
use Rattle.tape_layout.specs.declared.ops.Op.{Op}
use Rattle.tape_layout.specs.declared.ops.Op.TheVariants as op
use Rattle.tape_layout.specs.Ops.{HasRoom, place_of}
use Rattle.head_core.specs.declared.work.StepDone.{StepDone}
use Rattle.head_core.specs.declared.work.StepDone.TheVariants as done
use Rattle.head_core.specs.Laws.{IsWithin, front_of}
use Rattle.head_core.specs.Steps.{CanDo, IsInReach, IsOpStep, IsReadStep}
use Rattle.head_core.proofs.Fronts.{ops_keep}

-- a cartridge whose front of a place is that of another one reaches as far
as_far : (at : Place) (c d : Cartridge) → IsWithin at c → front_of at d ≡ front_of at c → IsWithin at d
as_far at c d within same =
    let long : length (front_of at d) ≡ at.pos =
    ap (λ (l : List Item). length l) same ∙ length-take-le at.pos (items_of at.part c) within in
    omega (arith, long, length-take at.pos (items_of at.part d))

-- an op that a layout gives, of a volume whose blocks have at most 1,048,576 bytes, can be done where its place is at most
-- behind the last item
can_do : (o : Op) (size : ℕ) (limits : Limits) (held : Option Cartridge) → HasRoom limits size o → size ≤ 1048576
    → IfSome held (λ c. IsWithin (place_of o) c) → CanDo o limits held
can_do (op.Put at bytes) size limits held room small within =
    (record { room = room.0; within = within }, room.1, omega (arith, room.2, small))
can_do (op.Mark at) size limits held room small within = record { room = room; within = within }
can_do (op.Flush at) size limits held room small within = tt

module _ {D : Type 0} (drive : Ghosts D) where
  -- what holds of the cartridge that a drive tells now, from the one that it told before
  told_on : (P Q : Cartridge → Type 0) (a b : D) (h : Option Cartridge) → drive.held a ≡ h → IfSome h P
      → (drive.held a ≡ None → drive.held b ≡ None)
      → ((c : Cartridge) → drive.held a ≡ Some c → (d : Cartridge) × (drive.held b ≡ Some d) × (P c → Q d))
      → IfSome (drive.held b) Q
  told_on P Q a b None is p untold told = subst (λ (h : Option Cartridge). IfSome h Q) (sym (untold is)) tt
  told_on P Q a b (Some c) is p untold told =
      let now = told c is in subst (λ (h : Option Cartridge). IfSome h Q) (sym now.1) (now.2 p)

  -- the place of an op stays in reach, however the op ended
  pub still_in_reach : (o : Op) (end : StepDone) (a b : D) → IsOpStep drive o end a b
      → IsInReach (place_of o) (drive.limits a) (drive.held a) → IsInReach (place_of o) (drive.limits b) (drive.held b)
  still_in_reach o end a b step reach = record {
    room = subst (λ (l : Limits). (place_of o).pos < capacity (place_of o).part l) (sym step.made.limits) reach.room;
    within = told_on (λ c. IsWithin (place_of o) c) (λ c. IsWithin (place_of o) c) a b (drive.held a) refl reach.within
        step.made.untold
        (λ (c : Cartridge) is. let now = step.told c is in
        (now.0, now.1, λ within. as_far (place_of o) c now.0 within (ops_keep.kept o end c now.0 within now.2).front));
  }

  -- so the op can be done again
  pub can_do_again : (o : Op) (end : StepDone) (a b : D) → IsOpStep drive o end a b
      → CanDo o (drive.limits a) (drive.held a) → CanDo o (drive.limits b) (drive.held b)
  can_do_again (op.Put at bytes) end a b step can = (still_in_reach (op.Put at bytes) end a b step can.0, can.1, can.2)
  can_do_again (op.Mark at) end a b step can = still_in_reach (op.Mark at) end a b step can
  can_do_again (op.Flush at) end a b step can = tt

  -- a place in reach before a read is in reach after it
  pub can_read_again : (at : Place) (end : StepDone) (a b : D) → IsReadStep drive at end a b
      → IsInReach at (drive.limits a) (drive.held a) → IsInReach at (drive.limits b) (drive.held b)
  can_read_again at end a b step reach = record {
    room = subst (λ (l : Limits). at.pos < capacity at.part l) (sym step.made.limits) reach.room;
    within = subst (λ (h : Option Cartridge). IfSome h (λ c. at.pos ≤ length (items_of at.part c))) (sym step.looks.held) reach.within;
  }

  -- the place behind a block or a mark that was written is in reach, where it lies below the capacity
  next_in_reach : (at : Place) (a b : D) → drive.limits b ≡ drive.limits a → at.pos + 1 < capacity at.part (drive.limits a)
      → IsInReach at (drive.limits a) (drive.held a) → (drive.held a ≡ None → drive.held b ≡ None)
      → ((c : Cartridge) → drive.held a ≡ Some c → (d : Cartridge) × (drive.held b ≡ Some d)
      × (IsWithin at c → length (items_of at.part d) ≡ at.pos + 1))
      → IsInReach (next at) (drive.limits b) (drive.held b)
  next_in_reach at a b limits room reach untold told = record {
    room = subst (λ (l : Limits). at.pos + 1 < capacity at.part l) (sym limits) room;
    within = told_on (λ c. IsWithin at c) (λ c. at.pos + 1 ≤ length (items_of at.part c)) a b (drive.held a) refl reach.within
        untold
        (λ (c : Cartridge) is. let now = told c is in (now.0, now.1, λ within. omega (arith, now.2 within)));
  }

  pub put_then : (at : Place) (bytes : List ℕ) (a b : D) → IsOpStep drive (op.Put at bytes) done.Wrote a b
      → at.pos + 1 < capacity at.part (drive.limits a) → IsInReach at (drive.limits a) (drive.held a)
      → IsInReach (next at) (drive.limits b) (drive.held b)
  put_then at bytes a b step room reach = next_in_reach at a b step.made.limits room reach step.made.untold
      (λ (c : Cartridge) is. let now = step.told c is in
      (now.0, now.1, λ within. (ops_keep.put at bytes c now.0 within now.2).last))

  pub mark_then : (at : Place) (a b : D) → IsOpStep drive (op.Mark at) done.Wrote a b
      → at.pos + 1 < capacity at.part (drive.limits a) → IsInReach at (drive.limits a) (drive.held a)
      → IsInReach (next at) (drive.limits b) (drive.held b)
  mark_then at a b step room reach = next_in_reach at a b step.made.limits room reach step.made.untold
      (λ (c : Cartridge) is. let now = step.told c is in
      (now.0, now.1, λ within. (ops_keep.mark at c now.0 within now.2).last))
