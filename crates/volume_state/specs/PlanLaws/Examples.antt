-- A small plan, on which the definitions are tried.
use Rattle.std.specs.Prelude.{◌≡◌, ℕ, List, [], ◌∷◌, Some, None}
use Rattle.tape_types.specs.declared.cartridges.Cartridge.{Cartridge}
use Rattle.tape_types.specs.declared.cartridges.Item.{Item}
use Rattle.tape_types.specs.declared.cartridges.Item.TheVariants as item
use Rattle.tape_types.specs.declared.cartridges.Note.TheVariants.{Absent}
use Rattle.tape_types.specs.declared.cartridges.Part.TheVariants.{Ip, Dp}
use Rattle.tape_types.specs.declared.cartridges.Place.{Place}
use Rattle.extent_map.specs.declared.pieces.Piece.TheVariants.{Zeros, Stored}
use Rattle.tape_layout.specs.declared.ops.Op.{Op}
use Rattle.tape_layout.specs.declared.ops.Op.TheVariants as ops
use Rattle.tape_layout.specs.Ops.{held_in}
use Rattle.volume_state.specs.PlanLaws.Planned.{IsDoneAt, IsOnWay, IsPlan, IsPutBy, Items, LieBelow, ends_in, tape_on, with_ops}

abbrev pub on_dp : ℕ → Place
on_dp pos = record { part = Dp; pos = pos }

-- a mark on the index partition, and a block on the data partition
abbrev pub made : Items
made Ip = item.Mark ∷ []
made Dp = item.Block (7 ∷ []) ∷ []

-- a block, a mark and a flush
abbrev pub three_ops : List Op
three_ops = ops.Put (on_dp 1) (8 ∷ 9 ∷ []) ∷ ops.Mark (on_dp 2) ∷ ops.Flush (on_dp 3) ∷ []

-- the mark first
abbrev pub turned : List Op
turned = ops.Mark (on_dp 2) ∷ ops.Put (on_dp 1) (8 ∷ 9 ∷ []) ∷ ops.Flush (on_dp 3) ∷ []

abbrev pub planned : Items
planned = with_ops three_ops made

-- a cartridge with these items on the data partition
abbrev pub with_dp : List Item → Cartridge
with_dp items = record { ip = item.Mark ∷ []; dp = items; vcr = 0; note_ip = Absent; note_dp = Absent }

-- A torn item behind what was made does no harm, and what was made may not be lost. A flush puts nothing.
pub record TellsPlans : Type 0 where
  pub torn : IsOnWay planned three_ops (with_dp (item.Block (7 ∷ []) ∷ item.Torn ∷ []))
  pub lost : IsOnWay planned three_ops (with_dp []) → ⊥
  pub other : IsOnWay planned three_ops (with_dp (item.Block (6 ∷ []) ∷ [])) → ⊥
  pub order : IsPlan planned turned → ⊥
  pub ends : ends_in planned ≡ record { ip = 1; dp = 3 }
  pub byte : tape_on planned Dp 1 1 ≡ Some 9
  pub mark : tape_on planned Dp 2 0 ≡ None
  pub held : held_in (on_dp 1) three_ops ≡ Some (8 ∷ 9 ∷ [])
  pub put : IsPutBy three_ops (on_dp 2)
  pub not_held : held_in (on_dp 2) three_ops ≡ None
  pub flush : IsPutBy three_ops (on_dp 3) → ⊥
  pub done : IsDoneAt planned three_ops (on_dp 0)
  pub to_come : IsDoneAt planned three_ops (on_dp 1) → ⊥
  pub below : LieBelow (ends_in planned) (Zeros 5 ∷ Stored (on_dp 2) 0 4 ∷ [])
  pub behind : LieBelow (ends_in planned) (Stored (on_dp 3) 0 4 ∷ []) → ⊥
