-- The order of places and arrivals, as numbers.
use Rattle.std.specs.Prelude.{ℕ, ◌+◌, ◌*◌, ◌^◌, ◌<◌, List, [], ◌∷◌}
use Rattle.std.specs.List.{AllByRecursion}
use Rattle.tape_types.specs.declared.cartridges.Part.{Part}
use Rattle.tape_types.specs.declared.cartridges.Part.TheVariants.{Ip, Dp}
use Rattle.tape_types.specs.declared.cartridges.Place.{Place}
use Rattle.head_queue.specs.Waiting.{Waiting}

abbrev pub part_number : Part → ℕ
part_number Ip = 0
part_number Dp = 1

-- the partition, the position, and then the arrival
abbrev pub rank_of : Place → ℕ → ℕ
rank_of at arrival = (part_number at.part * 2 ^ 64 + at.pos) * 2 ^ 64 + arrival

abbrev pub rank : Waiting → ℕ
rank w = rank_of w.place w.arrival

-- its numbers fit 64 bits
pub record IsFit (w : Waiting) : Type 0 where
  pub pos : w.place.pos < 2 ^ 64
  pub arrival : w.arrival < 2 ^ 64

-- each stands before all that follow
abbrev pub Rising : List Waiting → Type 0
Rising [] = Unit {0}
Rising (w ∷ ws) = AllByRecursion (λ v. rank w < rank v) ws × Rising ws
