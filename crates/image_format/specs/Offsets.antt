-- Where the records of a partition begin, and what contracts see of a room for them.
use Rattle.std.specs.Prelude.{ℕ, ◌+◌, ◌≡◌, List, [], ◌∷◌}
use Rattle.tape_types.specs.declared.cartridges.Item.{Item}
use Rattle.tape_types.specs.declared.cartridges.Limits.{Limits}
use Rattle.tape_types.specs.declared.cartridges.Part.{Part}
use Rattle.tape_types.specs.declared.cartridges.Part.TheVariants.{Ip, Dp}
use Rattle.image_format.specs.Records.{width}

-- where the records of items begin, of which the first one begins at a place
abbrev pub offsets_from : ℕ → List Item → List ℕ
offsets_from at [] = []
offsets_from at (x ∷ xs) = at ∷ offsets_from (at + width x) xs

-- a room: the capacities, and for each partition where its records begin
pub record Offsets : Type 0 where
  pub limits : Limits
  pub ip : List ℕ
  pub dp : List ℕ

abbrev pub offsets_of : Part → Offsets → List ℕ
offsets_of Ip room = room.ip
offsets_of Dp room = room.dp

-- the offsets of one partition alone may be others
abbrev pub KeepsOther : Part → Offsets → Offsets → Type 0
KeepsOther Ip old new = (new.limits ≡ old.limits) × (new.dp ≡ old.dp)
KeepsOther Dp old new = (new.limits ≡ old.limits) × (new.ip ≡ old.ip)

-- the room with other offsets for a partition
abbrev pub with_offsets : Part → List ℕ → Offsets → Offsets
with_offsets Ip offsets room = record { limits = room.limits; ip = offsets; dp = room.dp }
with_offsets Dp offsets room = record { limits = room.limits; ip = room.ip; dp = offsets }
