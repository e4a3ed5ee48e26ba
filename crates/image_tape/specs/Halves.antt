-- What a value says of either partition, and values that differ in one field.
use Rattle.std.specs.Prelude.{ℕ, Bool}
use Rattle.tape_types.specs.declared.cartridges.Note.{Note}
use Rattle.tape_types.specs.declared.cartridges.Part.{Part}
use Rattle.tape_types.specs.declared.cartridges.Part.TheVariants.{Ip, Dp}
use Rattle.image_format.specs.declared.values.Half.{Half}
use Rattle.image_format.specs.declared.values.SlotValue.{SlotValue}

abbrev pub half_of : Part → SlotValue → Half
half_of Ip s = s.ip
half_of Dp s = s.dp

abbrev pub with_half : Part → Half → SlotValue → SlotValue
with_half Ip half s = record { serial = s.serial; vcr = s.vcr; ip = half; dp = s.dp }
with_half Dp half s = record { serial = s.serial; vcr = s.vcr; ip = s.ip; dp = half }

abbrev pub with_serial : ℕ → SlotValue → SlotValue
with_serial serial s = record { serial = serial; vcr = s.vcr; ip = s.ip; dp = s.dp }

abbrev pub with_vcr : ℕ → SlotValue → SlotValue
with_vcr vcr s = record { serial = s.serial; vcr = vcr; ip = s.ip; dp = s.dp }

abbrev pub noted : Note → Half → Half
noted note half = record { count = half.count; end = half.end; torn = half.torn; note = note }

abbrev pub with_note : Part → Note → SlotValue → SlotValue
with_note part note s = with_half part (noted note (half_of part s)) s

-- the partition ends behind so many records, in this place
abbrev pub ended : ℕ → ℕ → Bool → Half → Half
ended count end torn half = record { count = count; end = end; torn = torn; note = half.note }
