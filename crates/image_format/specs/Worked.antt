-- Images by hand.
use Rattle.std.specs.Prelude.{ℕ, Bool, true, false, List, [], ◌∷◌, ◌++◌, replicate, codes}
use Rattle.tape_types.specs.declared.cartridges.Cartridge.{Cartridge}
use Rattle.tape_types.specs.declared.cartridges.Item.{Item}
use Rattle.tape_types.specs.declared.cartridges.Item.TheVariants.{Block, Mark, Torn}
use Rattle.tape_types.specs.declared.cartridges.Limits.{Limits}
use Rattle.tape_types.specs.declared.cartridges.Note.{Note}
use Rattle.tape_types.specs.declared.cartridges.Note.TheVariants.{Absent, Kept}
use Rattle.byte_disk.specs.Files.{Files}
use Rattle.image_format.specs.declared.values.Half.{Half}
use Rattle.image_format.specs.declared.values.SlotValue.{SlotValue}
use Rattle.image_format.specs.Records.{record_bytes}
use Rattle.image_format.specs.Values.{value_bytes}

abbrev pub small : Limits
small = record { cap_ip = 4; cap_dp = 4 }

abbrev pub half : ℕ → ℕ → Bool → Half
half count end torn = record { count = count; end = end; torn = torn; note = Absent }

abbrev pub slot : ℕ → ℕ → Half → SlotValue
slot serial vcr ip = record { serial = serial; vcr = vcr; ip = ip; dp = half 0 0 false }

abbrev pub raw : ℕ → SlotValue → List ℕ
raw gate s = gate ∷ value_bytes s

abbrev pub closed : List ℕ
closed = replicate 256 0

abbrev pub abc : Item
abc = Block (codes "abc")

abbrev pub with_ip : List ℕ → List ℕ → Files
with_ip ip cm = record { ip = ip; dp = []; cm = cm }

abbrev pub cartridge : List Item → ℕ → Cartridge
cartridge ip vcr = record { ip = ip; dp = []; vcr = vcr; note_ip = Absent; note_dp = Absent }

abbrev pub first_slot : SlotValue
first_slot = slot 1 0 (half 0 0 false)

abbrev pub second_slot : SlotValue
second_slot = slot 2 1 (half 0 0 false)

abbrev pub third_slot : SlotValue
third_slot = slot 3 1 (half 1 8 false)

-- an image that was just made; with a block that isn't flushed; and once it is
abbrev pub made : Files
made = with_ip [] (raw 1 first_slot ++ closed)

abbrev pub one_written : Files
one_written = with_ip (record_bytes abc) (raw 1 first_slot ++ raw 1 second_slot)

abbrev pub one_flushed : Files
one_flushed = with_ip (record_bytes abc) (raw 1 third_slot ++ raw 1 second_slot)

-- the commit of that flush, cut off in its body and in its gate
abbrev pub in_body : ℕ → Files
in_body gate = with_ip (record_bytes abc) (raw gate (slot 9 7 (half 3 2 true)) ++ raw 1 second_slot)

abbrev pub in_gate : ℕ → Files
in_gate gate = with_ip (record_bytes abc) (raw gate third_slot ++ raw 1 second_slot)

-- a block with something behind a Torn
abbrev pub behind_torn : Files
behind_torn = with_ip (record_bytes abc ++ record_bytes Torn ++ record_bytes Mark)
    (raw 1 (slot 5 3 (half 3 18 false)) ++ raw 1 second_slot)

abbrev pub torn_end : Bool → Files
torn_end torn = with_ip (record_bytes abc ++ record_bytes Mark) (raw 1 (slot 3 2 (half 1 8 torn)) ++ raw 1 second_slot)

-- images with one thing wrong
abbrev pub of_slot : Half → Files
of_slot ip = with_ip (record_bytes abc ++ record_bytes Mark) (raw 1 (slot 3 2 ip) ++ closed)

-- an image with records and a note on each partition
abbrev pub note_by : ℕ → Note
note_by byte = Kept (replicate 70 byte)

abbrev pub full_with : List ℕ → List ℕ → Files
full_with ip dp = record {
  ip = ip;
  dp = dp;
  cm = raw 1 (record {
    serial = 4;
    vcr = 6;
    ip = record { count = 1; end = 5; torn = true; note = note_by 105 };
    dp = record { count = 2; end = 13; torn = false; note = note_by 100 };
  }) ++ closed;
}

abbrev pub full_cartridge : Cartridge
full_cartridge = record {
  ip = Mark ∷ Torn ∷ [];
  dp = abc ∷ Mark ∷ [];
  vcr = 6;
  note_ip = note_by 105;
  note_dp = note_by 100;
}
