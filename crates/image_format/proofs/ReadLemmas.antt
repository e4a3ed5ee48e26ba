-- What is read of a disk is what its bytes mean.
use Rattle.std.proofs.Common.{◌≡◌, ℕ, Bool, true, false, ◌==◌, ◌&&◌, List, length, Option, Some, Result, Ok, Err, refl, sym, ap, ◌∙◌, arith}
use Rattle.std.specs.Prelude.{if◌then◌else◌}
use Rattle.std.proofs.lemmas.Bool.{le-ltb}
use Rattle.tape_types.specs.declared.cartridges.Cartridge.{Cartridge}
use Rattle.tape_types.specs.declared.cartridges.Item.{Item}
use Rattle.tape_types.specs.declared.cartridges.Limits.{Limits}
use Rattle.tape_types.specs.declared.cartridges.Part.TheVariants.{Ip, Dp}
use Rattle.byte_disk.specs.Files.{Files}
use Rattle.image_slots.specs.Slots.{HasValue}
use Rattle.image_slots.proofs.Choosing.{value_chosen}
use Rattle.image_format.specs.declared.refusal.ReadErr.{ReadErr}
use Rattle.image_format.specs.declared.refusal.ReadErr.TheVariants.{Disk, Refused}
use Rattle.image_format.specs.declared.refusal.Refusal.{Refusal}
use Rattle.image_format.specs.declared.refusal.Refusal.TheVariants.{Header, Record}
use Rattle.image_format.specs.declared.values.SlotValue.{SlotValue}
use Rattle.image_format.specs.Images.{blank, header, header_by, image_by, joined}
use Rattle.image_format.specs.Offsets.{KeepsOther, Offsets}
use Rattle.image_format.specs.Reading.{AreSought, IsBlamed, IsFoundIn, IsHeaderOf, IsRead}
use Rattle.image_format.specs.Records.{items_in}

abbrev refused_by : Refusal → Result Cartridge Refusal
refused_by why = Err why

-- the records of both partitions, one after the other
module _ (s : SlotValue) (d : Files) where
  -- a fault on the index partition is the first one at fault
  pub first_faulty : (T S : Type 0) (why : ReadErr) (offsets : List ℕ) (room : Offsets) → IsFoundIn {T = S} Ip s.ip d.ip (Err why) offsets
      → AreSought {T = T} s d (Err why) room
  first_faulty T S (Refused why) offsets room found =
      ap (λ (r : Result (List Item) ℕ). joined s r (items_in s.dp d.dp)) found.2 ∙ ap refused_by (sym found.1)
  first_faulty T S Disk offsets room found = tt

  -- where the index partition's records are found, the data partition decides
  pub both_sought : (T S : Type 0) (end : Result T ReadErr) (one : S) (mid new : Offsets) → IsFoundIn {T = S} Ip s.ip d.ip (Ok one) mid.ip
      → KeepsOther Dp mid new → IsFoundIn Dp s.dp d.dp end new.dp → AreSought s d end new
  both_sought T S (Ok x) one mid new first kept second =
      (first.0, second.0, record { in_ip = first.1; in_dp = second.1; at_ip = kept.1 ∙ first.2; at_dp = second.2 })
  both_sought T S (Err (Refused why)) one mid new first kept second =
      ap (λ (r : Result (List Item) ℕ). joined s r (items_in s.dp d.dp)) first.1
      ∙ ap (λ (r : Result (List Item) ℕ). joined s (Ok first.0) r) second.2
      ∙ ap refused_by (sym second.1)
  both_sought T S (Err Disk) one mid new first kept second = tt

-- what the header says
module _ (limits : Limits) (d : Files) (raw : List ℕ) (has : HasValue d.cm raw) where
  is_said : (o : Option SlotValue) → o ≡ header_by limits (Some raw) → header limits d.cm ≡ o
  is_said o e = ap (header_by limits) (value_chosen d.cm raw has) ∙ sym e

  not_blank : (t : Bool) → (if t && false then Ok blank else image_by d (header limits d.cm)) ≡ image_by d (header limits d.cm)
  not_blank true = refl
  not_blank false = refl

  -- the header of a disk with a value says what that value says
  pub header_is : (o : Option SlotValue) → o ≡ header_by limits (Some raw) → IsHeaderOf limits d o
  header_is o e = record {
    header = is_said o e;
    image =
        ap (λ (t : Bool). if ((length d.ip == 0) && (length d.dp == 0)) && t then Ok blank else image_by d (header limits d.cm))
        (le-ltb (length d.cm) 512 (omega (arith, has.size)))
        ∙ not_blank ((length d.ip == 0) && (length d.dp == 0))
        ∙ ap (image_by d) (is_said o e);
  }

-- and then the records
module _ (limits : Limits) (d : Files) (s : SlotValue) (said : IsHeaderOf limits d (Some s)) where
  -- a header and all records that are found are what is read of the disk
  pub read_found : (T : Type 0) (one : T) (room : Offsets) → AreSought s d (Ok one) room → IsRead limits d (Ok s) room
  read_found T one room (ip, dp, found) = (
    ip,
    dp,
    said.header,
    found,
    said.image
        ∙ ap (λ (r : Result (List Item) ℕ). joined s r (items_in s.dp d.dp)) found.in_ip
        ∙ ap (λ (r : Result (List Item) ℕ). joined s (Ok ip) r) found.in_dp,
  )

  -- a record at fault is why nothing is read of the disk
  pub read_refused : (T : Type 0) (why : ReadErr) (room : Offsets) → AreSought {T = T} s d (Err why) room → IsRead limits d (Err why) room
  read_refused T (Refused why) room found = said.image ∙ found
  read_refused T Disk room found = tt

-- why nothing was read is told as before, whatever the header's reason may be
pub blamed : (P : Type 0) (before now : ℕ) (why : ReadErr) → IsBlamed ⊥ before now why → IsBlamed P before now why
blamed P before now (Refused Header) why = absurd why
blamed P before now (Refused (Record part n)) why = tt
blamed P before now Disk rose = rose
