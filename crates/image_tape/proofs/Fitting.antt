-- The cartridge that reads keeps to the capacities.
use Rattle.std.proofs.Common.{◌≡◌, ℕ, Bool, true, false, List, [], ◌++◌, length, Option, Some, None, Result, Ok, IfSome, refl, sym, subst, arith}
use Rattle.std.specs.Prelude.{if◌then◌else◌}
use Rattle.std.specs.List.{All}
use Rattle.std.proofs.lemmas.List.{length-append}
use Rattle.std.proofs.lemmas.List.Elements.{All-append, All-cons, All-nil}
use Rattle.tape_types.specs.Cartridges.{FitsLimits, HoldsAtMost, IsItem}
use Rattle.tape_types.specs.declared.cartridges.Cartridge.{Cartridge}
use Rattle.tape_types.specs.declared.cartridges.Item.{Item}
use Rattle.tape_types.specs.declared.cartridges.Item.TheVariants as item
use Rattle.tape_types.specs.declared.cartridges.Limits.{Limits}
use Rattle.byte_disk.specs.Files.{Files}
use Rattle.byte_disk.specs.declared.disk.ByteDisk.{Ghosts}
use Rattle.image_format.specs.declared.refusal.Refusal.{Refusal}
use Rattle.image_format.specs.declared.values.Half.{Half}
use Rattle.image_format.specs.declared.values.SlotValue.{SlotValue}
use Rattle.image_format.specs.Images.{Fits, header, image_by, tail_of}
use Rattle.image_format.specs.Offsets.{Offsets}
use Rattle.image_format.specs.Records.{AreRecords}
use Rattle.image_format.specs.Values.{flag}
use Rattle.image_tape.specs.declared.doubt.Doubt.{Doubt}
use Rattle.image_tape.specs.declared.doubt.Doubt.TheVariants.{Settled, Open}
use Rattle.image_tape.specs.Tape.{Holds, IsKept, Stands, Suits, Tells, View, given, held_by, held_of, reading_by, says}
use Rattle.image_tape.proofs.Opened.{is_whole, whole}

tail_items : (t : Bool) → All IsItem (tail_of t)
tail_items true = All-cons IsItem item.Torn [] tt (All-nil IsItem)
tail_items false = All-nil IsItem

tail_flag : (t : Bool) → length (tail_of t) ≡ flag t
tail_flag true = refl
tail_flag false = refl

half_fits : (cap : ℕ) (h : Half) (file : List ℕ) (items : List Item) → AreRecords h file items → Fits cap h → HoldsAtMost cap (items ++ tail_of h.torn)
half_fits cap h file items are fits = record {
  count = omega (arith, length-append items (tail_of h.torn), are.count, tail_flag h.torn, fits);
  each = All-append IsItem items (tail_of h.torn) are.each (tail_items h.torn);
}

stands_fits : {limits : Limits} {said reads : SlotValue} {room : Offsets} {leaves : Files → Type 0} {d : Files} (st : Stands limits said reads room leaves d)
    → Fits limits.cap_ip reads.ip → Fits limits.cap_dp reads.dp → FitsLimits limits (whole st)
stands_fits {limits = limits} {reads = reads} {d = d} st ip dp = record {
  ip = half_fits limits.cap_ip reads.ip d.ip st.ip st.in_ip.records ip;
  dp = half_fits limits.cap_dp reads.dp d.dp st.dp st.in_dp.records dp;
}

abbrev read_as : Cartridge → Result Cartridge Refusal
read_as c = Ok c

if_given : (limits : Limits) (r : Result Cartridge Refusal) (c : Cartridge) → r ≡ Ok c → FitsLimits limits c → IfSome (given r) (λ x. FitsLimits limits x)
if_given limits r c is fits = subst (λ (o : Result Cartridge Refusal). IfSome (given o) (λ x. FitsLimits limits x)) (sym is) fits

either_fits : (limits : Limits) (b : Bool) (d : Files) (reads after : SlotValue) (c e : Cartridge) → image_by d (Some reads) ≡ Ok c → image_by d (Some after) ≡ Ok e
    → FitsLimits limits c → FitsLimits limits e → IfSome (given (image_by d (Some (if b then reads else after)))) (λ x. FitsLimits limits x)
either_fits limits true d reads after c e is also one two = if_given limits (image_by d (Some reads)) c is one
either_fits limits false d reads after c e is also one two = if_given limits (image_by d (Some after)) e also two

fits_in : {D : Type 0} (doubt : Doubt) (v : View D) (leaves : Files → Type 0) (d : Files) → Holds v.room v.reads → Suits doubt v → Tells doubt v leaves d
    → IfSome (given (image_by d (Some (reading_by doubt v.base v.reads (header v.room.limits d.cm))))) (λ c. FitsLimits v.room.limits c)
fits_in Settled v leaves d holds suits h = if_given v.room.limits (image_by d (Some v.reads)) (whole h.0) (is_whole h.0) (stands_fits h.0 holds.fits_ip holds.fits_dp)
fits_in (Open value reads) v leaves d holds suits h =
    either_fits v.room.limits (says v.base (header v.room.limits d.cm)) d v.reads reads (whole h.0) (whole h.1) (is_whole h.0) (is_whole h.1)
    (stands_fits h.0 holds.fits_ip holds.fits_dp) (stands_fits h.1 suits.fits_ip suits.fits_dp)

module _ {D : Type 0} (disk : Ghosts D) where
  fits_by : (v : View D) → IsKept disk v → (o : Option Files) → disk.held v.slots.disk ≡ o → IfSome (held_by v o) (λ c. FitsLimits v.room.limits c)
  fits_by v kept None is = tt
  fits_by v kept (Some d) is = fits_in v.doubt v (disk.leaves v.slots.disk) d kept.holds kept.suits (kept.tells d is)

  -- the cartridge that reads is within the capacities
  pub held_fits : (v w : View D) (limits : Limits) → v ≡ w → IsKept disk v → limits ≡ v.room.limits → IfSome (held_of disk w) (λ c. FitsLimits limits c)
  held_fits v w limits is kept same = subst (λ (x : View D). IfSome (held_of disk x) (λ c. FitsLimits limits c)) is
      (subst (λ (l : Limits). IfSome (held_of disk v) (λ c. FitsLimits l c)) (sym same) (fits_by v kept (disk.held v.slots.disk) refl))
