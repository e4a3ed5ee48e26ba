-- Where the head stands, it is at an item that reads or behind the last one.
use Rattle.std.proofs.Common.{◌≡◌, ℕ, ◌+◌, ◌≤◌, ◌<◌, List, [], ◌∷◌, take, length, Option, Some, None, refl, sym, ap, ◌∙◌, subst, arith}
use Rattle.std.specs.Prelude.{IfSome}
use Rattle.std.proofs.lemmas.List.{length-append, length-take-le}
use Rattle.std.proofs.lemmas.Option.{same_Some, slice_get_within}
use Rattle.tape_types.specs.Cartridges.{items_of, next}
use Rattle.tape_types.specs.declared.cartridges.Cartridge.{Cartridge}
use Rattle.tape_types.specs.declared.cartridges.Item.{Item}
use Rattle.tape_types.specs.declared.cartridges.Note.{Note}
use Rattle.tape_types.specs.declared.cartridges.Part.{Part}
use Rattle.tape_types.specs.declared.cartridges.Part.TheVariants.{Ip, Dp}
use Rattle.tape_types.specs.declared.cartridges.Place.{Place}
use Rattle.tape_drive.specs.Commands.{IsNoted, IsRead, IsWritten, after_read, item_at}
use Rattle.tape_drive.specs.declared.drive.Got.{Got}
use Rattle.tape_drive.specs.declared.drive.Got.TheVariants as got
use Rattle.byte_disk.specs.declared.disk.ByteDisk.{Ghosts}
use Rattle.image_tape.specs.Tape.{IsKept, IsWithin, View, held_of}

-- no place is anywhere
pub nowhere : (held : Option Cartridge) → IsWithin held None
nowhere held at c none told = absurd (cc none)

-- a place within what is told
pub within_told : (o : Option Cartridge) (place : Place) → IfSome o (λ c. place.pos ≤ length (items_of place.part c)) → IsWithin o (Some place)
within_told None place h at c there told = absurd (cc told)
within_told (Some e) place h at c there told =
    let one : place ≡ at = same_Some place at there in
    let same : e ≡ c = same_Some e c told in
    subst (λ (p : Place). p.pos ≤ length (items_of p.part c)) one (subst (λ (x : Cartridge). place.pos ≤ length (items_of place.part x)) same h)

-- the same place, where the cartridge reads as before
pub within_still : (old new : Option Cartridge) (head : Option Place) → new ≡ old → IsWithin old head → IsWithin new head
within_still old new head same within at c there told = within at c there (sym same ∙ told)

-- the cartridge from before, where one is told now
told_from : (P : Cartridge → Cartridge → Type 0) (old new : Option Cartridge) → (old ≡ None → new ≡ None)
    → ((c : Cartridge) → old ≡ Some c → (e : Cartridge) × (new ≡ Some e) × P c e) → (e : Cartridge) → new ≡ Some e → (c : Cartridge) × (old ≡ Some c) × P c e
told_from P None new untold told e is = absurd (cc (sym is ∙ untold refl))
told_from P (Some c) new untold told e is =
    let t = told c refl in
    let same : t.0 ≡ e = same_Some t.0 e (sym t.1 ∙ is) in
    (c, refl, subst (λ (x : Cartridge). P c x) same t.2)

noted_items : (which part : Part) (note : Note) (old new : Cartridge) → IsNoted part note old new → items_of which new ≡ items_of which old
noted_items Ip part note old new noted = noted.ip
noted_items Dp part note old new noted = noted.dp

-- the same place, where an attribute was set
pub within_noted : (part : Part) (note : Note) (old new : Option Cartridge) (head : Option Place) → (old ≡ None → new ≡ None)
    → ((c : Cartridge) → old ≡ Some c → (e : Cartridge) × (new ≡ Some e) × IsNoted part note c e) → IsWithin old head → IsWithin new head
within_noted part note old new head untold told within at e there is =
    let t = told_from (IsNoted part note) old new untold told e is in
    omega (arith, within at t.0 there t.1, ap length (noted_items at.part part note t.0 e t.2))

-- behind an item that was written
pub within_written : (place behind : Place) (x : Item) (old new : Option Cartridge) → behind ≡ next place → (old ≡ None → new ≡ None)
    → ((c : Cartridge) → old ≡ Some c → (e : Cartridge) × (new ≡ Some e) × IsWritten place.part place.pos x c e) → IsWithin old (Some place)
    → IsWithin new (Some behind)
within_written place behind x old new further untold told within at e there is =
    let one : next place ≡ at = sym further ∙ same_Some behind at there in
    let t = told_from (IsWritten place.part place.pos x) old new untold told e is in
    let front : length (take place.pos (items_of place.part t.0)) ≡ place.pos =
    length-take-le place.pos (items_of place.part t.0) (within place t.0 refl t.1) in
    let more : place.pos + 1 ≤ length (items_of place.part e) =
    omega (arith, ap length t.2.items, length-append (take place.pos (items_of place.part t.0)) (x ∷ []), front) in
    subst (λ (p : Place). p.pos ≤ length (items_of p.part e)) one more

-- where something else than the end was read, an item stands
read_there : (o : Option Item) (found : Got) (buf : List ℕ) → IsRead o found buf → (found ≡ got.End → ⊥) → (x : Item) × (o ≡ Some x)
read_there None found buf read isnt = absurd (isnt read.0)
read_there (Some x) found buf read isnt = (x, refl)

module _ (place after : Place) (old new : Option Cartridge) (same : new ≡ old) where
  -- behind an item that was read
  within_next : (found : Got) (buf : List ℕ) → (found ≡ got.End → ⊥) → ((c : Cartridge) → old ≡ Some c → IsRead (item_at place c) found buf) → after ≡ next place
      → IsWithin new (Some after)
  within_next found buf isnt read is at c there told =
      let was : old ≡ Some c = sym same ∙ told in
      let x = read_there (item_at place c) found buf (read c was) isnt in
      let less : place.pos < length (items_of place.part c) = slice_get_within (items_of place.part c) place.pos x.0 x.1 in
      let more : place.pos + 1 ≤ length (items_of place.part c) = omega (arith, less) in
      let one : next place ≡ at = sym is ∙ same_Some after at there in
      subst (λ (p : Place). p.pos ≤ length (items_of p.part c)) one more

  -- at the same place
  within_here : after ≡ place → IsWithin old (Some place) → IsWithin new (Some after)
  within_here is within at c there told =
      let one : place ≡ at = sym is ∙ same_Some after at there in
      subst (λ (p : Place). p.pos ≤ length (items_of p.part c)) one (within place c refl (sym same ∙ told))

  -- where the head stands after a read
  pub within_read : (found : Got) (buf : List ℕ) → ((c : Cartridge) → old ≡ Some c → IsRead (item_at place c) found buf) → after ≡ after_read found place
      → IsWithin old (Some place) → IsWithin new (Some after)
  within_read got.Block buf read is within = within_next got.Block buf (λ bad. cc bad) read is
  within_read got.Mark buf read is within = within_next got.Mark buf (λ bad. cc bad) read is
  within_read got.End buf read is within = within_here is within
  within_read got.Torn buf read is within = within_here is within

module _ {D : Type 0} (disk : Ghosts D) where
  -- a place is within what is told by another name of the view too
  pub within_as : (v w : View D) (head : Option Place) → v ≡ w → IsWithin (held_of disk w) head → IsWithin (held_of disk v) head
  within_as v w head is within = within_still (held_of disk w) (held_of disk v) head (ap (λ (x : View D). held_of disk x) is) within

  -- where the head stood, while the cartridge reads as before
  pub head_stays : (v w n : View D) → v ≡ w → IsKept disk v → held_of disk n ≡ held_of disk w → IsWithin (held_of disk n) v.head
  head_stays v w n is kept same =
      within_still (held_of disk v) (held_of disk n) v.head (same ∙ sym (ap (λ (x : View D). held_of disk x) is)) kept.within

  -- the place of the head
  pub head_there : (v w : View D) (place : Place) → v ≡ w → IsKept disk v → v.head ≡ Some place → IsWithin (held_of disk w) (Some place)
  head_there v w place is kept there = subst (λ (h : Option Place). IsWithin (held_of disk w) h) there (head_stays v w w is kept refl)
