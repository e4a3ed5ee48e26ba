-- What the trait asks of every command, from what a command does to the view.
use Rattle.std.proofs.Common.{ℕ, ◌+◌, ◌-◌, ◌^◌, ◌≤◌, ◌<◌, ◌≡◌, inl, inr, min, true, false, List, drop, Option, Some, None, Result, Ok, Err, refl, sym, ◌∙◌, ap, subst, arith}
use Rattle.std.specs.Prelude.{OnOk, OnErr, length, slice_get}
use Rattle.std.proofs.lemmas.Option.{slice_get_cases}
use Rattle.tape_types.specs.declared.cartridges.Place.{Place}
use Rattle.tape_types.specs.declared.cartridges.Item.{Item}
use Rattle.tape_types.specs.declared.cartridges.Item.TheVariants as item
use Rattle.tape_types.specs.declared.cartridges.Note.{Note}
use Rattle.tape_types.specs.declared.cartridges.Limits.{Limits}
use Rattle.tape_types.specs.declared.cartridges.Cartridge.{Cartridge}
use Rattle.tape_types.specs.declared.cartridges.Part.{Part}
use Rattle.tape_types.specs.declared.cartridges.Part.TheVariants.{Ip, Dp}
use Rattle.tape_types.specs.Cartridges.{items_of, note_of, capacity, next, IsItem, HoldsAtMost, FitsLimits}
use Rattle.tape_drive.specs.declared.record.Act.{Act}
use Rattle.tape_drive.specs.declared.record.Act.TheVariants.{Put, Noted}
use Rattle.tape_drive.specs.declared.schedule.Cmd.{Cmd}
use Rattle.tape_drive.specs.declared.schedule.Cmd.TheVariants as cmd
use Rattle.tape_drive.specs.declared.drive.Got.{Got}
use Rattle.tape_drive.specs.Commands.{Commanded, Counted, item_at, IsRead, FillsBuffer, after_read, AfterWrite, AfterNote, IsWritten, IsBroken, IsNoted}
use Rattle.tape_drive.specs.Crashes.{Crashes, NothingNew, WithinWrite, HasState}
use Rattle.tape_drive.specs.Memory.{View, begun, acted, moved, failed, starved_out, with_item, RanLocate, RanRead, Ran, RanPut, IsSane}
use Rattle.tape_drive.specs.Record.{with_note, undo, During, Settles, Leaves, LeftSince}
use Rattle.tape_drive.proofs.Sound.{undo_put}
use Rattle.tape_drive.proofs.Acts.{quiet, acts, within_put, written, broken, noted, write_same}

-- what every command ensures
pub record Meets {T E : Type 0} (r : Result T E) (step : Cartridge → Cartridge → Type 0) (old new : View) : Type 0 where
  pub command : Commanded 1 old.limits new.limits old.commands new.commands old.faults new.faults r
  pub lost : OnErr r (new.head ≡ None)
  pub crash : Crashes step old.commands (Leaves old.held old.acts) (Leaves new.held new.acts)
      (LeftSince old.commands old.held old.acts) (LeftSince new.commands new.held new.acts)

counted_up : (n : ℕ) → n ≤ 2 ^ 64 - 1 → Counted 1 n (min (n + 1) (2 ^ 64 - 1))
counted_up n le = record { later = omega arith; at_least = omega arith; at_most = omega arith }

module _ (T E : Type 0) (step : Cartridge → Cartridge → Type 0) (old : View) (sane : IsSane old) where
  -- a command that left no entry
  pub meets_still : (t : T) (kind : Cmd) (head : Option Place) → ((image : Cartridge) → step image image) → Meets {T = T} {E = E} (Ok t) step old (moved head (begun kind old))
  meets_still t kind head same = record {
    command = record { limits = refl; count = counted_up old.commands sane.commands; cause = record { later = omega arith; failed = tt } };
    lost = tt;
    crash = quiet old.held old.acts old.commands _ sane.sound.numbers (omega arith) step same;
  }

  pub meets_failed : (e : E) (kind : Cmd) → ((image : Cartridge) → step image image) → Meets {T = T} {E = E} (Err e) step old (failed (begun kind old))
  meets_failed e kind same = record {
    command = record { limits = refl; count = counted_up old.commands sane.commands; cause = record { later = omega (arith, sane.faults); failed = omega arith } };
    lost = refl;
    crash = quiet old.held old.acts old.commands _ sane.sound.numbers (omega arith) step same;
  }

  pub meets_starved : (e : E) (kind : Cmd) → ((image : Cartridge) → step image image) → Meets {T = T} {E = E} (Err e) step old (starved_out (begun kind old))
  meets_starved e kind same = record {
    command = record { limits = refl; count = counted_up old.commands sane.commands; cause = record { later = omega (arith, sane.faults); failed = omega arith } };
    lost = refl;
    crash = quiet old.held old.acts old.commands _ sane.sound.numbers (omega arith) step same;
  }

  -- one that left an entry
  pub meets_acted : (t : T) (kind : Cmd) (act : Act) (held : Cartridge) (head : Option Place) → undo act held ≡ old.held → ((before image : Cartridge) → During act held before image → step before image)
      → Meets {T = T} {E = E} (Ok t) step old (moved head (acted old.commands act held (begun kind old)))
  meets_acted t kind act held head undone within = record {
    command = record { limits = refl; count = counted_up old.commands sane.commands; cause = record { later = omega arith; failed = tt } };
    lost = tt;
    crash = acts old.held old.acts old.commands _ sane.sound.numbers (omega arith) step held act undone within;
  }

  pub meets_broken : (e : E) (kind : Cmd) (act : Act) (held : Cartridge) → undo act held ≡ old.held → ((before image : Cartridge) → During act held before image → step before image)
      → Meets {T = T} {E = E} (Err e) step old (failed (acted old.commands act held (begun kind old)))
  meets_broken e kind act held undone within = record {
    command = record { limits = refl; count = counted_up old.commands sane.commands; cause = record { later = omega (arith, sane.faults); failed = omega arith } };
    lost = refl;
    crash = acts old.held old.acts old.commands _ sane.sound.numbers (omega arith) step held act undone within;
  }

-- a flush, or a command on an attribute or the volume change reference
pub ran_meets : (T E : Type 0) (r : Result T E) (kind : Cmd) (act : Act) (held : Cartridge) (step : Cartridge → Cartridge → Type 0) (old new : View) → IsSane old
    → undo act held ≡ old.held → ((image : Cartridge) → step image image) → ((before image : Cartridge) → During act held before image → step before image)
    → Ran r kind act held old new → Meets r step old new
ran_meets T E (Ok t) kind act held step old new sane undone same within ran =
    subst (λ (v : View). Meets {T = T} {E = E} (Ok t) step old v) (sym ran.1) (meets_acted T E step old sane t kind act held old.head undone within)
ran_meets T E (Err e) kind act held step old new sane undone same within (inl ran) =
    subst (λ (v : View). Meets {T = T} {E = E} (Err e) step old v) (sym ran.1) (meets_failed T E step old sane e kind same)
ran_meets T E (Err e) kind act held step old new sane undone same within (inr ran) =
    subst (λ (v : View). Meets {T = T} {E = E} (Err e) step old v) (sym ran.1) (meets_starved T E step old sane e kind same)

unbroken_at : (at : Place) (c : Cartridge) → IsBroken at.part at.pos c c
unbroken_at at c = record { items = inl (refl, inl refl); rest = record { other_part = refl; note_ip = refl; note_dp = refl } }

-- a write or a mark
module _ (T E : Type 0) (kind : Cmd) (at : Place) (x : Item) (old new : View) (sane : IsSane old) where
  -- a write keeps what the trait asks of it
  pub put_meets : (r : Result T E) → RanPut r kind at x old new → Meets r (WithinWrite at.part at.pos x old.held) old new
  put_meets (Ok t) ran =
      let below : old.held.vcr < 2 ^ 64 - 1 = not_below (λ (le : 2 ^ 64 - 1 ≤ old.held.vcr). ran.0 (inr le)) in
      subst (λ (v : View). Meets {T = T} {E = E} (Ok t) (WithinWrite at.part at.pos x old.held) old v) (sym ran.1)
      (meets_acted T E (WithinWrite at.part at.pos x old.held) old sane t kind (Put at.part (drop at.pos (items_of at.part old.held)) false) (with_item at x old.held) (Some (next at)) (undo_put at x false old.held)
      (within_put at x old.held x (inl refl) below (drop at.pos (items_of at.part old.held)) false))
    where
      not_below : ((2 ^ 64 - 1 ≤ old.held.vcr) → ⊥) → old.held.vcr < 2 ^ 64 - 1
      not_below h = omega (arith, h)
  put_meets (Err e) (inl ran) =
      subst (λ (v : View). Meets {T = T} {E = E} (Err e) (WithinWrite at.part at.pos x old.held) old v) (sym ran.1)
      (meets_failed T E (WithinWrite at.part at.pos x old.held) old sane e kind (write_same at.part at.pos x old.held))
  put_meets (Err e) (inr (inl ran)) =
      subst (λ (v : View). Meets {T = T} {E = E} (Err e) (WithinWrite at.part at.pos x old.held) old v) (sym ran.3)
      (meets_broken T E (WithinWrite at.part at.pos x old.held) old sane e kind (Put at.part (drop at.pos (items_of at.part old.held)) true) (with_item at item.Torn old.held) (undo_put at item.Torn true old.held)
      (within_put at item.Torn old.held x (inr refl) ran.1 (drop at.pos (items_of at.part old.held)) true))
  put_meets (Err e) (inr (inr ran)) =
      subst (λ (v : View). Meets {T = T} {E = E} (Err e) (WithinWrite at.part at.pos x old.held) old v) (sym ran.2)
      (meets_starved T E (WithinWrite at.part at.pos x old.held) old sane e kind (write_same at.part at.pos x old.held))

  -- a write leaves the cartridge as the trait says
  pub put_told : (r : Result T E) → RanPut r kind at x old new → AfterWrite r at.part at.pos x old.held new.held
  put_told (Ok t) ran =
      let below : old.held.vcr < 2 ^ 64 - 1 = omega (arith, (λ (le : 2 ^ 64 - 1 ≤ old.held.vcr). ran.0 (inr le))) in
      subst (λ (v : View). IsWritten at.part at.pos x old.held v.held) (sym ran.1) (written at x old.held below)
  put_told (Err e) (inl ran) = subst (λ (v : View). IsBroken at.part at.pos old.held v.held) (sym ran.1) (unbroken_at at old.held)
  put_told (Err e) (inr (inl ran)) = subst (λ (v : View). IsBroken at.part at.pos old.held v.held) (sym ran.3) (broken at old.held ran.1)
  put_told (Err e) (inr (inr ran)) = subst (λ (v : View). IsBroken at.part at.pos old.held v.held) (sym ran.2) (unbroken_at at old.held)

-- a locate and a read
pub locate_meets : (T E : Type 0) (r : Result T E) (at : Place) (old new : View) → IsSane old → RanLocate r at old new → Meets r NothingNew old new
locate_meets T E (Ok t) at old new sane ran =
    subst (λ (v : View). Meets {T = T} {E = E} (Ok t) NothingNew old v) (sym ran.1) (meets_still T E NothingNew old sane t cmd.Locate (Some at) (λ image. refl))
locate_meets T E (Err e) at old new sane ran =
    subst (λ (v : View). Meets {T = T} {E = E} (Err e) NothingNew old v) (sym ran.1) (meets_failed T E NothingNew old sane e cmd.Locate (λ image. refl))

-- a read keeps what the trait asks of it
pub read_meets : (E : Type 0) (r : Result Got E) (at : Place) (buf : List ℕ) (old new : View) → IsSane old → RanRead r at buf old new → Meets r NothingNew old new
read_meets E (Ok t) at buf old new sane ran =
    subst (λ (v : View). Meets {T = Got} {E = E} (Ok t) NothingNew old v) (sym ran.2) (meets_still Got E NothingNew old sane t cmd.Read (Some (after_read t at)) (λ image. refl))
read_meets E (Err e) at buf old new sane ran =
    subst (λ (v : View). Meets {T = Got} {E = E} (Err e) NothingNew old v) (sym ran.1) (meets_failed Got E NothingNew old sane e cmd.Read (λ image. refl))

-- a read leaves the cartridge as it was
pub read_held : (E : Type 0) (r : Result Got E) (at : Place) (buf : List ℕ) (old new : View) → RanRead r at buf old new → new.held ≡ old.held
read_held E (Ok t) at buf old new ran = ap (λ (v : View). v.held) ran.2
read_held E (Err e) at buf old new ran = ap (λ (v : View). v.held) ran.1

-- what a read of a rightful item leaves in the buffer
pub fills : (found : Option Item) → ((x : Item) → found ≡ Some x → IsItem x) → (answer : Got) (buf : List ℕ) → IsRead found answer buf → FillsBuffer answer buf
fills None size answer buf is = subst (λ (g : Got). FillsBuffer g buf) (sym is.0) is.1
fills (Some (item.Block bytes)) size answer buf is =
    let fits = size (item.Block bytes) refl in subst (λ (g : Got). FillsBuffer g buf) (sym is.0) (subst (λ (l : List ℕ). (1 ≤ length l) × (length l ≤ 1048576)) (sym is.1) fits)
fills (Some item.Mark) size answer buf is = subst (λ (g : Got). FillsBuffer g buf) (sym is.0) is.1
fills (Some item.Torn) size answer buf is = subst (λ (g : Got). FillsBuffer g buf) (sym is.0) is.1

-- an item that stands in a cartridge is of a rightful size
pub item_fits : (limits : Limits) (at : Place) (c : Cartridge) → FitsLimits limits c → (x : Item) → item_at at c ≡ Some x → IsItem x
item_fits limits at c fits x is = item_in at.part fits at.pos x is
  where
    found : (cap : ℕ) (xs : List Item) → HoldsAtMost cap xs → (i : ℕ) (x : Item) → slice_get xs i ≡ Some x → IsItem x
    found cap xs fits i x is = elim (slice_get_cases xs i).1 [
      | inl here ↦ let same : here.0 ≡ x = cc in subst (λ (y : Item). IsItem y) (here.3 ∙ same) (fits.each i here.0 here.1)
      | inr out ↦ absurd (cc)
    ]

    item_in : (p : Part) → FitsLimits limits c → (i : ℕ) (x : Item) → slice_get (items_of p c) i ≡ Some x → IsItem x
    item_in Ip fits i x is = found limits.cap_ip c.ip fits.ip i x is
    item_in Dp fits i x is = found limits.cap_dp c.dp fits.dp i x is

-- nothing stands at a capacity
pub nothing_at_capacity : (limits : Limits) (at : Place) (c : Cartridge) → FitsLimits limits c → capacity at.part limits ≤ at.pos → item_at at c ≡ None
nothing_at_capacity limits at c fits out = past at.part fits at.pos out
  where
    past : (p : Part) → FitsLimits limits c → (i : ℕ) → capacity p limits ≤ i → slice_get (items_of p c) i ≡ None
    past Ip fits i out = elim (slice_get_cases c.ip i).1 [ inl here ↦ absurd (omega (arith, here.1, fits.ip.count)) | inr end ↦ end.1 ]
    past Dp fits i out = elim (slice_get_cases c.dp i).1 [ inl here ↦ absurd (omega (arith, here.1, fits.dp.count)) | inr end ↦ end.1 ]

-- what the success of a flush, or of a command on an attribute or the reference, makes sure
pub ran_settles : (T E : Type 0) (r : Result T E) (kind : Cmd) (act : Act) (held : Cartridge) (old new : View) → Ran r kind act held old new
    → OnOk r ((image : Cartridge) → Leaves new.held new.acts image → Settles act new.held image)
ran_settles T E (Ok t) kind act held old new ran =
    subst (λ (v : View). (image : Cartridge) → Leaves v.held v.acts image → Settles act v.held image) (sym ran.1) (λ image h. h.0)
ran_settles T E (Err e) kind act held old new ran = tt

-- after a write that succeeded every image has the counter and attributes as they read
pub put_settles : (T E : Type 0) (r : Result T E) (kind : Cmd) (at : Place) (x : Item) (old new : View) → RanPut r kind at x old new
    → OnOk r ((image : Cartridge) → Leaves new.held new.acts image → HasState new.held image)
put_settles T E (Ok t) kind at x old new ran =
    subst (λ (v : View). (image : Cartridge) → Leaves v.held v.acts image → HasState v.held image) (sym ran.1) (λ image h. h.0)
put_settles T E (Err e) kind at x old new ran = tt

-- how the cartridge reads after an attribute was to be written
pub note_told : (T E : Type 0) (r : Result T E) (kind : Cmd) (part : Part) (note : Note) (old new : View) → Ran r kind (Noted part (note_of part old.held)) (with_note part note old.held) old new
    → AfterNote r part note old.held new.held
note_told T E (Ok t) kind part note old new ran = subst (λ (v : View). IsNoted part note old.held v.held) (sym ran.1) (noted part note old.held)
note_told T E (Err e) kind part note old new (inl ran) = inl (ap (λ (v : View). v.held) ran.1)
note_told T E (Err e) kind part note old new (inr ran) = inl (ap (λ (v : View). v.held) ran.1)
