-- What a crash may leave after a command of the drive in memory.
use Rattle.std.proofs.Common.{ℕ, ◌+◌, ◌-◌, ◌^◌, ◌≤◌, ◌<◌, ◌≡◌, ◌⊎◌, ⊎_elim, inl, inr, Bool, List, [], ◌∷◌, ◌++◌, take, refl, sym, ◌∙◌, ap, subst, arith}
use Rattle.std.proofs.lemmas.Bool.{cases_lt}
use Rattle.tape_types.specs.declared.cartridges.Part.{Part}
use Rattle.tape_types.specs.declared.cartridges.Part.TheVariants.{Ip, Dp}
use Rattle.tape_types.specs.declared.cartridges.Place.{Place}
use Rattle.tape_types.specs.declared.cartridges.Item.{Item}
use Rattle.tape_types.specs.declared.cartridges.Item.TheVariants as item
use Rattle.tape_types.specs.declared.cartridges.Note.{Note}
use Rattle.tape_types.specs.declared.cartridges.Cartridge.{Cartridge}
use Rattle.tape_types.specs.Cartridges.{items_of}
use Rattle.tape_types.specs.Counts.{Rose}
use Rattle.tape_drive.specs.declared.record.Act.{Act}
use Rattle.tape_drive.specs.declared.record.Act.TheVariants.{Put, Flushed, Noted, Settled}
use Rattle.tape_drive.specs.declared.record.DoneCommand.{DoneCommand}
use Rattle.tape_drive.specs.Commands.{KeepsRest, VcrRose, IsWritten, IsBroken, IsNoted}
use Rattle.tape_drive.specs.Crashes.{IsCut, WithinWrite, WithinNote, Crashes}
use Rattle.tape_drive.specs.Memory.{with_item}
use Rattle.tape_drive.specs.Record.{front, with_items, with_note, undo, IsStage, During, Leaves, LeftWithin, LeftSince, Numbered}
use Rattle.tape_drive.proofs.Sound.{front_of}

-- since a number that no act has reached there is no other moment than now
none_within : (count : ℕ) (held : Cartridge) (es : List DoneCommand) (image : Cartridge) → count < 2 ^ 64 - 1 → Numbered count es
    → LeftWithin held es count image → ⊥
none_within count held [] image lt numbered h = h
none_within count held (e ∷ es) image lt numbered (inl h) = absurd (omega (arith, numbered.0 lt, h.0))
none_within count held (e ∷ es) image lt numbered (inr h) = none_within count (undo e.act held) es image lt numbered.1 h

since_at : (count t : ℕ) (held : Cartridge) (es : List DoneCommand) (image : Cartridge) → Numbered count es → t ≤ count
    → LeftWithin held es t image → LeftSince count held es t image
since_at count t held es image numbered le h = ⊎_elim
    (λ (lt : count < 2 ^ 64 - 1). ⊎_elim
    (λ (less : t < count). inr (inl less, h))
    (λ (more : count ≤ t). let same : t ≡ count = omega arith in
    absurd (none_within count held es image lt numbered (subst (λ (n : ℕ). LeftWithin held es n image) same h)))
    (cases_lt t count))
    (λ (most : 2 ^ 64 - 1 ≤ count). inr (inr most, h))
    (cases_lt count (2 ^ 64 - 1))

-- a number that was reached counts after one command more
still_reached : (t count count2 : ℕ) → t ≤ count → Rose count count2 → (t < count2) ⊎ (2 ^ 64 - 1 ≤ count2)
still_reached t count count2 le rose =
    ⊎_elim (λ (less : t < count2). inl less) (λ (more : count2 ≤ t). inr (omega (arith, rose))) (cases_lt t count2)

-- an act may leave all as it was
pub during_same : (act : Act) (after image : Cartridge) → During act after image image
during_same (Put part gone failed) after image =
    record { items = inl (refl, inl refl); rest = record { other_part = refl; note_ip = refl; note_dp = refl } }
during_same Flushed after image = refl
during_same (Noted part before) after image = inl refl
during_same Settled after image = refl

module _ (held : Cartridge) (es : List DoneCommand) (count count2 : ℕ) (numbered : Numbered count es) (rose : Rose count count2)
    (step : Cartridge → Cartridge → Type 0) where
  -- a command that leaves no entry
  pub quiet : ((image : Cartridge) → step image image)
      → Crashes step count (Leaves held es) (Leaves held es) (LeftSince count held es) (LeftSince count2 held es)
  quiet same = record {
    now = λ image h. (image, h, same image);
    since = λ t image le h. ⊎_elim
        (λ (now : Leaves held es image). inl (inl now))
        (λ (past : ((t < count2) ⊎ (2 ^ 64 - 1 ≤ count2)) × LeftWithin held es t image).
        inl (since_at count t held es image numbered le past.1))
        h;
    kept = λ t image le h. ⊎_elim
        (λ (now : Leaves held es image). inl now)
        (λ (past : ((t < count) ⊎ (2 ^ 64 - 1 ≤ count)) × LeftWithin held es t image).
        inr (still_reached t count count2 le rose, past.1))
        h;
  }

  -- one that leaves an entry with its number
  pub acts : (new : Cartridge) (act : Act) → undo act new ≡ held
      → ((before image : Cartridge) → During act new before image → step before image)
      → Crashes step count (Leaves held es) (Leaves new (record { number = count; act = act } ∷ es))
      (LeftSince count held es) (LeftSince count2 new (record { number = count; act = act } ∷ es))
  acts new act undone within =
      let Went : Cartridge → Type 0 = λ image. (before : Cartridge) × Leaves (undo act new) es before × During act new before image in
      let back : (image : Cartridge) → Went image → (before : Cartridge) × Leaves held es before × step before image =
      λ image h. (h.0, subst (λ (c : Cartridge). Leaves c es h.0) undone h.1, within h.0 image h.2) in
      record {
        now = λ image h. back image h.1;
        since = λ t image le h. ⊎_elim
            (λ (now : Leaves new (record { number = count; act = act } ∷ es) image). inr (back image now.1))
            (λ (past : ((t < count2) ⊎ (2 ^ 64 - 1 ≤ count2)) × LeftWithin new (record { number = count; act = act } ∷ es) t image). ⊎_elim
            (λ (went : (t ≤ count) × Went image). inr (back image went.1))
            (λ (old : LeftWithin (undo act new) es t image).
            inl (since_at count t held es image numbered le (subst (λ (c : Cartridge). LeftWithin c es t image) undone old)))
            past.1)
            h;
        kept = λ t image le h. inr (
          still_reached t count count2 le rose,
          ⊎_elim
              (λ (now : Leaves held es image).
              inl (le, (image, subst (λ (c : Cartridge). Leaves c es image) (sym undone) now, during_same act new image)))
              (λ (past : ((t < count) ⊎ (2 ^ 64 - 1 ≤ count)) × LeftWithin held es t image).
              inr (subst (λ (c : Cartridge). LeftWithin c es t image) (sym undone) past.1))
              h,
        );
      }

-- the parts of a cartridge with other items in a partition
items_with : (p : Part) (xs : List Item) (vcr : ℕ) (c : Cartridge) → items_of p (with_items p xs vcr c) ≡ xs
items_with Ip xs vcr c = refl
items_with Dp xs vcr c = refl

vcr_with : (p : Part) (xs : List Item) (vcr : ℕ) (c : Cartridge) → (with_items p xs vcr c).vcr ≡ vcr
vcr_with Ip xs vcr c = refl
vcr_with Dp xs vcr c = refl

rest_with : (p : Part) (xs : List Item) (vcr : ℕ) (c : Cartridge) → KeepsRest p c (with_items p xs vcr c)
rest_with Ip xs vcr c = record { other_part = refl; note_ip = refl; note_dp = refl }
rest_with Dp xs vcr c = record { other_part = refl; note_ip = refl; note_dp = refl }

module _ (at : Place) (x : Item) (held : Cartridge) where
  cut : List Item
  cut = take at.pos (items_of at.part held)

  new_items : items_of at.part (with_item at x held) ≡ take at.pos (items_of at.part held) ++ x ∷ []
  new_items = items_with at.part (take at.pos (items_of at.part held) ++ x ∷ []) (held.vcr + 1) held

  new_vcr : (with_item at x held).vcr ≡ held.vcr + 1
  new_vcr = vcr_with at.part (take at.pos (items_of at.part held) ++ x ∷ []) (held.vcr + 1) held

  new_front : front (items_of at.part (with_item at x held)) ≡ take at.pos (items_of at.part held)
  new_front = ap front new_items ∙ front_of (take at.pos (items_of at.part held)) x

  rose : held.vcr < 2 ^ 64 - 1 → (image : Cartridge) → image.vcr ≡ (with_item at x held).vcr → VcrRose held image
  rose below image is = record { by_one = is ∙ new_vcr; in_range = omega (arith, is ∙ new_vcr) }

  -- an item that is put at a place is written there
  pub written : held.vcr < 2 ^ 64 - 1 → IsWritten at.part at.pos x held (with_item at x held)
  written below = record { items = new_items; vcr = rose below (with_item at x held) refl; rest = rest_with at.part (take at.pos (items_of at.part held) ++ x ∷ []) (held.vcr + 1) held }

  -- within a write of an item, or of a Torn in place of one
  pub within_put : (y : Item) → (x ≡ y) ⊎ (x ≡ item.Torn) → held.vcr < 2 ^ 64 - 1 → (gone : List Item) (broke : Bool) (before image : Cartridge)
      → During (Put at.part gone broke) (with_item at x held) before image → WithinWrite at.part at.pos y held before image
  within_put y which below gone broke before image d = record {
    items = ⊎_elim
        (λ (same : (items_of at.part image ≡ items_of at.part before) × ((image.vcr ≡ before.vcr) ⊎ (image.vcr ≡ (with_item at x held).vcr))). inl (
          same.0,
          ⊎_elim (λ (e : image.vcr ≡ before.vcr). inl e) (λ (e : image.vcr ≡ (with_item at x held).vcr). inr (rose below image e)) same.1,
        ))
        (λ (stage : IsStage (items_of at.part (with_item at x held)) (items_of at.part image) × (image.vcr ≡ (with_item at x held).vcr)). inr (cut_stage stage.0, rose below image stage.1))
        d.items;
    rest = d.rest;
  }
    where
      cut_stage : IsStage (items_of at.part (with_item at x held)) (items_of at.part image) → IsCut at.pos y (items_of at.part held) (items_of at.part image)
      cut_stage (inl e) = inl (inl (e ∙ new_front))
      cut_stage (inr (inl e)) = inl (inr (e ∙ ap (λ (l : List Item). l ++ item.Torn ∷ []) new_front))
      cut_stage (inr (inr e)) = ⊎_elim
          (λ (same : x ≡ y). inr (e ∙ new_items ∙ ap (λ (z : Item). take at.pos (items_of at.part held) ++ z ∷ []) same))
          (λ (torn : x ≡ item.Torn). inl (inr (e ∙ new_items ∙ ap (λ (z : Item). take at.pos (items_of at.part held) ++ z ∷ []) torn)))
          which

-- a Torn that is put at a place is what a failed write leaves
pub broken : (at : Place) (held : Cartridge) → held.vcr < 2 ^ 64 - 1 → IsBroken at.part at.pos held (with_item at item.Torn held)
broken at held below = let w = written at item.Torn held below in record { items = inr (inr w.items, w.vcr); rest = w.rest }

-- a write may leave all as it was
pub write_same : (p : Part) (pos : ℕ) (x : Item) (held image : Cartridge) → WithinWrite p pos x held image image
write_same p pos x held image = record { items = inl (refl, inl refl); rest = record { other_part = refl; note_ip = refl; note_dp = refl } }

-- an attribute
pub noted : (p : Part) (note : Note) (c : Cartridge) → IsNoted p note c (with_note p note c)
noted Ip note c = record { ip = refl; dp = refl; vcr = refl; other_note = refl; written = refl }
noted Dp note c = record { ip = refl; dp = refl; vcr = refl; other_note = refl; written = refl }

-- what a crash leaves while an attribute is written is that of before or the new one
pub within_note : (p : Part) (note old : Note) (held before image : Cartridge) → During (Noted p old) (with_note p note held) before image → WithinNote p note before image
within_note p note old held before image (inl same) = inl same
within_note p note old held before image (inr n) = inr (record { ip = n.ip; dp = n.dp; vcr = n.vcr; other_note = n.other_note; written = n.written ∙ (noted p note held).written })
