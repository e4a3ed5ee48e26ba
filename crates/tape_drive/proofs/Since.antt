-- What a crash may have left since an earlier command is what choices give.
use Rattle.std.proofs.Common.{ℕ, ◌-◌, ◌^◌, ◌≤◌, ◌<◌, ◌≡◌, ◌⊎◌, ⊎_elim, inl, inr, true, List, [], ◌∷◌, ◌++◌, refl, sym, ap, subst, arith}
use Rattle.std.proofs.lemmas.Bool.{cases_lt}
use Rattle.tape_types.specs.declared.cartridges.Part.{Part}
use Rattle.tape_types.specs.declared.cartridges.Part.TheVariants.{Ip, Dp}
use Rattle.tape_types.specs.declared.cartridges.Note.{Note}
use Rattle.tape_types.specs.declared.cartridges.Cartridge.{Cartridge}
use Rattle.tape_types.specs.Cartridges.{note_of}
use Rattle.tape_drive.specs.declared.record.Act.{Act}
use Rattle.tape_drive.specs.declared.record.Act.TheVariants.{Put, Flushed, Noted, Settled}
use Rattle.tape_drive.specs.declared.record.DoneCommand.{DoneCommand}
use Rattle.tape_drive.specs.Commands.{IsNoted}
use Rattle.tape_drive.specs.Record.{with_note, undo, During, Leaves, LeftWithin, LeftSince, Numbered}
use Rattle.tape_drive.specs.Images.{Gave}
use Rattle.tape_drive.specs.Since.{undo_all, Shows, GaveWithin, GaveSince}
use Rattle.tape_drive.proofs.Acts.{during_same, noted}
use Rattle.tape_drive.proofs.Exact.{IsPast, gives_past, past_gives, past_left, same_cartridge, left_was, was_gave, was_put, left_gave, gave_left}

-- one attribute was written and all else stays, so it is that cartridge with the attribute
noted_is : (part : Part) (note : Note) (c d : Cartridge) → IsNoted part note c d → d ≡ with_note part note c
noted_is Ip note c d is = same_cartridge d (with_note Ip note c) is.ip is.dp is.vcr is.written is.other_note
noted_is Dp note c d is = same_cartridge d (with_note Dp note c) is.ip is.dp is.vcr is.other_note is.written

-- within an act, from what could be left before it
during_gave : (number : ℕ) (act : Act) (held : Cartridge) (older : List DoneCommand) (before image : Cartridge) → Leaves (undo act held) older before
    → During act held before image → Gave (undo act held) older image ⊎ Shows act number held older image
during_gave number (Put part gone failed) held older before image left during = ⊎_elim
    (λ (past : IsPast held (record { number = number; act = Put part gone true } ∷ older) image).
    inr (past_gives held (record { number = number; act = Put part gone failed } ∷ older) image
    (record { ip = past.ip; dp = past.dp; state = past.state })))
    (λ earlier. inl (was_gave (undo (Put part gone failed) held) older image earlier.1))
    (was_put part gone true held older number before image tt (left_was (undo (Put part gone failed) held) older before left) during)
during_gave number Flushed held older before image left during =
    inl (subst (λ (c : Cartridge). Gave held older c) (sym during) (left_gave held older before left))
during_gave number (Noted part old) held older before image left (inl same) =
    inl (subst (λ (c : Cartridge). Gave (with_note part old held) older c) (sym same) (left_gave (with_note part old held) older before left))
during_gave number (Noted part old) held older before image left (inr new) =
    inr (before, left_gave (with_note part old held) older before left, noted_is part (note_of part held) before image new)
during_gave number Settled held older before image left during =
    inl (subst (λ (c : Cartridge). Gave held older c) (sym during) (left_gave held older before left))

shown_during : (number : ℕ) (act : Act) (held : Cartridge) (older : List DoneCommand) (image : Cartridge) → Shows act number held older image
    → (before : Cartridge) × Leaves (undo act held) older before × During act held before image
shown_during number (Put part gone failed) held older image gives =
    let es : List DoneCommand = record { number = number; act = Put part gone failed } ∷ older in
    (past_left held es image (gives_past held es image gives)).1
shown_during number Flushed held older image none = absurd none
shown_during number (Noted part old) held older image (before, gave, is) = (
  before,
  gave_left (with_note part old held) older before gave,
  inr (subst (λ (c : Cartridge). IsNoted part (note_of part held) before c) (sym is) (noted part (note_of part held) before)),
)
shown_during number Settled held older image none = absurd none

gave_during : (e : DoneCommand) (held : Cartridge) (older : List DoneCommand) (image : Cartridge)
    → Gave (undo e.act held) older image ⊎ Shows e.act e.number held older image
    → (before : Cartridge) × Leaves (undo e.act held) older before × During e.act held before image
gave_during e held older image (inl gave) = (image, gave_left (undo e.act held) older image gave, during_same e.act held image)
gave_during e held older image (inr shows) = shown_during e.number e.act held older image shows

-- the act that a crash came within
within_gave : (held : Cartridge) (es : List DoneCommand) (t : ℕ) (image : Cartridge) → LeftWithin held es t image → GaveWithin held es t image
within_gave held [] t image none = absurd none
within_gave held (e ∷ es) t image (inl (began, (before, left, during))) = record {
  newer = [];
  entry = e;
  older = es;
  place = refl;
  began = began;
  left = during_gave e.number e.act held es before image left during;
}
within_gave held (e ∷ es) t image (inr past) =
    let found = within_gave (undo e.act held) es t image past in
    record {
      newer = e ∷ found.newer;
      entry = found.entry;
      older = found.older;
      place = ap (λ (l : List DoneCommand). e ∷ l) found.place;
      began = found.began;
      left = found.left;
    }

within_at : (newer : List DoneCommand) (e : DoneCommand) (older : List DoneCommand) (held : Cartridge) (t : ℕ) (image : Cartridge) → t ≤ e.number
    → Gave (undo e.act (undo_all newer held)) older image ⊎ Shows e.act e.number (undo_all newer held) older image
    → LeftWithin held (newer ++ e ∷ older) t image
within_at [] e older held t image began left = inl (began, gave_during e held older image left)
within_at (n ∷ ns) e older held t image began left = inr (within_at ns e older (undo n.act held) t image began left)

-- the number of an act is below the present one
numbered_at : (newer : List DoneCommand) (e : DoneCommand) (older : List DoneCommand) (count : ℕ) → Numbered count (newer ++ e ∷ older)
    → count < 2 ^ 64 - 1 → e.number < count
numbered_at [] e older count numbered = numbered.0
numbered_at (n ∷ ns) e older count numbered = numbered_at ns e older count numbered.1

gave_within : (count : ℕ) (held : Cartridge) (es : List DoneCommand) (t : ℕ) (image : Cartridge) → Numbered count es → GaveWithin held es t image
    → ((t < count) ⊎ (2 ^ 64 - 1 ≤ count)) × LeftWithin held es t image
gave_within count held es t image numbered gave = (
  ⊎_elim
      (λ (lt : count < 2 ^ 64 - 1).
      inl (omega (arith, gave.began, numbered_at gave.newer gave.entry gave.older count (subst (Numbered count) gave.place numbered) lt)))
      (λ (most : 2 ^ 64 - 1 ≤ count). inr most)
      (cases_lt count (2 ^ 64 - 1)),
  subst (λ (l : List DoneCommand). LeftWithin held l t image) (sym gave.place)
      (within_at gave.newer gave.entry gave.older held t image gave.began gave.left),
)

-- what a crash may have left since a command is what choices give or gave
pub since_gave : (count : ℕ) (held : Cartridge) (es : List DoneCommand) (t : ℕ) (image : Cartridge)
    → LeftSince count held es t image → GaveSince held es t image
since_gave count held es t image (inl now) = inl (left_gave held es image now)
since_gave count held es t image (inr past) = inr (within_gave held es t image past.1)

-- what choices give or gave is what a crash may have left since a command
pub gave_since : (count : ℕ) (held : Cartridge) (es : List DoneCommand) (t : ℕ) (image : Cartridge) → Numbered count es
    → GaveSince held es t image → LeftSince count held es t image
gave_since count held es t image numbered (inl now) = inl (gave_left held es image now)
gave_since count held es t image numbered (inr past) = inr (gave_within count held es t image numbered past)
