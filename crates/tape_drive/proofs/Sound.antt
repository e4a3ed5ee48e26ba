-- The record of a drive in memory stays sound.
use Rattle.std.proofs.Common.{ℕ, ◌+◌, ◌-◌, ◌^◌, ◌<◌, ◌≡◌, min, Bool, List, [], ◌∷◌, ◌++◌, length, get_or, take, drop, refl, sym, ◌∙◌, ap, subst, arith}
use Rattle.std.specs.Prelude.{reverse, All}
use Rattle.std.proofs.lemmas.List.{reverse-append, length-append, length-take, take-append-drop}
use Rattle.std.proofs.lemmas.List.Elements.{All-append, All-take}
use Rattle.std.proofs.Math.Seq.{take-append_seam}
use Rattle.tape_types.specs.declared.cartridges.Part.{Part}
use Rattle.tape_types.specs.declared.cartridges.Part.TheVariants.{Ip, Dp}
use Rattle.tape_types.specs.declared.cartridges.Item.{Item}
use Rattle.tape_types.specs.declared.cartridges.Note.{Note}
use Rattle.tape_types.specs.declared.cartridges.Limits.{Limits}
use Rattle.tape_types.specs.declared.cartridges.Place.{Place}
use Rattle.tape_types.specs.declared.cartridges.Cartridge.{Cartridge}
use Rattle.tape_types.specs.Cartridges.{items_of, note_of, capacity, IsItem, HoldsAtMost, FitsLimits}
use Rattle.tape_drive.specs.declared.record.Act.{Act}
use Rattle.tape_drive.specs.declared.record.Act.TheVariants.{Put, Noted}
use Rattle.tape_drive.specs.declared.record.DoneCommand.{DoneCommand}
use Rattle.tape_drive.specs.Memory.{with_item}
use Rattle.tape_drive.specs.Placed.{reads_as, IsPlaced, IsNotePlaced}
use Rattle.tape_drive.specs.Record.{front, with_note, undo, Numbered, KeptLimits, IsSound}

-- the number of commands rises
numbered_later : (count count2 : ℕ) (es : List DoneCommand) → count2 ≡ min (count + 1) (2 ^ 64 - 1) → Numbered count es → Numbered count2 es
numbered_later count count2 [] is n = tt
numbered_later count count2 (e ∷ es) is n = ((λ lt. omega (arith, n.0 (omega arith))), numbered_later count count2 es is n.1)

-- a sound record is so with one command more
pub sound_later : (limits : Limits) (count count2 : ℕ) (held : Cartridge) (es : List DoneCommand) → count2 ≡ min (count + 1) (2 ^ 64 - 1) → IsSound limits count held es → IsSound limits count2 held es
sound_later limits count count2 held es is sound = record { range = sound.range; sizes = sound.sizes; numbers = numbered_later count count2 es is sound.numbers }

-- an entry more
pub sound_acted : (limits : Limits) (count number : ℕ) (act : Act) (old new : Cartridge) (es : List DoneCommand) → undo act new ≡ old → FitsLimits limits new → (count < 2 ^ 64 - 1 → number < count)
    → IsSound limits count old es → IsSound limits count new (record { number = number; act = act } ∷ es)
sound_acted limits count number act old new es back fits below sound = record {
  range = sound.range;
  sizes = (fits, subst (λ (c : Cartridge). KeptLimits limits c es) (sym back) sound.sizes);
  numbers = (below, sound.numbers);
}

-- a cartridge within a sound record keeps to its limits
pub sound_fits : (limits : Limits) (count : ℕ) (held : Cartridge) (es : List DoneCommand) → IsSound limits count held es → FitsLimits limits held
sound_fits limits count held [] sound = sound.sizes
sound_fits limits count held (e ∷ es) sound = sound.sizes.0

-- without the item that was appended
pub front_of : (xs : List Item) (x : Item) → front (xs ++ x ∷ []) ≡ xs
front_of xs x =
    let len : length (xs ++ x ∷ []) - 1 ≡ length xs = omega (arith, length-append xs (x ∷ [])) in
    ap (λ (n : ℕ). take n (xs ++ x ∷ [])) len ∙ take-append_seam xs (x ∷ [])

-- back from before the item
back_items : (pos : ℕ) (x : Item) (xs : List Item) → front (take pos xs ++ x ∷ []) ++ drop pos xs ≡ xs
back_items pos x xs = ap (λ (l : List Item). l ++ drop pos xs) (front_of (take pos xs) x) ∙ take-append-drop pos xs

less_one : (n : ℕ) → n + 1 - 1 ≡ n
less_one n = omega arith

-- a write that is undone leaves what was
pub undo_put : (at : Place) (x : Item) (broke : Bool) (c : Cartridge) → undo (Put at.part (drop at.pos (items_of at.part c)) broke) (with_item at x c) ≡ c
undo_put at x broke c = undo_at at.part at.pos x broke c
  where
    undo_at : (p : Part) (pos : ℕ) (x : Item) (broke : Bool) (c : Cartridge) → undo (Put p (drop pos (items_of p c)) broke) (with_item (record { part = p; pos = pos }) x c) ≡ c
    undo_at Ip pos x broke c =
        ap (λ (l : List Item). reads_as l c.dp (c.vcr + 1 - 1) c.note_ip c.note_dp) (back_items pos x c.ip) ∙ ap (λ (n : ℕ). reads_as c.ip c.dp n c.note_ip c.note_dp) (less_one c.vcr)
    undo_at Dp pos x broke c =
        ap (λ (l : List Item). reads_as c.ip l (c.vcr + 1 - 1) c.note_ip c.note_dp) (back_items pos x c.dp) ∙ ap (λ (n : ℕ). reads_as c.ip c.dp n c.note_ip c.note_dp) (less_one c.vcr)

all_one : (x : Item) → IsItem x → All IsItem (x ∷ [])
all_one x size k d lt = let first : k ≡ 0 = omega arith in subst (λ (n : ℕ). IsItem (get_or (x ∷ []) n d)) (sym first) size

fits_items : (cap pos : ℕ) (x : Item) (xs : List Item) → pos < cap → IsItem x → HoldsAtMost cap xs → HoldsAtMost cap (take pos xs ++ x ∷ [])
fits_items limit pos x xs room size fits = record {
  count = omega (arith, length-append (take pos xs) (x ∷ []), length-take pos xs);
  each = All-append IsItem (take pos xs) (x ∷ []) (All-take IsItem pos xs fits.each) (all_one x size);
}

-- a write within the capacity leaves the cartridge within its limits
pub fits_put : (limits : Limits) (at : Place) (x : Item) (c : Cartridge) → at.pos < capacity at.part limits → IsItem x → FitsLimits limits c → FitsLimits limits (with_item at x c)
fits_put limits at x c room size fits = fits_at limits at.part at.pos x c room size fits
  where
    fits_at : (limits : Limits) (p : Part) (pos : ℕ) (x : Item) (c : Cartridge) → pos < capacity p limits → IsItem x → FitsLimits limits c → FitsLimits limits (with_item (record { part = p; pos = pos }) x c)
    fits_at limits Ip pos x c room size fits = record { ip = fits_items limits.cap_ip pos x c.ip room size fits.ip; dp = fits.dp }
    fits_at limits Dp pos x c room size fits = record { ip = fits.ip; dp = fits_items limits.cap_dp pos x c.dp room size fits.dp }

-- the fields after an item was put
pub placed : (p : Part) (pos : ℕ) (x : Item) (gone ip dp ip2 dp2 : List Item) (vcr : ℕ) (n m : Note) → IsPlaced p pos x gone ip dp ip2 dp2
    → (reads_as ip2 dp2 (vcr + 1) n m ≡ with_item (record { part = p; pos = pos }) x (reads_as ip dp vcr n m)) × (gone ≡ drop pos (items_of p (reads_as ip dp vcr n m)))
placed Ip pos x gone ip dp ip2 dp2 vcr n m is = (ap (λ (l : List Item). reads_as l dp2 (vcr + 1) n m) is.1 ∙ ap (λ (l : List Item). reads_as (take pos ip ++ x ∷ []) l (vcr + 1) n m) is.2, is.0)
placed Dp pos x gone ip dp ip2 dp2 vcr n m is = (ap (λ (l : List Item). reads_as l dp2 (vcr + 1) n m) is.1 ∙ ap (λ (l : List Item). reads_as ip l (vcr + 1) n m) is.2, is.0)

-- the fields after an attribute was written
pub note_placed : (p : Part) (note before : Note) (ip dp : List Item) (vcr : ℕ) (n m n2 m2 : Note) → IsNotePlaced p note before n m n2 m2
    → (reads_as ip dp vcr n2 m2 ≡ with_note p note (reads_as ip dp vcr n m)) × (before ≡ note_of p (reads_as ip dp vcr n m))
note_placed Ip note before ip dp vcr n m n2 m2 is = (ap (λ (k : Note). reads_as ip dp vcr k m2) is.1 ∙ ap (λ (k : Note). reads_as ip dp vcr note k) is.2, is.0)
note_placed Dp note before ip dp vcr n m n2 m2 is = (ap (λ (k : Note). reads_as ip dp vcr k m2) is.1 ∙ ap (λ (k : Note). reads_as ip dp vcr n k) is.2, is.0)

-- an attribute whose writing is undone is as it was
pub undo_note : (p : Part) (note : Note) (c : Cartridge) → undo (Noted p (note_of p c)) (with_note p note c) ≡ c
undo_note Ip note c = refl
undo_note Dp note c = refl

-- writing an attribute leaves the cartridge within its limits
pub fits_note : (limits : Limits) (p : Part) (note : Note) (c : Cartridge) → FitsLimits limits c → FitsLimits limits (with_note p note c)
fits_note limits Ip note c fits = record { ip = fits.ip; dp = fits.dp }
fits_note limits Dp note c fits = record { ip = fits.ip; dp = fits.dp }

-- the newest entry comes first
pub newest : (acts acts2 : List DoneCommand) (e : DoneCommand) → acts2 ≡ acts ++ e ∷ [] → reverse acts2 ≡ e ∷ reverse acts
newest acts acts2 e is = ap reverse is ∙ reverse-append acts (e ∷ [])
