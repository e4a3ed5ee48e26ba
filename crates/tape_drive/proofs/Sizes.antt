-- What has stood in a partition keeps to its capacity.
use Rattle.std.proofs.Common.{ℕ, ◌-◌, ◌≤◌, ◌<◌, inl, inr, Bool, true, false, List, [], ◌∷◌, length, sym, subst, arith}
use Rattle.std.specs.Prelude.{All}
use Rattle.std.proofs.lemmas.List.{length-append, length-take}
use Rattle.std.proofs.lemmas.List.Elements.{All-append, All-take, All-cons}
use Rattle.tape_types.specs.declared.cartridges.Part.{Part}
use Rattle.tape_types.specs.declared.cartridges.Part.TheVariants.{Ip, Dp}
use Rattle.tape_types.specs.declared.cartridges.Item.{Item}
use Rattle.tape_types.specs.declared.cartridges.Item.TheVariants as item
use Rattle.tape_types.specs.declared.cartridges.Limits.{Limits}
use Rattle.tape_types.specs.declared.cartridges.Cartridge.{Cartridge}
use Rattle.tape_types.specs.Cartridges.{items_of, capacity, IsItem, HoldsAtMost}
use Rattle.tape_drive.specs.declared.record.Act.{Act}
use Rattle.tape_drive.specs.declared.record.Act.TheVariants.{Put, Flushed, Noted, Settled}
use Rattle.tape_drive.specs.declared.record.DoneCommand.{DoneCommand}
use Rattle.tape_drive.specs.Record.{front, undo, IsStage, KeptLimits, IsSound}
use Rattle.tape_drive.specs.Images.{is_same, moments, undone, image_of}
use Rattle.tape_drive.proofs.Stood.{OwnStage, StoodBy, Stood, image_in}
use Rattle.tape_drive.proofs.Exact.{undone_ip, undone_dp}

torn_each : All IsItem (item.Torn ∷ [])
torn_each = All-cons IsItem item.Torn [] tt (λ k d lt. absurd (omega arith))

stage_fits : (cap : ℕ) (items x : List Item) → 1 ≤ cap → HoldsAtMost cap items → IsStage items x → HoldsAtMost cap x
stage_fits limit items x some fits (inl is) =
    subst (λ (l : List Item). HoldsAtMost limit l) (sym is) (record { count = omega (arith, fits.count, length-take (length items - 1) items); each = All-take IsItem (length items - 1) items fits.each })
stage_fits limit items x some fits (inr (inl is)) = subst (λ (l : List Item). HoldsAtMost limit l) (sym is) (record {
  count = omega (arith, fits.count, length-append (front items) (item.Torn ∷ []), length-take (length items - 1) items);
  each = All-append IsItem (front items) (item.Torn ∷ []) (All-take IsItem (length items - 1) items fits.each) torn_each;
})
stage_fits limit items x some fits (inr (inr is)) = subst (λ (l : List Item). HoldsAtMost limit l) (sym is) fits

own_fits : (b : Bool) (cap : ℕ) (items x : List Item) (E : Type 0) → 1 ≤ cap → HoldsAtMost cap items → (E → HoldsAtMost cap x) → OwnStage b items x E → HoldsAtMost cap x
own_fits true limit items x E some fits ih (inl stage) = stage_fits limit items x some fits stage
own_fits true limit items x E some fits ih (inr h) = ih h
own_fits false limit items x E some fits ih h = ih h

fits_by : (part : Part) (act : Act) (cap : ℕ) (items x : List Item) (E : Type 0) → 1 ≤ cap → HoldsAtMost cap items → (E → HoldsAtMost cap x) → StoodBy part act items x E → HoldsAtMost cap x
fits_by part (Put p gone failed) limit items x E some fits ih h = own_fits (is_same part p) limit items x E some fits ih h
fits_by part Flushed limit items x E some fits ih h = subst (λ (l : List Item). HoldsAtMost limit l) (sym h) fits
fits_by part (Noted p n) limit items x E some fits ih h = ih h
fits_by part Settled limit items x E some fits ih h = ih h

ip_fits : (limits : Limits) (held : Cartridge) (es : List DoneCommand) (x : List Item) → 1 ≤ limits.cap_ip → KeptLimits limits held es → Stood Ip held.ip es x → HoldsAtMost limits.cap_ip x
ip_fits limits held [] x some kept is = subst (λ (l : List Item). HoldsAtMost limits.cap_ip l) (sym is) kept.ip
ip_fits limits held (e ∷ es) x some kept h =
    fits_by Ip e.act limits.cap_ip held.ip x (Stood Ip (undone Ip e.act held.ip) es x) some kept.0.ip
    (λ (earlier : Stood Ip (undone Ip e.act held.ip) es x). ip_fits limits (undo e.act held) es x some kept.1 (subst (λ (l : List Item). Stood Ip l es x) (sym (undone_ip e.act held)) earlier)) h

dp_fits : (limits : Limits) (held : Cartridge) (es : List DoneCommand) (x : List Item) → 1 ≤ limits.cap_dp → KeptLimits limits held es → Stood Dp held.dp es x → HoldsAtMost limits.cap_dp x
dp_fits limits held [] x some kept is = subst (λ (l : List Item). HoldsAtMost limits.cap_dp l) (sym is) kept.dp
dp_fits limits held (e ∷ es) x some kept h =
    fits_by Dp e.act limits.cap_dp held.dp x (Stood Dp (undone Dp e.act held.dp) es x) some kept.0.dp
    (λ (earlier : Stood Dp (undone Dp e.act held.dp) es x). dp_fits limits (undo e.act held) es x some kept.1 (subst (λ (l : List Item). Stood Dp l es x) (sym (undone_dp e.act held)) earlier)) h

-- an image of a partition keeps to its capacity
pub image_fits : (part : Part) (limits : Limits) (count : ℕ) (held : Cartridge) (es : List DoneCommand) (m : ℕ) (t : Bool) → IsSound limits count held es → m < moments es
    → HoldsAtMost (capacity part limits) (image_of part (items_of part held) es m t)
image_fits Ip limits count held es m t sound lt =
    let least = sound.range.ip_least in ip_fits limits held es (image_of Ip held.ip es m t) (omega arith) sound.sizes (image_in Ip held.ip es m t lt)
image_fits Dp limits count held es m t sound lt =
    let least = sound.range.dp_least in dp_fits limits held es (image_of Dp held.dp es m t) (omega arith) sound.sizes (image_in Dp held.dp es m t lt)
