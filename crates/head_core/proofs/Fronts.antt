-- What stands in front of an op stays.
use Rattle.std.proofs.Common.{ℕ, ◌+◌, ◌-◌, ◌^◌, ◌≤◌, ◌≡◌, ◌⊎◌, ◌∙◌, ⊎_elim, inl, inr, List, [], ◌∷◌, ◌++◌, take, length, get_or, Some, refl, sym, ap, subst, arith}
use Rattle.std.specs.Prelude.{slice_get}
use Rattle.std.proofs.lemmas.List.{length-append, length-take-le, take-append-le, take_all}
use Rattle.std.proofs.Math.Seq.{get_or-append_seam}
use Rattle.std.proofs.lemmas.Option.{slice_get_read}
use Rattle.tape_types.specs.declared.cartridges.Cartridge.{Cartridge}
use Rattle.tape_types.specs.declared.cartridges.Item.{Item}
use Rattle.tape_types.specs.declared.cartridges.Item.TheVariants as item
use Rattle.tape_types.specs.declared.cartridges.Part.{Part}
use Rattle.tape_types.specs.declared.cartridges.Part.TheVariants.{Ip, Dp}
use Rattle.tape_types.specs.declared.cartridges.Place.{Place}
use Rattle.tape_types.specs.declared.cartridges.Twin.{Twin}
use Rattle.tape_types.specs.Cartridges.{items_of}
use Rattle.tape_drive.specs.Commands.{IsBroken, IsCutShort, IsWritten, KeepsRest, VcrRose}
use Rattle.tape_drive.specs.Crashes.{IsCut, WithinWrite}
use Rattle.tape_layout.specs.declared.ops.Op.{Op}
use Rattle.tape_layout.specs.declared.ops.Op.TheVariants as op
use Rattle.tape_layout.specs.Ops.{place_of}
use Rattle.head_core.specs.declared.work.StepDone.{StepDone}
use Rattle.head_core.specs.declared.work.StepDone.TheVariants as done
use Rattle.head_core.specs.Laws.{CrashesKeepFronts, IsLast, IsWithin, KeepsFront, OpsKeepFronts, front_of}
use Rattle.head_core.specs.Steps.{AfterOp, AfterPut, WithinOp}
use Rattle.head_core.proofs.Runs.{write_unseen}

-- a list that was cut keeps its front, whatever comes behind it
cut_front : (pos : ℕ) (l : List Item) → pos ≤ length l → take pos (take pos l) ≡ take pos l
cut_front pos l le = take_all pos (take pos l) (omega (arith, length-take-le pos l le))

more_front : (pos : ℕ) (l more : List Item) → pos ≤ length l → take pos (take pos l ++ more) ≡ take pos l
more_front pos l more le =
    take-append-le pos (take pos l) more (omega (arith, length-take-le pos l le)) ∙ cut_front pos l le

short_front : (pos : ℕ) (l new : List Item) → pos ≤ length l → IsCutShort pos l new → take pos new ≡ take pos l
short_front pos l new le (inl is) = ap (λ (m : List Item). take pos m) is ∙ cut_front pos l le
short_front pos l new le (inr is) = ap (λ (m : List Item). take pos m) is ∙ more_front pos l (item.Torn ∷ []) le

image_front : (pos : ℕ) (x : Item) (l new : List Item) → pos ≤ length l → IsCut pos x l new → take pos new ≡ take pos l
image_front pos x l new le (inl short) = short_front pos l new le short
image_front pos x l new le (inr is) = ap (λ (m : List Item). take pos m) is ∙ more_front pos l (x ∷ []) le

-- an item that was appended stands at the position of the cut
stands : (pos : ℕ) (x : Item) (l : List Item) → pos ≤ length l → slice_get (take pos l ++ x ∷ []) pos ≡ Some x
stands pos x l le =
    let cut : length (take pos l) ≡ pos = length-take-le pos l le in
    let whole : pos + 1 ≡ length (take pos l ++ x ∷ []) = omega (arith, cut, length-append (take pos l) (x ∷ [])) in
    let here : get_or (take pos l ++ x ∷ []) pos x ≡ x =
    subst (λ (n : ℕ). get_or (take pos l ++ x ∷ []) n x ≡ x) cut (get_or-append_seam (take pos l) x [] x) in
    slice_get_read (take pos l ++ x ∷ []) (pos + 1) pos x whole (omega arith) (sym here)

put_last : (at : Place) (x : Item) (old new : Cartridge) → IsWithin at old → IsWritten at.part at.pos x old new → IsLast at x new
put_last at x old new within w = record {
  here = ap (λ (l : List Item). slice_get l at.pos) w.items ∙ stands at.pos x (items_of at.part old) within;
  last = ap (λ (l : List Item). length l) w.items
      ∙ omega (
        arith,
        length-take-le at.pos (items_of at.part old) within,
        length-append (take at.pos (items_of at.part old)) (x ∷ []),
      );
}

written_keeps : (at : Place) (x : Item) (old new : Cartridge) → IsWithin at old → IsWritten at.part at.pos x old new → KeepsFront at old new
written_keeps at x old new within w = record {
  front = ap (λ (l : List Item). take at.pos l) w.items ∙ more_front at.pos (items_of at.part old) (x ∷ []) within;
  rest = w.rest;
  vcr_least = omega (arith, w.vcr.by_one);
  vcr_most = omega (arith, w.vcr.by_one);
}

broken_front : (at : Place) (old new : Cartridge) → IsWithin at old → IsBroken at.part at.pos old new → front_of at new ≡ front_of at old
broken_front at old new within w = ⊎_elim
    (λ (same : (items_of at.part new ≡ items_of at.part old) × ((new.vcr ≡ old.vcr) ⊎ VcrRose old new)).
    ap (λ (l : List Item). take at.pos l) same.0)
    (λ (cut : IsCutShort at.pos (items_of at.part old) (items_of at.part new) × VcrRose old new).
    short_front at.pos (items_of at.part old) (items_of at.part new) within cut.0)
    w.items

-- the volume change reference of a write that failed
broken_vcr : (part : Part) (pos : ℕ) (old new : Cartridge) → IsBroken part pos old new → (new.vcr ≡ old.vcr) ⊎ VcrRose old new
broken_vcr part pos old new w = ⊎_elim
    (λ (same : (items_of part new ≡ items_of part old) × ((new.vcr ≡ old.vcr) ⊎ VcrRose old new)). same.1)
    (λ (cut : IsCutShort pos (items_of part old) (items_of part new) × VcrRose old new). inr cut.1)
    w.items

vcr_least : (old new : Cartridge) → (new.vcr ≡ old.vcr) ⊎ VcrRose old new → old.vcr ≤ new.vcr
vcr_least old new (inl is) = omega (arith, is)
vcr_least old new (inr rose) = omega (arith, rose.by_one)

vcr_most : (old new : Cartridge) → (new.vcr ≡ old.vcr) ⊎ VcrRose old new → new.vcr ≤ old.vcr + 1
vcr_most old new (inl is) = omega (arith, is)
vcr_most old new (inr rose) = omega (arith, rose.by_one)

broken_keeps : (at : Place) (old new : Cartridge) → IsWithin at old → IsBroken at.part at.pos old new → KeepsFront at old new
broken_keeps at old new within w = record {
  front = broken_front at old new within w;
  rest = w.rest;
  vcr_least = vcr_least old new (broken_vcr at.part at.pos old new w);
  vcr_most = vcr_most old new (broken_vcr at.part at.pos old new w);
}

put_keeps : (at : Place) (x : Item) (end : StepDone) (old new : Cartridge) → IsWithin at old → AfterPut at x end old new → KeepsFront at old new
put_keeps at x (done.Read answer) old new within w = absurd w
put_keeps at x done.Wrote old new within w = written_keeps at x old new within w
put_keeps at x done.Flushed old new within w = absurd w
put_keeps at x (done.Failed counts) old new within w = broken_keeps at old new within w

same_rest : (part : Part) (old new : Cartridge) → new ≡ old → KeepsRest part old new
same_rest part old new is =
    subst (λ (c : Cartridge). KeepsRest part old c) (sym is) (record { other_part = refl; note_ip = refl; note_dp = refl })

same_keeps : (at : Place) (old new : Cartridge) → new ≡ old → KeepsFront at old new
same_keeps at old new is = record {
  front = ap (λ (c : Cartridge). front_of at c) is;
  rest = same_rest at.part old new is;
  vcr_least = omega (arith, ap (λ (c : Cartridge). c.vcr) is);
  vcr_most = omega (arith, ap (λ (c : Cartridge). c.vcr) is);
}

op_keeps : (o : Op) (end : StepDone) (old new : Cartridge) → IsWithin (place_of o) old → AfterOp o end old new → KeepsFront (place_of o) old new
op_keeps (op.Put at bytes) end old new within w = put_keeps at (item.Block bytes) end old new within w
op_keeps (op.Mark at) end old new within w = put_keeps at item.Mark end old new within w
op_keeps (op.Flush at) end old new within w = same_keeps at old new w

-- both partitions, one of which is named, the reference and the attributes are all of a cartridge
same_cartridge : (part : Part) (old new : Cartridge) → items_of part new ≡ items_of part old → new.vcr ≡ old.vcr → KeepsRest part old new → new ≡ old
same_cartridge Ip old new items vcr rest = let dp : new.dp ≡ old.dp = rest.other_part in let ip : new.ip ≡ old.ip = items in
    λ i. record { ip = ip i; dp = dp i; vcr = vcr i; note_ip = rest.note_ip i; note_dp = rest.note_dp i }
same_cartridge Dp old new items vcr rest = let ip : new.ip ≡ old.ip = rest.other_part in let dp : new.dp ≡ old.dp = items in
    λ i. record { ip = ip i; dp = dp i; vcr = vcr i; note_ip = rest.note_ip i; note_dp = rest.note_dp i }

-- no reference lies behind its end
broken_at_end : (part : Part) (pos : ℕ) (old new : Cartridge) → 2 ^ 64 - 1 ≤ old.vcr → IsBroken part pos old new → new ≡ old
broken_at_end part pos old new top w = ⊎_elim
    (λ (same : (items_of part new ≡ items_of part old) × ((new.vcr ≡ old.vcr) ⊎ VcrRose old new)).
    ⊎_elim
    (λ (is : new.vcr ≡ old.vcr). same_cartridge part old new same.0 is w.rest)
    (λ (rose : VcrRose old new). absurd (omega (arith, top, rose.by_one, rose.in_range)))
    same.1)
    (λ (cut : IsCutShort pos (items_of part old) (items_of part new) × VcrRose old new).
    absurd (omega (arith, top, cut.1.by_one, cut.1.in_range)))
    w.items

at_end : (at : Place) (x : Item) (end : StepDone) (old new : Cartridge) → 2 ^ 64 - 1 ≤ old.vcr → AfterPut at x end old new
    → (counts : Twin) × (end ≡ done.Failed counts) × (new ≡ old)
at_end at x (done.Read answer) old new top w = absurd w
at_end at x done.Wrote old new top w = absurd (omega (arith, top, w.vcr.by_one, w.vcr.in_range))
at_end at x done.Flushed old new top w = absurd w
at_end at x (done.Failed counts) old new top w = (counts, refl, broken_at_end at.part at.pos old new top w)

-- how a cartridge reads after an op: what stands in front of it stays
pub ops_keep : OpsKeepFronts
ops_keep = record {
  put = λ at bytes old new within w. put_last at (item.Block bytes) old new within w;
  mark = λ at old new within w. put_last at item.Mark old new within w;
  kept = op_keeps;
  put_at_end = λ at bytes end old new top w. at_end at (item.Block bytes) end old new top w;
  mark_at_end = λ at end old new top w. at_end at item.Mark end old new top w;
}

op_unseen : (o : Op) (held image : Cartridge) → WithinOp o held image image
op_unseen (op.Put at bytes) held image = write_unseen at.part at.pos (item.Block bytes) held image
op_unseen (op.Mark at) held image = write_unseen at.part at.pos item.Mark held image
op_unseen (op.Flush at) held image = inl refl

put_left : (at : Place) (x : Item) (end : StepDone) (old new : Cartridge) → AfterPut at x end old new → WithinWrite at.part at.pos x old old new
put_left at x (done.Read answer) old new w = absurd w
put_left at x done.Wrote old new w = record { items = inr (inr w.items, w.vcr); rest = w.rest }
put_left at x done.Flushed old new w = absurd w
put_left at x (done.Failed counts) old new w = record {
  items = ⊎_elim
      (λ (same : (items_of at.part new ≡ items_of at.part old) × ((new.vcr ≡ old.vcr) ⊎ VcrRose old new)). inl same)
      (λ (cut : IsCutShort at.pos (items_of at.part old) (items_of at.part new) × VcrRose old new). inr (inl cut.0, cut.1))
      w.items;
  rest = w.rest;
}

op_left : (o : Op) (end : StepDone) (old new : Cartridge) → AfterOp o end old new → WithinOp o old old new
op_left (op.Put at bytes) end old new w = put_left at (item.Block bytes) end old new w
op_left (op.Mark at) end old new w = put_left at item.Mark end old new w
op_left (op.Flush at) end old new w = inl w

within_front : (at : Place) (x : Item) (held before image : Cartridge) → IsWithin at held → WithinWrite at.part at.pos x held before image
    → front_of at before ≡ front_of at held → front_of at image ≡ front_of at held
within_front at x held before image within w is = ⊎_elim
    (λ (same : (items_of at.part image ≡ items_of at.part before) × ((image.vcr ≡ before.vcr) ⊎ VcrRose held image)).
    ap (λ (l : List Item). take at.pos l) same.0 ∙ is)
    (λ (cut : IsCut at.pos x (items_of at.part held) (items_of at.part image) × VcrRose held image).
    image_front at.pos x (items_of at.part held) (items_of at.part image) within cut.0)
    w.items

op_front : (o : Op) (held before image : Cartridge) → IsWithin (place_of o) held → WithinOp o held before image
    → front_of (place_of o) before ≡ front_of (place_of o) held → front_of (place_of o) image ≡ front_of (place_of o) held
op_front (op.Put at bytes) held before image within w is = within_front at (item.Block bytes) held before image within w is
op_front (op.Mark at) held before image within w is = within_front at item.Mark held before image within w is
op_front (op.Flush at) held before image within (inl w) is = ap (λ (c : Cartridge). front_of at c) w ∙ is
op_front (op.Flush at) held before image within (inr w) is = ap (λ (c : Cartridge). front_of at c) w

op_rest : (o : Op) (held before image : Cartridge) → WithinOp o held before image → KeepsRest (place_of o).part before image ⊎ (image ≡ held)
op_rest (op.Put at bytes) held before image w = inl w.rest
op_rest (op.Mark at) held before image w = inl w.rest
op_rest (op.Flush at) held before image (inl w) = inl (same_rest at.part before image w)
op_rest (op.Flush at) held before image (inr w) = inr w

-- no image that a crash leaves within an op has changed what stands in front of it
pub crashes_keep : CrashesKeepFronts
crashes_keep = record { unseen = op_unseen; left = op_left; front = op_front; rest = op_rest }
