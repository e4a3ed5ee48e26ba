-- Writes on both partitions, one behind the other.
use Rattle.std.proofs.Common.{ℕ, ◌≡◌, ◌∙◌, List, ◌++◌, take, length}
use Rattle.std.proofs.Common.{Some, refl, ap, subst, arith, length-append}
use Rattle.std.proofs.lemmas.List.{take_all}
use Rattle.tape_drive.proofs.Exact.{same_cartridge}
use Rattle.coherency.specs.Notes.{IsNote, note_of}
use Rattle.tape_types.specs.declared.cartridges.Cartridge.{Cartridge}
use Rattle.tape_types.specs.declared.cartridges.Item.{Item}
use Rattle.tape_types.specs.declared.cartridges.Part.TheVariants.{Ip, Dp}
use Rattle.tape_drive.specs.declared.drive.Drive.{Ghosts}
use Rattle.format_volume.specs.declared.requests.FormatSpec.{FormatSpec}
use Rattle.format_volume.specs.Steps.{AreAppended, HasNotes, HoldsVolume, WritesBoth, with_notes}
use Rattle.format_volume.specs.Texts.{AreTextsOf}
use Rattle.format_volume.specs.declared.texts.Texts as kept
use Rattle.format_volume.specs.Volumes.{construct, document_on, items_on, label_items, note_for, noted, record_for}
use Rattle.format_volume.specs.Volumes.{vcr_after, volume_for}
use Rattle.format_volume.specs.Writes.{marked}
use Rattle.vol_label.specs.Table.{record_of}

-- what stands behind four items, where nothing else did
behind_four : (l zs : List Item) (m k : List Item) → m ≡ l → length l ≡ 4 → k ≡ take 4 m ++ zs → k ≡ l ++ zs
behind_four l zs m k is four behind =
    behind ∙ ap (λ (x : List Item). take 4 x ++ zs) is ∙ ap (λ (x : List Item). x ++ zs) (take_all 4 l (omega (arith, four)))

-- labels, and indexes behind them
labels_then : (xs ys zs ws : List Item) (c d e : Cartridge) → length xs ≡ 4 → length ys ≡ 4
    → AreAppended 0 xs ys c d → AreAppended 4 zs ws d e → AreAppended 0 (xs ++ zs) (ys ++ ws) c e
labels_then xs ys zs ws c d e ip_four dp_four first second = record {
  ip_items = behind_four xs zs d.ip e.ip first.ip_items ip_four second.ip_items;
  dp_items = behind_four ys ws d.dp e.dp first.dp_items dp_four second.dp_items;
  vcr = omega (arith, first.vcr, second.vcr, length-append xs zs, length-append ys ws);
}

module _ {D : Type 0} (drive : Ghosts D) where
  pub labels_and_indexes : (xs ys zs ws : List Item) (a b c : D) → length xs ≡ 4 → length ys ≡ 4
      → WritesBoth drive 0 xs ys a b → WritesBoth drive 4 zs ws b c → WritesBoth drive 0 (xs ++ zs) (ys ++ ws) a c
  labels_and_indexes xs ys zs ws a b c ip_four dp_four first second = λ k held.
      let one = first k held in
      let two = second one.0 one.1 in
      (two.0, two.1, labels_then xs ys zs ws k one.0 two.0 ip_four dp_four one.2 two.2)

  -- the items of a volume, of which the texts are these
  pub items_written : (spec : FormatSpec) (texts : kept.Texts) (a b c : D) → AreTextsOf spec texts
      → WritesBoth drive 0 (marked texts.record texts.ip_label) (marked texts.record texts.dp_label) a b
      → WritesBoth drive 4 (construct spec.block texts.ip_index) (construct spec.block texts.dp_index) b c
      → WritesBoth drive 0 (items_on Ip spec) (items_on Dp spec) a c
  items_written spec texts a b c are first second =
      let ip_labels : marked texts.record texts.ip_label ≡ label_items Ip spec =
      ap (λ (l : List ℕ). marked l texts.ip_label) are.record_is ∙ ap (λ (l : List ℕ). marked (record_of (record_for spec)) l) are.ip_label in
      let dp_labels : marked texts.record texts.dp_label ≡ label_items Dp spec =
      ap (λ (l : List ℕ). marked l texts.dp_label) are.record_is ∙ ap (λ (l : List ℕ). marked (record_of (record_for spec)) l) are.dp_label in
      let ip_index : construct spec.block texts.ip_index ≡ construct spec.block (document_on Ip spec) =
      ap (λ (l : List ℕ). construct spec.block l) are.ip_index in
      let dp_index : construct spec.block texts.dp_index ≡ construct spec.block (document_on Dp spec) =
      ap (λ (l : List ℕ). construct spec.block l) are.dp_index in
      labels_and_indexes (label_items Ip spec) (label_items Dp spec) (construct spec.block (document_on Ip spec))
      (construct spec.block (document_on Dp spec)) a b c refl refl
      (subst (λ (l : List Item). WritesBoth drive 0 l (label_items Dp spec) a b) ip_labels
      (subst (λ (l : List Item). WritesBoth drive 0 (marked texts.record texts.ip_label) l a b) dp_labels first))
      (subst (λ (l : List Item). WritesBoth drive 4 l (construct spec.block (document_on Dp spec)) b c) ip_index
      (subst (λ (l : List Item). WritesBoth drive 4 (construct spec.block texts.ip_index) l b c) dp_index second))

  -- a volume's items, with its notes behind them
  pub volume_held : (spec : FormatSpec) (a b c : D) → WritesBoth drive 0 (items_on Ip spec) (items_on Dp spec) a b
      → ((d : Cartridge) → drive.held b ≡ Some d
      → (drive.held c ≡ Some (with_notes spec d)) × IsNote (note_of (noted spec d.vcr)) (noted spec d.vcr))
      → HoldsVolume drive spec a c
  volume_held spec a b c wrote notes = λ k held.
      let t = wrote k held in
      let d : Cartridge = t.0 in
      let n = notes d t.1 in
      n.0 ∙ ap Some (same_cartridge (with_notes spec d) (volume_for spec (vcr_after spec k.vcr)) t.2.ip_items t.2.dp_items t.2.vcr
      (ap (λ (v : ℕ). note_for spec v) t.2.vcr)
      (ap (λ (v : ℕ). note_for spec v) t.2.vcr))

  -- the bytes of both notes of a new volume are notes with their values
  pub volume_notes : (spec : FormatSpec) (a b c : D) → WritesBoth drive 0 (items_on Ip spec) (items_on Dp spec) a b
      → ((d : Cartridge) → drive.held b ≡ Some d
      → (drive.held c ≡ Some (with_notes spec d)) × IsNote (note_of (noted spec d.vcr)) (noted spec d.vcr))
      → HasNotes drive spec a
  volume_notes spec a b c wrote notes = λ k held.
      let t = wrote k held in
      subst (λ (v : ℕ). IsNote (note_of (noted spec v)) (noted spec v)) t.2.vcr (notes t.0 t.1).1
