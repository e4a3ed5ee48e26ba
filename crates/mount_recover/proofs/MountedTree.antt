-- An index whose extents end before two places has a tree.
use Rattle.std.proofs.Common.{◌≡◌, ◌≢◌, ℕ, zero, suc, ◌+◌, ◌*◌, ◌/◌, ◌<◌, ◌≤◌, ◌^◌, List, [], ◌∷◌, subst, arith, inl, inr, ◌⊎◌}
use Rattle.std.specs.List.{AllByRecursion}
use Rattle.std.proofs.Math.Nat.{div-le_self}
use Rattle.std.proofs.lemmas.Nat.{mul-le}
use Rattle.tape_types.specs.Bounds.{most_positions}
use Rattle.tape_types.specs.declared.cartridges.Part.{Part}
use Rattle.tape_types.specs.declared.cartridges.Part.TheVariants.{Ip, Dp}
use Rattle.index_model.specs.Extents.{IsFileAt}
use Rattle.index_model.specs.Places.{IsAt}
use Rattle.index_model.specs.Valid.{IsValid}
use Rattle.index_model.specs.declared.indexes.Index.{Index}
use Rattle.index_model.specs.declared.nodes.Node.{Node}
use Rattle.index_model.specs.declared.nodes.RawExtent.{RawExtent}
use Rattle.file_tree.specs.Mounts.{CanMount, EndsNear, IsOnVolume}
use Rattle.file_tree.proofs.PathLemmas.{some_same}
use Rattle.ltfs_label.specs.declared.Label.{Label}
use Rattle.cartridge_meaning.specs.Meaning.{Fits, FitsKind, FitsNode, end_on}
use Rattle.cartridge_meaning.specs.Pointers.{letter_of}
use Rattle.mount_recover.specs.Labels.{IsSpelled}
use Rattle.mount_recover.proofs.LabelRanges.{block_in_range}

-- the block of a size within an end that is near
near_enough : (block size byte count end cap pos inside : ℕ) → 1 ≤ size → size ≤ 2 ^ 20 → end ≤ cap → cap ≤ most_positions → block * size + byte + count ≤ end * size
    → inside < count → block + (byte + inside) / size ≡ pos → pos ≤ 2 ^ 62
near_enough block size byte count end cap pos inside some small below most high within here =
    let ends : end * size ≤ most_positions * 2 ^ 20 = mul-le end size most_positions (2 ^ 20)
    (omega (arith, below, most)) small in
    let begins : block * 1 ≤ block * size = mul-le block 1 block size (omega arith) some in
    let one : block * 1 ≡ block = omega arith in
    let least : (byte + inside) / size ≤ byte + inside = div-le_self (byte + inside) size in
    omega (arith, ends, begins, one, least, high, within, here)

module _ (label : Label) (ip dp : ℕ) (some : 1 ≤ label.block) (small : label.block ≤ 2 ^ 20) (ip_most : ip ≤ most_positions) (dp_most : dp ≤ most_positions) where
  on_one : (part : Part) (letter : ℕ) → letter ≡ letter_of label part → (letter ≡ label.index) ⊎ (letter ≡ label.dpart)
  on_one Ip letter is = inl is
  on_one Dp letter is = inr is

  end_most : (part : Part) → end_on part ip dp ≤ most_positions
  end_most Ip = ip_most
  end_most Dp = dp_most

  on_volume : (raws : List RawExtent) → AllByRecursion (λ e. 0 < e.count → Fits label ip dp e) raws → AllByRecursion (IsOnVolume (label.index, label.dpart) label.block) raws
  on_volume [] fits = tt
  on_volume (raw ∷ raws) fits = ((λ bytes. let f = fits.0 bytes in (on_one f.part raw.letter f.letter, f.byte)), on_volume raws fits.1)

  near : (raws : List RawExtent) → AllByRecursion (λ e. 0 < e.count → Fits label ip dp e) raws → AllByRecursion (EndsNear (label.index, label.dpart) label.block) raws
  near [] fits = tt
  near (raw ∷ raws) fits = (
    (λ part pos stands.
        let f = fits.0 (omega (arith, stands.within)) in
        near_enough raw.block label.block raw.byte raw.count (end_on f.part ip dp) most_positions pos stands.byte some small (end_most f.part) (omega arith) f.high stands.within stands.here),
    near raws fits.1,
  )

  fits_at : (nodes : List Node) (at : ℕ) (node : Node) → AllByRecursion (FitsNode label ip dp) nodes → IsAt nodes at node → FitsNode label ip dp node
  fits_at [] at node all is = absurd (cc is)
  fits_at (n ∷ nodes) zero node all is = subst (FitsNode label ip dp) (some_same n node is) all.0
  fits_at (n ∷ nodes) (suc at) node all is = fits_at nodes at node all.1 is

  file_fits : (nodes : List Node) (at bytes : ℕ) (raws : List RawExtent) → AllByRecursion (FitsNode label ip dp) nodes → IsFileAt nodes at bytes raws
      → AllByRecursion (λ e. 0 < e.count → Fits label ip dp e) raws
  file_fits nodes at bytes raws all file = subst (FitsKind label ip dp) file.file (fits_at nodes at file.node all file.is)

-- an index of a volume whose extents end before two places, far below the last one, can be made a tree
pub fits_can_mount : (label : Label) (ip dp : ℕ) (index : Index) → IsSpelled label → label.index ≢ label.dpart → IsValid index → ip ≤ most_positions → dp ≤ most_positions
    → AllByRecursion (FitsNode label ip dp) index.nodes → CanMount index (label.index, label.dpart) label.block
fits_can_mount label ip dp index spelled letters valid ip_most dp_most fits =
    let size = block_in_range spelled.0 _ spelled.1 in
    let some : 1 ≤ label.block = omega (arith, size.0) in
    let small : label.block ≤ 2 ^ 20 = omega (arith, size.1) in record {
      valid = valid;
      differ = letters;
      some_block = some;
      on_volume = λ at bytes raws file. on_volume label ip dp some small ip_most dp_most raws
          (file_fits label ip dp some small ip_most dp_most index.nodes at bytes raws fits file);
      near = λ at bytes raws file. near label ip dp some small ip_most dp_most raws
          (file_fits label ip dp some small ip_most dp_most index.nodes at bytes raws fits file);
    }
