-- That what a mount finds can be served.
use Rattle.std.proofs.Common.{◌≡◌, ◌≢◌, ◌⊎◌, ℕ, zero, suc, ◌+◌, ◌*◌, ◌/◌, ◌<◌, ◌≤◌, ◌^◌, true, false, cond, eqb, List, [], ◌∷◌, sym, ap, ◌∙◌, subst, arith, inl, inr}
use Rattle.std.specs.List.{AllByRecursion}
use Rattle.std.proofs.Math.Nat.{div-le_self}
use Rattle.std.proofs.lemmas.Bool.Decides.{nat_tests}
use Rattle.std.proofs.lemmas.Nat.{mul-le}
use Rattle.tape_types.specs.Bounds.{most_positions}
use Rattle.tape_types.specs.declared.cartridges.Part.{Part}
use Rattle.tape_types.specs.declared.cartridges.Part.TheVariants.{Dp, Ip}
use Rattle.index_model.specs.Extents.{IsFileAt}
use Rattle.index_model.specs.Places.{IsAt}
use Rattle.index_model.specs.declared.nodes.Node.{Node}
use Rattle.index_model.specs.declared.nodes.RawExtent.{RawExtent}
use Rattle.file_tree.specs.Mounts.{EndsBelow, EndsNear, IsOnVolume, part_of}
use Rattle.file_tree.proofs.PathLemmas.{some_same}
use Rattle.ltfs_label.specs.declared.Label.{Label}
use Rattle.tape_layout.specs.Ops.{end_of}
use Rattle.tape_layout.specs.declared.standing.Ends as layout
use Rattle.cartridge_meaning.specs.Meaning.{Fits, FitsKind, FitsNode, end_on}
use Rattle.cartridge_meaning.specs.Pointers.{letter_of}
use Rattle.cartridge_meaning.proofs.OneTree.{tree_once}
use Rattle.held_volume.specs.Mounted.{MountsAreStock, MountsCanStart, letters_of}
use Rattle.held_volume.specs.Stocks.{ends_of}

-- the block of a size within an end that is near
near_enough : (block size byte count end pos inside : ℕ) → 1 ≤ size → size ≤ 2 ^ 20 → end ≤ most_positions → block * size + byte + count ≤ end * size
    → inside < count → block + (byte + inside) / size ≡ pos → pos ≤ 2 ^ 62
near_enough block size byte count end pos inside some small most high within here =
    let ends : end * size ≤ most_positions * 2 ^ 20 = mul-le end size most_positions (2 ^ 20) most small in
    let begins : block * 1 ≤ block * size = mul-le block 1 block size (omega arith) some in
    let one : block * 1 ≡ block = omega arith in
    let least : (byte + inside) / size ≤ byte + inside = div-le_self (byte + inside) size in
    omega (arith, ends, begins, one, least, high, within, here)

module _ (label : Label) (ip dp : ℕ) (differ : label.index ≢ label.dpart) (some : 1 ≤ label.block) (small : label.block ≤ 2 ^ 20) (ip_most : ip ≤ most_positions) (dp_most : dp ≤ most_positions) where
  abbrev Fit : RawExtent → Type 0
  Fit e = 0 < e.count → Fits label ip dp e

  on_one : (part : Part) (letter : ℕ) → letter ≡ letter_of label part → (letter ≡ label.index) ⊎ (letter ≡ label.dpart)
  on_one Ip letter is = inl is
  on_one Dp letter is = inr is

  end_most : (part : Part) → end_on part ip dp ≤ most_positions
  end_most Ip = ip_most
  end_most Dp = dp_most

  on_volume : (raws : List RawExtent) → AllByRecursion Fit raws → AllByRecursion (IsOnVolume (label.index, label.dpart) label.block) raws
  on_volume [] fits = tt
  on_volume (raw ∷ raws) fits = ((λ bytes. let f = fits.0 bytes in (on_one f.part raw.letter f.letter, f.byte)), on_volume raws fits.1)

  near : (raws : List RawExtent) → AllByRecursion Fit raws → AllByRecursion (EndsNear (label.index, label.dpart) label.block) raws
  near [] fits = tt
  near (raw ∷ raws) fits = (
    (λ part pos stands.
        let f = fits.0 (omega (arith, stands.within)) in
        near_enough raw.block label.block raw.byte raw.count (end_on f.part ip dp) pos stands.byte some small (end_most f.part) f.high stands.within stands.here),
    near raws fits.1,
  )

  abbrev ends : layout.Ends
  ends = record { ip = ip; dp = dp }

  end_is : (part : Part) (letter : ℕ) → letter ≡ letter_of label part → end_on part ip dp ≡ ends_of ends (part_of (label.index, label.dpart) letter)
  end_is Ip letter is = ap (λ b. end_of (cond b Ip Dp) ends) (sym same)
    where
      same : eqb letter label.index ≡ true
      same = grind (arith, nat_tests, is)
  end_is Dp letter is = ap (λ b. end_of (cond b Ip Dp) ends) (sym other)
    where
      apart : letter ≢ label.index
      apart e = differ (sym e ∙ is)

      other : eqb letter label.index ≡ false
      other = grind (arith, nat_tests, apart)

  below : (raws : List RawExtent) → AllByRecursion Fit raws → AllByRecursion (EndsBelow (ends_of ends) (label.index, label.dpart) label.block) raws
  below [] fits = tt
  below (raw ∷ raws) fits = (
    (λ bytes. let f = fits.0 bytes in subst (λ n. raw.block * label.block + raw.byte + raw.count ≤ n * label.block) (end_is f.part raw.letter f.letter) f.high),
    below raws fits.1,
  )

fits_at : (label : Label) (ip dp : ℕ) (nodes : List Node) (at : ℕ) (node : Node) → AllByRecursion (FitsNode label ip dp) nodes → IsAt nodes at node → FitsNode label ip dp node
fits_at label ip dp [] at node all is = absurd (cc is)
fits_at label ip dp (n ∷ nodes) zero node all is = subst (FitsNode label ip dp) (some_same n node is) all.0
fits_at label ip dp (n ∷ nodes) (suc at) node all is = fits_at label ip dp nodes at node all.1 is

file_fits : (label : Label) (ip dp : ℕ) (nodes : List Node) (at bytes : ℕ) (raws : List RawExtent) → AllByRecursion (FitsNode label ip dp) nodes → IsFileAt nodes at bytes raws
    → AllByRecursion (λ e. 0 < e.count → Fits label ip dp e) raws
file_fits label ip dp nodes at bytes raws all file = subst (FitsKind label ip dp) file.file (fits_at label ip dp nodes at file.node all file.is)

-- what a mount finds can be started from
pub mounts_can_start : MountsCanStart
mounts_can_start limits m range is =
    let some : 1 ≤ m.label.block = omega (arith, is.blocks.0) in
    let small : m.label.block ≤ 2 ^ 20 = omega (arith, is.blocks.1) in
    let ip : m.end_ip ≤ most_positions = omega (arith, is.ip_end.1, range.ip_most) in
    let dp : m.end_dp ≤ most_positions = omega (arith, is.dp_end.1, range.dp_most) in
    record {
      mounts = record {
        valid = is.valid;
        differ = is.letters.2;
        some_block = some;
        on_volume = λ at bytes raws file. on_volume m.label m.end_ip m.end_dp is.letters.2 some small ip dp raws (file_fits m.label m.end_ip m.end_dp m.index.nodes at bytes raws is.fits file);
        near = λ at bytes raws file. near m.label m.end_ip m.end_dp is.letters.2 some small ip dp raws (file_fits m.label m.end_ip m.end_dp m.index.nodes at bytes raws is.fits file);
      };
      below = λ at bytes raws file. below m.label m.end_ip m.end_dp is.letters.2 some small ip dp raws (file_fits m.label m.end_ip m.end_dp m.index.nodes at bytes raws is.fits file);
      ends = record {
        limits_are = range;
        some = some;
        most = is.blocks.1;
        ip = record { low = is.ip_end.0; high = is.ip_end.1 };
        dp = record { low = is.dp_end.0; high = is.dp_end.1 };
      };
      newest = omega (arith, is.newest, is.valid.formed.volume.generation_most);
    }

-- what a mount finds is held as what stands first
pub mounts_are_stock : MountsAreStock
mounts_are_stock tape limits m g t tree facts limits_are plain = record {
  mounted = facts;
  limits_are = limits_are;
  tree = λ other is. tree_once tape (letters_of m) m.label.block m.index other t is tree ∙ sym plain;
}
