-- That a tree begins behind the labels.
use Rattle.std.proofs.Common.{ℕ, ◌≡◌, ◌+◌, ◌/◌, ◌<◌, ◌≤◌, List, subst, ⊎_elim, arith}
use Rattle.std.specs.List.{AllByRecursion}
use Rattle.index_model.specs.Extents.{IsFileAt}
use Rattle.index_model.specs.declared.nodes.Node as told
use Rattle.index_model.specs.declared.nodes.RawExtent.{RawExtent}
use Rattle.index_model.proofs.Walks.{all_at}
use Rattle.extent_map.specs.Blocks.{StandsIn}
use Rattle.file_tree.proofs.MountedBlocks.{mounts_lie_below}
use Rattle.ltfs_label.specs.declared.Label.{Label}
use Rattle.cartridge_meaning.specs.Meaning.{Fits, FitsKind, FitsNode}
use Rattle.volume_state.specs.DueLaws.Behind.{TreesBeginBehindLabels}

-- each extent of a file that is told lies within the volume
fits_file : (label : Label) (ip dp : ℕ) (nodes : List told.Node) → AllByRecursion (FitsNode label ip dp) nodes
    → (at bytes : ℕ) (raws : List RawExtent) → IsFileAt nodes at bytes raws
    → AllByRecursion (λ (e : RawExtent). 0 < e.count → Fits label ip dp e) raws
fits_file label ip dp nodes all at bytes raws f =
    subst (FitsKind label ip dp) f.file (all_at (FitsNode label ip dp) nodes all at f.node f.is)

-- a block of an extent stands no earlier than its first
no_earlier : (block q pos : ℕ) → 4 ≤ block → block + q ≡ pos → 4 ≤ pos
no_earlier block q pos low is = omega (arith, low, is)

-- each block of a tree stands behind the labels
pub begin_behind : TreesBeginBehindLabels
begin_behind = record {
  mounted = λ label ip dp letters size index t all is part pos h.
      let s = mounts_lie_below.blocks letters size index t part pos is h in
      let some : 0 < s.raw.count = omega (arith, s.block.within) in
      let fits = all_at (λ (e : RawExtent). 0 < e.count → Fits label ip dp e) s.raws
      (fits_file label ip dp index.nodes all s.at s.bytes s.raws s.file) s.which s.raw s.is some in
      no_earlier s.raw.block ((s.raw.byte + s.block.byte) / size) pos fits.low s.block.here;
  kept = λ before next adds behind part pos h. behind part pos (adds part pos h);
  given = λ new before next adds low behind part pos h. ⊎_elim
      (λ old. behind part pos old)
      (λ (this : StandsIn before.block_size new part pos).
      no_earlier new.block ((new.byte + this.byte) / before.block_size) pos low this.here)
      (adds part pos h);
}
