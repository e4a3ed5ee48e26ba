-- How partitions end whose notes are honest.
use Rattle.std.proofs.Common.{ℕ, ◌+◌, ◌≡◌, List, [], ◌∷◌, length, Some, refl, sym, ◌∙◌, ap, subst, arith}
use Rattle.tape_types.specs.declared.cartridges.Cartridge.{Cartridge}
use Rattle.tape_types.specs.declared.cartridges.Item.{Item}
use Rattle.tape_types.specs.declared.cartridges.Part.{Part}
use Rattle.tape_types.specs.Cartridges.{items_of, note_of}
use Rattle.coherency.specs.Notes.{HasValues}
use Rattle.coherency.specs.declared.Coherency.{Coherency}
use Rattle.ltfs_label.specs.declared.Label.{Label}
use Rattle.content_laws.specs.Readings.{Construct, HasForm, IsIndexAt}
use Rattle.content_laws.specs.Ends.{EndsWithLast}
use Rattle.content_laws.proofs.Stands.{index_stands, one_index}
use Rattle.cartridge_meaning.specs.Notes.{IsHonestNote}
use Rattle.cartridge_meaning.specs.Pointers.{indexes_of, last_block}

-- the last of these indexes, which stands behind the mark in front of a place
abbrev pub IsLastAt : List Item → ℕ → Type 0
IsLastAt items block = (k : Construct) × (older : List Construct) × (indexes_of items ≡ k ∷ older) × (k.mark + 1 ≡ block) × IsIndexAt items k.mark k.blocks

last_at : (items : List Item) (block : ℕ) → HasForm items → last_block (indexes_of items) ≡ Some block → IsLastAt items block
last_at items block form is = at (indexes_of items) refl is
  where
    at : (ks : List Construct) → indexes_of items ≡ ks → last_block ks ≡ Some block → IsLastAt items block
    at [] are is = absurd (cc is)
    at (k ∷ older) are is = (k, older, are, (cc is), index_stands items [] k older form are)

module _ (c : Cartridge) (label : Label) (part : Part) (note : Coherency) (honest : IsHonestNote c label part) (has : HasValues (note_of part c) note)
    (uuid : note.uuid ≡ label.uuid) (vcr : note.vcr ≡ c.vcr) where
  -- the last index of the partition
  pub noted_stands : IsLastAt (items_of part c) note.block
  noted_stands =
      let t = honest.truthful note has uuid vcr in last_at (items_of part c) note.block t.0 t.1.block

  -- what stands to the end
  pub noted_ends : (mark : ℕ) (blocks : List (List ℕ)) → mark + 1 ≡ note.block → IsIndexAt (items_of part c) mark blocks
      → length (items_of part c) ≡ mark + length blocks + 2
      → EndsWithLast (items_of part c) (indexes_of (items_of part c))
      × ((k : Construct) (older : List Construct) → indexes_of (items_of part c) ≡ k ∷ older → k.blocks ≡ blocks)
  noted_ends mark blocks at stands ends =
      let n = noted_stands in
      let same : n.0.mark ≡ mark = omega (arith, n.3, at) in
      let one : n.0.blocks ≡ blocks = one_index (items_of part c) mark n.0.blocks blocks (subst (λ (m : ℕ). IsIndexAt (items_of part c) m n.0.blocks) same n.4) stands in (
        subst (EndsWithLast (items_of part c)) (sym n.2) (omega (arith, ends, same, ap length one)),
        λ k older are.
            let both : k ∷ older ≡ n.0 ∷ n.1 = sym are ∙ n.2 in
            let head : k ≡ n.0 = cc both in
            ap (λ (x : Construct). x.blocks) head ∙ one,
      )

  -- the partition ends with its last index
  pub noted_only : EndsWithLast (items_of part c) (indexes_of (items_of part c))
      → (mark : ℕ) × (blocks : List (List ℕ)) × (mark + 1 ≡ note.block) × IsIndexAt (items_of part c) mark blocks
      × (length (items_of part c) ≡ mark + length blocks + 2)
  noted_only ends =
      let n = noted_stands in
      (n.0.mark, n.0.blocks, n.3, n.4, subst (EndsWithLast (items_of part c)) n.2 ends)
