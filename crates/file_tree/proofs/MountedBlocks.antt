-- Which blocks the tree of an index stands in.
use Rattle.std.proofs.Common.{◌≡◌, ◌⊎◌, ℕ, suc, ◌+◌, ◌*◌, ◌/◌, ◌<◌, ◌≤◌, ◌^◌, Bool, true, false, cond, ltb, leb, List, [], ◌∷◌, map, fold, length, sym, ap, ◌∙◌, refl, subst, inl, inr, ⊎_elim, arith}
use Rattle.std.specs.List.{AllByRecursion, filter}
use Rattle.std.proofs.Math.Nat.{div-mul-le_self, mul-le-mul_right, add-mul}
use Rattle.std.proofs.lemmas.Bool.{cases_lt}
use Rattle.tape_types.specs.declared.cartridges.Extent.{Extent}
use Rattle.tape_types.specs.declared.cartridges.Part.{Part}
use Rattle.index_model.specs.declared.nodes.Node as told
use Rattle.index_model.specs.declared.nodes.NodeKind as told_kind
use Rattle.index_model.specs.declared.nodes.NodeKind.TheVariants as told_kinds
use Rattle.index_model.specs.declared.nodes.RawExtent.{RawExtent}
use Rattle.index_model.specs.Extents.{IsFileAt}
use Rattle.index_model.specs.Places.{IsAt}
use Rattle.index_model.proofs.Walks.{all_at}
use Rattle.extent_map.specs.Laid.{Laid, Room, cut, put_among}
use Rattle.extent_map.specs.Blocks.{StandsIn, SomeStandsIn, FileStandsIn}
use Rattle.extent_map.proofs.BlockLemmas.{in_joined, in_cut}
use Rattle.file_tree.specs.declared.nodes.HeldKind.{HeldKind}
use Rattle.file_tree.specs.declared.nodes.HeldKind.TheVariants as kinds
use Rattle.file_tree.specs.Tree.{Nodes, HasLaid}
use Rattle.file_tree.proofs.MountLemmas.{told_at}
use Rattle.file_tree.specs.Mounts.{Letters, extent_of, by_offset, laid_of, IsKindOf, part_of, IsBuilt, EndsNear, IndexStandsIn, EndsBelow, MountsLieBelow}

module _ (size : ℕ) (part : Part) (pos : ℕ) where
  in_filtered : (t : Extent → Bool) (es : List Extent) → SomeStandsIn size (filter t es) part pos → SomeStandsIn size es part pos
  in_filtered t [] h = h
  in_filtered t (e ∷ es) h = by (t e) (in_filtered t es) h
    where
      by : (b : Bool) → (SomeStandsIn size (filter t es) part pos → SomeStandsIn size es part pos) → SomeStandsIn size (cond b (e ∷ filter t es) (filter t es)) part pos → SomeStandsIn size (e ∷ es) part pos
      by true rest (inl here) = inl here
      by true rest (inr more) = inr (rest more)
      by false rest more = inr (rest more)

  in_put : (new : Extent) (es : List Extent) → SomeStandsIn size (put_among new es) part pos → StandsIn size new part pos ⊎ SomeStandsIn size es part pos
  in_put new es h = ⊎_elim
      (λ a. inr (in_filtered (λ e. ltb e.offset new.offset) es a))
      (λ b. ⊎_elim (λ here. inl here) (λ c. inr (in_filtered (λ e. leb new.offset e.offset) es c)) b)
      (in_joined size part pos (filter (λ e. ltb e.offset new.offset) es) (new ∷ filter (λ e. leb new.offset e.offset) es) h)

  in_folded : (es done : List Extent) → SomeStandsIn size (fold (λ sorted e. put_among e sorted) done es) part pos → SomeStandsIn size done part pos ⊎ SomeStandsIn size es part pos
  in_folded [] done h = inl h
  in_folded (e ∷ es) done h = ⊎_elim
      (λ a. ⊎_elim (λ new. inr (inl new)) (λ old. inl old) (in_put e done a))
      (λ more. inr (inr more))
      (in_folded es (put_among e done) h)

  in_sorted : (es : List Extent) → SomeStandsIn size (by_offset es) part pos → SomeStandsIn size es part pos
  in_sorted es h = ⊎_elim (λ none. absurd none) (λ some. some) (in_folded es [] h)

  of_raws : (letters : Letters) (raws : List RawExtent) → SomeStandsIn size (map (extent_of letters) raws) part pos → (at : ℕ) × (raw : RawExtent) × IsAt raws at raw × StandsIn size (extent_of letters raw) part pos
  of_raws letters [] h = absurd h
  of_raws letters (raw ∷ raws) (inl here) = (0, raw, refl, here)
  of_raws letters (raw ∷ raws) (inr more) = let found = of_raws letters raws more in (suc found.0, found.1, found.2, found.3)

-- what is told of a file
file_of : (letters : Letters) (size : ℕ) (kind : told_kind.NodeKind) (room : Room) → IsKindOf letters size kind (kinds.File room) → (bytes : ℕ) × (raws : List RawExtent) × (kind ≡ told_kinds.File bytes raws) × (room.laid ≡ laid_of letters size bytes raws)
file_of letters size told_kinds.Dir room is = let wrong : kinds.File room ≡ kinds.Dir = is in cc
file_of letters size (told_kinds.Link text) room is = let wrong : kinds.File room ≡ kinds.Link text = is in cc
file_of letters size (told_kinds.File bytes raws) room is = (bytes, raws, refl, ap (λ (r : Room). r.laid) (one_room room is.0 is.1) ∙ is.2)
  where
    one_room : (r s : Room) → ◌≡◌ {A = HeldKind} (kinds.File r) (kinds.File s) → r ≡ s
    one_room r s e = cc

-- each block of the tree is one of the index
pub built_stands : (letters : Letters) (size : ℕ) (nodes : List told.Node) (before : ℕ) (m : Nodes) → IsBuilt letters size nodes before m
    → (number : ℕ) (laid : Laid) (part : Part) (pos : ℕ) → HasLaid m number laid → FileStandsIn laid part pos → IndexStandsIn letters size nodes part pos
built_stands letters size nodes before m built number laid part pos h block =
    let told = told_at letters size nodes before m built h.path h.node h.there in
    let file = file_of letters size told.0.kind h.room (subst (IsKindOf letters size told.0.kind) h.file told.3.kind) in
    let here : SomeStandsIn size (by_offset (cut file.0 (map (extent_of letters) file.1))) part pos = subst (λ f. FileStandsIn f part pos) (sym h.lies ∙ file.3) block in
    let found = of_raws size part pos letters file.1 (in_cut size part pos file.0 (map (extent_of letters) file.1) (in_sorted size part pos (cut file.0 (map (extent_of letters) file.1)) here)) in
    record {
      at = h.node.number;
      bytes = file.0;
      raws = file.1;
      file = record { node = told.0; is = told.1; file = file.2 };
      which = found.0;
      raw = found.1;
      is = found.2;
      block = found.3;
    }

-- each position is one that an index may tell
pub built_near : (letters : Letters) (size : ℕ) (nodes : List told.Node) (before : ℕ) (m : Nodes) → IsBuilt letters size nodes before m
    → ((at bytes : ℕ) (raws : List RawExtent) → IsFileAt nodes at bytes raws → AllByRecursion (EndsNear letters size) raws)
    → (number : ℕ) (laid : Laid) (part : Part) (pos : ℕ) → HasLaid m number laid → FileStandsIn laid part pos → pos ≤ 2 ^ 62
built_near letters size nodes before m built near number laid part pos h block =
    let s = built_stands letters size nodes before m built number laid part pos h block in
    all_at (EndsNear letters size) s.raws (near s.at s.bytes s.raws s.file) s.which s.raw s.is part pos s.block

-- a byte of an extent that ends below stands below
ends_below : (end size block byte count i pos : ℕ) → i < count → block * size + byte + count ≤ end * size → block + (byte + i) / size ≡ pos → pos < end
ends_below end size block byte count i pos lt ends is = ⊎_elim
    (λ (low : pos < end). low)
    (λ (high : end ≤ pos).
    let q : ℕ = (byte + i) / size in
    let whole : q * size ≤ byte + i = div-mul-le_self (byte + i) size in
    let more : end * size ≤ (block + q) * size = mul-le-mul_right size (omega (arith, high, is)) in
    let split : (block + q) * size ≡ block * size + q * size = add-mul block q size in
    absurd (omega (arith, whole, more, split, lt, ends)))
    (cases_lt pos end)

-- the tree of an index stands in that index's blocks
pub mounts_lie_below : MountsLieBelow
mounts_lie_below = record {
  blocks = λ letters size index t part pos is h. built_stands letters size index.nodes (length index.nodes) t.nodes is.nodes h.number h.laid part pos h.file h.block;
  below = λ ends letters size index t all is part pos h.
      let s = built_stands letters size index.nodes (length index.nodes) t.nodes is.nodes h.number h.laid part pos h.file h.block in
      let some : 0 < s.raw.count = omega (arith, s.block.within) in
      let end : s.raw.block * size + s.raw.byte + s.raw.count ≤ ends (part_of letters s.raw.letter) * size =
      all_at (EndsBelow ends letters size) s.raws (all s.at s.bytes s.raws s.file) s.which s.raw s.is some in
      subst (λ p. pos < ends p) s.block.on (ends_below (ends (part_of letters s.raw.letter)) size s.raw.block s.raw.byte s.raw.count s.block.byte pos s.block.within end s.block.here);
}
