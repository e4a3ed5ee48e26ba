-- That what is told of a tree lies within a volume.
use Rattle.std.proofs.Common.{ℕ, suc, ◌≡◌, ◌+◌, ◌-◌, ◌*◌, ◌/◌, ◌<◌, ◌≤◌, List, [], ◌∷◌, map, Some, sym, ◌∙◌, refl, subst, inl, inr, arith}
use Rattle.std.specs.FinMap as fin
use Rattle.std.specs.List.{AllByRecursion, slice_get}
use Rattle.std.proofs.Math.Nat.{add-mul, div-eq_of_lt, lt-div-mul-add, mul-le-mul_right}
use Rattle.tape_types.specs.declared.cartridges.Extent.{Extent}
use Rattle.tape_types.specs.declared.cartridges.Part.{Part}
use Rattle.tape_types.specs.declared.cartridges.Part.TheVariants.{Ip, Dp}
use Rattle.index_model.specs.declared.nodes.Node as told
use Rattle.index_model.specs.declared.nodes.RawExtent.{RawExtent}
use Rattle.plain_tree.specs.Paths.{Path}
use Rattle.extent_map.specs.Blocks.{SomeStandsIn, StandsIn}
use Rattle.extent_map.specs.Laid.{AreLaid}
use Rattle.file_tree.specs.Told.{raw_of, told_kind_of, told_of, told_nodes}
use Rattle.file_tree.specs.Told as file_told
use Rattle.file_tree.specs.Tree.{FileTree}
use Rattle.file_tree.specs.Valid.{IsGood}
use Rattle.file_tree.specs.declared.nodes.HeldKind.{HeldKind}
use Rattle.file_tree.specs.declared.nodes.HeldKind.TheVariants as kinds
use Rattle.file_tree.specs.declared.nodes.Node.{Node}
use Rattle.file_tree.specs.Blocks.{LiesBelow, TreeStandsIn}
use Rattle.file_tree.proofs.ToldLemmas.{entry_get}
use Rattle.ltfs_label.specs.declared.Label.{Label}
use Rattle.cartridge_meaning.specs.Meaning.{Fits, FitsKind, FitsNode, end_on}
use Rattle.cartridge_meaning.specs.Pointers.{letter_of}
use Rattle.volume_state.specs.DueLaws.Behind.{BeginsBehindLabels}

-- ---- an extent, by its first block and its last

first_low : (size block byte : ℕ) → byte < size → 4 ≤ block + (byte + 0) / size → 4 ≤ block
first_low size block byte within low =
    let same : byte + 0 < size = omega (arith, within) in
    let none : (byte + 0) / size ≡ 0 = div-eq_of_lt same in
    omega (arith, low, none)

last_high : (size end block byte i count : ℕ) → byte < size → i + 1 ≡ count → block + (byte + i) / size < end
    → block * size + byte + count ≤ end * size
last_high size end block byte i count within last below =
    let q : ℕ = (byte + i) / size in
    let some : 0 < size = omega (arith, within) in
    let rest : byte + i < q * size + size = lt-div-mul-add some in
    let most : (block + q + 1) * size ≤ end * size = mul-le-mul_right size (omega (arith, below)) in
    let one : (block + q + 1) * size ≡ (block + q) * size + 1 * size = add-mul (block + q) 1 size in
    let two : (block + q) * size ≡ block * size + q * size = add-mul block q size in
    omega (arith, rest, most, one, two, last)

module _ (label : Label) (ip dp : ℕ) where
  -- each of these blocks stands within the volume
  abbrev IsInside : (Part → ℕ → Type 0) → Type 0
  IsInside stands = (part : Part) (pos : ℕ) → stands part pos → (4 ≤ pos) × (pos < end_on part ip dp)

  letter_same : (part : Part) → file_told.letter_of (label.index, label.dpart) part ≡ letter_of label part
  letter_same Ip = refl
  letter_same Dp = refl

  fit : (e : Extent) → 1 ≤ e.count → e.byte < label.block → IsInside (StandsIn label.block e)
      → Fits label ip dp (raw_of (label.index, label.dpart) e)
  fit e some within inside =
      let first = inside e.part (e.block + (e.byte + 0) / label.block)
      (record { byte = 0; within = omega (arith, some); on = refl; here = refl }) in
      let last = inside e.part (e.block + (e.byte + (e.count - 1)) / label.block)
      (record { byte = e.count - 1; within = omega (arith, some); on = refl; here = refl }) in
      record {
        part = e.part;
        letter = letter_same e.part;
        byte = within;
        low = first_low label.block e.block e.byte within first.0;
        high = last_high label.block (end_on e.part ip dp) e.block e.byte (e.count - 1) e.count within
            (omega (arith, some)) last.1;
      }

  fit_all : (low high : ℕ) (es : List Extent) → AreLaid label.block low high es → IsInside (SomeStandsIn label.block es)
      → AllByRecursion (λ (e : RawExtent). 0 < e.count → Fits label ip dp e)
      (map (raw_of (label.index, label.dpart)) es)
  fit_all low high [] laid inside = tt
  fit_all low high (e ∷ es) laid inside = (
    λ some. fit e laid.1 laid.2 (λ part pos h. inside part pos (inl h)),
    fit_all (e.offset + e.count) high es laid.4 (λ part pos h. inside part pos (inr h)),
  )

  -- ---- the nodes of a tree

  module _ (t : FileTree) (size : t.block_size ≡ label.block) (good : IsGood t) (behind : BeginsBehindLabels t)
      (below : LiesBelow (λ part. end_on part ip dp) t) where
    fit_kind : (p : Path) (n : Node) → fin.get t.nodes p ≡ Some n
        → FitsKind label ip dp (told_kind_of (label.index, label.dpart) n.kind)
    fit_kind p n there = by n.kind refl
      where
        by : (k : HeldKind) → n.kind ≡ k → FitsKind label ip dp (told_kind_of (label.index, label.dpart) k)
        by kinds.Dir e = tt
        by (kinds.Link text) e = tt
        by (kinds.File room) e =
            let file = good.files p n room there e in
            let same : room.laid.block_size ≡ label.block = file.size ∙ size in
            let stands : IsInside (SomeStandsIn room.laid.block_size room.laid.extents) = λ part pos h.
            let here : TreeStandsIn t part pos = record {
              number = n.number;
              laid = room.laid;
              file = record { path = p; node = n; there = there; is = refl; room = room; file = e; lies = refl };
              block = h;
            } in
            (behind part pos here, below part pos here) in
            fit_all 0 room.laid.length room.laid.extents
            (subst (λ n. AreLaid n 0 room.laid.length room.laid.extents) same file.lies.are_laid)
            (subst (λ n. IsInside (SomeStandsIn n room.laid.extents)) same stands)

    fit_told : (tell : (Path × Node) → told.Node)
        → ((e : Path × Node) → (tell e).kind ≡ told_kind_of (label.index, label.dpart) e.1.kind)
        → (es : List (Path × Node))
        → ((i : ℕ) (e : Path × Node) → slice_get es i ≡ Some e → fin.get t.nodes e.0 ≡ Some e.1)
        → AllByRecursion (FitsNode label ip dp) (map tell es)
    fit_told tell kind_is [] there = tt
    fit_told tell kind_is (e ∷ es) there = (
      subst (FitsKind label ip dp) (sym (kind_is e)) (fit_kind e.0 e.1 (there 0 e refl)),
      fit_told tell kind_is es (λ i e is. there (suc i) e is),
    )

    -- the nodes that are told of a tree lie within the ends of the volume
    pub told_fits : AllByRecursion (FitsNode label ip dp) (told_nodes (label.index, label.dpart) t)
    told_fits = fit_told (told_of (label.index, label.dpart) t.name (fin.keys t.nodes)) (λ e. refl)
        (fin.entries t.nodes) (λ i e is. entry_get t.nodes i e.0 e.1 is)
