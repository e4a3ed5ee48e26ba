-- What a cartridge stands for goes by its labels, its indexes, and what stands below its ends.
use Rattle.std.proofs.Common.{◌≡◌, ◌≢◌, ℕ, zero, suc, ◌+◌, ◌*◌, ◌/◌, ◌≤◌, ◌<◌, List, [], ◌∷◌, ◌++◌, Option, Some, cond, length, take, inl, inr, refl, sym, ap, subst, ◌∙◌, arith}
use Rattle.std.specs.List.{AllByRecursion, slice_get}
use Rattle.std.proofs.Math.Nat.{div-mul-le_self, lt_of_mul-lt-mul_right}
use Rattle.std.proofs.lemmas.Bool.{eq-eqb, ne_eqb}
use Rattle.std.proofs.lemmas.Nat.{mul-le}
use Rattle.tape_types.specs.declared.cartridges.Cartridge.{Cartridge}
use Rattle.tape_types.specs.declared.cartridges.Item.{Item}
use Rattle.tape_types.specs.declared.cartridges.Part.{Part}
use Rattle.tape_types.specs.declared.cartridges.Part.TheVariants.{Ip, Dp}
use Rattle.plain_tree.specs.Tree.{Tree}
use Rattle.extent_map.specs.Blocks.{StandsIn}
use Rattle.extent_map.specs.Cells.{byte_in, tape_of}
use Rattle.file_tree.specs.Mounts.{IndexStandsIn, Letters, extent_of, part_of}
use Rattle.file_tree.proofs.BlockLemmas.{blocks_make_the_tree}
use Rattle.file_tree.proofs.MountedBlocks.{built_stands}
use Rattle.index_model.specs.declared.indexes.Index.{Index}
use Rattle.index_model.specs.declared.indexes.Spot.{Spot}
use Rattle.index_model.specs.declared.nodes.NodeKind.{NodeKind}
use Rattle.index_model.specs.declared.nodes.NodeKind.TheVariants as kinds
use Rattle.index_model.specs.declared.nodes.Node.{Node}
use Rattle.index_model.specs.declared.nodes.RawExtent.{RawExtent}
use Rattle.index_model.proofs.Walks.{all_at}
use Rattle.ltfs_label.specs.declared.Label.{Label}
use Rattle.ltfs_label.specs.Values.{LabelValue}
use Rattle.vol_label.specs.declared.Vol1.{Vol1}
use Rattle.content_laws.specs.Readings.{Construct}
use Rattle.content_laws.specs.Ends.{end_dp}
use Rattle.cartridge_meaning.specs.Carried.{Carried}
use Rattle.cartridge_meaning.specs.Kept.{Keeps}
use Rattle.cartridge_meaning.specs.Labels.{HasLabel, HasLabels, HasRecord, IsMarkedBlock}
use Rattle.cartridge_meaning.specs.Meaning.{Fits, FitsKind, FitsNode, Found, IsTreeOf, Reads, dp_end, end_on, ip_end}
use Rattle.cartridge_meaning.specs.Pointers.{IsLastOnDp, IsLastOnIp, NamesOneOf, PointsBack, indexes_of, letter_of, newest_spot}
use Rattle.cartridge_meaning.specs.declared.labels.Labels.{Labels}

-- ---- items before a place

same_before : {X : Type 0} (n : ℕ) (xs ys : List X) (at : ℕ) → take n xs ≡ take n ys → at < n → slice_get xs at ≡ slice_get ys at
same_before zero xs ys at e lt = absurd (omega (arith, lt))
same_before (suc n) [] [] at e lt = refl
same_before (suc n) [] (y ∷ ys) at e lt = absurd (let wrong : [] ≡ y ∷ take n ys = e in cc)
same_before (suc n) (x ∷ xs) [] at e lt = absurd (let wrong : x ∷ take n xs ≡ [] = e in cc)
same_before (suc n) (x ∷ xs) (y ∷ ys) zero e lt = let first : x ≡ y = cc in ap (λ z. Some z) first
same_before (suc n) (x ∷ xs) (y ∷ ys) (suc at) e lt = let rest : take n xs ≡ take n ys = cc in same_before n xs ys at rest (omega (arith, lt))

same_item : (ip dp : ℕ) (c d : Cartridge) (part : Part) (pos byte : ℕ) → take ip c.ip ≡ take ip d.ip → take dp c.dp ≡ take dp d.dp
    → pos < end_on part ip dp → tape_of c part pos byte ≡ tape_of d part pos byte
same_item ip dp c d Ip pos byte e f lt = ap (λ (o : Option Item). byte_in o byte) (same_before ip c.ip d.ip pos e lt)
same_item ip dp c d Dp pos byte e f lt = ap (λ (o : Option Item). byte_in o byte) (same_before dp c.dp d.dp pos f lt)

-- ---- the blocks of an index lie below the ends that its extents keep to

module _ (label : Label) (ip dp : ℕ) (differ : label.index ≢ label.dpart) where
  abbrev letters : Letters
  letters = (label.index, label.dpart)

  part_is : (part : Part) (letter : ℕ) → letter ≡ letter_of label part → part_of letters letter ≡ part
  part_is Ip letter e = ap (λ b. cond b Ip Dp) (eq-eqb letter label.index e)
  part_is Dp letter e = ap (λ b. cond b Ip Dp) (ne_eqb letter label.index (λ same. differ (sym same ∙ e)))

  fits_below : (e : RawExtent) (part : Part) (pos : ℕ) → Fits label ip dp e → StandsIn label.block (extent_of letters e) part pos → pos < end_on part ip dp
  fits_below e part pos f s =
      let same : f.part ≡ part = sym (part_is f.part e.letter f.letter) ∙ s.on in
      let low : (e.byte + s.byte) / label.block * label.block ≤ e.byte + s.byte = div-mul-le_self (e.byte + s.byte) label.block in
      let less : (e.block + (e.byte + s.byte) / label.block) * label.block < end_on f.part ip dp * label.block = omega (arith, low, s.within, f.high) in
      let lt : e.block + (e.byte + s.byte) / label.block < end_on f.part ip dp = lt_of_mul-lt-mul_right label.block less in
      let here : pos < end_on f.part ip dp = omega (arith, lt, s.here) in
      subst (λ (p : Part). pos < end_on p ip dp) same here

  index_below : (nodes : List Node) → AllByRecursion (FitsNode label ip dp) nodes → (part : Part) (pos : ℕ)
      → IndexStandsIn letters label.block nodes part pos → pos < end_on part ip dp
  index_below nodes all part pos s =
      let node = all_at (FitsNode label ip dp) nodes all s.at s.file.node s.file.is in
      let file = subst (FitsKind label ip dp) s.file.file node in
      let fits = all_at (λ (e : RawExtent). 0 < e.count → Fits label ip dp e) s.raws file s.which s.raw s.is in
      fits_below s.raw part pos (fits (omega (arith, s.block.within))) s.block

  -- the tree of an index stays where the items below the ends stay
  pub tree_stays : (c d : Cartridge) (index : Index) (tree : Tree) → AllByRecursion (FitsNode label ip dp) index.nodes
      → take ip c.ip ≡ take ip d.ip → take dp c.dp ≡ take dp d.dp → IsTreeOf label c index tree → IsTreeOf label d index tree
  tree_stays c d index tree all e f h = (
    h.0,
    h.1,
    h.2 ∙ blocks_make_the_tree (tape_of c) (tape_of d) h.0 (λ part pos byte s.
        let stands = built_stands letters label.block index.nodes (length index.nodes) h.0.nodes h.1.nodes s.number s.laid part pos s.file s.block in
        same_item ip dp c d part pos byte e f (index_below index.nodes all part pos stands)),
  )

-- ---- ends that lie further

module _ (label : Label) (ip dp ip2 dp2 : ℕ) (le : ip ≤ ip2) (le2 : dp ≤ dp2) where
  further : (part : Part) → end_on part ip dp * label.block ≤ end_on part ip2 dp2 * label.block
  further Ip = mul-le ip label.block ip2 label.block le (omega arith)
  further Dp = mul-le dp label.block dp2 label.block le2 (omega arith)

  extent_further : (e : RawExtent) → Fits label ip dp e → Fits label ip2 dp2 e
  extent_further e f = record { part = f.part; letter = f.letter; byte = f.byte; low = f.low; high = omega (arith, f.high, further f.part) }

  extents_further : (es : List RawExtent) → AllByRecursion (λ e. 0 < e.count → Fits label ip dp e) es
      → AllByRecursion (λ e. 0 < e.count → Fits label ip2 dp2 e) es
  extents_further [] all = all
  extents_further (e ∷ es) all = (λ some. extent_further e (all.0 some), extents_further es all.1)

  kind_further : (kind : NodeKind) → FitsKind label ip dp kind → FitsKind label ip2 dp2 kind
  kind_further kinds.Dir f = f
  kind_further (kinds.File size extents) f = extents_further extents f
  kind_further (kinds.Link text) f = f

  -- extents that lie before ends lie before later ends
  pub nodes_further : (nodes : List Node) → AllByRecursion (FitsNode label ip dp) nodes → AllByRecursion (FitsNode label ip2 dp2) nodes
  nodes_further [] all = all
  nodes_further (node ∷ nodes) all = (kind_further node.kind all.0, nodes_further nodes all.1)

-- ---- labels

marked_stays : (items others : List Item) (pos : ℕ) (bytes : List ℕ) → take 4 items ≡ take 4 others → pos + 1 < 4
    → IsMarkedBlock items pos bytes → IsMarkedBlock others pos bytes
marked_stays items others pos bytes e lt h = record {
  block = sym (same_before 4 items others pos e (omega (arith, lt))) ∙ h.block;
  mark = sym (same_before 4 items others (pos + 1) e lt) ∙ h.mark;
}

record_stays : (items others : List Item) (v : Vol1) → take 4 items ≡ take 4 others → HasRecord items v → HasRecord others v
record_stays items others v e h = record {
  bytes = h.bytes;
  stands = marked_stays items others 0 h.bytes e (omega arith) h.stands;
  spelled = h.spelled;
}

label_stays : (items others : List Item) (l : LabelValue) → take 4 items ≡ take 4 others → HasLabel items l → HasLabel others l
label_stays items others l e h = record {
  bytes = h.bytes;
  stands = marked_stays items others 2 h.bytes e (omega arith) h.stands;
  spelled = h.spelled;
}

-- the labels of a cartridge stay where the first four items of each partition stay
pub labels_stay : (c d : Cartridge) (l : Labels) → take 4 c.ip ≡ take 4 d.ip → take 4 c.dp ≡ take 4 d.dp → HasLabels c l → HasLabels d l
labels_stay c d l e f h = record {
  ip_record = record_stays c.ip d.ip l.ip_record e h.ip_record;
  dp_record = record_stays c.dp d.dp l.dp_record f h.dp_record;
  ip = label_stays c.ip d.ip _ e h.ip;
  dp = label_stays c.dp d.dp _ f h.dp;
  one_volume = h.one_volume;
}

-- ---- the whole

module _ (c d : Cartridge) (k : Keeps c d) where
  ends_further : (dp_end c ≤ dp_end d)
  ends_further = omega (arith, ap end_dp k.dp_indexes)

  pub found_stays : Found c → Found d
  found_stays f = record {
    labels = f.labels;
    forms = record { has = labels_stay c d f.labels k.ip_labels k.dp_labels f.forms.has; ip = k.ip_form; dp = k.dp_form };
    on_dp = f.on_dp;
    dp_last = subst (λ (ks : List Construct). IsLastOnDp f.labels.ip ks f.on_dp) k.dp_indexes f.dp_last;
    on_ip = f.on_ip;
    ip_last = subst (λ (ks : List Construct). IsLastOnIp f.labels.ip ks (indexes_of d.dp) f.on_dp f.on_ip) k.ip_indexes
        (subst (λ (ks : List Construct). IsLastOnIp f.labels.ip (indexes_of c.ip) ks f.on_dp f.on_ip) k.dp_indexes f.ip_last);
    index = f.index;
    choice = f.choice;
    within = nodes_further f.labels.ip (ip_end c) (dp_end c) (ip_end d) (dp_end d) k.ip_further ends_further f.index.nodes f.within;
  }

  -- a cartridge that keeps labels, indexes and items below the ends reads as before
  pub reads_stays : (facts : Carried) (tree : Tree) (generation : ℕ) → Reads c facts tree generation → Reads d facts tree generation
  unfolding found_stays
  reads_stays facts tree generation r = record {
    found = found_stays r.found;
    facts_are = r.facts_are;
    tree_is =
        tree_stays r.found.labels.ip (ip_end c) (dp_end c) r.found.forms.has.one_volume.places.letters c d r.found.index tree r.found.within
        k.ip_items k.dp_items r.tree_is;
    generation_is = r.generation_is;
  }

-- ---- pointers

names_more : (label : Label) (back : Option Spot) (more ks : List Construct) → NamesOneOf label back ks → NamesOneOf label back (more ++ ks)
names_more label back [] ks h = h
names_more label back (k ∷ more) ks h = inr (names_more label back more ks h)

newest_named : (label : Label) (back : Option Spot) (ks : List Construct) → ks ≢ [] → back ≡ newest_spot label ks → NamesOneOf label back ks
newest_named label back [] some e = absurd (some refl)
newest_named label back (k ∷ older) some e = inl e

-- the index partition's last index points right when newer ones come on the other partition
pub pointers_stay : (label : Label) (index old new : Index) (more dps : List Construct) → dps ≢ [] → index.generation < new.generation
    → PointsBack label index dps (Some old) → PointsBack label index (more ++ dps) (Some new)
pointers_stay label index old new more dps some less (inl h) = inr (less, names_more label index.back more dps (newest_named label index.back dps some h.1))
pointers_stay label index old new more dps some less (inr h) = inr (less, names_more label index.back more dps h.1)
