-- That what a mount finds is held as what stands first.
use Rattle.std.proofs.Common.{◌≡◌, ℕ, zero, suc, ◌<◌, ◌≤◌, Bool, true, false, cond, eqb, List, [], ◌∷◌, Some, None, sym, ap, ◌∙◌, refl, subst, arith}
use Rattle.std.specs.List.{find}
use Rattle.std.specs.Option.{option_map, unwrap_or}
use Rattle.std.specs.FinMap as fin
use Rattle.std.proofs.lemmas.Bool.Decides.{nat_tests}
use Rattle.index_model.specs.Places.{IsAt}
use Rattle.index_model.specs.Uids.{AreUids}
use Rattle.index_model.specs.declared.nodes.Node as told
use Rattle.index_model.specs.declared.nodes.NodeKind as told_kind
use Rattle.index_model.specs.declared.nodes.NodeKind.TheVariants as told_kinds
use Rattle.extent_map.specs.Cells.{Tape}
use Rattle.extent_map.specs.Laid.{Room}
use Rattle.plain_tree.specs.Paths.{Path}
use Rattle.file_tree.specs.Mounts.{CanMount, IsKindOf, IsTreeOf}
use Rattle.file_tree.specs.Tree.{FileTree}
use Rattle.file_tree.specs.declared.nodes.HeldKind.{HeldKind}
use Rattle.file_tree.specs.declared.nodes.HeldKind.TheVariants as kinds
use Rattle.file_tree.specs.declared.nodes.Node.{Node}
use Rattle.file_tree.proofs.MountedBlocks.{mounts_lie_below}
use Rattle.file_tree.proofs.MountLemmas.{path_once}
use Rattle.file_tree.proofs.PathLemmas.{some_same}
use Rattle.tape_types.specs.declared.cartridges.Limits.{Limits}
use Rattle.tape_layout.specs.Plans.{Plan, plan}
use Rattle.cartridge_meaning.specs.declared.mounted.Mounted.{Mounted}
use Rattle.space_laws.specs.Files.{laid_found, laid_node, letters, mounted_files, root_name}
use Rattle.space_laws.specs.Mount.{MountFacts, was_sealed}
use Rattle.space_laws.specs.Standing.{Given, first_standing}
use Rattle.held_volume.specs.declared.volume_sync.frames.Frame.{Frame}
use Rattle.held_volume.specs.Mounted.{CanStart, StartsFrom, letters_of, mounted_ends}
use Rattle.held_volume.specs.Stocks.{IsStock, LieAs, ends_of, frame_of, no_bytes, stocked}

-- ---- the node of a uid

abbrev has_uid : ℕ → told.Node → Bool
has_uid uid n = eqb n.uid uid

-- a node of an index is found by its uid
pub found_at : (nodes : List told.Node) (at : ℕ) (node : told.Node) → IsAt nodes at node
    → ((a b : ℕ) (one other : told.Node) → IsAt nodes a one → IsAt nodes b other → one.uid ≡ other.uid → a ≡ b) → find (has_uid node.uid) nodes ≡ Some node
found_at [] at node is apart = absurd (let wrong : None ≡ Some node = is in cc)
found_at (first ∷ nodes) zero node is apart =
    let same : first ≡ node = some_same first node is in
    let test : eqb first.uid node.uid ≡ true = ap (λ (n : told.Node). eqb first.uid n.uid) (sym same) ∙ equal first.uid in
    ap (λ b. cond b (Some first) (find (has_uid node.uid) nodes)) test ∙ ap (λ n. Some n) same
  where
    equal : (n : ℕ) → eqb n n ≡ true
    equal n = grind (arith, nat_tests)
found_at (first ∷ nodes) (suc at) node is apart =
    by (eqb first.uid node.uid) refl (found_at nodes at node is (λ a b one other here there same. omega (arith, apart (suc a) (suc b) one other here there same)))
  where
    by : (b : Bool) → eqb first.uid node.uid ≡ b → find (has_uid node.uid) nodes ≡ Some node → find (has_uid node.uid) (first ∷ nodes) ≡ Some node
    by true test later =
        let same : first.uid ≡ node.uid = equal first.uid node.uid test in
        absurd (omega (arith, apart zero (suc at) first node refl is same))
      where
        equal : (a b : ℕ) → eqb a b ≡ true → a ≡ b
        equal a b e = grind (arith, nat_tests, e)
    by false test later = ap (λ b. cond b (Some first) (find (has_uid node.uid) nodes)) test ∙ later

not_found : (nodes : List told.Node) (highest uid : ℕ) → ((at : ℕ) (node : told.Node) → IsAt nodes at node → node.uid ≤ highest) → highest < uid → find (has_uid uid) nodes ≡ None
not_found [] highest uid most more = refl
not_found (first ∷ nodes) highest uid most more =
    ap (λ b. cond b (Some first) (find (has_uid uid) nodes)) (differ first.uid (most zero first refl)) ∙ not_found nodes highest uid (λ at node is. most (suc at) node is) more
  where
    differ : (n : ℕ) → n ≤ highest → eqb n uid ≡ false
    differ n h = grind (arith, nat_tests, h, more)

-- ---- how the files lie

module _ (m : MountFacts) (t : FileTree) (mounts : CanMount m.index (letters m) m.label.block) (is : IsTreeOf (letters m) m.label.block m.index t) where
  uids : AreUids m.index.highest m.index.nodes
  uids = mounts.valid.agrees.uids

  lies : (path : Path) (node : Node) (room : Room) → fin.get t.nodes path ≡ Some node → node.kind ≡ kinds.File room → mounted_files m node.uid ≡ room.laid
  lies path node room there file =
      let told_is = is.nodes.others path node there in
      let s = is.nodes.each node.number told_is.node told_is.early told_is.is in
      let path_is : s.path ≡ path = path_once m.index.nodes node.number node.number s.path path refl s.path_is told_is.path_is in
      let same : s.n ≡ node = some_same s.n node (sym s.there ∙ ap (fin.get t.nodes) path_is ∙ there) in
      let uid : node.uid ≡ told_is.node.uid = ap (λ (n : Node). n.uid) (sym same) ∙ s.same.uid in
      ap (λ u. laid_found m (find (has_uid u) m.index.nodes)) uid
      ∙ ap (laid_found m) (found_at m.index.nodes node.number told_is.node told_is.is uids.apart)
      ∙ by told_is.node.kind refl (subst (IsKindOf (letters m) m.label.block told_is.node.kind) (ap (λ (n : Node). n.kind) same ∙ file) s.same.kind)
    where
      one_room : (a b : Room) → ◌≡◌ {A = HeldKind} (kinds.File a) (kinds.File b) → a ≡ b
      one_room a b e = cc

      by : {k : told_kind.NodeKind} (kind : told_kind.NodeKind) → k ≡ kind → IsKindOf (letters m) m.label.block k (kinds.File room) → laid_node m k ≡ room.laid
      by told_kinds.Dir e h = absurd (let wrong : ◌≡◌ {A = HeldKind} (kinds.File room) kinds.Dir = subst (λ k. IsKindOf (letters m) m.label.block k (kinds.File room)) e h in cc)
      by (told_kinds.Link text) e h = absurd (let wrong : ◌≡◌ {A = HeldKind} (kinds.File room) (kinds.Link text) = subst (λ k. IsKindOf (letters m) m.label.block k (kinds.File room)) e h in cc)
      by (told_kinds.File size raws) e h =
          let f = subst (λ k. IsKindOf (letters m) m.label.block k (kinds.File room)) e h in
          ap (laid_node m) e ∙ sym (ap (λ (r : Room). r.laid) (one_room room f.0 f.1) ∙ f.2)

  pub mounted_as : LieAs (mounted_files m) t
  mounted_as = record {
    lies = lies;
    fresh = λ uid more. ap (laid_found m) (not_found m.index.nodes m.index.highest uid uids.most (omega (arith, more, is.highest))) ∙ ap no_bytes (sym is.block_size);
  }

  pub named : t.name ≡ root_name m
  named =
      let root = mounts.valid.formed.order.root in
      let first = mounts.valid.formed.order.first in
      is.name root first ∙ sym (ap (λ o. unwrap_or (option_map (λ (n : told.Node). n.name) o) [])
      (ap (λ u. find (has_uid u) m.index.nodes) (sym (uids.root root first)) ∙ found_at m.index.nodes 0 root first uids.apart))

-- what a mount finds is held as what stands first, on any tape
pub start_stands : (limits : Limits) (m : Mounted) → CanStart limits m → (t : FileTree) → IsTreeOf (letters_of m) m.label.block m.index t → (l : Plan)
    → l ≡ plan limits m.label.block (mounted_ends m) [] false m.ip_on
    → (f : Frame) → f ≡ record { label = m.label; carried = Rattle.file_tree.specs.Carried.carried_of m.index; sealed = was_sealed m.index; generation = m.newest; last_dp = m.last_dp; changed = false; dp_done = m.dp_done; ip_done = m.ip_done; noted = m.noted }
    → (tape : Tape) (g : Given) → StartsFrom tape limits m g → IsStock tape g m.ip_on (first_standing g) (stocked t l f)
start_stands limits m can t is l l_is f f_is tape g from =
    let facts : MountFacts = record { label = m.label; index = m.index; newest = m.newest; ends = mounted_ends m; last_dp = m.last_dp; ip_on = m.ip_on; dp_done = m.dp_done; ip_done = m.ip_done } in
    record {
      plain = from.tree t is;
      files = subst (λ (k : MountFacts). LieAs (mounted_files k) t) (sym from.mounted) (mounted_as facts t can.mounts is);
      layout = l_is
          ∙ ap (λ (k : MountFacts). plan limits k.label.block k.ends [] false m.ip_on) (sym from.mounted)
          ∙ ap (λ limits. plan limits g.mounted.label.block g.mounted.ends [] false m.ip_on) (sym from.limits_are)
          ∙ ap (λ ops. plan g.limits g.mounted.label.block g.mounted.ends ops false m.ip_on) (sym (ap (λ (p : Plan). p.ops) l_is));
      frame = f_is
          ∙ ap (λ (k : MountFacts). frame_of k (Rattle.space_laws.specs.Space.first_space k) m.noted) (sym from.mounted)
          ∙ ap (λ noted. frame_of g.mounted (Rattle.space_laws.specs.Space.first_space g.mounted) noted) (sym (ap (λ (f : Frame). f.noted) f_is));
      name = subst (λ (k : MountFacts). t.name ≡ root_name k) (sym from.mounted) (named facts t can.mounts is);
      block_size = is.block_size ∙ ap (λ (k : MountFacts). k.label.block) (sym from.mounted);
      below = subst (λ (k : MountFacts). Rattle.file_tree.specs.Blocks.LiesBelow (ends_of k.ends) t) (sym from.mounted)
          (mounts_lie_below.below (ends_of (mounted_ends m)) (letters_of m) m.label.block m.index t can.below is);
    }
