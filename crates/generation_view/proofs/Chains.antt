-- Chains are read in one way, begin as mounts do, and go on.
use Rattle.std.proofs.Common.{◌≡◌, ℕ, ◌<◌, ◌≤◌, ◌++◌, List, [], ◌∷◌, Option, Some, None, length, refl, sym, subst, ◌∙◌, arith}
use Rattle.std.specs.List.{AllByRecursion}
use Rattle.tape_types.specs.declared.cartridges.Cartridge.{Cartridge}
use Rattle.plain_tree.specs.Tree.{Tree}
use Rattle.extent_map.specs.Cells.{tape_of}
use Rattle.index_model.specs.declared.indexes.Index.{Index}
use Rattle.index_read.proofs.Exact.{one_index_text}
use Rattle.ltfs_label.specs.declared.Label.{Label}
use Rattle.content_laws.specs.Readings.{Construct}
use Rattle.cartridge_meaning.specs.Meaning.{Found, IsTreeOf, ip_end}
use Rattle.cartridge_meaning.specs.Pointers.{IsLastOnDp, IsOfVolume, PointsOnDp, indexes_of, text_of}
use Rattle.cartridge_meaning.proofs.Frame.{nodes_further}
use Rattle.cartridge_meaning.proofs.OneTree.{tree_once}
use Rattle.generation_view.specs.Chain.{AreLinks, GenTree, IsLink, IsWayTo}

-- an index is a link in one way
pub one_link : (label : Label) (c : Cartridge) (k : Construct) (older : List Construct) (after : Option ℕ) (i j : Index)
    → IsLink label c k older after i → IsLink label c k older after j → i ≡ j
one_link label c k older after i j a b = one_index_text (text_of k) i j a.of_volume.text b.of_volume.text

-- the same links behind one that is the same
pub links_after : (label : Label) (c : Cartridge) (older : List Construct) (i j : Index) (links : List Index) → i ≡ j
    → AreLinks label c (Some j.generation) older links → AreLinks label c (Some i.generation) older links
links_after label c older i j links same a =
    subst (λ (x : Index). AreLinks label c (Some x.generation) older links) (sym same) a

-- links are as many in one way
pub links_once : (label : Label) (c : Cartridge) (after : Option ℕ) (ks : List Construct) (one other : List Index)
    → AreLinks label c after ks one → AreLinks label c after ks other → length one ≡ length other → one ≡ other
links_once label c after ks [] [] a b same = refl
links_once label c after ks [] (j ∷ other) a b same = absurd (omega (arith, same))
links_once label c after ks (i ∷ one) [] a b same = absurd (omega (arith, same))
links_once label c after [] (i ∷ one) (j ∷ other) a b same = absurd a
links_once label c after (k ∷ older) (i ∷ one) (j ∷ other) a b same =
    let first = one_link label c k older after i j a.0 b.0 in
    let rest = links_once label c (Some i.generation) older one other a.1 (links_after label c older i j other first b.1) (omega (arith, same)) in
    λ n. first n ∷ rest n

newer_is : (g : ℕ) (i j : Index) → i ≡ j → g < i.generation → g < j.generation
newer_is g i j e lt = subst (λ (x : Index). g < x.generation) e lt

way_once : (label : Label) (c : Cartridge) (g : ℕ) (after : Option ℕ) (ks : List Construct) (newer others : List Index)
    (i j : Index) → AreLinks label c after ks (newer ++ i ∷ [])
    → AllByRecursion (λ (x : Index). g < x.generation) newer → ¬ (g < i.generation)
    → AreLinks label c after ks (others ++ j ∷ [])
    → AllByRecursion (λ (x : Index). g < x.generation) others → ¬ (g < j.generation) → i ≡ j
way_once label c g after [] [] others i j a all not_i b more not_j = absurd a
way_once label c g after [] (x ∷ newer) others i j a all not_i b more not_j = absurd a
way_once label c g after (k ∷ older) [] [] i j a all not_i b more not_j = one_link label c k older after i j a.0 b.0
way_once label c g after (k ∷ older) [] (y ∷ others) i j a all not_i b more not_j =
    absurd (not_i (newer_is g y i (one_link label c k older after y i b.0 a.0) more.0))
way_once label c g after (k ∷ older) (x ∷ newer) [] i j a all not_i b more not_j =
    absurd (not_j (newer_is g x j (one_link label c k older after x j a.0 b.0) all.0))
way_once label c g after (k ∷ older) (x ∷ newer) (y ∷ others) i j a all not_i b more not_j =
    let first = one_link label c k older after x y a.0 b.0 in
    way_once label c g (Some x.generation) older newer others i j a.1 all.1 not_i
    (links_after label c older x y (others ++ j ∷ []) first b.1) more.1 not_j

-- the way to a generation ends with one index
pub one_way : (c : Cartridge) (found : Found c) (g : ℕ) (newer others : List Index) (i j : Index)
    → IsWayTo c found g newer i → IsWayTo c found g others j → i ≡ j
one_way c found g newer others i j a b =
    way_once found.labels.ip c g None (indexes_of c.dp) newer others i j a.links_are a.are_newer a.is_not
    b.links_are b.are_newer b.is_not

tree_is_once : (c : Cartridge) (label : Label) (index : Index) (tree other : Tree) → IsTreeOf label c index tree
    → IsTreeOf label c index other → tree ≡ other
tree_is_once c label index tree other h k =
    h.2 ∙ tree_once (tape_of c) (label.index, label.dpart) label.block index h.0 k.0 h.1 k.1 ∙ sym k.2

-- a generation has one tree
pub one_tree : (c : Cartridge) (found : Found c) (g : ℕ) (tree other : Tree)
    → GenTree c found g tree → GenTree c found g other → tree ≡ other
one_tree c found g tree other a b =
    let same = one_way c found g a.newer b.newer a.index b.index a.way b.way in
    tree_is_once c found.labels.ip b.index tree other
    (subst (λ (i : Index). IsTreeOf found.labels.ip c i tree) same a.tree_is) b.tree_is

-- the newest index is of the volume with its pointers right, where the cartridge mounts
pub as_mounted : (c : Cartridge) (found : Found c) (k : Construct) (older : List Construct)
    → indexes_of c.dp ≡ k ∷ older
    → (index : Index) × (found.on_dp ≡ Some index) × IsOfVolume found.labels.ip k index
    × PointsOnDp found.labels.ip k older index
as_mounted c found k older e =
    subst (λ (ks : List Construct). IsLastOnDp found.labels.ip ks found.on_dp) e found.dp_last

-- links stay links where the index partition's end moves on
pub stay : (label : Label) (c d : Cartridge) (after : Option ℕ) (ks : List Construct) (links : List Index)
    → ip_end c ≤ ip_end d → AreLinks label c after ks links → AreLinks label d after ks links
stay label c d after ks [] le a = a
stay label c d after [] (i ∷ links) le a = a
stay label c d after (k ∷ older) (i ∷ links) le a = (
  record {
    of_volume = a.0.of_volume;
    points = a.0.points;
    rises = a.0.rises;
    within = nodes_further label (ip_end c) k.mark (ip_end d) k.mark le (omega arith) i.nodes a.0.within;
  },
  stay label c d (Some i.generation) older links le a.1,
)

-- a newer link in front of links
pub one_more : (label : Label) (c : Cartridge) (k : Construct) (older : List Construct) (index last : Index)
    (links : List Index) → IsLink label c k older None index → last.generation < index.generation
    → AreLinks label c None older (last ∷ links) → AreLinks label c None (k ∷ older) (index ∷ last ∷ links)
one_more label c k [] index last links link lt a = absurd a
one_more label c k (q ∷ older) index last links link lt a = (
  link,
  (record { of_volume = a.0.of_volume; points = a.0.points; rises = lt; within = a.0.within }, a.1),
)
