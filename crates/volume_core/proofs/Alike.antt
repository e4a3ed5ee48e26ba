-- Whether both partitions of a cartridge tell the same is decided, where both are done.
use Rattle.std.proofs.Common.{◌≡◌, true, List, [], ◌∷◌, Option, Some, None, sym, ap, subst, ◌∙◌}
use Rattle.std.proofs.lemmas.Option.{same_Some}
use Rattle.tape_types.specs.declared.cartridges.Cartridge.{Cartridge}
use Rattle.plain_tree.specs.Tree.{Tree}
use Rattle.extent_map.specs.Cells.{tape_of}
use Rattle.file_tree.specs.Tree.{plain_of}
use Rattle.index_model.specs.Valid.{IsValid}
use Rattle.index_model.specs.declared.indexes.Index.{Index}
use Rattle.index_read.proofs.ValidIndexes.{index_valid}
use Rattle.ltfs_label.specs.declared.Label.{Label}
use Rattle.content_laws.specs.Readings.{Construct}
use Rattle.cartridge_meaning.specs.Carried.{carried}
use Rattle.cartridge_meaning.specs.Meaning.{AreAlike, Found, IsTreeOf, Reads}
use Rattle.cartridge_meaning.specs.Mounts.{IsIpDone, Mounts}
use Rattle.cartridge_meaning.specs.Pointers.{IsLastOnIp, indexes_of, text_of}
use Rattle.cartridge_meaning.specs.declared.labels.Labels.{Labels}
use Rattle.cartridge_meaning.specs.declared.mounted.Mounted.{Mounted}
use Rattle.cartridge_meaning.proofs.Known.{Known, known_both, known_by}
use Rattle.cartridge_meaning.proofs.OneTree.{tree_once}
use Rattle.cartridge_meaning.proofs.OneWay.{same_index, same_labels, same_on_ip}
use Rattle.volume_core.proofs.Built.{some_tree}
use Rattle.volume_core.proofs.Equal.{told_facts, told_tree}
use Rattle.volume_core.proofs.Still.{ip_is, on_dp_is}

-- the last index of the index partition is valid
last_valid : (label : Label) (ks dps : List Construct) (on_dp : Option Index) (x : Index)
    → IsLastOnIp label ks dps on_dp (Some x) → IsValid x
last_valid label [] dps on_dp x h = absurd (let wrong : Some x ≡ None = h in cc)
last_valid label (k ∷ older) dps on_dp x h =
    subst (λ (y : Index). IsValid y) (same_Some h.0 x (sym h.1)) (index_valid (text_of k) h.0 h.2.text)

-- whether an index tells a tree
known_tree : (label : Label) (c : Cartridge) (index : Index) (tree : Tree) → IsValid index
    → Known (IsTreeOf label c index tree)
known_tree label c index tree valid =
    let t = some_tree (label.index, label.dpart) label.block index valid in
    known_by (λ (e : tree ≡ plain_of (tape_of c) t.0). (t.0, t.1, e))
    (λ (h : IsTreeOf label c index tree).
    h.2 ∙ tree_once (tape_of c) (label.index, label.dpart) label.block index h.0 t.0 h.1 t.1)
    (told_tree tree (plain_of (tape_of c) t.0))

module _ (c : Cartridge) (m : Mounted) (mounts : Mounts c m) (ip : m.ip_done ≡ true) (dp : m.dp_done ≡ true)
    (tree : Tree) (reads : Reads c (carried m.index) tree m.newest) where
  abbrev f : Found c
  f = mounts.found

  abbrev k : IsIpDone c mounts.found
  k = ip_is c m mounts ip dp

  -- the index of the index partition tells the same
  abbrev Same : Type 0
  Same = (carried m.index ≡ carried k.on_ip) × IsTreeOf f.labels.ip c k.on_ip tree

  -- a tree of what was found in another way
  tree_there : (other : Found c) (x y : Index) → x ≡ y → IsTreeOf other.labels.ip c x tree
      → IsTreeOf f.labels.ip c y tree
  tree_there other x y same h =
      subst (λ (z : Index). IsTreeOf f.labels.ip c z tree) same
      (subst (λ (l : Labels). IsTreeOf l.ip c x tree) (same_labels c other f) h)

  there : Same → AreAlike c (carried m.index) tree m.newest
  there h = record {
    found = f;
    ip_index = k.on_ip;
    ip_last = k.last;
    ip_generation = k.generation ∙ sym mounts.newest;
    ip_facts = h.0;
    ip_tree = h.1;
    dp_index = f.index;
    dp_last = on_dp_is c m mounts ip dp;
    dp_generation = sym mounts.newest;
    dp_facts = ap carried mounts.index;
    dp_tree = tree_there reads.found reads.found.index f.index (same_index c reads.found f) reads.tree_is;
  }

  back : AreAlike c (carried m.index) tree m.newest → Same
  back h =
      let same : h.ip_index ≡ k.on_ip =
      same_Some h.ip_index k.on_ip (sym h.ip_last ∙ same_on_ip c h.found f ∙ k.last) in
      (h.ip_facts ∙ ap carried same, tree_there h.found h.ip_index k.on_ip same h.ip_tree)

  on_ip_valid : IsValid k.on_ip
  on_ip_valid = last_valid f.labels.ip (indexes_of c.ip) (indexes_of c.dp) f.on_dp k.on_ip
      (subst (λ (o : Option Index). IsLastOnIp f.labels.ip (indexes_of c.ip) (indexes_of c.dp) f.on_dp o) k.last
      f.ip_last)

  -- whether both partitions tell the same is decided, where both are done
  pub known_alike : Known (AreAlike c (carried m.index) tree m.newest)
  known_alike = known_by there back
      (known_both (told_facts (carried m.index) (carried k.on_ip)) (known_tree f.labels.ip c k.on_ip tree on_ip_valid))
