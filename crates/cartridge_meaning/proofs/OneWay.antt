-- What is found of a cartridge is found in one way.
use Rattle.std.proofs.Common.{◌≡◌, ℕ, List, [], ◌∷◌, Option, Some, sym, ap, subst, ◌∙◌}
use Rattle.tape_types.specs.declared.cartridges.Cartridge.{Cartridge}
use Rattle.tape_types.specs.declared.cartridges.Item.{Item}
use Rattle.tape_types.specs.declared.cartridges.Item.TheVariants.{Block}
use Rattle.tape_types.specs.declared.moments.Moment.{Moment}
use Rattle.tape_types.specs.Times.{civil_of, civil_text, time_text}
use Rattle.tape_types.proofs.CivilLemmas.{time_text_injective}
use Rattle.plain_tree.specs.Tree.{Tree}
use Rattle.extent_map.specs.Cells.{tape_of}
use Rattle.vol_label.specs.Table.{IsRecord}
use Rattle.vol_label.specs.declared.Vol1.{Vol1}
use Rattle.ltfs_label.specs.declared.Label.{Label}
use Rattle.ltfs_label.specs.Grammar.{LabelText}
use Rattle.ltfs_label.specs.Values.{LabelValue, label_of}
use Rattle.ltfs_label.proofs.Texts.{one_value}
use Rattle.index_model.specs.declared.indexes.Index.{Index}
use Rattle.index_read.proofs.Exact.{one_index_text}
use Rattle.content_laws.specs.Readings.{Construct}
use Rattle.cartridge_meaning.specs.Labels.{HasLabel, HasLabels, HasRecord, IsMarkedBlock}
use Rattle.cartridge_meaning.specs.Carried.{Carried, carried}
use Rattle.cartridge_meaning.specs.Meaning.{Found, IsTreeOf, Reads}
use Rattle.cartridge_meaning.specs.Pointers.{IsLastOnDp, IsLastOnIp, chosen, indexes_of, text_of}
use Rattle.cartridge_meaning.specs.declared.labels.Labels.{Labels}
use Rattle.cartridge_meaning.proofs.OneTree.{tree_once}

-- ---- labels

one_moment : (m n : Moment) → civil_of m ≡ civil_of n → m ≡ n
unfolding time_text
one_moment m n e = time_text_injective m n (ap civil_text e)

-- labels with the same value are one
pub one_label : (l m : Label) → label_of l ≡ label_of m → l ≡ m
one_label l m e =
    let creator = ap (λ (v : LabelValue). v.creator) e in
    let formatted = one_moment l.formatted m.formatted (ap (λ (v : LabelValue). v.formatted) e) in
    let uuid = ap (λ (v : LabelValue). v.uuid) e in
    let location = ap (λ (v : LabelValue). v.location) e in
    let index = ap (λ (v : LabelValue). v.index) e in
    let dpart = ap (λ (v : LabelValue). v.dpart) e in
    let block = ap (λ (v : LabelValue). v.block) e in
    let compression = ap (λ (v : LabelValue). v.compression) e in
    λ i. record {
      creator = creator i;
      formatted = formatted i;
      uuid = uuid i;
      location = location i;
      index = index i;
      dpart = dpart i;
      block = block i;
      compression = compression i;
    }

one_record : (bytes : List ℕ) (v w : Vol1) → IsRecord bytes v → IsRecord bytes w → v ≡ w
one_record bytes v w h k =
    let volume = sym h.volume_identifier ∙ k.volume_identifier in
    let owner = sym h.owner_identifier ∙ k.owner_identifier in
    λ i. record { volume = volume i; owner = owner i }

one_block : (items : List Item) (pos : ℕ) (a b : List ℕ) → IsMarkedBlock items pos a → IsMarkedBlock items pos b → a ≡ b
one_block items pos a b h k = let both : Some (Block a) ≡ Some (Block b) = sym h.block ∙ k.block in cc

record_once : (items : List Item) (v w : Vol1) → HasRecord items v → HasRecord items w → v ≡ w
record_once items v w h k =
    one_record h.bytes v w h.spelled
    (subst (λ (bytes : List ℕ). IsRecord bytes w) (one_block items 0 k.bytes h.bytes k.stands h.stands) k.spelled)

-- a partition has one label at most
pub label_once : (items : List Item) (l m : LabelValue) → HasLabel items l → HasLabel items m → l ≡ m
label_once items l m h k =
    let same : k.bytes ≡ h.bytes = one_block items 2 k.bytes h.bytes k.stands h.stands in
    let other = subst (λ (bytes : List ℕ). LabelText bytes m) same k.spelled in
    one_value h.bytes l m h.spelled other

-- a cartridge has one pair of records and labels at most
pub labels_once : (c : Cartridge) (a b : Labels) → HasLabels c a → HasLabels c b → a ≡ b
labels_once c a b h k =
    let ip_record = record_once c.ip a.ip_record b.ip_record h.ip_record k.ip_record in
    let dp_record = record_once c.dp a.dp_record b.dp_record h.dp_record k.dp_record in
    let ip = one_label a.ip b.ip (label_once c.ip (label_of a.ip) (label_of b.ip) h.ip k.ip) in
    let dp = one_label a.dp b.dp (label_once c.dp (label_of a.dp) (label_of b.dp) h.dp k.dp) in
    λ i. record { ip_record = ip_record i; ip = ip i; dp_record = dp_record i; dp = dp i }

-- ---- the last indexes

-- the last index of the data partition reads as one index
pub last_dp_once : (label : Label) (dps : List Construct) (a b : Option Index) → IsLastOnDp label dps a → IsLastOnDp label dps b → a ≡ b
last_dp_once label [] a b h k = h ∙ sym k
last_dp_once label (q ∷ older) a b h k =
    h.1 ∙ ap (λ (x : Index). Some x) (one_index_text (text_of q) h.0 k.0 h.2.text k.2.text) ∙ sym k.1

-- the last index of the index partition reads as one index
pub last_ip_once : (label : Label) (ips dps : List Construct) (on_dp a b : Option Index)
    → IsLastOnIp label ips dps on_dp a → IsLastOnIp label ips dps on_dp b → a ≡ b
last_ip_once label [] dps on_dp a b h k = h ∙ sym k
last_ip_once label (q ∷ older) dps on_dp a b h k =
    h.1 ∙ ap (λ (x : Index). Some x) (one_index_text (text_of q) h.0 k.0 h.2.text k.2.text) ∙ sym k.1

-- ---- what is found

module _ (c : Cartridge) (a b : Found c) where
  -- whatever is found of a cartridge, the labels are the same
  pub same_labels : a.labels ≡ b.labels
  same_labels = labels_once c a.labels b.labels a.forms.has b.forms.has

  -- whatever is found of a cartridge, the data partition's last index is the same
  pub same_on_dp : a.on_dp ≡ b.on_dp
  same_on_dp =
      last_dp_once b.labels.ip (indexes_of c.dp) a.on_dp b.on_dp
      (subst (λ (l : Labels). IsLastOnDp l.ip (indexes_of c.dp) a.on_dp) same_labels a.dp_last) b.dp_last

  -- whatever is found of a cartridge, the index partition's last index is the same
  pub same_on_ip : a.on_ip ≡ b.on_ip
  same_on_ip =
      let here = subst (λ (l : Labels). IsLastOnIp l.ip (indexes_of c.ip) (indexes_of c.dp) a.on_dp a.on_ip) same_labels a.ip_last in
      let there = subst (λ (o : Option Index). IsLastOnIp b.labels.ip (indexes_of c.ip) (indexes_of c.dp) o a.on_ip) same_on_dp here in
      last_ip_once b.labels.ip (indexes_of c.ip) (indexes_of c.dp) b.on_dp a.on_ip b.on_ip there b.ip_last

  -- whatever is found of a cartridge, the chosen index is the same
  pub same_index : a.index ≡ b.index
  same_index =
      let choice : Some a.index ≡ Some b.index =
      sym a.choice ∙ ap (λ (o : Option Index). chosen o a.on_dp) same_on_ip ∙ ap (λ (o : Option Index). chosen b.on_ip o) same_on_dp ∙ b.choice in
      cc

-- ---- how it reads

tree_is_once : (c : Cartridge) (label : Label) (index : Index) (tree other : Tree) → IsTreeOf label c index tree → IsTreeOf label c index other → tree ≡ other
tree_is_once c label index tree other h k =
    h.2 ∙ tree_once (tape_of c) (label.index, label.dpart) label.block index h.0 k.0 h.1 k.1 ∙ sym k.2

module _ (c : Cartridge) (facts others : Carried) (tree other : Tree) (generation another : ℕ)
    (a : Reads c facts tree generation) (b : Reads c others other another) where
  index_is : a.found.index ≡ b.found.index
  index_is = same_index c a.found b.found

  -- a cartridge reads with one set of facts that are carried over
  pub same_facts : facts ≡ others
  same_facts = a.facts_are ∙ ap carried index_is ∙ sym b.facts_are

  -- a cartridge reads as one tree
  pub same_tree : tree ≡ other
  same_tree =
      let here = subst (λ (l : Labels). IsTreeOf l.ip c a.found.index tree) (same_labels c a.found b.found) a.tree_is in
      let there = subst (λ (x : Index). IsTreeOf b.found.labels.ip c x tree) index_is here in
      tree_is_once c b.found.labels.ip b.found.index tree other there b.tree_is

  -- a cartridge reads as of one generation
  pub same_generation : generation ≡ another
  same_generation = a.generation_is ∙ ap (λ (x : Index). x.generation) index_is ∙ sym b.generation_is
