-- What is so of a cartridge is so of another that has the same items.
use Rattle.std.proofs.Common.{◌≡◌, ℕ, ◌≤◌, List, take, length, slice_get, sym, ap, subst, ◌∙◌, arith}
use Rattle.std.specs.List.{AllByRecursion}
use Rattle.tape_types.specs.Cartridges.{items_of}
use Rattle.tape_types.specs.declared.cartridges.Cartridge.{Cartridge}
use Rattle.tape_types.specs.declared.cartridges.Item.{Item}
use Rattle.tape_types.specs.declared.cartridges.Part.{Part}
use Rattle.tape_types.specs.declared.cartridges.Part.TheVariants.{Ip, Dp}
use Rattle.plain_tree.specs.Tree.{Tree}
use Rattle.extent_map.specs.Cells.{Tape, byte_in, tape_of}
use Rattle.file_tree.specs.Tree.{plain_of}
use Rattle.index_model.specs.declared.indexes.Index.{Index}
use Rattle.ltfs_label.specs.declared.Label.{Label}
use Rattle.content_laws.specs.Content.{content}
use Rattle.content_laws.specs.Ends.{IsOneAtMost, end_dp, end_ip}
use Rattle.content_laws.specs.Readings.{HasForm}
use Rattle.cartridge_meaning.specs.Carried.{Carried}
use Rattle.cartridge_meaning.specs.Kept.{Keeps}
use Rattle.cartridge_meaning.specs.Labels.{HasLabels}
use Rattle.cartridge_meaning.specs.Meaning.{AreAlike, FitsNode, Found, HasOneIndex, IsConsistent, IsTreeOf, Stands, dp_end}
use Rattle.cartridge_meaning.specs.Meaning.{ip_end}
use Rattle.cartridge_meaning.specs.Pointers.{IsLastOnDp, IsLastOnIp, indexes_of}
use Rattle.cartridge_meaning.specs.declared.labels.Labels.{Labels}
use Rattle.cartridge_meaning.proofs.Frame.{labels_stay, reads_stays}

module _ (c d : Cartridge) (ip : d.ip ≡ c.ip) (dp : d.dp ≡ c.dp) where
  -- the labels of a cartridge are those of another with the same items
  pub same_labels : (l : Labels) → HasLabels c l → HasLabels d l
  same_labels l has = labels_stay c d l (ap (λ (x : List Item). take 4 x) (sym ip))
      (ap (λ (x : List Item). take 4 x) (sym dp)) has

  same_end : (x y : List Item) → y ≡ x → end_ip (content x) ≤ end_ip (content y)
  same_end x y is = omega (arith, ap (λ (l : List Item). end_ip (content l)) is)

  keeps : HasForm c.ip → HasForm c.dp → Keeps c d
  keeps ip_form dp_form = record {
    ip_labels = ap (λ (x : List Item). take 4 x) (sym ip);
    dp_labels = ap (λ (x : List Item). take 4 x) (sym dp);
    ip_form = subst (λ (x : List Item). HasForm x) (sym ip) ip_form;
    dp_form = subst (λ (x : List Item). HasForm x) (sym dp) dp_form;
    ip_indexes = ap indexes_of (sym ip);
    dp_indexes = ap indexes_of (sym dp);
    ip_items = ap (λ (x : List Item). take (ip_end c) x) (sym ip);
    dp_items = ap (λ (x : List Item). take (dp_end c) x) (sym dp);
    ip_further = same_end c.ip d.ip ip;
  }

  -- the same is found of it
  abbrev found_here : Found c → Found d
  found_here f = record {
    labels = f.labels;
    forms = record {
      has = same_labels f.labels f.forms.has;
      ip = subst (λ (x : List Item). HasForm x) (sym ip) f.forms.ip;
      dp = subst (λ (x : List Item). HasForm x) (sym dp) f.forms.dp;
    };
    on_dp = f.on_dp;
    dp_last = subst (λ (x : List Item). IsLastOnDp f.labels.ip (indexes_of x) f.on_dp) (sym dp) f.dp_last;
    on_ip = f.on_ip;
    ip_last = subst (λ (x : List Item). IsLastOnIp f.labels.ip (indexes_of x) (indexes_of d.dp) f.on_dp f.on_ip)
        (sym ip)
        (subst (λ (x : List Item). IsLastOnIp f.labels.ip (indexes_of c.ip) (indexes_of x) f.on_dp f.on_ip) (sym dp)
        f.ip_last);
    index = f.index;
    choice = f.choice;
    within = subst
        (λ (x : List Item). AllByRecursion (FitsNode f.labels.ip (end_ip (content x)) (dp_end d)) f.index.nodes)
        (sym ip)
        (subst (λ (x : List Item). AllByRecursion (FitsNode f.labels.ip (ip_end c) (end_dp (indexes_of x)))
        f.index.nodes)
        (sym dp) f.within);
  }

  items_same : (part : Part) → items_of part c ≡ items_of part d
  items_same Ip = sym ip
  items_same Dp = sym dp

  tape_same : tape_of c ≡ tape_of d
  tape_same i part pos byte = byte_in (slice_get (items_same part i) pos) byte

  tree_same : (label : Label) (index : Index) (tree : Tree) → IsTreeOf label c index tree → IsTreeOf label d index tree
  tree_same label index tree h = (h.0, h.1, h.2 ∙ ap (λ (tape : Tape). plain_of tape h.0) tape_same)

  -- what a cartridge stands for another with the same items stands for
  pub same_stands : (facts : Carried) (tree : Tree) (n : ℕ) → Stands c facts tree n → Stands d facts tree n
  same_stands facts tree n s =
      let f = s.reads.found in
      record {
        reads = reads_stays c d (keeps f.forms.ip f.forms.dp) facts tree n s.reads;
        has_index = λ none. s.has_index (ap indexes_of (sym dp) ∙ none);
      }

  -- a cartridge with the items of one that is consistent is consistent
  pub same_consistent : IsConsistent c → IsConsistent d
  same_consistent h = record {
    found = found_here h.found;
    ip = h.ip;
    ip_older = h.ip_older;
    ip_is = ap indexes_of ip ∙ h.ip_is;
    ip_ends = ap (λ (x : List Item). length x) ip ∙ h.ip_ends;
    dp = h.dp;
    dp_older = h.dp_older;
    dp_is = ap indexes_of dp ∙ h.dp_is;
    dp_ends = ap (λ (x : List Item). length x) dp ∙ h.dp_ends;
    index = h.index;
    on_ip = h.on_ip;
    back = h.back;
  }

  -- a cartridge with the items of one whose partitions tell the same tells the same
  pub same_alike : (facts : Carried) (tree : Tree) (n : ℕ) → AreAlike c facts tree n → AreAlike d facts tree n
  same_alike facts tree n h = record {
    found = found_here h.found;
    ip_index = h.ip_index;
    ip_last = h.ip_last;
    ip_generation = h.ip_generation;
    ip_facts = h.ip_facts;
    ip_tree = tree_same h.found.labels.ip h.ip_index tree h.ip_tree;
    dp_index = h.dp_index;
    dp_last = h.dp_last;
    dp_generation = h.dp_generation;
    dp_facts = h.dp_facts;
    dp_tree = tree_same h.found.labels.ip h.dp_index tree h.dp_tree;
  }

  -- a cartridge with the items of one that has one index has one
  pub same_one : HasOneIndex c → HasOneIndex d
  same_one one = subst (λ (x : List Item). IsOneAtMost x (indexes_of x)) (sym ip) one
