-- What both partitions end with where a volume is mounted.
use Rattle.std.proofs.Common.{◌≡◌, ◌≢◌, ℕ, zero, suc, ◌≤◌, nat_lt, cond, Bool, true, false, List, [], ◌∷◌, length}
use Rattle.std.proofs.Common.{take, Option, Some, None}
use Rattle.std.proofs.Common.{option_map, refl, sym, ap, subst, ◌∙◌, arith}
use Rattle.std.specs.List.{AllByRecursion}
use Rattle.std.proofs.lemmas.List.{length-take-le, take-take}
use Rattle.tape_types.specs.declared.cartridges.Cartridge.{Cartridge}
use Rattle.tape_types.specs.declared.cartridges.Item.{Item}
use Rattle.tape_types.specs.declared.cartridges.Part.{Part}
use Rattle.tape_types.specs.declared.cartridges.Part.TheVariants.{Dp, Ip}
use Rattle.tape_types.specs.declared.cartridges.Place.{Place}
use Rattle.index_model.specs.declared.indexes.Index.{Index}
use Rattle.ltfs_label.specs.declared.Label.{Label}
use Rattle.plain_tree.specs.Tree.{Tree}
use Rattle.content_laws.specs.Content.{Bad, Content, Data, Index as begun, Phase, content, start}
use Rattle.content_laws.specs.Ends.{EndsWithLast, IsOneAtMost, end_dp, kept_in}
use Rattle.content_laws.specs.Readings.{Construct, front, readable}
use Rattle.content_laws.proofs.Cuts.{cut_at_stage, cut_behind_index, cut_keeps}
use Rattle.content_laws.proofs.IpEnds.{cut_at_end_ip}
use Rattle.content_laws.proofs.Placed.{EndsAt, content_placed, end_dp_from, end_dp_within, end_ip_from, end_ip_within}
use Rattle.content_laws.proofs.Placed.{pos_is}
use Rattle.content_laws.proofs.Whole.{front_within}
use Rattle.cartridge_meaning.specs.Carried.{carried}
use Rattle.cartridge_meaning.specs.Meaning.{FitsNode, Found, HasOneIndex, IsTreeOf, Reads, dp_end, ip_end}
use Rattle.cartridge_meaning.specs.Mounts.{IsDpDone, Mounts, chosen_place, last_place}
use Rattle.cartridge_meaning.specs.Pointers.{IsLastOnDp, chosen, indexes_of, last_block}
use Rattle.cartridge_meaning.specs.declared.labels.Labels.{Labels}
use Rattle.cartridge_meaning.specs.declared.mounted.Mounted.{Mounted}
use Rattle.cartridge_meaning.proofs.Frame.{labels_stay, tree_stays}
use Rattle.cartridge_meaning.proofs.OneWay.{same_index, same_labels}
use Rattle.promises.proofs.ImageLaws.Cut.{cut_is_whole, is_good, long_front}
use Rattle.promises.proofs.ImageLaws.Starts.{last_on_dp}
use Rattle.space_laws.specs.Space.{Space}
use Rattle.volume_state.specs.PlanLaws.Planned.{mounted_items}
use Rattle.volume_state.specs.ClosingLaws.Indexed.{EndsWithTree, IsOpen, cartridge_on}

-- ---- the chosen index, where the data partition ends with it

-- no place of an index of one partition is one of the other
places_differ : (ips dps : List Construct) → dps ≢ []
    → option_map (λ (pos : ℕ). Ip) (last_block ips) ≡ option_map (λ (pos : ℕ). Dp) (last_block dps) → ⊥
places_differ ips [] some same = some refl
places_differ [] (k ∷ older) some same = (let wrong : None ≡ Some Dp = same in cc)
places_differ (q ∷ ips) (k ∷ older) some same = (let wrong : Some Ip ≡ Some Dp = same in cc)

abbrev part_of : Option Place → Option Part
part_of o = option_map (λ (p : Place). p.part) o

last_part : (part : Part) (ks : List Construct)
    → part_of (option_map (λ (pos : ℕ). record { part = part; pos = pos }) (last_block ks))
    ≡ option_map (λ (pos : ℕ). part) (last_block ks)
last_part part [] = refl
last_part part (k ∷ older) = refl

module _ (c : Cartridge) (some : indexes_of c.dp ≢ []) where
  not_ip : last_place Ip c ≡ last_place Dp c → ⊥
  not_ip same = places_differ (indexes_of c.ip) (indexes_of c.dp) some
      (sym (last_part Ip (indexes_of c.ip)) ∙ ap part_of same ∙ last_part Dp (indexes_of c.dp))

  chosen_on_dp : (on_ip on_dp : Option Index) (index : Index) → on_dp ≢ None → chosen on_ip on_dp ≡ Some index
      → chosen_place on_ip on_dp c ≡ last_place Dp c → on_dp ≡ Some index
  chosen_on_dp None on_dp index there choice place = choice
  chosen_on_dp (Some i) None index there choice place = absurd (there refl)
  chosen_on_dp (Some i) (Some d) index there choice place = by (nat_lt d.generation i.generation) choice place
    where
      by : (b : Bool) → Some (cond b i d) ≡ Some index → cond b (last_place Ip c) (last_place Dp c) ≡ last_place Dp c
          → Some d ≡ Some index
      by true choice place = absurd (not_ip place)
      by false choice place = choice

some_last : (items : List Item) (ks : List Construct) → EndsWithLast items ks → ks ≢ []
some_last items [] ends none = absurd ends
some_last items (k ∷ ks) ends none = cc

-- ---- both partitions up to their ends

dp_stage : (items : List Item) → ((at : ℕ) → (content items).phase ≢ Bad at) → (ks : List Construct)
    → indexes_of items ≡ ks → (content (take (end_dp ks) items)).phase ≡ Data 0
dp_stage items good [] is =
    ap (λ (s : Content). s.phase) (cut_at_stage items [] (readable items) start refl refl (λ at bad. cc))
dp_stage items good (k ∷ older) is = ap (λ (s : Content). s.phase) (cut_behind_index items k [] older is)

ends_at : (items : List Item) (ks : List Construct) → ks ≢ [] → length items ≡ end_dp ks → EndsWithLast items ks
ends_at items [] some long = absurd (some refl)
ends_at items (k ∷ older) some long = long

-- where one index at most stands on the index partition, with which its front ends, none is left before the end
none_kept : (pos : ℕ) (phase : Phase) (ks : List Construct) (items : List Item) → EndsAt pos phase ks
    → pos ≡ length (front items) → IsOneAtMost items ks → ((at : ℕ) → phase ≢ Bad at) → kept_in phase ks ≡ []
none_kept pos (Data zero) [] items ends at one good = refl
none_kept pos (Data zero) (k ∷ older) items ends at one good = one.0
none_kept pos (Data (suc since)) [] items ends at one good = refl
none_kept pos (Data (suc since)) (k ∷ older) items ends at one good = absurd (omega (arith, ends, at, one.1))
none_kept pos (begun mark blocks) [] items ends at one good = refl
none_kept pos (begun mark blocks) (k ∷ older) items ends at one good =
    absurd (omega (arith, ends.0, ends.1, at, one.1))
none_kept pos (Bad n) ks items ends at one good = absurd (good n refl)

module _ (c : Cartridge) (f : Found c) where
  abbrev on : Cartridge
  on = cartridge_on (mounted_items c)

  front_ip : 4 ≤ length (front c.ip)
  front_ip = long_front c.ip f.labels.ip_record _ f.forms.has.ip_record f.forms.has.ip

  front_dp : 4 ≤ length (front c.dp)
  front_dp = long_front c.dp f.labels.dp_record _ f.forms.has.dp_record f.forms.has.dp

  ip_within : ip_end c ≤ length (front c.ip)
  ip_within = end_ip_within c.ip front_ip

  dp_within : dp_end c ≤ length (front c.dp)
  dp_within = end_dp_within c.dp front_dp

  ip_long : length on.ip ≡ ip_end c
  ip_long = length-take-le (ip_end c) c.ip (omega (arith, ip_within, front_within c.ip))

  dp_long : length on.dp ≡ dp_end c
  dp_long = length-take-le (dp_end c) c.dp (omega (arith, dp_within, front_within c.dp))

  -- up to its end a mounted data partition has the indexes that the cartridge has
  pub dp_indexes : indexes_of on.dp ≡ indexes_of c.dp
  dp_indexes = cut_keeps c.dp (dp_end c) (omega arith)

  -- both partitions of a mounted volume may go on behind their labels and data
  pub mounted_open : (label : Label) → label ≡ f.labels.ip → IsOpen label (mounted_items c)
  mounted_open label is =
      let cut = cut_at_end_ip c.ip (is_good c.ip f.forms.ip) in
      record {
        labels = f.labels;
        label_is = is;
        has = labels_stay c on f.labels (sym (take-take 4 (ip_end c) c.ip (end_ip_from c.ip)))
            (sym (take-take 4 (dp_end c) c.dp (end_dp_from c.dp))) f.forms.has;
        ip = record {
          whole = cut_is_whole c.ip (ip_end c) ip_within;
          labels = omega (arith, ip_long, end_ip_from c.ip);
          since = cut.0;
          stage = ap (λ (s : Content). s.phase) cut.1;
        };
        dp = record {
          whole = cut_is_whole c.dp (dp_end c) dp_within;
          labels = omega (arith, dp_long, end_dp_from c.dp);
          since = 0;
          stage = dp_stage c.dp (is_good c.dp f.forms.dp) (indexes_of c.dp) refl;
        };
      }

  -- an index partition with one index has none before its end
  pub mounted_alone : HasOneIndex c → indexes_of on.ip ≡ []
  mounted_alone one =
      let good = is_good c.ip f.forms.ip in
      ap (λ (s : Content). s.constructs) (cut_at_end_ip c.ip good).1
      ∙ none_kept (content c.ip).pos (content c.ip).phase (content c.ip).constructs c.ip (content_placed c.ip).ends
      (pos_is c.ip front_ip good) one good

  tree_there : (tree : Tree) → IsTreeOf f.labels.ip c f.index tree → IsTreeOf f.labels.ip on f.index tree
  tree_there tree is = tree_stays f.labels.ip (ip_end c) (dp_end c) f.forms.has.one_volume.places.letters c on
      f.index tree f.within (sym (take-take (ip_end c) (ip_end c) c.ip (omega arith)))
      (sym (take-take (dp_end c) (dp_end c) c.dp (omega arith))) is

  -- it ends with the chosen index
  module _ (done : IsDpDone c f) where
    some : indexes_of c.dp ≢ []
    some = some_last c.dp (indexes_of c.dp) done.ends

    last_is : f.on_dp ≡ Some f.index
    last_is =
        let last = last_on_dp f.labels.ip (indexes_of c.dp) f.on_dp some f.dp_last in
        chosen_on_dp c some f.on_ip f.on_dp f.index (λ none. (let wrong : None ≡ Some last.0 = sym none ∙ last.1 in cc))
        f.choice done.choice

    reads_there : IsLastOnDp f.labels.ip (indexes_of on.dp) (Some f.index)
    reads_there = subst (λ (ks : List Construct). IsLastOnDp f.labels.ip ks (Some f.index)) (sym dp_indexes)
        (subst (λ (o : Option Index). IsLastOnDp f.labels.ip (indexes_of c.dp) o) last_is f.dp_last)

    ends_there : EndsWithLast on.dp (indexes_of on.dp)
    ends_there = subst (λ (ks : List Construct). EndsWithLast on.dp ks) (sym dp_indexes)
        (ends_at on.dp (indexes_of c.dp) some dp_long)

    within_there : AllByRecursion (FitsNode f.labels.ip (length on.ip) (length on.dp)) f.index.nodes
    within_there = subst (λ (n : ℕ). AllByRecursion (FitsNode f.labels.ip n (length on.dp)) f.index.nodes) (sym ip_long)
        (subst (λ (n : ℕ). AllByRecursion (FitsNode f.labels.ip (ip_end c) n) f.index.nodes) (sym dp_long) f.within)

    -- a data partition that ends with the newest index ends with the tree that is mounted
    pub mounted_ends : (label : Label) (tree : Tree) (s : Space) → label ≡ f.labels.ip → f.index.generation ≡ s.newest
        → IsTreeOf f.labels.ip c f.index tree → EndsWithTree label (carried f.index) tree s (mounted_items c)
    mounted_ends label tree s is newest tree_is = record {
      index = f.index;
      some = λ none. some (sym dp_indexes ∙ none);
      reads = subst (λ (l : Label). IsLastOnDp l (indexes_of on.dp) (Some f.index)) (sym is) reads_there;
      ends = ends_there;
      generation = newest;
      facts_are = refl;
      within = subst (λ (l : Label). AllByRecursion (FitsNode l (length on.ip) (length on.dp)) f.index.nodes) (sym is)
          within_there;
      tree_is = subst (λ (l : Label). IsTreeOf l on f.index tree) (sym is) (tree_there tree tree_is);
    }

-- the tree as which the cartridge reads is that of what was found
pub reads_found : (c : Cartridge) (m : Mounted) (mounts : Mounts c m) (tree : Tree) (generation : ℕ)
    → Reads c (carried m.index) tree generation → IsTreeOf mounts.found.labels.ip c mounts.found.index tree
reads_found c m mounts tree generation reads =
    subst (λ (l : Labels). IsTreeOf l.ip c mounts.found.index tree) (same_labels c reads.found mounts.found)
    (subst (λ (x : Index). IsTreeOf reads.found.labels.ip c x tree) (same_index c reads.found mounts.found)
    reads.tree_is)
