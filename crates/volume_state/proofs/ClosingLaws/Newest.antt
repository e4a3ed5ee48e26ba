-- That the data partition ends with the index of a sync once its ops are planned.
use Rattle.std.proofs.Common.{◌≡◌, ◌≢◌, ℕ, ◌+◌, ◌≤◌, Bool, List, [], ◌∷◌, length, Some, option_map}
use Rattle.std.proofs.Common.{sym, ap, subst, ◌∙◌, arith, length-append}
use Rattle.std.specs.List.{AllByRecursion}
use Rattle.std.proofs.lemmas.List.{take-append-le}
use Rattle.tape_types.specs.declared.cartridges.Cartridge.{Cartridge}
use Rattle.tape_types.specs.declared.cartridges.Item.{Item}
use Rattle.tape_types.specs.declared.cartridges.Part.TheVariants.{Ip, Dp}
use Rattle.plain_tree.specs.Tree.{Tree}
use Rattle.tape_layout.specs.IndexConstruct.Blocks.{blocks_of}
use Rattle.index_model.specs.Grammar.{IndexText}
use Rattle.index_model.specs.declared.indexes.Index.{Index}
use Rattle.ltfs_label.specs.declared.Label.{Label}
use Rattle.content_laws.specs.Content.{Content}
use Rattle.content_laws.specs.Ends.{EndsWithLast}
use Rattle.tape_layout.specs.declared.ops.Op.{Op}
use Rattle.tape_layout.specs.declared.standing.Ends.{Ends}
use Rattle.cartridge_meaning.specs.Carried.{Carried, carried}
use Rattle.cartridge_meaning.specs.Meaning.{FitsNode, IsTreeOf}
use Rattle.cartridge_meaning.specs.Pointers.{IsLastOnDp, indexes_of, last_block, letter_of}
use Rattle.cartridge_meaning.proofs.Frame.{nodes_further, tree_stays}
use Rattle.promises.specs.ImageLaws.Made.{CoveredIndex, Made, Trees, Volume, cartridge_of}
use Rattle.promises.specs.ImageLaws.Plans.{IsDue}
use Rattle.promises.proofs.ImageLaws.Indexes.{construct_content, ends_with_new, joined, new_construct, new_last, some_blocks}
use Rattle.promises.proofs.ImageLaws.Indexes.{spot_named, with_construct}
use Rattle.space_laws.specs.Space as space
use Rattle.space_laws.specs.Space.{Rules, Space, index, ops_of}
use Rattle.promises.specs.CrashLaws.Safe.{items_by}
use Rattle.volume_state.specs.PlanLaws.Planned.{Items, ends_in, with_ops}
use Rattle.volume_state.specs.ClosingLaws.Indexed.{EndsWithTree, IsOpen, cartridge_on}
use Rattle.volume_state.proofs.ClosingLaws.Opened.{indexed_dp}

-- The text is that of the volume's next index, which tells this tree from what stands on a cartridge.
pub record IsTold (label : Label) (facts : Carried) (tree : Tree) (c : Cartridge) (space : Space) (text : List ℕ)
    : Type 0 where
  pub told : Index
  pub some : 1 ≤ length text
  pub reads : IndexText text told
  pub uuid : told.uuid ≡ label.uuid
  pub generation : told.generation ≡ space.newest + 1
  pub here : told.here ≡ record { letter = letter_of label Dp; block = space.ends.dp + 1 }
  pub back : told.back ≡ option_map (λ block. record { letter = letter_of label Dp; block = block }) space.last_dp
  pub facts_are : facts ≡ carried told
  pub within : AllByRecursion (FitsNode label space.ends.ip space.ends.dp) told.nodes
  pub tree_is : IsTreeOf label c told tree

-- so is each index that is due
pub told_by : (v : Volume) (t : Trees) (s : Made) (space : Space) (text : List ℕ) (e : CoveredIndex) → IsDue v t s space text e
    → IsTold v.labels.ip v.facts (t.nth t.count) (cartridge_of s) space text
told_by v t s space text e due = record {
  told = e.index;
  some = due.some;
  reads = due.reads;
  uuid = due.uuid;
  generation = due.generation;
  here = due.here;
  back = due.back;
  facts_are = due.tells.facts;
  within = due.tells.within;
  tree_is = subst (λ (n : ℕ). IsTreeOf v.labels.ip (cartridge_of s) e.index (t.nth n)) due.all due.tells.tree;
}

module _ (label : Label) (facts : Carried) (tree : Tree) (planned : Items) (s : Space) (v : Rules) (on : Bool)
    (text : List ℕ)
    (open_ends : IsOpen label planned) (ends : s.ends ≡ ends_in planned)
    (last : s.last_dp ≡ last_block (indexes_of (planned Dp))) (size : 1 ≤ v.block_size)
    (its : IsTold label facts tree (cartridge_on planned) s text) where
  abbrev bs : List (List ℕ)
  bs = blocks_of v.block_size text

  abbrev asked : List Op
  asked = ops_of v on s (index text)

  abbrev items : List Item
  items = with_construct (planned Dp) bs

  -- the index of a sync has a block at least
  pub some_new : bs ≢ []
  some_new = some_blocks v.block_size text size its.some

  items_are : with_ops asked planned Dp ≡ items
  items_are = indexed_dp label planned open_ends v on s text

  -- with the index of a sync the data partition has one index more
  pub indexes_are : indexes_of (with_ops asked planned Dp) ≡ new_construct (planned Dp) bs ∷ indexes_of (planned Dp)
  indexes_are = ap indexes_of items_are
      ∙ ap (λ (c : Content). c.constructs) (construct_content (planned Dp) bs open_ends.dp some_new)

  -- the space's end of the data partition is behind what is planned there
  pub end_dp_is : s.ends.dp ≡ length (planned Dp)
  end_dp_is = ap (λ (e : Ends). e.dp) ends

  -- the space's end of the index partition is behind what is planned there
  pub end_ip_is : s.ends.ip ≡ length (planned Ip)
  end_ip_is = ap (λ (e : Ends). e.ip) ends

  -- the space behind the sync has the place of its index as the last one
  pub last_new : (space.after v on s (index text)).last_dp ≡ last_block (indexes_of (with_ops asked planned Dp))
  last_new = ap (λ (n : ℕ). Some (n + 1)) end_dp_is ∙ ap last_block (sym indexes_are)

  reads_put : IsLastOnDp label (indexes_of items) (Some its.told)
  reads_put = new_last label (planned Dp) bs its.told open_ends.dp some_new
      (subst (λ (w : List ℕ). IndexText w its.told) (sym (joined v.block_size text size)) its.reads) its.uuid
      (its.here ∙ ap (λ (n : ℕ). record { letter = letter_of label Dp; block = n + 1 }) end_dp_is)
      (its.back ∙ ap (option_map (λ (block : ℕ). record { letter = letter_of label Dp; block = block })) last
      ∙ spot_named label (indexes_of (planned Dp)))

  differ : label.index ≢ label.dpart
  differ = subst (λ (l : Label). l.index ≢ l.dpart) (sym open_ends.label_is) open_ends.has.one_volume.places.letters

  long_ip : s.ends.ip ≤ length (planned Ip)
  long_ip = omega (arith, end_ip_is)

  long_dp : s.ends.dp ≤ length (planned Dp)
  long_dp = omega (arith, end_dp_is)

  further_ip : s.ends.ip ≤ length (with_ops asked planned Ip)
  further_ip = omega (arith, end_ip_is, length-append (planned Ip) (items_by Ip asked))

  further_dp : s.ends.dp ≤ length (with_ops asked planned Dp)
  further_dp = omega (arith, end_dp_is, length-append (planned Dp) (items_by Dp asked))

  -- the new index is the last one, and tells the tree there
  pub reads_new : IsLastOnDp label (indexes_of (with_ops asked planned Dp)) (Some its.told)
  reads_new = subst (λ (l : List Item). IsLastOnDp label (indexes_of l) (Some its.told)) (sym items_are) reads_put

  -- what the index names lies before the ends of what is planned
  pub within_new : AllByRecursion
      (FitsNode label (length (with_ops asked planned Ip)) (length (with_ops asked planned Dp))) its.told.nodes
  within_new = nodes_further label s.ends.ip s.ends.dp (length (with_ops asked planned Ip))
      (length (with_ops asked planned Dp)) further_ip further_dp its.told.nodes its.within

  -- the index tells the tree also of what is planned behind it
  pub tree_new : IsTreeOf label (cartridge_on (with_ops asked planned)) its.told tree
  tree_new = tree_stays label s.ends.ip s.ends.dp differ (cartridge_on planned) (cartridge_on (with_ops asked planned))
      its.told tree its.within (sym (take-append-le s.ends.ip (planned Ip) (items_by Ip asked) long_ip))
      (sym (take-append-le s.ends.dp (planned Dp) (items_by Dp asked) long_dp)) its.tree_is

  -- with the index of a sync the data partition ends with the tree that it tells
  pub ends_with_told : EndsWithTree label facts tree (space.after v on s (index text)) (with_ops asked planned)
  ends_with_told = record {
    index = its.told;
    some = λ none. (let wrong : new_construct (planned Dp) bs ∷ indexes_of (planned Dp) ≡ [] = sym indexes_are
        ∙ none in cc);
    reads = reads_new;
    ends = subst (λ (l : List Item). EndsWithLast l (indexes_of l)) (sym items_are)
        (ends_with_new (planned Dp) bs open_ends.dp some_new);
    generation = its.generation;
    facts_are = its.facts_are;
    within = within_new;
    tree_is = tree_new;
  }
