-- What a cartridge stands for to whose index partition the index of a close went.
use Rattle.std.proofs.Common.{◌≡◌, ◌≢◌, ℕ, ◌+◌, ◌≤◌, List, [], ◌∷◌, ◌++◌, length, map, take, Some, option_map, refl}
use Rattle.std.proofs.Common.{sym, ap, subst, ◌∙◌, arith, append-nil}
use Rattle.std.specs.List.{AllByRecursion}
use Rattle.std.proofs.lemmas.List.{take-append-le}
use Rattle.tape_types.specs.declared.cartridges.Cartridge.{Cartridge}
use Rattle.tape_types.specs.declared.cartridges.Item.{Item}
use Rattle.tape_types.specs.declared.cartridges.Item.TheVariants.{Block, Mark}
use Rattle.tape_types.specs.declared.cartridges.Part.TheVariants.{Ip, Dp}
use Rattle.plain_tree.specs.Tree.{Tree}
use Rattle.tape_layout.specs.IndexConstruct.Blocks.{blocks_of}
use Rattle.index_model.specs.Grammar.{IndexText}
use Rattle.index_model.specs.declared.indexes.Index.{Index}
use Rattle.content_laws.specs.Content.{Content}
use Rattle.content_laws.specs.Ends.{EndsWithLast, IsOneAtMost, end_dp}
use Rattle.content_laws.specs.Readings.{Construct, HasForm}
use Rattle.tape_layout.specs.declared.ops.Op.{Op}
use Rattle.tape_layout.specs.declared.ops.Op.TheVariants as ops
use Rattle.tape_layout.specs.Ops.{construct, puts}
use Rattle.tape_layout.specs.declared.standing.Ends.{Ends}
use Rattle.cartridge_meaning.specs.Carried.{Carried}
use Rattle.cartridge_meaning.specs.Labels.{HasLabels}
use Rattle.cartridge_meaning.specs.Meaning.{AreAlike, FitsNode, HasOneIndex, IsConsistent, IsTreeOf, Stands}
use Rattle.cartridge_meaning.specs.Pointers.{IsLastOnDp, indexes_of, last_block, letter_of, newest_spot}
use Rattle.cartridge_meaning.specs.declared.labels.Labels.{Labels}
use Rattle.cartridge_meaning.proofs.Frame.{labels_stay, tree_stays}
use Rattle.promises.specs.ImageLaws.Closed.{EndsWithClose}
use Rattle.promises.specs.ImageLaws.Made.{Made, Trees, cartridge_of}
use Rattle.promises.specs.ImageLaws.Plans.{IsCloseDue, IsReady}
use Rattle.promises.proofs.ImageLaws.Appends.{form_of}
use Rattle.promises.proofs.ImageLaws.Closed.{close_alike, close_consistent, close_dp_note, close_ip_note, close_stands}
use Rattle.promises.proofs.ImageLaws.Data.{ready_opened}
use Rattle.promises.proofs.ImageLaws.Indexes.{construct_content, construct_is, construct_long, construct_ready, joined}
use Rattle.promises.proofs.ImageLaws.Indexes.{new_construct, some_blocks, spot_named, with_construct}
use Rattle.promises.specs.CrashLaws.Safe.{items_by}
use Rattle.space_laws.specs.Space.{Space}
use Rattle.volume_state.specs.PlanLaws.Planned.{Items, ends_in}
use Rattle.volume_state.proofs.PlanLaws.Ends.{ops_append}
use Rattle.volume_state.specs.ClosingLaws.Indexed.{EndsWithTree, cartridge_on}
use Rattle.volume_state.proofs.ClosingLaws.Opened.{put_items}
use Rattle.volume_core.specs.Commands.{Lasts, values_of}
use Rattle.volume_core.specs.May.{MayTell}

-- ---- the items of a close's index

module _ (size pos : ℕ) (text : List ℕ) where
  abbrev filling : List Op
  filling = puts size Ip (pos + 1) text

  abbrev last : ℕ → List Op
  last at = ops.Mark (record { part = Ip; pos = at }) ∷ []

  -- the index of a close puts its construct on the index partition
  pub close_ip : items_by Ip (construct size Ip pos text) ≡ Mark ∷ (map Block (blocks_of size text) ++ Mark ∷ [])
  close_ip = ap (λ (l : List Item). Mark ∷ l)
      (ops_append Ip (filling ++ last _) (ops.Flush (record { part = Ip; pos = _ }) ∷ [])
      ∙ append-nil (items_by Ip (filling ++ last _)) ∙ ops_append Ip filling (last _)
      ∙ ap (λ (l : List Item). l ++ Mark ∷ []) (put_items Ip Ip size (pos + 1) text))

  -- the index of a close puts nothing on the data partition
  pub close_dp : items_by Dp (construct size Ip pos text) ≡ []
  close_dp = ops_append Dp (filling ++ last _) (ops.Flush (record { part = Ip; pos = _ }) ∷ [])
      ∙ append-nil (items_by Dp (filling ++ last _)) ∙ ops_append Dp filling (last _)
      ∙ append-nil (items_by Dp filling) ∙ put_items Dp Ip size (pos + 1) text

-- ---- what it stands for

-- what both partitions had before, and the index that went behind it
pub record WentBehind (l : Labels) (facts : Carried) (tree : Tree) (s : Space) (items : Items) (size : ℕ)
    (text : List ℕ)
    (t : Trees) (made : Made) (index : Index) : Type 0 where
  pub has : HasLabels (cartridge_on items) l
  pub ready_ip : IsReady (items Ip)
  pub ready_dp : IsReady (items Dp)
  pub told : EndsWithTree l.ip facts tree s items
  pub last_is : s.last_dp ≡ last_block (indexes_of (items Dp))
  pub ends : s.ends ≡ ends_in items
  pub due : IsCloseDue (record { labels = l; facts = facts }) t made s text index
  pub tree_is : t.nth t.count ≡ tree
  pub made_is : cartridge_of made ≡ cartridge_on items
  pub some_size : 1 ≤ size

module _ (l : Labels) (facts : Carried) (tree : Tree) (s : Space) (items : Items) (size : ℕ) (text : List ℕ)
    (t : Trees)
    (made : Made) (index : Index) (w : WentBehind l facts tree s items size text t made index) (c : Cartridge)
    (ip_is : c.ip ≡ with_construct (items Ip) (blocks_of size text)) (dp_is : c.dp ≡ items Dp) where
  abbrev bs : List (List ℕ)
  bs = blocks_of size text

  abbrev newest : Index
  newest = w.told.index

  some : bs ≢ []
  some = some_blocks size text w.some_size w.due.some

  long_ip : s.ends.ip ≡ length (items Ip)
  long_ip = ap (λ (e : Ends). e.ip) w.ends

  long_dp : s.ends.dp ≡ length (items Dp)
  long_dp = ap (λ (e : Ends). e.dp) w.ends

  longer : c.ip ≡ items Ip ++ (Mark ∷ (map Block bs ++ Mark ∷ []))
  longer = ip_is ∙ construct_is (items Ip) bs

  front_ip : (n : ℕ) → n ≤ length (items Ip) → take n (items Ip) ≡ take n c.ip
  front_ip n within = sym (take-append-le n (items Ip) (Mark ∷ (map Block bs ++ Mark ∷ [])) within)
      ∙ ap (λ (x : List Item). take n x) (sym longer)

  front_dp : (n : ℕ) → take n (items Dp) ≡ take n c.dp
  front_dp n = ap (λ (x : List Item). take n x) (sym dp_is)

  -- a cartridge on which a close's index went has the volume's labels
  pub went_labels : HasLabels c l
  went_labels = labels_stay (cartridge_on items) c l (front_ip 4 w.ready_ip.labels) (front_dp 4) w.has

  form_ip : HasForm (with_construct (items Ip) bs)
  form_ip = form_of (with_construct (items Ip) bs)
      (ready_opened (with_construct (items Ip) bs) (construct_ready (items Ip) bs w.ready_ip some)).good

  -- the index partition has the form of one behind a close's index
  pub went_ip_form : HasForm c.ip
  went_ip_form = subst (λ (x : List Item). HasForm x) (sym ip_is) form_ip

  -- the data partition has the form of one behind a close's index
  pub went_dp_form : HasForm c.dp
  went_dp_form = subst (λ (x : List Item). HasForm x) (sym dp_is)
      (form_of (items Dp) (ready_opened (items Dp) w.ready_dp).good)

  -- the data partition ends with its last index
  dp_end_is : (ks : List Construct) → EndsWithLast (items Dp) ks → length (items Dp) ≡ end_dp ks
  dp_end_is [] ends = absurd ends
  dp_end_is (k ∷ older) ends = ends

  back_is : index.back ≡ newest_spot l.ip (indexes_of (items Dp))
  back_is = w.due.back ∙ ap (option_map (λ (block : ℕ). record { letter = letter_of l.ip Dp; block = block }))
      w.last_is
      ∙ spot_named l.ip (indexes_of (items Dp))

  within : AllByRecursion (FitsNode l.ip (length (items Ip)) (end_dp (indexes_of (items Dp)))) newest.nodes
  within = subst (λ (n : ℕ). AllByRecursion (FitsNode l.ip (length (items Ip)) n) newest.nodes)
      (dp_end_is (indexes_of (items Dp)) w.told.ends) w.told.within

  ends_so : EndsWithClose c l newest index
  ends_so = record {
    has = went_labels;
    dp_form = went_dp_form;
    dp_some = λ empty. w.told.some (sym (ap indexes_of dp_is) ∙ empty);
    dp_reads = subst (λ (x : List Item). IsLastOnDp l.ip (indexes_of x) (Some newest)) (sym dp_is) w.told.reads;
    before = items Ip;
    ready = w.ready_ip;
    blocks = bs;
    some = some;
    ip = ip_is;
    reads = subst (λ (x : List ℕ). IndexText x index) (sym (joined size text w.some_size)) w.due.reads;
    uuid = w.due.uuid;
    here = w.due.here ∙ ap (λ (n : ℕ). record { letter = letter_of l.ip Ip; block = n + 1 }) long_ip;
    back = back_is ∙ ap (λ (x : List Item). newest_spot l.ip (indexes_of x)) (sym dp_is);
    generation = w.due.generation ∙ sym w.told.generation;
    within = subst
        (λ (x : List Item). AllByRecursion (FitsNode l.ip (length (items Ip)) (end_dp (indexes_of x))) newest.nodes)
        (sym dp_is) within;
  }

  differ : l.ip.index ≢ l.ip.dpart
  differ = w.has.one_volume.places.letters

  dp_tree : IsTreeOf l.ip c newest tree
  dp_tree = tree_stays l.ip (length (items Ip)) (length (items Dp)) differ (cartridge_on items) c newest tree
      w.told.within
      (front_ip (length (items Ip)) (omega arith)) (front_dp (length (items Dp))) w.told.tree_is

  ip_tree : IsTreeOf l.ip c index tree
  ip_tree = tree_stays l.ip s.ends.ip s.ends.dp differ (cartridge_on items) c index tree w.due.tells.within
      (front_ip s.ends.ip (omega (arith, long_ip))) (front_dp s.ends.dp)
      (subst (λ (x : Tree). IsTreeOf l.ip (cartridge_on items) index x) w.tree_is
      (subst (λ (x : Cartridge). IsTreeOf l.ip x index (t.nth t.count)) w.made_is w.due.tells.tree))

  -- the cartridge stands for the tree of the whole history behind a close's index
  pub went_stands : Stands c facts tree s.newest
  went_stands = subst (λ (n : ℕ). Stands c facts tree n) w.told.generation
      (close_stands c l newest index ends_so facts tree w.told.facts_are dp_tree)

  -- the cartridge is consistent behind a close's index
  pub went_consistent : IsConsistent c
  went_consistent = close_consistent c l newest index ends_so
      (subst (λ (x : List Item). EndsWithLast x (indexes_of x)) (sym dp_is) w.told.ends)

  -- both partitions tell the same tree behind a close's index
  pub went_alike : AreAlike c facts tree s.newest
  went_alike = subst (λ (n : ℕ). AreAlike c facts tree n) w.told.generation
      (close_alike c l newest index ends_so facts tree w.due.tells.facts w.told.facts_are ip_tree dp_tree)

  -- both notes may tell of the last indexes behind a close's index
  pub went_tells : (lasts : Lasts) → lasts.generation ≡ s.newest → lasts.on_ip ≡ s.ends.ip + 1
      → lasts.on_dp ≡ s.last_dp → MayTell c l.ip lasts
  went_tells lasts generation on_ip on_dp = record {
    ip = λ vcr. close_ip_note c l newest index ends_so (values_of lasts vcr lasts.on_ip)
        (generation ∙ sym w.due.generation)
        (w.due.here ∙ ap (λ (n : ℕ). record { letter = letter_of l.ip Ip; block = n }) (sym on_ip));
    dp = λ vcr block is. close_dp_note c l newest index ends_so (values_of lasts vcr block)
        (generation ∙ sym w.told.generation)
        (ap (λ (x : List Item). last_block (indexes_of x)) dp_is ∙ sym w.last_is ∙ sym on_dp ∙ is);
  }

  -- the index of the close is the only one of the index partition, where none is before it
  pub went_one : indexes_of (items Ip) ≡ [] → HasOneIndex c
  went_one none =
      let whole = with_construct (items Ip) bs in
      let content_is = construct_content (items Ip) bs w.ready_ip some in
      let only : indexes_of whole ≡ new_construct (items Ip) bs ∷ [] =
      ap (λ (x : Content). x.constructs) content_is
      ∙ ap (λ (ks : List Construct). new_construct (items Ip) bs ∷ ks) none in
      subst (λ (x : List Item). IsOneAtMost x (indexes_of x)) (sym ip_is)
      (subst (λ (ks : List Construct). IsOneAtMost whole ks) (sym only) (
        refl,
        ap (λ (x : List Item). length x) (construct_ready (items Ip) bs w.ready_ip some).whole
            ∙ construct_long (items Ip) bs,
      ))
