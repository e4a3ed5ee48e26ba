-- That the indexes which a history has admitted are the top of the data partition, from the start on.
use Rattle.std.proofs.Common.{◌≡◌, ◌≢◌, inl, inr, ℕ, suc, ◌+◌, ◌<◌, ◌≤◌, ◌&&◌, not, if◌then◌else◌, Bool, true, false, List, [], ◌∷◌, ◌++◌, length, map}
use Rattle.std.proofs.Common.{reverse, take, Option, Some, None, IfSome, refl, sym, ap, subst, ◌∙◌, append-nil, arith, length-append}
use Rattle.std.specs.List.{AllByRecursion}
use Rattle.std.proofs.lemmas.List.{append_cancel_left, reverse-append, take-append-le, take_all}
use Rattle.std.proofs.lemmas.Option.{same_Some}
use Rattle.tape_types.specs.declared.cartridges.Cartridge.{Cartridge}
use Rattle.tape_types.specs.declared.cartridges.Item.{Item}
use Rattle.tape_types.specs.declared.cartridges.Item.TheVariants.{Block, Mark}
use Rattle.tape_types.specs.declared.cartridges.Limits.{Limits}
use Rattle.tape_types.specs.declared.cartridges.Part.{Part}
use Rattle.tape_types.specs.declared.cartridges.Part.TheVariants.{Dp, Ip}
use Rattle.tape_types.specs.declared.moments.Moment.{Moment}
use Rattle.plain_tree.specs.History.{replay}
use Rattle.plain_tree.specs.Tree.{Tree}
use Rattle.plain_tree.specs.declared.calls.Fate.TheVariants as fates
use Rattle.plain_tree.specs.declared.calls.Placed.{Placed}
use Rattle.session_script.specs.Grammar.{calls_of}
use Rattle.session_script.specs.declared.logs.Event.{Event}
use Rattle.tape_layout.specs.IndexConstruct.Blocks.{blocks_of}
use Rattle.index_model.specs.declared.indexes.Index.{Index}
use Rattle.ltfs_label.specs.declared.Label.{Label}
use Rattle.content_laws.specs.Content.{content}
use Rattle.content_laws.specs.Ends.{end_ip}
use Rattle.content_laws.specs.Readings.{Construct}
use Rattle.tape_layout.specs.declared.ops.Op.{Op}
use Rattle.cartridge_meaning.specs.Carried.{Carried, carried}
use Rattle.cartridge_meaning.specs.Meaning.{FitsNode, ip_end}
use Rattle.cartridge_meaning.specs.Mounts.{Mounts}
use Rattle.cartridge_meaning.specs.Pointers.{IsLastOnDp, IsOfVolume, PointsOnDp, indexes_of, last_block}
use Rattle.cartridge_meaning.proofs.Frame.{nodes_further, tree_stays}
use Rattle.promises.specs.ImageLaws.Plans.{IsReady}
use Rattle.promises.proofs.ImageLaws.Indexes.{construct_content, construct_is, new_construct, with_construct}
use Rattle.space_laws.specs.Space as space
use Rattle.space_laws.specs.Space.{Ask, Rules, Space, change, index, nothing, part_for, store}
use Rattle.space_laws.specs.Closing.{close_ask, is_dp_due}
use Rattle.space_laws.specs.Mount.{was_sealed}
use Rattle.space_laws.specs.Standing.{Given, Standing, after_placed, is_on, rules, sync_text}
use Rattle.space_laws.proofs.TreeLaw.{are_replays}
use Rattle.promises.specs.ServingPromise.Ends.{begun}
use Rattle.promises.specs.ServingPromise.Mount.{facts_of}
use Rattle.promises.specs.ServingPromise.Served.{Fixed, View, tree_after}
use Rattle.promises.specs.ServingPromise.Steps.{on_after}
use Rattle.promises.proofs.ReplyLaws.Truths.{agree_after}
use Rattle.promises.specs.CrashLaws.Laws.{AddsOps}
use Rattle.promises.specs.CrashLaws.Safe.{given_by, items_by, space_now, standing_now}
use Rattle.promises.proofs.CrashLaws.Placing.{same_standing, standings_go_on}
use Rattle.volume_state.specs.PlanLaws.Planned.{Items, ends_in, mounted_items, with_ops}
use Rattle.tape_layout.specs.Ops.{end_of}
use Rattle.volume_state.specs.ClosingLaws.Indexed.{IsIndexed, IsOpen, SyncsAreDueOn, cartridge_on}
use Rattle.volume_state.specs.ClosingLaws.Owned.{HasOwn, IsLinkBelow, KeepsOwn, LinkDownTo, OwnIndexesStay, TellTrees, TellsTree}
use Rattle.volume_state.specs.ClosingLaws.Owned.{all_places, own_places, place_of_index}
use Rattle.volume_state.specs.ClosingLaws.Ready.{GoesOnBy}
use Rattle.volume_state.proofs.ClosingLaws.Asked.{void_standing}
use Rattle.volume_state.proofs.ClosingLaws.IndexLaw.{told_synced}
use Rattle.volume_state.proofs.ClosingLaws.Mounted.{dp_indexes}
use Rattle.volume_state.proofs.ClosingLaws.Newest.{IsTold, end_dp_is, end_ip_is, indexes_are, reads_new, tree_new, within_new}
use Rattle.volume_state.proofs.ClosingLaws.Opened.{stored_same}
use Rattle.volume_state.proofs.ClosingLaws.OwnPlaces.{newest_first, own_ask, places_alike, void_places}

-- ---- links stay links as the index partition goes on

links_further : (label : Label) (end more : ℕ) → end ≤ more → (after : Option ℕ) (older ks : List Construct)
    (own : List Index) → LinkDownTo label end after older ks own → LinkDownTo label more after older ks own
links_further label end more le after older ks [] l = l
links_further label end more le after older [] (i ∷ own) l = absurd l
links_further label end more le after older (k ∷ ks) (i ∷ own) l = (
  record {
    of_volume = l.0.of_volume;
    points = l.0.points;
    rises = l.0.rises;
    within = nodes_further label end k.mark more k.mark le (omega arith) i.nodes l.0.within;
  },
  links_further label end more le (Some i.generation) older ks own l.1,
)

-- ---- what indexes tell stays as items are put behind

module _ (label : Label) (differ : label.index ≢ label.dpart) (end more : ℕ) (c d : Cartridge) (le : end ≤ more)
    (longer : length c.dp ≤ length d.dp) (same_ip : take end c.ip ≡ take end d.ip)
    (same_dp : take (length c.dp) c.dp ≡ take (length c.dp) d.dp) (newest : ℕ) where
  tells_further : (generation : ℕ) (tree : Tree) (i : Index) → TellsTree label end c generation tree i
      → TellsTree label more d generation tree i
  tells_further generation tree i t = record {
    generation_is = t.generation_is;
    within = nodes_further label end (length c.dp) more (length d.dp) le longer i.nodes t.within;
    tree_is = tree_stays label end (length c.dp) differ c d i tree t.within same_ip same_dp t.tree_is;
  }

  pub trees_further : (tree : ℕ → Tree) (places : List ℕ) (own : List Index)
      → TellTrees label end c newest tree places own → TellTrees label more d newest tree places own
  trees_further tree [] [] t = tt
  trees_further tree [] (i ∷ own) t = absurd t
  trees_further tree (p ∷ places) [] t = absurd t
  trees_further tree (p ∷ places) (i ∷ own) t =
      (tells_further (newest + length (p ∷ places)) (tree p) i t.0, trees_further tree places own t.1)

-- the trees of the same places by another name
trees_as : (label : Label) (end : ℕ) (c : Cartridge) (newest : ℕ) (tree other : ℕ → Tree) (most : ℕ)
    → ((k : ℕ) → k ≤ most → tree k ≡ other k) → (places : List ℕ) → AllByRecursion (λ place. place ≤ most) places
    → (own : List Index) → TellTrees label end c newest tree places own → TellTrees label end c newest other places own
trees_as label end c newest tree other most same [] all [] t = tt
trees_as label end c newest tree other most same [] all (i ∷ own) t = absurd t
trees_as label end c newest tree other most same (p ∷ places) all [] t = absurd t
trees_as label end c newest tree other most same (p ∷ places) all (i ∷ own) t = (
  subst (λ (x : Tree). TellsTree label end c (newest + length (p ∷ places)) x i) (same p all.0) t.0,
  trees_as label end c newest tree other most same places all.1 own t.1,
)

-- what was planned stands on a cartridge whose data partition is just that
stands_on : (label : Label) → label.index ≢ label.dpart → (planned : Items) (newest : ℕ) (tree : ℕ → Tree)
    (older : List Construct) (places : List ℕ) (c : Cartridge) → c.dp ≡ planned Dp → length (planned Ip) ≤ ip_end c
    → take (length (planned Ip)) c.ip ≡ planned Ip
    → HasOwn label (length (planned Ip)) (cartridge_on planned) newest tree older places
    → HasOwn label (ip_end c) c newest tree older places
stands_on label differ planned newest tree older places c dp le ip h = record {
  own = h.own;
  links = subst (λ (l : List Item). LinkDownTo label (ip_end c) None older (indexes_of l) h.own) (sym dp)
      (links_further label (length (planned Ip)) (ip_end c) le None older (indexes_of (planned Dp)) h.own h.links);
  trees = trees_further label differ (length (planned Ip)) (ip_end c) (cartridge_on planned) c le
      (omega (arith, ap (λ (l : List Item). length l) dp))
      (take_all (length (planned Ip)) (planned Ip) (omega arith) ∙ sym ip)
      (ap (λ (l : List Item). take (length (planned Dp)) l) (sym dp)) newest tree places h.own h.trees;
}

-- and on one to whose index partition the index of a close went behind it
pub closed_on : (label : Label) → label.index ≢ label.dpart → (planned : Items) (newest : ℕ) (tree : ℕ → Tree)
    (older : List Construct) (places : List ℕ) (bs : List (List ℕ)) (c : Cartridge) → IsReady (planned Ip) → bs ≢ []
    → c.ip ≡ with_construct (planned Ip) bs → c.dp ≡ planned Dp
    → HasOwn label (length (planned Ip)) (cartridge_on planned) newest tree older places
    → HasOwn label (ip_end c) c newest tree older places
closed_on label differ planned newest tree older places bs c ready some ip dp h =
    stands_on label differ planned newest tree older places c dp
    (omega (arith, ap (λ (l : List Item). end_ip (content l)) ip, ap end_ip (construct_content (planned Ip) bs ready some)))
    (ap (λ (l : List Item). take (length (planned Ip)) l) (ip ∙ construct_is (planned Ip) bs)
    ∙ take-append-le (length (planned Ip)) (planned Ip) (Mark ∷ (map Block bs ++ Mark ∷ [])) (omega arith)
    ∙ take_all (length (planned Ip)) (planned Ip) (omega arith)) h

-- ---- a newer index in front

-- the newest of the others is older
older_before : (label : Label) (end : ℕ) (c : Cartridge) (newest : ℕ) (tree : ℕ → Tree) (generation : ℕ)
    (older ks : List Construct) (places : List ℕ) (own : List Index)
    → generation ≡ newest + length places + 1 → TellTrees label end c newest tree places own
    → LinkDownTo label end None older ks own → LinkDownTo label end (Some generation) older ks own
older_before label end c newest tree generation older ks places [] is t l = l
older_before label end c newest tree generation older [] places (i ∷ own) is t l = absurd l
older_before label end c newest tree generation older (k ∷ ks) [] (i ∷ own) is t l = absurd t
older_before label end c newest tree generation older (k ∷ ks) (p ∷ places) (i ∷ own) is t l =
    let less : i.generation < generation = omega (arith, is, t.0.generation_is) in
    (record { of_volume = l.0.of_volume; points = l.0.points; rises = less; within = l.0.within }, l.1)

-- places that are no later than one are no later than a later one
all_later : (n m : ℕ) → n ≤ m → (places : List ℕ) → AllByRecursion (λ place. place ≤ n) places
    → AllByRecursion (λ place. place ≤ m) places
all_later n m le [] all = tt
all_later n m le (p ∷ places) all = (omega (arith, all.0, le), all_later n m le places all.1)

-- ---- what is planned goes on

module _ (label : Label) (planned : Items) (newest : ℕ) (tree other : ℕ → Tree) (older : List Construct)
    (places : List ℕ) (most : ℕ) (same : (k : ℕ) → k ≤ most → tree k ≡ other k)
    (all : AllByRecursion (λ place. place ≤ most) places) (open_ends : IsOpen label planned)
    (old : HasOwn label (length (planned Ip)) (cartridge_on planned) newest tree older places) where
  differ : label.index ≢ label.dpart
  differ = subst (λ (l : Label). l.index ≢ l.dpart) (sym open_ends.label_is) open_ends.has.one_volume.places.letters

  module _ (asked : List Op) where
    abbrev HasThen : List ℕ → Type 0
    HasThen ks = HasOwn label (length (with_ops asked planned Ip)) (cartridge_on (with_ops asked planned)) newest other
        older ks

    more_ip : length (planned Ip) ≤ length (with_ops asked planned Ip)
    more_ip = omega (arith, length-append (planned Ip) (items_by Ip asked))

    more_dp : length (planned Dp) ≤ length (with_ops asked planned Dp)
    more_dp = omega (arith, length-append (planned Dp) (items_by Dp asked))

    links_then : LinkDownTo label (length (with_ops asked planned Ip)) None older (indexes_of (planned Dp)) old.own
    links_then = links_further label (length (planned Ip)) (length (with_ops asked planned Ip)) more_ip None older
        (indexes_of (planned Dp)) old.own old.links

    trees_then : TellTrees label (length (with_ops asked planned Ip)) (cartridge_on (with_ops asked planned)) newest
        other places old.own
    trees_then = trees_as label (length (with_ops asked planned Ip)) (cartridge_on (with_ops asked planned)) newest tree
        other most same places all old.own
        (trees_further label differ (length (planned Ip)) (length (with_ops asked planned Ip)) (cartridge_on planned)
        (cartridge_on (with_ops asked planned)) more_ip more_dp
        (sym (take-append-le (length (planned Ip)) (planned Ip) (items_by Ip asked) (omega arith)))
        (sym (take-append-le (length (planned Dp)) (planned Dp) (items_by Dp asked) (omega arith))) newest tree places
        old.own old.trees)

    -- without an index
    none_more : indexes_of (with_ops asked planned Dp) ≡ indexes_of (planned Dp) → HasThen places
    none_more is = record {
      own = old.own;
      links = subst (λ (ks : List Construct).
          LinkDownTo label (length (with_ops asked planned Ip)) None older ks old.own) (sym is) links_then;
      trees = trees_then;
    }

  -- with the index of a text
  module _ (facts : Carried) (s : Space) (v : Rules) (on : Bool) (size : 1 ≤ v.block_size)
      (ends : s.ends ≡ ends_in planned) (last : s.last_dp ≡ last_block (indexes_of (planned Dp)))
      (newest_is : s.newest ≡ newest + length places) where
    module _ (text : List ℕ) (place : ℕ)
        (its : IsTold label facts (other place) (cartridge_on planned) s text) where
      abbrev asked : List Op
      asked = space.ops_of v on s (index text)

      abbrev k : Construct
      k = new_construct (planned Dp) (blocks_of v.block_size text)

      are : indexes_of (with_ops asked planned Dp) ≡ k ∷ indexes_of (planned Dp)
      are = indexes_are label facts (other place) planned s v on text open_ends ends last size its

      reads : IsLastOnDp label (k ∷ indexes_of (planned Dp)) (Some its.told)
      reads = subst (λ (ks : List Construct). IsLastOnDp label ks (Some its.told)) are
          (reads_new label facts (other place) planned s v on text open_ends ends last size its)

      told_is : reads.0 ≡ its.told
      told_is = sym (same_Some its.told reads.0 reads.1)

      generation_is : its.told.generation ≡ newest + length places + 1
      generation_is = omega (arith, its.generation, newest_is)

      abbrev end : ℕ
      end = length (with_ops asked planned Ip)

      before : AllByRecursion (FitsNode label end k.mark) its.told.nodes
      before = nodes_further label s.ends.ip s.ends.dp end k.mark
          (omega (arith, more_ip asked, end_ip_is label facts (other place) planned s v on text open_ends ends last size its))
          (omega (arith, end_dp_is label facts (other place) planned s v on text open_ends ends last size its))
          its.told.nodes its.within

      link : IsLinkBelow label end k (indexes_of (planned Dp)) None its.told
      link = record {
        of_volume = subst (λ (i : Index). IsOfVolume label k i) told_is reads.2;
        points = subst (λ (i : Index). PointsOnDp label k (indexes_of (planned Dp)) i) told_is reads.3;
        rises = tt;
        within = before;
      }

      one_more : HasThen asked (place ∷ places)
      one_more = record {
        own = its.told ∷ old.own;
        links = subst (λ (ks : List Construct). LinkDownTo label end None older ks (its.told ∷ old.own)) (sym are) (
          link,
          older_before label end (cartridge_on (with_ops asked planned)) newest other its.told.generation older
              (indexes_of (planned Dp)) places old.own generation_is (trees_then asked) (links_then asked),
        );
        trees = (
          record {
            generation_is = omega (arith, generation_is);
            within = within_new label facts (other place) planned s v on text open_ends ends last size its;
            tree_is = tree_new label facts (other place) planned s v on text open_ends ends last size its;
          },
          trees_then asked,
        );
      }

    -- with whatever is asked
    pub by_ask : (ask : Ask) (place : ℕ) → ((text : List ℕ) → ask ≡ index text
        → IsTold label facts (other place) (cartridge_on planned) s text)
        → HasThen (space.ops_of v on s ask) (place_of_index place ask ++ places)
    by_ask nothing place told = none_more [] (ap indexes_of (append-nil (planned Dp)))
    by_ask change place told = none_more [] (ap indexes_of (append-nil (planned Dp)))
    by_ask (store wanted bytes) place told =
        let part = part_for v on s wanted bytes in
        none_more (space.ops_of v on s (store wanted bytes))
        (stored_same label planned open_ends part v.block_size (end_of part s.ends) bytes)
    by_ask (index text) place told = one_more text place (told text refl)

    pub newest_then : (ask : Ask) (place : ℕ)
        → (space.after v on s ask).newest ≡ newest + length (place_of_index place ask ++ places)
    newest_then nothing place = newest_is
    newest_then change place = newest_is
    newest_then (store wanted bytes) place = newest_is
    newest_then (index text) place = omega (arith, newest_is)

all_then : (n m : ℕ) (ask : Ask) (place : ℕ) → n ≤ m → place ≤ m → (places : List ℕ)
    → AllByRecursion (λ p. p ≤ n) places → AllByRecursion (λ p. p ≤ m) (place_of_index place ask ++ places)
all_then n m nothing place le here places all = all_later n m le places all
all_then n m change place le here places all = all_later n m le places all
all_then n m (store wanted bytes) place le here places all = all_later n m le places all
all_then n m (index text) place le here places all = (here, all_later n m le places all)

-- ---- views

abbrev places_in : {D : Type 0} → Limits → View D → List ℕ
places_in limits v = reverse (own_places (given_by limits v) v.on v.history)

-- the trees of a history that goes on
trees_same : {D : Type 0} (old new : View D) (more : List Placed) → new.fixed ≡ old.fixed
    → new.history ≡ old.history ++ more → (k : ℕ) → k ≤ length old.history → tree_after old k ≡ tree_after new k
trees_same {D} old new more fixed history k le =
    ap (λ (h : List Placed). replay (calls_of old.fixed.script) old.fixed.tree h)
    (sym (take-append-le k old.history more le) ∙ ap (take k) (sym history))
    ∙ ap (λ (f : Fixed D). replay (calls_of f.script) f.tree (take k new.history)) (sym fixed)

module _ {D : Type 0} (limits : Limits) (older : List Construct) (old new : View D) (fixed : new.fixed ≡ old.fixed) where
  -- with these places and this newest generation it is so
  keeps_by : (items : Items) (places : List ℕ) → places_in limits new ≡ places
      → HasOwn old.fixed.mounted.label (length (items Ip)) (cartridge_on items) old.fixed.mounted.newest
      (tree_after new) older places → AllByRecursion (λ p. p ≤ length new.history) places
      → (space_now limits new).newest ≡ old.fixed.mounted.newest + length places → KeepsOwn items limits older new
  keeps_by items places are has all newest =
      let there = sym are in
      record {
        has = subst (λ (f : Fixed D). HasOwn f.mounted.label (length (items Ip)) (cartridge_on items) f.mounted.newest
            (tree_after new) older (places_in limits new)) (sym fixed)
            (subst (λ (ks : List ℕ). HasOwn old.fixed.mounted.label (length (items Ip)) (cartridge_on items)
            old.fixed.mounted.newest (tree_after new) older ks) there has);
        within = subst (λ (ks : List ℕ). AllByRecursion (λ p. p ≤ length new.history) ks) there all;
        newest_is = subst (λ (f : Fixed D). (space_now limits new).newest
            ≡ f.mounted.newest + length (places_in limits new)) (sym fixed)
            (subst (λ (ks : List ℕ). (space_now limits new).newest ≡ old.fixed.mounted.newest + length ks) there newest);
      }

  -- the places, as the history and placement on the index partition go on
  places_by : (on : Option ℕ) (history : List Placed) → new.on ≡ on → new.history ≡ history
      → places_in limits new ≡ reverse (own_places (given_by limits old) on history)
  places_by on history on_is history_is =
      ap (λ (f : Fixed D). reverse (own_places (given_by limits (record new { fixed = f })) new.on new.history)) fixed
      ∙ ap (λ (o : Option ℕ). reverse (own_places (given_by limits old) o new.history)) on_is
      ∙ ap (λ (h : List Placed). reverse (own_places (given_by limits old) on h)) history_is

-- the ops that a close admits on the data partition, and what stands then
abbrev pub closing_ops : {D : Type 0} → Limits → View D → Ask → List Op
closing_ops limits v ask = space.ops_of (rules (given_by limits v)) (is_on (facts_of v.fixed.mounted) v.on (length v.history))
    (space_now limits v) ask

abbrev pub HasClosing : {D : Type 0} → Items → Limits → List Construct → View D → Ask → Type 0
HasClosing planned limits older v ask = HasOwn v.fixed.mounted.label
    (length (with_ops (closing_ops limits v ask) planned Ip)) (cartridge_on (with_ops (closing_ops limits v ask) planned))
    v.fixed.mounted.newest (tree_after v) older (reverse (all_places (given_by limits v) v.on v.history))

due_first : (k : ℕ) (text : List ℕ) (due : Bool)
    → reverse (if due then k ∷ [] else []) ≡ place_of_index k (if due then index text else nothing)
due_first k text true = refl
due_first k text false = refl

with_none : (planned : Items) → planned ≡ with_ops [] planned
with_none planned i part = sym (append-nil (planned part)) i

module _ {D : Type 0} where
  -- ---- the start

  begins_on : (limits : Limits) (fixed : Fixed D) (next : Option Moment) (c : Cartridge) → Mounts c fixed.mounted
      → KeepsOwn (mounted_items c) limits (indexes_of c.dp) (begun fixed next)
  begins_on limits fixed next c mounts = record {
    has = record { own = []; links = dp_indexes c mounts.found; trees = tt };
    within = tt;
    newest_is = omega arith;
  }

  begins : (planned : Items) (limits : Limits) (fixed : Fixed D) (next : Option Moment) (c : Cartridge)
      → Mounts c fixed.mounted → ((part : Part) → planned part ≡ mounted_items c part)
      → KeepsOwn planned limits (indexes_of c.dp) (begun fixed next)
  begins planned limits fixed next c mounts same =
      let all : mounted_items c ≡ planned = λ i part. (sym (same part)) i in
      subst (λ (items : Items). KeepsOwn items limits (indexes_of c.dp) (begun fixed next)) all
      (begins_on limits fixed next c mounts)

  -- ---- without an op

  module _ (planned : Items) (limits : Limits) (older : List Construct) (old new : View D)
      (was : KeepsOwn planned limits older old) (fixed : new.fixed ≡ old.fixed) (more : List Placed)
      (history : new.history ≡ old.history ++ more) (places : places_in limits new ≡ places_in limits old)
      (space_is : space_now limits new ≡ space_now limits old) where
    still_own : (planned_more : Items) → planned ≡ planned_more → KeepsOwn planned_more limits older new
    still_own items same =
        keeps_by limits older old new fixed items (places_in limits old) places
        (subst (λ (p : Items). HasOwn old.fixed.mounted.label (length (p Ip)) (cartridge_on p)
        old.fixed.mounted.newest (tree_after new) older (places_in limits old)) same there)
        (all_later (length old.history) (length new.history)
        (omega (arith, ap length history, length-append old.history more)) (places_in limits old) was.within)
        (ap (λ (s : Space). s.newest) space_is ∙ was.newest_is)
      where
        there : HasOwn old.fixed.mounted.label (length (planned Ip)) (cartridge_on planned) old.fixed.mounted.newest
            (tree_after new) older (places_in limits old)
        there = record {
          own = was.has.own;
          links = was.has.links;
          trees = trees_as old.fixed.mounted.label (length (planned Ip)) (cartridge_on planned) old.fixed.mounted.newest
              (tree_after old) (tree_after new) (length old.history) (trees_same old new more fixed history)
              (places_in limits old) was.within was.has.own was.has.trees;
        }

  -- ---- submissions

  module _ (planned : Items) (limits : Limits) (older : List Construct) (old new : View D)
      (was : KeepsOwn planned limits older old) (indexed : IsIndexed planned limits old)
      (fixed : new.fixed ≡ old.fixed) (placed : Placed) (history : new.history ≡ old.history ++ placed ∷ [])
      (dues : SyncsAreDueOn planned limits old new) (on : new.on ≡ old.on)
      (ends : (space_now limits old).ends ≡ ends_in planned) (size : 1 ≤ old.fixed.mounted.label.block) where
    abbrev g : Given
    g = given_by limits old

    abbrev st : Standing
    st = standing_now limits old

    abbrev last_place : ℕ
    last_place = length old.history

    abbrev here : Bool
    here = is_on g.mounted old.on last_place

    abbrev asks : Ask
    asks = (own_ask g old.on old.history placed).ask

    places_are : places_in limits new ≡ place_of_index last_place asks ++ places_in limits old
    places_are = places_by limits older old new fixed old.on (old.history ++ placed ∷ []) on history
        ∙ newest_first g old.on old.history placed

    its : (text : List ℕ) → asks ≡ index text
        → IsTold old.fixed.mounted.label (carried old.fixed.mounted.index) (tree_after new last_place) (cartridge_on planned)
        st.space text
    its text is = subst (λ (t : Tree). IsTold old.fixed.mounted.label (carried old.fixed.mounted.index) t
        (cartridge_on planned) st.space text)
        (are_replays g old.on old.history last_place ∙ trees_same old new (placed ∷ []) fixed history last_place (omega arith))
        (told_synced planned limits old new indexed fixed placed history dues text
        ((own_ask g old.on old.history placed).synced text is))

    placed_own : KeepsOwn (with_ops (space.ops_of (rules g) here st.space asks) planned) limits older new
    placed_own =
        keeps_by limits older old new fixed (with_ops (space.ops_of (rules g) here st.space asks) planned)
        (place_of_index last_place asks ++ places_in limits old) places_are
        (by_ask old.fixed.mounted.label planned old.fixed.mounted.newest (tree_after old) (tree_after new) older
        (places_in limits old) last_place (trees_same old new (placed ∷ []) fixed history) was.within indexed.open_ends was.has
        (carried old.fixed.mounted.index) st.space (rules g) here size ends indexed.last was.newest_is asks last_place its)
        (all_then last_place (length new.history) asks last_place longer longer (places_in limits old) was.within)
        (ap (λ (s : Standing). s.space.newest) (standings_go_on.placed limits old new placed fixed on history)
        ∙ ap (λ (s : Space). s.newest) (own_ask g old.on old.history placed).left
        ∙ newest_then old.fixed.mounted.label planned old.fixed.mounted.newest (tree_after old) (tree_after new) older
        (places_in limits old) last_place (trees_same old new (placed ∷ []) fixed history) was.within indexed.open_ends was.has
        (carried old.fixed.mounted.index) st.space (rules g) here size ends indexed.last was.newest_is asks last_place)
      where
        longer : last_place ≤ length new.history
        longer = omega (arith, ap length history, length-append old.history (placed ∷ []))

  submitted : (planned : Items) (limits : Limits) (older : List Construct) (old new : View D) (asked : List Op)
      → KeepsOwn planned limits older old → IsIndexed planned limits old → new.ops ≡ old.ops ++ asked
      → AddsOps limits old new → new.fixed ≡ old.fixed → new.on ≡ old.on → GoesOnBy old new
      → (space_now limits old).ends ≡ ends_in planned → 1 ≤ old.fixed.mounted.label.block
      → SyncsAreDueOn planned limits old new → KeepsOwn (with_ops asked planned) limits older new
  submitted planned limits older old new asked was indexed are adds fixed on (inl history) ends size dues =
      let none : [] ≡ asked =
      append_cancel_left old.ops [] asked (append-nil old.ops ∙ sym (adds.unplaced history) ∙ are) in
      let same : new.history ≡ old.history ++ [] = history ∙ sym (append-nil old.history) in
      still_own planned limits older old new was fixed [] same
      (places_by limits older old new fixed old.on old.history on history)
      (ap (λ (s : Standing). s.space) (same_standing limits old new fixed on history)) (with_ops asked planned)
      (with_none planned ∙ ap (λ (l : List Op). with_ops l planned) none)
  submitted planned limits older old new asked was indexed are adds fixed on (inr (placed, history)) ends size dues =
      let its = own_ask (given_by limits old) old.on old.history placed in
      let same : space.ops_of (rules (given_by limits old)) (is_on (facts_of old.fixed.mounted) old.on (length old.history))
      (space_now limits old) its.ask ≡ asked =
      append_cancel_left old.ops _ asked (ap (λ (l : List Op). old.ops ++ l) (sym its.ops)
      ∙ sym (adds.placed placed history) ∙ are) in
      subst (λ (l : List Op). KeepsOwn (with_ops l planned) limits older new) same
      (placed_own planned limits older old new was indexed fixed placed history dues on ends size)

  -- ---- a close

  -- with the index that a close admits on the data partition, where one is due, of a volume that isn't sealed
  pub closing_own : (planned : Items) (limits : Limits) (older : List Construct) (v : View D) (at : Moment)
      → was_sealed v.fixed.mounted.index ≡ false → KeepsOwn planned limits older v → IsIndexed planned limits v
      → (space_now limits v).ends ≡ ends_in planned → 1 ≤ v.fixed.mounted.label.block
      → ((text : List ℕ) → close_ask (given_by limits v) (standing_now limits v) at ≡ index text
      → IsTold v.fixed.mounted.label (carried v.fixed.mounted.index) (tree_after v (length v.history))
      (cartridge_on planned) (space_now limits v) text)
      → HasClosing planned limits older v (close_ask (given_by limits v) (standing_now limits v) at)
  closing_own planned limits older v at unsealed was indexed ends size told =
      let g = given_by limits v in
      let st = standing_now limits v in
      let k : ℕ = length v.history in
      subst (λ (ks : List ℕ). HasOwn v.fixed.mounted.label
      (length (with_ops (closing_ops limits v (close_ask g st at)) planned Ip))
      (cartridge_on (with_ops (closing_ops limits v (close_ask g st at)) planned)) v.fixed.mounted.newest
      (tree_after v) older ks)
      (sym (ap (λ (sealed : Bool). reverse (own_places g v.on v.history
      ++ (if not sealed && is_dp_due g st.space then k ∷ [] else []))) unsealed
      ∙ reverse-append (own_places g v.on v.history) (if is_dp_due g st.space then k ∷ [] else [])
      ∙ ap (λ (ks : List ℕ). ks ++ places_in limits v) (due_first k (sync_text g st at) (is_dp_due g st.space))))
      (by_ask v.fixed.mounted.label planned v.fixed.mounted.newest (tree_after v) (tree_after v) older
      (places_in limits v) k (λ n le. refl) was.within indexed.open_ends was.has (carried v.fixed.mounted.index) st.space
      (rules g) (is_on g.mounted v.on k) size ends indexed.last was.newest_is (close_ask g st at) k told)

  -- none was admitted where the newest generation is that of the mount, and the close admits none
  pub none_own : (planned : Items) (limits : Limits) (older : List Construct) (v : View D)
      → KeepsOwn planned limits older v → (space_now limits v).newest ≡ v.fixed.mounted.newest
      → (not (was_sealed v.fixed.mounted.index) && is_dp_due (given_by limits v) (space_now limits v)) ≡ false
      → reverse (all_places (given_by limits v) v.on v.history) ≡ []
  none_own planned limits older v was newest still =
      ap (λ (due : Bool). reverse (own_places (given_by limits v) v.on v.history
      ++ (if due then length v.history ∷ [] else []))) still
      ∙ ap reverse (append-nil (own_places (given_by limits v) v.on v.history))
      ∙ none_long (places_in limits v) (omega (arith, was.newest_is, newest))
    where
      none_long : (places : List ℕ) → length places ≡ 0 → places ≡ []
      none_long [] is = refl
      none_long (place ∷ places) is = absurd (omega (arith, is))

  -- ---- turns

  turned : (planned : Items) (limits : Limits) (older : List Construct) (old new : View D) (added : List Event)
      → KeepsOwn planned limits older old → new.fixed ≡ old.fixed → new.history ≡ old.history
      → new.on ≡ on_after old added → KeepsOwn planned limits older new
  turned planned limits older old new added was fixed history on =
      still_own planned limits older old new was fixed [] (history ∙ sym (append-nil old.history))
      (places_by limits older old new fixed (on_after old added) old.history on history
      ∙ ap reverse (places_alike (given_by limits old) (on_after old added) old.on old.history
      (agree_after (facts_of old.fixed.mounted) old added)))
      (ap (λ (s : Standing). s.space) (standings_go_on.stepped limits old new added fixed history on)) planned refl

  voided : (planned : Items) (limits : Limits) (older : List Construct) (old new : View D) (added : List Event)
      (placed : Placed) → KeepsOwn planned limits older old → new.fixed ≡ old.fixed
      → new.history ≡ old.history ++ placed ∷ [] → placed.fate ≡ fates.Void → new.on ≡ on_after old added
      → KeepsOwn planned limits older new
  voided planned limits older old new added placed was fixed history fate on =
      still_own planned limits older old new was fixed (placed ∷ []) history
      (places_by limits older old new fixed (on_after old added) (old.history ++ placed ∷ []) on history
      ∙ ap reverse (void_places (given_by limits old) (on_after old added) old.history placed fate)
      ∙ ap reverse (places_alike (given_by limits old) (on_after old added) old.on old.history
      (agree_after (facts_of old.fixed.mounted) old added)))
      (ap (λ (s : Standing). s.space) (void_standing limits old new added placed fixed history fate on)) planned refl

-- the indexes that a history has admitted are the top of the data partition
pub own_indexes_stay : {D : Type 0} → OwnIndexesStay D
own_indexes_stay = record { begins = begins; submitted = submitted; turned = turned; voided = voided }
