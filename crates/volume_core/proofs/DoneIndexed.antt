-- What the data partition ends with behind the index of a close that goes there, or without one.
use Rattle.std.proofs.Common.{◌≡◌, ℕ, ◌≤◌, ◌&&◌, not, Bool, true, false, List, [], length, reverse, Option, Some, None, refl}
use Rattle.std.proofs.Common.{sym, ap, subst, ◌∙◌, append-nil, arith}
use Rattle.tape_types.specs.declared.cartridges.Cartridge.{Cartridge}
use Rattle.tape_types.specs.declared.cartridges.Item.{Item}
use Rattle.tape_types.specs.declared.cartridges.Part.{Part}
use Rattle.tape_types.specs.declared.cartridges.Part.TheVariants.{Ip, Dp}
use Rattle.tape_types.specs.declared.moments.Moment.{Moment}
use Rattle.tape_drive.specs.declared.drive.Drive.{Ghosts}
use Rattle.plain_tree.specs.Tree.{Tree}
use Rattle.ltfs_label.specs.declared.Label.{Label}
use Rattle.tape_layout.specs.declared.ops.Op.{Op}
use Rattle.cartridge_meaning.specs.Carried.{Carried, carried}
use Rattle.cartridge_meaning.specs.Meaning.{HasOneIndex}
use Rattle.cartridge_meaning.specs.Pointers.{indexes_of, last_block}
use Rattle.cartridge_meaning.specs.declared.labels.Labels.{Labels}
use Rattle.promises.specs.ImageLaws.Made.{part_items}
use Rattle.space_laws.specs.Closing.{close_ask, is_dp_due}
use Rattle.space_laws.specs.Mount.{was_sealed}
use Rattle.space_laws.specs.Space as space
use Rattle.space_laws.specs.Space.{Space, index, is_over, nothing, ops_of}
use Rattle.space_laws.specs.Standing.{Given, Standing, rules, sync_text}
use Rattle.promises.specs.ServingPromise.Served.{Fixed, View, tree_after}
use Rattle.promises.specs.CrashLaws.Safe.{Planned, trees_of, volume_of}
use Rattle.promises.specs.PromiseLaws.Kept.{CanRead}
use Rattle.volume_state.specs.PlanLaws.Planned.{Items, with_ops}
use Rattle.volume_state.specs.StateLaws.Parts.{Parts, view_of}
use Rattle.volume_state.specs.ClosingLaws.Indexed.{EndsWithTree, IsIndexed, IsOpen, cartridge_on}
use Rattle.volume_state.specs.ClosingLaws.Owned.{HasOwn, all_places}
use Rattle.volume_state.proofs.ClosingLaws.OwnLaw.{closing_own}
use Rattle.volume_state.proofs.ClosingLaws.Newest.{IsTold, ends_with_told, last_new, some_new, told_by}
use Rattle.volume_state.proofs.ClosingLaws.Opened.{indexed_ip, indexed_open}
use Rattle.volume_core.specs.Promised.{CanClose}
use Rattle.volume_core.proofs.Admitted as admitted
use Rattle.volume_core.proofs.CloseGiven.{near}
use Rattle.volume_core.proofs.Still.{or_left}
use Rattle.volume_core.proofs.There.{has_index}

-- some plan of these items, for what asks nothing of crashes
abbrev pub plan_on : {D : Type 0} → Fixed D → Labels → Items → Planned
plan_on fixed labels items = record {
  labels = labels;
  made = record {
    ip = items Ip;
    dp = items Dp;
    last = record { index = fixed.mounted.index; place = 0 };
    base = record {
      sure = 0;
      indexes = [];
      floor = record { index = fixed.mounted.index; place = 0 };
      ahead = None;
    };
  };
}

-- the plan of some items has just these items
pub items_on : {D : Type 0} (fixed : Fixed D) (labels : Labels) (items : Items) (part : Part)
    → part_items part (plan_on fixed labels items).made ≡ items part
items_on fixed labels items Ip = refl
items_on fixed labels items Dp = refl

-- Both partitions may go on, and the data partition ends with an index that tells the tree.
pub record IsIndexedBy (label : Label) (facts : Carried) (tree : Tree) (s : Space) (items : Items) : Type 0 where
  pub open_ends : IsOpen label items
  pub last : s.last_dp ≡ last_block (indexes_of (items Dp))
  pub told : EndsWithTree label facts tree s items

module _ {D : Type 0} (drive : Ghosts D) (fixed : Fixed D) (next : Option Moment) (at : Moment) (p : Parts D)
    (can : CanClose drive fixed next at p) (read : CanRead drive fixed) where
  abbrev v : View D
  v = view_of fixed next p

  abbrev g : Given
  g = admitted.g drive fixed next at p

  abbrev on : Bool
  on = admitted.on drive fixed next at p

  abbrev st : Standing
  st = admitted.st drive fixed next at p

  abbrev planned : Items
  planned = can.runs.planned

  abbrev planned1 : Items
  planned1 = admitted.planned1 drive fixed next at p can.runs.planned can.runs.tied

  abbrev text : List ℕ
  text = sync_text g st at

  abbrev label : Label
  label = fixed.mounted.label

  abbrev facts : Carried
  facts = carried fixed.mounted.index

  abbrev tree : Tree
  tree = tree_after v (length p.listed.history)

  indexed : IsIndexed planned (drive.limits fixed.first) v
  indexed = can.runs.closes.indexed read

  abbrev ops_by : Bool → List Op
  ops_by due = ops_of (rules g) on st.space (admitted.ask_by due text)

  abbrev space_by : Bool → Space
  space_by due = space.after (rules g) on st.space (admitted.ask_by due text)

  size : 1 ≤ fixed.mounted.label.block
  size = omega (arith, can.runs.tied.mount.blocks.0)

  -- ---- where one is due

  its_text : is_over (rules g) on st.space (index text) ≡ false → IsTold label facts tree (cartridge_on planned)
      st.space text
  its_text fits =
      let q = plan_on fixed indexed.open_ends.labels planned in
      let due = admitted.dp_due drive fixed next at p planned can.runs.tied can.good
      (near drive fixed next at p can read) q indexed.open_ends.label_is
      (items_on fixed indexed.open_ends.labels planned) fits in
      subst (λ (l : Label). IsTold l facts tree (cartridge_on planned) st.space text) (sym indexed.open_ends.label_is)
      (told_by (volume_of q.labels v) (trees_of v) q.made st.space text due.0 due.1)

  -- so it is of the index that the close asks for
  pub closing_told : is_over (rules g) on st.space (close_ask g st at) ≡ false → (w : List ℕ)
      → close_ask g st at ≡ index w → IsTold label facts tree (cartridge_on planned) st.space w
  closing_told fits w is = by (is_dp_due g st.space) fits is
    where
      by : (due : Bool) → is_over (rules g) on st.space (admitted.ask_by due text) ≡ false
          → admitted.ask_by due text ≡ index w → IsTold label facts tree (cartridge_on planned) st.space w
      by true within same =
          let texts : text ≡ w = (let e : index text ≡ index w = same in cc) in
          subst (λ (l : List ℕ). IsTold label facts tree (cartridge_on planned) st.space l) texts (its_text within)
      by false within same = absurd (let wrong : nothing ≡ index w = same in cc)

  -- the indexes of the run with that one, where the volume wasn't mounted as sealed
  pub closing_has : was_sealed fixed.mounted.index ≡ false → is_over (rules g) on st.space (close_ask g st at) ≡ false → (first : Cartridge)
      → drive.held fixed.first ≡ Some first
      → HasOwn label (length (planned1 Ip)) (cartridge_on planned1) fixed.mounted.newest (tree_after v)
      (indexes_of first.dp) (reverse (all_places g p.on p.listed.history))
  closing_has unsealed fits first told =
      closing_own planned (drive.limits fixed.first) (indexes_of first.dp) v at unsealed (can.runs.closes.own read first told)
      indexed can.runs.tied.ends size (closing_told fits)

  due_by : is_over (rules g) on st.space (index text) ≡ false
      → IsIndexedBy label facts tree (space_by true) (with_ops (ops_by true) planned)
  due_by fits =
      let open_ends = indexed.open_ends in
      let its = its_text fits in
      record {
        open_ends = indexed_open label planned open_ends (rules g) on st.space text
            (some_new label facts tree planned st.space (rules g) on text open_ends can.runs.tied.ends indexed.last
            size its);
        last = last_new label facts tree planned st.space (rules g) on text open_ends can.runs.tied.ends indexed.last
            size its;
        told = ends_with_told label facts tree planned st.space (rules g) on text open_ends can.runs.tied.ends
            indexed.last
            size its;
      }

  -- ---- where none is

  same_items : planned ≡ with_ops [] planned
  same_items i part = sym (append-nil (planned part)) i

  still_by : is_dp_due g st.space ≡ false → IsIndexedBy label facts tree (space_by false)
      (with_ops (ops_by false) planned)
  still_by is =
      subst (λ (items : Items). IsIndexedBy label facts tree st.space items) same_items (record {
        open_ends = indexed.open_ends;
        last = indexed.last;
        told = indexed.told (or_left st.space.changed (not fixed.mounted.dp_done && not st.space.admitted) is)
            (has_index drive fixed next at p can is);
      })

  by_due : (due : Bool) → is_dp_due g st.space ≡ due → is_over (rules g) on st.space (admitted.ask_by due text) ≡ false
      → IsIndexedBy label facts tree (space_by due) (with_ops (ops_by due) planned)
  by_due true is within = due_by within
  by_due false is within = still_by is

  -- behind the close's index the data partition ends with the tree of the whole history
  pub indexed_now : is_over (rules g) on st.space (close_ask g st at) ≡ false
      → IsIndexedBy label facts tree (admitted.st1 drive fixed next at p).space
      (admitted.planned1 drive fixed next at p planned can.runs.tied)
  indexed_now within = by_due (is_dp_due g st.space) refl within

  -- ---- the index partition

  -- nothing of an index goes there
  none_more : (due : Bool) → indexes_of (with_ops (ops_by due) planned Ip) ≡ indexes_of (planned Ip)
  none_more true = ap (λ (l : List Item). indexes_of l)
      (indexed_ip label planned indexed.open_ends (rules g) on st.space text)
  none_more false = ap (λ (l : List Item). indexes_of l) (append-nil (planned Ip))

  -- where the index partition was mounted with one index, what is planned there first has none
  pub alone_now : (c : Cartridge) → drive.held fixed.first ≡ Some c → HasOneIndex c
      → indexes_of (admitted.planned1 drive fixed next at p planned can.runs.tied Ip) ≡ []
  alone_now c told one = none_more (is_dp_due g st.space) ∙ can.runs.closes.alone read c told one
