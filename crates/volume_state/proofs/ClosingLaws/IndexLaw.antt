-- That the data partition ends with the tree of the whole history as long as nothing changes.
use Rattle.std.proofs.Common.{◌≡◌, ◌⊎◌, inl, inr, ℕ, ◌≤◌, Bool, true, false, true≢false, List, [], ◌∷◌, ◌++◌, length}
use Rattle.std.proofs.Common.{Option, Some, None, refl, sym, ap, subst, ◌∙◌, append-nil}
use Rattle.std.proofs.lemmas.List.{append_cancel_left}
use Rattle.tape_types.specs.declared.cartridges.Cartridge.{Cartridge}
use Rattle.tape_types.specs.declared.cartridges.Limits.{Limits}
use Rattle.tape_types.specs.declared.cartridges.Part.{Part}
use Rattle.tape_types.specs.declared.cartridges.Part.TheVariants.{Dp, Ip}
use Rattle.tape_types.specs.declared.moments.Moment.{Moment}
use Rattle.plain_tree.specs.History.{call_at}
use Rattle.plain_tree.specs.Tree.{Tree}
use Rattle.plain_tree.specs.declared.calls.Call.{Call}
use Rattle.plain_tree.specs.declared.calls.Call.TheVariants.{Sync}
use Rattle.plain_tree.specs.declared.calls.Fate.{Fate}
use Rattle.plain_tree.specs.declared.calls.Fate.TheVariants as fates
use Rattle.plain_tree.specs.declared.calls.Placed.{Placed}
use Rattle.session_script.specs.declared.logs.Event.{Event}
use Rattle.index_model.specs.declared.indexes.Index.{Index}
use Rattle.ltfs_label.specs.declared.Label.{Label}
use Rattle.tape_layout.specs.declared.ops.Op.{Op}
use Rattle.tape_layout.specs.Ops.{end_of}
use Rattle.cartridge_meaning.specs.Carried.{Carried, carried}
use Rattle.cartridge_meaning.specs.Meaning.{Reads}
use Rattle.cartridge_meaning.specs.Mounts.{Mounts}
use Rattle.cartridge_meaning.specs.Pointers.{indexes_of, last_block}
use Rattle.cartridge_meaning.specs.declared.labels.Labels.{Labels}
use Rattle.promises.specs.ImageLaws.Made.{part_items}
use Rattle.space_laws.specs.Space as space
use Rattle.space_laws.specs.Space.{Ask, Rules, Space, change, first_space, index, nothing, part_for, store}
use Rattle.space_laws.specs.Standing.{Given, Standing, admitted_at, after_done, after_placed, ask_of, is_on, rules}
use Rattle.space_laws.specs.Standing.{standing, sync_text}
use Rattle.space_laws.proofs.Steps.{are_still}
use Rattle.space_laws.proofs.TreeLaw.{are_replays}
use Rattle.promises.specs.ServingPromise.Ends.{begun}
use Rattle.promises.specs.ServingPromise.Mount.{facts_of}
use Rattle.promises.specs.ServingPromise.Served.{Fixed, View, tree_after}
use Rattle.promises.specs.ServingPromise.Steps.{on_after}
use Rattle.promises.specs.CrashLaws.Laws.{AddsOps}
use Rattle.promises.specs.CrashLaws.Safe.{Planned, given_by, space_now, standing_now, trees_of, volume_of}
use Rattle.promises.proofs.CrashLaws.Placing.{same_standing, standings_go_on}
use Rattle.volume_state.specs.PlanLaws.Planned.{Items, ends_in, mounted_items, with_ops}
use Rattle.volume_state.specs.ClosingLaws.Indexed.{EndsWithTree, IndexesStay, IsIndexed, IsOpen, SyncsAreDueOn, cartridge_on}
use Rattle.volume_state.specs.ClosingLaws.Ready.{GoesOnBy}
use Rattle.volume_state.proofs.ClosingLaws.Asked.{void_standing}
use Rattle.volume_state.proofs.ClosingLaws.Synced.{only_syncs}
use Rattle.volume_state.proofs.ClosingLaws.Mounted.{dp_indexes, mounted_alone, mounted_ends, mounted_open, reads_found}
use Rattle.volume_state.proofs.ClosingLaws.Newest.{IsTold, ends_with_told, last_new, some_new, told_by}
use Rattle.volume_state.proofs.ClosingLaws.Opened.{indexed_ip, indexed_open, stored_ip, stored_open, stored_same}

-- ---- what a placement asks

-- all stays, the tree changes, bytes are stored, or an index is put on the tape
data Moves (v : Rules) (on : Bool) (old : Space) (tree : Tree) (IsText : List ℕ → Type 0)
    : Tree → Space → List Op → Type 0 where
  stays : Moves v on old tree IsText tree old []
  changes : (now : Tree) → Moves v on old tree IsText now (space.after v on old change) []
  stores : (now : Tree) (wanted : Bool) (bytes : List ℕ)
      → Moves v on old tree IsText now (space.after v on old (store wanted bytes))
      (space.ops_of v on old (store wanted bytes))
  indexes : (text : List ℕ) → IsText text
      → Moves v on old tree IsText tree (space.after v on old (index text)) (space.ops_of v on old (index text))

-- the text is that of a sync that was placed
pub record IsSynced (g : Given) (st : Standing) (p : Placed) (text : List ℕ) : Type 0 where
  pub done : p.fate ≡ fates.Done
  pub call : call_at g.calls p ≡ Some Sync
  pub changed : st.space.changed ≡ true
  pub text_is : text ≡ sync_text g st p.at

module _ (g : Given) (on : Option ℕ) (history : List Placed) (p : Placed) where
  abbrev here : Bool
  here = is_on g.mounted on (length history)

  abbrev st : Standing
  st = standing g on history (length history)

  abbrev MovesTo : Tree → Space → List Op → Type 0
  MovesTo tree now admitted = Moves (rules g) here st.space st.tree (IsSynced g st p) tree now admitted

  by_ask : (call : Call) (ask : Ask) → ask_of g st call p.at ≡ ask → p.fate ≡ fates.Done → call_at g.calls p ≡ Some call
      → MovesTo (after_done g here st call p.at).tree (space.after (rules g) here st.space ask)
      (space.ops_of (rules g) here st.space ask)
  by_ask call nothing is done called =
      subst (λ (t : Tree). MovesTo t st.space [])
      (sym (ap (λ (s : Standing). s.tree) (are_still.nothing_asked g here st call p.at is))) stays
  by_ask call change is done called = changes (after_done g here st call p.at).tree
  by_ask call (store wanted bytes) is done called = stores (after_done g here st call p.at).tree wanted bytes
  by_ask call (index text) is done called =
      let its = only_syncs g st call p.at text is in
      let same : (after_done g here st call p.at).tree ≡ st.tree =
      ap (λ (c : Call). (after_done g here st c p.at).tree) its.0 in
      subst (λ (t : Tree). MovesTo t (space.after (rules g) here st.space (index text))
      (space.ops_of (rules g) here st.space (index text)))
      (sym same)
      (indexes text (record {
        done = done;
        call = called ∙ ap (λ (c : Call). Some c) its.0;
        changed = its.1;
        text_is = its.2;
      }))

  -- whatever is said of a tree, a space and ops
  by_fate : (P : Tree → Space → List Op → Type 0) → P st.tree st.space []
      → ((call : Call) → p.fate ≡ fates.Done → call_at g.calls p ≡ Some call → P (after_done g here st call p.at).tree
      (after_done g here st call p.at).space (space.ops_of (rules g) here st.space (ask_of g st call p.at)))
      → (fate : Fate) (call : Option Call) → p.fate ≡ fate → call_at g.calls p ≡ call
      → P (after_placed g here st p).tree (after_placed g here st p).space (admitted_at g on history (length history) p)
  by_fate P none asks fates.Void call f e = rw f none
  by_fate P none asks fates.Done None f e = rw (f, e) none
  by_fate P none asks fates.Done (Some call) f e = rw (f, e) (asks call f e)

  moves : MovesTo (after_placed g here st p).tree (after_placed g here st p).space
      (admitted_at g on history (length history) p)
  moves = by_fate MovesTo stays (λ call f e. by_ask call (ask_of g st call p.at) refl f e) p.fate
      (call_at g.calls p) refl refl

-- ---- a volume by the values that count

record IsAt (label : Label) (facts : Carried) (done : Bool) (tree : Tree) (s : Space) (planned : Items) : Type 0 where
  open_ends : IsOpen label planned
  last : s.last_dp ≡ last_block (indexes_of (planned Dp))
  told : s.changed ≡ false → (done ≡ true) ⊎ (s.admitted ≡ true) → EndsWithTree label facts tree s planned

with_none : (planned : Items) → with_ops [] planned ≡ planned
with_none planned i part = append-nil (planned part) i

module _ (label : Label) (facts : Carried) (done : Bool) (tree : Tree) (s : Space) (planned : Items) (v : Rules)
    (on : Bool) (IsText : List ℕ → Type 0) (size : 1 ≤ v.block_size) (ends : s.ends ≡ ends_in planned)
    (due : (text : List ℕ) → IsText text → IsTold label facts tree (cartridge_on planned) s text)
    (old : IsAt label facts done tree s planned) where
  goes_on : (now : Tree) (left : Space) (asked : List Op) → Moves v on s tree IsText now left asked
      → IsAt label facts done now left (with_ops asked planned)
  goes_on now left asked stays = subst (λ (items : Items). IsAt label facts done tree s items)
      (sym (with_none planned)) old
  goes_on now left asked (changes tree_now) =
      subst (λ (items : Items). IsAt label facts done tree_now (space.after v on s change) items)
      (sym (with_none planned))
      (record { open_ends = old.open_ends; last = old.last; told = λ same has. absurd (true≢false same) })
  goes_on now left asked (stores tree_now wanted bytes) =
      let part = part_for v on s wanted bytes in
      record {
        open_ends = stored_open label planned old.open_ends part v.block_size (end_of part s.ends) bytes;
        last = old.last
            ∙ ap last_block
            (sym (stored_same label planned old.open_ends part v.block_size (end_of part s.ends) bytes));
        told = λ same has. absurd (true≢false same);
      }
  goes_on now left asked (indexes text is) =
      let its = due text is in
      record {
        open_ends = indexed_open label planned old.open_ends v on s text
            (some_new label facts tree planned s v on text old.open_ends ends old.last size its);
        last = last_new label facts tree planned s v on text old.open_ends ends old.last size its;
        told = λ same has. ends_with_told label facts tree planned s v on text old.open_ends ends old.last size its;
      }

-- no index comes to the index partition
none_put : (label : Label) (planned : Items) (open_ends : IsOpen label planned) (v : Rules) (on : Bool) (s : Space)
    (tree : Tree) (IsText : List ℕ → Type 0) (now : Tree) (left : Space) (asked : List Op)
    → Moves v on s tree IsText now left asked
    → indexes_of (with_ops asked planned Ip) ≡ indexes_of (planned Ip)
none_put label planned open_ends v on s tree IsText now left asked stays = ap indexes_of (append-nil (planned Ip))
none_put label planned open_ends v on s tree IsText now left asked (changes tree_now) =
    ap indexes_of (append-nil (planned Ip))
none_put label planned open_ends v on s tree IsText now left asked (stores tree_now wanted bytes) =
    let part = part_for v on s wanted bytes in
    stored_ip label planned open_ends part v.block_size (end_of part s.ends) bytes
none_put label planned open_ends v on s tree IsText now left asked (indexes text is) =
    ap indexes_of (indexed_ip label planned open_ends v on s text)

-- ---- views

-- with these items planned
abbrev known_as : Labels → Index → Items → Planned
known_as labels first planned = record {
  labels = labels;
  made = record {
    ip = planned Ip;
    dp = planned Dp;
    last = record { index = first; place = 0 };
    base = record { sure = 0; indexes = []; floor = record { index = first; place = 0 }; ahead = None };
  };
}

items_known : (labels : Labels) (first : Index) (planned : Items) (part : Part)
    → part_items part (known_as labels first planned).made ≡ planned part
items_known labels first planned Ip = refl
items_known labels first planned Dp = refl

module _ {D : Type 0} where
  -- a volume with what stands in it
  abbrev IsAtIn : Items → Fixed D → Standing → Type 0
  IsAtIn planned f st = IsAt f.mounted.label (carried f.mounted.index) f.mounted.dp_done st.tree st.space planned

  to_view : (planned : Items) (limits : Limits) (v : View D) → IsAtIn planned v.fixed (standing_now limits v)
      → IsIndexed planned limits v
  to_view planned limits v h = record {
    open_ends = h.open_ends;
    last = h.last;
    told = λ same has. subst (λ (t : Tree).
        EndsWithTree v.fixed.mounted.label (carried v.fixed.mounted.index) t (space_now limits v) planned)
        (are_replays (given_by limits v) v.on v.history (length v.history)) (h.told same has);
  }

  of_view : (planned : Items) (limits : Limits) (v : View D) → IsIndexed planned limits v
      → IsAtIn planned v.fixed (standing_now limits v)
  of_view planned limits v h = record {
    open_ends = h.open_ends;
    last = h.last;
    told = λ same has. subst (λ (t : Tree).
        EndsWithTree v.fixed.mounted.label (carried v.fixed.mounted.index) t (space_now limits v) planned)
        (sym (are_replays (given_by limits v) v.on v.history (length v.history))) (h.told same has);
  }

  -- ---- the start

  begins_on : (limits : Limits) (fixed : Fixed D) (next : Option Moment) (c : Cartridge) → Mounts c fixed.mounted
      → Reads c (carried fixed.mounted.index) fixed.tree fixed.mounted.newest
      → IsIndexed (mounted_items c) limits (begun fixed next)
  begins_on limits fixed next c mounts reads =
      let f = mounts.found in
      record {
        open_ends = mounted_open c f fixed.mounted.label mounts.label;
        last = mounts.last_dp ∙ ap last_block (sym (dp_indexes c f));
        told = λ same has. by has;
      }
    where
      by : (fixed.mounted.dp_done ≡ true) ⊎ (false ≡ true)
          → EndsWithTree fixed.mounted.label (carried fixed.mounted.index) fixed.tree
          (first_space (facts_of fixed.mounted))
          (mounted_items c)
      by (inl done) =
          let f = mounts.found in
          subst (λ (x : Index). EndsWithTree fixed.mounted.label (carried x) fixed.tree
          (first_space (facts_of fixed.mounted))
          (mounted_items c)) (sym mounts.index)
          (mounted_ends c f (mounts.dp_done.0 done) fixed.mounted.label fixed.tree
          (first_space (facts_of fixed.mounted))
          mounts.label (sym mounts.newest) (reads_found c fixed.mounted mounts fixed.tree fixed.mounted.newest reads))
      by (inr wrong) = absurd (true≢false (sym wrong))

  begins : (planned : Items) (limits : Limits) (fixed : Fixed D) (next : Option Moment) (c : Cartridge)
      → Mounts c fixed.mounted → Reads c (carried fixed.mounted.index) fixed.tree fixed.mounted.newest
      → ((part : Part) → planned part ≡ mounted_items c part) → IsIndexed planned limits (begun fixed next)
  begins planned limits fixed next c mounts reads same =
      let all : mounted_items c ≡ planned = λ i part. (sym (same part)) i in
      subst (λ (items : Items). IsIndexed items limits (begun fixed next)) all
      (begins_on limits fixed next c mounts reads)

  -- ---- submissions

  module _ (planned : Items) (limits : Limits) (old new : View D) (was : IsIndexed planned limits old)
      (fixed : new.fixed ≡ old.fixed) where
    abbrev g : Given
    g = given_by limits old

    -- with this standing, and this planned, it is so
    to_new : (items : Items) (now : Standing) → standing_now limits new ≡ now → IsAtIn items old.fixed now
        → IsIndexed items limits new
    to_new items now same h = to_view items limits new
        (subst (λ (f : Fixed D). IsAtIn items f (standing_now limits new)) (sym fixed)
        (subst (λ (s : Standing). IsAtIn items old.fixed s) (sym same) h))

    same_indexed : standing_now limits new ≡ standing_now limits old → IsIndexed planned limits new
    same_indexed same = to_new planned (standing_now limits old) same (of_view planned limits old was)

    module _ (placed : Placed) (history : new.history ≡ old.history ++ placed ∷ [])
        (dues : SyncsAreDueOn planned limits old new) where
      -- a text that tells this tree of a volume with this label
      abbrev Tells : Label → Tree → List ℕ → Type 0
      Tells label tree text =
          IsTold label (carried old.fixed.mounted.index) tree (cartridge_on planned) (space_now limits old) text

      -- the text of a sync tells the tree that stands when it is placed
      pub told_synced : (text : List ℕ) → IsSynced g (standing_now limits old) placed text
          → Tells old.fixed.mounted.label (standing_now limits old).tree text
      told_synced text is =
          let labels = was.open_ends.labels in
          let p = known_as labels old.fixed.mounted.index planned in
          let due = dues p was.open_ends.label_is (items_known labels old.fixed.mounted.index planned) placed history
          is.done is.call is.changed in
          let at_sync : List ℕ = sync_text g (standing_now limits old) placed.at in
          let tree : Tree = tree_after old (length old.history) in
          let its : Tells labels.ip tree at_sync =
          told_by (volume_of labels old) (trees_of old) p.made (space_now limits old) at_sync due.0 due.1 in
          subst (λ (w : List ℕ). Tells old.fixed.mounted.label (standing_now limits old).tree w) (sym is.text_is)
          (subst (λ (t : Tree). Tells old.fixed.mounted.label t at_sync)
          (sym (are_replays g old.on old.history (length old.history)))
          (subst (λ (l : Label). Tells l tree at_sync) (sym was.open_ends.label_is) its))

      placed_indexed : new.on ≡ old.on → (space_now limits old).ends ≡ ends_in planned
          → 1 ≤ old.fixed.mounted.label.block
          → IsIndexed (with_ops (admitted_at g old.on old.history (length old.history) placed) planned) limits new
      placed_indexed on ends size =
          let st = standing_now limits old in
          let here : Bool = is_on g.mounted old.on (length old.history) in
          to_new (with_ops (admitted_at g old.on old.history (length old.history) placed) planned)
          (after_placed g here st placed) (standings_go_on.placed limits old new placed fixed on history)
          (goes_on old.fixed.mounted.label (carried old.fixed.mounted.index) old.fixed.mounted.dp_done st.tree
          st.space planned (rules g) here (IsSynced g st placed) size ends told_synced (of_view planned limits old was)
          (after_placed g here st placed).tree (after_placed g here st placed).space
          (admitted_at g old.on old.history (length old.history) placed) (moves g old.on old.history placed))

  same_asked : (planned : Items) (limits : Limits) (new : View D) (old_ops asked admitted : List Op)
      → new.ops ≡ old_ops ++ asked → new.ops ≡ old_ops ++ admitted → IsIndexed (with_ops admitted planned) limits new
      → IsIndexed (with_ops asked planned) limits new
  same_asked planned limits new old_ops asked admitted are adds h =
      subst (λ (l : List Op). IsIndexed (with_ops l planned) limits new)
      (append_cancel_left old_ops admitted asked (sym adds ∙ are)) h

  submitted : (planned : Items) (limits : Limits) (old new : View D) (asked : List Op)
      → IsIndexed planned limits old → new.ops ≡ old.ops ++ asked → AddsOps limits old new → new.fixed ≡ old.fixed
      → new.on ≡ old.on → GoesOnBy old new → (space_now limits old).ends ≡ ends_in planned
      → 1 ≤ old.fixed.mounted.label.block → SyncsAreDueOn planned limits old new
      → IsIndexed (with_ops asked planned) limits new
  submitted planned limits old new asked was are adds fixed on (inl history) ends size dues =
      same_asked planned limits new old.ops asked [] are (adds.unplaced history ∙ sym (append-nil old.ops))
      (subst (λ (items : Items). IsIndexed items limits new) (sym (with_none planned))
      (same_indexed planned limits old new was fixed (same_standing limits old new fixed on history)))
  submitted planned limits old new asked was are adds fixed on (inr (placed, history)) ends size dues =
      same_asked planned limits new old.ops asked
      (admitted_at (given_by limits old) old.on old.history (length old.history) placed) are
      (adds.placed placed history)
      (placed_indexed planned limits old new was fixed placed history dues on ends size)

  none_more : (planned : Items) (limits : Limits) (old new : View D) (asked : List Op)
      → IsIndexed planned limits old → new.ops ≡ old.ops ++ asked → AddsOps limits old new → GoesOnBy old new
      → indexes_of (with_ops asked planned Ip) ≡ indexes_of (planned Ip)
  none_more planned limits old new asked was are adds (inl history) =
      let none : [] ≡ asked =
      append_cancel_left old.ops [] asked (append-nil old.ops ∙ sym (adds.unplaced history) ∙ are) in
      ap (λ (l : List Op). indexes_of (with_ops l planned Ip)) (sym none) ∙ ap indexes_of (append-nil (planned Ip))
  none_more planned limits old new asked was are adds (inr (placed, history)) =
      let g = given_by limits old in
      let st = standing_now limits old in
      let here : Bool = is_on g.mounted old.on (length old.history) in
      let admitted : List Op = admitted_at g old.on old.history (length old.history) placed in
      let same : admitted ≡ asked =
      append_cancel_left old.ops admitted asked (sym (adds.placed placed history) ∙ are) in
      ap (λ (l : List Op). indexes_of (with_ops l planned Ip)) (sym same)
      ∙ none_put old.fixed.mounted.label planned was.open_ends (rules g) here st.space st.tree (IsSynced g st placed)
      (after_placed g here st placed).tree (after_placed g here st placed).space admitted
      (moves g old.on old.history placed)

  -- ---- turns

  voided : (planned : Items) (limits : Limits) (old new : View D) (added : List Event) (placed : Placed)
      → IsIndexed planned limits old → new.fixed ≡ old.fixed → new.history ≡ old.history ++ placed ∷ []
      → placed.fate ≡ fates.Void → new.on ≡ on_after old added → IsIndexed planned limits new
  voided planned limits old new added placed was fixed history fate on =
      same_indexed planned limits old new was fixed (void_standing limits old new added placed fixed history fate on)

-- the last index of the data partition tells the tree of the history while nothing changes
pub indexes_stay : {D : Type 0} → IndexesStay D
indexes_stay = record {
  begins = begins;
  submitted = submitted;
  turned = λ planned limits old new added was fixed history on.
      same_indexed planned limits old new was fixed (standings_go_on.stepped limits old new added fixed history on);
  voided = voided;
  alone = λ planned c m mounts one is. ap indexes_of is ∙ mounted_alone c mounts.found one;
  none_more = none_more;
}
