-- What the calls on the tree leave, as steps.
use Rattle.std.proofs.Common.{◌≡◌, ◌≢◌, ℕ, ◌+◌, ◌<◌, ◌≤◌, true, false, cond, eqb, Option, Some, None, sym, ap, ◌∙◌, refl, subst, arith, ⊎_elim}
use Rattle.std.specs.FinMap as fin
use Rattle.std.specs.Option.{option_map}
use Rattle.std.proofs.lemmas.Bool.Decides.{nat_tests}
use Rattle.tape_types.specs.declared.moments.Moment.{Moment}
use Rattle.plain_tree.specs.Calls.{after, with_rename, without}
use Rattle.plain_tree.specs.Paths.{Path, moved_path, parent_of, same_path}
use Rattle.plain_tree.specs.Refusals.{refusal_of}
use Rattle.plain_tree.specs.Tree as plain
use Rattle.plain_tree.specs.Tree.{change_noted, changed_at, touch}
use Rattle.plain_tree.specs.Valid.{mark_at, mark_of, is_dir}
use Rattle.plain_tree.specs.declared.calls.Call.{Call}
use Rattle.plain_tree.specs.declared.calls.Call.TheVariants as asks
use Rattle.extent_map.specs.Cells.{Tape}
use Rattle.extent_map.specs.Laid.{Laid, Room}
use Rattle.file_tree.specs.declared.nodes.Node.{Node}
use Rattle.file_tree.specs.declared.nodes.HeldKind.{HeldKind}
use Rattle.file_tree.specs.declared.nodes.HeldKind.TheVariants as kinds
use Rattle.file_tree.specs.Blocks.{AddsNoBlock}
use Rattle.file_tree.specs.Edits.{AllLie, IsAfter, KeepsOutline, KeepsVolume, NumbersCome, OthersLie, outline}
use Rattle.file_tree.specs.Tree.{FileTree, HasLaid, StandsAt, number_at, plain_node_of, plain_nodes, plain_of, whole}
use Rattle.file_tree.specs.Valid.{IsGood}
use Rattle.file_tree.proofs.BlockLemmas.{one_laid}
use Rattle.file_tree.proofs.OutlineLemmas.{outlines_keep_files}
use Rattle.file_tree.proofs.PathLemmas.{node_at, number_is, some_same}
use Rattle.file_tree.proofs.TreeLemmas.{after_free}
use Rattle.space_laws.specs.Files.{Files}
use Rattle.space_laws.specs.Standing.{uid_at}
use Rattle.held_volume.specs.Stocks.{LieAs, no_bytes}
use Rattle.held_volume.specs.Steps.{IsSameTree, IsStep, file_changed}
use Rattle.held_volume.proofs.Lies.{equal_or_not, others_as, path_of, plain_there, uid_kept}
use Rattle.held_volume.proofs.Uids.{left_mark, moved_uid}

-- ---- a node that is gone

module _ (before next : FileTree) (path : Path) (number : ℕ) (at : Moment) (good : IsGood next) (stands : StandsAt before path number)
    (free : refusal_of (plain_of whole before) (asks.Remove path) ≡ None) (done : IsAfter (asks.Remove path) at before next)
    (gone : (p : Path) → StandsAt next p number → ⊥) (numbers : (p : Path) (n : ℕ) → n ≢ number → StandsAt before p n → StandsAt next p n)
    (others : OthersLie number before next) (adds : AddsNoBlock before next) (volume : KeepsVolume before next) where
  removed_now : plain_of whole next ≡ without (plain_of whole before) path at
  removed_now = done whole ∙ after_free (plain_of whole before) (asks.Remove path) at free

  removed_uids : (p : Path) (node now : Node) → fin.get before.nodes p ≡ Some node → node.number ≢ number → fin.get next.nodes p ≡ Some now → now.uid ≡ node.uid
  removed_uids p node now there apart here =
      uid_kept whole before next p p node now
      (ap (λ (t : plain.Tree). mark_at t.nodes p) removed_now ∙ left_mark (plain_of whole before) path at p
      (λ e. apart (some_same node.number number (sym (number_is before.nodes p node there) ∙ ap (number_at before.nodes) e ∙ stands))))
      there here

  removed_as : (files : Files) → LieAs files before → LieAs files next
  removed_as files held = record {
    lies = λ p node room there file. ⊎_elim
        (λ (e : node.number ≡ number). absurd (gone p (number_is next.nodes p node there ∙ ap (λ n. Some n) e)))
        (λ apart. others_as before next number (λ p. p) good others numbers removed_uids files held p node room there file apart)
        (equal_or_not node.number number);
    fresh = λ uid more. held.fresh uid (omega (arith, more, ap (λ (t : plain.Tree). t.highest) removed_now)) ∙ ap no_bytes (sym volume.block_size);
  }

  -- a removal is a step of the tree
  pub removed_step : IsStep (asks.Remove path) at before next
  removed_step = record { plain = done; volume = volume; blocks = adds; lies = λ files held. removed_as files held }

-- ---- all files lie as they did

module _ (before next : FileTree) (to : Path → Path) (good : IsGood next) (lie : AllLie before next) (numbers : NumbersCome to before next)
    (uids : (path : Path) (node now : Node) → fin.get before.nodes path ≡ Some node → fin.get next.nodes (to path) ≡ Some now → now.uid ≡ node.uid)
    (highest : next.highest ≡ before.highest) (volume : KeepsVolume before next) where
  pub all_as : (files : Files) → LieAs files before → LieAs files next
  all_as files held = record {
    lies = λ p node room there file. others_as before next (node.number + 1) to good (λ n _. lie n) (λ q n _ is. numbers q n is)
        (λ q old now was _ is. uids q old now was is) files held p node room there file (λ e. omega (arith, e));
    fresh = λ uid more. held.fresh uid (omega (arith, more, highest)) ∙ ap no_bytes (sym volume.block_size);
  }

-- ---- a move

module _ (before next : FileTree) (from to : Path) (at : Moment) (good : IsGood before) (good_next : IsGood next)
    (free : refusal_of (plain_of whole before) (asks.Rename from to) ≡ None) (apart : same_path from to ≡ false)
    (done : IsAfter (asks.Rename from to) at before next) (numbers : NumbersCome (moved_path from to) before next)
    (lie : AllLie before next) (adds : AddsNoBlock before next) (volume : KeepsVolume before next) where
  renamed_now : plain_of whole next ≡ with_rename (plain_of whole before) from to at
  renamed_now = done whole ∙ after_free (plain_of whole before) (asks.Rename from to) at free

  renamed_highest : next.highest ≡ before.highest
  renamed_highest = ap (λ (t : plain.Tree). t.highest) renamed_now
      ∙ ap (λ b. (cond b (plain_of whole before) (record (plain_of whole before) {
        nodes = touch at (parent_of to) (touch at (parent_of from) (changed_at (change_noted at) to (plain.moved from to (plain_of whole before).nodes)));
      })).highest) apart

  renamed_uids : (path : Path) (node now : Node) → fin.get before.nodes path ≡ Some node → fin.get next.nodes (moved_path from to path) ≡ Some now → now.uid ≡ node.uid
  renamed_uids path node now there here =
      moved_uid (plain_of whole before) from to at (good.valid whole) free apart path (plain_node_of whole node) (plain_node_of whole now)
      (plain_there whole before path node there)
      (ap (λ (t : plain.Tree). fin.get t.nodes (moved_path from to path)) (sym (done whole)) ∙ plain_there whole next (moved_path from to path) now here)

  -- a rename is a step of the tree
  pub renamed_step : IsStep (asks.Rename from to) at before next
  renamed_step = record {
    plain = done;
    volume = volume;
    blocks = adds;
    lies = λ files held. all_as before next (moved_path from to) good_next lie numbers renamed_uids renamed_highest volume files held;
  }

-- ---- more memory

-- the same tree, of which the numbers and the files are as they were
pub roomier : (before next : FileTree) → IsGood next → ((tape : Tape) → plain_of tape next ≡ plain_of tape before) → NumbersCome (λ p. p) before next → AllLie before next
    → AddsNoBlock before next → KeepsVolume before next → IsSameTree before next
roomier before next good plain_is numbers lie adds volume = record {
  plain = plain_is;
  volume = volume;
  blocks = adds;
  lies = all_as before next (λ p. p) good lie numbers
      (λ path node now there here. uid_kept whole before next path path node now (ap (λ (t : plain.Tree). mark_at t.nodes path) (plain_is whole)) there here)
      (ap (λ (t : plain.Tree). t.highest) (plain_is whole)) volume;
}

-- the same nodes under the same lock
pub same_nodes : (before next : FileTree) → next.nodes ≡ before.nodes → next.highest ≡ before.highest → next.lock ≡ before.lock → KeepsVolume before next → IsSameTree before next
same_nodes before next nodes highest state volume = record {
  plain = λ tape. ap (λ h. record { highest = h; lock = next.lock; nodes = plain_nodes tape next.nodes }) highest
      ∙ ap (λ l. record { highest = before.highest; lock = l; nodes = plain_nodes tape next.nodes }) state
      ∙ ap (λ m. record { highest = before.highest; lock = before.lock; nodes = plain_nodes tape m }) nodes;
  volume = volume;
  blocks = λ part pos h. record { number = h.number; laid = h.laid; file = subst (λ m. HasLaid m h.number h.laid) nodes h.file; block = h.block };
  lies = λ files held. record {
    lies = λ path node room there file. held.lies path node room (ap (λ m. fin.get m path) (sym nodes) ∙ there) file;
    fresh = λ uid more. held.fresh uid (omega (arith, more, highest)) ∙ ap no_bytes (sym volume.block_size);
  };
}

-- a tree is the same as itself
pub unchanged : (t : FileTree) → IsSameTree t t
unchanged t = same_nodes t t refl refl refl (record { name = refl; block_size = refl })

-- a step from a tree that is the same is a step from the other
pub step_from : (old before next : FileTree) (call : Call) (at : Moment) → IsSameTree old before → IsStep call at before next → IsStep call at old next
step_from old before next call at same step = record {
  plain = λ tape. step.plain tape ∙ ap (λ t. after t call at) (same.plain tape);
  volume = record { name = step.volume.name ∙ same.volume.name; block_size = step.volume.block_size ∙ same.volume.block_size };
  blocks = λ part pos h. same.blocks part pos (step.blocks part pos h);
  lies = λ files held. step.lies files (same.lies files held);
}

-- ---- the outline stays

module _ (before next : FileTree) (keeps : KeepsOutline before next) where
  outlined_as : (files : Files) → LieAs files before → LieAs files next
  outlined_as files held = record {
    lies = λ path node room there file. by path node room there file (fin.get before.nodes path) refl;
    fresh = λ uid more. held.fresh uid (omega (arith, more, keeps.highest)) ∙ ap no_bytes (sym keeps.volume.block_size);
  }
    where
      by : (path : Path) (node : Node) (room : Room) → fin.get next.nodes path ≡ Some node → node.kind ≡ kinds.File room → (o : Option Node) → fin.get before.nodes path ≡ o → files node.uid ≡ room.laid
      by path node room there file None e =
          let wrong : None ≡ Some (outline node) = sym (ap (option_map outline) e) ∙ sym (keeps.nodes path) ∙ ap (option_map outline) there in absurd cc
      by path node room there file (Some old) e =
          let same : outline old ≡ outline node = some_same (outline old) (outline node) (sym (ap (option_map outline) e) ∙ sym (keeps.nodes path) ∙ ap (option_map outline) there) in
          ap (λ (o : ℕ × ℕ × HeldKind). files o.1) (sym same) ∙ held.lies path old room e (ap (λ (o : ℕ × ℕ × HeldKind). o.2) same ∙ file)

  -- a call that leaves the outline as it was changes no extent
  pub outline_step : (call : Call) (at : Moment) → IsAfter call at before next → IsStep call at before next
  outline_step call at done = record { plain = done; volume = keeps.volume; blocks = outlines_keep_files.blocks before next keeps; lies = outlined_as }

  -- and where the plain tree is the same too, the tree is
  pub outline_same : ((tape : Tape) → plain_of tape next ≡ plain_of tape before) → IsSameTree before next
  outline_same same = record { plain = same; volume = keeps.volume; blocks = outlines_keep_files.blocks before next keeps; lies = outlined_as }

-- ---- one file lies otherwise

module _ (before next : FileTree) (path : Path) (file : ℕ) (laid : Laid) (change : Laid → Laid) (good : IsGood before) (good_next : IsGood next)
    (stands : StandsAt before path file) (was : HasLaid before.nodes file laid) (now : HasLaid next.nodes file (change laid))
    (marks : (tape : Tape) (q : Path) → mark_at (plain_of tape next).nodes q ≡ mark_at (plain_of tape before).nodes q)
    (numbers : NumbersCome (λ p. p) before next) (others : OthersLie file before next)
    (highest : next.highest ≡ before.highest) (volume : KeepsVolume before next) where
  old : (n : Node) × (fin.get before.nodes path ≡ Some n) × (n.number ≡ file)
  old = node_at before.nodes path file stands

  uid_is : (tape : Tape) → uid_at (plain_of tape before).nodes path ≡ old.0.uid
  uid_is tape = let there = plain_there tape before path old.0 old.1 in rw there refl

  this_path : (q : Path) (node : Node) → fin.get next.nodes q ≡ Some node → node.number ≡ file → path ≡ q
  this_path q node there is = path_of next path q node file good_next (numbers path file stands) there is

  uids : (q : Path) (node after : Node) → fin.get before.nodes q ≡ Some node → node.number ≢ file → fin.get next.nodes q ≡ Some after → after.uid ≡ node.uid
  uids q node after there apart here = uid_kept whole before next q q node after (marks whole q) there here

  -- the files before, at the uid of the file
  lay : (files : Files) → LieAs files before → files old.0.uid ≡ laid
  lay files held =
      let same : was.path ≡ path = sym (path_of before path was.path was.node file good stands was.there was.is) in
      let node_is : was.node ≡ old.0 = some_same was.node old.0 (sym was.there ∙ ap (fin.get before.nodes) same ∙ old.1) in
      ap files (ap (λ (n : Node). n.uid) (sym node_is)) ∙ held.lies was.path was.node was.room was.there was.file ∙ was.lies

  module _ (tape : Tape) (files : Files) (held : LieAs files before) where
    this_one : (q : Path) (node : Node) (room : Room) → fin.get next.nodes q ≡ Some node → node.kind ≡ kinds.File room → node.number ≡ file → file_changed before path change tape files node.uid ≡ room.laid
    this_one q node room there is_file is =
        let path_is : path ≡ q = this_path q node there is in
        let uid : node.uid ≡ old.0.uid = uid_kept whole before next path path old.0 node (marks whole path) old.1 (ap (fin.get next.nodes) path_is ∙ there) in
        let test : eqb node.uid (uid_at (plain_of tape before).nodes path) ≡ true = ap (λ u. eqb node.uid u) (uid_is tape ∙ sym uid) ∙ same_number node.uid in
        let has : HasLaid next.nodes file room.laid = record { path = q; node = node; there = there; is = is; room = room; file = is_file; lies = refl } in
        ap (λ b. cond b (change (files node.uid)) (files node.uid)) test ∙ ap (λ u. change (files u)) uid ∙ ap change (lay files held) ∙ one_laid next.nodes file (change laid) room.laid good_next.differ now has
      where
        same_number : (n : ℕ) → eqb n n ≡ true
        same_number n = grind (arith, nat_tests)

    other_one : (q : Path) (node : Node) (room : Room) → fin.get next.nodes q ≡ Some node → node.kind ≡ kinds.File room → node.number ≢ file → file_changed before path change tape files node.uid ≡ room.laid
    other_one q node room there is_file apart =
        ap (λ b. cond b (change (files node.uid)) (files node.uid)) (differs node.uid (uid_at (plain_of tape before).nodes path) (λ e. apart (is_this e)))
        ∙ others_as before next file (λ p. p) good_next others (λ p n _ is. numbers p n is) uids files held q node room there is_file apart
      where
        differs : (a b : ℕ) → a ≢ b → eqb a b ≡ false
        differs a b h = grind (arith, nat_tests, h)

        is_this : node.uid ≡ uid_at (plain_of tape before).nodes path → node.number ≡ file
        is_this e =
            let here : mark_at (plain_of tape next).nodes path ≡ Some (old.0.uid, is_dir (plain_node_of tape old.0).kind) = marks tape path ∙ ap mark_of (plain_there tape before path old.0 old.1) in
            let there_mark : mark_at (plain_of tape next).nodes q ≡ Some (old.0.uid, is_dir (plain_node_of tape node).kind) =
            ap mark_of (plain_there tape next q node there) ∙ ap (λ u. Some (u, is_dir (plain_node_of tape node).kind)) (e ∙ uid_is tape) in
            let path_is : q ≡ path = (good_next.valid tape).distinct q path old.0.uid _ _ there_mark here in
            some_same node.number file (sym (number_is next.nodes q node there) ∙ ap (number_at next.nodes) path_is ∙ numbers path file stands)

    -- the files lie as they did, but for the one that changed
    pub changed_as : LieAs (file_changed before path change tape files) next
    changed_as = record {
      lies = λ q node room there is_file. ⊎_elim
          (λ (e : node.number ≡ file). this_one q node room there is_file e)
          (λ apart. other_one q node room there is_file apart)
          (equal_or_not node.number file);
      fresh = λ uid more. ap (λ b. cond b (change (files uid)) (files uid)) (unlike_old uid more) ∙ held.fresh uid (omega (arith, more, highest)) ∙ ap no_bytes (sym volume.block_size);
    }
      where
        known : old.0.uid ≤ before.highest
        known = ((good.valid tape).given path old.0.uid (is_dir (plain_node_of tape old.0).kind) (ap mark_of (plain_there tape before path old.0 old.1))).1

        unlike_old : (uid : ℕ) → next.highest < uid → eqb uid (uid_at (plain_of tape before).nodes path) ≡ false
        unlike_old uid more =
            let is = uid_is tape in
            grind (arith, nat_tests, known, more, highest, is)
