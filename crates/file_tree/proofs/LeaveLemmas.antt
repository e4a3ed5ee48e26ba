-- What removals and renames leave of a tree.
use Rattle.std.proofs.Common.{◌≡◌, ◌≢◌, ℕ, true, false, cond, List, [], ◌∷◌, ◌++◌, length, Some, None, sym, ap, ◌∙◌, subst, arith, ⊎_elim}
use Rattle.std.specs.Option.{option_map}
use Rattle.std.specs.FinMap as fin
use Rattle.std.proofs.lemmas.List.{append-nil}
use Rattle.tape_types.specs.declared.moments.Moment.{Moment}
use Rattle.plain_tree.specs.declared.calls.Call.TheVariants as asks
use Rattle.plain_tree.specs.Paths.{same_path, parent_of, is_at_or_below, moved_path}
use Rattle.plain_tree.specs.Calls.{without, with_rename}
use Rattle.plain_tree.specs.Tree as plain
use Rattle.plain_tree.specs.Seen.{CanLeave, CanMove}
use Rattle.plain_tree.proofs.Validity.{can_leave, can_move, first_none, free_within}
use Rattle.plain_tree.proofs.MoveLemmas.{not_same, same_is, not_true}
use Rattle.plain_tree.proofs.SeenLemmas.{unlike}
use Rattle.std.specs.Str.{IsUtf8}
use Rattle.index_model.specs.Names.{IsNodeName}
use Rattle.plain_tree.specs.Refusals.{bad_name}
use Rattle.extent_map.specs.Laid.{Laid}
use Rattle.extent_map.specs.Cells.{Tape}
use Rattle.file_tree.specs.declared.nodes.Node.{Node}
use Rattle.file_tree.specs.Tree.{Nodes, FileTree, number_at, moved, StandsAt, HasLaid, plain_node_of, plain_nodes, plain_of, whole}
use Rattle.file_tree.specs.Changes.{IsChangedAt, touched, change_noted}
use Rattle.file_tree.specs.Places.{IsThere, CanTake, CanShift}
use Rattle.file_tree.specs.Valid.{AreFilesOf, NumbersDiffer, AreFit, IsGood}
use Rattle.file_tree.specs.Blocks.{AddsNoBlock}
use Rattle.file_tree.specs.Edits.{CanUnlink, CanMoveTo, IsAfter, NumbersCome, OthersLie, AllLie}
use Rattle.name_tries.proofs.ItemLemmas.{some_same}
use Rattle.file_tree.proofs.PathLemmas.{by_last, longer, gone_other, number_is, node_at}
use Rattle.file_tree.proofs.PlainLemmas.{plain_remove, plain_moved, none_plain}
use Rattle.file_tree.proofs.TreeLemmas.{after_free, free_too, same_tree, good_after}
use Rattle.file_tree.proofs.EditLemmas.{move_files, move_back, move_differ, node_moves, number_moves, parent_ends, change_numbers, change_plain, change_lies_both, change_differ, change_files_same, remove_files, remove_back, remove_differ}
use Rattle.file_tree.proofs.BlockLemmas.{all_lie_adds}
use Rattle.file_tree.proofs.FitLemmas.{fit_name, not_bad, fit_same, fit_remove, fit_move}
use Rattle.file_tree.proofs.UpdateLemmas.{stay, come, shorter_not, above_one}

not_read_remove : (p : List (List ℕ)) (path : List (List ℕ)) (offset count : ℕ) → asks.Remove p ≡ asks.Read path offset count → ⊥
not_read_remove p path offset count e = cc

not_read_rename : (p r : List (List ℕ)) (path : List (List ℕ)) (offset count : ℕ) → asks.Rename p r ≡ asks.Read path offset count → ⊥
not_read_rename p r path offset count e = cc

by_name : (p : List (List ℕ)) → p ≢ [] → (u : List (List ℕ)) × (x : List ℕ) × (p ≡ u ++ x ∷ [])
by_name p some = ⊎_elim (λ (e : p ≡ []). absurd (some e)) (λ more. more) (by_last p)

-- ---- a removal

module _ (t : FileTree) (good : IsGood t) (number : ℕ) (at : Moment) (can : CanUnlink t number) where
  leave : CanLeave (plain_nodes whole t.nodes) can.path
  leave = can_leave (plain_of whole t) can.path (good.valid whole) (free_within (plain_of whole t) (asks.Remove can.path) can.free).1

  named : (u : List (List ℕ)) × (x : List ℕ) × (can.path ≡ u ++ x ∷ [])
  named = by_name can.path leave.named

  -- a node that may be removed may be taken out
  pub can_take : CanTake t.nodes number
  can_take = record {
    front = named.0;
    name = named.1;
    stands = ap (number_at t.nodes) (sym named.2) ∙ can.stands;
    can = subst (λ p. CanLeave (plain_nodes whole t.nodes) p) named.2 leave;
  }

  -- the directory stays where it stood
  dir_stays : (dir : ℕ) (middle : Nodes) → number_at t.nodes named.0 ≡ Some dir → middle ≡ fin.remove t.nodes can.path → number_at middle named.0 ≡ Some dir
  dir_stays dir middle stands is =
      ap (λ m. number_at m named.0) is
      ∙ ap (option_map (λ (n : Node). n.number)) (gone_other t.nodes can.path named.0 (λ e. absurd (omega (arith, ap length (e ∙ named.2), longer named.0 named.1)))) ∙ stands

  -- the directory of a removed node is still there
  pub unlink_there : (dir : ℕ) (middle : Nodes) → ((p : List (List ℕ)) (x : List ℕ) → number_at t.nodes (p ++ x ∷ []) ≡ Some number → number_at t.nodes p ≡ Some dir)
      → ((p : List (List ℕ)) → number_at t.nodes p ≡ Some number → middle ≡ fin.remove t.nodes p) → IsThere middle dir
  unlink_there dir middle up taken = (named.0, dir_stays dir middle (up named.0 named.1 (ap (number_at t.nodes) (sym named.2) ∙ can.stands)) (taken can.path can.stands))

  module _ (next : FileTree) (dir : ℕ) (middle : Nodes) (up : (p : List (List ℕ)) (x : List ℕ) → number_at t.nodes (p ++ x ∷ []) ≡ Some number → number_at t.nodes p ≡ Some dir)
      (taken : (p : List (List ℕ)) → number_at t.nodes p ≡ Some number → middle ≡ fin.remove t.nodes p) (ch : IsChangedAt middle next.nodes dir (λ a b. b ≡ touched at a))
      (highest : next.highest ≡ t.highest) (state : next.lock ≡ t.lock) (size : next.block_size ≡ t.block_size) where
    middle_is : middle ≡ fin.remove t.nodes can.path
    middle_is = taken can.path can.stands

    dir_middle : number_at middle named.0 ≡ Some dir
    dir_middle = dir_stays dir middle (up named.0 named.1 (ap (number_at t.nodes) (sym named.2) ∙ can.stands)) middle_is

    -- a removal leaves what the plain tree leaves
    pub unlink_here : IsAfter (asks.Remove can.path) at t next
    unlink_here tape =
        let nodes : plain_nodes tape next.nodes ≡ plain.touch at (parent_of can.path) (fin.remove (plain_nodes tape t.nodes) can.path) =
        change_plain middle next.nodes dir (λ a b. b ≡ touched at a) ch tape (plain.touched at) (ap (plain_node_of tape) ch.changed)
        ∙ ap (λ p. plain.touch at p (plain_nodes tape middle)) (sym (ch.only named.0 dir_middle) ∙ sym (parent_ends named.0 named.1) ∙ ap parent_of (sym named.2))
        ∙ ap (λ m. plain.touch at (parent_of can.path) (plain_nodes tape m)) middle_is
        ∙ ap (plain.touch at (parent_of can.path)) (plain_remove tape t.nodes can.path) in
        same_tree (plain_of tape next) (without (plain_of tape t) can.path at) highest state nodes
        ∙ sym (after_free (plain_of tape t) (asks.Remove can.path) at (free_too tape t (asks.Remove can.path) (not_read_remove can.path) can.free))

    unlink_back : (k : ℕ) (f : Laid) → HasLaid next.nodes k f → HasLaid t.nodes k f
    unlink_back k f h = remove_back t.nodes can.path k f (subst (λ m. HasLaid m k f) middle_is ((change_lies_both middle next.nodes dir _ ch (ap (λ (n : Node). n.kind) ch.changed) k f).1 h))

    -- a removal adds no block
    pub unlink_adds : AddsNoBlock t next
    unlink_adds part pos h = record { number = h.number; laid = h.laid; file = unlink_back h.number h.laid h.file; block = h.block }

    -- a removal leaves a good tree good
    pub unlink_good : next.name ≡ t.name → IsGood next
    unlink_good name_is = good_after t next (asks.Remove can.path) at good size name_is unlink_here
        (change_files_same middle next.nodes dir _ ch t.block_size (ap (λ (n : Node). n.kind) ch.changed) (subst (λ m. AreFilesOf t.block_size m) (sym middle_is) (remove_files t.block_size t.nodes can.path good.files)))
        (change_differ middle next.nodes dir _ ch (subst NumbersDiffer (sym middle_is) (remove_differ t.nodes can.path good.differ)))
        (fit_same middle next.nodes dir _ ch (ap (λ (n : Node). n.kind) ch.changed) (ap (λ (n : Node). n.keys) ch.changed) (subst AreFit (sym middle_is) (fit_remove t.nodes can.path good.fit)))
        unlink_adds

    -- all other numbers stand where they did after a removal
    pub unlink_numbers : (path : List (List ℕ)) (k : ℕ) → k ≢ number → StandsAt t path k → StandsAt next path k
    unlink_numbers path k apart stands =
        change_numbers middle next.nodes dir _ ch path ∙ ap (λ m. number_at m path) middle_is
        ∙ ap (option_map (λ (n : Node). n.number)) (gone_other t.nodes can.path path (λ e. apart (some_same k number (sym stands ∙ ap (number_at t.nodes) e ∙ can.stands)))) ∙ stands

    -- a removed node's number stands at no path
    pub unlink_gone : ((path : List (List ℕ)) → number_at middle path ≡ Some number → ⊥) → (path : List (List ℕ)) → StandsAt next path number → ⊥
    unlink_gone gone path stands = gone path (sym (change_numbers middle next.nodes dir _ ch path) ∙ stands)

    -- all other files lie as they did after a removal
    pub unlink_lies : OthersLie number t next
    unlink_lies k apart f = (
      λ h. (change_lies_both middle next.nodes dir _ ch (ap (λ (n : Node). n.kind) ch.changed) k f).0 (record {
        path = h.path;
        node = h.node;
        there = ap (λ m. fin.get m h.path) middle_is
            ∙ gone_other t.nodes can.path h.path (λ e. apart (some_same k number (ap (λ n. Some n) (sym h.is) ∙ sym (number_is t.nodes h.path h.node h.there) ∙ ap (number_at t.nodes) e ∙ can.stands))) ∙ h.there;
        is = h.is;
        room = h.room;
        file = h.file;
        lies = h.lies;
      }),
      unlink_back k f,
    )

-- ---- a rename

module _ (t : FileTree) (good : IsGood t) (number dir : ℕ) (name : List ℕ) (at : Moment) (can : CanMoveTo t number dir name) where
  abbrev to : List (List ℕ)
  to = can.up ++ name ∷ []

  differ : same_path can.path to ≡ false
  differ = not_same can.path to (λ e. can.apart (same_is can.path to e))

  move : CanMove (plain_nodes whole t.nodes) can.path to
  move = can_move (plain_of whole t) can.path to (good.valid whole) (free_within (plain_of whole t) (asks.Rename can.path to) can.free).1 differ

  from_named : (u : List (List ℕ)) × (x : List ℕ) × (can.path ≡ u ++ x ∷ [])
  from_named = by_name can.path move.from_named

  abbrev from : List (List ℕ)
  from = from_named.0 ++ from_named.1 ∷ []

  free : (x : List (List ℕ)) → is_at_or_below to x ≡ true → fin.get t.nodes x ≡ None
  free x h = none_plain whole t.nodes x (move.free x h)

  apart : is_at_or_below from to ≡ false
  apart = ap (λ p. is_at_or_below p to) (sym from_named.2) ∙ move.apart

  from_stands : number_at t.nodes from ≡ Some number
  from_stands = ap (number_at t.nodes) (sym from_named.2) ∙ can.stands

  -- a node that may be renamed may be shifted
  pub can_shift : CanShift t.nodes number dir name
  can_shift = record {
    front = from_named.0;
    old_name = from_named.1;
    up = can.up;
    stands = from_stands;
    dir_stands = can.dir_stands;
    can = subst (λ p. CanMove (plain_nodes whole t.nodes) p to) from_named.2 move;
  }

  module _ (shifted : Nodes) (is : (a b : List (List ℕ)) → number_at t.nodes a ≡ Some number → number_at t.nodes b ≡ Some dir → shifted ≡ moved a (b ++ name ∷ []) t.nodes) where
    shifted_is : shifted ≡ moved from to t.nodes
    shifted_is = is from can.up from_stands can.dir_stands

    -- the node stands at its new path, and the directories where they stood
    here : number_at shifted to ≡ Some number
    here = ap (λ m. number_at m to) shifted_is ∙ ap (λ p. number_at (moved from to t.nodes) p) (sym (append-nil to)) ∙ ap (option_map (λ (n : Node). n.number)) (come t.nodes from to free [] ∙ ap (fin.get t.nodes) (append-nil from)) ∙ from_stands

    -- a node that was shifted is there
    pub shift_there : IsThere shifted number
    shift_there = (to, here)

    stays : (p : List (List ℕ)) (x : List ℕ) (n : ℕ) → is_at_or_below to p ≡ false → is_at_or_below from p ≡ false → number_at t.nodes p ≡ Some n → number_at shifted p ≡ Some n
    stays p x n away other stands = ap (λ m. number_at m p) shifted_is ∙ ap (option_map (λ (n : Node). n.number)) (stay t.nodes from to free p away other) ∙ stands

    up_stays : number_at shifted can.up ≡ Some dir
    up_stays = stays can.up name dir (shorter_not to can.up (omega (arith, longer can.up name))) (above_one from can.up name apart) can.dir_stands

    front_stays : (old : ℕ) → number_at t.nodes from_named.0 ≡ Some old → number_at shifted from_named.0 ≡ Some old
    front_stays old stands =
        let node = node_at t.nodes from_named.0 old stands in
        stays from_named.0 from_named.1 old (not_true (is_at_or_below to from_named.0) (λ e. unlike (fin.get t.nodes from_named.0) node.0 (free from_named.0 e) node.1)) (shorter_not from from_named.0 (omega (arith, longer from_named.0 from_named.1))) stands

    module _ (old : ℕ) (up : (p : List (List ℕ)) (x : List ℕ) → number_at t.nodes (p ++ x ∷ []) ≡ Some number → number_at t.nodes p ≡ Some old) (noted : Nodes) (note : IsChangedAt shifted noted number (λ a b. b ≡ change_noted at a)) where
      old_stands : number_at t.nodes from_named.0 ≡ Some old
      old_stands = up from_named.0 from_named.1 from_stands

      old_noted : number_at noted from_named.0 ≡ Some old
      old_noted = change_numbers shifted noted number _ note from_named.0 ∙ front_stays old old_stands

      -- the directory that a node leaves is still there when the node is noted
      pub note_there : IsThere noted old
      note_there = (from_named.0, old_noted)

      module _ (left : Nodes) (leave : IsChangedAt noted left old (λ a b. b ≡ touched at a)) where
        dir_left : number_at left can.up ≡ Some dir
        dir_left = change_numbers noted left old _ leave can.up ∙ change_numbers shifted noted number _ note can.up ∙ up_stays

        -- the directory that a node comes to is there when the other is touched
        pub leave_there : IsThere left dir
        leave_there = (can.up, dir_left)

        module _ (next : FileTree) (enter : IsChangedAt left next.nodes dir (λ a b. b ≡ touched at a)) (highest : next.highest ≡ t.highest) (state : next.lock ≡ t.lock) (size : next.block_size ≡ t.block_size) where
          plain_shifted : (tape : Tape) → plain_nodes tape shifted ≡ plain.moved from to (plain_nodes tape t.nodes)
          plain_shifted tape = ap (plain_nodes tape) shifted_is ∙ plain_moved tape t.nodes from to free

          plain_noted : (tape : Tape) → plain_nodes tape noted ≡ plain.changed_at (plain.change_noted at) to (plain_nodes tape shifted)
          plain_noted tape =
              change_plain shifted noted number (λ a b. b ≡ change_noted at a) note tape (plain.change_noted at) (ap (plain_node_of tape) note.changed)
              ∙ ap (λ p. plain.changed_at (plain.change_noted at) p (plain_nodes tape shifted)) (sym (note.only to here))

          plain_left : (tape : Tape) → plain_nodes tape left ≡ plain.touch at (parent_of can.path) (plain_nodes tape noted)
          plain_left tape =
              change_plain noted left old (λ a b. b ≡ touched at a) leave tape (plain.touched at) (ap (plain_node_of tape) leave.changed)
              ∙ ap (λ p. plain.touch at p (plain_nodes tape noted)) (sym (leave.only from_named.0 old_noted) ∙ sym (parent_ends from_named.0 from_named.1) ∙ ap parent_of (sym from_named.2))

          plain_next : (tape : Tape) → plain_nodes tape next.nodes ≡ plain.touch at (parent_of to) (plain_nodes tape left)
          plain_next tape =
              change_plain left next.nodes dir (λ a b. b ≡ touched at a) enter tape (plain.touched at) (ap (plain_node_of tape) enter.changed)
              ∙ ap (λ p. plain.touch at p (plain_nodes tape left)) (sym (enter.only can.up dir_left) ∙ sym (parent_ends can.up name))

          renamed : (tape : Tape) → with_rename (plain_of tape t) can.path to at
              ≡ record { highest = t.highest; lock = t.lock; nodes = plain.touch at (parent_of to) (plain.touch at (parent_of can.path) (plain.changed_at (plain.change_noted at) to (plain.moved can.path to (plain_nodes tape t.nodes)))) }
          renamed tape = ap (λ b. cond b (plain_of tape t) (record { highest = t.highest; lock = t.lock; nodes = plain.touch at (parent_of to) (plain.touch at (parent_of can.path) (plain.changed_at (plain.change_noted at) to (plain.moved can.path to (plain_nodes tape t.nodes)))) })) differ

          -- a rename leaves what the plain tree leaves
          pub move_here : IsAfter (asks.Rename can.path to) at t next
          move_here tape =
              let nodes : plain_nodes tape next.nodes ≡ plain.touch at (parent_of to) (plain.touch at (parent_of can.path) (plain.changed_at (plain.change_noted at) to (plain.moved can.path to (plain_nodes tape t.nodes)))) =
              plain_next tape ∙ ap (plain.touch at (parent_of to)) (plain_left tape
              ∙ ap (plain.touch at (parent_of can.path)) (plain_noted tape ∙ ap (plain.changed_at (plain.change_noted at) to) (plain_shifted tape ∙ ap (λ p. plain.moved p to (plain_nodes tape t.nodes)) (sym from_named.2)))) in
              same_tree (plain_of tape next) (record { highest = t.highest; lock = t.lock; nodes = plain.touch at (parent_of to) (plain.touch at (parent_of can.path) (plain.changed_at (plain.change_noted at) to (plain.moved can.path to (plain_nodes tape t.nodes)))) }) highest state nodes
              ∙ sym (after_free (plain_of tape t) (asks.Rename can.path to) at (free_too tape t (asks.Rename can.path to) (not_read_rename can.path to) can.free) ∙ renamed tape)

          -- all files lie as they did after a rename
          pub move_lies : AllLie t next
          move_lies n f = (
            λ h. (change_lies_both left next.nodes dir _ enter (ap (λ (n : Node). n.kind) enter.changed) n f).0
                ((change_lies_both noted left old _ leave (ap (λ (n : Node). n.kind) leave.changed) n f).0
                ((change_lies_both shifted noted number _ note (ap (λ (n : Node). n.kind) note.changed) n f).0
                (record {
                  path = moved_path from to h.path;
                  node = h.node;
                  there = ap (λ m. fin.get m (moved_path from to h.path)) shifted_is ∙ node_moves t.nodes from to free h.path h.node h.there;
                  is = h.is;
                  room = h.room;
                  file = h.file;
                  lies = h.lies;
                }))),
            λ h. move_back t.nodes from to free n f (subst (λ m. HasLaid m n f) shifted_is
                ((change_lies_both shifted noted number _ note (ap (λ (n : Node). n.kind) note.changed) n f).1
                ((change_lies_both noted left old _ leave (ap (λ (n : Node). n.kind) leave.changed) n f).1
                ((change_lies_both left next.nodes dir _ enter (ap (λ (n : Node). n.kind) enter.changed) n f).1 h)))),
          )

          move_named : IsUtf8 name → IsNodeName name
          move_named utf8 = fit_name name utf8 (not_bad can.up name (first_none (bad_name to) _ (free_within (plain_of whole t) (asks.Rename can.path to) can.free).1).0)

          -- a rename leaves a good tree good
          pub move_good : next.name ≡ t.name → IsUtf8 name → IsGood next
          move_good name_is utf8 = good_after t next (asks.Rename can.path to) at good size name_is move_here files
              (change_differ left next.nodes dir _ enter (change_differ noted left old _ leave (change_differ shifted noted number _ note (subst NumbersDiffer (sym shifted_is) (move_differ t.nodes from to free good.differ)))))
              (fit_same left next.nodes dir _ enter (ap (λ (n : Node). n.kind) enter.changed) (ap (λ (n : Node). n.keys) enter.changed)
              (fit_same noted left old _ leave (ap (λ (n : Node). n.kind) leave.changed) (ap (λ (n : Node). n.keys) leave.changed)
              (fit_same shifted noted number _ note (ap (λ (n : Node). n.kind) note.changed) (ap (λ (n : Node). n.keys) note.changed)
              (subst AreFit (sym shifted_is) (fit_move t.nodes from can.up name free (move_named utf8) good.fit)))))
              (all_lie_adds t next move_lies)
            where
              files : AreFilesOf t.block_size next.nodes
              files = change_files_same left next.nodes dir _ enter t.block_size (ap (λ (n : Node). n.kind) enter.changed)
                  (change_files_same noted left old _ leave t.block_size (ap (λ (n : Node). n.kind) leave.changed)
                  (change_files_same shifted noted number _ note t.block_size (ap (λ (n : Node). n.kind) note.changed)
                  (subst (λ m. AreFilesOf t.block_size m) (sym shifted_is) (move_files t.nodes from to free t.block_size good.files))))

          same_after : (path : List (List ℕ)) → number_at next.nodes path ≡ number_at shifted path
          same_after path = change_numbers left next.nodes dir _ enter path ∙ change_numbers noted left old _ leave path ∙ change_numbers shifted noted number _ note path

          -- all numbers come to the paths that they move to after a rename
          pub move_numbers : NumbersCome (moved_path can.path to) t next
          move_numbers path n stands =
              same_after (moved_path can.path to path) ∙ ap (λ m. number_at m (moved_path can.path to path)) shifted_is ∙ ap (λ p. number_at (moved from to t.nodes) (moved_path p to path)) from_named.2
              ∙ number_moves t.nodes from to free path n stands
