-- What each call leaves of a tree.
use Rattle.std.proofs.Common.{◌≡◌, ◌≢◌, ◌⊎◌, ℕ, ◌+◌, ◌<◌, ◌≤◌, ◌^◌, List, [], ◌∷◌, ◌++◌, Some, None, sym, ap, ◌∙◌, refl, subst, arith, ⊎_elim}
use Rattle.std.specs.FinMap as fin
use Rattle.tape_types.specs.Bounds.{most_nodes}
use Rattle.tape_types.specs.declared.moments.Moment.{Moment}
use Rattle.plain_tree.specs.declared.nodes.Kind as plain_kind
use Rattle.plain_tree.specs.declared.nodes.Kind.TheVariants as plain_kinds
use Rattle.plain_tree.specs.declared.calls.Call.{Call}
use Rattle.plain_tree.specs.declared.calls.Call.TheVariants as asks
use Rattle.plain_tree.specs.declared.calls.LockState.{LockState}
use Rattle.plain_tree.specs.declared.calls.Sort.{Sort}
use Rattle.plain_tree.specs.declared.calls.Sort.TheVariants as sorts
use Rattle.tape_types.specs.NodeKeys.Keys.{key_cmp}
use Rattle.plain_tree.specs.Paths.{parent_of}
use Rattle.plain_tree.specs.Refusals.{refusal_of, refusal_within, new_refusal, bad_name}
use Rattle.plain_tree.specs.Calls.{after, after_done, after_unless, with_new}
use Rattle.plain_tree.specs.Tree as plain
use Rattle.plain_tree.specs.Valid.{IsValid}
use Rattle.plain_tree.specs.Seen.{CanStand}
use Rattle.plain_tree.proofs.SeenLemmas.{unlike}
use Rattle.plain_tree.proofs.Validity.{next_valid, can_stand, first_none, free_within}
use Rattle.extent_map.specs.Cells.{Tape, file_cells}
use Rattle.std.specs.Str.{IsUtf8}
use Rattle.index_model.specs.Names.{IsVolumeName, IsNodeName}
use Rattle.extent_map.specs.Blocks.{FileStandsIn}
use Rattle.extent_map.specs.Laid.{Laid, Room}
use Rattle.file_tree.specs.declared.nodes.Node.{Node}
use Rattle.file_tree.specs.declared.nodes.HeldKind.{HeldKind}
use Rattle.file_tree.specs.declared.nodes.HeldKind.TheVariants as kinds
use Rattle.file_tree.specs.Tree.{Nodes, FileTree, number_at, StandsAt, HasLaid, plain_kind_of, plain_node_of, plain_nodes, plain_of, whole}
use Rattle.file_tree.specs.Changes.{IsChangedAt, touched}
use Rattle.file_tree.specs.Places.{CanPut}
use Rattle.plain_tree.specs.Paths.{Path}
use Rattle.file_tree.specs.Valid.{IsFileOf, AreFilesOf, NumbersDiffer, AreFit, IsGood}
use Rattle.file_tree.specs.Blocks.{AddsNoBlock}
use Rattle.file_tree.specs.Edits.{making, CanMake, IsNewKind, made_node, IsAfter, NumbersCome, OthersLie}
use Rattle.name_tries.proofs.ItemLemmas.{some_same}
use Rattle.file_tree.proofs.PathLemmas.{same_last, get_here, number_is}
use Rattle.file_tree.proofs.PlainLemmas.{plain_insert, plain_len, none_plain}
use Rattle.file_tree.proofs.RefusalLemmas.{alike}
use Rattle.file_tree.proofs.EditLemmas.{parent_ends, put_numbers, put_lies, put_back, put_differ, insert_files, change_numbers, change_plain, change_lies, change_lies_both, change_differ, change_files_same}
use Rattle.file_tree.proofs.FitLemmas.{fit_name, not_bad, fit_insert, fit_same}

-- a call that isn't refused
pub after_free : (t : plain.Tree) (call : Call) (at : Moment) → refusal_of t call ≡ None → after t call at ≡ after_done t call at
after_free t call at free = ap (λ r. after_unless r (after_done t call at) t) free

-- a call that is not refused on a whole tape is refused on no tape, but a read
pub free_too : (tape : Tape) (t : FileTree) (call : Call) → ((path : List (List ℕ)) (offset count : ℕ) → call ≡ asks.Read path offset count → ⊥) → refusal_of (plain_of whole t) call ≡ None → refusal_of (plain_of tape t) call ≡ None
free_too tape t call other free = alike tape whole t call other ∙ free

-- trees with the same highest uid, the same lock and the same nodes are one
pub same_tree : (a b : plain.Tree) → a.highest ≡ b.highest → a.lock ≡ b.lock → a.nodes ≡ b.nodes → a ≡ b
same_tree a b h l n =
    ap (λ k. record { highest = k; lock = a.lock; nodes = a.nodes }) h
    ∙ ap (λ k. record { highest = b.highest; lock = k; nodes = a.nodes }) l
    ∙ ap (λ k. record { highest = b.highest; lock = b.lock; nodes = k }) n

-- a tree whose plain tree is valid, whose nodes are well and which adds no block to a good one is good
pub good_where : (t next : FileTree) → IsGood t → next.block_size ≡ t.block_size → next.name ≡ t.name → ((tape : Tape) → IsValid (plain_of tape next))
    → AreFilesOf t.block_size next.nodes → NumbersDiffer next.nodes → AreFit next.nodes → AddsNoBlock t next → IsGood next
good_where t next good size name valid files differ fit adds = record {
  some_block = subst (λ n. 1 ≤ n) (sym size) good.some_block;
  small_block = subst (λ n. n < 2 ^ 32) (sym size) good.small_block;
  valid = valid;
  files = subst (λ n. AreFilesOf n next.nodes) (sym size) files;
  differ = differ;
  volume = subst IsVolumeName (sym name) good.volume;
  fit = fit;
  near = λ part pos h. good.near part pos (adds part pos h);
}

-- what the plain tree is after a call is valid
pub valid_after : (t next : FileTree) (call : Call) (at : Moment) → IsGood t → IsAfter call at t next → (tape : Tape) → IsValid (plain_of tape next)
valid_after t next call at good done tape = subst (λ (p : plain.Tree). IsValid p) (sym (done tape)) (next_valid (plain_of tape t) call at (good.valid tape))

-- a tree that is what the plain tree is after a call is good
pub good_after : (t next : FileTree) (call : Call) (at : Moment) → IsGood t → next.block_size ≡ t.block_size → next.name ≡ t.name → IsAfter call at t next
    → AreFilesOf t.block_size next.nodes → NumbersDiffer next.nodes → AreFit next.nodes → AddsNoBlock t next → IsGood next
good_after t next call at good size name done files differ fit adds = good_where t next good size name (valid_after t next call at good done) files differ fit adds

-- the same tree with other memory is good
pub good_same : (t : FileTree) (nodes : Nodes) (spare : ℕ) → IsGood t → nodes ≡ t.nodes → IsGood (record { highest = t.highest; lock = t.lock; name = t.name; block_size = t.block_size; nodes = nodes; spare = spare })
good_same t nodes spare good is = subst (λ (m : Nodes). IsGood (record { highest = t.highest; lock = t.lock; name = t.name; block_size = t.block_size; nodes = m; spare = spare })) (sym is) (record {
  some_block = good.some_block;
  small_block = good.small_block;
  valid = good.valid;
  files = good.files;
  differ = good.differ;
  volume = good.volume;
  fit = good.fit;
  near = λ part pos h. good.near part pos (record { number = h.number; laid = h.laid; file = h.file; block = h.block });
})

-- and so is the same tree under another lock
pub good_locked : (t : FileTree) (state : LockState) → IsGood t → IsGood (record t { lock = state })
good_locked t state good = record {
  some_block = good.some_block;
  small_block = good.small_block;
  valid = good.valid;
  files = good.files;
  differ = good.differ;
  volume = good.volume;
  fit = good.fit;
  near = λ part pos h. good.near part pos (record { number = h.number; laid = h.laid; file = h.file; block = h.block });
}

-- ---- a new node

abbrev plain_new : Sort → plain_kind.Kind
plain_new sorts.Dir = plain_kinds.Dir
plain_new sorts.File = plain_kinds.File []
plain_new sorts.Link = plain_kinds.Dir

made_by : (sort : Sort) (q : List (List ℕ)) (call : Call) (p : plain.Tree) (at : Moment) → making sort q ≡ Some call
    → (refusal_within p call ≡ new_refusal p q) × (after_done p call at ≡ with_new (plain_new sort) p q at) × ((path : List (List ℕ)) (offset count : ℕ) → call ≡ asks.Read path offset count → ⊥)
made_by sorts.Dir q call p at is =
    let e : asks.Mkdir q ≡ call = some_same (asks.Mkdir q) call is in
    (ap (refusal_within p) (sym e), ap (λ c. after_done p c at) (sym e), λ path o n f. let wrong : asks.Mkdir q ≡ asks.Read path o n = e ∙ f in cc)
made_by sorts.File q call p at is =
    let e : asks.Create q ≡ call = some_same (asks.Create q) call is in
    (ap (refusal_within p) (sym e), ap (λ c. after_done p c at) (sym e), λ path o n f. let wrong : asks.Create q ≡ asks.Read path o n = e ∙ f in cc)
made_by sorts.Link q call p at is = cc

new_plain : (tape : Tape) (size : ℕ) (sort : Sort) (kind : HeldKind) → IsNewKind size sort kind → plain_kind_of tape kind ≡ plain_new sort
new_plain tape size sorts.Dir kind is = ap (plain_kind_of tape) is
new_plain tape size sorts.File kind is = ap (plain_kind_of tape) is.1 ∙ ap (λ (f : Laid). plain_kinds.File (file_cells tape f)) is.2
new_plain tape size sorts.Link kind is = ap (plain_kind_of tape) is

module _ (t : FileTree) (good : IsGood t) (dir : ℕ) (name : List ℕ) (sort : Sort) (at : Moment) (can : CanMake t dir name sort) where
  abbrev q : List (List ℕ)
  q = can.path ++ name ∷ []

  stand : CanStand (plain_nodes whole t.nodes) q (plain.new_node plain_kinds.Dir (t.highest + 1) at)
  stand = can_stand plain_kinds.Dir (plain_of whole t) q at (sym (made_by sort q can.call (plain_of whole t) at can.made_by).0 ∙ (free_within (plain_of whole t) can.call can.free).1) (good.valid whole)

  -- nothing stands at the path of a new node
  pub make_free : fin.get t.nodes q ≡ None
  make_free = none_plain whole t.nodes q stand.free

  pub make_space : fin.len t.nodes < most_nodes
  make_space = omega (arith, stand.space, plain_len whole t.nodes)

  -- a node may be put there for which there is memory
  pub can_put : (slots : ℕ) → CanPut (record { nodes = t.nodes; spare = t.spare; slots = slots }) dir name
  can_put slots = record { path = can.path; stands = can.stands; free = make_free; space = make_space; room = can.room }

  pub make_named : IsUtf8 name → IsNodeName name
  make_named utf8 = fit_name name utf8 (not_bad can.path name (first_none (bad_name q) _ (sym (made_by sort q can.call (plain_of whole t) at can.made_by).0 ∙ (free_within (plain_of whole t) can.call can.free).1)).0)

  module _ (next : FileTree) (number : ℕ) (node : Node) (kind : HeldKind) (middle : Nodes)
      (is : node ≡ record (made_node (t.highest + 1) kind at) { number = number }) (new : IsNewKind t.block_size sort kind)
      (put : (path : List (List ℕ)) → number_at t.nodes path ≡ Some dir → middle ≡ fin.insert t.nodes (path ++ name ∷ []) node)
      (ch : IsChangedAt middle next.nodes dir (λ a b. b ≡ touched at a)) (highest : next.highest ≡ t.highest + 1) (state : next.lock ≡ t.lock) (size : next.block_size ≡ t.block_size)
      (fresh : (path : Path) → number_at t.nodes path ≢ Some number) where
    middle_is : middle ≡ fin.insert t.nodes q node
    middle_is = put can.path can.stands

    dir_middle : number_at middle can.path ≡ Some dir
    dir_middle = ap (λ m. number_at m can.path) middle_is ∙ put_numbers t.nodes q node make_free can.path dir can.stands

    -- the making of a node is the plain tree's call
    pub make_plain : IsAfter can.call at t next
    make_plain tape =
        let by = made_by sort q can.call (plain_of tape t) at can.made_by in
        let made : plain_node_of tape node ≡ plain.new_node (plain_new sort) (t.highest + 1) at = ap (plain_node_of tape) is ∙ ap (λ k. plain.new_node k (t.highest + 1) at) (new_plain tape t.block_size sort kind new) in
        let nodes : plain_nodes tape next.nodes ≡ plain.touch at (parent_of q) (fin.insert (plain_nodes tape t.nodes) q (plain.new_node (plain_new sort) (t.highest + 1) at)) =
        change_plain middle next.nodes dir (λ a b. b ≡ touched at a) ch tape (plain.touched at) (ap (plain_node_of tape) ch.changed)
        ∙ ap (λ p. plain.touch at p (plain_nodes tape middle)) (sym (ch.only can.path dir_middle) ∙ sym (parent_ends can.path name))
        ∙ ap (λ m. plain.touch at (parent_of q) (plain_nodes tape m)) middle_is
        ∙ ap (plain.touch at (parent_of q)) (plain_insert tape t.nodes q node ∙ ap (fin.insert (plain_nodes tape t.nodes) q) made) in
        same_tree (plain_of tape next) (with_new (plain_new sort) (plain_of tape t) q at) highest state nodes
        ∙ sym (after_free (plain_of tape t) can.call at (free_too tape t can.call by.2 can.free) ∙ by.1)

    -- all numbers stand where they stood after a node is made
    pub make_numbers : NumbersCome (λ p. p) t next
    make_numbers path n stands = change_numbers middle next.nodes dir _ ch path ∙ ap (λ m. number_at m path) middle_is ∙ put_numbers t.nodes q node make_free path n stands

    -- the new node has its number under its name in its directory
    pub make_number : (path : List (List ℕ)) → StandsAt t path dir → StandsAt next (path ++ name ∷ []) number
    make_number path stands =
        change_numbers middle next.nodes dir _ ch (path ++ name ∷ []) ∙ ap (λ m. number_at m (path ++ name ∷ [])) (put path stands)
        ∙ number_is (fin.insert t.nodes (path ++ name ∷ []) node) (path ++ name ∷ []) node (get_here t.nodes (path ++ name ∷ []) node) ∙ ap (λ (n : Node). Some n.number) is

    numbered : node.number ≡ number
    numbered = ap (λ (n : Node). n.number) is

    -- a file of the tree after is one of the tree before, or the new one
    made_back : (n : ℕ) (f : Laid) → HasLaid next.nodes n f → HasLaid t.nodes n f ⊎ ((node.number ≡ n) × (room : Room) × (node.kind ≡ kinds.File room) × (room.laid ≡ f))
    made_back n f h =
        put_back t.nodes q node make_free n f (subst (λ m. HasLaid m n f) middle_is ((change_lies_both middle next.nodes dir _ ch (ap (λ (n : Node). n.kind) ch.changed) n f).1 h))

    -- all other files lie as they did after a node is made
    pub make_lies : OthersLie number t next
    make_lies n apart f = (
      λ h. (change_lies_both middle next.nodes dir _ ch (ap (λ (n : Node). n.kind) ch.changed) n f).0 (subst (λ m. HasLaid m n f) (sym middle_is) (put_lies t.nodes q node make_free n f h)),
      λ h. ⊎_elim (λ was. was) (λ (new : (node.number ≡ n) × (room : Room) × (node.kind ≡ kinds.File room) × (room.laid ≡ f)). absurd (apart (sym new.0 ∙ numbered))) (made_back n f h),
    )

    -- a new file has its number and no bytes
    pub make_file : sort ≡ sorts.File → HasLaid next.nodes number (record { block_size = t.block_size; length = 0; extents = [] })
    make_file file =
        let kind_is : IsNewKind t.block_size sorts.File kind = subst (λ s. IsNewKind t.block_size s kind) file new in
        change_lies middle next.nodes dir _ ch (ap (λ (n : Node). n.kind) ch.changed) number _ (record {
          path = q;
          node = node;
          there = ap (λ m. fin.get m q) middle_is ∙ get_here t.nodes q node;
          is = ap (λ (n : Node). n.number) is;
          room = kind_is.0;
          file = ap (λ (n : Node). n.kind) is ∙ kind_is.1;
          lies = kind_is.2;
        })

    new_files : (room : Room) → node.kind ≡ kinds.File room → IsFileOf t.block_size room.laid
    new_files room file = by sort new (sym (ap (λ (n : Node). n.kind) is) ∙ file)
      where
        by : (s : Sort) → IsNewKind t.block_size s kind → kind ≡ kinds.File room → IsFileOf t.block_size room.laid
        by sorts.Dir dir_is e = let wrong : kinds.Dir ≡ kinds.File room = sym dir_is ∙ e in cc
        by sorts.File k e =
            let same : k.0 ≡ room = one_room k.0 room (sym k.1 ∙ e) in
            subst (λ (r : Room). IsFileOf t.block_size r.laid) same (subst (λ f. IsFileOf t.block_size f) (sym k.2) (record { size = refl; lies = record { some_block = good.some_block; can_be = omega arith; are_laid = omega arith } }))
          where
            one_room : (a b : Room) → ◌≡◌ {A = HeldKind} (kinds.File a) (kinds.File b) → a ≡ b
            one_room a b f = cc
        by sorts.Link dir_is e = let wrong : kinds.Dir ≡ kinds.File room = sym dir_is ∙ e in cc

    new_kind_is : (room : Room) → node.kind ≡ kinds.File room → room.laid ≡ record { block_size = t.block_size; length = 0; extents = [] }
    new_kind_is room file = by sort new (sym (ap (λ (n : Node). n.kind) is) ∙ file)
      where
        one_room : (a b : Room) → ◌≡◌ {A = HeldKind} (kinds.File a) (kinds.File b) → a ≡ b
        one_room a b f = cc

        by : (s : Sort) → IsNewKind t.block_size s kind → kind ≡ kinds.File room → room.laid ≡ record { block_size = t.block_size; length = 0; extents = [] }
        by sorts.Dir dir_is e = let wrong : kinds.Dir ≡ kinds.File room = sym dir_is ∙ e in cc
        by sorts.File k e = ap (λ (r : Room). r.laid) (one_room room k.0 (sym e ∙ k.1)) ∙ k.2
        by sorts.Link dir_is e = let wrong : kinds.Dir ≡ kinds.File room = sym dir_is ∙ e in cc

    new_no_link : (text : List ℕ) → node.kind ≡ kinds.Link text → ⊥
    new_no_link text link = by sort new (sym (ap (λ (n : Node). n.kind) is) ∙ link)
      where
        by : (s : Sort) → IsNewKind t.block_size s kind → kind ≡ kinds.Link text → ⊥
        by sorts.Dir dir_is e = let wrong : kinds.Dir ≡ kinds.Link text = sym dir_is ∙ e in cc
        by sorts.File k e = let wrong : kinds.File k.0 ≡ kinds.Link text = sym k.1 ∙ e in cc
        by sorts.Link dir_is e = let wrong : kinds.Dir ≡ kinds.Link text = sym dir_is ∙ e in cc

    -- a new node adds no block
    pub make_adds : AddsNoBlock t next
    make_adds part pos h = ⊎_elim
        (λ was. record { number = h.number; laid = h.laid; file = was; block = h.block })
        (λ (made : (node.number ≡ h.number) × (room : Room) × (node.kind ≡ kinds.File room) × (room.laid ≡ h.laid)).
        absurd (subst (λ f. FileStandsIn f part pos) (sym made.3 ∙ new_kind_is made.1 made.2) h.block))
        (made_back h.number h.laid h.file)

    -- a new node leaves a good tree good
    pub make_good : next.name ≡ t.name → IsUtf8 name → IsGood next
    make_good name_is utf8 = good_after t next can.call at good size name_is make_plain files
        (change_differ middle next.nodes dir _ ch (subst NumbersDiffer (sym middle_is) (put_differ t.nodes q node make_free good.differ (λ path stands. fresh path (stands ∙ ap (λ n. Some n) numbered)))))
        (fit_same middle next.nodes dir _ ch (ap (λ (n : Node). n.kind) ch.changed) (ap (λ (n : Node). n.keys) ch.changed) (subst AreFit (sym middle_is) (fit_insert t.nodes q node good.fit (record {
          named = λ front other e. subst IsNodeName (same_last can.path front name other e).1 (make_named utf8);
          text = λ text link. absurd (new_no_link text link);
          keys = λ key value there. absurd (unlike (fin.get node.keys.map key) value (ap (λ (n : Node). fin.get n.keys.map key) is ∙ fin.get-empty key_cmp key) there);
        }))))
        make_adds
      where
        files : AreFilesOf t.block_size next.nodes
        files = change_files_same middle next.nodes dir _ ch t.block_size (ap (λ (n : Node). n.kind) ch.changed) (subst (λ m. AreFilesOf t.block_size m) (sym middle_is) (insert_files t.block_size t.nodes q node good.files new_files))

-- the same tree under another name makes the same call
pub same_call : (t u : FileTree) (dir : ℕ) (name : List ℕ) (sort : Sort) (e : t ≡ u) (own : CanMake u dir name sort) → (subst (λ (t : FileTree). CanMake t dir name sort) (sym e) own).call ≡ own.call
same_call t u dir name sort e own = refl
