-- What was written of a listing, as it goes on.
use Rattle.std.proofs.Common.{◌≡◌, ℕ, ◌+◌, ◌≤◌, Bool, true, false, List, [], ◌∷◌, ◌++◌, length, map, take, drop, Option, Some, inl, inr, sym, ap, ◌∙◌, refl, subst, arith, append_assoc, take_all}
use Rattle.std.specs.List.{concat, flat_map, slice_get}
use Rattle.std.specs.FinMap as fin
use Rattle.std.specs.Io.KnownBytes.{Appends}
use Rattle.std.proofs.lemmas.Grind.{flat_map-append}
use Rattle.std.proofs.lemmas.List.{map-append, take-append-drop, take_more}
use Rattle.std.proofs.lemmas.Option.{get_or_from_slice_get, slice_get_within}
use Rattle.tape_edge.specs.Streams.{AppendsFront}
use Rattle.tape_types.specs.NodeKeys.Keys.{entries_of}
use Rattle.tape_types.specs.declared.node_keys.xattrs.Xattr.{Xattr}
use Rattle.index_model.specs.declared.indexes.Spot.{Spot}
use Rattle.index_model.specs.declared.nodes.Node as told
use Rattle.index_model.specs.Order.{AreInOrder}
use Rattle.index_model.specs.Places.{IsAt}
use Rattle.plain_tree.specs.Paths.{Path}
use Rattle.plain_tree.specs.Tree.{Tree}
use Rattle.plain_tree.specs.declared.calls.LockState.{LockState}
use Rattle.plain_tree.specs.declared.nodes.Node.{Node}
use Rattle.tree_listing.specs.Listing.{key_line, last_lines, lines_of, listing_text, tree_lines, AreNodesOf, IsCutShort}
use Rattle.tree_listing.specs.Steps.{AreKeysOnWay, AreListed, AreWalked, GoesOn, IsNodePut, IsNodeStopped, IsOnWay, IsPassedOn, IsPut, IsStopped, StaysWhere, StopsIn}
use Rattle.tree_listing.specs.Steps.{next_names, shown, told_keys, told_line, told_lines}
use Rattle.tree_listing.specs.declared.errors.ListErr.{ListErr}
use Rattle.tree_listing.specs.declared.errors.ListErr.TheVariants as errors
use Rattle.tree_listing.specs.declared.lines.Lines.{Lines}
use Rattle.tree_listing.proofs.Listed.{appends_more, appends_none, failed, front_of, front_written, goes_further, goes_nowhere, line_put, listed_text, none_listed, passed_on, refused, stops_before, stops_further, stops_longer, whole_list}
use Rattle.tree_listing.proofs.Walks.{lines_are, next, walked_more}

-- ---- the attributes of a node

module _ (names : List ℕ) (xattrs : List Xattr) where
  -- the lines of the first attributes
  abbrev first : ℕ → List (List ℕ)
  first count = told_keys true names (take count xattrs)

  more_keys : (one other : List Xattr) → told_keys true names (one ++ other) ≡ told_keys true names one ++ told_keys true names other
  more_keys one other =
      ap (map (key_line (shown names))) (map-append (λ (x : Xattr). (x.key, x.value)) one other)
      ∙ map-append (key_line (shown names)) (entries_of one) (entries_of other)

  keys_cut : (count : ℕ) → told_keys true names xattrs ≡ first count ++ told_keys true names (drop count xattrs)
  keys_cut count = ap (told_keys true names) (sym (take-append-drop count xattrs)) ∙ more_keys (take count xattrs) (drop count xattrs)

  next_key : (at : ℕ) (xattr : Xattr) → slice_get xattrs at ≡ Some xattr → first (at + 1) ≡ first at ++ key_line (shown names) (xattr.key, xattr.value) ∷ []
  next_key at xattr is =
      ap (told_keys true names) (take_more xattrs at xattr (slice_get_within xattrs at xattr is) ∙ ap (λ x. take at xattrs ++ x ∷ []) (get_or_from_slice_get xattrs at xattr xattr is))
      ∙ more_keys (take at xattrs) (xattr ∷ [])

pub keys_begin : (xattrs : List Xattr) (now : Option (List ℕ)) (lines : Lines) (faults : ℕ) → AreKeysOnWay xattrs 0 now now lines lines faults faults
keys_begin xattrs now lines faults = record { put = goes_nowhere now lines.text.items; stays = (refl, refl); later = omega arith }

module _ (xattrs : List Xattr) (at : ℕ) (xattr : Xattr) (old now : Option (List ℕ)) (from lines put : Lines) (before faults : ℕ)
    (is : slice_get xattrs at ≡ Some xattr) (way : AreKeysOnWay xattrs at old now from lines before faults)
    (text : put.text.items ≡ lines.text.items ++ key_line (shown lines.names.items) (xattr.key, xattr.value)) (stays : StaysWhere lines put) where
  abbrev names : List ℕ
  names = from.names.items

  -- one line more is put
  key_put : GoesOn (first names xattrs (at + 1)) old now from.text.items put.text.items
  key_put =
      let path : put.text.items ≡ lines.text.items ++ key_line (shown names) (xattr.key, xattr.value) =
      text ∙ ap (λ v. lines.text.items ++ key_line (shown v.items) (xattr.key, xattr.value)) way.stays.0 in
      subst (λ l. GoesOn l old now from.text.items put.text.items) (sym (next_key names xattrs at xattr is))
      (goes_further (first names xattrs at) (key_line (shown names) (xattr.key, xattr.value) ∷ []) old now now from.text.items lines.text.items put.text.items way.put
      (line_put (key_line (shown names) (xattr.key, xattr.value)) lines.text.items put.text.items now path))

  -- and passed on
  pub keys_go_on : (new : Option (List ℕ)) (left : Lines) (risen : ℕ) → IsPassedOn now new put.text.items left.text.items → StaysWhere put left → faults ≤ risen
      → AreKeysOnWay xattrs (at + 1) old new from left before risen
  keys_go_on new left risen on same more = record {
    put = passed_on (first names xattrs (at + 1)) old now new from.text.items put.text.items left.text.items key_put on;
    stays = (same.0 ∙ stays.0 ∙ way.stays.0, same.1 ∙ stays.1 ∙ way.stays.1);
    later = omega (arith, more, way.later);
  }

  -- or can't be written
  pub keys_failed : (new : Option (List ℕ)) → AppendsFront now new put.text.items → StopsIn errors.Sink (told_keys true names xattrs) old new from.text.items
  keys_failed new front =
      subst (λ l. StopsIn errors.Sink l old new from.text.items) (sym (keys_cut names xattrs (at + 1)))
      (stops_before errors.Sink (first names xattrs (at + 1)) (told_keys true names (drop (at + 1) xattrs)) old new from.text.items
      (failed (first names xattrs (at + 1)) old now new from.text.items put.text.items key_put front))

module _ (xattrs : List Xattr) (at : ℕ) (old now : Option (List ℕ)) (from lines : Lines) (before faults : ℕ) (way : AreKeysOnWay xattrs at old now from lines before faults) where
  -- memory is refused
  pub keys_refused : StopsIn errors.NoMemory (told_keys true from.names.items xattrs) old now from.text.items
  keys_refused =
      subst (λ l. StopsIn errors.NoMemory l old now from.text.items) (sym (keys_cut from.names.items xattrs at))
      (stops_further errors.NoMemory (first from.names.items xattrs at) (told_keys true from.names.items (drop at xattrs)) old now now from.text.items lines.text.items way.put
      (refused (told_keys true from.names.items (drop at xattrs)) now lines.text.items))

  -- all are put
  pub keys_end : at ≡ length xattrs → GoesOn (told_keys true from.names.items xattrs) old now from.text.items lines.text.items
  keys_end all = subst (λ l. GoesOn (told_keys true from.names.items l) old now from.text.items lines.text.items) (take_all at xattrs (omega (arith, all))) way.put

-- ---- a node

pub node_refused : (all : Bool) (node : told.Node) (now : Option (List ℕ)) (old : Lines) → IsNodeStopped all node now now old errors.NoMemory
node_refused all node now old = refused (told_lines all (next_names old.ends.items old.names.items node) node) now old.text.items

module _ (all : Bool) (node : told.Node) (before : Option (List ℕ)) (old put : Lines) (is : IsPut all old put node) where
  abbrev own : List (List ℕ)
  own = told_line all put.names.items node ∷ []

  own_put : GoesOn own before before old.text.items put.text.items
  own_put = line_put (told_line all put.names.items node) old.text.items put.text.items before is.text

  -- its own line can't be written
  pub node_failed : (now : Option (List ℕ)) → AppendsFront before now put.text.items → IsNodeStopped all node before now old errors.Sink
  node_failed now front =
      subst (λ n. StopsIn errors.Sink (told_lines all n node) before now old.text.items) is.names
      (stops_before errors.Sink own (told_keys all put.names.items node.xattrs) before now old.text.items (failed own before before now old.text.items put.text.items own_put front))

  module _ (mid : Option (List ℕ)) (left : Lines) (on : IsPassedOn before mid put.text.items left.text.items) (stays : StaysWhere put left) where
    names_stay : left.names.items ≡ put.names.items
    names_stay = ap (λ v. v.items) stays.0

    own_passed : GoesOn own before mid old.text.items left.text.items
    own_passed = passed_on own before before mid old.text.items put.text.items left.text.items own_put on

    node_put : (now : Option (List ℕ)) (new : Lines) → StaysWhere left new → GoesOn (told_lines all left.names.items node) before now old.text.items new.text.items
        → IsNodePut all node before now old new
    node_put now new same lines = record {
      names = ap (λ v. v.items) same.0 ∙ names_stay ∙ is.names;
      ends = ap (λ v. v.items) (same.1 ∙ stays.1) ∙ is.ends ∙ ap (λ v. old.ends.items ++ length v.items ∷ []) (sym (same.0 ∙ stays.0));
      lines = subst (λ v. GoesOn (told_lines all v.items node) before now old.text.items new.text.items) (sym same.0) lines;
    }

    -- the line of a node alone
    pub node_alone : all ≡ false → IsNodePut all node before mid old left
    node_alone short =
        node_put mid left (refl, refl)
        (subst (λ n. GoesOn (told_lines all n node) before mid old.text.items left.text.items) (sym names_stay)
        (subst (λ b. GoesOn (told_line all put.names.items node ∷ told_keys b put.names.items node.xattrs) before mid old.text.items left.text.items) (sym short) own_passed))

    both : (P : List (List ℕ) → Type 0) → all ≡ true → P (own ++ told_keys true left.names.items node.xattrs) → P (told_lines all left.names.items node)
    both P long p =
        subst (λ n. P (told_line all n node ∷ told_keys all left.names.items node.xattrs)) (sym names_stay)
        (subst (λ b. P (told_line all put.names.items node ∷ told_keys b left.names.items node.xattrs)) (sym long) p)

    -- and those of its attributes
    pub node_with_keys : (now : Option (List ℕ)) (new : Lines) → all ≡ true → StaysWhere left new
        → GoesOn (told_keys true left.names.items node.xattrs) mid now left.text.items new.text.items → IsNodePut all node before now old new
    node_with_keys now new long same keys =
        node_put now new same
        (both (λ l. GoesOn l before now old.text.items new.text.items) long
        (goes_further own (told_keys true left.names.items node.xattrs) before mid now old.text.items left.text.items new.text.items own_passed keys))

    pub keys_stopped : (e : ListErr) (now : Option (List ℕ)) → all ≡ true → StopsIn e (told_keys true left.names.items node.xattrs) mid now left.text.items
        → IsNodeStopped all node before now old e
    keys_stopped e now long stops =
        subst (λ n. StopsIn e (told_lines all n node) before now old.text.items) (names_stay ∙ is.names)
        (both (λ l. StopsIn e l before now old.text.items) long
        (stops_further e own (told_keys true left.names.items node.xattrs) before mid now old.text.items left.text.items own_passed stops))

-- ---- node by node

module _ (all : Bool) (nodes : List told.Node) (order : AreInOrder nodes) where
  pub begins : (old : Option (List ℕ)) (lines : Lines) (faults : ℕ) → (lines.text.items ≡ []) × (lines.names.items ≡ []) × (lines.ends.items ≡ [])
      → IsOnWay all nodes 0 old old lines faults faults
  begins old lines faults (text, names, ends) = record {
    listed = λ tree are. none_listed old lines.text.items text;
    walked = λ tree are. record { ends_are = ends; begins = λ none. names; last = λ at e same is. absurd (omega (arith, same)) };
    later = omega arith;
  }

  abbrev lines_at : Tree → ℕ → List (List ℕ)
  lines_at tree count = flat_map (lines_of all) (take count (fin.entries tree.nodes))

  -- the lines of one node more
  one_more : (tree : Tree) (are : AreNodesOf nodes tree) (at : ℕ) (node : told.Node) (ends names : List ℕ) → IsAt nodes at node → AreWalked (fin.entries tree.nodes) at ends names
      → lines_at tree (at + 1) ≡ lines_at tree at ++ told_lines all (next_names ends names node) node
  one_more tree are at node ends names is walked =
      let es = fin.entries tree.nodes in
      let n = next nodes order tree are at node ends names is walked in
      ap (flat_map (lines_of all)) (take_more es at n.e (slice_get_within es at n.e n.is) ∙ ap (λ x. take at es ++ x ∷ []) (get_or_from_slice_get es at n.e n.e n.is))
      ∙ flat_map-append (lines_of all) (take at es) (n.e ∷ [])
      ∙ ap (λ l. lines_at tree at ++ l) (whole_list (lines_of all n.e) ∙ sym (lines_are nodes order tree are all at node (next_names ends names node) n))

  lines_cut : (tree : Tree) (count : ℕ) → tree_lines all tree ≡ lines_at tree count ++ flat_map (lines_of all) (drop count (fin.entries tree.nodes))
  lines_cut tree count =
      ap (flat_map (lines_of all)) (sym (take-append-drop count (fin.entries tree.nodes)))
      ∙ flat_map-append (lines_of all) (take count (fin.entries tree.nodes)) (drop count (fin.entries tree.nodes))

  module _ (at : ℕ) (node : told.Node) (old now new : Option (List ℕ)) (lines : Lines) (before faults : ℕ) (is : IsAt nodes at node)
      (way : IsOnWay all nodes at old now lines before faults) where
    -- the lines of the next node are put
    pub goes_on : (more : Lines) (risen : ℕ) → IsNodePut all node now new lines more → faults ≤ risen → IsOnWay all nodes (at + 1) old new more before risen
    goes_on more risen done later = record {
      listed = λ tree are.
          subst (λ l. AreListed l old new more.text.items)
          (ap (λ k. lines_at tree at ++ told_lines all k node) done.names ∙ sym (one_more tree are at node lines.ends.items lines.names.items is (way.walked tree are)))
          (done.lines old (lines_at tree at) (way.listed tree are));
      walked = λ tree are.
          let n = next nodes order tree are at node lines.ends.items lines.names.items is (way.walked tree are) in
          subst (λ k. AreWalked (fin.entries tree.nodes) (at + 1) k more.names.items) (sym done.ends)
          (subst (λ k. AreWalked (fin.entries tree.nodes) (at + 1) (lines.ends.items ++ length k ∷ []) k) (sym done.names)
          (walked_more nodes order tree are at node (next_names lines.ends.items lines.names.items node) lines.ends.items lines.names.items n (way.walked tree are)));
      later = omega (arith, later, way.later);
    }

    -- or stop
    pub stops : (e : ListErr) → IsNodeStopped all node now new lines e → (tree : Tree) → AreNodesOf nodes tree → IsStopped e (tree_lines all tree) old new
    stops e stopped tree are =
        subst (λ l. IsStopped e l old new) (sym (lines_cut tree (at + 1)))
        (stops_longer e (lines_at tree (at + 1)) (flat_map (lines_of all) (drop (at + 1) (fin.entries tree.nodes))) old new
        (subst (λ l. IsStopped e l old new) (sym (one_more tree are at node lines.ends.items lines.names.items is (way.walked tree are)))
        (stopped old (lines_at tree at) (way.listed tree are))))

  -- all nodes are put
  pub ended : (at : ℕ) (old now : Option (List ℕ)) (lines : Lines) (before faults : ℕ) → at ≡ length nodes → IsOnWay all nodes at old now lines before faults
      → (tree : Tree) → AreNodesOf nodes tree → AreListed (tree_lines all tree) old now lines.text.items
  ended at old now lines before faults whole way tree are =
      subst (λ l. AreListed (flat_map (lines_of all) l) old now lines.text.items) (take_all at (fin.entries tree.nodes) (omega (arith, whole, are.count))) (way.listed tree are)

pub none_written : (all : Bool) (old : Option (List ℕ)) (tree : Tree) → IsStopped errors.NoMemory (tree_lines all tree) old old
none_written all old tree = (0, appends_none old)

-- ---- the whole text

module _ (all : Bool) (tree : Tree) (state : LockState) (generation : ℕ) (spot : Spot) (locked : tree.lock ≡ state) where
  abbrev text : List ℕ
  text = listing_text all generation spot tree

  abbrev last : List ℕ
  last = last_lines all state generation spot

  -- what was written, what is held, and what stands behind the lines of the nodes
  text_is : (old now : Option (List ℕ)) (held : List ℕ) (listed : AreListed (tree_lines all tree) old now held) → text ≡ concat listed.passed ++ (held ++ last)
  text_is old now held listed =
      ap (λ s. concat (tree_lines all tree) ++ last_lines all s generation spot) locked
      ∙ ap (λ l. l ++ last) (listed_text (tree_lines all tree) old now held listed) ∙ append_assoc (concat listed.passed) held last

  pub done : (old now new : Option (List ℕ)) (held rest : List ℕ) → AreListed (tree_lines all tree) old now held
      → rest ≡ held ++ last → Appends now new rest → Appends old new text
  done old now new held rest listed put more =
      subst (Appends old new) (ap (λ l. concat listed.passed ++ l) put ∙ sym (text_is old now held listed)) (appends_more old now new (concat listed.passed) rest listed.written more)

  -- where the last write fails, a front of the whole listing stands written
  pub last_failed : (old now new : Option (List ℕ)) (held rest : List ℕ) → AreListed (tree_lines all tree) old now held
      → rest ≡ held ++ last → AppendsFront now new rest → AppendsFront old new text
  last_failed old now new held rest listed put front =
      front_written old now new (concat listed.passed) rest [] text
      (text_is old now held listed ∙ ap (λ l. concat listed.passed ++ l) (sym put) ∙ sym (whole_list (concat listed.passed ++ rest))) listed.written front

-- where memory is refused for the last lines, whole lines were written
pub last_refused : (all : Bool) (tree : Tree) (old now : Option (List ℕ)) (held : List ℕ) → AreListed (tree_lines all tree) old now held
    → IsStopped errors.NoMemory (tree_lines all tree) old now
last_refused all tree old now held listed =
    subst (λ l. IsStopped errors.NoMemory l old now) (whole_list (tree_lines all tree)) (refused [] now held old (tree_lines all tree) listed)

-- what a stop in the middle of the tree leaves is a listing cut short
pub cut_short : (all : Bool) (tree : Tree) (generation : ℕ) (spot : Spot) (e : ListErr) (old new : Option (List ℕ)) → IsStopped e (tree_lines all tree) old new
    → IsCutShort all e (listing_text all generation spot tree) tree old new
cut_short all tree generation spot errors.Sink old new stopped =
    let front = front_of [] (concat (tree_lines all tree)) (last_lines all tree.lock generation spot) stopped.0 in
    (front.0, subst (Appends old new) (sym front.1) stopped.1)
cut_short all tree generation spot errors.NoMemory old new stopped = stopped

-- five texts, one behind the other
pub joined : (o a b c d e : List ℕ) → ((((o ++ a) ++ b) ++ c) ++ d) ++ e ≡ o ++ ((((a ++ b) ++ c) ++ d) ++ e)
joined o a b c d e =
    ap (λ l. ((l ++ c) ++ d) ++ e) (append_assoc o a b) ∙ ap (λ l. (l ++ d) ++ e) (append_assoc o (a ++ b) c)
    ∙ ap (λ l. l ++ e) (append_assoc o ((a ++ b) ++ c) d) ∙ append_assoc o (((a ++ b) ++ c) ++ d) e
