-- That the texts of the paths of a tree's nodes are made one from another.
use Rattle.std.proofs.Common.{◌≡◌, T, Bool, true, false, ℕ, zero, suc, ◌+◌, ◌<◌, List, [], ◌∷◌, ◌++◌, codes, decimal, length, take, map, get_or, Some, inl, inr, ◌⊎◌, sym, ap, ◌∙◌, refl, arith, append_assoc, length-append}
use Rattle.std.specs.List.{slice_get}
use Rattle.std.specs.FinMap as fin
use Rattle.std.specs.Ordering.{is_lt}
use Rattle.std.proofs.Math.Seq.{take-append_seam}
use Rattle.std.proofs.lemmas.Grind.{flat_map-append}
use Rattle.std.proofs.lemmas.List.{get_or-map, get_or-take, length-map, length-take-le, map_more}
use Rattle.std.proofs.lemmas.Option.{get_or_from_slice_get, slice_get_within, same_Some}
use Rattle.tape_types.specs.NodeKeys.Keys.{entries_of}
use Rattle.index_model.specs.declared.nodes.Node as told
use Rattle.index_model.specs.declared.nodes.NodeKind as told_kind
use Rattle.index_model.specs.declared.nodes.NodeKind.TheVariants as told_kinds
use Rattle.index_model.specs.Order.{AreInOrder, LiesIn, itself, through}
use Rattle.index_model.specs.Places.{IsAt}
use Rattle.plain_tree.specs.Paths.{Path, path_cmp}
use Rattle.plain_tree.specs.Tree.{Tree}
use Rattle.plain_tree.specs.declared.nodes.Node.{Node}
use Rattle.plain_tree.specs.declared.nodes.Kind.{Kind}
use Rattle.plain_tree.specs.declared.nodes.Kind.TheVariants as kinds
use Rattle.plain_tree.proofs.MoveLemmas.{both_true}
use Rattle.session_script.specs.Escapes.{escaped}
use Rattle.tree_listing.specs.Listing.{key_lines, line_end, lines_of, names_text, path_text, words_of_kind, AreNodesOf, Tells, TellsKind}
use Rattle.tree_listing.specs.Steps.{AreWalked, next_names, shown, told_keys, told_line, told_lines, told_words_of}

whole_list : {X : Type 0} (l : List X) → l ++ [] ≡ l
whole_list [] = refl
whole_list (b ∷ l) = ap (λ k. b ∷ k) (whole_list l)

one_before : {X : Type 0} (xs : List X) (i : ℕ) (x : X) → slice_get xs (suc i) ≡ Some x → (y : X) × (slice_get xs i ≡ Some y)
one_before [] i x is = cc
one_before (y ∷ xs) zero x is = (y, refl)
one_before (y ∷ xs) (suc i) x is = one_before xs i x is

-- what stands in a list stands at that place of one as long
there_too : {X Y : Type 0} (xs : List X) (ys : List Y) (i : ℕ) (x : X) → length xs ≡ length ys → slice_get xs i ≡ Some x → (y : Y) × (slice_get ys i ≡ Some y)
there_too [] ys i x long is = cc
there_too (z ∷ xs) [] i x long is = absurd (omega (arith, long))
there_too (z ∷ xs) (y ∷ ys) zero x long is = (y, refl)
there_too (z ∷ xs) (y ∷ ys) (suc i) x long is = there_too xs ys i x (omega (arith, long)) is

-- a path is the root's, or ends by a name
by_last : (q : Path) → (q ≡ []) ⊎ ((p : Path) × (x : List ℕ) × (q ≡ p ++ x ∷ []))
by_last [] = inl refl
by_last (y ∷ q) = inr (by (by_last q))
  where
    by : (q ≡ []) ⊎ ((p : Path) × (x : List ℕ) × (q ≡ p ++ x ∷ [])) → (p : Path) × (x : List ℕ) × (y ∷ q ≡ p ++ x ∷ [])
    by (inl e) = ([], y, ap (λ l. y ∷ l) e)
    by (inr more) = (y ∷ more.0, more.1, ap (λ l. y ∷ l) more.2)

-- ---- the root's path is the first

root_least : (k : Path) → is_lt (path_cmp k []) ≡ true → ⊥
root_least [] less = cc
root_least (x ∷ k) less = cc

never_root : (es : List (Path × Node)) (k : Path) (i : ℕ) (e : Path × Node) → fin.Entries.below_all path_cmp k es ≡ true → slice_get es i ≡ Some e → e.0 ≡ [] → ⊥
never_root [] k i e below is root = cc
never_root (f ∷ es) k zero e below is root =
    root_least k (sym (ap (λ (q : Path). is_lt (path_cmp k q)) (ap (λ (r : Path × Node). r.0) (same_Some f e is) ∙ root)) ∙ (both_true (is_lt (path_cmp k f.0)) (fin.Entries.below_all path_cmp k es) below).0)
never_root (f ∷ es) k (suc i) e below is root = never_root es k i e (both_true (is_lt (path_cmp k f.0)) (fin.Entries.below_all path_cmp k es) below).1 is root

not_root : (es : List (Path × Node)) (i : ℕ) (e : Path × Node) → fin.is_sorted path_cmp es ≡ true → 0 < i → slice_get es i ≡ Some e → e.0 ≡ [] → ⊥
not_root [] i e sorted some is root = cc
not_root (f ∷ es) zero e sorted some is root = absurd (omega (arith, some))
not_root (f ∷ es) (suc i) e sorted some is root = never_root es f.0 i e (both_true (fin.Entries.below_all path_cmp f.0 es) (fin.is_sorted path_cmp es) sorted).0 is root

T_is : (b : Bool) → T b → b ≡ true
T_is true t = refl
T_is false t = absurd t

-- ---- the texts

-- behind the text of a directory's path comes the name
text_more : (u : Path) (x : List ℕ) → names_text (u ++ x ∷ []) ≡ names_text u ++ codes "/" ++ escaped x
text_more u x =
    flat_map-append (λ name. codes "/" ++ escaped name) u (x ∷ [])
    ∙ ap (λ l. names_text u ++ l) (whole_list (codes "/" ++ escaped x)) ∙ sym (append_assoc (names_text u) (codes "/") (escaped x))

-- the text of a path begins with those of the paths above it
text_cut : (u rest : Path) → take (length (names_text u)) (names_text (u ++ rest)) ≡ names_text u
text_cut u rest =
    ap (take (length (names_text u))) (flat_map-append (λ name. codes "/" ++ escaped name) u rest)
    ∙ take-append_seam (names_text u) (names_text rest)

shown_path : (p : Path) → shown (names_text p) ≡ path_text p
shown_path [] = refl
shown_path (name ∷ p) = refl

same_kind : (path : List ℕ) (uid : ℕ) (told : told_kind.NodeKind) (kind : Kind) → TellsKind told kind → told_words_of path uid told ≡ words_of_kind path uid kind
same_kind path uid told_kinds.Dir kinds.Dir tells = refl
same_kind path uid (told_kinds.File size extents) (kinds.File cells) tells =
    ap (λ n. codes "f " ++ decimal uid ++ codes " " ++ decimal n ++ codes " " ++ path) tells
same_kind path uid (told_kinds.Link text) (kinds.Link same) tells =
    ap (λ t. codes "l " ++ decimal uid ++ codes " " ++ path ++ codes " " ++ escaped t) tells
same_kind path uid told kind tells = absurd tells

abbrev size_of : (Path × Node) → ℕ
size_of e = length (names_text e.0)

-- where the text of a path ended is told at its place
known_end : (es : List (Path × Node)) (count place : ℕ) (u : Path) (dir : Node) → count < length es → place < count → slice_get es place ≡ Some (u, dir)
    → get_or (map size_of (take count es)) place 0 ≡ length (names_text u)
known_end es count place u dir within before is =
    get_or-map size_of (take count es) place (u, dir) 0 (omega (arith, before, within, length-take-le count es (omega (arith, within))))
    ∙ ap size_of (get_or-take count es place (u, dir) before ∙ get_or_from_slice_get es place (u, dir) (u, dir) is)

-- a node that isn't the first goes on from the text of its directory
next_later : (ends names : List ℕ) (node : told.Node) → 0 < length ends
    → next_names ends names node ≡ take (get_or ends node.parent 0) names ++ codes "/" ++ escaped node.name
next_later [] names node some = absurd (omega (arith, some))
next_later (end ∷ ends) names node some = refl

module _ (nodes : List told.Node) (order : AreInOrder nodes) (tree : Tree) (are : AreNodesOf nodes tree) where
  abbrev es : List (Path × Node)
  es = fin.entries tree.nodes

  -- the first node is the root's
  first_path : (node : told.Node) (e : Path × Node) → IsAt nodes 0 node → slice_get es 0 ≡ Some e → e.0 ≡ []
  first_path node e is at = by (by_last e.0)
    where
      top : node.parent ≡ 0
      top = ap (λ (n : told.Node). n.parent) (same_Some node order.root (sym is ∙ order.first)) ∙ order.is_root.parent

      by : (e.0 ≡ []) ⊎ ((p : Path) × (x : List ℕ) × (e.0 ≡ p ++ x ∷ [])) → e.0 ≡ []
      by (inl none) = none
      by (inr (p, x, path)) =
          let dir = (are.each 0 node e is at).parent p x path in
          let same : p ≡ e.0 = ap (λ (r : Path × Node). r.0) (same_Some (p, dir.0) e (sym dir.1 ∙ ap (slice_get es) top ∙ at)) in
          absurd (omega (arith, ap length same, ap length path, length-append p (x ∷ [])))

  -- a node behind the first, by its path
  record IsLater (at : ℕ) (node : told.Node) : Type 0 where
    pub u : Path
    pub x : List ℕ
    pub n : Node
    pub is : slice_get es at ≡ Some (u ++ x ∷ [], n)
    pub tells : Tells tree node (u ++ x ∷ [], n)
    pub dir : Node
    pub above : slice_get es node.parent ≡ Some (u, dir)

  later : (at : ℕ) (node : told.Node) → 0 < at → IsAt nodes at node → IsLater at node
  later at node some is = let e = there_too nodes es at node are.count is in by e.0 e.1 (by_last e.0.0)
    where
      by : (e : Path × Node) → slice_get es at ≡ Some e → (e.0 ≡ []) ⊎ ((p : Path) × (x : List ℕ) × (e.0 ≡ p ++ x ∷ [])) → IsLater at node
      by e at_e (inl none) = absurd (not_root es at e (T_is _ (fin.entries_sorted tree.nodes)) some at_e none)
      by e at_e (inr (p, x, path)) =
          let there : slice_get es at ≡ Some (p ++ x ∷ [], e.1) = at_e ∙ ap (λ q. Some (q, e.1)) path in
          let tells = are.each at node (p ++ x ∷ [], e.1) is there in
          let up = tells.parent p x refl in
          record { u = p; x = x; n = e.1; is = there; tells = tells; dir = up.0; above = up.1 }

  goes_on : (at upper : ℕ) → LiesIn nodes at upper → (p q : Path) (x y : Node) → slice_get es at ≡ Some (p, x) → slice_get es upper ≡ Some (q, y) → (rest : Path) × (p ≡ q ++ rest)
  goes_on _ _ (itself at) p q x y is_p is_q =
      ([], ap (λ (r : Path × Node). r.0) (same_Some (p, x) (q, y) (sym is_p ∙ is_q)) ∙ sym (whole_list q))
  goes_on _ _ (through at upper node some is lies) p q x y is_p is_q =
      let l = later at node some is in
      let path : p ≡ l.u ++ l.x ∷ [] = ap (λ (r : Path × Node). r.0) (same_Some (p, x) (l.u ++ l.x ∷ [], l.n) (sym is_p ∙ l.is)) in
      let more = goes_on node.parent upper lies l.u q l.dir y l.above is_q in
      (more.0 ++ l.x ∷ [], path ∙ ap (λ u. u ++ l.x ∷ []) more.1 ∙ append_assoc q more.0 (l.x ∷ []))

  -- the next node, and the text of its path
  pub record IsNext (at : ℕ) (node : told.Node) (names : List ℕ) : Type 0 where
    pub e : Path × Node
    pub is : slice_get es at ≡ Some e
    pub tells : Tells tree node e
    pub text : names ≡ names_text e.0

  -- the text of a node's names is made from the text of the node before it
  pub next : (at : ℕ) (node : told.Node) (ends names : List ℕ) → IsAt nodes at node → AreWalked es at ends names → IsNext at node (next_names ends names node)
  next zero node ends names is walked =
      let e = there_too nodes es 0 node are.count is in
      record {
        e = e.0;
        is = e.1;
        tells = are.each 0 node e.0 is e.1;
        text = ap (λ l. next_names l names node) walked.ends_are ∙ walked.begins refl ∙ sym (ap names_text (first_path node e.0 is e.1));
      }
  next (suc at) node ends names is walked =
      let l = later (suc at) node (omega arith) is in
      let before = one_before es at (l.u ++ l.x ∷ [], l.n) l.is in
      let within = slice_get_within es (suc at) (l.u ++ l.x ∷ [], l.n) l.is in
      let more = goes_on at node.parent (order.together at node is) before.0.0 l.u before.0.1 l.dir before.1 l.above in
      let some : 0 < length ends = omega (
        arith,
        within,
        ap length walked.ends_are,
        length-map (take (suc at) es) size_of,
        length-take-le (suc at) es (omega (arith, within)),
      ) in
      let end : get_or ends node.parent 0 ≡ length (names_text l.u) =
      ap (λ k. get_or k node.parent 0) walked.ends_are ∙ known_end es (suc at) node.parent l.u l.dir within (order.before (suc at) node (omega arith) is) l.above in
      let last : names ≡ names_text (l.u ++ more.0) = walked.last at before.0 refl before.1 ∙ ap names_text more.1 in
      record {
        e = (l.u ++ l.x ∷ [], l.n);
        is = l.is;
        tells = l.tells;
        text = next_later ends names node some
            ∙ ap (λ k. take k names ++ codes "/" ++ escaped node.name) end
            ∙ ap (λ k. take (length (names_text l.u)) k ++ codes "/" ++ escaped node.name) last
            ∙ ap (λ k. k ++ codes "/" ++ escaped node.name) (text_cut l.u more.0)
            ∙ ap (λ k. names_text l.u ++ codes "/" ++ escaped k) (l.tells.name l.u l.x refl)
            ∙ sym (text_more l.u l.x);
      }

  -- its lines
  pub lines_are : (all : Bool) (at : ℕ) (node : told.Node) (names : List ℕ) (n : IsNext at node names) → told_lines all names node ≡ lines_of all n.e
  lines_are all at node names n = ap (λ line. line ∷ told_keys all names node.xattrs) own ∙ ap (λ keys. own_line ∷ keys) attributes
    where
      path : List ℕ
      path = path_text n.e.0

      own_line : List ℕ
      own_line = words_of_kind path n.e.1.uid n.e.1.kind ++ line_end all n.e.1.readonly

      path_is : shown names ≡ path
      path_is = ap shown n.text ∙ shown_path n.e.0

      own : told_line all names node ≡ own_line
      own =
          ap (λ k. told_words_of k node.uid node.kind ++ line_end all node.readonly) path_is
          ∙ ap (λ k. told_words_of path k node.kind ++ line_end all node.readonly) n.tells.uid
          ∙ ap (λ k. k ++ line_end all node.readonly) (same_kind path n.e.1.uid node.kind n.e.1.kind n.tells.kind)
          ∙ ap (λ k. words_of_kind path n.e.1.uid n.e.1.kind ++ line_end all k) n.tells.readonly

      attributes : told_keys all names node.xattrs ≡ key_lines all path (fin.entries n.e.1.keys)
      attributes = ap (λ k. key_lines all k (entries_of node.xattrs)) path_is ∙ ap (key_lines all path) n.tells.keys

  -- one node further
  pub walked_more : (at : ℕ) (node : told.Node) (names ends old : List ℕ) (n : IsNext at node names) → AreWalked es at ends old
      → AreWalked es (at + 1) (ends ++ length names ∷ []) names
  walked_more at node names ends old n walked =
      let within = slice_get_within es at n.e n.is in
      record {
        ends_are = ap (λ l. l ++ length names ∷ []) walked.ends_are
            ∙ ap (λ k. map size_of (take at es) ++ k ∷ []) (ap length n.text ∙ ap size_of (sym (get_or_from_slice_get es at n.e n.e n.is)))
            ∙ sym (map_more size_of es at n.e within);
        begins = λ none. absurd (omega (arith, none));
        last = λ k e same is.
            let here : at ≡ k = omega (arith, same) in
            n.text ∙ ap (λ (r : Path × Node). names_text r.0) (same_Some n.e e (sym n.is ∙ ap (slice_get es) here ∙ is));
      }
