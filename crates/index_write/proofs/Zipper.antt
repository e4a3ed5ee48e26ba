-- The nodes of an index in their order, one by one, with the directories that are open.
use Rattle.std.proofs.Common.{◌≡◌, ◌≢◌, ℕ, zero, suc, ◌+◌, ◌-◌, ◌<◌, ◌≤◌, List, [], ◌∷◌, ◌++◌, length, map, drop, get_or, Some, refl, sym, ap, subst, ◌∙◌, append_assoc, append-nil, arith, drop-cons}
use Rattle.std.specs.List.{slice_get}
use Rattle.std.proofs.lemmas.List.{drop_all}
use Rattle.std.proofs.lemmas.Option.{slice_get-get_or}
use Rattle.index_model.specs.declared.nodes.NodeKind.{NodeKind}
use Rattle.index_model.specs.declared.nodes.NodeKind.TheVariants as kinds
use Rattle.index_model.specs.declared.nodes.Node.{Node}
use Rattle.index_model.specs.Canonical.{attributes, directory_text, name, nodes_text, number, times, truth}
use Rattle.ltfs_documents.specs.declared.doc_fields.starts.Attribute.TheVariants.{Absent}
use Rattle.ltfs_documents.specs.declared.doc_fields.tags.Tag.TheVariants.{Contents, Directory, FileUid, Name, ReadOnly}
use Rattle.ltfs_documents.specs.DocFields.Written.{end_text, start_text}
use Rattle.index_model.specs.Values.{IndexValue, Nodes, no_nodes, directory, file, link, NodeFacts, NodeValue, all_nodes, count, listed, value_in, value_of}
use Rattle.index_write.specs.declared.nodes.Open.{Open}
use Rattle.index_write.specs.Parts.{closing, node_text, opening, traits, tree_text}
use Rattle.index_write.specs.Rests.{Behind, Goes, Rests, Within, closings, coming, coming_text, opened, parent_at}

cut : (nodes : List Node) (at : ℕ) (d : Node) → at < length nodes → drop at nodes ≡ get_or nodes at d ∷ drop (at + 1) nodes
cut nodes at d lt =
    let next : suc at ≡ at + 1 = omega arith in
    drop-cons nodes at d lt ∙ ap (λ (n : ℕ). get_or nodes at d ∷ drop n nodes) next

-- the node at a place stands at the front of the rest
pub record Front (nodes : List Node) (at : ℕ) : Type 0 where
  pub node : Node
  pub is : slice_get nodes at ≡ Some node
  pub rest : drop at nodes ≡ node ∷ drop (at + 1) nodes

front : (nodes : List Node) (at : ℕ) (d : Node) → at < length nodes → Front nodes at
front nodes at d lt = record { node = get_or nodes at d; is = slice_get-get_or nodes at d lt; rest = cut nodes at d lt }

-- a directory ends
pub record Ends (nodes : List Node) (at : ℕ) (o : Open) (text : List ℕ) : Type 0 where
  pub some : 0 < o.depth
  pub rest : List ℕ
  pub rests : Rests nodes at (record { dir = parent_at nodes o.dir; depth = o.depth - 1 }) rest
  pub text_is : text ≡ closing ++ rest

head_of : {X : Type 0} (x y : X) (xs ys : List X) → x ∷ xs ≡ y ∷ ys → x ≡ y
head_of x y xs ys e = cc

tail_of : {X : Type 0} (x y : X) (xs ys : List X) → x ∷ xs ≡ y ∷ ys → xs ≡ ys
tail_of x y xs ys e = cc

ends_inside : (nodes : List Node) (at : ℕ) (o : Open) (x : NodeValue) (xs : List NodeValue) (inside : Nodes) (behind : Behind)
    → x ∷ xs ≡ map value_of (drop at nodes) → x.parent ≢ o.dir → length behind ≡ o.depth → o.dir < at → Within nodes o.dir behind
    → map value_of (drop at nodes) ≡ listed o.dir at inside ++ coming (at + count inside) behind → Ends nodes at o (nodes_text inside ++ coming_text behind)
ends_inside nodes at o x xs (directory f i b) behind first apart depth before within is = absurd (apart (ap (λ (n : NodeValue). n.parent) (head_of _ _ _ _ (first ∙ is))))
ends_inside nodes at o x xs (file f n e b) behind first apart depth before within is = absurd (apart (ap (λ (n : NodeValue). n.parent) (head_of _ _ _ _ (first ∙ is))))
ends_inside nodes at o x xs (link f t b) behind first apart depth before within is = absurd (apart (ap (λ (n : NodeValue). n.parent) (head_of _ _ _ _ (first ∙ is))))
ends_inside nodes at o x xs no_nodes [] first apart depth before within is = let e = first ∙ is in absurd cc
ends_inside nodes at o x xs no_nodes (b ∷ behind) first apart depth before within is =
    let up : parent_at nodes o.dir ≡ b.0 = within.0 in
    let same : at + 0 ≡ at = omega arith in
    record {
      some = omega (arith, depth);
      rest = nodes_text b.1 ++ coming_text behind;
      rests = record {
        inside = b.1;
        behind = behind;
        depth = omega (arith, depth);
        before = omega (arith, up, within.1, before);
        within = subst (λ (n : ℕ). Within nodes n behind) (sym up) within.2;
        nodes_are = is ∙ ap (λ (n : ℕ). coming n (b ∷ behind)) same ∙ ap (λ (n : ℕ). listed n at b.1 ++ coming (at + count b.1) behind) (sym up);
        text_is = refl;
      };
      text_is = refl;
    }

-- where the next node is not of the innermost open directory, that directory ends
pub ends : (nodes : List Node) (at : ℕ) (o : Open) (text : List ℕ) (d : Node) → at < length nodes → parent_at nodes at ≢ o.dir → Rests nodes at o text → Ends nodes at o text
ends nodes at o text d lt apart r =
    let f = front nodes at d lt in
    let first : value_of f.node ∷ map value_of (drop (at + 1) nodes) ≡ map value_of (drop at nodes) = sym (ap (map value_of) f.rest) in
    let parent : parent_at nodes at ≡ f.node.parent = rw f.is refl in
    subst (λ (t : List ℕ). Ends nodes at o t) (sym r.text_is) (ends_inside nodes at o (value_of f.node) (map value_of (drop (at + 1) nodes)) r.inside r.behind first (λ e. apart (parent ∙ e)) r.depth r.before r.within r.nodes_are)

-- a node is written
pub record Writes (nodes : List Node) (at : ℕ) (o : Open) (node : Node) (text : List ℕ) : Type 0 where
  pub rest : List ℕ
  pub rests : Rests nodes (at + 1) (opened node.kind at o) rest
  pub text_is : text ≡ node_text (value_of node) ++ rest

-- what comes from outer directories stands in one of these
outer : (nodes : List Node) (dir at : ℕ) (x : NodeValue) (xs : List NodeValue) (behind : Behind) → Within nodes dir behind → x ∷ xs ≡ coming at behind → x.parent < dir
outer nodes dir at x xs [] within e = absurd cc
outer nodes dir at x xs ((p, no_nodes) ∷ behind) within e = omega (arith, within.1, outer nodes p (at + 0) x xs behind within.2 e)
outer nodes dir at x xs ((p, directory f i b) ∷ behind) within e = omega (arith, within.1, ap (λ (n : NodeValue). n.parent) (head_of _ _ _ _ e))
outer nodes dir at x xs ((p, file f n l b) ∷ behind) within e = omega (arith, within.1, ap (λ (n : NodeValue). n.parent) (head_of _ _ _ _ e))
outer nodes dir at x xs ((p, link f t b) ∷ behind) within e = omega (arith, within.1, ap (λ (n : NodeValue). n.parent) (head_of _ _ _ _ e))

parts : (s u n t r a c i ec ed m : List ℕ) → (s ++ (u ++ n ++ t ++ r ++ a ++ (c ++ i ++ ec)) ++ ed) ++ m ≡ (s ++ (u ++ n ++ (t ++ r ++ a)) ++ c) ++ (i ++ ((ec ++ ed) ++ m))
parts s u n t r a c i ec ed m = simp (append_assoc)

-- the text of a directory, which ends behind its children
directory_parts : (f : NodeFacts) (inside more : List ℕ) → directory_text f inside ++ more ≡ opening f ++ (inside ++ (closing ++ more))
unfolding opening traits
directory_parts f inside more = parts (start_text Directory Absent) (number FileUid f.uid) (name Name f.name) (times f.times) (truth ReadOnly f.readonly) (attributes f.xattrs) (start_text Contents Absent) inside (end_text Contents) (end_text Directory) more

writes_inside : (nodes : List Node) (at : ℕ) (o : Open) (node : Node) (xs : List NodeValue) (inside : Nodes) (behind : Behind)
    → value_of node ∷ xs ≡ map value_of (drop at nodes) → map value_of (drop (at + 1) nodes) ≡ xs → parent_at nodes at ≡ o.dir → node.parent ≡ o.dir → length behind ≡ o.depth → o.dir < at → Within nodes o.dir behind
    → map value_of (drop at nodes) ≡ listed o.dir at inside ++ coming (at + count inside) behind → Writes nodes at o node (nodes_text inside ++ coming_text behind)
writes_inside nodes at o node xs no_nodes behind first next up parent depth before within is = absurd (omega (arith, parent, outer nodes o.dir (at + 0) (value_of node) xs behind within (first ∙ is)))
writes_inside nodes at o node xs (directory f i b) behind first next up parent depth before within is =
    let same : value_of node ≡ value_in o.dir f kinds.Dir = head_of _ _ _ _ (first ∙ is) in
    let kind : node.kind ≡ kinds.Dir = ap (λ (n : NodeValue). n.kind) same in
    let more = next ∙ tail_of _ _ _ _ (first ∙ is) in
    record {
      rest = nodes_text i ++ coming_text ((o.dir, b) ∷ behind);
      rests = subst (λ (k : NodeKind). Rests nodes (at + 1) (opened k at o) (nodes_text i ++ coming_text ((o.dir, b) ∷ behind))) (sym kind) (record {
        inside = i;
        behind = (o.dir, b) ∷ behind;
        depth = ap suc depth ∙ omega arith;
        before = omega arith;
        within = (up, before, within);
        nodes_are = more ∙ append_assoc (listed at (at + 1) i) (listed o.dir (at + 1 + count i) b) (coming (at + count (directory f i b)) behind) ∙ ap (λ (n : ℕ). listed at (at + 1) i ++ (listed o.dir (at + 1 + count i) b ++ coming n behind)) (omega arith);
        text_is = refl;
      });
      text_is = append_assoc (directory_text f (nodes_text i)) (nodes_text b) (coming_text behind) ∙ directory_parts f (nodes_text i) (nodes_text b ++ coming_text behind) ∙ ap (λ (n : NodeValue). node_text n ++ (nodes_text i ++ coming_text ((o.dir, b) ∷ behind))) (sym same);
    }
writes_inside nodes at o node xs (file f n l b) behind first next up parent depth before within is =
    let same : value_of node ≡ value_in o.dir f (kinds.File n l) = head_of _ _ _ _ (first ∙ is) in
    let kind : node.kind ≡ kinds.File n l = ap (λ (n : NodeValue). n.kind) same in
    let more = next ∙ tail_of _ _ _ _ (first ∙ is) in
    record {
      rest = nodes_text b ++ coming_text behind;
      rests = subst (λ (k : NodeKind). Rests nodes (at + 1) (opened k at o) (nodes_text b ++ coming_text behind)) (sym kind) (record {
        inside = b;
        behind = behind;
        depth = depth;
        before = omega (arith, before);
        within = within;
        nodes_are = more ∙ ap (λ (n : ℕ). listed o.dir (at + 1) b ++ coming n behind) (omega arith);
        text_is = refl;
      });
      text_is = append_assoc (node_text (value_in o.dir f (kinds.File n l))) (nodes_text b) (coming_text behind) ∙ ap (λ (n : NodeValue). node_text n ++ (nodes_text b ++ coming_text behind)) (sym same);
    }
writes_inside nodes at o node xs (link f t b) behind first next up parent depth before within is =
    let same : value_of node ≡ value_in o.dir f (kinds.Link t) = head_of _ _ _ _ (first ∙ is) in
    let kind : node.kind ≡ kinds.Link t = ap (λ (n : NodeValue). n.kind) same in
    let more = next ∙ tail_of _ _ _ _ (first ∙ is) in
    record {
      rest = nodes_text b ++ coming_text behind;
      rests = subst (λ (k : NodeKind). Rests nodes (at + 1) (opened k at o) (nodes_text b ++ coming_text behind)) (sym kind) (record {
        inside = b;
        behind = behind;
        depth = depth;
        before = omega (arith, before);
        within = within;
        nodes_are = more ∙ ap (λ (n : ℕ). listed o.dir (at + 1) b ++ coming n behind) (omega arith);
        text_is = refl;
      });
      text_is = append_assoc (node_text (value_in o.dir f (kinds.Link t))) (nodes_text b) (coming_text behind) ∙ ap (λ (n : NodeValue). node_text n ++ (nodes_text b ++ coming_text behind)) (sym same);
    }

writes : (nodes : List Node) (at : ℕ) (o : Open) (text : List ℕ) (node : Node) → at < length nodes → node ≡ get_or nodes at node → parent_at nodes at ≡ o.dir → Rests nodes at o text → Writes nodes at o node text
writes nodes at o text node lt it up r =
    let here : drop at nodes ≡ node ∷ drop (at + 1) nodes = cut nodes at node lt ∙ ap (λ (n : Node). n ∷ drop (at + 1) nodes) (sym it) in
    let first : value_of node ∷ map value_of (drop (at + 1) nodes) ≡ map value_of (drop at nodes) = sym (ap (map value_of) here) in
    let is : slice_get nodes at ≡ Some node = slice_get-get_or nodes at node lt ∙ ap Some (sym it) in
    let parent : parent_at nodes at ≡ node.parent = rw is refl in
    subst (λ (t : List ℕ). Writes nodes at o node t) (sym r.text_is) (writes_inside nodes at o node _ r.inside r.behind first refl up (sym parent ∙ up) r.depth r.before r.within r.nodes_are)

-- where no node is left, the directories end
all_end : (at : ℕ) (behind : Behind) → [] ≡ coming at behind → coming_text behind ≡ closings (suc (length behind))
all_end at [] e = sym (append-nil closing)
all_end at ((p, no_nodes) ∷ behind) e = ap (λ (t : List ℕ). closing ++ t) (all_end (at + 0) behind e)
all_end at ((p, directory f i b) ∷ behind) e = absurd cc
all_end at ((p, file f n l b) ∷ behind) e = absurd cc
all_end at ((p, link f t b) ∷ behind) e = absurd cc

finish_inside : (dir at : ℕ) (inside : Nodes) (behind : Behind) → [] ≡ listed dir at inside ++ coming (at + count inside) behind → nodes_text inside ++ coming_text behind ≡ closings (suc (length behind))
finish_inside dir at no_nodes behind e = all_end (at + 0) behind e
finish_inside dir at (directory f i b) behind e = absurd cc
finish_inside dir at (file f n l b) behind e = absurd cc
finish_inside dir at (link f t b) behind e = absurd cc

finishes : (nodes : List Node) (at : ℕ) (o : Open) (text : List ℕ) → drop at nodes ≡ [] → Rests nodes at o text → text ≡ closings (o.depth + 1)
finishes nodes at o text none r =
    let count : suc (length r.behind) ≡ o.depth + 1 = omega (arith, r.depth) in
    r.text_is ∙ finish_inside o.dir at r.inside r.behind (sym (ap (map value_of) none) ∙ r.nodes_are) ∙ ap closings count

-- the root stands first, and all else stands in it
pub record Begins (nodes : List Node) (root : Node) (v : IndexValue) : Type 0 where
  pub front : node_text (value_of root) ≡ opening v.root
  pub rests : Rests nodes 1 (record { dir = 0; depth = 0 }) (nodes_text v.inside ++ closing)

begins : (root : Node) (more : List Node) (v : IndexValue) → map value_of (root ∷ more) ≡ all_nodes v → Begins (root ∷ more) root v
begins root more v e = record {
  front = ap node_text (head_of _ _ _ _ e);
  rests = record {
    inside = v.inside;
    behind = [];
    depth = refl;
    before = omega arith;
    within = tt;
    nodes_are = tail_of _ _ _ _ e ∙ sym (append-nil (listed 0 1 v.inside));
    text_is = refl;
  };
}

one_end : (n : ℕ) → closings n ++ closing ≡ closings (suc n)
one_end zero = sym (append-nil closing)
one_end (suc n) = append_assoc closing (closings n) closing ∙ ap (λ (t : List ℕ). closing ++ t) (one_end n)

-- one end more
pub end_more : (old out new : List ℕ) (n : ℕ) → out ≡ old ++ closings n → new ≡ out ++ closing → new ≡ old ++ closings (n + 1)
end_more old out new n is e =
    let next : suc n ≡ n + 1 = omega arith in
    e ∙ ap (λ (t : List ℕ). t ++ closing) is ∙ append_assoc old (closings n) closing ∙ ap (λ (t : List ℕ). old ++ t) (one_end n ∙ ap closings next)

-- a node to stand for one past the end of a list that has one
pub some_node : {P : Type 0} (nodes : List Node) (at : ℕ) → at < length nodes → (Node → P) → P
some_node [] at lt f = absurd (omega (arith, lt))
some_node (x ∷ nodes) at lt f = f x

-- what goes on while a directory ends, and while a node is written
pub ends_more : (nodes : List Node) (at : ℕ) (o : Open) (old out new text : List ℕ) (d : Node) → at < length nodes → parent_at nodes at ≢ o.dir → new ≡ out ++ closing → Goes nodes at o old out text
    → Goes nodes at (record { dir = parent_at nodes o.dir; depth = o.depth - 1 }) old new text
ends_more nodes at o old out new text d lt apart put g =
    let e = ends nodes at o g.rest d lt apart g.rests in
    record { rest = e.rest; rests = e.rests; so_far = g.so_far ∙ ap (λ (t : List ℕ). out ++ t) e.text_is ∙ sym (append_assoc out closing e.rest) ∙ ap (λ (t : List ℕ). t ++ e.rest) (sym put) }

-- a node of the innermost open directory is written, and opened if it is a directory
pub writes_more : (nodes : List Node) (at : ℕ) (o : Open) (old out new text : List ℕ) (node : Node) → at < length nodes → node ≡ get_or nodes at node → parent_at nodes at ≡ o.dir → new ≡ out ++ node_text (value_of node) → Goes nodes at o old out text
    → Goes nodes (at + 1) (opened node.kind at o) old new text
writes_more nodes at o old out new text node lt it up put g =
    let w = writes nodes at o g.rest node lt it up g.rests in
    let this = node_text (value_of node) in
    record { rest = w.rest; rests = w.rests; so_far = g.so_far ∙ ap (λ (t : List ℕ). out ++ t) w.text_is ∙ sym (append_assoc out this w.rest) ∙ ap (λ (t : List ℕ). t ++ w.rest) (sym put) }

-- the place of the directory of a node
pub parent_of : (nodes : List Node) (at : ℕ) (node : Node) → at < length nodes → node ≡ get_or nodes at node → parent_at nodes at ≡ node.parent
parent_of nodes at node lt it = let is : slice_get nodes at ≡ Some node = slice_get-get_or nodes at node lt ∙ ap Some (sym it) in rw is refl

-- the root is written
pub begins_all : (nodes : List Node) (root : Node) (old new : List ℕ) (v : IndexValue) → Some root ≡ slice_get nodes 0 → new ≡ old ++ node_text (value_of root) → map value_of nodes ≡ all_nodes v → Goes nodes 1 (record { dir = 0; depth = 0 }) old new (tree_text v)
unfolding tree_text
begins_all [] root old new v first put is = absurd cc
begins_all (x ∷ more) root old new v first put is =
    let same : root ≡ x = cc in
    let b = begins x more v is in
    let rest = nodes_text v.inside ++ closing in
    let tree : directory_text v.root (nodes_text v.inside) ≡ opening v.root ++ rest =
    sym (append-nil (directory_text v.root (nodes_text v.inside))) ∙ directory_parts v.root (nodes_text v.inside) [] ∙ ap (λ (t : List ℕ). opening v.root ++ (nodes_text v.inside ++ t)) (append-nil closing) in
    let written : new ≡ old ++ opening v.root = put ∙ ap (λ (n : Node). old ++ node_text (value_of n)) same ∙ ap (λ (t : List ℕ). old ++ t) b.front in
    record { rest = rest; rests = b.rests; so_far = ap (λ (t : List ℕ). old ++ t) tree ∙ sym (append_assoc old (opening v.root) rest) ∙ ap (λ (t : List ℕ). t ++ rest) (sym written) }

-- the last ends are written
pub finishes_all : (nodes : List Node) (at : ℕ) (o : Open) (old out new text : List ℕ) → length nodes ≤ at → new ≡ out ++ closings (o.depth + 1) → Goes nodes at o old out text → new ≡ old ++ text
finishes_all nodes at o old out new text past put g =
    put ∙ ap (λ (t : List ℕ). out ++ t) (sym (finishes nodes at o g.rest (drop_all at nodes past) g.rests)) ∙ sym g.so_far

-- one behind the other
pub goes_on : (nodes : List Node) (at next : ℕ) (o p : Open) (old out new text : List ℕ) → (g : Goes nodes at o old out text) → Goes nodes next p out new g.rest → Goes nodes next p old new text
goes_on nodes at next o p old out new text g h = record { rest = h.rest; rests = h.rests; so_far = g.so_far ∙ h.so_far }
