-- An index tells one value at most: the list of its nodes shows which of them are in which directory.
use Rattle.std.proofs.Common.{◌≡◌, ℕ, ◌+◌, ◌<◌, List, [], ◌∷◌, ◌++◌, subst, refl, sym, ap, ◌∙◌, arith}
use Rattle.std.specs.Prelude.{⊤}
use Rattle.std.proofs.lemmas.List.{append_assoc, append-nil}
use Rattle.index_model.specs.declared.indexes.Index.{Index}
use Rattle.index_model.specs.declared.nodes.NodeKind.{NodeKind}
use Rattle.index_model.specs.declared.nodes.NodeKind.TheVariants as kinds
use Rattle.index_model.specs.declared.nodes.RawExtent.{RawExtent}
use Rattle.index_model.specs.Values.{IndexValue, NodeFacts, NodeValue, Nodes, Tells, VolumeFacts, all_nodes, count, listed, value_in}
use Rattle.index_model.specs.Values.Nodes.{no_nodes, directory, file, link}

-- the first of these nodes, if there is one, is in a directory that stands before place p
abbrev BeginsBefore : ℕ → List NodeValue → Type 0
BeginsBefore p [] = ⊤
BeginsBefore p (x ∷ xs) = x.parent < p

-- ---- two lists that are one begin alike

record BeginAlike (x y : NodeValue) (xs ys : List NodeValue) : Type 0 where
  parent : x.parent ≡ y.parent
  facts : x.facts ≡ y.facts
  kind : x.kind ≡ y.kind
  rest : xs ≡ ys

same_head : (x y : NodeValue) (xs ys : List NodeValue) → x ∷ xs ≡ y ∷ ys → x ≡ y
same_head x y xs ys e = cc

same_rest : (x y : NodeValue) (xs ys : List NodeValue) → x ∷ xs ≡ y ∷ ys → xs ≡ ys
same_rest x y xs ys e = cc

begin_alike : (x y : NodeValue) (xs ys : List NodeValue) → x ∷ xs ≡ y ∷ ys → BeginAlike x y xs ys
begin_alike x y xs ys e =
    let h = same_head x y xs ys e in
    record { parent = ap (λ v. v.parent) h; facts = ap (λ v. v.facts) h; kind = ap (λ v. v.kind) h; rest = same_rest x y xs ys e }

dir_file : (bytes : ℕ) (extents : List RawExtent) → kinds.Dir ≡ kinds.File bytes extents → ⊥
dir_file bytes extents e = cc

dir_link : (text : List ℕ) → kinds.Dir ≡ kinds.Link text → ⊥
dir_link text e = cc

file_link : (bytes : ℕ) (extents : List RawExtent) (text : List ℕ) → kinds.File bytes extents ≡ kinds.Link text → ⊥
file_link bytes extents text e = cc

same_bytes : (b c : ℕ) (x y : List RawExtent) → kinds.File b x ≡ kinds.File c y → b ≡ c
same_bytes b c x y e = cc

same_extents : (b c : ℕ) (x y : List RawExtent) → kinds.File b x ≡ kinds.File c y → x ≡ y
same_extents b c x y e = cc

same_text : (s t : List ℕ) → kinds.Link s ≡ kinds.Link t → s ≡ t
same_text s t e = cc

-- a node of this directory stands not behind all that is in the directory
not_behind : (p : ℕ) (f : NodeFacts) (kind : NodeKind) (xs ys : List NodeValue) → BeginsBefore p xs → xs ≡ value_in p f kind ∷ ys → ⊥
not_behind p f kind xs ys before e = let less : p < p = subst (BeginsBefore p) e before in omega (arith, less)

-- what is behind the nodes of a directory begins before a place too, if what comes after them does
begins_behind : (p q at : ℕ) (tree : Nodes) (xs : List NodeValue) → p < q → BeginsBefore p xs → BeginsBefore q (listed p at tree ++ xs)
begins_behind p q at no_nodes [] less before = tt
begins_behind p q at no_nodes (x ∷ xs) less before = omega (arith, less, before)
begins_behind p q at (directory f inside behind) xs less before = less
begins_behind p q at (file f bytes extents behind) xs less before = less
begins_behind p q at (link f text behind) xs less before = less

-- ---- two lists of the nodes of one directory that are one

same_listed : (a b : Nodes) (p at : ℕ) (xs ys : List NodeValue) → p < at → BeginsBefore p xs → BeginsBefore p ys → listed p at a ++ xs ≡ listed p at b ++ ys → (a ≡ b) × (xs ≡ ys)
same_listed no_nodes no_nodes p at xs ys less hx hy e = (refl, e)
same_listed no_nodes (directory g in_b b) p at xs ys less hx hy e = absurd (not_behind p g _ xs _ hx e)
same_listed no_nodes (file g m y b) p at xs ys less hx hy e = absurd (not_behind p g _ xs _ hx e)
same_listed no_nodes (link g t b) p at xs ys less hx hy e = absurd (not_behind p g _ xs _ hx e)
same_listed (directory f in_a a) no_nodes p at xs ys less hx hy e = absurd (not_behind p f _ ys _ hy (sym e))
same_listed (file f n x a) no_nodes p at xs ys less hx hy e = absurd (not_behind p f _ ys _ hy (sym e))
same_listed (link f s a) no_nodes p at xs ys less hx hy e = absurd (not_behind p f _ ys _ hy (sym e))
same_listed (directory f in_a a) (file g m y b) p at xs ys less hx hy e = absurd (dir_file m y (begin_alike _ _ _ _ e).kind)
same_listed (directory f in_a a) (link g t b) p at xs ys less hx hy e = absurd (dir_link t (begin_alike _ _ _ _ e).kind)
same_listed (file f n x a) (directory g in_b b) p at xs ys less hx hy e = absurd (dir_file n x (sym (begin_alike _ _ _ _ e).kind))
same_listed (file f n x a) (link g t b) p at xs ys less hx hy e = absurd (file_link n x t (begin_alike _ _ _ _ e).kind)
same_listed (link f s a) (directory g in_b b) p at xs ys less hx hy e = absurd (dir_link s (sym (begin_alike _ _ _ _ e).kind))
same_listed (link f s a) (file g m y b) p at xs ys less hx hy e = absurd (file_link m y s (sym (begin_alike _ _ _ _ e).kind))
same_listed (file f n x a) (file g m y b) p at xs ys less hx hy e =
    let h = begin_alike _ _ _ _ e in
    let rest = same_listed a b p (at + 1) xs ys (omega (arith, less)) hx hy h.rest in
    let same_f : f ≡ g = h.facts in
    let same_n : n ≡ m = same_bytes n m x y h.kind in
    let same_x : x ≡ y = same_extents n m x y h.kind in
    let same_a : a ≡ b = rest.0 in
    (cc, rest.1)
same_listed (link f s a) (link g t b) p at xs ys less hx hy e =
    let h = begin_alike _ _ _ _ e in
    let rest = same_listed a b p (at + 1) xs ys (omega (arith, less)) hx hy h.rest in
    let same_f : f ≡ g = h.facts in
    let same_s : s ≡ t = same_text s t h.kind in
    let same_a : a ≡ b = rest.0 in
    (cc, rest.1)
same_listed (directory f in_a a) (directory g in_b b) p at xs ys less hx hy e =
    let h = begin_alike _ _ _ _ e in
    let left = listed p (at + 1 + count in_a) a in
    let right = listed p (at + 1 + count in_b) b in
    let parts : listed at (at + 1) in_a ++ (left ++ xs) ≡ listed at (at + 1) in_b ++ (right ++ ys) =
    sym (append_assoc (listed at (at + 1) in_a) left xs) ∙ h.rest ∙ append_assoc (listed at (at + 1) in_b) right ys in
    let inside = same_listed in_a in_b at (at + 1) (left ++ xs) (right ++ ys) (omega arith)
    (begins_behind p at (at + 1 + count in_a) a xs less hx)
    (begins_behind p at (at + 1 + count in_b) b ys less hy)
    parts in
    let behind : left ++ xs ≡ listed p (at + 1 + count in_a) b ++ ys =
    inside.1 ∙ sym (ap (λ (tree : Nodes). listed p (at + 1 + count tree) b ++ ys) inside.0) in
    let rest = same_listed a b p (at + 1 + count in_a) xs ys (omega (arith, less)) hx hy behind in
    let same_f : f ≡ g = h.facts in
    let same_in : in_a ≡ in_b = inside.0 in
    let same_a : a ≡ b = rest.0 in
    (cc, rest.1)

-- ---- whole values

same_value : (v w : IndexValue) → v.volume ≡ w.volume → v.root ≡ w.root → v.inside ≡ w.inside → v ≡ w
same_value v w volume root inside =
    let step : (facts : VolumeFacts) (root : NodeFacts) (tree : Nodes) → IndexValue = λ facts root tree. record { volume = facts; root = root; inside = tree } in
    ap (λ x. step x v.root v.inside) volume ∙ ap (λ x. step w.volume x v.inside) root ∙ ap (λ x. step w.volume w.root x) inside

-- an index tells one value at most
pub one_value : (index : Index) (v w : IndexValue) → Tells index v → Tells index w → v ≡ w
one_value index v w a b =
    let both : all_nodes v ≡ all_nodes w = sym a.nodes ∙ b.nodes in
    let h = begin_alike _ _ _ _ both in
    let ends : listed 0 1 v.inside ++ [] ≡ listed 0 1 w.inside ++ [] = append-nil (listed 0 1 v.inside) ∙ h.rest ∙ sym (append-nil (listed 0 1 w.inside)) in
    same_value v w (sym a.volume ∙ b.volume) h.facts (same_listed v.inside w.inside 0 1 [] [] (omega arith) tt tt ends).0
