-- What a loop tells of the first bad file.
use Rattle.std.proofs.Common.{◌≡◌, ℕ, ◌+◌, ◌<◌, ◌≤◌, List, Some, None, length, inl, inr, refl, sym, ap, subst, ◌∙◌, arith}
use Rattle.std.proofs.lemmas.Option.{slice_get_within}
use Rattle.index_model.specs.declared.faults.Fault.{Fault}
use Rattle.index_model.specs.declared.faults.Fault.TheVariants as faults
use Rattle.index_model.specs.declared.nodes.NodeKind.{NodeKind}
use Rattle.index_model.specs.declared.nodes.NodeKind.TheVariants as kinds
use Rattle.index_model.specs.declared.nodes.Node.{Node}
use Rattle.index_model.specs.declared.nodes.RawExtent.{RawExtent}
use Rattle.index_model.specs.Extents.{HasOverlap, IsBadFile, IsFileAt, IsOutOfBounds, Overlap}
use Rattle.index_model.specs.Places.{IsAt}
use Rattle.index_model.proofs.Walks.{same_element}
use Rattle.index_model.specs.IndexFaults.Firsts.{IsNowhereBefore, IsOut, TellsBad, TellsFile, TellsNode}
use Rattle.index_model.proofs.IndexFaults.Firsts.{before_more, nowhere}

file_parts : (b c : ℕ) (xs ys : List RawExtent) → kinds.File b xs ≡ kinds.File c ys → (b ≡ c) × (xs ≡ ys)
file_parts b c xs ys e = (cc, cc)

-- a file stands at this place, and of it this is known
module _ (nodes : List Node) (at : ℕ) (node : Node) (is : IsAt nodes at node) where
  kind_of : (bytes : ℕ) (extents : List RawExtent) → IsFileAt nodes at bytes extents → node.kind ≡ kinds.File bytes extents
  kind_of bytes extents f = ap (λ n. n.kind) (same_element nodes at node f.node is f.is) ∙ f.file

  no_file : ((bytes : ℕ) (extents : List RawExtent) → node.kind ≡ kinds.File bytes extents → ⊥) → IsBadFile nodes at → ⊥
  no_file other (inl out) = other out.bytes out.extents (kind_of out.bytes out.extents out.file)
  no_file other (inr over) = other over.bytes over.extents (kind_of over.bytes over.extents over.file)

  module _ (bytes : ℕ) (extents : List RawExtent) (file : node.kind ≡ kinds.File bytes extents) where
    parts : (b : ℕ) (xs : List RawExtent) → IsFileAt nodes at b xs → (b ≡ bytes) × (xs ≡ extents)
    parts b xs f = file_parts b bytes xs extents (sym (kind_of b xs f) ∙ file)

    out_is : IsOutOfBounds nodes at → IsOut bytes extents
    out_is h =
        let p = parts h.bytes h.extents h.file in
        subst (λ b. IsOut b extents) p.0 (subst (λ xs. IsOut h.bytes xs) p.1 h.out)

    overlap_is : HasOverlap nodes at → Overlap extents
    overlap_is h = subst Overlap (parts h.bytes h.extents h.file).1 h.overlap

    here : IsFileAt nodes at bytes extents
    here = record { node = node; is = is; file = file }

    is_right : TellsFile node.uid bytes extents None → IsBadFile nodes at → ⊥
    is_right right (inl out) = right.0 (out_is out)
    is_right right (inr over) = right.1 (overlap_is over)

    tells : IsNowhereBefore (IsBadFile nodes) at → (fault : Fault) → TellsFile node.uid bytes extents (Some fault) → TellsBad nodes (Some fault)
    tells none (faults.Uid n) h = h
    tells none (faults.SameName n) h = h
    tells none (faults.SameKey n) h = h
    tells none (faults.Extent n) h =
        let out : IsOutOfBounds nodes at = record { bytes = bytes; extents = extents; file = here; out = h.1 } in
        record { at = at; first = record { here = inl out; none_before = none }; told = record { node = node; is = is; same = sym h.0 }; wrong = out }
    tells none (faults.Overlap n) h =
        let over : HasOverlap nodes at = record { bytes = bytes; extents = extents; file = here; overlap = h.1.1 } in
        record {
          at = at;
          first = record { here = inr over; none_before = none };
          told = record { node = node; is = is; same = sym h.0 };
          wrong = ((λ out. h.1.0 (out_is out)), over);
        }

  node_right_of : (kind : NodeKind) → node.kind ≡ kind → TellsNode node.uid kind None → IsBadFile nodes at → ⊥
  node_right_of kinds.Dir is_kind right = no_file (λ bytes extents e. dir_file bytes extents (sym is_kind ∙ e))
    where
      dir_file : (bytes : ℕ) (extents : List RawExtent) → kinds.Dir ≡ kinds.File bytes extents → ⊥
      dir_file bytes extents e = cc e
  node_right_of (kinds.Link text) is_kind right = no_file (λ bytes extents e. link_file bytes extents (sym is_kind ∙ e))
    where
      link_file : (bytes : ℕ) (extents : List RawExtent) → kinds.Link text ≡ kinds.File bytes extents → ⊥
      link_file bytes extents e = cc e
  node_right_of (kinds.File bytes extents) is_kind right = is_right bytes extents is_kind right

  node_tells_of : IsNowhereBefore (IsBadFile nodes) at → (kind : NodeKind) → node.kind ≡ kind → (fault : Fault) → TellsNode node.uid kind (Some fault) → TellsBad nodes (Some fault)
  node_tells_of none kinds.Dir is_kind fault h = absurd (some_none fault h)
    where
      some_none : (fault : Fault) → Some fault ≡ None → ⊥
      some_none fault e = cc e
  node_tells_of none (kinds.Link text) is_kind fault h = absurd (some_none fault h)
    where
      some_none : (fault : Fault) → Some fault ≡ None → ⊥
      some_none fault e = cc e
  node_tells_of none (kinds.File bytes extents) is_kind fault h = tells bytes extents is_kind none fault h

  -- a node without a fault of its extents is passed
  pub step : IsNowhereBefore (IsBadFile nodes) at → TellsNode node.uid node.kind None → IsNowhereBefore (IsBadFile nodes) (at + 1)
  step none right = before_more (IsBadFile nodes) at none (node_right_of node.kind refl right)

  -- the fault of the first bad file is the one to tell
  pub told : IsNowhereBefore (IsBadFile nodes) at → (fault : Fault) → TellsNode node.uid node.kind (Some fault) → TellsBad nodes (Some fault)
  told none fault h = node_tells_of none node.kind refl fault h

-- once all nodes are passed, no file is bad
pub end : (nodes : List Node) (at : ℕ) → IsNowhereBefore (IsBadFile nodes) at → length nodes ≤ at → (k : ℕ) → IsBadFile nodes k → ⊥
end nodes at none all = nowhere (IsBadFile nodes) at within none
  where
    place : (k bytes : ℕ) (extents : List RawExtent) → IsFileAt nodes k bytes extents → k < at
    place k bytes extents f = let less = slice_get_within nodes k f.node f.is in omega (arith, all, less)

    within : (k : ℕ) → IsBadFile nodes k → k < at
    within k (inl out) = place k out.bytes out.extents out.file
    within k (inr over) = place k over.bytes over.extents over.file
