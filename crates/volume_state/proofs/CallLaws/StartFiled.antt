-- In which blocks the files stand that a mount tells of.
use Rattle.std.specs.Prelude.{ℕ, suc, ◌≡◌, ◌==◌, Bool, true, false, cond, List, [], ◌∷◌, Option, Some, None}
use Rattle.std.specs.List.{find}
use Rattle.std.proofs.Common.{refl, subst}
use Rattle.std.proofs.lemmas.Option.{slice_get_within}
use Rattle.tape_types.specs.declared.cartridges.Part.{Part}
use Rattle.index_model.specs.Places.{IsAt}
use Rattle.index_model.specs.declared.nodes.Node as told
use Rattle.index_model.specs.declared.nodes.NodeKind as told_kind
use Rattle.index_model.specs.declared.nodes.NodeKind.TheVariants as told_kinds
use Rattle.extent_map.specs.Blocks.{FileStandsIn}
use Rattle.file_tree.specs.Blocks.{TreeStandsIn}
use Rattle.file_tree.specs.Mounts.{IsKindOf, IsTreeOf, Stands, laid_of}
use Rattle.file_tree.specs.Tree.{FileTree}
use Rattle.space_laws.specs.Files.{laid_found, laid_node, letters, mounted_files}
use Rattle.space_laws.specs.Mount.{MountFacts}

-- what is found stands at some place
found_there : (p : told.Node → Bool) (nodes : List told.Node) (node : told.Node) → find p nodes ≡ Some node
    → (at : ℕ) × IsAt nodes at node
found_there p [] node is = absurd (let wrong : None ≡ Some node = is in cc)
found_there p (first ∷ nodes) node is = by (p first) (found_there p nodes node) is
  where
    by : (b : Bool) → (find p nodes ≡ Some node → (at : ℕ) × IsAt nodes at node)
        → cond b (Some first) (find p nodes) ≡ Some node → (at : ℕ) × IsAt (first ∷ nodes) at node
    by true behind e = (0, e)
    by false behind e = let later = behind e in (suc later.0, later.1)

module _ (m : MountFacts) (t : FileTree) (is : IsTreeOf (letters m) m.label.block m.index t) (part : Part)
    (pos : ℕ) where
  -- a node of the tree that is told of as a file has its blocks
  in_node : (at : ℕ) (node : told.Node) (kind : told_kind.NodeKind) → node.kind ≡ kind
      → Stands (letters m) m.label.block m.index.nodes t.nodes at node → FileStandsIn (laid_node m kind) part pos
      → TreeStandsIn t part pos
  in_node at node told_kinds.Dir e s h = absurd h
  in_node at node (told_kinds.Link text) e s h = absurd h
  in_node at node (told_kinds.File bytes raws) e s h =
      let k = subst (λ (kind : told_kind.NodeKind). IsKindOf (letters m) m.label.block kind s.n.kind) e s.same.kind in
      record {
        number = at;
        laid = laid_of (letters m) m.label.block bytes raws;
        file = record { path = s.path; node = s.n; there = s.there; is = s.number; room = k.0; file = k.1; lies = k.2 };
        block = h;
      }

  in_found : (o : Option told.Node) → ((node : told.Node) → o ≡ Some node → (at : ℕ) × IsAt m.index.nodes at node)
      → FileStandsIn (laid_found m o) part pos → TreeStandsIn t part pos
  in_found None there h = absurd h
  in_found (Some node) there h =
      let place = there node refl in
      let stands = is.nodes.each place.0 node (slice_get_within m.index.nodes place.0 node place.1) place.1 in
      in_node place.0 node node.kind refl stands h

  -- each block of a file that a mount tells of is one of the tree
  pub in_tree : (uid : ℕ) → FileStandsIn (mounted_files m uid) part pos → TreeStandsIn t part pos
  in_tree uid h = in_found (find (λ n. n.uid == uid) m.index.nodes)
      (λ node e. found_there (λ n. n.uid == uid) m.index.nodes node e) h
