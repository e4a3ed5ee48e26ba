-- What the pieces of elements tell.
use Rattle.std.proofs.Common.{◌≡◌, ℕ, List, [], ◌∷◌, ◌++◌, refl, sym, subst, ◌∙◌, append_assoc}
use Rattle.ltfs_documents.specs.declared.doc_elements.schema.Container.{Container}
use Rattle.ltfs_documents.specs.DocElements.Pieces.{Piece, closes}
use Rattle.ltfs_documents.specs.DocElements.Elements.{Item, plain, bare, nested, Items, no_items, item, pieces_of, all_pieces}
use Rattle.index_read.specs.Told.{State, Level, Tell, begun, ended, node_in, item_told, items_told, levels_after, piece_told}

-- what pieces tell one behind the other is what all of them tell
pub tell_append : (ps qs : List Piece) (ls : List Level) (s : State) (ms : List Level) (t : State) (ns : List Level) (u : State) → Tell ps ls s ms t → Tell qs ms t ns u → Tell (ps ++ qs) ls s ns u
tell_append [] qs ls s ms t ns u h k = subst (λ (x : List Level). Tell qs x s ns u) (sym h.0) (subst (λ (x : State). Tell qs ms x ns u) (sym h.1) k)
tell_append (p ∷ ps) qs [] s ms t ns u h k = h
tell_append (p ∷ ps) qs (l ∷ ls) s ms t ns u h k = tell_append ps qs (levels_after p l ls s) (piece_told p l s) ms t ns u h k

abbrev level : Container → ℕ → Level
level p node = record { place = p; node = node }

mutual
  item_tells : (p : Container) (node : ℕ) (ls : List Level) (i : Item) (s : State) → Tell (pieces_of i) (level p node ∷ ls) s (level p node ∷ ls) (item_told p node i s)
  item_tells p node ls (plain tag v) s = (refl, refl)
  item_tells p node ls (bare q) s = (refl, refl)
  item_tells p node ls (nested q is) s =
      all_tell q (node_in q node s) (level p node ∷ ls) is (begun q node s)

  -- the children of a parent, and its end
  all_tell : (p : Container) (node : ℕ) (ls : List Level) (is : Items) (s : State) → Tell (all_pieces is ++ closes ∷ []) (level p node ∷ ls) s ls (ended p node (items_told p node is s))
  all_tell p node ls no_items s = (refl, refl)
  all_tell p node ls (item i is) s =
      subst (λ (ps : List Piece). Tell ps (level p node ∷ ls) s ls (ended p node (items_told p node is (item_told p node i s)))) (sym (append_assoc (pieces_of i) (all_pieces is) (closes ∷ [])))
      (tell_append (pieces_of i) (all_pieces is ++ closes ∷ []) (level p node ∷ ls) s (level p node ∷ ls) (item_told p node i s) ls _ (item_tells p node ls i s) (all_tell p node ls is (item_told p node i s)))

-- pieces tell one thing
pub tell_same : (ps : List Piece) (ls : List Level) (s : State) (ms : List Level) (t : State) (ns : List Level) (u : State) → Tell ps ls s ms t → Tell ps ls s ns u → t ≡ u
tell_same [] ls s ms t ns u h k = sym h.1 ∙ k.1
tell_same (p ∷ ps) [] s ms t ns u h k = absurd h
tell_same (p ∷ ps) (l ∷ ls) s ms t ns u h k = tell_same ps (levels_after p l ls s) (piece_told p l s) ms t ns u h k

-- the pieces of elements tell what the elements tell
pub items_tell : (p : Container) (node : ℕ) (ls : List Level) (is : Items) (s : State) → Tell (all_pieces is ++ closes ∷ []) (level p node ∷ ls) s ls (ended p node (items_told p node is s))
items_tell p node ls is s = all_tell p node ls is s
