-- Where the blocks of a read stand.
use Rattle.std.proofs.Common.{◌≡◌, ℕ, ◌-◌, ◌<◌, min, ◌&&◌, ◌||◌, eqb, not, Bool, true, false, cond, List, [], ◌∷◌, length, Option, Some, None, ⊎_elim, refl, sym, ap, subst, ◌∙◌, arith}
use Rattle.std.specs.FinMap as fin
use Rattle.std.specs.List.{AllByRecursion, filter, flat_map}
use Rattle.std.specs.Option.{option_map}
use Rattle.std.specs.Prelude.{Contains, filter_map}
use Rattle.std.proofs.lemmas.Bool.Decides.{nat_tests}
use Rattle.tape_types.specs.declared.cartridges.Part.{Part}
use Rattle.tape_types.specs.declared.cartridges.Part.TheVariants.{Dp, Ip}
use Rattle.tape_types.specs.declared.cartridges.Place.{Place}
use Rattle.plain_tree.specs.Refusals.{no_file, refusal_of, why_missing}
use Rattle.plain_tree.specs.Tree as plain
use Rattle.plain_tree.specs.declared.calls.Call.TheVariants.{Read}
use Rattle.plain_tree.specs.declared.calls.Refusal.TheVariants as refusals
use Rattle.extent_map.specs.Blocks.{FileStandsIn}
use Rattle.extent_map.specs.Cells.{Tape}
use Rattle.extent_map.specs.Laid.{IsLaid, Laid, Room}
use Rattle.extent_map.specs.Pieces.{planned}
use Rattle.extent_map.specs.Replies.{distinct, has_place, place_in, places_in, same_part, same_place}
use Rattle.extent_map.specs.declared.pieces.Piece.{Piece}
use Rattle.extent_map.proofs.DistinctLemmas.{has_distinct}
use Rattle.extent_map.specs.declared.pieces.Piece.TheVariants.{Stored, Zeros}
use Rattle.tape_types.proofs.Places.{same_places}
use Rattle.file_tree.specs.declared.nodes.HeldKind.{HeldKind}
use Rattle.file_tree.specs.declared.nodes.HeldKind.TheVariants as kinds
use Rattle.file_tree.specs.declared.nodes.Node.{Node}
use Rattle.file_tree.specs.Tree.{FileTree, plain_node_of, plain_nodes, plain_of, whole}
use Rattle.file_tree.specs.Valid.{IsGood}
use Rattle.file_tree.proofs.PlainLemmas.{plain_get}
use Rattle.file_tree.proofs.RefusalLemmas.{whole_read}
use Rattle.tape_layout.specs.declared.standing.Ends.{Ends}
use Rattle.tape_layout.specs.Ops.{end_of}
use Rattle.space_laws.specs.Standing.{Given, Standing, uid_at}
use Rattle.promises.specs.ServingPromise.Submits.{blocks_in, stored_at}
use Rattle.promises.proofs.ReplyLaws.Distinct.{has_in, in_has}
use Rattle.promises.proofs.ReplyLaws.Lists.{in_cases, in_first, in_none, in_rest}
use Rattle.held_volume.specs.Stocks.{IsStock, Stocked}
use Rattle.held_volume.proofs.PieceStands.{StandsWhere, plan_stands}
use Rattle.volume_state.specs.PlanLaws.Planned.{LieBelow}
use Rattle.volume_state.specs.StateLaws.Tied.{FilesStandIn}

-- ---- the places of a read, each once

-- the places of pieces, as the promise has them
pub stored_list : (pieces : List Piece) → flat_map place_in pieces ≡ filter_map stored_at pieces
stored_list [] = refl
stored_list (Zeros count ∷ pieces) = stored_list pieces
stored_list (Stored place byte count ∷ pieces) = ap (λ places. place ∷ places) (stored_list pieces)

place_stored : (place : Place) (pieces : List Piece) → has_place place (places_in pieces) ≡ true → Contains (filter_map stored_at pieces) place
place_stored place pieces has =
    subst (λ places. Contains places place) (stored_list pieces)
    (has_in place (flat_map place_in pieces) (sym (has_distinct (flat_map place_in pieces) place) ∙ has))

stored_place : (place : Place) (pieces : List Piece) → Contains (filter_map stored_at pieces) place → has_place place (places_in pieces) ≡ true
stored_place place pieces has =
    has_distinct (flat_map place_in pieces) place
    ∙ in_has place (flat_map place_in pieces) (subst (λ places. Contains places place) (sym (stored_list pieces)) has)

-- ---- each stands where the pieces do

stands_at : (P : Part → ℕ → Type 0) (pieces : List Piece) → AllByRecursion (StandsWhere P) pieces → (place : Place) → Contains (filter_map stored_at pieces) place → P place.part place.pos
stands_at P [] all place has = absurd (in_none place has)
stands_at P (Zeros count ∷ pieces) all place has = stands_at P pieces all.1 place has
stands_at P (Stored at byte count ∷ pieces) all place has = ⊎_elim
    (λ is. subst (λ (x : Place). P x.part x.pos) is all.0)
    (λ later. stands_at P pieces all.1 place later)
    (in_cases at (filter_map stored_at pieces) place has)

-- pieces whose blocks all lie below the ends lie below them
pub all_below : (ends : Ends) (pieces : List Piece) → ((place : Place) → Contains (filter_map stored_at pieces) place → place.pos < end_of place.part ends) → LieBelow ends pieces
all_below ends [] each = tt
all_below ends (Zeros count ∷ pieces) each = (tt, all_below ends pieces each)
all_below ends (Stored at byte count ∷ pieces) each =
    (each at (in_first at (filter_map stored_at pieces)), all_below ends pieces (λ place has. each place (in_rest at (filter_map stored_at pieces) place has)))

-- ---- the file that is read

record FileAt (t : FileTree) (path : List (List ℕ)) : Type 0 where
  node : Node
  room : Room
  there : fin.get t.nodes path ≡ Some node
  file : node.kind ≡ kinds.File room

file_at : (t : FileTree) (path : List (List ℕ)) → no_file (plain_nodes whole t.nodes) path ≡ None → FileAt t path
file_at t path free = by (fin.get t.nodes path) refl
  where
    by : (o : Option Node) → fin.get t.nodes path ≡ o → FileAt t path
    by None e =
        let found : no_file (plain_nodes whole t.nodes) path ≡ Some (why_missing (plain_nodes whole t.nodes) path (length path)) =
        rw (plain_get whole t.nodes path ∙ ap (option_map (plain_node_of whole)) e) refl in
        let clash : None ≡ Some (why_missing (plain_nodes whole t.nodes) path (length path)) = sym free ∙ found in
        absurd cc
    by (Some node) e = kind node.kind refl
      where
        kind : (k : HeldKind) → node.kind ≡ k → FileAt t path
        kind kinds.Dir is =
            let found : no_file (plain_nodes whole t.nodes) path ≡ Some refusals.IsDir = rw (plain_get whole t.nodes path ∙ ap (option_map (plain_node_of whole)) e, is) refl in
            let clash : None ≡ Some refusals.IsDir = sym free ∙ found in
            absurd cc
        kind (kinds.File room) is = record { node = node; room = room; there = e; file = is }
        kind (kinds.Link text) is =
            let found : no_file (plain_nodes whole t.nodes) path ≡ Some refusals.IsLink = rw (plain_get whole t.nodes path ∙ ap (option_map (plain_node_of whole)) e, is) refl in
            let clash : None ≡ Some refusals.IsLink = sym free ∙ found in
            absurd cc

uid_is : (tape : Tape) (t : FileTree) (path : List (List ℕ)) (node : Node) → fin.get t.nodes path ≡ Some node → uid_at (plain_nodes tape t.nodes) path ≡ node.uid
uid_is tape t path node there = rw (plain_get tape t.nodes path ∙ ap (option_map (plain_node_of tape)) there) refl

-- each block of a read stands in a file of the tree
pub blocks_stand : (tape : Tape) (g : Given) (on : Bool) (st : Standing) (s : Stocked) (path : List (List ℕ)) (offset count : ℕ) → IsStock tape g on st s → IsGood s.tree
    → refusal_of (plain_of whole s.tree) (Read path offset count) ≡ None
    → (place : Place) → Contains (blocks_in (st.files (uid_at st.tree.nodes path)) offset count) place → FilesStandIn st.files place.part place.pos
blocks_stand tape g on st s path offset count is good free place has =
    let at = file_at s.tree path (sym (whole_read s.tree path offset count) ∙ free) in
    let file : Laid = st.files (uid_at st.tree.nodes path) in
    let uid : uid_at st.tree.nodes path ≡ at.node.uid = ap (λ (t : plain.Tree). uid_at t.nodes path) (sym is.plain) ∙ uid_is tape s.tree path at.node at.there in
    let laid : file ≡ at.room.laid = ap st.files uid ∙ is.files.lies path at.node at.room at.there at.file in
    let lies : IsLaid file = subst IsLaid (sym laid) (good.files path at.node at.room at.there at.file).lies in
    record {
      uid = uid_at st.tree.nodes path;
      block = stands_at (FileStandsIn file) (planned file offset (min count (file.length - offset))) (plan_stands file offset (min count (file.length - offset)) lies) place has;
    }
