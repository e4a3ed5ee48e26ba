-- How files lie once a call is made.
use Rattle.std.proofs.Common.{◌≡◌, ◌≢◌, ◌⊎◌, ℕ, ◌+◌, ◌<◌, true, false, List, [], ◌∷◌, ◌++◌, Some, None, sym, ap, ◌∙◌, refl, arith, ⊎_elim, inl, inr}
use Rattle.std.specs.Option.{option_map}
use Rattle.std.specs.FinMap as fin
use Rattle.std.proofs.lemmas.Bool.{cases_order}
use Rattle.tape_types.specs.declared.moments.Moment.{Moment}
use Rattle.plain_tree.specs.Calls.{after, after_done, with_new}
use Rattle.plain_tree.specs.Paths.{Path}
use Rattle.plain_tree.specs.Refusals.{refusal_of}
use Rattle.plain_tree.specs.Tree as plain
use Rattle.plain_tree.specs.Valid.{mark_at, mark_of}
use Rattle.plain_tree.specs.declared.calls.Call.{Call}
use Rattle.plain_tree.specs.declared.calls.Call.TheVariants as asks
use Rattle.plain_tree.specs.declared.calls.Sort.{Sort}
use Rattle.plain_tree.specs.declared.calls.Sort.TheVariants as sorts
use Rattle.plain_tree.specs.declared.nodes.Kind.TheVariants as plain_kinds
use Rattle.extent_map.specs.Cells.{Tape}
use Rattle.extent_map.specs.Laid.{Room}
use Rattle.file_tree.specs.declared.nodes.Node.{Node}
use Rattle.file_tree.specs.declared.nodes.HeldKind.TheVariants as kinds
use Rattle.file_tree.specs.Blocks.{AddsNoBlock}
use Rattle.file_tree.specs.Edits.{CanMake, IsAfter, KeepsVolume, NumbersCome, OthersLie, making}
use Rattle.file_tree.specs.Tree.{FileTree, HasLaid, Nodes, StandsAt, number_at, plain_node_of, plain_of, whole}
use Rattle.file_tree.specs.Valid.{IsGood}
use Rattle.file_tree.proofs.BlockLemmas.{one_laid}
use Rattle.file_tree.proofs.PathLemmas.{number_is, some_same}
use Rattle.file_tree.proofs.PlainLemmas.{plain_get}
use Rattle.file_tree.proofs.TreeLemmas.{after_free}
use Rattle.space_laws.specs.Files.{Files}
use Rattle.held_volume.specs.Stocks.{LieAs, no_bytes}
use Rattle.held_volume.specs.Steps.{IsStep}
use Rattle.held_volume.proofs.Uids.{dir_in, new_mark, others_mark, uid_in}

-- two numbers are equal or they aren't
pub equal_or_not : (a b : ℕ) → (a ≡ b) ⊎ (a ≢ b)
equal_or_not a b = ⊎_elim (λ (e : a ≡ b). inl e)
    (λ (apart : (a < b) ⊎ (b < a)). inr (λ e. ⊎_elim (λ (lt : a < b). omega (arith, e, lt)) (λ (gt : b < a). omega (arith, e, gt)) apart))
    (cases_order a b)

-- ---- what stands at a path of the plain tree

-- a node that stands at a path stands there in the plain tree
pub plain_there : (tape : Tape) (t : FileTree) (p : Path) (node : Node) → fin.get t.nodes p ≡ Some node → fin.get (plain_of tape t).nodes p ≡ Some (plain_node_of tape node)
plain_there tape t p node there = plain_get tape t.nodes p ∙ ap (option_map (plain_node_of tape)) there

-- the uid stays where the mark does
pub uid_kept : (tape : Tape) (before next : FileTree) (p to : Path) (node now : Node) → mark_at (plain_of tape next).nodes to ≡ mark_at (plain_of tape before).nodes p
    → fin.get before.nodes p ≡ Some node → fin.get next.nodes to ≡ Some now → now.uid ≡ node.uid
uid_kept tape before next p to node now marks there here =
    ap uid_in (sym (ap mark_of (plain_there tape next to now here)) ∙ marks ∙ ap mark_of (plain_there tape before p node there))

-- the node of this number is the one at this path
pub path_of : (t : FileTree) (p q : Path) (node : Node) (number : ℕ) → IsGood t → StandsAt t p number → fin.get t.nodes q ≡ Some node → node.number ≡ number → p ≡ q
path_of t p q node number good stands there is = good.differ p q number stands (number_is t.nodes q node there ∙ ap (λ n. Some n) is)

-- ---- files that a call leaves as they were

-- the file came from another path, with its uid, and lies as it did
record WasThere (before : FileTree) (node : Node) (room : Room) : Type 0 where
  path : Path
  old : Node
  old_room : Room
  there : fin.get before.nodes path ≡ Some old
  uid : node.uid ≡ old.uid
  file : old.kind ≡ kinds.File old_room
  lies : old_room.laid ≡ room.laid

module _ (before next : FileTree) (but : ℕ) (to : Path → Path) (good : IsGood next) (others : OthersLie but before next)
    (numbers : (path : Path) (n : ℕ) → n ≢ but → StandsAt before path n → StandsAt next (to path) n)
    (uids : (path : Path) (node now : Node) → fin.get before.nodes path ≡ Some node → node.number ≢ but → fin.get next.nodes (to path) ≡ Some now → now.uid ≡ node.uid) where
  was_there : (path : Path) (node : Node) (room : Room) → fin.get next.nodes path ≡ Some node → node.kind ≡ kinds.File room → node.number ≢ but → WasThere before node room
  was_there path node room there file apart =
      let h = (others node.number apart room.laid).1 (record { path = path; node = node; there = there; is = refl; room = room; file = file; lies = refl }) in
      let comes : StandsAt next (to h.path) node.number = numbers h.path node.number apart (number_is before.nodes h.path h.node h.there ∙ ap (λ n. Some n) h.is) in
      let same : to h.path ≡ path = path_of next (to h.path) path node node.number good comes there refl in
      record {
        path = h.path;
        old = h.node;
        old_room = h.room;
        there = h.there;
        uid = uids h.path h.node node h.there (λ e. apart (sym h.is ∙ e)) (ap (fin.get next.nodes) same ∙ there);
        file = h.file;
        lies = h.lies;
      }

  -- all files but one lie as they did
  pub others_as : (files : Files) → LieAs files before → (path : Path) (node : Node) (room : Room) → fin.get next.nodes path ≡ Some node → node.kind ≡ kinds.File room → node.number ≢ but → files node.uid ≡ room.laid
  others_as files held path node room there file apart =
      let was = was_there path node room there file apart in
      ap files was.uid ∙ held.lies was.path was.old was.old_room was.there was.file ∙ was.lies

-- ---- a new node

module _ (before next : FileTree) (dir number : ℕ) (name : List ℕ) (sort : Sort) (at : Moment) (c : CanMake before dir name sort)
    (good : IsGood before) (good_next : IsGood next) (done : IsAfter c.call at before next)
    (stands : (path : Path) → StandsAt before path dir → StandsAt next (path ++ name ∷ []) number)
    (numbers : NumbersCome (λ p. p) before next) (fresh : (path : Path) → StandsAt before path number → ⊥)
    (others : OthersLie number before next) (adds : AddsNoBlock before next)
    (empty : sort ≡ sorts.File → HasLaid next.nodes number (record { block_size = before.block_size; length = 0; extents = [] }))
    (volume : KeepsVolume before next) where
  abbrev new_path : Path
  new_path = c.path ++ name ∷ []

  here : StandsAt next new_path number
  here = stands c.path c.stands

  not_read : (call : Call) (s : Sort) → making s new_path ≡ Some call → (path : Path) (offset count : ℕ) → call ≡ asks.Read path offset count → ⊥
  not_read call sorts.Dir e path offset count is = cc
  not_read call sorts.File e path offset count is = cc
  not_read call sorts.Link e path offset count is = cc

  abbrev kind_of : Sort → Rattle.plain_tree.specs.declared.nodes.Kind.Kind
  kind_of sorts.File = plain_kinds.File []
  kind_of _ = plain_kinds.Dir

  made : (s : Sort) (call : Call) → making s new_path ≡ Some call → refusal_of (plain_of whole before) call ≡ None → after (plain_of whole before) call at ≡ with_new (kind_of s) (plain_of whole before) new_path at
  made sorts.Dir call e free = after_free (plain_of whole before) call at free ∙ ap (λ c. after_done (plain_of whole before) c at) (sym (some_same (asks.Mkdir new_path) call e))
  made sorts.File call e free = after_free (plain_of whole before) call at free ∙ ap (λ c. after_done (plain_of whole before) c at) (sym (some_same (asks.Create new_path) call e))
  made sorts.Link call e free = cc

  now : plain_of whole next ≡ with_new (kind_of sort) (plain_of whole before) new_path at
  now = done whole ∙ made sort c.call c.made_by c.free

  uids : (path : Path) (node after : Node) → fin.get before.nodes path ≡ Some node → node.number ≢ number → fin.get next.nodes path ≡ Some after → after.uid ≡ node.uid
  uids path node after there apart here_now =
      uid_kept whole before next path path node after
      (ap (λ (t : plain.Tree). mark_at t.nodes path) now ∙ others_mark (kind_of sort) (plain_of whole before) new_path at path
      (λ e. apart (some_same node.number number (sym (numbers path node.number (number_is before.nodes path node there)) ∙ ap (number_at next.nodes) e ∙ here))))
      there here_now

  highest : next.highest ≡ before.highest + 1
  highest = ap (λ (t : plain.Tree). t.highest) now

  module _ (files : Files) (held : LieAs files before) where
    the_new : (path : Path) (node : Node) (room : Room) → fin.get next.nodes path ≡ Some node → node.kind ≡ kinds.File room → node.number ≡ number → files node.uid ≡ room.laid
    the_new path node room there file is = by sort refl
      where
        path_is : new_path ≡ path
        path_is = path_of next new_path path node number good_next here there is

        mark : mark_of (Some (plain_node_of whole node)) ≡ Some (before.highest + 1, Rattle.plain_tree.specs.Valid.is_dir (kind_of sort))
        mark = sym (ap mark_of (plain_there whole next path node there)) ∙ ap (λ (t : plain.Tree). mark_at t.nodes path) now
            ∙ ap (mark_at (with_new (kind_of sort) (plain_of whole before) new_path at).nodes) (sym path_is) ∙ new_mark (kind_of sort) (plain_of whole before) new_path at

        uid : node.uid ≡ before.highest + 1
        uid = ap uid_in mark

        has : HasLaid next.nodes number room.laid
        has = record { path = path; node = node; there = there; is = is; room = room; file = file; lies = refl }

        not_dir : dir_in (mark_of (Some (plain_node_of whole node))) ≡ false
        not_dir = ap (λ k. dir_in (Some (node.uid, Rattle.plain_tree.specs.Valid.is_dir (Rattle.file_tree.specs.Tree.plain_kind_of whole k)))) file

        by : (s : Sort) → sort ≡ s → files node.uid ≡ room.laid
        by sorts.File e =
            ap files uid ∙ held.fresh (before.highest + 1) (omega arith) ∙ one_laid next.nodes number (no_bytes before.block_size) room.laid good_next.differ (empty e) has
        by sorts.Dir e = let wrong : true ≡ false = sym (ap dir_in mark ∙ ap (λ s. Rattle.plain_tree.specs.Valid.is_dir (kind_of s)) e) ∙ not_dir in cc
        by sorts.Link e = let wrong : None ≡ Some c.call = ap (λ s. making s new_path) (sym e) ∙ c.made_by in cc

    made_as : LieAs files next
    made_as = record {
      lies = λ path node room there file. ⊎_elim
          (λ (e : node.number ≡ number). the_new path node room there file e)
          (λ apart. others_as before next number (λ p. p) good_next others (λ path n _ is. numbers path n is) uids files held path node room there file apart)
          (equal_or_not node.number number);
      fresh = λ uid more. held.fresh uid (omega (arith, more, highest)) ∙ ap no_bytes (sym volume.block_size);
    }

  -- a node that was made is a step of the tree
  pub made_step : IsStep c.call at before next
  made_step = record { plain = done; volume = volume; blocks = adds; lies = λ files held. made_as files held }
