-- Which uid stands where once a call is made.
use Rattle.std.proofs.Common.{◌≡◌, ◌≢◌, ℕ, ◌+◌, Bool, true, false, cond, eqb, List, length, drop, Option, Some, None, sym, ap, ◌∙◌, refl, ⊎_elim}
use Rattle.std.specs.FinMap as fin
use Rattle.tape_types.specs.NodeKeys.Keys.{KeyMap}
use Rattle.tape_types.specs.declared.moments.Moment.{Moment}
use Rattle.plain_tree.specs.Calls.{after, with_length, with_new, without}
use Rattle.plain_tree.specs.Cells.{Cell, resized}
use Rattle.plain_tree.specs.Laws.{HasMoved, holding}
use Rattle.plain_tree.specs.Paths.{Path, is_at_or_below, moved_path, parent_of, same_path}
use Rattle.plain_tree.specs.Refusals.{refusal_of}
use Rattle.plain_tree.specs.Tree.{Nodes, Tree, cells_at, changed_at, file_changed, new_node, touched}
use Rattle.plain_tree.specs.Valid.{IsValid, is_dir, mark_at, mark_of}
use Rattle.plain_tree.specs.declared.calls.Call.TheVariants.{Rename}
use Rattle.plain_tree.specs.declared.nodes.Kind.{Kind}
use Rattle.plain_tree.specs.declared.nodes.Node.{Node}
use Rattle.plain_tree.proofs.MoveLemmas.{below_split, moved_below, moved_other, not_true}
use Rattle.plain_tree.proofs.NodeLemmas.{changed_found, changed_missing}
use Rattle.plain_tree.proofs.SeenLemmas.{unlike}
use Rattle.plain_tree.proofs.Validity.{file_mark, free_within, rename_target, valid_free}
use Rattle.plain_tree.proofs.WriteLemmas.{rename_keeps_nodes}
use Rattle.file_tree.proofs.PathLemmas.{get_here, get_other, gone_other, is_or_not}

-- the uid of what stands at a path, or 0 where nothing does
abbrev pub uid_in : Option (ℕ × Bool) → ℕ
uid_in None = 0
uid_in (Some mark) = mark.0

-- a directory stands at a path
abbrev pub dir_in : Option (ℕ × Bool) → Bool
dir_in None = false
dir_in (Some mark) = mark.1

-- a change of a node that keeps its mark keeps all marks
changed_mark : (change : Node → Node) → ((n : Node) → mark_of (Some (change n)) ≡ mark_of (Some n)) → (p : Path) (m : Nodes) (q : Path) → mark_at (changed_at change p m) q ≡ mark_at m q
changed_mark change keeps p m q = by (fin.get m p) refl
  where
    by : (o : Option Node) → fin.get m p ≡ o → mark_at (changed_at change p m) q ≡ mark_at m q
    by None is = ap (λ (n : Nodes). mark_at n q) (changed_missing change p m is)
    by (Some node) is = ap (λ (n : Nodes). mark_at n q) (changed_found change p m node is) ∙ ⊎_elim
        (λ (e : q ≡ p). ap (mark_at (fin.insert m p (change node))) e ∙ ap mark_of (get_here m p (change node)) ∙ keeps node ∙ sym (ap (mark_at m) e ∙ ap mark_of is))
        (λ apart. ap mark_of (get_other m p q (change node) apart))
        (is_or_not p q)

-- a change of a file's bytes leaves which uid stands where
pub file_marks : (change : List Cell → List Cell) (at : Moment) (p : Path) (m : Nodes) (q : Path) → mark_at (changed_at (file_changed change at) p m) q ≡ mark_at m q
file_marks change at p m q = changed_mark (file_changed change at) (file_mark change at) p m q

-- ---- a new node

-- a new node leaves which uid stands elsewhere
pub others_mark : (kind : Kind) (t : Tree) (path : Path) (at : Moment) (q : Path) → q ≢ path → mark_at (with_new kind t path at).nodes q ≡ mark_at t.nodes q
others_mark kind t path at q apart =
    changed_mark (touched at) (λ n. refl) (parent_of path) (fin.insert t.nodes path (new_node kind (t.highest + 1) at)) q
    ∙ ap mark_of (get_other t.nodes path q (new_node kind (t.highest + 1) at) apart)

-- a new node has the next uid
pub new_mark : (kind : Kind) (t : Tree) (path : Path) (at : Moment) → mark_at (with_new kind t path at).nodes path ≡ Some (t.highest + 1, is_dir kind)
new_mark kind t path at =
    changed_mark (touched at) (λ n. refl) (parent_of path) (fin.insert t.nodes path (new_node kind (t.highest + 1) at)) path
    ∙ ap mark_of (get_here t.nodes path (new_node kind (t.highest + 1) at))

-- ---- a node that is gone

-- without a node the others have their uids
pub left_mark : (t : Tree) (path : Path) (at : Moment) (q : Path) → q ≢ path → mark_at (without t path at).nodes q ≡ mark_at t.nodes q
left_mark t path at q apart =
    changed_mark (touched at) (λ n. refl) (parent_of path) (fin.remove t.nodes path) q ∙ ap mark_of (gone_other t.nodes path q apart)

-- ---- another length

-- a new length of a file leaves which uid stands where
pub length_mark : (t : Tree) (path : Path) (n : ℕ) (at : Moment) (q : Path) → mark_at (with_length t path n at).nodes q ≡ mark_at t.nodes q
length_mark t path n at q =
    elim (eqb n (length (cells_at t.nodes path))) as (λ b. mark_at (cond b t (record t { nodes = changed_at (file_changed (λ cells. resized cells n) at) path t.nodes })).nodes q ≡ mark_at t.nodes q) [
      | true ↦ refl
      | false ↦ file_marks (λ cells. resized cells n) at path t.nodes q
    ]

-- ---- a move

abbrev uid_held : Option (ℕ × KeyMap × Kind) → ℕ
uid_held None = 0
uid_held (Some held) = held.0

module _ (t : Tree) (from to : Path) (at : Moment) (valid : IsValid t) (free : refusal_of t (Rename from to) ≡ None) (apart : same_path from to ≡ false) where
  abbrev next : Nodes
  next = (after t (Rename from to) at).nodes

  moved : HasMoved t (after t (Rename from to) at) from to
  moved = rename_keeps_nodes t from to at valid free

  -- what a rename moves keeps its uid
  pub moved_uid : (p : Path) (n now : Node) → fin.get t.nodes p ≡ Some n → fin.get (after t (Rename from to) at).nodes (moved_path from to p) ≡ Some now → now.uid ≡ n.uid
  moved_uid p n now there here = by (is_at_or_below from p) refl
    where
      by : (b : Bool) → is_at_or_below from p ≡ b → now.uid ≡ n.uid
      by true e = ap uid_held (
          sym (ap holding (sym (ap (fin.get next) (moved_below from to p e)) ∙ here))
          ∙ moved.moved (drop (length from) p)
          ∙ ap holding (ap (fin.get t.nodes) (sym (below_split from p e)) ∙ there))
      by false e =
          let away : is_at_or_below to p ≡ false = not_true (is_at_or_below to p) (λ below.
          unlike (fin.get t.nodes p) n (valid_free t valid to (rename_target t.nodes from to (free_within t (Rename from to) free).1 apart).0 p below) there) in
          ap uid_held (
          sym (ap holding (sym (ap (fin.get next) (moved_other from to p e)) ∙ here))
          ∙ moved.elsewhere p e away
          ∙ ap holding there)
