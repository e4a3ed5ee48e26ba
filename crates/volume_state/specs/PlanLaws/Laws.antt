-- What stands on tape once all ops are done, call by call and step by step.
use Rattle.std.specs.Prelude.{◌≡◌, ◌≤◌, ℕ, Bool, List, [], ◌∷◌, ◌++◌, length, slice_get, Option, Some, None}
use Rattle.std.specs.List.{flat_map}
use Rattle.tape_types.specs.declared.cartridges.Cartridge.{Cartridge}
use Rattle.tape_types.specs.declared.cartridges.Extent.{Extent}
use Rattle.tape_types.specs.declared.cartridges.Part.{Part}
use Rattle.tape_types.specs.declared.cartridges.Place.{Place}
use Rattle.tape_types.specs.declared.cartridges.Twin.{Twin}
use Rattle.tape_types.specs.Cartridges.{items_of}
use Rattle.tape_drive.specs.Commands.{item_at}
use Rattle.tape_drive.specs.declared.drive.Got.{Got}
use Rattle.extent_map.specs.Blocks.{AreAlikeIn}
use Rattle.extent_map.specs.Cells.{tape_of}
use Rattle.extent_map.specs.Pieces.{read_piece}
use Rattle.extent_map.specs.Replies.{IsBlock, Places}
use Rattle.extent_map.specs.Replies as replies
use Rattle.extent_map.specs.declared.pieces.Piece.{Piece}
use Rattle.file_tree.specs.Blocks.{AddsBlocksOf, AddsNoBlock, AgreeBelow, LiesBelow, TreeStandsIn}
use Rattle.file_tree.specs.Tree.{FileTree}
use Rattle.index_model.specs.declared.indexes.Index.{Index}
use Rattle.head_core.specs.Steps.{AfterOp, IsFoundAt}
use Rattle.head_core.specs.declared.work.StepDone.{StepDone}
use Rattle.head_core.specs.declared.work.StepDone.TheVariants as outcome
use Rattle.tape_layout.specs.declared.ops.Op.{Op}
use Rattle.tape_layout.specs.declared.standing.Ends.{Ends}
use Rattle.tape_layout.specs.Ops.{AreNext, after_ops, end_of, held_in, place_of, puts}
use Rattle.cartridge_meaning.specs.Mounts.{Mounts}
use Rattle.cartridge_meaning.specs.declared.mounted.Mounted.{Mounted}
use Rattle.promises.specs.ImageLaws.Made.{Made, cartridge_of, part_items}
use Rattle.promises.specs.ImageLaws.Starts.{made_of}
use Rattle.promises.specs.CrashLaws.Changes.{IsWell}
use Rattle.promises.specs.CrashLaws.Safe.{Follows, Planned}
use Rattle.space_laws.specs.Space.{Ask, Rules, Space, ops_of}
use Rattle.space_laws.specs.Space as space
use Rattle.space_laws.specs.Standing.{Given, Standing, rules}
use Rattle.held_volume.specs.Applied.{IsLate}
use Rattle.held_volume.specs.Stocks.{ends_of}
use Rattle.volume_state.specs.PlanLaws.Planned.{IsDoneAt, IsOnWay, IsPlan, Items, LieBelow, NoMarks, ends_in, mounted_items}
use Rattle.volume_state.specs.PlanLaws.Planned.{tape_on, with_ops}

-- What is planned grows by the ops that are added, and stays when the first op is done. What an op holds for a block is
-- what will stand there.
pub record PlansHold : Type 0 where
  pub begins : (made : Items) → IsPlan made []
  pub grows : (planned : Items) (ops asked : List Op) → IsPlan planned ops → AreNext (ends_in planned) asked
      → IsPlan (with_ops asked planned) (ops ++ asked)
  pub done : (planned : Items) (op : Op) (ops : List Op) → IsPlan planned (op ∷ ops) → IsPlan planned ops
  pub held : (planned : Items) (ops : List Op) (place : Place) (bytes : List ℕ) → IsPlan planned ops
      → held_in place ops ≡ Some bytes → IsBlock (tape_on planned) place bytes

-- The same of a cartridge: a mount begins it, ops that are admitted go behind it, and a step of the head does the first
-- op or leaves it.
pub record WaysGoOn : Type 0 where
  pub begins : (c : Cartridge) (m : Mounted) → Mounts c m → IsOnWay (mounted_items c) [] c
  pub mounted : (c : Cartridge) (m : Mounted) → Mounts c m
      → ends_in (mounted_items c) ≡ record { ip = m.end_ip; dp = m.end_dp }
  pub grows : (planned : Items) (ops asked : List Op) (held : Cartridge) → IsOnWay planned ops held
      → AreNext (ends_in planned) asked → IsOnWay (with_ops asked planned) (ops ++ asked) held
  pub done : (planned : Items) (op : Op) (ops : List Op) (end : StepDone) (old new : Cartridge)
      → IsOnWay planned (op ∷ ops) old → AfterOp op end old new → IsWell end → IsOnWay planned ops new
  pub failed : (planned : Items) (op : Op) (ops later : List Op) (counts : Twin) (old new : Cartridge)
      → IsOnWay planned ops old → ops ≡ op ∷ later → AfterOp op (outcome.Failed counts) old new
      → IsOnWay planned ops new
  pub alike : (one other : Items) (ops : List Op) (held : Cartridge) → ((part : Part) → one part ≡ other part)
      → IsOnWay one ops held → IsOnWay other ops held

-- The head reaches the place of the first op, and each place that is done already; what it reads at such a place, and
-- what an op holds for a place, is what is planned there.
pub record TapesTell : Type 0 where
  pub reaches : (planned : Items) (op : Op) (ops : List Op) (held : Cartridge) → IsOnWay planned (op ∷ ops) held
      → (place_of op).pos ≤ length (items_of (place_of op).part held)
  pub within : (planned : Items) (ops : List Op) (place : Place) (held : Cartridge) → IsOnWay planned ops held
      → IsDoneAt planned ops place → place.pos ≤ length (items_of place.part held)
  pub stands : (planned : Items) (ops : List Op) (place : Place) (held : Cartridge) → IsOnWay planned ops held
      → IsDoneAt planned ops place → item_at place held ≡ slice_get (planned place.part) place.pos
  pub found : (planned : Items) (ops : List Op) (place : Place) (got : Got) (block : List ℕ) (held : Cartridge)
      → IsOnWay planned ops held → IsDoneAt planned ops place → IsFoundAt place (outcome.Read got) block held
      → IsBlock (tape_on planned) place block
  pub held : (planned : Items) (ops : List Op) (place : Place) (bytes : List ℕ) (held : Cartridge)
      → IsOnWay planned ops held → held_in place ops ≡ Some bytes → IsBlock (tape_on planned) place bytes

-- Below the ends nothing changes when ops are added: not in the blocks of a tree, nor in what pieces read. So what a
-- call admits makes the tape that the stock asks for.
pub record TapesStay : Type 0 where
  pub alike : (planned : Items) (asked : List Op) (tree : FileTree) → LiesBelow (ends_of (ends_in planned)) tree
      → AreAlikeIn (TreeStandsIn tree) (tape_on (with_ops asked planned)) (tape_on planned)
  pub late : (planned : Items) (asked : List Op) (tree : FileTree) (g : Given) (on : Bool) (st : Standing) (ask : Ask)
      → LiesBelow (ends_of (ends_in planned)) tree → asked ≡ ops_of (rules g) on st.space ask
      → st.space.ends ≡ ends_in planned → 1 ≤ g.mounted.label.block
      → IsLate (tape_on planned) (tape_on (with_ops asked planned)) g on st ask tree
  pub pieces : (planned : Items) (asked : List Op) (pieces : List Piece) → LieBelow (ends_in planned) pieces
      → flat_map (read_piece (tape_on (with_ops asked planned))) pieces ≡ flat_map (read_piece (tape_on planned)) pieces
  pub gathered : (planned : Items) (asked : List Op) (read : Places) (pieces : List Piece)
      → LieBelow (ends_in planned) pieces
      → replies.gathered (tape_on (with_ops asked planned)) read pieces ≡ replies.gathered (tape_on planned) read pieces
  pub agree : (planned : Items) (asked : List Op)
      → AgreeBelow (ends_of (ends_in planned)) (tape_on (with_ops asked planned)) (tape_on planned)
  pub below : (planned : Items) (asked : List Op) (pieces : List Piece) → LieBelow (ends_in planned) pieces
      → LieBelow (ends_in (with_ops asked planned)) pieces

-- Where a tree's block lies before the ends, and no op holds it or puts a mark there, it is done. That stays when ops
-- are added, and when the first op is done.
pub record PlacesStay : Type 0 where
  pub wanted : (planned : Items) (ops : List Op) (tree : FileTree) (place : Place)
      → LiesBelow (ends_of (ends_in planned)) tree → NoMarks ops tree → TreeStandsIn tree place.part place.pos
      → held_in place ops ≡ None → IsDoneAt planned ops place
  pub added : (planned : Items) (ops asked : List Op) (place : Place) → AreNext (ends_in planned) asked
      → IsDoneAt planned ops place → IsDoneAt (with_ops asked planned) (ops ++ asked) place
  pub done : (planned : Items) (op : Op) (ops : List Op) (place : Place) → IsDoneAt planned (op ∷ ops) place
      → IsDoneAt planned ops place

-- The ends go on with the ops, and those that a space admits come next.
pub record EndsGoOn : Type 0 where
  pub ends : (planned : Items) (asked : List Op) → AreNext (ends_in planned) asked
      → ends_in (with_ops asked planned) ≡ after_ops (ends_in planned) asked
  pub admits : (rules : Rules) (on : Bool) (s : Space) (ask : Ask) → AreNext s.ends (ops_of rules on s ask)
  pub leaves : (rules : Rules) (on : Bool) (s : Space) (ask : Ask)
      → (space.after rules on s ask).ends ≡ after_ops s.ends (ops_of rules on s ask)

-- What the theory of crashes plans with is this: at a start, with more ops, and as a tape.
pub record PlansAgree : Type 0 where
  pub begins : (c : Cartridge) (on_ip : Option Index) (on_dp : Index) (part : Part)
      → mounted_items c part ≡ part_items part (made_of c on_ip on_dp)
  pub follows : (planned : Items) (p q : Planned) (asked : List Op)
      → ((part : Part) → part_items part p.made ≡ planned part) → Follows p q asked
      → (part : Part) → part_items part q.made ≡ with_ops asked planned part
  pub tapes : (s : Made) (part : Part) (pos byte : ℕ)
      → tape_of (cartridge_of s) part pos byte ≡ tape_on (λ on. part_items on s) part pos byte

-- No mark is put where a block of the tree stands: with no ops; when the first op is done; when the tree gets no new
-- block; when ops are added behind the ends before which the tree lies; and when bytes are put there into the blocks
-- that the tree gets.
pub record MarksStay : Type 0 where
  pub none : (tree : FileTree) → NoMarks [] tree
  pub done : (ends : Ends) (op : Op) (ops : List Op) (tree : FileTree) → AreNext ends (op ∷ ops)
      → NoMarks (op ∷ ops) tree → NoMarks ops tree
  pub kept : (ops : List Op) (before next : FileTree) → AddsNoBlock before next → NoMarks ops before
      → NoMarks ops next
  pub added : (ends : Ends) (ops asked : List Op) (tree : FileTree) → AreNext ends asked → LiesBelow (ends_of ends) tree
      → NoMarks ops tree → NoMarks (ops ++ asked) tree
  pub stored : (ends : Ends) (ops : List Op) (before next : FileTree) (new : Extent) (bytes : List ℕ)
      → LiesBelow (ends_of ends) before → NoMarks ops before → AddsBlocksOf new before next
      → 1 ≤ before.block_size → new.block ≡ end_of new.part ends → new.byte ≡ 0 → new.count ≡ length bytes
      → NoMarks (ops ++ puts before.block_size new.part new.block bytes) next
