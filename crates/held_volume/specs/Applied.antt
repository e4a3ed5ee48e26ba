-- What a call on what is held answers and leaves.
use Rattle.std.specs.Prelude.{◌≡◌, ℕ, ◌++◌, Bool, true, false, List, length, Option, Some, None, Result, Ok, Err}
use Rattle.tape_types.specs.declared.cartridges.Extent.{Extent}
use Rattle.tape_types.specs.declared.cartridges.Part.{Part}
use Rattle.tape_types.specs.declared.moments.Moment.{Moment}
use Rattle.extent_map.specs.Blocks.{AreAlikeIn}
use Rattle.extent_map.specs.Cells.{Tape}
use Rattle.plain_tree.specs.Refusals.{refusal_of}
use Rattle.plain_tree.specs.Tree.{Tree}
use Rattle.plain_tree.specs.declared.calls.Call.{Call}
use Rattle.plain_tree.specs.declared.calls.Refusal.{Refusal}
use Rattle.file_tree.specs.Blocks.{AddsNoBlock, TreeStandsIn}
use Rattle.file_tree.specs.Edits.{IsAfter, KeepsVolume}
use Rattle.file_tree.specs.Tree.{FileTree, plain_of, whole}
use Rattle.file_tree.specs.Writes.{HoldsBytes}
use Rattle.tape_layout.specs.Ops.{end_of}
use Rattle.tape_layout.specs.declared.errors.AdmitErr.{AdmitErr}
use Rattle.tape_layout.specs.declared.errors.AdmitErr.TheVariants.{Full, NoMemory}
use Rattle.space_laws.specs.Space.{Ask, change, is_over, limit_of, need_of, nothing, ops_of, part_for, store}
use Rattle.space_laws.specs.Standing.{Given, Standing, after_done, ask_of, files_after, rules}
use Rattle.held_volume.specs.declared.volume_sync.frames.Frame.{Frame}
use Rattle.held_volume.specs.Steps.{IsStep}
use Rattle.held_volume.specs.Stocks.{IsStock, LieAs, Stocked, with_change}

-- the run of new blocks that bytes get
abbrev pub new_run : Given → Bool → Standing → Bool → List ℕ → Extent
new_run g on st wanted bytes = on_part (part_for (rules g) on st.space wanted bytes)
  where
    on_part : Part → Extent
    on_part part = record { offset = 0; part = part; block = end_of part st.space.ends; byte = 0; count = length bytes }

-- what is stored stands in its new blocks
abbrev pub HoldsStored : Tape → Given → Bool → Standing → Ask → Type 0
HoldsStored late g on st (store wanted bytes) =
    HoldsBytes late g.mounted.label.block (new_run g on st wanted bytes) bytes
HoldsStored late g on st _ = Unit {0}

-- what will stand on tape once the ops of a call are done too: the blocks of the tree are as they would be without them
pub record IsLate (early late : Tape) (g : Given) (on : Bool) (st : Standing) (ask : Ask)
    (tree : FileTree) : Type 0 where
  pub alike : AreAlikeIn (TreeStandsIn tree) late early
  pub holds : HoldsStored late g on st ask

-- It fits, the ops of what it asks are admitted, and what is held then is what stands after it.
pub record IsDone (early : Tape) (g : Given) (on : Bool) (st : Standing) (call : Call) (at : Moment)
    (old new : Stocked) : Type 0 where
  pub fits : is_over (rules g) on st.space (ask_of g st call at) ≡ false
  pub ops : new.layout.ops ≡ old.layout.ops ++ ops_of (rules g) on st.space (ask_of g st call at)
  pub stands : (late : Tape) → IsLate early late g on st (ask_of g st call at) old.tree
      → IsStock late g on (after_done g on st call at) new

-- it needs more than there is
pub record IsFull (g : Given) (on : Bool) (st : Standing) (call : Call) (at : Moment) (need limit : ℕ) : Type 0 where
  pub over : is_over (rules g) on st.space (ask_of g st call at) ≡ true
  pub need_is : need ≡ need_of (rules g) on st.space (ask_of g st call at)
  pub limit_is : limit ≡ limit_of (rules g) on st.space (ask_of g st call at)

-- how a call ends that the tree doesn't refuse
abbrev pub IsChange : Tape → Given → Bool → Standing → Call → Moment → Stocked → Stocked → Result Unit AdmitErr → Type 0
IsChange early g on st call at old new (Ok done) = IsDone early g on st call at old new
IsChange early g on st call at old new (Err (Full need limit)) = IsFull g on st call at need limit
IsChange early g on st call at old new (Err NoMemory) = Unit {0}

-- What a call is answered: the tree's refusal, where no byte is lost on the tape; that it is done; or that it doesn't
-- fit. Want of memory may stand in place of each.
abbrev pub IsApplied : Tape → Given → Bool → Standing → Call → Moment → Stocked → Stocked
    → Result (Option Refusal) AdmitErr → Type 0
IsApplied early g on st call at old new (Ok (Some refusal)) = refusal_of st.tree call ≡ Some refusal
IsApplied early g on st call at old new (Ok None) =
    (refusal_of (plain_of whole old.tree) call ≡ None) × IsDone early g on st call at old new
IsApplied early g on st call at old new (Err (Full need limit)) =
    (refusal_of (plain_of whole old.tree) call ≡ None) × IsFull g on st call at need limit
IsApplied early g on st call at old new (Err NoMemory) = Unit {0}

-- nothing has changed: what was held for a state still is, and there may be memory for more
pub record IsUnchanged (old new : Stocked) : Type 0 where
  pub layout : new.layout ≡ old.layout
  pub frame : new.frame ≡ old.frame
  pub stands : (tape : Tape) (g : Given) (on : Bool) (st : Standing) → IsStock tape g on st old
      → IsStock tape g on st new

-- where a call isn't done
abbrev pub LeavesAll : Stocked → Stocked → Result (Option Refusal) AdmitErr → Type 0
LeavesAll old new (Ok (Some refusal)) = new ≡ old
LeavesAll old new (Ok None) = Unit {0}
LeavesAll old new (Err e) = IsUnchanged old new

-- What a call makes of the tree that changes it and stores nothing: the tree after it, and how the files lie then.
pub record IsChanging (call : Call) (at : Moment) (before next : FileTree) : Type 0 where
  pub plain : IsAfter call at before next
  pub volume : KeepsVolume before next
  pub blocks : AddsNoBlock before next
  pub asks : (tape : Tape) (g : Given) (st : Standing) → plain_of tape before ≡ st.tree → ask_of g st call at ≡ change
  pub lies : (tape : Tape) (g : Given) (on : Bool) (st : Standing) → plain_of tape before ≡ st.tree
      → LieAs st.files before → LieAs (files_after g on st call change) next

-- what a call makes of it that asks nothing
pub record IsStill (call : Call) (at : Moment) (before next : FileTree) : Type 0 where
  pub same : next ≡ before
  pub asks : (tape : Tape) (g : Given) (st : Standing) → plain_of tape before ≡ st.tree → ask_of g st call at ≡ nothing

abbrev pub IsTreeStep : Call → Moment → Bool → FileTree → FileTree → Type 0
IsTreeStep call at true before next = IsChanging call at before next
IsTreeStep call at false before next = IsStill call at before next

-- What a call that stores nothing makes of the tree: it is refused, where no byte is lost on the tape, and leaves it as
-- it was; or it isn't, and has changed it or not.
abbrev pub IsTried : Call → Moment → FileTree → FileTree → Result Bool Refusal → Type 0
IsTried call at before next (Ok changed) =
    (refusal_of (plain_of whole before) call ≡ None) × IsTreeStep call at changed before next
IsTried call at before next (Err refusal) =
    (refusal_of (plain_of whole before) call ≡ Some refusal) × (next ≡ before)

-- what a call that makes a node makes of it: it is refused and leaves it as it was, or has made its step
abbrev pub IsMade : Call → Moment → FileTree → FileTree → Result Bool Refusal → Type 0
IsMade call at before next (Ok true) = (refusal_of (plain_of whole before) call ≡ None) × IsStep call at before next
IsMade call at before next (Ok false) = ⊥
IsMade call at before next (Err refusal) =
    (refusal_of (plain_of whole before) call ≡ Some refusal) × (next ≡ before)

-- what the next index stands on once that is noted, and what is told of the call
abbrev pub IsNoted : {E : Type 0} → Result (Result Bool Refusal) E → Frame → Frame → Result (Option Refusal) AdmitErr
    → Type 0
IsNoted (Ok (Ok changed)) before next told = (told ≡ Ok None) × (next ≡ with_change changed before)
IsNoted (Ok (Err refusal)) before next told = (told ≡ Ok (Some refusal)) × (next ≡ before)
IsNoted (Err none) before next told = (told ≡ Err NoMemory) × (next ≡ before)
