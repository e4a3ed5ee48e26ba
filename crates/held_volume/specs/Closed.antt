-- What a close admits of what is held.
use Rattle.std.specs.Prelude.{◌≡◌, ℕ, ◌++◌, ◌<◌, ◌≤◌, Bool, true, false, List, Option, Some, None, Result, Ok, Err}
use Rattle.tape_types.specs.declared.cartridges.Part.TheVariants.{Ip}
use Rattle.tape_types.specs.declared.moments.Moment.{Moment}
use Rattle.extent_map.specs.Blocks.{AreAlikeIn}
use Rattle.extent_map.specs.Cells.{Tape}
use Rattle.file_tree.specs.Blocks.{TreeStandsIn}
use Rattle.tape_layout.specs.Ops.{construct}
use Rattle.tape_layout.specs.declared.errors.AdmitErr.{AdmitErr}
use Rattle.tape_layout.specs.declared.errors.AdmitErr.TheVariants.{Full, NoMemory}
use Rattle.space_laws.specs.Closing.{close_ask, close_limit, close_need, close_text, is_dp_due, is_ip_due}
use Rattle.space_laws.specs.Space as space
use Rattle.space_laws.specs.Space.{is_over, limit_of, need_of, ops_of}
use Rattle.space_laws.specs.Standing.{Given, Standing, rules, sync_text}
use Rattle.held_volume.specs.Stocks.{IsStock, Stocked}

-- what stands once the index is admitted that is due on the data partition
abbrev pub closed_dp : Given → Bool → Standing → Moment → Standing
closed_dp g on st at = record st { space = space.after (rules g) on st.space (close_ask g st at) }

-- the text of the index that is due on the data partition at a close, or none where none is due there
abbrev pub IsDpDocument : Given → Standing → Moment → Option (List ℕ) → Type 0
IsDpDocument g st at (Some text) = (is_dp_due g st.space ≡ true) × (text ≡ sync_text g st at)
IsDpDocument g st at None = is_dp_due g st.space ≡ false

-- the text of the index that is due on the index partition at a close, or none where none is due there
abbrev pub IsIpDocument : Given → Standing → Moment → Option (List ℕ) → Type 0
IsIpDocument g st at (Some text) = (is_ip_due g st.space ≡ true) × (text ≡ close_text g st at)
IsIpDocument g st at None = is_ip_due g st.space ≡ false

-- The index that is due on the data partition fits, its ops are admitted, and what is held then is what stands after
-- it, on each tape with the same bytes in the blocks of the tree.
pub record IsDpDone (early : Tape) (g : Given) (on : Bool) (st : Standing) (at : Moment) (old new : Stocked)
    : Type 0 where
  pub fits : is_over (rules g) on st.space (close_ask g st at) ≡ false
  pub ops : new.layout.ops ≡ old.layout.ops ++ ops_of (rules g) on st.space (close_ask g st at)
  pub stands : (late : Tape) → AreAlikeIn (TreeStandsIn old.tree) late early
      → IsStock late g on (closed_dp g on st at) new

-- it needs more than there is
pub record IsDpFull (g : Given) (on : Bool) (st : Standing) (at : Moment) (need limit : ℕ) : Type 0 where
  pub over : is_over (rules g) on st.space (close_ask g st at) ≡ true
  pub need_is : need ≡ need_of (rules g) on st.space (close_ask g st at)
  pub limit_is : limit ≡ limit_of (rules g) on st.space (close_ask g st at)

abbrev pub IsDpChange : Tape → Given → Bool → Standing → Moment → Stocked → Stocked → Result Unit AdmitErr → Type 0
IsDpChange early g on st at old new (Ok done) = IsDpDone early g on st at old new
IsDpChange early g on st at old new (Err (Full need limit)) = IsDpFull g on st at need limit
IsDpChange early g on st at old new (Err NoMemory) = Unit {0}

-- The index that is due on the index partition fits, and its ops are admitted behind those that stand. The tree and
-- what an index stands on are as they were, but for that the index partition is done.
pub record IsIpDone (g : Given) (st : Standing) (at : Moment) (old new : Stocked) : Type 0 where
  pub fits : close_need g st at ≤ close_limit g
  pub ops : new.layout.ops
      ≡ old.layout.ops ++ construct g.mounted.label.block Ip st.space.ends.ip (close_text g st at)
  pub tree : new.tree ≡ old.tree
  pub frame : new.frame ≡ record old.frame { ip_done = true }

pub record IsIpFull (g : Given) (st : Standing) (at : Moment) (need limit : ℕ) : Type 0 where
  pub over : close_limit g < close_need g st at
  pub need_is : need ≡ close_need g st at
  pub limit_is : limit ≡ close_limit g

abbrev pub IsIpChange : Given → Standing → Moment → Stocked → Stocked → Result Unit AdmitErr → Type 0
IsIpChange g st at old new (Ok done) = IsIpDone g st at old new
IsIpChange g st at old new (Err (Full need limit)) = IsIpFull g st at need limit
IsIpChange g st at old new (Err NoMemory) = Unit {0}

-- how it ends, where a text is due on the index partition; where none is, all is as it was
abbrev pub IsIpEnd : Option (List ℕ) → Given → Standing → Moment → Stocked → Stocked → Result Unit AdmitErr → Type 0
IsIpEnd (Some text) g st at old new result = IsIpChange g st at old new result
IsIpEnd None g st at old new result = (new ≡ old) × (result ≡ Ok tt)
