-- What a layout holds.
use Rattle.std.specs.Prelude.{◌≡◌, ℕ, ◌≤◌, ◌++◌, Bool, List}
use Rattle.std.specs.List.{All}
use Rattle.tape_types.specs.declared.cartridges.Limits.{Limits}
use Rattle.tape_types.specs.Cartridges.{IsLimits}
use Rattle.tape_layout.specs.declared.ops.Op.{Op}
use Rattle.tape_layout.specs.declared.standing.Ends.{Ends}
use Rattle.tape_layout.specs.declared.standing.Standing.{Standing}
use Rattle.tape_layout.specs.Ops.{AreNext, HasRoom, after_ops, counted, ops_of}

-- The capacities, the bytes of a block, where the next item of each partition goes, the ops that stand, whether a block
-- was put on the index partition since the last flush was admitted, and whether files may go there.
pub record Plan : Type 0 where
  pub limits : Limits
  pub block_size : ℕ
  pub ends : Ends
  pub ops : List Op
  pub flush_due : Bool
  pub ip_on : Bool

abbrev pub plan : Limits → ℕ → Ends → List Op → Bool → Bool → Plan
plan limits size ends ops due on =
    record { limits = limits; block_size = size; ends = ends; ops = ops; flush_due = due; ip_on = on }

-- an end lies behind the label, and within the capacity
pub record IsEnd (cap end : ℕ) : Type 0 where
  pub low : 4 ≤ end
  pub high : end ≤ cap

-- what a layout can be made for
pub record CanBe (limits : Limits) (size : ℕ) (ends : Ends) : Type 0 where
  pub limits_are : IsLimits limits
  pub some : 1 ≤ size
  pub most : size ≤ 1048576
  pub ip : IsEnd limits.cap_ip ends.ip
  pub dp : IsEnd limits.cap_dp ends.dp

-- The ops lead from some ends to others: each stands at the end that its partition has by then, and has room.
pub record Lead (limits : Limits) (size : ℕ) (from to : Ends) (ops : List Op) : Type 0 where
  pub next : AreNext from ops
  pub ends_are : after_ops from ops ≡ to
  pub room : All (HasRoom limits size) ops

-- the ops that stand lead from some ends up to those that there are
pub record AreStanding (limits : Limits) (size : ℕ) (ends : Ends) (ops : List Op) : Type 0 where
  pub from : Ends
  pub lead : Lead limits size from ends ops
  pub can_be : CanBe limits size ends

-- ops can be admitted: they lead from the ends to others that there can be
pub record CanAdmit (p : Plan) (ops : List Op) : Type 0 where
  pub lead : Lead p.limits p.block_size p.ends (after_ops p.ends ops) ops
  pub can_be : CanBe p.limits p.block_size (after_ops p.ends ops)

-- each op is kept with the ends after it
pub record AreKept (limits : Limits) (size : ℕ) (ends : Ends) (items : List Standing) : Type 0 where
  pub standing : AreStanding limits size ends (ops_of items)
  pub kept : items ≡ counted standing.from (ops_of items)

-- ops that are made from some ends on, to be admitted together
pub record Drafted : Type 0 where
  pub start : Ends
  pub ops : List Op

abbrev pub drafted : Ends → List Op → Drafted
drafted start ops = record { start = start; ops = ops }

-- with more ops behind them
abbrev pub more : Drafted → List Op → Drafted
more d ops = drafted d.start (d.ops ++ ops)

pub record IsDraft (d : Drafted) (ends : Ends) (items : List Standing) : Type 0 where
  pub kept : items ≡ counted d.start d.ops
  pub ends_are : ends ≡ after_ops d.start d.ops
