-- The space of both partitions: what is asked of it, what that needs, and what is admitted.
use Rattle.std.specs.Prelude.{ℕ, ◌+◌, ◌^◌, nat_lt, if◌then◌else◌, Bool, true, false, List, [], ◌++◌, length, Option}
use Rattle.std.specs.Prelude.{Some}
use Rattle.std.specs.Int.{div_ceil}
use Rattle.tape_types.specs.declared.cartridges.Part.{Part}
use Rattle.tape_types.specs.declared.cartridges.Part.TheVariants.{Ip, Dp}
use Rattle.tape_types.specs.declared.cartridges.Limits.{Limits}
use Rattle.tape_types.specs.Cartridges.{capacity}
use Rattle.tape_layout.specs.declared.ops.Op.{Op}
use Rattle.tape_layout.specs.declared.standing.Ends.{Ends}
use Rattle.tape_layout.specs.Admissions as layout
use Rattle.tape_layout.specs.Admissions.{data_limit, due_after, flush_first}
use Rattle.tape_layout.specs.Ops.{construct, end_of, puts, with_end}
use Rattle.tape_layout.specs.Plans.{Plan}
use Rattle.space_laws.specs.Mount.{MountFacts}

-- Where the next item of each partition goes, the newest generation, the first block of the data partition's last
-- admitted index, whether the tree has changed since, whether a block was put on the index partition since the last
-- flush, and whether an index was admitted on the data partition in this run.
pub record Space : Type 0 where
  pub ends : Ends
  pub newest : ℕ
  pub last_dp : Option ℕ
  pub changed : Bool
  pub flush_due : Bool
  pub admitted : Bool

-- as it was mounted
abbrev pub first_space : MountFacts → Space
first_space m = record {
  ends = m.ends;
  newest = m.newest;
  last_dp = m.last_dp;
  changed = false;
  flush_due = false;
  admitted = false;
}

-- what doesn't change: the capacities, and the bytes of a block
pub record Rules : Type 0 where
  pub limits : Limits
  pub block_size : ℕ

-- What a call asks of the tape: nothing, with or without a change of the tree; bytes of a file, which the policy may
-- want on the index partition; or an index with this text.
pub data Ask : Type 0 where
  nothing : Ask
  change : Ask
  store : (wanted : Bool) (bytes : List ℕ) → Ask
  index : (text : List ℕ) → Ask

-- how many blocks these bytes take
abbrev pub blocks : Rules → List ℕ → ℕ
blocks v bytes = div_ceil (length bytes) v.block_size

-- what a layout holds in this space, with these ops, where files may go to the index partition or not
abbrev pub plan_of : Rules → Bool → Space → List Op → Plan
plan_of v on s ops = record {
  limits = v.limits;
  block_size = v.block_size;
  ends = s.ends;
  ops = ops;
  flush_due = s.flush_due;
  ip_on = on;
}

-- the partition to which bytes go
abbrev pub part_for : Rules → Bool → Space → Bool → List ℕ → Part
part_for v on s wanted bytes = layout.part_for (plan_of v on s []) wanted (blocks v bytes)

-- an index has two marks round its blocks
abbrev pub index_need : Rules → Part → Space → List ℕ → ℕ
index_need v part s text = end_of part s.ends + 2 + blocks v text

-- what it needs: a number of positions, or of generations where there is none left
abbrev pub need_of : Rules → Bool → Space → Ask → ℕ
need_of v on s nothing = 0
need_of v on s change = 0
need_of v on s (store wanted bytes) = end_of (part_for v on s wanted bytes) s.ends + blocks v bytes
need_of v on s (index text) = if nat_lt (2 ^ 62) (s.newest + 1) then s.newest + 1 else index_need v Dp s text

-- and how many there are
abbrev pub limit_of : Rules → Bool → Space → Ask → ℕ
limit_of v on s nothing = 0
limit_of v on s change = 0
limit_of v on s (store wanted bytes) = data_limit (capacity (part_for v on s wanted bytes) v.limits)
limit_of v on s (index text) = if nat_lt (2 ^ 62) (s.newest + 1) then 2 ^ 62 else v.limits.cap_dp

abbrev pub is_over : Rules → Bool → Space → Ask → Bool
is_over v on s ask = nat_lt (limit_of v on s ask) (need_of v on s ask)

-- the ops that are admitted, in order
abbrev pub ops_of : Rules → Bool → Space → Ask → List Op
ops_of v on s nothing = []
ops_of v on s change = []
ops_of v on s (store wanted bytes) = run (part_for v on s wanted bytes)
  where
    run : Part → List Op
    run part = puts v.block_size part (end_of part s.ends) bytes
ops_of v on s (index text) = flush_first s.flush_due s.ends.ip ++ construct v.block_size Dp s.ends.dp text

-- data on a partition
abbrev pub with_data : Rules → Part → List ℕ → Space → Space
with_data v part bytes s = record s {
  ends = with_end part (end_of part s.ends + blocks v bytes) s.ends;
  changed = true;
  flush_due = due_after s.flush_due part;
}

-- an index on the data partition
abbrev pub with_index : Rules → List ℕ → Space → Space
with_index v text s = record {
  ends = with_end Dp (index_need v Dp s text) s.ends;
  newest = s.newest + 1;
  last_dp = Some (s.ends.dp + 1);
  changed = false;
  flush_due = false;
  admitted = true;
}

-- what is left of the space once it is admitted
abbrev pub after : Rules → Bool → Space → Ask → Space
after v on s nothing = s
after v on s change = record s { changed = true }
after v on s (store wanted bytes) = with_data v (part_for v on s wanted bytes) bytes s
after v on s (index text) = with_index v text s

-- what the index of a close leaves, which goes to the index partition and has no new generation
abbrev pub after_close : Rules → List ℕ → Space → Space
after_close v text s = record s { ends = with_end Ip (index_need v Ip s text) s.ends; flush_due = false }
