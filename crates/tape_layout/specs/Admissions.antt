-- What is admitted, what that needs, and what there is.
use Rattle.std.specs.Prelude.{◌≡◌, ℕ, ◌+◌, ◌-◌, ◌/◌, ◌^◌, ◌<◌, ◌≤◌, ◌&&◌, nat_le, nat_lt, if◌then◌else◌, Bool, true}
use Rattle.std.specs.Prelude.{false, List, [], ◌∷◌, ◌++◌, length, Result, Ok, Err}
use Rattle.std.specs.Int.{div_ceil}
use Rattle.tape_types.specs.declared.cartridges.Part.{Part}
use Rattle.tape_types.specs.declared.cartridges.Part.TheVariants.{Ip, Dp}
use Rattle.tape_types.specs.declared.cartridges.Place.{Place}
use Rattle.tape_types.specs.Cartridges.{capacity}
use Rattle.tape_layout.specs.declared.ops.Op.{Op}
use Rattle.tape_layout.specs.declared.ops.Op.TheVariants.{Flush}
use Rattle.tape_layout.specs.declared.errors.AdmitErr.{AdmitErr}
use Rattle.tape_layout.specs.declared.errors.AdmitErr.TheVariants.{Full, NoMemory}
use Rattle.tape_layout.specs.declared.standing.Ends.{Ends}
use Rattle.tape_layout.specs.Ops.{after_ops, construct, end_of, puts, with_end}
use Rattle.tape_layout.specs.Plans.{Plan}

-- a partition's capacity less what is reserved for indexes
abbrev pub data_limit : ℕ → ℕ
data_limit cap = cap - (8 + cap / 16)

-- bytes go to the index partition where they are wanted there, that is on, and they fit there; else to the data
-- partition
abbrev pub part_for : Plan → Bool → ℕ → Part
part_for p wanted count =
    if wanted && p.ip_on && nat_le (p.ends.ip + count) (data_limit p.limits.cap_ip) then Ip else Dp

-- What is asked needs so many positions, or generations, of which there are so many. It gets this place, and leaves
-- this.
pub record Admission : Type 0 where
  pub need : ℕ
  pub limit : ℕ
  pub place : Place
  pub after : Plan

-- whether a flush is due once a block is put on a partition
abbrev pub due_after : Bool → Part → Bool
due_after due Ip = true
due_after due Dp = due

-- a layout with more ops, up to these ends
abbrev pub with_ops : Plan → List Op → Ends → Bool → Plan
with_ops p ops ends due = record {
  limits = p.limits;
  block_size = p.block_size;
  ends = ends;
  ops = p.ops ++ ops;
  flush_due = due;
  ip_on = p.ip_on;
}

-- with more ops, up to the ends to which they lead
abbrev pub with_more : Plan → List Op → Bool → Plan
with_more p ops due = with_ops p ops (after_ops p.ends ops) due

-- data on a partition: their blocks at its end
abbrev pub data_on : Plan → Part → List ℕ → Admission
data_on p part bytes = record {
  need = end_of part p.ends + div_ceil (length bytes) p.block_size;
  limit = data_limit (capacity part p.limits);
  place = record { part = part; pos = end_of part p.ends };
  after = with_ops p (puts p.block_size part (end_of part p.ends) bytes)
      (with_end part (end_of part p.ends + div_ceil (length bytes) p.block_size) p.ends) (due_after p.flush_due part);
}

abbrev pub data_admission : Plan → Bool → List ℕ → Admission
data_admission p wanted bytes = data_on p (part_for p wanted (div_ceil (length bytes) p.block_size)) bytes

-- what was put on the index partition is flushed before an index names it
abbrev pub flush_first : Bool → ℕ → List Op
flush_first due end = if due then Flush (record { part = Ip; pos = end }) ∷ [] else []

-- an index on a partition, behind these ops: its first block gets the place, and no flush is due behind it
abbrev pub index_on : Plan → Part → List Op → List ℕ → Admission
index_on p part first doc = record {
  need = end_of part p.ends + 2 + div_ceil (length doc) p.block_size;
  limit = capacity part p.limits;
  place = record { part = part; pos = end_of part p.ends + 1 };
  after = with_ops p (first ++ construct p.block_size part (end_of part p.ends) doc)
      (with_end part (end_of part p.ends + 2 + div_ceil (length doc) p.block_size) p.ends) false;
}

-- generations end at 2^62: one past them is refused by their number
abbrev pub unless_past : ℕ → Admission → Admission
unless_past generation a = record {
  need = if nat_lt (2 ^ 62) generation then generation else a.need;
  limit = if nat_lt (2 ^ 62) generation then 2 ^ 62 else a.limit;
  place = a.place;
  after = a.after;
}

abbrev pub index_admission : Plan → ℕ → List ℕ → Admission
index_admission p generation doc = unless_past generation (index_on p Dp (flush_first p.flush_due p.ends.ip) doc)

-- the index of a close goes to the index partition
abbrev pub close_admission : Plan → List ℕ → Admission
close_admission p doc = index_on p Ip [] doc

-- It is admitted where it needs no more than there is, and else refused by these numbers. After a refusal, and after
-- one for want of memory, which may stand in place of either, nothing has changed.
abbrev pub IsAdmitted : Admission → Plan → Plan → Result Place AdmitErr → Type 0
IsAdmitted a old new (Ok place) = (a.need ≤ a.limit) × (place ≡ a.place) × (new ≡ a.after)
IsAdmitted a old new (Err (Full need limit)) = (a.limit < a.need) × (need ≡ a.need) × (limit ≡ a.limit) × (new ≡ old)
IsAdmitted a old new (Err NoMemory) = new ≡ old
