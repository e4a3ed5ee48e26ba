-- Ops in the order of their admission, each at the end of a partition.
use Rattle.std.specs.Prelude.{◌≡◌, ℕ, ◌+◌, ◌<◌, ◌≤◌, List, [], ◌∷◌, ◌++◌, Option, Some, None, length, map}
use Rattle.std.specs.Prelude.{if◌then◌else◌, Bool, ◌==◌, ◌&&◌, true, false, nat_le}
use Rattle.std.specs.Int.{div_ceil}
use Rattle.std.specs.List.{range_with_len}
use Rattle.std.specs.List.Sorted.{IsPartitionedBy, IsPartitionPoint}
use Rattle.tape_types.specs.declared.cartridges.Part.{Part}
use Rattle.tape_types.specs.declared.cartridges.Part.TheVariants.{Ip, Dp}
use Rattle.tape_types.specs.declared.cartridges.Place.{Place}
use Rattle.tape_types.specs.declared.cartridges.Limits.{Limits}
use Rattle.tape_types.specs.Cartridges.{capacity}
use Rattle.tape_layout.specs.IndexConstruct.Blocks.{block_at}
use Rattle.tape_layout.specs.declared.ops.Op.{Op}
use Rattle.tape_layout.specs.declared.ops.Op.TheVariants.{Put, Mark, Flush}
use Rattle.tape_layout.specs.declared.standing.Ends.{Ends}
use Rattle.tape_layout.specs.declared.standing.Standing.{Standing}

abbrev pub end_of : Part → Ends → ℕ
end_of Ip e = e.ip
end_of Dp e = e.dp

abbrev pub with_end : Part → ℕ → Ends → Ends
with_end Ip n e = record { ip = n; dp = e.dp }
with_end Dp n e = record { ip = e.ip; dp = n }

abbrev pub place_of : Op → Place
place_of (Put place bytes) = place
place_of (Mark place) = place
place_of (Flush place) = place

abbrev pub is_flush : Op → Bool
is_flush (Put place bytes) = false
is_flush (Mark place) = false
is_flush (Flush place) = true

-- where the next item of each partition goes once an op is admitted: behind a block or a mark
abbrev pub after_op : Ends → Op → Ends
after_op e (Put place bytes) = with_end place.part (place.pos + 1) e
after_op e (Mark place) = with_end place.part (place.pos + 1) e
after_op e (Flush place) = e

abbrev pub after_ops : Ends → List Op → Ends
after_ops e [] = e
after_ops e (op ∷ ops) = after_ops (after_op e op) ops

-- each op stands at the end that its partition has by then
abbrev pub AreNext : Ends → List Op → Type 0
AreNext e [] = Unit {0}
AreNext e (op ∷ ops) = ((place_of op).pos ≡ end_of (place_of op).part e) × AreNext (after_op e op) ops

-- an item has a position of its partition, and a block has bytes, of which there are no more than a block of the volume
-- has
abbrev pub HasRoom : Limits → ℕ → Op → Type 0
HasRoom limits size (Put place bytes) =
    (place.pos < capacity place.part limits) × (1 ≤ length bytes) × (length bytes ≤ size)
HasRoom limits size (Mark place) = place.pos < capacity place.part limits
HasRoom limits size (Flush place) = place.pos ≤ capacity place.part limits

-- the blocks of a document, one after the other from a position on
abbrev pub puts : ℕ → Part → ℕ → List ℕ → List Op
puts size part pos doc =
    map (λ k. Put (record { part = part; pos = pos + k }) (block_at size doc k))
    (range_with_len 0 (div_ceil (length doc) size))

-- an index with this text: a mark, its blocks and a mark, and then a flush
abbrev pub construct : ℕ → Part → ℕ → List ℕ → List Op
construct size part pos doc =
    Mark (record { part = part; pos = pos }) ∷ []
    ++ puts size part (pos + 1) doc
    ++ Mark (record { part = part; pos = pos + 1 + div_ceil (length doc) size }) ∷ []
    ++ Flush (record { part = part; pos = pos + 2 + div_ceil (length doc) size }) ∷ []

-- the bytes that a block has at a place
abbrev pub held_by : Place → Op → Option (List ℕ)
held_by at (Put place bytes) = if is_same place.part at.part && place.pos == at.pos then Some bytes else None
  where
    is_same : Part → Part → Bool
    is_same Ip Ip = true
    is_same Dp Dp = true
    is_same _ _ = false
held_by at (Mark place) = None
held_by at (Flush place) = None

abbrev pub or_later : Option (List ℕ) → Option (List ℕ) → Option (List ℕ)
or_later (Some bytes) later = Some bytes
or_later None later = later

-- the first of them
abbrev pub held_in : Place → List Op → Option (List ℕ)
held_in at [] = None
held_in at (op ∷ ops) = or_later (held_by at op) (held_in at ops)

-- the ops of those that are kept
abbrev pub ops_of : List Standing → List Op
ops_of items = map (λ (s : Standing). s.op) items

-- each op with the ends after it
abbrev pub counted : Ends → List Op → List Standing
counted e [] = []
counted e (op ∷ ops) = record { op = op; ends = after_op e op } ∷ counted (after_op e op) ops

-- this is held at a place by the ops that are kept, where they stand one after the other
abbrev pub IsHeld : Place → List Standing → Option (List ℕ) → Type 0
IsHeld at items held = (from : Ends) (ops : List Op)
    → items ≡ counted from ops → AreNext from ops → held ≡ held_in at ops

-- behind an op the partition doesn't reach past a place
abbrev pub is_before : Place → Standing → Bool
is_before at s = nat_le (end_of at.part s.ends) at.pos

-- it reaches past the place behind each op from this one on, and behind none before it
abbrev pub IsFirstPast : Place → List Standing → ℕ → Type 0
IsFirstPast at items k =
    IsPartitionedBy (is_before at) items
    → IsPartitionPoint (λ s. is_before at s ≡ true) (λ s. is_before at s ≡ false) items k
