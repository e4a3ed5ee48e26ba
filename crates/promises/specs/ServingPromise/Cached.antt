-- The blocks that were read and are kept: which of its blocks a read asks for, what steps of the head make of them, and
-- what is true of them.
use Rattle.std.specs.Prelude.{ℕ, ◌≡◌, ◌⊎◌, ◌&&◌, ◌||◌, not, Bool, true, false, List, [], ◌∷◌, All, filter, filter_map}
use Rattle.std.specs.Prelude.{Option, Some, None, IfSome, slice_get}
use Rattle.std.specs.List.{list_any}
use Rattle.tape_types.specs.Cartridges.{items_of}
use Rattle.tape_types.specs.declared.cartridges.Cartridge.{Cartridge}
use Rattle.tape_types.specs.declared.cartridges.Item.TheVariants as items
use Rattle.tape_types.specs.declared.cartridges.Place.{Place}
use Rattle.session_script.specs.declared.logs.Event.{Event}
use Rattle.session_script.specs.declared.logs.Event.TheVariants as events
use Rattle.head_queue.specs.EventLaws.Waiting.{ops, same_place}
use Rattle.head_queue.specs.EventLaws.Trail.{after_all, puts_at}
use Rattle.block_cache.specs.Kept.{AreKept, Kept, is_cached, used_all, with_block}

-- ---- what a read asks for

-- an op has the block, which is still to be put
abbrev pub is_held : List Event → Place → Bool
is_held before place = list_any (puts_at place) (ops (after_all before))

-- Of the blocks of a read, each once and in the order of its range: those that it asks for, and those that it finds.
abbrev pub asked : List Place → List Event → List Kept → List Place
asked blocks before cached = filter (λ place. not (is_held before place || is_cached cached place)) blocks

abbrev pub found : List Place → List Event → List Kept → List Place
found blocks before cached = filter (λ place. not (is_held before place) && is_cached cached place) blocks

abbrev pub wanted : Event → Option Place
wanted (events.Wants ticket place) = Some place
wanted _ = None

-- A read asks for each of its blocks that no op holds and that isn't kept, and for no other. Those that no op holds and
-- that are kept were used.
pub record ReadsBlocks (blocks : List Place) (before added : List Event) (old new : List Kept) : Type 0 where
  pub asks : filter_map wanted added ≡ asked blocks before old
  pub uses : new ≡ used_all old (found blocks before old)

-- no block is asked for, and none counts as used
abbrev pub LeavesBlocks : List Event → (old new : List Kept) → Type 0
LeavesBlocks added old new = (filter_map wanted added ≡ []) × (new ≡ old)

-- ---- what a step of the head makes of them

-- the item at a place is a block with these bytes
abbrev pub IsBlockAt : Cartridge → Place → List ℕ → Type 0
IsBlockAt c place bytes = slice_get (items_of place.part c) place.pos ≡ Some (items.Block bytes)

-- A block that was read for a request is kept with the bytes that stand there, or there is no memory for it. No other
-- event changes what is kept.
abbrev pub KeepsBlock : Option Cartridge → Event → (old new : List Kept) → Type 0
KeepsBlock told (events.Served ticket place None) old new =
    (new ≡ old)
    ⊎ ((bytes : List ℕ) × (new ≡ with_block place bytes old) × IfSome told (λ c. IsBlockAt c place bytes))
KeepsBlock told _ old new = new ≡ old

abbrev pub KeepsBlocks : Option Cartridge → List Event → (old new : List Kept) → Type 0
KeepsBlocks told [] old new = new ≡ old
KeepsBlocks told (e ∷ later) old new = (mid : List Kept) × KeepsBlock told e old mid × KeepsBlocks told later mid new

-- ---- what is true of them

-- a block was read in this run without a fault
abbrev pub was_read : Place → Event → Bool
was_read place (events.Served ticket at None) = same_place at place
was_read place _ = false

-- Each was read in this run, each once, and there are no more than may be kept.
pub record IsCache (trail : List Event) (cached : List Kept) : Type 0 where
  pub read : All (λ block. list_any (was_read block.0) trail ≡ true) cached
  pub kept : AreKept cached

-- each has the bytes that stand on the cartridge
abbrev pub AreOnTape : Cartridge → List Kept → Type 0
AreOnTape c cached = All (λ block. IsBlockAt c block.0 block.1) cached
