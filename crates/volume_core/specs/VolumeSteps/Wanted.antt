-- What a read takes of what is held, and what it wants from the tape.
use Rattle.std.specs.Prelude.{ℕ, ◌≡◌, ◌+◌, ◌==◌, ◌||◌, Bool, false, List, [], ◌∷◌, ◌++◌, Option, Some, None, filter}
use Rattle.std.specs.Prelude.{length, map}
use Rattle.std.specs.List.{list_any}
use Rattle.tape_types.specs.declared.cartridges.Place.{Place}
use Rattle.extent_map.specs.Cells.{Tape}
use Rattle.extent_map.specs.Replies.{IsBlock, Places, has_place, places_in}
use Rattle.head_queue.specs.EventLaws.Trail.{IsTrail}
use Rattle.head_queue.specs.EventLaws.Waiting as waiting
use Rattle.head_queue.specs.EventLaws.Waiting.{Request}
use Rattle.head_queue.specs.Queued.{Queued, requests}
use Rattle.tape_layout.specs.Ops.{held_in}
use Rattle.tape_layout.specs.declared.ops.Op.{Op}
use Rattle.space_laws.specs.Standing.{Given, Standing}
use Rattle.promises.specs.ServingPromise.Served.{Fixed, headed}
use Rattle.held_volume.specs.Reads.{IsReadPlan}
use Rattle.held_volume.specs.Stocks.{IsStock, Stocked}
use Rattle.event_journal.specs.Trails.{Journaled, state}
use Rattle.promises.specs.GroupLaws.Groups.{requests_for}
use Rattle.promises.specs.GroupLaws.Laws.{wants_at}
use Rattle.waiting_reads.specs.Gathering.{Gathering, IsGathering}
use Rattle.waiting_reads.specs.Waiting.{IsFilledBy}
use Rattle.tape_drive.specs.declared.drive.Drive.{Ghosts}
use Rattle.volume_state.specs.PlanLaws.Planned.{Items, NoMarks}
use Rattle.block_cache.specs.Kept.{Kept, bytes_at, is_cached}
use Rattle.volume_state.specs.StateLaws.Parts.{Parts}
use Rattle.volume_state.specs.StateLaws.Placing.{found_of, is_held, wanted_of}
use Rattle.volume_state.specs.StateLaws.Tied.{IsTied}

-- A read may want blocks: no request is one of the next placement, the events have the ops that stand, and no mark is
-- put where a block of the tree stands.
pub record CanWantBlocks {D : Type 0} (p : Parts D) : Type 0 where
  pub first : list_any (λ (r : Request). r.ticket == length p.listed.history) (state p.trail).requests ≡ false
  pub ops : waiting.ops (state p.trail) ≡ map headed p.stock.layout.ops
  pub marks : NoMarks p.stock.layout.ops p.stock.tree

-- so may those of a volume that is tied
abbrev pub TiedReadsMayWant : {D : Type 0} → Ghosts D → Type 0
TiedReadsMayWant {D} drive = (fixed : Fixed D) (planned : Items) (p : Parts D) → IsTied drive fixed planned p
    → map headed p.stock.layout.ops ≡ waiting.ops (state p.trail) → CanWantBlocks p

-- those of these places for which an op holds a block, or one is kept
abbrev pub there_among : List Op → List Kept → List Place → Places
there_among ops cached places place = has_place place (filter (λ other. is_held ops other || is_cached cached other) places)

-- the blocks that ops hold stand on this tape
abbrev pub HasHeld : Tape → List Op → Type 0
HasHeld tape ops = (place : Place) (bytes : List ℕ) → held_in place ops ≡ Some bytes → IsBlock tape place bytes

-- so do those that are kept
abbrev pub HasKept : Tape → List Kept → Type 0
HasKept tape cached = (place : Place) (bytes : List ℕ) → bytes_at cached place ≡ Some bytes → IsBlock tape place bytes

-- A block that is held is put into the read, and so is one that is kept, which is noted as found. Any other is wanted.
abbrev pub IsTakenFrom : (held kept : Option (List ℕ)) → Place → Gathering → Gathering → (wanted more : List Place)
    → (found later : List Place) → Type 0
IsTakenFrom (Some bytes) kept place old new wanted more found later = IsFilledBy place bytes old new × (more ≡ wanted)
    × (later ≡ found)
IsTakenFrom None (Some bytes) place old new wanted more found later = IsFilledBy place bytes old new × (more ≡ wanted)
    × (later ≡ found ++ place ∷ [])
IsTakenFrom None None place old new wanted more found later = (new ≡ old) × (more ≡ wanted ++ place ∷ [])
    × (later ≡ found)

-- so it is with each of these places
pub record AreTakenFrom (ops : List Op) (cached : List Kept) (places : List Place) (old new : Gathering)
    (wanted more found later : List Place) : Type 0 where
  pub ticket : new.ticket ≡ old.ticket
  pub pieces : new.pieces ≡ old.pieces
  pub gathers : (tape : Tape) → HasHeld tape ops → HasKept tape cached → IsGathering tape (λ place. false) old
      → IsGathering tape (there_among ops cached places) new
  pub wanted_are : more ≡ wanted ++ wanted_of ops cached places
  pub found_are : later ≡ found ++ found_of ops cached places

-- A read of a range has the blocks that are held or kept, and wants the others.
pub record IsFetched (stock : Stocked) (cached : List Kept) (ticket : ℕ) (path : List (List ℕ)) (offset count : ℕ)
    (read : Gathering) (wanted found : List Place) : Type 0 where
  pub ticket_is : read.ticket ≡ ticket
  pub plan : (tape : Tape) (g : Given) (on : Bool) (st : Standing) → IsStock tape g on st stock
      → IsReadPlan tape st stock.tree path offset count read.pieces
  pub gathers : (tape : Tape) → HasHeld tape stock.layout.ops → HasKept tape cached
      → IsGathering tape (there_among stock.layout.ops cached (places_in read.pieces)) read
  pub wanted_are : wanted ≡ wanted_of stock.layout.ops cached (places_in read.pieces)
  pub found_are : found ≡ found_of stock.layout.ops cached (places_in read.pieces)

-- the events have requests of a read for these places
pub record HasEvents (ticket : ℕ) (places : List Place) (old new : Journaled) : Type 0 where
  pub events : new.events ≡ old.events ++ wants_at ticket places
  pub acks : new.acks ≡ old.acks
  pub kept : new.kept ≡ old.kept

-- and so has the queue
pub record HasRequests (ticket : ℕ) (places : List Place) (old new : Queued) : Type 0 where
  pub requests_are : requests new ≡ requests old ++ requests_for ticket old.arrived places
  pub arrived : new.arrived ≡ old.arrived + length places

-- a read waits for these blocks, and nothing else is done
pub record AsksBlocks {D : Type 0} (ticket : ℕ) (wanted : List Place) (read : Gathering) (old new : Parts D)
    : Type 0 where
  pub drive : new.drive ≡ old.drive
  pub stock : new.stock ≡ old.stock
  pub on : new.on ≡ old.on
  pub events : HasEvents ticket wanted old.trail new.trail
  pub trail : IsTrail new.trail.events
  pub requests : HasRequests ticket wanted old.queue new.queue
  pub reads : new.reads ≡ old.reads ++ read ∷ []
  pub cached : new.cached ≡ old.cached
  pub listed : new.listed ≡ old.listed
