-- What ties the parts of a served volume to one another, to its history, and to what stands on tape.
use Rattle.std.specs.Prelude.{ℕ, ◌≡◌, ◌≤◌, ◌<◌, ◌==◌, ◌^◌, not, Bool, true, false, List, All, AllPairs, Contains}
use Rattle.std.specs.Prelude.{Option, Some, None, IfSome, length, map, slice_get}
use Rattle.std.specs.List.{list_any}
use Rattle.tape_types.specs.Cartridges.{IsLimits, capacity}
use Rattle.tape_types.specs.declared.cartridges.Cartridge.{Cartridge}
use Rattle.tape_types.specs.declared.cartridges.Part.{Part}
use Rattle.tape_types.specs.declared.cartridges.Part.TheVariants.{Dp}
use Rattle.tape_types.specs.declared.cartridges.Place.{Place}
use Rattle.tape_drive.specs.declared.drive.Drive.{Ghosts}
use Rattle.plain_tree.specs.Calls.{answer}
use Rattle.plain_tree.specs.History.{call_at}
use Rattle.plain_tree.specs.declared.calls.Call.{Call}
use Rattle.plain_tree.specs.declared.calls.Placed.{Placed}
use Rattle.extent_map.specs.Blocks.{FileStandsIn}
use Rattle.extent_map.specs.Replies.{Places}
use Rattle.session_script.specs.Sessions.{greatest_session}
use Rattle.head_queue.specs.EventLaws.Waiting.{Request, State, ops}
use Rattle.head_queue.specs.EventLaws.Trail.{asks}
use Rattle.head_queue.specs.Queued.{requests}
use Rattle.tape_layout.specs.Ops.{end_of, held_in}
use Rattle.tape_layout.specs.declared.ops.Op.{Op}
use Rattle.tape_layout.specs.declared.standing.Ends.{Ends}
use Rattle.ltfs_label.specs.declared.Label.{Label}
use Rattle.cartridge_meaning.specs.Mounts.{IsMount}
use Rattle.promises.specs.ImageLaws.Made.{part_items}
use Rattle.space_laws.specs.Files.{Files}
use Rattle.space_laws.specs.Standing.{Given, Standing, is_on, standing}
use Rattle.promises.specs.ServingPromise.Mount.{facts_of}
use Rattle.promises.specs.ServingPromise.Served.{Fixed, View, given, headed}
use Rattle.promises.specs.OrderLaws.Kept.{seen}
use Rattle.promises.specs.ReplyLaws.Sides.{on_here, standing_here}
use Rattle.promises.specs.CrashLaws.Laws.{CanServe}
use Rattle.promises.specs.CrashLaws.Safe.{Planned}
use Rattle.promises.specs.PromiseLaws.Kept.{Plan}
use Rattle.held_volume.specs.Stocks.{IsStock}
use Rattle.event_journal.specs.Trails.{due_ticket, state}
use Rattle.volume_state.specs.PlanLaws.Planned.{Items, IsDoneAt, IsOnWay, IsPlan, IsPutBy, LieBelow, ends_in, tape_on}
use Rattle.promises.specs.GroupLaws.Groups.{IsGrouped}
use Rattle.block_cache.specs.Kept.{Kept}
use Rattle.waiting_reads.specs.Gathering.{Gathering, IsGathering, read_answer}
use Rattle.volume_state.specs.StateLaws.Parts.{Parts, view_of}
use Rattle.volume_state.specs.StateLaws.Placing.{IsPlannedBlock}

-- a request waits for this place of the history
abbrev pub is_of : ℕ → Request → Bool
is_of ticket r = r.ticket == ticket

-- those blocks of a read were met that no request asks for any more
abbrev pub was_met : State → ℕ → Places
was_met st ticket place = not (list_any (asks ticket place) st.requests)

-- A read that waits is that of its place in the history: it is answered by what its pieces read on the tape that is
-- planned, and, where the drive told a cartridge at the start, has the bytes of all blocks but those that are still
-- asked for.
pub record IsReading (g : Given) (on : Option ℕ) (history : List Placed) (planned : Items) (told : Option Cartridge)
    (st : State) (r : Gathering) : Type 0 where
  pub placed : Placed
  pub placed_is : slice_get history r.ticket ≡ Some placed
  pub call : Call
  pub call_is : call_at g.calls placed ≡ Some call
  pub answers : answer (standing g on history r.ticket).tree call ≡ read_answer (tape_on planned) r.pieces
  pub below : LieBelow (ends_in planned) r.pieces
  pub gathering : IfSome told (λ c. IsGathering (tape_on planned) (was_met st r.ticket) r)
  pub asked : list_any (is_of r.ticket) st.requests ≡ true

-- each request is for a block that stands, and that no op has still to put; a read waits for it
pub record IsAsked (planned : Items) (ops : List Op) (reads : List Gathering) (r : Request) : Type 0 where
  pub stands : IsDoneAt planned ops r.place
  pub reading : Gathering
  pub waits : Contains reads reading
  pub ticket : reading.ticket ≡ r.ticket

-- the reads that wait, each once
pub record AreReading (g : Given) (on : Option ℕ) (history : List Placed) (planned : Items) (told : Option Cartridge)
    (ops : List Op) (st : State) (reads : List Gathering) : Type 0 where
  pub each : All (IsReading g on history planned told st) reads
  pub apart : AllPairs (λ (a b : Gathering). (a.ticket == b.ticket) ≡ false) reads
  pub asked : All (IsAsked planned ops reads) st.requests

-- a block that is kept stands on tape already, and where the drive told a cartridge at the start, with its bytes
pub record IsKeptRightly (planned : Items) (ops : List Op) (told : Option Cartridge) (block : Kept) : Type 0 where
  pub stands : IsDoneAt planned ops block.0
  pub bytes : IfSome told (λ c. IsPlannedBlock planned block)

-- a byte of some file stands in the block at this position
pub record FilesStandIn (files : Files) (part : Part) (pos : ℕ) : Type 0 where
  pub uid : ℕ
  pub block : FileStandsIn (files uid) part pos

-- blocks of files stand behind the labels and before the ends, and where one is still to be put, an op has its bytes
pub record AreFilesRight (files : Files) (ends : Ends) (ops : List Op) : Type 0 where
  pub low : (part : Part) (pos : ℕ) → FilesStandIn files part pos → 4 ≤ pos
  pub below : (part : Part) (pos : ℕ) → FilesStandIn files part pos → pos < end_of part ends
  pub bytes : (part : Part) (pos : ℕ) → FilesStandIn files part pos
      → IsPutBy ops (record { part = part; pos = pos })
      → (block : List ℕ) × (held_in (record { part = part; pos = pos }) ops ≡ Some block)

-- The parts of a volume that is served from a mount: the queue has the requests of its events, and no sync is due; what
-- is held is what stands, on the tape that there is once all ops are done, as do the blocks that are kept; and where the
-- drive tells a cartridge, that is on the way there. Where it tells none, it told none at the start. All that is planned lies within the capacities.
pub record IsTied {D : Type 0} (drive : Ghosts D) (fixed : Fixed D) (planned : Items) (p : Parts D) : Type 0 where
  pub limits : IsLimits (drive.limits fixed.first)
  pub mount : IsMount (drive.limits fixed.first) fixed.mounted
  pub told : drive.held p.drive ≡ None → drive.held fixed.first ≡ None
  pub queue : requests p.queue ≡ (state p.trail).requests
  pub arrived : p.queue.arrived ≡ (state p.trail).arrived
  pub none_due : due_ticket (state p.trail) ≡ None
  pub on_is : IfSome p.on (λ first. first ≤ length p.listed.history)
  pub calls : p.listed.calls ≡ length fixed.script
  pub sessions : p.listed.sessions ≡ greatest_session fixed.script
  pub stock : IsStock (tape_on planned) (given (view_of fixed None p) (seen drive fixed.first))
      (on_here (seen drive fixed.first) (view_of fixed None p))
      (standing_here (seen drive fixed.first) (view_of fixed None p)) p.stock
  pub ends : (standing_here (seen drive fixed.first) (view_of fixed None p)).space.ends ≡ ends_in planned
  pub back : IfSome (standing_here (seen drive fixed.first) (view_of fixed None p)).space.last_dp
      (λ pos. pos < length (planned Dp))
  pub grouped : IsGrouped (standing_here (seen drive fixed.first) (view_of fixed None p)).space (state p.trail)
  pub files : AreFilesRight (standing_here (seen drive fixed.first) (view_of fixed None p)).files (ends_in planned)
      p.stock.layout.ops
  pub room : (part : Part) → end_of part (ends_in planned) ≤ capacity part (drive.limits fixed.first)
  pub plan : IsPlan planned p.stock.layout.ops
  pub way : (c : Cartridge) → drive.held p.drive ≡ Some c → IsOnWay planned p.stock.layout.ops c
  pub reads : AreReading (given (view_of fixed None p) (seen drive fixed.first)) p.on p.listed.history planned
      (drive.held fixed.first) p.stock.layout.ops (state p.trail) p.reads
  pub cached : All (IsKeptRightly planned p.stock.layout.ops (drive.held fixed.first)) p.cached

-- what is planned is what the theory of crashes knows of, on the volume that was mounted
pub record IsKnownAs (label : Label) (known : Planned) (planned : Items) : Type 0 where
  pub label_is : label ≡ known.labels.ip
  pub items : (part : Part) → part_items part known.made ≡ planned part

-- so it is where the cartridge stood for the tree
abbrev pub IsPlannedAs : {D : Type 0} (drive : Ghosts D) (fixed : Fixed D) → Plan drive fixed → Items → Type 0
IsPlannedAs drive fixed plan planned = (can : CanServe drive fixed)
    → IsKnownAs fixed.mounted.label (plan can) planned
