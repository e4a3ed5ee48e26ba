-- What of a desk may go to another thread, or be shared with one, over a drive, a clock and a sink that may.
use denote.RattleType.{RattleType}
use denote.Param.Send.{IsSend, IsSync, sendable, view_send, view_sync}
use denote.Param.SendFields.{declared_send, declared_sync}
use denote.Struct.Record.{declared}
use Rattle.std.proofs.Crossing.{crosses}
use Rattle.tape_drive.specs.declared.drive.Drive as drives
use Rattle.tape_edge.specs.declared.traits.Clock as clocks
use Rattle.tape_edge.specs.declared.traits.Sink as sinks
use Rattle.block_cache.proofs.Crossing.{cache_send}
use Rattle.line_printer.proofs.Crossing.{printer_send}
use Rattle.held_volume.specs.contracts.stocks.Stock as stocks
use Rattle.event_journal.specs.contracts.placements.Placements as placements
use Rattle.waiting_reads.specs.contracts.readings.Readings as readings
use Rattle.volume_core.specs.contracts.volume_steps.parts.Parts as parts
use Rattle.volume_core.specs.contracts.volume.Volume as volumes
use Rattle.volume_core.specs.contracts.volume.Volume.TheInside as volume
use Rattle.turn_lock.proofs.Crossing as crossing
use Rattle.tape_desk.specs.contracts.shelf.Shelf as shelves
use Rattle.tape_desk.specs.contracts.shelf.Shelf.TheInside as shelf
use Rattle.tape_desk.specs.contracts.pass.DeskPass as passes
use Rattle.tape_desk.specs.contracts.pass.DeskPass.TheInside as pass
use Rattle.tape_desk.specs.contracts.desk.Desk as desks
use Rattle.tape_desk.specs.contracts.desk.Desk.TheInside as desk

-- the parts of a volume, the larger ones each for itself
stock_send : IsSend stocks.the_row
stock_send = search (crosses, sendable) depth 60 fits 100000

placements_send : IsSend placements.the_row
placements_send = search (crosses, sendable) depth 60 fits 100000

readings_send : IsSend readings.the_row
readings_send = search (crosses, sendable) depth 60 fits 100000

parts_send : (D : RattleType) (d : drives.Ghosts D.Denot) → IsSend D → IsSend (parts.the_row D d)
parts_send D d s = declared_send (declared (parts.struct D d) (parts.the_propositions D.Denot)) (
  search (crosses, sendable) depth 60 fits 100000,
  (
    search (stock_send, sendable) depth 60 fits 100000,
    (
      search (crosses, sendable) depth 60 fits 100000,
      (
        search (crosses, sendable) depth 60 fits 100000,
        (
          search (placements_send, sendable) depth 60 fits 100000,
          (search (readings_send, sendable) depth 60 fits 100000, (search (crosses, sendable) depth 60 fits 100000, (search (cache_send, sendable) depth 60 fits 100000, tt))),
        ),
      ),
    ),
  ),
)

module _ (D C : RattleType) (d : drives.Ghosts D.Denot) (c : clocks.Ghosts C.Denot) (s : IsSend D) (t : IsSend C) where
  -- its fields one by one, since they are too many for one search
  volume_send : IsSend (volumes.the_row D C d c)
  volume_send = view_send _ _ _ _ _ (declared_send (declared (volume.struct D C d c) (volume.the_propositions D.Denot C.Denot)) (
    search (parts_send, crosses, sendable) depth 60 fits 100000,
    (
      search (crosses, sendable) depth 60 fits 100000,
      (
        search (crosses, sendable) depth 60 fits 100000,
        (
          search (crosses, sendable) depth 60 fits 100000,
          (
            search (crosses, sendable) depth 60 fits 100000,
            (
              search (crosses, sendable) depth 60 fits 100000,
              (
                search (crosses, sendable) depth 60 fits 100000,
                (
                  search (crosses, sendable) depth 60 fits 100000,
                  (
                    search (crosses, sendable) depth 60 fits 100000,
                    (
                      search (crosses, sendable) depth 60 fits 100000,
                      (search (crosses, sendable) depth 60 fits 100000, tt),
                    ),
                  ),
                ),
              ),
            ),
          ),
        ),
      ),
    ),
  ))

module _ (D C K : RattleType) (d : drives.Ghosts D.Denot) (c : clocks.Ghosts C.Denot) (k : sinks.Ghosts K.Denot)
    (s : IsSend D) (t : IsSend C) (u : IsSend K) where
  shelf_send : IsSend (shelves.the_row D C K d c k)
  shelf_send = view_send _ _ _ _ _ (declared_send (declared (shelf.struct D C K d c k) (shelf.the_propositions D.Denot C.Denot K.Denot)) (
    search volume_send depth 60 fits 100000,
    (search printer_send depth 60 fits 100000, tt),
  ))

  -- a pass of a desk may go to another thread, over a drive, a clock and a sink that may
  pub pass_send : IsSend (passes.the_row D C K d c k)
  pass_send = view_send _ _ _ _ _ (declared_send (declared (pass.struct D C K d c k) (pass.the_propositions D.Denot C.Denot K.Denot)) (
    search (crossing.pass_send, shelf_send, crosses, sendable) depth 60 fits 100000,
    (
      search (crosses, sendable) depth 60 fits 100000,
      (search (crosses, sendable) depth 60 fits 100000, (search (crosses, sendable) depth 60 fits 100000, tt)),
    ),
  ))

  -- a desk may be shared with another thread, over a drive, a clock and a sink that may
  pub desk_sync : IsSync (desks.the_row D C K d c k)
  desk_sync = view_sync _ _ _ _ _ (declared_sync (declared (desk.struct D C K d c k) (desk.the_propositions D.Denot C.Denot K.Denot))
      (search (crossing.lock_sync, shelf_send, crosses, sendable) depth 60 fits 100000, tt))
