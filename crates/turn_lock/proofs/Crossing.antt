-- Passes of a lock may go to another thread, and the lock be shared with one, where its state may go to one.
use denote.RattleType.{RattleType}
use denote.Param.Send.{Frees, IsSend, IsSync, sendable, view_send, view_sync}
use denote.Param.SendFields.{declared_send, declared_sync}
use denote.Struct.Record.{declared}
use Rattle.std.proofs.Crossing.{crosses}
use Rattle.atomic_table.proofs.shared.Seat.TheSendSync.{the_send as seat_send}
use Rattle.atomic_table.proofs.shared.Shared.TheSendSync.{the_sync as shared_sync}
use Rattle.atomic_table.proofs.send_lease.SendLease.TheSendSync.{the_sync as lease_sync}
use Rattle.atomic_table.specs.contracts.owned.Table as tables
use Rattle.atomic_table.specs.declared.shared.TableRule as rules
use Rattle.std.specs.declared.alloc.Allocator as alloc
use Rattle.turn_lock.specs.contracts.board.Board as boards
use Rattle.turn_lock.specs.declared.logged.Logged as logged
use Rattle.turn_lock.specs.contracts.pass.Pass as passes
use Rattle.turn_lock.specs.contracts.pass.Pass.TheInside as pass
use Rattle.turn_lock.specs.contracts.lock.TurnLock as locks
use Rattle.turn_lock.specs.contracts.lock.TurnLock.TheInside as lock

module _ (S V K P A : RattleType) (p : rules.Ghosts P.Denot S.Denot V.Denot K.Denot) (a : alloc.Ghosts A.Denot) where
  table_sync : IsSend S → IsSend A → IsSync A → Frees a a.dealloc_token → IsSync (tables.the_row S V K P A p a)
  table_sync s sends syncs frees = declared_sync (declared (tables.struct S V K P A p a) (tables.the_propositions S.Denot V.Denot K.Denot P.Denot A.Denot _ _ _ _ _ _ _ _)) (
    search (shared_sync, crosses, sendable) depth 60 fits 100000,
    (
      search (crosses, sendable) depth 60 fits 100000,
      (
        search (crosses, sendable) depth 60 fits 100000,
        (
          search (lease_sync, crosses, sendable) depth 60 fits 100000,
          (search (lease_sync, crosses, sendable) depth 60 fits 100000, (search (crosses, sendable) depth 60 fits 100000, tt)),
        ),
      ),
    ),
  )

module _ (T M F : RattleType) (g : logged.Ghosts T.Denot M.Denot F.Denot) (s : IsSend T) where
  -- a pass of the lock may go to another thread
  pub pass_send : IsSend (passes.the_row T M F g)
  pass_send = view_send _ _ _ _ _ (declared_send (declared (pass.struct T M F g) (pass.the_propositions T.Denot M.Denot F.Denot)) (search (seat_send, crosses, sendable) depth 60 fits 100000, tt))

  board_sync : IsSync (boards.the_row T M F g)
  board_sync = declared_sync (declared (boards.struct T M F g) (boards.the_propositions T.Denot M.Denot F.Denot _ _ _ _ _ _ _ _ _ _ _))
      (search (table_sync, crosses, sendable) depth 60 fits 100000, (search (crosses, sendable) depth 60 fits 100000, (search (crosses, sendable) depth 60 fits 100000, tt)))

  -- the lock may be shared with another thread
  pub lock_sync : IsSync (locks.the_row T M F g)
  lock_sync = view_sync _ _ _ _ _ (declared_sync (declared (lock.struct T M F g) (lock.the_propositions T.Denot M.Denot F.Denot)) (search (board_sync, crosses, sendable) depth 60 fits 100000, tt))
