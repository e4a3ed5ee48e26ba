-- A printer may go to another thread where its sink may.
use denote.RattleType.{RattleType}
use denote.Param.Send.{IsSend, sendable, view_send}
use denote.Param.SendFields.{declared_send}
use denote.Struct.Record.{declared}
use Rattle.std.proofs.Crossing.{crosses}
use Rattle.tape_edge.specs.declared.traits.Sink as sinks
use Rattle.line_printer.specs.contracts.waiting.Waiting as waitings
use Rattle.line_printer.specs.contracts.printer.Printer as printers
use Rattle.line_printer.specs.contracts.printer.Printer.TheInside as printer

waiting_send : IsSend waitings.the_row
waiting_send = search (crosses, sendable) depth 60 fits 100000

module _ (K : RattleType) (k : sinks.Ghosts K.Denot) (s : IsSend K) where
  pub printer_send : IsSend (printers.the_row K k)
  printer_send = view_send _ _ _ _ _ (declared_send (declared (printer.struct K k) (printer.the_propositions K.Denot)) (
    search (crosses, sendable) depth 60 fits 100000,
    (
      search (crosses, sendable) depth 60 fits 100000,
      (
        search (waiting_send, crosses, sendable) depth 60 fits 100000,
        (
          search (crosses, sendable) depth 60 fits 100000,
          (search (crosses, sendable) depth 60 fits 100000, (search (crosses, sendable) depth 60 fits 100000, tt)),
        ),
      ),
    ),
  ))
