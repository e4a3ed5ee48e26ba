-- What is printed of the log of a serving.
use Rattle.std.specs.Prelude.{◌≡◌, [], Option, Some, None}
use Rattle.tape_edge.specs.declared.traits.Sink.{Ghosts}
use Rattle.session_script.specs.LogText.{log_text}
use Rattle.session_script.specs.declared.logs.Log.{Log}
use Rattle.line_printer.specs.Printing.{HasTaken, IsOver, PrinterView}

-- all lines of the log were taken, and none waits; without a log nothing was
abbrev pub IsLogPrinted : {K : Type 0} → Ghosts K → (old new : PrinterView K) → Option Log → Type 0
IsLogPrinted sink old new None = new ≡ old
IsLogPrinted sink old new (Some log) = IsOver old new × (new.waits ≡ []) × HasTaken sink new (log_text log)
