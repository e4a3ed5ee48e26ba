-- What the lock around a served volume holds, and what no call changes of it.
use Rattle.std.specs.Prelude.{◌≡◌, ◌++◌, ℕ, Bool, List, map}
use Rattle.line_printer.specs.Printing.{PrinterView}
use Rattle.promises.specs.ServingPromise.Marks.{mark}
use Rattle.promises.specs.ServingPromise.Served.{Fixed, View}
use Rattle.promises.specs.declared.serving_promise.marks.MarkKind.{MarkKind}

-- the volume, and what prints its log
pub record HeldView (D K : Type 0) : Type 0 where
  pub volume : View D
  pub printer : PrinterView K

-- what no call changes of the volume, the sink as it was handed in, and whether it is left alone
pub record Constants (D K : Type 0) : Type 0 where
  pub volume : Fixed D
  pub first : K
  pub quiet : Bool

abbrev pub constants : {D K : Type 0} → HeldView D K → Constants D K
constants h = record { volume = h.volume.fixed; first = h.printer.first; quiet = h.printer.quiet }

-- the volume has these marks of a session more, and what no call changes is as it was
pub record HasAdded {D K : Type 0} (who : ℕ) (kinds : List MarkKind) (old new : HeldView D K) : Type 0 where
  pub marks : new.volume.marks ≡ old.volume.marks ++ map (mark who) kinds
  pub constants : constants new ≡ constants old
