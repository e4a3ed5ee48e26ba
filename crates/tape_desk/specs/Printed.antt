-- What is printed of a served volume.
use Rattle.std.specs.Prelude.{◌≡◌, ◌≤◌, ℕ, false, List, [], length, map, take, Option, Some, None, slice_get}
use Rattle.tape_edge.specs.declared.traits.Sink.{Ghosts}
use Rattle.plain_tree.specs.declared.calls.Placed.{Placed}
use Rattle.session_script.specs.LogText.{log_text}
use Rattle.session_script.specs.declared.logs.Reply.{Reply}
use Rattle.line_printer.specs.Printing.{HasTaken, PrinterView}
use Rattle.event_journal.specs.LetGo.{is_past}
use Rattle.event_journal.specs.Placements.{there}
use Rattle.promises.specs.declared.serving_promise.marks.Mark.{Mark}
use Rattle.promises.specs.ServingPromise.Served.{View}

-- the lines of the first placements, which have these replies
abbrev pub lines_of : List Placed → List Reply → List ℕ
lines_of history told = log_text (record { history = history; replies = told; acks = []; events = [] })

-- a reply up to this place is none that may be gone, so neither is the one here
pub record IsHereFrom (place : ℕ) (marks : List Mark) : Type 0 where
  pub k : ℕ
  pub within : k ≤ place
  pub here : is_past k marks ≡ false

module _ {K : Type 0} (sink : Ghosts K) where
  -- the lines of the first placements were taken, which all have replies
  pub record IsTakenTo (history : List Placed) (replies : List (Option Reply)) (p : PrinterView K) : Type 0 where
    pub told : List Reply
    pub many : length told ≡ p.lines
    pub first : map Some told ≡ take p.lines replies
    pub text : HasTaken sink p (lines_of history told)

  -- These lines are written, all of them or a front of their text where a write has failed. But where one has, or the
  -- sink is left alone, no further line can be printed: the next placement has no reply, or isn't there.
  pub record IsPrinted {D : Type 0} (v : View D) (p : PrinterView K) : Type 0 where
    pub taken : IsTakenTo v.history v.replies p
    pub none : p.waits ≡ []
    pub out : p.quiet ≡ false → p.broken ≡ false → there (slice_get v.replies p.lines) ≡ None
