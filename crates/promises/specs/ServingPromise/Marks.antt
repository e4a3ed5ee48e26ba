-- The marks of a volume, and what they say of a session.
use Rattle.std.specs.Prelude.{◌≡◌, ℕ, ◌==◌, cond, List, [], ◌∷◌, map, filter, fold, filter_map, Option, Some, None, ◌≤◌}
use Rattle.session_script.specs.declared.logs.Reply.{Reply}
use Rattle.session_script.specs.declared.logs.Reply.TheVariants as replies
use Rattle.promises.specs.declared.serving_promise.marks.MarkKind.{MarkKind}
use Rattle.promises.specs.declared.serving_promise.marks.MarkKind.TheVariants.{Places as places, Hands as hands, Begins as begins}
use Rattle.promises.specs.declared.serving_promise.marks.MarkKind.TheVariants.{Rests as rests}
use Rattle.promises.specs.declared.serving_promise.marks.Mark.{Mark}
use Rattle.promises.specs.declared.serving_promise.answers.Submitted.{Submitted}
use Rattle.promises.specs.declared.serving_promise.answers.Submitted.TheVariants as submitted
use Rattle.promises.specs.declared.serving_promise.answers.Turn.{Turn}
use Rattle.promises.specs.declared.serving_promise.answers.Turn.TheVariants as turns
use Rattle.promises.specs.declared.serving_promise.answers.Drained.{Drained}
use Rattle.promises.specs.declared.serving_promise.answers.Drained.TheVariants as drained

-- ---- what the marks of a session say

-- it may submit its next call; it drains, or has a fault kept for it; or it waits for the reply of a place
pub data Phase : Type 0 where
  idle : Phase
  draining : Phase
  waits : ℕ → Phase

-- it waits for a place from its placement until the reply is handed out, and drains from the begin of a drain until
-- it rests or places
abbrev pub after : Phase → MarkKind → Phase
after (waits p) (places q) = waits p
after (waits p) (hands q reply) = cond (p == q) idle (waits p)
after (waits p) begins = waits p
after (waits p) rests = waits p
after idle (places q) = waits q
after idle (hands q reply) = idle
after idle begins = draining
after idle rests = idle
after draining (places q) = waits q
after draining (hands q reply) = draining
after draining begins = draining
after draining rests = idle

-- the kinds of a session's marks, in order
abbrev pub kinds_of : ℕ → List Mark → List MarkKind
kinds_of who marks = map (λ m. m.kind) (filter (λ m. m.who == who) marks)

abbrev pub phase : ℕ → List Mark → Phase
phase who marks = fold after idle (kinds_of who marks)

abbrev pub place_in : MarkKind → Option ℕ
place_in (places p) = Some p
place_in _ = None

-- the places of its calls
abbrev pub places_of : ℕ → List Mark → List ℕ
places_of who marks = filter_map place_in (kinds_of who marks)

abbrev pub hand_in : MarkKind → Option (ℕ × Reply)
hand_in (hands p reply) = Some (p, reply)
hand_in _ = None

-- the replies that were handed out to it, each with its place
abbrev pub hands_of : ℕ → List Mark → List (ℕ × Reply)
hands_of who marks = filter_map hand_in (kinds_of who marks)

-- none of the sessions 1 to n waits or drains, and no fault is kept for any
abbrev pub NothingWaits : ℕ → List Mark → Type 0
NothingWaits sessions marks = (who : ℕ) → 1 ≤ who → who ≤ sessions → phase who marks ≡ idle

-- ---- what each call appends

abbrev pub mark : ℕ → MarkKind → Mark
mark who kind = record { who = who; kind = kind }

-- a placement here, and at once its reply
abbrev pub placed_and_handed : ℕ → ℕ → Reply → List Mark
placed_and_handed who here reply = mark who (places here) ∷ mark who (hands here reply) ∷ []

-- what a submission appends, where the history had come to the place `here`
abbrev pub marks_of_submit : ℕ → ℕ → Submitted → List Mark
marks_of_submit who here (submitted.Ready reply) = placed_and_handed who here reply
marks_of_submit who here (submitted.Wait ticket) = mark who (places ticket) ∷ []
marks_of_submit who here submitted.Drain = mark who begins ∷ []

abbrev pub marks_of_turn : ℕ → ℕ → Turn → List Mark
marks_of_turn who ticket (turns.Ready reply) = mark who (hands ticket reply) ∷ []
marks_of_turn who ticket turns.More = []

abbrev pub marks_of_drain : ℕ → ℕ → Drained → List Mark
marks_of_drain who here drained.Room = mark who rests ∷ []
marks_of_drain who here drained.More = []
marks_of_drain who here (drained.Fault counts) = placed_and_handed who here (replies.Fault counts)
