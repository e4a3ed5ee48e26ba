-- What was placed and replied, and the marks of it, as they are kept.
use Rattle.std.specs.Prelude.{◌≡◌, ℕ, zero, suc, ◌+◌, ◌*◌, ◌-◌, ◌≤◌, Bool, true, false, cond, List, Option, Some, None}
use Rattle.std.specs.Prelude.{length, map, slice_get}
use Rattle.std.specs.List.{AllByRecursion}
use Rattle.plain_tree.specs.declared.calls.Placed.{Placed}
use Rattle.session_script.specs.declared.logs.Reply.{Reply}
use Rattle.session_script.specs.declared.logs.Reply.TheVariants as replies
use Rattle.promises.specs.declared.serving_promise.marks.Mark.{Mark}
use Rattle.promises.specs.declared.serving_promise.marks.MarkKind.{MarkKind}
use Rattle.promises.specs.declared.serving_promise.marks.MarkKind.TheVariants as kinds
use Rattle.promises.specs.ServingPromise.Marks.{Phase, idle, draining, waits, phase, mark}
use Rattle.event_journal.specs.declared.placements.Stored.{Stored}
use Rattle.event_journal.specs.declared.placements.What.{What}
use Rattle.event_journal.specs.declared.placements.What.TheVariants as stored

-- The placements, their replies and the marks; for how many placements there is room in all, and how many sessions
-- there are; and for how many more marks there is room, beside those that placements and sessions will bring.
pub record Listed : Type 0 where
  pub history : List Placed
  pub replies : List (Option Reply)
  pub marks : List Mark
  pub calls : ℕ
  pub sessions : ℕ
  pub spare : ℕ

abbrev pub there : Option (Option Reply) → Option Reply
there (Some reply) = reply
there None = None

abbrev pub or_none : Option Reply → Reply
or_none (Some reply) = reply
or_none None = replies.NoMemory

-- a mark that was stored, with the reply that was handed out
abbrev pub kind_of : List (Option Reply) → What → MarkKind
kind_of told (stored.Places place) = kinds.Places place
kind_of told (stored.Hands place) = kinds.Hands place (or_none (there (slice_get told place)))
kind_of told stored.Begins = kinds.Begins
kind_of told stored.Rests = kinds.Rests

abbrev pub shown : List (Option Reply) → Stored → Mark
shown told s = mark s.who (kind_of told s.what)

-- a reply that was handed out stands at its place
abbrev pub IsThere : List (Option Reply) → What → Type 0
IsThere told (stored.Hands place) = (reply : Reply) × (slice_get told place ≡ Some (Some reply))
IsThere told _ = 0 ≤ 0

pub record IsOfSession (sessions : ℕ) (told : List (Option Reply)) (s : Stored) : Type 0 where
  pub low : 1 ≤ s.who
  pub high : s.who ≤ sessions
  pub handed : IsThere told s.what

-- how many of the numbers 1 to n pass
abbrev pub count : (ℕ → Bool) → ℕ → ℕ
count p zero = 0
count p (suc n) = cond (p (suc n)) 1 0 + count p n

abbrev pub is_busy : Phase → Bool
is_busy idle = false
is_busy draining = true
is_busy (waits place) = true

-- how many sessions drain or wait
abbrev pub busy : ℕ → List Mark → ℕ
busy sessions marks = count (λ who. is_busy (phase who marks)) sessions

-- how many marks are still to come at most: two for each call, and one for each session that drains or waits
abbrev pub owed : ℕ → ℕ → ℕ → List Mark → ℕ
owed calls sessions placed marks = 2 * (calls - placed) + busy sessions marks

-- there is room for all placements, their replies and all marks that are still to come
pub record IsListed (history : List Placed) (told : List (Option Reply)) (marks : List Stored) (calls sessions : ℕ)
    (for_history for_replies for_marks : ℕ) : Type 0 where
  pub each : length told ≡ length history
  pub few : length history ≤ calls
  pub histories : calls ≤ for_history
  pub replies : calls ≤ for_replies
  pub right : AllByRecursion (IsOfSession sessions told) marks
  pub room : owed calls sessions (length history) (map (shown told) marks) ≤ for_marks
