-- What the marks of a session say, in plain words.
use Rattle.std.specs.Prelude.{◌≡◌, ◌↔◌, ◌==◌, ℕ, Bool, true, false, List, [], ◌∷◌, ◌++◌, Contains, Some, slice_get}
use Rattle.std.specs.List.{list_all, list_any, scan}
use Rattle.plain_tree.specs.declared.calls.Placed.{Placed}
use Rattle.session_script.specs.Sessions.{greatest_session}
use Rattle.session_script.specs.declared.logs.Reply.{Reply}
use Rattle.head_queue.specs.EventLaws.Trail.{after_all, drains_now}
use Rattle.promises.specs.ServingPromise.Faults.{kept_for}
use Rattle.promises.specs.ServingPromise.Marks.{NothingWaits, Phase, after, draining, hands_of, idle, kinds_of, phase, places_of}
use Rattle.promises.specs.ServingPromise.Marks.{waits}
use Rattle.promises.specs.ServingPromise.Served.{View}
use Rattle.promises.specs.declared.serving_promise.marks.MarkKind.{MarkKind}
use Rattle.promises.specs.declared.serving_promise.marks.MarkKind.TheVariants.{Places as places, Hands as hands, Begins as begins}
use Rattle.promises.specs.declared.serving_promise.marks.MarkKind.TheVariants.{Rests as rests}
use Rattle.promises.specs.declared.serving_promise.marks.Mark.{Mark}

-- ---- the marks that calls make

-- which mark may come in a phase: an idle session places a call or begins to drain, one that waits is handed the reply
-- of its place, and one that drains rests or places its write
abbrev pub goes_on : Phase → MarkKind → Bool
goes_on idle (places q) = true
goes_on idle begins = true
goes_on (waits p) (hands q reply) = p == q
goes_on draining (places q) = true
goes_on draining rests = true
goes_on ph kind = false

abbrev pub is_course_from : Phase → List MarkKind → Bool
is_course_from ph kinds = list_all (λ may. may) (scan after goes_on ph kinds)

abbrev pub is_course : List MarkKind → Bool
is_course kinds = is_course_from idle kinds

-- ---- phases in plain words

-- the session has a call at this place whose reply wasn't handed out
pub record IsPending (who place : ℕ) (marks : List Mark) : Type 0 where
  pub placed : Contains (places_of who marks) place
  pub not_handed : (reply : Reply) → Contains (hands_of who marks) (place, reply) → ⊥

-- with this mark a drain is over
abbrev pub ends_drain : MarkKind → Bool
ends_drain (places p) = true
ends_drain rests = true
ends_drain _ = false

-- a drain of the session has begun, and since then it neither rested nor placed a call
pub record IsInDrain (who : ℕ) (marks : List Mark) : Type 0 where
  pub before : List MarkKind
  pub since : List MarkKind
  pub marks_are : kinds_of who marks ≡ before ++ begins ∷ since
  pub goes_on_still : list_any ends_drain since ≡ false

-- A session waits for a place exactly where its call there has no hand-out, and drains exactly from the begin of a
-- drain until it rests or places a call.
pub record ArePlain (who : ℕ) (marks : List Mark) : Type 0 where
  pub waits_for : (place : ℕ) → (phase who marks ≡ waits place) ↔ IsPending who place marks
  pub drains : (phase who marks ≡ draining) ↔ IsInDrain who marks

-- ---- a volume in which nothing waits

-- Each reply is there, and was handed to its session; no session drains, and no fault is kept for any.
pub record IsAllDone {D : Type 0} (v : View D) : Type 0 where
  pub handed : (k : ℕ) (p : Placed) → slice_get v.history k ≡ Some p
      → (reply : Reply) × (slice_get v.replies k ≡ Some (Some reply)) × Contains (hands_of p.who v.marks) (k, reply)
  pub drains_none : (who : ℕ) → drains_now (after_all v.events) who ≡ false
  pub keeps_none : (who : ℕ) → kept_for who v.kept ≡ []

abbrev pub NothingIsLeft : {D : Type 0} → View D → Type 0
NothingIsLeft v = NothingWaits (greatest_session v.fixed.script) v.marks ↔ IsAllDone v
