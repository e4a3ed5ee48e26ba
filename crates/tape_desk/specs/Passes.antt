-- What contracts see of the pass of a session, and what a call makes of it.
use Rattle.std.specs.Prelude.{ℕ, ◌≡◌, ◌≤◌, ◌<◌, ◌+◌, false, List, [], ◌∷◌, ◌++◌, Contains, length, Option, Some, IfSome}
use Rattle.std.specs.Prelude.{slice_get, slice_index_or}
use Rattle.atomic_table.specs.Seated.{TableId}
use Rattle.session_script.specs.Grammar.{calls_of}
use Rattle.session_script.specs.Sessions.{greatest_session}
use Rattle.session_script.specs.declared.logs.Reply.{Reply}
use Rattle.turn_lock.specs.Passes.{PassView}
use Rattle.promises.specs.ServingPromise.Marks.{hands_of, idle, kinds_of, phase, places_of}
use Rattle.promises.specs.declared.serving_promise.marks.Mark.{Mark}
use Rattle.tape_desk.specs.Held.{Constants, HeldView, constants}

-- A pass is of one desk, which so many sessions share. Its session `who` has placed so many of its calls. It has seen
-- so much of the volume's list of marks, and knows what no call changes of what the lock holds.
pub record DeskView (D K : Type 0) : Type 0 where
  pub lock : TableId
  pub sessions : ℕ
  pub who : ℕ
  pub placed : ℕ
  pub seen : List Mark
  pub fixed : Option (Constants D K)

-- Between calls its session neither waits nor drains; it has placed so many calls as its marks say, and the script has
-- as many sessions as the desk.
pub record IsRested {D K : Type 0} (p : DeskView D K) : Type 0 where
  pub rests : phase p.who p.seen ≡ idle
  pub placed : p.placed ≡ length (places_of p.who p.seen)
  pub within : IfSome p.fixed (λ f. p.placed ≤ length (calls_of f.volume.script p.who))
  pub sessions : IfSome p.fixed (λ f. p.sessions ≡ greatest_session f.volume.script)
  pub knows : (f : Constants D K) × (p.fixed ≡ Some f)

-- how many calls the script has for its session
pub record HasCount {D K : Type 0} (p : DeskView D K) (count : ℕ) : Type 0 where
  pub counted : IfSome p.fixed (λ f. count ≡ length (calls_of f.volume.script p.who))

-- its session has a call to place
pub record HasMore {D K : Type 0} (p : DeskView D K) : Type 0 where
  pub more : IfSome p.fixed (λ f. p.placed < length (calls_of f.volume.script p.who))

-- a pass of the lock, which has one number, its session's, for so many calls that were placed
abbrev pub view_of : {D K : Type 0} → PassView Mark (Constants D K) → (who placed : ℕ) → DeskView D K
view_of p who placed = record {
  lock = p.lock;
  sessions = p.seats;
  who = who;
  placed = placed;
  seen = p.seen;
  fixed = p.fixed;
}

-- It is out of its turn and has its session's number alone, and the session rests; so many calls the script has for it.
pub record IsHeld {D K : Type 0} (p : PassView Mark (Constants D K)) (who placed count : ℕ) : Type 0 where
  pub out : p.in_turn ≡ false
  pub own : p.numbers ≡ who ∷ []
  pub rested : IsRested (view_of p who placed)
  pub counted : HasCount (view_of p who placed) count

-- the pass of a session that has placed nothing, of a volume of which nothing was asked
pub record IsNew {D K : Type 0} (lock : TableId) (sessions : ℕ) (fixed : Constants D K) (who : ℕ) (p : DeskView D K)
    : Type 0 where
  pub lock_is : p.lock ≡ lock
  pub sessions_are : p.sessions ≡ sessions
  pub who_is : p.who ≡ who
  pub none : p.placed ≡ 0
  pub unseen : p.seen ≡ []
  pub fixed_is : p.fixed ≡ Some fixed

-- the passes of all sessions, in order
abbrev pub AreDealt : {D K : Type 0} → TableId → ℕ → Constants D K → List (DeskView D K) → Type 0
AreDealt {D} {K} lock sessions fixed ps = (length ps ≡ sessions)
    × ((k : ℕ) (p : DeskView D K) → k < length ps → IsNew lock sessions fixed (k + 1) (slice_index_or ps k p))

-- A call places the session's next call once, behind all that the pass had seen, and hands its reply out once: the one
-- that is returned.
pub record Calls {D K : Type 0} (old new : DeskView D K) (reply : Reply) : Type 0 where
  pub lock : new.lock ≡ old.lock
  pub sessions : new.sessions ≡ old.sessions
  pub who : new.who ≡ old.who
  pub fixed : new.fixed ≡ old.fixed
  pub placed : new.placed ≡ old.placed + 1
  pub begins : (more : List Mark) × (old.seen ++ more ≡ new.seen)
  pub place : ℕ
  pub places : places_of old.who new.seen ≡ places_of old.who old.seen ++ place ∷ []
  pub hands : hands_of old.who new.seen ≡ hands_of old.who old.seen ++ (place, reply) ∷ []

-- all passes of a desk, in order of their sessions
abbrev pub AreAll : {D K : Type 0} → TableId → List (DeskView D K) → Type 0
AreAll {D} {K} lock ps = (1 ≤ length ps) × ((k : ℕ) (p : DeskView D K) → k < length ps
    → ((slice_index_or ps k p).lock ≡ lock) × ((slice_index_or ps k p).who ≡ k + 1)
    × ((slice_index_or ps k p).sessions ≡ length ps))

-- The volume's marks begin with those that the pass has seen, and its session has no others. Each reply that was handed
-- out to it is the one that is kept at its place.
pub record IsPartOf {D K : Type 0} (p : DeskView D K) (h : HeldView D K) : Type 0 where
  pub fixed : p.fixed ≡ Some (constants h)
  pub begins : (more : List Mark) × (p.seen ++ more ≡ h.volume.marks)
  pub own : kinds_of p.who h.volume.marks ≡ kinds_of p.who p.seen
  pub kept : (place : ℕ) (reply : Reply) → Contains (hands_of p.who p.seen) (place, reply)
      → slice_get h.volume.replies place ≡ Some (Some reply)

-- of each pass
abbrev pub ArePartsOf : {D K : Type 0} → List (DeskView D K) → HeldView D K → Type 0
ArePartsOf {D} {K} ps h = (k : ℕ) (p : DeskView D K) → k < length ps → IsPartOf (slice_index_or ps k p) h
