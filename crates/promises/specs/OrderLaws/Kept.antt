-- What is kept of the order in which a volume is served: all that is promised of it, and what each call needs beside.
use Rattle.std.specs.Prelude.{◌≡◌, ◌==◌, ◌&&◌, ◌<◌, ◌≤◌, ◌+◌, ◌++◌, nat_lt, ℕ, Bool, true, false, List, [], ◌∷◌, All}
use Rattle.std.specs.Prelude.{Some, None, filter, length, map, slice_get}
use Rattle.std.specs.List.{list_all, list_any}
use Rattle.tape_types.specs.declared.cartridges.Twin.{Twin}
use Rattle.tape_drive.specs.declared.drive.Drive.{Ghosts}
use Rattle.plain_tree.specs.declared.calls.Fate.TheVariants as fates
use Rattle.plain_tree.specs.declared.calls.Placed.{Placed}
use Rattle.session_script.specs.Grammar.{calls_of}
use Rattle.session_script.specs.Sessions.{HasSessions}
use Rattle.head_queue.specs.EventLaws.Trail.{after_all}
use Rattle.head_queue.specs.EventLaws.Waiting.{State}
use Rattle.promises.specs.ServingPromise.Acks.{synced_places}
use Rattle.promises.specs.ServingPromise.Faults.{kept_for}
use Rattle.promises.specs.ServingPromise.Marks.{draining, kinds_of, phase, places_of}
use Rattle.promises.specs.ServingPromise.Served.{Drive, IsOrderly, View}
use Rattle.promises.specs.OrderLaws.Phases.{is_course}

-- what contracts see of a drive
abbrev pub seen : {D : Type 0} → Ghosts D → D → Drive
seen drive d = record {
  held = drive.held d;
  head = drive.head d;
  limits = drive.limits d;
  commands = drive.commands d;
  faults = drive.faults d;
  leavings = record { now = drive.leaves d; since = drive.left_since d };
}

-- each number is below all that follow it
abbrev pub is_rising : List ℕ → Bool
is_rising [] = true
is_rising (x ∷ xs) = list_all (nat_lt x) xs && is_rising xs

-- how often a session drains, and how many faults are kept for it
abbrev pub owed : State → List (ℕ × Twin) → ℕ → ℕ
owed st kept who = length (filter (λ w. w == who) st.drains) + length (kept_for who kept)

-- the places that were told that they are synced, and then those whose syncs wait
abbrev pub syncs_in_order : {D : Type 0} → View D → List ℕ
syncs_in_order v = synced_places v.replies ++ map (λ s. s.ticket) (after_all v.events).syncs

-- nobody waits both for a block and for a flush
abbrev pub AreApart : State → Type 0
AreApart st = (k : ℕ)
    → (list_any (λ r. r.ticket == k) st.requests && list_any (λ s. s.ticket == k) st.syncs) ≡ false

-- A volume is served in order. Each placement has its place among the replies, and one that waits was done, for a
-- block or for a flush and not both. Syncs are answered in the order of their places. No ack is of a command to come.
-- A session drains once, or has one fault kept for it, and not both; and while it does it has a call to place. Its
-- marks are such as calls make.
pub record IsKeptOrder {D : Type 0} (first now : Drive) (v : View D) : Type 0 where
  pub orderly : IsOrderly first now v
  pub sessions : HasSessions v.fixed.script
  pub count : length v.replies ≡ length v.history
  pub done : (k : ℕ) (p : Placed) → slice_get v.history k ≡ Some p → slice_get v.replies k ≡ Some None
      → p.fate ≡ fates.Done
  pub apart : AreApart (after_all v.events)
  pub rising : is_rising (syncs_in_order v) ≡ true
  pub commands : All (λ a. a.command ≤ now.commands) v.acks
  pub once : (who : ℕ) → owed (after_all v.events) v.kept who ≤ 1
  pub more : (who : ℕ) → phase who v.marks ≡ draining
      → length (places_of who v.marks) < length (calls_of v.fixed.script who)
  pub course : (who : ℕ) → is_course (kinds_of who v.marks) ≡ true
