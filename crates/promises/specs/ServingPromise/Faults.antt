-- Faults of head steps, and who is told of them.
use Rattle.std.specs.Prelude.{◌≡◌, ◌≤◌, ◌==◌, ℕ, cond, List, [], ◌∷◌, ◌++◌, zip, filter_map, Option, Some, None}
use Rattle.std.specs.Prelude.{slice_get}
use Rattle.std.specs.Option.{option_and_then, option_to_list}
use Rattle.tape_types.specs.Counts.{Rose}
use Rattle.tape_types.specs.declared.cartridges.Twin.{Twin}
use Rattle.plain_tree.specs.declared.calls.Fate.{Fate}
use Rattle.plain_tree.specs.declared.calls.Fate.TheVariants as fates
use Rattle.plain_tree.specs.declared.calls.Placed.{Placed}
use Rattle.session_script.specs.declared.logs.Event.{Event}
use Rattle.session_script.specs.declared.logs.Reply.{Reply}
use Rattle.session_script.specs.declared.logs.Reply.TheVariants as replies
use Rattle.head_queue.specs.EventLaws.Trail.{of_call, of_session, fault_of, owned_by}

-- the counts rose in each, one after the other, from a count on up to another
abbrev pub AreRises : ℕ → ℕ → List Twin → Type 0
AreRises before now [] = before ≤ now
AreRises before now (t ∷ later) = (before ≤ t.before) × Rose t.before t.after × AreRises t.after now later

abbrev pub told : Option Reply → Option Twin
told (Some (replies.Fault counts)) = Some counts
told _ = None

-- the fault that a placement is told of that is done, and that is void
abbrev pub told_done : Fate → Option Reply → Option Twin
told_done fates.Done reply = told reply
told_done fates.Void reply = None

abbrev pub told_void : Fate → Option Reply → Option Twin
told_void fates.Done reply = None
told_void fates.Void reply = told reply

-- the faults that the call at a place is told of
abbrev pub told_at : List Placed → List (Option Reply) → ℕ → List Twin
told_at history kept k = option_to_list (option_and_then (λ e. told_done e.0.fate e.1) (slice_get (zip history kept) k))

-- the faults of its drains that a session is told of, in order
abbrev pub told_to : List Placed → List (Option Reply) → ℕ → List Twin
told_to history kept who = filter_map (λ e. cond (e.0.who == who) (told_void e.0.fate e.1) None) (zip history kept)

-- the faults that are kept for a session that drained
abbrev pub kept_for : ℕ → List (ℕ × Twin) → List Twin
kept_for who kept = filter_map (λ e. cond (e.0 == who) (Some e.1) None) kept

-- Each fault of the events is told to the call or the session that owns it, or is kept for it, and no other fault is
-- told. Their counts rose one after the other.
pub record AreFaults (history : List Placed) (events : List Event) (kept : List (Option Reply))
    (waiting : List (ℕ × Twin)) (before now : ℕ) : Type 0 where
  pub calls : (k : ℕ) → told_at history kept k ≡ owned_by (of_call k) events
  pub sessions : (who : ℕ) → told_to history kept who ++ kept_for who waiting ≡ owned_by (of_session who) events
  pub rises : AreRises before now (filter_map fault_of events)
