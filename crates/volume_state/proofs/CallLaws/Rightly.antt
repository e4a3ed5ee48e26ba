-- What a submission shows beside what it adds, whatever it places.
use Rattle.std.proofs.Common.{◌≡◌, ℕ, ◌<◌, Bool, true, false, cond, nat_le, List, [], ◌∷◌, ◌++◌, length, map, Option, Some, None, length-append, refl, sym, ap, subst, ◌∙◌, arith}
use Rattle.std.proofs.lemmas.Bool.{false_from_ne_true}
use Rattle.std.proofs.lemmas.Option.{slice_get_within}
use Rattle.tape_types.specs.declared.moments.Moment.{Moment}
use Rattle.tape_drive.specs.declared.drive.Drive.{Ghosts}
use Rattle.plain_tree.specs.declared.calls.Placed.{Placed}
use Rattle.session_script.specs.declared.logs.Event.{Event}
use Rattle.head_queue.specs.EventLaws.Trail.{IsTrail, after_all, is_trail_from}
use Rattle.head_queue.specs.EventLaws.Waiting.{State, Waiter, is_due, ops, start}
use Rattle.tape_layout.specs.declared.ops.Op.{Op}
use Rattle.space_laws.specs.Standing.{admitted_at}
use Rattle.promises.specs.ServingPromise.Served.{Fixed, given, headed, is_waiting}
use Rattle.promises.specs.OrderLaws.Kept.{seen}
use Rattle.promises.specs.OrderLaws.Laws.{IsInOrder}
use Rattle.promises.specs.OrderLaws.Sides.{MayFollow}
use Rattle.promises.proofs.ReplyLaws.Lists.{next_same}
use Rattle.promises.specs.CrashLaws.Laws.{AddsOps}
use Rattle.promises.proofs.CrashLaws.Trails.{trail_behind}
use Rattle.event_journal.specs.Trails.{due_of, due_ticket}
use Rattle.volume_state.specs.StateLaws.Parts.{Parts, view_of}

-- a list with one more at its end isn't the list
pub longer_than : {X : Type 0} (xs ys : List X) (x : X) → ys ≡ xs ++ x ∷ [] → ys ≡ xs → ⊥
longer_than xs ys x more same =
    let one : length ys ≡ length (xs ++ x ∷ []) = ap (λ (l : List _). length l) more in
    let none : length ys ≡ length xs = ap (λ (l : List _). length l) same in
    omega (arith, one, none, length-append xs (x ∷ []))

-- no sync has to be answered first
none_is_due : (st : State) → due_ticket st ≡ None → is_due st ≡ false
none_is_due st none = by st.syncs refl
  where
    by_test : (b : Bool) (ticket : ℕ) → cond b (Some ticket) None ≡ None → b ≡ false
    by_test true ticket e = absurd cc
    by_test false ticket e = refl

    by : (syncs : List Waiter) → st.syncs ≡ syncs → is_due st ≡ false
    by [] e = rw e refl
    by (s ∷ more) e = rw e (by_test (nat_le s.due st.done) s.ticket (sym (ap (due_of st.done) e) ∙ none))

module _ {D : Type 0} (drive : Ghosts D) (fixed : Fixed D) (before after : Option Moment) (old new : Parts D) where
  -- the events may come, since all are a trail
  pub follows_by : (added : List Event) → IsTrail new.trail.events → new.trail.events ≡ old.trail.events ++ added
      → map headed new.stock.layout.ops ≡ ops (after_all new.trail.events) → MayFollow (view_of fixed before old) (view_of fixed after new) added
  follows_by added trail events standing = record {
    trail = trail_behind start old.trail.events added (subst (λ (es : List Event). is_trail_from start es ≡ true) events trail);
    standing = standing;
  }

  -- the ops are those that the placement admits
  pub adds_by : (p : Placed) (asked : List Op) → new.listed.history ≡ old.listed.history ++ p ∷ [] → new.stock.layout.ops ≡ old.stock.layout.ops ++ asked
      → admitted_at (given (view_of fixed before old) (seen drive fixed.first)) old.on old.listed.history (length old.listed.history) p ≡ asked
      → AddsOps (drive.limits fixed.first) (view_of fixed before old) (view_of fixed after new)
  adds_by p asked history ops_are admits = record {
    placed = λ q is. ops_are ∙ ap (λ (l : List Op). old.stock.layout.ops ++ l)
        (sym admits ∙ ap (admitted_at (given (view_of fixed before old) (seen drive fixed.first)) old.on old.listed.history (length old.listed.history))
        (next_same old.listed.history p q (sym history ∙ is)));
    unplaced = λ same. absurd (longer_than old.listed.history new.listed.history p history same);
  }

  -- where nothing is placed no op is added
  pub adds_none : new.listed.history ≡ old.listed.history → new.stock.layout.ops ≡ old.stock.layout.ops
      → AddsOps (drive.limits fixed.first) (view_of fixed before old) (view_of fixed after new)
  adds_none history ops_are = record {
    placed = λ q is. absurd (longer_than old.listed.history new.listed.history q is history);
    unplaced = λ same. ops_are;
  }

  -- nobody waits for the next place
  pub rests_here : IsInOrder drive (view_of fixed before old) → is_waiting (after_all old.trail.events) (length old.listed.history) ≡ false
  rests_here kept = false_from_ne_true (is_waiting (after_all old.trail.events) (length old.listed.history))
      (λ waits.
      let within : length old.listed.history < length old.listed.replies =
      slice_get_within old.listed.replies (length old.listed.history) None (kept.orderly.waiting.waits (length old.listed.history) waits) in
      omega (arith, kept.count, within))
