-- How the drain of a session may end, in a volume that runs and after a step of its head.
use Rattle.std.specs.Prelude.{ℕ, ◌≡◌, ◌≤◌, ◌<◌, ◌==◌, ◌&&◌, ◌||◌, ◌^◌, ◌++◌, not, nat_le, cond, true, false, List, count_by, filter, length, map, Option, Some, None}
use Rattle.std.proofs.Common.{sym, ap, ◌∙◌, arith, length-append}
use Rattle.std.proofs.lemmas.Bool.{and_from, le-leb, not_from_false, or_left}
use Rattle.std.proofs.lemmas.List.{length-map}
use Rattle.std.proofs.lemmas.List.Elements.{filter_map-append}
use Rattle.std.proofs.lemmas.List.Sums.{length-filter}
use Rattle.tape_types.specs.declared.cartridges.Twin.{Twin}
use Rattle.tape_types.specs.declared.moments.Moment.{Moment}
use Rattle.tape_drive.specs.declared.drive.Drive.{Ghosts}
use Rattle.plain_tree.specs.History.{numbers_of}
use Rattle.plain_tree.specs.declared.calls.Placed.{Placed}
use Rattle.session_script.specs.Sessions.{greatest_session}
use Rattle.session_script.specs.declared.logs.Event.{Event}
use Rattle.session_script.specs.declared.logs.Event.TheVariants.{Rests}
use Rattle.head_queue.specs.EventLaws.Trail.{after_all, allows, drains_now}
use Rattle.head_queue.specs.EventLaws.Waiting as waiting
use Rattle.head_queue.specs.EventLaws.Waiting.{State, is_due}
use Rattle.tape_layout.specs.declared.ops.Op.{Op}
use Rattle.promises.specs.ServingPromise.Faults.{kept_for}
use Rattle.promises.specs.ServingPromise.Marks.{draining, idle, phase, places_of}
use Rattle.promises.specs.ServingPromise.Served.{AreMarks, Fixed, View, headed}
use Rattle.promises.specs.ServingPromise.Steps.{drain_faults}
use Rattle.promises.specs.OrderLaws.Kept.{owed}
use Rattle.promises.proofs.OrderLaws.Marked.{marks_stay}
use Rattle.promises.proofs.OrderLaws.Owned.{after_more}
use Rattle.promises.proofs.OrderLaws.Placing.{as_many_places}
use Rattle.promises.proofs.OrderLaws.Turning.{all_turn, drains_are_kept, drains_of}
use Rattle.event_journal.specs.Trails.{due_ticket, state}
use Rattle.volume_state.specs.CallLaws.StepLaws.{Stepped}
use Rattle.volume_state.specs.StateLaws.Parts.{Parts, view_of}
use Rattle.volume_state.specs.StateLaws.Tied.{IsTied}
use Rattle.volume_state.specs.CallLaws.Handing.{StepsOn}
use Rattle.volume_state.specs.CallLaws.Running.{IsRunning}
use Rattle.volume_core.proofs.VolumeSteps.QueueLemmas.{none_is_due}
use Rattle.volume_core.specs.Drains.{CanEnd, CanFault}
use Rattle.volume_core.proofs.Counting.{calls_left}
use Rattle.volume_core.proofs.Ready.{of_script, shown, still_drains}

-- ---- over plain parts

-- so many placements as places
count_is : (who : ℕ) (history : List Placed)
    → count_by (λ (q : Placed). q.who == who) history ≡ length (numbers_of history who)
count_is who history =
    sym (length-filter (λ (q : Placed). q.who == who) history)
    ∙ sym (length-map (filter (λ (q : Placed). q.who == who) history) (λ (q : Placed). q.nth))

may_rest : (st : State) (who : ℕ) (standing : List Op) → map headed standing ≡ waiting.ops st → length standing ≤ 64
    → drains_now st who ≡ true → due_ticket st ≡ None → allows st (Rests who) ≡ true
may_rest st who standing same room drains none =
    let few : length (waiting.ops st) ≤ 64 =
    omega (arith, room, ap (λ (l : List waiting.Op). length l) same, length-map standing headed) in
    and_from (nat_le (length (waiting.ops st)) 64 && drains_now st who) (not (is_due st) || false)
    (and_from (nat_le (length (waiting.ops st)) 64) (drains_now st who) (le-leb (length (waiting.ops st)) 64 few)
    drains)
    (or_left (not (is_due st)) false (not_from_false (is_due st) (none_is_due st none)))

-- ---- in a volume that runs

module _ {D : Type 0} (drive : Ghosts D) (fixed : Fixed D) (next : Option Moment) (p : Parts D)
    (runs : IsRunning drive fixed next p) (who : ℕ) (drains : phase who p.listed.marks ≡ draining) where
  abbrev v : View D
  v = view_of fixed next p

  counted : count_by (λ (q : Placed). q.who == who) p.listed.history ≡ length (places_of who p.listed.marks)
  counted = count_is who p.listed.history ∙ sym (as_many_places who p.listed.history)
      ∙ sym (ap (λ (l : List ℕ). length l) (runs.kept.order.orderly.marks.places who))

  left : length p.listed.history < length fixed.script
  left = calls_left fixed.script p.listed.history who runs.kept.order.orderly.placed
      (omega (arith, runs.kept.order.more who drains, counted, count_is who p.listed.history))

  pub can_fault : CanFault who p.listed
  can_fault =
      let known = of_script drive fixed next p runs who (λ rests. let no : draining ≡ idle = sym drains ∙ rests in cc) in
      record {
        drains = drains;
        low = known.0;
        high = omega (arith, known.1, runs.tied.sessions);
        room = omega (arith, left, runs.tied.calls);
      }

  module _ (few : length (places_of who p.listed.marks) < 2 ^ 32) where
    -- a session of a volume that runs may end its drain
    pub can_end : CanEnd who p
    can_end = record {
      place = can_fault;
      count = counted;
      few = few;
      one = omega (arith, runs.kept.order.once who);
      rests = λ none room. may_rest (state p.trail) who p.stock.layout.ops runs.kept.order.orderly.standing room
          (still_drains (state p.trail) p.trail.kept who (runs.kept.order.orderly.marks.drains who drains) none)
          runs.tied.none_due;
    }

    -- ---- after a step

    module _ (mid : Parts D) (added : List Event) (on : StepsOn drive added p mid) where
      made : Stepped drive fixed v (view_of fixed next mid) added
      made = (shown drive fixed next p runs mid added on).0

      tied_then : IsTied drive fixed runs.planned mid
      tied_then = (shown drive fixed next p runs mid added on).1

      same_joined : (w : ℕ) → owed (after_all (v.events ++ added)) (v.kept ++ drain_faults v added) w
          ≡ owed (after_all v.events) v.kept w
      same_joined w =
          let kept = drains_are_kept (after_all v.events) added w (all_turn added made.step.shape) in
          let joined =
          ap length (filter_map-append (λ (e : ℕ × Twin). cond (e.0 == w) (Some e.1) None) v.kept (drain_faults v added)) in
          let both = length-append (kept_for w v.kept) (kept_for w (drain_faults v added)) in
          let moved = ap (λ (s : State). drains_of s w) (after_more v.events added) in
          omega (arith, kept, joined, both, moved)

      same_owed : (w : ℕ) → owed (state mid.trail) mid.trail.kept w ≡ owed (state p.trail) p.trail.kept w
      same_owed w =
          ap (λ (es : List Event). owed (after_all es) mid.trail.kept w) made.adds.events
          ∙ ap (λ (l : List (ℕ × Twin)). owed (after_all (v.events ++ added)) l w) made.kept
          ∙ same_joined w

      marks_are : AreMarks (greatest_session fixed.script) p.listed.history mid.listed.replies (state mid.trail)
          mid.trail.kept p.listed.marks
      marks_are =
          marks_stay (greatest_session fixed.script) p.listed.history p.listed.replies mid.listed.replies (state p.trail)
          (state mid.trail) p.trail.kept mid.trail.kept p.listed.marks runs.kept.order.orderly.marks made.replies.each
          same_owed runs.kept.order.once

      fault_then : CanFault who mid.listed
      fault_then = record {
        drains = ap (phase who) made.marks ∙ drains;
        low = can_fault.low;
        high = omega (arith, can_fault.high, tied_then.sessions, runs.tied.sessions);
        room = omega (arith, can_fault.room, ap (λ (l : List Placed). length l) made.history, tied_then.calls, runs.tied.calls);
      }

      -- after a step of the head it may end its drain too
      pub ends_then : CanEnd who mid
      ends_then =
          let places = ap (λ ms. length (places_of who ms)) made.marks in
          record {
            place = fault_then;
            count = ap (λ (l : List Placed). count_by (λ (q : Placed). q.who == who) l) made.history ∙ counted
                ∙ sym places;
            few = omega (arith, few, places);
            one = omega (arith, same_owed who, runs.kept.order.once who);
            rests = λ none room. may_rest (state mid.trail) who mid.stock.layout.ops made.order.follows.standing room
                (still_drains (state mid.trail) mid.trail.kept who (marks_are.drains who drains) none) tied_then.none_due;
          }
