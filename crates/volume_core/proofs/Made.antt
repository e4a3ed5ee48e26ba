-- A turn with a step of the head: what was asked before left the parts as they were.
use Rattle.std.specs.Prelude.{ℕ, ◌≡◌, ◌<◌, ◌^◌, List, length, Some, None, slice_get}
use Rattle.std.proofs.Common.{sym, ap, subst, ◌∙◌}
use Rattle.tape_drive.specs.declared.drive.Drive.{Ghosts}
use Rattle.session_script.specs.declared.logs.Event.{Event}
use Rattle.session_script.specs.declared.logs.Reply.{Reply}
use Rattle.promises.specs.ServingPromise.Marks.{draining, phase, places_of, waits}
use Rattle.promises.specs.declared.serving_promise.answers.Drained.{Drained}
use Rattle.promises.specs.declared.serving_promise.answers.Drained.TheVariants as the_drained
use Rattle.promises.specs.declared.serving_promise.answers.Turn.TheVariants as the_turns
use Rattle.volume_state.specs.CallLaws.StepLaws.{CanStep}
use Rattle.volume_state.specs.CallLaws.Draining.{IsFull}
use Rattle.volume_state.specs.CallLaws.Handing.{HandsOut, StepsOn, TurnsTo, more, then_ready}
use Rattle.volume_core.specs.VolumeSteps.Handed.{CanHand}
use Rattle.volume_core.specs.VolumeSteps.Moves.{IsReady}
use Rattle.volume_core.specs.VolumeSteps.Seen.{seen_parts}
use Rattle.volume_core.specs.declared.volume_steps.parts.Parts.{Parts as Held}
use Rattle.volume_core.specs.Drains.{CanEnd, EndsAt}
use Rattle.volume_core.specs.Turns.{DrainsAt, Runs, Told}
use Rattle.volume_core.proofs.Ends.{can_end, ends_then as ends_on}
use Rattle.volume_core.proofs.Given.{drains_more, ends_then}
use Rattle.volume_core.proofs.Ready.{can_hand, can_step, drains_ready, hands_then, shown, waits_ready}

-- ---- what the calls need

module _ {D : Type 0} (drive : Ghosts D) (old : Held D) (runs : Runs drive (seen_parts old)) where
  -- before a step, the reply for which a session waits can be handed out
  pub hands_first : (ticket : ℕ) → (who : ℕ) × (phase who (seen_parts old).listed.marks ≡ waits ticket)
      → CanHand ticket (seen_parts old)
  hands_first ticket w = can_hand drive runs.fixed runs.next (seen_parts old) runs.runs w.0 ticket w.1

  -- before a step, a session's drain may end
  pub ends_first : (who : ℕ) → phase who (seen_parts old).listed.marks ≡ draining
      → length (places_of who (seen_parts old).listed.marks) < 2 ^ 32 → CanEnd who (seen_parts old)
  ends_first who drains few = can_end drive runs.fixed runs.next (seen_parts old) runs.runs who drains few

  module _ (before : Held D) (same : before ≡ old) where
    -- before a step, the step can be made
    pub steps_can : CanStep drive (seen_parts before)
    steps_can = subst (λ (p : Held D). CanStep drive (seen_parts p)) (sym same)
        (can_step drive runs.fixed runs.next (seen_parts old) runs.runs)

    -- where the reply of a session that waits isn't there, the head has something to do
    pub steps_waiting : (ticket : ℕ) → slice_get (seen_parts old).listed.replies ticket ≡ Some None
        → IsReady drive (seen_parts before)
    steps_waiting ticket yet = subst (λ (p : Held D). IsReady drive (seen_parts p)) (sym same)
        (waits_ready drive runs.fixed runs.next (seen_parts old) runs.runs ticket yet)

    -- where a session that drains has no room, the head has something to do
    pub steps_draining : (who : ℕ) → phase who (seen_parts old).listed.marks ≡ draining → IsFull who (seen_parts old)
        → IsReady drive (seen_parts before)
    steps_draining who drains full = subst (λ (p : Held D). IsReady drive (seen_parts p)) (sym same)
        (drains_ready drive runs.fixed runs.next (seen_parts old) runs.runs who drains full)

    -- ---- what they come to

    module _ (mid : Held D)
        (step : (added : List Event) × StepsOn drive added (seen_parts before) (seen_parts mid)) where
      stepped : (added : List Event) × StepsOn drive added (seen_parts old) (seen_parts mid)
      stepped =
          subst (λ (p : Held D). (added : List Event) × StepsOn drive added (seen_parts p) (seen_parts mid)) same step

      marks : (seen_parts mid).listed.marks ≡ (seen_parts old).listed.marks
      marks = (shown drive runs.fixed runs.next (seen_parts old) runs.runs (seen_parts mid) stepped.0 stepped.1).0.marks

      -- after a step, the reply for which a session waits can be handed out
      pub hands_again : (ticket : ℕ) → (who : ℕ) × (phase who (seen_parts old).listed.marks ≡ waits ticket)
          → CanHand ticket (seen_parts mid)
      hands_again ticket w =
          hands_then drive runs.fixed runs.next (seen_parts old) runs.runs (seen_parts mid) stepped.0 stepped.1 ticket
          (hands_first ticket w)

      -- the reply is there then
      pub turns_ready : (ticket : ℕ) (reply : Reply) (new : Held D)
          → slice_get (seen_parts old).listed.replies ticket ≡ Some None
          → ((who : ℕ) → phase who (seen_parts mid).listed.marks ≡ waits ticket
          → HandsOut who ticket reply (seen_parts mid) (seen_parts new))
          → (who : ℕ) → phase who (seen_parts old).listed.marks ≡ waits ticket
          → TurnsTo drive who ticket (seen_parts old) (seen_parts new) (the_turns.Ready reply)
      turns_ready ticket reply new yet hands who waiting =
          then_ready stepped.0 (seen_parts mid) reply yet stepped.1 (hands who (ap (phase who) marks ∙ waiting))

      -- or still to come
      pub turns_more : (ticket : ℕ) (new : Held D) → new ≡ mid
          → slice_get (seen_parts mid).listed.replies ticket ≡ Some None
          → (who : ℕ) → TurnsTo drive who ticket (seen_parts old) (seen_parts new) the_turns.More
      turns_more ticket new still yet who =
          subst (λ (p : Held D). TurnsTo drive who ticket (seen_parts old) (seen_parts p) the_turns.More) (sym still)
          (more stepped.0 stepped.1 yet)

      module _ (who : ℕ) (drains : phase who (seen_parts old).listed.marks ≡ draining) where
        -- after a step, a session's drain may end
        pub ends_again : length (places_of who (seen_parts old).listed.marks) < 2 ^ 32 → CanEnd who (seen_parts mid)
        ends_again few =
            ends_on drive runs.fixed runs.next (seen_parts old) runs.runs who drains few (seen_parts mid) stepped.0 stepped.1

        module _ (full : IsFull who (seen_parts old)) where
          -- the drain ends then
          pub drains_end : (was now : Told) (new : Held D) (end : Drained)
              → EndsAt who was now (seen_parts mid) (seen_parts new) end
              → DrainsAt drive who was now (seen_parts old) (seen_parts new) end
          drains_end was now new end e =
              ends_then drive who was now stepped.0 (seen_parts old) (seen_parts mid) full stepped.1 marks (seen_parts new)
              end e

          -- or goes on
          pub drains_on : (was now : Told) (new : Held D) → now ≡ was → new ≡ mid → IsFull who (seen_parts mid)
              → DrainsAt drive who was now (seen_parts old) (seen_parts new) the_drained.More
          drains_on was now new asked still left =
              subst (λ (p : Held D). DrainsAt drive who was now (seen_parts old) (seen_parts p) the_drained.More)
              (sym still)
              (drains_more drive who was now stepped.0 (seen_parts old) (seen_parts mid) full stepped.1 marks asked
              left)
