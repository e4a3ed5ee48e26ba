-- The write of a session that drains is placed void, with its fault.
use Rattle.std.specs.Prelude.{ℕ, ◌≡◌, cond, List, [], ◌∷◌, ◌++◌, fold, length, Option, Some, None, slice_get, slice_set}
use Rattle.std.proofs.Common.{refl, sym, ap, subst, ◌∙◌, append_assoc}
use Rattle.std.proofs.Math.Seq.{set-append_seam}
use Rattle.std.proofs.lemmas.Bool.{eq-eqb}
use Rattle.tape_types.proofs.LongerLists.{slice_get-seam}
use Rattle.tape_types.specs.declared.cartridges.Twin.{Twin}
use Rattle.plain_tree.specs.declared.calls.Fate.TheVariants as fates
use Rattle.plain_tree.specs.declared.calls.Placed.{Placed}
use Rattle.session_script.specs.declared.logs.Reply.{Reply}
use Rattle.session_script.specs.declared.logs.Reply.TheVariants.{Fault}
use Rattle.tape_types.specs.declared.moments.Moment.{Moment}
use Rattle.promises.specs.ServingPromise.Faults.{kept_for}
use Rattle.promises.specs.ServingPromise.Marks.{after, draining, mark, phase, placed_and_handed, places_of, waits}
use Rattle.promises.specs.ServingPromise.Steps.{without_session}
use Rattle.promises.specs.declared.serving_promise.marks.MarkKind.TheVariants as kinds
use Rattle.promises.specs.declared.serving_promise.marks.Mark.{Mark}
use Rattle.promises.proofs.OrderLaws.Marked.{phase_more}
use Rattle.event_journal.specs.Placements.{Listed, or_none, there}
use Rattle.event_journal.specs.Trails.{Journaled}
use Rattle.volume_state.specs.StateLaws.Parts.{Parts}
use Rattle.volume_state.specs.StateLaws.Placing.{PlacesCall}
use Rattle.volume_state.specs.CallLaws.Draining.{TakesFault}
use Rattle.volume_core.specs.VolumeSteps.Seen.{seen_parts}
use Rattle.volume_core.specs.declared.volume_steps.parts.Parts.{Parts as Held}

-- a call is placed at the end
pub record PlacesHere (placed : Placed) (old new : Listed) : Type 0 where
  pub each : length old.replies ≡ length old.history
  pub history : new.history ≡ old.history ++ placed ∷ []
  pub replies : new.replies ≡ old.replies ++ None ∷ []
  pub marks : new.marks ≡ old.marks ++ mark placed.who (kinds.Places (length old.history)) ∷ []
  pub calls : new.calls ≡ old.calls
  pub sessions : new.sessions ≡ old.sessions

-- its reply is there
pub record Replies (here : ℕ) (reply : Reply) (old new : Listed) : Type 0 where
  pub history : new.history ≡ old.history
  pub replies : new.replies ≡ slice_set old.replies here (Some reply)
  pub marks : new.marks ≡ old.marks
  pub calls : new.calls ≡ old.calls
  pub sessions : new.sessions ≡ old.sessions

-- and is handed out
pub record HandsHere (who here : ℕ) (old new : Listed) : Type 0 where
  pub history : new.history ≡ old.history
  pub replies : new.replies ≡ old.replies
  pub marks : new.marks ≡ old.marks ++ mark who (kinds.Hands here (or_none (there (slice_get old.replies here)))) ∷ []
  pub calls : new.calls ≡ old.calls
  pub sessions : new.sessions ≡ old.sessions

module _ (placed : Placed) (here : ℕ) (old mid : Listed) (here_is : here ≡ length old.history)
    (p : PlacesHere placed old mid) where
  -- a write that was just placed void has no reply yet
  pub none_yet : slice_get mid.replies here ≡ Some None
  none_yet = ap (λ (rs : List (Option Reply)). slice_get rs here) p.replies
      ∙ ap (λ k. slice_get (old.replies ++ None ∷ []) k) (here_is ∙ sym p.each) ∙ slice_get-seam old.replies None

  module _ (reply : Reply) (now : Listed) (r : Replies here reply mid now) where
    told_all : now.replies ≡ old.replies ++ Some reply ∷ []
    told_all = r.replies ∙ ap (λ (rs : List (Option Reply)). slice_set rs here (Some reply)) p.replies
        ∙ ap (λ k. slice_set (old.replies ++ None ∷ []) k (Some reply)) (here_is ∙ sym p.each)
        ∙ set-append_seam old.replies None [] (Some reply)

    -- the fault stands as the reply of the write that was placed void
    pub there_now : slice_get now.replies here ≡ Some (Some reply)
    there_now = ap (λ (rs : List (Option Reply)). slice_get rs here) told_all
        ∙ ap (λ k. slice_get (old.replies ++ Some reply ∷ []) k) (here_is ∙ sym p.each)
        ∙ slice_get-seam old.replies (Some reply)

    -- a session whose write was just placed void waits for it
    pub waits_here : phase placed.who old.marks ≡ draining → phase placed.who now.marks ≡ waits here
    waits_here drains = ap (phase placed.who) (r.marks ∙ p.marks)
        ∙ phase_more placed.who placed.who old.marks (kinds.Places (length old.history) ∷ [])
        ∙ ap (λ b. fold after (phase placed.who old.marks) (cond b (kinds.Places (length old.history) ∷ []) []))
        (eq-eqb placed.who placed.who refl)
        ∙ ap (λ ph. after ph (kinds.Places (length old.history))) drains ∙ ap waits (sym here_is)

    module _ (new : Listed) (h : HandsHere placed.who here now new) where
      both_marks : new.marks ≡ old.marks ++ placed_and_handed placed.who (length old.history) reply
      both_marks = h.marks
          ∙ ap (λ (o : Option (Option Reply)). now.marks ++ mark placed.who (kinds.Hands here (or_none (there o))) ∷ [])
          there_now
          ∙ ap (λ k. now.marks ++ mark placed.who (kinds.Hands k reply) ∷ []) here_is
          ∙ ap (λ (ms : List Mark). ms ++ mark placed.who (kinds.Hands (length old.history) reply) ∷ [])
          (r.marks ∙ p.marks)
          ∙ append_assoc old.marks (mark placed.who (kinds.Places (length old.history)) ∷ [])
          (mark placed.who (kinds.Hands (length old.history) reply) ∷ [])

-- the write is placed, with its fault
pub places_void : {D : Type 0} (who nth here : ℕ) (at : Moment) (reply : Reply) (mid now : Listed) (old new : Parts D)
    → here ≡ length old.listed.history
    → PlacesHere (record { who = who; nth = nth; at = at; fate = fates.Void }) old.listed mid
    → Replies here reply mid now → HandsHere who here now new.listed
    → PlacesCall who nth at fates.Void (Some reply) old new
places_void who nth here at reply mid now old new here_is p r h =
    let placed : Placed = record { who = who; nth = nth; at = at; fate = fates.Void } in
    record {
      history = h.history ∙ r.history ∙ p.history;
      replies = h.replies ∙ told_all placed here old.listed mid here_is p reply now r;
      marks = both_marks placed here old.listed mid here_is p reply now r new.listed h;
      calls = h.calls ∙ r.calls ∙ p.calls;
      sessions = h.sessions ∙ r.sessions ∙ p.sessions;
    }

-- the fault that is kept is taken, and the write is placed with it
module _ {D : Type 0} (who nth : ℕ) (at : Moment) (counts : Twin) (old new : Held D) (trail : Journaled)
    (others : new ≡ record old { trail = trail; placements = new.placements })
    (nth_is : nth ≡ length (places_of who old.placements.marks))
    (places : PlacesCall who nth at fates.Void (Some (Fault counts)) (seen_parts (record old { trail = trail }))
    (seen_parts new)) where
  placed_so : PlacesCall who nth at fates.Void (Some (Fault counts)) (seen_parts old) (seen_parts new)
  placed_so = record {
    history = places.history;
    replies = places.replies;
    marks = places.marks;
    calls = places.calls;
    sessions = places.sessions;
  }

  -- a write that is placed void takes the fault that was kept for its session
  pub takes_fault : kept_for who old.trail.kept ≡ counts ∷ [] → trail.kept ≡ without_session who old.trail.kept
      → trail.events ≡ old.trail.events → trail.acks ≡ old.trail.acks
      → TakesFault who (length (places_of who old.placements.marks)) at counts (seen_parts old) (seen_parts new)
  takes_fault is_kept kept events acks = record {
    is_kept = is_kept;
    kept = ap (λ (p : Held D). p.trail.kept) others ∙ kept;
    events = ap (λ (p : Held D). p.trail.events) others ∙ events;
    tape = record {
      drive = ap (λ (p : Held D). p.head.drive) others;
      stock = ap (λ (p : Held D). p.stock) others;
      queue = ap (λ (p : Held D). p.queue) others;
      reads = ap (λ (p : Held D). p.reads.reads) others;
      answered = ap (λ (p : Held D). p.reads.answered) others;
      on = ap (λ (p : Held D). p.on) others;
      cached = ap (λ (p : Held D). p.cache) others;
      acks = ap (λ (p : Held D). p.trail.acks) others ∙ acks;
    };
    places = subst (λ n. PlacesCall who n at fates.Void (Some (Fault counts)) (seen_parts old) (seen_parts new)) nth_is
        placed_so;
  }
