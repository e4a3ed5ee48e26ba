-- What a placement that is done shows, whatever it asks: of the order, of the truth, and of its ops.
use Rattle.std.proofs.Common.{◌≡◌, ℕ, List, [], ◌∷◌, ◌++◌, length, map, filter_map, Option, Some, IfSome, refl, sym, ap, ◌∙◌}
use Rattle.std.proofs.lemmas.List.{map-append}
use Rattle.tape_types.specs.declared.moments.Moment.{Moment}
use Rattle.tape_drive.specs.declared.drive.Drive.{Ghosts}
use Rattle.plain_tree.specs.History.{call_at}
use Rattle.plain_tree.specs.declared.calls.Call.{Call}
use Rattle.plain_tree.specs.declared.calls.Fate.TheVariants as fates
use Rattle.plain_tree.specs.declared.calls.Placed.{Placed}
use Rattle.session_script.specs.Grammar.{calls_of}
use Rattle.session_script.specs.declared.logs.Event.{Event}
use Rattle.session_script.specs.declared.logs.Reply.{Reply}
use Rattle.head_queue.specs.EventLaws.Waiting as waiting
use Rattle.tape_layout.specs.Ops.{place_of}
use Rattle.tape_layout.specs.declared.ops.Op.{Op}
use Rattle.space_laws.specs.Standing.{admitted_at}
use Rattle.promises.specs.ServingPromise.Served.{Fixed, headed, queued}
use Rattle.promises.specs.ServingPromise.Submits.{Places}
use Rattle.promises.specs.declared.serving_promise.answers.Submitted.{Submitted}
use Rattle.promises.specs.OrderLaws.Kept.{seen}
use Rattle.promises.specs.OrderLaws.Sides.{MayFollow}
use Rattle.promises.specs.CrashLaws.Laws.{AddsOps}
use Rattle.promises.specs.ReplyLaws.Sides.{IsReadyHere, PlacesTruly, ops_here}
use Rattle.promises.proofs.ReplyLaws.Lists.{next_same}
use Rattle.promises.proofs.ReplyLaws.Places.{admits}
use Rattle.promises.specs.PromiseLaws.Kept.{Plan}
use Rattle.volume_state.specs.PlanLaws.Planned.{Items}
use Rattle.volume_state.specs.StateLaws.Parts.{Parts, view_of}
use Rattle.volume_state.specs.StateLaws.Placing.{PlacesCall}
use Rattle.volume_state.specs.CallLaws.SubmitLaws.{IsSubmission}
use Rattle.volume_state.proofs.CallLaws.Rightly.{adds_by, follows_by}
use Rattle.volume_state.proofs.CallLaws.Admitted.{IsOne, asked_is, given_in, on_in, standing_in}

-- the placement of a call that is done
abbrev pub placed_of : ℕ → ℕ → Moment → Placed
placed_of who nth at = record { who = who; nth = nth; at = at; fate = fates.Done }

module _ {D : Type 0} (drive : Ghosts D) (fixed : Fixed D) (plan : Plan drive fixed) (planned : Items) (before next : Option Moment)
    (who nth : ℕ) (call : Call) (at : Moment) (answer : Submitted) (old new : Parts D)
    (sub : IsSubmission drive fixed plan planned before next who nth call at answer old new) where
  module _ (asked : List Op) (one : IsOne drive fixed planned call (placed_of who nth at) asked old new) (reply : Option Reply)
      (places : PlacesCall who nth at fates.Done reply old new) (added : List Event)
      (events : new.trail.events ≡ old.trail.events ++ added) where
    -- a call that is placed adds one placement and its reply
    pub places_one : Places (view_of fixed before old) (view_of fixed next new) who nth fates.Done reply
    places_one = record {
      placed = placed_of who nth at;
      fate_is = refl;
      history = places.history;
      who_is = refl;
      nth_is = refl;
      moment = sub.moment;
      replies = places.replies;
    }

    -- the events of a call may follow those that were there
    pub follows_on : MayFollow (view_of fixed before old) (view_of fixed next new) added
    follows_on = follows_by drive fixed before next old new added one.moves.trail events
        (ap (map headed) one.ops
        ∙ map-append headed old.stock.layout.ops asked
        ∙ ap (λ (l : List waiting.Op). l ++ map headed asked) sub.kept.order.orderly.standing
        ∙ sym one.group.standing)

    -- what the placement admits
    admitted_is : admitted_at (given_in drive fixed) old.on old.listed.history (length old.listed.history) (placed_of who nth at) ≡ asked
    admitted_is = admits (given_in drive fixed) old.on old.listed.history (length old.listed.history) (placed_of who nth at)
        ∙ ap (λ (c : Option Call). ops_here (given_in drive fixed) (on_in drive fixed old) (standing_in drive fixed old) fates.Done c at) sub.is_call
        ∙ sym (asked_is drive fixed planned call (placed_of who nth at) asked old new one)

    -- the ops that are added are those that the placement admits
    pub adds_ops : AddsOps (drive.limits fixed.first) (view_of fixed before old) (view_of fixed next new)
    adds_ops = adds_by drive fixed before next old new (placed_of who nth at) asked places.history one.ops admitted_is

    -- a placement queues what it admits, and its reply is one that may come
    abbrev pub places_truly : filter_map queued added ≡ map place_of asked
        → IfSome reply (λ r. IsReadyHere (given_in drive fixed) (on_in drive fixed old) (standing_in drive fixed old) call at r)
        → PlacesTruly (seen drive fixed.first) (view_of fixed before old) (view_of fixed next new) who nth fates.Done reply
    places_truly queues ready = record {
      call = call;
      is_call = sub.is_call;
      at = at;
      history = places.history;
      ready = ready;
      added = added;
      events = events;
      queues = queues ∙ ap (map place_of) (asked_is drive fixed planned call (placed_of who nth at) asked old new one);
      ops = one.ops ∙ ap (λ (l : List Op). old.stock.layout.ops ++ l) (asked_is drive fixed planned call (placed_of who nth at) asked old new one);
    }

    -- the call of what was placed
    pub call_then : (p : Placed) (other : Call) → new.listed.history ≡ old.listed.history ++ p ∷ [] → call_at (calls_of fixed.script) p ≡ Some other
        → (call ≡ other) × (at ≡ p.at)
    call_then p other history is =
        let same : placed_of who nth at ≡ p = next_same old.listed.history (placed_of who nth at) p (sym places.history ∙ history) in (
          some_same (sym sub.is_call ∙ ap (call_at (calls_of fixed.script)) same ∙ is),
          ap (λ (q : Placed). q.at) same,
        )
      where
        some_same : Some call ≡ Some other → call ≡ other
        some_same e = cc
