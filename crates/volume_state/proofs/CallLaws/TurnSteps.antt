-- What a turn adds to the view: no step, or one, and then the reply that is handed out.
use Rattle.std.specs.Prelude.{◌≡◌, ◌-◌, ◌^◌, ◌≤◌, ℕ, List, [], ◌∷◌, ◌++◌, Option, Some, None, slice_get}
use Rattle.std.proofs.Common.{append-nil, arith, refl, sym, ap, subst, ◌∙◌}
use Rattle.std.proofs.lemmas.List.Elements.{All-nil}
use Rattle.std.proofs.lemmas.Option.{same_Some}
use Rattle.tape_types.specs.Counts.{IsRise}
use Rattle.tape_types.specs.declared.cartridges.Twin.{Twin}
use Rattle.tape_drive.specs.declared.drive.Drive.{Ghosts}
use Rattle.session_script.specs.declared.logs.Event.{Event}
use Rattle.session_script.specs.declared.logs.Event.TheVariants as events
use Rattle.session_script.specs.declared.logs.Reply.{Reply}
use Rattle.head_queue.specs.EventLaws.Trail.{after_all}
use Rattle.head_queue.specs.EventLaws.Waiting.{waiting_op, first_of}
use Rattle.promises.specs.ServingPromise.Marks.{mark}
use Rattle.promises.specs.ServingPromise.Served.{Fixed, View}
use Rattle.promises.specs.ServingPromise.Steps.{HeadIsBehind, HeadIsRead, IsOnTape, KeepsReplies, StepsOnce, Turns, drain_faults, no_step, on_after}
use Rattle.promises.specs.ServingPromise.Submits.{Adds}
use Rattle.promises.specs.declared.serving_promise.answers.Turn.{Turn}
use Rattle.promises.specs.declared.serving_promise.answers.Turn.TheVariants as turns
use Rattle.promises.specs.declared.serving_promise.marks.MarkKind.TheVariants as kinds
use Rattle.promises.specs.declared.serving_promise.marks.Mark.{Mark}
use Rattle.promises.specs.OrderLaws.Kept.{seen}
use Rattle.promises.specs.OrderLaws.Sides.{IsBrought, TurnsInOrder}
use Rattle.promises.specs.ReplyLaws.Within.{AnswersTruly}
use Rattle.promises.specs.CrashLaws.Changes.{AreDriven}
use Rattle.promises.specs.PromiseLaws.Kept.{CanRead, IsKept, Plan, TurnsRightly}
use Rattle.volume_state.specs.CallLaws.StepLaws.{Stepped}

-- what no step adds, or one
pub record Came {D : Type 0} (drive : Ghosts D) (fixed : Fixed D) (old new : View D) (added : List Event) : Type 0 where
  pub history : new.history ≡ old.history
  pub marks : new.marks ≡ old.marks
  pub replies : KeepsReplies old new
  pub adds : Adds (seen drive new.drive) old new added
  pub step : StepsOnce drive.MOST (seen drive old.drive) (seen drive new.drive) old new added
  pub kept : new.kept ≡ old.kept ++ drain_faults old added
  pub order : TurnsInOrder (seen drive old.drive) (seen drive new.drive) old new added
  pub truth : CanRead drive fixed → AnswersTruly (seen drive fixed.first) old new
  pub driven : AreDriven drive old new added

-- a turn with a step adds what that step shows
pub came_by : {D : Type 0} (drive : Ghosts D) (fixed : Fixed D) (old new : View D) (added : List Event)
    → Stepped drive fixed old new added → AreDriven drive old new added → Came drive fixed old new added
came_by drive fixed old new added s driven = record {
  history = s.history;
  marks = s.marks;
  replies = s.replies;
  adds = s.adds;
  step = s.step;
  kept = s.kept;
  order = s.order;
  truth = s.truth;
  driven = driven;
}

-- ---- no step

on_stays : {D : Type 0} (v : View D) (o : Option ℕ) → o ≡ on_after (record v { on = o }) []
on_stays v None = refl
on_stays v (Some first) = refl

-- a turn without a step adds nothing
pub came_none : {D : Type 0} (drive : Ghosts D) (fixed : Fixed D) (plan : Plan drive fixed) (v : View D)
    → IsKept drive fixed plan v → drive.commands v.drive ≤ 2 ^ 64 - 1 → Came drive fixed v v []
came_none drive fixed plan v kept counted = record {
  history = refl;
  marks = refl;
  replies = record { count = refl; each = λ k reply e. e };
  adds = record { events = sym (append-nil v.events); acks = sym (append-nil v.acks) };
  step = record {
    shape = no_step;
    counts = record {
      still = λ e. refl;
      later = omega arith;
      at_least = omega arith;
      faults = omega arith;
      at_most = omega (arith, counted);
    };
    op_head = All-nil (λ e. HeadIsBehind (waiting_op (after_all v.events)) e (drive.head v.drive));
    read_head = All-nil (λ e. HeadIsRead (seen drive v.drive) e (drive.head v.drive));
    on_tape = All-nil (λ e. IsOnTape (seen drive v.drive) (first_of v.ops) e);
    on = on_stays v v.on;
    cached = refl;
  };
  kept = sym (append-nil v.kept);
  order = record {
    follows = record { trail = refl; standing = kept.order.orderly.standing };
    replied = λ k reply e f. subst (IsBrought (after_all v.events) [] k) (same_Some None reply (sym e ∙ f)) (kept.order.orderly.waiting.none_yet k e);
    moves = record {
      rises = All-nil (λ (t : Twin). IsRise (drive.faults v.drive) (drive.faults v.drive) t.before t.after);
      limits = refl;
      untold = λ h. h;
    };
  };
  truth = λ can. record {
    came = λ k p call reply at is none there. absurd (let h : None ≡ Some reply = same_Some None (Some reply) (sym none ∙ there) in cc);
    added = [];
    events = sym (append-nil v.events);
    ops = refl;
  };
  driven = refl;
}

-- ---- the marks go on

-- what a turn adds, with what it shows beside
abbrev pub Rightly : {D : Type 0} → Ghosts D → Fixed D → View D → View D → ℕ → ℕ → Turn → Type 0
Rightly drive fixed old new who ticket answer =
    (t : Turns drive.MOST (seen drive old.drive) (seen drive new.drive) old new who ticket answer)
    × TurnsRightly drive fixed old new t.added × AreDriven drive old new t.added

-- the same but for the marks
abbrev pub marked : {D : Type 0} → View D → List Mark → View D
marked v marks = record v { marks = marks }

driven_still : {D : Type 0} (drive : Ghosts D) (old v : View D) (marks : List Mark)
    (added : List Event) → AreDriven drive old v added → AreDriven drive old (marked v marks) added
driven_still drive old v marks [] h = h
driven_still drive old v marks (events.Worked place None ∷ more) h = h
driven_still drive old v marks (events.Worked place (Some told) ∷ more) h = h
driven_still drive old v marks (events.Served ticket place fault ∷ more) h = h
driven_still drive old v marks (events.Wants ticket place ∷ more) h = h
driven_still drive old v marks (events.Queues place ∷ more) h = h
driven_still drive old v marks (events.Syncs ticket ∷ more) h = h
driven_still drive old v marks (events.Synced ticket ∷ more) h = h
driven_still drive old v marks (events.Drains who ∷ more) h = h
driven_still drive old v marks (events.Rests who ∷ more) h = h

module _ {D : Type 0} (drive : Ghosts D) (fixed : Fixed D) (old v : View D) (added : List Event)
    (came : Came drive fixed old v added) (marks : List Mark) where
  rightly_still : TurnsRightly drive fixed old (marked v marks) added
  rightly_still = record {
    order = record {
      follows = record { trail = came.order.follows.trail; standing = came.order.follows.standing };
      replied = came.order.replied;
      moves = came.order.moves;
    };
    truth = λ can. record {
      came = (came.truth can).came;
      added = (came.truth can).added;
      events = (came.truth can).events;
      ops = (came.truth can).ops;
    };
    driven = λ can. driven_still drive old v marks added came.driven;
  }

  replies_still : KeepsReplies old (marked v marks)
  replies_still = record { count = came.replies.count; each = came.replies.each }

  adds_still : Adds (seen drive v.drive) old (marked v marks) added
  adds_still = record { events = came.adds.events; acks = came.adds.acks }

  step_still : StepsOnce drive.MOST (seen drive old.drive) (seen drive v.drive) old (marked v marks) added
  step_still = record {
    shape = came.step.shape;
    counts = record {
      still = came.step.counts.still;
      later = came.step.counts.later;
      at_least = came.step.counts.at_least;
      faults = came.step.counts.faults;
      at_most = came.step.counts.at_most;
    };
    op_head = came.step.op_head;
    read_head = came.step.read_head;
    on_tape = came.step.on_tape;
    on = came.step.on;
    cached = came.step.cached;
  }

  -- the reply is there, and is handed out
  pub turns_ready : (who ticket : ℕ) (reply : Reply) → v.fixed ≡ old.fixed → v.next ≡ old.next
      → ((r : Reply) → slice_get old.replies ticket ≡ Some (Some r) → added ≡ [])
      → marks ≡ v.marks ++ mark who (kinds.Hands ticket reply) ∷ []
      → slice_get v.replies ticket ≡ Some (Some reply)
      → Rightly drive fixed old (marked v marks) who ticket (turns.Ready reply)
  turns_ready who ticket reply fixed_is next none marks_are there = (
    record {
      fixed = fixed_is;
      history = came.history;
      next = next;
      replies = replies_still;
      added = added;
      adds = adds_still;
      step = step_still;
      none = none;
      kept = came.kept;
      marks = marks_are ∙ ap (λ ms. ms ++ mark who (kinds.Hands ticket reply) ∷ []) came.marks;
      answered = there;
    },
    rightly_still,
    driven_still drive old v marks added came.driven,
  )

-- the reply isn't there yet
pub turns_more : {D : Type 0} (drive : Ghosts D) (fixed : Fixed D) (old v : View D) (added : List Event) (who ticket : ℕ)
    → Stepped drive fixed old v added → AreDriven drive old v added → v.fixed ≡ old.fixed → v.next ≡ old.next
    → slice_get v.replies ticket ≡ Some None → Rightly drive fixed old v who ticket turns.More
turns_more drive fixed old v added who ticket s driven fixed_is next yet = (
  record {
    fixed = fixed_is;
    history = s.history;
    next = next;
    replies = s.replies;
    added = added;
    adds = s.adds;
    step = s.step;
    none = λ reply e. absurd (let h : None ≡ Some reply = same_Some None (Some reply) (sym yet ∙ s.replies.each ticket reply e) in cc);
    kept = s.kept;
    marks = s.marks ∙ sym (append-nil old.marks);
    answered = (yet, s.one);
  },
  record { order = s.order; truth = s.truth; driven = s.driven },
  driven,
)
