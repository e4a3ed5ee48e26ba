-- What the parts of a volume that runs are ready for: a step of the head, and a reply that is handed out.
use Rattle.std.specs.Prelude.{ℕ, ◌≡◌, ◌≤◌, ◌<◌, ◌==◌, ◌⊎◌, Bool, true, List, [], ◌∷◌, length, Option, Some, None, slice_get}
use Rattle.std.specs.List.{list_any}
use Rattle.std.proofs.Common.{⊎_elim, refl, sym, ap, subst, ◌∙◌, arith}
use Rattle.std.proofs.lemmas.Bool.{and_parts, eqb-true, or_right}
use Rattle.tape_types.specs.declared.cartridges.Twin.{Twin}
use Rattle.tape_types.specs.declared.moments.Moment.{Moment}
use Rattle.tape_drive.specs.declared.drive.Drive.{Ghosts}
use Rattle.plain_tree.specs.declared.calls.Placed.{Placed}
use Rattle.session_script.specs.Sessions.{greatest_session}
use Rattle.session_script.specs.declared.logs.Event.{Event}
use Rattle.head_queue.specs.EventLaws.Trail.{drains_now}
use Rattle.head_queue.specs.EventLaws.Waiting.{Request, State, Waiter, is_calm, waiting_op}
use Rattle.tape_layout.specs.Plans.{Plan as Layout}
use Rattle.tape_layout.specs.declared.ops.Op.{Op}
use Rattle.promises.specs.ServingPromise.Faults.{kept_for}
use Rattle.promises.specs.ServingPromise.Marks.{draining, idle, phase, waits}
use Rattle.promises.specs.ServingPromise.Served.{Fixed, headed}
use Rattle.promises.proofs.OrderLaws.Marked.{marked}
use Rattle.promises.proofs.OrderLaws.Picked.{passes}
use Rattle.event_journal.specs.Trails.{state}
use Rattle.volume_state.specs.CallLaws.StepLaws.{CanStep, Stepped}
use Rattle.volume_state.proofs.CallLaws.CanLaw.{steps_can_be_made}
use Rattle.volume_state.proofs.CallLaws.ShowLaw.{steps_show}
use Rattle.volume_state.specs.StateLaws.Parts.{Parts, view_of}
use Rattle.volume_state.specs.StateLaws.Tied.{IsTied}
use Rattle.volume_state.specs.CallLaws.Draining.{IsFull}
use Rattle.volume_state.specs.CallLaws.Handing.{StepsOn}
use Rattle.volume_state.specs.CallLaws.Running.{HasAnswers, IsRunning}
use Rattle.volume_state.proofs.CallLaws.TurnAnswers.{answers_stay, placed_by_it, waits_alone}
use Rattle.volume_core.specs.VolumeSteps.Handed.{CanHand}
use Rattle.volume_core.specs.VolumeSteps.Moves.{HasWork, IsReady}

-- ---- lists and tests

-- what passes is there
passed : {X : Type 0} (test : X → Bool) (o : Option X) → passes test o ≡ true
    → (x : X) × (o ≡ Some x) × (test x ≡ true)
passed test None is = absurd (cc)
passed test (Some x) is = (x, refl, is)

none_drains : (who : ℕ) (drains : List ℕ) → list_any (λ w. w == who) drains ≡ true → length drains ≡ 0 → ⊥
none_drains who [] now none = cc
none_drains who (w ∷ drains) now none = omega (arith, none)

-- a session that drains, and for which no fault is kept, still waits for room
pub still_drains : (st : State) (kept : List (ℕ × Twin)) (who : ℕ)
    → (drains_now st who ≡ true) ⊎ (length (kept_for who kept) ≡ 1) → kept_for who kept ≡ [] → drains_now st who ≡ true
still_drains st kept who either none =
    ⊎_elim (λ now. now) (λ one. absurd (omega (arith, one, ap (λ (l : List Twin). length l) none))) either

not_calm : (st : State) (who : ℕ) → drains_now st who ≡ true → is_calm st ≡ true → ⊥
not_calm st who now calm =
    none_drains who st.drains now
    (eqb-true (length st.drains) 0 (and_parts (length st.syncs == 0) (length st.drains == 0) calm).1)

first_waits : (st : State) (standing : List Op) → 64 < length standing
    → ((op : Op) (later : List Op) → standing ≡ op ∷ later → waiting_op st ≡ Some (headed op))
    → (op : Op) × (later : List Op) × (standing ≡ op ∷ later) × (waiting_op st ≡ Some (headed op))
first_waits st [] many each = absurd (omega (arith, many))
first_waits st (op ∷ later) many each = (op, later, refl, each op later refl)

-- a reply can be handed out as long as history and marks stay
hands_on : {D : Type 0} (ticket : ℕ) (old new : Parts D) → CanHand ticket old → new.listed.history ≡ old.listed.history
    → new.listed.marks ≡ old.listed.marks → new.listed.sessions ≡ old.listed.sessions
    → length new.listed.replies ≡ length old.listed.replies → HasAnswers new → CanHand ticket new
hands_on ticket old new can history marks sessions count answers = record {
  placed = can.placed;
  is = ap (λ (ps : List Placed). slice_get ps ticket) history ∙ can.is;
  waits_for = ap (phase can.placed.who) marks ∙ can.waits_for;
  alone = λ w other. can.alone w (sym (ap (phase w) marks) ∙ other);
  low = can.low;
  high = omega (arith, sessions, can.high);
  each = count ∙ can.each ∙ sym (ap (λ (ps : List Placed). length ps) history);
  answers = answers;
}

module _ {D : Type 0} (drive : Ghosts D) (fixed : Fixed D) (next : Option Moment) (p : Parts D)
    (runs : IsRunning drive fixed next p) where
  -- ---- a step

  -- a volume that runs can make its next step
  pub can_step : CanStep drive p
  can_step = steps_can_be_made drive fixed runs.plan runs.planned next p runs.kept runs.tied runs.allowed

  limits_are : p.stock.layout.limits ≡ drive.limits p.drive
  limits_are = ap (λ (l : Layout). l.limits) runs.tied.stock.layout ∙ sym runs.kept.order.orderly.limits

  size_is : p.stock.layout.block_size ≡ fixed.mounted.label.block
  size_is = ap (λ (l : Layout). l.block_size) runs.tied.stock.layout

  ready : HasWork p → IsReady drive p
  ready work = record {
    limits = limits_are;
    size = omega (arith, size_is, runs.tied.mount.blocks.1);
    work = work;
    syncs = λ ticket waits. runs.kept.order.orderly.waiting.waits ticket
        (or_right (list_any (λ (r : Request). r.ticket == ticket) (state p.trail).requests)
        (list_any (λ (s : Waiter). s.ticket == ticket) (state p.trail).syncs) waits);
    queue = runs.tied.queue;
    none_due = runs.tied.none_due;
    answers = runs.answers.each;
  }

  -- a reply has still to come
  pub waits_ready : (k : ℕ) → slice_get p.listed.replies k ≡ Some None → IsReady drive p
  waits_ready k none = ready (λ empty. can_step.some k (runs.kept.order.orderly.waiting.none_yet k none) empty)

  -- a session drains, and there is no room
  pub drains_ready : (who : ℕ) → phase who p.listed.marks ≡ draining → IsFull who p → IsReady drive p
  drains_ready who drains full =
      let now =
      still_drains (state p.trail) p.trail.kept who (runs.kept.order.orderly.marks.drains who drains) full.none in
      ready (λ empty. first_waits (state p.trail) p.stock.layout.ops full.many
      (λ op later first. ⊎_elim (λ calm. absurd (not_calm (state p.trail) who now calm)) (λ is. is)
      (can_step.waiting op later first)))

  -- ---- what a step leaves

  module _ (mid : Parts D) (added : List Event) (on : StepsOn drive added p mid) where
    -- a step of a volume that runs shows all that is asked of it
    pub shown : Stepped drive fixed (view_of fixed next p) (view_of fixed next mid) added
        × IsTied drive fixed runs.planned mid
    shown = steps_show drive fixed runs.plan runs.planned next p mid added runs.kept runs.tied on.steps

    -- so it can be after a step too
    pub hands_then : (ticket : ℕ) → CanHand ticket p → CanHand ticket mid
    hands_then ticket can =
        hands_on ticket p mid can shown.0.history shown.0.marks (shown.1.sessions ∙ sym runs.tied.sessions)
        shown.0.replies.count
        (answers_stay p mid runs.answers on.answers shown.0.replies.count shown.0.replies.each shown.0.marks)

  -- ---- a reply

  module _ (who : ℕ) (busy : phase who p.listed.marks ≡ idle → ⊥) where
    -- a session that waits or drains is one of the script
    pub of_script : (1 ≤ who) × (who ≤ greatest_session fixed.script)
    of_script = marked (λ w. (1 ≤ w) × (w ≤ greatest_session fixed.script)) who p.listed.marks
        runs.kept.order.orderly.marks.sessions_are busy

  module _ (who ticket : ℕ) (waiting : phase who p.listed.marks ≡ waits ticket) where
    placed_here : (q : Placed) × (slice_get p.listed.history ticket ≡ Some q) × ((q.who == who) ≡ true)
    placed_here = passed (λ (q : Placed). q.who == who) (slice_get p.listed.history ticket)
        (placed_by_it drive (view_of fixed next p) runs.kept.order who ticket waiting)

    -- its session is the one that waits
    waits_for : phase placed_here.0.who p.listed.marks ≡ waits ticket
    waits_for = subst (λ w. phase w p.listed.marks ≡ waits ticket)
        (sym (eqb-true placed_here.0.who who placed_here.2)) waiting

    known : (1 ≤ placed_here.0.who) × (placed_here.0.who ≤ greatest_session fixed.script)
    known = of_script placed_here.0.who (λ rests. let no : waits ticket ≡ idle = sym waits_for ∙ rests in cc)

    -- the reply for which a session waits can be handed out
    pub can_hand : CanHand ticket p
    can_hand = record {
      placed = placed_here.0;
      is = placed_here.1;
      waits_for = waits_for;
      alone = λ w other. waits_alone drive (view_of fixed next p) runs.kept.order w placed_here.0.who ticket other
          waits_for;
      low = known.0;
      high = omega (arith, known.1, runs.tied.sessions);
      each = runs.kept.order.count;
      answers = runs.answers;
    }
