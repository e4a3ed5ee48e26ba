-- That what was picked may be done.
use Rattle.std.specs.Prelude.{ℕ, ◌≡◌, ◌⊎◌, ◌<◌, ◌==◌, ◌&&◌, ◌||◌, ◌^◌, not, nat_le, Bool, true, false, List, [], ◌∷◌, ◌++◌, map, Option, Some, None, slice_get}
use Rattle.std.specs.List.{list_any}
use Rattle.std.specs.Option.{option_map}
use Rattle.std.proofs.Common.{inl, inr, refl, sym, ap, subst, ◌∙◌}
use Rattle.tape_types.specs.declared.cartridges.Place.{Place}
use Rattle.tape_types.specs.declared.cartridges.Twin.{Twin}
use Rattle.tape_drive.specs.declared.drive.Drive.{Ghosts}
use Rattle.session_script.specs.declared.logs.Event.{Event}
use Rattle.session_script.specs.declared.logs.Event.TheVariants.{Served, Worked}
use Rattle.head_core.specs.Steps.{IsInReach}
use Rattle.head_queue.specs.Allowed.{op_place}
use Rattle.head_queue.specs.Orders.{IsIn}
use Rattle.head_queue.specs.Picks.{IsOpPicked, IsPicked}
use Rattle.head_queue.specs.Waiting.{Waiting, request}
use Rattle.head_queue.proofs.AllowedLaw.{picks_may_come}
use Rattle.head_queue.specs.EventLaws.Trail.{allows, fits, is_answer}
use Rattle.head_queue.specs.EventLaws.Waiting as waiting
use Rattle.head_queue.specs.EventLaws.Waiting.{State, Waiter, is_calm, is_due, waiting_op}
use Rattle.tape_layout.specs.declared.ops.Op.{Op}
use Rattle.tape_layout.specs.Ops.{is_flush, place_of}
use Rattle.promises.specs.ServingPromise.Served.{headed}
use Rattle.waiting_reads.specs.Gathering.{Gathering}
use Rattle.waiting_reads.specs.Waiting.{HasTicket, StandsAt, has_ticket}
use Rattle.event_journal.specs.Trails.{due_of, due_ticket, state}
use Rattle.volume_state.specs.StateLaws.Parts.{Parts}
use Rattle.volume_state.specs.StateLaws.Stepping.{IsOneRead, IsOneRequest}
use Rattle.volume_state.specs.CallLaws.StepLaws.{CanStep}
use Rattle.volume_core.specs.VolumeSteps.Moves.{IsFirstOp, IsReady}
use Rattle.volume_core.proofs.VolumeSteps.SyncLemmas.{same_number}

not_due : (st : State) → due_ticket st ≡ None → is_due st ≡ false
not_due st e = by st.syncs refl
  where
    by : (syncs : List Waiter) → st.syncs ≡ syncs → is_due st ≡ false
    by [] s = rw s refl
    by (w ∷ more) s = on (nat_le w.due st.done) refl
      where
        on : (b : Bool) → nat_le w.due st.done ≡ b → is_due st ≡ false
        on true d = let wrong : Some w.ticket ≡ None = rw (s, d) at e in cc
        on false d = rw (s, d) refl

allowed : (st : State) (e : Event) → fits st e ≡ true → due_ticket st ≡ None → allows st e ≡ true
allowed st e fit due = rw (fit, not_due st due) refl

-- ---- a read

any_there : (ticket : ℕ) (front : List Gathering) (r : Gathering) (behind : List Gathering) → r.ticket ≡ ticket
    → has_ticket ticket (front ++ r ∷ behind) ≡ true
any_there ticket [] r behind is =
    ap (λ b. b || has_ticket ticket behind) (ap (λ n. n == ticket) is ∙ same_number ticket)
any_there ticket (x ∷ front) r behind is = by (any_there ticket front r behind is) (x.ticket == ticket) refl
  where
    by : has_ticket ticket (front ++ r ∷ behind) ≡ true → (b : Bool) → (x.ticket == ticket) ≡ b
        → has_ticket ticket (x ∷ front ++ r ∷ behind) ≡ true
    by later true e = ap (λ b. b || has_ticket ticket (front ++ r ∷ behind)) e
    by later false e = ap (λ b. b || has_ticket ticket (front ++ r ∷ behind)) e ∙ later

stands : (reads : List Gathering) (ticket : ℕ) → IsOneRead reads ticket → HasTicket reads ticket
stands reads ticket r = ap (has_ticket ticket) r.stands.parts
    ∙ any_there ticket r.front r.one r.behind r.stands.ticket_is

-- ---- an op

module _ {D : Type 0} (drive : Ghosts D) (p : Parts D) (can : CanStep drive p) (ready : IsReady drive p) where
  -- the op that was picked is the first that stands
  pub waits_first : (op : Op) (later : List Op) → p.stock.layout.ops ≡ op ∷ later
      → IsOpPicked (state p.trail).head (op_place (state p.trail)) p.queue.waiting → waiting_op (state p.trail) ≡ Some (headed op)
  waits_first op later first picked = by (can.waiting op later first)
    where
      by : (is_calm (state p.trail) ≡ true) ⊎ (waiting_op (state p.trail) ≡ Some (headed op)) → waiting_op (state p.trail) ≡ Some (headed op)
      by (inl calm) =
          let none : op_place (state p.trail) ≡ None = rw calm refl in
          let wrong : None ≡ Some picked.at = sym none ∙ picked.waits in cc
      by (inr is) = is

  at_first : (op : Op) (later : List Op) → p.stock.layout.ops ≡ op ∷ later
      → (picked : IsOpPicked (state p.trail).head (op_place (state p.trail)) p.queue.waiting) → picked.at ≡ place_of op
  at_first op later first picked =
      let is : Some picked.at ≡ Some (place_of op) =
      sym picked.waits ∙ ap (option_map (λ (o : waiting.Op). o.place)) (waits_first op later first picked) in cc

  -- an op that was picked may be done
  pub op_allowed : (op : Op) (later : List Op) (fault : Option Twin) → p.stock.layout.ops ≡ op ∷ later
      → IsOpPicked (state p.trail).head (op_place (state p.trail)) p.queue.waiting
      → allows (state p.trail) (Worked (place_of op) fault) ≡ true
  op_allowed op later fault first picked =
      subst (λ (at : Place). allows (state p.trail) (Worked at fault) ≡ true) (at_first op later first picked)
      (allowed (state p.trail) (Worked picked.at fault) (picks_may_come.worked (state p.trail) p.queue.waiting fault ready.queue picked) ready.none_due)

  pub first_op : (op : Op) (later : List Op) → p.stock.layout.ops ≡ op ∷ later
      → IsOpPicked (state p.trail).head (op_place (state p.trail)) p.queue.waiting → IsFirstOp p (place_of op) (is_flush op)
  first_op op later first picked = record {
    op = op;
    later = later;
    first = first;
    place_is = refl;
    flush_is = refl;
    waits = waits_first op later first picked;
  }

  -- ---- a request

  -- a request that was picked is one of those that wait
  pub one_request : (node owner : ℕ) (place : Place) → IsPicked (state p.trail).head (op_place (state p.trail)) p.queue.waiting node owner place
      → IsOneRequest p.queue.waiting owner place
  one_request node owner place picked = record {
    front = picked.waits.front;
    one = record { node = node; owner = owner; place = place; arrival = picked.arrival };
    behind = picked.waits.behind;
    waiting_is = picked.waits.parts;
    owner_is = refl;
    place_is = refl;
  }

  -- a request that was picked may be served
  pub request_allowed : (node owner : ℕ) (place : Place) (fault : Option Twin)
      → IsPicked (state p.trail).head (op_place (state p.trail)) p.queue.waiting node owner place
      → allows (state p.trail) (Served owner place fault) ≡ true
  request_allowed node owner place fault picked = allowed (state p.trail) (Served owner place fault)
      (picks_may_come.served (state p.trail) p.queue.waiting node owner place fault ready.queue picked) ready.none_due

  -- a request that was picked is of a read that waits
  pub has_read : (owner : ℕ) (place : Place) → IsOneRequest p.queue.waiting owner place → HasTicket p.reads owner
  has_read owner place one = stands p.reads owner (can.request owner place one).2
