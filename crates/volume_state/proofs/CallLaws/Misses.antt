-- A step for a request that failed.
use Rattle.std.specs.Prelude.{◌≡◌, ◌==◌, ◌&&◌, ◌||◌, not, ℕ, Bool, true, false, cond, List, [], ◌∷◌, ◌++◌, All, Contains, filter, length, map, Option, Some, None, slice_get}
use Rattle.std.specs.List.{list_any, cons_option}
use Rattle.std.proofs.Common.{inr, refl, sym, ap, subst, ◌∙◌, arith}
use Rattle.std.proofs.lemmas.Bool.{eq-eqb, or_from}
use Rattle.std.proofs.lemmas.List.Elements.{All-cons}
use Rattle.tape_types.specs.Counts.{IsRise, Rose}
use Rattle.tape_types.specs.declared.cartridges.Place.{Place}
use Rattle.tape_types.specs.declared.cartridges.Twin.{Twin}
use Rattle.tape_types.specs.declared.moments.Moment.{Moment}
use Rattle.tape_drive.specs.declared.drive.Drive.{Ghosts}
use Rattle.plain_tree.specs.declared.calls.Call.{Call}
use Rattle.plain_tree.specs.declared.calls.Placed.{Placed}
use Rattle.session_script.specs.declared.logs.Event.{Event}
use Rattle.session_script.specs.declared.logs.Event.TheVariants.{Served}
use Rattle.session_script.specs.declared.logs.Reply.{Reply}
use Rattle.session_script.specs.declared.logs.Reply.TheVariants as the_replies
use Rattle.head_core.specs.Steps.{TellsFaults}
use Rattle.head_core.specs.declared.work.StepDone.TheVariants as ends
use Rattle.head_queue.specs.Waiting.{Waiting, request}
use Rattle.head_queue.specs.EventLaws.Trail.{after, of_call, owned_by}
use Rattle.head_queue.specs.EventLaws.Waiting.{Request, State}
use Rattle.promises.specs.ServingPromise.Served.{Fixed, given}
use Rattle.promises.specs.OrderLaws.Kept.{seen}
use Rattle.promises.specs.OrderLaws.Sides.{owned_from}
use Rattle.promises.proofs.OrderLaws.Frames.{syncs_it, wants_it}
use Rattle.promises.proofs.OrderLaws.Told.{owned_more}
use Rattle.promises.specs.ReplyLaws.Within.{IsAnswerAt}
use Rattle.promises.proofs.ReplyLaws.Lists.{in_first, in_rest}
use Rattle.event_journal.specs.Trails.{state}
use Rattle.promises.specs.PromiseLaws.Kept.{IsKept, Plan}
use Rattle.waiting_reads.specs.Gathering.{Gathering}
use Rattle.volume_state.specs.PlanLaws.Planned.{Items}
use Rattle.volume_state.specs.StateLaws.Parts.{Parts, view_of}
use Rattle.volume_state.specs.StateLaws.Stepping.{FailsRead}
use Rattle.volume_state.specs.StateLaws.Tied.{AreReading, IsTied, is_of}
use Rattle.volume_state.specs.CallLaws.StepLaws.{Stepped}
use Rattle.volume_state.proofs.CallLaws.Answered.{Brings, one_brought, one_came, one_kept, told_count}
use Rattle.volume_state.proofs.CallLaws.CanLaw.{asked_are, unanswered}
use Rattle.volume_state.proofs.CallLaws.Serves.{Shows, others_wait, serves}
use Rattle.volume_state.proofs.CallLaws.Splits.{any_mid}
use Rattle.volume_state.proofs.CallLaws.Taken.{reads_without}
use Rattle.volume_state.proofs.CallLaws.Uses.{cached_still}

-- ---- small facts

left_by : (ticket : ℕ) (b : Bool) (w : Waiting) (rest : List Waiting) (left : List Request) → map request rest ≡ left
    → map request (cond b (w ∷ rest) rest) ≡ cond b (request w ∷ left) left
left_by ticket true w rest left e = ap (λ l. request w ∷ l) e
left_by ticket false w rest left e = e

-- the queue without one read's requests
left_are : (ticket : ℕ) (ws : List Waiting)
    → map request (filter (λ (w : Waiting). not (w.owner == ticket)) ws) ≡ filter (λ (r : Request). not (r.ticket == ticket)) (map request ws)
left_are ticket [] = refl
left_are ticket (w ∷ ws) = left_by ticket (not (w.owner == ticket)) w (filter (λ (w : Waiting). not (w.owner == ticket)) ws)
    (filter (λ (r : Request). not (r.ticket == ticket)) (map request ws)) (left_are ticket ws)

gone_by : {X : Type 0} (p : X → Bool) (x : X) (rest : List X) (b : Bool) → p x ≡ b → list_any p rest ≡ false
    → list_any p (cond (not b) (x ∷ rest) rest) ≡ false
gone_by p x rest true is e = e
gone_by p x rest false is e = ap (λ b. b || list_any p rest) is ∙ e

-- without those that pass a test none passes it
pub all_gone : {X : Type 0} (p : X → Bool) (xs : List X) → list_any p (filter (λ x. not (p x)) xs) ≡ false
all_gone p [] = refl
all_gone p (x ∷ xs) = gone_by p x (filter (λ y. not (p y)) xs) (p x) refl (all_gone p xs)

-- where not both hold and the first does, the second doesn't
pub no_syncs : (a b : Bool) → (a && b) ≡ false → a ≡ true → b ≡ false
no_syncs true b h e = h
no_syncs false b h e = absurd (cc)

-- a fault that was told rose
pub rise_of : (before now : ℕ) (counts : Twin) → TellsFaults before now (ends.Failed counts)
    → IsRise before now counts.before counts.after
rise_of before now counts t = record {
  lowest = omega (arith, t.0);
  rose = subst (λ n. Rose n counts.after) (sym t.0) (subst (λ n. Rose before n) (sym t.1) t.2);
  highest = omega (arith, t.1);
}

-- what holds of one thing holds of all of a list with that thing alone
pub one_of : {X : Type 0} (P : X → Type 0) (x : X) → P x → All P (x ∷ [])
one_of P x is = All-cons P x [] is (λ k d less. absurd (omega (arith, less)))

-- what was put at the end of a list is in it
pub last_in : {X : Type 0} (xs : List X) (x : X) → Contains (xs ++ x ∷ []) x
last_in [] x = in_first x []
last_in (y ∷ xs) x = in_rest y (xs ++ x ∷ []) x (last_in xs x)

owned_one : (st : State) (ticket : ℕ) (place : Place) (counts : Twin)
    → counts ∷ [] ≡ owned_from st (of_call ticket) (Served ticket place (Some counts) ∷ [])
owned_one st ticket place counts = sym (ap (λ b. cons_option (cond b (Some counts) None) []) (eq-eqb ticket ticket refl))

module _ {D : Type 0} (drive : Ghosts D) (fixed : Fixed D) (plan : Plan drive fixed) (planned : Items) (next_at : Option Moment)
    (old new : Parts D) (ticket : ℕ) (place : Place) (counts : Twin) (kept : IsKept drive fixed plan (view_of fixed next_at old))
    (tied : IsTied drive fixed planned old) (did : FailsRead drive ticket place counts old new) where
  abbrev st : State
  st = state old.trail

  abbrev e : Event
  e = Served ticket place (Some counts)

  abbrev fault : Reply
  fault = the_replies.Fault counts

  waited : slice_get old.listed.replies ticket ≡ Some None
  waited = unanswered drive fixed plan planned next_at old kept tied ticket place did.missed.request

  wanted : list_any (wants_it ticket) st.requests ≡ true
  wanted = ap (list_any (wants_it ticket)) (asked_are drive fixed plan planned next_at old kept tied ticket place did.missed.request)
      ∙ any_mid (wants_it ticket) (map request did.missed.request.front) (request did.missed.request.one) (map request did.missed.request.behind) (eq-eqb did.missed.request.one.owner ticket did.missed.request.owner_is)

  passes : (r : Request) → (r.ticket == ticket) ≡ false → not (r.ticket == ticket) ≡ true
  passes r other = ap not other

  brings : Brings st (e ∷ []) old.listed.replies ticket fault
  brings = record {
    waited = waited;
    gives = record {
      waits = or_from (list_any (wants_it ticket) (filter (λ (r : Request). not (r.ticket == ticket)) st.requests)) (list_any (syncs_it ticket) st.syncs)
          (all_gone (wants_it ticket) st.requests)
          (no_syncs (list_any (wants_it ticket) st.requests) (list_any (syncs_it ticket) st.syncs) (kept.order.apart ticket) wanted);
      fault = owned_one st ticket place counts;
      synced = refl;
    };
    others = λ k other. others_wait st ticket place (Some counts) (λ r. not (r.ticket == ticket)) passes refl k other;
  }

  came : (k : ℕ) (p : Placed) (call : Call) (reply : Reply) → slice_get old.listed.replies k ≡ Some None
      → slice_get new.listed.replies k ≡ Some (Some reply)
      → IsAnswerAt (given (view_of fixed next_at old) (seen drive fixed.first)) old.on old.listed.history (old.trail.events ++ e ∷ []) k call reply
  came k p call reply was there =
      let c = one_came old.listed.replies ticket fault k reply waited was (sym (ap (λ l. slice_get l k) did.missed.replies) ∙ there) in
      let owned : owned_by (of_call ticket) (old.trail.events ++ e ∷ []) ≡ owned_by (of_call ticket) old.trail.events ++ counts ∷ [] =
      owned_more (of_call ticket) old.trail.events (e ∷ []) ∙ ap (λ l. owned_by (of_call ticket) old.trail.events ++ l) (sym (owned_one st ticket place counts)) in
      inr (
        counts,
        subst (λ n. Contains (owned_by (of_call n) (old.trail.events ++ e ∷ [])) counts) (sym c.0)
            (subst (λ l. Contains l counts) (sym owned) (last_in (owned_by (of_call ticket) old.trail.events) counts)),
        sym c.1,
      )

  shows : Shows drive fixed plan planned next_at old new ticket place (Some counts) (ends.Failed counts) kept tied did.step did.missed.only did.missed.events
  shows = record {
    head = tt;
    count = ap length did.missed.replies ∙ told_count old.listed.replies ticket fault;
    keeps = λ k reply is. ap (λ l. slice_get l k) did.missed.replies
        ∙ one_kept st old.listed.replies ticket fault waited k reply is;
    brought = λ k reply was is. one_brought st (e ∷ []) old.listed.replies ticket fault kept.order.orderly.waiting brings k reply was
        (sym (ap (λ l. slice_get l k) did.missed.replies) ∙ is);
    came = λ can k p call reply at is was there. came k p call reply was there;
    rises = one_of (λ (t : Twin). IsRise (drive.faults old.drive) (drive.faults new.drive) t.before t.after) counts
        (rise_of (drive.faults old.drive) (drive.faults new.drive) counts did.step.made.faults);
    queue = ap (map request) did.missed.queue ∙ left_are ticket old.queue.waiting
        ∙ ap (filter (λ (r : Request). not (r.ticket == ticket))) tied.queue;
    reads = subst (λ (l : List Gathering). AreReading (given (view_of fixed next_at old) (seen drive fixed.first)) old.on old.listed.history planned (drive.held fixed.first)
        old.stock.layout.ops (after st e) l) (sym did.missed.reads)
        (reads_without (given (view_of fixed next_at old) (seen drive fixed.first)) old.on old.listed.history planned (drive.held fixed.first) old.stock.layout.ops st (after st e)
        ticket (λ r. not (r.ticket == ticket)) passes refl did.missed.read.front did.missed.read.one did.missed.read.behind did.missed.read.stands.ticket_is did.missed.read.stands.others
        (subst (λ (l : List Gathering). AreReading (given (view_of fixed next_at old) (seen drive fixed.first)) old.on old.listed.history planned (drive.held fixed.first)
        old.stock.layout.ops st l) did.missed.read.stands.parts tied.reads)
        (all_gone (is_of ticket) st.requests));
    keeps_block = did.missed.cached;
    cached = cached_still planned old.stock.layout.ops (drive.held fixed.first) old.cached new.cached did.missed.cached tied.cached;
  }

  -- a step for a request that failed shows all that is asked, and leaves the volume tied
  pub misses : Stepped drive fixed (view_of fixed next_at old) (view_of fixed next_at new) (e ∷ []) × IsTied drive fixed planned new
  misses = serves drive fixed plan planned next_at old new ticket place (Some counts) (ends.Failed counts) kept tied did.step did.missed.only did.missed.events shows
