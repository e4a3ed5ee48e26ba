-- A sync shows all that is asked of it.
use Rattle.std.proofs.Common.{◌≡◌, ℕ, ◌+◌, ◌<◌, ◌≤◌, ◌||◌, ◌==◌, Bool, true, false, cond, List, [], ◌∷◌, ◌++◌, length, map, filter_map, fold, Option, Some, None, IfSome, refl, sym, ap, ◌∙◌, subst, arith, length-append}
use Rattle.std.specs.List.{list_any}
use Rattle.std.proofs.lemmas.Bool.{eq-eqb}
use Rattle.std.proofs.lemmas.List.{append-nil, append_assoc, append_cancel_left, length-map}
use Rattle.std.proofs.lemmas.List.Elements.{filter_map-append}
use Rattle.std.proofs.lemmas.List.Folds.{list_any-append}
use Rattle.tape_types.specs.declared.cartridges.Part.{Part}
use Rattle.tape_types.specs.declared.cartridges.Part.TheVariants.{Dp}
use Rattle.tape_types.specs.declared.cartridges.Place.{Place}
use Rattle.tape_types.specs.declared.moments.Moment.{Moment}
use Rattle.tape_drive.specs.declared.drive.Drive.{Ghosts}
use Rattle.plain_tree.specs.declared.calls.Answer.TheVariants as the_answers
use Rattle.plain_tree.specs.declared.calls.Call.{Call}
use Rattle.plain_tree.specs.declared.calls.Call.TheVariants as calls
use Rattle.plain_tree.specs.declared.calls.Fate.TheVariants as fates
use Rattle.session_script.specs.declared.logs.Event.{Event}
use Rattle.session_script.specs.declared.logs.Event.TheVariants as events
use Rattle.session_script.specs.declared.logs.Reply.{Reply}
use Rattle.session_script.specs.declared.logs.Reply.TheVariants as the_replies
use Rattle.head_queue.specs.EventLaws.Trail.{after, after_all}
use Rattle.head_queue.specs.EventLaws.Waiting as waiting
use Rattle.head_queue.specs.EventLaws.Waiting.{State}
use Rattle.tape_layout.specs.Ops.{AreNext, after_ops, end_of, place_of}
use Rattle.tape_layout.specs.declared.ops.Op.{Op}
use Rattle.tape_layout.specs.declared.standing.Ends.{Ends}
use Rattle.space_laws.specs.Space.{Ask, Rules, Space, index, nothing, ops_of}
use Rattle.space_laws.specs.Space as space
use Rattle.space_laws.specs.Standing.{Given, Standing, ask_of, rules, sync_text}
use Rattle.promises.specs.ServingPromise.Acks.{answers, synced_ticket}
use Rattle.promises.specs.ServingPromise.Marks.{marks_of_submit}
use Rattle.promises.specs.ServingPromise.Served.{Fixed, headed, queued}
use Rattle.promises.specs.ServingPromise.Submits as model
use Rattle.promises.specs.ServingPromise.Submits.{Asks, IsOfDone, acks_for, is_put_off, may_wait_at, queues_at, synced_at}
use Rattle.promises.specs.ServingPromise.Cached.{wanted}
use Rattle.promises.specs.declared.serving_promise.answers.Submitted.{Submitted}
use Rattle.promises.specs.declared.serving_promise.answers.Submitted.TheVariants as submitted
use Rattle.promises.specs.OrderLaws.Kept.{seen}
use Rattle.promises.specs.OrderLaws.Sides.{IsAnswered}
use Rattle.promises.proofs.OrderLaws.Owned.{after_more}
use Rattle.promises.specs.CrashLaws.Laws.{CanServe, IsNextDue}
use Rattle.promises.specs.ReplyLaws.Within.{SubmitsWithin}
use Rattle.promises.specs.PromiseLaws.Kept.{Plan, SyncsAreDue}
use Rattle.event_journal.specs.Trails.{state}
use Rattle.held_volume.specs.Applied.{IsDone}
use Rattle.volume_state.specs.PlanLaws.Planned.{Items, ends_in, tape_on, with_ops}
use Rattle.volume_state.proofs.PlanLaws.Admits.{ends_go_on}
use Rattle.volume_state.specs.StateLaws.Parts.{Parts, view_of}
use Rattle.volume_state.specs.StateLaws.Placing.{PlacesCall, Syncs, synced_here, synced_reply}
use Rattle.volume_state.specs.StateLaws.Tied.{AreFilesRight}
use Rattle.volume_state.specs.CallLaws.SubmitLaws.{IsSubmission, Shown, synced_answer}
use Rattle.volume_state.proofs.CallLaws.Admitted.{IsOne, given_in, on_in, space_in, standing_in, tied_on}
use Rattle.volume_state.proofs.CallLaws.Asking.{queues_answer_none, queues_queued, queues_unanswered, queues_want_none, still_before}
use Rattle.volume_state.proofs.CallLaws.SubmitDues.{due_next}
use Rattle.volume_state.proofs.CallLaws.Grouped.{IsAdmitted, answered_rests, begun_there, queued_stand, sync_by, sync_events}
use Rattle.volume_state.proofs.CallLaws.SubmitStandings.{files_right, stands_low}
use Rattle.volume_state.proofs.CallLaws.Truly.{adds_ops, call_then, follows_on, placed_of, places_one, places_truly}
use Rattle.volume_state.proofs.CallLaws.Rightly.{rests_here}

-- ---- the events behind those of the ops

synced_queued : (here : ℕ) (standing : List waiting.Op) → filter_map queued (synced_at here standing) ≡ []
synced_queued here [] = refl
synced_queued here (op ∷ later) = refl

synced_wanted : (here : ℕ) (standing : List waiting.Op) → filter_map wanted (synced_at here standing) ≡ []
synced_wanted here [] = refl
synced_wanted here (op ∷ later) = refl

-- as many ops stand as the head sees
synced_tickets : (here : ℕ) (standing : List waiting.Op) (ops : List Op) → length standing ≡ length ops
    → filter_map synced_ticket (synced_at here standing) ≡ synced_here here ops
synced_tickets here [] [] long = refl
synced_tickets here (s ∷ standing) (op ∷ ops) long = refl
synced_tickets here [] (op ∷ ops) long = absurd (omega (arith, long))
synced_tickets here (s ∷ standing) [] long = absurd (omega (arith, long))

none_stand : (standing : List waiting.Op) → length standing ≡ 0 → standing ≡ []
none_stand [] long = refl
none_stand (s ∷ standing) long = absurd (omega (arith, long))

some_stand : (here : ℕ) (standing : List waiting.Op) → 1 ≤ length standing → synced_at here standing ≡ []
some_stand here [] some = absurd (omega (arith, some))
some_stand here (s ∷ standing) some = refl

-- ---- the last index stands before the end

index_before : (v : Rules) (on : Bool) (s : Space) (text : List ℕ) (planned : Items) → s.ends ≡ ends_in planned
    → s.ends.dp + 1 < length (with_ops (ops_of v on s (index text)) planned Dp)
index_before v on s text planned ends =
    let follows = subst (λ (e : Ends). AreNext e (ops_of v on s (index text))) ends (ends_go_on.admits v on s (index text)) in
    let last : (space.after v on s (index text)).ends ≡ ends_in (with_ops (ops_of v on s (index text)) planned) =
    ends_go_on.leaves v on s (index text) ∙ ap (λ (e : Ends). after_ops e (ops_of v on s (index text))) ends
    ∙ sym (ends_go_on.ends planned (ops_of v on s (index text)) follows) in
    omega (arith, ap (λ (e : Ends). e.dp) last)

last_by : (v : Rules) (on : Bool) (s : Space) (text : List ℕ) (planned : Items) → s.ends ≡ ends_in planned
    → IfSome s.last_dp (λ pos. pos < length (planned Dp)) → (b : Bool)
    → IfSome (space.after v on s (cond b (index text) nothing)).last_dp
    (λ pos. pos < length (with_ops (ops_of v on s (cond b (index text) nothing)) planned Dp))
last_by v on s text planned ends back true = index_before v on s text planned ends
last_by v on s text planned ends back false = still_before s.last_dp planned [] back

-- ---- a sync, whatever is answered

module _ {D : Type 0} (drive : Ghosts D) (fixed : Fixed D) (plan : Plan drive fixed) (planned : Items) (before next : Option Moment)
    (who nth : ℕ) (at : Moment) (answer : Submitted) (old new : Parts D)
    (sub : IsSubmission drive fixed plan planned before next who nth calls.Sync at answer old new)
    (s : Syncs drive who nth at old new) where
  abbrev g : Given
  g = given_in drive fixed

  abbrev on : Bool
  on = on_in drive fixed old

  abbrev st : Standing
  st = standing_in drive fixed old

  abbrev here : ℕ
  here = length old.listed.history

  abbrev ask : Ask
  ask = ask_of g st calls.Sync at

  is_done : IsDone (tape_on planned) g on st calls.Sync at old.stock new.stock
  is_done = s.applied (tape_on planned) g on st sub.tied.stock

  asked_is : s.asked ≡ ops_of (rules g) on st.space ask
  asked_is = append_cancel_left old.stock.layout.ops s.asked (ops_of (rules g) on st.space ask) (sym s.ops ∙ is_done.ops)

  abbrev queues : List Event
  queues = queues_at (map place_of s.asked)

  -- the ops that stand once those of the sync are queued
  abbrev standing : List waiting.Op
  standing = waiting.ops (after_all (old.trail.events ++ queues))

  abbrev added : List Event
  added = queues ++ events.Syncs here ∷ synced_at here standing

  events_are : new.trail.events ≡ old.trail.events ++ added
  events_are = s.events ∙ append_assoc old.trail.events queues (events.Syncs here ∷ synced_at here standing)

  standing_is : standing ≡ waiting.ops (fold after (state old.trail) queues)
  standing_is = ap waiting.ops (after_more old.trail.events queues)

  long : length standing ≡ length new.stock.layout.ops
  long = omega (
    arith,
    ap length standing_is,
    queued_stand (map place_of s.asked) (state old.trail),
    length-map s.asked place_of,
    ap length s.ops,
    length-append old.stock.layout.ops s.asked,
    ap length sub.kept.order.orderly.standing,
    length-map old.stock.layout.ops headed,
  )

  state_is : state new.trail ≡ fold after (state old.trail) added
  state_is = ap after_all events_are ∙ after_more old.trail.events added

  group : IsAdmitted s.asked (space_in drive fixed old calls.Sync (placed_of who nth at)) (state old.trail) (state new.trail)
  group = subst (λ (x : State). IsAdmitted s.asked (space.after (rules g) on st.space ask) (state old.trail) x)
      (sym (state_is ∙ ap (λ (l : List waiting.Op). fold after (state old.trail) (queues ++ events.Syncs here ∷ synced_at here l)) standing_is))
      (subst (λ (l : List Op). IsAdmitted l (space.after (rules g) on st.space ask) (state old.trail)
      (fold after (state old.trail) (sync_events here (state old.trail) l))) (sym asked_is)
      (sync_by (rules g) on st.space (state old.trail) here (sync_text g st at) sub.tied.grouped st.space.changed refl))

  low : (part : Part) → 4 ≤ end_of part (ends_in planned)
  low part = subst (λ (e : Ends). 4 ≤ end_of part e) sub.tied.ends
      (stands_low g old.on old.listed.history (length old.listed.history) sub.tied.mount.ip_end.0 sub.tied.mount.dp_end.0 part)

  files : AreFilesRight st.files (ends_in (with_ops s.asked planned)) (old.stock.layout.ops ++ s.asked)
  files = subst (λ (l : List Op). AreFilesRight st.files (ends_in (with_ops l planned)) (old.stock.layout.ops ++ l)) (sym asked_is)
      (files_right g on st planned old.stock.layout.ops sub.tied.ends low (omega (arith, sub.tied.mount.blocks.0)) sub.tied.files calls.Sync ask
      (λ path offset bytes wrong. absurd (cc wrong)))

  back : IfSome (space.after (rules g) on st.space ask).last_dp (λ pos. pos < length (with_ops s.asked planned Dp))
  back = subst (λ (l : List Op). IfSome (space.after (rules g) on st.space ask).last_dp (λ pos. pos < length (with_ops l planned Dp))) (sym asked_is)
      (last_by (rules g) on st.space (sync_text g st at) planned sub.tied.ends sub.tied.back st.space.changed)

  one : IsOne drive fixed planned calls.Sync (placed_of who nth at) s.asked old new
  one = record {
    tied = sub.tied;
    fate = refl;
    is_call = sub.is_call;
    history = s.places.history;
    calls = s.places.calls;
    sessions = s.places.sessions;
    moves = s.moves;
    wants = s.wants;
    cached = s.cached;
    done = is_done;
    ops = s.ops;
    group = group;
    none_due = s.none_due;
    files = files;
    back = back;
  }

  -- ---- what is shown, whatever is answered

  adds_acks : new.trail.acks ≡ old.trail.acks ++ acks_for (drive.commands new.drive) added
  adds_acks = s.acks
      ∙ ap (λ (d : D). old.trail.acks ++ map (λ ticket. record { place = ticket; command = drive.commands d }) (synced_here here new.stock.layout.ops)) (sym s.moves.drive)
      ∙ ap (λ (l : List ℕ). old.trail.acks ++ map (λ ticket. record { place = ticket; command = drive.commands new.drive }) l) (sym tickets)
    where
      tickets : filter_map synced_ticket added ≡ synced_here here new.stock.layout.ops
      tickets = filter_map-append synced_ticket queues (events.Syncs here ∷ synced_at here standing)
          ∙ ap (λ (l : List ℕ). l ++ filter_map synced_ticket (synced_at here standing)) (queues_answer_none (map place_of s.asked))
          ∙ synced_tickets here standing new.stock.layout.ops long

  of_done : IsOfDone here old.trail.events (model.call_of (view_of fixed before old) who nth) added
  of_done = subst (λ (o : Option Call). IsOfDone here old.trail.events o added) (sym sub.is_call) (map place_of s.asked, refl)

  asks : Asks st old.trail.events added old.cached new.cached (model.call_of (view_of fixed before old) who nth)
  asks = subst (λ (o : Option Call). Asks st old.trail.events added old.cached new.cached o) (sym sub.is_call) (none, s.cached)
    where
      none : filter_map wanted added ≡ []
      none = filter_map-append wanted queues (events.Syncs here ∷ synced_at here standing)
          ∙ ap (λ (l : List Place). l ++ filter_map wanted (synced_at here standing)) (queues_want_none (map place_of s.asked))
          ∙ synced_wanted here standing

  queued_are : filter_map queued added ≡ map place_of s.asked
  queued_are = filter_map-append queued queues (events.Syncs here ∷ synced_at here standing)
      ∙ ap (λ (l : List Place). filter_map queued queues ++ l) (synced_queued here standing)
      ∙ append-nil (filter_map queued queues)
      ∙ queues_queued (map place_of s.asked)

  drains : model.PutsOff (is_put_off (view_of fixed before old) (model.call_of (view_of fixed before old) who nth)) answer
  drains = subst (λ (o : Option Call). model.PutsOff (is_put_off (view_of fixed before old) o) answer) (sym sub.is_call) sub.put_off

  module _ (reply : Option Reply) (places : PlacesCall who nth at fates.Done reply old new) where
    dues : (can : CanServe drive fixed) → SyncsAreDue (drive.limits fixed.first) (plan can) (view_of fixed before old) (view_of fixed next new)
    dues can p history fate is changed =
        let same = call_then drive fixed plan planned before next who nth calls.Sync at answer old new sub s.asked one reply places added events_are p calls.Sync history is in
        subst (λ (m : Moment). IsNextDue (plan can) (drive.limits fixed.first) (view_of fixed before old) m) same.1
        (due_next drive fixed plan planned before next who nth at answer old new sub is_done.fits changed can)

    -- of each answer it is shown what differs
    shown_by : model.Placing (view_of fixed before old) (view_of fixed next new) who nth answer
        → model.AreOfSubmit who here old.trail.events (model.call_of (view_of fixed before old) who nth) answer added
        → model.AsksUnlessVoid answer st old.trail.events added old.cached new.cached (model.call_of (view_of fixed before old) who nth)
        → new.listed.marks ≡ old.listed.marks ++ marks_of_submit who here answer
        → IsAnswered (state new.trail) added here answer
        → SubmitsWithin (seen drive fixed.first) (view_of fixed before old) (view_of fixed next new) who nth answer
        → Shown drive fixed plan planned before next who nth answer s.asked old new
    shown_by placing of_it asks_it marks answered within = record {
      submits = record {
        fixed = refl;
        drive = s.moves.drive;
        on = s.moves.on;
        kept = s.moves.kept;
        placing = placing;
        added = added;
        adds = record { events = events_are; acks = adds_acks };
        of_it = of_it;
        asks = asks_it;
        marks = marks;
        drain = drains;
      };
      rightly = record {
        order = record {
          moment = sub.one_moment;
          follows = follows_on drive fixed plan planned before next who nth calls.Sync at answer old new sub s.asked one reply places added events_are;
          answered = answered;
        };
        truth = λ can. within;
        ops = λ can. adds_ops drive fixed plan planned before next who nth calls.Sync at answer old new sub s.asked one reply places added events_are;
        size = λ can. omega (arith, sub.tied.mount.blocks.0);
        due = dues;
      };
      tied = tied_on drive fixed planned calls.Sync (placed_of who nth at) s.asked old new one;
    }

-- ---- each answer

module _ {D : Type 0} (drive : Ghosts D) (fixed : Fixed D) (plan : Plan drive fixed) (planned : Items) (before next : Option Moment)
    (who nth : ℕ) (at : Moment) (old new : Parts D) (s : Syncs drive who nth at old new) where
  -- no op stands, and it is answered at once
  at_once : new.stock.layout.ops ≡ []
      → IsSubmission drive fixed plan planned before next who nth calls.Sync at (submitted.Ready (the_replies.Answer the_answers.Synced)) old new
      → Shown drive fixed plan planned before next who nth (submitted.Ready (the_replies.Answer the_answers.Synced)) s.asked old new
  at_once none sub =
      let answer = submitted.Ready (the_replies.Answer the_answers.Synced) in
      let reply = Some (the_replies.Answer the_answers.Synced) in
      let places : PlacesCall who nth at fates.Done reply old new =
      subst (λ (l : List Op). PlacesCall who nth at fates.Done (synced_reply l) old new) none s.places in
      let it = one drive fixed plan planned before next who nth at answer old new sub s in
      let more = added drive fixed plan planned before next who nth at answer old new sub s in
      let stand = standing drive fixed plan planned before next who nth at answer old new sub s in
      let events_new = events_are drive fixed plan planned before next who nth at answer old new sub s in
      let calm : stand ≡ [] = none_stand stand (long drive fixed plan planned before next who nth at answer old new sub s ∙ ap length none) in
      let now : more ≡ queues_at (map place_of s.asked) ++ events.Syncs (length old.listed.history) ∷ events.Synced (length old.listed.history) ∷ [] =
      ap (λ (l : List waiting.Op). queues_at (map place_of s.asked) ++ events.Syncs (length old.listed.history) ∷ synced_at (length old.listed.history) l) calm in
      shown_by drive fixed plan planned before next who nth at answer old new sub s reply places
      (places_one drive fixed plan planned before next who nth calls.Sync at answer old new sub s.asked it reply places more events_new)
      (of_done drive fixed plan planned before next who nth at answer old new sub s)
      (asks drive fixed plan planned before next who nth at answer old new sub s)
      places.marks (
        answered_rests (state old.trail) (length old.listed.history) (map place_of s.asked) (state new.trail)
            (state_is drive fixed plan planned before next who nth at answer old new sub s ∙ ap (fold after (state old.trail)) now)
            (group drive fixed plan planned before next who nth at answer old new sub s).requests
            (rests_here drive fixed before next old new sub.kept.order),
        refl,
        sym (ap (list_any (answers (length old.listed.history))) now ∙ told_synced (length old.listed.history) (map place_of s.asked)),
      )
      (places_truly drive fixed plan planned before next who nth calls.Sync at answer old new sub s.asked it reply places more events_new
      (queued_are drive fixed plan planned before next who nth at answer old new sub s)
      (record { within = (is_done drive fixed plan planned before next who nth at answer old new sub s).fits; answered = refl }))
    where
      told_synced : (here : ℕ) (places : List Place) → list_any (answers here) (queues_at places ++ events.Syncs here ∷ events.Synced here ∷ []) ≡ true
      told_synced here places = list_any-append (answers here) (queues_at places) (events.Syncs here ∷ events.Synced here ∷ [])
          ∙ ap (λ (b : Bool). b || (here == here || false)) (queues_unanswered here places)
          ∙ ap (λ (b : Bool). b || false) (eq-eqb here here refl)

  -- an op stands, for which it waits
  later : (op : Op) (ops : List Op) → new.stock.layout.ops ≡ op ∷ ops
      → IsSubmission drive fixed plan planned before next who nth calls.Sync at (submitted.Wait (length old.listed.history)) old new
      → Shown drive fixed plan planned before next who nth (submitted.Wait (length old.listed.history)) s.asked old new
  later op ops some sub =
      let answer = submitted.Wait (length old.listed.history) in
      let places : PlacesCall who nth at fates.Done None old new =
      subst (λ (l : List Op). PlacesCall who nth at fates.Done (synced_reply l) old new) some s.places in
      let it = one drive fixed plan planned before next who nth at answer old new sub s in
      let more = added drive fixed plan planned before next who nth at answer old new sub s in
      let stand = standing drive fixed plan planned before next who nth at answer old new sub s in
      let events_new = events_are drive fixed plan planned before next who nth at answer old new sub s in
      let now : more ≡ queues_at (map place_of s.asked) ++ events.Syncs (length old.listed.history) ∷ [] =
      ap (λ (l : List Event). queues_at (map place_of s.asked) ++ events.Syncs (length old.listed.history) ∷ l)
      (some_stand (length old.listed.history) stand (omega (arith, long drive fixed plan planned before next who nth at answer old new sub s, ap length some))) in
      shown_by drive fixed plan planned before next who nth at answer old new sub s None places
      (refl, places_one drive fixed plan planned before next who nth calls.Sync at answer old new sub s.asked it None places more events_new) (
        ap may_wait_at sub.is_call,
        of_done drive fixed plan planned before next who nth at answer old new sub s,
      )
      (asks drive fixed plan planned before next who nth at answer old new sub s)
      places.marks
      (begun_there (state old.trail) (length old.listed.history) (map place_of s.asked) (state new.trail)
      (state_is drive fixed plan planned before next who nth at answer old new sub s ∙ ap (fold after (state old.trail)) now))
      (record {
        places = places_truly drive fixed plan planned before next who nth calls.Sync at answer old new sub s.asked it None places more events_new
            (queued_are drive fixed plan planned before next who nth at answer old new sub s) tt;
        within = (is_done drive fixed plan planned before next who nth at answer old new sub s).fits;
      })

  by_ops : (ops : List Op) → new.stock.layout.ops ≡ ops
      → IsSubmission drive fixed plan planned before next who nth calls.Sync at (synced_answer (length old.listed.history) ops) old new
      → Shown drive fixed plan planned before next who nth (synced_answer (length old.listed.history) ops) s.asked old new
  by_ops [] is sub = at_once is sub
  by_ops (op ∷ ops) is sub = later op ops is sub

  -- a sync shows all that is asked of it
  pub shown : (call : Call) → call ≡ calls.Sync
      → IsSubmission drive fixed plan planned before next who nth call at (synced_answer (length old.listed.history) new.stock.layout.ops) old new
      → Shown drive fixed plan planned before next who nth (synced_answer (length old.listed.history) new.stock.layout.ops) s.asked old new
  shown call is sub = by_ops new.stock.layout.ops refl
      (subst (λ (c : Call). IsSubmission drive fixed plan planned before next who nth c at
      (synced_answer (length old.listed.history) new.stock.layout.ops) old new) is sub)
