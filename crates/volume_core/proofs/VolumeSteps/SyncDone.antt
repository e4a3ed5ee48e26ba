-- A sync that was admitted.
use Rattle.std.specs.Prelude.{ℕ, ◌≡◌, ◌+◌, ◌*◌, ◌≤◌, Bool, true, false, cond, drop, List, ◌∷◌, ◌++◌, length, map, Option, Some, None, Result, Ok, Err, OnOk}
use Rattle.std.proofs.Common.{refl, sym, ap, subst, ◌∙◌, arith, length-append}
use Rattle.tape_types.specs.declared.moments.Moment.{Moment}
use Rattle.tape_types.specs.declared.cartridges.Place.{Place}
use Rattle.extent_map.specs.Cells.{Tape}
use Rattle.plain_tree.specs.Refusals.{refusal_of}
use Rattle.plain_tree.specs.declared.calls.Call.TheVariants as calls
use Rattle.plain_tree.specs.declared.calls.Fate.TheVariants as fates
use Rattle.plain_tree.specs.declared.calls.Refusal.{Refusal}
use Rattle.session_script.specs.declared.logs.Event.{Event}
use Rattle.session_script.specs.declared.logs.Event.TheVariants as the_events
use Rattle.session_script.specs.declared.logs.Ack.{Ack}
use Rattle.head_queue.specs.EventLaws.Trail.{after_all}
use Rattle.head_queue.specs.EventLaws.Waiting as waiting
use Rattle.tape_drive.specs.declared.drive.Drive.{Ghosts}
use Rattle.tape_layout.specs.Ops.{place_of}
use Rattle.tape_layout.specs.declared.ops.Op.{Op}
use Rattle.space_laws.specs.Space.{Ask, index, nothing, ops_of}
use Rattle.space_laws.specs.Standing.{Given, Standing, ask_of, ask_unless, ask_unrefused, rules, sync_text}
use Rattle.promises.specs.ServingPromise.Submits.{queues_at, synced_at}
use Rattle.promises.specs.declared.serving_promise.answers.Submitted.{Submitted}
use Rattle.held_volume.specs.Applied.{IsDone}
use Rattle.held_volume.specs.Stocks.{IsStock, Stocked}
use Rattle.held_volume.specs.Syncs.{BringsAtMost, IsDocument}
use Rattle.event_journal.specs.Trails.{Journaled}
use Rattle.volume_state.specs.PlanLaws.Planned.{tape_on}
use Rattle.volume_state.specs.StateLaws.Parts.{Parts}
use Rattle.volume_state.specs.StateLaws.Placing.{PlacesCall, Syncs, synced_here, synced_reply}
use Rattle.volume_state.specs.StateLaws.Stepping.{acks_at}
use Rattle.volume_state.specs.CallLaws.SubmitLaws as made
use Rattle.volume_state.specs.CallLaws.SubmitLaws.{synced_answer}
use Rattle.volume_core.specs.VolumeSteps.Asking.{CanAsk, CanQueueSync, IsSubmitted, Queues, QueuesSync, Stands, WaitsSynced}
use Rattle.volume_core.proofs.VolumeSteps.ChangeLemmas.{asked_behind}

-- the ops of a sync can be queued
pub can_queue : {D : Type 0} (p : Parts D) (s : Stands p) (at : Moment) (next : Stocked) (trail : Journaled) (others : ℕ)
    → trail.events ≡ p.trail.events
    → ((early : Tape) (g : Given) (on : Bool) (st : Standing) → IsStock early g on st p.stock
    → IsDone early g on st calls.Sync at p.stock next)
    → others ≡ length p.stock.layout.ops
    → ((tape : Tape) (g : Given) (on : Bool) (st : Standing) → IsStock tape g on st p.stock
    → 2 * length (ops_of (rules g) on st.space (ask_of g st calls.Sync at)) + 2 ≤ trail.spare)
    → CanQueueSync others next trail
can_queue p s at next trail others same done is room =
    let d : IsDone (tape_on s.planned) s.g s.on s.st calls.Sync at p.stock next = done (tape_on s.planned) s.g s.on s.st s.stock in
    let asked : List Op = ops_of (rules s.g) s.on s.st.space (ask_of s.g s.st calls.Sync at) in
    let behind : length (drop others next.layout.ops) ≡ length asked =
    ap (λ (os : List Op). length os) (asked_behind (tape_on s.planned) s.g s.on s.st calls.Sync at p.stock next others is d) in
    let all : length next.layout.ops ≡ length p.stock.layout.ops + length asked =
    ap (λ (os : List Op). length os) d.ops ∙ length-append p.stock.layout.ops asked in
    record {
      ops = omega (arith, all, behind, s.ops, ap (λ (es : List Event). length (waiting.ops (after_all es))) same);
      room = omega (arith, behind, room (tape_on s.planned) s.g s.on s.st s.stock);
    }

-- ---- the room of a sync

on_ok : {X E : Type 0} (r : Result X E) (A B : Type 0) → (A → B) → OnOk r A → OnOk r B
on_ok (Ok x) A B f h = f h
on_ok (Err e) A B f h = tt

abbrev pub HasRoomForSync : Stocked → Option (List ℕ) → ℕ → Type 0
HasRoomForSync stock due spare = (tape : Tape) (g : Given) (on : Bool) (st : Standing) (at : Moment) → IsStock tape g on st stock
    → IsDocument g st at due → 2 * length (ops_of (rules g) on st.space (ask_of g st calls.Sync at)) + 2 ≤ spare

-- for a sync with an index there is room where the events of its ops fit
pub sync_room_some : {X E : Type 0} (r : Result X E) (stock : Stocked) (due : Option (List ℕ)) (doc : List ℕ) (most more spare : ℕ)
    → due ≡ Some doc
    → ((tape : Tape) (g : Given) (on : Bool) (st : Standing) → IsStock tape g on st stock
    → BringsAtMost (rules g) on st.space (length doc) most)
    → more ≡ most + 1 → OnOk r (2 * more ≤ spare) → OnOk r (HasRoomForSync stock due spare)
sync_room_some r stock due doc most more spare is brings one room =
    on_ok r (2 * more ≤ spare) (HasRoomForSync stock due spare)
    (λ enough tape g on st at stands told.
    let both : (st.space.changed ≡ true) × (doc ≡ sync_text g st at) =
    subst (λ (o : Option (List ℕ)). IsDocument g st at o) is told in
    let ask : ask_of g st calls.Sync at ≡ index (sync_text g st at) =
    ap (λ b. cond b (index (sync_text g st at)) nothing) both.0 in
    let few : length (ops_of (rules g) on st.space (index (sync_text g st at))) ≤ most =
    (brings tape g on st stands).indexes (sync_text g st at) (ap (λ (t : List ℕ). length t) (sym both.1)) in
    subst (λ (a : Ask). 2 * length (ops_of (rules g) on st.space a) + 2 ≤ spare) (sym ask) (omega (arith, few, one, enough))) room

-- for a sync without an index there is room where its own event fits
pub sync_room_none : {X E : Type 0} (r : Result X E) (stock : Stocked) (due : Option (List ℕ)) (spare : ℕ) → due ≡ None
    → OnOk r (2 * 1 ≤ spare) → OnOk r (HasRoomForSync stock due spare)
sync_room_none r stock due spare is room =
    on_ok r (2 * 1 ≤ spare) (HasRoomForSync stock due spare)
    (λ enough tape g on st at stands told.
    let unchanged : st.space.changed ≡ false = subst (λ (o : Option (List ℕ)). IsDocument g st at o) is told in
    let ask : ask_of g st calls.Sync at ≡ nothing = ap (λ b. cond b (index (sync_text g st at)) nothing) unchanged in
    subst (λ (a : Ask). 2 * length (ops_of (rules g) on st.space a) + 2 ≤ spare) (sym ask) (omega (arith, enough))) room

-- ---- what is queued

can_after : {D : Type 0} (who : ℕ) (places : List Place) (mid : Journaled) (p : Parts D) → CanAsk who p → Queues places p.trail mid
    → CanAsk who (record p { trail = mid })
can_after who places mid p can q = record { place = can.place; trail = q.trail; none_due = q.none_due }

-- a sync is submitted whose ops are queued
pub sync_made : {D : Type 0} (drive : Ghosts D) (who nth : ℕ) (at : Moment) (result : Submitted) (others : ℕ) (next : Stocked)
    (trail : Journaled) (old new : Parts D) (s : Stands old) → trail.events ≡ old.trail.events → trail.acks ≡ old.trail.acks
    → trail.kept ≡ old.trail.kept → others ≡ length old.stock.layout.ops
    → ((early : Tape) (g : Given) (on : Bool) (st : Standing) → IsStock early g on st old.stock
    → IsDone early g on st calls.Sync at old.stock next)
    → QueuesSync drive who nth at (map place_of (drop others next.layout.ops)) result
    (record old { stock = next; trail = trail }) new
    → IsSubmitted drive who nth at old new calls.Sync result
sync_made drive who nth at result others next trail old new s events acks kept is_others done q =
    let d : IsDone (tape_on s.planned) s.g s.on s.st calls.Sync at old.stock next = done (tape_on s.planned) s.g s.on s.st s.stock in
    let ops : List Op = ops_of (rules s.g) s.on s.st.space (ask_of s.g s.st calls.Sync at) in
    let here : ℕ = length old.listed.history in
    let w = q.waits in
    let behind : drop others next.layout.ops ≡ ops = asked_behind (tape_on s.planned) s.g s.on s.st calls.Sync at old.stock next others is_others d in
    let stock : new.stock ≡ next = ap (λ (p : Parts _). p.stock) w.others in
    let mid : q.mid.events ≡ old.trail.events ++ queues_at (map place_of ops) =
    q.queues.events
    ∙ ap (λ (es : List Event). es ++ queues_at (map place_of (drop others next.layout.ops))) events
    ∙ ap (λ (os : List Op). old.trail.events ++ queues_at (map place_of os)) behind in
    let syncs : Syncs drive who nth at old new = record {
      applied = λ early g on st is.
          subst (λ (x : Stocked). IsDone early g on st calls.Sync at old.stock x) (sym stock) (done early g on st is);
      asked = ops;
      ops = ap (λ (x : Stocked). x.layout.ops) stock ∙ d.ops;
      moves = record {
        drive = ap (λ (p : Parts _). p.drive) w.others;
        on = ap (λ (p : Parts _). p.on) w.others;
        kept = w.kept ∙ q.queues.kept ∙ kept;
        trail = w.trail;
      };
      wants = record {
        waiting = ap (λ (p : Parts _). p.queue.waiting) w.others;
        arrived = ap (λ (p : Parts _). p.queue.arrived) w.others;
        reads = ap (λ (p : Parts _). p.reads) w.others;
      };
      cached = ap (λ (p : Parts _). p.cached) w.others;
      events = w.events ∙ ap (λ (es : List Event). es ++ the_events.Syncs here ∷ synced_at here (waiting.ops (after_all es))) mid;
      acks = w.acks ∙ ap (λ (told : List Ack). told ++ acks_at (drive.commands old.drive) (synced_here here next.layout.ops)) (q.queues.acks ∙ acks)
          ∙ ap (λ (x : Stocked). old.trail.acks ++ acks_at (drive.commands old.drive) (synced_here here x.layout.ops)) (sym stock);
      none_due = w.none_due;
      places = subst (λ (x : Stocked). PlacesCall who nth at fates.Done (synced_reply x.layout.ops) old new) (sym stock)
          (record {
            history = w.places.history;
            replies = w.places.replies;
            marks = w.places.marks;
            calls = w.places.calls;
            sessions = w.places.sessions;
          });
    } in
    let end : result ≡ synced_answer here new.stock.layout.ops =
    w.result_is ∙ ap (λ (x : Stocked). synced_answer here x.layout.ops) (sym stock) in
    subst (λ (e : Submitted). IsSubmitted drive who nth at old new calls.Sync e) (sym end) (ops, made.syncs refl syncs)
