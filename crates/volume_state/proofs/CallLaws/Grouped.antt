-- What the ops of a call make of those that stand, and of who waits.
use Rattle.std.proofs.Common.{◌≡◌, ℕ, ◌+◌, ◌≤◌, ◌||◌, ◌==◌, Bool, true, false, cond, List, [], ◌∷◌, ◌++◌, length, map, fold, refl, sym, ap, ◌∙◌, subst, append-nil, arith, length-append}
use Rattle.std.specs.List.{list_any}
use Rattle.std.proofs.lemmas.Bool.{eq-eqb}
use Rattle.std.proofs.lemmas.List.{length-map}
use Rattle.std.proofs.lemmas.List.Sums.{fold-append}
use Rattle.tape_types.specs.declared.cartridges.Part.TheVariants.{Dp}
use Rattle.tape_types.specs.declared.cartridges.Place.{Place}
use Rattle.session_script.specs.declared.logs.Event.{Event}
use Rattle.session_script.specs.declared.logs.Event.TheVariants as events
use Rattle.head_queue.specs.EventLaws.Trail.{after}
use Rattle.head_queue.specs.EventLaws.Waiting.{Request, State, Waiter, ops, put_at, with_flushes}
use Rattle.head_queue.specs.EventLaws.Waiting as waiting
use Rattle.tape_layout.specs.Admissions.{flush_first}
use Rattle.tape_layout.specs.Ops.{construct, place_of}
use Rattle.tape_layout.specs.declared.ops.Op.{Op}
use Rattle.space_laws.specs.Space.{Ask, Rules, Space, change, index, nothing, ops_of, store}
use Rattle.space_laws.specs.Space as space
use Rattle.promises.specs.ServingPromise.Served.{headed, is_waiting}
use Rattle.promises.specs.ServingPromise.Submits.{queues_at, synced_at}
use Rattle.promises.specs.CrashLaws.Laws.{AsksNoIndex}
use Rattle.promises.proofs.OrderLaws.Owned.{none_left}
use Rattle.event_journal.specs.Trails.{due_of, due_ticket}
use Rattle.promises.specs.GroupLaws.Groups.{IsGrouped}
use Rattle.promises.proofs.GroupLaws.GroupLemmas.{others_keep_groups, syncs_end_their_ops, syncs_of_nothing_end_none, writes_queue_their_ops}

-- these ops stand behind the others, and no request came or went
pub record IsAdmitted (asked : List Op) (next : Space) (old new : State) : Type 0 where
  pub standing : ops new ≡ ops old ++ map headed asked
  pub grouped : IsGrouped next new
  pub requests : new.requests ≡ old.requests
  pub arrived : new.arrived ≡ old.arrived

-- ---- a call that is no sync

-- and nobody waits for them that didn't before
pub record IsQueued (asked : List Op) (next : Space) (old new : State) : Type 0 where
  pub admitted : IsAdmitted asked next old new
  pub syncs : new.syncs ≡ old.syncs
  pub done : new.done ≡ old.done

-- the ops of a call without an index are queued, and no sync has ended them
pub queued_by : (v : Rules) (on : Bool) (s : Space) (st : State) (ask : Ask) → AsksNoIndex ask → IsGrouped s st
    → IsQueued (ops_of v on s ask) (space.after v on s ask) st (fold after st (queues_at (map place_of (ops_of v on s ask))))
queued_by v on s st nothing none grouped = record {
  admitted = record { standing = sym (append-nil (ops st)); grouped = others_keep_groups.asked_nothing v on s st grouped; requests = refl; arrived = refl };
  syncs = refl;
  done = refl;
}
queued_by v on s st change none grouped = record {
  admitted = record { standing = sym (append-nil (ops st)); grouped = others_keep_groups.changed v on s st grouped; requests = refl; arrived = refl };
  syncs = refl;
  done = refl;
}
queued_by v on s st (store wanted bytes) none grouped =
    let queued = writes_queue_their_ops.queued_are v on s st wanted bytes in
    record {
      admitted = record {
        standing = queued.standing;
        grouped = writes_queue_their_ops.grouped v on s st wanted bytes grouped;
        requests = queued.alike.requests;
        arrived = queued.alike.arrived;
      };
      syncs = queued.syncs;
      done = queued.alike.done;
    }
queued_by v on s st (index text) none grouped = absurd none

-- nobody waits for the ticket still, and no sync is due still
pub waiting_same : (old new : State) (ticket : ℕ) → new.requests ≡ old.requests → new.syncs ≡ old.syncs → is_waiting new ticket ≡ is_waiting old ticket
waiting_same old new ticket requests syncs =
    ap (λ (rs : List Request). list_any (λ r. r.ticket == ticket) rs || list_any (λ s. s.ticket == ticket) new.syncs) requests
    ∙ ap (λ (ss : List Waiter). list_any (λ r. r.ticket == ticket) old.requests || list_any (λ s. s.ticket == ticket) ss) syncs

-- where the count of ops done and the syncs are the same, so is the sync that is due
pub due_same : (old new : State) → new.done ≡ old.done → new.syncs ≡ old.syncs → due_ticket new ≡ due_ticket old
due_same old new done syncs = ap (λ (n : ℕ). due_of n new.syncs) done ∙ ap (due_of old.done) syncs

-- ---- a sync

ended_by : (v : Rules) (on : Bool) (s : Space) (st : State) (here : ℕ) (text : List ℕ) → IsGrouped s st
    → IsAdmitted (ops_of v on s (index text)) (space.after v on s (index text)) st
    (fold after st (queues_at (map place_of (ops_of v on s (index text))) ++ events.Syncs here ∷ []))
ended_by v on s st here text grouped =
    let ended = syncs_end_their_ops.ended v on s st here text grouped in
    record {
      standing = ended.standing;
      grouped = syncs_end_their_ops.grouped v on s st here text grouped;
      requests = ended.alike.requests;
      arrived = ended.alike.arrived;
    }

-- a sync waits for the ticket that began here
last_waits : (ticket : ℕ) (xs : List Waiter) (w : Waiter) → w.ticket == ticket ≡ true → list_any (λ (s : Waiter). s.ticket == ticket) (xs ++ w ∷ []) ≡ true
last_waits ticket [] w is = ap (λ (b : Bool). b || false) is
last_waits ticket (x ∷ xs) w is = ap (λ (b : Bool). x.ticket == ticket || b) (last_waits ticket xs w is) ∙ either (x.ticket == ticket)
  where
    either : (b : Bool) → b || true ≡ true
    either true = refl
    either false = refl

begun_waits : (old new : State) (here due : ℕ) → new.syncs ≡ old.syncs ++ record { ticket = here; due = due } ∷ [] → is_waiting new here ≡ true
begun_waits old new here due syncs =
    ap (λ (ss : List Waiter). list_any (λ r. r.ticket == here) new.requests || list_any (λ s. s.ticket == here) ss) syncs
    ∙ ap (λ (b : Bool). list_any (λ r. r.ticket == here) new.requests || b)
    (last_waits here old.syncs (record { ticket = here; due = due }) (same here))
    ∙ either (list_any (λ r. r.ticket == here) new.requests)
  where
    same : (n : ℕ) → n == n ≡ true
    same n = eq-eqb n n refl

    either : (b : Bool) → b || true ≡ true
    either true = refl
    either false = refl

-- where no op stands, the sync is answered at once
answered_by : (next : Space) (st : State) (here : ℕ) (standing : List waiting.Op) → IsGrouped next (after st (events.Syncs here))
    → IsAdmitted [] next st (after st (events.Syncs here))
    → IsAdmitted [] next st (fold after st (events.Syncs here ∷ synced_at here standing))
answered_by next st here [] grouped is = record {
  standing = others_keep_groups.standing (after st (events.Syncs here)) (events.Synced here) tt ∙ is.standing;
  grouped = others_keep_groups.grouped next (after st (events.Syncs here)) (events.Synced here) tt grouped;
  requests = is.requests;
  arrived = is.arrived;
}
answered_by next st here (op ∷ later) grouped is = is

unchanged_by : (s : Space) (st : State) (here : ℕ) (standing : List waiting.Op) → IsGrouped s st → s.changed ≡ false
    → IsAdmitted [] s st (fold after st (events.Syncs here ∷ synced_at here standing))
unchanged_by s st here standing grouped same =
    let ended = syncs_of_nothing_end_none.ended s st here grouped same in
    answered_by s st here standing (syncs_of_nothing_end_none.grouped s st here grouped same) (record {
      standing = ended.standing;
      grouped = syncs_of_nothing_end_none.grouped s st here grouped same;
      requests = ended.alike.requests;
      arrived = ended.alike.arrived;
    })

-- ---- the events of a sync

-- the events of a sync: its ops, itself, and its answer where nothing stands
abbrev pub sync_events : ℕ → State → List Op → List Event
sync_events here st asked =
    queues_at (map place_of asked) ++ events.Syncs here ∷ synced_at here (ops (fold after st (queues_at (map place_of asked))))

-- each op that is queued stands
pub queued_stand : (places : List Place) (st : State) → length (ops (fold after st (queues_at places))) ≡ length (ops st) + length places
queued_stand [] st = omega arith
queued_stand (p ∷ places) st = omega (arith, queued_stand places (after st (events.Queues p)), one_more st p)
  where
    one_more : (st : State) (p : Place) → length (ops (after st (events.Queues p))) ≡ length (ops st) + 1
    one_more st p = omega (
      arith,
      length-append st.ended (map put_at (st.group ++ p ∷ [])),
      length-append st.ended (map put_at st.group),
      length-map (st.group ++ p ∷ []) put_at,
      length-map st.group put_at,
      length-append st.group (p ∷ []),
    )

unanswered : (here : ℕ) (standing : List waiting.Op) → 1 ≤ length standing → synced_at here standing ≡ []
unanswered here [] some = absurd (omega (arith, some))
unanswered here (op ∷ later) some = refl

-- an index has ops
index_stands : (v : Rules) (on : Bool) (s : Space) (text : List ℕ) → 1 ≤ length (map place_of (ops_of v on s (index text)))
index_stands v on s text = by s.flush_due
  where
    by : (due : Bool) → 1 ≤ length (map place_of (flush_first due s.ends.ip ++ construct v.block_size Dp s.ends.dp text))
    by true = omega arith
    by false = omega arith

-- the ops of a sync are queued and ended by it
pub sync_by : (v : Rules) (on : Bool) (s : Space) (st : State) (here : ℕ) (text : List ℕ) → IsGrouped s st → (b : Bool) → s.changed ≡ b
    → IsAdmitted (ops_of v on s (cond b (index text) nothing)) (space.after v on s (cond b (index text) nothing)) st
    (fold after st (sync_events here st (ops_of v on s (cond b (index text) nothing))))
sync_by v on s st here text grouped false same = unchanged_by s st here (ops st) grouped same
sync_by v on s st here text grouped true same =
    subst (λ (l : List Event). IsAdmitted asked (space.after v on s (index text)) st (fold after st (queues_at (map place_of asked) ++ events.Syncs here ∷ l)))
    (sym (unanswered here (ops (fold after st (queues_at (map place_of asked)))) (omega (arith, queued_stand (map place_of asked) st, index_stands v on s text))))
    (ended_by v on s st here text grouped)
  where
    asked : List Op
    asked = ops_of v on s (index text)

-- once it is answered, nobody waits for it; and else it waits
module _ (st : State) (here : ℕ) (places : List Place) where
  -- a sync that is answered at once doesn't wait
  pub answered_rests : (new : State) → new ≡ fold after st (queues_at places ++ events.Syncs here ∷ events.Synced here ∷ []) → new.requests ≡ st.requests
      → is_waiting st here ≡ false → is_waiting new here ≡ false
  answered_rests new is requests rests =
      let whole : new ≡ after (after (fold after st (queues_at places)) (events.Syncs here)) (events.Synced here) =
      is ∙ fold-append after st (queues_at places) (events.Syncs here ∷ events.Synced here ∷ []) in
      ap (λ (rs : List Request). list_any (λ r. r.ticket == here) rs || list_any (λ s. s.ticket == here) new.syncs) requests
      ∙ ap (λ (s : State). list_any (λ r. r.ticket == here) st.requests || list_any (λ w. w.ticket == here) s.syncs) whole
      ∙ ap (λ (b : Bool). list_any (λ r. r.ticket == here) st.requests || b) (none_left here (after (fold after st (queues_at places)) (events.Syncs here)).syncs)
      ∙ left_only (list_any (λ r. r.ticket == here) st.requests) (list_any (λ s. s.ticket == here) st.syncs) rests
    where
      left_only : (a b : Bool) → a || b ≡ false → a || false ≡ false
      left_only true b e = e
      left_only false b e = refl

  -- a sync that isn't answered at once waits
  pub begun_there : (new : State) → new ≡ fold after st (queues_at places ++ events.Syncs here ∷ []) → is_waiting new here ≡ true
  begun_there new is =
      let whole : new ≡ after (fold after st (queues_at places)) (events.Syncs here) =
      is ∙ fold-append after st (queues_at places) (events.Syncs here ∷ []) in
      ap (λ (s : State). is_waiting s here) whole
      ∙ begun_waits (fold after st (queues_at places)) (after (fold after st (queues_at places)) (events.Syncs here)) here
      ((fold after st (queues_at places)).done
      + length ((fold after st (queues_at places)).ended ++ with_flushes (fold after st (queues_at places)).group)) refl
