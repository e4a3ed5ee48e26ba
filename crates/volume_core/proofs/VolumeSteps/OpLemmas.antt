-- Ops that were done, or failed.
use Rattle.std.specs.Prelude.{ℕ, ◌≡◌, ◌==◌, Bool, true, false, cond, drop, List, [], ◌∷◌, ◌++◌, length, Option, Some, None, slice_get}
use Rattle.std.specs.List.{list_any}
use Rattle.std.proofs.Common.{refl, sym, ap, subst, ◌∙◌}
use Rattle.std.proofs.lemmas.List.{append_assoc}
use Rattle.tape_types.specs.declared.cartridges.Place.{Place}
use Rattle.session_script.specs.declared.logs.Ack.{Ack}
use Rattle.session_script.specs.declared.logs.Event.{Event}
use Rattle.session_script.specs.declared.logs.Event.TheVariants.{Worked}
use Rattle.head_queue.specs.EventLaws.Waiting as waiting
use Rattle.head_queue.specs.EventLaws.Waiting.{State, Waiter, waiting_op}
use Rattle.head_queue.specs.EventLaws.Trail.{after, after_all, after_op, without_first_op}
use Rattle.tape_layout.specs.declared.ops.Op.{Op}
use Rattle.tape_layout.specs.Ops.{is_flush, place_of}
use Rattle.held_volume.specs.Stocks.{Stocked}
use Rattle.event_journal.specs.Placements.{Listed}
use Rattle.event_journal.specs.Trails.{state}
use Rattle.volume_state.specs.StateLaws.Parts.{Parts}
use Rattle.volume_state.specs.StateLaws.Stepping.{acks_at, all_synced, on_done, settles_dp, synced_events}
use Rattle.volume_core.proofs.VolumeSteps.SyncLemmas.{after_more}
use Rattle.volume_core.specs.VolumeSteps.Moves.{AnswersSyncs, FinishesOp, IsFirstOp, SyncsWait, TakesOp, on_settled, settles}

-- ---- who waits once an op is done

syncs_without : (st : State) → (without_first_op st).syncs ≡ st.syncs
syncs_without st = by st.ended refl
  where
    by : (ended : List waiting.Op) → st.ended ≡ ended → (without_first_op st).syncs ≡ st.syncs
    by [] e = rw e refl
    by (op ∷ more) e = rw e refl

syncs_after : (op : Option waiting.Op) (st : State) → (after_op op st).syncs ≡ st.syncs
syncs_after None st = refl
syncs_after (Some op) st = syncs_without st

syncs_worked : (st : State) (place : Place) → (after st (Worked place None)).syncs ≡ st.syncs
syncs_worked st place = syncs_after (waiting_op st) st

-- the syncs that waited still wait
pub waits_worked : {D : Type 0} (place : Place) (flush : Bool) (old new : Parts D) → TakesOp place flush old new
    → SyncsWait (state old.trail) old.listed.replies → SyncsWait (state new.trail) new.listed.replies
waits_worked place flush old new t waits ticket there =
    let now : state new.trail ≡ after (state old.trail) (Worked place None) =
    ap after_all t.events ∙ after_more old.trail.events (Worked place None) in
    let same : (state new.trail).syncs ≡ (state old.trail).syncs =
    ap (λ (st : State). st.syncs) now ∙ syncs_worked (state old.trail) place in
    let told : slice_get old.listed.replies ticket ≡ Some None =
    waits ticket (subst (λ (syncs : List Waiter). list_any (λ (s : Waiter). s.ticket == ticket) syncs ≡ true) same there) in
    ap (λ (l : Listed). slice_get l.replies ticket) t.listed ∙ told

-- ---- an op that is done

on_as_done : (op : Op) (here : ℕ) (on : Option ℕ) → on_settled (settles (place_of op) (is_flush op)) here on ≡ on_done op here on
on_as_done op here (Some first) = by (settles (place_of op) (is_flush op))
  where
    by : (b : Bool) → on_settled b here (Some first) ≡ Some first
    by true = refl
    by false = refl
on_as_done op here None = by (settles (place_of op) (is_flush op))
  where
    by : (b : Bool) → on_settled b here None ≡ cond b (Some here) None
    by true = refl
    by false = refl

finishes : {D : Type 0} (commands : ℕ) (op : Op) (later : List Op) (tickets : List ℕ) (old mid new : Parts D)
    → old.stock.layout.ops ≡ op ∷ later → TakesOp (place_of op) (is_flush op) old mid → AnswersSyncs commands tickets mid new
    → FinishesOp commands op tickets old new
finishes commands op later tickets old mid new first t a =
    let s = a.answers in
    let ops : new.stock.layout.ops ≡ drop 1 old.stock.layout.ops =
    ap (λ (st : Stocked). st.layout.ops) s.stock ∙ ap (λ (st : Stocked). st.layout.ops) t.stock in
    record {
      drive = s.drive ∙ t.drive;
      answered = s.answered ∙ t.answered;
      done = record {
        first = first ∙ ap (λ (ops : List Op). op ∷ ops) (sym (ops ∙ ap (λ (ops : List Op). drop 1 ops) first));
        stock = s.stock ∙ t.stock ∙ ap (λ (ops : List Op). record old.stock {
          layout = record old.stock.layout {
            ops = ops;
            ip_on = cond (settles_dp op) true old.stock.layout.ip_on;
          };
        }) (sym ops);
        on = s.on ∙ t.on ∙ on_as_done op (length old.listed.history) old.on;
        events = s.events ∙ ap (λ (es : List Event). es ++ synced_events tickets) t.events
            ∙ append_assoc old.trail.events (Worked (place_of op) None ∷ []) (synced_events tickets);
        trail = a.trail;
        none_due = a.none_due;
        acks = s.acks ∙ ap (λ (told : List Ack). told ++ acks_at commands tickets) t.acks;
        kept = s.kept ∙ t.kept;
        listed = record {
          history = s.listed.history ∙ ap (λ (l : Listed). l.history) t.listed;
          marks = s.listed.marks ∙ ap (λ (l : Listed). l.marks) t.listed;
          calls = s.listed.calls ∙ ap (λ (l : Listed). l.calls) t.listed;
          sessions = s.listed.sessions ∙ ap (λ (l : Listed). l.sessions) t.listed;
        };
        replies = s.replies ∙ ap (λ (l : Listed). all_synced tickets l.replies) t.listed;
        queue = s.queue ∙ t.queue;
        reads = s.reads ∙ t.reads;
        cached = s.cached ∙ t.cached;
      };
    }

abbrev head_or : Op → List Op → Op
head_or d [] = d
head_or d (x ∷ xs) = x

-- an op of which only its place and its kind were known
pub finished : {D : Type 0} (commands : ℕ) (place : Place) (flush : Bool) (old mid new : Parts D) (tickets : List ℕ)
    → (is : IsFirstOp old place flush) → TakesOp place flush old mid → AnswersSyncs commands tickets mid new
    → (op : Op) (later : List Op) → old.stock.layout.ops ≡ op ∷ later → FinishesOp commands op tickets old new
finished commands place flush old mid new tickets is t a op later first =
    let both : is.op ∷ is.later ≡ op ∷ later = sym is.first ∙ first in
    let same : is.op ≡ op = ap (head_or op) both in
    let here : place ≡ place_of op = is.place_is ∙ ap place_of same in
    let kind : flush ≡ is_flush op = is.flush_is ∙ ap is_flush same in
    finishes commands op later tickets old mid new first
    (subst (λ (p : Place). TakesOp p (is_flush op) old mid) here (subst (λ (f : Bool). TakesOp place f old mid) kind t)) a
