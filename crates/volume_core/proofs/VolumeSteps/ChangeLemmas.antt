-- Calls that change the tree, and the ops that they queue.
use Rattle.std.specs.Prelude.{ℕ, ◌≡◌, ◌+◌, ◌-◌, ◌*◌, ◌≤◌, Bool, false, List, [], ◌∷◌, ◌++◌, drop, length, map, Option, Some, None, Result, Ok, Err, OnOk}
use Rattle.std.specs.Option.{unwrap_or}
use Rattle.std.proofs.Common.{inl, inr, refl, sym, ap, subst, ◌∙◌, arith}
use Rattle.tape_types.specs.declared.moments.Moment.{Moment}
use Rattle.extent_map.specs.Cells.{Tape}
use Rattle.plain_tree.specs.Calls.{answer_unless, call_of_change, value_of}
use Rattle.plain_tree.specs.Paths.{last_name}
use Rattle.plain_tree.specs.Refusals.{refusal_of}
use Rattle.plain_tree.specs.declared.calls.Answer.TheVariants as the_answers
use Rattle.plain_tree.specs.declared.calls.Call.{Call}
use Rattle.plain_tree.specs.declared.calls.Call.TheVariants.{Read, Write}
use Rattle.plain_tree.specs.declared.calls.Change.{Change}
use Rattle.plain_tree.specs.declared.calls.Change.TheVariants as changes
use Rattle.plain_tree.specs.declared.calls.Fate.TheVariants as fates
use Rattle.plain_tree.specs.declared.calls.Refusal.{Refusal}
use Rattle.tape_layout.specs.PlacementPolicy.Computed.{chooses_ip}
use Rattle.session_script.specs.declared.logs.Event.{Event}
use Rattle.session_script.specs.declared.logs.Reply.TheVariants as the_replies
use Rattle.file_tree.specs.Tree.{plain_of, whole}
use Rattle.tape_drive.specs.declared.drive.Drive.{Ghosts}
use Rattle.tape_layout.specs.Ops.{place_of}
use Rattle.tape_layout.specs.declared.errors.AdmitErr.{AdmitErr}
use Rattle.tape_layout.specs.declared.ops.Op.{Op}
use Rattle.space_laws.specs.Laws.{AsksPlainly, may_need_room}
use Rattle.space_laws.specs.Space.{Ask, ops_of}
use Rattle.space_laws.specs.Standing.{Given, Standing, ask_of, ask_unless, ask_unrefused, length_after, rules}
use Rattle.space_laws.proofs.PlainAsks.{ask_plainly}
use Rattle.promises.specs.ServingPromise.Replies.{may_wait}
use Rattle.promises.specs.ServingPromise.Submits.{queues_at}
use Rattle.promises.specs.declared.serving_promise.answers.Submitted.{Submitted}
use Rattle.held_volume.specs.Applied.{IsDone}
use Rattle.held_volume.specs.Syncs.{BringsAtMost}
use Rattle.held_volume.specs.Stocks.{IsStock, Stocked}
use Rattle.event_journal.specs.Trails.{Journaled}
use Rattle.volume_state.specs.PlanLaws.Planned.{tape_on}
use Rattle.volume_state.specs.StateLaws.Parts.{Parts}
use Rattle.block_cache.specs.Kept.{Kept}
use Rattle.volume_state.specs.StateLaws.Placing.{Changes, IsVoidFor, only_looks, UsesKept}
use Rattle.volume_core.specs.VolumeSteps.Asking.{CanAsk, Finishes, IsSubmitted, QueuesDone, Reserves, Stands, told_void}
use Rattle.volume_state.specs.CallLaws.SubmitLaws as made
use Rattle.volume_core.proofs.VolumeSteps.SubmitLemmas.{placed_answered, placed_void}

-- ---- what is asked

-- no change waits, or only looks at the tree
pub changes_act : (change : Change) → (may_wait (call_of_change change) ≡ false) × (only_looks (call_of_change change) ≡ false)
changes_act (changes.Mkdir path) = (refl, refl)
changes_act _ = (refl, refl)

-- ---- the room of a write

on_ok : {X E : Type 0} (r : Result X E) (A B : Type 0) → (A → B) → OnOk r A → OnOk r B
on_ok (Ok x) A B f h = f h
on_ok (Err e) A B f h = tt

brings_by : (g : Given) (on : Bool) (st : Standing) (r : Option Refusal) (path : List (List ℕ)) (offset : ℕ) (bytes : List ℕ) (at : Moment) (most spare : ℕ)
    → BringsAtMost (rules g) on st.space (length bytes) most → 2 * most ≤ spare
    → 2 * length (ops_of (rules g) on st.space (ask_unless r (ask_unrefused g st (Write path offset bytes) at))) ≤ spare
brings_by g on st (Some why) path offset bytes at most spare brings room = omega arith
brings_by g on st None path offset [] at most spare brings room = omega arith
brings_by g on st None path offset (b ∷ bytes) at most spare brings room =
    let wanted : Bool = chooses_ip g.mounted.index.policy (unwrap_or (last_name path) []) (length_after st path (offset + length (b ∷ bytes))) in
    omega (arith, brings.stores wanted (b ∷ bytes) refl, room)

-- so the ops of a write are few enough
abbrev pub HasRoomFor : Stocked → Call → ℕ → Type 0
HasRoomFor stock call spare = (tape : Tape) (g : Given) (on : Bool) (st : Standing) (at : Moment) → IsStock tape g on st stock
    → 2 * length (ops_of (rules g) on st.space (ask_of g st call at)) ≤ spare

-- for a write there is room where the events of its ops fit
pub write_room : {X E : Type 0} (r : Result X E) (stock : Stocked) (call : Call) (path : List (List ℕ)) (offset : ℕ) (bytes read : List ℕ)
    (most spare : ℕ) → call ≡ Write path offset bytes → read ≡ bytes
    → ((tape : Tape) (g : Given) (on : Bool) (st : Standing) → IsStock tape g on st stock
    → BringsAtMost (rules g) on st.space (length read) most)
    → OnOk r (2 * most ≤ spare) → OnOk r (HasRoomFor stock call spare)
write_room r stock call path offset bytes read most spare is same brings room =
    on_ok r (2 * most ≤ spare) (HasRoomFor stock call spare)
    (λ enough tape g on st at stands.
    subst (λ (c : Call). 2 * length (ops_of (rules g) on st.space (ask_of g st c at)) ≤ spare) (sym is)
    (brings_by g on st (refusal_of st.tree (Write path offset bytes)) path offset bytes at most spare
    (subst (λ (b : List ℕ). BringsAtMost (rules g) on st.space (length b) most) same (brings tape g on st stands)) enough)) room

none_brought : (g : Given) (on : Bool) (st : Standing) (ask : Ask) → AsksPlainly ask → length (ops_of (rules g) on st.space ask) ≡ 0
none_brought g on st ask (inl is) = ap (λ (a : Ask). length (ops_of (rules g) on st.space a)) is
none_brought g on st ask (inr is) = ap (λ (a : Ask). length (ops_of (rules g) on st.space a)) is

-- a call that may need no room brings no op
pub others_have_room : (stock : Stocked) (call : Call) (spare : ℕ) → may_need_room call ≡ false → HasRoomFor stock call spare
others_have_room stock call spare other tape g on st at stands =
    omega (arith, none_brought g on st (ask_of g st call at) (ask_plainly.asked g st call at other))

-- ---- what stands behind the ops that stood

after_front : {X : Type 0} (front more : List X) → drop (length front) (front ++ more) ≡ more
after_front [] more = refl
after_front (x ∷ front) more = after_front front more

-- the ops of a call stand behind those that stood
pub asked_behind : (early : Tape) (g : Given) (on : Bool) (st : Standing) (call : Call) (at : Moment) (old next : Stocked) (others : ℕ) → others ≡ length old.layout.ops
    → IsDone early g on st call at old next → drop others next.layout.ops ≡ ops_of (rules g) on st.space (ask_of g st call at)
asked_behind early g on st call at old next others is d =
    ap (λ n. drop n next.layout.ops) is ∙ ap (λ (os : List Op). drop (length old.layout.ops) os) d.ops
    ∙ after_front old.layout.ops (ops_of (rules g) on st.space (ask_of g st call at))

-- ---- the call

-- what the stock says of a call that is done
abbrev pub DoneAlways : Call → Moment → Stocked → Stocked → Type 0
DoneAlways call at old next = (early : Tape) (g : Given) (on : Bool) (st : Standing) → IsStock early g on st old
    → (refusal_of (plain_of whole old.tree) call ≡ None) × IsDone early g on st call at old next

-- there is room for their events
pub change_room : {D : Type 0} (p : Parts D) (s : Stands p) (call : Call) (at : Moment) (next : Stocked) (spare others : ℕ)
    → others ≡ length p.stock.layout.ops → DoneAlways call at p.stock next
    → ((tape : Tape) (g : Given) (on : Bool) (st : Standing) (at : Moment) → IsStock tape g on st p.stock
    → 2 * length (ops_of (rules g) on st.space (ask_of g st call at)) ≤ spare)
    → 2 * length (drop others next.layout.ops) ≤ spare
change_room p s call at next spare others is done room =
    let d : IsDone (tape_on s.planned) s.g s.on s.st call at p.stock next = (done (tape_on s.planned) s.g s.on s.st s.stock).1 in
    omega (
      arith,
      room (tape_on s.planned) s.g s.on s.st at s.stock,
      ap (λ (os : List Op). length os) (asked_behind (tape_on s.planned) s.g s.on s.st call at p.stock next others is d),
    )

-- a change is submitted whose ops are queued
pub change_done : {D : Type 0} (drive : Ghosts D) (who nth : ℕ) (call : Call) (at : Moment) (result : Submitted) (others : ℕ)
    (next : Stocked) (trail : Journaled) (old new : Parts D) (s : Stands old) → may_wait call ≡ false
    → only_looks call ≡ false → others ≡ length old.stock.layout.ops
    → DoneAlways call at old.stock next → trail.events ≡ old.trail.events → trail.acks ≡ old.trail.acks
    → trail.kept ≡ old.trail.kept
    → QueuesDone who nth at (map place_of (drop others next.layout.ops)) result (record old { stock = next; trail = trail }) new
    → IsSubmitted drive who nth at old new call result
change_done drive who nth call at result others next trail old new s no_wait no_look is done events acks kept q =
    let d : IsDone (tape_on s.planned) s.g s.on s.st call at old.stock next = (done (tape_on s.planned) s.g s.on s.st s.stock).1 in
    let asked : List Op = ops_of (rules s.g) s.on s.st.space (ask_of s.g s.st call at) in
    let behind : drop others next.layout.ops ≡ asked = asked_behind (tape_on s.planned) s.g s.on s.st call at old.stock next others is d in
    let stock : new.stock ≡ next = ap (λ (p : Parts _). p.stock) q.others in
    let changes : Changes who nth call at old new = record {
      no_wait = no_wait;
      no_look = no_look;
      applied = λ early g on st is.
          ((done early g on st is).0, subst (λ (x : Stocked). IsDone early g on st call at old.stock x) (sym stock) (done early g on st is).1);
      asked = asked;
      ops = ap (λ (x : Stocked). x.layout.ops) stock ∙ d.ops;
      moves = record {
        drive = ap (λ (p : Parts _). p.drive) q.others;
        on = ap (λ (p : Parts _). p.on) q.others;
        kept = q.queues.kept ∙ kept;
        trail = q.queues.trail;
      };
      wants = record {
        waiting = ap (λ (p : Parts _). p.queue.waiting) q.others;
        arrived = ap (λ (p : Parts _). p.queue.arrived) q.others;
        reads = ap (λ (p : Parts _). p.reads) q.others;
      };
      cached = ap (λ (p : Parts _). p.cached) q.others;
      events = q.queues.events ∙ ap (λ (es : List Event). es ++ queues_at (map place_of (drop others next.layout.ops))) events
          ∙ ap (λ (os : List Op). old.trail.events ++ queues_at (map place_of os)) behind;
      acks = q.queues.acks ∙ acks;
      places = record {
        history = q.places.history;
        replies = q.places.replies;
        marks = q.places.marks;
        calls = q.places.calls;
        sessions = q.places.sessions;
      };
    } in
    subst (λ (end : Submitted). IsSubmitted drive who nth at old new call end) (sym q.ready) (asked, made.changes changes)

-- ---- it is refused, or doesn't fit

uses_none : (stock : Stocked) (cached next : List Kept) (call : Call) → may_wait call ≡ false → next ≡ cached → UsesKept stock cached next call
uses_none stock cached next (Read path offset count) is same = cc
uses_none stock cached next _ is same = same

-- a call that the tree refuses is submitted with its refusal as reply
pub change_refused : {D : Type 0} (drive : Ghosts D) (who nth : ℕ) (call : Call) (at : Moment) (result : Submitted) (refusal : Refusal)
    (old mid new : Parts D) → CanAsk who old → may_wait call ≡ false
    → ((early : Tape) (g : Given) (on : Bool) (st : Standing) → IsStock early g on st old.stock
    → refusal_of st.tree call ≡ Some refusal)
    → mid.stock ≡ old.stock → Reserves old mid
    → Finishes who nth at fates.Done (the_replies.Answer (the_answers.Refused refusal)) result mid new
    → IsSubmitted drive who nth at old new call result
change_refused drive who nth call at result refusal old mid new can no_wait refused same r f =
    placed_answered drive who nth call at (the_answers.Refused refusal) result old mid new mid.cached can.trail
    (λ items g on st plan stock.
    let is : refusal_of st.tree call ≡ Some refusal = refused (tape_on items) g on st stock in (
      λ may. sym (ap (λ (o : Option Refusal). answer_unless o (value_of st.tree call)) is),
      ap (λ (o : Option Refusal). ask_unless o (ask_unrefused g st call at)) is,
    ))
    (uses_none old.stock old.cached mid.cached call no_wait r.cached) (λ e. cc) same r f

abbrev pub VoidAlways : Call → Moment → Stocked → AdmitErr → Type 0
VoidAlways call at stock error = IsVoidFor stock call at (told_void error)

-- a call that isn't admitted is submitted as void
pub change_void : {D : Type 0} (drive : Ghosts D) (who nth : ℕ) (call : Call) (at : Moment) (result : Submitted) (error : AdmitErr)
    (old mid new : Parts D) → CanAsk who old → VoidAlways call at old.stock error → Reserves old mid
    → Finishes who nth at fates.Void (told_void error) result mid new → IsSubmitted drive who nth at old new call result
change_void drive who nth call at result error old mid new can told r f =
    placed_void drive who nth call at (told_void error) result old mid new can.trail told r f
