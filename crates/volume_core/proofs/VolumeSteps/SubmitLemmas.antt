-- What a submission makes of the parts of a volume.
use Rattle.std.specs.Prelude.{ℕ, ◌≡◌, ◌≢◌, ◌<◌, true, List, [], ◌∷◌, ◌++◌, length, Option, Some, None}
use Rattle.std.specs.FinMap as fin
use Rattle.std.proofs.Common.{refl, sym, ap, subst, ◌∙◌}
use Rattle.extent_map.specs.Cells.{Tape}
use Rattle.file_tree.specs.Tree.{plain_of, whole}
use Rattle.plain_tree.specs.Calls.{answer, answer_unless, value_of}
use Rattle.plain_tree.specs.Refusals.{refusal_of}
use Rattle.plain_tree.specs.Tree.{Tree, facts_of}
use Rattle.plain_tree.specs.declared.nodes.Node.{Node}
use Rattle.plain_tree.specs.declared.calls.Refusal.{Refusal}
use Rattle.plain_tree.specs.declared.calls.Call.TheVariants.{Getx, Listing, Read, Stat}
use Rattle.space_laws.specs.Space.{nothing}
use Rattle.space_laws.specs.Standing.{Given, Standing, ask_of, ask_unless}
use Rattle.volume_state.specs.PlanLaws.Planned.{tape_on}
use Rattle.tape_types.specs.declared.moments.Moment.{Moment}
use Rattle.plain_tree.specs.declared.calls.Answer.{Answer}
use Rattle.plain_tree.specs.declared.calls.Answer.TheVariants as the_answers
use Rattle.plain_tree.specs.declared.calls.Call.{Call}
use Rattle.plain_tree.specs.declared.calls.Fate.{Fate}
use Rattle.plain_tree.specs.declared.calls.Fate.TheVariants as fates
use Rattle.plain_tree.specs.declared.calls.Placed.{Placed}
use Rattle.session_script.specs.declared.logs.Event.{Event}
use Rattle.session_script.specs.declared.logs.Event.TheVariants as the_events
use Rattle.session_script.specs.declared.logs.Reply.{Reply}
use Rattle.promises.specs.ServingPromise.Marks.{mark}
use Rattle.promises.specs.declared.serving_promise.marks.Mark.{Mark}
use Rattle.promises.specs.declared.serving_promise.marks.MarkKind.TheVariants as kinds
use Rattle.session_script.specs.declared.logs.Reply.TheVariants as the_replies
use Rattle.head_queue.specs.EventLaws.Trail.{IsTrail}
use Rattle.tape_drive.specs.declared.drive.Drive.{Ghosts}
use Rattle.tape_layout.specs.declared.ops.Op.{Op}
use Rattle.promises.specs.declared.serving_promise.answers.Submitted.{Submitted}
use Rattle.promises.specs.declared.serving_promise.answers.Submitted.TheVariants as submitted
use Rattle.held_volume.specs.Applied.{IsUnchanged}
use Rattle.held_volume.specs.Stocks.{Stocked}
use Rattle.volume_state.specs.StateLaws.Parts.{Parts}
use Rattle.volume_state.specs.StateLaws.Placing.{Answers, AsksNothing, IsAnswerFor, IsVoidFor, PlacesCall, PutsOff, UsesKept, Voids, marks_for, only_looks}
use Rattle.block_cache.specs.Kept.{Kept}
use Rattle.volume_core.specs.VolumeSteps.Asking.{CanAsk, Finishes, IsSubmitted, Reserves}
use Rattle.volume_state.specs.CallLaws.SubmitLaws as made

-- memory that is reserved before a call is placed doesn't count
placed_using : {D : Type 0} (who nth : ℕ) (at : Moment) (fate : Fate) (reply : Option Reply) (old mid new : Parts D) (cached : List Kept)
    → Reserves old mid → PlacesCall who nth at fate reply (record mid { cached = cached }) new → PlacesCall who nth at fate reply old new
placed_using who nth at fate reply old mid new cached r p = record {
  history = p.history
      ∙ ap (λ (h : List Placed). h ++ record { who = who; nth = nth; at = at; fate = fate } ∷ []) r.history;
  replies = p.replies ∙ ap (λ (rs : List (Option Reply)). rs ++ reply ∷ []) r.replies;
  marks = p.marks ∙ ap (λ ms. ms ++ marks_for who (length mid.listed.history) reply) r.marks
      ∙ ap (λ (h : List Placed). old.listed.marks ++ marks_for who (length h) reply) r.history;
  calls = p.calls ∙ r.calls;
  sessions = p.sessions ∙ r.sessions;
}

placed_over : {D : Type 0} (who nth : ℕ) (at : Moment) (fate : Fate) (reply : Option Reply) (old mid new : Parts D)
    → Reserves old mid → PlacesCall who nth at fate reply mid new → PlacesCall who nth at fate reply old new
placed_over who nth at fate reply old mid new r p = placed_using who nth at fate reply old mid new mid.cached r p

asks_nothing : {D : Type 0} (who nth : ℕ) (at : Moment) (fate : Fate) (reply : Reply) (result : Submitted) (old mid new : Parts D) (cached : List Kept)
    → Reserves old mid → Finishes who nth at fate reply result (record mid { cached = cached }) new → IsTrail old.trail.events → AsksNothing old new
asks_nothing who nth at fate reply result old mid new cached r f trail =
    let events : new.trail.events ≡ old.trail.events = ap (λ (p : Parts _). p.trail.events) f.others ∙ r.events in
    record {
      moves = record {
        drive = ap (λ (p : Parts _). p.drive) f.others ∙ r.drive;
        on = ap (λ (p : Parts _). p.on) f.others ∙ r.on;
        kept = ap (λ (p : Parts _). p.trail.kept) f.others ∙ r.kept;
        trail = subst (λ (es : List Event). IsTrail es) (sym events) trail;
      };
      wants = record {
        waiting = ap (λ (p : Parts _). p.queue.waiting) f.others ∙ r.waiting;
        arrived = ap (λ (p : Parts _). p.queue.arrived) f.others ∙ r.arrived;
        reads = ap (λ (p : Parts _). p.reads) f.others ∙ r.reads;
      };
      events = events;
      acks = ap (λ (p : Parts _). p.trail.acks) f.others ∙ r.acks;
    }

-- a call that is void
pub placed_void : {D : Type 0} (drive : Ghosts D) (who nth : ℕ) (call : Call) (at : Moment) (reply : Reply) (result : Submitted)
    (old mid new : Parts D) → IsTrail old.trail.events → IsVoidFor old.stock call at reply → Reserves old mid
    → Finishes who nth at fates.Void reply result mid new → IsSubmitted drive who nth at old new call result
placed_void drive who nth call at reply result old mid new trail told r f =
    let same : new.stock ≡ mid.stock = ap (λ (p : Parts _). p.stock) f.others in
    let voids : Voids who nth call at reply old new = record {
      void = told;
      stock = subst (λ (s : Stocked). IsUnchanged old.stock s) (sym same) r.stock;
      asks = asks_nothing who nth at fates.Void reply result old mid new mid.cached r f trail;
      cached = ap (λ (p : Parts _). p.cached) f.others ∙ r.cached;
      places = placed_over who nth at fates.Void (Some reply) old mid new r f.places;
    } in
    subst (λ (end : Submitted). IsSubmitted drive who nth at old new call end) (sym f.ready) ([], made.voids reply voids)

-- a call that is answered and leaves all as it was
pub placed_answered : {D : Type 0} (drive : Ghosts D) (who nth : ℕ) (call : Call) (at : Moment) (told : Answer) (result : Submitted)
    (old mid new : Parts D) (cached : List Kept) → IsTrail old.trail.events → IsAnswerFor old.stock old.cached call at told
    → UsesKept old.stock old.cached cached call
    → told ≢ the_answers.Synced → mid.stock ≡ old.stock → Reserves old mid
    → Finishes who nth at fates.Done (the_replies.Answer told) result (record mid { cached = cached }) new
    → IsSubmitted drive who nth at old new call result
placed_answered drive who nth call at told result old mid new cached trail is uses no_sync stock r f =
    let answers : Answers who nth call at told old new = record {
      told_is = is;
      uses = subst (λ (now : List Kept). UsesKept old.stock old.cached now call) (sym (ap (λ (p : Parts _). p.cached) f.others)) uses;
      no_sync = no_sync;
      stock = ap (λ (p : Parts _). p.stock) f.others ∙ stock;
      asks = asks_nothing who nth at fates.Done (the_replies.Answer told) result old mid new cached r f trail;
      places = placed_using who nth at fates.Done (Some (the_replies.Answer told)) old mid new cached r f.places;
    } in
    subst (λ (end : Submitted). IsSubmitted drive who nth at old new call end) (sym f.ready) ([], made.tells told answers)

-- where nothing was reserved
pub as_it_was : {D : Type 0} (p : Parts D) → Reserves p p
as_it_was p = record {
  drive = refl;
  stock = record { layout = refl; frame = refl; stands = λ tape g on st is. is };
  on = refl;
  events = refl;
  acks = refl;
  kept = refl;
  waiting = refl;
  arrived = refl;
  reads = refl;
  cached = refl;
  history = refl;
  replies = refl;
  marks = refl;
  calls = refl;
  sessions = refl;
}

-- ---- calls that look

nothing_asked : (r : Option Refusal) → ask_unless r nothing ≡ nothing
nothing_asked None = refl
nothing_asked (Some why) = refl

looks_ask : (g : Given) (st : Standing) (call : Call) (at : Moment) → only_looks call ≡ true → ask_of g st call at ≡ nothing
looks_ask g st (Listing path) at is = nothing_asked (refusal_of st.tree (Listing path))
looks_ask g st (Stat path) at is = nothing_asked (refusal_of st.tree (Stat path))
looks_ask g st (Getx path key) at is = nothing_asked (refusal_of st.tree (Getx path key))
looks_ask g st _ at is = cc

unsynced : (r : Option Refusal) (told : Answer) → told ≢ the_answers.Synced → answer_unless r told ≢ the_answers.Synced
unsynced None told isnt = isnt
unsynced (Some why) told isnt = λ is. cc

looks_unsynced : (t : Tree) (call : Call) → only_looks call ≡ true → answer t call ≢ the_answers.Synced
looks_unsynced t (Listing path) is = unsynced (refusal_of t (Listing path)) (value_of t (Listing path)) (λ is. cc)
looks_unsynced t (Getx path key) is = unsynced (refusal_of t (Getx path key)) (value_of t (Getx path key)) (λ is. cc)
looks_unsynced t (Stat path) is = unsynced (refusal_of t (Stat path)) (value_of t (Stat path)) (by (fin.get t.nodes path) refl)
  where
    by : (found : Option Node) → fin.get t.nodes path ≡ found → value_of t (Stat path) ≢ the_answers.Synced
    by None e = λ is. let off : value_of t (Stat path) ≡ the_answers.Done = rw e refl in let no_way : the_answers.Done ≡ the_answers.Synced = sym off ∙ is in cc
    by (Some node) e = λ is.
        let off : value_of t (Stat path) ≡ the_answers.Facts (facts_of node) = rw e refl in
        let no_way : the_answers.Facts (facts_of node) ≡ the_answers.Synced = sym off ∙ is in
        cc
looks_unsynced t _ is = cc

uses_nothing : (stock : Stocked) (cached : List Kept) (call : Call) → only_looks call ≡ true → UsesKept stock cached cached call
uses_nothing stock cached (Read path offset count) is = cc
uses_nothing stock cached _ is = refl

-- a call that only looks is submitted with its answer as reply
pub look_told : {D : Type 0} (drive : Ghosts D) (who nth : ℕ) (call : Call) (at : Moment) (told : Answer) (result : Submitted)
    (old new : Parts D) → CanAsk who old → only_looks call ≡ true
    → ((tape : Tape) → told ≡ answer (plain_of tape old.stock.tree) call)
    → Finishes who nth at fates.Done (the_replies.Answer told) result old new → IsSubmitted drive who nth at old new call result
look_told drive who nth call at told result old new can looks is f =
    placed_answered drive who nth call at told result old old new old.cached can.trail
    (λ items g on st plan stock.
    (λ may. is (tape_on items) ∙ ap (λ (t : Tree). answer t call) stock.plain, looks_ask g st call at looks))
    (uses_nothing old.stock old.cached call looks)
    (λ synced. looks_unsynced (plain_of whole old.stock.tree) call looks (sym (is whole) ∙ synced))
    refl (as_it_was old) f

-- ---- want of memory

-- a call without memory is submitted as void, after room was sought
pub no_memory : {D : Type 0} (drive : Ghosts D) (who nth : ℕ) (call : Call) (at : Moment) (result : Submitted)
    (old mid new : Parts D) → CanAsk who old → Reserves old mid
    → Finishes who nth at fates.Void the_replies.NoMemory result mid new → IsSubmitted drive who nth at old new call result
no_memory drive who nth call at result old mid new can r f =
    placed_void drive who nth call at the_replies.NoMemory result old mid new can.trail tt r f

-- a call without memory is submitted as void
pub no_memory_here : {D : Type 0} (drive : Ghosts D) (who nth : ℕ) (call : Call) (at : Moment) (result : Submitted)
    (old new : Parts D) → CanAsk who old
    → Finishes who nth at fates.Void the_replies.NoMemory result old new → IsSubmitted drive who nth at old new call result
no_memory_here drive who nth call at result old new can f = no_memory drive who nth call at result old old new can (as_it_was old) f

-- ---- memory

-- where only room was got, nothing else has changed
pub reserved : {D : Type 0} (old new : Parts D) → new.drive ≡ old.drive → new.stock ≡ old.stock → new.on ≡ old.on
    → new.trail.events ≡ old.trail.events → new.trail.acks ≡ old.trail.acks → new.trail.kept ≡ old.trail.kept
    → new.queue.waiting ≡ old.queue.waiting → new.queue.arrived ≡ old.queue.arrived → new.reads ≡ old.reads
    → new.listed.history ≡ old.listed.history → new.listed.replies ≡ old.listed.replies
    → new.listed.marks ≡ old.listed.marks → new.listed.calls ≡ old.listed.calls
    → new.listed.sessions ≡ old.listed.sessions → new.cached ≡ old.cached → Reserves old new
reserved old new drive stock on events acks kept waiting arrived reads history replies marks calls sessions cached = record {
  drive = drive;
  stock = subst (λ (s : Stocked). IsUnchanged old.stock s) (sym stock) (as_it_was old).stock;
  on = on;
  events = events;
  acks = acks;
  kept = kept;
  waiting = waiting;
  arrived = arrived;
  reads = reads;
  cached = cached;
  history = history;
  replies = replies;
  marks = marks;
  calls = calls;
  sessions = sessions;
}

-- ---- writes that are put off

-- a write is put off where more than 64 ops stand
pub puts_off : {D : Type 0} (who : ℕ) (old mid new : Parts D) → 64 < length old.stock.layout.ops → Reserves old mid
    → mid.stock ≡ old.stock → new ≡ record mid { trail = new.trail; listed = new.listed }
    → new.trail.events ≡ mid.trail.events ++ the_events.Drains who ∷ [] → new.trail.acks ≡ mid.trail.acks
    → new.trail.kept ≡ mid.trail.kept → IsTrail new.trail.events → new.listed.history ≡ mid.listed.history
    → new.listed.replies ≡ mid.listed.replies → new.listed.marks ≡ mid.listed.marks ++ mark who kinds.Begins ∷ []
    → new.listed.calls ≡ mid.listed.calls → new.listed.sessions ≡ mid.listed.sessions → PutsOff who old new
puts_off who old mid new many r stock others events acks kept trail history replies marks calls sessions = record {
  many = many;
  stock = ap (λ (p : Parts _). p.stock) others ∙ stock;
  moves = record {
    drive = ap (λ (p : Parts _). p.drive) others ∙ r.drive;
    on = ap (λ (p : Parts _). p.on) others ∙ r.on;
    kept = kept ∙ r.kept;
    trail = trail;
  };
  wants = record {
    waiting = ap (λ (p : Parts _). p.queue.waiting) others ∙ r.waiting;
    arrived = ap (λ (p : Parts _). p.queue.arrived) others ∙ r.arrived;
    reads = ap (λ (p : Parts _). p.reads) others ∙ r.reads;
  };
  cached = ap (λ (p : Parts _). p.cached) others ∙ r.cached;
  events = events ∙ ap (λ (es : List Event). es ++ the_events.Drains who ∷ []) r.events;
  acks = acks ∙ r.acks;
  history = history ∙ r.history;
  replies = replies ∙ r.replies;
  marks = marks ∙ ap (λ (ms : List Mark). ms ++ mark who kinds.Begins ∷ []) r.marks;
  calls = calls ∙ r.calls;
  sessions = sessions ∙ r.sessions;
}

-- ---- calls that are placed

-- a reply that is ready is no drain
pub ready_no_drain : (result : Submitted) (reply : Reply) → result ≡ submitted.Ready reply → result ≢ submitted.Drain
ready_no_drain result reply is drain = let clash : submitted.Ready reply ≡ submitted.Drain = sym is ∙ drain in cc

-- a ticket is no drain
pub waits_no_drain : (result : Submitted) (ticket : ℕ) → result ≡ submitted.Wait ticket → result ≢ submitted.Drain
waits_no_drain result ticket is drain = let clash : submitted.Wait ticket ≡ submitted.Drain = sym is ∙ drain in cc

-- the answer of a sync is no drain
pub synced_no_drain : (result : Submitted) (here : ℕ) (ops : List Op) → result ≡ made.synced_answer here ops
    → result ≢ submitted.Drain
synced_no_drain result here [] is drain =
    let clash : submitted.Ready (the_replies.Answer the_answers.Synced) ≡ submitted.Drain = sym is ∙ drain in cc
synced_no_drain result here (op ∷ later) is drain = let clash : submitted.Wait here ≡ submitted.Drain = sym is ∙ drain in cc
