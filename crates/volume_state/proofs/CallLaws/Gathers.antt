-- A step that read a block for a request.
use Rattle.std.specs.Prelude.{◌≡◌, ◌≢◌, ◌==◌, ◌&&◌, not, ℕ, Bool, true, false, List, [], ◌∷◌, ◌++◌, All, filter, length, map, Option, Some, None, IfSome, slice_get}
use Rattle.std.specs.List.{list_any}
use Rattle.std.proofs.Common.{inl, refl, sym, ap, subst, ◌∙◌, arith}
use Rattle.std.proofs.lemmas.Bool.{eqb-true, eq-eqb, or_from, or_left}
use Rattle.std.proofs.lemmas.List.{map-append}
use Rattle.std.proofs.lemmas.Option.{same_Some, none-some}
use Rattle.tape_types.specs.Cartridges.{next as next_place}
use Rattle.tape_types.specs.declared.cartridges.Cartridge.{Cartridge}
use Rattle.tape_types.specs.declared.cartridges.Item.{Item}
use Rattle.tape_types.specs.declared.cartridges.Item.TheVariants as item
use Rattle.tape_types.specs.declared.cartridges.Place.{Place}
use Rattle.tape_types.specs.declared.moments.Moment.{Moment}
use Rattle.tape_drive.specs.Commands.{IsRead, after_read, item_at}
use Rattle.tape_drive.specs.declared.drive.Drive.{Ghosts}
use Rattle.tape_drive.specs.declared.drive.Got.{Got}
use Rattle.extent_map.specs.Replies.{IsBlock, Places}
use Rattle.extent_map.specs.declared.pieces.Piece.{Piece}
use Rattle.plain_tree.specs.Calls.{answer}
use Rattle.plain_tree.specs.History.{call_at}
use Rattle.plain_tree.specs.declared.calls.Answer.{Answer}
use Rattle.plain_tree.specs.declared.calls.Answer.TheVariants as the_answers
use Rattle.plain_tree.specs.declared.calls.Call.{Call}
use Rattle.plain_tree.specs.declared.calls.Placed.{Placed}
use Rattle.session_script.specs.declared.logs.Event.{Event}
use Rattle.session_script.specs.declared.logs.Event.TheVariants.{Served}
use Rattle.session_script.specs.declared.logs.Reply.{Reply}
use Rattle.session_script.specs.declared.logs.Reply.TheVariants as the_replies
use Rattle.head_core.specs.declared.work.StepDone.TheVariants as ends
use Rattle.head_queue.specs.Waiting.{Waiting, request}
use Rattle.head_queue.specs.EventLaws.Trail.{after, asks}
use Rattle.head_queue.specs.EventLaws.Waiting.{Request, State, same_place}
use Rattle.promises.specs.ServingPromise.Acks.{is_synced}
use Rattle.promises.specs.ServingPromise.Served.{Fixed, given, is_waiting}
use Rattle.promises.specs.ServingPromise.Steps.{HeadIsRead}
use Rattle.promises.specs.OrderLaws.Kept.{seen}
use Rattle.promises.proofs.OrderLaws.Frames.{syncs_it, wants_it}
use Rattle.space_laws.specs.Standing.{Given, standing}
use Rattle.promises.specs.ReplyLaws.Within.{IsAnswerAt}
use Rattle.event_journal.specs.Trails.{state}
use Rattle.promises.specs.PromiseLaws.Kept.{CanRead, IsKept, Plan}
use Rattle.waiting_reads.specs.Gathering.{Gathering, IsGathering, read_answer}
use Rattle.volume_state.specs.PlanLaws.Planned.{Items, LieBelow, ends_in, tape_on}
use Rattle.volume_state.proofs.PlanLaws.Tells.{tapes_tell}
use Rattle.volume_state.specs.StateLaws.Parts.{Parts, view_of}
use Rattle.volume_state.specs.StateLaws.Stepping.{IsReadOn, ReadsBlock, replied}
use Rattle.volume_state.specs.StateLaws.Tied.{AreReading, IsKeptRightly, IsReading, IsTied, is_of, was_met}
use Rattle.promises.specs.ServingPromise.Cached.{KeepsBlock}
use Rattle.volume_state.proofs.CallLaws.Uses.{keeps_it, kept_right}
use Rattle.volume_state.specs.CallLaws.StepLaws.{Stepped}
use Rattle.volume_state.proofs.CallLaws.Answered.{Brings, none_brought, one_brought, one_came, one_kept, told_count}
use Rattle.volume_state.proofs.CallLaws.Blocks.{all_met, left_for, met_now, owned_alike}
use Rattle.volume_state.proofs.CallLaws.CanLaw.{asked_are, stands, unanswered}
use Rattle.volume_state.proofs.CallLaws.Misses.{no_syncs}
use Rattle.volume_state.proofs.CallLaws.Once.{Once, asked_once, taken_out}
use Rattle.volume_state.proofs.CallLaws.Serves.{Shows, others_wait, serves}
use Rattle.volume_state.proofs.CallLaws.Splits.{all_mid, any_mid}
use Rattle.volume_state.proofs.CallLaws.Taken.{reads_with, reads_without}

-- ---- small facts

not_yet : (reply : Reply) → Some None ≡ Some (Some reply) → ⊥
not_yet reply e = cc

if_some : (o : Option Cartridge) (P : Cartridge → Type 0) → ((c : Cartridge) → o ≡ Some c → P c) → IfSome o P
if_some None P h = tt
if_some (Some c) P h = h c refl

of_some : (o : Option Cartridge) (P : Cartridge → Type 0) (c : Cartridge) → o ≡ Some c → IfSome o P → P c
of_some o P c e h = subst (λ (x : Option Cartridge). IfSome x P) e h

-- an answer that isn't that of a sync
unsynced : (a : Answer) → a ≢ the_answers.Synced → is_synced (Some (the_replies.Answer a)) ≡ false
unsynced the_answers.Synced h = absurd (h refl)
unsynced a h = refl

behind_by : (place : Place) (head : Option Place) (got : Got) (block : List ℕ) (o : Option Item)
    → head ≡ Some (after_read got place) → IsRead o got block
    → IfSome o (λ x. x ≢ item.Torn → head ≡ Some (next_place place))
behind_by place head got block None is read = tt
behind_by place head got block (Some (item.Block bytes)) is read = λ h. is ∙ ap (λ g. Some (after_read g place)) read.0
behind_by place head got block (Some item.Mark) is read = λ h. is ∙ ap (λ g. Some (after_read g place)) read.0
behind_by place head got block (Some item.Torn) is read = λ h. absurd (h refl)

module _ {D : Type 0} (drive : Ghosts D) (fixed : Fixed D) (plan : Plan drive fixed) (planned : Items) (next_at : Option Moment)
    (old new : Parts D) (ticket : ℕ) (place : Place) (got : Got) (block : List ℕ) (kept : IsKept drive fixed plan (view_of fixed next_at old))
    (tied : IsTied drive fixed planned old) (did : ReadsBlock drive ticket place got block old new) where
  abbrev st : State
  st = state old.trail

  abbrev e : Event
  e = Served ticket place None

  abbrev left : State
  left = after st e

  abbrev g : Given
  g = given (view_of fixed next_at old) (seen drive fixed.first)

  abbrev one : Gathering
  one = did.taken.read.one

  waited : slice_get old.listed.replies ticket ≡ Some None
  waited = unanswered drive fixed plan planned next_at old kept tied ticket place did.taken.request

  asked_so : st.requests ≡ map request did.taken.request.front ++ request did.taken.request.one ∷ map request did.taken.request.behind
  asked_so = asked_are drive fixed plan planned next_at old kept tied ticket place did.taken.request

  wanted : list_any (wants_it ticket) st.requests ≡ true
  wanted = ap (list_any (wants_it ticket)) asked_so
      ∙ any_mid (wants_it ticket) (map request did.taken.request.front) (request did.taken.request.one) (map request did.taken.request.behind) (eq-eqb did.taken.request.one.owner ticket did.taken.request.owner_is)

  passes : (r : Request) → (r.ticket == ticket) ≡ false → not (asks ticket place r) ≡ true
  passes r other = ap (λ b. not (b && same_place r.place place)) other

  queue : map request new.queue.waiting ≡ left.requests
  queue =
      let front = map request did.taken.request.front in
      let behind = map request did.taken.request.behind in
      let r = request did.taken.request.one in
      ap (map request) did.taken.queue ∙ map-append request did.taken.request.front did.taken.request.behind
      ∙ sym (taken_out front r behind (subst Once asked_so (asked_once old.trail.events kept.order.orderly.trail)))
      ∙ ap (λ t. filter (λ (x : Request). not (asks t r.place x)) (front ++ r ∷ behind)) did.taken.request.owner_is
      ∙ ap (λ p. filter (λ (x : Request). not (asks ticket p x)) (front ++ r ∷ behind)) did.taken.request.place_is
      ∙ ap (left_for ticket place) (sym asked_so)

  still : list_any (is_of ticket) left.requests ≡ list_any (λ (w : Waiting). w.owner == ticket) new.queue.waiting
  still = ap (list_any (is_of ticket)) (sym queue) ∙ owned_alike ticket new.queue.waiting

  -- ---- the block

  reading : IsReading g old.on old.listed.history planned (drive.held fixed.first) st one
  reading = all_mid (IsReading g old.on old.listed.history planned (drive.held fixed.first) st) did.taken.read.front one did.taken.read.behind
      (subst (All (IsReading g old.on old.listed.history planned (drive.held fixed.first) st)) did.taken.read.stands.parts tied.reads.each)

  block_is : (c : Cartridge) → drive.held fixed.first ≡ Some c → IsBlock (tape_on planned) place block
  block_is c told = by (drive.held old.drive) refl
    where
      by : (o : Option Cartridge) → drive.held old.drive ≡ o → IsBlock (tape_on planned) place block
      by None is = absurd (none-some c (sym (tied.told is) ∙ told))
      by (Some h) is = tapes_tell.found planned old.stock.layout.ops place got block h (tied.way h is)
          (stands drive fixed plan planned next_at old kept tied ticket place did.taken.request) (did.found h is)

  -- the read has one block more
  gathers : (c : Cartridge) → drive.held fixed.first ≡ Some c
      → IsGathering (tape_on planned) (was_met left ticket) did.taken.next
  gathers c told =
      subst (λ (met : Places). IsGathering (tape_on planned) met did.taken.next) (met_now st.requests ticket place)
      (did.taken.filled.filled (tape_on planned) (was_met st ticket) (block_is c told)
      (subst (λ t. IsGathering (tape_on planned) (was_met st t) one) did.taken.read.stands.ticket_is
      (of_some (drive.held fixed.first) (λ c. IsGathering (tape_on planned) (was_met st one.ticket) one) c told reading.gathering)))

  its : did.taken.next.ticket ≡ ticket
  its = did.taken.filled.ticket ∙ did.taken.read.stands.ticket_is

  -- ---- whether another block is still to come

  head : HeadIsRead (seen drive old.drive) e (drive.head new.drive)
  head = if_some (drive.held old.drive) (λ c. IfSome (item_at place c) (λ x. x ≢ item.Torn → drive.head new.drive ≡ Some (next_place place)))
      (λ c held. behind_by place (drive.head new.drive) got block (item_at place c) did.step.made.head (did.found c held))

  others : (k : ℕ) → (k == ticket) ≡ false → is_waiting left k ≡ is_waiting st k
  others k other = others_wait st ticket place None (λ r. not (asks ticket place r)) passes refl k other

  old_reads : AreReading g old.on old.listed.history planned (drive.held fixed.first) old.stock.layout.ops st (did.taken.read.front ++ one ∷ did.taken.read.behind)
  old_reads = subst (λ (l : List Gathering). AreReading g old.on old.listed.history planned (drive.held fixed.first) old.stock.layout.ops st l) did.taken.read.stands.parts tied.reads

  keeps_block : KeepsBlock (drive.held old.drive) e old.cached new.cached
  keeps_block = keeps_it (drive.held old.drive) ticket place got block old.cached new.cached did.found did.taken.cached

  cached : All (IsKeptRightly planned old.stock.layout.ops (drive.held fixed.first)) new.cached
  cached = kept_right planned old.stock.layout.ops (drive.held old.drive) (drive.held fixed.first) place got block old.cached new.cached
      (stands drive fixed plan planned next_at old kept tied ticket place did.taken.request) tied.way did.found tied.told did.taken.cached tied.cached

  -- another one is
  module _ (more : list_any (is_of ticket) left.requests ≡ true) (on : IsReadOn true ticket did.taken.read.front did.taken.read.behind did.taken.next new.reads old.listed.replies new.listed.replies) where
    waits_on : (k : ℕ) → is_waiting st k ≡ true → is_waiting left k ≡ true
    waits_on k waits = by (k == ticket) refl
      where
        by : (b : Bool) → (k == ticket) ≡ b → is_waiting left k ≡ true
        by true same = subst (λ n. is_waiting left n ≡ true) (sym (eqb-true k ticket same)) (or_left (list_any (is_of ticket) left.requests) (list_any (syncs_it ticket) left.syncs) more)
        by false other = others k other ∙ waits

    next_reads : IsReading g old.on old.listed.history planned (drive.held fixed.first) left did.taken.next
    next_reads = record {
      placed = reading.placed;
      placed_is = ap (slice_get old.listed.history) did.taken.filled.ticket ∙ reading.placed_is;
      call = reading.call;
      call_is = reading.call_is;
      answers = ap (λ t. answer (standing g old.on old.listed.history t).tree reading.call) did.taken.filled.ticket
          ∙ reading.answers
          ∙ ap (read_answer (tape_on planned)) (sym did.taken.filled.pieces);
      below = subst (λ (pieces : List Piece). LieBelow (ends_in planned) pieces) (sym did.taken.filled.pieces) reading.below;
      gathering = if_some (drive.held fixed.first) (λ c. IsGathering (tape_on planned) (was_met left did.taken.next.ticket) did.taken.next)
          (λ c told. subst (λ t. IsGathering (tape_on planned) (was_met left t) did.taken.next) (sym its) (gathers c told));
      asked = subst (λ t. list_any (is_of t) left.requests ≡ true) (sym its) more;
    }

    shows_more : Shows drive fixed plan planned next_at old new ticket place None (ends.Read got) kept tied did.step did.taken.only did.taken.events
    shows_more = record {
      head = head;
      count = ap length on.1;
      keeps = λ k reply is. ap (λ l. slice_get l k) on.1 ∙ is;
      brought = λ k reply was is. none_brought st (e ∷ []) old.listed.replies kept.order.orderly.waiting waits_on k reply was (sym (ap (λ l. slice_get l k) on.1) ∙ is);
      came = λ can k p call reply at is was there. absurd (not_yet reply (sym was ∙ sym (ap (λ l. slice_get l k) on.1) ∙ there));
      rises = λ k d less. absurd (omega (arith, less));
      queue = queue;
      reads = subst (λ (l : List Gathering). AreReading g old.on old.listed.history planned (drive.held fixed.first) old.stock.layout.ops left l) (sym on.0)
          (reads_with g old.on old.listed.history planned (drive.held fixed.first) old.stock.layout.ops st left ticket (λ r. not (asks ticket place r)) passes refl
          did.taken.read.front one did.taken.read.behind did.taken.read.stands.ticket_is did.taken.read.stands.others old_reads did.taken.next did.taken.filled.ticket next_reads);
      keeps_block = keeps_block;
      cached = cached;
    }

  -- it was the last
  module _ (gone : list_any (is_of ticket) left.requests ≡ false) (on : IsReadOn false ticket did.taken.read.front did.taken.read.behind did.taken.next new.reads old.listed.replies new.listed.replies) where
    abbrev gives : Answer
    gives = on.1.0

    told_are : new.listed.replies ≡ replied ticket (the_replies.Answer gives) old.listed.replies
    told_are = on.1.1

    brings : Brings st (e ∷ []) old.listed.replies ticket (the_replies.Answer gives)
    brings = record {
      waited = waited;
      gives = record {
        waits = or_from (list_any (is_of ticket) left.requests) (list_any (syncs_it ticket) left.syncs) gone
            (no_syncs (list_any (wants_it ticket) st.requests) (list_any (syncs_it ticket) st.syncs) (kept.order.apart ticket) wanted);
        fault = refl;
        synced = unsynced gives on.1.2.0;
      };
      others = others;
    }

    -- the answer is the tree's
    came : CanRead drive fixed → (k : ℕ) (p : Placed) (call : Call) (reply : Reply)
        → slice_get old.listed.history k ≡ Some p → call_at g.calls p ≡ Some call
        → slice_get old.listed.replies k ≡ Some None → slice_get new.listed.replies k ≡ Some (Some reply)
        → IsAnswerAt g old.on old.listed.history (old.trail.events ++ e ∷ []) k call reply
    came can k p call reply at is was there =
        let c = one_came old.listed.replies ticket (the_replies.Answer gives) k reply waited was (sym (ap (λ l. slice_get l k) told_are) ∙ there) in
        let same : k ≡ one.ticket = c.0 ∙ sym did.taken.read.stands.ticket_is in
        let placed : reading.placed ≡ p = same_Some reading.placed p (sym reading.placed_is ∙ ap (slice_get old.listed.history) (sym same) ∙ at) in
        let calls : reading.call ≡ call = same_Some reading.call call (sym reading.call_is ∙ ap (call_at g.calls) placed ∙ is) in
        let read : gives ≡ read_answer (tape_on planned) did.taken.next.pieces =
        on.1.2.1 (tape_on planned) (was_met left ticket) (gathers can.held can.told) (λ q h. all_met left.requests ticket q gone) in
        let tree : answer (standing g old.on old.listed.history k).tree call ≡ read_answer (tape_on planned) did.taken.next.pieces =
        ap (λ n. answer (standing g old.on old.listed.history n).tree call) same
        ∙ ap (answer (standing g old.on old.listed.history one.ticket).tree) (sym calls) ∙ reading.answers
        ∙ ap (read_answer (tape_on planned)) (sym did.taken.filled.pieces) in
        inl (sym c.1 ∙ ap the_replies.Answer (read ∙ sym tree))

    shows_last : Shows drive fixed plan planned next_at old new ticket place None (ends.Read got) kept tied did.step did.taken.only did.taken.events
    shows_last = record {
      head = head;
      count = ap length told_are ∙ told_count old.listed.replies ticket (the_replies.Answer gives);
      keeps = λ k reply is. ap (λ l. slice_get l k) told_are
          ∙ one_kept st old.listed.replies ticket (the_replies.Answer gives) waited k reply is;
      brought = λ k reply was is. one_brought st (e ∷ []) old.listed.replies ticket (the_replies.Answer gives) kept.order.orderly.waiting brings k reply was
          (sym (ap (λ l. slice_get l k) told_are) ∙ is);
      came = came;
      rises = λ k d less. absurd (omega (arith, less));
      queue = queue;
      reads = subst (λ (l : List Gathering). AreReading g old.on old.listed.history planned (drive.held fixed.first) old.stock.layout.ops left l) (sym on.0)
          (reads_without g old.on old.listed.history planned (drive.held fixed.first) old.stock.layout.ops st left ticket (λ r. not (asks ticket place r)) passes refl
          did.taken.read.front one did.taken.read.behind did.taken.read.stands.ticket_is did.taken.read.stands.others old_reads gone);
      keeps_block = keeps_block;
      cached = cached;
    }

  by_more : (b : Bool) → list_any (λ (w : Waiting). w.owner == ticket) new.queue.waiting ≡ b
      → IsReadOn b ticket did.taken.read.front did.taken.read.behind did.taken.next new.reads old.listed.replies new.listed.replies
      → Shows drive fixed plan planned next_at old new ticket place None (ends.Read got) kept tied did.step did.taken.only did.taken.events
  by_more true is on = shows_more (still ∙ is) on
  by_more false is on = shows_last (still ∙ is) on

  -- a step that read a block shows all that is asked, and leaves the volume tied
  pub reads : Stepped drive fixed (view_of fixed next_at old) (view_of fixed next_at new) (e ∷ []) × IsTied drive fixed planned new
  reads = serves drive fixed plan planned next_at old new ticket place None (ends.Read got) kept tied did.step did.taken.only did.taken.events
      (by_more (list_any (λ (w : Waiting). w.owner == ticket) new.queue.waiting) refl did.taken.reads)
