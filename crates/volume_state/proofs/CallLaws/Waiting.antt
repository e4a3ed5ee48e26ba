-- A read that waits for blocks.
use Rattle.std.proofs.Common.{◌≡◌, ℕ, ◌≤◌, not, Bool, true, false, List, [], ◌∷◌, ◌++◌, length, map, Option, Some, None, append-nil, length-append, refl, sym, ap, subst, ◌∙◌, inl, arith}
use Rattle.std.specs.Prelude.{All, Contains, IfSome, filter_map, fold, slice_index_or, ◌==◌, ◌||◌}
use Rattle.std.specs.List.{list_any}
use Rattle.std.proofs.lemmas.Bool.{false_from_ne_true}
use Rattle.std.proofs.lemmas.List.Folds.{list_any-append}
use Rattle.std.proofs.lemmas.Option.{same_Some}
use Rattle.tape_types.specs.declared.cartridges.Place.{Place}
use Rattle.tape_types.specs.declared.moments.Moment.{Moment}
use Rattle.tape_drive.specs.declared.drive.Drive.{Ghosts}
use Rattle.plain_tree.specs.History.{call_at}
use Rattle.plain_tree.specs.Tree.{Tree}
use Rattle.plain_tree.specs.Refusals.{refusal_of}
use Rattle.plain_tree.specs.declared.calls.Call.{Call}
use Rattle.plain_tree.specs.declared.calls.Call.TheVariants as calls
use Rattle.plain_tree.specs.declared.calls.Fate.TheVariants as fates
use Rattle.plain_tree.specs.declared.calls.Placed.{Placed}
use Rattle.session_script.specs.declared.logs.Event.{Event}
use Rattle.extent_map.specs.Replies.{distinct, has_place, places_in}
use Rattle.head_queue.specs.EventLaws.Trail.{after_all, puts_at}
use Rattle.head_queue.specs.EventLaws.Trail.{after as next_state}
use Rattle.head_queue.specs.EventLaws.Waiting.{State, ops, same_place}
use Rattle.tape_layout.specs.declared.ops.Op.{Op}
use Rattle.tape_layout.specs.Ops.{place_of}
use Rattle.space_laws.specs.Space.{Ask, is_over, ops_of}
use Rattle.space_laws.specs.Standing.{Given, Standing, ask_of, rules, uid_at}
use Rattle.promises.specs.ServingPromise.Acks.{synced_ticket}
use Rattle.promises.specs.ServingPromise.Served.{Fixed, View, headed, is_waiting}
use Rattle.promises.specs.ServingPromise.Submits as model
use Rattle.promises.specs.ServingPromise.Submits.{AsksUnlessVoid, AreOfSubmit, acks_for, blocks_in, call_of, is_put_off, passes, stored_at}
use Rattle.promises.specs.ServingPromise.Cached.{wanted}
use Rattle.promises.proofs.ServingPromise.CacheLaws.{asks_passing, used_all_all}
use Rattle.block_cache.specs.Kept.{is_cached, used_all}
use Rattle.tape_types.specs.declared.cartridges.Cartridge.{Cartridge}
use Rattle.promises.proofs.ReplyLaws.Distinct.{in_distinct}
use Rattle.waiting_reads.specs.Gathering.{IsGathering}
use Rattle.promises.specs.declared.serving_promise.answers.Submitted.TheVariants as submitted
use Rattle.promises.specs.OrderLaws.Kept.{seen}
use Rattle.promises.specs.ReplyLaws.Sides.{PlacesTruly, ops_here}
use Rattle.promises.proofs.ReplyLaws.AskSubmits.{queue_their_ops}
use Rattle.promises.proofs.ReplyLaws.Lists.{next_same}
use Rattle.promises.proofs.ReplyLaws.Places.{admits}
use Rattle.promises.specs.PromiseLaws.Kept.{Plan, SubmitsRightly}
use Rattle.held_volume.specs.Stocks.{IsStock, Stocked}
use Rattle.event_journal.specs.Trails.{due_ticket, state}
use Rattle.volume_state.specs.PlanLaws.Planned.{IsDoneAt, Items, ends_in, tape_on, with_ops}
use Rattle.promises.proofs.CrashLaws.Submitted.{state_after}
use Rattle.promises.specs.GroupLaws.Groups.{requests_for}
use Rattle.volume_state.specs.StateLaws.Parts.{Parts, view_of}
use Rattle.volume_state.specs.StateLaws.Placing.{Waits, found_of, is_held, wanted_of}
use Rattle.volume_state.specs.StateLaws.Tied.{AreReading, FilesStandIn, IsKeptRightly, IsTied, is_of}
use Rattle.volume_state.specs.CallLaws.SubmitLaws.{IsSubmission, Shown}
use Rattle.volume_state.proofs.CallLaws.HeldReads.{free_passes}
use Rattle.volume_state.proofs.CallLaws.Uses.{all_left, asked_is, found_is, wanted_unheld}
use Rattle.volume_state.proofs.CallLaws.Placed.{after_nothing, given_in, on_after, on_in, reached_later, reads_to, stands_in, tied_still}
use Rattle.volume_state.proofs.CallLaws.ReadBlocks.{all_below, blocks_stand, stored_list}
use Rattle.volume_state.proofs.CallLaws.Rightly.{adds_by, follows_by}
use Rattle.volume_state.proofs.CallLaws.Told.{may_use}
use Rattle.volume_state.proofs.CallLaws.Voided.{read_asks}
use Rattle.volume_state.proofs.CallLaws.Wanting.{asks_it, kept_by, reads_more, requests_are, wants_of}

-- ---- the events of a read

wanted_are : (here : ℕ) (places : List Place) → filter_map wanted (wants_of here places) ≡ places
wanted_are here [] = refl
wanted_are here (place ∷ places) = ap (λ ps. place ∷ ps) (wanted_are here places)

no_acks : (here : ℕ) (places : List Place) → filter_map synced_ticket (wants_of here places) ≡ []
no_acks here [] = refl
no_acks here (place ∷ places) = no_acks here places

read_isnt_sync : (path : List (List ℕ)) (offset count : ℕ) → calls.Read path offset count ≡ calls.Sync → ⊥
read_isnt_sync path offset count e = cc

none_some : (bytes : List ℕ) → None ≡ Some bytes → ⊥
none_some bytes e = cc

waits_too : (st : State) (here : ℕ) → list_any (is_of here) st.requests ≡ true → is_waiting st here ≡ true
waits_too st here asked = ap (λ (b : Bool). b || list_any (λ s. s.ticket == here) st.syncs) asked

module _ {D : Type 0} (drive : Ghosts D) (fixed : Fixed D) (plan : Plan drive fixed) (planned : Items)
    (before after : Option Moment) (who nth : ℕ) (path : List (List ℕ)) (offset count : ℕ) (at : Moment) (old new : Parts D)
    (s : IsSubmission drive fixed plan planned before after who nth (calls.Read path offset count) at (submitted.Wait (length old.listed.history)) old new)
    (w : Waits who nth path offset count at old new) where
  abbrev v : View D
  v = view_of fixed before old

  abbrev here : ℕ
  here = length old.listed.history

  abbrev call : Call
  call = calls.Read path offset count

  abbrev added : List Event
  added = wants_of here w.wanted

  abbrev placed : Placed
  placed = record { who = who; nth = nth; at = at; fate = fates.Done }

  abbrev g : Given
  g = given_in drive fixed old

  abbrev st : Standing
  st = stands_in drive fixed old

  abbrev blocks : List Place
  blocks = blocks_in (st.files (uid_at st.tree.nodes path)) offset count

  ops_are : new.stock.layout.ops ≡ old.stock.layout.ops
  ops_are = ap (λ (k : Stocked). k.layout.ops) w.stock

  state_is : state new.trail ≡ fold next_state (state old.trail) added
  state_is = state_after old.trail.events new.trail.events added w.events

  requests_new : (state new.trail).requests ≡ (state old.trail).requests ++ requests_for here (state old.trail).arrived w.wanted
  requests_new = ap (λ (x : State). x.requests) state_is ∙ requests_are here w.wanted (state old.trail)

  pieces_are : filter_map stored_at w.read.pieces ≡ blocks
  pieces_are = (w.pieces (tape_on planned) g (on_in drive fixed old) st s.tied.stock).0

  places_are : places_in w.read.pieces ≡ distinct blocks
  places_are = ap distinct (stored_list w.read.pieces ∙ pieces_are)

  wanted_is : w.wanted ≡ wanted_of old.stock.layout.ops old.cached (distinct blocks)
  wanted_is = w.wanted_is ∙ ap (wanted_of old.stock.layout.ops old.cached) places_are

  used_are : new.cached ≡ used_all old.cached (found_of old.stock.layout.ops old.cached (distinct blocks))
  used_are = w.uses ∙ ap (λ (places : List Place). used_all old.cached (found_of old.stock.layout.ops old.cached places)) places_are

  passed : passes (refusal_of st.tree call) ≡ true
  passed = ap (λ (t : Tree). passes (refusal_of t call)) (sym s.tied.stock.plain) ∙ free_passes (tape_on planned) old.stock.tree path offset count w.free

  stand : (place : Place) → Contains blocks place → FilesStandIn st.files place.part place.pos
  stand place has = blocks_stand (tape_on planned) g (on_in drive fixed old) st old.stock path offset count s.tied.stock s.good w.free place has

  -- each stands on tape already
  done : All (IsDoneAt planned old.stock.layout.ops) w.wanted
  done = subst (All (IsDoneAt planned old.stock.layout.ops)) (sym wanted_is)
      (all_left (IsDoneAt planned old.stock.layout.ops) (λ place. not (is_held old.stock.layout.ops place || is_cached old.cached place)) (distinct blocks)
      (λ place has free. let there = stand place (in_distinct blocks place has) in (record {
        below = s.tied.files.below place.part place.pos there;
        free = false_from_ne_true (list_any (puts_at place) (map headed old.stock.layout.ops))
            (λ put. let block = s.tied.files.bytes place.part place.pos there put in
            none_some block.0 (sym (wanted_unheld old.stock.layout.ops old.cached place free) ∙ block.1));
      })))

  -- what is kept is planned, where the drive told a cartridge
  gathered : IfSome (drive.held fixed.first) (λ c. IsGathering (tape_on planned) (λ place. not (has_place place w.wanted)) w.read)
  gathered = by (drive.held fixed.first) refl
    where
      by : (o : Option Cartridge) → drive.held fixed.first ≡ o → IfSome o (λ c. IsGathering (tape_on planned) (λ place. not (has_place place w.wanted)) w.read)
      by None is = tt
      by (Some c) is = w.gathers planned s.tied.plan (may_use drive fixed planned old new.cached s.tied s.good s.kept.order.orderly.standing call c is)

  standing_is : map headed new.stock.layout.ops ≡ ops (after_all new.trail.events)
  standing_is =
      ap (map headed) ops_are ∙ s.kept.order.orderly.standing
      ∙ sym (ap ops state_is ∙ kept_by ops here (λ x place. refl) w.wanted (state old.trail))

  waits_here : is_waiting (after_all new.trail.events) here ≡ true
  waits_here = waits_too (state new.trail) here (
      ap (list_any (is_of here)) requests_new
      ∙ list_any-append (is_of here) (state old.trail).requests (requests_for here (state old.trail).arrived w.wanted)
      ∙ ap (λ (b : Bool). list_any (is_of here) (state old.trail).requests || b) (asks_it here (state old.trail).arrived w.wanted w.some)
      ∙ or_true (list_any (is_of here) (state old.trail).requests))
    where
      or_true : (b : Bool) → (b || true) ≡ true
      or_true true = refl
      or_true false = refl

  no_ops : ops_of (rules g) (on_in drive fixed old) st.space (ask_of g st call at) ≡ []
  no_ops = ap (λ (ask : Ask). ops_of (rules g) (on_in drive fixed old) st.space ask) (read_asks g st path offset count at)

  truly : PlacesTruly (seen drive fixed.first) v (view_of fixed after new) who nth fates.Done None
  truly = record {
    call = call;
    is_call = s.is_call;
    at = at;
    history = w.places.history;
    ready = tt;
    added = added;
    events = w.events;
    queues = queue_their_ops.read here w.wanted ∙ sym (ap (map place_of) no_ops);
    ops = ops_are ∙ sym (append-nil old.stock.layout.ops) ∙ ap (λ (l : List Op). old.stock.layout.ops ++ l) (sym no_ops);
  }

  reading : AreReading g new.on new.listed.history planned (drive.held fixed.first) new.stock.layout.ops (state new.trail) new.reads
  reading = reads_to g old.on new.on (old.listed.history ++ placed ∷ []) new.listed.history planned (drive.held fixed.first) old.stock.layout.ops new.stock.layout.ops
      (state new.trail) (state new.trail) (old.reads ++ w.read ∷ []) new.reads w.moves.on w.places.history ops_are w.reads refl
      (reads_more g old.on old.listed.history placed planned (drive.held fixed.first) old.stock.layout.ops (state old.trail) (state new.trail) old.reads w.read w.wanted call s.tied.reads
      requests_new w.ticket s.is_call (w.pieces (tape_on planned) g (on_in drive fixed old) st s.tied.stock).1
      (all_below (ends_in planned) w.read.pieces (λ place has. s.tied.files.below place.part place.pos (stand place (subst (λ (ps : List Place). Contains ps place) pieces_are has))))
      gathered w.some done)

  reached : IfSome new.on (λ first. first ≤ length new.listed.history)
  reached = subst (λ (o : Option ℕ). IfSome o (λ first. first ≤ length new.listed.history)) (sym w.moves.on)
      (subst (λ (n : ℕ). IfSome old.on (λ first. first ≤ n))
      (sym (ap (λ (ps : List Placed). length ps) w.places.history ∙ length-append old.listed.history (placed ∷ [])))
      (reached_later old.on here s.tied.on_is))

  rightly_shown : SubmitsRightly drive fixed plan v (view_of fixed after new) who nth added (submitted.Wait here)
  unfolding truly
  rightly_shown = record {
    order = record {
      moment = s.one_moment;
      follows = follows_by drive fixed before after old new added w.moves.trail w.events standing_is;
      answered = waits_here;
    };
    truth = λ can. record {
      places = truly;
      within = ap (λ (ask : Ask). is_over (rules g) (on_in drive fixed old) st.space ask) (read_asks g st path offset count at);
    };
    ops = λ can. adds_by drive fixed before after old new placed [] w.places.history (ops_are ∙ sym (append-nil old.stock.layout.ops))
        (admits g old.on old.listed.history here placed ∙ ap (λ (c : Option Call). ops_here g (on_in drive fixed old) st fates.Done c at) s.is_call ∙ no_ops);
    size = λ can. omega (arith, s.tied.mount.blocks.0);
    due = λ can q history is_done sync.
        let same : placed ≡ q = next_same old.listed.history placed q (sym w.places.history ∙ history) in
        let called : Some call ≡ Some calls.Sync = sym s.is_call ∙ ap (call_at g.calls) same ∙ sync in
        absurd (read_isnt_sync path offset count (same_Some call calls.Sync called));
  }

  tied_after : IsTied drive fixed (with_ops [] planned) new
  tied_after = tied_still drive fixed planned old new s.tied (record {
    drive_is = w.moves.drive;
    ops = ops_are;
    calls = w.places.calls;
    sessions = w.places.sessions;
    stands = after_nothing drive fixed old new placed call w.moves.on w.places.history refl s.is_call (read_asks g st path offset count at);
    on_stays_on = on_after drive fixed old new placed w.moves.on w.places.history s.tied.on_is;
    reached = reached;
    stock = λ x is. subst (λ (k : Stocked). IsStock (tape_on planned) g (on_in drive fixed old) x k) (sym w.stock) is;
    queue = (w.tied s.tied.queue s.tied.arrived).0;
    arrived = (w.tied s.tied.queue s.tied.arrived).1;
    none_due = ap due_ticket state_is ∙ kept_by due_ticket here (λ x place. refl) w.wanted (state old.trail) ∙ s.tied.none_due;
    group = ap (λ (x : State). x.group) state_is ∙ kept_by (λ (x : State). x.group) here (λ x place. refl) w.wanted (state old.trail);
    reads = reading;
    cached = subst (All (IsKeptRightly planned old.stock.layout.ops (drive.held fixed.first))) (sym used_are)
        (used_all_all (IsKeptRightly planned old.stock.layout.ops (drive.held fixed.first)) old.cached (found_of old.stock.layout.ops old.cached (distinct blocks)) s.tied.cached);
  })

  read_shown : Shown drive fixed plan planned before after who nth (submitted.Wait here) [] old new
  read_shown = record {
    submits = record {
      fixed = refl;
      drive = w.moves.drive;
      on = w.moves.on;
      kept = w.moves.kept;
      placing = (
        refl,
        record {
          placed = placed;
          fate_is = refl;
          history = w.places.history;
          who_is = refl;
          nth_is = refl;
          moment = s.moment;
          replies = w.places.replies;
        },
      );
      added = added;
      adds = record {
        events = w.events;
        acks = w.acks ∙ sym (append-nil old.trail.acks)
            ∙ sym (ap (λ (tickets : List ℕ). old.trail.acks ++ map (λ ticket. record { place = ticket; command = drive.commands new.drive }) tickets) (no_acks here w.wanted));
      };
      of_it = subst (λ (c : Option Call). AreOfSubmit who here old.trail.events c (submitted.Wait here) added) (sym s.is_call) (refl, (w.wanted, refl));
      asks = subst (λ (c : Option Call). AsksUnlessVoid (submitted.Wait here) st old.trail.events added old.cached new.cached c) (sym s.is_call)
          (asks_passing st old.trail.events added old.cached new.cached path offset count passed (record {
            asks = wanted_are here w.wanted ∙ wanted_is ∙ sym (asked_is drive fixed planned old s.tied s.good s.kept.order.orderly.standing path offset count w.free);
            uses = used_are ∙ ap (used_all old.cached) (sym (found_is drive fixed planned old s.tied s.good s.kept.order.orderly.standing path offset count w.free));
          }));
      marks = w.places.marks;
      drain = subst (λ (c : Option Call). model.PutsOff (is_put_off v c) (submitted.Wait here)) (sym s.is_call) s.put_off;
    };
    rightly = rightly_shown;
    tied = tied_after;
  }

module _ {D : Type 0} (drive : Ghosts D) where
  -- a read that waits for blocks shows all that is asked of it
  pub shown : (fixed : Fixed D) (plan : Plan drive fixed) (planned : Items) (before after : Option Moment) (who nth : ℕ) (asks : Call) (path : List (List ℕ)) (offset count : ℕ) (at : Moment) (old new : Parts D)
      → IsSubmission drive fixed plan planned before after who nth asks at (submitted.Wait (length old.listed.history)) old new → asks ≡ calls.Read path offset count
      → Waits who nth path offset count at old new
      → Shown drive fixed plan planned before after who nth (submitted.Wait (length old.listed.history)) [] old new
  shown fixed plan planned before after who nth asks path offset count at old new s is w =
      read_shown drive fixed plan planned before after who nth path offset count at old new
      (subst (λ (c : Call). IsSubmission drive fixed plan planned before after who nth c at (submitted.Wait (length old.listed.history)) old new) is s) w
