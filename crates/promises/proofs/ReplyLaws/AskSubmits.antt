-- What the events of a volume tell of its calls, over a submission.
use Rattle.std.specs.Prelude.{◌≡◌, ◌⊎◌, ◌<◌, ◌≤◌, ◌+◌, ◌&&◌, nat_lt, ℕ, zero, Bool, true, false, List, [], ◌∷◌, ◌++◌, map, filter_map, length, take, Contains, Option, Some, None, IfSome, slice_get}
use Rattle.std.specs.List.{list_any}
use Rattle.std.proofs.Common.{refl, sym, ap, ◌∙◌, subst, inl, inr, ⊎_elim, arith, length-append, take_all}
use Rattle.std.proofs.lemmas.List.{append-nil, length-map, take-append-le}
use Rattle.std.proofs.lemmas.List.Elements.{filter_map-append}
use Rattle.tape_types.proofs.LongerLists.{slice_get-seam}
use Rattle.tape_types.specs.declared.cartridges.Place.{Place}
use Rattle.tape_types.specs.declared.cartridges.Twin.{Twin}
use Rattle.plain_tree.specs.History.{call_at}
use Rattle.plain_tree.specs.declared.calls.Answer.{Answer}
use Rattle.plain_tree.specs.declared.calls.Call.{Call}
use Rattle.plain_tree.specs.declared.calls.Call.TheVariants.{Write, Read, Sync}
use Rattle.plain_tree.specs.declared.calls.Fate.TheVariants as fates
use Rattle.plain_tree.specs.declared.calls.Placed.{Placed}
use Rattle.session_script.specs.declared.logs.Event.{Event}
use Rattle.session_script.specs.declared.logs.Event.TheVariants as events
use Rattle.session_script.specs.declared.logs.Reply.{Reply}
use Rattle.session_script.specs.declared.logs.Reply.TheVariants as replies
use Rattle.head_queue.specs.EventLaws.Trail.{after_all}
use Rattle.head_queue.specs.EventLaws.Waiting.{Op, State, ops}
use Rattle.tape_layout.specs.Ops.{place_of}
use Rattle.space_laws.specs.Standing.{Given, admitted, standing}
use Rattle.promises.specs.ServingPromise.Acks.{syncs_ticket}
use Rattle.promises.specs.ServingPromise.Asking.{blocks_of, is_read, is_write_at, stood, touches, want_of}
use Rattle.promises.specs.ServingPromise.Served.{Drive, IsTrue, View, given, given_of, queued}
use Rattle.promises.specs.ServingPromise.Submits.{Asks, IsOfDone, Places, PutsOff, Submits, call_of, is_put_off, may_wait_at, queues_at, standing_ops, synced_at}
use Rattle.promises.specs.ServingPromise.Cached.{IsCache, wanted}
use Rattle.block_cache.specs.Kept.{Kept}
use Rattle.promises.specs.declared.serving_promise.answers.Submitted.{Submitted}
use Rattle.promises.specs.declared.serving_promise.answers.Submitted.TheVariants as submitted
use Rattle.promises.specs.ReplyLaws.Asks.{AskingBegins, AsksTruly, QueueTheirOps, SubmissionsAskTruly}
use Rattle.promises.proofs.ReplyLaws.AskLaws.{AsksOf, ask_parts, ask_whole, asks_on, none_of}
use Rattle.promises.proofs.ReplyLaws.Asked.{asked_on, begun_on, goes_next, grouped_on, needed_on, of_reads_on, picked_later, put_off_on, stays_there, stood_append, stood_later, stood_long, touched_before}
use Rattle.promises.proofs.ReplyLaws.Blocks.{needed_wanted, pair_back, pair_there, queues_want, reads_need, synced_want, wanted_needed, wants_here}
use Rattle.promises.proofs.ReplyLaws.Lists.{get_behind, get_within, in_cases, split}
use Rattle.promises.proofs.ReplyLaws.Places.{agree_always, stands_on}

-- ---- the sync of a submission

-- a sync that a submission begins is its own, and all its ops stand before it
pub record Begins (here : ℕ) (added front : List Event) (ticket : ℕ) : Type 0 where
  pub ticket_is : ticket ≡ here
  pub queues : filter_map queued added ≡ filter_map queued front

no_sync : {P : Type 0} (added front rest : List Event) (ticket : ℕ) → filter_map syncs_ticket added ≡ [] → added ≡ front ++ events.Syncs ticket ∷ rest → P
no_sync added front rest ticket none e =
    absurd (none_of (filter_map syncs_ticket added) ticket none
    (subst (λ es. Contains (filter_map syncs_ticket es) ticket) (sym e) (picked_later syncs_ticket front (events.Syncs ticket ∷ rest) ticket (zero, omega arith, refl))))

same_ticket : (a b : ℕ) (xs ys : List Event) → events.Syncs a ∷ xs ≡ events.Syncs b ∷ ys → a ≡ b
same_ticket a b xs ys e = cc

rest_same : (a b : Event) (xs ys : List Event) → a ∷ xs ≡ b ∷ ys → xs ≡ ys
rest_same a b xs ys e = cc

begins_behind : (here : ℕ) (places : List Place) (stand : List Op) (mid rest : List Event) (ticket : ℕ) → events.Syncs here ∷ synced_at here stand ≡ mid ++ events.Syncs ticket ∷ rest
    → Begins here (queues_at places ++ events.Syncs here ∷ synced_at here stand) (queues_at places ++ mid) ticket
begins_behind here places stand [] rest ticket e = record {
  ticket_is = sym (same_ticket here ticket (synced_at here stand) rest e);
  queues = filter_map-append queued (queues_at places) (events.Syncs here ∷ synced_at here stand)
      ∙ ap (λ xs. filter_map queued (queues_at places) ++ xs) (synced_want queued (λ t. refl) here stand)
      ∙ sym (filter_map-append queued (queues_at places) []);
}
begins_behind here places stand (m ∷ mid) rest ticket e =
    no_sync (synced_at here stand) mid rest ticket (synced_want syncs_ticket (λ t. refl) here stand) (rest_same (events.Syncs here) m (synced_at here stand) (mid ++ events.Syncs ticket ∷ rest) e)

begins_sync : (here : ℕ) (places : List Place) (stand : List Op) (front rest : List Event) (ticket : ℕ) → queues_at places ++ events.Syncs here ∷ synced_at here stand ≡ front ++ events.Syncs ticket ∷ rest
    → Begins here (queues_at places ++ events.Syncs here ∷ synced_at here stand) front ticket
begins_sync here places stand front rest ticket e = by (split (queues_at places) (events.Syncs here ∷ synced_at here stand) front (events.Syncs ticket) rest e)
  where
    by : ((tail : List Event) × (queues_at places ≡ front ++ events.Syncs ticket ∷ tail)) ⊎ ((mid : List Event) × (front ≡ queues_at places ++ mid) × (events.Syncs here ∷ synced_at here stand ≡ mid ++ events.Syncs ticket ∷ rest))
        → Begins here (queues_at places ++ events.Syncs here ∷ synced_at here stand) front ticket
    by (inl old) = no_sync (queues_at places) front old.0 ticket (queues_want syncs_ticket (λ place. refl) places) old.1
    by (inr new) = subst (λ f. Begins here (queues_at places ++ events.Syncs here ∷ synced_at here stand) f ticket) (sym new.1) (begins_behind here places stand new.0 rest ticket new.2)

wants_sync : (here : ℕ) (places : List Place) → filter_map syncs_ticket (map (λ place. events.Wants here place) places) ≡ []
wants_sync here [] = refl
wants_sync here (p ∷ ps) = wants_sync here ps

begins : (here : ℕ) (before : List Event) (call : Option Call) (added : List Event) → IsOfDone here before call added → (front rest : List Event) (ticket : ℕ) → added ≡ front ++ events.Syncs ticket ∷ rest → Begins here added front ticket
begins here before None added is front rest ticket e = no_sync added front rest ticket (ap (filter_map syncs_ticket) is) e
begins here before (Some Sync) added is front rest ticket e =
    subst (λ es. Begins here es front ticket) (sym is.1) (begins_sync here is.0 (ops (after_all (before ++ queues_at is.0))) front rest ticket (sym is.1 ∙ e))
begins here before (Some (Read path offset count)) added is front rest ticket e = no_sync added front rest ticket (ap (filter_map syncs_ticket) is.1 ∙ wants_sync here is.0) e
begins here before (Some (Write path offset bytes)) added is front rest ticket e = no_sync added front rest ticket (ap (filter_map syncs_ticket) is.1 ∙ queues_want syncs_ticket (λ place. refl) is.0) e
begins here before (Some _) added is front rest ticket e = no_sync added front rest ticket (ap (filter_map syncs_ticket) is) e

-- a ticket that is told stands somewhere among the events
record Cut (trail : List Event) (ticket : ℕ) : Type 0 where
  front : List Event
  rest : List Event
  is_cut : trail ≡ front ++ events.Syncs ticket ∷ rest

cut_more : (e : Event) (trail : List Event) (ticket : ℕ) → Cut trail ticket → Cut (e ∷ trail) ticket
cut_more e trail ticket c = record { front = e ∷ c.front; rest = c.rest; is_cut = ap (λ xs. e ∷ xs) c.is_cut }

cut_at : (trail : List Event) (ticket : ℕ) → Contains (filter_map syncs_ticket trail) ticket → Cut trail ticket
cut_at [] ticket has = absurd (none_of [] ticket refl has)
cut_at (events.Wants t place ∷ later) ticket has = cut_more (events.Wants t place) later ticket (cut_at later ticket has)
cut_at (events.Queues place ∷ later) ticket has = cut_more (events.Queues place) later ticket (cut_at later ticket has)
cut_at (events.Synced t ∷ later) ticket has = cut_more (events.Synced t) later ticket (cut_at later ticket has)
cut_at (events.Drains who ∷ later) ticket has = cut_more (events.Drains who) later ticket (cut_at later ticket has)
cut_at (events.Rests who ∷ later) ticket has = cut_more (events.Rests who) later ticket (cut_at later ticket has)
cut_at (events.Served t place fault ∷ later) ticket has = cut_more (events.Served t place fault) later ticket (cut_at later ticket has)
cut_at (events.Worked place fault ∷ later) ticket has = cut_more (events.Worked place fault) later ticket (cut_at later ticket has)
cut_at (events.Syncs t ∷ later) ticket has = by (cut_at later ticket) (in_cases t (filter_map syncs_ticket later) ticket has)
  where
    by : (Contains (filter_map syncs_ticket later) ticket → Cut later ticket) → (t ≡ ticket) ⊎ Contains (filter_map syncs_ticket later) ticket → Cut (events.Syncs t ∷ later) ticket
    by cut (inl is) = record { front = []; rest = later; is_cut = ap (λ n. events.Syncs n ∷ later) is }
    by cut (inr more) = cut_more (events.Syncs t) later ticket (cut more)

-- ---- the first op of a write

first_stood : (st : State) (places : List Place) → length (ops st) ≤ 64 → IfSome (slice_get (stood_later st (queues_at places)) 0) (λ n. n ≤ 64)
first_stood st [] few = tt
first_stood st (p ∷ ps) few = few

write_queues : (here : ℕ) (before : List Event) (call : Option Call) (added : List Event) → is_write_at call ≡ true → IsOfDone here before call added → (places : List Place) × (added ≡ queues_at places)
write_queues here before None added write is = absurd (cc)
write_queues here before (Some (Write path offset bytes)) added write is = is
write_queues here before (Some _) added write is = absurd (cc)

queues_back : (places : List Place) → filter_map queued (queues_at places) ≡ places
queues_back [] = refl
queues_back (p ∷ ps) = ap (λ qs. p ∷ qs) (queues_back ps)

wants_queue : (here : ℕ) (places : List Place) → filter_map queued (map (λ place. events.Wants here place) places) ≡ []
wants_queue here [] = refl
wants_queue here (p ∷ ps) = wants_queue here ps

-- a submission queues the ops of a write or of a sync, and nothing for a read
pub queue_their_ops : QueueTheirOps
queue_their_ops = record {
  write = queues_back;
  sync = λ here places stand. (
      filter_map-append queued (queues_at places) (events.Syncs here ∷ synced_at here stand)
      ∙ ap (λ xs. filter_map queued (queues_at places) ++ xs) (synced_want queued (λ t. refl) here stand)
      ∙ append-nil (filter_map queued (queues_at places)) ∙ queues_back places);
  read = wants_queue;
}

-- ---- a volume of which nothing was asked yet

no_place : {P : Type 0} (history : List Placed) (k : ℕ) (p : Placed) → history ≡ [] → slice_get history k ≡ Some p → P
no_place history k p none at = absurd (omega (arith, get_within history k p at, ap length none))

-- a volume of which nothing was asked yet asks truly
pub asking_begins : {D : Type 0} (seen : D → Drive) → AskingBegins seen
asking_begins seen first v none quiet = record {
  of_reads = λ ticket place has. absurd (none_of (filter_map want_of v.events) (ticket, place) (ap (filter_map want_of) quiet) has);
  needed = λ ticket place has. absurd (none_of (filter_map want_of v.events) (ticket, place) (ap (filter_map want_of) quiet) has);
  asked = λ k p place at done has. no_place v.history k p none at;
  put_off = λ k p at write some. no_place v.history k p none at;
  grouped = λ front rest ticket e. no_sync v.events front rest ticket (ap (filter_map syncs_ticket) quiet) e;
  begun = λ ticket has. absurd (none_of (filter_map syncs_ticket v.events) ticket (ap (filter_map syncs_ticket) quiet) has);
}

-- ---- a placement that is done

module _ (g : Given) (on : Option ℕ) (history : List Placed) (p : Placed) (trail added : List Event) (call : Option Call) (done : p.fate ≡ fates.Done) (call_is : call_at g.calls p ≡ call)
    (of_it : IsOfDone (length history) trail call added) (cached next : List Kept) (cache : IsCache trail cached) (asks : Asks (standing g on history (length history)) trail added cached next call)
    (few : is_write_at call ≡ true → length (ops (after_all trail)) ≤ 64)
    (queues : filter_map queued trail ≡ map place_of (admitted g on history)) (all_queues : filter_map queued (trail ++ added) ≡ map place_of (admitted g on (history ++ p ∷ []))) where
  here_at : slice_get (history ++ p ∷ []) (length history) ≡ Some p
  here_at = slice_get-seam history p

  stands_here : standing g on (history ++ p ∷ []) (length history) ≡ standing g on history (length history)
  stands_here = stands_on g on history (history ++ p ∷ []) (length history) (take-append-le (length history) history (p ∷ []) (omega arith))

  -- what is asked for is asked at the end of the history
  asked_here : (ticket : ℕ) (place : Place) → Contains (filter_map want_of added) (ticket, place) → (ticket ≡ length history) × Contains (filter_map wanted added) place
  asked_here ticket place has =
      pair_back (length history) (filter_map wanted added) ticket place (subst (λ ws. Contains ws (ticket, place)) (wants_here (length history) trail call added of_it) has)

  reads : (ticket : ℕ) (place : Place) → Contains (filter_map want_of added) (ticket, place) → (q : Placed) × (slice_get (history ++ p ∷ []) ticket ≡ Some q) × (q.fate ≡ fates.Done) × (is_read (call_at g.calls q) ≡ true)
  reads ticket place has =
      let a = asked_here ticket place has in (
        p,
        ap (slice_get (history ++ p ∷ [])) a.0 ∙ here_at,
        done,
        ap is_read call_is ∙ reads_need (standing g on history (length history)) call place (wanted_needed (standing g on history (length history)) trail added cached next call place asks a.1),
      )

  needs : (ticket : ℕ) (place : Place) → Contains (filter_map want_of added) (ticket, place) → (q : Placed) × (slice_get (history ++ p ∷ []) ticket ≡ Some q) × Contains (blocks_of (standing g on (history ++ p ∷ []) ticket) (call_at g.calls q)) place
  needs ticket place has =
      let a = asked_here ticket place has in
      let one = wanted_needed (standing g on history (length history)) trail added cached next call place asks a.1 in
      let two = subst (λ c. Contains (blocks_of (standing g on history (length history)) c) place) (sym call_is) one in
      let three = subst (λ st. Contains (blocks_of st (call_at g.calls p)) place) (sym stands_here) two in
      (p, ap (slice_get (history ++ p ∷ [])) a.0 ∙ here_at, subst (λ n. Contains (blocks_of (standing g on (history ++ p ∷ []) n) (call_at g.calls p)) place) (sym a.0) three)

  asked : (k : ℕ) (q : Placed) (place : Place) → (k ≡ length history) × (p ≡ q) → q.fate ≡ fates.Done → Contains (blocks_of (standing g on (history ++ p ∷ []) k) (call_at g.calls q)) place
      → Contains (filter_map want_of (trail ++ added)) (k, place) ⊎ (list_any (touches place) (trail ++ added) ≡ true)
  asked k q place is_last fate has = by (needed_wanted (standing g on history (length history)) trail added cached next call place cache asks three)
    where
      one : Contains (blocks_of (standing g on (history ++ p ∷ []) (length history)) (call_at g.calls p)) place
      one = subst (λ x. Contains (blocks_of (standing g on (history ++ p ∷ []) (length history)) (call_at g.calls x)) place) (sym is_last.1)
          (subst (λ n. Contains (blocks_of (standing g on (history ++ p ∷ []) n) (call_at g.calls q)) place) is_last.0 has)

      three : Contains (blocks_of (standing g on history (length history)) call) place
      three = subst (λ c. Contains (blocks_of (standing g on history (length history)) c) place) call_is (subst (λ st. Contains (blocks_of st (call_at g.calls p)) place) stands_here one)

      by : Contains (filter_map wanted added) place ⊎ (list_any (touches place) trail ≡ true) → Contains (filter_map want_of (trail ++ added)) (k, place) ⊎ (list_any (touches place) (trail ++ added) ≡ true)
      by (inl asks_it) = inl (subst (λ n. Contains (filter_map want_of (trail ++ added)) (n, place)) (sym is_last.0)
          (picked_later want_of trail added (length history, place)
          (subst (λ ws. Contains ws (length history, place)) (sym (wants_here (length history) trail call added of_it)) (pair_there (length history) (filter_map wanted added) place asks_it))))
      by (inr touched) = inr (touched_before place trail added touched)

  front_is : take (length history) (history ++ p ∷ []) ≡ history
  front_is = take-append-le (length history) history (p ∷ []) (omega arith) ∙ take_all (length history) history (omega arith)

  off : (k : ℕ) (q : Placed) → (k ≡ length history) × (p ≡ q) → is_write_at (call_at g.calls q) ≡ true → IfSome (slice_get (stood (trail ++ added)) (length (admitted g on (take k (history ++ p ∷ []))))) (λ n. n ≤ 64)
  off k q next write =
      let is_write : is_write_at call ≡ true = ap is_write_at (sym call_is) ∙ ap (λ x. is_write_at (call_at g.calls x)) next.1 ∙ write in
      let made = write_queues (length history) trail call added is_write of_it in
      let count : length (admitted g on (take k (history ++ p ∷ []))) ≡ length (stood trail) =
      ap (λ n. length (admitted g on (take n (history ++ p ∷ [])))) next.0 ∙ ap (λ h. length (admitted g on h)) front_is
      ∙ sym (length-map (admitted g on history) place_of) ∙ ap length (sym queues) ∙ sym (stood_long trail) in
      let got : slice_get (stood (trail ++ added)) (length (admitted g on (take k (history ++ p ∷ [])))) ≡ slice_get (stood_later (after_all trail) (queues_at made.0)) 0 =
      ap (slice_get (stood (trail ++ added))) count ∙ ap (λ ns. slice_get ns (length (stood trail))) (stood_append trail added)
      ∙ get_behind (stood trail) (stood_later (after_all trail) added) ∙ ap (λ es. slice_get (stood_later (after_all trail) es) 0) made.1 in
      subst (λ o. IfSome o (λ n. n ≤ 64)) (sym got) (first_stood (after_all trail) made.0 (few is_write))

  grouped : (front rest : List Event) (ticket : ℕ) → added ≡ front ++ events.Syncs ticket ∷ rest → length (filter_map queued (trail ++ front)) ≡ length (admitted g on (take (ticket + 1) (history ++ p ∷ [])))
  grouped front rest ticket e =
      let b = begins (length history) trail call added of_it front rest ticket e in
      let all : take (ticket + 1) (history ++ p ∷ []) ≡ history ++ p ∷ [] = take_all (ticket + 1) (history ++ p ∷ []) (omega (arith, b.ticket_is, length-append history (p ∷ []))) in
      ap length (filter_map-append queued trail front ∙ ap (λ xs. filter_map queued trail ++ xs) (sym b.queues) ∙ sym (filter_map-append queued trail added) ∙ all_queues)
      ∙ length-map (admitted g on (history ++ p ∷ [])) place_of ∙ ap (λ h. length (admitted g on h)) (sym all)

  begun_here : (ticket : ℕ) → Contains (filter_map syncs_ticket added) ticket → ticket < length (history ++ p ∷ [])
  begun_here ticket has =
      let c = cut_at added ticket has in
      omega (arith, (begins (length history) trail call added of_it c.front c.rest ticket c.is_cut).ticket_is, length-append history (p ∷ []))

  pub done_asks : AsksOf g on history trail → AsksOf g on (history ++ p ∷ []) (trail ++ added)
  done_asks is =
      let goes = goes_next history p in
      let agree = agree_always g.mounted on (length history) in
      record {
        of_reads = of_reads_on g on on history (history ++ p ∷ []) (λ k q. (k ≡ length history) × (p ≡ q)) trail added goes agree is.of_reads reads;
        needed = needed_on g on on history (history ++ p ∷ []) (λ k q. (k ≡ length history) × (p ≡ q)) trail added goes agree is.needed needs;
        asked = asked_on g on on history (history ++ p ∷ []) (λ k q. (k ≡ length history) × (p ≡ q)) trail added goes agree is.asked asked;
        put_off = put_off_on g on on history (history ++ p ∷ []) (λ k q. (k ≡ length history) × (p ≡ q)) trail added goes agree queues is.put_off (λ k q next write some. off k q next write);
        grouped = grouped_on g on on history (history ++ p ∷ []) (λ k q. (k ≡ length history) × (p ≡ q)) trail added goes agree is.begun is.grouped grouped;
        begun = begun_on history (history ++ p ∷ []) (λ k q. (k ≡ length history) × (p ≡ q)) trail added goes is.begun begun_here;
      }

-- ---- submissions

-- a submission that is placed, done or void, asks what its call needs
placed_asks : {D : Type 0} (first now : Drive) (old new : View D) (who nth : ℕ) (answer : Submitted) (last : Option Reply) → IsTrue first old → IsTrue first new → (s : Submits first now old new who nth answer)
    → Places old new who nth fates.Done last → IsOfDone (length old.history) old.events (call_of old who nth) s.added
    → IsCache old.events old.cached
    → Asks (standing (given old first) old.on old.history (length old.history)) old.events s.added old.cached new.cached (call_of old who nth)
    → (is_write_at (call_of old who nth) ≡ true → standing_ops old ≤ 64) → AsksTruly first old → AsksTruly first new
placed_asks first now old new who nth answer last is_old is_new s pl of_it cache asks few is =
    ask_whole first old new old.on (old.history ++ pl.placed ∷ []) (old.events ++ s.added) s.fixed s.on pl.history s.adds.events
    (done_asks (given old first) old.on old.history pl.placed old.events s.added (call_of old who nth) pl.fate_is call_is of_it old.cached new.cached cache asks few is_old.ops all_queues (ask_parts first old is))
  where
    call_is : call_at (given old first).calls pl.placed ≡ call_of old who nth
    call_is = ap (λ w. slice_get ((given old first).calls w) pl.placed.nth) pl.who_is ∙ ap (λ n. slice_get ((given old first).calls who) n) pl.nth_is

    all_queues : filter_map queued (old.events ++ s.added) ≡ map place_of (admitted (given old first) old.on (old.history ++ pl.placed ∷ []))
    all_queues =
        ap (filter_map queued) (sym s.adds.events) ∙ is_new.ops
        ∙ ap (λ f. map place_of (admitted (given_of f.script f.tree f.mounted first) new.on new.history)) s.fixed
        ∙ ap (λ o. map place_of (admitted (given old first) o new.history)) s.on ∙ ap (λ h. map place_of (admitted (given old first) old.on h)) pl.history

-- a submission that adds nothing but its void placement
void_asks : {D : Type 0} (first now : Drive) (old new : View D) (who nth : ℕ) (answer : Submitted) (last : Option Reply) → IsTrue first old → (s : Submits first now old new who nth answer) → Places old new who nth fates.Void last
    → s.added ≡ [] → AsksTruly first old → AsksTruly first new
void_asks first now old new who nth answer last is_old s pl none is =
    ask_whole first old new old.on (old.history ++ pl.placed ∷ []) (old.events ++ s.added) s.fixed s.on pl.history s.adds.events
    (asks_on (given old first) old.on old.on old.history (old.history ++ pl.placed ∷ []) (λ k q. (k ≡ length old.history) × (pl.placed ≡ q)) old.events s.added (goes_next old.history pl.placed) (agree_always (given old first).mounted old.on (length old.history)) is_old.ops
    (record { wants = ap (filter_map want_of) none; syncs = ap (filter_map syncs_ticket) none }) (λ k p next. ap (λ (q : Placed). q.fate) (sym next.1) ∙ pl.fate_is) (ask_parts first old is))

-- a write that was placed wasn't put off
few_stood : {D : Type 0} (v : View D) (call : Option Call) (answer : Submitted) → PutsOff (is_put_off v call) answer → (answer ≡ submitted.Drain → ⊥) → (answer ≡ submitted.Ready replies.NoMemory → ⊥) → is_write_at call ≡ true → standing_ops v ≤ 64
few_stood v None answer puts a b write = absurd (cc)
few_stood v (Some call) answer puts a b write = by (nat_lt 64 (standing_ops v)) refl
  where
    by : (over : Bool) → nat_lt 64 (standing_ops v) ≡ over → standing_ops v ≤ 64
    by false is = grind (arith, is)
    by true is = absurd (⊎_elim a b (puts.each (ap (λ w. w && nat_lt 64 (standing_ops v)) write ∙ is)))

waits_no_write : (call : Option Call) → may_wait_at call ≡ true → is_write_at call ≡ true → ⊥
waits_no_write None may write = cc
waits_no_write (Some (Write path offset bytes)) may write = cc
waits_no_write (Some _) may write = cc

not_drain : (reply : Reply) → submitted.Ready reply ≡ submitted.Drain → ⊥
not_drain reply e = cc

not_memory : (told : Answer) → submitted.Ready (replies.Answer told) ≡ submitted.Ready replies.NoMemory → ⊥
not_memory told e = cc

fault_not_memory : (counts : Twin) → submitted.Ready (replies.Fault counts) ≡ submitted.Ready replies.NoMemory → ⊥
fault_not_memory counts e = cc

submitted_asks : {D : Type 0} (first now : Drive) (old new : View D) (who nth : ℕ) (answer : Submitted) → IsTrue first old → IsTrue first new → IsCache old.events old.cached → Submits first now old new who nth answer → AsksTruly first old → AsksTruly first new
submitted_asks first now old new who nth (submitted.Ready (replies.Answer told)) is_old is_new cache s is =
    placed_asks first now old new who nth (submitted.Ready (replies.Answer told)) (Some (replies.Answer told)) is_old is_new s s.placing s.of_it cache s.asks
    (few_stood old (call_of old who nth) (submitted.Ready (replies.Answer told)) s.drain (not_drain (replies.Answer told)) (not_memory told)) is
submitted_asks first now old new who nth (submitted.Ready (replies.Fault counts)) is_old is_new cache s is =
    placed_asks first now old new who nth (submitted.Ready (replies.Fault counts)) (Some (replies.Fault counts)) is_old is_new s s.placing s.of_it cache s.asks
    (few_stood old (call_of old who nth) (submitted.Ready (replies.Fault counts)) s.drain (not_drain (replies.Fault counts)) (fault_not_memory counts)) is
submitted_asks first now old new who nth (submitted.Ready (replies.Full need limit)) is_old is_new cache s is = void_asks first now old new who nth (submitted.Ready (replies.Full need limit)) (Some (replies.Full need limit)) is_old s s.placing s.of_it is
submitted_asks first now old new who nth (submitted.Ready replies.NoMemory) is_old is_new cache s is = void_asks first now old new who nth (submitted.Ready replies.NoMemory) (Some replies.NoMemory) is_old s s.placing s.of_it is
submitted_asks first now old new who nth (submitted.Wait ticket) is_old is_new cache s is =
    placed_asks first now old new who nth (submitted.Wait ticket) None is_old is_new s s.placing.1 s.of_it.1 cache s.asks (λ write. absurd (waits_no_write (call_of old who nth) s.of_it.0 write)) is
submitted_asks first now old new who nth submitted.Drain is_old is_new cache s is =
    ask_whole first old new old.on old.history (old.events ++ s.added) s.fixed s.on s.placing.history s.adds.events
    (asks_on (given old first) old.on old.on old.history old.history (λ k p. ⊥) old.events s.added (stays_there old.history) (agree_always (given old first).mounted old.on (length old.history)) is_old.ops
    (record { wants = ap (filter_map want_of) s.of_it; syncs = ap (filter_map syncs_ticket) s.of_it }) (λ k p never. absurd never) (ask_parts first old is))

-- a submission leaves what is asked true
pub submissions_ask_truly : {D : Type 0} (seen : D → Drive) → SubmissionsAskTruly seen
submissions_ask_truly seen first now old new who nth answer is_old is_new cache s is = submitted_asks (seen first) (seen now) old new who nth answer is_old is_new cache s is
