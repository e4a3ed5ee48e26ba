-- Reads that are answered at once, and reads that wait.
use Rattle.std.specs.Prelude.{ℕ, suc, cond, slice_get, ◌≡◌, ◌≢◌, ◌+◌, ◌≤◌, ◌||◌, not, Bool, true, false, List, [], ◌∷◌, ◌++◌, All, AllPairs, Contains, Option, Some, None, filter, filter_map, fold, is_none, length, map}
use Rattle.std.specs.List.{flat_map, list_any}
use Rattle.std.proofs.Common.{refl, sym, ap, subst, ◌∙◌, arith}
use Rattle.std.proofs.lemmas.List.Elements.{All-cons, All-filter, All-head, All-tail, filter_passes}
use Rattle.std.proofs.lemmas.List.Kept.{AllPairs-cons, AllPairs-filter}
use Rattle.tape_types.specs.declared.cartridges.Place.{Place}
use Rattle.tape_types.specs.declared.moments.Moment.{Moment}
use Rattle.plain_tree.specs.Calls.{answer, answer_unless, value_of}
use Rattle.plain_tree.specs.Cells.{bytes_of}
use Rattle.plain_tree.specs.Refusals.{refusal_of}
use Rattle.plain_tree.specs.declared.calls.Answer.{Answer}
use Rattle.plain_tree.specs.declared.calls.Answer.TheVariants as the_answers
use Rattle.plain_tree.specs.declared.calls.Call.{Call}
use Rattle.plain_tree.specs.declared.calls.Call.TheVariants as calls
use Rattle.plain_tree.specs.declared.calls.Fate.TheVariants as fates
use Rattle.plain_tree.specs.declared.calls.Refusal.{Refusal}
use Rattle.extent_map.specs.Cells.{Tape}
use Rattle.extent_map.specs.Pieces.{read_piece}
use Rattle.extent_map.specs.Replies.{IsBlock, distinct, has_place, place_in, places_in, same_place}
use Rattle.extent_map.specs.declared.pieces.Piece.{Piece}
use Rattle.extent_map.specs.declared.pieces.Piece.TheVariants.{Stored, Zeros}
use Rattle.session_script.specs.declared.logs.Event.{Event}
use Rattle.session_script.specs.declared.logs.Reply.TheVariants as the_replies
use Rattle.file_tree.specs.Blocks.{TreeStandsIn}
use Rattle.file_tree.specs.Tree.{FileTree, plain_of, whole}
use Rattle.head_queue.specs.EventLaws.Trail.{IsTrail, after, after_all, is_trail_from, puts_at}
use Rattle.head_queue.specs.EventLaws.Waiting as waiting
use Rattle.head_queue.specs.EventLaws.Waiting.{Request, State}
use Rattle.head_queue.specs.Queued.{Queued, requests}
use Rattle.head_queue.specs.Waiting.{Waiting, request}
use Rattle.tape_drive.specs.declared.drive.Drive.{Ghosts}
use Rattle.tape_layout.specs.Ops.{held_in}
use Rattle.tape_layout.specs.declared.ops.Op.{Op}
use Rattle.space_laws.specs.Space.{nothing}
use Rattle.space_laws.specs.Standing.{Given, Standing, ask_unless, uid_at}
use Rattle.promises.specs.ServingPromise.Served.{headed}
use Rattle.promises.specs.ServingPromise.Submits.{blocks_in, stored_at}
use Rattle.promises.specs.declared.serving_promise.answers.Submitted.{Submitted}
use Rattle.promises.specs.declared.serving_promise.answers.Submitted.TheVariants as submitted
use Rattle.held_volume.specs.Reads as reads
use Rattle.held_volume.specs.Reads.{IsReadPlan, PiecesStandIn}
use Rattle.held_volume.specs.Stocks.{IsStock, Stocked}
use Rattle.event_journal.specs.Placements.{Listed}
use Rattle.event_journal.specs.Trails.{Journaled, state}
use Rattle.promises.specs.GroupLaws.Groups.{requests_for}
use Rattle.promises.specs.GroupLaws.Laws.{HasWanted, wants_at}
use Rattle.promises.proofs.GroupLaws.TrailLemmas.{reads_may_want}
use Rattle.waiting_reads.specs.Gathering.{Gathering, IsAnswered, IsGathering, got_or_damaged, read_answer}
use Rattle.volume_state.specs.PlanLaws.Planned.{IsPlan, Items, NoMarks, tape_on}
use Rattle.volume_state.proofs.PlanLaws.Plans.{plan_held}
use Rattle.volume_state.specs.StateLaws.Parts.{Parts}
use Rattle.volume_state.specs.StateLaws.Placing.{IsPlannedBlock, PlacesCall, Waits, found_of, is_held, marks_for, wanted_of}
use Rattle.volume_core.specs.VolumeSteps.Asking.{Awaits, CanAsk, CanPlace, Finishes, IsSubmitted, Reserves, Stands}
use Rattle.volume_core.specs.VolumeSteps.Wanted.{AreTakenFrom, AsksBlocks, CanWantBlocks, HasEvents, HasHeld, HasKept, HasRequests, IsFetched, there_among}
use Rattle.tape_types.proofs.Places.{same_places}
use Rattle.tape_types.specs.declared.cartridges.Item.{Item}
use Rattle.extent_map.specs.Cells.{byte_in}
use Rattle.block_cache.specs.Kept.{Kept, bytes_at, is_cached, used_all}
use Rattle.volume_state.proofs.CallLaws.ReadBlocks.{stored_list}
use Rattle.volume_state.proofs.CallLaws.Uses.{wanted_unheld}
use Rattle.volume_core.proofs.VolumeSteps.FillLemmas.{gathering_alike, there_or_wanted}
use Rattle.volume_core.proofs.VolumeSteps.QueueLemmas.{none_is_due}
use Rattle.volume_core.proofs.VolumeSteps.SubmitLemmas.{as_it_was, placed_answered}
use Rattle.volume_core.proofs.VolumeSteps.RequestLemmas.{state_after}
use Rattle.volume_state.specs.CallLaws.SubmitLaws as made

-- ---- reads that are refused

nothing_asked : (r : Option Refusal) → ask_unless r nothing ≡ nothing
nothing_asked None = refl
nothing_asked (Some why) = refl

-- a read that is refused is answered so
pub read_refused : {D : Type 0} (drive : Ghosts D) (who nth : ℕ) (path : List (List ℕ)) (offset count : ℕ) (at : Moment) (why : Refusal)
    (result : Submitted) (old new : Parts D) → CanAsk who old
    → refusal_of (plain_of whole old.stock.tree) (calls.Read path offset count) ≡ Some why
    → ((tape : Tape) (g : Given) (on : Bool) (st : Standing) → IsStock tape g on st old.stock
    → refusal_of st.tree (calls.Read path offset count) ≡ Some why)
    → Finishes who nth at fates.Done (the_replies.Answer (the_answers.Refused why)) result old new
    → IsSubmitted drive who nth at old new (calls.Read path offset count) result
read_refused drive who nth path offset count at why result old new can is told f =
    placed_answered drive who nth (calls.Read path offset count) at (the_answers.Refused why) result old old new old.cached can.trail
    (λ items g on st plan stock. (
      λ may. sym (ap (λ r. answer_unless r (value_of st.tree (calls.Read path offset count))) (told (tape_on items) g on st stock)),
      nothing_asked (refusal_of st.tree (calls.Read path offset count)),
    ))
    (λ isnt. refl, λ free. let clash : Some why ≡ None = sym is ∙ free in absurd cc)
    (λ synced. cc)
    refl (as_it_was old) f

-- ---- what was fetched

answers_alike : (o : Option (List ℕ)) → reads.answer_of o ≡ got_or_damaged o
answers_alike None = refl
answers_alike (Some bytes) = refl

-- the blocks that are held stand on the tape that is planned
planned_held : (items : Items) (ops : List Op) → IsPlan items ops → HasHeld (tape_on items) ops
planned_held items ops plan place bytes held = plan_held items ops place bytes plan held

-- and so do those that are kept
kept_by : (items : Items) (place : Place) (block : Kept) (bytes : List ℕ) → same_place place block.0 ≡ true → block.1 ≡ bytes → IsPlannedBlock items block → IsBlock (tape_on items) place bytes
kept_by items place block bytes at is planned byte =
    ap (λ (p : Place). byte_in (slice_get (items p.part) p.pos) byte) (same_places place block.0 at)
    ∙ ap (λ (o : Option Item). byte_in o byte) planned ∙ ap (λ (bs : List ℕ). slice_get bs byte) is

planned_kept : (items : Items) (cached : List Kept) → All (IsPlannedBlock items) cached → HasKept (tape_on items) cached
planned_kept items [] all place bytes is = absurd (let no : None ≡ Some bytes = is in cc)
planned_kept items (block ∷ cached) all place bytes is = by (same_place place block.0) refl is (planned_kept items cached (All-tail (IsPlannedBlock items) block cached all) place bytes)
  where
    some_inside : (a b : List ℕ) → Some a ≡ Some b → a ≡ b
    some_inside a b e = cc

    by : (b : Bool) → same_place place block.0 ≡ b → cond b (Some block.1) (bytes_at cached place) ≡ Some bytes
        → (bytes_at cached place ≡ Some bytes → IsBlock (tape_on items) place bytes) → IsBlock (tape_on items) place bytes
    by true at e rest = kept_by items place block bytes at (some_inside block.1 bytes e) (All-head (IsPlannedBlock items) block cached all)
    by false at e rest = rest e

fetched_gathers : (stock : Stocked) (cached : List Kept) (ticket : ℕ) (path : List (List ℕ)) (offset count : ℕ) (read : Gathering) (wanted found : List Place)
    → IsFetched stock cached ticket path offset count read wanted found → (items : Items) → IsPlan items stock.layout.ops → All (IsPlannedBlock items) cached
    → IsGathering (tape_on items) (λ place. not (has_place place wanted)) read
fetched_gathers stock cached ticket path offset count read wanted found f items plan kept =
    gathering_alike (tape_on items) (there_among stock.layout.ops cached (places_in read.pieces)) (λ place. not (has_place place wanted)) read
    (λ place has.
    there_or_wanted stock.layout.ops cached place (places_in read.pieces) has
    ∙ ap (λ (ps : List Place). not (has_place place ps)) (sym f.wanted_are))
    (f.gathers (tape_on items) (planned_held items stock.layout.ops plan) (planned_kept items cached kept))

none_by : {X : Type 0} (xs : List X) → length xs ≡ 0 → xs ≡ []
none_by [] is = refl
none_by (x ∷ xs) is = absurd (omega (arith, is))

blocks_are : (stock : Stocked) (path : List (List ℕ)) (offset count : ℕ) (read : Gathering) (tape : Tape) (g : Given) (st : Standing)
    → IsReadPlan tape st stock.tree path offset count read.pieces
    → filter_map stored_at read.pieces ≡ blocks_in (st.files (uid_at st.tree.nodes path)) offset count
blocks_are stock path offset count read tape g st p = ap (filter_map stored_at) p.pieces_are

answer_is : (stock : Stocked) (path : List (List ℕ)) (offset count : ℕ) (read : Gathering) (tape : Tape) (st : Standing)
    → IsReadPlan tape st stock.tree path offset count read.pieces
    → answer st.tree (calls.Read path offset count) ≡ read_answer tape read.pieces
answer_is stock path offset count read tape st p = p.answers ∙ answers_alike (bytes_of (flat_map (read_piece tape) read.pieces))

-- the places of the read are its blocks, each once
places_are : (stock : Stocked) (path : List (List ℕ)) (offset count : ℕ) (read : Gathering) (tape : Tape) (g : Given) (st : Standing)
    → IsReadPlan tape st stock.tree path offset count read.pieces
    → places_in read.pieces ≡ distinct (blocks_in (st.files (uid_at st.tree.nodes path)) offset count)
places_are stock path offset count read tape g st p = ap distinct (stored_list read.pieces ∙ blocks_are stock path offset count read tape g st p)

-- ---- reads that are answered

-- a read whose blocks are all held or kept is submitted with its answer as reply
pub read_told : {D : Type 0} (drive : Ghosts D) (who nth : ℕ) (path : List (List ℕ)) (offset count : ℕ) (at : Moment) (told : Answer)
    (read : Gathering) (wanted found : List Place) (result : Submitted) (old new : Parts D) (cached : List Kept) → CanAsk who old
    → refusal_of (plain_of whole old.stock.tree) (calls.Read path offset count) ≡ None
    → IsFetched old.stock old.cached (length old.listed.history) path offset count read wanted found → length wanted ≡ 0
    → cached ≡ used_all old.cached found
    → IsAnswered read told → told ≢ the_answers.Synced
    → Finishes who nth at fates.Done (the_replies.Answer told) result (record old { cached = cached }) new
    → IsSubmitted drive who nth at old new (calls.Read path offset count) result
read_told drive who nth path offset count at told read wanted found result old new cached can free f none uses is no_sync finishes =
    let out : (place : Place) → has_place place wanted ≡ false = λ place. ap (has_place place) (none_by wanted none) in
    let here : ℕ = length old.listed.history in
    placed_answered drive who nth (calls.Read path offset count) at told result old old new cached can.trail
    (λ items g on st plan stock. (
      λ may. is (tape_on items) (λ place. not (has_place place wanted))
          (fetched_gathers old.stock old.cached here path offset count read wanted found f items plan may) (λ place has. ap not (out place))
          ∙ sym (answer_is old.stock path offset count read (tape_on items) st (f.plan (tape_on items) g on st stock)),
      nothing_asked (refusal_of st.tree (calls.Read path offset count)),
    )) (
      λ isnt. absurd (isnt free),
      λ unrefused tape g on st stock.
          let same = places_are old.stock path offset count read tape g st (f.plan tape g on st stock) in (
            ap (wanted_of old.stock.layout.ops old.cached) (sym same) ∙ sym f.wanted_are ∙ none_by wanted none,
            uses ∙ ap (used_all old.cached) (f.found_are ∙ ap (found_of old.stock.layout.ops old.cached) same),
          ),
    )
    no_sync refl (as_it_was old) finishes

-- ---- the places that are wanted

all_both : (P Q R : Place → Type 0) (places : List Place) → ((place : Place) → P place → Q place → R place) → All P places
    → All Q places → All R places
all_both P Q R places h one other k d lt = h _ (one k d lt) (other k d lt)

no_place : (P : Place → Type 0) → All P []
no_place P k d lt = absurd (omega (arith, lt))

-- ---- reads that wait

placed_on : {D : Type 0} (who nth : ℕ) (at : Moment) (old mid new : Parts D) (cached : List Kept) → mid.listed ≡ old.listed
    → PlacesCall who nth at fates.Done None (record mid { cached = cached }) new → PlacesCall who nth at fates.Done None old new
placed_on who nth at old mid new cached same p = record {
  history = p.history ∙ ap (λ (l : Listed). l.history ++ record { who = who; nth = nth; at = at; fate = fates.Done } ∷ []) same;
  replies = p.replies ∙ ap (λ (l : Listed). l.replies ++ None ∷ []) same;
  marks = p.marks ∙ ap (λ (l : Listed). l.marks ++ marks_for who (length l.history) None) same;
  calls = p.calls ∙ ap (λ (l : Listed). l.calls) same;
  sessions = p.sessions ∙ ap (λ (l : Listed). l.sessions) same;
}

-- a read that wants blocks is submitted and waits for them
pub read_waits : {D : Type 0} (drive : Ghosts D) (who nth : ℕ) (path : List (List ℕ)) (offset count : ℕ) (at : Moment) (read : Gathering)
    (wanted found : List Place) (result : Submitted) (old mid new : Parts D) (cached : List Kept)
    → refusal_of (plain_of whole old.stock.tree) (calls.Read path offset count) ≡ None
    → IsFetched old.stock old.cached (length old.listed.history) path offset count read wanted found → 1 ≤ length wanted
    → AsksBlocks (length old.listed.history) wanted read old mid → cached ≡ used_all mid.cached found
    → Awaits who nth at result (record mid { cached = cached }) new
    → IsSubmitted drive who nth at old new (calls.Read path offset count) result
read_waits drive who nth path offset count at read wanted found result old mid new cached free f some a used w =
    let here : ℕ = length old.listed.history in
    let trail_is : new.trail ≡ mid.trail = ap (λ (p : Parts _). p.trail) w.others in
    let queue_is : new.queue ≡ mid.queue = ap (λ (p : Parts _). p.queue) w.others in
    let there : state new.trail ≡ fold after (state old.trail) (wants_at here wanted) =
    ap state trail_is ∙ state_after here wanted old.trail mid.trail a.events.events in
    let has : HasWanted here wanted (state old.trail) (fold after (state old.trail) (wants_at here wanted)) =
    reads_may_want.wanted (state old.trail) here wanted in
    let waits : Waits who nth path offset count at old new = record {
      free = free;
      read = read;
      ticket = f.ticket_is;
      wanted = wanted;
      some = some;
      wanted_is = f.wanted_are;
      uses = ap (λ (p : Parts _). p.cached) w.others ∙ used ∙ ap (λ (blocks : List Kept). used_all blocks found) a.cached ∙ ap (used_all old.cached) f.found_are;
      pieces = λ tape g on st stock. (
        blocks_are old.stock path offset count read tape g st (f.plan tape g on st stock),
        answer_is old.stock path offset count read tape st (f.plan tape g on st stock),
      );
      gathers = fetched_gathers old.stock old.cached here path offset count read wanted found f;
      stock = ap (λ (p : Parts _). p.stock) w.others ∙ a.stock;
      moves = record {
        drive = ap (λ (p : Parts _). p.drive) w.others ∙ a.drive;
        on = ap (λ (p : Parts _). p.on) w.others ∙ a.on;
        kept = ap (λ (t : Journaled). t.kept) trail_is ∙ a.events.kept;
        trail = subst (λ (es : List Event). IsTrail es) (sym (ap (λ (t : Journaled). t.events) trail_is)) a.trail;
      };
      events = ap (λ (t : Journaled). t.events) trail_is ∙ a.events.events;
      acks = ap (λ (t : Journaled). t.acks) trail_is ∙ a.events.acks;
      tied = λ queued arrived. (
        ap requests queue_is ∙ a.requests.requests_are
            ∙ ap (λ (rs : List Request). rs ++ requests_for here old.queue.arrived wanted) queued
            ∙ ap (λ n. (state old.trail).requests ++ requests_for here n wanted) arrived
            ∙ sym (ap (λ (st : State). st.requests) there ∙ has.requests),
        ap (λ (q : Queued). q.arrived) queue_is ∙ a.requests.arrived ∙ ap (λ n. n + length wanted) arrived
            ∙ sym (ap (λ (st : State). st.arrived) there ∙ has.arrived),
      );
      reads = ap (λ (p : Parts _). p.reads) w.others ∙ a.reads;
      places = placed_on who nth at old mid new cached a.listed w.places;
    } in
    subst (λ (end : Submitted). IsSubmitted drive who nth at old new (calls.Read path offset count) end)
    (ap (λ (l : Listed). submitted.Wait (length l.history)) (sym a.listed) ∙ sym w.waits)
    ([], made.waits path offset count refl waits)

-- ---- and their requests may come

all_distinct : (P : Place → Type 0) (places : List Place) → All P places → All P (distinct places)
all_distinct P [] all = all
all_distinct P (p ∷ ps) all =
    All-cons P p (filter (λ other. not (same_place p other)) (distinct ps)) (all 0 p (omega arith))
    (All-filter (λ other. not (same_place p other)) P (distinct ps)
    (all_distinct P ps (λ k d lt. all (suc k) d (omega (arith, lt)))))

all_stand : (tree : FileTree) (pieces : List Piece) → PiecesStandIn tree pieces
    → All (λ (place : Place). TreeStandsIn tree place.part place.pos) (flat_map place_in pieces)
all_stand tree [] stand = no_place (λ (place : Place). TreeStandsIn tree place.part place.pos)
all_stand tree (Zeros count ∷ pieces) stand = all_stand tree pieces stand.1
all_stand tree (Stored at byte count ∷ pieces) stand =
    All-cons (λ (place : Place). TreeStandsIn tree place.part place.pos) at (flat_map place_in pieces) stand.0
    (all_stand tree pieces stand.1)

not_passed : (b : Bool) → (b ≡ true → ⊥) → b ≡ false
not_passed true never = absurd (never refl)
not_passed false never = refl

no_op_puts : (ops : List Op) (cached : List Kept) (tree : FileTree) (place : Place) → NoMarks ops tree → TreeStandsIn tree place.part place.pos
    → not (is_held ops place || is_cached cached place) ≡ true → list_any (puts_at place) (map headed ops) ≡ false
no_op_puts ops cached tree place marks stands none =
    not_passed (list_any (puts_at place) (map headed ops))
    (λ put. let has = marks place.part place.pos stands put in
    let clash : ◌≡◌ {A = Option (List ℕ)} None (Some has.0) = sym (wanted_unheld ops cached place none) ∙ has.1 in cc)

-- a read may want its blocks
pub may_want : {D : Type 0} (who : ℕ) (path : List (List ℕ)) (offset count : ℕ) (read : Gathering) (wanted found : List Place) (p : Parts D)
    → CanAsk who p → Stands p → CanWantBlocks p → IsFetched p.stock p.cached (length p.listed.history) path offset count read wanted found
    → is_trail_from (state p.trail) (wants_at (length p.listed.history) wanted) ≡ true
may_want who path offset count read wanted found p can stands can_want f =
    let ops : List Op = p.stock.layout.ops in
    let places : List Place = places_in read.pieces in
    let keep : Place → Bool = λ place. not (is_held ops place || is_cached p.cached place) in
    let stand : All (λ (place : Place). TreeStandsIn p.stock.tree place.part place.pos) places =
    all_distinct (λ (place : Place). TreeStandsIn p.stock.tree place.part place.pos) (flat_map place_in read.pieces)
    (all_stand p.stock.tree read.pieces (f.plan (tape_on stands.planned) stands.g stands.on stands.st stands.stock).stand) in
    let free : All (λ (place : Place). list_any (puts_at place) (map headed ops) ≡ false) (wanted_of ops p.cached places) =
    all_both (λ (place : Place). TreeStandsIn p.stock.tree place.part place.pos) (λ place. keep place ≡ true)
    (λ (place : Place). list_any (puts_at place) (map headed ops) ≡ false) (wanted_of ops p.cached places)
    (λ place there none. no_op_puts ops p.cached p.stock.tree place can_want.marks there none)
    (All-filter keep (λ (place : Place). TreeStandsIn p.stock.tree place.part place.pos) places stand) (filter_passes keep places) in
    subst (λ (ps : List Place). is_trail_from (state p.trail) (wants_at (length p.listed.history) ps) ≡ true) (sym f.wanted_are)
    (reads_may_want.may (state p.trail) (length p.listed.history) (wanted_of ops p.cached places) record {
      calm = none_is_due (state p.trail) can.none_due;
      first = can_want.first;
      apart = reads_may_want.some keep places (reads_may_want.once read.pieces);
      free = subst (λ (all : List waiting.Op). All (λ (place : Place). list_any (puts_at place) all ≡ false) (wanted_of ops p.cached places)) (sym can_want.ops) free;
    })

-- ---- memory, and what is asked for

-- memory that is reserved leaves what may come
pub may_still : (old mid : Journaled) (events : List Event) → mid.events ≡ old.events → is_trail_from (state old) events ≡ true
    → is_trail_from (state mid) events ≡ true
may_still old mid events same may =
    ap (λ (es : List Event). is_trail_from (after_all es) events) same ∙ may

-- where the journal is the same, a call can be placed as before
pub can_place_on : (who : ℕ) (old new : Listed) → new ≡ old → CanPlace who old → CanPlace who new
can_place_on who old new same can = subst (λ (l : Listed). CanPlace who l) (sym same) can

-- requests, events and a read that waits are all that asking for blocks does
pub asks_blocks : {D : Type 0} (ticket : ℕ) (wanted : List Place) (read : Gathering) (old mid new : Parts D) → Reserves old mid
    → mid.stock ≡ old.stock → mid.listed ≡ old.listed
    → new ≡ record mid { trail = new.trail; queue = new.queue; reads = new.reads }
    → HasEvents ticket wanted mid.trail new.trail → IsTrail new.trail.events → HasRequests ticket wanted mid.queue new.queue
    → new.reads ≡ mid.reads ++ read ∷ [] → AsksBlocks ticket wanted read old new
asks_blocks ticket wanted read old mid new r stock listed others events trail asked reads = record {
  drive = ap (λ (p : Parts _). p.drive) others ∙ r.drive;
  stock = ap (λ (p : Parts _). p.stock) others ∙ stock;
  on = ap (λ (p : Parts _). p.on) others ∙ r.on;
  events = record {
    events = events.events ∙ ap (λ (es : List Event). es ++ wants_at ticket wanted) r.events;
    acks = events.acks ∙ r.acks;
    kept = events.kept ∙ r.kept;
  };
  trail = trail;
  requests = record {
    requests_are = asked.requests_are
        ∙ ap (λ (ws : List Waiting). map request ws ++ requests_for ticket mid.queue.arrived wanted) r.waiting
        ∙ ap (λ n. requests old.queue ++ requests_for ticket n wanted) r.arrived;
    arrived = asked.arrived ∙ ap (λ n. n + length wanted) r.arrived;
  };
  reads = reads ∙ ap (λ (gs : List Gathering). gs ++ read ∷ []) r.reads;
  listed = ap (λ (p : Parts _). p.listed) others ∙ listed;
  cached = ap (λ (p : Parts _). p.cached) others ∙ r.cached;
}

-- ---- what was fetched is a read

-- a read has the blocks that are held or kept, and wants the others
pub fetched : (stock : Stocked) (cached : List Kept) (ticket : ℕ) (path : List (List ℕ)) (offset count : ℕ) (pieces : List Piece) (first read : Gathering)
    (places empty wanted bare found : List Place)
    → ((tape : Tape) (g : Given) (on : Bool) (st : Standing) → IsStock tape g on st stock
    → IsReadPlan tape st stock.tree path offset count pieces)
    → first.ticket ≡ ticket → first.pieces ≡ pieces → ((tape : Tape) → IsGathering tape (λ place. false) first)
    → places ≡ places_in first.pieces → empty ≡ [] → bare ≡ [] → AreTakenFrom stock.layout.ops cached places first read empty wanted bare found
    → IsFetched stock cached ticket path offset count read wanted found
fetched stock cached ticket path offset count pieces first read places empty wanted bare found plan ticket_is pieces_are begins places_are none no_found t =
    let here : places ≡ places_in read.pieces = places_are ∙ ap places_in (sym t.pieces) in
    record {
      ticket_is = t.ticket ∙ ticket_is;
      plan = λ tape g on st is.
          subst (λ (ps : List Piece). IsReadPlan tape st stock.tree path offset count ps) (sym (t.pieces ∙ pieces_are)) (plan tape g on st is);
      gathers = λ tape holds keeps.
          subst (λ (ps : List Place). IsGathering tape (there_among stock.layout.ops cached ps) read) here (t.gathers tape holds keeps (begins tape));
      wanted_are = t.wanted_are ∙ ap (λ (ps : List Place). ps ++ wanted_of stock.layout.ops cached places) none
          ∙ ap (wanted_of stock.layout.ops cached) here;
      found_are = t.found_are ∙ ap (λ (ps : List Place). ps ++ found_of stock.layout.ops cached places) no_found
          ∙ ap (found_of stock.layout.ops cached) here;
    }
