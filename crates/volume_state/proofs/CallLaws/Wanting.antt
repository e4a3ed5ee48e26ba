-- A read that asks for its blocks waits with the others.
use Rattle.std.proofs.Common.{◌≡◌, ℕ, ◌+◌, ◌<◌, ◌≤◌, ◌==◌, ◌&&◌, ◌||◌, not, Bool, true, false, List, [], ◌∷◌, ◌++◌, length, map, Option, Some, None, append-nil, append_assoc, refl, sym, ap, subst, ◌∙◌, arith}
use Rattle.std.specs.Prelude.{All, IfSome, fold, slice_get, slice_index_or}
use Rattle.std.specs.List.{list_any}
use Rattle.std.proofs.lemmas.Bool.Decides.{nat_tests}
use Rattle.std.proofs.lemmas.List.Elements.{All-append, All-cons, All-head, All-push, All-tail, Contains-append_left, Contains-push}
use Rattle.std.proofs.lemmas.List.Folds.{list_any-append, list_any_none}
use Rattle.std.proofs.lemmas.List.Quantifiers.{all_pairs_push}
use Rattle.std.proofs.lemmas.Option.{slice_get_within}
use Rattle.std.proofs.lemmas.Bool.{or_left}
use Rattle.tape_types.proofs.LongerLists.{slice_get-seam}
use Rattle.tape_types.specs.declared.cartridges.Cartridge.{Cartridge}
use Rattle.tape_types.specs.declared.cartridges.Place.{Place}
use Rattle.tape_types.proofs.Places.{same_back}
use Rattle.plain_tree.specs.Calls.{answer}
use Rattle.plain_tree.specs.History.{call_at}
use Rattle.plain_tree.specs.declared.calls.Call.{Call}
use Rattle.plain_tree.specs.declared.calls.Placed.{Placed}
use Rattle.session_script.specs.declared.logs.Event.{Event}
use Rattle.session_script.specs.declared.logs.Event.TheVariants.{Wants}
use Rattle.extent_map.specs.Replies.{Places, has_place}
use Rattle.head_queue.specs.EventLaws.Trail.{after, asks}
use Rattle.head_queue.specs.EventLaws.Waiting.{Request, State, same_place}
use Rattle.tape_layout.specs.declared.ops.Op.{Op}
use Rattle.space_laws.specs.Standing.{Given, Standing, standing}
use Rattle.promises.proofs.ReplyLaws.Blocks.{number_itself}
use Rattle.promises.proofs.ReplyLaws.Places.{standing_goes_on}
use Rattle.volume_state.specs.PlanLaws.Planned.{IsDoneAt, Items, LieBelow, ends_in, tape_on}
use Rattle.promises.specs.GroupLaws.Groups.{requests_for}
use Rattle.waiting_reads.specs.Gathering.{Gathering, IsGathering, read_answer}
use Rattle.volume_state.specs.StateLaws.Tied.{AreReading, IsAsked, IsReading, is_of, was_met}
use Rattle.volume_state.proofs.CallLaws.Placed.{reading_later}

-- ---- the events

-- the events of a read that asks for these blocks
abbrev pub wants_of : ℕ → List Place → List Event
wants_of here places = map (λ place. Wants here place) places

-- what a request leaves, so do all
pub kept_by : {Y : Type 0} (f : State → Y) (here : ℕ) → ((st : State) (place : Place) → f (after st (Wants here place)) ≡ f st) → (places : List Place) (st : State)
    → f (fold after st (wants_of here places)) ≡ f st
kept_by f here one [] st = refl
kept_by f here one (place ∷ places) st = kept_by f here one places (after st (Wants here place)) ∙ one st place

-- a read's requests come behind those that wait
pub requests_are : (here : ℕ) (places : List Place) (st : State) → (fold after st (wants_of here places)).requests ≡ st.requests ++ requests_for here st.arrived places
requests_are here [] st = sym (append-nil st.requests)
requests_are here (place ∷ places) st =
    requests_are here places (after st (Wants here place))
    ∙ append_assoc st.requests (record { ticket = here; place = place; arrival = st.arrived } ∷ []) (requests_for here (st.arrived + 1) places)

-- ---- what is asked for

has_same : (place : Place) (places : List Place) → list_any (same_place place) places ≡ has_place place places
has_same place [] = refl
has_same place (x ∷ xs) =
    ap (λ t. same_place place x || t) (has_same place xs)

asked_for : (here arrived : ℕ) (places : List Place) (place : Place) → list_any (asks here place) (requests_for here arrived places) ≡ has_place place places
asked_for here arrived [] place = refl
asked_for here arrived (x ∷ xs) place =
    ap (λ t. (t && same_place x place) || list_any (asks here place) (requests_for here (arrived + 1) xs)) (number_itself here)
    ∙ ap (λ t. t || list_any (asks here place) (requests_for here (arrived + 1) xs)) (same_back x place)
    ∙ ap (λ t. same_place place x || t) (asked_for here (arrived + 1) xs place)

others_ask : (here arrived : ℕ) (places : List Place) (ticket : ℕ) (place : Place) → (here == ticket) ≡ false → list_any (asks ticket place) (requests_for here arrived places) ≡ false
others_ask here arrived [] ticket place other = refl
others_ask here arrived (x ∷ xs) ticket place other =
    ap (λ t. (t && same_place x place) || list_any (asks ticket place) (requests_for here (arrived + 1) xs)) other
    ∙ others_ask here (arrived + 1) xs ticket place other

-- a read that asks for a block has a request
pub asks_it : (here arrived : ℕ) (places : List Place) → 1 ≤ length places → list_any (is_of here) (requests_for here arrived places) ≡ true
asks_it here arrived [] some = absurd (omega (arith, some))
asks_it here arrived (x ∷ xs) some = ap (λ t. t || list_any (is_of here) (requests_for here (arrived + 1) xs)) (number_itself here)

unlike : (m n : ℕ) → m < n → (m == n) ≡ false
unlike m n less = grind (arith, nat_tests, less)

unlike_back : (m n : ℕ) → m < n → (n == m) ≡ false
unlike_back m n less = grind (arith, nat_tests, less)

or_false : (b : Bool) → (b || false) ≡ b
or_false true = refl
or_false false = refl

or_true : (b : Bool) → (b || true) ≡ true
or_true true = refl
or_true false = refl

-- ---- reads

module _ (g : Given) (on : Option ℕ) (history : List Placed) (p : Placed) (planned : Items) (told : Option Cartridge) (ops : List Op) (st now : State) (reads : List Gathering) (read : Gathering)
    (places : List Place) (call : Call) (h : AreReading g on history planned told ops st reads)
    (requests : now.requests ≡ st.requests ++ requests_for (length history) st.arrived places) (ticket : read.ticket ≡ length history) (call_is : call_at g.calls p ≡ Some call)
    (answers : answer (standing g on history (length history)).tree call ≡ read_answer (tape_on planned) read.pieces) (below : LieBelow (ends_in planned) read.pieces)
    (gathers : IfSome told (λ c. IsGathering (tape_on planned) (λ place. not (has_place place places)) read)) (some : 1 ≤ length places) (done : All (IsDoneAt planned ops) places) where
  abbrev here : ℕ
  here = length history

  abbrev news : List Request
  news = requests_for here st.arrived places

  ticket_low : (r : Gathering) → IsReading g on history planned told st r → r.ticket < here
  ticket_low r is = slice_get_within history r.ticket is.placed is.placed_is

  -- no request is of the next place yet
  pub requests_low : All (λ (r : Request). (r.ticket == here) ≡ false) st.requests
  requests_low = λ k d less.
      let one = h.asked k d less in
      let reading = subst (λ (x : Gathering). IsReading g on history planned told st x) one.waits.2 (h.each one.waits.0 one.reading one.waits.1) in
      let low : one.reading.ticket < here = ticket_low one.reading reading in
      unlike (slice_index_or st.requests k d).ticket here (omega (arith, low, one.ticket))

  none_asked : (place : Place) → list_any (asks here place) st.requests ≡ false
  none_asked place = list_any_none (asks here place) st.requests (λ k d less. ap (λ t. t && same_place (slice_index_or st.requests k d).place place) (requests_low k d less))

  new_met : (place : Place) → not (has_place place places) ≡ was_met now read.ticket place
  new_met place = sym (ap not (
      ap (λ (n : ℕ). list_any (asks n place) now.requests) ticket
      ∙ ap (list_any (asks here place)) requests
      ∙ list_any-append (asks here place) st.requests news
      ∙ ap (λ t. t || list_any (asks here place) news) (none_asked place)
      ∙ asked_for here st.arrived places place))

  old_met : (r : Gathering) → r.ticket < here → (place : Place) → was_met st r.ticket place ≡ was_met now r.ticket place
  old_met r low place = sym (ap not (
      ap (list_any (asks r.ticket place)) requests
      ∙ list_any-append (asks r.ticket place) st.requests news
      ∙ ap (λ t. list_any (asks r.ticket place) st.requests || t) (others_ask here st.arrived places r.ticket place (unlike_back r.ticket here low))
      ∙ or_false (list_any (asks r.ticket place) st.requests)))

  old_reading : (r : Gathering) → IsReading g on history planned told st r → IsReading g on history planned told now r
  old_reading r is = record {
    placed = is.placed;
    placed_is = is.placed_is;
    call = is.call;
    call_is = is.call_is;
    answers = is.answers;
    below = is.below;
    gathering = subst (λ (f : Places). IfSome told (λ c. IsGathering (tape_on planned) f r)) (λ i place. old_met r (ticket_low r is) place i) is.gathering;
    asked = ap (list_any (is_of r.ticket)) requests ∙ list_any-append (is_of r.ticket) st.requests news
        ∙ or_left (list_any (is_of r.ticket) st.requests) (list_any (is_of r.ticket) news) is.asked;
  }

  new_reading : IsReading g on (history ++ p ∷ []) planned told now read
  new_reading = record {
    placed = p;
    placed_is = ap (slice_get (history ++ p ∷ [])) ticket ∙ slice_get-seam history p;
    call = call;
    call_is = call_is;
    answers = ap (λ (n : ℕ). answer (standing g on (history ++ p ∷ []) n).tree call) ticket
        ∙ ap (λ (s : Standing). answer s.tree call) ((standing_goes_on g on history p).stands here (omega arith))
        ∙ answers;
    below = below;
    gathering = subst (λ (f : Places). IfSome told (λ c. IsGathering (tape_on planned) f read)) (λ i place. new_met place i) gathers;
    asked = ap (λ (n : ℕ). list_any (is_of n) now.requests) ticket ∙ ap (list_any (is_of here)) requests ∙ list_any-append (is_of here) st.requests news
        ∙ ap (λ t. list_any (is_of here) st.requests || t) (asks_it here st.arrived places some) ∙ or_true (list_any (is_of here) st.requests);
  }

  abbrev Asked : Request → Type 0
  Asked r = IsAsked planned ops (reads ++ read ∷ []) r

  old_asked : (r : Request) → IsAsked planned ops reads r → Asked r
  old_asked r is = record { stands = is.stands; reading = is.reading; waits = Contains-append_left reads (read ∷ []) is.reading is.waits; ticket = is.ticket }

  news_asked : (ps : List Place) (arrived : ℕ) → All (IsDoneAt planned ops) ps → All Asked (requests_for here arrived ps)
  news_asked [] arrived all = λ k d less. absurd (omega (arith, less))
  news_asked (x ∷ xs) arrived all =
      All-cons Asked (record { ticket = here; place = x; arrival = arrived }) (requests_for here (arrived + 1) xs)
      (record { stands = All-head (IsDoneAt planned ops) x xs all; reading = read; waits = Contains-push reads read; ticket = ticket })
      (news_asked xs (arrived + 1) (All-tail (IsDoneAt planned ops) x xs all))

  -- they all wait
  pub reads_more : AreReading g on (history ++ p ∷ []) planned told ops now (reads ++ read ∷ [])
  reads_more = record {
    each = All-push (λ (r : Gathering). IsReading g on (history ++ p ∷ []) planned told now r) reads read
        (λ k d less. reading_later g on history p planned told now (slice_index_or reads k d) (old_reading (slice_index_or reads k d) (h.each k d less)))
        new_reading;
    apart = all_pairs_push (λ (a b : Gathering). (a.ticket == b.ticket) ≡ false) reads read h.apart
        (λ k d less. ap (λ (n : ℕ). (slice_index_or reads k d).ticket == n) ticket
        ∙ unlike (slice_index_or reads k d).ticket here (ticket_low (slice_index_or reads k d) (h.each k d less)));
    asked = subst (λ (rs : List Request). All Asked rs) (sym requests)
        (All-append Asked st.requests news (λ k d less. old_asked (slice_index_or st.requests k d) (h.asked k d less)) (news_asked places st.arrived done));
  }
