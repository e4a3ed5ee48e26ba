-- What the events tell of blocks, writes and syncs stays true as events come and the history goes on.
use Rattle.std.specs.Prelude.{◌≡◌, ◌⊎◌, ◌<◌, ◌≤◌, ◌+◌, ℕ, zero, suc, true, List, [], ◌∷◌, ◌++◌, map, filter_map, length, drop, take, scan, Contains, Option, Some, IfSome, slice_get}
use Rattle.std.specs.List.{enumerate_from, flat_map, list_any}
use Rattle.std.proofs.Common.{refl, sym, ap, ◌∙◌, subst, inl, inr, arith, length-append, length-take-le}
use Rattle.std.proofs.lemmas.Grind.{flat_map-append}
use Rattle.std.proofs.lemmas.List.{length-map, take-append-le}
use Rattle.std.proofs.lemmas.List.Elements.{Contains-append_cases, Contains-append_left, Contains-append_right, filter_map-append}
use Rattle.std.proofs.lemmas.List.Folds.{list_any-append}
use Rattle.std.proofs.lemmas.Option.{same_Some}
use Rattle.std.proofs.lemmas.Bool.{or_left}
use Rattle.tape_types.proofs.LongerLists.{slice_get-append, scan-append}
use Rattle.tape_types.specs.declared.cartridges.Place.{Place}
use Rattle.plain_tree.specs.History.{call_at}
use Rattle.plain_tree.specs.declared.calls.Fate.TheVariants as fates
use Rattle.plain_tree.specs.declared.calls.Placed.{Placed}
use Rattle.session_script.specs.declared.logs.Event.{Event}
use Rattle.session_script.specs.declared.logs.Event.TheVariants as events
use Rattle.head_queue.specs.EventLaws.Trail.{after, after_all}
use Rattle.head_queue.specs.EventLaws.Waiting.{State, start}
use Rattle.tape_layout.specs.Ops.{place_of}
use Rattle.space_laws.specs.Standing.{Given, admitted, admitted_at, standing}
use Rattle.promises.specs.ServingPromise.Acks.{syncs_ticket}
use Rattle.promises.specs.ServingPromise.Asking.{AreAsked, AreGrouped, AreNeeded, AreOfReads, ArePutOff, blocks_of, is_read, is_write_at, stood, stood_at, touches, want_of}
use Rattle.promises.specs.ServingPromise.Served.{queued}
use Rattle.promises.specs.ReplyLaws.Asks.{AreBegun}
use Rattle.promises.proofs.ReplyLaws.Lists.{enumerate_append, flat_map_same, get_next, get_within, split}
use Rattle.promises.proofs.ReplyLaws.Places.{Agree, admits_alike, admits_before, admitted_alike, at_place}

-- ---- a history that goes on

-- each place of it is one of the history before, or this one
pub record GoesTo (history later : List Placed) (Next : ℕ → Placed → Type 0) : Type 0 where
  pub kept : (k : ℕ) (p : Placed) → slice_get history k ≡ Some p → slice_get later k ≡ Some p
  pub same : (k : ℕ) → k ≤ length history → take k later ≡ take k history
  pub which : (k : ℕ) (p : Placed) → slice_get later k ≡ Some p → (slice_get history k ≡ Some p) ⊎ Next k p
  pub longer : length history ≤ length later

-- a history goes on by nothing
pub stays_there : (history : List Placed) → GoesTo history history (λ k p. ⊥)
stays_there history = record { kept = λ k p at. at; same = λ k within. refl; which = λ k p at. inl at; longer = omega arith }

-- a history goes on by one placement at its end
pub goes_next : (history : List Placed) (p : Placed) → GoesTo history (history ++ p ∷ []) (λ k q. (k ≡ length history) × (p ≡ q))
goes_next history p = record {
  kept = λ k q at. slice_get-append history (p ∷ []) k (get_within history k q at) ∙ at;
  same = λ k within. take-append-le k history (p ∷ []) within;
  which = λ k q at. by k q (get_next history p k q at);
  longer = omega (arith, length-append history (p ∷ []));
}
  where
    by : (k : ℕ) (q : Placed) → ((k < length history) × (slice_get history k ≡ Some q)) ⊎ ((k ≡ length history) × (p ≡ q)) → (slice_get history k ≡ Some q) ⊎ ((k ≡ length history) × (p ≡ q))
    by k q (inl a) = inl a.1
    by k q (inr a) = inr a

-- ---- events that come

-- what is picked from events is picked from those before or from those that came
picked : {X : Type 0} (f : Event → Option X) (before added : List Event) (x : X) → Contains (filter_map f (before ++ added)) x → Contains (filter_map f before) x ⊎ Contains (filter_map f added) x
picked f before added x has = Contains-append_cases (filter_map f before) (filter_map f added) x (subst (λ xs. Contains xs x) (filter_map-append f before added) has)

picked_before : {X : Type 0} (f : Event → Option X) (before added : List Event) (x : X) → Contains (filter_map f before) x → Contains (filter_map f (before ++ added)) x
picked_before f before added x has = subst (λ xs. Contains xs x) (sym (filter_map-append f before added)) (Contains-append_left (filter_map f before) (filter_map f added) x has)

-- what added events bring is brought by the longer trail
pub picked_later : {X : Type 0} (f : Event → Option X) (before added : List Event) (x : X) → Contains (filter_map f added) x → Contains (filter_map f (before ++ added)) x
picked_later f before added x has = subst (λ xs. Contains xs x) (sym (filter_map-append f before added)) (Contains-append_right (filter_map f before) (filter_map f added) x has)

-- a place that was touched stays touched
pub touched_before : (place : Place) (before added : List Event) → list_any (touches place) before ≡ true → list_any (touches place) (before ++ added) ≡ true
touched_before place before added e = list_any-append (touches place) before added ∙ or_left (list_any (touches place) before) (list_any (touches place) added) e

-- ---- blocks

stands_same : (g : Given) (on off : Option ℕ) (history later : List Placed) (k : ℕ) → k < length history → take k later ≡ take k history → Agree g.mounted on off (length history) → standing g on later k ≡ standing g off history k
stands_same g on off history later k less same agree = at_place (λ b st. st) g on off history later k less same agree

module _ (g : Given) (on off : Option ℕ) (history later : List Placed) (Next : ℕ → Placed → Type 0) (before added : List Event) (goes : GoesTo history later Next) (agree : Agree g.mounted on off (length history)) where
  -- each block is still asked for by a read that is done
  pub of_reads_on : AreOfReads g.calls history before
      → ((ticket : ℕ) (place : Place) → Contains (filter_map want_of added) (ticket, place) → (p : Placed) × (slice_get later ticket ≡ Some p) × (p.fate ≡ fates.Done) × (is_read (call_at g.calls p) ≡ true))
      → AreOfReads g.calls later (before ++ added)
  of_reads_on are more ticket place has = by (picked want_of before added (ticket, place) has)
    where
      by : Contains (filter_map want_of before) (ticket, place) ⊎ Contains (filter_map want_of added) (ticket, place) → (p : Placed) × (slice_get later ticket ≡ Some p) × (p.fate ≡ fates.Done) × (is_read (call_at g.calls p) ≡ true)
      by (inl old) = let q = are ticket place old in (q.0, goes.kept ticket q.0 q.1, q.2, q.3)
      by (inr new) = more ticket place new

  -- each block that is asked for is still one that its read needs
  pub needed_on : AreNeeded g off history before
      → ((ticket : ℕ) (place : Place) → Contains (filter_map want_of added) (ticket, place) → (p : Placed) × (slice_get later ticket ≡ Some p) × Contains (blocks_of (standing g on later ticket) (call_at g.calls p)) place)
      → AreNeeded g on later (before ++ added)
  needed_on are more ticket place has = by (picked want_of before added (ticket, place) has)
    where
      by : Contains (filter_map want_of before) (ticket, place) ⊎ Contains (filter_map want_of added) (ticket, place) → (p : Placed) × (slice_get later ticket ≡ Some p) × Contains (blocks_of (standing g on later ticket) (call_at g.calls p)) place
      by (inl old) =
          let q = are ticket place old in
          let less : ticket < length history = get_within history ticket q.0 q.1 in (
            q.0,
            goes.kept ticket q.0 q.1,
            subst (λ st. Contains (blocks_of st (call_at g.calls q.0)) place) (sym (stands_same g on off history later ticket less (goes.same ticket (omega (arith, less))) agree)) q.2,
          )
      by (inr new) = more ticket place new

  -- each block that a read needs is still asked for, or was touched
  pub asked_on : AreAsked g off history before
      → ((k : ℕ) (p : Placed) (place : Place) → Next k p → p.fate ≡ fates.Done → Contains (blocks_of (standing g on later k) (call_at g.calls p)) place
      → Contains (filter_map want_of (before ++ added)) (k, place) ⊎ (list_any (touches place) (before ++ added) ≡ true))
      → AreAsked g on later (before ++ added)
  asked_on are more k p place at done has = by (goes.which k p at)
    where
      old : Contains (filter_map want_of before) (k, place) ⊎ (list_any (touches place) before ≡ true) → Contains (filter_map want_of (before ++ added)) (k, place) ⊎ (list_any (touches place) (before ++ added) ≡ true)
      old (inl wants) = inl (picked_before want_of before added (k, place) wants)
      old (inr touched) = inr (touched_before place before added touched)

      by : (slice_get history k ≡ Some p) ⊎ Next k p → Contains (filter_map want_of (before ++ added)) (k, place) ⊎ (list_any (touches place) (before ++ added) ≡ true)
      by (inl was) =
          let less : k < length history = get_within history k p was in
          old (are k p place was done (subst (λ st. Contains (blocks_of st (call_at g.calls p)) place) (stands_same g on off history later k less (goes.same k (omega (arith, less))) agree) has))
      by (inr next) = more k p place next done has

-- ---- writes

-- how many ops stood when each of the events that came was queued
abbrev pub stood_later : State → List Event → List ℕ
stood_later st added = filter_map (λ n. n) (scan after stood_at st added)

-- how many ops stood as each was queued, over a trail that goes on
pub stood_append : (before added : List Event) → stood (before ++ added) ≡ stood before ++ stood_later (after_all before) added
stood_append before added =
    ap (filter_map (λ n. n)) (scan-append after stood_at start before added) ∙ filter_map-append (λ n. n) (scan after stood_at start before) (scan after stood_at (after_all before) added)

stood_one : (st : State) (e : Event) → length (filter_map (λ n. n) (stood_at st e ∷ [])) ≡ length (filter_map queued (e ∷ []))
stood_one st (events.Wants ticket place) = refl
stood_one st (events.Queues place) = refl
stood_one st (events.Syncs ticket) = refl
stood_one st (events.Synced ticket) = refl
stood_one st (events.Drains who) = refl
stood_one st (events.Rests who) = refl
stood_one st (events.Served ticket place fault) = refl
stood_one st (events.Worked place fault) = refl

stood_from : (st : State) (added : List Event) → length (stood_later st added) ≡ length (filter_map queued added)
stood_from st [] = refl
stood_from st (e ∷ more) =
    omega (arith, stood_one st e, stood_from (after st e) more, ap length (filter_map-append (λ n. n) (stood_at st e ∷ []) (scan after stood_at (after st e) more)), length-append (filter_map (λ n. n) (stood_at st e ∷ [])) (stood_later (after st e) more), ap length (filter_map-append queued (e ∷ []) more), length-append (filter_map queued (e ∷ [])) (filter_map queued more))

-- for each op that is queued it is told how many stood
pub stood_long : (trail : List Event) → length (stood trail) ≡ length (filter_map queued trail)
stood_long trail = stood_from start trail

-- the ops of a front of a history, and of one placement behind it, are no more than all
admitted_front : (g : Given) (on : Option ℕ) (front : List Placed) (p : Placed) (rest : List Placed) → length (admitted g on front) + length (admitted_at g on (front ++ p ∷ rest) (length front) p) ≤ length (admitted g on (front ++ p ∷ rest))
admitted_front g on front p rest =
    let f = λ (e : ℕ × Placed). admitted_at g on (front ++ p ∷ rest) e.0 e.1 in
    let cut : enumerate_from 0 (front ++ p ∷ rest) ≡ enumerate_from 0 front ++ enumerate_from (0 + length front) (p ∷ rest) = enumerate_append 0 front (p ∷ rest) in
    let front_is : flat_map f (enumerate_from 0 front) ≡ admitted g on front = flat_map_same f (λ e. admitted_at g on front e.0 e.1) 0 front (λ k q less. admits_before g on front (front ++ p ∷ rest) k q (take-append-le k front (p ∷ rest) (omega (arith, less)))) in
    let whole : admitted g on (front ++ p ∷ rest) ≡ flat_map f (enumerate_from 0 front) ++ (f (0 + length front, p) ++ flat_map f (enumerate_from (0 + length front + 1) rest)) =
    ap (flat_map f) cut ∙ flat_map-append f (enumerate_from 0 front) (enumerate_from (0 + length front) (p ∷ rest)) in
    let zero_add : 0 + length front ≡ length front = omega arith in
    omega (arith, ap length whole, ap length front_is, length-append (flat_map f (enumerate_from 0 front)) (f (0 + length front, p) ++ flat_map f (enumerate_from (0 + length front + 1) rest)), length-append (f (0 + length front, p)) (flat_map f (enumerate_from (0 + length front + 1) rest)), ap (λ n. length (f (n, p))) zero_add)

parted : (history : List Placed) (k : ℕ) (p : Placed) → slice_get history k ≡ Some p → take k history ++ p ∷ drop (suc k) history ≡ history
parted [] k p e = cc
parted (q ∷ qs) zero p e = ap (λ x. x ∷ qs) (sym (same_Some q p e))
parted (q ∷ qs) (suc k) p e = ap (λ xs. q ∷ xs) (parted qs k p e)

-- where a placement admits an op, it isn't the last of those that the history admits before
below_all : (g : Given) (on : Option ℕ) (history : List Placed) (k : ℕ) (p : Placed) → slice_get history k ≡ Some p → 0 < length (admitted_at g on history k p) → length (admitted g on (take k history)) < length (admitted g on history)
below_all g on history k p at some =
    let within : k < length history = get_within history k p at in
    let long : length (take k history) ≡ k = length-take-le k history (omega (arith, within)) in
    let one = admitted_front g on (take k history) p (drop (suc k) history) in
    let two = subst (λ h. length (admitted g on (take k history)) + length (admitted_at g on h (length (take k history)) p) ≤ length (admitted g on h)) (parted history k p at) one in
    omega (arith, some, subst (λ n. length (admitted g on (take k history)) + length (admitted_at g on history n p) ≤ length (admitted g on history)) long two)

-- the first op of each write is still queued where at most 64 stand
pub put_off_on : (g : Given) (on off : Option ℕ) (history later : List Placed) (Next : ℕ → Placed → Type 0) (before added : List Event) → GoesTo history later Next → Agree g.mounted on off (length history)
    → filter_map queued before ≡ map place_of (admitted g off history) → ArePutOff g off history before
    → ((k : ℕ) (p : Placed) → Next k p → is_write_at (call_at g.calls p) ≡ true → 0 < length (admitted_at g on later k p)
    → IfSome (slice_get (stood (before ++ added)) (length (admitted g on (take k later)))) (λ n. n ≤ 64))
    → ArePutOff g on later (before ++ added)
put_off_on g on off history later Next before added goes agree queues are more k p at write some = by (goes.which k p at)
  where
    by : (slice_get history k ≡ Some p) ⊎ Next k p → IfSome (slice_get (stood (before ++ added)) (length (admitted g on (take k later)))) (λ n. n ≤ 64)
    by (inr next) = more k p next write some
    by (inl was) =
        let less : k < length history = get_within history k p was in
        let same : take k later ≡ take k history = goes.same k (omega (arith, less)) in
        let here : admitted_at g on later k p ≡ admitted_at g off history k p = admits_before g on history later k p same ∙ admits_alike g on off history k p less agree in
        let has : 0 < length (admitted_at g off history k p) = omega (arith, some, ap length here) in
        let long : length (take k history) ≡ k = length-take-le k history (omega (arith, less)) in
        let agreed : Agree g.mounted on off (length (take k history)) = λ n low. agree n (omega (arith, low, long, less)) in
        let count : length (admitted g on (take k later)) ≡ length (admitted g off (take k history)) = ap (λ h. length (admitted g on h)) same ∙ ap length (admitted_alike g on off (take k history) agreed) in
        let low : length (admitted g off (take k history)) < length (stood before) =
        omega (arith, below_all g off history k p was has, stood_long before, ap length queues, length-map (admitted g off history) place_of) in
        let got : slice_get (stood (before ++ added)) (length (admitted g on (take k later))) ≡ slice_get (stood before) (length (admitted g off (take k history))) =
        ap (slice_get (stood (before ++ added))) count
        ∙ ap (λ ns. slice_get ns (length (admitted g off (take k history)))) (stood_append before added)
        ∙ slice_get-append (stood before) (stood_later (after_all before) added) (length (admitted g off (take k history))) low in
        subst (λ o. IfSome o (λ n. n ≤ 64)) (sym got) (are k p was write has)

-- ---- syncs

-- each sync still begins once all ops admitted up to it are queued
pub grouped_on : (g : Given) (on off : Option ℕ) (history later : List Placed) (Next : ℕ → Placed → Type 0) (before added : List Event) → GoesTo history later Next → Agree g.mounted on off (length history)
    → AreBegun history before → AreGrouped g off history before
    → ((front rest : List Event) (ticket : ℕ) → added ≡ front ++ events.Syncs ticket ∷ rest → length (filter_map queued (before ++ front)) ≡ length (admitted g on (take (ticket + 1) later)))
    → AreGrouped g on later (before ++ added)
grouped_on g on off history later Next before added goes agree begun are more front rest ticket e = by (split before added front (events.Syncs ticket) rest e)
  where
    by : ((tail : List Event) × (before ≡ front ++ events.Syncs ticket ∷ tail)) ⊎ ((mid : List Event) × (front ≡ before ++ mid) × (added ≡ mid ++ events.Syncs ticket ∷ rest)) → length (filter_map queued front) ≡ length (admitted g on (take (ticket + 1) later))
    by (inr new) = ap (λ es. length (filter_map queued es)) new.1 ∙ more new.0 rest ticket new.2
    by (inl old) =
        let less : ticket < length history = begun ticket (subst (λ es. Contains (filter_map syncs_ticket es) ticket) (sym old.1) (picked_later syncs_ticket front (events.Syncs ticket ∷ old.0) ticket (zero, omega arith, refl))) in
        let long : length (take (ticket + 1) history) ≡ ticket + 1 = length-take-le (ticket + 1) history (omega (arith, less)) in
        let agreed : Agree g.mounted on off (length (take (ticket + 1) history)) = λ n low. agree n (omega (arith, low, long, less)) in
        are front old.0 ticket old.1
        ∙ sym (ap (λ h. length (admitted g on h)) (goes.same (ticket + 1) (omega (arith, less))) ∙ ap length (admitted_alike g on off (take (ticket + 1) history) agreed))

-- each sync that began still has its place in the history
pub begun_on : (history later : List Placed) (Next : ℕ → Placed → Type 0) (before added : List Event) → GoesTo history later Next → AreBegun history before
    → ((ticket : ℕ) → Contains (filter_map syncs_ticket added) ticket → ticket < length later) → AreBegun later (before ++ added)
begun_on history later Next before added goes are more ticket has = by (picked syncs_ticket before added ticket has)
  where
    by : Contains (filter_map syncs_ticket before) ticket ⊎ Contains (filter_map syncs_ticket added) ticket → ticket < length later
    by (inl old) = omega (arith, are ticket old, goes.longer)
    by (inr new) = more ticket new
