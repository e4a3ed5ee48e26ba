-- When the first flush of the data partition is done among events that go on, and how many ops were queued before it.
use Rattle.std.specs.Prelude.{◌≡◌, ◌+◌, ◌||◌, not, ℕ, suc, Bool, true, false, cond, List, [], ◌∷◌, All}
use Rattle.std.specs.Prelude.{◌++◌, fold, scan, filter_map, length, take_while, zip, Option, Some, None}
use Rattle.std.specs.List.{list_any}
use Rattle.std.proofs.Common.{refl, sym, ap, ◌∙◌, arith}
use Rattle.std.proofs.lemmas.List.Folds.{list_any-append}
use Rattle.std.proofs.lemmas.List.Sums.{take_while-cons}
use Rattle.std.proofs.lemmas.Bool.{or_from}
use Rattle.tape_types.proofs.LongerLists.{scan-append}
use Rattle.tape_types.specs.declared.cartridges.Place.{Place}
use Rattle.session_script.specs.declared.logs.Event.{Event}
use Rattle.session_script.specs.declared.logs.Event.TheVariants as events
use Rattle.head_queue.specs.EventLaws.Trail.{after, is_answer}
use Rattle.head_queue.specs.EventLaws.Waiting.{Op, State, waiting_op}
use Rattle.promises.specs.ServingPromise.Served.{queued}
use Rattle.promises.specs.ServingPromise.Steps.{does_dp_flush}
use Rattle.promises.specs.ReplyLaws.Sides.{does_op}

-- which of the events do a flush of the data partition, from a state on
abbrev pub flushes : State → List Event → List Bool
flushes st trail = scan after (λ st e. does_dp_flush (waiting_op st) e) st trail

-- some of the events does a flush of the data partition, from a state on
abbrev pub any_flush : State → List Event → Bool
any_flush st trail = list_any (λ is. is) (flushes st trail)

-- how many ops are queued by events before the first that does one
abbrev first_queued : Event × Bool → Option Place
first_queued e = queued e.0

abbrev is_before : Event × Bool → Bool
is_before e = not e.1

abbrev counted : List (Event × Bool) → ℕ
counted pairs = length (filter_map first_queued (take_while is_before pairs))

abbrev pub queued_until : State → List Event → ℕ
queued_until st trail = counted (zip trail (flushes st trail))

-- how many ops one event queues
abbrev one : Event → ℕ
one e = length (filter_map queued (e ∷ []))

-- ---- tests

or_first : (a b : Bool) → (a || b) ≡ false → a ≡ false
or_first false b h = refl
or_first true b h = cc

or_second : (a b : Bool) → (a || b) ≡ false → b ≡ false
or_second false b h = h
or_second true b h = cc

-- ---- one event

length_queued : (e : Event) (later : List Event)
    → length (filter_map queued (e ∷ later)) ≡ one e + length (filter_map queued later)
length_queued (events.Wants ticket place) later = omega arith
length_queued (events.Queues place) later = omega arith
length_queued (events.Syncs ticket) later = omega arith
length_queued (events.Synced ticket) later = omega arith
length_queued (events.Drains who) later = omega arith
length_queued (events.Rests who) later = omega arith
length_queued (events.Served ticket place fault) later = omega arith
length_queued (events.Worked place fault) later = omega arith

picked_first : (e : Event) (is : Bool) (pairs : List (Event × Bool))
    → length (filter_map first_queued ((e, is) ∷ pairs)) ≡ one e + length (filter_map first_queued pairs)
picked_first (events.Wants ticket place) is pairs = omega arith
picked_first (events.Queues place) is pairs = omega arith
picked_first (events.Syncs ticket) is pairs = omega arith
picked_first (events.Synced ticket) is pairs = omega arith
picked_first (events.Drains who) is pairs = omega arith
picked_first (events.Rests who) is pairs = omega arith
picked_first (events.Served ticket place fault) is pairs = omega arith
picked_first (events.Worked place fault) is pairs = omega arith

counted_first : (e : Event) (is : Bool) (pairs : List (Event × Bool))
    → counted ((e, is) ∷ pairs) ≡ cond is 0 (one e + counted pairs)
counted_first e true pairs = ap (λ ps. length (filter_map first_queued ps)) (take_while-cons is_before (e, true) pairs)
counted_first e false pairs =
    ap (λ ps. length (filter_map first_queued ps)) (take_while-cons is_before (e, false) pairs)
    ∙ picked_first e false (take_while is_before pairs)

until_first : (st : State) (e : Event) (later : List Event)
    → queued_until st (e ∷ later) ≡ cond (does_dp_flush (waiting_op st) e) 0 (one e + queued_until (after st e) later)
until_first st e later = counted_first e (does_dp_flush (waiting_op st) e) (zip later (flushes (after st e) later))

-- ---- events that go on

-- of two lists of events one does a flush just if the first does, or the second from there
pub flush_append : (st : State) (before added : List Event)
    → any_flush st (before ++ added) ≡ (any_flush st before || any_flush (fold after st before) added)
flush_append st before added =
    ap (list_any (λ is. is)) (scan-append after (λ st e. does_dp_flush (waiting_op st) e) st before added)
    ∙ list_any-append (λ is. is) (flushes st before) (flushes (fold after st before) added)

-- once one was done, what comes later changes nothing
pub until_stays : (st : State) (before added : List Event) → any_flush st before ≡ true
    → queued_until st (before ++ added) ≡ queued_until st before
until_stays st [] added h = cc
until_stays st (e ∷ before) added h =
    until_first st e (before ++ added)
    ∙ by (until_stays (after st e) before added) (does_dp_flush (waiting_op st) e) refl
    ∙ sym (until_first st e before)
  where
    more : ℕ
    more = queued_until (after st e) (before ++ added)

    less : ℕ
    less = queued_until (after st e) before

    by : (any_flush (after st e) before ≡ true → more ≡ less) → (is : Bool) → does_dp_flush (waiting_op st) e ≡ is
        → cond (does_dp_flush (waiting_op st) e) 0 (one e + more)
        ≡ cond (does_dp_flush (waiting_op st) e) 0 (one e + less)
    by later true is = rw is refl
    by later false is =
        ap (λ n. cond (does_dp_flush (waiting_op st) e) 0 (one e + n))
        (later (sym (ap (λ b. b || any_flush (after st e) before) is) ∙ h))

-- where none was done, all that was queued stands before the one that comes
pub until_now : (st : State) (before : List Event) (e : Event) (later : List Event) → any_flush st before ≡ false
    → does_dp_flush (waiting_op (fold after st before)) e ≡ true
    → queued_until st (before ++ e ∷ later) ≡ length (filter_map queued before)
until_now st [] e later none does =
    until_first st e later ∙ ap {B = ℕ} (λ is. cond is 0 (one e + queued_until (after st e) later)) does
until_now st (x ∷ before) e later none does =
    let first = or_first (does_dp_flush (waiting_op st) x) (any_flush (after st x) before) none in
    let second = or_second (does_dp_flush (waiting_op st) x) (any_flush (after st x) before) none in
    until_first st x (before ++ e ∷ later)
    ∙ ap {B = ℕ} (λ is. cond is 0 (one x + queued_until (after st x) (before ++ e ∷ later))) first
    ∙ ap (λ n. one x + n) (until_now (after st x) before e later second does)
    ∙ sym (length_queued x before)

-- ---- events that do no flush

no_flush : (waits : Option Op) (e : Event) → does_op e ≡ false → does_dp_flush waits e ≡ false
no_flush None e h = refl
no_flush (Some op) (events.Wants ticket place) h = refl
no_flush (Some op) (events.Queues place) h = refl
no_flush (Some op) (events.Syncs ticket) h = refl
no_flush (Some op) (events.Synced ticket) h = refl
no_flush (Some op) (events.Drains who) h = refl
no_flush (Some op) (events.Rests who) h = refl
no_flush (Some op) (events.Served ticket place fault) h = refl
no_flush (Some op) (events.Worked place None) h = cc
no_flush (Some op) (events.Worked place (Some counts)) h = refl

-- where no event does an op, none does a flush
pub none_flush : (st : State) (trail : List Event) → list_any does_op trail ≡ false → any_flush st trail ≡ false
none_flush st [] h = refl
none_flush st (e ∷ later) h =
    or_from (does_dp_flush (waiting_op st) e) (any_flush (after st e) later)
    (no_flush (waiting_op st) e (or_first (does_op e) (list_any does_op later) h))
    (none_flush (after st e) later (or_second (does_op e) (list_any does_op later) h))

-- the same of one op that waits all the while
pub none_flush_of : (waits : Option Op) (trail : List Event) → list_any does_op trail ≡ false
    → list_any (does_dp_flush waits) trail ≡ false
none_flush_of waits [] h = refl
none_flush_of waits (e ∷ later) h =
    or_from (does_dp_flush waits e) (list_any (does_dp_flush waits) later)
    (no_flush waits e (or_first (does_op e) (list_any does_op later) h))
    (none_flush_of waits later (or_second (does_op e) (list_any does_op later) h))

an_answer : (e : Event) → is_answer e ≡ true → does_op e ≡ false
an_answer (events.Synced ticket) h = refl
an_answer _ h = cc

-- answers do no op
pub answers_do_none : (answers : List Event) → All (λ a. is_answer a ≡ true) answers → list_any does_op answers ≡ false
answers_do_none [] all = refl
answers_do_none (a ∷ later) all =
    or_from (does_op a) (list_any does_op later) (an_answer a (all 0 a (omega arith)))
    (answers_do_none later (λ k d less. all (suc k) d (omega (arith, less))))
