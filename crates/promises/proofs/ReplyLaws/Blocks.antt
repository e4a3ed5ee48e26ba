-- The blocks for which a submission asks.
use Rattle.std.specs.Prelude.{◌≡◌, ◌⊎◌, ◌||◌, ◌&&◌, ◌==◌, not, ℕ, Bool, true, false, cond, List, [], ◌∷◌, ◌++◌, map, drop, filter_map, fold, Contains, Option, Some, None}
use Rattle.std.specs.List.{list_any}
use Rattle.std.proofs.Common.{refl, sym, ap, ◌∙◌, subst, inl, inr, ⊎_elim, arith}
use Rattle.std.proofs.lemmas.List.{append-nil, map-append}
use Rattle.std.proofs.lemmas.List.Elements.{filter_map-append}
use Rattle.std.proofs.lemmas.List.Folds.{list_any-append}
use Rattle.std.proofs.lemmas.Bool.{or_left, or_right, or_cases}
use Rattle.tape_types.specs.declared.cartridges.Part.{Part}
use Rattle.tape_types.specs.declared.cartridges.Part.TheVariants.{Ip, Dp}
use Rattle.tape_types.specs.declared.cartridges.Place.{Place}
use Rattle.plain_tree.specs.Refusals.{refusal_of}
use Rattle.plain_tree.specs.declared.calls.Call.{Call}
use Rattle.plain_tree.specs.declared.calls.Call.TheVariants.{Write, Read, Sync}
use Rattle.session_script.specs.declared.logs.Event.{Event}
use Rattle.session_script.specs.declared.logs.Event.TheVariants as events
use Rattle.head_queue.specs.EventLaws.Trail.{after, after_all, after_op, puts_at, without_first_waiter}
use Rattle.head_queue.specs.EventLaws.Waiting.{Op, Request, State, Waiter, ops, put_at, same_part, same_place, start, waiting_op, with_flushes}
use Rattle.space_laws.specs.Standing.{Standing, uid_at}
use Rattle.promises.specs.ServingPromise.Asking.{blocks_of, is_read, touches, want_of}
use Rattle.promises.specs.ServingPromise.Submits.{Asks, IsOfDone, blocks_in, passes, queues_at, synced_at}
use Rattle.promises.specs.ServingPromise.Cached.{IsCache, ReadsBlocks, is_held, wanted, was_read}
use Rattle.promises.proofs.ServingPromise.CacheLaws.{passing_asks, refused_asks}
use Rattle.extent_map.specs.Replies.{distinct}
use Rattle.block_cache.specs.Kept.{Kept, is_cached}
use Rattle.promises.proofs.ReplyLaws.Distinct.{cached_read, distinct_in, filter_in, in_distinct, in_filter}
use Rattle.promises.proofs.ReplyLaws.Lists.{and_first, and_second, in_cases, in_first, in_none, in_rest, picks_none}

-- ---- places

part_is : (p q : Part) → same_part p q ≡ true → p ≡ q
part_is Ip Ip e = refl
part_is Ip Dp e = cc
part_is Dp Ip e = cc
part_is Dp Dp e = refl

-- numbers that the test calls equal are equal
pub number_is : (m n : ℕ) → (m == n) ≡ true → m ≡ n
number_is m n e = grind (arith, e)

abbrev at : Part → ℕ → Place
at part pos = record { part = part; pos = pos }

place_is : (a b : Place) → same_place a b ≡ true → a ≡ b
place_is a b e =
    ap (λ p. at p a.pos) (part_is a.part b.part (and_first (same_part a.part b.part) (a.pos == b.pos) e))
    ∙ ap (λ n. at b.part n) (number_is a.pos b.pos (and_second (same_part a.part b.part) (a.pos == b.pos) e))

part_itself : (p : Part) → same_part p p ≡ true
part_itself Ip = refl
part_itself Dp = refl

-- the test calls a number equal to itself
pub number_itself : (n : ℕ) → (n == n) ≡ true
number_itself n = by (n == n) refl
  where
    by : (b : Bool) → (n == n) ≡ b → (n == n) ≡ true
    by true e = e
    by false e = grind (arith, e)

place_itself : (a : Place) → same_place a a ≡ true
place_itself a = ap (λ b. b && (a.pos == a.pos)) (part_itself a.part) ∙ number_itself a.pos

turned : (a b : Place) → same_place a b ≡ true → same_place b a ≡ true
turned a b e = subst (λ x. same_place b x ≡ true) (sym (place_is a b e)) (place_itself b)

same_in : (place : Place) (places : List Place) → list_any (same_place place) places ≡ true → Contains places place
same_in place [] e = absurd (cc)
same_in place (x ∷ xs) e = by (same_in place xs) (same_place place x) refl
  where
    by : (list_any (same_place place) xs ≡ true → Contains xs place) → (b : Bool) → same_place place x ≡ b → Contains (x ∷ xs) place
    by more true is = subst (λ y. Contains (y ∷ xs) place) (place_is place x is) (in_first place xs)
    by more false is = in_rest x xs place (more (sym (ap (λ b. b || list_any (same_place place) xs) is) ∙ e))

-- ---- an op that stands was queued

any_split : {X : Type 0} (p : X → Bool) (xs ys : List X) → list_any p (xs ++ ys) ≡ true → (list_any p xs ≡ true) ⊎ (list_any p ys ≡ true)
any_split p xs ys e = or_cases (list_any p xs) (list_any p ys) (sym (list_any-append p xs ys) ∙ e)

any_left : {X : Type 0} (p : X → Bool) (xs ys : List X) → list_any p xs ≡ true → list_any p (xs ++ ys) ≡ true
any_left p xs ys e = list_any-append p xs ys ∙ or_left (list_any p xs) (list_any p ys) e

any_right : {X : Type 0} (p : X → Bool) (xs ys : List X) → list_any p ys ≡ true → list_any p (xs ++ ys) ≡ true
any_right p xs ys e = list_any-append p xs ys ∙ or_right (list_any p xs) (list_any p ys) e

any_first : {X : Type 0} (p : X → Bool) (xs : List X) → list_any p (drop 1 xs) ≡ true → list_any p xs ≡ true
any_first p [] e = e
any_first p (x ∷ xs) e = or_right (p x) (list_any p xs) e

-- a flush puts nothing, so a sync's ops put what the group puts
flushes_put : (place : Place) (group : List Place) → list_any (puts_at place) (with_flushes group) ≡ true → list_any (puts_at place) (map put_at group) ≡ true
flushes_put place [] e = e
flushes_put place (p ∷ later) e = by (flushes_put place later) (or_cases (not flush && same_place p place) (list_any (puts_at place) (with_flushes later)) e)
  where
    flush : Bool
    flush = not (list_any (λ q. same_part p.part q.part) later)

    by : (list_any (puts_at place) (with_flushes later) ≡ true → list_any (puts_at place) (map put_at later) ≡ true) → ((not flush && same_place p place) ≡ true) ⊎ (list_any (puts_at place) (with_flushes later) ≡ true)
        → list_any (puts_at place) (map put_at (p ∷ later)) ≡ true
    by more (inl is) = or_left (same_place p place) (list_any (puts_at place) (map put_at later)) (and_second (not flush) (same_place p place) is)
    by more (inr is) = or_right (same_place p place) (list_any (puts_at place) (map put_at later)) (more is)

done_puts : (place head : Place) (arrived : ℕ) (requests : List Request) (done : ℕ) (ended : List Op) (group : List Place) (syncs : List Waiter) (drains : List ℕ) (op : Op)
    → list_any (puts_at place) (ops (after_op (Some op) (record { head = head; arrived = arrived; requests = requests; done = done; ended = ended; group = group; syncs = syncs; drains = drains }))) ≡ true
    → list_any (puts_at place) (ended ++ map put_at group) ≡ true
done_puts place head arrived requests done [] [] syncs drains op e = e
done_puts place head arrived requests done [] (p ∷ group) syncs drains op e = or_right (puts_at place (put_at p)) (list_any (puts_at place) (map put_at group)) e
done_puts place head arrived requests done (o ∷ ended) group syncs drains op e = or_right (puts_at place o) (list_any (puts_at place) (ended ++ map put_at group)) e

worked_puts : (place : Place) (st : State) (waits : Option Op) → list_any (puts_at place) (ops (after_op waits st)) ≡ true → list_any (puts_at place) (ops st) ≡ true
worked_puts place st None e = e
worked_puts place st (Some op) e = done_puts place st.head st.arrived st.requests st.done st.ended st.group st.syncs st.drains op e

failed_puts : (place head : Place) (arrived : ℕ) (requests : List Request) (done : ℕ) (ended : List Op) (group : List Place) (syncs : List Waiter) (drains : List ℕ)
    → list_any (puts_at place) (ops (without_first_waiter (record { head = head; arrived = arrived; requests = requests; done = done; ended = ended; group = group; syncs = syncs; drains = drains }))) ≡ true
    → list_any (puts_at place) (ended ++ map put_at group) ≡ true
failed_puts place head arrived requests done ended group [] drains e = e
failed_puts place head arrived requests done ended group (s ∷ syncs) drains e = e

puts_one : (place : Place) (st : State) (e : Event) → list_any (puts_at place) (ops (after st e)) ≡ true → (list_any (puts_at place) (ops st) ≡ true) ⊎ (touches place e ≡ true)
puts_one place st (events.Wants ticket there) h = inl h
puts_one place st (events.Queues there) h = by (any_split (puts_at place) st.ended (map put_at (st.group ++ there ∷ [])) h)
  where
    more : list_any (puts_at place) (map put_at (st.group ++ there ∷ [])) ≡ true → (list_any (puts_at place) (map put_at st.group) ≡ true) ⊎ (list_any (puts_at place) (put_at there ∷ []) ≡ true)
    more is = any_split (puts_at place) (map put_at st.group) (put_at there ∷ []) (sym (ap (list_any (puts_at place)) (map-append put_at st.group (there ∷ []))) ∙ is)

    one : (list_any (puts_at place) (map put_at st.group) ≡ true) ⊎ (list_any (puts_at place) (put_at there ∷ []) ≡ true) → (list_any (puts_at place) (ops st) ≡ true) ⊎ (same_place place there ≡ true)
    one (inl is) = inl (any_right (puts_at place) st.ended (map put_at st.group) is)
    one (inr is) = inr (turned there place (sole (same_place there place) is))
      where
        sole : (b : Bool) → (b || false) ≡ true → b ≡ true
        sole true e = refl
        sole false e = cc

    by : (list_any (puts_at place) st.ended ≡ true) ⊎ (list_any (puts_at place) (map put_at (st.group ++ there ∷ [])) ≡ true) → (list_any (puts_at place) (ops st) ≡ true) ⊎ (same_place place there ≡ true)
    by (inl is) = inl (any_left (puts_at place) st.ended (map put_at st.group) is)
    by (inr is) = one (more is)
puts_one place st (events.Syncs ticket) h = inl (by (any_split (puts_at place) st.ended (with_flushes st.group) (sym (ap (list_any (puts_at place)) (append-nil (st.ended ++ with_flushes st.group))) ∙ h)))
  where
    by : (list_any (puts_at place) st.ended ≡ true) ⊎ (list_any (puts_at place) (with_flushes st.group) ≡ true) → list_any (puts_at place) (ops st) ≡ true
    by (inl is) = any_left (puts_at place) st.ended (map put_at st.group) is
    by (inr is) = any_right (puts_at place) st.ended (map put_at st.group) (flushes_put place st.group is)
puts_one place st (events.Synced ticket) h = inl h
puts_one place st (events.Drains who) h = inl h
puts_one place st (events.Rests who) h = inl h
puts_one place st (events.Served ticket there None) h = inl h
puts_one place st (events.Served ticket there (Some counts)) h = inl h
puts_one place st (events.Worked there None) h = inl (worked_puts place st (waiting_op st) h)
puts_one place st (events.Worked there (Some counts)) h = inl (failed_puts place st.head st.arrived st.requests st.done st.ended st.group st.syncs st.drains h)

puts_from : (place : Place) (st : State) (trail : List Event) → list_any (puts_at place) (ops (fold after st trail)) ≡ true → (list_any (puts_at place) (ops st) ≡ true) ⊎ (list_any (touches place) trail ≡ true)
puts_from place st [] h = inl h
puts_from place st (e ∷ later) h = by (puts_from place (after st e) later h)
  where
    first : (list_any (puts_at place) (ops st) ≡ true) ⊎ (touches place e ≡ true) → (list_any (puts_at place) (ops st) ≡ true) ⊎ ((touches place e || list_any (touches place) later) ≡ true)
    first (inl is) = inl is
    first (inr is) = inr (or_left (touches place e) (list_any (touches place) later) is)

    by : (list_any (puts_at place) (ops (after st e)) ≡ true) ⊎ (list_any (touches place) later ≡ true) → (list_any (puts_at place) (ops st) ≡ true) ⊎ ((touches place e || list_any (touches place) later) ≡ true)
    by (inl is) = first (puts_one place st e is)
    by (inr is) = inr (or_right (touches place e) (list_any (touches place) later) is)

stands_touched : (place : Place) (trail : List Event) → list_any (puts_at place) (ops (after_all trail)) ≡ true → list_any (touches place) trail ≡ true
stands_touched place trail h = ⊎_elim (λ no. absurd (let n : false ≡ true = no in cc)) (λ is. is) (puts_from place start trail h)

read_touches : (place : Place) (e : Event) → was_read place e ≡ true → touches place e ≡ true
read_touches place (events.Wants ticket there) h = h
read_touches place (events.Queues there) h = cc
read_touches place (events.Syncs ticket) h = h
read_touches place (events.Synced ticket) h = h
read_touches place (events.Drains who) h = h
read_touches place (events.Rests who) h = h
read_touches place (events.Served ticket there fault) h = h
read_touches place (events.Worked there fault) h = h

read_touched : (place : Place) (trail : List Event) → list_any (was_read place) trail ≡ true → list_any (touches place) trail ≡ true
read_touched place [] h = h
read_touched place (e ∷ later) h = ⊎_elim (λ is. or_left (touches place e) (list_any (touches place) later) (read_touches place e is)) (λ is. or_right (touches place e) (list_any (touches place) later) (read_touched place later is)) (or_cases (was_read place e) (list_any (was_read place) later) h)

-- ---- what is asked

none_wanted : (added : List Event) (place : Place) (P : Type 0) → filter_map wanted added ≡ [] → Contains (filter_map wanted added) place → P
none_wanted added place P none has = absurd (in_none place (subst (λ ps. Contains ps place) none has))

-- each block that is asked for is one that the call needs
pub wanted_needed : (st : Standing) (before added : List Event) (old new : List Kept) (call : Option Call) (place : Place) → Asks st before added old new call → Contains (filter_map wanted added) place
    → Contains (blocks_of st call) place
wanted_needed st before added old new None place asks has = none_wanted added place _ asks.0 has
wanted_needed st before added old new (Some (Read path offset count)) place asks has = by (passes (refusal_of st.tree (Read path offset count))) refl
  where
    blocks : List Place
    blocks = blocks_in (st.files (uid_at st.tree.nodes path)) offset count

    among : ReadsBlocks (distinct blocks) before added old new → Contains blocks place
    among reads = in_distinct blocks place (in_filter (λ (at : Place). not (is_held before at || is_cached old at)) (distinct blocks) place
        (subst (λ places. Contains places place) reads.asks has))

    by : (b : Bool) → passes (refusal_of st.tree (Read path offset count)) ≡ b → Contains (cond (passes (refusal_of st.tree (Read path offset count))) blocks []) place
    by true is = subst (λ b. Contains (cond b blocks []) place) (sym is) (among (passing_asks st before added old new path offset count is asks))
    by false is = none_wanted added place _ (refused_asks st before added old new path offset count is asks).0 has
wanted_needed st before added old new (Some _) place asks has = none_wanted added place _ asks.0 has

-- each block that the call needs is asked for, or an op put it, or it was read
pub needed_wanted : (st : Standing) (before added : List Event) (old new : List Kept) (call : Option Call) (place : Place) → IsCache before old → Asks st before added old new call → Contains (blocks_of st call) place
    → Contains (filter_map wanted added) place ⊎ (list_any (touches place) before ≡ true)
needed_wanted st before added old new None place cache asks has = absurd (in_none place has)
needed_wanted st before added old new (Some (Read path offset count)) place cache asks has = by (passes (refusal_of st.tree (Read path offset count))) refl
  where
    blocks : List Place
    blocks = blocks_in (st.files (uid_at st.tree.nodes path)) offset count

    blocks_are : (b : Bool) → passes (refusal_of st.tree (Read path offset count)) ≡ b → Contains (cond b blocks []) place
    blocks_are b is = subst (λ b. Contains (cond b blocks []) place) is has

    none_of_both : (b c : Bool) → b ≡ false → c ≡ false → not (b || c) ≡ true
    none_of_both true c e f = absurd cc
    none_of_both false true e f = absurd cc
    none_of_both false false e f = refl

    either : ReadsBlocks (distinct blocks) before added old new → Contains blocks place → (b c : Bool) → is_held before place ≡ b → is_cached old place ≡ c
        → Contains (filter_map wanted added) place ⊎ (list_any (touches place) before ≡ true)
    either reads in_blocks true c held kept = inr (stands_touched place before held)
    either reads in_blocks false true held kept = inr (read_touched place before (cached_read before old place cache.read kept))
    either reads in_blocks false false held kept = inl (subst (λ places. Contains places place) (sym reads.asks)
        (filter_in (λ (at : Place). not (is_held before at || is_cached old at)) (distinct blocks) place (distinct_in blocks place in_blocks)
        (none_of_both (is_held before place) (is_cached old place) held kept)))

    by : (b : Bool) → passes (refusal_of st.tree (Read path offset count)) ≡ b → Contains (filter_map wanted added) place ⊎ (list_any (touches place) before ≡ true)
    by true is = either (passing_asks st before added old new path offset count is asks) (blocks_are true is) (is_held before place) (is_cached old place) refl refl
    by false is = absurd (in_none place (blocks_are false is))
needed_wanted st before added old new (Some _) place cache asks has = absurd (in_none place has)

-- ---- the requests of a call that is done

-- each block that is asked for, with the place of the read
abbrev pub asked_at : ℕ → List Place → List (ℕ × Place)
asked_at here places = map (λ place. (here, place)) places

reads_ask : (here : ℕ) (places : List Place) → filter_map want_of (map (λ place. events.Wants here place) places) ≡ asked_at here (filter_map wanted (map (λ place. events.Wants here place) places))
reads_ask here [] = refl
reads_ask here (p ∷ ps) = ap (λ more. (here, p) ∷ more) (reads_ask here ps)

-- queued ops bring nothing where an event of that kind brings nothing
pub queues_want : {X : Type 0} (f : Event → Option X) → ((place : Place) → f (events.Queues place) ≡ None) → (places : List Place) → filter_map f (queues_at places) ≡ []
queues_want f none [] = refl
queues_want f none (p ∷ ps) = picks_none f (events.Queues p) (queues_at ps) (none p) ∙ queues_want f none ps

-- an answer of a sync brings nothing where an event of that kind brings nothing
pub synced_want : {X : Type 0} (f : Event → Option X) → ((ticket : ℕ) → f (events.Synced ticket) ≡ None) → (here : ℕ) (stand : List Op) → filter_map f (synced_at here stand) ≡ []
synced_want f none here [] = picks_none f (events.Synced here) [] (none here)
synced_want f none here (o ∷ more) = refl

sync_wants : {X : Type 0} (f : Event → Option X) → ((place : Place) → f (events.Queues place) ≡ None) → ((ticket : ℕ) → f (events.Syncs ticket) ≡ None) → ((ticket : ℕ) → f (events.Synced ticket) ≡ None)
    → (here : ℕ) (places : List Place) (stand : List Op) → filter_map f (queues_at places ++ events.Syncs here ∷ synced_at here stand) ≡ []
sync_wants f queues syncs synced here places stand =
    filter_map-append f (queues_at places) (events.Syncs here ∷ synced_at here stand)
    ∙ ap (λ xs. xs ++ filter_map f (events.Syncs here ∷ synced_at here stand)) (queues_want f queues places)
    ∙ picks_none f (events.Syncs here) (synced_at here stand) (syncs here) ∙ synced_want f synced here stand

both_none : (here : ℕ) (added : List Event) → filter_map want_of added ≡ [] → filter_map wanted added ≡ [] → filter_map want_of added ≡ asked_at here (filter_map wanted added)
both_none here added a b = a ∙ sym (ap (asked_at here) b)

-- the blocks that a submission asks for are asked for by its own place
pub wants_here : (here : ℕ) (before : List Event) (call : Option Call) (added : List Event) → IsOfDone here before call added → filter_map want_of added ≡ asked_at here (filter_map wanted added)
wants_here here before None added is = both_none here added (ap (filter_map want_of) is) (ap (filter_map wanted) is)
wants_here here before (Some Sync) added is =
    both_none here added
    (ap (filter_map want_of) is.1 ∙ sync_wants want_of (λ place. refl) (λ ticket. refl) (λ ticket. refl) here is.0 (ops (after_all (before ++ queues_at is.0))))
    (ap (filter_map wanted) is.1 ∙ sync_wants wanted (λ place. refl) (λ ticket. refl) (λ ticket. refl) here is.0 (ops (after_all (before ++ queues_at is.0))))
wants_here here before (Some (Read path offset count)) added is = ap (filter_map want_of) is.1 ∙ reads_ask here is.0 ∙ ap (λ es. asked_at here (filter_map wanted es)) (sym is.1)
wants_here here before (Some (Write path offset bytes)) added is =
    both_none here added (ap (filter_map want_of) is.1 ∙ queues_want want_of (λ place. refl) is.0) (ap (filter_map wanted) is.1 ∙ queues_want wanted (λ place. refl) is.0)
wants_here here before (Some _) added is = both_none here added (ap (filter_map want_of) is) (ap (filter_map wanted) is)

-- only a read needs blocks
pub reads_need : (st : Standing) (call : Option Call) (place : Place) → Contains (blocks_of st call) place → is_read call ≡ true
reads_need st None place has = absurd (in_none place has)
reads_need st (Some (Read path offset count)) place has = refl
reads_need st (Some _) place has = absurd (in_none place has)

-- a block asked for by a place is of that place and among its blocks
pub pair_back : (here : ℕ) (places : List Place) (ticket : ℕ) (place : Place) → Contains (asked_at here places) (ticket, place) → (ticket ≡ here) × Contains places place
pair_back here [] ticket place has = absurd (in_none (ticket, place) has)
pair_back here (p ∷ ps) ticket place has = by (pair_back here ps ticket place) (in_cases (here, p) (asked_at here ps) (ticket, place) has)
  where
    by : (Contains (asked_at here ps) (ticket, place) → (ticket ≡ here) × Contains ps place) → (◌≡◌ {A = ℕ × Place} (here, p) (ticket, place)) ⊎ Contains (asked_at here ps) (ticket, place) → (ticket ≡ here) × Contains (p ∷ ps) place
    by back (inl e) = (sym (ap (λ (x : ℕ × Place). x.0) e), subst (λ q. Contains (p ∷ ps) q) (ap (λ (x : ℕ × Place). x.1) e) (in_first p ps))
    by back (inr more) = let q = back more in (q.0, in_rest p ps place q.1)

-- each of a place's blocks is asked for by that place
pub pair_there : (here : ℕ) (places : List Place) (place : Place) → Contains places place → Contains (asked_at here places) (here, place)
pair_there here [] place has = absurd (in_none place has)
pair_there here (p ∷ ps) place has = by (pair_there here ps place) (in_cases p ps place has)
  where
    by : (Contains ps place → Contains (asked_at here ps) (here, place)) → (p ≡ place) ⊎ Contains ps place → Contains (asked_at here (p ∷ ps)) (here, place)
    by there (inl e) = subst (λ q. Contains (asked_at here (p ∷ ps)) (here, q)) e (in_first (here, p) (asked_at here ps))
    by there (inr more) = in_rest (here, p) (asked_at here ps) (here, place) (there more)
