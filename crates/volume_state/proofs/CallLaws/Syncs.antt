-- Each sync that waits is the call at its place.
use Rattle.std.specs.Prelude.{◌≡◌, ◌⊎◌, ◌==◌, ◌||◌, not, ℕ, ◌+◌, Bool, true, false, List, [], ◌∷◌, ◌++◌, filter_map, fold, length, Option, Some, None, slice_get}
use Rattle.std.specs.List.{cons_option, list_any}
use Rattle.std.proofs.Common.{⊎_elim, inl, inr, refl, sym, ap, subst, ◌∙◌, append_assoc}
use Rattle.std.proofs.lemmas.Bool.{eqb-true, eq-eqb, or_cases, or_left, or_right}
use Rattle.std.proofs.lemmas.List.Folds.{list_any-append}
use Rattle.std.proofs.lemmas.Option.{same_Some}
use Rattle.tape_types.proofs.LongerLists.{slice_get-seam}
use Rattle.tape_types.specs.declared.cartridges.Place.{Place}
use Rattle.plain_tree.specs.History.{Calls, call_at}
use Rattle.plain_tree.specs.declared.calls.Call.{Call}
use Rattle.plain_tree.specs.declared.calls.Call.TheVariants.{Sync}
use Rattle.plain_tree.specs.declared.calls.Fate.{Fate}
use Rattle.plain_tree.specs.declared.calls.Fate.TheVariants as fates
use Rattle.plain_tree.specs.declared.calls.Placed.{Placed}
use Rattle.session_script.specs.declared.logs.Event.{Event}
use Rattle.session_script.specs.declared.logs.Event.TheVariants.{Wants, Queues, Syncs, Synced, Drains, Rests, Served, Worked}
use Rattle.head_queue.specs.EventLaws.Trail.{after, after_all, without_first_waiter}
use Rattle.head_queue.specs.EventLaws.Waiting.{Op, Request, State, Waiter, start, waiting_op, with_flushes}
use Rattle.promises.specs.ServingPromise.Acks.{AreSyncs, done_syncs, syncs_ticket}
use Rattle.promises.proofs.OrderLaws.Frames.{syncs_it, worked_stays}
use Rattle.promises.proofs.OrderLaws.Lists.{any_filter, at_more}
use Rattle.promises.proofs.OrderLaws.Placing.{done_push_other, done_push_sync}
use Rattle.promises.proofs.OrderLaws.Rising.{has}

-- ---- a sync that waits began

abbrev Before : State → Event → ℕ → Type 0
Before st e k = (list_any (syncs_it k) st.syncs ≡ true) ⊎ (syncs_ticket e ≡ Some k)

first_before : (head : Place) (arrived : ℕ) (requests : List Request) (done : ℕ) (ended : List Op) (group : List Place) (syncs : List Waiter) (drains : List ℕ) (k : ℕ)
    → list_any (syncs_it k) (without_first_waiter (record { head = head; arrived = arrived; requests = requests; done = done; ended = ended; group = group; syncs = syncs; drains = drains })).syncs ≡ true
    → list_any (syncs_it k) syncs ≡ true
first_before head arrived requests done ended group [] drains k h = h
first_before head arrived requests done ended group (s ∷ syncs) drains k h = or_right (s.ticket == k) (list_any (syncs_it k) syncs) h

last_before : (syncs : List Waiter) (ticket due k : ℕ)
    → list_any (syncs_it k) (syncs ++ record { ticket = ticket; due = due } ∷ []) ≡ true
    → (list_any (syncs_it k) syncs ≡ true) ⊎ (Some ticket ≡ Some k)
last_before syncs ticket due k h =
    ⊎_elim (λ old. inl old) (λ new. inr (ap Some (eqb-true ticket k (one (ticket == k) new))))
    (or_cases (list_any (syncs_it k) syncs) ((ticket == k) || false) (sym (list_any-append (syncs_it k) syncs (record { ticket = ticket; due = due } ∷ [])) ∙ h))
  where
    one : (b : Bool) → (b || false) ≡ true → b ≡ true
    one true e = refl
    one false e = e

one_before : (st : State) (e : Event) (k : ℕ) → list_any (syncs_it k) (after st e).syncs ≡ true → Before st e k
one_before st (Wants ticket place) k h = inl h
one_before st (Queues place) k h = inl h
one_before st (Syncs ticket) k h = last_before st.syncs ticket (st.done + length (st.ended ++ with_flushes st.group)) k h
one_before st (Synced ticket) k h = inl (any_filter (syncs_it k) (λ (s : Waiter). not (s.ticket == ticket)) st.syncs h)
one_before st (Drains who) k h = inl h
one_before st (Rests who) k h = inl h
one_before st (Served ticket place None) k h = inl h
one_before st (Served ticket place (Some counts)) k h = inl h
one_before st (Worked place None) k h = inl (sym (ap (list_any (syncs_it k)) (worked_stays st (waiting_op st)).syncs) ∙ h)
one_before st (Worked place (Some counts)) k h = inl (first_before st.head st.arrived st.requests st.done st.ended st.group st.syncs st.drains k h)

has_first : (o : Option ℕ) (rest : List ℕ) (k : ℕ) → o ≡ Some k → has k (cons_option o rest) ≡ true
has_first None rest k e = absurd (cc)
has_first (Some n) rest k e = or_left (n == k) (has k rest) (eq-eqb n k (same_Some n k e))

has_later : (o : Option ℕ) (rest : List ℕ) (k : ℕ) → has k rest ≡ true → has k (cons_option o rest) ≡ true
has_later None rest k e = e
has_later (Some n) rest k e = or_right (n == k) (has k rest) e

began : (st : State) (events : List Event) (k : ℕ) → list_any (syncs_it k) (fold after st events).syncs ≡ true
    → (list_any (syncs_it k) st.syncs ≡ true) ⊎ (has k (filter_map syncs_ticket events) ≡ true)
began st [] k h = inl h
began st (e ∷ events) k h =
    ⊎_elim (λ now. ⊎_elim (λ old. inl old) (λ new. inr (has_first (syncs_ticket e) (filter_map syncs_ticket events) k new)) (one_before st e k now))
    (λ later. inr (has_later (syncs_ticket e) (filter_map syncs_ticket events) k later))
    (began (after st e) events k h)

none_at_start : (a : Bool) → (false ≡ true) ⊎ (a ≡ true) → a ≡ true
none_at_start a (inl never) = absurd (cc)
none_at_start a (inr is) = is

has_begun : (events : List Event) (k : ℕ) → list_any (syncs_it k) (after_all events).syncs ≡ true
    → has k (filter_map syncs_ticket events) ≡ true
has_begun events k h = none_at_start (has k (filter_map syncs_ticket events)) (began start events k h)

-- ---- and is done at its place

pub record IsSyncAt (calls : Calls) (history : List Placed) (k : ℕ) : Type 0 where
  pub placed : Placed
  pub at : slice_get history k ≡ Some placed
  pub sync : call_at calls placed ≡ Some Sync

abbrev AreSyncsAt : Calls → List Placed → Type 0
AreSyncsAt calls history = (k : ℕ) → has k (done_syncs calls history) ≡ true → IsSyncAt calls history k

longer : (calls : Calls) (history : List Placed) (q : Placed) (k : ℕ) → IsSyncAt calls history k
    → IsSyncAt calls (history ++ q ∷ []) k
longer calls history q k s = record { placed = s.placed; at = at_more history (q ∷ []) k s.placed s.at; sync = s.sync }

one_placed : (calls : Calls) (history : List Placed) (q : Placed) (fate : Fate) (call : Option Call) → q.fate ≡ fate
    → call_at calls q ≡ call → AreSyncsAt calls history
    → AreSyncsAt calls (history ++ q ∷ [])
one_placed calls history q fates.Done (Some Sync) fate call are k h =
    ⊎_elim (λ old. longer calls history q k (are k old))
    (λ new. record { placed = q; at = subst (λ n. slice_get (history ++ q ∷ []) n ≡ Some q) (eqb-true (length history) k (one (length history == k) new)) (slice_get-seam history q); sync = call })
    (or_cases (has k (done_syncs calls history)) ((length history == k) || false)
    (sym (list_any-append (λ x. x == k) (done_syncs calls history) (length history ∷ [])) ∙ sym (ap (has k) (done_push_sync calls history q fate call)) ∙ h))
  where
    one : (b : Bool) → (b || false) ≡ true → b ≡ true
    one true e = refl
    one false e = e
one_placed calls history q fates.Done None fate call are k h =
    longer calls history q k (are k (sym (ap (has k) (done_push_other calls history q fates.Done None fate call (λ e. refl))) ∙ h))
one_placed calls history q fates.Done (Some other) fate call are k h =
    longer calls history q k (are k (sym (ap (has k) (done_push_other calls history q fates.Done (Some other) fate call (λ e. refl))) ∙ h))
one_placed calls history q fates.Void call fate is are k h =
    longer calls history q k (are k (sym (ap (has k) (done_push_other calls history q fates.Void call fate is (λ e. absurd (cc)))) ∙ h))

go_on : (calls : Calls) (front behind : List Placed) → AreSyncsAt calls front → AreSyncsAt calls (front ++ behind)
go_on calls front [] are = subst (AreSyncsAt calls) (sym (Rattle.std.proofs.Common.append-nil front)) are
go_on calls front (q ∷ behind) are =
    subst (AreSyncsAt calls) (append_assoc front (q ∷ []) behind)
    (go_on calls (front ++ q ∷ []) behind (one_placed calls front q q.fate (call_at calls q) refl refl are))

-- each sync that waits is the call at its place
pub syncs_at : (calls : Calls) (history : List Placed) (events : List Event) (k : ℕ) → AreSyncs calls history events
    → list_any (syncs_it k) (after_all events).syncs ≡ true
    → IsSyncAt calls history k
syncs_at calls history events k are h =
    go_on calls [] history (λ k h. absurd (cc)) k (sym (ap (has k) are) ∙ has_begun events k h)
