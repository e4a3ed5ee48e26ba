-- Syncs that are answered.
use Rattle.std.specs.Prelude.{ℕ, zero, suc, ◌≡◌, ◌≢◌, ◌==◌, ◌<◌, ◌≤◌, ◌+◌, ◌||◌, not, nat_le, Bool, true, false, cond, List, [], ◌∷◌, ◌++◌, filter, length, map, Option, Some, None, slice_get, slice_set}
use Rattle.std.specs.List.{list_any}
use Rattle.std.proofs.Common.{refl, sym, ap, subst, ◌∙◌, arith}
use Rattle.std.proofs.lemmas.Bool.Decides.{nat_tests}
use Rattle.std.proofs.lemmas.List.{append_assoc, append-nil, map-append}
use Rattle.std.proofs.lemmas.List.Sums.{fold-append}
use Rattle.plain_tree.specs.declared.calls.Answer.TheVariants as the_answers
use Rattle.session_script.specs.declared.logs.Ack.{Ack}
use Rattle.session_script.specs.declared.logs.Event.{Event}
use Rattle.session_script.specs.declared.logs.Event.TheVariants.{Synced}
use Rattle.session_script.specs.declared.logs.Reply.{Reply}
use Rattle.session_script.specs.declared.logs.Reply.TheVariants as the_replies
use Rattle.head_queue.specs.EventLaws.Waiting.{State, Waiter, start}
use Rattle.head_queue.specs.EventLaws.Trail.{after, after_all}
use Rattle.event_journal.specs.Trails.{Journaled, due_of, due_ticket, state}
use Rattle.event_journal.specs.Placements.{Listed}
use Rattle.volume_state.specs.StateLaws.Parts.{Parts}
use Rattle.volume_state.specs.StateLaws.Stepping.{KeepsListed, acks_at, all_synced, replied, synced_events}
use Rattle.volume_core.specs.VolumeSteps.Moves.{AnswersSome, SyncsWait}

-- the test calls a number equal to itself
pub same_number : (n : ℕ) → (n == n) ≡ true
same_number n = grind (arith, nat_tests)

is_number : (a b : ℕ) → (a == b) ≡ true → a ≡ b
is_number a b e = grind (arith, nat_tests, e)

-- the state after one event more is what that event makes of the state before
pub after_more : (events : List Event) (e : Event) → after_all (events ++ e ∷ []) ≡ after (after_all events) e
after_more events e = fold-append after start events (e ∷ [])

get_other : {X : Type 0} (xs : List X) (at k : ℕ) (x : X) → k ≢ at → slice_get (slice_set xs at x) k ≡ slice_get xs k
get_other [] at k x apart = refl
get_other (y ∷ ys) zero zero x apart = absurd (apart refl)
get_other (y ∷ ys) zero (suc k) x apart = refl
get_other (y ∷ ys) (suc at) zero x apart = refl
get_other (y ∷ ys) (suc at) (suc k) x apart = get_other ys at k x (λ e. apart (ap suc e))

-- ---- who waits

abbrev is_at : ℕ → Waiter → Bool
is_at t s = s.ticket == t

abbrev others_than : ℕ → Waiter → Bool
others_than ticket s = not (s.ticket == ticket)

record Stays (t ticket : ℕ) (xs : List Waiter) : Type 0 where
  there : list_any (is_at t) xs ≡ true
  apart : t ≢ ticket

any_left : (t ticket : ℕ) (xs : List Waiter) → list_any (is_at t) (filter (others_than ticket) xs) ≡ true → Stays t ticket xs
any_left t ticket [] e = absurd (let wrong : false ≡ true = e in cc)
any_left t ticket (s ∷ xs) e = by (any_left t ticket xs) (s.ticket == ticket) refl (s.ticket == t) refl
  where
    by : (list_any (is_at t) (filter (others_than ticket) xs) ≡ true → Stays t ticket xs)
        → (gone : Bool) → (s.ticket == ticket) ≡ gone → (here : Bool) → (s.ticket == t) ≡ here → Stays t ticket (s ∷ xs)
    by later true g true h =
        let inner : Stays t ticket xs = later (rw g at e) in
        absurd (inner.apart (sym (is_number s.ticket t h) ∙ is_number s.ticket ticket g))
    by later true g false h =
        let inner : Stays t ticket xs = later (rw g at e) in
        record { there = ap (λ b. b || list_any (is_at t) xs) h ∙ inner.there; apart = inner.apart }
    by later false g true h = record {
      there = ap (λ b. b || list_any (is_at t) xs) h;
      apart = λ same. let wrong : (s.ticket == ticket) ≡ true = ap (λ n. s.ticket == n) (sym same) ∙ h in let w : false ≡ true = sym g ∙ wrong in cc;
    }
    by later false g false h =
        let inner : Stays t ticket xs = later (rw (g, h) at e) in
        record { there = ap (λ b. b || list_any (is_at t) xs) h ∙ inner.there; apart = inner.apart }

-- ---- the sync that is due

due_is_first : (done ticket : ℕ) (syncs : List Waiter) → due_of done syncs ≡ Some ticket → list_any (is_at ticket) syncs ≡ true
due_is_first done ticket [] e = absurd (let wrong : None ≡ Some ticket = e in cc)
due_is_first done ticket (s ∷ more) e = by (nat_le s.due done) refl
  where
    by : (b : Bool) → nat_le s.due done ≡ b → list_any (is_at ticket) (s ∷ more) ≡ true
    by true g =
        let same : Some s.ticket ≡ Some ticket = rw g at e in
        let is : s.ticket ≡ ticket = cc in
        ap (λ b. b || list_any (is_at ticket) more) (ap (λ n. n == ticket) is ∙ same_number ticket)
    by false g = let wrong : None ≡ Some ticket = rw g at e in cc

no_reply : (st : State) (told : List (Option Reply)) (ticket : ℕ) → SyncsWait st told → due_of st.done st.syncs ≡ Some ticket
    → slice_get told ticket ≡ Some None
no_reply st told ticket waits due = waits ticket (due_is_first st.done ticket st.syncs due)

others_wait : (st : State) (told : List (Option Reply)) (ticket : ℕ) (reply : Reply) → SyncsWait st told
    → SyncsWait (after st (Synced ticket)) (replied ticket reply told)
others_wait st told ticket reply waits t there =
    let stays : Stays t ticket st.syncs = any_left t ticket st.syncs there in
    get_other told ticket t (Some reply) stays.apart ∙ waits t stays.there

left_at_most : (ticket : ℕ) (xs : List Waiter) → length (filter (others_than ticket) xs) ≤ length xs
left_at_most ticket [] = omega arith
left_at_most ticket (x ∷ xs) = step (left_at_most ticket xs) (x.ticket == ticket) refl
  where
    step : length (filter (others_than ticket) xs) ≤ length xs → (b : Bool) → (x.ticket == ticket) ≡ b
        → length (filter (others_than ticket) (x ∷ xs)) ≤ length (x ∷ xs)
    step later true g = rw g (omega (arith, later))
    step later false g = rw g (omega (arith, later))

first_due : (done ticket : ℕ) (s : Waiter) (more : List Waiter) → due_of done (s ∷ more) ≡ Some ticket → s.ticket ≡ ticket
first_due done ticket s more e = by (nat_le s.due done) refl
  where
    by : (b : Bool) → nat_le s.due done ≡ b → s.ticket ≡ ticket
    by true h = let same : Some s.ticket ≡ Some ticket = rw h at e in cc
    by false h = let wrong : None ≡ Some ticket = rw h at e in cc

-- once a sync that is due is answered, fewer wait
pub fewer : (done ticket : ℕ) (syncs : List Waiter) → due_of done syncs ≡ Some ticket
    → length (filter (others_than ticket) syncs) < length syncs
fewer done ticket [] e = absurd (let wrong : None ≡ Some ticket = e in cc)
fewer done ticket (s ∷ more) e =
    let yes : (s.ticket == ticket) ≡ true = ap (λ n. n == ticket) (first_due done ticket s more e) ∙ same_number ticket in
    rw yes (omega (arith, left_at_most ticket more))

-- ---- one more

all_synced_more : (tickets : List ℕ) (ticket : ℕ) (told : List (Option Reply))
    → all_synced (tickets ++ ticket ∷ []) told ≡ replied ticket (the_replies.Answer the_answers.Synced) (all_synced tickets told)
all_synced_more [] ticket told = refl
all_synced_more (t ∷ tickets) ticket told = all_synced_more tickets ticket (replied t (the_replies.Answer the_answers.Synced) told)

none_answered : {D : Type 0} (commands : ℕ) (p : Parts D) → AnswersSome commands [] p p
none_answered commands p = record {
  drive = refl;
  stock = refl;
  on = refl;
  events = sym (append-nil p.trail.events);
  acks = sym (append-nil p.trail.acks);
  kept = refl;
  listed = record { history = refl; marks = refl; calls = refl; sessions = refl };
  replies = refl;
  queue = refl;
  answered = refl;
  reads = refl;
  cached = refl;
}

-- what the answer of one sync changes
pub record AnswersOne {D : Type 0} (commands ticket : ℕ) (old new : Parts D) : Type 0 where
  pub drive : new.drive ≡ old.drive
  pub stock : new.stock ≡ old.stock
  pub on : new.on ≡ old.on
  pub events : new.trail.events ≡ old.trail.events ++ Synced ticket ∷ []
  pub acks : new.trail.acks ≡ old.trail.acks ++ record { place = ticket; command = commands } ∷ []
  pub kept : new.trail.kept ≡ old.trail.kept
  pub listed : KeepsListed old new
  pub replies : new.listed.replies ≡ replied ticket (the_replies.Answer the_answers.Synced) old.listed.replies
  pub queue : new.queue ≡ old.queue
  pub answered : new.answered ≡ old.answered
  pub reads : new.reads ≡ old.reads
  pub cached : new.cached ≡ old.cached

one_more_answered : {D : Type 0} (commands ticket : ℕ) (tickets : List ℕ) (old mid new : Parts D)
    → AnswersSome commands tickets old mid → AnswersOne commands ticket mid new → AnswersSome commands (tickets ++ ticket ∷ []) old new
one_more_answered commands ticket tickets old mid new a b = record {
  drive = b.drive ∙ a.drive;
  stock = b.stock ∙ a.stock;
  on = b.on ∙ a.on;
  events = b.events ∙ ap (λ (es : List Event). es ++ Synced ticket ∷ []) a.events
      ∙ append_assoc old.trail.events (synced_events tickets) (Synced ticket ∷ [])
      ∙ ap (λ (es : List Event). old.trail.events ++ es) (sym (map-append (λ (t : ℕ). Synced t) tickets (ticket ∷ [])));
  acks = b.acks ∙ ap (λ (told : List Ack). told ++ acks_at commands (ticket ∷ [])) a.acks
      ∙ append_assoc old.trail.acks (acks_at commands tickets) (acks_at commands (ticket ∷ []))
      ∙ ap (λ (told : List Ack). old.trail.acks ++ told) (sym (map-append (λ (t : ℕ). record { place = t; command = commands }) tickets (ticket ∷ [])));
  kept = b.kept ∙ a.kept;
  listed = record {
    history = b.listed.history ∙ a.listed.history;
    marks = b.listed.marks ∙ a.listed.marks;
    calls = b.listed.calls ∙ a.listed.calls;
    sessions = b.listed.sessions ∙ a.listed.sessions;
  };
  replies = b.replies ∙ ap (replied ticket (the_replies.Answer the_answers.Synced)) a.replies
      ∙ sym (all_synced_more tickets ticket old.listed.replies);
  queue = b.queue ∙ a.queue;
  answered = b.answered ∙ a.answered;
  reads = b.reads ∙ a.reads;
  cached = b.cached ∙ a.cached;
}

-- what is known while syncs are answered
pub record Answering {D : Type 0} (commands : ℕ) (old now : Parts D) : Type 0 where
  pub tickets : List ℕ
  pub answered : AnswersSome commands tickets old now
  pub waits : SyncsWait (state now.trail) now.listed.replies

-- one sync more is answered behind the others
pub answering_one_more : {D : Type 0} (commands ticket : ℕ) (old mid new : Parts D) → Answering commands old mid
    → due_ticket (state mid.trail) ≡ Some ticket → AnswersOne commands ticket mid new → Answering commands old new
answering_one_more commands ticket old mid new a due one = record {
  tickets = a.tickets ++ ticket ∷ [];
  answered = one_more_answered commands ticket a.tickets old mid new a.answered one;
  waits = subst (λ (told : List (Option Reply)). SyncsWait (state new.trail) told) (sym one.replies)
      (subst (λ (st : State). SyncsWait st (replied ticket (the_replies.Answer the_answers.Synced) mid.listed.replies))
      (sym (ap after_all one.events ∙ after_more mid.trail.events (Synced ticket)))
      (others_wait (state mid.trail) mid.listed.replies ticket (the_replies.Answer the_answers.Synced) a.waits));
}
