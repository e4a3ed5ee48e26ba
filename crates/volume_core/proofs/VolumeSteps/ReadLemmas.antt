-- Blocks that were read, or not.
use Rattle.std.specs.Prelude.{ℕ, ◌≡◌, ◌==◌, ◌||◌, not, Bool, true, false, List, [], ◌∷◌, ◌++◌, filter, Some, None}
use Rattle.std.specs.List.{list_any}
use Rattle.std.proofs.Common.{refl, sym, ap, subst, ◌∙◌}
use Rattle.tape_types.specs.declared.cartridges.Place.{Place}
use Rattle.tape_types.specs.declared.cartridges.Twin.{Twin}
use Rattle.plain_tree.specs.declared.calls.Answer.{Answer}
use Rattle.session_script.specs.declared.logs.Event.TheVariants.{Served}
use Rattle.session_script.specs.declared.logs.Reply.TheVariants as the_replies
use Rattle.head_queue.specs.Waiting.{Waiting}
use Rattle.waiting_reads.specs.Gathering.{Gathering}
use Rattle.waiting_reads.specs.Waiting.{IsFilledOne, IsFinished, IsForgotten, has_ticket}
use Rattle.volume_state.specs.StateLaws.Parts.{Parts}
use Rattle.volume_state.specs.StateLaws.Stepping.{IsKeptAfter, IsOneRequest, IsReadAnswer, ReadsOnly, replied}
use Rattle.tape_drive.specs.declared.drive.Got.{Got}
use Rattle.volume_core.specs.VolumeSteps.Moves.{MissesBlock, TakesBlock}
use Rattle.volume_core.proofs.VolumeSteps.SyncLemmas.{same_number}

-- ---- one read of those that wait

record IsSame (front one_front : List Gathering) (one other : Gathering) (behind one_behind : List Gathering) : Type 0 where
  fronts : front ≡ one_front
  ones : one ≡ other
  behinds : behind ≡ one_behind

abbrev head_or : Gathering → List Gathering → Gathering
head_or d [] = d
head_or d (x ∷ xs) = x

abbrev rest_of : List Gathering → List Gathering
rest_of [] = []
rest_of (x ∷ xs) = xs

not_here : (ticket : ℕ) (x : Gathering) (xs : List Gathering) → has_ticket ticket (x ∷ xs) ≡ false → x.ticket ≡ ticket → ⊥
not_here ticket x xs none is =
    let yes : (x.ticket == ticket) ≡ true = ap (λ n. n == ticket) is ∙ same_number ticket in
    let wrong : true ≡ false = sym (ap (λ b. b || has_ticket ticket xs) yes) ∙ none in cc

not_later : (ticket : ℕ) (x : Gathering) (xs : List Gathering) → has_ticket ticket (x ∷ xs) ≡ false → has_ticket ticket xs ≡ false
not_later ticket x xs none = by (x.ticket == ticket) refl
  where
    by : (b : Bool) → (x.ticket == ticket) ≡ b → has_ticket ticket xs ≡ false
    by true e = let wrong : true ≡ false = sym (ap (λ b. b || has_ticket ticket xs) e) ∙ none in cc
    by false e = sym (ap (λ b. b || has_ticket ticket xs) e) ∙ none

once : (ticket : ℕ) (front other : List Gathering) (a b : Gathering) (behind later : List Gathering)
    → front ++ a ∷ behind ≡ other ++ b ∷ later → has_ticket ticket front ≡ false → has_ticket ticket other ≡ false
    → a.ticket ≡ ticket → b.ticket ≡ ticket → IsSame front other a b behind later
once ticket [] [] a b behind later e f g h i = record { fronts = refl; ones = ap (head_or a) e; behinds = ap rest_of e }
once ticket [] (x ∷ other) a b behind later e f g h i =
    absurd (not_here ticket x other g (ap (λ (r : Gathering). r.ticket) (sym (ap (head_or a) e)) ∙ h))
once ticket (x ∷ front) [] a b behind later e f g h i =
    absurd (not_here ticket x front f (ap (λ (r : Gathering). r.ticket) (ap (head_or a) e) ∙ i))
once ticket (x ∷ front) (y ∷ other) a b behind later e f g h i =
    let inner : IsSame front other a b behind later =
    once ticket front other a b behind later (ap rest_of e) (not_later ticket x front f) (not_later ticket y other g) h i in
    let first : x ≡ y = ap (head_or x) e in
    record {
      fronts = ap (λ (z : Gathering). z ∷ front) first ∙ ap (λ (zs : List Gathering). y ∷ zs) inner.fronts;
      ones = inner.ones;
      behinds = inner.behinds;
    }

-- ---- a block

-- what is the same however it goes on: the events, and one request less
pub record TakesRequest {D : Type 0} (ticket : ℕ) (place : Place) (got : Got) (block : List ℕ) (old new : Parts D) : Type 0 where
  pub drive : new.drive ≡ old.drive
  pub only : ReadsOnly old new
  pub events : new.trail.events ≡ old.trail.events ++ Served ticket place None ∷ []
  pub request : IsOneRequest old.queue.waiting ticket place
  pub queue : new.queue.waiting ≡ request.front ++ request.behind
  pub cached : IsKeptAfter got place block old.cached new.cached

-- a read that got a block and has requests left waits on
pub waits_on : {D : Type 0} (ticket : ℕ) (place : Place) (got : Got) (block : List ℕ) (old new : Parts D) → TakesRequest ticket place got block old new
    → IsFilledOne ticket place block old.reads new.reads → new.listed.replies ≡ old.listed.replies
    → new.answered ≡ old.answered
    → list_any (λ (w : Waiting). w.owner == ticket) new.queue.waiting ≡ true → TakesBlock ticket place got block old new
waits_on ticket place got block old new t filled told answered more = record {
  drive = t.drive;
  answered = rw more answered;
  taken = record {
    only = t.only;
    events = t.events;
    request = t.request;
    queue = t.queue;
    read = record { front = filled.front; one = filled.one; behind = filled.behind; stands = filled.stood };
    next = filled.next;
    filled = filled.filled;
    reads = rw more (filled.new_is, told);
    cached = t.cached;
  };
}

-- a read that got its last block is answered
pub is_answered : {D : Type 0} (ticket : ℕ) (place : Place) (got : Got) (block : List ℕ) (gives : Answer) (mid : List Gathering) (old new : Parts D)
    → TakesRequest ticket place got block old new → IsFilledOne ticket place block old.reads mid → IsFinished ticket mid new.reads gives
    → new.listed.replies ≡ replied ticket (the_replies.Answer gives) old.listed.replies
    → new.answered ≡ old.answered ++ (ticket, gives) ∷ []
    → list_any (λ (w : Waiting). w.owner == ticket) new.queue.waiting ≡ false → TakesBlock ticket place got block old new
is_answered ticket place got block gives mid old new t filled finished told answered none =
    let out = finished.taken in
    let next_ticket : filled.next.ticket ≡ ticket = filled.filled.ticket ∙ filled.stood.ticket_is in
    let same : IsSame out.front filled.front finished.one filled.next out.behind filled.behind =
    once ticket out.front filled.front finished.one filled.next out.behind filled.behind
    (sym out.stood.parts ∙ filled.new_is) out.stood.others filled.stood.others out.stood.ticket_is next_ticket in
    let left : new.reads ≡ filled.front ++ filled.behind =
    out.new_is ∙ ap (λ (front : List Gathering). front ++ out.behind) same.fronts
    ∙ ap (λ (behind : List Gathering). filled.front ++ behind) same.behinds in
    record {
      drive = t.drive;
      answered = rw none (gives, answered, told);
      taken = record {
        only = t.only;
        events = t.events;
        request = t.request;
        queue = t.queue;
        read = record { front = filled.front; one = filled.one; behind = filled.behind; stands = filled.stood };
        next = filled.next;
        filled = filled.filled;
        reads = rw none (left, (gives, told, subst (λ (r : Gathering). IsReadAnswer r gives) same.ones (finished.no_sync, finished.answered)));
        cached = t.cached;
      };
    }

-- a request that failed is told to its read, which waits no more
pub missed : {D : Type 0} (ticket : ℕ) (place : Place) (counts : Twin) (old new : Parts D) → new.drive ≡ old.drive → ReadsOnly old new
    → new.trail.events ≡ old.trail.events ++ Served ticket place (Some counts) ∷ []
    → IsOneRequest old.queue.waiting ticket place
    → new.queue.waiting ≡ filter (λ (w : Waiting). not (w.owner == ticket)) old.queue.waiting
    → IsForgotten ticket old.reads new.reads → new.answered ≡ old.answered
    → new.listed.replies ≡ replied ticket (the_replies.Fault counts) old.listed.replies → new.cached ≡ old.cached
    → MissesBlock ticket place counts old new
missed ticket place counts old new drive only events request queue forgotten answered told cached =
    let out = forgotten.taken in
    record {
      drive = drive;
      answered = answered;
      missed = record {
        only = only;
        events = events;
        request = request;
        queue = queue;
        read = record { front = out.front; one = forgotten.one; behind = out.behind; stands = out.stood };
        reads = out.new_is;
        replies = told;
        cached = cached;
      };
    }
