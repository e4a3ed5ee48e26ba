-- Replies that come.
use Rattle.std.specs.Prelude.{◌≡◌, ◌⊎◌, ◌==◌, ◌||◌, ℕ, zero, suc, ◌<◌, Bool, true, false, List, [], ◌∷◌, fold, length, Option, Some, None, slice_get}
use Rattle.std.specs.List.{list_any}
use Rattle.std.proofs.Common.{inl, inr, refl, sym, ap, subst, ◌∙◌, arith, length-set}
use Rattle.std.proofs.lemmas.Bool.{both_ways, cases_Bool, eqb-true, eq-eqb, ne_eqb, or_parts}
use Rattle.std.proofs.lemmas.Option.{same_Some, slice_get_within}
use Rattle.plain_tree.specs.declared.calls.Answer.TheVariants as the_answers
use Rattle.session_script.specs.declared.logs.Event.{Event}
use Rattle.session_script.specs.declared.logs.Reply.{Reply}
use Rattle.session_script.specs.declared.logs.Reply.TheVariants as the_replies
use Rattle.head_queue.specs.EventLaws.Waiting.{State}
use Rattle.head_queue.specs.EventLaws.Trail.{after}
use Rattle.promises.specs.ServingPromise.Acks.{answers}
use Rattle.promises.specs.ServingPromise.Served.{AreWaiting, is_waiting}
use Rattle.promises.specs.OrderLaws.Sides.{IsBrought, IsReplied}
use Rattle.volume_state.specs.StateLaws.Stepping.{all_synced, replied, synced_events}
use Rattle.volume_state.proofs.CallLaws.Splits.{flip}

-- the reply that says that a sync is synced
abbrev pub synced : Reply
synced = the_replies.Answer the_answers.Synced

-- ---- one place more is replied to

told_here : (told : List (Option Reply)) (t : ℕ) (reply : Reply) → t < length told
    → slice_get (replied t reply told) t ≡ Some (Some reply)
told_here [] t reply less = absurd (omega (arith, less))
told_here (x ∷ told) zero reply less = refl
told_here (x ∷ told) (suc t) reply less = told_here told t reply (omega (arith, less))

other_after : (k t : ℕ) → (suc k == suc t) ≡ false → (k == t) ≡ false
other_after k t other = ne_eqb k t (λ same. both_ways (suc k == suc t) other (eq-eqb (suc k) (suc t) (ap suc same)))

told_else : (told : List (Option Reply)) (t k : ℕ) (reply : Reply) → (k == t) ≡ false
    → slice_get (replied t reply told) k ≡ slice_get told k
told_else [] t k reply other = refl
told_else (x ∷ told) zero zero reply other = absurd (both_ways (0 == 0) other (eq-eqb 0 0 refl))
told_else (x ∷ told) zero (suc k) reply other = refl
told_else (x ∷ told) (suc t) zero reply other = refl
told_else (x ∷ told) (suc t) (suc k) reply other = told_else told t k reply (other_after k t other)

-- a reply that comes leaves the count of places
pub told_count : (told : List (Option Reply)) (t : ℕ) (reply : Reply) → length (replied t reply told) ≡ length told
told_count told t reply = length-set told t (Some reply)

none_some : (reply : Reply) → Some None ≡ Some (Some reply) → ⊥
none_some reply e = cc

-- who has its reply waits no more
pub rests : (st : State) (told : List (Option Reply)) (k : ℕ) (reply : Reply) → AreWaiting st told
    → slice_get told k ≡ Some (Some reply) → is_waiting st k ≡ false
rests st told k reply are is = by (cases_Bool (is_waiting st k))
  where
    by : (is_waiting st k ≡ true) ⊎ (is_waiting st k ≡ false) → is_waiting st k ≡ false
    by (inl waits) = absurd (none_some reply (sym (are.waits k waits) ∙ is))
    by (inr rests) = rests

-- what comes of a step that brings the reply of one place, which waits no more
pub record Brings (st : State) (added : List Event) (told : List (Option Reply)) (t : ℕ) (reply : Reply) : Type 0 where
  pub waited : slice_get told t ≡ Some None
  pub gives : IsReplied st added t reply
  pub others : (k : ℕ) → (k == t) ≡ false → is_waiting (fold after st added) k ≡ is_waiting st k

-- the one reply that came to a place is what the events bring
pub one_brought : (st : State) (added : List Event) (told : List (Option Reply)) (t : ℕ) (reply : Reply)
    → AreWaiting st told → Brings st added told t reply
    → (k : ℕ) (came : Option Reply) → slice_get told k ≡ Some None → slice_get (replied t reply told) k ≡ Some came
    → IsBrought st added k came
one_brought st added told t reply are b k came was is = by (k == t) refl
  where
    by : (same : Bool) → (k == t) ≡ same → IsBrought st added k came
    by true same =
        let at : k ≡ t = eqb-true k t same in
        let there : Some reply ≡ came = same_Some (Some reply) came (sym (told_here told t reply (slice_get_within told t None b.waited)) ∙ ap (λ n. slice_get (replied t reply told) n) (sym at) ∙ is) in
        subst (IsBrought st added k) there (subst (λ n. IsReplied st added n reply) (sym at) b.gives)
    by false other =
        let none : None ≡ came = same_Some None came (sym was ∙ sym (told_else told t k reply other) ∙ is) in
        subst (IsBrought st added k) none (b.others k other ∙ are.none_yet k was)

-- a reply that comes leaves those that are there
pub one_kept : (st : State) (told : List (Option Reply)) (t : ℕ) (reply : Reply) → slice_get told t ≡ Some None
    → (k : ℕ) (was : Reply) → slice_get told k ≡ Some (Some was) → slice_get (replied t reply told) k ≡ Some (Some was)
one_kept st told t reply waited k was is = by (k == t) refl
  where
    by : (same : Bool) → (k == t) ≡ same → slice_get (replied t reply told) k ≡ Some (Some was)
    by true same = absurd (none_some was (sym waited ∙ ap (λ n. slice_get told n) (sym (eqb-true k t same)) ∙ is))
    by false other = told_else told t k reply other ∙ is

-- which reply it is that came
pub one_came : (told : List (Option Reply)) (t : ℕ) (reply : Reply) (k : ℕ) (came : Reply)
    → slice_get told t ≡ Some None → slice_get told k ≡ Some None
    → slice_get (replied t reply told) k ≡ Some (Some came) → (k ≡ t) × (reply ≡ came)
one_came told t reply k came waited was is = by (k == t) refl
  where
    some : (a b : Reply) → Some (Some a) ≡ Some (Some b) → a ≡ b
    some a b e = cc

    by : (same : Bool) → (k == t) ≡ same → (k ≡ t) × (reply ≡ came)
    by true same =
        let at : k ≡ t = eqb-true k t same in
        (at, some reply came (sym (told_here told t reply (slice_get_within told t None waited)) ∙ ap (λ n. slice_get (replied t reply told) n) (sym at) ∙ is))
    by false other = absurd (none_some came (sym was ∙ sym (told_else told t k reply other) ∙ is))

-- no reply comes
pub none_brought : (st : State) (added : List Event) (told : List (Option Reply)) → AreWaiting st told
    → ((k : ℕ) → is_waiting st k ≡ true → is_waiting (fold after st added) k ≡ true)
    → (k : ℕ) (came : Option Reply) → slice_get told k ≡ Some None → slice_get told k ≡ Some came
    → IsBrought st added k came
none_brought st added told are still k came was is =
    subst (IsBrought st added k) (same_Some None came (sym was ∙ is)) (still k (are.none_yet k was))

-- ---- syncs

-- syncs that are answered leave the count of places
pub all_count : (tickets : List ℕ) (told : List (Option Reply)) → length (all_synced tickets told) ≡ length told
all_count [] told = refl
all_count (t ∷ tickets) told = all_count tickets (replied t synced told) ∙ told_count told t synced

-- where no sync is answered the replies stay
pub synced_else : (tickets : List ℕ) (told : List (Option Reply)) (k : ℕ)
    → list_any (answers k) (synced_events tickets) ≡ false
    → slice_get (all_synced tickets told) k ≡ slice_get told k
synced_else [] told k none = refl
synced_else (t ∷ tickets) told k none =
    let parts = or_parts (t == k) (list_any (answers k) (synced_events tickets)) none in
    synced_else tickets (replied t synced told) k parts.1 ∙ told_else told t k synced (flip t k parts.0)

-- where a sync is answered its reply says so
pub synced_here : (tickets : List ℕ) (told : List (Option Reply)) (k : ℕ) → k < length told
    → list_any (answers k) (synced_events tickets) ≡ true
    → slice_get (all_synced tickets told) k ≡ Some (Some synced)
synced_here [] told k less has = absurd (cc)
synced_here (t ∷ tickets) told k less has = by (cases_Bool (list_any (answers k) (synced_events tickets))) (λ later. synced_here tickets (replied t synced told) k (omega (arith, less, told_count told t synced)) later)
  where
    first : (a b : Bool) → (a || b) ≡ true → b ≡ false → a ≡ true
    first true b h none = refl
    first false b h none = absurd (both_ways b none h)

    by : (list_any (answers k) (synced_events tickets) ≡ true) ⊎ (list_any (answers k) (synced_events tickets) ≡ false)
        → (list_any (answers k) (synced_events tickets) ≡ true → slice_get (all_synced tickets (replied t synced told)) k ≡ Some (Some synced))
        → slice_get (all_synced tickets (replied t synced told)) k ≡ Some (Some synced)
    by (inl later) more = more later
    by (inr none) more =
        let at : t ≡ k = eqb-true t k (first (t == k) (list_any (answers k) (synced_events tickets)) has none) in
        synced_else tickets (replied t synced told) k none
        ∙ subst (λ n. slice_get (replied t synced told) n ≡ Some (Some synced)) at (told_here told t synced (omega (arith, less, at)))
