-- Who is told of faults, as a trail and a history grow.
use Rattle.std.specs.Prelude.{◌≡◌, ◌⊎◌, ◌==◌, not, ℕ, zero, suc, ◌≤◌, Bool, true, false, cond, List, [], ◌∷◌, ◌++◌, filter_map, length, Option, Some, None, slice_get}
use Rattle.std.specs.List.{cons_option, scan, zip}
use Rattle.std.specs.Option.{option_and_then, option_to_list}
use Rattle.std.proofs.Common.{inl, inr, refl, sym, ap, subst, ◌∙◌, arith, append-nil, append_assoc}
use Rattle.std.proofs.lemmas.Bool.{eqb-true}
use Rattle.std.proofs.lemmas.List.Elements.{filter_map-append}
use Rattle.std.proofs.lemmas.Option.{same_Some, slice_get_within}
use Rattle.tape_types.proofs.LongerLists.{scan-append}
use Rattle.tape_types.specs.declared.cartridges.Twin.{Twin}
use Rattle.plain_tree.specs.declared.calls.Fate.{Fate}
use Rattle.plain_tree.specs.declared.calls.Fate.TheVariants as fates
use Rattle.plain_tree.specs.declared.calls.Placed.{Placed}
use Rattle.session_script.specs.declared.logs.Event.{Event}
use Rattle.session_script.specs.declared.logs.Reply.{Reply}
use Rattle.session_script.specs.declared.logs.Reply.TheVariants as replies
use Rattle.head_queue.specs.EventLaws.Trail.{Owner, of_call, of_session, after, after_all, both, fault_of, is_of, owned_by, owner_of}
use Rattle.head_queue.specs.EventLaws.Waiting.{State, start}
use Rattle.promises.specs.ServingPromise.Faults.{AreFaults, AreRises, kept_for, told, told_at, told_done, told_to, told_void}
use Rattle.promises.specs.ServingPromise.Steps.{without_session}
use Rattle.promises.specs.OrderLaws.Sides.{owned_from}
use Rattle.promises.proofs.OrderLaws.Lists.{at_some, zip-get, zip-push}
use Rattle.promises.proofs.OrderLaws.Turning.{drain_faults_from, drained_is_owned}
use Rattle.promises.proofs.OrderLaws.Waits.{At, at, not_yet, past, still_past, there}

-- ---- rises

lower : (a b c : ℕ) (later : List Twin) → a ≤ b → AreRises b c later → AreRises a c later
lower a b c [] le h = omega (arith, le, h)
lower a b c (t ∷ later) le h = (omega (arith, le, h.0), h.1, h.2)

rises_more : (a b c : ℕ) (xs ys : List Twin) → AreRises a b xs → AreRises b c ys → AreRises a c (xs ++ ys)
rises_more a b c [] ys first then = lower a b c ys first then
rises_more a b c (t ∷ xs) ys first then = (first.0, first.1, rises_more t.after b c xs ys first.2 then)

-- ---- owners

-- the faults that one owns in a longer trail are those before and those in what was added
pub owned_more : (owner : Owner) (events added : List Event) → owned_by owner (events ++ added) ≡ owned_by owner events ++ owned_from (after_all events) owner added
owned_more owner events added =
    ap (λ l. filter_map (λ e. cond (is_of owner e.0) (Some e.1) None) (filter_map (λ o. o) l)) (scan-append after (λ st e. both (owner_of st e) (fault_of e)) start events added)
    ∙ ap (filter_map (λ e. cond (is_of owner e.0) (Some e.1) None))
    (filter_map-append (λ o. o) (scan after (λ st e. both (owner_of st e) (fault_of e)) start events) (scan after (λ st e. both (owner_of st e) (fault_of e)) (after_all events) added))
    ∙ filter_map-append (λ e. cond (is_of owner e.0) (Some e.1) None) (filter_map (λ o. o) (scan after (λ st e. both (owner_of st e) (fault_of e)) start events))
    (filter_map (λ o. o) (scan after (λ st e. both (owner_of st e) (fault_of e)) (after_all events) added))

-- ---- what is told at a place

told_by : Option Placed → Option (Option Reply) → List Twin
told_by p reply = option_to_list (option_and_then (λ e. told_done e.0.fate e.1) (both p reply))

told_at_is : (history : List Placed) (kept : List (Option Reply)) (k : ℕ) → told_at history kept k ≡ told_by (slice_get history k) (slice_get kept k)
unfolding told_by
told_at_is history kept k = ap (λ o. option_to_list (option_and_then (λ e. told_done e.0.fate e.1) o)) (zip-get history kept k)

told_same : (history : List Placed) (old new : List (Option Reply)) (k : ℕ) → slice_get new k ≡ slice_get old k → told_at history new k ≡ told_at history old k
told_same history old new k same = told_at_is history new k ∙ ap (told_by (slice_get history k)) same ∙ sym (told_at_is history old k)

told_of_done : (p : Placed) (reply : Option Reply) → p.fate ≡ fates.Done → told_by (Some p) (Some reply) ≡ option_to_list (told reply)
unfolding told_by
told_of_done p reply done = ap (λ f. option_to_list (told_done f reply)) done

-- what is known of a turn's replies
pub record AreTold (st : State) (added : List Event) (history : List Placed) (old new : List (Option Reply)) : Type 0 where
  pub placed : length old ≡ length history
  pub count : length new ≡ length old
  pub each : (k : ℕ) (reply : Reply) → slice_get old k ≡ Some (Some reply) → (slice_get new k ≡ Some (Some reply)) × (owned_from st (of_call k) added ≡ [])
  pub past_end : (k : ℕ) → slice_get old k ≡ None → owned_from st (of_call k) added ≡ []
  pub replied : (k : ℕ) (reply : Option Reply) → slice_get old k ≡ Some None → slice_get new k ≡ Some reply → option_to_list (told reply) ≡ owned_from st (of_call k) added
  pub done : (k : ℕ) (p : Placed) → slice_get history k ≡ Some p → slice_get old k ≡ Some None → p.fate ≡ fates.Done

calls_told : (events added : List Event) (history : List Placed) (old new : List (Option Reply)) → AreTold (after_all events) added history old new
    → ((k : ℕ) → told_at history old k ≡ owned_by (of_call k) events) → (k : ℕ) → told_at history new k ≡ owned_by (of_call k) (events ++ added)
calls_told events added history old new turned were k = by (at old k) ∙ sym (owned_more (of_call k) events added)
  where
    none_more : owned_from (after_all events) (of_call k) added ≡ [] → owned_by (of_call k) events ≡ owned_by (of_call k) events ++ owned_from (after_all events) (of_call k) added
    none_more none = sym (ap (λ l. owned_by (of_call k) events ++ l) none ∙ append-nil (owned_by (of_call k) events))

    by : At old k → told_at history new k ≡ owned_by (of_call k) events ++ owned_from (after_all events) (of_call k) added
    by (past e) = told_same history old new k (still_past old new k turned.count e ∙ sym e) ∙ were k ∙ none_more (turned.past_end k e)
    by (there reply e) = told_same history old new k ((turned.each k reply e).0 ∙ sym e) ∙ were k ∙ none_more (turned.each k reply e).1
    by (not_yet e) =
        let within = slice_get_within old k None e in
        let p = at_some history k (omega (arith, within, turned.placed)) in
        let x = at_some new k (omega (arith, within, turned.count)) in
        let done = turned.done k p.0 p.1 e in
        let nothing : owned_by (of_call k) events ≡ [] = sym (were k) ∙ told_at_is history old k ∙ ap (λ o. told_by o (slice_get old k)) p.1 ∙ ap (told_by (Some p.0)) e ∙ told_of_done p.0 None done in
        told_at_is history new k ∙ ap (λ o. told_by o (slice_get new k)) p.1 ∙ ap (told_by (Some p.0)) x.1 ∙ told_of_done p.0 x.0 done ∙ turned.replied k x.0 e x.1
        ∙ ap (λ l. l ++ owned_from (after_all events) (of_call k) added) (sym nothing)

-- ---- what is told to a session

none_void : (fate : Fate) (a b : Option Reply) → (a ≡ b) ⊎ (fate ≡ fates.Done) → told_void fate a ≡ told_void fate b
none_void fate a b (inl e) = ap (told_void fate) e
none_void fate a b (inr e) = ap (λ f. told_void f a) e ∙ sym (ap (λ f. told_void f b) e)

told_to_same : (who : ℕ) (history : List Placed) (old new : List (Option Reply)) → length new ≡ length old
    → ((k : ℕ) (p : Placed) (a b : Option Reply) → slice_get history k ≡ Some p → slice_get old k ≡ Some a → slice_get new k ≡ Some b → (b ≡ a) ⊎ (p.fate ≡ fates.Done))
    → told_to history new who ≡ told_to history old who
told_to_same who [] old new count each = refl
told_to_same who (p ∷ history) [] [] count each = refl
told_to_same who (p ∷ history) [] (b ∷ new) count each = absurd (omega (arith, count))
told_to_same who (p ∷ history) (a ∷ old) [] count each = absurd (omega (arith, count))
told_to_same who (p ∷ history) (a ∷ old) (b ∷ new) count each =
    ap (λ o. cons_option (cond (p.who == who) o None) (told_to history new who)) (none_void p.fate b a (each 0 p a b refl refl refl))
    ∙ ap (λ l. cons_option (cond (p.who == who) (told_void p.fate a) None) l) (told_to_same who history old new (omega (arith, count)) (λ k q c d h o n. each (suc k) q c d h o n))

sessions_told : (events added : List Event) (history : List Placed) (old new : List (Option Reply)) (kept : List (ℕ × Twin)) → AreTold (after_all events) added history old new
    → ((who : ℕ) → told_to history old who ++ kept_for who kept ≡ owned_by (of_session who) events)
    → (who : ℕ) → told_to history new who ++ kept_for who (kept ++ drain_faults_from (after_all events) added) ≡ owned_by (of_session who) (events ++ added)
sessions_told events added history old new kept turned were who =
    ap (λ l. l ++ kept_for who (kept ++ drain_faults_from (after_all events) added)) (told_to_same who history old new turned.count same)
    ∙ ap (λ l. told_to history old who ++ l) (filter_map-append (λ e. cond (e.0 == who) (Some e.1) None) kept (drain_faults_from (after_all events) added))
    ∙ sym (append_assoc (told_to history old who) (kept_for who kept) (kept_for who (drain_faults_from (after_all events) added)))
    ∙ ap (λ l. l ++ kept_for who (drain_faults_from (after_all events) added)) (were who)
    ∙ ap (λ l. owned_by (of_session who) events ++ l) (drained_is_owned (after_all events) added who)
    ∙ sym (owned_more (of_session who) events added)
  where
    same : (k : ℕ) (p : Placed) (a b : Option Reply) → slice_get history k ≡ Some p → slice_get old k ≡ Some a → slice_get new k ≡ Some b → (b ≡ a) ⊎ (p.fate ≡ fates.Done)
    same k p a b h o n = by a o
      where
        by : (a : Option Reply) → slice_get old k ≡ Some a → (b ≡ a) ⊎ (p.fate ≡ fates.Done)
        by None o = inr (turned.done k p h o)
        by (Some reply) o = inl (same_Some b (Some reply) (sym n ∙ (turned.each k reply o).0))

-- over a turn each fault is still told to its owner, or kept for its session
pub faults_turn : (events added : List Event) (history : List Placed) (old new : List (Option Reply)) (kept : List (ℕ × Twin)) (first before now : ℕ)
    → AreTold (after_all events) added history old new → AreRises before now (filter_map fault_of added) → AreFaults history events old kept first before
    → AreFaults history (events ++ added) new (kept ++ drain_faults_from (after_all events) added) first now
faults_turn events added history old new kept first before now turned rises were = record {
  calls = calls_told events added history old new turned were.calls;
  sessions = sessions_told events added history old new kept turned were.sessions;
  rises = subst (AreRises first now) (sym (filter_map-append fault_of events added)) (rises_more first before now (filter_map fault_of events) (filter_map fault_of added) were.rises rises);
}

-- ---- one placement more

get_push : {X Y : Type 0} (f : X → Option Y) (xs : List X) (x : X) (k : ℕ) → f x ≡ None → option_and_then f (slice_get (xs ++ x ∷ []) k) ≡ option_and_then f (slice_get xs k)
get_push f [] x zero none = none
get_push f [] x (suc k) none = refl
get_push f (a ∷ xs) x zero none = refl
get_push f (a ∷ xs) x (suc k) none = get_push f xs x k none

told_at_push : (history : List Placed) (replies : List (Option Reply)) (p : Placed) (reply : Option Reply) (k : ℕ) → length replies ≡ length history → told_done p.fate reply ≡ None
    → told_at (history ++ p ∷ []) (replies ++ reply ∷ []) k ≡ told_at history replies k
told_at_push history replies p reply k count none =
    ap (λ l. option_to_list (option_and_then (λ e. told_done e.0.fate e.1) (slice_get l k))) (zip-push history replies p reply count)
    ∙ ap option_to_list (get_push (λ e. told_done e.0.fate e.1) (zip history replies) (p, reply) k none)

told_to_push : (history : List Placed) (replies : List (Option Reply)) (p : Placed) (reply : Option Reply) (who : ℕ) → length replies ≡ length history
    → told_to (history ++ p ∷ []) (replies ++ reply ∷ []) who ≡ told_to history replies who ++ cons_option (cond (p.who == who) (told_void p.fate reply) None) []
told_to_push history replies p reply who count =
    ap (filter_map (λ e. cond (e.0.who == who) (told_void e.0.fate e.1) None)) (zip-push history replies p reply count)
    ∙ filter_map-append (λ e. cond (e.0.who == who) (told_void e.0.fate e.1) None) (zip history replies) ((p, reply) ∷ [])

-- a reply that is no fault tells nobody
done_none : (fate : Fate) (reply : Option Reply) → told reply ≡ None → told_done fate reply ≡ None
done_none fates.Done reply e = e
done_none fates.Void reply e = refl

void_none : (fate : Fate) (reply : Option Reply) → told reply ≡ None → told_void fate reply ≡ None
void_none fates.Done reply e = refl
void_none fates.Void reply e = e

cond_none : {X : Type 0} (b : Bool) (o : Option X) → o ≡ None → cons_option (cond b o None) [] ≡ []
cond_none true o e = ap (λ o. cons_option o []) e
cond_none false o e = refl

-- one more placement without a fault leaves each fault told to its owner
pub faults_push : (events added : List Event) (history : List Placed) (replies : List (Option Reply)) (kept : List (ℕ × Twin)) (p : Placed) (reply : Option Reply) (first now : ℕ)
    → length replies ≡ length history → told reply ≡ None → ((owner : Owner) → owned_from (after_all events) owner added ≡ []) → filter_map fault_of added ≡ []
    → AreFaults history events replies kept first now → AreFaults (history ++ p ∷ []) (events ++ added) (replies ++ reply ∷ []) kept first now
faults_push events added history replies kept p reply first now count none unowned no_fault were = record {
  calls = λ k. told_at_push history replies p reply k count (done_none p.fate reply none) ∙ were.calls k ∙ same (of_call k);
  sessions = λ who. ap (λ l. l ++ kept_for who kept) (told_to_push history replies p reply who count ∙ ap (λ l. told_to history replies who ++ l) (cond_none (p.who == who) (told_void p.fate reply) (void_none p.fate reply none))
      ∙ append-nil (told_to history replies who)) ∙ were.sessions who ∙ same (of_session who);
  rises = subst (AreRises first now) (sym (filter_map-append fault_of events added ∙ ap (λ l. filter_map fault_of events ++ l) no_fault ∙ append-nil (filter_map fault_of events))) were.rises;
}
  where
    same : (owner : Owner) → owned_by owner events ≡ owned_by owner (events ++ added)
    same owner = sym (owned_more owner events added ∙ ap (λ l. owned_by owner events ++ l) (unowned owner) ∙ append-nil (owned_by owner events))

-- ---- events without faults alone

-- events without a fault leave each fault told to its owner
pub faults_same : (events added : List Event) (history : List Placed) (replies : List (Option Reply)) (kept : List (ℕ × Twin)) (first now : ℕ)
    → ((owner : Owner) → owned_from (after_all events) owner added ≡ []) → filter_map fault_of added ≡ []
    → AreFaults history events replies kept first now → AreFaults history (events ++ added) replies kept first now
faults_same events added history replies kept first now unowned no_fault were = record {
  calls = λ k. were.calls k ∙ same (of_call k);
  sessions = λ who. were.sessions who ∙ same (of_session who);
  rises = subst (AreRises first now) (sym (filter_map-append fault_of events added ∙ ap (λ l. filter_map fault_of events ++ l) no_fault ∙ append-nil (filter_map fault_of events))) were.rises;
}
  where
    same : (owner : Owner) → owned_by owner events ≡ owned_by owner (events ++ added)
    same owner = sym (owned_more owner events added ∙ ap (λ l. owned_by owner events ++ l) (unowned owner) ∙ append-nil (owned_by owner events))

-- ---- a drain's fault

-- the faults kept for a session are gone, those of others stay
pub kept_gone : (who : ℕ) (kept : List (ℕ × Twin)) → kept_for who (without_session who kept) ≡ []
kept_gone who [] = refl
kept_gone who (x ∷ kept) = by (x.0 == who) refl (kept_gone who kept)
  where
    by : (b : Bool) → (x.0 == who) ≡ b → kept_for who (without_session who kept) ≡ [] → kept_for who (cond (not b) (x ∷ without_session who kept) (without_session who kept)) ≡ []
    by true is rest = rest
    by false is rest = ap (λ c. cons_option (cond c (Some x.1) None) (kept_for who (without_session who kept))) is ∙ rest

-- taking the faults of one session leaves those that are kept for another
pub kept_others : (who w : ℕ) (kept : List (ℕ × Twin)) → (who == w) ≡ false → kept_for w (without_session who kept) ≡ kept_for w kept
kept_others who w [] other = refl
kept_others who w (x ∷ kept) other = by (x.0 == who) refl (kept_others who w kept other)
  where
    by : (b : Bool) → (x.0 == who) ≡ b → kept_for w (without_session who kept) ≡ kept_for w kept
        → kept_for w (cond (not b) (x ∷ without_session who kept) (without_session who kept)) ≡ cons_option (cond (x.0 == w) (Some x.1) None) (kept_for w kept)
    by true is rest = rest ∙ sym (ap (λ c. cons_option (cond c (Some x.1) None) (kept_for w kept)) (subst (λ n. (n == w) ≡ false) (sym (eqb-true x.0 who is)) other))
    by false is rest = ap (λ l. cons_option (cond (x.0 == w) (Some x.1) None) l) rest

-- its write is placed void with the fault
pub faults_drained : (events : List Event) (history : List Placed) (waiting : List (Option Reply)) (kept : List (ℕ × Twin)) (p : Placed) (counts : Twin) (first now : ℕ)
    → length waiting ≡ length history → p.fate ≡ fates.Void → kept_for p.who kept ≡ counts ∷ []
    → AreFaults history events waiting kept first now → AreFaults (history ++ p ∷ []) events (waiting ++ Some (replies.Fault counts) ∷ []) (without_session p.who kept) first now
faults_drained events history waiting kept p counts first now count fate owns were = record {
  calls = λ k. told_at_push history waiting p (Some (replies.Fault counts)) k count (ap (λ f. told_done f (Some (replies.Fault counts))) fate) ∙ were.calls k;
  sessions = λ w. ap (λ l. l ++ kept_for w (without_session p.who kept)) (told_to_push history waiting p (Some (replies.Fault counts)) w count
      ∙ ap (λ f. told_to history waiting w ++ cons_option (cond (p.who == w) (told_void f (Some (replies.Fault counts))) None) []) fate) ∙ by w (p.who == w) refl ∙ were.sessions w;
  rises = were.rises;
}
  where
    by : (w : ℕ) (b : Bool) → (p.who == w) ≡ b → (told_to history waiting w ++ cons_option (cond (p.who == w) (Some counts) None) []) ++ kept_for w (without_session p.who kept) ≡ told_to history waiting w ++ kept_for w kept
    by w true is =
        ap (λ c. (told_to history waiting w ++ cons_option (cond c (Some counts) None) []) ++ kept_for w (without_session p.who kept)) is
        ∙ ap (λ l. (told_to history waiting w ++ counts ∷ []) ++ l) (subst (λ n. kept_for n (without_session p.who kept) ≡ []) (eqb-true p.who w is) (kept_gone p.who kept))
        ∙ append-nil (told_to history waiting w ++ counts ∷ [])
        ∙ ap (λ l. told_to history waiting w ++ l) (sym (subst (λ n. kept_for n kept ≡ counts ∷ []) (eqb-true p.who w is) owns))
    by w false is =
        ap (λ c. (told_to history waiting w ++ cons_option (cond c (Some counts) None) []) ++ kept_for w (without_session p.who kept)) is
        ∙ ap (λ l. l ++ kept_for w (without_session p.who kept)) (append-nil (told_to history waiting w))
        ∙ ap (λ l. told_to history waiting w ++ l) (kept_others p.who w kept is)
