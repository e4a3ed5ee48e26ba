-- A volume as its parts, and what follows of several parts at once.
use Rattle.std.specs.Prelude.{◌≡◌, ◌==◌, ◌||◌, max, ℕ, ◌≤◌, ◌<◌, nat_lt, Bool, true, false, cond, List, [], ◌∷◌, ◌++◌, All, IfSome, filter, fold, length, map, Option, Some, None, slice_get}
use Rattle.std.specs.List.{list_all, list_any}
use Rattle.std.proofs.Common.{⊎_elim, refl, sym, ap, subst, ◌∙◌, arith}
use Rattle.std.proofs.lemmas.Bool.{eqb-true, lt-ltb, or_cases}
use Rattle.std.proofs.lemmas.List.Elements.{All-head, All-push, All-tail}
use Rattle.std.proofs.lemmas.List.Folds.{list_any-append}
use Rattle.std.proofs.lemmas.Option.{slice_get_within}
use Rattle.tape_types.specs.declared.moments.Moment.{Moment}
use Rattle.plain_tree.specs.declared.calls.Placed.{Placed}
use Rattle.session_script.specs.Bounds.{most_sessions}
use Rattle.session_script.specs.Grammar.{calls_of}
use Rattle.session_script.specs.Sessions.{HasSessions, greatest_session}
use Rattle.session_script.specs.declared.logs.Ack.{Ack}
use Rattle.session_script.specs.declared.logs.Event.{Event}
use Rattle.session_script.specs.declared.logs.Reply.{Reply}
use Rattle.session_script.specs.declared.scripts.ScriptLine.{ScriptLine}
use Rattle.head_queue.specs.EventLaws.Waiting.{State, Waiter}
use Rattle.promises.specs.ServingPromise.Acks.{AreAcks, answers, synced_places}
use Rattle.promises.specs.ServingPromise.Served.{AreWaiting, View}
use Rattle.promises.proofs.OrderLaws.Acked.{has_answered, has_synced_place, synced_at}
use Rattle.promises.proofs.OrderLaws.Frames.{syncs_it, wants_it}
use Rattle.promises.proofs.OrderLaws.Rising.{all_from, has}
use Rattle.promises.proofs.OrderLaws.Turning.{tickets}
use Rattle.promises.proofs.OrderLaws.Waits.{At, at, not_yet, past, there}

-- two volumes with the same parts are one
pub view_is : {D : Type 0} (a b : View D) → a.fixed ≡ b.fixed → a.drive ≡ b.drive → a.next ≡ b.next → a.history ≡ b.history → a.replies ≡ b.replies → a.acks ≡ b.acks → a.events ≡ b.events → a.marks ≡ b.marks
    → a.kept ≡ b.kept → a.on ≡ b.on → a.ops ≡ b.ops → a.cached ≡ b.cached → a ≡ b
view_is a b fixed drive next history replies acks events marks kept on ops cached = λ i. record {
  fixed = fixed i;
  drive = drive i;
  next = next i;
  history = history i;
  replies = replies i;
  acks = acks i;
  events = events i;
  marks = marks i;
  kept = kept i;
  on = on i;
  ops = ops i;
  cached = cached i;
}

-- ---- moments

-- one more placement of the run's one moment leaves all of that moment
pub moments_push : (o : Option Moment) (history : List Placed) (p : Placed) → IfSome o (λ m. All (λ (p : Placed). p.at ≡ m) history) → IfSome o (λ m. p.at ≡ m)
    → IfSome o (λ m. All (λ (p : Placed). p.at ≡ m) (history ++ p ∷ []))
moments_push None history p every one = tt
moments_push (Some m) history p every one = All-push (λ (p : Placed). p.at ≡ m) history p every one

-- the clock was to give the one moment, and this is the one that it was to give
pub one_moment : (o next : Option Moment) (p : Placed) → IfSome o (λ m. next ≡ Some m) → IfSome next (λ m. p.at ≡ m) → IfSome o (λ m. p.at ≡ m)
one_moment None next p gives is = tt
one_moment (Some m) next p gives is = subst (λ o. IfSome o (λ m. p.at ≡ m)) gives is

-- ---- sessions

greatest_from : (a : ℕ) (xs : List ℕ) → a ≤ fold max a xs
greatest_from a [] = omega arith
greatest_from a (x ∷ xs) = omega (arith, greatest_from (max a x) xs)

session_from : (a who : ℕ) (script : List ScriptLine) → HasSessions script → 0 < length (calls_of script who) → (1 ≤ who) × (who ≤ fold max a (map (λ (l : ScriptLine). l.who) script))
session_from a who [] every some = absurd (omega (arith, some))
session_from a who (line ∷ script) every some = by (line.who == who) refl some (session_from (max a line.who) who script (All-tail (λ (l : ScriptLine). (1 ≤ l.who) × (l.who ≤ most_sessions)) line script every))
  where
    by : (b : Bool) → (line.who == who) ≡ b → 0 < length (map (λ (l : ScriptLine). l.call) (cond b (line ∷ filter (λ (l : ScriptLine). l.who == who) script) (filter (λ (l : ScriptLine). l.who == who) script)))
        → (0 < length (calls_of script who) → (1 ≤ who) × (who ≤ fold max (max a line.who) (map (λ (l : ScriptLine). l.who) script)))
        → (1 ≤ who) × (who ≤ fold max (max a line.who) (map (λ (l : ScriptLine). l.who) script))
    by true is h more =
        let same = eqb-true line.who who is in
        let first = All-head (λ (l : ScriptLine). (1 ≤ l.who) × (l.who ≤ most_sessions)) line script every in
        (omega (arith, same, first.0), omega (arith, same, greatest_from (max a line.who) (map (λ (l : ScriptLine). l.who) script)))
    by false is h more = more h

-- a session that has a call is one of the script's
pub session_is : (who : ℕ) (script : List ScriptLine) → HasSessions script → 0 < length (calls_of script who) → (1 ≤ who) × (who ≤ greatest_session script)
session_is who script every some = session_from 0 who script every some

-- ---- syncs and replies

-- a ticket is among the syncs' just if a sync of it waits
pub has_tickets : (k : ℕ) (syncs : List Waiter) → has k (tickets syncs) ≡ list_any (syncs_it k) syncs
has_tickets k [] = refl
has_tickets k (s ∷ syncs) = ap (λ b. (s.ticket == k) || b) (has_tickets k syncs)

synced_within : (replies : List (Option Reply)) (k : ℕ) → synced_at (slice_get replies k) ≡ true → k < length replies
synced_within replies k h = by (at replies k)
  where
    by : At replies k → k < length replies
    by (past e) = absurd (let no : false ≡ true = sym (ap synced_at e) ∙ h in cc)
    by (not_yet e) = slice_get_within replies k None e
    by (there reply e) = slice_get_within replies k (Some reply) e

-- all syncs that were answered or wait stand before the next place
pub syncs_before : (st : State) (replies : List (Option Reply)) (here : ℕ) → length replies ≡ here → AreWaiting st replies → list_all (λ x. nat_lt x here) (synced_places replies ++ tickets st.syncs) ≡ true
syncs_before st replies here count waiting = all_from (λ x. nat_lt x here) (synced_places replies ++ tickets st.syncs) (λ k h. lt-ltb k here (omega (arith, count, by k h)))
  where
    by : (k : ℕ) → has k (synced_places replies ++ tickets st.syncs) ≡ true → k < length replies
    by k h = ⊎_elim (λ there. synced_within replies k (sym (has_synced_place replies k) ∙ there))
        (λ there. slice_get_within replies k None (waiting.waits k (Rattle.std.proofs.lemmas.Bool.or_right (list_any (wants_it k) st.requests) (list_any (syncs_it k) st.syncs) (sym (has_tickets k st.syncs) ∙ there))))
        (or_cases (has k (synced_places replies)) (has k (tickets st.syncs)) (sym (list_any-append (λ x. x == k) (synced_places replies) (tickets st.syncs)) ∙ h))

-- a place that isn't synced was not answered
pub not_before : (events : List Event) (replies : List (Option Reply)) (acks : List Ack) (t : ℕ) → AreAcks events replies acks → synced_at (slice_get replies t) ≡ false → list_any (answers t) events ≡ false
not_before events replies acks t are none = sym (has_answered events t) ∙ ap (has t) (sym are.events ∙ are.places) ∙ has_synced_place replies t ∙ none
