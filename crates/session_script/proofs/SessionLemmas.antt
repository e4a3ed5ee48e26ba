-- One more line at the end of a script, and where a session's calls stand.
use Rattle.std.proofs.Common.{◌≡◌, ◌≢◌, ℕ, zero, suc, ◌+◌, ◌-◌, ◌^◌, ◌<◌, ◌≤◌, max, Bool, true, false, cond, eqb, List, [], ◌∷◌, ◌++◌, length, get_or, take, map, set, replicate, fold, sym, ap, ◌∙◌, refl, subst, arith, ⊎_elim, Some, ne_eqb, append-nil, unwrap_or, zero-add}
use Rattle.std.specs.Prelude.{slice_get, filter}
use Rattle.std.specs.Option.{option_map}
use Rattle.std.proofs.lemmas.List.{length_push, get_or_append_left, get_or_push, get_or-set_same, get_or-set_other, length-set, take-append-le, take_at, get_or-replicate, get_or_default}
use Rattle.std.proofs.lemmas.Bool.{cases_lt, cases_eq, eq-eqb}
use Rattle.session_script.specs.Bounds.{most_sessions}
use Rattle.session_script.specs.declared.scripts.ScriptLine.{ScriptLine}
use Rattle.session_script.specs.Grammar.{calls_of}
use Rattle.session_script.specs.Sessions.{nth_at, greatest_session, HasSessions, places_from, IsIndexed}
use Rattle.tape_types.proofs.LongerLists.{slice_get-append, slice_get-seam}

calls_more : (a : List ScriptLine) (l : ScriptLine) (who : ℕ) → calls_of (a ++ l ∷ []) who ≡ calls_of a who ++ cond (eqb l.who who) (l.call ∷ []) []
calls_more [] l who = at (eqb l.who who)
  where
    at : (b : Bool) → map (λ (x : ScriptLine). x.call) (cond b (l ∷ []) []) ≡ [] ++ cond b (l.call ∷ []) []
    at true = refl
    at false = refl
calls_more (x ∷ a) l who = at (eqb x.who who) (calls_more a l who)
  where
    kept : List ScriptLine → List ScriptLine
    kept s = filter (λ y. eqb y.who who) s

    at : (b : Bool) → calls_of (a ++ l ∷ []) who ≡ calls_of a who ++ cond (eqb l.who who) (l.call ∷ []) []
        → map (λ (y : ScriptLine). y.call) (cond b (x ∷ filter (λ y. eqb y.who who) (a ++ l ∷ [])) (filter (λ y. eqb y.who who) (a ++ l ∷ [])))
        ≡ map (λ (y : ScriptLine). y.call) (cond b (x ∷ filter (λ y. eqb y.who who) a) (filter (λ y. eqb y.who who) a)) ++ cond (eqb l.who who) (l.call ∷ []) []
    at true same = ap (λ s. x.call ∷ s) same
    at false same = same

-- how many calls a session has with one line more
pub length-calls_more : (a : List ScriptLine) (l : ScriptLine) (who : ℕ) → length (calls_of (a ++ l ∷ []) who) ≡ length (calls_of a who) + cond (eqb l.who who) 1 0
length-calls_more a l who = ap length (calls_more a l who) ∙ at (eqb l.who who)
  where
    at : (b : Bool) → length (calls_of a who ++ cond b (l.call ∷ []) []) ≡ length (calls_of a who) + cond b 1 0
    at true = length_push (calls_of a who) l.call
    at false = ap length (append-nil (calls_of a who)) ∙ omega arith

-- a session has no more calls than the script has lines
pub length-calls-le : (a : List ScriptLine) (who : ℕ) → length (calls_of a who) ≤ length a
length-calls-le [] who = omega arith
length-calls-le (x ∷ a) who = at (eqb x.who who) (length-calls-le a who)
  where
    at : (b : Bool) → length (calls_of a who) ≤ length a
        → length (map (λ (y : ScriptLine). y.call) (cond b (x ∷ filter (λ y. eqb y.who who) a) (filter (λ y. eqb y.who who) a))) ≤ length (x ∷ a)
    at true le = omega arith
    at false le = omega arith

places_more : (n : ℕ) (a : List ScriptLine) (l : ScriptLine) (who : ℕ) → places_from n (a ++ l ∷ []) who ≡ places_from n a who ++ cond (eqb l.who who) ((n + length a) ∷ []) []
places_more n [] l who = at (eqb l.who who)
  where
    at : (b : Bool) → cond b (n ∷ []) [] ≡ [] ++ cond b ((n + 0) ∷ []) []
    at true = ap (λ k. k ∷ []) (omega arith)
    at false = refl
places_more n (x ∷ a) l who = at (eqb x.who who) (places_more (n + 1) a l who ∙ ap (λ k. places_from (n + 1) a who ++ cond (eqb l.who who) (k ∷ []) []) (omega arith))
  where
    at : (b : Bool) → places_from (n + 1) (a ++ l ∷ []) who ≡ places_from (n + 1) a who ++ cond (eqb l.who who) ((n + length (x ∷ a)) ∷ []) []
        → cond b (n ∷ places_from (n + 1) (a ++ l ∷ []) who) (places_from (n + 1) (a ++ l ∷ []) who)
        ≡ cond b (n ∷ places_from (n + 1) a who) (places_from (n + 1) a who) ++ cond (eqb l.who who) ((n + length (x ∷ a)) ∷ []) []
    at true same = ap (λ s. n ∷ s) same
    at false same = same

places_most : (a : List ScriptLine) (l : ScriptLine) (who : ℕ) → places_from 0 (a ++ l ∷ []) who ≡ places_from 0 a who ++ cond (eqb l.who who) (length a ∷ []) []
places_most a l who = places_more 0 a l who ∙ ap (λ k. places_from 0 a who ++ cond (eqb l.who who) (k ∷ []) []) (zero-add (length a))

-- a session's lines are as many as its calls
pub length-places_from : (n : ℕ) (a : List ScriptLine) (who : ℕ) → length (places_from n a who) ≡ length (calls_of a who)
length-places_from n [] who = refl
length-places_from n (x ∷ a) who = at (eqb x.who who) (length-places_from (n + 1) a who)
  where
    at : (b : Bool) → length (places_from (n + 1) a who) ≡ length (calls_of a who)
        → length (cond b (n ∷ places_from (n + 1) a who) (places_from (n + 1) a who)) ≡ length (map (λ (y : ScriptLine). y.call) (cond b (x ∷ filter (λ y. eqb y.who who) a) (filter (λ y. eqb y.who who) a)))
    at true same = ap suc same
    at false same = same

-- the line at a session's place is the session's call of that number
pub record IsCallAt (n : ℕ) (a : List ScriptLine) (who nth place : ℕ) : Type 0 where
  pub low : n ≤ place
  pub high : place < n + length a
  pub line : ScriptLine
  pub there : slice_get a (place - n) ≡ Some line
  pub called : slice_get (calls_of a who) nth ≡ Some line.call

further : (n : ℕ) (x : ScriptLine) (a : List ScriptLine) (who nth m place : ℕ) → IsCallAt (n + 1) a who nth place → slice_get (calls_of (x ∷ a) who) m ≡ slice_get (calls_of a who) nth → IsCallAt n (x ∷ a) who m place
further n x a who nth m place h same =
    let low : n + 1 ≤ place = h.low in
    let high : place < n + 1 + length a = h.high in record {
      low = omega arith;
      high = omega arith;
      line = h.line;
      there = ap (slice_get (x ∷ a)) (let e : place - n ≡ suc (place - (n + 1)) = omega arith in e) ∙ h.there;
      called = same ∙ h.called;
    }

-- a session's call of a number stands at the line that is listed for it
pub call_there : (n : ℕ) (a : List ScriptLine) (who nth : ℕ) → nth < length (places_from n a who) → IsCallAt n a who nth (get_or (places_from n a who) nth 0)
call_there n [] who nth lt = absurd (omega arith)
call_there n (x ∷ a) who nth lt = at (eqb x.who who) refl nth lt (λ m l. call_there (n + 1) a who m l)
  where
    at : (b : Bool) → eqb x.who who ≡ b → (m : ℕ) → m < length (cond b (n ∷ places_from (n + 1) a who) (places_from (n + 1) a who))
        → ((k : ℕ) → k < length (places_from (n + 1) a who) → IsCallAt (n + 1) a who k (get_or (places_from (n + 1) a who) k 0))
        → IsCallAt n (x ∷ a) who m (get_or (cond b (n ∷ places_from (n + 1) a who) (places_from (n + 1) a who)) m 0)
    at true is zero l more = record {
      low = omega arith;
      high = omega arith;
      line = x;
      there = ap (slice_get (x ∷ a)) (let e : n - n ≡ 0 = omega arith in e);
      called = ap (λ b. slice_get (map (λ (y : ScriptLine). y.call) (cond b (x ∷ filter (λ y. eqb y.who who) a) (filter (λ y. eqb y.who who) a))) 0) is;
    }
    at true is (suc m) l more =
        further n x a who m (suc m) _ (more m (omega arith))
        (ap (λ b. slice_get (map (λ (y : ScriptLine). y.call) (cond b (x ∷ filter (λ y. eqb y.who who) a) (filter (λ y. eqb y.who who) a))) (suc m)) is)
    at false is m l more =
        further n x a who m m _ (more m l)
        (ap (λ b. slice_get (map (λ (y : ScriptLine). y.call) (cond b (x ∷ filter (λ y. eqb y.who who) a) (filter (λ y. eqb y.who who) a))) m) is)

-- a session that no line has
pub no_calls : (a : List ScriptLine) (who : ℕ) → HasSessions a → (1 ≤ who → who ≤ most_sessions → ⊥)
    → length (calls_of a who) ≡ 0
no_calls [] who has out = refl
no_calls (x ∷ a) who has out =
    ap (λ b. length (map (λ (y : ScriptLine). y.call) (cond b (x ∷ filter (λ y. eqb y.who who) a) (filter (λ y. eqb y.who who) a)))) other
    ∙ no_calls a who (λ k d lt. has (suc k) d (omega arith)) out
  where
    first : (1 ≤ x.who) × (x.who ≤ most_sessions)
    first = has 0 x (omega arith)

    other : eqb x.who who ≡ false
    other = ne_eqb x.who who (λ e. out (omega (arith, first.0)) (omega (arith, first.1)))

nth_at-old : (a : List ScriptLine) (l : ScriptLine) (k : ℕ) → k < length a → nth_at (a ++ l ∷ []) k ≡ nth_at a k
nth_at-old a l k lt =
    ap (λ o. unwrap_or (option_map (λ (line : ScriptLine). length (calls_of (take k (a ++ l ∷ [])) line.who)) o) 0) (slice_get-append a (l ∷ []) k lt)
    ∙ ap (λ s. unwrap_or (option_map (λ (line : ScriptLine). length (calls_of s line.who)) (slice_get a k)) 0) (take-append-le k a (l ∷ []) (omega arith))

nth_at-new : (a : List ScriptLine) (l : ScriptLine) → nth_at (a ++ l ∷ []) (length a) ≡ length (calls_of a l.who)
nth_at-new a l =
    ap (λ o. unwrap_or (option_map (λ (line : ScriptLine). length (calls_of (take (length a) (a ++ l ∷ [])) line.who)) o) 0) (slice_get-seam a l)
    ∙ ap (λ s. length (calls_of s l.who)) (take_at a (l ∷ []) (length a) refl)

greatest-more : (a : List ScriptLine) (l : ScriptLine) → greatest_session (a ++ l ∷ []) ≡ max (greatest_session a) l.who
greatest-more a l = from 0 a
  where
    from : (n : ℕ) (b : List ScriptLine) → fold max n (map (λ (x : ScriptLine). x.who) (b ++ l ∷ [])) ≡ max (fold max n (map (λ (x : ScriptLine). x.who) b)) l.who
    from n [] = refl
    from n (x ∷ b) = from (max n x.who) b

-- one line more of one of the 16 sessions leaves all sessions among these
pub HasSessions-more : (a : List ScriptLine) (l : ScriptLine) → HasSessions a → 1 ≤ l.who → l.who ≤ most_sessions → HasSessions (a ++ l ∷ [])
HasSessions-more a l has low high k d lt = ⊎_elim
    (λ (within : k < length a). subst (λ (x : ScriptLine). (1 ≤ x.who) × (x.who ≤ most_sessions)) (sym (get_or_append_left a (l ∷ []) d k within)) (has k d within))
    (λ (past : length a ≤ k). subst (λ (x : ScriptLine). (1 ≤ x.who) × (x.who ≤ most_sessions)) (sym (get_or_push a l d k (omega (arith, length_push a l)))) (low, high))
    (cases_lt k (length a))

IsIndexed-nil : (lists : List (List ℕ)) → lists ≡ replicate most_sessions [] → IsIndexed [] [] lists 0
IsIndexed-nil lists same = record {
  has_sessions = λ k d lt. absurd (omega arith);
  small = omega arith;
  numbered = refl;
  numbers = λ k lt. absurd (omega arith);
  listed = ap length same;
  lists = λ who low high. ap (λ ls. get_or ls (who - 1) []) same ∙ get_or-replicate most_sessions (who - 1) [] []
      (omega arith);
  greatest = refl;
}

IsIndexed-push : (a : List ScriptLine) (nths : List ℕ) (places : List (List ℕ)) (sessions : ℕ) (l : ScriptLine) (nth : ℕ) (more : List (List ℕ)) (greatest : ℕ)
    → IsIndexed a nths places sessions → 1 ≤ l.who → l.who ≤ most_sessions → length a + 1 < 2 ^ 32
    → nth ≡ length (get_or places (l.who - 1) []) → more ≡ set places (l.who - 1) (get_or places (l.who - 1) [] ++ length a ∷ []) → greatest ≡ max sessions l.who
    → IsIndexed (a ++ l ∷ []) (nths ++ nth ∷ []) more greatest
IsIndexed-push a nths places sessions l nth more greatest was low high small counted changed best = record {
  has_sessions = HasSessions-more a l was.has_sessions low high;
  small = rw length_push small;
  numbered = length_push nths nth ∙ ap (λ n. n + 1) was.numbered ∙ sym (length_push a l);
  numbers = λ k lt. ⊎_elim
      (λ (within : k < length a). get_or_append_left nths (nth ∷ []) 0 k (rw was.numbered within) ∙ was.numbers k within ∙ sym (nth_at-old a l k within))
      (λ (past : length a ≤ k).
      let here : k ≡ length a = omega (arith, length_push a l) in
      get_or_push nths nth 0 k (was.numbered ∙ sym here) ∙ counted ∙ ap length (was.lists l.who low high) ∙ length-places_from 0 a l.who ∙ sym (nth_at-new a l) ∙ ap (nth_at (a ++ l ∷ [])) (sym here))
      (cases_lt k (length a));
  listed = ap length changed ∙ length-set places (l.who - 1) _ ∙ was.listed;
  lists = λ who from to. ap (λ ls. get_or ls (who - 1) []) changed ∙ ⊎_elim
      (λ (same : who ≡ l.who).
      ap (λ i. get_or (set places (l.who - 1) (get_or places (l.who - 1) [] ++ length a ∷ [])) (i - 1) []) same
      ∙ get_or-set_same places (l.who - 1) _ [] (rw was.listed (omega arith))
      ∙ ap (λ ps. ps ++ length a ∷ []) (was.lists l.who low high)
      ∙ ap (λ i. places_from 0 a i ++ length a ∷ []) (sym same)
      ∙ sym (places_most a l who ∙ ap (λ b. places_from 0 a who ++ cond b (length a ∷ []) []) (eq-eqb l.who who (sym same))))
      (λ (other : who ≢ l.who).
      get_or-set_other places (l.who - 1) (who - 1) _ [] (λ e. other (omega arith)) ∙ was.lists who from to
      ∙ sym (places_most a l who ∙ ap (λ b. places_from 0 a who ++ cond b (length a ∷ []) []) (ne_eqb l.who who (λ e. other (sym e))) ∙ append-nil (places_from 0 a who)))
      (cases_eq who l.who);
  greatest = best ∙ ap (λ n. max n l.who) was.greatest ∙ sym (greatest-more a l);
}

-- the list of places that is kept for a session is that of its lines
pub list_of : (a : List ScriptLine) (nths : List ℕ) (places : List (List ℕ)) (sessions who : ℕ) (x : List ℕ) → IsIndexed a nths places sessions → 1 ≤ who → who ≤ most_sessions → x ≡ get_or places (who - 1) x → x ≡ places_from 0 a who
list_of a nths places sessions who x was low high read =
    let listed : length places ≡ most_sessions = was.listed in
    read ∙ get_or_default places (who - 1) x [] (omega arith) ∙ was.lists who low high

-- the index of a script's lines stays right with one line more
pub IsIndexed-pushed : (a lines : List ScriptLine) (nths numbers : List ℕ) (places : List (List ℕ)) (sessions greatest : ℕ) (l : ScriptLine) (nth place : ℕ) (read old new : List ℕ)
    → IsIndexed a nths places sessions → 1 ≤ l.who → l.who ≤ most_sessions → length a + 1 < 2 ^ 32
    → lines ≡ a ++ l ∷ [] → numbers ≡ nths ++ nth ∷ [] → nth ≡ length read → read ≡ get_or places (l.who - 1) read → old ≡ get_or places (l.who - 1) old
    → place ≡ length a → new ≡ old ++ place ∷ [] → greatest ≡ max sessions l.who → IsIndexed lines numbers (set places (l.who - 1) new) greatest
IsIndexed-pushed a lines nths numbers places sessions greatest l nth place read old new was low high small lines_are numbers_are counted read_is old_is place_is new_is best =
    let listed : length places ≡ most_sessions = was.listed in
    let read_there : read ≡ get_or places (l.who - 1) [] = read_is ∙ get_or_default places (l.who - 1) read [] (omega arith) in
    let old_there : old ≡ get_or places (l.who - 1) [] = old_is ∙ get_or_default places (l.who - 1) old [] (omega arith) in
    let new_there : new ≡ get_or places (l.who - 1) [] ++ length a ∷ [] = new_is ∙ ap (λ o. o ++ place ∷ []) old_there ∙ ap (λ p. get_or places (l.who - 1) [] ++ p ∷ []) place_is in
    let P : List ScriptLine → List ℕ → Type 0 = λ ls ns. IsIndexed ls ns (set places (l.who - 1) new) greatest in
    rw (lines_are, numbers_are)
    (IsIndexed-push a nths places sessions l nth (set places (l.who - 1) new) greatest was low high small (counted ∙ ap length read_there) (ap (set places (l.who - 1)) new_there) best)

-- a session that has a call is one of the 16
pub session_of_call : (a : List ScriptLine) (who nth : ℕ) → HasSessions a → nth < length (calls_of a who) → (1 ≤ who) × (who ≤ most_sessions)
session_of_call a who nth has lt = ⊎_elim
    (λ (low : who < 1). absurd (omega (arith, no_calls a who has (λ x y. omega arith))))
    (λ (low : 1 ≤ who). (low, ⊎_elim (λ (high : most_sessions < who). absurd (omega (arith, no_calls a who has (λ x y. omega arith)))) (λ (high : who ≤ most_sessions). high) (cases_lt most_sessions who)))
    (cases_lt who 1)
