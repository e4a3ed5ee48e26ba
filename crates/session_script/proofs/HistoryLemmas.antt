-- One more placement at the end of a history that goes by the lines of a script.
use Rattle.std.proofs.Common.{◌≡◌, ℕ, zero, suc, ◌+◌, ◌<◌, Bool, true, false, cond, eqb, List, [], ◌∷◌, ◌++◌, length, take, filter, map, Some, sym, ap, ◌∙◌, refl, subst, arith, ⊎_elim, append-nil}
use Rattle.std.specs.Prelude.{slice_get}
use Rattle.std.specs.List.{range_with_len}
use Rattle.std.proofs.lemmas.Bool.{eqb-true, eq-eqb, cases_lt}
use Rattle.std.proofs.lemmas.List.{map-append, take-append-le, length_push, take_all}
use Rattle.std.proofs.lemmas.List.Elements.{filter-append}
use Rattle.std.proofs.lemmas.List.FromFn.{map-range_with_len_more}
use Rattle.std.proofs.lemmas.Option.{slice_get_within, same_Some}
use Rattle.tape_types.proofs.LongerLists.{slice_get-append, slice_get-seam}
use Rattle.plain_tree.specs.declared.calls.Call.{Call}
use Rattle.plain_tree.specs.declared.calls.Placed.{Placed}
use Rattle.plain_tree.specs.History.{Calls, call_at, replay, IsInterleaving}
use Rattle.plain_tree.specs.Tree.{Tree}
use Rattle.session_script.specs.Grammar.{calls_of}
use Rattle.session_script.specs.Replies.{AreReplies, IsPlainReply, IsReply, MayCome}
use Rattle.session_script.specs.declared.logs.Reply.{Reply}
use Rattle.session_script.specs.declared.scripts.ScriptLine.{ScriptLine}

filter-one : {A : Type 0} (test : A → Bool) (x : A) → filter test (x ∷ []) ≡ cond (test x) (x ∷ []) []
filter-one test x = at (test x)
  where
    at : (b : Bool) → cond b (x ∷ []) [] ≡ cond b (x ∷ []) []
    at b = refl

map-one_if : {A B : Type 0} (f : A → B) (b : Bool) (x : A) → map f (cond b (x ∷ []) []) ≡ cond b (f x ∷ []) []
map-one_if f true x = refl
map-one_if f false x = refl

-- the elements that pass, as they are shown, of a list with one more
shown-push : {A B : Type 0} (show : A → B) (test : A → Bool) (xs : List A) (x : A) → map show (filter test (xs ++ x ∷ [])) ≡ map show (filter test xs) ++ cond (test x) (show x ∷ []) []
shown-push show test xs x =
    ap (map show) (filter-append test xs (x ∷ []) ∙ ap (λ l. filter test xs ++ l) (filter-one test x))
    ∙ map-append show (filter test xs) (cond (test x) (x ∷ []) [])
    ∙ ap (λ l. map show (filter test xs) ++ l) (map-one_if show (test x) x)

range_more : (n : ℕ) → range_with_len 0 (n + 1) ≡ range_with_len 0 n ++ n ∷ []
range_more n = sym (map_same (range_with_len 0 (n + 1))) ∙ map-range_with_len_more (λ i. i) 0 n n (omega arith) ∙ ap (λ l. l ++ n ∷ []) (map_same (range_with_len 0 n))
  where
    map_same : (xs : List ℕ) → map (λ i. i) xs ≡ xs
    map_same [] = refl
    map_same (x ∷ xs) = ap (λ l. x ∷ l) (map_same xs)

-- the line's session goes on by one number, and the others stay
numbers_go_on : (b : Bool) (calls : List Call) (call : Call) (nth : ℕ) → (b ≡ true → nth ≡ length calls) → range_with_len 0 (length calls) ++ cond b (nth ∷ []) [] ≡ range_with_len 0 (length (calls ++ cond b (call ∷ []) []))
numbers_go_on true calls call nth next =
    ap (λ n. range_with_len 0 (length calls) ++ n ∷ []) (next refl) ∙ sym (range_more (length calls)) ∙ ap (range_with_len 0) (sym (length_push calls call))
numbers_go_on false calls call nth next = simp append-nil refl

-- a placement of the next line's call keeps each session's calls in order
pub interleaving_more : (script : List ScriptLine) (line : ScriptLine) (history : List Placed) (p : Placed) → p.who ≡ line.who → p.nth ≡ length (calls_of script line.who) → IsInterleaving (calls_of script) history
    → IsInterleaving (calls_of (script ++ line ∷ [])) (history ++ p ∷ [])
interleaving_more script line history p same next so_far who =
    shown-push (λ q. q.nth) (λ q. eqb q.who who) history p
    ∙ ap (λ l. l ++ cond (eqb p.who who) (p.nth ∷ []) []) (so_far who)
    ∙ ap (λ w. range_with_len 0 (length (calls_of script who)) ++ cond (eqb w who) (p.nth ∷ []) []) same
    ∙ numbers_go_on (eqb line.who who) (calls_of script who) line.call p.nth (λ is. next ∙ ap (λ w. length (calls_of script w)) (eqb-true line.who who is))
    ∙ ap (λ l. range_with_len 0 (length l)) (sym (shown-push (λ l. l.call) (λ l. eqb l.who who) script line))

-- the call of a line is the one of its session with as many calls before it
pub call_at_line : (script : List ScriptLine) (k : ℕ) (line : ScriptLine) → slice_get script k ≡ Some line
    → slice_get (calls_of script line.who) (length (calls_of (take k script) line.who)) ≡ Some line.call
call_at_line [] k line found = cc
call_at_line (x ∷ script) zero line found =
    let same : x ≡ line = same_Some x line found in
    ap (λ b. slice_get (map (λ l. l.call) (cond b (x ∷ filter (λ l. eqb l.who line.who) script) (filter (λ l. eqb l.who line.who) script))) 0) (eq-eqb x.who line.who (ap (λ l. l.who) same))
    ∙ ap (λ l. Some l.call) same
call_at_line (x ∷ script) (suc k) line found = at (eqb x.who line.who) (call_at_line script k line found)
  where
    at : (b : Bool) → slice_get (calls_of script line.who) (length (calls_of (take k script) line.who)) ≡ Some line.call
        → slice_get (map (λ l. l.call) (cond b (x ∷ filter (λ l. eqb l.who line.who) script) (filter (λ l. eqb l.who line.who) script)))
        (length (map (λ l. l.call) (cond b (x ∷ filter (λ l. eqb l.who line.who) (take k script)) (filter (λ l. eqb l.who line.who) (take k script))))) ≡ Some line.call
    at true rest = rest
    at false rest = rest

-- one more placement with its reply, where what may come to the placements before it may come still
replies_go_on : (calls : Calls) (may_come : MayCome) (history : List Placed) (answered : List Reply) (p : Placed) (call : Call) (reply : Reply)
    → ((place : ℕ) (q : Placed) (asked : Call) (r : Reply) → place < length history → may_come history place q asked r → may_come (history ++ p ∷ []) place q asked r)
    → AreReplies calls may_come history answered → call_at calls p ≡ Some call → may_come (history ++ p ∷ []) (length history) p call reply
    → AreReplies calls may_come (history ++ p ∷ []) (answered ++ reply ∷ [])
replies_go_on calls may_come history answered p call reply stays so_far is answers = record {
  count = length_push answered reply ∙ ap (λ n. n + 1) so_far.count ∙ sym (length_push history p);
  each = λ place q r at_q at_r. ⊎_elim
      (λ lt.
      let there = so_far.each place q r (sym (slice_get-append history (p ∷ []) place lt) ∙ at_q) (sym (slice_get-append answered (reply ∷ []) place (omega (arith, so_far.count))) ∙ at_r) in
      (there.0, there.1, stays place q there.0 r lt there.2))
      (λ ge.
      let within : place < length (history ++ p ∷ []) = slice_get_within (history ++ p ∷ []) place q at_q in
      let last : place ≡ length history = omega (arith, length_push history p) in
      let is_p : p ≡ q = same_Some p q (sym (slice_get-seam history p) ∙ ap (slice_get (history ++ p ∷ [])) (sym last) ∙ at_q) in
      let is_reply : reply ≡ r = same_Some reply r (sym (slice_get-seam answered reply) ∙ ap (slice_get (answered ++ reply ∷ [])) (so_far.count ∙ sym last) ∙ at_r) in (
        call,
        ap (call_at calls) (sym is_p) ∙ is,
        subst (λ k. may_come (history ++ p ∷ []) k q call r) (sym last)
            (subst (λ x. may_come (history ++ p ∷ []) (length history) x call r) is_p (subst (may_come (history ++ p ∷ []) (length history) p call) is_reply answers)),
      ))
      (cases_lt place (length history));
}

-- the same on the plain tree
pub replies_more : (calls : Calls) (first : Tree) (history : List Placed) (answered : List Reply) (p : Placed) (call : Call) (reply : Reply)
    → AreReplies calls (IsPlainReply calls first) history answered → call_at calls p ≡ Some call → IsReply p.fate (replay calls first history) call reply
    → AreReplies calls (IsPlainReply calls first) (history ++ p ∷ []) (answered ++ reply ∷ [])
replies_more calls first history answered p call reply so_far is answers =
    replies_go_on calls (IsPlainReply calls first) history answered p call reply
    (λ place q asked r lt may. subst (λ h. IsReply q.fate (replay calls first h) asked r) (sym (take-append-le place history (p ∷ []) (omega arith))) may)
    so_far is
    (subst (λ h. IsReply p.fate (replay calls first h) call reply) (sym (take-append-le (length history) history (p ∷ []) (omega arith) ∙ take_all (length history) history (omega arith))) answers)
