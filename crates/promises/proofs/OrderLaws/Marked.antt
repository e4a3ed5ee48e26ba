-- What the marks that a call makes say.
use Rattle.std.specs.Prelude.{◌≡◌, ◌==◌, ◌&&◌, ◌||◌, ℕ, ◌≤◌, Bool, true, false, cond, List, [], ◌∷◌, ◌++◌, All, Contains, filter, filter_map, fold, length, map, Option, Some, slice_get}
use Rattle.std.specs.List.{list_any}
use Rattle.std.proofs.Common.{⊎_elim, inl, inr, refl, sym, ap, subst, ◌∙◌, arith}
use Rattle.std.proofs.lemmas.Bool.{and_from, cases_lt, eqb-true}
use Rattle.std.proofs.lemmas.List.{map-append}
use Rattle.std.proofs.lemmas.List.Elements.{All-append, All-cons, All-head, All-nil, All-tail, Contains-append_cases, filter-append, filter_map-append}
use Rattle.std.proofs.lemmas.List.Sums.{fold-append}
use Rattle.tape_types.specs.declared.cartridges.Twin.{Twin}
use Rattle.plain_tree.specs.declared.calls.Placed.{Placed}
use Rattle.session_script.specs.declared.logs.Reply.{Reply}
use Rattle.head_queue.specs.EventLaws.Waiting.{State}
use Rattle.promises.specs.ServingPromise.Marks.{Phase, after, draining, hand_in, hands_of, idle, kinds_of, mark, phase, place_in, places_of}
use Rattle.promises.specs.ServingPromise.Served.{AreMarks, placed_by}
use Rattle.promises.specs.declared.serving_promise.marks.MarkKind.{MarkKind}
use Rattle.promises.specs.declared.serving_promise.marks.Mark.{Mark}
use Rattle.promises.specs.OrderLaws.Kept.{owed}
use Rattle.promises.specs.OrderLaws.Phases.{goes_on, is_course, is_course_from}

-- ---- marks of one session

no_kinds : (b : Bool) → kinds_of 0 [] ≡ cond b [] []
no_kinds true = refl
no_kinds false = refl

kinds_by : (who w : ℕ) (kinds : List MarkKind) → kinds_of w (map (mark who) kinds) ≡ cond (who == w) kinds []
kinds_by who w [] = no_kinds (who == w)
kinds_by who w (kind ∷ kinds) = by (who == w) refl (kinds_by who w kinds)
  where
    by : (b : Bool) → (who == w) ≡ b → kinds_of w (map (mark who) kinds) ≡ cond (who == w) kinds []
        → map (λ (m : Mark). m.kind) (cond b (mark who kind ∷ filter (λ (m : Mark). m.who == w) (map (mark who) kinds)) (filter (λ (m : Mark). m.who == w) (map (mark who) kinds))) ≡ cond b (kind ∷ kinds) []
    by true is more = ap (λ l. kind ∷ l) (more ∙ ap (λ b. cond b kinds []) is)
    by false is more = more ∙ ap (λ b. cond b kinds []) is

-- the marks of a call are added to those of its own session alone
pub kinds_more : (who w : ℕ) (marks : List Mark) (kinds : List MarkKind) → kinds_of w (marks ++ map (mark who) kinds) ≡ kinds_of w marks ++ cond (who == w) kinds []
kinds_more who w marks kinds =
    ap (map (λ (m : Mark). m.kind)) (filter-append (λ (m : Mark). m.who == w) marks (map (mark who) kinds))
    ∙ map-append (λ (m : Mark). m.kind) (filter (λ (m : Mark). m.who == w) marks) (filter (λ (m : Mark). m.who == w) (map (mark who) kinds))
    ∙ ap (λ l. kinds_of w marks ++ l) (kinds_by who w kinds)

-- the phase of a session goes on by the marks of its own call alone
pub phase_more : (who w : ℕ) (marks : List Mark) (kinds : List MarkKind) → phase w (marks ++ map (mark who) kinds) ≡ fold after (phase w marks) (cond (who == w) kinds [])
phase_more who w marks kinds = ap (fold after idle) (kinds_more who w marks kinds) ∙ fold-append after idle (kinds_of w marks) (cond (who == w) kinds [])

-- the places in a session's marks grow by those of its own call alone
pub places_more : (who w : ℕ) (marks : List Mark) (kinds : List MarkKind) → places_of w (marks ++ map (mark who) kinds) ≡ places_of w marks ++ filter_map place_in (cond (who == w) kinds [])
places_more who w marks kinds = ap (filter_map place_in) (kinds_more who w marks kinds) ∙ filter_map-append place_in (kinds_of w marks) (cond (who == w) kinds [])

hands_more : (who w : ℕ) (marks : List Mark) (kinds : List MarkKind) → hands_of w (marks ++ map (mark who) kinds) ≡ hands_of w marks ++ filter_map hand_in (cond (who == w) kinds [])
hands_more who w marks kinds = ap (filter_map hand_in) (kinds_more who w marks kinds) ∙ filter_map-append hand_in (kinds_of w marks) (cond (who == w) kinds [])

-- ---- who drains

count_any : {X : Type 0} (p : X → Bool) (xs : List X) → list_any p xs ≡ true → 1 ≤ length (filter p xs)
count_any p [] h = absurd (cc)
count_any p (x ∷ xs) h = by (p x) h (count_any p xs)
  where
    by : (b : Bool) → (b || list_any p xs) ≡ true → (list_any p xs ≡ true → 1 ≤ length (filter p xs)) → 1 ≤ length (cond b (x ∷ filter p xs) (filter p xs))
    by true h more = omega arith
    by false h more = more h

any_count : {X : Type 0} (p : X → Bool) (xs : List X) → 1 ≤ length (filter p xs) → list_any p xs ≡ true
any_count p [] h = absurd (omega (arith, h))
any_count p (x ∷ xs) h = by (p x) h (any_count p xs)
  where
    by : (b : Bool) → 1 ≤ length (cond b (x ∷ filter p xs) (filter p xs)) → (1 ≤ length (filter p xs) → list_any p xs ≡ true) → (b || list_any p xs) ≡ true
    by true h more = refl
    by false h more = more h

-- a session drains exactly where it drains or has a fault kept for it, so often
pub record IsOwed (ph : Phase) (n : ℕ) : Type 0 where
  pub drains : ph ≡ draining → 1 ≤ n
  pub drained : 1 ≤ n → ph ≡ draining

-- a session's phase drains just as the drains and faults that it is owed say
pub to_owed : (sessions : ℕ) (history : List Placed) (replies : List (Option Reply)) (st : State) (kept : List (ℕ × Twin)) (marks : List Mark) → AreMarks sessions history replies st kept marks
    → (who : ℕ) → IsOwed (phase who marks) (owed st kept who)
to_owed sessions history replies st kept marks are who = record {
  drains = λ e. ⊎_elim (λ now. omega (arith, count_any (λ w. w == who) st.drains now)) (λ one. omega (arith, one)) (are.drains who e);
  drained = λ some. are.drained who (⊎_elim (λ none. inr (omega (arith, none, some))) (λ one. inl (any_count (λ w. w == who) st.drains one)) (cases_lt (length (filter (λ w. w == who) st.drains)) 1));
}

-- ---- the marks of a longer list

-- what the kinds of a call's marks say of its session, and what is true of what they tell
pub record AreMore (sessions who : ℕ) (old new : List Placed) (before now : List (Option Reply)) (st : State) (kept : List (ℕ × Twin)) (marks : List Mark) (kinds : List MarkKind) : Type 0 where
  pub who_is : (1 ≤ who) × (who ≤ sessions)
  pub places : (w : ℕ) → placed_by w new ≡ placed_by w old ++ filter_map place_in (cond (who == w) kinds [])
  pub stay : (k : ℕ) (reply : Reply) → slice_get before k ≡ Some (Some reply) → slice_get now k ≡ Some (Some reply)
  pub handed : (k : ℕ) (reply : Reply) → Contains (filter_map hand_in kinds) (k, reply) → slice_get now k ≡ Some (Some reply)
  pub owes : (w : ℕ) → IsOwed (fold after (phase w marks) (cond (who == w) kinds [])) (owed st kept w)
  pub once : (w : ℕ) → owed st kept w ≤ 1

all_marks : (P : Mark → Type 0) (who : ℕ) (kinds : List MarkKind) → ((kind : MarkKind) → P (mark who kind)) → All P (map (mark who) kinds)
all_marks P who [] each = All-nil P
all_marks P who (kind ∷ kinds) each = All-cons P (mark who kind) (map (mark who) kinds) (each kind) (all_marks P who kinds each)

from_cond : (b : Bool) (kinds : List MarkKind) (x : ℕ × Reply) → Contains (filter_map hand_in (cond b kinds [])) x → Contains (filter_map hand_in kinds) x
from_cond true kinds x has = has
from_cond false kinds x has = absurd (omega (arith, has.1))

-- marks that a call may make leave the marks such as calls make
pub marks_more : (sessions who : ℕ) (old new : List Placed) (before now : List (Option Reply)) (a b : State) (kept_before kept : List (ℕ × Twin)) (marks : List Mark) (kinds : List MarkKind)
    → AreMarks sessions old before a kept_before marks → AreMore sessions who old new before now b kept marks kinds → AreMarks sessions new now b kept (marks ++ map (mark who) kinds)
marks_more sessions who old new before now a b kept_before kept marks kinds are more = record {
  sessions_are = All-append (λ (m : Mark). (1 ≤ m.who) × (m.who ≤ sessions)) marks (map (mark who) kinds) are.sessions_are (all_marks (λ (m : Mark). (1 ≤ m.who) × (m.who ≤ sessions)) who kinds (λ kind. more.who_is));
  places = λ w. places_more who w marks kinds ∙ ap (λ l. l ++ filter_map place_in (cond (who == w) kinds [])) (are.places w) ∙ sym (more.places w);
  hands = λ w k reply has. ⊎_elim (λ old. more.stay k reply (are.hands w k reply old)) (λ new. more.handed k reply (from_cond (who == w) kinds (k, reply) new))
      (Contains-append_cases (hands_of w marks) (filter_map hand_in (cond (who == w) kinds [])) (k, reply) (subst (λ l. Contains l (k, reply)) (hands_more who w marks kinds) has));
  drains = λ w e.
      let some = (more.owes w).drains (sym (phase_more who w marks kinds) ∙ e) in
      ⊎_elim (λ none. inr (omega (arith, none, some, more.once w))) (λ one. inl (any_count (λ v. v == w) b.drains one)) (cases_lt (length (filter (λ v. v == w) b.drains)) 1);
  drained = λ w either. phase_more who w marks kinds ∙ (more.owes w).drained (⊎_elim (λ now. omega (arith, count_any (λ v. v == w) b.drains now)) (λ one. omega (arith, one)) either);
}

-- a session that is not idle has a mark
pub marked : (Q : ℕ → Type 0) (who : ℕ) (marks : List Mark) → All (λ (m : Mark). Q m.who) marks → (phase who marks ≡ idle → ⊥) → Q who
marked Q who [] every busy = absurd (busy refl)
marked Q who (m ∷ marks) every busy = by (m.who == who) refl (marked Q who marks (All-tail (λ (m : Mark). Q m.who) m marks every))
  where
    by : (b : Bool) → (m.who == who) ≡ b → ((phase who marks ≡ idle → ⊥) → Q who) → Q who
    by true is more = subst Q (eqb-true m.who who is) (All-head (λ (m : Mark). Q m.who) m marks every)
    by false is more = more (λ rests. busy (ap (λ b. fold after idle (map (λ (m : Mark). m.kind) (cond b (m ∷ filter (λ (m : Mark). m.who == who) marks) (filter (λ (m : Mark). m.who == who) marks)))) is ∙ rests))

-- the marks stay
pub marks_stay : (sessions : ℕ) (history : List Placed) (before now : List (Option Reply)) (a b : State) (kept_before kept : List (ℕ × Twin)) (marks : List Mark)
    → AreMarks sessions history before a kept_before marks → ((k : ℕ) (reply : Reply) → slice_get before k ≡ Some (Some reply) → slice_get now k ≡ Some (Some reply))
    → ((w : ℕ) → owed b kept w ≡ owed a kept_before w) → ((w : ℕ) → owed a kept_before w ≤ 1) → AreMarks sessions history now b kept marks
marks_stay sessions history before now a b kept_before kept marks are stay same once = record {
  sessions_are = are.sessions_are;
  places = are.places;
  hands = λ w k reply has. stay k reply (are.hands w k reply has);
  drains = λ w e.
      let some = (to_owed sessions history before a kept_before marks are w).drains e in
      ⊎_elim (λ none. inr (omega (arith, none, some, once w, same w))) (λ one. inl (any_count (λ v. v == w) b.drains one)) (cases_lt (length (filter (λ v. v == w) b.drains)) 1);
  drained = λ w either.
      (to_owed sessions history before a kept_before marks are w).drained
      (⊎_elim (λ now. omega (arith, count_any (λ v. v == w) b.drains now, same w)) (λ one. omega (arith, one, same w)) either);
}

-- ---- marks that calls make

-- a course of marks is one just if its front is, and the rest is from there on
pub course-append : (ph : Phase) (xs ys : List MarkKind) → is_course_from ph (xs ++ ys) ≡ (is_course_from ph xs && is_course_from (fold after ph xs) ys)
course-append ph [] ys = refl
course-append ph (kind ∷ xs) ys = by (goes_on ph kind) (course-append (after ph kind) xs ys)
  where
    by : (b : Bool) → is_course_from (after ph kind) (xs ++ ys) ≡ (is_course_from (after ph kind) xs && is_course_from (fold after (after ph kind) xs) ys)
        → (b && is_course_from (after ph kind) (xs ++ ys)) ≡ ((b && is_course_from (after ph kind) xs) && is_course_from (fold after (after ph kind) xs) ys)
    by true more = more
    by false more = refl

-- marks that may come in the phase of their session
pub course_more : (who : ℕ) (marks : List Mark) (kinds : List MarkKind) → is_course_from (phase who marks) kinds ≡ true → ((w : ℕ) → is_course (kinds_of w marks) ≡ true)
    → (w : ℕ) → is_course (kinds_of w (marks ++ map (mark who) kinds)) ≡ true
course_more who marks kinds may were w =
    ap is_course (kinds_more who w marks kinds) ∙ course-append idle (kinds_of w marks) (cond (who == w) kinds [])
    ∙ and_from (is_course (kinds_of w marks)) (is_course_from (phase w marks) (cond (who == w) kinds [])) (were w) (by (who == w) refl)
  where
    by : (b : Bool) → (who == w) ≡ b → is_course_from (phase w marks) (cond b kinds []) ≡ true
    by true is = subst (λ n. is_course_from (phase n marks) kinds ≡ true) (eqb-true who w is) may
    by false is = refl
