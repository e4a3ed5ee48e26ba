-- What the marks of a session say in plain words.
use Rattle.std.specs.Prelude.{◌≡◌, ◌⊎◌, ◌==◌, ◌&&◌, ◌||◌, not, ℕ, ◌≤◌, ◌<◌, nat_lt, Bool, true, false, cond, List, [], ◌∷◌, ◌++◌, Contains, filter_map, fold, length, Option, Some, None, slice_get}
use Rattle.std.specs.List.{list_all, list_any}
use Rattle.std.proofs.Common.{⊎_elim, inl, inr, refl, sym, ap, subst, ◌∙◌, arith}
use Rattle.std.proofs.lemmas.Bool.{and_from, and_parts, both_ways, cases_Bool, eq-eqb, eqb-true, false_from_ne_true, ltb-true, not_from_false, not-true}
use Rattle.std.proofs.lemmas.List.Folds.{Any-from_list_any, list_any-from_Any}
use Rattle.std.proofs.lemmas.List.Sums.{fold-append}
use Rattle.tape_drive.specs.declared.drive.Drive.{Ghosts}
use Rattle.plain_tree.specs.declared.calls.Placed.{Placed}
use Rattle.session_script.specs.Sessions.{greatest_session}
use Rattle.session_script.specs.declared.logs.Reply.{Reply}
use Rattle.head_queue.specs.EventLaws.Trail.{after_all, drains_now}
use Rattle.promises.specs.ServingPromise.Faults.{kept_for}
use Rattle.promises.specs.ServingPromise.Marks.{NothingWaits, Phase, after, draining, hand_in, hands_of, idle, kinds_of, phase, place_in, places_of, waits}
use Rattle.promises.specs.ServingPromise.Served.{Drive, View, placed_by}
use Rattle.promises.specs.declared.serving_promise.marks.MarkKind.{MarkKind}
use Rattle.promises.specs.declared.serving_promise.marks.MarkKind.TheVariants.{Places as places, Hands as hands, Begins as begins, Rests as rests}
use Rattle.promises.specs.declared.serving_promise.marks.Mark.{Mark}
use Rattle.promises.specs.OrderLaws.Kept.{IsKeptOrder, is_rising, seen}
use Rattle.promises.specs.OrderLaws.Laws.{NothingIsLeftWhereNothingWaits, PhasesArePlain}
use Rattle.promises.specs.OrderLaws.Phases.{ArePlain, IsAllDone, IsPending, NothingIsLeft, ends_drain, is_course, is_course_from}
use Rattle.promises.proofs.OrderLaws.Marked.{course-append, marked}
use Rattle.promises.proofs.OrderLaws.Picked.{has_picked, passes, picked_rise}
use Rattle.promises.proofs.OrderLaws.Placing.{as_many_places}
use Rattle.promises.proofs.OrderLaws.Rising.{all_has, has}
use Rattle.promises.proofs.OrderLaws.Views.{session_is}

-- ---- which place is waited for

abbrev is_waits : ℕ → Phase → Bool
is_waits q (waits p) = p == q
is_waits q ph = false

abbrev handed : ℕ → List MarkKind → Bool
handed q kinds = list_any (λ (e : ℕ × Reply). e.0 == q) (filter_map hand_in kinds)

-- all later places are past the one that is waited for
abbrev is_past : Phase → List ℕ → Bool
is_past (waits p) ps = list_all (nat_lt p) ps
is_past ph ps = true

nothing_yet : (b : Bool) → b ≡ ((b || false) && true)
nothing_yet true = refl
nothing_yet false = refl

handed_over : (p p' q : ℕ) (ps : List ℕ) (f h : Bool) → (p == p') ≡ true → list_all (nat_lt p) ps ≡ true → f ≡ ((false || has q ps) && not h) → f ≡ (((p == q) || has q ps) && not ((p' == q) || h))
handed_over p p' q ps f h same past e = by (p == q) refl (has q ps) refl
  where
    other : (p' == q) ≡ (p == q)
    other = ap (λ n. n == q) (sym (eqb-true p p' same))

    by : (b : Bool) → (p == q) ≡ b → (c : Bool) → has q ps ≡ c → f ≡ ((b || has q ps) && not ((p' == q) || h))
    by false is c isc = e ∙ ap (λ b. has q ps && not (b || h)) (sym (other ∙ is))
    by true is true isc = absurd (omega (arith, ltb-true p q (all_has (nat_lt p) ps q past isc), eqb-true p q is))
    by true is false isc = e ∙ ap (λ c. (false || c) && not h) isc ∙ sym (ap (λ b. not (b || h)) (other ∙ is))

final_waits : (q : ℕ) (ph : Phase) (kinds : List MarkKind) → is_course_from ph kinds ≡ true → is_rising (filter_map place_in kinds) ≡ true → is_past ph (filter_map place_in kinds) ≡ true
    → is_waits q (fold after ph kinds) ≡ ((is_waits q ph || has q (filter_map place_in kinds)) && not (handed q kinds))
final_waits q ph [] course rising past = nothing_yet (is_waits q ph)
final_waits q idle (places p ∷ kinds) course rising past =
    let parts = and_parts (list_all (nat_lt p) (filter_map place_in kinds)) (is_rising (filter_map place_in kinds)) rising in
    final_waits q (waits p) kinds course parts.1 parts.0
final_waits q idle (begins ∷ kinds) course rising past = final_waits q draining kinds course rising refl
final_waits q idle (hands p r ∷ kinds) course rising past = absurd (cc)
final_waits q idle (rests ∷ kinds) course rising past = absurd (cc)
final_waits q draining (places p ∷ kinds) course rising past =
    let parts = and_parts (list_all (nat_lt p) (filter_map place_in kinds)) (is_rising (filter_map place_in kinds)) rising in
    final_waits q (waits p) kinds course parts.1 parts.0
final_waits q draining (rests ∷ kinds) course rising past = final_waits q idle kinds course rising refl
final_waits q draining (hands p r ∷ kinds) course rising past = absurd (cc)
final_waits q draining (begins ∷ kinds) course rising past = absurd (cc)
final_waits q (waits p) (hands p' r ∷ kinds) course rising past =
    let parts = and_parts (p == p') (is_course_from (cond (p == p') idle (waits p)) kinds) course in
    let now : is_course_from idle kinds ≡ true = subst (λ b. is_course_from (cond b idle (waits p)) kinds ≡ true) parts.0 parts.1 in
    ap (λ b. is_waits q (fold after (cond b idle (waits p)) kinds)) parts.0
    ∙ handed_over p p' q (filter_map place_in kinds) (is_waits q (fold after idle kinds)) (handed q kinds) parts.0 past (final_waits q idle kinds now rising refl)
final_waits q (waits p) (places p' ∷ kinds) course rising past = absurd (cc)
final_waits q (waits p) (begins ∷ kinds) course rising past = absurd (cc)
final_waits q (waits p) (rests ∷ kinds) course rising past = absurd (cc)

waits_it : (q : ℕ) (ph : Phase) → is_waits q ph ≡ true → ph ≡ waits q
waits_it q idle e = absurd (cc)
waits_it q draining e = absurd (cc)
waits_it q (waits p) e = ap waits (eqb-true p q e)

-- ---- lists and tests

contains_has : (xs : List ℕ) (q : ℕ) → Contains xs q → has q xs ≡ true
contains_has xs q there = list_any-from_Any (λ x. x == q) xs (there.0, q, there.1, there.2, eq-eqb q q refl)

has_contains : (xs : List ℕ) (q : ℕ) → has q xs ≡ true → Contains xs q
has_contains xs q there =
    let any = Any-from_list_any (λ x. x == q) xs there in
    subst (Contains xs) (eqb-true any.1 q any.4) (any.0, any.2, any.3)

contains_handed : (given : List (ℕ × Reply)) (q : ℕ) (reply : Reply) → Contains given (q, reply) → list_any (λ (e : ℕ × Reply). e.0 == q) given ≡ true
contains_handed given q reply there = list_any-from_Any (λ (e : ℕ × Reply). e.0 == q) given (there.0, (q, reply), there.1, there.2, eq-eqb q q refl)

handed_contains : (given : List (ℕ × Reply)) (q : ℕ) → list_any (λ (e : ℕ × Reply). e.0 == q) given ≡ true → (reply : Reply) × Contains given (q, reply)
handed_contains given q there =
    let any = Any-from_list_any (λ (e : ℕ × Reply). e.0 == q) given there in
    (any.1.1, subst (λ n. Contains given (n, any.1.1)) (eqb-true any.1.0 q any.4) (any.0, any.2, any.3))

-- ---- which session drains

-- a drain has begun in these, and goes on
record HasBegun (kinds : List MarkKind) : Type 0 where
  before : List MarkKind
  since : List MarkKind
  kinds_are : kinds ≡ before ++ begins ∷ since
  still : list_any ends_drain since ≡ false

begun_before : (kind : MarkKind) (kinds : List MarkKind) → HasBegun kinds → HasBegun (kind ∷ kinds)
begun_before kind kinds b = record { before = kind ∷ b.before; since = b.since; kinds_are = ap (λ l. kind ∷ l) b.kinds_are; still = b.still }

final_drains : (ph : Phase) (kinds : List MarkKind) → is_course_from ph kinds ≡ true → fold after ph kinds ≡ draining → ((ph ≡ draining) × (list_any ends_drain kinds ≡ false)) ⊎ HasBegun kinds
final_drains ph [] course e = inl (e, refl)
final_drains idle (places p ∷ kinds) course e =
    ⊎_elim (λ h. absurd (let no : waits p ≡ draining = h.0 in cc)) (λ b. inr (begun_before (places p) kinds b)) (final_drains (waits p) kinds course e)
final_drains idle (begins ∷ kinds) course e =
    ⊎_elim (λ h. inr (record { before = []; since = kinds; kinds_are = refl; still = h.1 })) (λ b. inr (begun_before begins kinds b)) (final_drains draining kinds course e)
final_drains idle (hands p r ∷ kinds) course e = absurd (cc)
final_drains idle (rests ∷ kinds) course e = absurd (cc)
final_drains draining (places p ∷ kinds) course e =
    ⊎_elim (λ h. absurd (let no : waits p ≡ draining = h.0 in cc)) (λ b. inr (begun_before (places p) kinds b)) (final_drains (waits p) kinds course e)
final_drains draining (rests ∷ kinds) course e =
    ⊎_elim (λ h. absurd (let no : idle ≡ draining = h.0 in cc)) (λ b. inr (begun_before rests kinds b)) (final_drains idle kinds course e)
final_drains draining (hands p r ∷ kinds) course e = absurd (cc)
final_drains draining (begins ∷ kinds) course e = absurd (cc)
final_drains (waits p) (hands p' r ∷ kinds) course e =
    let parts = and_parts (p == p') (is_course_from (cond (p == p') idle (waits p)) kinds) course in
    ⊎_elim (λ h. absurd (let no : idle ≡ draining = h.0 in cc)) (λ b. inr (begun_before (hands p' r) kinds b))
    (final_drains idle kinds (subst (λ b. is_course_from (cond b idle (waits p)) kinds ≡ true) parts.0 parts.1) (sym (ap (λ b. fold after (cond b idle (waits p)) kinds) parts.0) ∙ e))
final_drains (waits p) (places p' ∷ kinds) course e = absurd (cc)
final_drains (waits p) (begins ∷ kinds) course e = absurd (cc)
final_drains (waits p) (rests ∷ kinds) course e = absurd (cc)

still_drains : (kinds : List MarkKind) → is_course_from draining kinds ≡ true → list_any ends_drain kinds ≡ false → fold after draining kinds ≡ draining
still_drains [] course still = refl
still_drains (places p ∷ kinds) course still = absurd (cc)
still_drains (rests ∷ kinds) course still = absurd (cc)
still_drains (hands p r ∷ kinds) course still = absurd (cc)
still_drains (begins ∷ kinds) course still = absurd (cc)

begins_drain : (ph : Phase) (since : List MarkKind) → is_course_from ph (begins ∷ since) ≡ true → list_any ends_drain since ≡ false → fold after ph (begins ∷ since) ≡ draining
begins_drain idle since course still = still_drains since course still
begins_drain draining since course still = absurd (cc)
begins_drain (waits p) since course still = absurd (cc)

begun_drains : (kinds : List MarkKind) → is_course kinds ≡ true → HasBegun kinds → fold after idle kinds ≡ draining
begun_drains kinds course b =
    let parts = and_parts (is_course_from idle b.before) (is_course_from (fold after idle b.before) (begins ∷ b.since))
    (sym (course-append idle b.before (begins ∷ b.since)) ∙ subst (λ l. is_course l ≡ true) b.kinds_are course) in
    ap (fold after idle) b.kinds_are ∙ fold-append after idle b.before (begins ∷ b.since) ∙ begins_drain (fold after idle b.before) b.since parts.1 b.still

-- ---- phases

plain_phases : (who : ℕ) (marks : List Mark) → is_course (kinds_of who marks) ≡ true → is_rising (places_of who marks) ≡ true → ArePlain who marks
plain_phases who marks course rising = record {
  waits_for = λ place. (pending place, waiting place);
  drains = (
    λ e. ⊎_elim (λ h. absurd (let no : idle ≡ draining = h.0 in cc)) (λ b. record { before = b.before; since = b.since; marks_are = b.kinds_are; goes_on_still = b.still }) (final_drains idle (kinds_of who marks) course e),
    λ d. begun_drains (kinds_of who marks) course (record { before = d.before; since = d.since; kinds_are = d.marks_are; still = d.goes_on_still }),
  );
}
  where
    final : (place : ℕ) → is_waits place (phase who marks) ≡ (has place (places_of who marks) && not (handed place (kinds_of who marks)))
    final place = final_waits place idle (kinds_of who marks) course rising refl

    pending : (place : ℕ) → phase who marks ≡ waits place → IsPending who place marks
    pending place e =
        let parts = and_parts (has place (places_of who marks)) (not (handed place (kinds_of who marks))) (sym (final place) ∙ ap (is_waits place) e ∙ eq-eqb place place refl) in
        record {
          placed = has_contains (places_of who marks) place parts.0;
          not_handed = λ reply there. both_ways (handed place (kinds_of who marks)) (not-true (handed place (kinds_of who marks)) parts.1) (contains_handed (hands_of who marks) place reply there);
        }

    waiting : (place : ℕ) → IsPending who place marks → phase who marks ≡ waits place
    waiting place p =
        let none = false_from_ne_true (handed place (kinds_of who marks)) (λ there. let h = handed_contains (hands_of who marks) place there in p.not_handed h.0 h.1) in
        waits_it place (phase who marks) (final place ∙ and_from (has place (places_of who marks)) (not (handed place (kinds_of who marks))) (contains_has (places_of who marks) place p.placed) (not_from_false (handed place (kinds_of who marks)) none))

-- ---- a volume that is served in order

plain_by : {D : Type 0} (first now : Drive) (v : View D) → IsKeptOrder first now v → (who : ℕ) → ArePlain who v.marks
plain_by first now v kept who =
    plain_phases who v.marks (kept.course who) (subst (λ l. is_rising l ≡ true) (sym (kept.orderly.marks.places who)) (picked_rise (λ p. p.who == who) 0 v.history))

-- the phase of each session is what its marks say in plain words
pub phases_plain : {D : Type 0} (drive : Ghosts D) → PhasesArePlain drive
phases_plain drive v kept who = plain_by (seen drive v.fixed.first) (seen drive v.drive) v kept who

idle_or : (ph : Phase) → (ph ≡ idle) ⊎ (ph ≡ idle → ⊥)
idle_or idle = inl refl
idle_or draining = inr (λ e. cc)
idle_or (waits p) = inr (λ e. cc)

module _ {D : Type 0} (first now : Drive) (v : View D) (kept : IsKeptOrder first now v) where
  placed_at : (k : ℕ) (p : Placed) → slice_get v.history k ≡ Some p → has k (placed_by p.who v.history) ≡ true
  placed_at k p e = has_picked (λ q. q.who == p.who) v.history k ∙ ap (passes (λ q. q.who == p.who)) e ∙ eq-eqb p.who p.who refl

  some_has : (xs : List ℕ) (k : ℕ) → has k xs ≡ true → 0 < length xs
  some_has [] k e = absurd (cc)
  some_has (x ∷ xs) k e = omega arith

  -- a session with a placement is one of the script's
  placed_by_session : (k : ℕ) (p : Placed) → slice_get v.history k ≡ Some p → (1 ≤ p.who) × (p.who ≤ greatest_session v.fixed.script)
  placed_by_session k p e = session_is p.who v.fixed.script kept.sessions
      (omega (arith, kept.orderly.placed.within p.who, as_many_places p.who v.history, some_has (placed_by p.who v.history) k (placed_at k p e)))

  all_idle : NothingWaits (greatest_session v.fixed.script) v.marks → (who : ℕ) → phase who v.marks ≡ idle
  all_idle nothing who = ⊎_elim (λ e. e)
      (λ busy. let in_script = marked (λ w. (1 ≤ w) × (w ≤ greatest_session v.fixed.script)) who v.marks kept.orderly.marks.sessions_are busy in nothing who in_script.0 in_script.1)
      (idle_or (phase who v.marks))

  done : NothingWaits (greatest_session v.fixed.script) v.marks → IsAllDone v
  done nothing = record {
    handed = λ k p e.
        let there = ⊎_elim (λ h. h)
        (λ none. absurd (let no : idle ≡ waits k = sym (all_idle nothing p.who) ∙ ((plain_by first now v kept p.who).waits_for k).1 (record {
          placed = has_contains (places_of p.who v.marks) k (ap (has k) (kept.orderly.marks.places p.who) ∙ placed_at k p e);
          not_handed = λ reply there. both_ways (handed k (kinds_of p.who v.marks)) none (contains_handed (hands_of p.who v.marks) k reply there);
        }) in cc))
        (cases_Bool (handed k (kinds_of p.who v.marks))) in
        let h = handed_contains (hands_of p.who v.marks) k there in
        (h.0, kept.orderly.marks.hands p.who k h.0 h.1, h.1);
    drains_none = λ who. false_from_ne_true (drains_now (after_all v.events) who) (λ drains. let no : idle ≡ draining = sym (all_idle nothing who) ∙ kept.orderly.marks.drained who (inl drains) in cc);
    keeps_none = λ who. by who (kept_for who v.kept) refl;
  }
    where
      by : (who : ℕ) (l : List Rattle.tape_types.specs.declared.cartridges.Twin.Twin) → kept_for who v.kept ≡ l → kept_for who v.kept ≡ []
      by who [] e = e
      by who (t ∷ l) e = absurd (let no : idle ≡ draining = sym (all_idle nothing who) ∙ kept.orderly.marks.drained who (inr (omega (arith, ap length e))) in cc)

  placement_of : (who k : ℕ) (p : Option Placed) → slice_get v.history k ≡ p → passes (λ (q : Placed). q.who == who) p ≡ true → (p : Placed) × (slice_get v.history k ≡ Some p) × (p.who ≡ who)
  placement_of who k None e h = absurd (cc)
  placement_of who k (Some p) e h = (p, e, eqb-true p.who who h)

  none_waits : IsAllDone v → NothingWaits (greatest_session v.fixed.script) v.marks
  none_waits all who least most = by (phase who v.marks) refl
    where
      by : (ph : Phase) → phase who v.marks ≡ ph → phase who v.marks ≡ idle
      by idle e = e
      by draining e = absurd (⊎_elim (λ now. both_ways (drains_now (after_all v.events) who) (all.drains_none who) now) (λ one. omega (arith, one, ap length (all.keeps_none who))) (kept.orderly.marks.drains who e))
      by (waits place) e =
          let p = ((plain_by first now v kept who).waits_for place).0 e in
          let q = placement_of who place (slice_get v.history place) refl
          (sym (has_picked (λ (q : Placed). q.who == who) v.history place) ∙ ap (has place) (sym (kept.orderly.marks.places who)) ∙ contains_has (places_of who v.marks) place p.placed) in
          let h = all.handed place q.0 q.1 in
          absurd (p.not_handed h.0 (subst (λ w. Contains (hands_of w v.marks) (place, h.0)) q.2 h.2))

  pub nothing_left : NothingIsLeft v
  nothing_left = (done, none_waits)

-- nothing waits exactly where each reply was handed out, and nobody drains
pub nothing_waits : {D : Type 0} (drive : Ghosts D) → NothingIsLeftWhereNothingWaits drive
nothing_waits drive v kept = nothing_left (seen drive v.fixed.first) (seen drive v.drive) v kept
