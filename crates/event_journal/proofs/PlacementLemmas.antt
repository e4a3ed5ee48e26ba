-- What is kept of placements and marks as a mark is added.
use Rattle.std.specs.Prelude.{◌≡◌, ◌≢◌, ◌==◌, ℕ, zero, suc, ◌+◌, ◌-◌, ◌*◌, ◌≤◌, ◌<◌, Bool, true, false, cond, List, [], ◌∷◌, ◌++◌, length, filter, fold, map, Option, Some, None, slice_get, slice_set}
use Rattle.std.specs.List.{AllByRecursion}
use Rattle.std.proofs.Common.{refl, sym, ap, subst, ◌∙◌, arith, length-append}
use Rattle.std.proofs.lemmas.Bool.{eq-eqb, eqb-true}
use Rattle.std.proofs.lemmas.List.Sums.{fold-append}
use Rattle.std.proofs.lemmas.List.{map-append}
use Rattle.std.proofs.lemmas.List.Elements.{filter-append}
use Rattle.plain_tree.specs.declared.calls.Placed.{Placed}
use Rattle.session_script.specs.declared.logs.Reply.{Reply}
use Rattle.promises.specs.declared.serving_promise.marks.Mark.{Mark}
use Rattle.promises.specs.declared.serving_promise.marks.MarkKind.{MarkKind}
use Rattle.promises.specs.declared.serving_promise.marks.MarkKind.TheVariants as kinds
use Rattle.promises.specs.ServingPromise.Marks.{idle, draining, waits, after, kinds_of, mark, phase}
use Rattle.event_journal.specs.declared.placements.Stored.{Stored}
use Rattle.event_journal.specs.declared.placements.What.{What}
use Rattle.event_journal.specs.declared.placements.What.TheVariants as stored
use Rattle.event_journal.specs.Placements.{IsListed, IsOfSession, IsThere, busy, count, is_busy, kind_of, or_none, owed, shown, there}

-- ---- counts

-- two tests that differ at one number alone
count_past : (p q : ℕ → Bool) (at n : ℕ) → ((k : ℕ) → k ≢ at → q k ≡ p k) → n < at → count q n ≡ count p n
count_past p q at zero same past = refl
count_past p q at (suc n) same past = omega (
  arith,
  ap {B = ℕ} (λ b. cond b 1 0) (same (suc n) (λ is. omega (arith, is))),
  count_past p q at n same (omega arith),
)

cond_most : (b : Bool) → cond b 1 0 ≤ 1
cond_most true = omega arith
cond_most false = omega arith

count_most : (p q : ℕ → Bool) (at n : ℕ) → ((k : ℕ) → k ≢ at → q k ≡ p k) → count q n ≤ count p n + 1
count_most p q at zero same = omega arith
count_most p q at (suc n) same = by (count_most p q at n same) (suc n == at) refl
  where
    by : count q n ≤ count p n + 1 → (b : Bool) → (suc n == at) ≡ b → count q (suc n) ≤ count p (suc n) + 1
    by before true is =
        let here : suc n ≡ at = eqb-true (suc n) at is in
        omega (arith, count_past p q at n same (omega (arith, here)), cond_most (q (suc n)))
    by before false isnt = omega (
      arith,
      ap {B = ℕ} (λ b. cond b 1 0) (same (suc n) (λ e. let no : (suc n == at) ≡ true = eq-eqb (suc n) at e in cc)),
      before,
    )

count_less : (p q : ℕ → Bool) (at n : ℕ) → ((k : ℕ) → k ≢ at → q k ≡ p k) → p at ≡ true → q at ≡ false → 1 ≤ at → at ≤ n
    → count q n + 1 ≡ count p n
count_less p q at zero same was is low high = omega arith
count_less p q at (suc n) same was is low high = by (λ more. count_less p q at n same was is low more) (suc n == at) refl
  where
    by : (at ≤ n → count q n + 1 ≡ count p n) → (b : Bool) → (suc n == at) ≡ b → count q (suc n) + 1 ≡ count p (suc n)
    by before true e =
        let here : suc n ≡ at = eqb-true (suc n) at e in
        omega (
          arith,
          count_past p q at n same (omega (arith, here)),
          ap {B = ℕ} (λ b. cond b 1 0) (subst (λ k. p k ≡ true) (sym here) was),
          ap {B = ℕ} (λ b. cond b 1 0) (subst (λ k. q k ≡ false) (sym here) is),
        )
    by before false isnt =
        let other : suc n ≢ at = (λ e. let no : (suc n == at) ≡ true = eq-eqb (suc n) at e in cc) in
        omega (arith, ap {B = ℕ} (λ b. cond b 1 0) (same (suc n) other), before (omega (arith, other)))

-- ---- phases

kinds_by : (who : ℕ) (m : Mark) (b : Bool) → (m.who == who) ≡ b → kinds_of who (m ∷ []) ≡ cond b (m.kind ∷ []) []
kinds_by who m true is = rw is refl
kinds_by who m false is = rw is refl

kinds_more : (who : ℕ) (marks : List Mark) (m : Mark) → kinds_of who (marks ++ m ∷ []) ≡ kinds_of who marks ++ kinds_of who (m ∷ [])
kinds_more who marks m = ap (λ (ms : List Mark). map (λ (x : Mark). x.kind) ms) (filter-append (λ (x : Mark). x.who == who) marks (m ∷ []))
    ∙ map-append (λ (x : Mark). x.kind) (filter (λ (x : Mark). x.who == who) marks) (filter (λ (x : Mark). x.who == who) (m ∷ []))

phase_fold : (who : ℕ) (marks : List Mark) (m : Mark) → phase who (marks ++ m ∷ []) ≡ fold after (phase who marks) (kinds_of who (m ∷ []))
phase_fold who marks m = ap (λ (ks : List MarkKind). fold after idle ks) (kinds_more who marks m)
    ∙ fold-append after idle (kinds_of who marks) (kinds_of who (m ∷ []))

-- a session's mark takes it to its next phase
phase_here : (who : ℕ) (marks : List Mark) (kind : MarkKind) → phase who (marks ++ mark who kind ∷ []) ≡ after (phase who marks) kind
phase_here who marks kind = phase_fold who marks (mark who kind)
    ∙ ap (λ (ks : List MarkKind). fold after (phase who marks) ks) (kinds_by who (mark who kind) true (eq-eqb who who refl))

-- and leaves all others as they are
phase_there : (who other : ℕ) (marks : List Mark) (kind : MarkKind) → other ≢ who
    → phase other (marks ++ mark who kind ∷ []) ≡ phase other marks
phase_there who other marks kind apart = phase_fold other marks (mark who kind) ∙ by (who == other) refl
  where
    by : (b : Bool) → (who == other) ≡ b → fold after (phase other marks) (kinds_of other (mark who kind ∷ [])) ≡ phase other marks
    by true is = absurd (apart (sym (eqb-true who other is)))
    by false isnt = ap (λ (ks : List MarkKind). fold after (phase other marks) ks) (kinds_by other (mark who kind) false isnt)

-- ---- busy sessions

busy_most : (sessions who : ℕ) (marks : List Mark) (kind : MarkKind) → busy sessions (marks ++ mark who kind ∷ []) ≤ busy sessions marks + 1
busy_most sessions who marks kind = count_most (λ k. is_busy (phase k marks)) (λ k. is_busy (phase k (marks ++ mark who kind ∷ []))) who sessions
    (λ k apart. ap is_busy (phase_there who k marks kind apart))

busy_less : (sessions who : ℕ) (marks : List Mark) (kind : MarkKind) → 1 ≤ who → who ≤ sessions
    → is_busy (phase who marks) ≡ true → is_busy (after (phase who marks) kind) ≡ false
    → busy sessions (marks ++ mark who kind ∷ []) + 1 ≡ busy sessions marks
busy_less sessions who marks kind low high was is = count_less (λ k. is_busy (phase k marks))
    (λ k. is_busy (phase k (marks ++ mark who kind ∷ []))) who sessions
    (λ k apart. ap is_busy (phase_there who k marks kind apart)) was (ap is_busy (phase_here who marks kind) ∙ is) low high

-- ---- replies

-- replies that are there stay where they are
abbrev pub KeepsThere : List (Option Reply) → List (Option Reply) → Type 0
KeepsThere old new = (place : ℕ) (reply : Reply) → slice_get old place ≡ Some (Some reply) → slice_get new place ≡ Some (Some reply)

what_stays : (old new : List (Option Reply)) (w : What) → KeepsThere old new → IsThere old w → kind_of new w ≡ kind_of old w
what_stays old new (stored.Places place) keeps is = refl
what_stays old new (stored.Hands place) keeps is =
    ap (λ r. kinds.Hands place (or_none (there r))) (keeps place is.0 is.1 ∙ sym is.1)
what_stays old new stored.Begins keeps is = refl
what_stays old new stored.Rests keeps is = refl

there_stays : (old new : List (Option Reply)) (w : What) → KeepsThere old new → IsThere old w → IsThere new w
there_stays old new (stored.Places place) keeps is = is
there_stays old new (stored.Hands place) keeps is = (is.0, keeps place is.0 is.1)
there_stays old new stored.Begins keeps is = is
there_stays old new stored.Rests keeps is = is

shown_stays : (sessions : ℕ) (old new : List (Option Reply)) (marks : List Stored) → KeepsThere old new
    → AllByRecursion (IsOfSession sessions old) marks → map (shown new) marks ≡ map (shown old) marks
shown_stays sessions old new [] keeps all = refl
shown_stays sessions old new (s ∷ marks) keeps all =
    let first : shown new s ≡ shown old s = ap (mark s.who) (what_stays old new s.what keeps all.0.handed) in
    let rest : map (shown new) marks ≡ map (shown old) marks = shown_stays sessions old new marks keeps all.1 in
    rw (first, rest) refl

right_stays : (sessions : ℕ) (old new : List (Option Reply)) (marks : List Stored) → KeepsThere old new
    → AllByRecursion (IsOfSession sessions old) marks → AllByRecursion (IsOfSession sessions new) marks
right_stays sessions old new [] keeps all = tt
right_stays sessions old new (s ∷ marks) keeps all = (
  record { low = all.0.low; high = all.0.high; handed = there_stays old new s.what keeps all.0.handed },
  right_stays sessions old new marks keeps all.1,
)

right_more : (sessions : ℕ) (told : List (Option Reply)) (marks : List Stored) (s : Stored)
    → AllByRecursion (IsOfSession sessions told) marks → IsOfSession sessions told s
    → AllByRecursion (IsOfSession sessions told) (marks ++ s ∷ [])
right_more sessions told [] s all one = (one, tt)
right_more sessions told (x ∷ marks) s all one = (all.0, right_more sessions told marks s all.1 one)

get_front : {X : Type 0} (xs ys : List X) (k : ℕ) (x : X) → slice_get xs k ≡ Some x → slice_get (xs ++ ys) k ≡ Some x
get_front [] ys k x e = cc
get_front (z ∷ xs) ys zero x e = e
get_front (z ∷ xs) ys (suc k) x e = get_front xs ys k x e

keeps_more : (told : List (Option Reply)) (x : Option Reply) → KeepsThere told (told ++ x ∷ [])
keeps_more told x place reply is = get_front told (x ∷ []) place (Some reply) is

get_other : {X : Type 0} (xs : List X) (at k : ℕ) (x : X) → k ≢ at → slice_get (slice_set xs at x) k ≡ slice_get xs k
get_other [] at k x apart = refl
get_other (z ∷ xs) zero zero x apart = absurd (apart refl)
get_other (z ∷ xs) zero (suc k) x apart = refl
get_other (z ∷ xs) (suc at) zero x apart = refl
get_other (z ∷ xs) (suc at) (suc k) x apart = get_other xs at k x (λ e. apart (ap suc e))

-- a reply that wasn't there takes none away
keeps_set : (told : List (Option Reply)) (at : ℕ) (x : Option Reply) → slice_get told at ≡ Some None → KeepsThere told (slice_set told at x)
keeps_set told at x none place reply is =
    get_other told at place x (λ e. let no : Some (Some reply) ≡ Some None = sym is ∙ ap (slice_get told) e ∙ none in cc) ∙ is

set_length : {X : Type 0} (xs : List X) (at : ℕ) (x : X) → length (slice_set xs at x) ≡ length xs
set_length [] at x = refl
set_length (z ∷ xs) zero x = refl
set_length (z ∷ xs) (suc at) x = ap suc (set_length xs at x)

-- ---- what is kept

-- a mark more, of a session that drains or waits no more
listed_less : (history : List Placed) (told : List (Option Reply)) (marks : List Stored) (calls sessions h r room left : ℕ) (s : Stored)
    → IsListed history told marks calls sessions h r room → IsOfSession sessions told s
    → is_busy (phase s.who (map (shown told) marks)) ≡ true
    → is_busy (after (phase s.who (map (shown told) marks)) (kind_of told s.what)) ≡ false → room ≤ left + 1
    → IsListed history told (marks ++ s ∷ []) calls sessions h r left
listed_less history told marks calls sessions h r room left s is one was then enough = record {
  each = is.each;
  few = is.few;
  histories = is.histories;
  replies = is.replies;
  right = right_more sessions told marks s is.right one;
  room =
      let all : map (shown told) (marks ++ s ∷ []) ≡ map (shown told) marks ++ shown told s ∷ [] = map-append (shown told) marks (s ∷ []) in
      let low : owed calls sessions (length history) (map (shown told) marks ++ shown told s ∷ []) ≤ left =
      omega (arith, busy_less sessions s.who (map (shown told) marks) (kind_of told s.what) one.low one.high was then, is.room, enough) in
      subst (λ ms. owed calls sessions (length history) ms ≤ left) (sym all) low;
}

-- a mark more, of any session
listed_more : (history : List Placed) (told : List (Option Reply)) (marks : List Stored) (calls sessions h r room left : ℕ) (s : Stored)
    → IsListed history told marks calls sessions h r room → IsOfSession sessions told s
    → 2 + owed calls sessions (length history) (map (shown told) marks) ≤ room → room ≤ left + 1
    → IsListed history told (marks ++ s ∷ []) calls sessions h r left
listed_more history told marks calls sessions h r room left s is one has enough = record {
  each = is.each;
  few = is.few;
  histories = is.histories;
  replies = is.replies;
  right = right_more sessions told marks s is.right one;
  room =
      let all : map (shown told) (marks ++ s ∷ []) ≡ map (shown told) marks ++ shown told s ∷ [] = map-append (shown told) marks (s ∷ []) in
      let low : owed calls sessions (length history) (map (shown told) marks ++ shown told s ∷ []) ≤ left =
      omega (arith, busy_most sessions s.who (map (shown told) marks) (kind_of told s.what), has, enough) in
      subst (λ ms. owed calls sessions (length history) ms ≤ left) (sym all) low;
}

-- a placement more, with its mark
listed_placed : (history : List Placed) (told : List (Option Reply)) (marks : List Stored)
    (calls sessions h r more_h more_r room left : ℕ) (placed : Placed)
    → IsListed history told marks calls sessions h r room → length history < calls → 1 ≤ placed.who → placed.who ≤ sessions
    → h ≤ more_h → r ≤ more_r → room ≤ left + 1
    → IsListed (history ++ placed ∷ []) (told ++ None ∷ []) (marks ++ record { who = placed.who; what = stored.Places (length history) } ∷ [])
    calls sessions more_h more_r left
listed_placed history told marks calls sessions h r more_h more_r room left placed is few low high hs rs enough =
    let s : Stored = record { who = placed.who; what = stored.Places (length history) } in
    let keeps : KeepsThere told (told ++ None ∷ []) = keeps_more told None in
    let right : AllByRecursion (IsOfSession sessions (told ++ None ∷ [])) marks = right_stays sessions told (told ++ None ∷ []) marks keeps is.right in
    record {
      each = omega (arith, length-append told (None ∷ []), length-append history (placed ∷ []), is.each);
      few = omega (arith, length-append history (placed ∷ []), few);
      histories = omega (arith, is.histories, hs);
      replies = omega (arith, is.replies, rs);
      right = right_more sessions (told ++ None ∷ []) marks s right (record { low = low; high = high; handed = omega arith });
      room =
          let all : map (shown (told ++ None ∷ [])) (marks ++ s ∷ []) ≡ map (shown told) marks ++ shown told s ∷ [] =
          map-append (shown (told ++ None ∷ [])) marks (s ∷ [])
          ∙ ap (λ ms. ms ++ shown told s ∷ []) (shown_stays sessions told (told ++ None ∷ []) marks keeps is.right) in
          let low : owed calls sessions (length (history ++ placed ∷ [])) (map (shown told) marks ++ shown told s ∷ []) ≤ left =
          omega (
            arith,
            busy_most sessions placed.who (map (shown told) marks) (kinds.Places (length history)),
            length-append history (placed ∷ []),
            few,
            is.room,
            enough,
          ) in
          subst (λ ms. owed calls sessions (length (history ++ placed ∷ [])) ms ≤ left) (sym all) low;
    }

-- a reply more
listed_answered : (history : List Placed) (told : List (Option Reply)) (marks : List Stored) (calls sessions h r room at : ℕ) (reply : Reply)
    → IsListed history told marks calls sessions h r room → slice_get told at ≡ Some None
    → IsListed history (slice_set told at (Some reply)) marks calls sessions h r room
listed_answered history told marks calls sessions h r room at reply is none =
    let keeps : KeepsThere told (slice_set told at (Some reply)) = keeps_set told at (Some reply) none in
    record {
      each = set_length told at (Some reply) ∙ is.each;
      few = is.few;
      histories = is.histories;
      replies = is.replies;
      right = right_stays sessions told (slice_set told at (Some reply)) marks keeps is.right;
      room = rw (shown_stays sessions told (slice_set told at (Some reply)) marks keeps is.right) is.room;
    }

-- ---- each call

count_all : (p : ℕ → Bool) (n : ℕ) → count p n ≤ n
count_all p zero = omega arith
count_all p (suc n) = omega (arith, cond_most (p (suc n)), count_all p n)

-- no more sessions drain or wait than there are
pub busy_all : (sessions : ℕ) (marks : List Mark) → busy sessions marks ≤ sessions
busy_all sessions marks = count_all (λ who. is_busy (phase who marks)) sessions

count_none : (n : ℕ) → count (λ who. is_busy (phase who [])) n ≡ 0
count_none zero = refl
count_none (suc n) = omega (arith, count_none n)

-- with no placement yet there is room for all that are to come
pub new_listed : (history : List Placed) (told : List (Option Reply)) (marks : List Stored) (calls sessions h r room : ℕ)
    → history ≡ [] → told ≡ [] → marks ≡ [] → calls ≤ h → calls ≤ r → 2 * calls ≤ room
    → IsListed history told marks calls sessions h r room
new_listed history told marks calls sessions h r room no_history no_told no_marks for_history for_told for_marks =
    rw (no_history, no_told, no_marks) (record {
      each = refl;
      few = omega arith;
      histories = for_history;
      replies = for_told;
      right = tt;
      room = let none : busy sessions [] ≡ 0 = count_none sessions in omega (arith, none, for_marks);
    })

hands_free : (place : ℕ) (reply : Reply) → after (waits place) (kinds.Hands place reply) ≡ idle
hands_free place reply = ap (λ b. cond b idle (waits place)) (eq-eqb place place refl)

-- there is room for the mark of a reply that is handed out
pub hand_fits : (history : List Placed) (told : List (Option Reply)) (marks : List Stored) (calls sessions h r room who place : ℕ)
    → IsListed history told marks calls sessions h r room → phase who (map (shown told) marks) ≡ waits place
    → 1 ≤ who → who ≤ sessions → 1 ≤ room
hand_fits history told marks calls sessions h r room who place is waiting low high =
    let kind : MarkKind = kinds.Hands place (or_none None) in
    let less : busy sessions (map (shown told) marks ++ mark who kind ∷ []) + 1 ≡ busy sessions (map (shown told) marks) =
    busy_less sessions who (map (shown told) marks) kind low high (ap is_busy waiting)
    (ap (λ p. is_busy (after p kind)) waiting ∙ ap is_busy (hands_free place (or_none None))) in
    omega (arith, less, is.room)

-- with the mark of a reply handed out there is room for all marks to come
pub hand_listed : (history : List Placed) (told : List (Option Reply)) (marks now : List Stored) (calls sessions h r room left who place : ℕ)
    → IsListed history told marks calls sessions h r room → phase who (map (shown told) marks) ≡ waits place
    → 1 ≤ who → who ≤ sessions → IsThere told (stored.Hands place)
    → now ≡ marks ++ record { who = who; what = stored.Hands place } ∷ [] → room ≤ left + 1
    → IsListed history told now calls sessions h r left
hand_listed history told marks now calls sessions h r room left who place is waiting low high handed more enough =
    subst (λ ms. IsListed history told ms calls sessions h r left) (sym more)
    (listed_less history told marks calls sessions h r room left (record { who = who; what = stored.Hands place }) is
    (record { low = low; high = high; handed = handed }) (ap is_busy waiting)
    (ap (λ p. is_busy (after p (kind_of told (stored.Hands place)))) waiting
    ∙ ap is_busy (hands_free place (or_none (there (slice_get told place))))) enough)

-- there is room for the mark of a session that rests
pub rest_fits : (history : List Placed) (told : List (Option Reply)) (marks : List Stored) (calls sessions h r room who : ℕ)
    → IsListed history told marks calls sessions h r room → phase who (map (shown told) marks) ≡ draining
    → 1 ≤ who → who ≤ sessions → 1 ≤ room
rest_fits history told marks calls sessions h r room who is drains low high =
    let less : busy sessions (map (shown told) marks ++ mark who kinds.Rests ∷ []) + 1 ≡ busy sessions (map (shown told) marks) =
    busy_less sessions who (map (shown told) marks) kinds.Rests low high (ap is_busy drains)
    (ap (λ p. is_busy (after p kinds.Rests)) drains) in
    omega (arith, less, is.room)

-- with the mark of a session that rests there is room for all marks to come
pub rest_listed : (history : List Placed) (told : List (Option Reply)) (marks now : List Stored) (calls sessions h r room left who : ℕ)
    → IsListed history told marks calls sessions h r room → phase who (map (shown told) marks) ≡ draining
    → 1 ≤ who → who ≤ sessions
    → now ≡ marks ++ record { who = who; what = stored.Rests } ∷ [] → room ≤ left + 1
    → IsListed history told now calls sessions h r left
rest_listed history told marks now calls sessions h r room left who is drains low high more enough =
    subst (λ ms. IsListed history told ms calls sessions h r left) (sym more)
    (listed_less history told marks calls sessions h r room left (record { who = who; what = stored.Rests }) is
    (record { low = low; high = high; handed = omega arith }) (ap is_busy drains)
    (ap (λ p. is_busy (after p kinds.Rests)) drains) enough)

-- with the mark of a drain that begins there is room for all marks to come
pub begin_listed : (history : List Placed) (told : List (Option Reply)) (marks now : List Stored) (calls sessions h r room left who : ℕ)
    → IsListed history told marks calls sessions h r room → 1 ≤ who → who ≤ sessions
    → now ≡ marks ++ record { who = who; what = stored.Begins } ∷ []
    → 2 ≤ room - owed calls sessions (length history) (map (shown told) marks) → room ≤ left + 1
    → IsListed history told now calls sessions h r left
begin_listed history told marks now calls sessions h r room left who is low high more fits enough =
    subst (λ ms. IsListed history told ms calls sessions h r left) (sym more)
    (listed_more history told marks calls sessions h r room left (record { who = who; what = stored.Begins }) is
    (record { low = low; high = high; handed = omega arith }) (omega (arith, fits, is.room)) enough)

-- with one more placement there is room for all that are to come
pub place_listed : (history longer : List Placed) (told more : List (Option Reply)) (marks now : List Stored)
    (calls sessions h r more_h more_r room left here : ℕ) (placed : Placed)
    → IsListed history told marks calls sessions h r room → length history < calls → 1 ≤ placed.who → placed.who ≤ sessions
    → longer ≡ history ++ placed ∷ [] → more ≡ told ++ None ∷ []
    → now ≡ marks ++ record { who = placed.who; what = stored.Places here } ∷ [] → here ≡ length history
    → h ≤ more_h → r ≤ more_r → room ≤ left + 1
    → IsListed longer more now calls sessions more_h more_r left
place_listed history longer told more marks now calls sessions h r more_h more_r room left here placed is few low high longer_is more_is now_is here_is hs rs enough =
    rw (longer_is, more_is, now_is, here_is) (listed_placed history told marks calls sessions h r more_h more_r room left placed is few low high hs rs enough)

-- a placement adds its own mark to those that are shown
pub place_marks : (sessions here : ℕ) (history : List Placed) (told more : List (Option Reply)) (marks now : List Stored) (shown_before : List Mark) (who place : ℕ)
    → AllByRecursion (IsOfSession sessions told) marks → more ≡ told ++ None ∷ []
    → now ≡ marks ++ record { who = who; what = stored.Places here } ∷ [] → map (shown told) marks ≡ shown_before → here ≡ place
    → map (shown more) now ≡ shown_before ++ mark who (kinds.Places place) ∷ []
place_marks sessions here history told more marks now shown_before who place right more_is now_is before here_is =
    rw (more_is, now_is, sym before, sym here_is) (map-append (shown (told ++ None ∷ [])) marks (record { who = who; what = stored.Places here } ∷ [])
    ∙ ap (λ ms. ms ++ mark who (kinds.Places here) ∷ []) (shown_stays sessions told (told ++ None ∷ []) marks (keeps_more told None) right))

-- a reply that comes to its place changes no mark that is shown
pub answer_marks : (sessions place : ℕ) (told now : List (Option Reply)) (marks : List Stored) (shown_before : List Mark) (reply : Reply)
    → AllByRecursion (IsOfSession sessions told) marks → slice_get told place ≡ Some None
    → now ≡ slice_set told place (Some reply) → map (shown told) marks ≡ shown_before
    → map (shown now) marks ≡ shown_before
answer_marks sessions place told now marks shown_before reply right none now_is before =
    ap (λ (l : List (Option Reply)). map (shown l) marks) now_is
    ∙ shown_stays sessions told (slice_set told place (Some reply)) marks (keeps_set told place (Some reply) none) right ∙ before

-- with a reply that comes to its place there is room as before
pub answer_listed : (history : List Placed) (told now : List (Option Reply)) (marks : List Stored)
    (calls sessions h r r_now room at : ℕ) (reply : Reply)
    → IsListed history told marks calls sessions h r room → slice_get told at ≡ Some None
    → now ≡ slice_set told at (Some reply) → r_now ≡ r → IsListed history now marks calls sessions h r_now room
answer_listed history told now marks calls sessions h r r_now room at reply is none now_is same =
    rw (now_is, same) (listed_answered history told marks calls sessions h r room at reply is none)
