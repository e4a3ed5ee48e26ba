-- Replies that may be gone stay so as marks are added, and what is kept of them is kept over each call.
use Rattle.std.specs.Prelude.{◌≡◌, ◌≢◌, ◌⊎◌, ◌==◌, ◌||◌, ◌&&◌, ℕ, zero, suc, ◌+◌, ◌≤◌, ◌<◌, nat_lt, Bool, true, false, List, [], ◌∷◌, ◌++◌, get_or, length, map, Option, Some, None, option_map, slice_get, slice_set}
use Rattle.std.proofs.Common.{⊎_elim, inl, inr, refl, sym, ap, subst, ◌∙◌, arith, length-append, true≢false}
use Rattle.std.proofs.lemmas.Bool.Decides.{nat_tests}
use Rattle.std.proofs.lemmas.Bool.{eq-eqb, eqb-true}
use Rattle.std.proofs.lemmas.List.{length-map, map-append, map-set}
use Rattle.std.proofs.lemmas.Option.{none-some, same_Some, slice_get-map, slice_get_past, slice_get_read, slice_get_within}
use Rattle.session_script.specs.HeldReplies.{value_of}
use Rattle.session_script.specs.KeptReplies.{is_long}
use Rattle.session_script.specs.declared.kept.HeldReply.{HeldReply}
use Rattle.session_script.specs.declared.kept.HeldReply.TheVariants as held
use Rattle.session_script.specs.declared.logs.Reply.{Reply}
use Rattle.promises.specs.declared.serving_promise.marks.Mark.{Mark}
use Rattle.promises.specs.declared.serving_promise.marks.MarkKind.{MarkKind}
use Rattle.promises.specs.declared.serving_promise.marks.MarkKind.TheVariants as kinds
use Rattle.promises.specs.ServingPromise.Marks.{mark}
use Rattle.event_journal.specs.declared.placements.Stored.{Stored}
use Rattle.event_journal.specs.declared.placements.What.TheVariants as stored
use Rattle.event_journal.specs.Placements.{or_none, shown, there}
use Rattle.event_journal.specs.LetGo.{AreKept, GoBetween, HasGone, MayBeGoneAt, StaysHere, is_hand_of, is_past, is_past_by, is_placement, value_in, values, was_handed}

-- ---- truth values

or_right : (a b : Bool) → b ≡ true → (a || b) ≡ true
or_right true b is = refl
or_right false b is = is

or_map : (a b c : Bool) → (a || b) ≡ true → (b ≡ true → c ≡ true) → (a || c) ≡ true
or_map true b c is then = refl
or_map false b c is then = then is

or_to_left : (h b w : Bool) → (h || (b || w)) ≡ true → ((h || b) || w) ≡ true
or_to_left true b w is = refl
or_to_left false b w is = is

or_nothing : (h : Bool) → (h || false) ≡ true → h ≡ true
or_nothing true is = refl
or_nothing false is = is

both : (a h c : Bool) → a ≡ true → h ≡ true → ((a && h) || c) ≡ true
both a h c is its = rw (is, its) refl

-- ---- marks

handed_stays : (k : ℕ) (marks more : List Mark) → was_handed k marks ≡ true → was_handed k (marks ++ more) ≡ true
handed_stays k [] more never = absurd (true≢false (sym never))
handed_stays k (m ∷ marks) more is = or_map (is_hand_of k m.kind) _ _ is (handed_stays k marks more)

past_by_stays : (handed : Bool) (k : ℕ) (marks more : List Mark) → is_past_by handed k marks ≡ true
    → is_past_by handed k (marks ++ more) ≡ true
past_by_stays handed k [] more never = absurd (true≢false (sym never))
past_by_stays handed k (m ∷ marks) more is =
    or_map (is_placement m.kind && handed) _ _ is (past_by_stays (handed || is_hand_of k m.kind) k marks more)

-- a reply that may be gone still may with more marks
pub past_stays : (k : ℕ) (marks more : List Mark) → is_past k marks ≡ true → is_past k (marks ++ more) ≡ true
past_stays k marks more is = past_by_stays false k marks more is

placed_past_by : (handed : Bool) (k : ℕ) (marks : List Mark) (m : Mark) → (handed || was_handed k marks) ≡ true
    → is_placement m.kind ≡ true → is_past_by handed k (marks ++ m ∷ []) ≡ true
placed_past_by handed k [] m is placement =
    both (is_placement m.kind) handed _ placement (or_nothing handed is)
placed_past_by handed k (x ∷ marks) m is placement = or_right (is_placement x.kind && handed) _
    (placed_past_by (handed || is_hand_of k x.kind) k marks m
    (or_to_left handed (is_hand_of k x.kind) (was_handed k marks) is) placement)

-- a reply that was handed out is past once a call is placed
placed_past : (k : ℕ) (marks : List Mark) (who place : ℕ) → was_handed k marks ≡ true
    → is_past k (marks ++ mark who (kinds.Places place) ∷ []) ≡ true
placed_past k marks who place is = placed_past_by false k marks (mark who (kinds.Places place)) is refl

past_step : (a h b w p : Bool) → ((a && h) || p) ≡ true → (p ≡ true → ((h || b) || w) ≡ true) → (h || (b || w)) ≡ true
past_step a true b w p is then = refl
past_step true false b w p is then = then is
past_step false false b w p is then = then is

past_by_handed : (handed : Bool) (k : ℕ) (marks : List Mark) → is_past_by handed k marks ≡ true
    → (handed || was_handed k marks) ≡ true
past_by_handed handed k [] never = absurd (true≢false (sym never))
past_by_handed handed k (m ∷ marks) is =
    past_step (is_placement m.kind) handed (is_hand_of k m.kind) (was_handed k marks) _ is
    (past_by_handed (handed || is_hand_of k m.kind) k marks)

-- a reply that is past was handed out
pub past_handed : (k : ℕ) (marks : List Mark) → is_past k marks ≡ true → was_handed k marks ≡ true
past_handed k marks is = past_by_handed false k marks is

or_split : (a b : Bool) → (a || b) ≡ true → (a ≡ true) ⊎ (b ≡ true)
or_split true b is = inl refl
or_split false b is = inr is

or_left : (a b : Bool) → a ≡ true → (a || b) ≡ true
or_left a b is = rw is refl

with_nothing : (h : Bool) → h ≡ (h || false)
with_nothing true = refl
with_nothing false = refl

to_right : (h b w : Bool) → ((h || b) || w) ≡ (h || (b || w))
to_right true b w = refl
to_right false b w = refl

past_split : (handed : Bool) (k : ℕ) (marks more : List Mark) → is_past_by handed k (marks ++ more) ≡ true
    → (is_past_by handed k marks ≡ true) ⊎ (is_past_by (handed || was_handed k marks) k more ≡ true)
past_split handed k [] more is = inr (subst (λ (h : Bool). is_past_by h k more ≡ true) (with_nothing handed) is)
past_split handed k (m ∷ marks) more is = ⊎_elim
    (λ first. inl (or_left (is_placement m.kind && handed) _ first))
    (λ later. ⊎_elim
    (λ front. inl (or_right (is_placement m.kind && handed) _ front))
    (λ behind. inr (subst (λ (h : Bool). is_past_by h k more ≡ true)
    (to_right handed (is_hand_of k m.kind) (was_handed k marks)) behind))
    (past_split (handed || is_hand_of k m.kind) k marks more later))
    (or_split (is_placement m.kind && handed) _ is)

-- marks behind which a reply is past alone where it had been handed out before them
pub past_before : (k : ℕ) (marks more : List Mark) → ((handed : Bool) → is_past_by handed k more ≡ true → handed ≡ true)
    → is_past k (marks ++ more) ≡ true → was_handed k marks ≡ true
past_before k marks more none is =
    ⊎_elim (λ front. past_handed k marks front) (λ behind. none (was_handed k marks) behind) (past_split false k marks more is)

hands_it : (k who : ℕ) (reply : Reply) (marks : List Mark)
    → was_handed k (marks ++ mark who (kinds.Hands k reply) ∷ []) ≡ true
hands_it k who reply [] = rw (eq-eqb k k refl) refl
hands_it k who reply (m ∷ marks) = or_right (is_hand_of k m.kind) _ (hands_it k who reply marks)

-- ---- lists

get_other : {X : Type 0} (xs : List X) (at k : ℕ) (x : X) → k ≢ at → slice_get (slice_set xs at x) k ≡ slice_get xs k
get_other [] at k x apart = refl
get_other (z ∷ xs) zero zero x apart = absurd (apart refl)
get_other (z ∷ xs) zero (suc k) x apart = refl
get_other (z ∷ xs) (suc at) zero x apart = refl
get_other (z ∷ xs) (suc at) (suc k) x apart = get_other xs at k x (λ e. apart (ap suc e))

set_length : {X : Type 0} (xs : List X) (at : ℕ) (x : X) → length (slice_set xs at x) ≡ length xs
set_length [] at x = refl
set_length (z ∷ xs) zero x = refl
set_length (z ∷ xs) (suc at) x = ap suc (set_length xs at x)

not_last : {X : Type 0} (xs : List X) (y x : X) (k : ℕ) → (x ≡ y → ⊥) → slice_get (xs ++ y ∷ []) k ≡ Some x
    → slice_get xs k ≡ Some x
not_last [] y x zero other is = absurd (other (sym (same_Some y x is)))
not_last [] y x (suc k) other is = is
not_last (z ∷ xs) y x zero other is = is
not_last (z ∷ xs) y x (suc k) other is = not_last xs y x k other is

-- ---- each call

pub kept_new : (replies : List (Option HeldReply)) (handed : List Bool) (front : ℕ) (marks : List Mark) (calls room : ℕ)
    → replies ≡ [] → handed ≡ [] → front ≡ 0 → calls ≤ room → AreKept replies handed front marks calls room
kept_new replies handed front marks calls room no_replies none at fits = record {
  each = ap length none ∙ sym (ap length no_replies);
  room = fits;
  right = λ k is. absurd (none-some true (sym (ap (λ (l : List Bool). slice_get l k) none) ∙ is));
  past = λ k less. absurd (omega (arith, less, at));
  gone = λ k h. absurd (none-some (Some (held.Gone h.0)) (sym (ap (λ (l : List (Option HeldReply)). slice_get l k) no_replies) ∙ h.1));
}

-- with more marks
pub kept_more : (replies : List (Option HeldReply)) (handed : List Bool) (front : ℕ) (marks now : List Mark)
    (calls room : ℕ) (m : Mark) → AreKept replies handed front marks calls room → now ≡ marks ++ m ∷ []
    → AreKept replies handed front now calls room
kept_more replies handed front marks now calls room m is more = record {
  each = is.each;
  room = is.room;
  right = λ k at. subst (λ (ms : List Mark). was_handed k ms ≡ true) (sym more) (handed_stays k marks (m ∷ []) (is.right k at));
  past = λ k less. subst (λ (ms : List Mark). is_past k ms ≡ true) (sym more) (past_stays k marks (m ∷ []) (is.past k less));
  gone = is.gone;
}

-- with a reply more
pub kept_answer : (replies new : List (Option HeldReply)) (handed : List Bool) (front : ℕ) (marks now : List Mark)
    (calls room : ℕ) → AreKept replies handed front marks calls room → length new ≡ length replies
    → StaysHere replies new → now ≡ marks → AreKept new handed front now calls room
kept_answer replies new handed front marks now calls room is same here marks_are = record {
  each = is.each ∙ sym same;
  room = is.room;
  right = λ k at. subst (λ (ms : List Mark). was_handed k ms ≡ true) (sym marks_are) (is.right k at);
  past = λ k less. subst (λ (ms : List Mark). is_past k ms ≡ true) (sym marks_are) (is.past k less);
  gone = λ k gone. is.gone k (here k gone);
}

-- with a reply that is handed out
pub kept_hand : (replies : List (Option HeldReply)) (handed : List Bool) (front : ℕ) (marks now : List Mark)
    (calls room who place : ℕ) (reply : Reply) → AreKept replies handed front marks calls room
    → now ≡ marks ++ mark who (kinds.Hands place reply) ∷ []
    → AreKept replies (slice_set handed place true) front now calls room
kept_hand replies handed front marks now calls room who place reply is more = record {
  each = set_length handed place true ∙ is.each;
  room = is.room;
  right = λ k at. subst (λ (ms : List Mark). was_handed k ms ≡ true) (sym more) (by k at (k == place) refl);
  past = λ k less. subst (λ (ms : List Mark). is_past k ms ≡ true) (sym more)
      (past_stays k marks (mark who (kinds.Hands place reply) ∷ []) (is.past k less));
  gone = is.gone;
} where
  by : (k : ℕ) → slice_get (slice_set handed place true) k ≡ Some true → (b : Bool) → (k == place) ≡ b
      → was_handed k (marks ++ mark who (kinds.Hands place reply) ∷ []) ≡ true
  by k at true same = subst (λ (n : ℕ). was_handed k (marks ++ mark who (kinds.Hands n reply) ∷ []) ≡ true)
      (eqb-true k place same) (hands_it k who reply marks)
  by k at false apart = handed_stays k marks (mark who (kinds.Hands place reply) ∷ [])
      (is.right k (sym (get_other handed place k true (λ e. let no : (k == place) ≡ true = eq-eqb k place e in cc)) ∙ at))

-- with a call that is placed
pub kept_place : (replies mid new : List (Option HeldReply)) (handed longer : List Bool) (front to : ℕ) (marks now : List Mark)
    (calls room wider who place : ℕ) → AreKept replies handed front marks calls room
    → GoBetween handed front to replies mid → StaysHere mid new → length new ≡ length replies + 1
    → longer ≡ handed ++ false ∷ [] → room ≤ wider → now ≡ marks ++ mark who (kinds.Places place) ∷ []
    → AreKept new longer to now calls wider
kept_place replies mid new handed longer front to marks now calls room wider who place is go here count longer_is wide more = record {
  each = omega (arith, ap length longer_is, length-append handed (false ∷ []), is.each, count);
  room = omega (arith, is.room, wide);
  right = λ k at. subst (λ (ms : List Mark). was_handed k ms ≡ true) (sym more)
      (handed_stays k marks (mark who (kinds.Places place) ∷ []) (is.right k
      (not_last handed false true k (λ e. true≢false e) (subst (λ (l : List Bool). slice_get l k ≡ Some true) longer_is at))));
  past = λ k less. subst (λ (ms : List Mark). is_past k ms ≡ true) (sym more) (by k less (nat_lt k front) refl);
  gone = λ k gone. ⊎_elim (λ old. let less = is.gone k old in omega (arith, less, go.on)) (λ less. less) (go.gone k (here k gone));
} where
  by : (k : ℕ) → k < to → (b : Bool) → nat_lt k front ≡ b → is_past k (marks ++ mark who (kinds.Places place) ∷ []) ≡ true
  by k less true before = past_stays k marks (mark who (kinds.Places place) ∷ []) (is.past k (grind (arith, nat_tests, before)))
  by k less false behind = placed_past k marks who place (is.right k (go.all k (grind (arith, nat_tests, behind)) less))

-- ---- marks as they are stored

shown_more : (told : List (Option Reply)) (marks now : List Stored) (s : Stored) → now ≡ marks ++ s ∷ []
    → map (shown told) now ≡ map (shown told) marks ++ shown told s ∷ []
shown_more told marks now s is = ap (λ (ms : List Stored). map (shown told) ms) is ∙ map-append (shown told) marks (s ∷ [])

-- with one more mark
pub kept_mark : (replies : List (Option HeldReply)) (handed : List Bool) (front : ℕ) (told : List (Option Reply))
    (marks now : List Stored) (calls room : ℕ) (s : Stored)
    → AreKept replies handed front (map (shown told) marks) calls room → now ≡ marks ++ s ∷ []
    → AreKept replies handed front (map (shown told) now) calls room
kept_mark replies handed front told marks now calls room s is more =
    kept_more replies handed front (map (shown told) marks) (map (shown told) now) calls room (shown told s) is
    (shown_more told marks now s more)

-- with the mark of a reply that is handed out
pub kept_handed : (replies : List (Option HeldReply)) (handed : List Bool) (front : ℕ) (told : List (Option Reply))
    (marks now : List Stored) (calls room who place : ℕ)
    → AreKept replies handed front (map (shown told) marks) calls room
    → now ≡ marks ++ record { who = who; what = stored.Hands place } ∷ []
    → AreKept replies (slice_set handed place true) front (map (shown told) now) calls room
kept_handed replies handed front told marks now calls room who place is more =
    kept_hand replies handed front (map (shown told) marks) (map (shown told) now) calls room who place
    (or_none (there (slice_get told place))) is (shown_more told marks now (record { who = who; what = stored.Hands place }) more)

-- ---- the list of replies

-- one that is set, or stood there
set_at : {X : Type 0} (xs : List X) (at k : ℕ) (x y : X) → slice_get (slice_set xs at x) k ≡ Some y
    → (y ≡ x) ⊎ (slice_get xs k ≡ Some y)
set_at [] at k x y is = inr is
set_at (z ∷ xs) zero zero x y is = inl (sym (same_Some x y is))
set_at (z ∷ xs) zero (suc k) x y is = inr is
set_at (z ∷ xs) (suc at) zero x y is = inr is
set_at (z ∷ xs) (suc at) (suc k) x y is = set_at xs at k x y is

abbrev is_gone : HeldReply → Bool
is_gone (held.Here reply) = false
is_gone (held.Gone reply) = true

-- what a list stands for, with a reply that comes
pub values_put : (replies : List (Option HeldReply)) (place : ℕ) (reply : Reply)
    → values (slice_set replies place (Some (held.Here reply))) ≡ slice_set (values replies) place (Some reply)
values_put replies place reply = map-set value_in replies place (Some (held.Here reply))

pub here_put : (replies : List (Option HeldReply)) (place : ℕ) (reply : Reply)
    → StaysHere replies (slice_set replies place (Some (held.Here reply)))
here_put replies place reply k has = (
  has.0,
  ⊎_elim
      (λ same. absurd (true≢false (ap is_gone (same_Some (held.Gone has.0) (held.Here reply) same))))
      (λ old. old)
      (set_at replies place k (Some (held.Here reply)) (Some (held.Gone has.0)) has.1),
)

-- a list stands for the same where a reply is put in place of one that it stands for
pub values_let_go : (replies : List (Option HeldReply)) (at : ℕ) (was out left : Option HeldReply) (h gone : HeldReply)
    → at < length replies → was ≡ get_or replies at was → out ≡ was → out ≡ Some h → value_of gone ≡ value_of h
    → values (slice_set (slice_set replies at left) at (Some gone)) ≡ values replies
values_let_go [] at was out left h gone within at_is same is value = absurd (omega (arith, within))
values_let_go (x ∷ replies) zero was out left h gone within at_is same is value =
    let stood : x ≡ Some h = sym at_is ∙ sym same ∙ is in
    ap (λ (o : Option Reply). o ∷ values replies) (ap (λ (r : Reply). Some r) value ∙ ap value_in (sym stood))
values_let_go (x ∷ replies) (suc at) was out left h gone within at_is same is value =
    ap (λ (l : List (Option Reply)). value_in x ∷ l)
    (values_let_go replies at was out left h gone (omega (arith, within)) at_is same is value)

pub other_let_go : (replies : List (Option HeldReply)) (at k : ℕ) (left gone : Option HeldReply) → k ≢ at
    → slice_get (slice_set (slice_set replies at left) at gone) k ≡ slice_get replies k
other_let_go replies at k left gone apart =
    get_other (slice_set replies at left) at k gone apart ∙ get_other replies at k left apart

-- nothing went yet
pub go_nowhere : (handed : List Bool) (from : ℕ) (replies : List (Option HeldReply)) → GoBetween handed from from replies replies
go_nowhere handed from replies = record {
  values_are = refl;
  on = omega arith;
  all = λ k upon before. absurd (omega (arith, upon, before));
  gone = λ k has. inl has;
}

-- one reply more was handed out and may have gone
pub go_one : (handed : List Bool) (from at next : ℕ) (old mid new : List (Option HeldReply)) → GoBetween handed from at old mid
    → values new ≡ values mid → ((k : ℕ) → k ≢ at → slice_get new k ≡ slice_get mid k) → slice_get handed at ≡ Some true
    → next ≡ at + 1 → GoBetween handed from next old new
go_one handed from at next old mid new go same others here next_is = record {
  values_are = same ∙ go.values_are;
  on = omega (arith, go.on, next_is);
  all = λ k upon before. all k upon before (k == at) refl;
  gone = λ k has. gone k has (k == at) refl;
} where
  all : (k : ℕ) → from ≤ k → k < next → (b : Bool) → (k == at) ≡ b → slice_get handed k ≡ Some true
  all k upon before true is = subst (λ (n : ℕ). slice_get handed n ≡ Some true) (sym (eqb-true k at is)) here
  all k upon before false isnt =
      let apart : k ≢ at = (λ e. let no : (k == at) ≡ true = eq-eqb k at e in cc) in
      go.all k upon (omega (arith, before, next_is, apart))

  gone : (k : ℕ) → HasGone new k → (b : Bool) → (k == at) ≡ b → HasGone old k ⊎ (k < next)
  gone k has true is = inr (omega (arith, eqb-true k at is, next_is))
  gone k has false isnt = ⊎_elim (λ old_has. inl old_has) (λ before. inr (omega (arith, before, next_is)))
      (go.gone k (has.0, sym (others k (λ e. let no : (k == at) ≡ true = eq-eqb k at e in cc)) ∙ has.1))

-- what a list stands for, with one more that isn't there yet
pub values_none : (new old : List (Option HeldReply)) → new ≡ old ++ None ∷ [] → values new ≡ values old ++ None ∷ []
values_none new old is = ap values is ∙ map-append value_in old (None ∷ [])

pub here_none : (new old : List (Option HeldReply)) → new ≡ old ++ None ∷ [] → StaysHere old new
here_none new old is k gone = (
  gone.0,
  not_last old None (Some (held.Gone gone.0)) k (λ e. none-some (held.Gone gone.0) (sym e))
      (subst (λ (l : List (Option HeldReply)). slice_get l k ≡ Some (Some (held.Gone gone.0))) is gone.1),
)

-- a list that stands for the same has as many replies, and one more with one more
pub count_placed : (old mid new : List (Option HeldReply)) → values mid ≡ values old → length new ≡ length mid + 1
    → length new ≡ length old + 1
count_placed old mid new same more =
    let as_many : length (values mid) ≡ length (values old) = ap length same in
    omega (arith, more, as_many, length-map mid value_in, length-map old value_in)

-- ---- what is found at a place

pub found_at : {X : Type 0} (xs ys : List X) (k : ℕ) (x y : X) → xs ≡ ys → true ≡ nat_lt k (length xs) → x ≡ get_or xs k x
    → x ≡ y → slice_get ys k ≡ Some y
found_at {X} xs ys k x y same within at is = ap (λ (l : List X). slice_get l k) (sym same)
    ∙ slice_get_read xs (length xs) k x refl (grind (arith, nat_tests, sym within)) at ∙ ap (λ (z : X). Some z) is

pub past_end : {X : Type 0} (xs ys : List X) (k : ℕ) → xs ≡ ys → false ≡ nat_lt k (length xs) → slice_get ys k ≡ None
past_end {X} xs ys k same behind = ap (λ (l : List X). slice_get l k) (sym same)
    ∙ slice_get_past xs k (grind (arith, nat_tests, sym behind))

-- a reply that is gone may be
pub gone_may : (replies : List (Option HeldReply)) (handed : List Bool) (front : ℕ) (marks : List Mark) (calls room place : ℕ)
    (gone : Reply) → AreKept replies handed front marks calls room → slice_get replies place ≡ Some (Some (held.Gone gone))
    → is_long gone ≡ true → MayBeGoneAt place (values replies) marks
gone_may replies handed front marks calls room place gone is here long reply at =
    let same : gone ≡ reply = same_Some gone reply (same_Some (Some gone) (Some reply)
    (sym (slice_get-map value_in replies place ∙ ap (λ (o : Option (Option HeldReply)). option_map value_in o) here) ∙ at)) in
    let less : place < front = is.gone place (gone, here) in
    record {
      long = subst (λ (r : Reply). is_long r ≡ true) same long;
      past = λ k upto. is.past k (omega (arith, upto, less));
    }

-- where no reply is there, none is gone
pub absent_may : (replies : List (Option HeldReply)) (marks : List Mark) (place : ℕ)
    → (slice_get replies place ≡ None) ⊎ (slice_get replies place ≡ Some None) → MayBeGoneAt place (values replies) marks
absent_may replies marks place none reply at = ⊎_elim
    (λ out. absurd (none-some (Some reply)
    (sym (slice_get-map value_in replies place ∙ ap (λ (o : Option (Option HeldReply)). option_map value_in o) out) ∙ at)))
    (λ not_yet. absurd (none-some reply (same_Some None (Some reply)
    (sym (slice_get-map value_in replies place ∙ ap (λ (o : Option (Option HeldReply)). option_map value_in o) not_yet) ∙ at))))
    none
