-- A trail is a list of which each event may come in the state that the events before it leave.
use Rattle.std.specs.Prelude.{◌≡◌, ◌↔◌, ◌&&◌, ℕ, zero, suc, Bool, true, false, List, [], ◌∷◌, fold, take, Some, slice_get}
use Rattle.std.proofs.Common.{refl, subst}
use Rattle.std.proofs.lemmas.Bool.{and_from}
use Rattle.std.proofs.lemmas.Option.{same_Some}
use Rattle.session_script.specs.declared.logs.Event.{Event}
use Rattle.head_queue.specs.EventLaws.Waiting.{State, start}
use Rattle.head_queue.specs.EventLaws.Trail.{EachIsAllowed, IsTrail, after, allows, is_trail_from}

-- of two truths together, the first is true
pub first_of : (a b : Bool) → (a && b) ≡ true → a ≡ true
first_of true b e = refl
first_of false b e = cc

-- of two truths together, the second is true
pub second_of : (a b : Bool) → (a && b) ≡ true → b ≡ true
second_of true b e = e
second_of false b e = cc

each_from : (st : State) (events : List Event) → is_trail_from st events ≡ true → (k : ℕ) (e : Event) → slice_get events k ≡ Some e → allows (fold after st (take k events)) e ≡ true
each_from st [] h k e is = cc
each_from st (x ∷ xs) h zero e is = subst (λ (y : Event). allows st y ≡ true) (same_Some x e is) (first_of (allows st x) (is_trail_from (after st x) xs) h)
each_from st (x ∷ xs) h (suc k) e is = each_from (after st x) xs (second_of (allows st x) (is_trail_from (after st x) xs) h) k e is

trail_from : (st : State) (events : List Event) → ((k : ℕ) (e : Event) → slice_get events k ≡ Some e → allows (fold after st (take k events)) e ≡ true) → is_trail_from st events ≡ true
trail_from st [] h = refl
trail_from st (x ∷ xs) h = and_from (allows st x) (is_trail_from (after st x) xs) (h 0 x refl) (trail_from (after st x) xs (λ k e is. h (suc k) e is))

-- a list is a trail just if each event may come after those before it
pub trails_allow_each : (events : List Event) → IsTrail events ↔ EachIsAllowed events
trails_allow_each events = (each_from start events, trail_from start events)
