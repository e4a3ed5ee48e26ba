-- What is picked is what a trail lets come next.
use Rattle.std.proofs.Common.{◌≡◌, ℕ, Bool, true, false, ◌&&◌, ◌||◌, nat_eq, List, [], ◌∷◌, ◌++◌, map, Option, Some, None, refl, ap, sym, subst, ◌∙◌}
use Rattle.std.specs.Option.{option_map}
use Rattle.std.specs.List.{list_any}
use Rattle.std.proofs.lemmas.Bool.{eq-eqb}
use Rattle.tape_types.specs.declared.cartridges.Part.{Part}
use Rattle.tape_types.specs.declared.cartridges.Part.TheVariants.{Ip, Dp}
use Rattle.tape_types.specs.declared.cartridges.Place.{Place}
use Rattle.tape_types.specs.declared.cartridges.Twin.{Twin}
use Rattle.session_script.specs.declared.logs.Event.TheVariants.{Served, Worked}
use Rattle.head_queue.specs.EventLaws.Waiting.{State, Op, Request, waiting_op, same_part, same_place, key, keys, is_least, request_key}
use Rattle.head_queue.specs.EventLaws.Trail.{fits, asks, takes_request, takes_op}
use Rattle.head_queue.specs.Waiting.{Waiting, request}
use Rattle.head_queue.specs.Keys.{keys_at}
use Rattle.head_queue.specs.Picks.{IsPicked, IsOpPicked}
use Rattle.head_queue.specs.Allowed.{op_place, PicksMayCome}

-- the keys are those of the trail
keys_are : (st : State) → keys_at st.head (op_place st) st.requests ≡ keys st
keys_are st = by (waiting_op st) refl
  where
    by : (q : Option Op) → waiting_op st ≡ q → keys_at st.head (op_place st) st.requests ≡ keys st
    by None is = rw is refl
    by (Some op) is = rw is refl

same_here : (a : Place) → same_place a a ≡ true
same_here a = ap (λ (b : Bool). b && nat_eq a.pos a.pos) (by a.part) ∙ eq-eqb a.pos a.pos refl
  where
    by : (p : Part) → same_part p p ≡ true
    by Ip = refl
    by Dp = refl

any_there : (p : Request → Bool) (xs ys : List Waiting) (w : Waiting) → p (request w) ≡ true → list_any p (map request (xs ++ w ∷ ys)) ≡ true
any_there p [] ys w h = ap (λ (b : Bool). b || list_any p (map request ys)) h
any_there p (x ∷ xs) ys w h = by (p (request x)) (any_there p xs ys w h)
  where
    by : (b : Bool) → list_any p (map request (xs ++ w ∷ ys)) ≡ true → (b || list_any p (map request (xs ++ w ∷ ys))) ≡ true
    by true g = refl
    by false g = g

served : (st : State) (ws : List Waiting) (node owner : ℕ) (place : Place) (fault : Option Twin) → map request ws ≡ st.requests
    → IsPicked st.head (op_place st) ws node owner place → fits st (Served owner place fault) ≡ true
served st ws node owner place fault same p =
    ap (list_any (takes_request st owner place)) (sym same ∙ ap (map request) p.waits.parts)
    ∙ any_there (takes_request st owner place) p.waits.front p.waits.behind (record { node = node; owner = owner; place = place; arrival = p.arrival }) takes
  where
    least : is_least (request_key st.head (record { ticket = owner; place = place; arrival = p.arrival })) (keys st) ≡ true
    least = subst (λ (ks : List (List ℕ)). is_least (request_key st.head (record { ticket = owner; place = place; arrival = p.arrival })) ks ≡ true)
        (ap (keys_at st.head (op_place st)) same ∙ keys_are st) p.least

    its : asks owner place (record { ticket = owner; place = place; arrival = p.arrival }) ≡ true
    its = ap (λ (b : Bool). b && same_place place place) (eq-eqb owner owner refl) ∙ same_here place

    takes : takes_request st owner place (record { ticket = owner; place = place; arrival = p.arrival }) ≡ true
    takes = ap (λ (b : Bool). b && is_least (request_key st.head (record { ticket = owner; place = place; arrival = p.arrival })) (keys st)) its ∙ least

worked : (st : State) (ws : List Waiting) (fault : Option Twin) → map request ws ≡ st.requests
    → (p : IsOpPicked st.head (op_place st) ws) → fits st (Worked p.at fault) ≡ true
worked st ws fault same p = by (waiting_op st) p.waits
  where
    least : is_least (key st.head p.at 0) (keys st) ≡ true
    least = subst (λ (ks : List (List ℕ)). is_least (key st.head p.at 0) ks ≡ true) (ap (keys_at st.head (op_place st)) same ∙ keys_are st) p.least

    inside : Option Place → Place
    inside None = p.at
    inside (Some at) = at

    by : (q : Option Op) → option_map (λ (op : Op). op.place) q ≡ Some p.at → takes_op st p.at q ≡ true
    by None is = cc
    by (Some op) is =
        let at : op.place ≡ p.at = ap inside is in
        ap (λ (place : Place). same_place place p.at && is_least (key st.head place 0) (keys st)) at
        ∙ ap (λ (b : Bool). b && is_least (key st.head p.at 0) (keys st)) (same_here p.at) ∙ least

-- a request or an op that is picked may come next in a trail
pub picks_may_come : PicksMayCome
picks_may_come = record { served = served; worked = worked }
