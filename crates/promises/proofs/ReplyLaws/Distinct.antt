-- Places, each once, and those of a list for which a test holds.
use Rattle.std.proofs.Common.{◌≡◌, ◌⊎◌, ℕ, ◌&&◌, ◌||◌, eqb, not, Bool, true, false, cond, List, [], ◌∷◌, ⊎_elim, inl, inr, refl, sym, ap, subst, ◌∙◌, arith}
use Rattle.std.specs.List.{filter, list_any}
use Rattle.std.specs.Prelude.{All, Contains}
use Rattle.std.proofs.lemmas.List.Elements.{All-head, All-tail}
use Rattle.std.proofs.lemmas.Bool.{or_left, or_right}
use Rattle.tape_types.specs.declared.cartridges.Place.{Place}
use Rattle.tape_types.proofs.Places.{same_itself, same_places}
use Rattle.extent_map.proofs.DistinctLemmas.{has_distinct}
use Rattle.extent_map.specs.Replies.{distinct, has_place, same_place}
use Rattle.session_script.specs.declared.logs.Event.{Event}
use Rattle.block_cache.specs.Kept.{Kept, is_cached, stands_at}
use Rattle.promises.specs.ServingPromise.Cached.{was_read}
use Rattle.promises.proofs.ReplyLaws.Lists.{in_cases, in_first, in_none, in_rest}

-- a place that the test finds in a list is in it
pub has_in : (place : Place) (places : List Place) → has_place place places ≡ true → Contains places place
has_in place [] e = absurd cc
has_in place (x ∷ xs) e = by (has_in place xs) (same_place place x) refl
  where
    by : (has_place place xs ≡ true → Contains xs place) → (b : Bool) → same_place place x ≡ b → Contains (x ∷ xs) place
    by more true is = subst (λ y. Contains (y ∷ xs) place) (same_places place x is) (in_first place xs)
    by more false is = in_rest x xs place (more (sym (ap (λ b. b || has_place place xs) is) ∙ e))

-- a place in a list is found by the test
pub in_has : (place : Place) (places : List Place) → Contains places place → has_place place places ≡ true
in_has place [] has = absurd (in_none place has)
in_has place (x ∷ xs) has = ⊎_elim
    (λ is. or_left (same_place place x) (has_place place xs) (subst (λ y. same_place place y ≡ true) (sym is) (same_itself place)))
    (λ later. or_right (same_place place x) (has_place place xs) (in_has place xs later))
    (in_cases x xs place has)

-- a place that is kept once was in the list
pub in_distinct : (xs : List Place) (y : Place) → Contains (distinct xs) y → Contains xs y
in_distinct xs y has = has_in y xs (sym (has_distinct xs y) ∙ in_has y (distinct xs) has)

-- each place of the list is kept once
pub distinct_in : (xs : List Place) (y : Place) → Contains xs y → Contains (distinct xs) y
distinct_in xs y has = has_in y (distinct xs) (has_distinct xs y ∙ in_has y xs has)

-- ---- those for which a test holds

-- what is left of a list by a test was in it
pub in_filter : {X : Type 0} (p : X → Bool) (xs : List X) (x : X) → Contains (filter p xs) x → Contains xs x
in_filter p [] x has = absurd (in_none x has)
in_filter p (y ∷ ys) x has = by (p y) has (in_filter p ys x)
  where
    by : (b : Bool) → Contains (cond b (y ∷ filter p ys) (filter p ys)) x → (Contains (filter p ys) x → Contains ys x) → Contains (y ∷ ys) x
    by true has more = ⊎_elim (λ is. subst (λ z. Contains (z ∷ ys) x) (sym is) (in_first x ys)) (λ later. in_rest y ys x (more later)) (in_cases y (filter p ys) x has)
    by false has more = in_rest y ys x (more has)

-- what is in a list and passes the test is left
pub filter_in : {X : Type 0} (p : X → Bool) (xs : List X) (x : X) → Contains xs x → p x ≡ true → Contains (filter p xs) x
filter_in p [] x has holds = absurd (in_none x has)
filter_in p (y ∷ ys) x has holds = by (p y) refl (in_cases y ys x has) (filter_in p ys x)
  where
    by : (b : Bool) → p y ≡ b → (y ≡ x) ⊎ Contains ys x → (Contains ys x → p x ≡ true → Contains (filter p ys) x) → Contains (cond b (y ∷ filter p ys) (filter p ys)) x
    by true e (inl is) more = subst (λ z. Contains (z ∷ filter p ys) x) (sym is) (in_first x (filter p ys))
    by true e (inr later) more = in_rest y (filter p ys) x (more later holds)
    by false e (inl is) more = absurd (let no : false ≡ true = sym e ∙ ap p is ∙ holds in cc)
    by false e (inr later) more = more later holds

-- ---- blocks that are kept

-- each was read, so a block that is kept was
pub cached_read : (trail : List Event) (cached : List Kept) (place : Place) → All (λ (block : Kept). list_any (was_read block.0) trail ≡ true) cached
    → is_cached cached place ≡ true → list_any (was_read place) trail ≡ true
cached_read trail [] place all is = absurd cc
cached_read trail (block ∷ cached) place all is = by (stands_at place block) refl is (cached_read trail cached place)
  where
    by : (b : Bool) → stands_at place block ≡ b → (b || is_cached cached place) ≡ true
        → (All (λ (block : Kept). list_any (was_read block.0) trail ≡ true) cached → is_cached cached place ≡ true → list_any (was_read place) trail ≡ true)
        → list_any (was_read place) trail ≡ true
    by true e h more = subst (λ (at : Place). list_any (was_read at) trail ≡ true) (sym (same_places place block.0 e))
        (All-head (λ (block : Kept). list_any (was_read block.0) trail ≡ true) block cached all)
    by false e h more = more (All-tail (λ (block : Kept). list_any (was_read block.0) trail ≡ true) block cached all) h
