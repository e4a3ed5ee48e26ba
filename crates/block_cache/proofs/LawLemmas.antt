-- What is true of the blocks that are kept stays true, and what is kept is found.
use Rattle.std.proofs.Common.{◌≡◌, ℕ, zero, suc, ◌+◌, ◌<◌, ◌≤◌, ◌⊎◌, Bool, true, false, cond, not, List, [], ◌∷◌, ◌++◌, length, take, Option, Some, None, Contains, refl, sym, ap, ◌∙◌, subst, inl, inr, ⊎_elim, true≢false, arith}
use Rattle.std.specs.List.{All, IsDistinct, filter}
use Rattle.std.specs.Map.{keys_of, lookup_entry}
use Rattle.std.proofs.lemmas.List.{length-append, length-take, take_all}
use Rattle.std.proofs.lemmas.List.Elements.{All-append, All-contains, All-contains_itself, All-filter, Contains-append_left, Contains-append_right}
use Rattle.std.proofs.lemmas.List.Filters.{length-filter_both}
use Rattle.lru.proofs.CallerLemmas.{Contains-take}
use Rattle.lru.proofs.Splits.{Contains-cons, Contains-head, Contains-nil, Contains-tail}
use Rattle.tape_types.specs.Cartridges.{same_place}
use Rattle.tape_types.specs.declared.cartridges.Place.{Place}
use Rattle.tape_types.proofs.Places.{same_back, same_itself, same_places}
use Rattle.block_cache.specs.Kept.{AreKept, Kept, bytes_at, most, others, stands_at, used, used_all, with_block}
use Rattle.block_cache.specs.Laws.{CachesStay, KeepsFind, UsesReorder}
use Rattle.block_cache.proofs.KeptLemmas.{NoneIs, Used, used_is}

-- ---- places that differ

-- those that stay behind a filter differ as they did
kept_apart : (p : Kept → Bool) (place : Place) (cached : List Kept) → NoneIs place (keys_of cached) → NoneIs place (keys_of (filter p cached))
kept_apart p place [] none = tt
kept_apart p place (block ∷ cached) none = by (p block) none.0 (kept_apart p place cached none.1)
  where
    by : (b : Bool) → same_place place block.0 ≡ false → NoneIs place (keys_of (filter p cached))
        → NoneIs place (keys_of (cond b (block ∷ filter p cached) (filter p cached)))
    by true is rest = (is, rest)
    by false is rest = rest

kept_distinct : (p : Kept → Bool) (cached : List Kept) → IsDistinct same_place (keys_of cached) → IsDistinct same_place (keys_of (filter p cached))
unfolding IsDistinct
kept_distinct p [] once = once
kept_distinct p (block ∷ cached) once = by (p block) (kept_apart p block.0 cached once.0) (kept_distinct p cached once.1)
  where
    by : (b : Bool) → NoneIs block.0 (keys_of (filter p cached)) → IsDistinct same_place (keys_of (filter p cached))
        → IsDistinct same_place (keys_of (cond b (block ∷ filter p cached) (filter p cached)))
    by true none rest = (none, rest)
    by false none rest = rest

first_apart : (n : ℕ) (place : Place) (cached : List Kept) → NoneIs place (keys_of cached) → NoneIs place (keys_of (take n cached))
first_apart zero place cached none = tt
first_apart (suc n) place [] none = tt
first_apart (suc n) place (block ∷ cached) none = (none.0, first_apart n place cached none.1)

first_distinct : (n : ℕ) (cached : List Kept) → IsDistinct same_place (keys_of cached) → IsDistinct same_place (keys_of (take n cached))
unfolding IsDistinct
first_distinct zero cached once = tt
first_distinct (suc n) [] once = once
first_distinct (suc n) (block ∷ cached) once = (first_apart n block.0 cached once.0, first_distinct n cached once.1)

-- none of the others stands at the place
others_apart : (place : Place) (cached : List Kept) → NoneIs place (keys_of (others place cached))
others_apart place [] = tt
others_apart place (block ∷ cached) = by (same_place place block.0) refl (others_apart place cached)
  where
    by : (b : Bool) → same_place place block.0 ≡ b → NoneIs place (keys_of (others place cached))
        → NoneIs place (keys_of (cond (not b) (block ∷ others place cached) (others place cached)))
    by true is rest = rest
    by false is rest = (is, rest)

used_count : (cached : List Kept) (place : Place) → length (used cached place) ≡ length cached
used_count cached place =
    length-append (filter (stands_at place) cached) (others place cached)
    ∙ length-filter_both (stands_at place) (λ block. not (stands_at place block)) (λ block. refl) cached

-- ---- what is true of a cache

used_stays : (cached : List Kept) (place : Place) → AreKept cached → AreKept (used cached place)
unfolding IsDistinct
used_stays cached place kept = record {
  once = distinct (lookup_entry (same_place place) cached) (used_is place cached kept.once (lookup_entry (same_place place) cached) refl);
  few = let count = used_count cached place in omega (arith, count, kept.few);
}
  where
    distinct : (o : Option Kept) → Used place cached o → IsDistinct same_place (keys_of (used cached place))
    distinct None is = rw is.0 kept.once
    distinct (Some block) is = rw is.0 (
      subst (λ at. NoneIs at (keys_of (others place cached))) (sym is.1) (others_apart place cached),
      kept_distinct (λ other. not (stands_at place other)) cached kept.once,
    )

all_stay : (cached : List Kept) (places : List Place) → AreKept cached → AreKept (used_all cached places)
all_stay cached [] kept = kept
all_stay cached (place ∷ places) kept = all_stay (used cached place) places (used_stays cached place kept)

block_stays : (cached : List Kept) (place : Place) (bytes : List ℕ) → AreKept cached → AreKept (with_block place bytes cached)
unfolding IsDistinct
block_stays cached place bytes kept =
    let long = length-take 63 (others place cached) in
    record {
      once = (
        first_apart 63 place (others place cached) (others_apart place cached),
        first_distinct 63 (others place cached) (kept_distinct (λ other. not (stands_at place other)) cached kept.once),
      );
      few = omega (arith, long);
    }

-- each use and each block that is kept leave a cache as it may be
pub caches_stay : CachesStay
unfolding IsDistinct
caches_stay = record {
  begins = record { once = tt; few = omega arith };
  uses = all_stay;
  keeps = block_stays;
}

-- ---- what a use leaves as it was

in_filter : (p : Kept → Bool) (cached : List Kept) (block : Kept) → p block ≡ true → Contains cached block → Contains (filter p cached) block
in_filter p [] block passes there = absurd (Contains-nil block there)
in_filter p (first ∷ cached) block passes there = by (p first) refl (Contains-cons first cached block there) (in_filter p cached block passes)
  where
    by : (b : Bool) → p first ≡ b → (first ≡ block) ⊎ Contains cached block → (Contains cached block → Contains (filter p cached) block)
        → Contains (cond b (first ∷ filter p cached) (filter p cached)) block
    by true is (inl same) rest = subst (λ x. Contains (first ∷ filter p cached) x) same (Contains-head first (filter p cached))
    by true is (inr later) rest = Contains-tail first (filter p cached) block (rest later)
    by false is (inl same) rest = absurd (true≢false (sym passes ∙ ap p (sym same) ∙ is))
    by false is (inr later) rest = rest later

used_has : (cached : List Kept) (place : Place) (block : Kept) → Contains cached block → Contains (used cached place) block
used_has cached place block there = by (stands_at place block) refl
  where
    by : (b : Bool) → stands_at place block ≡ b → Contains (used cached place) block
    by true is = Contains-append_left (filter (stands_at place) cached) (others place cached) block (in_filter (stands_at place) cached block is there)
    by false is = Contains-append_right (filter (stands_at place) cached) (others place cached) block
        (in_filter (λ other. not (stands_at place other)) cached block (ap not is) there)

others_had : (cached : List Kept) (place : Place) → All (Contains cached) (others place cached)
others_had cached place = All-filter (λ block. not (stands_at place block)) (Contains cached) cached (All-contains_itself cached)

used_had : (cached : List Kept) (place : Place) (block : Kept) → Contains (used cached place) block → Contains cached block
used_had cached place block there =
    All-contains (Contains cached) (used cached place) block
    (All-append (Contains cached) (filter (stands_at place) cached) (others place cached)
    (All-filter (stands_at place) (Contains cached) cached (All-contains_itself cached)) (others_had cached place)) there

-- ---- what is found

-- at another place
other_found : (cached rest : List Kept) (place at : Place) → same_place at place ≡ false
    → bytes_at (filter (stands_at place) cached ++ rest) at ≡ bytes_at rest at
other_found [] rest place at apart = refl
other_found (block ∷ cached) rest place at apart = by (same_place place block.0) refl (other_found cached rest place at apart)
  where
    by : (b : Bool) → same_place place block.0 ≡ b → bytes_at (filter (stands_at place) cached ++ rest) at ≡ bytes_at rest at
        → bytes_at (cond b (block ∷ filter (stands_at place) cached) (filter (stands_at place) cached) ++ rest) at ≡ bytes_at rest at
    by true is same =
        let here : same_place at block.0 ≡ false = ap (same_place at) (sym (same_places place block.0 is)) ∙ apart in
        rw here same
    by false is same = same

others_found : (cached : List Kept) (place at : Place) → same_place at place ≡ false → bytes_at (others place cached) at ≡ bytes_at cached at
others_found [] place at apart = refl
others_found (block ∷ cached) place at apart = by (same_place place block.0) refl (others_found cached place at apart)
  where
    by : (b : Bool) → same_place place block.0 ≡ b → bytes_at (others place cached) at ≡ bytes_at cached at
        → bytes_at (cond (not b) (block ∷ others place cached) (others place cached)) at ≡ bytes_at (block ∷ cached) at
    by true is same =
        let here : same_place at block.0 ≡ false = ap (same_place at) (sym (same_places place block.0 is)) ∙ apart in
        rw here same
    by false is same = ap (λ found. cond (same_place at block.0) (Some block.1) found) same

none_found : (place : Place) (cached : List Kept) → NoneIs place (keys_of cached) → bytes_at cached place ≡ None
none_found place [] none = refl
none_found place (block ∷ cached) none = rw none.0 (none_found place cached none.1)

-- at the place itself
here_found : (cached rest : List Kept) (place : Place) → NoneIs place (keys_of rest)
    → bytes_at (filter (stands_at place) cached ++ rest) place ≡ bytes_at cached place
here_found [] rest place none = none_found place rest none
here_found (block ∷ cached) rest place none = by (same_place place block.0) refl (here_found cached rest place none)
  where
    by : (b : Bool) → same_place place block.0 ≡ b → bytes_at (filter (stands_at place) cached ++ rest) place ≡ bytes_at cached place
        → bytes_at (cond b (block ∷ filter (stands_at place) cached) (filter (stands_at place) cached) ++ rest) place
        ≡ cond b (Some block.1) (bytes_at cached place)
    by true is same = rw is refl
    by false is same = same

used_finds : (cached : List Kept) (place at : Place) → bytes_at (used cached place) at ≡ bytes_at cached at
used_finds cached place at = by (same_place at place) refl
  where
    by : (b : Bool) → same_place at place ≡ b → bytes_at (used cached place) at ≡ bytes_at cached at
    by true is =
        let same : at ≡ place = same_places at place is in
        rw same (here_found cached (others place cached) place (others_apart place cached))
    by false is = other_found cached (others place cached) place at is ∙ others_found cached place at is

-- a use changes only the order of the blocks that are kept
pub uses_reorder : UsesReorder
uses_reorder = record {
  same = λ cached place block. (used_had cached place block, used_has cached place block);
  count = used_count;
  finds = used_finds;
}

kept_found : (cached : List Kept) (place : Place) (bytes : List ℕ) → bytes_at (with_block place bytes cached) place ≡ Some bytes
kept_found cached place bytes = rw (same_itself place) refl

kept_had : (cached : List Kept) (place : Place) (bytes : List ℕ) (block : Kept)
    → Contains (with_block place bytes cached) block → (block ≡ (place, bytes)) ⊎ Contains cached block
kept_had cached place bytes block there =
    ⊎_elim (λ same. inl (sym same))
    (λ later. inr (All-contains (Contains cached) (others place cached) block (others_had cached place) later))
    (Contains-cons (place, bytes) (others place cached) block (Contains-take most ((place, bytes) ∷ others place cached) block there))

room_left : (cached : List Kept) (place at : Place) (bytes : List ℕ) → length cached < most → same_place place at ≡ false
    → bytes_at (with_block place bytes cached) at ≡ bytes_at cached at
room_left cached place at bytes room apart =
    let count = used_count cached place in
    let both = length-append (filter (stands_at place) cached) (others place cached) in
    let few : length (others place cached) ≤ 63 = omega (arith, count, both, room) in
    let back : same_place at place ≡ false = same_back at place ∙ apart in
    let all : with_block place bytes cached ≡ (place, bytes) ∷ others place cached = ap (λ l. (place, bytes) ∷ l) (take_all 63 (others place cached) few) in
    ap (λ kept. bytes_at kept at) all
    ∙ ap (λ b. cond b (Some bytes) (bytes_at (others place cached) at)) back
    ∙ others_found cached place at back

-- a block that was just kept is found
pub keeps_find : KeepsFind
keeps_find = record {
  finds = kept_found;
  only = kept_had;
  room = room_left;
}
