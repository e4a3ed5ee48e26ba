-- What a use and a block that is kept make of a cache, by which block stands at a place.
use Rattle.std.proofs.Common.{◌≡◌, ℕ, ◌+◌, ◌≤◌, ◌||◌, Bool, true, false, cond, not, List, [], ◌∷◌, ◌++◌, length, take, Option, Some, None, refl, sym, ap, ◌∙◌, subst, arith}
use Rattle.std.specs.List.{AllByRecursion, IsDistinct, filter}
use Rattle.std.specs.Map.{keys_of, lookup, lookup_entry, remove_entry}
use Rattle.std.specs.Option.{IsSome, option_map_or}
use Rattle.std.proofs.lemmas.List.{take_all}
use Rattle.std.proofs.lemmas.List.Filters.{length-filter_both}
use Rattle.lru.specs.LruCache.{promoted, put_entries}
use Rattle.lru.proofs.CallerLemmas.{Contains-lookup_entry}
use Rattle.tape_types.specs.Cartridges.{same_place}
use Rattle.tape_types.specs.declared.cartridges.Place.{Place}
use Rattle.tape_types.proofs.Places.{same_places}
use Rattle.block_cache.specs.Kept.{Kept, is_cached, most, others, stands_at, used, with_block}

-- none of these places is this one
abbrev pub NoneIs : Place → List Place → Type 0
NoneIs place at = AllByRecursion (λ other. same_place place other ≡ false) at

module _ (place : Place) where
  others_all : (cached : List Kept) → NoneIs place (keys_of cached) → others place cached ≡ cached
  others_all [] none = refl
  others_all (block ∷ cached) none = rw none.0 (ap (λ l. block ∷ l) (others_all cached none.1))

  none_stands : (cached : List Kept) → NoneIs place (keys_of cached) → filter (stands_at place) cached ≡ []
  none_stands [] none = refl
  none_stands (block ∷ cached) none = rw none.0 (none_stands cached none.1)

  not_found : (cached : List Kept) → lookup_entry (same_place place) cached ≡ None → NoneIs place (keys_of cached)
  not_found [] e = tt
  not_found (block ∷ cached) e = by (same_place place block.0) refl e (λ rest. not_found cached rest)
    where
      by : (b : Bool) → same_place place block.0 ≡ b → cond b (Some block) (lookup_entry (same_place place) cached) ≡ None
          → (lookup_entry (same_place place) cached ≡ None → NoneIs place (keys_of cached)) → NoneIs place (keys_of (block ∷ cached))
      by true is e rest = cc
      by false is e rest = (is, rest e)

  behind : (block : Kept) (cached : List Kept) → same_place place block.0 ≡ true → IsDistinct same_place (keys_of (block ∷ cached))
      → NoneIs place (keys_of cached)
  unfolding IsDistinct
  behind block cached is once = subst (λ at. NoneIs at (keys_of cached)) (sym (same_places place block.0 is)) once.0

  -- the block at a place is taken out
  pub others_removed : (cached : List Kept) → IsDistinct same_place (keys_of cached)
      → others place cached ≡ remove_entry (same_place place) cached
  unfolding IsDistinct
  others_removed [] once = refl
  others_removed (block ∷ cached) once = by (same_place place block.0) refl (others_removed cached once.1)
    where
      by : (b : Bool) → same_place place block.0 ≡ b → others place cached ≡ remove_entry (same_place place) cached
          → cond (not b) (block ∷ others place cached) (others place cached) ≡ cond b cached (block ∷ remove_entry (same_place place) cached)
      by true is rest = others_all cached (behind block cached is once)
      by false is rest = ap (λ l. block ∷ l) rest

  -- and is the only one that stands there
  pub stands_alone : (cached : List Kept) (block : Kept) → IsDistinct same_place (keys_of cached)
      → lookup_entry (same_place place) cached ≡ Some block → filter (stands_at place) cached ≡ block ∷ []
  unfolding IsDistinct
  stands_alone [] block once e = cc
  stands_alone (first ∷ cached) block once e = by (same_place place first.0) refl e (λ rest. stands_alone cached block once.1 rest)
    where
      by : (b : Bool) → same_place place first.0 ≡ b → cond b (Some first) (lookup_entry (same_place place) cached) ≡ Some block
          → (lookup_entry (same_place place) cached ≡ Some block → filter (stands_at place) cached ≡ block ∷ [])
          → cond b (first ∷ filter (stands_at place) cached) (filter (stands_at place) cached) ≡ block ∷ []
      by true is e rest =
          let same : first ≡ block = cc in
          ap (λ l. first ∷ l) (none_stands cached (behind first cached is once)) ∙ ap (λ (f : Kept). f ∷ []) same
      by false is e rest = rest e

  -- Where a block stands at the place it goes before the others, and else nothing changes.
  abbrev pub Used : List Kept → Option Kept → Type 0
  Used cached None = (used cached place ≡ cached) × (others place cached ≡ cached)
  Used cached (Some block) = (used cached place ≡ block ∷ others place cached) × (block.0 ≡ place)

  -- a use of a place finds the block that is kept of it, and brings it to the front
  pub used_is : (cached : List Kept) → IsDistinct same_place (keys_of cached) → (o : Option Kept)
      → lookup_entry (same_place place) cached ≡ o → Used cached o
  used_is cached once None e =
      let none = not_found cached e in
      let all = others_all cached none in
      (ap (λ l. l ++ others place cached) (none_stands cached none) ∙ all, all)
  used_is cached once (Some block) e = (
    ap (λ l. l ++ others place cached) (stands_alone cached block once e),
    sym (same_places place block.0 (Contains-lookup_entry (same_place place) cached block e).1),
  )

  -- The map's own way to put a block first is what a use does.
  pub promoted_used : (cached : List Kept) → IsDistinct same_place (keys_of cached) → promoted (same_place place) cached ≡ used cached place
  promoted_used cached once = by (lookup_entry (same_place place) cached) (used_is cached once (lookup_entry (same_place place) cached) refl)
    where
      by : (o : Option Kept) → Used cached o
          → option_map_or (λ block. block ∷ remove_entry (same_place place) cached) o cached ≡ used cached place
      by None is = sym is.0
      by (Some block) is = sym (is.0 ∙ ap (λ l. block ∷ l) (others_removed cached once))

  -- a block that is taken out makes room for one
  pub others_fewer : (cached : List Kept) (block : Kept) → IsDistinct same_place (keys_of cached)
      → lookup_entry (same_place place) cached ≡ Some block → length (others place cached) + 1 ≡ length cached
  others_fewer cached block once e =
      let both : length (filter (stands_at place) cached) + length (others place cached) ≡ length cached =
      length-filter_both (stands_at place) (λ kept. not (stands_at place kept)) (λ kept. refl) cached in
      let alone : length (filter (stands_at place) cached) ≡ 1 = ap length (stands_alone cached block once e) in
      omega (arith, both, alone)

  -- The map's own way to put a block in is what keeping it does.
  pub put_kept : (cached : List Kept) (bytes : List ℕ) (cap : ℕ) → cap ≡ most → IsDistinct same_place (keys_of cached)
      → length cached ≤ most
      → put_entries same_place (record { entries = cached; cap = cap }) place bytes ≡ with_block place bytes cached
  put_kept cached bytes cap is once few = rw is (by (lookup_entry (same_place place) cached) refl)
    where
      by : (o : Option Kept) → lookup_entry (same_place place) cached ≡ o
          → option_map_or (λ block. (block.0, bytes) ∷ remove_entry (same_place place) cached) o ((place, bytes) ∷ take 63 cached)
          ≡ (place, bytes) ∷ take 63 (others place cached)
      by None e = ap (λ l. (place, bytes) ∷ take 63 l) (sym (used_is cached once None e).1)
      by (Some block) e =
          let at = (used_is cached once (Some block) e).1 in
          let fewer = others_fewer cached block once e in
          let room : length (others place cached) ≤ 63 = omega (arith, fewer, few) in
          ap (λ (p : Place). (p, bytes) ∷ remove_entry (same_place place) cached) at
          ∙ ap (λ l. (place, bytes) ∷ l) (sym (take_all 63 (others place cached) room ∙ others_removed cached once))

  -- a block that is kept is found
  pub cached_found : (cached : List Kept) → is_cached cached place ≡ true → IsSome (lookup (same_place place) cached)
  cached_found [] there = cc
  cached_found (block ∷ cached) there = by (same_place place block.0) there (cached_found cached)
    where
      by : (b : Bool) → (b || is_cached cached place) ≡ true → (is_cached cached place ≡ true → IsSome (lookup (same_place place) cached))
          → IsSome (cond b (Some block.1) (lookup (same_place place) cached))
      by true there rest = refl
      by false there rest = rest there
