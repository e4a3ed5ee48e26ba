-- What is true of the blocks that are kept stays true.
use Rattle.std.proofs.Common.{◌≡◌, ℕ, slice_index_or, ◌||◌, ◌&&◌, eqb, not, Bool, true, false, List, [], ◌∷◌, ◌++◌, append-nil, append_assoc, Option, Some, None, refl, sym, ap, subst, ◌∙◌, arith, inl, inr}
use Rattle.std.specs.Prelude.{All, filter}
use Rattle.std.specs.List.{list_any}
use Rattle.std.proofs.lemmas.Bool.Decides.{nat_tests}
use Rattle.std.proofs.lemmas.List.Elements.{All-append, All-cons, All-filter, All-take}
use Rattle.std.proofs.lemmas.List.Folds.{list_any-append}
use Rattle.tape_types.specs.declared.cartridges.Cartridge.{Cartridge}
use Rattle.tape_types.specs.declared.cartridges.Part.{Part}
use Rattle.tape_types.specs.declared.cartridges.Part.TheVariants.{Dp, Ip}
use Rattle.tape_types.specs.declared.cartridges.Place.{Place}
use Rattle.session_script.specs.declared.logs.Event.{Event}
use Rattle.session_script.specs.declared.logs.Event.TheVariants.{Wants, Queues, Syncs, Synced, Drains, Rests, Served, Worked}
use Rattle.head_queue.specs.EventLaws.Waiting.{same_part, same_place}
use Rattle.block_cache.specs.Kept.{Kept, most, others, stands_at, used, used_all, with_block}
use Rattle.block_cache.proofs.LawLemmas.{caches_stay}
use Rattle.promises.specs.ServingPromise.Cached.{AreOnTape, IsBlockAt, IsCache, KeepsBlock, KeepsBlocks, LeavesBlocks, ReadsBlocks, found, was_read}
use Rattle.promises.specs.ServingPromise.Submits.{Asks, AsksUnlessVoid, blocks_in, passes}
use Rattle.promises.specs.declared.serving_promise.answers.Submitted.{Submitted}
use Rattle.promises.specs.declared.serving_promise.answers.Submitted.TheVariants as submitted
use Rattle.session_script.specs.declared.logs.Reply.TheVariants as replies
use Rattle.plain_tree.specs.Refusals.{refusal_of}
use Rattle.plain_tree.specs.declared.calls.Call.{Call}
use Rattle.plain_tree.specs.declared.calls.Call.TheVariants.{Read}
use Rattle.extent_map.specs.Replies.{distinct}
use Rattle.space_laws.specs.Standing.{Standing, uid_at}

-- ---- what a read asks for

-- a read that passes asks for its blocks
pub passing_asks : (st : Standing) (before added : List Event) (old new : List Kept) (path : List (List ℕ)) (offset count : ℕ)
    → passes (refusal_of st.tree (Read path offset count)) ≡ true → Asks st before added old new (Some (Read path offset count))
    → ReadsBlocks (distinct (blocks_in (st.files (uid_at st.tree.nodes path)) offset count)) before added old new
passing_asks st before added old new path offset count passed asks = subst (λ (T : Type 0). T) is asks
  where
    is : Asks st before added old new (Some (Read path offset count)) ≡ ReadsBlocks (distinct (blocks_in (st.files (uid_at st.tree.nodes path)) offset count)) before added old new
    is = rw passed refl

-- and this is all that is asked of it
pub asks_passing : (st : Standing) (before added : List Event) (old new : List Kept) (path : List (List ℕ)) (offset count : ℕ)
    → passes (refusal_of st.tree (Read path offset count)) ≡ true
    → ReadsBlocks (distinct (blocks_in (st.files (uid_at st.tree.nodes path)) offset count)) before added old new
    → Asks st before added old new (Some (Read path offset count))
asks_passing st before added old new path offset count passed asks = subst (λ (T : Type 0). T) (sym is) asks
  where
    is : Asks st before added old new (Some (Read path offset count)) ≡ ReadsBlocks (distinct (blocks_in (st.files (uid_at st.tree.nodes path)) offset count)) before added old new
    is = rw passed refl

-- one that is refused asks for none
pub refused_asks : (st : Standing) (before added : List Event) (old new : List Kept) (path : List (List ℕ)) (offset count : ℕ)
    → passes (refusal_of st.tree (Read path offset count)) ≡ false → Asks st before added old new (Some (Read path offset count))
    → LeavesBlocks added old new
refused_asks st before added old new path offset count passed asks = subst (λ (T : Type 0). T) is asks
  where
    is : Asks st before added old new (Some (Read path offset count)) ≡ LeavesBlocks added old new
    is = rw passed refl

-- a read that the tree refuses asks for no block
pub asks_refused : (st : Standing) (before added : List Event) (old new : List Kept) (path : List (List ℕ)) (offset count : ℕ)
    → passes (refusal_of st.tree (Read path offset count)) ≡ false → LeavesBlocks added old new
    → Asks st before added old new (Some (Read path offset count))
asks_refused st before added old new path offset count passed asks = subst (λ (T : Type 0). T) (sym is) asks
  where
    is : Asks st before added old new (Some (Read path offset count)) ≡ LeavesBlocks added old new
    is = rw passed refl

-- ---- a fact of each block

module _ (P : Kept → Type 0) where
  -- so it is with one block more
  pub with_block_all : (place : Place) (bytes : List ℕ) (cached : List Kept) → P (place, bytes) → All P cached → All P (with_block place bytes cached)
  with_block_all place bytes cached p all =
      All-take P most ((place, bytes) ∷ others place cached)
      (All-cons P (place, bytes) (others place cached) p (All-filter (λ block. not (stands_at place block)) P cached all))

  used_once_all : (cached : List Kept) (place : Place) → All P cached → All P (used cached place)
  used_once_all cached place all =
      All-append P (filter (stands_at place) cached) (others place cached) (All-filter (stands_at place) P cached all)
      (All-filter (λ block. not (stands_at place block)) P cached all)

  -- and once some were used
  pub used_all_all : (cached : List Kept) (places : List Place) → All P cached → All P (used_all cached places)
  used_all_all cached [] all = all
  used_all_all cached (place ∷ places) all = used_all_all (used cached place) places (used_once_all cached place all)

-- ---- events that are added

same_itself : (a : Place) → same_place a a ≡ true
same_itself a = by a.part
  where
    pos : eqb a.pos a.pos ≡ true
    pos = grind (arith, nat_tests)

    by : (p : Part) → (same_part p p && eqb a.pos a.pos) ≡ true
    by Ip = pos
    by Dp = pos

or_true : (b : Bool) → (b || true) ≡ true
or_true true = refl
or_true false = refl

still_read : (trail more : List Event) (place : Place) → list_any (was_read place) trail ≡ true
    → list_any (was_read place) (trail ++ more) ≡ true
still_read trail more place e =
    list_any-append (was_read place) trail more ∙ ap (λ b. b || list_any (was_read place) more) e

read_now : (trail : List Event) (ticket : ℕ) (place : Place)
    → list_any (was_read place) (trail ++ Served ticket place None ∷ []) ≡ true
read_now trail ticket place =
    list_any-append (was_read place) trail (Served ticket place None ∷ [])
    ∙ ap (λ b. list_any (was_read place) trail || (b || false)) (same_itself place)
    ∙ or_true (list_any (was_read place) trail)

-- more events leave it true
pub later : (trail more : List Event) (cached : List Kept) → IsCache trail cached → IsCache (trail ++ more) cached
later trail more cached c = record {
  read = λ k d low. still_read trail more (slice_index_or cached k d).0 (c.read k d low);
  kept = c.kept;
}

same_after : (trail : List Event) (e : Event) (old new : List Kept) → IsCache trail old → new ≡ old → IsCache (trail ++ e ∷ []) new
same_after trail e old new c is = subst (IsCache (trail ++ e ∷ [])) (sym is) (later trail (e ∷ []) old c)

-- ---- what stays true

-- with no event yet and no block, the cache is right
pub none_yet : IsCache [] []
none_yet = record { read = λ k d low. absurd (omega (arith, low)); kept = caches_stay.begins }

step_stays : (told : Option Cartridge) (trail : List Event) (e : Event) (old new : List Kept) → IsCache trail old
    → KeepsBlock told e old new → IsCache (trail ++ e ∷ []) new
step_stays told trail (Served ticket place None) old new c (inl is) = same_after trail (Served ticket place None) old new c is
step_stays told trail (Served ticket place None) old new c (inr (bytes, is, tape)) = rw is (record {
  read = with_block_all (λ block. list_any (was_read block.0) (trail ++ Served ticket place None ∷ []) ≡ true) place bytes old
      (read_now trail ticket place) (later trail (Served ticket place None ∷ []) old c).read;
  kept = caches_stay.keeps old place bytes c.kept;
})
step_stays told trail (Served ticket place (Some counts)) old new c is = same_after trail (Served ticket place (Some counts)) old new c is
step_stays told trail (Wants ticket place) old new c is = same_after trail (Wants ticket place) old new c is
step_stays told trail (Queues place) old new c is = same_after trail (Queues place) old new c is
step_stays told trail (Syncs ticket) old new c is = same_after trail (Syncs ticket) old new c is
step_stays told trail (Synced ticket) old new c is = same_after trail (Synced ticket) old new c is
step_stays told trail (Drains who) old new c is = same_after trail (Drains who) old new c is
step_stays told trail (Rests who) old new c is = same_after trail (Rests who) old new c is
step_stays told trail (Worked place fault) old new c is = same_after trail (Worked place fault) old new c is

-- steps of the head leave the blocks that are kept right
pub steps_stay : (told : Option Cartridge) (trail added : List Event) (old new : List Kept) → IsCache trail old
    → KeepsBlocks told added old new → IsCache (trail ++ added) new
steps_stay told trail [] old new c is = subst (λ (es : List Event). IsCache es new) (sym (append-nil trail)) (subst (IsCache trail) (sym is) c)
steps_stay told trail (e ∷ added) old new c (mid, one, rest) =
    subst (λ (es : List Event). IsCache es new) (append_assoc trail (e ∷ []) added)
    (steps_stay told (trail ++ e ∷ []) added mid new (step_stays told trail e old mid c one) rest)

-- reads of blocks leave the blocks that are kept right
pub read_stays : (trail added : List Event) (blocks : List Place) (old new : List Kept) → IsCache trail old
    → ReadsBlocks blocks trail added old new → IsCache (trail ++ added) new
read_stays trail added blocks old new c r = rw r.uses (record {
  read = used_all_all (λ block. list_any (was_read block.0) (trail ++ added) ≡ true) old (found blocks trail old)
      (later trail added old c).read;
  kept = caches_stay.uses old (found blocks trail old) c.kept;
})

leaves_stay : (trail added : List Event) (old new : List Kept) → IsCache trail old → LeavesBlocks added old new → IsCache (trail ++ added) new
leaves_stay trail added old new c is = subst (IsCache (trail ++ added)) (sym is.1) (later trail added old c)

asks_stay : (st : Standing) (trail added : List Event) (old new : List Kept) (call : Option Call) → IsCache trail old
    → Asks st trail added old new call → IsCache (trail ++ added) new
asks_stay st trail added old new None c asks = leaves_stay trail added old new c asks
asks_stay st trail added old new (Some (Read path offset count)) c asks = by (passes (refusal_of st.tree (Read path offset count))) refl
  where
    by : (b : Bool) → passes (refusal_of st.tree (Read path offset count)) ≡ b → IsCache (trail ++ added) new
    by true is = read_stays trail added (distinct (blocks_in (st.files (uid_at st.tree.nodes path)) offset count)) old new c
        (passing_asks st trail added old new path offset count is asks)
    by false is = leaves_stay trail added old new c (refused_asks st trail added old new path offset count is asks)
asks_stay st trail added old new (Some _) c asks = leaves_stay trail added old new c asks

-- a submission leaves them so
pub submits_stay : (answer : Submitted) (st : Standing) (trail added : List Event) (old new : List Kept) (call : Option Call) → IsCache trail old
    → AsksUnlessVoid answer st trail added old new call → IsCache (trail ++ added) new
submits_stay (submitted.Ready replies.NoMemory) st trail added old new call c asks = leaves_stay trail added old new c asks
submits_stay (submitted.Ready _) st trail added old new call c asks = asks_stay st trail added old new call c asks
submits_stay (submitted.Wait ticket) st trail added old new call c asks = asks_stay st trail added old new call c asks
submits_stay submitted.Drain st trail added old new call c asks = asks_stay st trail added old new call c asks

step_on_tape : (c : Cartridge) (e : Event) (old new : List Kept) → AreOnTape c old → KeepsBlock (Some c) e old new
    → AreOnTape c new
step_on_tape c (Served ticket place None) old new on (inl is) = rw is on
step_on_tape c (Served ticket place None) old new on (inr (bytes, is, tape)) =
    rw is (with_block_all (λ block. IsBlockAt c block.0 block.1) place bytes old tape on)
step_on_tape c (Served ticket place (Some counts)) old new on is = rw is on
step_on_tape c (Wants ticket place) old new on is = rw is on
step_on_tape c (Queues place) old new on is = rw is on
step_on_tape c (Syncs ticket) old new on is = rw is on
step_on_tape c (Synced ticket) old new on is = rw is on
step_on_tape c (Drains who) old new on is = rw is on
step_on_tape c (Rests who) old new on is = rw is on
step_on_tape c (Worked place fault) old new on is = rw is on

-- steps of the head leave the blocks that are kept as they stand on tape
pub steps_on_tape : (c : Cartridge) (added : List Event) (old new : List Kept) → AreOnTape c old → KeepsBlocks (Some c) added old new
    → AreOnTape c new
steps_on_tape c [] old new on is = rw is on
steps_on_tape c (e ∷ added) old new on (mid, one, rest) = steps_on_tape c added mid new (step_on_tape c e old mid on one) rest

-- reads of blocks leave the blocks that are kept as they stand on tape
pub read_on_tape : (c : Cartridge) (trail added : List Event) (blocks : List Place) (old new : List Kept) → AreOnTape c old
    → ReadsBlocks blocks trail added old new → AreOnTape c new
read_on_tape c trail added blocks old new on r =
    rw r.uses (used_all_all (λ block. IsBlockAt c block.0 block.1) old (found blocks trail old) on)
