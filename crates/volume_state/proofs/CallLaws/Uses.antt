-- What a read uses of the blocks that are kept, and that these stay right.
use Rattle.std.proofs.Common.{◌≡◌, ◌≢◌, ◌⊎◌, ℕ, ◌<◌, ◌&&◌, ◌||◌, not, Bool, true, false, cond, List, [], ◌∷◌, ◌++◌, length, map, Option, Some, None, inl, inr, refl, sym, ap, subst, ◌∙◌, arith}
use Rattle.std.specs.Prelude.{All, Contains, IfSome, filter, filter_map, is_some, slice_get, slice_index_or}
use Rattle.std.specs.List.{list_any}
use Rattle.std.proofs.lemmas.List.Elements.{All-cons, All-nil}
use Rattle.tape_types.proofs.LongerLists.{slice_get-append}
use Rattle.tape_types.specs.declared.cartridges.Cartridge.{Cartridge}
use Rattle.tape_types.specs.declared.cartridges.Item.{Item}
use Rattle.tape_types.specs.declared.cartridges.Item.TheVariants as item
use Rattle.tape_types.specs.declared.cartridges.Part.{Part}
use Rattle.tape_types.specs.declared.cartridges.Part.TheVariants.{Dp, Ip}
use Rattle.tape_types.specs.declared.cartridges.Place.{Place}
use Rattle.tape_drive.specs.Commands.{IsRead, item_at}
use Rattle.tape_drive.specs.declared.drive.Drive.{Ghosts}
use Rattle.tape_drive.specs.declared.drive.Got.{Got}
use Rattle.tape_drive.specs.declared.drive.Got.TheVariants as gots
use Rattle.plain_tree.specs.Refusals.{refusal_of}
use Rattle.plain_tree.specs.declared.calls.Call.TheVariants.{Read}
use Rattle.extent_map.specs.Replies.{distinct}
use Rattle.session_script.specs.declared.logs.Event.{Event}
use Rattle.session_script.specs.declared.logs.Event.TheVariants as events
use Rattle.file_tree.specs.Tree.{plain_of, whole}
use Rattle.file_tree.specs.Valid.{IsGood}
use Rattle.head_core.specs.Steps.{IsFoundAt}
use Rattle.head_core.specs.declared.work.StepDone.TheVariants as ends
use Rattle.head_queue.specs.EventLaws.Trail.{after_all, puts_at}
use Rattle.head_queue.specs.EventLaws.Waiting.{ops}
use Rattle.tape_layout.specs.Ops.{AreNext, held_in}
use Rattle.tape_layout.specs.declared.ops.Op.{Op}
use Rattle.space_laws.specs.Standing.{Standing, uid_at}
use Rattle.promises.specs.ServingPromise.Cached.{AreOnTape, KeepsBlock, KeepsBlocks, asked, found, is_held as is_put}
use Rattle.promises.specs.ServingPromise.Served.{Fixed, headed}
use Rattle.promises.specs.ServingPromise.Submits.{blocks_in}
use Rattle.promises.proofs.ServingPromise.CacheLaws.{with_block_all}
use Rattle.block_cache.specs.Kept.{Kept, is_cached, with_block}
use Rattle.promises.proofs.ReplyLaws.Distinct.{in_distinct}
use Rattle.promises.proofs.ReplyLaws.Lists.{get_within, in_cases, in_first, in_none, in_rest}
use Rattle.volume_state.specs.PlanLaws.Planned.{IsDoneAt, IsOnWay, Items, ends_in, with_ops}
use Rattle.volume_state.proofs.PlanLaws.Places.{places_stay}
use Rattle.volume_state.proofs.PlanLaws.Tells.{tapes_tell}
use Rattle.promises.specs.CrashLaws.Safe.{items_by}
use Rattle.volume_state.specs.StateLaws.Parts.{Parts}
use Rattle.volume_state.specs.StateLaws.Placing.{IsPlannedBlock, found_of, is_held, wanted_of}
use Rattle.volume_state.specs.StateLaws.Stepping.{IsKeptAfter, synced_events}
use Rattle.volume_state.specs.StateLaws.Tied.{FilesStandIn, IsKeptRightly, IsTied}
use Rattle.volume_state.proofs.CallLaws.HeldReads.{held_put}
use Rattle.volume_state.proofs.CallLaws.Placed.{given_in, on_in, stands_in}
use Rattle.volume_state.proofs.CallLaws.ReadBlocks.{blocks_stand}

-- ---- lists

-- two tests that agree on a list leave the same of it
filter_alike : {X : Type 0} (f g : X → Bool) (xs : List X) → ((x : X) → Contains xs x → f x ≡ g x) → filter f xs ≡ filter g xs
filter_alike f g [] same = refl
filter_alike f g (x ∷ xs) same =
    ap (λ b. cond b (x ∷ filter f xs) (filter f xs)) (same x (in_first x xs))
    ∙ ap (λ ys. cond (g x) (x ∷ ys) ys) (filter_alike f g xs (λ y has. same y (in_rest x xs y has)))

-- what holds of each that passes a test holds of all that are left
pub all_left : {X : Type 0} (P : X → Type 0) (p : X → Bool) (xs : List X) → ((x : X) → Contains xs x → p x ≡ true → P x) → All P (filter p xs)
all_left P p [] each = All-nil P
all_left P p (x ∷ xs) each = by (p x) refl (all_left P p xs (λ y has. each y (in_rest x xs y has)))
  where
    by : (b : Bool) → p x ≡ b → All P (filter p xs) → All P (cond b (x ∷ filter p xs) (filter p xs))
    by true e rest = All-cons P x (filter p xs) (each x (in_first x xs) e) rest
    by false e rest = rest

not_held : (o : Option (List ℕ)) (c : Bool) → not (is_some o || c) ≡ true → o ≡ None
not_held None c e = refl
not_held (Some bytes) c e = absurd cc

-- a place that is wanted is held by no op
pub wanted_unheld : (standing : List Op) (cached : List Kept) (place : Place) → not (is_held standing place || is_cached cached place) ≡ true → held_in place standing ≡ None
wanted_unheld standing cached place e = not_held (held_in place standing) (is_cached cached place) e

-- ---- which blocks are held

held_by : (o : Option (List ℕ)) → ((bytes : List ℕ) × (o ≡ Some bytes)) → true ≡ is_some o
held_by None has = absurd (let h : None ≡ Some has.0 = has.1 in cc)
held_by (Some bytes) has = refl

put_by : (o : Option (List ℕ)) → ((bytes : List ℕ) → o ≡ Some bytes → true ≡ false) → false ≡ is_some o
put_by None none = refl
put_by (Some bytes) none = absurd (let h : true ≡ false = none bytes refl in cc)

module _ {D : Type 0} (drive : Ghosts D) (fixed : Fixed D) (planned : Items) (p : Parts D) (tied : IsTied drive fixed planned p) (good : IsGood p.stock.tree)
    (standing : map headed p.stock.layout.ops ≡ ops (after_all p.trail.events)) (path : List (List ℕ)) (offset count : ℕ)
    (free : refusal_of (plain_of whole p.stock.tree) (Read path offset count) ≡ None) where
  abbrev st : Standing
  st = stands_in drive fixed p

  abbrev blocks : List Place
  blocks = blocks_in (st.files (uid_at st.tree.nodes path)) offset count

  there : (place : Place) → Contains blocks place → FilesStandIn st.files place.part place.pos
  there place has = blocks_stand _ (given_in drive fixed p) (on_in drive fixed p) st p.stock path offset count tied.stock good free place has

  held_alike : (place : Place) → Contains blocks place → is_put p.trail.events place ≡ is_held p.stock.layout.ops place
  held_alike place has = sym (ap (list_any (puts_at place)) standing) ∙ by (list_any (puts_at place) (map headed p.stock.layout.ops)) refl
    where
      by : (b : Bool) → list_any (puts_at place) (map headed p.stock.layout.ops) ≡ b → b ≡ is_some (held_in place p.stock.layout.ops)
      by true put = held_by (held_in place p.stock.layout.ops) (tied.files.bytes place.part place.pos (there place has) put)
      by false none = put_by (held_in place p.stock.layout.ops) (λ bytes is. sym (held_put place p.stock.layout.ops bytes is) ∙ none)

  -- the blocks that a read asks for, by the events and by the ops
  pub asked_is : asked (distinct blocks) p.trail.events p.cached ≡ wanted_of p.stock.layout.ops p.cached (distinct blocks)
  asked_is = filter_alike (λ place. not (is_put p.trail.events place || is_cached p.cached place)) (λ place. not (is_held p.stock.layout.ops place || is_cached p.cached place)) (distinct blocks)
      (λ place has. ap (λ b. not (b || is_cached p.cached place)) (held_alike place (in_distinct blocks place has)))

  -- the blocks that a read finds by the events are those that the stock and cache have
  pub found_is : found (distinct blocks) p.trail.events p.cached ≡ found_of p.stock.layout.ops p.cached (distinct blocks)
  found_is = filter_alike (λ place. not (is_put p.trail.events place) && is_cached p.cached place) (λ place. not (is_held p.stock.layout.ops place) && is_cached p.cached place) (distinct blocks)
      (λ place has. ap (λ b. not b && is_cached p.cached place) (held_alike place (in_distinct blocks place has)))

-- ---- the blocks that are kept stay right

-- blocks that are kept stay right where none is added
pub cached_still : (planned : Items) (standing : List Op) (told : Option Cartridge) (cached next : List Kept) → next ≡ cached
    → All (IsKeptRightly planned standing told) cached → All (IsKeptRightly planned standing told) next
cached_still planned standing told cached next is all = subst (All (IsKeptRightly planned standing told)) (sym is) all

-- with one op less
pub cached_done : (planned : Items) (op : Op) (later : List Op) (told : Option Cartridge) (cached : List Kept) → All (IsKeptRightly planned (op ∷ later) told) cached
    → All (IsKeptRightly planned later told) cached
cached_done planned op later told cached all = λ k d less.
    let one = all k d less in
    record { stands = places_stay.done planned op later (slice_index_or cached k d).0 one.stands; bytes = one.bytes }

below_length : (planned : Items) (part : Part) (pos : ℕ) → pos < Rattle.tape_layout.specs.Ops.end_of part (ends_in planned) → pos < length (planned part)
below_length planned Ip pos low = low
below_length planned Dp pos low = low

more_planned : (told : Option Cartridge) (planned : Items) (added : List Op) (block : Kept) → IsDoneAt planned [] block.0 ⊎ (block.0.pos < length (planned block.0.part))
    → IfSome told (λ c. IsPlannedBlock planned block) → IfSome told (λ c. IsPlannedBlock (with_ops added planned) block)
more_planned None planned added block low is = tt
more_planned (Some c) planned added block (inl d) is = slice_get-append (planned block.0.part) (items_by block.0.part added) block.0.pos (below_length planned block.0.part block.0.pos d.below) ∙ is
more_planned (Some c) planned added block (inr low) is = slice_get-append (planned block.0.part) (items_by block.0.part added) block.0.pos low ∙ is

-- with more ops
pub cached_more : (planned : Items) (standing added : List Op) (told : Option Cartridge) (cached : List Kept) → AreNext (ends_in planned) added
    → All (IsKeptRightly planned standing told) cached → All (IsKeptRightly (with_ops added planned) (standing ++ added) told) cached
cached_more planned standing added told cached follows all = λ k d less.
    let one = all k d less in
    let block = slice_index_or cached k d in
    record {
      stands = places_stay.added planned standing added block.0 follows one.stands;
      bytes = more_planned told planned added block (inr (below_length planned block.0.part block.0.pos one.stands.below)) one.bytes;
    }

-- ---- a block that was read

read_block : (o : Option Item) (block : List ℕ) → IsRead o gots.Block block → o ≡ Some (item.Block block)
read_block None block is = absurd (let h : gots.Block ≡ gots.End = is.0 in cc)
read_block (Some (item.Block bytes)) block is = ap (λ b. Some (item.Block b)) (sym is.1)
read_block (Some item.Mark) block is = absurd (let h : gots.Block ≡ gots.Mark = is.0 in cc)
read_block (Some item.Torn) block is = absurd (let h : gots.Block ≡ gots.Torn = is.0 in cc)

if_told : (o : Option Cartridge) (P : Cartridge → Type 0) → ((c : Cartridge) → o ≡ Some c → P c) → IfSome o P
if_told None P h = tt
if_told (Some c) P h = h c refl

-- it is kept with the bytes that stand there
pub keeps_it : (told : Option Cartridge) (ticket : ℕ) (place : Place) (got : Got) (block : List ℕ) (old new : List Kept)
    → ((c : Cartridge) → told ≡ Some c → IsFoundAt place (ends.Read got) block c) → IsKeptAfter got place block old new
    → KeepsBlock told (events.Served ticket place None) old new
keeps_it told ticket place gots.Block block old new found (inl is) = inl is
keeps_it told ticket place gots.Block block old new found (inr is) = inr (
  block,
  is,
  if_told told (λ c. slice_get (Rattle.tape_types.specs.Cartridges.items_of place.part c) place.pos ≡ Some (item.Block block)) (λ c e. read_block (item_at place c) block (found c e)),
)
keeps_it told ticket place gots.Mark block old new found is = inl is
keeps_it told ticket place gots.End block old new found is = inl is
keeps_it told ticket place gots.Torn block old new found is = inl is

-- and rightly
pub kept_right : (planned : Items) (standing : List Op) (told first : Option Cartridge) (place : Place) (got : Got) (block : List ℕ) (old new : List Kept)
    → IsDoneAt planned standing place → ((c : Cartridge) → told ≡ Some c → IsOnWay planned standing c)
    → ((c : Cartridge) → told ≡ Some c → IsFoundAt place (ends.Read got) block c) → (told ≡ None → first ≡ None)
    → IsKeptAfter got place block old new → All (IsKeptRightly planned standing first) old → All (IsKeptRightly planned standing first) new
kept_right planned standing told first place gots.Block block old new done way found untold (inl is) all = cached_still planned standing first old new is all
kept_right planned standing told first place gots.Block block old new done way found untold (inr is) all =
    subst (All (IsKeptRightly planned standing first)) (sym is)
    (with_block_all (IsKeptRightly planned standing first) place block old (record { stands = done; bytes = if_told first (λ c. IsPlannedBlock planned (place, block)) (λ c e. at c e told refl) }) all)
  where
    at : (c : Cartridge) → first ≡ Some c → (o : Option Cartridge) → told ≡ o → IsPlannedBlock planned (place, block)
    at c e None is = absurd (let h : None ≡ Some c = sym (untold is) ∙ e in cc)
    at c e (Some h) is = sym (tapes_tell.stands planned standing place h (way h is) done) ∙ read_block (item_at place h) block (found h is)
kept_right planned standing told first place gots.Mark block old new done way found untold is all = cached_still planned standing first old new is all
kept_right planned standing told first place gots.End block old new done way found untold is all = cached_still planned standing first old new is all
kept_right planned standing told first place gots.Torn block old new done way found untold is all = cached_still planned standing first old new is all

-- answers of syncs keep nothing
pub keeps_none : (told : Option Cartridge) (tickets : List ℕ) (cached : List Kept) → KeepsBlocks told (synced_events tickets) cached cached
keeps_none told [] cached = refl
keeps_none told (ticket ∷ tickets) cached = (cached, refl, keeps_none told tickets cached)

-- ---- where the drive tells a cartridge

-- the blocks that are kept stand on it
pub on_tape : {D : Type 0} (drive : Ghosts D) (fixed : Fixed D) (planned : Items) (p : Parts D) → IsTied drive fixed planned p
    → (drive.held fixed.first ≡ None → drive.held p.drive ≡ None) → IfSome (drive.held p.drive) (λ c. AreOnTape c p.cached)
on_tape drive fixed planned p tied untold = if_told (drive.held p.drive) (λ c. AreOnTape c p.cached) (λ c held k d less.
    let one = tied.cached k d less in
    let block = slice_index_or p.cached k d in
    tapes_tell.stands planned p.stock.layout.ops block.0 c (tied.way c held) one.stands ∙ at block c held one.bytes (drive.held fixed.first) refl)
  where
    at : (block : Kept) (c : Cartridge) → drive.held p.drive ≡ Some c → IfSome (drive.held fixed.first) (λ c. IsPlannedBlock planned block)
        → (o : Option Cartridge) → drive.held fixed.first ≡ o → IsPlannedBlock planned block
    at block c held bytes None is = absurd (let h : None ≡ Some c = sym (untold is) ∙ held in cc)
    at block c held bytes (Some first) is = subst (λ (o : Option Cartridge). IfSome o (λ c. IsPlannedBlock planned block)) is bytes
