-- A call that is answered at once and leaves all as it was.
use Rattle.std.proofs.Common.{◌≡◌, ◌≢◌, ℕ, Bool, true, false, List, [], length, map, Option, Some, None, refl, sym, ap, subst, ◌∙◌}
use Rattle.std.specs.Prelude.{All, IfSome, slice_index_or}
use Rattle.std.proofs.lemmas.Option.{same_Some}
use Rattle.tape_types.specs.declared.moments.Moment.{Moment}
use Rattle.tape_drive.specs.declared.drive.Drive.{Ghosts}
use Rattle.plain_tree.specs.Calls.{answer}
use Rattle.plain_tree.specs.Refusals.{refusal_of}
use Rattle.plain_tree.specs.Tree.{Tree}
use Rattle.plain_tree.specs.declared.calls.Answer.{Answer}
use Rattle.plain_tree.specs.declared.calls.Answer.TheVariants as answers
use Rattle.plain_tree.specs.declared.calls.Call.{Call}
use Rattle.plain_tree.specs.declared.calls.Call.TheVariants as calls
use Rattle.plain_tree.specs.declared.calls.Fate.TheVariants as fates
use Rattle.plain_tree.specs.declared.calls.Placed.{Placed}
use Rattle.plain_tree.specs.History.{call_at}
use Rattle.session_script.specs.declared.logs.Event.{Event}
use Rattle.session_script.specs.declared.logs.Reply.TheVariants as replies
use Rattle.extent_map.specs.Cells.{Tape}
use Rattle.head_queue.specs.EventLaws.Trail.{after_all}
use Rattle.head_queue.specs.EventLaws.Waiting.{ops}
use Rattle.space_laws.specs.Space.{Ask, is_over, ops_of}
use Rattle.space_laws.specs.Standing.{Standing, rules, uid_at}
use Rattle.promises.specs.ServingPromise.Acks.{is_synced}
use Rattle.promises.specs.ServingPromise.Served.{Fixed, headed}
use Rattle.promises.specs.ServingPromise.Submits.{Asks, IsOfDone, blocks_in, passes}
use Rattle.promises.proofs.ServingPromise.CacheLaws.{asks_passing, asks_refused, used_all_all}
use Rattle.block_cache.specs.Kept.{Kept, used_all}
use Rattle.promises.specs.declared.serving_promise.answers.Submitted.TheVariants as submitted
use Rattle.promises.proofs.ReplyLaws.Lists.{next_same}
use Rattle.promises.specs.PromiseLaws.Kept.{Plan}
use Rattle.held_volume.specs.Stocks.{IsStock, Stocked}
use Rattle.volume_state.specs.PlanLaws.Planned.{Items, tape_on}
use Rattle.volume_state.specs.StateLaws.Parts.{Parts}
use Rattle.volume_state.specs.StateLaws.Placing.{Answers, IsPlannedBlock, MayUse, UsesKept, found_of}
use Rattle.extent_map.specs.Replies.{distinct}
use Rattle.volume_state.specs.StateLaws.Tied.{IsKeptRightly, IsTied}
use Rattle.tape_types.specs.declared.cartridges.Cartridge.{Cartridge}
use Rattle.plain_tree.specs.declared.calls.Refusal.{Refusal}
use Rattle.file_tree.specs.Tree.{FileTree, plain_of, whole}
use Rattle.file_tree.specs.Valid.{IsGood}
use Rattle.volume_state.specs.CallLaws.SubmitLaws.{IsSubmission, Shown}
use Rattle.volume_state.proofs.CallLaws.Placed.{after_nothing, given_in, on_in, stands_in}
use Rattle.volume_state.proofs.CallLaws.HeldReads.{free_passes, passes_free}
use Rattle.volume_state.proofs.CallLaws.Uses.{asked_is, cached_still, found_is}
use Rattle.volume_state.proofs.CallLaws.Still.{still_shown}

-- ---- it is no sync

abbrev IsSyncs : Answer → Type 0
IsSyncs told = told ≡ answers.Synced

unsynced : (told : Answer) → (IsSyncs told → ⊥) → is_synced (Some (replies.Answer told)) ≡ false
unsynced answers.Synced isnt = absurd (isnt refl)
unsynced answers.Done isnt = refl
unsynced (answers.Got bytes) isnt = refl
unsynced (answers.Names entries) isnt = refl
unsynced (answers.Facts facts) isnt = refl
unsynced (answers.Refused refusal) isnt = refl

no_sync : (planned : Items) (cached : List Kept) (tree : Tree) (call : Call) (told : Answer) → (IsSyncs told → ⊥) → (MayUse planned cached call → told ≡ answer tree call) → call ≡ calls.Sync → ⊥
no_sync planned cached tree call told isnt is sync =
    isnt (subst (λ (c : Call). MayUse planned cached c → told ≡ answer tree c) sync is tt)

-- so it may add nothing to the events
of_none : (planned : Items) (cached : List Kept) (tree : Tree) (call : Call) (told : Answer) (here : ℕ) (past : List Event) → (IsSyncs told → ⊥) → (MayUse planned cached call → told ≡ answer tree call) → IsOfDone here past (Some call) []
of_none planned cached tree calls.Sync told here past isnt is = absurd (isnt (is tt))
of_none planned cached tree (calls.Read path offset count) told here past isnt is = ([], refl)
of_none planned cached tree (calls.Write path offset bytes) told here past isnt is = ([], refl)
of_none planned cached tree _ told here past isnt is = refl

-- ---- what a read asks for

-- a read that is refused isn't one that passes but for bytes that are lost
refused_isnt : (tape : Tape) (t : FileTree) (path : List (List ℕ)) (offset count : ℕ) → passes (refusal_of (plain_of tape t) (calls.Read path offset count)) ≡ false
    → refusal_of (plain_of whole t) (calls.Read path offset count) ≢ None
refused_isnt tape t path offset count refused free = absurd (let h : false ≡ true = sym refused ∙ free_passes tape t path offset count free in cc)

-- its blocks are all held or kept, and any other call asks for none
module _ {D : Type 0} (drive : Ghosts D) (fixed : Fixed D) (planned : Items) (p : Parts D) (next : List Kept) (tied : IsTied drive fixed planned p) (good : IsGood p.stock.tree)
    (standing : map headed p.stock.layout.ops ≡ ops (after_all p.trail.events)) where
  abbrev st : Standing
  st = stands_in drive fixed p

  wants_none : (call : Call) → UsesKept p.stock p.cached next call → Asks st p.trail.events [] p.cached next (Some call)
  wants_none (calls.Read path offset count) uses = by (passes (refusal_of st.tree (calls.Read path offset count))) refl
    where
      by : (b : Bool) → passes (refusal_of st.tree (calls.Read path offset count)) ≡ b → Asks st p.trail.events [] p.cached next (Some (calls.Read path offset count))
      by false refused = asks_refused st p.trail.events [] p.cached next path offset count refused (
        refl,
        uses.0 (refused_isnt (tape_on planned) p.stock.tree path offset count (ap (λ (t : Tree). passes (refusal_of t (calls.Read path offset count))) tied.stock.plain ∙ refused)),
      )
      by true passed =
          let free = passes_free (tape_on planned) p.stock.tree path offset count (ap (λ (t : Tree). passes (refusal_of t (calls.Read path offset count))) tied.stock.plain ∙ passed) in
          let used = uses.1 free (tape_on planned) (given_in drive fixed p) (on_in drive fixed p) st tied.stock in
          asks_passing st p.trail.events [] p.cached next path offset count passed (record {
            asks = sym used.0 ∙ sym (asked_is drive fixed planned p tied good standing path offset count free);
            uses = used.1 ∙ ap (used_all p.cached) (sym (found_is drive fixed planned p tied good standing path offset count free));
          })
  wants_none _ uses = (refl, uses)

  same : next ≡ p.cached → All (IsKeptRightly planned p.stock.layout.ops (drive.held fixed.first)) next
  same is = cached_still planned p.stock.layout.ops (drive.held fixed.first) p.cached next is tied.cached

  -- what is kept stays right
  used_right : (call : Call) → UsesKept p.stock p.cached next call → All (IsKeptRightly planned p.stock.layout.ops (drive.held fixed.first)) next
  used_right (calls.Read path offset count) uses = by (refusal_of (plain_of whole p.stock.tree) (calls.Read path offset count)) refl
    where
      by : (o : Option Refusal) → refusal_of (plain_of whole p.stock.tree) (calls.Read path offset count) ≡ o → All (IsKeptRightly planned p.stock.layout.ops (drive.held fixed.first)) next
      by None free =
          subst (All (IsKeptRightly planned p.stock.layout.ops (drive.held fixed.first))) (sym (uses.1 free (tape_on planned) (given_in drive fixed p) (on_in drive fixed p) st tied.stock).1)
          (used_all_all (IsKeptRightly planned p.stock.layout.ops (drive.held fixed.first)) p.cached (found_of p.stock.layout.ops p.cached (distinct (blocks_in (st.files (uid_at st.tree.nodes path)) offset count))) tied.cached)
      by (Some refusal) refused = cached_still planned p.stock.layout.ops (drive.held fixed.first) p.cached next
          (uses.0 (λ none. absurd (let h : Some refusal ≡ None = sym refused ∙ none in cc))) tied.cached
  used_right _ uses = same uses

  -- a read may use them where the drive told a cartridge
  pub may_use : (call : Call) (c : Cartridge) → drive.held fixed.first ≡ Some c → MayUse planned p.cached call
  may_use (calls.Read path offset count) c told = λ k d less.
      subst (λ (o : Option Cartridge). IfSome o (λ c. IsPlannedBlock planned (slice_index_or p.cached k d))) told (tied.cached k d less).bytes
  may_use _ c told = tt

module _ {D : Type 0} (drive : Ghosts D) where
  -- a call that is answered at once and leaves all as it was shows all that is asked
  pub shown : (fixed : Fixed D) (plan : Plan drive fixed) (planned : Items) (before after : Option Moment) (who nth : ℕ) (call : Call) (at : Moment) (told : Answer) (old new : Parts D)
      → IsSubmission drive fixed plan planned before after who nth call at (submitted.Ready (replies.Answer told)) old new → Answers who nth call at told old new
      → Shown drive fixed plan planned before after who nth (submitted.Ready (replies.Answer told)) [] old new
  shown fixed plan planned before after who nth call at told old new s v =
      let g = given_in drive fixed old in
      let on = on_in drive fixed old in
      let st = stands_in drive fixed old in
      let p : Placed = record { who = who; nth = nth; at = at; fate = fates.Done } in
      let is = v.told_is planned g on st s.tied.plan s.tied.stock in
      still_shown drive fixed plan planned before after who nth call at (replies.Answer told) fates.Done old new s refl v.asks v.places (ap (λ (k : Stocked). k.layout.ops) v.stock)
      (of_none planned old.cached st.tree call told (length old.listed.history) old.trail.events v.no_sync is.0)
      (wants_none drive fixed planned old new.cached s.tied s.good s.kept.order.orderly.standing call v.uses)
      refl (unsynced told v.no_sync)
      (λ can. record { within = ap (λ (ask : Ask). is_over (rules g) on st.space ask) is.1; answered = is.0 (may_use drive fixed planned old new.cached s.tied s.good s.kept.order.orderly.standing call can.held can.told) })
      (ap (λ (ask : Ask). ops_of (rules g) on st.space ask) is.1)
      (λ can q history done sync.
      let same : p ≡ q = next_same old.listed.history p q (sym v.places.history ∙ history) in
      let called : Some call ≡ Some calls.Sync = sym s.is_call ∙ ap (call_at g.calls) same ∙ sync in
      absurd (no_sync planned old.cached st.tree call told v.no_sync is.0 (same_Some call calls.Sync called)))
      (after_nothing drive fixed old new p call v.asks.moves.on v.places.history refl s.is_call is.1)
      (λ st is. subst (λ (k : Stocked). IsStock (tape_on planned) g on st k) (sym v.stock) is)
      (used_right drive fixed planned old new.cached s.tied s.good s.kept.order.orderly.standing call v.uses)
