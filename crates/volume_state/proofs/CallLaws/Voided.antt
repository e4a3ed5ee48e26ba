-- A call that is void: there was no memory, or it doesn't fit.
use Rattle.std.proofs.Common.{◌≡◌, ℕ, Bool, false, true≢false, List, [], Option, Some, None, refl, sym, ap, ◌∙◌}
use Rattle.tape_types.specs.declared.moments.Moment.{Moment}
use Rattle.tape_drive.specs.declared.drive.Drive.{Ghosts}
use Rattle.plain_tree.specs.Refusals.{refusal_of}
use Rattle.plain_tree.specs.declared.calls.Call.{Call}
use Rattle.plain_tree.specs.declared.calls.Call.TheVariants as calls
use Rattle.plain_tree.specs.declared.calls.Fate.TheVariants as fates
use Rattle.plain_tree.specs.declared.calls.Placed.{Placed}
use Rattle.plain_tree.specs.declared.calls.Refusal.{Refusal}
use Rattle.session_script.specs.declared.logs.Event.{Event}
use Rattle.session_script.specs.declared.logs.Reply.{Reply}
use Rattle.session_script.specs.declared.logs.Reply.TheVariants as replies
use Rattle.space_laws.specs.Space.{Ask, is_over, nothing}
use Rattle.space_laws.specs.Standing.{Given, Standing, ask_of, ask_unless, rules}
use Rattle.promises.specs.ServingPromise.Served.{Fixed}
use Rattle.promises.specs.ServingPromise.Submits.{AsksUnlessVoid}
use Rattle.promises.specs.declared.serving_promise.answers.Submitted.TheVariants as submitted
use Rattle.promises.proofs.ReplyLaws.Lists.{next_same}
use Rattle.promises.specs.PromiseLaws.Kept.{Plan}
use Rattle.held_volume.specs.Applied.{IsFull}
use Rattle.volume_state.specs.PlanLaws.Planned.{Items, tape_on}
use Rattle.volume_state.specs.StateLaws.Parts.{Parts}
use Rattle.volume_state.specs.StateLaws.Placing.{Voids}
use Rattle.volume_state.specs.CallLaws.SubmitLaws.{IsSubmission, Shown}
use Rattle.volume_state.proofs.CallLaws.Placed.{after_void, given_in, on_in, stands_in}
use Rattle.volume_state.proofs.CallLaws.Still.{still_shown}
use Rattle.volume_state.proofs.CallLaws.Uses.{cached_still}
use Rattle.block_cache.specs.Kept.{Kept}

unless_nothing : (r : Option Refusal) → ask_unless r nothing ≡ nothing
unless_nothing None = refl
unless_nothing (Some refusal) = refl

-- a read asks nothing of the tape
pub read_asks : (g : Given) (st : Standing) (path : List (List ℕ)) (offset count : ℕ) (at : Moment) → ask_of g st (calls.Read path offset count) at ≡ nothing
read_asks g st path offset count at = unless_nothing (refusal_of st.tree (calls.Read path offset count))

-- so it is never over a limit, and no other call waits for a block
full_wants : (g : Given) (on : Bool) (st : Standing) (call : Call) (at : Moment) (need limit : ℕ) (past : List Event) (cached next : List Kept) → next ≡ cached → IsFull g on st call at need limit
    → AsksUnlessVoid (submitted.Ready (replies.Full need limit)) st past [] cached next (Some call)
full_wants g on st (calls.Read path offset count) at need limit past cached next same full =
    let fits : is_over (rules g) on st.space (ask_of g st (calls.Read path offset count) at) ≡ false =
    ap (λ (ask : Ask). is_over (rules g) on st.space ask) (read_asks g st path offset count at) in
    absurd (true≢false (sym full.over ∙ fits))
full_wants g on st _ at need limit past cached next same full = (refl, same)

void_isnt_done : fates.Void ≡ fates.Done → ⊥
void_isnt_done e = cc

module _ {D : Type 0} (drive : Ghosts D) where
  -- a call that is void shows all that is asked of it
  pub shown : (fixed : Fixed D) (plan : Plan drive fixed) (planned : Items) (before after : Option Moment) (who nth : ℕ) (call : Call) (at : Moment) (reply : Reply) (old new : Parts D)
      → IsSubmission drive fixed plan planned before after who nth call at (submitted.Ready reply) old new → Voids who nth call at reply old new
      → Shown drive fixed plan planned before after who nth (submitted.Ready reply) [] old new
  shown fixed plan planned before after who nth call at replies.NoMemory old new s v =
      still_shown drive fixed plan planned before after who nth call at replies.NoMemory fates.Void old new s refl v.asks v.places (ap (λ l. l.ops) v.stock.layout)
      refl (refl, v.cached) refl refl (λ can. tt) refl
      (λ can q is done. absurd (void_isnt_done (ap (λ (p : Placed). p.fate) (next_same old.listed.history (record { who = who; nth = nth; at = at; fate = fates.Void }) q (sym v.places.history ∙ is)) ∙ done)))
      (after_void drive fixed old new (record { who = who; nth = nth; at = at; fate = fates.Void }) v.asks.moves.on v.places.history refl)
      (λ st is. v.stock.stands (tape_on planned) (given_in drive fixed old) (on_in drive fixed old) st is)
      (cached_still planned old.stock.layout.ops (drive.held fixed.first) old.cached new.cached v.cached s.tied.cached)
  shown fixed plan planned before after who nth call at (replies.Full need limit) old new s v =
      let full = (v.void (tape_on planned) (given_in drive fixed old) (on_in drive fixed old) (stands_in drive fixed old) s.tied.stock).1 in
      still_shown drive fixed plan planned before after who nth call at (replies.Full need limit) fates.Void old new s refl v.asks v.places (ap (λ l. l.ops) v.stock.layout)
      refl (full_wants (given_in drive fixed old) (on_in drive fixed old) (stands_in drive fixed old) call at need limit old.trail.events old.cached new.cached v.cached full) refl refl
      (λ can. record { over = full.over; need_is = full.need_is; limit_is = full.limit_is }) refl
      (λ can q is done. absurd (void_isnt_done (ap (λ (p : Placed). p.fate) (next_same old.listed.history (record { who = who; nth = nth; at = at; fate = fates.Void }) q (sym v.places.history ∙ is)) ∙ done)))
      (after_void drive fixed old new (record { who = who; nth = nth; at = at; fate = fates.Void }) v.asks.moves.on v.places.history refl)
      (λ st is. v.stock.stands (tape_on planned) (given_in drive fixed old) (on_in drive fixed old) st is)
      (cached_still planned old.stock.layout.ops (drive.held fixed.first) old.cached new.cached v.cached s.tied.cached)
  shown fixed plan planned before after who nth call at (replies.Answer told) old new s v = absurd v.void
  shown fixed plan planned before after who nth call at (replies.Fault counts) old new s v = absurd v.void
