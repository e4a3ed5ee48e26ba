-- What a submission places, with its ops, where the cartridge reads as the tree.
use Rattle.std.proofs.Common.{◌≡◌, inl, inr, ℕ, false, List, [], ◌∷◌, ◌++◌, length}
use Rattle.std.proofs.Common.{Option, None, Some, sym, ap, subst, ◌∙◌}
use Rattle.std.proofs.lemmas.Option.{same_Some}
use Rattle.tape_types.specs.declared.moments.Moment.{Moment}
use Rattle.plain_tree.specs.History.{call_at}
use Rattle.plain_tree.specs.declared.calls.Call.{Call}
use Rattle.plain_tree.specs.declared.calls.Fate.{Fate}
use Rattle.plain_tree.specs.declared.calls.Fate.TheVariants as fates
use Rattle.plain_tree.specs.declared.calls.Placed.{Placed}
use Rattle.session_script.specs.declared.logs.Reply.{Reply}
use Rattle.session_script.specs.declared.logs.Reply.TheVariants as the_replies
use Rattle.tape_layout.specs.declared.ops.Op.{Op}
use Rattle.space_laws.specs.Space.{is_over}
use Rattle.space_laws.specs.Standing.{Given, Standing, admitted_at, ask_of, rules}
use Rattle.promises.specs.ServingPromise.Served.{Drive, View, given}
use Rattle.promises.specs.ServingPromise.Submits.{Placing, fate_for}
use Rattle.promises.specs.declared.serving_promise.answers.Submitted.{Submitted}
use Rattle.promises.specs.declared.serving_promise.answers.Submitted.TheVariants as submitted
use Rattle.promises.specs.ReplyLaws.Sides.{PlacesTruly, on_here, ops_here, standing_here}
use Rattle.promises.specs.ReplyLaws.Within.{SubmitsWithin}
use Rattle.promises.proofs.ReplyLaws.Lists.{next_same}
use Rattle.promises.proofs.ReplyLaws.Places.{admits}
use Rattle.promises.specs.CrashLaws.Laws.{AddsOps}
use Rattle.volume_state.specs.ClosingLaws.Ready.{GoesOnBy}
use Rattle.volume_state.proofs.CallLaws.Rightly.{longer_than}

-- nothing was placed, or one
pub goes_by : {D : Type 0} (v w : View D) (who nth : ℕ) (answer : Submitted) → Placing v w who nth answer
    → GoesOnBy v w
goes_by v w who nth (submitted.Ready reply) placing = inr (placing.placed, placing.history)
goes_by v w who nth (submitted.Wait ticket) placing = inr (placing.1.placed, placing.1.history)
goes_by v w who nth submitted.Drain placing = inl placing.history

module _ {D : Type 0} (first : Drive) (v w : View D) (who nth : ℕ) where
  abbrev g : Given
  g = given v first

  abbrev st : Standing
  st = standing_here first v

  -- a call at a moment is within its limit
  abbrev IsWithin : Call → Moment → Type 0
  IsWithin call at = is_over (rules g) (on_here first v) st.space (ask_of g st call at) ≡ false

  module _ (fate : Fate) (reply : Option Reply) (t : PlacesTruly first v w who nth fate reply) where
    abbrev one : Placed
    one = record { who = who; nth = nth; at = t.at; fate = fate }

    is_one : (placed : Placed) → w.history ≡ v.history ++ placed ∷ [] → one ≡ placed
    is_one placed history = next_same v.history one placed (sym t.history ∙ history)

    within_at : IsWithin t.call t.at → (placed : Placed) → w.history ≡ v.history ++ placed ∷ [] → (call : Call)
        → call_at g.calls placed ≡ Some call → IsWithin call placed.at
    within_at fits placed history call is =
        let same = is_one placed history in
        let called : t.call ≡ call = same_Some t.call call (sym t.is_call ∙ ap (call_at g.calls) same ∙ is) in
        subst (λ (c : Call). IsWithin c placed.at) called
        (subst (λ (m : Moment). IsWithin t.call m) (ap (λ (q : Placed). q.at) same) fits)

    admits_one : admitted_at g v.on v.history (length v.history) one
        ≡ ops_here g (on_here first v) st fate (Some t.call) t.at
    admits_one = admits g v.on v.history (length v.history) one
        ∙ ap (λ (c : Option Call). ops_here g (on_here first v) st fate c t.at) t.is_call

    adds_one : AddsOps first.limits v w
    adds_one = record {
      placed = λ placed history. t.ops ∙ ap (λ (l : List Op). v.ops ++ l) (sym admits_one
          ∙ ap (admitted_at g v.on v.history (length v.history)) (is_one placed history));
      unplaced = λ same. absurd (longer_than v.history w.history one t.history same);
    }

  never_void : fates.Void ≡ fates.Done → ⊥
  never_void e = cc

  ready_within : (reply : Reply) (t : PlacesTruly first v w who nth (fate_for reply) (Some reply)) → fate_for reply
      ≡ fates.Done
      → IsWithin t.call t.at
  ready_within (the_replies.Answer told) t done = t.ready.within
  ready_within (the_replies.Full need limit) t done = absurd (never_void done)
  ready_within the_replies.NoMemory t done = absurd (never_void done)
  ready_within (the_replies.Fault counts) t done = absurd t.ready

  -- a call that is done is within its limit
  pub placed_within : (answer : Submitted) → Placing v w who nth answer → SubmitsWithin first v w who nth answer
      → (placed : Placed) → w.history ≡ v.history ++ placed ∷ [] → placed.fate ≡ fates.Done → (call : Call)
      → call_at g.calls placed ≡ Some call → IsWithin call placed.at
  placed_within (submitted.Ready reply) placing t placed history done =
      within_at (fate_for reply) (Some reply) t
      (ready_within reply t (ap (λ (q : Placed). q.fate) (is_one (fate_for reply) (Some reply) t placed history)
      ∙ done))
      placed history
  placed_within (submitted.Wait ticket) placing t placed history done =
      within_at fates.Done None t.places t.within placed history
  placed_within submitted.Drain placing t placed history done =
      absurd (longer_than v.history w.history placed history placing.history)

  -- the ops are those that it admits
  pub adds_within : (answer : Submitted) → Placing v w who nth answer → SubmitsWithin first v w who nth answer
      → AddsOps first.limits v w
  adds_within (submitted.Ready reply) placing t = adds_one (fate_for reply) (Some reply) t
  adds_within (submitted.Wait ticket) placing t = adds_one fates.Done None t.places
  adds_within submitted.Drain placing same = record {
    placed = λ placed history. absurd (longer_than v.history w.history placed history placing.history);
    unplaced = λ none. same;
  }
