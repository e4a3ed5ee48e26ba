-- Where no head step fails and nothing is over its limit, the replies are those of a plain run.
use Rattle.std.specs.Prelude.{◌≡◌, ◌⊎◌, ℕ, zero, suc, true, false, List, [], ◌∷◌, map, length, Option, Some, slice_get}
use Rattle.std.proofs.Common.{refl, inl, inr, arith, sym, ap, ◌∙◌, true≢false}
use Rattle.tape_types.specs.declared.cartridges.Twin.{Twin}
use Rattle.plain_tree.specs.Calls.{answer}
use Rattle.plain_tree.specs.declared.calls.Call.{Call}
use Rattle.plain_tree.specs.declared.calls.Fate.{Fate}
use Rattle.plain_tree.specs.declared.calls.Fate.TheVariants as fates
use Rattle.plain_tree.specs.declared.calls.Placed.{Placed}
use Rattle.session_script.specs.Replies as sessions
use Rattle.session_script.specs.declared.logs.Reply.{Reply}
use Rattle.session_script.specs.declared.logs.Reply.TheVariants as replies
use Rattle.space_laws.specs.Standing.{Given}
use Rattle.promises.specs.ServingPromise.Replies.{AreReplies, Facts, IsNeverOver, IsReply, IsFaultOf, facts_at, may_wait}

there : {X : Type 0} (xs : List X) (k : ℕ) (x : X) → slice_get xs k ≡ Some x → slice_get (map Some xs) k ≡ Some (Some x)
there [] k x e = cc
there (y ∷ ys) zero x e = ap Some e
there (y ∷ ys) (suc k) x e = there ys k x e

-- no fault is one of none
none_owned : (faults : List Twin) (reply : Reply) → faults ≡ [] → ¬ IsFaultOf faults reply
none_owned faults reply none f = omega (arith, f.1.1, ap length none)

-- a done call's reply where it owns no fault
unfaulted : (f : Facts) (call : Call) (reply : Reply) → f.own ≡ [] → (reply ≡ replies.Answer (answer f.tree call)) ⊎ ((may_wait call ≡ true) × IsFaultOf f.own reply) → reply ≡ replies.Answer (answer f.tree call)
unfaulted f call reply own (inl e) = e
unfaulted f call reply own (inr fault) = absurd (none_owned f.own reply own fault.1)

as_plain : (fate : Fate) (f : Facts) (call : Call) (reply : Reply) → f.over ≡ false → f.own ≡ [] → f.sessions ≡ [] → IsReply fate f call reply → sessions.IsReply fate f.tree call reply
as_plain fates.Done f call reply within own sessions r = unfaulted f call reply own r.answered
as_plain fates.Void f call reply within own sessions (inl e) = e
as_plain fates.Void f call reply within own sessions (inr (inl full)) = absurd (true≢false (sym full.0 ∙ within))
as_plain fates.Void f call reply within own sessions (inr (inr fault)) = absurd (none_owned f.sessions reply sessions fault.1)

as_served : (fate : Fate) (f : Facts) (call : Call) (reply : Reply) → f.over ≡ false → sessions.IsReply fate f.tree call reply → IsReply fate f call reply
as_served fates.Done f call reply within e = record { within = within; answered = inl e }
as_served fates.Void f call reply within e = inl e

length_some : {X : Type 0} (xs : List X) → length (map Some xs) ≡ length xs
length_some [] = refl
length_some (x ∷ xs) = ap suc (length_some xs)

-- with no step failed and nothing over its limit, the replies are those of a plain run
pub replies_are_plain : (g : Given) (on : Option ℕ) (history : List Placed) (answered : List Reply) → IsNeverOver g on history → AreReplies g on history [] (map Some answered) → sessions.AreReplies g.calls (sessions.IsPlainReply g.calls g.tree) history answered
replies_are_plain g on history answered never r = record {
  count = sym (length_some answered) ∙ r.count;
  each = λ k p reply at told. (
      let one = r.each k p reply at (there answered k reply told) in
      (one.0, one.1, as_plain p.fate (facts_at g on history [] k p one.0) one.0 reply (never k p one.0 at) refl refl one.2));
}

back : {X : Type 0} (xs : List X) (k : ℕ) (x : X) → slice_get (map Some xs) k ≡ Some (Some x) → slice_get xs k ≡ Some x
back [] k x e = cc
back (y ∷ ys) zero x e = cc
back (y ∷ ys) (suc k) x e = back ys k x e

-- with no step failed and nothing over its limit, the replies of a plain run may come
pub plain_replies_are : (g : Given) (on : Option ℕ) (history : List Placed) (answered : List Reply) → IsNeverOver g on history → sessions.AreReplies g.calls (sessions.IsPlainReply g.calls g.tree) history answered → AreReplies g on history [] (map Some answered)
plain_replies_are g on history answered never r = record {
  count = length_some answered ∙ r.count;
  each = λ k p reply at told. (
      let one = r.each k p reply at (back answered k reply told) in
      (one.0, one.1, as_served p.fate (facts_at g on history [] k p one.0) one.0 reply (never k p one.0 at) one.2));
}
