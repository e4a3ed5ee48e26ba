-- The answers of reads that are kept, over what a turn of a session that drains makes.
use Rattle.std.proofs.Common.{◌≡◌, ◌==◌, ℕ, Bool, true, false, cond, List, [], ◌∷◌, ◌++◌, fold, length, map, Some, ⊎_elim, refl, sym, ap, subst, ◌∙◌}
use Rattle.std.specs.Prelude.{slice_get}
use Rattle.std.proofs.lemmas.Bool.{eq-eqb, eqb-true}
use Rattle.tape_types.specs.declared.cartridges.Twin.{Twin}
use Rattle.tape_types.specs.declared.moments.Moment.{Moment}
use Rattle.plain_tree.specs.declared.calls.Answer.{Answer}
use Rattle.session_script.specs.declared.logs.Reply.TheVariants as the_replies
use Rattle.promises.specs.ServingPromise.Marks.{after, draining, idle, mark, phase, waits}
use Rattle.promises.specs.declared.serving_promise.marks.MarkKind.{MarkKind}
use Rattle.promises.specs.declared.serving_promise.marks.MarkKind.TheVariants as kinds
use Rattle.promises.specs.declared.serving_promise.marks.Mark.{Mark}
use Rattle.promises.proofs.OrderLaws.Lists.{at_more, at_push}
use Rattle.promises.proofs.OrderLaws.Marked.{phase_more}
use Rattle.waiting_reads.specs.Waiting.{answer_for}
use Rattle.volume_state.specs.StateLaws.Parts.{Parts}
use Rattle.volume_state.specs.CallLaws.Draining.{RestsNow, TakesFault}
use Rattle.volume_state.specs.CallLaws.Running.{HasAnswers}

-- where marks leave their session idle, who waits then waited before
waits_still : (who w k : ℕ) (marks : List Mark) (added : List MarkKind) → fold after (phase who marks) added ≡ idle
    → phase w (marks ++ map (mark who) added) ≡ waits k → phase w marks ≡ waits k
waits_still who w k marks added rests h = by (who == w) refl (sym (phase_more who w marks added) ∙ h)
  where
    by : (b : Bool) → (who == w) ≡ b → fold after (phase w marks) (cond b added []) ≡ waits k → phase w marks ≡ waits k
    by true is e = absurd (let no : idle ≡ waits k = sym (subst (λ n. fold after (phase n marks) added ≡ idle) (eqb-true who w is) rests) ∙ e in cc)
    by false is e = e

module _ {D : Type 0} (old new : Parts D) (have : HasAnswers old) (same : new.answered ≡ old.answered) where
  -- the replies that were there stay, and no answer comes to a place for which somebody waits
  answers_go_on : ((k : ℕ) (a : Answer) → slice_get old.listed.replies k ≡ Some (Some (the_replies.Answer a)) → slice_get new.listed.replies k ≡ Some (Some (the_replies.Answer a)))
      → ((k : ℕ) (a : Answer) → slice_get new.listed.replies k ≡ Some (Some (the_replies.Answer a)) → slice_get old.listed.replies k ≡ Some (Some (the_replies.Answer a)))
      → ((who k : ℕ) → phase who new.listed.marks ≡ waits k → phase who old.listed.marks ≡ waits k) → HasAnswers new
  answers_go_on stay back waited = record {
    each = λ k a is. stay k a (have.each k a (ap (λ l. answer_for k l) (sym same) ∙ is));
    kept = λ who k a waiting there other. ap (λ l. answer_for k l) same ∙ have.kept who k a (waited who k waiting) (back k a there) other;
  }

-- a session rests
pub answers_rest : {D : Type 0} (who : ℕ) (old new : Parts D) → HasAnswers old → phase who old.listed.marks ≡ draining → RestsNow who old new → HasAnswers new
answers_rest who old new have drains r = answers_go_on old new have r.tape.answered
    (λ k a is. ap (λ l. slice_get l k) r.replies ∙ is) (λ k a is. ap (λ l. slice_get l k) (sym r.replies) ∙ is)
    (λ w k waiting. waits_still who w k old.listed.marks (kinds.Rests ∷ []) (ap (λ ph. after ph kinds.Rests) drains) (ap (λ (ms : List Mark). phase w ms) (sym r.marks) ∙ waiting))

no_answer : (counts : Twin) (a : Answer) → Some (the_replies.Fault counts) ≡ Some (the_replies.Answer a) → ⊥
no_answer counts a e = cc

-- a write is placed void with the fault of its session
pub answers_fault : {D : Type 0} (who nth : ℕ) (at : Moment) (counts : Twin) (old new : Parts D) → HasAnswers old → phase who old.listed.marks ≡ draining
    → TakesFault who nth at counts old new → HasAnswers new
answers_fault who nth at counts old new have drains t = answers_go_on old new have t.tape.answered
    (λ k a is. ap (λ l. slice_get l k) t.places.replies ∙ at_more old.listed.replies (Some (the_replies.Fault counts) ∷ []) k (Some (the_replies.Answer a)) is)
    (λ k a is. ⊎_elim (λ was. was) (λ last. absurd (no_answer counts a last.1))
    (at_push old.listed.replies (Some (the_replies.Fault counts)) (Some (the_replies.Answer a)) k (ap (λ l. slice_get l k) (sym t.places.replies) ∙ is)))
    (λ w k waiting. waits_still who w k old.listed.marks (kinds.Places here ∷ kinds.Hands here (the_replies.Fault counts) ∷ [])
    (ap (λ ph. fold after ph (kinds.Places here ∷ kinds.Hands here (the_replies.Fault counts) ∷ [])) drains ∙ ap (λ b. cond b idle (waits here)) (eq-eqb here here refl))
    (ap (λ (ms : List Mark). phase w ms) (sym t.places.marks) ∙ waiting))
  where
    here : ℕ
    here = length old.listed.history
