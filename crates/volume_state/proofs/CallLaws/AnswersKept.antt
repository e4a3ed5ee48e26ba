-- The answers of reads that are kept over a submission.
use Rattle.std.specs.Prelude.{ℕ, ◌≡◌, ◌==◌, ◌++◌, Bool, true, false, cond, List, [], Some, fold, map, slice_get}
use Rattle.std.proofs.Common.{refl, sym, ap, subst, ◌∙◌}
use Rattle.std.proofs.lemmas.Bool.{eqb-true}
use Rattle.plain_tree.specs.declared.calls.Answer.{Answer}
use Rattle.session_script.specs.declared.logs.Reply.{Reply}
use Rattle.session_script.specs.declared.logs.Reply.TheVariants as the_replies
use Rattle.promises.specs.ServingPromise.Marks.{after, mark, phase, waits}
use Rattle.promises.specs.declared.serving_promise.marks.MarkKind.{MarkKind}
use Rattle.waiting_reads.specs.Waiting.{answer_for}
use Rattle.promises.proofs.OrderLaws.Marked.{phase_more}
use Rattle.volume_state.specs.StateLaws.Parts.{Parts}
use Rattle.volume_state.specs.CallLaws.Running.{HasAnswers}

-- the replies that are there stay, and what a session waits for was there already, or isn't there yet
pub record KeepsTheReplies {D : Type 0} (old new : Parts D) (who : ℕ) (kinds : List MarkKind) : Type 0 where
  pub answered : new.answered ≡ old.answered
  pub marks : new.listed.marks ≡ old.listed.marks ++ map (mark who) kinds
  pub stay : (k : ℕ) (reply : Reply) → slice_get old.listed.replies k ≡ Some (Some reply)
      → slice_get new.listed.replies k ≡ Some (Some reply)
  pub were : (w k : ℕ) (reply : Reply) → phase w old.listed.marks ≡ waits k
      → slice_get new.listed.replies k ≡ Some (Some reply) → slice_get old.listed.replies k ≡ Some (Some reply)
  pub never : (k : ℕ) (reply : Reply) → fold after (phase who old.listed.marks) kinds ≡ waits k
      → slice_get new.listed.replies k ≡ Some (Some reply) → ⊥

-- over a submission the answers of reads are kept until they are handed out
pub answers_stay : {D : Type 0} (old new : Parts D) (who : ℕ) (kinds : List MarkKind) → KeepsTheReplies old new who kinds
    → HasAnswers old → HasAnswers new
answers_stay old new who kinds keeps are = record {
  each = λ k a is. keeps.stay k (the_replies.Answer a) (are.each k a (sym (ap (answer_for k) keeps.answered) ∙ is));
  kept = λ w k a waiting there no_sync.
      ap (answer_for k) keeps.answered
      ∙ are.kept w k a
      (by w k a (who == w) refl (sym (ap (phase w) keeps.marks ∙ phase_more who w old.listed.marks kinds) ∙ waiting) there)
      (keeps.were w k (the_replies.Answer a)
      (by w k a (who == w) refl (sym (ap (phase w) keeps.marks ∙ phase_more who w old.listed.marks kinds) ∙ waiting) there) there)
      no_sync;
}
  where
    by : (w k : ℕ) (a : Answer) (b : Bool) → (who == w) ≡ b
        → fold after (phase w old.listed.marks) (cond b kinds []) ≡ waits k
        → slice_get new.listed.replies k ≡ Some (Some (the_replies.Answer a)) → phase w old.listed.marks ≡ waits k
    by w k a false is waiting there = waiting
    by w k a true is waiting there = absurd (keeps.never k (the_replies.Answer a)
        (subst (λ n. fold after (phase n old.listed.marks) kinds ≡ waits k) (sym (eqb-true who w is)) waiting) there)
