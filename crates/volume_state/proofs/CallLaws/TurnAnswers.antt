-- The answers that are kept, over a step and where a reply is handed out.
use Rattle.std.specs.Prelude.{◌≡◌, ◌≢◌, ◌==◌, not, ℕ, Bool, true, false, cond, List, [], ◌∷◌, ◌++◌, fold, length, Option, Some, None, slice_get}
use Rattle.std.proofs.Common.{⊎_elim, refl, sym, ap, subst, ◌∙◌}
use Rattle.std.proofs.lemmas.Bool.{both_ways, eq-eqb, eqb-true, false_from_ne_true}
use Rattle.std.proofs.lemmas.List.Folds.{list_any-from_Any}
use Rattle.std.proofs.lemmas.Option.{same_Some}
use Rattle.tape_drive.specs.declared.drive.Drive.{Ghosts}
use Rattle.plain_tree.specs.declared.calls.Answer.{Answer}
use Rattle.plain_tree.specs.declared.calls.Answer.TheVariants as the_answers
use Rattle.plain_tree.specs.declared.calls.Placed.{Placed}
use Rattle.session_script.specs.declared.logs.Reply.{Reply}
use Rattle.session_script.specs.declared.logs.Reply.TheVariants as the_replies
use Rattle.promises.specs.ServingPromise.Marks.{after, idle, mark, phase, places_of, waits}
use Rattle.promises.specs.ServingPromise.Served.{View}
use Rattle.promises.specs.declared.serving_promise.marks.MarkKind.TheVariants as kinds
use Rattle.promises.specs.OrderLaws.Laws.{IsInOrder}
use Rattle.promises.proofs.OrderLaws.Marked.{phase_more}
use Rattle.promises.proofs.OrderLaws.PhaseLaw.{phases_plain}
use Rattle.promises.proofs.OrderLaws.Picked.{has_picked, passes}
use Rattle.promises.proofs.OrderLaws.Rising.{has}
use Rattle.promises.proofs.OrderLaws.Waits.{At, at, not_yet, past, still_past, there}
use Rattle.waiting_reads.specs.Waiting.{answer_for, for_others}
use Rattle.volume_state.specs.StateLaws.Parts.{Parts}
use Rattle.volume_state.specs.CallLaws.Handing.{KeepsAnswers}
use Rattle.volume_state.specs.CallLaws.Running.{HasAnswers}

-- ---- a step

-- The answers stay kept where replies and marks stay.
module _ {D : Type 0} (old new : Parts D) (has_old : HasAnswers old) (keeps : KeepsAnswers old new)
    (count : length new.listed.replies ≡ length old.listed.replies)
    (stay : (k : ℕ) (reply : Reply) → slice_get old.listed.replies k ≡ Some (Some reply)
    → slice_get new.listed.replies k ≡ Some (Some reply))
    (marks : new.listed.marks ≡ old.listed.marks) where
  kept_by : (who k : ℕ) (a : Answer) → phase who old.listed.marks ≡ waits k
      → slice_get new.listed.replies k ≡ Some (Some (the_replies.Answer a)) → a ≢ the_answers.Synced
      → At old.listed.replies k → answer_for k new.answered ≡ Some a
  kept_by who k a waiting now other (past e) =
      absurd (let h : Some (Some (the_replies.Answer a)) ≡ None = sym now ∙ still_past old.listed.replies new.listed.replies k count e in cc)
  kept_by who k a waiting now other (not_yet e) = keeps.came k a e now other
  kept_by who k a waiting now other (there reply e) =
      let same : reply ≡ the_replies.Answer a =
      same_Some reply (the_replies.Answer a) (same_Some (Some reply) (Some (the_replies.Answer a)) (sym (stay k reply e) ∙ now)) in
      keeps.stay k a (has_old.kept who k a waiting (e ∙ ap (λ (r : Reply). Some (Some r)) same) other)

  -- over a step the answers of reads are kept until they are handed out
  pub answers_stay : HasAnswers new
  answers_stay = record {
    each = λ k a is. ⊎_elim (λ was. stay k (the_replies.Answer a) (has_old.each k a was)) (λ now. now) (keeps.only k a is);
    kept = λ who k a waiting now other.
        kept_by who k a (sym (ap (phase who) marks) ∙ waiting) now other (at old.listed.replies k);
  }

-- ---- answers for other places

none_for : (ticket : ℕ) (answered : List (ℕ × Answer)) → answer_for ticket (for_others ticket answered) ≡ None
none_for ticket [] = refl
none_for ticket (x ∷ xs) = by (x.0 == ticket) refl (none_for ticket xs)
  where
    by : (b : Bool) → (x.0 == ticket) ≡ b → answer_for ticket (for_others ticket xs) ≡ None
        → answer_for ticket (cond (not b) (x ∷ for_others ticket xs) (for_others ticket xs)) ≡ None
    by true is more = more
    by false is more = ap (λ b. cond b (Some x.1) (answer_for ticket (for_others ticket xs))) is ∙ more

others_same : (k ticket : ℕ) (answered : List (ℕ × Answer)) → (k == ticket) ≡ false
    → answer_for k (for_others ticket answered) ≡ answer_for k answered
others_same k ticket [] differ = refl
others_same k ticket (x ∷ xs) differ = by (x.0 == ticket) refl (others_same k ticket xs differ)
  where
    other : (x.0 == ticket) ≡ true → (x.0 == k) ≡ false
    other is = false_from_ne_true (x.0 == k)
        (λ same. both_ways (k == ticket) differ (subst (λ n. (n == ticket) ≡ true) (eqb-true x.0 k same) is))

    by : (b : Bool) → (x.0 == ticket) ≡ b → answer_for k (for_others ticket xs) ≡ answer_for k xs
        → answer_for k (cond (not b) (x ∷ for_others ticket xs) (for_others ticket xs)) ≡ cond (x.0 == k) (Some x.1) (answer_for k xs)
    by true is more = more ∙ sym (ap (λ b. cond b (Some x.1) (answer_for k xs)) (other is))
    by false is more = ap (λ r. cond (x.0 == k) (Some x.1) r) more

-- ---- nobody else waits for a place

same_of : (o : Option Placed) (a b : ℕ) → passes (λ (q : Placed). q.who == a) o ≡ true
    → passes (λ (q : Placed). q.who == b) o ≡ true → a ≡ b
same_of None a b is_a is_b = absurd (let h : false ≡ true = is_a in cc)
same_of (Some p) a b is_a is_b = sym (eqb-true p.who a is_a) ∙ eqb-true p.who b is_b

module _ {D : Type 0} (drive : Ghosts D) (v : View D) (kept : IsInOrder drive v) where
  -- a place for which a session waits is one of its own calls
  pub placed_by_it : (who k : ℕ) → phase who v.marks ≡ waits k → passes (λ (q : Placed). q.who == who) (slice_get v.history k) ≡ true
  placed_by_it who k waiting =
      let p = (((phases_plain drive v kept who).waits_for k).0 waiting).placed in
      sym (has_picked (λ (q : Placed). q.who == who) v.history k) ∙ ap (has k) (sym (kept.orderly.marks.places who))
      ∙ list_any-from_Any (λ x. x == k) (places_of who v.marks) (p.0, k, p.1, p.2, eq-eqb k k refl)

  -- no two sessions wait for one place
  pub waits_alone : (a b k : ℕ) → phase a v.marks ≡ waits k → phase b v.marks ≡ waits k → a ≡ b
  waits_alone a b k of_a of_b = same_of (slice_get v.history k) a b (placed_by_it a k of_a) (placed_by_it b k of_b)

-- ---- a reply that is handed out

module _ {D : Type 0} (p : Parts D) (who ticket : ℕ) (reply : Reply) (block : List ℕ) (spare : ℕ) where
  -- the parts once a reply is handed out
  abbrev pub handed : Parts D
  handed = record p {
    block = block;
    listed = record p.listed {
      marks = p.listed.marks ++ mark who (kinds.Hands ticket reply) ∷ [];
      spare = spare;
    };
    answered = for_others ticket p.answered;
  }

  idle_then : phase who p.listed.marks ≡ waits ticket → (w : ℕ) → (who == w) ≡ true
      → after (phase w p.listed.marks) (kinds.Hands ticket reply) ≡ idle
  idle_then waiting w is =
      ap (λ ph. after ph (kinds.Hands ticket reply)) (subst (λ n. phase n p.listed.marks ≡ waits ticket) (eqb-true who w is) waiting)
      ∙ ap (λ b. cond b idle (waits ticket)) (eq-eqb ticket ticket refl)

  module _ (has_old : HasAnswers p) (waiting : phase who p.listed.marks ≡ waits ticket)
      (alone : (w : ℕ) → phase w p.listed.marks ≡ waits ticket → w ≡ who) where
    each_by : (k : ℕ) (a : Answer) (b : Bool) → (k == ticket) ≡ b → answer_for k (for_others ticket p.answered) ≡ Some a
        → slice_get p.listed.replies k ≡ Some (Some (the_replies.Answer a))
    each_by k a true same is =
        absurd (let h : None ≡ Some a = sym (subst (λ n. answer_for n (for_others ticket p.answered) ≡ None) (sym (eqb-true k ticket same)) (none_for ticket p.answered)) ∙ is in cc)
    each_by k a false differ is = has_old.each k a (sym (others_same k ticket p.answered differ) ∙ is)

    kept_of : (w k : ℕ) (a : Answer) (b : Bool) → (who == w) ≡ b
        → fold after (phase w p.listed.marks) (cond b (kinds.Hands ticket reply ∷ []) []) ≡ waits k
        → slice_get p.listed.replies k ≡ Some (Some (the_replies.Answer a)) → a ≢ the_answers.Synced
        → answer_for k (for_others ticket p.answered) ≡ Some a
    kept_of w k a true is still now other = absurd (let h : idle ≡ waits k = sym (idle_then waiting w is) ∙ still in cc)
    kept_of w k a false is still now other =
        let differ : (k == ticket) ≡ false = false_from_ne_true (k == ticket)
        (λ same. both_ways (who == w) is (eq-eqb who w (sym (alone w (still ∙ ap waits (eqb-true k ticket same)))))) in
        others_same k ticket p.answered differ ∙ has_old.kept w k a still now other

    -- once a reply is handed out, the answers of the others are kept
    pub answers_handed : HasAnswers handed
    answers_handed = record {
      each = λ k a is. each_by k a (k == ticket) refl is;
      kept = λ w k a still now other. kept_of w k a (who == w) refl
          (sym (phase_more who w p.listed.marks (kinds.Hands ticket reply ∷ [])) ∙ still) now other;
    }
