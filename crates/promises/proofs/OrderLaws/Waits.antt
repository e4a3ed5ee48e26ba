-- Which places have a reply, and which wait.
use Rattle.std.specs.Prelude.{◌≡◌, ◌⊎◌, ◌==◌, not, ℕ, true, false, List, [], ◌∷◌, ◌++◌, length, Option, Some, None, is_some, slice_get}
use Rattle.std.proofs.Common.{⊎_elim, inl, inr, refl, sym, ap, subst, ◌∙◌, arith}
use Rattle.std.proofs.lemmas.Bool.{both_ways, cases_Bool, eqb-true, eq-eqb, false_from_ne_true, ne_eqb}
use Rattle.std.proofs.lemmas.Option.{slice_get_past, slice_get_within}
use Rattle.tape_types.proofs.LongerLists.{slice_get-seam}
use Rattle.session_script.specs.declared.logs.Reply.{Reply}
use Rattle.head_queue.specs.EventLaws.Waiting.{State}
use Rattle.promises.specs.ServingPromise.Served.{AreWaiting, is_waiting}
use Rattle.promises.proofs.OrderLaws.Lists.{at_more, at_push, at_some}

-- past the end, nothing yet, or a reply
pub data At (xs : List (Option Reply)) (k : ℕ) : Type 0 where
  past : slice_get xs k ≡ None → At xs k
  not_yet : slice_get xs k ≡ Some None → At xs k
  there : (reply : Reply) → slice_get xs k ≡ Some (Some reply) → At xs k

-- what stands at a place of the replies: nothing, one to come, or one that is there
pub at : (xs : List (Option Reply)) (k : ℕ) → At xs k
at xs k = by (slice_get xs k) refl
  where
    by : (o : Option (Option Reply)) → slice_get xs k ≡ o → At xs k
    by None e = past e
    by (Some None) e = not_yet e
    by (Some (Some reply)) e = there reply e

none_from : (o : Option Reply) → not (is_some o) ≡ true → o ≡ None
none_from None e = refl
none_from (Some reply) e = absurd (cc)

-- one reply more at its place
pub waiting_push : (a b : State) (replies : List (Option Reply)) (reply : Option Reply) (here : ℕ) → here ≡ length replies → AreWaiting a replies
    → ((k : ℕ) → (here == k) ≡ false → is_waiting b k ≡ is_waiting a k) → is_waiting b here ≡ not (is_some reply) → AreWaiting b (replies ++ reply ∷ [])
waiting_push a b replies reply here is old same last = record {
  none_yet = λ k e. ⊎_elim
      (λ before. same k (ne_eqb here k (λ eq. omega (arith, eq, is, slice_get_within replies k None before))) ∙ old.none_yet k before)
      (λ now. subst (λ n. is_waiting b n ≡ true) (is ∙ sym now.0) (last ∙ ap (λ o. not (is_some o)) now.1))
      (at_push replies reply None k e);
  waits = λ k e. ⊎_elim
      (λ eq. subst (λ n. slice_get (replies ++ reply ∷ []) n ≡ Some None) (sym is ∙ eqb-true here k eq)
      (slice_get-seam replies reply ∙ ap Some (none_from reply (sym last ∙ subst (λ n. is_waiting b n ≡ true) (sym (eqb-true here k eq)) e))))
      (λ other. at_more replies (reply ∷ []) k None (old.waits k (sym (same k other) ∙ e)))
      (cases_Bool (here == k));
}

-- what is known of replies after a turn
pub record AreTurned (a b : State) (old new : List (Option Reply)) : Type 0 where
  pub count : length new ≡ length old
  pub each : (k : ℕ) (reply : Reply) → slice_get old k ≡ Some (Some reply) → slice_get new k ≡ Some (Some reply)
  pub rests : (k : ℕ) → is_waiting a k ≡ false → is_waiting b k ≡ false
  pub replied : (k : ℕ) (reply : Option Reply) → slice_get old k ≡ Some None → slice_get new k ≡ Some reply → is_waiting b k ≡ not (is_some reply)

-- past the end of the replies there is none after a turn either
pub still_past : (old new : List (Option Reply)) (k : ℕ) → length new ≡ length old → slice_get old k ≡ None → slice_get new k ≡ None
still_past old new k count e = ⊎_elim (λ less. let x = at_some old k less in absurd (let h : Some x.0 ≡ None = sym x.1 ∙ e in cc)) (λ past. slice_get_past new k (omega (arith, count, past)))
    (Rattle.std.proofs.lemmas.Bool.cases_lt k (length old))

-- over a turn the places without a reply are still those that wait
pub waiting_turn : (a b : State) (old new : List (Option Reply)) → AreWaiting a old → AreTurned a b old new → AreWaiting b new
waiting_turn a b old new were turned = record { none_yet = λ k e. yet k e (at old k); waits = λ k e. still k e (cases_Bool (is_waiting a k)) }
  where
    yet : (k : ℕ) → slice_get new k ≡ Some None → At old k → is_waiting b k ≡ true
    yet k e (past p) = absurd (let h : Some None ≡ None = sym e ∙ still_past old new k turned.count p in cc)
    yet k e (not_yet p) = turned.replied k None p e
    yet k e (there reply p) = absurd (let h : Some None ≡ Some (Some reply) = sym e ∙ turned.each k reply p in cc)

    still : (k : ℕ) → is_waiting b k ≡ true → (is_waiting a k ≡ true) ⊎ (is_waiting a k ≡ false) → slice_get new k ≡ Some None
    still k e (inl waits) =
        let was = were.waits k waits in
        let x = at_some new k (omega (arith, turned.count, slice_get_within old k None was)) in
        x.1 ∙ ap Some (none_from x.0 (sym (turned.replied k x.0 was x.1) ∙ e))
    still k e (inr rests) = absurd (both_ways (is_waiting b k) (turned.rests k rests) e)
