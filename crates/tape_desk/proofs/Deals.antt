-- How passes are dealt.
use Rattle.std.specs.Prelude.{ℕ, zero, suc, ◌≡◌, ◌≤◌, ◌<◌, ◌+◌, ◌-◌, List, [], ◌∷◌, ◌++◌, length, Some, slice_index_or}
use Rattle.std.proofs.Common.{refl, sym, ap, subst, ◌∙◌, arith}
use Rattle.std.proofs.lemmas.List.{length_push, same_from_push}
use Rattle.std.proofs.lemmas.Option.{same_Some}
use Rattle.atomic_table.specs.Seated.{TableId}
use Rattle.session_script.specs.Grammar.{calls_of}
use Rattle.session_script.specs.Sessions.{greatest_session}
use Rattle.turn_lock.specs.Histories.{numbers_to}
use Rattle.turn_lock.specs.Passes.{PassView, first_pass, with_numbers}
use Rattle.promises.specs.ServingPromise.Ends.{begun}
use Rattle.promises.specs.ServingPromise.Served.{View}
use Rattle.promises.specs.declared.serving_promise.marks.Mark.{Mark}
use Rattle.tape_desk.specs.Held.{Constants, HeldView, constants}
use Rattle.tape_desk.specs.Passes.{AreDealt, DeskView, IsHeld, IsNew, view_of}
use Rattle.tape_desk.specs.Dealing.{AreCounts, AreDealtAfter, CanBegin, CanDeal, HasDealt, of_numbers}

numbers_length : (n : ℕ) → length (numbers_to n) ≡ n
numbers_length zero = refl
numbers_length (suc n) = omega (arith, numbers_length n, length_push (numbers_to n) (suc n))

abbrev Whole : Type 0 → Type 0 → Type 0
Whole D K = PassView Mark (Constants D K)

module _ {D K : Type 0} where
  -- a pass that has just its session's number is held
  pub held : (who count : ℕ) (pass : Whole D K) → CanBegin who count pass → IsHeld pass who 0 count
  held who count pass c = subst (λ (p : Whole D K). IsHeld p who 0 count) (sym c.pass_is) record {
    out = refl;
    own = refl;
    rested = record { rests = refl; placed = refl; within = omega arith; sessions = c.sessions_are; knows = (c.fixed, refl) };
    counted = record { counted = c.count_is };
  }

  module _ (lock : TableId) (sessions : ℕ) (fixed : Constants D K) where
    -- the last number goes to one pass, and the numbers before it stay
    pub cut : (n last : ℕ) (old new pass : Whole D K) → old ≡ of_numbers lock sessions fixed (numbers_to (suc n))
        → old.numbers ≡ new.numbers ++ last ∷ [] → pass ≡ with_numbers (last ∷ []) old
        → new ≡ with_numbers new.numbers old
        → (new ≡ of_numbers lock sessions fixed (numbers_to n)) × (pass ≡ of_numbers lock sessions fixed (suc n ∷ []))
    cut n last old new pass is numbers one same =
        let whole : numbers_to n ++ suc n ∷ [] ≡ new.numbers ++ last ∷ [] = sym (ap (λ (p : Whole D K). p.numbers) is) ∙ numbers in
        let parts = same_from_push (numbers_to n) new.numbers (suc n) last whole in (
          same ∙ ap (λ (p : Whole D K). with_numbers new.numbers p) is
              ∙ ap (of_numbers lock sessions fixed) (sym parts.0),
          one ∙ ap (λ (p : Whole D K). with_numbers (last ∷ []) p) is
              ∙ ap (λ (k : ℕ). of_numbers lock sessions fixed (k ∷ [])) (sym parts.1),
        )

    new_pass : (who : ℕ) (pass : Whole D K) → pass ≡ of_numbers lock sessions fixed (who ∷ [])
        → IsNew lock sessions fixed who (view_of pass who 0)
    new_pass who pass is = subst (λ (p : Whole D K). IsNew lock sessions fixed who (view_of p who 0)) (sym is) record {
      lock_is = refl;
      sessions_are = refl;
      who_is = refl;
      none = refl;
      unseen = refl;
      fixed_is = refl;
    }

    -- the pass of session n + 1 before those of the sessions after it
    pub dealt_more : (n : ℕ) (pass : Whole D K) (ps : List (DeskView D K))
        → pass ≡ of_numbers lock sessions fixed (suc n ∷ []) → AreDealtAfter lock sessions fixed (suc n) ps
        → AreDealtAfter lock sessions fixed n (view_of pass (suc n) 0 ∷ ps)
    dealt_more n pass ps is all = (omega (arith, all.0), each) where
      each : (k : ℕ) (p : DeskView D K) → k < length (view_of pass (suc n) 0 ∷ ps)
          → IsNew lock sessions fixed (n + k + 1) (slice_index_or (view_of pass (suc n) 0 ∷ ps) k p)
      each zero p within = subst (λ (who : ℕ). IsNew lock sessions fixed who (view_of pass (suc n) 0))
          (let h : suc n ≡ n + 0 + 1 = omega arith in h) (new_pass (suc n) pass is)
      each (suc k) p within = subst (λ (who : ℕ). IsNew lock sessions fixed who (slice_index_or ps k p))
          (let h : suc n + k + 1 ≡ n + suc k + 1 = omega arith in h) (all.1 k p (omega (arith, within)))

  -- ---- the loop

  -- before the first is dealt, all passes are still to come
  pub first_dealt : (lock : TableId) (sessions : ℕ) (counts : List ℕ) (whole : Whole D K) (ps : List (DeskView D K))
      → 1 ≤ sessions → ps ≡ [] → CanDeal lock sessions counts whole → HasDealt lock sessions counts whole sessions whole ps
  first_dealt lock sessions counts whole ps some none can =
      subst (λ (qs : List (DeskView D K)). HasDealt lock sessions counts whole sessions whole qs) (sym none) record {
        can = can;
        some = some;
        whole_is = can.whole_is;
        dealt = (omega arith, λ k p within. absurd (omega (arith, within)));
      }

  module _ (lock : TableId) (sessions : ℕ) (counts : List ℕ) (first : Whole D K) (n : ℕ) (whole : Whole D K)
      (ps : List (DeskView D K)) (has : HasDealt lock sessions counts first n whole ps) where
    abbrev count : ℕ
    count = slice_index_or counts (n - 1) 0

    up : n ≡ suc (n - 1)
    up = let some = has.some in omega (arith, some)

    count_is : count ≡ length (calls_of has.can.fixed.volume.script n)
    count_is =
        let many = has.can.counts_are.many in
        let sum = has.dealt.0 in
        let some = has.some in
        has.can.counts_are.each (n - 1) 0 (omega (arith, many, sum, some))
        ∙ ap (λ (who : ℕ). length (calls_of has.can.fixed.volume.script who)) (let h : n - 1 + 1 ≡ n = omega (arith, some) in h)

    -- as long as more than one pass is to come, more than one number is left
    pub many_left : 1 < n → 2 ≤ length whole.numbers
    many_left more =
        let h : length whole.numbers ≡ length (numbers_to n) = ap (λ (p : Whole D K). length p.numbers) has.whole_is in
        omega (arith, more, h, numbers_length n)

    begins : (pass : Whole D K) → pass ≡ of_numbers lock sessions has.can.fixed (n ∷ []) → CanBegin n count pass
    begins pass is = record {
      lock = lock;
      sessions = sessions;
      fixed = has.can.fixed;
      pass_is = is;
      sessions_are = has.can.sessions_are;
      count_is = count_is;
    }

    dealt_before : (pass : Whole D K) → pass ≡ of_numbers lock sessions has.can.fixed (n ∷ [])
        → AreDealtAfter lock sessions has.can.fixed (n - 1) (view_of pass n 0 ∷ ps)
    dealt_before pass is =
        subst (λ (who : ℕ). AreDealtAfter lock sessions has.can.fixed (n - 1) (view_of pass who 0 ∷ ps)) (sym up)
        (dealt_more lock sessions has.can.fixed (n - 1) pass ps
        (subst (λ (who : ℕ). pass ≡ of_numbers lock sessions has.can.fixed (who ∷ [])) up is)
        (subst (λ (who : ℕ). AreDealtAfter lock sessions has.can.fixed who ps) up has.dealt))

    module _ (last : ℕ) (new pass : Whole D K) (numbers : whole.numbers ≡ new.numbers ++ last ∷ [])
        (one : pass ≡ with_numbers (last ∷ []) whole) (same : new ≡ with_numbers new.numbers whole) where
      parts : (new ≡ of_numbers lock sessions has.can.fixed (numbers_to (n - 1)))
          × (pass ≡ of_numbers lock sessions has.can.fixed (suc (n - 1) ∷ []))
      parts = cut lock sessions has.can.fixed (n - 1) last whole new pass
          (subst (λ (k : ℕ). whole ≡ of_numbers lock sessions has.can.fixed (numbers_to k)) up has.whole_is)
          numbers one same

      pass_is : pass ≡ of_numbers lock sessions has.can.fixed (n ∷ [])
      pass_is = subst (λ (who : ℕ). pass ≡ of_numbers lock sessions has.can.fixed (who ∷ [])) (sym up) parts.1

      -- the next pass that is dealt is one of which nothing was asked
      pub next_begins : CanBegin n count pass
      next_begins = begins pass pass_is

      -- one pass more is dealt in front of the others
      pub next_dealt : 1 < n → (qs : List (DeskView D K)) (x : DeskView D K) → qs ≡ x ∷ ps → x ≡ view_of pass n 0
          → HasDealt lock sessions counts first (n - 1) new qs
      next_dealt more qs x is begun = subst (λ (l : List (DeskView D K)). HasDealt lock sessions counts first (n - 1) new l)
          (sym (is ∙ ap (λ (y : DeskView D K). y ∷ ps) begun)) record {
            can = has.can;
            some = omega (arith, more);
            whole_is = parts.0;
            dealt = dealt_before pass pass_is;
          }

    -- what is left is the pass of the first session
    module _ (end : n ≤ 1) where
      one_is : n ≡ 1
      one_is = let some = has.some in omega (arith, some, end)

      left_is : whole ≡ of_numbers lock sessions has.can.fixed (n ∷ [])
      left_is = subst (λ (k : ℕ). whole ≡ of_numbers lock sessions has.can.fixed (k ∷ [])) (sym one_is)
          (subst (λ (k : ℕ). whole ≡ of_numbers lock sessions has.can.fixed (numbers_to k)) one_is has.whole_is)

      -- the last pass is one of which nothing was asked
      pub last_begins : CanBegin n (slice_index_or counts 0 0) whole
      last_begins = subst (λ (k : ℕ). CanBegin n (slice_index_or counts k 0) whole)
          (let h : n - 1 ≡ 0 = omega (arith, one_is) in h) (begins whole left_is)

      -- with the last pass, all are dealt
      pub all_dealt : (qs : List (DeskView D K)) (x : DeskView D K) → qs ≡ x ∷ ps → x ≡ view_of whole n 0
          → (fixed : Constants D K) → first.fixed ≡ Some fixed → AreDealt lock sessions fixed qs
      all_dealt qs x is begun fixed known =
          let same : has.can.fixed ≡ fixed =
          same_Some has.can.fixed fixed (sym (ap (λ (p : Whole D K). p.fixed) has.can.whole_is) ∙ known) in
          let from : AreDealtAfter lock sessions has.can.fixed 0 (view_of whole n 0 ∷ ps) =
          subst (λ (k : ℕ). AreDealtAfter lock sessions has.can.fixed k (view_of whole n 0 ∷ ps))
          (let h : n - 1 ≡ 0 = omega (arith, one_is) in h) (dealt_before whole left_is) in
          subst (λ (l : List (DeskView D K)). AreDealt lock sessions fixed l)
          (sym (is ∙ ap (λ (y : DeskView D K). y ∷ ps) begun))
          (subst (λ (f : Constants D K). AreDealt lock sessions f (view_of whole n 0 ∷ ps)) same (
            let h = from.0 in omega (arith, h),
            λ k p within. subst (λ (who : ℕ). IsNew lock sessions has.can.fixed who (slice_index_or (view_of whole n 0 ∷ ps) k p))
                (let h : 0 + k + 1 ≡ k + 1 = omega arith in h) (from.1 k p within),
          ))

  -- ---- the start

  -- the lock of a volume of which nothing was asked
  pub can_deal : (lock : TableId) (sessions : ℕ) (counts : List ℕ) (whole : Whole D K) (h : HeldView D K)
      → whole ≡ first_pass lock sessions h.volume.marks (constants h) → h.volume ≡ begun h.volume.fixed h.volume.next
      → sessions ≡ greatest_session h.volume.fixed.script → AreCounts h.volume.fixed.script sessions counts
      → CanDeal lock sessions counts whole
  can_deal lock sessions counts whole h is fresh many counted = record {
    fixed = constants h;
    whole_is = is ∙ ap (λ (w : View D). first_pass lock sessions w.marks (constants h)) fresh;
    sessions_are = many;
    counts_are = counted;
  }
