-- What runs of inner commands leave, and what an own command leaves that is one of them.
use Rattle.std.proofs.Common.{◌≡◌, ℕ, ◌-◌, ◌^◌, ◌<◌, ◌≤◌, ◌⊎◌, ⊎_elim, Bool, true, false, nat_le, List, [], ◌∷◌, length, inl, inr, refl, sym, subst, arith}
use Rattle.std.proofs.lemmas.Bool.{leb-true, leb-false}
use Rattle.crash_steps.specs.Crashes.{Crashes, NothingNew}
use Rattle.own_count.specs.Own.{own, reached, LeftHere, LeftSince, AreReached, Runs}
use Rattle.own_count.specs.Laws.{here, reached_now}
use Rattle.own_count.proofs.Counting.{reached_still}

module _ {D X : Type 0} (commands : D → ℕ) (leaves : D → X → Type 0) (since : D → ℕ → X → Type 0) where
  -- no command
  pub runs_none : {step : X → X → Type 0} (a : D) → ((image : X) → step image image) → Runs commands leaves since step a a
  runs_none a same = record {
    later = omega arith;
    now = λ image left. (image, left, same image);
    since = λ t image short le left. inl left;
  }

  -- one command
  pub runs_once : {step : X → X → Type 0} (a b : D) → commands a ≤ commands b
      → Crashes step (commands a) (leaves a) (leaves b) (since a) (since b) → Runs commands leaves since step a b
  runs_once a b later crash = record {
    later = later;
    now = crash.now;
    since = λ t image short le left. crash.since t image le left;
  }

  -- a run that leaves nothing new, and then another one within which all may be as it was
  pub runs_behind : {step : X → X → Type 0} (a b c : D) → ((image : X) → step image image)
      → Runs commands leaves since NothingNew a b → Runs commands leaves since step b c → Runs commands leaves since step a c
  runs_behind {step = step} a b c same first second =
      let from : (x image : X) → leaves b x → step x image → (before : X) × leaves a before × step before image =
      λ x image left came. let was = first.now x left in
      (was.0, was.1, subst (λ (y : X). step y image) was.2 came) in
      record {
        later = omega (arith, first.later, second.later);
        now = λ image left. let was = second.now image left in from was.0 image was.1 was.2;
        since = λ t image short le left. ⊎_elim
            (λ (past : since b t image). ⊎_elim
            (λ (older : since a t image). inl older)
            (λ (was : (x : X) × leaves a x × NothingNew x image).
            inr (was.0, was.1, subst (λ (y : X). step was.0 y) (sym was.2) (same was.0)))
            (first.since t image (omega (arith, second.later, short)) le past))
            (λ (was : (x : X) × leaves b x × step x image). inr (from was.0 image was.1 was.2))
            (second.since t image short (omega (arith, le, first.later)) left);
      }

  -- a run of which a wider step is said
  pub runs_wider : {step wider : X → X → Type 0} (a b : D) → ((x y : X) → step x y → wider x y)
      → Runs commands leaves since step a b → Runs commands leaves since wider a b
  runs_wider {step = step} a b wide first = record {
    later = first.later;
    now = λ image left. let was = first.now image left in (was.0, was.1, wide was.0 image was.2);
    since = λ t image short le left. ⊎_elim
        (λ (past : since a t image). inl past)
        (λ (was : (x : X) × leaves a x × step x image). inr (was.0, was.1, wide was.0 image was.2))
        (first.since t image short le left);
  }

  -- A command of the thing itself, which is a run of inner ones.
  pub crash : {step : X → X → Type 0} (past : List D) (old new : D) → AreReached commands past old
      → ((image : X) → commands new < 2 ^ 64 - 1 → since new (commands new) image → leaves new image)
      → Runs commands leaves since step old new
      → Crashes step (own past) (leaves old) (leaves new) (LeftSince commands leaves since past old)
      (LeftSince commands leaves since (old ∷ past) new)
  crash {step = step} past old new are only runs =
      let from : (t j : ℕ) (image : X) (b : Bool) → nat_le j (length past) ≡ b → t ≤ j → commands new < 2 ^ 64 - 1
      → since new (reached commands (old ∷ past) new j) image
      → LeftSince commands leaves since past old t image ⊎ ((before : X) × leaves old before × step before image) =
      within in
      record {
        now = runs.now;
        since = λ t image reach left. ⊎_elim
            (λ (h : LeftHere commands leaves since (old ∷ past) new t image). ⊎_elim
            (λ (now : leaves new image). inr (runs.now image now))
            (λ (h : (commands new < 2 ^ 64 - 1) × (j : ℕ) × (t ≤ j) × since new (reached commands (old ∷ past) new j) image).
            from t h.1 image (nat_le h.1 (length past)) refl h.2 h.0 h.3)
            h)
            (λ (h : (t ≤ length past) × LeftSince commands leaves since past old t image). inl h.1)
            left;
        kept = λ t image reach left. inr (omega (arith, reach), left);
      }
    where
      within : (t j : ℕ) (image : X) (b : Bool) → nat_le j (length past) ≡ b → t ≤ j → commands new < 2 ^ 64 - 1
          → since new (reached commands (old ∷ past) new j) image
          → LeftSince commands leaves since past old t image ⊎ ((before : X) × leaves old before × step before image)
      within t j image true is at short h =
          let same = reached_still commands past old new j (leb-true j (length past) is) in
          ⊎_elim
          (λ (s : since old (reached commands past old j) image).
          inl (here commands leaves since past old t image (inr (omega (arith, runs.later, short), j, at, s))))
          (λ (came : (before : X) × leaves old before × step before image). inr came)
          (runs.since (reached commands past old j) image short (are j) (subst (λ (n : ℕ). since new n image) same h))
      within t j image false is at short h =
          let same = reached_now commands (old ∷ past) new j (omega (arith, leb-false j (length past) is)) in
          inr (runs.now image (only image short (subst (λ (n : ℕ). since new n image) same h)))
