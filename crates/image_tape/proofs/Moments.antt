-- The moments between two commands that are past.
use Rattle.std.proofs.Common.{◌≡◌, ℕ, ◌≤◌, ◌⊎◌, ⊎_elim, inl, inr, List, [], ◌∷◌, ◌++◌, Result, sym, subst, arith}
use Rattle.crash_steps.specs.Crashes.{Crashes}
use Rattle.tape_types.specs.Counts.{Rose}
use Rattle.tape_types.specs.declared.cartridges.Cartridge.{Cartridge}
use Rattle.tape_types.specs.declared.cartridges.Limits.{Limits}
use Rattle.byte_disk.specs.declared.disk.ByteDisk.{Ghosts}
use Rattle.image_slots.specs.State as slot
use Rattle.image_tape.specs.Ends.{Ends}
use Rattle.image_tape.specs.Tape.{AheadOn, AreEarlier, CrashesOn, IsKept, IsUnclaimed, LeavesOf, LeftSince, Remembers, SinceOn, View, WasLeft, with_moment}

module _ {D : Type 0} (disk : Ghosts D) where
  -- of a later number, too
  pub earlier_on : (ms : List (ℕ × slot.View D)) (m n : ℕ) → m ≤ n → AreEarlier disk ms m → AreEarlier disk ms n
  earlier_on [] m n le h = tt
  earlier_on (x ∷ ms) m n le h = (omega (arith, le, h.0), earlier_on ms m n le h.1)

  earlier_one : (ms : List (ℕ × slot.View D)) (x : ℕ × slot.View D) (n : ℕ) → AreEarlier disk ms n → Rose (disk.commands x.1.disk) n
      → AreEarlier disk (ms ++ x ∷ []) n
  earlier_one [] x n h rose = (rose, tt)
  earlier_one (y ∷ ms) x n h rose = (h.0, earlier_one ms x n h.1 rose)

  -- with a moment more
  pub remembered : (v : View D) (past : List (ℕ × slot.View D)) (n : ℕ) → Remembers disk past v → disk.commands v.slots.disk ≤ n
      → Rose (disk.commands v.slots.disk) n → AreEarlier disk past n
  remembered v past n same later rose = subst (λ (l : List (ℕ × slot.View D)). AreEarlier disk l n) (sym same.are)
      (earlier_one v.past (v.reads.vcr, v.slots) n (earlier_on v.past (disk.commands v.slots.disk) n later same.early) rose)

  -- a tape remembers this moment and all that are past
  pub remembers : (v w : View D) (past : List (ℕ × slot.View D)) → v ≡ w → IsKept disk v → past ≡ with_moment w → Remembers disk past w
  remembers v w past is kept same =
      let now = subst (λ (x : View D). IsKept disk x) is kept in
      record { are = same; early = now.past; reached = now.reached }

  module _ (limits : Limits) where
    -- a moment more
    left_more : (ms : List (ℕ × slot.View D)) (x : ℕ × slot.View D) (t : ℕ) (image : Cartridge) → WasLeft disk limits ms t image
        → WasLeft disk limits (ms ++ x ∷ []) t image
    left_more [] x t image h = absurd h
    left_more (m ∷ ms) x t image (inl h) = inl h
    left_more (m ∷ ms) x t image (inr h) = inr (left_more ms x t image h)

    left_one : (ms : List (ℕ × slot.View D)) (x : ℕ × slot.View D) (t : ℕ) (image : Cartridge) → t ≤ disk.commands x.1.disk
        → AheadOn disk limits x.0 x.1.disk image → WasLeft disk limits (ms ++ x ∷ []) t image
    left_one [] x t image le h = inl (le, h)
    left_one (m ∷ ms) x t image le h = inr (left_one ms x t image le h)

    left_before : (ms : List (ℕ × slot.View D)) (x : ℕ × slot.View D) (t : ℕ) (image : Cartridge) → WasLeft disk limits (ms ++ x ∷ []) t image
        → WasLeft disk limits ms t image ⊎ AheadOn disk limits x.0 x.1.disk image
    left_before [] x t image (inl h) = inr h.1
    left_before [] x t image (inr h) = absurd h
    left_before (m ∷ ms) x t image (inl h) = inl (inl h)
    left_before (m ∷ ms) x t image (inr h) = ⊎_elim
        (λ (past : WasLeft disk limits ms t image). inl (inr past))
        (λ (now : AheadOn disk limits x.0 x.1.disk image). inr now)
        (left_before ms x t image h)

    -- the number is past where a moment since then is
    left_past : (ms : List (ℕ × slot.View D)) (t n : ℕ) (image : Cartridge) → AreEarlier disk ms n → WasLeft disk limits ms t image → Rose t n
    left_past [] t n image early h = absurd h
    left_past (m ∷ ms) t n image early (inl h) = omega (arith, h.0, early.0)
    left_past (m ∷ ms) t n image early (inr h) = left_past ms t n image early.1 h

  -- what a command leaves to a crash, as the tape's own
  pub crash_at : {T E : Type 0} {step : Cartridge → Cartridge → Type 0} (end : Result T E) (a b : View D) → Ends disk end a b → CrashesOn disk a.room.limits step a b
      → Crashes step (disk.commands a.slots.disk) (LeavesOf disk a) (LeavesOf disk b) (LeftSince disk a) (LeftSince disk b)
  crash_at {step = step} end a b ends crash =
      let same = ends.command.limits in
      let past = ends.past in
      let rose = ends.command.count.at_least in
      let later = ends.command.count.later in
      let early = ends.early in
      let opened = ends.opened in
      let open_by = ends.reached in
      let now : (image : Cartridge) → LeavesOf disk b image → (before : Cartridge) × LeavesOf disk a before × step before image =
      λ image left. crash.now image (subst (λ (l : Limits). AheadOn disk l b.reads.vcr b.slots.disk image) same left) in
      let was : (t : ℕ) (image : Cartridge) → WasLeft disk b.room.limits b.past t image ≡ WasLeft disk a.room.limits (with_moment a) t image =
      λ t image i. WasLeft disk (same i) (past i) t image in
      record {
        now = now;
        since = λ t image reached left. ⊎_elim
            (λ (within : SinceOn disk b.room.limits b.slots.disk t image). ⊎_elim
            (λ (old : SinceOn disk a.room.limits a.slots.disk t image). inl (inl old))
            (λ (came : (before : Cartridge) × LeavesOf disk a before × step before image). inr came)
            (crash.since t image reached (subst (λ (l : Limits). SinceOn disk l b.slots.disk t image) same within)))
            (⊎_elim
            (λ (here : LeavesOf disk b image). inr (now image here))
            (⊎_elim
            (λ (h : Rose t (disk.commands b.slots.disk) × WasLeft disk b.room.limits b.past t image). ⊎_elim
            (λ (old : WasLeft disk a.room.limits a.past t image).
            inl (inr (inr (inl (left_past a.room.limits a.past t (disk.commands a.slots.disk) image early old, old)))))
            (λ (one : LeavesOf disk a image). inl (inr (inl one)))
            (left_before a.room.limits a.past (a.reads.vcr, a.slots) t image (subst (λ (X : Type 0). X) (was t image) h.1)))
            (λ (h : IsUnclaimed disk b t). inl (inr (inr (inr (omega (arith, h.0, opened), open_by)))))))
            left;
        kept = λ t image reached left. ⊎_elim
            (λ (within : SinceOn disk a.room.limits a.slots.disk t image).
            inl (subst (λ (l : Limits). SinceOn disk l b.slots.disk t image) (sym same) (crash.kept t image reached within)))
            (⊎_elim
            (λ (here : LeavesOf disk a image). inr (inr (inl (
              omega (arith, reached, rose),
              subst (λ (X : Type 0). X) (sym (was t image)) (left_one a.room.limits a.past (a.reads.vcr, a.slots) t image reached here),
            ))))
            (⊎_elim
            (λ (h : Rose t (disk.commands a.slots.disk) × WasLeft disk a.room.limits a.past t image). inr (inr (inl (
              omega (arith, h.0, later),
              subst (λ (X : Type 0). X) (sym (was t image)) (left_more a.room.limits a.past (a.reads.vcr, a.slots) t image h.1),
            ))))
            (λ (h : IsUnclaimed disk a t). inr (inr (inr (omega (arith, h.0, opened), omega (arith, h.1, later, opened)))))))
            left;
      }
