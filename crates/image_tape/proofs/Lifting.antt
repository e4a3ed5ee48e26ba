-- What commands of the disk leave of the cartridge.
use Rattle.std.proofs.Common.{◌≡◌, ℕ, ◌≤◌, ⊎_elim, inl, inr, Some, Result, Ok, refl, sym, ap, ◌∙◌, subst, arith}
use Rattle.tape_types.specs.declared.cartridges.Cartridge.{Cartridge}
use Rattle.tape_types.specs.declared.cartridges.Limits.{Limits}
use Rattle.crash_steps.specs.Crashes.{NothingNew}
use Rattle.byte_disk.specs.Files.{Files}
use Rattle.byte_disk.specs.declared.disk.ByteDisk.{Ghosts}
use Rattle.image_slots.specs.Pieces.{CrashesIn}
use Rattle.image_format.specs.Images.{Opens}
use Rattle.image_format.specs.declared.refusal.Refusal.{Refusal}
use Rattle.image_tape.specs.Tape.{AheadOn, AlwaysOpens, CrashesAt, IsTold, LeavesOn, with_reference}

-- files that open as two cartridges open as one
pub same_cartridge : (r : Result Cartridge Refusal) (c e : Cartridge) → r ≡ Ok c → r ≡ Ok e → e ≡ c
same_cartridge r c e is also = let same : Ok c ≡ Ok e = sym is ∙ also in cc same

-- a cartridge with the reference that it has
pub same_reference : (vcr : ℕ) (c : Cartridge) → vcr ≡ c.vcr → with_reference vcr c ≡ c
same_reference vcr c is = λ i. record { ip = c.ip; dp = c.dp; vcr = is i; note_ip = c.note_ip; note_dp = c.note_dp }

module _ {D : Type 0} (disk : Ghosts D) (limits : Limits) where
  -- as it opens
  pub opened_left : (vcr : ℕ) (b : D) (c : Cartridge) → LeavesOn disk limits b c → AheadOn disk limits vcr b c
  opened_left vcr b c left = (c, left, inl refl)

  -- Each image that opens comes of one that could be left before, and so does each with the reference that reads.
  pub lifted : {disk_step : Files → Files → Type 0} {step : Cartridge → Cartridge → Type 0} (m n : ℕ) (a b : D) → CrashesIn disk disk_step a b
      → (IsTold disk b → IsTold disk a) → (IsTold disk a → IsTold disk b)
      → ((before left : Files) (c : Cartridge) → disk.leaves a before → disk_step before left → Opens limits left c → IsTold disk a
      → (was : Cartridge) × AheadOn disk limits m a was × step was c)
      → ((left : Files) (c : Cartridge) → disk.leaves b left → Opens limits left c → IsTold disk a → c.vcr ≤ n
      → (was : Cartridge) × AheadOn disk limits m a was × step was (with_reference n c))
      → CrashesAt disk limits step m a n b
  lifted {disk_step = disk_step} {step = step} m n a b crash back on each ahead =
      let from : (left : Files) (c : Cartridge) → Opens limits left c → IsTold disk b → (before : Files) × disk.leaves a before × disk_step before left
      → (was : Cartridge) × AheadOn disk limits m a was × step was c =
      λ left c opens told came. each came.0 left c came.1 came.2 opens (back told) in
      record {
        now = λ image h. ⊎_elim
            (λ (same : image ≡ h.0). subst (λ (x : Cartridge). (was : Cartridge) × AheadOn disk limits m a was × step was x) (sym same)
            (from h.1.0 h.0 h.1.2 h.1.3 (crash.now h.1.0 h.1.1)))
            (λ (more : (h.0.vcr ≤ n) × (image ≡ with_reference n h.0)).
            subst (λ (x : Cartridge). (was : Cartridge) × AheadOn disk limits m a was × step was x) (sym more.1)
            (ahead h.1.0 h.0 h.1.1 h.1.2 (back h.1.3) more.0))
            h.2;
        since = λ t c reached left. ⊎_elim
            (λ (past : disk.left_since a t left.0). inl (left.0, past, left.2, back left.3))
            (λ (came : (before : Files) × disk.leaves a before × disk_step before left.0). inr (from left.0 c left.2 left.3 came))
            (crash.since t left.0 reached left.1);
        kept = λ t c reached left. (left.0, crash.kept t left.0 reached left.1, left.2, on left.3);
      }

  -- where what is left opens as before
  pub lifted_still : {disk_step : Files → Files → Type 0} (m n : ℕ) (a b : D) → n ≡ m → (IsTold disk b → IsTold disk a) → (IsTold disk a → IsTold disk b)
      → CrashesIn disk disk_step a b
      → ((before left : Files) (c : Cartridge) → disk.leaves a before → disk_step before left → Opens limits left c → IsTold disk a → Opens limits before c)
      → CrashesAt disk limits NothingNew m a n b
  lifted_still m n a b same back on crash each = lifted m n a b crash back on
      (λ before left c was step opens told. (c, opened_left m a c (before, was, each before left c was step opens told, told), refl))
      (λ left c now opens told le.
      let came = crash.now left now in (
        with_reference n c,
        (
          c,
          (came.0, came.1, each came.0 left c came.1 came.2 opens told, told),
          inr (omega (arith, le, same), ap (λ (k : ℕ). with_reference k c) same),
        ),
        refl,
      ))

  -- commands that only read
  pub lifted_look : (m n : ℕ) (a b : D) → n ≡ m → disk.held b ≡ disk.held a → CrashesIn disk NothingNew a b → CrashesAt disk limits NothingNew m a n b
  lifted_look m n a b same held crash = lifted_still m n a b same (λ told. (told.0, sym held ∙ told.1)) (λ told. (told.0, held ∙ told.1)) crash
      (λ before left c was same opens told. subst (λ (f : Files). Opens limits f c) same opens)

  -- of a disk that doesn't tell its files nothing is said
  pub lifted_untold : {step : Cartridge → Cartridge → Type 0} (m n : ℕ) (a b : D) → (IsTold disk a → ⊥) → (IsTold disk b → ⊥) → CrashesAt disk limits step m a n b
  lifted_untold m n a b untold_a untold_b = record {
    now = λ image h. absurd (untold_b h.1.3);
    since = λ t image reached h. absurd (untold_b h.3);
    kept = λ t image reached h. absurd (untold_a h.3);
  }

  -- no command
  pub lifted_none : (m n : ℕ) (b : D) → ((image : Cartridge) → AheadOn disk limits n b image → AheadOn disk limits m b image)
      → CrashesAt disk limits NothingNew m b n b
  lifted_none m n b within = record {
    now = λ image left. (image, within image left, refl);
    since = λ t image reached left. inl left;
    kept = λ t image reached left. left;
  }

  -- each disk that may have been left goes on to open
  pub goes_on : {disk_step : Files → Files → Type 0} (since : ℕ) (a b : D) → since ≤ disk.commands a → AlwaysOpens disk limits since a
      → ((e : Files) → disk.held b ≡ Some e → (d : Files) × (disk.held a ≡ Some d) × CrashesIn disk disk_step a b
      × ((before left : Files) → disk.leaves a before → disk_step before left → (c : Cartridge) × Opens limits left c))
      → AlwaysOpens disk limits since b
  goes_on {disk_step = disk_step} since a b reached always each e is short left was =
      let from = each e is in ⊎_elim
      (λ (past : disk.left_since a since left). always from.0 from.1 short left past)
      (λ (came : (before : Files) × disk.leaves a before × disk_step before left). from.3 came.0 left came.1 came.2)
      (from.2.since since left reached was)
