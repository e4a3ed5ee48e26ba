-- What a crash may leave of commands one after the other, and of pieces of a set.
use Rattle.std.proofs.Common.{ℕ, ◌+◌, ◌≤◌, ◌≡◌, ⊎_elim, inl, inr, List, length, Option, Some, None, Result, Ok, Err, OnOk, IfSome, refl, sym, ◌∙◌, ap, subst, arith}
use Rattle.std.proofs.lemmas.Option.{same_Some}
use Rattle.tape_types.specs.Counts.{HasCause, Rose}
use Rattle.crash_steps.specs.Crashes.{Crashes, NothingNew}
use Rattle.byte_disk.specs.Files.{Files, IsBroken, IsWritten, bytes_of, written}
use Rattle.byte_disk.specs.Commands.{IsOneMore, IsFileSure, WithinWrite}
use Rattle.byte_disk.specs.declared.disk.ByteDisk.{Ghosts}
use Rattle.byte_disk.specs.declared.disk.File.{File}
use Rattle.byte_disk.specs.declared.disk.File.TheVariants.{Cm}
use Rattle.image_slots.specs.Pieces.{AtMost, CrashesIn, IsHeaderSure, IsPiece, IsPut, IsReady, IsTouched, Within}
use Rattle.image_slots.proofs.Bytes.{any_touched, touched_size, written_touched}

-- ---- steps of any kind
-- the same commands, allowed another step
pub other_step : {X : Type 0} {step next : X → X → Type 0} {m : ℕ} {leaves_a leaves_b : X → Type 0} {since_a since_b : ℕ → X → Type 0}
    → ((before image : X) → leaves_a before → step before image → next before image)
    → Crashes step m leaves_a leaves_b since_a since_b → Crashes next m leaves_a leaves_b since_a since_b
other_step {X = X} {step = step} {leaves_a = leaves_a} {since_a = since_a} each first = record {
  now = λ image left. let was = first.now image left in (was.0, was.1, each was.0 image was.1 was.2);
  since = λ t image le left. ⊎_elim
      (λ (past : since_a t image). inl past)
      (λ (was : (before : X) × leaves_a before × step before image). inr (was.0, was.1, each was.0 image was.1 was.2))
      (first.since t image le left);
  kept = first.kept;
}

-- one after the other, of a step that two of make
pub both_steps : {X : Type 0} {step : X → X → Type 0} {m n : ℕ} {leaves_a leaves_b leaves_c : X → Type 0} {since_a since_b since_c : ℕ → X → Type 0}
    → ((x y z : X) → step x y → step y z → step x z) → m ≤ n
    → Crashes step m leaves_a leaves_b since_a since_b → Crashes step n leaves_b leaves_c since_b since_c
    → Crashes step m leaves_a leaves_c since_a since_c
both_steps {X = X} {step = step} {leaves_a = leaves_a} {leaves_b = leaves_b} {since_a = since_a} {since_b = since_b} join le first second =
    let back : (b image : X) → leaves_b b → step b image → (before : X) × leaves_a before × step before image =
    λ b image left st. let was = first.now b left in (was.0, was.1, join was.0 b image was.2 st) in
    record {
      now = λ image left. let was = second.now image left in back was.0 image was.1 was.2;
      since = λ t image reached left. ⊎_elim
          (λ (past : since_b t image). first.since t image reached past)
          (λ (was : (before : X) × leaves_b before × step before image). inr (back was.0 image was.1 was.2))
          (second.since t image (omega (arith, le, reached)) left);
      kept = λ t image reached left. second.kept t image (omega (arith, le, reached)) (first.kept t image reached left);
    }

-- no command at all, where the step allows what there is
pub no_step : {X : Type 0} {step : X → X → Type 0} (m : ℕ) (leaves : X → Type 0) (since : ℕ → X → Type 0)
    → ((image : X) → leaves image → step image image) → Crashes step m leaves leaves since since
no_step m leaves since same = record {
  now = λ image left. (image, left, same image left);
  since = λ t image le left. inl left;
  kept = λ t image le left. left;
}

-- what only reads leaves what could be left before
pub old_image : {X : Type 0} {m : ℕ} {leaves_a leaves_b : X → Type 0} {since_a since_b : ℕ → X → Type 0}
    → Crashes NothingNew m leaves_a leaves_b since_a since_b → (image : X) → leaves_b image → leaves_a image
old_image {leaves_a = leaves_a} first image left = let was = first.now image left in subst leaves_a (sym was.2) was.1

-- two steps of which neither does anything new do nothing new together
pub join_same : {X : Type 0} (x y z : X) → NothingNew x y → NothingNew y z → NothingNew x z
join_same x y z e f = f ∙ e

join_within : (P : Files → Type 0) (x y z : Files) → Within P x y → Within P y z → Within P x z
join_within P x y z h k = (k.0 ∙ h.0, k.1 ∙ h.1, k.2)

-- ---- counts
pub one_at_most : {a b : ℕ} → IsOneMore a b → AtMost 1 a b
one_at_most one = record { later = omega (arith, one.in_range, one.one_more); bound = omega (arith, one.one_more) }

-- commands up to two bounds, one behind the other, are up to their sum
pub then_at_most : {m n a b c : ℕ} → AtMost m a b → AtMost n b c → AtMost (m + n) a c
then_at_most first second = record {
  later = omega (arith, first.later, second.later);
  bound = omega (arith, first.bound, second.bound);
}

-- commands up to a bound are up to a greater one
pub more_at_most : (m n : ℕ) {a b : ℕ} → m ≤ n → AtMost m a b → AtMost n a b
more_at_most m n le first = record { later = first.later; bound = omega (arith, le, first.bound) }

-- a fault that is counted after a moment is counted after an earlier one
pub later_cause : {T E : Type 0} {a b c : ℕ} (r : Result T E) → a ≤ b → HasCause b c r → HasCause a c r
later_cause {a = a} {b = b} {c = c} (Ok x) le h = record { later = omega (arith, le, h.later); failed = tt }
later_cause {a = a} {b = b} {c = c} (Err e) le h = record { later = omega (arith, le, h.later); failed = rose a b c le h.failed }
  where
    rose : (a b c : ℕ) → a ≤ b → Rose b c → Rose a c
    rose a b c le h = omega (arith, le, h)

-- ---- what is told
pub same_files : (o : Option Files) (d e : Files) → o ≡ Some d → o ≡ Some e → e ≡ d
same_files o d e h k = same_Some e d (sym k ∙ h)

-- where the disk tells what it holds after commands, it told so before
pub told_before : (o p : Option Files) → (o ≡ None → p ≡ None) → (e : Files) → p ≡ Some e → (d : Files) × (o ≡ Some d)
told_before None p untold e is = absurd (cc (sym is ∙ untold refl))
told_before (Some d) p untold e is = (d, refl)

-- a sure file is the same in each image that a crash may leave
pub sure_told : (file : File) (o : Option Files) (leaves : Files → Type 0) → IsFileSure file o leaves
    → (d image : Files) → o ≡ Some d → leaves image → bytes_of file image ≡ bytes_of file d
sure_told file None leaves sure d image is left = absurd (cc is)
sure_told file (Some held) leaves sure d image is left = sure image left ∙ ap (bytes_of file) (same_files (Some held) d held is refl)

-- what holds of the files that are told holds of these files
pub held_has : (o : Option Files) (P : Files → Type 0) → IfSome o P → (d : Files) → o ≡ Some d → P d
held_has None P h d is = absurd (cc is)
held_has (Some e) P h d is = subst P (same_files (Some e) d e is refl) h

-- what holds of all files that may be told holds where they are told
pub where_told : (o : Option Files) (P : Files → Type 0) → ((d : Files) → o ≡ Some d → P d) → IfSome o P
where_told None P holds = tt
where_told (Some d) P holds = holds d refl

-- ---- bytes are put
module _ {D T E : Type 0} (disk : Ghosts D) (at : ℕ) (bytes : List ℕ) (a b : D) (within : IfSome (disk.held a) (λ (d : Files). at ≤ length d.cm)) where
  -- the write failed
  pub put_fails : (fault : E) → ((d : Files) → disk.held a ≡ Some d → (e : Files) × (disk.held b ≡ Some e) × IsBroken Cm at (length bytes) d e)
      → (disk.held a ≡ None → disk.held b ≡ None) → IsOneMore (disk.commands a) (disk.commands b)
      → HasCause {T = T} {E = E} (disk.faults a) (disk.faults b) (Err fault) → CrashesIn disk (WithinWrite Cm at (length bytes)) a b
      → IsPut {T = T} {E = E} disk at bytes (Err fault) a b
  put_fails fault told untold count cause crash = record {
    told = λ d is. let t = told d is in (t.0, t.1, t.2.others.0, t.2.others.1, any_touched t.2.any, tt);
    untold = untold;
    sure = tt;
    crash = crash;
    count = more_at_most 1 2 (omega arith) (one_at_most count);
    cause = cause;
  }

  -- the write was done, and a sync behind it
  pub put_synced : (r : Result T E) (c : D)
      → ((d : Files) → disk.held a ≡ Some d → (e : Files) × (disk.held b ≡ Some e) × IsWritten Cm at bytes d e)
      → (disk.held a ≡ None → disk.held b ≡ None) → IsOneMore (disk.commands a) (disk.commands b)
      → disk.faults a ≤ disk.faults b → CrashesIn disk (WithinWrite Cm at (length bytes)) a b
      → OnOk r (IsFileSure Cm (disk.held c) (disk.leaves c)) → disk.held c ≡ disk.held b
      → IsOneMore (disk.commands b) (disk.commands c) → HasCause (disk.faults b) (disk.faults c) r → CrashesIn disk NothingNew b c
      → IsPut disk at bytes r a c
  put_synced r c told untold count later crash sure held count_2 cause crash_2 = record {
    told = λ d is. let t = told d is in
        let same : t.0.cm ≡ written at bytes d.cm = t.2.put in (
          t.0,
          held ∙ t.1,
          t.2.others.0,
          t.2.others.1,
          subst (λ (l : List ℕ). IsTouched at (length bytes) d.cm l) (sym same) (written_touched at bytes d.cm (held_has (disk.held a) (λ (f : Files). at ≤ length f.cm) within d is)),
          on_ok r same,
        );
    untold = λ none. held ∙ untold none;
    sure = sure_of r sure;
    crash = after_write crash crash_2;
    count = then_at_most (one_at_most count) (one_at_most count_2);
    cause = later_cause r later cause;
  }
    where
      on_ok : {P : Type 0} (r : Result T E) → P → OnOk r P
      on_ok (Ok x) p = p
      on_ok (Err e) p = tt

      sure_of : (r : Result T E) → OnOk r (IsFileSure Cm (disk.held c) (disk.leaves c)) → OnOk r (IsHeaderSure disk c)
      sure_of (Ok x) h = λ d image is left. sure_told Cm (disk.held c) (disk.leaves c) h d image is left
      sure_of (Err e) h = tt

      after_write : CrashesIn disk (WithinWrite Cm at (length bytes)) a b → CrashesIn disk NothingNew b c
          → CrashesIn disk (WithinWrite Cm at (length bytes)) a c
      after_write first second = record {
        now = λ image left. first.now image (old_image second image left);
        since = λ t image le left. ⊎_elim
            (λ (past : disk.left_since b t image). first.since t image le past)
            (λ (was : (before : Files) × disk.leaves b before × NothingNew before image).
            inr (first.now image (subst (λ (x : Files). disk.leaves b x) (sym was.2) was.1)))
            (second.since t image (omega (arith, le, (one_at_most count).later)) left);
        kept = λ t image le left. second.kept t image (omega (arith, le, (one_at_most count).later)) (first.kept t image le left);
      }

-- a header stays one
module _ {D : Type 0} (disk : Ghosts D) (at : ℕ) (bytes : List ℕ) (a b : D) where
  -- a write within the header leaves its 512 bytes
  pub put_size : {T E : Type 0} (r : Result T E) → IfSome (disk.held a) (λ (d : Files). length d.cm ≡ 512) → at + length bytes ≤ 512
      → IsPut disk at bytes r a b → IfSome (disk.held b) (λ (d : Files). length d.cm ≡ 512)
  put_size r size end put = where_told (disk.held b) (λ (d : Files). length d.cm ≡ 512) (λ e is.
      let was = told_before (disk.held a) (disk.held b) put.untold e is in
      let t = put.told was.0 was.1 in
      subst (λ (f : Files). length f.cm ≡ 512) (same_files (disk.held b) e t.0 is t.1)
      (touched_size t.4 512 (held_has (disk.held a) (λ (d : Files). length d.cm ≡ 512) size was.0 was.1) end))

-- a place within 512 bytes is within the header
pub within_size : (o : Option Files) (at : ℕ) → at ≤ 512 → IfSome o (λ (d : Files). length d.cm ≡ 512) → IfSome o (λ (d : Files). at ≤ length d.cm)
within_size None at small size = tt
within_size (Some d) at small size = omega (arith, small, size)

-- ---- pieces
module _ {D : Type 0} (disk : Ghosts D) (P : Files → Type 0) (R : List ℕ → List ℕ → Type 0) where
  -- bytes that are put are a piece, where each list that they may leave meets P
  pub piece_of : {T E : Type 0} (Before After : List ℕ → Type 0) (at : ℕ) (bytes : List ℕ) (r : Result T E) (a b : D)
      → ((x y : Files) → Before x.cm → R x.ip x.dp → y.ip ≡ x.ip → y.dp ≡ x.dp → IsTouched at (length bytes) x.cm y.cm → P y)
      → ((x : List ℕ) → Before x → After (written at bytes x))
      → IsReady disk R Before a → IsPut disk at bytes r a b → IsPiece disk P R After 2 r a b
  piece_of {T} {E} Before After at bytes r a b each ends ready put = record {
    ready = by r put.sure (λ d is. let t = put.told d is in (t.0, t.1, t.2, t.3, t.5));
    told = λ d is. let t = put.told d is in let now = ready d is in
        (t.0, t.1, t.2, t.3, each d t.0 now.0 now.1 t.2 t.3 t.4);
    untold = put.untold;
    crash = λ d is. other_step (λ before image left broken.
        let now = ready d is in let was = now.2 before left in
        (broken.others.0, broken.others.1, each before image (subst Before (sym was.0) now.0) was.1 broken.others.0 broken.others.1 (any_touched broken.any)))
        put.crash;
    count = put.count;
    cause = put.cause;
  }
    where
      by : (r : Result T E) → OnOk r (IsHeaderSure disk b)
          → ((d : Files) → disk.held a ≡ Some d → (e : Files) × (disk.held b ≡ Some e) × (e.ip ≡ d.ip) × (e.dp ≡ d.dp) × OnOk r (e.cm ≡ written at bytes d.cm))
          → OnOk r (IsReady disk R After b)
      by (Err e) sure told = tt
      by (Ok x) sure told = λ e is.
          let was = told_before (disk.held a) (disk.held b) put.untold e is in
          let d : Files = was.0 in
          let t = told d was.1 in
          let one : t.0 ≡ e = same_files (disk.held b) e t.0 is t.1 in
          let now = ready d was.1 in
          let at_d : R t.0.ip t.0.dp = subst (λ (l : List ℕ). R l t.0.dp) (sym t.2) (subst (λ (l : List ℕ). R d.ip l) (sym t.3) now.1) in (
            subst (λ (f : Files). After f.cm) one (subst After (sym t.4) (ends d.cm now.0)),
            subst (λ (f : Files). R f.ip f.dp) one at_d,
            λ image left. (sure e image is left, rest d now image left),
          )
        where
          rest : (d : Files) → (Before d.cm × R d.ip d.dp × ((image : Files) → disk.leaves a image → (image.cm ≡ d.cm) × R image.ip image.dp))
              → (image : Files) → disk.leaves b image → R image.ip image.dp
          rest d now image left =
              let step = put.crash.now image left in
              let before : Files = step.0 in
              subst (λ (l : List ℕ). R l image.dp) (sym step.2.others.0) (subst (λ (l : List ℕ). R before.ip l) (sym step.2.others.1) (now.2 before step.1).1)

  -- one piece after another that was done
  pub then_piece : {T E U : Type 0} {Q S : List ℕ → Type 0} {m n : ℕ} {x : U} {r : Result T E} {a b c : D}
      → IsPiece {T = U} {E = E} disk P R Q m (Ok x) a b → IsPiece disk P R S n r b c → IsPiece disk P R S (m + n) r a c
  then_piece {r = r} first second = record {
    ready = second.ready;
    told = λ d is. let t = first.told d is in let u = second.told t.0 t.1 in (u.0, u.1, u.2 ∙ t.2, u.3 ∙ t.3, u.4);
    untold = λ none. second.untold (first.untold none);
    crash = λ d is. let t = first.told d is in both_steps (join_within P) first.count.later (first.crash d is) (second.crash t.0 t.1);
    count = then_at_most first.count second.count;
    cause = later_cause r first.cause.later second.cause;
  }

  -- one that failed is all that comes
  pub failed_piece : {T U E : Type 0} {Q S : List ℕ → Type 0} (m n : ℕ) {e : E} {a b : D} → m ≤ n
      → IsPiece {T = U} disk P R Q m (Err e) a b → IsPiece {T = T} disk P R S n (Err e) a b
  failed_piece m n le first = record {
    ready = tt;
    told = first.told;
    untold = first.untold;
    crash = first.crash;
    count = more_at_most m n le first.count;
    cause = record { later = first.cause.later; failed = first.cause.failed };
  }

  -- no command
  pub no_piece : {T E : Type 0} {Q : List ℕ → Type 0} (most : ℕ) (x : T) (a : D) → IsReady disk R Q a
      → ((d : Files) → Q d.cm → R d.ip d.dp → P d) → IsPiece {T = T} {E = E} disk P R Q most (Ok x) a a
  no_piece {Q = Q} most x a ready holds = record {
    ready = ready;
    told = λ d is. let now = ready d is in (d, is, refl, refl, holds d now.0 now.1);
    untold = λ none. none;
    crash = λ d is. no_step (disk.commands a) (disk.leaves a) (disk.left_since a) (λ image left.
        let now = ready d is in let was = now.2 image left in
        (refl, refl, holds image (subst Q (sym was.0) now.0) was.1));
    count = record { later = omega arith; bound = omega arith };
    cause = record { later = omega arith; failed = tt };
  }

-- what is asked of a header for a write
pub ready_has : {D : Type 0} (disk : Ghosts D) (R : List ℕ → List ℕ → Type 0) (Q : List ℕ → Type 0) (a : D) (at : ℕ) → IsReady disk R Q a
    → ((cm : List ℕ) → Q cm → at ≤ length cm) → IfSome (disk.held a) (λ (d : Files). at ≤ length d.cm)
ready_has disk R Q a at ready long = where_told (disk.held a) (λ (d : Files). at ≤ length d.cm) (λ d is. long d.cm (ready d is).0)
