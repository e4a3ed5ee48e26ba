-- One step of a mount after the other.
use Rattle.std.proofs.Common.{ℕ, ◌+◌, ◌*◌, ◌≤◌, ◌≡◌, Option, Some, None, Result, Ok, Err, IfOk, IfErr, refl, sym, ◌∙◌, subst, arith}
use Rattle.std.specs.Prelude.{IfSome, IsErrAnd}
use Rattle.std.proofs.lemmas.Nat.{mul-le}
use Rattle.tape_types.specs.declared.cartridges.Cartridge.{Cartridge}
use Rattle.tape_types.specs.Cartridges.{FitsLimits}
use Rattle.tape_drive.specs.Looks.{Looks}
use Rattle.tape_drive.specs.declared.drive.Drive.{Ghosts}
use Rattle.tape_drive.proofs.Looking.{more_looks, no_looks, then_looks}
use Rattle.cartridge_meaning.specs.declared.errors.MountErr.{MountErr}
use Rattle.mount_recover.specs.Labels.{AreCounts}
use Rattle.tape_types.specs.Counts.{Rose}
use Rattle.cartridge_meaning.specs.declared.errors.MountErr.TheVariants as errors
use Rattle.mount_recover.specs.Steps.{IsFree, IsSince, IsStep, IsStepBy}
use Rattle.mount_recover.specs.declared.starts.Start.{Start}

ok_then : {T E : Type 0} (r : Result T E) {P Q : T → Type 0} → IfOk r P → ((x : T) → P x → Q x) → IfOk r Q
ok_then (Ok x) holds next = next x holds
ok_then (Err e) holds next = tt

err_then : {T E : Type 0} (r : Result T E) {P Q : E → Type 0} → IfErr r P → ((e : E) → P e → Q e) → IfErr r Q
err_then (Ok x) holds next = tt
err_then (Err e) holds next = next e holds

times_sum : (m n k : ℕ) → m * k + n * k ≡ (m + n) * k
times_sum m n k = omega arith

module _ {D : Type 0} (drive : Ghosts D) (start : Start) where
  -- with commands that only look, all since the start of a mount has only looked
  pub since_next : (most : ℕ) (a b : D) → IsSince drive start a → Looks drive most a b → start.faults ≤ drive.faults b → IsSince drive start b
  since_next most a b since looks later = record {
    faults = later;
    limits = looks.limits ∙ since.limits;
    range = since.range;
    fits = subst (λ (o : Option Cartridge). IfSome o (FitsLimits start.limits)) (sym looks.held) since.fits;
    commands = omega (arith, looks.reads.bound);
  }

  looks_on : (m n : ℕ) (a b d : D) → Looks drive (m * drive.MOST) a b → Looks drive (n * drive.MOST) b d → Looks drive ((m + n) * drive.MOST) a d
  looks_on m n a b d first second =
      subst (λ (most : ℕ). Looks drive most a d) (times_sum m n drive.MOST)
      (then_looks drive (m * drive.MOST) (n * drive.MOST) a b d first second)

  -- what looks with reads of so many items looks with more at most
  pub looks_more : (m n : ℕ) (a b : D) → m ≤ n → Looks drive (m * drive.MOST) a b → Looks drive (n * drive.MOST) a b
  looks_more m n a b le looks = more_looks drive (m * drive.MOST) (n * drive.MOST) a b (mul-le m drive.MOST n drive.MOST le (omega arith)) looks

  -- a step after one that was done
  pub then_step : {T U : Type 0} {m n : ℕ} {a b d : D} {F : T → Cartridge → Type 0} {A : T → Type 0} {R S V : MountErr → Cartridge → Type 0}
      {G H : U → Cartridge → Type 0} {B C : U → Type 0} {x : T} {r : Result U MountErr}
      → IsStep drive start m a b F A R (Ok x) → IsStep drive start n b d G B S r
      → ((c : Cartridge) → drive.held a ≡ Some c → F x c → (y : U) → G y c → H y c) → (A x → (y : U) → B y → C y)
      → ((c : Cartridge) → drive.held a ≡ Some c → F x c → (e : MountErr) → S e c → V e c) → IsStep drive start (m + n) a d H C V r
  then_step {m = m} {n = n} {a = a} {b = b} {d = d} {r = r} first second finds holds refuses = record {
    found = ok_then r second.found (λ y g c h. finds c h (first.found c h) y (g c (first.looks.held ∙ h)));
    any = ok_then r second.any (holds first.any);
    refused = err_then r second.refused (λ e s c h. refuses c h (first.found c h) e (s c (first.looks.held ∙ h)));
    counts = second.counts;
    looks = looks_on m n a b d first.looks second.looks;
    since = second.since;
  }

  -- a step of so many commands is one of more
  pub step_of_more : {T : Type 0} {m n : ℕ} {a b : D} {F : T → Cartridge → Type 0} {A : T → Type 0} {R : MountErr → Cartridge → Type 0} {r : Result T MountErr}
      → m ≤ n → IsStep drive start m a b F A R r → IsStep drive start n a b F A R r
  step_of_more {m = m} {n = n} {a = a} {b = b} le step = record {
    found = step.found;
    any = step.any;
    refused = step.refused;
    counts = step.counts;
    looks = looks_more m n a b le step.looks;
    since = step.since;
  }

  -- a step that refuses, and so all that stands on it does
  pub stops : {T U : Type 0} {m n : ℕ} {a b : D} {F : T → Cartridge → Type 0} {A : T → Type 0} {R V : MountErr → Cartridge → Type 0}
      {H : U → Cartridge → Type 0} {C : U → Type 0} {e : MountErr} → m ≤ n → IsStep drive start m a b F A R (Err e)
      → ((c : Cartridge) → drive.held a ≡ Some c → R e c → V e c) → IsStep drive start n a b H C V (Err e)
  stops {m = m} {n = n} {a = a} {b = b} le step refuses = record {
    found = tt;
    any = tt;
    refused = λ c h. refuses c h (step.refused c h);
    counts = record { later = step.counts.later; told = step.counts.told };
    looks = looks_more m n a b le step.looks;
    since = step.since;
  }

  -- the same, where it is handed on as it is
  pub stops_as : {T U : Type 0} {m : ℕ} {a b : D} {F : T → Cartridge → Type 0} {A : T → Type 0} {R : MountErr → Cartridge → Type 0}
      {H : U → Cartridge → Type 0} {C : U → Type 0} {e : MountErr} → IsStep drive start m a b F A R (Err e) → IsStep drive start m a b H C R (Err e)
  stops_as step = record {
    found = tt;
    any = tt;
    refused = step.refused;
    counts = record { later = step.counts.later; told = step.counts.told };
    looks = step.looks;
    since = step.since;
  }

  -- a step that was done, and one that refuses
  pub stops_after : {T U W : Type 0} {m n most : ℕ} {a b d : D} {F : T → Cartridge → Type 0} {A : T → Type 0} {R S V : MountErr → Cartridge → Type 0}
      {G : U → Cartridge → Type 0} {B : U → Type 0} {H : W → Cartridge → Type 0} {C : W → Type 0} {x : T} {e : MountErr}
      → m + n ≤ most → IsStep drive start m a b F A R (Ok x) → IsStep drive start n b d G B S (Err e)
      → ((c : Cartridge) → drive.held a ≡ Some c → F x c → S e c → V e c) → IsStep drive start most a d H C V (Err e)
  stops_after {m = m} {n = n} {most = most} {a = a} {b = b} {d = d} le first second refuses = record {
    found = tt;
    any = tt;
    refused = λ c h. refuses c h (first.found c h) (second.refused c (first.looks.held ∙ h));
    counts = record { later = second.counts.later; told = second.counts.told };
    looks = looks_more (m + n) most a d le (looks_on m n a b d first.looks second.looks);
    since = second.since;
  }

  -- what is made of what a step has found, and what is refused because of it
  pub found_after : {T U : Type 0} {m : ℕ} {a b : D} {F : T → Cartridge → Type 0} {A : T → Type 0} {R V : MountErr → Cartridge → Type 0}
      {H : U → Cartridge → Type 0} {C : U → Type 0} {x : T} {y : U} → IsStep drive start m a b F A R (Ok x)
      → ((c : Cartridge) → drive.held a ≡ Some c → F x c → H y c) → (A x → C y) → IsStep drive start m a b H C V (Ok y)
  found_after step finds holds = record {
    found = λ c h. finds c h (step.found c h);
    any = holds step.any;
    refused = tt;
    counts = record { later = step.counts.later; told = tt };
    looks = step.looks;
    since = step.since;
  }

  -- two steps that succeeded, one after the other, are one that did
  pub both_after : {T U W : Type 0} {m n : ℕ} {a b d : D} {F : T → Cartridge → Type 0} {A : T → Type 0} {R S V : MountErr → Cartridge → Type 0}
      {G : U → Cartridge → Type 0} {B : U → Type 0} {H : W → Cartridge → Type 0} {C : W → Type 0} {x : T} {y : U} {z : W}
      → IsStep drive start m a b F A R (Ok x) → IsStep drive start n b d G B S (Ok y)
      → ((c : Cartridge) → drive.held a ≡ Some c → F x c → G y c → H z c) → (A x → B y → C z) → IsStep drive start (m + n) a d H C V (Ok z)
  both_after {m = m} {n = n} {a = a} {b = b} {d = d} first second finds holds = record {
    found = λ c h. finds c h (first.found c h) (second.found c (first.looks.held ∙ h));
    any = holds first.any second.any;
    refused = tt;
    counts = record { later = second.counts.later; told = tt };
    looks = looks_on m n a b d first.looks second.looks;
    since = second.since;
  }

  -- a refusal after a step that succeeded is one of both steps
  pub refused_after : {T U : Type 0} {m : ℕ} {a b : D} {F : T → Cartridge → Type 0} {A : T → Type 0} {R V : MountErr → Cartridge → Type 0}
      {H : U → Cartridge → Type 0} {C : U → Type 0} {x : T} {e : MountErr} → IsStep drive start m a b F A R (Ok x) → AreCounts start.faults (drive.faults b) e
      → ((c : Cartridge) → drive.held a ≡ Some c → F x c → V e c) → IsStep drive start m a b H C V (Err e)
  refused_after step told refuses = record {
    found = tt;
    any = tt;
    refused = λ c h. refuses c h (step.found c h);
    counts = record { later = step.counts.later; told = told };
    looks = step.looks;
    since = step.since;
  }

  -- what is found without a command
  pub no_step : {T : Type 0} {a : D} {F : T → Cartridge → Type 0} {A : T → Type 0} {R : MountErr → Cartridge → Type 0} {r : Result T MountErr}
      → IsSince drive start a → IfOk r (λ x. (c : Cartridge) → drive.held a ≡ Some c → F x c) → IfOk r A
      → IfErr r (λ e. (c : Cartridge) → drive.held a ≡ Some c → R e c) → IfErr r (AreCounts start.faults (drive.faults a)) → IsStep drive start 0 a a F A R r
  no_step {a = a} since found any refused told = record {
    found = found;
    any = any;
    refused = refused;
    counts = record { later = since.faults; told = told };
    looks = subst (λ (most : ℕ). Looks drive most a a) (none drive.MOST) (no_looks drive a since.commands);
    since = since;
  }
    where
      none : (k : ℕ) → 0 ≡ 0 * k
      none k = omega arith

  -- a failed drive or refused memory
  pub free_step : {T : Type 0} {m n : ℕ} {a b : D} {F : T → Cartridge → Type 0} {A : T → Type 0} {R : MountErr → Cartridge → Type 0} {e : MountErr}
      → m ≤ n → IsSince drive start a → Looks drive (m * drive.MOST) a b → drive.faults a ≤ drive.faults b → AreCounts start.faults (drive.faults b) e
      → ((c : Cartridge) → R e c) → IsStep drive start n a b F A R (Err e)
  free_step {m = m} {n = n} {a = a} {b = b} le since looks later told refuses =
      let now : start.faults ≤ drive.faults b = omega (arith, since.faults, later) in
      record {
        found = tt;
        any = tt;
        refused = λ c h. refuses c;
        counts = record { later = now; told = told };
        looks = looks_more m n a b le looks;
        since = since_next (m * drive.MOST) a b since looks now;
      }

  -- the error that a `?` gives back
  pub given_step : {T : Type 0} {most : ℕ} {a b : D} {F : T → Cartridge → Type 0} {A : T → Type 0} {R : MountErr → Cartridge → Type 0}
      {r : Result T MountErr} {e : MountErr} → IsErrAnd r (λ x. x ≡ e) → IsStep drive start most a b F A R (Err e) → IsStep drive start most a b F A R r
  given_step {most = most} {a = a} {b = b} {F = F} {A = A} {R = R} {r = r} {e = e} is step = back r is
    where
      back : (q : Result _ MountErr) → IsErrAnd q (λ x. x ≡ e) → IsStep drive start most a b F A R q
      back (Ok v) was = absurd was
      back (Err x) was = subst (λ (y : MountErr). IsStep drive start most a b F A R (Err y)) (sym was) step

  -- a greater bound
  pub more_step : {T : Type 0} {m n : ℕ} {a b : D} {F : T → Cartridge → Type 0} {A : T → Type 0} {R : MountErr → Cartridge → Type 0}
      {r : Result T MountErr} → m ≤ n → IsStep drive start m a b F A R r → IsStep drive start n a b F A R r
  more_step {m = m} {n = n} {a = a} {b = b} le step = record {
    found = step.found;
    any = step.any;
    refused = step.refused;
    counts = step.counts;
    looks = looks_more m n a b le step.looks;
    since = step.since;
  }

  -- what the step before it made sure
  pub known : {T : Type 0} {most : ℕ} {a b : D} {F : T → Cartridge → Type 0} {A : T → Type 0} {R : MountErr → Cartridge → Type 0} {x : T}
      → IsStep drive start most a b F A R (Ok x) → (P : Cartridge → Type 0) → ((c : Cartridge) → drive.held a ≡ Some c → F x c → P c)
      → IfSome (drive.held b) P
  known {b = b} step P next = told (drive.held b) (λ c h. let was = sym step.looks.held ∙ h in next c was (step.found c was))
    where
      told : (o : Option Cartridge) → ((c : Cartridge) → o ≡ Some c → P c) → IfSome o P
      told None holds = tt
      told (Some c) holds = holds c refl

  -- ---- with a bound by what a drive tells

  -- a step with a greater bound, and one by what is told
  pub by_step : {T : Type 0} {m n : ℕ} {By : Cartridge → ℕ → Type 0} {a b : D} {F : T → Cartridge → Type 0} {A : T → Type 0} {R : MountErr → Cartridge → Type 0}
      {r : Result T MountErr} → m ≤ n → IsStep drive start m a b F A R r → ((c : Cartridge) → drive.held a ≡ Some c → By c m) → IsStepBy drive start n By a b F A R r
  by_step {m = m} le step by = record { count = m; step = step; most_is = le; by = by }

  -- a step with its own bound
  pub by_at : {T : Type 0} {m : ℕ} {a b : D} {F : T → Cartridge → Type 0} {A : T → Type 0} {R : MountErr → Cartridge → Type 0}
      {r : Result T MountErr} → (By : Cartridge → ℕ → Type 0) → IsStep drive start m a b F A R r → ((c : Cartridge) → By c m) → IsStepBy drive start m By a b F A R r
  by_at {m = m} By step by = record { count = m; step = step; most_is = omega arith; by = λ c h. by c }

  -- a greater bound
  pub by_more : {T : Type 0} {m n : ℕ} {By : Cartridge → ℕ → Type 0} {a b : D} {F : T → Cartridge → Type 0} {A : T → Type 0} {R : MountErr → Cartridge → Type 0}
      {r : Result T MountErr} → m ≤ n → IsStepBy drive start m By a b F A R r → IsStepBy drive start n By a b F A R r
  by_more le step = record { count = step.count; step = step.step; most_is = omega (arith, le, step.most_is); by = step.by }

  -- a step whose result is told by its cases
  pub by_is : {T : Type 0} {m : ℕ} {By : Cartridge → ℕ → Type 0} {a b : D} {F : T → Cartridge → Type 0} {A : T → Type 0} {R : MountErr → Cartridge → Type 0}
      {x y : T} → x ≡ y → IsStepBy drive start m By a b F A R (Ok x) → IsStepBy drive start m By a b F A R (Ok y)
  by_is {m = m} {By = By} {a = a} {b = b} {F = F} {A = A} {R = R} is step = subst (λ z. IsStepBy drive start m By a b F A R (Ok z)) is step

  -- a drive that failed
  pub failed_by : {T : Type 0} {m n : ℕ} {By : Cartridge → ℕ → Type 0} {a b : D} {F : T → Cartridge → Type 0} {A : T → Type 0} {e : MountErr}
      → m ≤ n → IsSince drive start a → Looks drive (m * drive.MOST) a b → drive.faults a ≤ drive.faults b
      → Rose (drive.faults a) (drive.faults b) → e ≡ errors.Drive (record { before = start.faults; after = drive.faults b })
      → ((c : Cartridge) → drive.held a ≡ Some c → By c m) → IsStepBy drive start n By a b F A IsFree (Err e)
  failed_by {m = m} {b = b} le since looks later rose is by =
      by_step le
      (free_step (omega arith) since looks later
      (subst (AreCounts start.faults (drive.faults b)) (sym is) (refl, refl, omega (arith, since.faults, rose)))
      (λ c. subst (λ (x : MountErr). IsFree x c) (sym is) tt))
      by

  -- a step after one that was done
  pub by_then : {T U : Type 0} {m n : ℕ} {By More All : Cartridge → ℕ → Type 0} {a b d : D} {F : T → Cartridge → Type 0} {A : T → Type 0} {R S V : MountErr → Cartridge → Type 0}
      {G H : U → Cartridge → Type 0} {B C : U → Type 0} {x : T} {r : Result U MountErr}
      → IsStepBy drive start m By a b F A R (Ok x) → IsStepBy drive start n More b d G B S r
      → ((c : Cartridge) → drive.held a ≡ Some c → F x c → (y : U) → G y c → H y c) → (A x → (y : U) → B y → C y)
      → ((c : Cartridge) → drive.held a ≡ Some c → F x c → (e : MountErr) → S e c → V e c)
      → ((c : Cartridge) → drive.held a ≡ Some c → F x c → (i k : ℕ) → By c i → More c k → All c (i + k)) → IsStepBy drive start (m + n) All a d H C V r
  by_then first second finds holds refuses counts = record {
    count = first.count + second.count;
    step = then_step first.step second.step finds holds refuses;
    most_is = omega (arith, first.most_is, second.most_is);
    by = λ c h. counts c h (first.step.found c h) first.count second.count (first.by c h) (second.by c (first.step.looks.held ∙ h));
  }

  -- a step that refuses, and so all that stands on it does
  pub by_stops : {T U : Type 0} {m n : ℕ} {By All : Cartridge → ℕ → Type 0} {a b : D} {F : T → Cartridge → Type 0} {A : T → Type 0} {R V : MountErr → Cartridge → Type 0}
      {H : U → Cartridge → Type 0} {C : U → Type 0} {e : MountErr} → m ≤ n → IsStepBy drive start m By a b F A R (Err e)
      → ((c : Cartridge) → drive.held a ≡ Some c → R e c → V e c) → ((c : Cartridge) → drive.held a ≡ Some c → (i : ℕ) → By c i → All c i)
      → IsStepBy drive start n All a b H C V (Err e)
  by_stops le step refuses counts = record {
    count = step.count;
    step = stops (omega arith) step.step refuses;
    most_is = omega (arith, le, step.most_is);
    by = λ c h. counts c h step.count (step.by c h);
  }

  -- what is made of what a step has found
  pub by_found : {T U : Type 0} {m n : ℕ} {By All : Cartridge → ℕ → Type 0} {a b : D} {F : T → Cartridge → Type 0} {A : T → Type 0} {R V : MountErr → Cartridge → Type 0}
      {H : U → Cartridge → Type 0} {C : U → Type 0} {x : T} {y : U} → m ≤ n → IsStepBy drive start m By a b F A R (Ok x)
      → ((c : Cartridge) → drive.held a ≡ Some c → F x c → H y c) → (A x → C y)
      → ((c : Cartridge) → drive.held a ≡ Some c → F x c → (i : ℕ) → By c i → All c i) → IsStepBy drive start n All a b H C V (Ok y)
  by_found le step finds holds counts = record {
    count = step.count;
    step = found_after step.step finds holds;
    most_is = omega (arith, le, step.most_is);
    by = λ c h. counts c h (step.step.found c h) step.count (step.by c h);
  }

  -- memory that was refused after a step
  pub by_refused : {T U : Type 0} {m n : ℕ} {By All : Cartridge → ℕ → Type 0} {a b : D} {F : T → Cartridge → Type 0} {A : T → Type 0} {R V : MountErr → Cartridge → Type 0}
      {H : U → Cartridge → Type 0} {C : U → Type 0} {x : T} → m ≤ n → IsStepBy drive start m By a b F A R (Ok x)
      → ((c : Cartridge) → V errors.NoMemory c)
      → ((c : Cartridge) → drive.held a ≡ Some c → F x c → (i : ℕ) → By c i → All c i) → IsStepBy drive start n All a b H C V (Err errors.NoMemory)
  by_refused le step refuses counts = record {
    count = step.count;
    step = refused_after step.step tt (λ c h found. refuses c);
    most_is = omega (arith, le, step.most_is);
    by = λ c h. counts c h (step.step.found c h) step.count (step.by c h);
  }

-- what is known where a drive tells its cartridge
pub at_told : (P : Cartridge → Type 0) {o : Option Cartridge} {c : Cartridge} → o ≡ Some c → IfSome o P → P c
at_told P is holds = subst (λ (o : Option Cartridge). IfSome o P) is holds

-- what follows from what is told of a cartridge is told of it
pub told_then : {P Q : Cartridge → Type 0} (o : Option Cartridge) → IfSome o P → ((c : Cartridge) → P c → Q c) → IfSome o Q
told_then None holds next = tt
told_then (Some c) holds next = next c holds

-- what follows from two things told of a cartridge is told of it
pub both_told : {P Q R : Cartridge → Type 0} (o : Option Cartridge) → IfSome o P → IfSome o Q → ((c : Cartridge) → P c → Q c → R c) → IfSome o R
both_told None first second next = tt
both_told (Some c) first second next = next c first second
