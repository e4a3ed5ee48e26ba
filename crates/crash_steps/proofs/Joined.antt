-- What a crash may leave after a command and another one behind it.
use Rattle.std.proofs.Common.{ℕ, ◌≤◌, ⊎_elim, inl, inr, sym, subst, arith}
use Rattle.crash_steps.specs.Crashes.{Crashes, NothingNew}

-- Two commands, and a step that allows the first one alone and both one after the other.
pub joined : {X : Type 0} {one two both : X → X → Type 0} {m n : ℕ} {leaves_a leaves_b leaves_c : X → Type 0}
    {since_a since_b since_c : ℕ → X → Type 0}
    → ((x y : X) → one x y → both x y) → ((x y z : X) → one x y → two y z → both x z) → m ≤ n
    → Crashes one m leaves_a leaves_b since_a since_b → Crashes two n leaves_b leaves_c since_b since_c
    → Crashes both m leaves_a leaves_c since_a since_c
joined {X = X} {one = one} {two = two} {both = both} {leaves_a = leaves_a} {leaves_b = leaves_b} {since_a = since_a}
    {since_b = since_b} alone after le first second =
    let from : (y z : X) → leaves_b y → two y z → (x : X) × leaves_a x × both x z =
    λ y z left step. let was = first.now y left in (was.0, was.1, after was.0 y z was.2 step) in
    record {
      now = λ image left. let was = second.now image left in from was.0 image was.1 was.2;
      since = λ t image reached left. ⊎_elim
          (λ (past : since_b t image). ⊎_elim
          (λ (older : since_a t image). inl older)
          (λ (was : (x : X) × leaves_a x × one x image). inr (was.0, was.1, alone was.0 image was.2))
          (first.since t image reached past))
          (λ (was : (y : X) × leaves_b y × two y image). inr (from was.0 image was.1 was.2))
          (second.since t image (omega (arith, le, reached)) left);
      kept = λ t image reached left. second.kept t image (omega (arith, le, reached)) (first.kept t image reached left);
    }

-- a command of which a wider step is said
pub widened : {X : Type 0} {step wider : X → X → Type 0} {m : ℕ} {leaves_a leaves_b : X → Type 0}
    {since_a since_b : ℕ → X → Type 0}
    → ((x y : X) → step x y → wider x y) → Crashes step m leaves_a leaves_b since_a since_b
    → Crashes wider m leaves_a leaves_b since_a since_b
widened {X = X} {step = step} {leaves_a = leaves_a} {since_a = since_a} wide first =
    record {
      now = λ image left. let was = first.now image left in (was.0, was.1, wide was.0 image was.2);
      since = λ t image reached left. ⊎_elim
          (λ (past : since_a t image). inl past)
          (λ (was : (x : X) × leaves_a x × step x image). inr (was.0, was.1, wide was.0 image was.2))
          (first.since t image reached left);
      kept = first.kept;
    }

-- a command that leaves nothing new is one within which all may be as it was
pub alone : {X : Type 0} {step : X → X → Type 0} {m : ℕ} {leaves_a leaves_b : X → Type 0}
    {since_a since_b : ℕ → X → Type 0}
    → ((image : X) → step image image) → Crashes NothingNew m leaves_a leaves_b since_a since_b
    → Crashes step m leaves_a leaves_b since_a since_b
alone {X = X} {step = step} same first = widened (λ x y e. subst (λ (z : X). step x z) (sym e) (same x)) first

-- a command that leaves nothing new, and then another one that may leave all as it was
pub behind_looks : {X : Type 0} {step : X → X → Type 0} {m n : ℕ} {leaves_a leaves_b leaves_c : X → Type 0}
    {since_a since_b since_c : ℕ → X → Type 0}
    → ((image : X) → step image image) → m ≤ n → Crashes NothingNew m leaves_a leaves_b since_a since_b
    → Crashes step n leaves_b leaves_c since_b since_c → Crashes step m leaves_a leaves_c since_a since_c
behind_looks {X = X} {step = step} same le first second =
    joined (λ x y e. subst (λ (z : X). step x z) (sym e) (same x)) (λ x y z e s. subst (λ (w : X). step w z) e s) le first second
