-- The first node that has an extent past the ends.
use Rattle.std.proofs.Common.{◌≡◌, List, [], ◌∷◌, ◌++◌, subst}
use Rattle.std.specs.List.{AllByRecursion}

-- the first that doesn't pass is one
pub first_once : {X : Type 0} (P : X → Type 0) (before other : List X) (x y : X) (behind more : List X) → before ++ x ∷ behind ≡ other ++ y ∷ more
    → AllByRecursion P before → ¬ P x → AllByRecursion P other → ¬ P y → x ≡ y
first_once P [] [] x y behind more e all not_x all2 not_y = cc
first_once P [] (z ∷ other) x y behind more e all not_x all2 not_y = let same : z ≡ x = cc in absurd (not_x (subst P same all2.0))
first_once P (z ∷ before) [] x y behind more e all not_x all2 not_y = let same : z ≡ y = cc in absurd (not_y (subst P same all.0))
first_once P (z ∷ before) (w ∷ other) x y behind more e all not_x all2 not_y =
    let rest : before ++ x ∷ behind ≡ other ++ y ∷ more = cc in
    first_once P before other x y behind more rest all.1 not_x all2.1 not_y

-- each of all passes
pub all_middle : {X : Type 0} (P : X → Type 0) (before : List X) (x : X) (behind : List X) → AllByRecursion P (before ++ x ∷ behind) → P x
all_middle P [] x behind all = all.0
all_middle P (z ∷ before) x behind all = all_middle P before x behind all.1
