-- Texts that are written one behind the other.
use Rattle.std.proofs.Common.{◌≡◌, ℕ, List, ◌++◌, append_assoc}

-- what three texts make that are written one behind the other
pub three : (o a b c o1 o2 o3 : List ℕ) → o1 ≡ o ++ a → o2 ≡ o1 ++ b → o3 ≡ o2 ++ c → o3 ≡ o ++ (a ++ b ++ c)
three o a b c o1 o2 o3 e1 e2 e3 = rw (e3, e2, e1) (simp (append_assoc))

-- what seven texts make that are written one behind the other
pub seven : (o a b c d e f g o1 o2 o3 o4 o5 o6 o7 : List ℕ) → o1 ≡ o ++ a → o2 ≡ o1 ++ b → o3 ≡ o2 ++ c → o4 ≡ o3 ++ d → o5 ≡ o4 ++ e → o6 ≡ o5 ++ f → o7 ≡ o6 ++ g → o7 ≡ o ++ (a ++ b ++ c ++ d ++ e ++ f ++ g)
seven o a b c d e f g o1 o2 o3 o4 o5 o6 o7 e1 e2 e3 e4 e5 e6 e7 = rw (e7, e6, e5, e4, e3, e2, e1) (simp (append_assoc))
