-- Which files a policy puts on the index partition, as a test.
use Rattle.std.specs.Prelude.{ℕ, ◌==◌, ◌&&◌, ◌||◌, nat_le, cond, Bool, false, List, [], ◌∷◌, length, Option, Some, None}
use Rattle.std.specs.List.{list_any}
use Rattle.std.specs.Str.{chars}
use Rattle.index_model.specs.declared.indexes.Policy.{Policy}

-- a list, and all that is left of it without its first elements
abbrev pub suffixes : List ℕ → List (List ℕ)
suffixes [] = [] ∷ []
suffixes (x ∷ xs) = (x ∷ xs) ∷ suffixes xs

-- there is a character, it passes, and what follows it does
abbrev pub one_then : (ℕ → Bool) → (List ℕ → Bool) → List ℕ → Bool
one_then passes rest [] = false
one_then passes rest (c ∷ cs) = passes c && rest cs

abbrev pub stands_for : List ℕ → List ℕ → Bool
stands_for [] text = length text == 0
stands_for (p ∷ ps) text =
    cond (p == 42) (list_any (stands_for ps) (suffixes text)) (one_then (λ c. p == 63 || p == c) (stands_for ps) text)

abbrev pub matches : List ℕ → List ℕ → Bool
matches pattern name = stands_for (chars pattern) (chars name)

abbrev pub chooses_ip : Option Policy → List ℕ → ℕ → Bool
chooses_ip None name size = false
chooses_ip (Some policy) name size =
    nat_le size policy.size && (length policy.names == 0 || list_any (λ pattern. matches pattern name) policy.names)
