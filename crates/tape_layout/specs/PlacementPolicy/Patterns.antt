-- Which texts a pattern stands for (LTFS 2.4 on the data placement policy).
use Rattle.std.specs.Prelude.{◌≡◌, ◌≢◌, ◌⊎◌, ◌++◌, ℕ, List, [], ◌∷◌, length}
use Rattle.std.specs.Str.{chars}

-- a text has a front of one kind, and what is behind it is of another
pub record IsSplit (Front Behind : List ℕ → Type 0) (text : List ℕ) : Type 0 where
  pub front : List ℕ
  pub behind : List ℕ
  pub whole : text ≡ front ++ behind
  pub first : Front front
  pub rest : Behind behind

-- `*` stands for any run of characters, `?` for any one, and each other character for itself
abbrev pub IsRunOf : ℕ → List ℕ → Type 0
IsRunOf p run = (p ≡ 42) ⊎ (((p ≡ 63) × (length run ≡ 1)) ⊎ ((p ≢ 42) × (p ≢ 63) × (run ≡ p ∷ [])))

-- a pattern stands for the texts that are runs of its characters, one after the other
abbrev pub StandsFor : List ℕ → List ℕ → Type 0
StandsFor [] text = text ≡ []
StandsFor (p ∷ ps) text = IsSplit (IsRunOf p) (StandsFor ps) text

-- the same of texts in UTF-8
abbrev pub Matches : List ℕ → List ℕ → Type 0
Matches pattern name = StandsFor (chars pattern) (chars name)
