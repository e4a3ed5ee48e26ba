-- Reading from left to right: a value and the place behind it, or the first place that doesn't fit, and why.
use Rattle.std.specs.Prelude.{◌≡◌, ℕ, ◌+◌, ◌-◌, List, [], ◌∷◌, ◌++◌, length, Bool, true, get_or, take, drop, Result, Ok}
use Rattle.std.specs.Prelude.{Err, ◌==◌, nat_eq, nat_lt, ◌&&◌, if◌then◌else◌}
use Rattle.std.specs.List.{starts_with}
use Rattle.ltfs_documents.specs.declared.doc_fields.errors.FieldErr.{FieldErr}
use Rattle.ltfs_documents.specs.declared.doc_fields.errors.Why.{Why}
use Rattle.ltfs_documents.specs.declared.doc_fields.errors.Why.TheVariants as why

abbrev pub Read : Type 0 → Type 0
Read A = Result A FieldErr

infixl 10 ◌>>=◌
abbrev pub ◌>>=◌ : {A B : Type 0} → Read A → (A → Read B) → Read B
(Ok x) >>= f = f x
(Err e) >>= f = Err e

-- the byte at a place; behind the end stands 0, which no rule allows
abbrev pub byte : List ℕ → ℕ → ℕ
byte text at = get_or text at 0

-- the bytes from one place up to another
abbrev pub between : List ℕ → ℕ → ℕ → List ℕ
between text from to = take (to - from) (drop from text)

abbrev pub fault : {A : Type 0} → Why → ℕ → Read A
fault w at = Err (record { at = at; why = w })

abbrev pub syntax_at : {A : Type 0} → ℕ → Read A
syntax_at at = fault why.Syntax at

abbrev pub unknown_at : {A : Type 0} → ℕ → Read A
unknown_at at = fault why.Unknown at

-- one byte that must stand there
abbrev pub one_at : ℕ → List ℕ → ℕ → Read ℕ
one_at b text at = if byte text at == b then Ok (at + 1) else syntax_at at

-- bytes that must stand there
abbrev pub literal_at : List ℕ → List ℕ → ℕ → Read ℕ
literal_at [] text at = Ok at
literal_at (b ∷ bytes) text at = if byte text at == b then literal_at bytes text (at + 1) else syntax_at at

-- wherever these bytes stand, a reader gives this value and the place behind them
abbrev pub ReadsBack : {A : Type 0} → (List ℕ → ℕ → Read (A × ℕ)) → List ℕ → A → Type 0
ReadsBack read bytes x =
    (text rest : List ℕ) (at : ℕ) → drop at text ≡ bytes ++ rest → read text at ≡ Ok (x, at + length bytes)

-- no byte is 0
abbrev pub has_no_zero : List ℕ → Bool
has_no_zero [] = true
has_no_zero (b ∷ bytes) = nat_lt 0 b && has_no_zero bytes

-- whether bytes begin with others
abbrev pub begins : List ℕ → List ℕ → Bool
begins word bytes = starts_with nat_eq bytes word

-- What a call answered is what reading gives, where its result is seen by a view; or memory was refused.
abbrev pub FailsBy : {B : Type 0} → Why → FieldErr → Read B → Type 0
FailsBy why.Syntax e read = read ≡ Err e
FailsBy why.Unknown e read = read ≡ Err e
FailsBy why.Version e read = read ≡ Err e
FailsBy why.Number e read = read ≡ Err e
FailsBy why.NoMemory e read = Unit {0}

abbrev pub Gives : {A B : Type 0} → (A → B) → Result A FieldErr → Read B → Type 0
Gives view (Ok x) read = read ≡ Ok (view x)
Gives view (Err e) read = FailsBy e.why e read
