-- The text of an element: the characters up to the next `<`, with references resolved and each end of a line as a line
-- feed.
use Rattle.std.specs.Prelude.{◌≡◌, IsUtf8, true, ℕ, zero, suc, ◌+◌, ◌-◌, ◌*◌, List, [], ◌∷◌, Bool, false, length, take}
use Rattle.std.specs.Prelude.{drop, codes, not, Option, Some, None, Ok, Err, nat_le, ◌==◌, ◌&&◌, ◌||◌, if◌then◌else◌}
use Rattle.std.specs.Char.{encode_utf8}
use Rattle.std.specs.List.{list_all}
use Rattle.std.specs.Str.{chars, encode_utf8_all}
use Rattle.std.specs.Str.Lossy.{utf8_valid_len}
use Rattle.ltfs_documents.specs.DocFields.Numbers.{is_digit}
use Rattle.ltfs_documents.specs.DocFields.Values.{first_word, is_cut_word}
use Rattle.ltfs_documents.specs.DocFields.Reading.{◌>>=◌, Read, between, syntax_at, begins}
use Rattle.ltfs_documents.specs.DocFields.Space.{run_end}
use Rattle.ltfs_documents.specs.DocFields.StartTag.{in_range}

-- the characters that a document may have
abbrev pub is_allowed : ℕ → Bool
is_allowed c =
    c == 9 || c == 10 || c == 13 || in_range 32 0xD7FF c || in_range 0xE000 0xFFFD c || in_range 0x10000 0x10FFFF c

-- the characters with a name, by what stands behind the `&`
abbrev pub named : List (List ℕ × ℕ)
named = (codes "amp;", 38) ∷ (codes "lt;", 60) ∷ (codes "gt;", 62) ∷ (codes "quot;", 34) ∷ (codes "apos;", 39) ∷ []

-- the value of a digit of base 10 or 16
abbrev pub digit_of : ℕ → ℕ → Option ℕ
digit_of base b =
    if is_digit b then Some (b - 48)
    else (if base == 16 && in_range 97 102 b then Some (b - 87)
    else (if base == 16 && in_range 65 70 b then Some (b - 55) else None))

abbrev pub and_then : {A B : Type 0} → Option A → (A → Option B) → Option B
and_then None f = None
and_then (Some x) f = f x

abbrev pub and_also : {A : Type 0} → Option A → (A → Bool) → Bool
and_also None f = false
and_also (Some x) f = f x

abbrev pub finished : ℕ → ℕ → Option (ℕ × ℕ)
finished n k = if is_allowed n then Some (n, k) else None

-- the character whose number is written in digits of a base up to a `;`, behind others that show n, and how many bytes
-- that takes beside k
abbrev pub numbered : ℕ → ℕ → ℕ → List ℕ → Option (ℕ × ℕ)
numbered base n k [] = None
numbered base n k (b ∷ rest) =
    if b == 59 then finished n (k + 1)
    else and_then (digit_of base b) (λ d. numbered base (n * base + d) (k + 1) rest)

-- the text may end within such a number
abbrev pub is_cut_number : ℕ → ℕ → List ℕ → Bool
is_cut_number base n [] = nat_le n 0x10FFFF
is_cut_number base n (b ∷ rest) = and_also (digit_of base b) (λ d. is_cut_number base (n * base + d) rest)

-- the character that a reference stands for, read behind its `&`, and the bytes that it takes
unfoldable pub reference : List ℕ → Option (ℕ × ℕ)
reference rest =
    if begins (codes "#x") rest then numbered 16 0 2 (drop 2 rest)
    else (if begins (codes "#") rest then numbered 10 0 1 (drop 1 rest)
    else first_word named rest)

-- the text may end within a reference
unfoldable pub is_cut_reference : List ℕ → Bool
is_cut_reference rest =
    if begins (codes "#x") rest then is_cut_number 16 0 (drop 2 rest)
    else (if begins (codes "#") rest then is_cut_number 10 0 (drop 1 rest)
    else is_cut_word named rest)

abbrev pub put_front : ℕ → Read (List ℕ) → Read (List ℕ)
put_front c (Ok cs) = Ok (c ∷ cs)
put_front c (Err e) = Err e

-- how many characters behind a carriage return end the same line
abbrev pub line_feeds : List ℕ → ℕ
line_feeds rest = if begins (10 ∷ []) rest then 1 else 0

-- a reference at a place, by what stands behind its `&`; `cut` says that the document ends there
abbrev pub referred : Bool → ℕ → List ℕ → Option (ℕ × ℕ) → Read (ℕ × ℕ)
referred cut at rest (Some r) = Ok r
referred cut at rest None = if cut && is_cut_reference rest then syntax_at (at + 1 + length rest) else syntax_at at

-- the character that one at a place stands for, with the bytes behind it, and how many characters more that takes
abbrev pub unit_at : Bool → ℕ → ℕ → List ℕ → Read (ℕ × ℕ)
unit_at cut at c rest =
    if c == 38 then referred cut at rest (reference rest)
    else (if c == 13 then Ok (10, line_feeds rest)
    else (if is_allowed c then Ok (c, 0) else syntax_at at))

abbrev pub with_unit : Read (ℕ × ℕ) → (ℕ → Read (List ℕ)) → Read (List ℕ)
with_unit (Ok u) more = put_front u.0 (more u.1)
with_unit (Err e) more = Err e

-- what the characters from a place on stand for, after some that are passed over
abbrev pub resolved : Bool → ℕ → ℕ → List ℕ → Read (List ℕ)
resolved cut skip at [] = Ok []
resolved cut (suc skip) at (c ∷ rest) = resolved cut skip (at + length (encode_utf8 c)) rest
resolved cut zero at (c ∷ rest) =
    with_unit (unit_at cut at c (encode_utf8_all rest)) (λ skip. resolved cut skip (at + length (encode_utf8 c)) rest)

-- the same of a text in UTF-8
unfoldable pub resolved_text : Bool → ℕ → List ℕ → Read (List ℕ)
resolved_text cut at text = resolved cut 0 at (chars text) >>= λ cs. Ok (encode_utf8_all cs)

-- a byte that stands for itself, whatever stands beside it
abbrev pub is_simple : ℕ → Bool
is_simple b = b == 9 || b == 10 || nat_le 32 b && not (b == 38) && not (b == 239)

-- where the text of an element ends that begins at a place
unfoldable pub text_end : List ℕ → ℕ → ℕ
text_end text at = run_end (λ b. not (b == 60)) at (drop at text)

-- what a run of bytes from a place on stands for; the first byte that isn't UTF-8 may not stand there
unfoldable pub run_text : Bool → ℕ → List ℕ → Read (List ℕ)
run_text ended at run =
    let whole = utf8_valid_len run in
    if whole == length run then resolved_text ended at run
    else (resolved_text false at (take whole run) >>= λ _. syntax_at (at + whole))

-- the text of an element, and where it ends
unfoldable pub text_at : List ℕ → ℕ → Read (List ℕ × ℕ)
text_at text at =
    let end = text_end text at in
    run_text (end == length text) at (between text at end) >>= λ v. Ok (v, end)

-- a text whose characters a document may have
abbrev pub IsWritable : List ℕ → Type 0
IsWritable text = IsUtf8 text × (list_all is_allowed (chars text) ≡ true)
